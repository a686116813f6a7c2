use Rattle.std.proofs.Common.{◌≡◌, arith, length, subst, sym}
use Rattle.hp_groebner.specs.Runs.{IsAnswer, job}
use Rattle.hp_groebner.proofs.FinishedBases.{is-answer, is-basis}
use Rattle.hp_groebner.proofs.TailSteps.{all-members, leads-different, listed-leads, more-members}
use Rattle.hp_groebner.proofs.tails.finish.Goals as goal

pub listed_places-requires : goal.listed_places-requires
listed_places-requires g c = record { different = leads-different c.requires.run c.queue.ensures c.leads.ensures }

pub loop-i-preserved : goal.loop-i-preserved
loop-i-preserved g c =
    let n : length c.in_ok-places.places.items ≡ c.len-i-end.result =
    omega (arith, c.len-i-end.ensures, c.in_ok-places.places.ok.0) in
    more-members c.loop-i.invariant c.requires.run
    (listed-leads c.requires.run c.queue.ensures c.leads.ensures c.in_ok-places.ensures)
    (omega (arith, n, c.loop-i-test.true)) c.index.ensures c.members.ensures c.index-members-index.is c.in_ok-member.ensures
    c.in_ok-push.ensures.items

pub new-requires : goal.new-requires
new-requires g c =
    let n : length c.in_ok-places.places.items ≡ c.len-i-end.result =
    omega (arith, c.len-i-end.ensures, c.in_ok-places.places.ok.0) in
    is-basis c.requires.run (listed-leads c.requires.run c.queue.ensures c.leads.ensures c.in_ok-places.ensures)
    (all-members c.loop-i.invariant (omega (arith, n, c.loop-i-test.false)) (omega (arith, n, c.loop-i.auto.i-end)))

pub returns : goal.returns
returns g c =
    let J = job g.F.Ring.ring g.F.Field.inverse c.args.setting.now c.args.gens.now in
    let n : length c.in_ok-places.places.items ≡ c.len-i-end.result =
    omega (arith, c.len-i-end.ensures, c.in_ok-places.places.ok.0) in
    subst (IsAnswer J) (sym c.new.ensures)
    (is-answer c.requires.run (listed-leads c.requires.run c.queue.ensures c.leads.ensures c.in_ok-places.ensures)
    (all-members c.loop-i.invariant (omega (arith, n, c.loop-i-test.false)) (omega (arith, n, c.loop-i.auto.i-end))))
