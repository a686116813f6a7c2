use Rattle.std.proofs.Common.{◌+◌, ◌<◌, length}
use Rattle.std.proofs.lemmas.Result.{IfOk-weaker}
use Rattle.hp_groebner.specs.PairQueues.{bucket}
use Rattle.hp_groebner.specs.Runs.{AreReducedAt, IsReplaced, IsRun, held, job}
use Rattle.hp_groebner.proofs.ReducedTails.{new-member}
use Rattle.hp_groebner.proofs.ReplacedMembers.{replaced-run, replaced-tails}
use Rattle.hp_groebner.proofs.tails.reduce_tail.Goals as goal

pub returns-clause-run : goal.returns-clause-run
returns-clause-run g c =
    let J = job g.F.Ring.ring g.F.Field.inverse c.args.setting.now c.args.gens.now in
    let s = c.args.state.now in
    let s' = c.replace.new.self in
    let r = c.requires.run in
    let l = c.requires.within in
    let x = new-member s r.0.done c.args.place l c.in_ok-member.ensures in
    IfOk-weaker c.replace.result (λ _. IsReplaced J s c.args.place c.in_ok-member.member s')
    (λ _. IsRun J s' c.args.d (length J.gens) (length (bucket s'.queue c.args.d)) (c.args.d + 1))
    (λ _ y. replaced-run r c.args.place l x s' y) c.replace.ensures

pub returns-clause-tails : goal.returns-clause-tails
returns-clause-tails g c =
    let J = job g.F.Ring.ring g.F.Field.inverse c.args.setting.now c.args.gens.now in
    let s = c.args.state.now in
    let s' = c.replace.new.self in
    let r = c.requires.run in
    let l = c.requires.within in
    let x = new-member s r.0.done c.args.place l c.in_ok-member.ensures in
    IfOk-weaker c.replace.result (λ _. IsReplaced J s c.args.place c.in_ok-member.member s')
    (λ _. AreReducedAt (held s) (λ i. i < c.args.place) → AreReducedAt (held s') (λ i. i < c.args.place + 1))
    (λ _ y. replaced-tails r c.args.place l x s' y) c.replace.ensures
