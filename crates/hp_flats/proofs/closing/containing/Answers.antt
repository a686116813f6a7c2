use Rattle.std.proofs.Common.{◌≡◌, ◌-◌, ◌≤◌, if◌then◌else◌, length, sym, subst, ◌∙◌, arith}
use Rattle.hp_lists.specs.Lists.{list_all}
use Rattle.hp_algebra.specs.Ring.{dot_of}
use Rattle.hp_arr.specs.Arrangement.{form}
use Rattle.hp_sets.specs.Sets.{IsSetWithin, with_member}
use Rattle.hp_sets.proofs.SetLaws.{filter-set}
use Rattle.hp_sets.proofs.Collecting.{next_found}
use Rattle.hp_flats.proofs.closing.containing.Goals as goal

pub loop-j-preserved : goal.loop-j-preserved
loop-j-preserved g c =
    let high : c.loop-j.j ≤ 64 = omega (arith, c.loop-j-test.true, c.len-j-end.ensures.value, c.len-j-end.ensures.lawful.few_forms) in
    c.with_if-found.ensures
    ∙ (λ i. if c.contains_all.ensures i then with_member (c.loop-j.invariant i) c.loop-j.j else c.loop-j.invariant i)
    ∙ next_found (λ j. list_all (λ x. g.K.Ring.ring.is_zero (dot_of g.K.Ring.ring (form c.args.aff.now j) x.items)) c.args.points.now) c.loop-j.j c.loop-j.auto.j high

pub returns-clause-set : goal.returns-clause-set
returns-clause-set g c =
    let e : c.loop-j.j - 1 ≡ length c.args.aff.now.forms = omega (arith, c.loop-j-test.false, c.loop-j.auto.j-end, c.loop-j.auto.j, c.len-j-end.ensures.value) in
    subst (λ m. IsSetWithin m c.loop-j.found) e
    (subst (IsSetWithin (c.loop-j.j - 1)) (sym c.loop-j.invariant) (filter-set (λ j. list_all (λ x. g.K.Ring.ring.is_zero (dot_of g.K.Ring.ring (form c.args.aff.now j) x.items)) c.args.points.now) (c.loop-j.j - 1)))
