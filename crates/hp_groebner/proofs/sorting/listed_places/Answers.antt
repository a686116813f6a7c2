use Rattle.std.proofs.Common.{◌≡◌, length, sym, ◌∙◌, ap, map, subst, rules, arith}
use Rattle.std.proofs.lemmas.Fn.{always_returns_same}
use Rattle.std.proofs.lemmas.Result.{IfOk-weaker}
use Rattle.hp_groebner.specs.BasisEnds.{AreListed}
use Rattle.hp_groebner.proofs.ListedPlaces.{AreKeyed, is_before, is_before-order, places-listed}
use Rattle.hp_groebner.proofs.sorting.listed_places.Goals as goal

pub returns : goal.returns
returns c =
    let split = c.args.order.now.split in
    let leads = c.args.leads.now in
    let s = c.sort_unstable_by in
    let p : c.loop-p.p ≡ length leads = omega (arith, c.loop-p-test.false, c.loop-p.auto.p-end) in
    let keyed = subst (λ n. AreKeyed leads n c.loop-p.keyed.items) p c.loop-p.invariant in
    let sorted = s.ensures.sorted (is_before split) (is_before-order split)
    (always_returns_same _ _ _ (λ a r f k. search rules)) in
    let listed = places-listed split leads c.loop-p.keyed.items s.new.self.items keyed s.ensures.permutation sorted
    c.requires.different in
    IfOk-weaker c.places_of.result (λ r. r.items ≡ map (λ x. x.1) c.deref.result.now)
    (λ r. AreListed split leads r.items)
    (λ r e. subst (AreListed split leads) (sym (e ∙ ap (map (λ x. x.1)) c.deref.ensures.value)) listed)
    c.places_of.ensures
