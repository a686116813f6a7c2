use Rattle.std.proofs.Common.{◌≤◌, All, sym, subst, ◌∙◌}
use Rattle.hp_sets.specs.Sets.{Set, IsSetWithin}
use Rattle.hp_circuits.proofs.SetFronts.{with-front, front-above}
use Rattle.hp_circuits.proofs.nbc_search.with_front.Goals as goal

pub returns-clause-value : goal.returns-clause-value
returns-clause-value c =
    c.with.ensures.value
    ∙ with-front c.args.set c.args.i c.len-set.ensures.set c.requires.low c.requires.high c.requires.above (subst (IsSetWithin 64) c.with.ensures.value c.with.ensures.set)

pub returns-clause-above : goal.returns-clause-above
returns-clause-above c =
    let e = with-front c.args.set c.args.i c.len-set.ensures.set c.requires.low c.requires.high c.requires.above (subst (IsSetWithin 64) c.with.ensures.value c.with.ensures.set) in
    let P : Set → Type 0 = λ s. All (λ j. c.args.i ≤ j) s in
    subst P (sym (c.with.ensures.value ∙ e)) (front-above c.args.set c.args.i c.len-set.ensures.set c.requires.low c.requires.high c.requires.above)
