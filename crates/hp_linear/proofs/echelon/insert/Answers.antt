use Rattle.std.proofs.Common.{◌≡◌, ◌<◌, ◌≤◌, List, map, length, get_or, refl, sym, ap, ◌∙◌, subst}
use Rattle.std.specs.List.{insert}
use Rattle.std.proofs.lemmas.List.{length-map}
use Rattle.std.proofs.lemmas.List.Elements.{Contains-get_or}
use Rattle.hp_algebra.specs.Rows.{zero_row}
use Rattle.hp_linear.specs.Echelon.{PivotRow, IsReduced, IsReductionOf, cleared}
use Rattle.hp_linear.proofs.Reduction.{DiffersBySpan, reduced-insert, span-inserted, span-nothing, monic-lent}
use Rattle.hp_linear.proofs.echelon.insert.Goals as goal

pub returns-in_default-clause-span : goal.returns-in_default-clause-span
returns-in_default-clause-span g c =
    let ring = g.F.Ring.ring in
    let laws = g.met.F.Ring.ring_laws in
    let old = c.args.row.items in
    let width = length old in
    let of : IsReductionOf ring width c.args.kept.items old c.reduced-row.result.items = subst (λ ks. IsReductionOf ring width ks old c.reduced-row.result.items) c.deref.ensures.value c.reduced-row.ensures in
    let nothing : c.reduced-row.result.items ≡ _ = c.in_default.ensures.none.0 refl ∙ ap (λ n. zero_row ring n) of.is_row.0 in
    span-nothing laws width c.args.kept.items old c.requires.reduced (refl, c.requires.values) (subst (DiffersBySpan laws width c.args.kept.items old) nothing of.same)

pub cleared-kept-requires-clause-widths : goal.cleared-kept-requires-clause-widths
cleared-kept-requires-clause-widths g c =
    let kept = c.args.kept.items in
    let new = monic-lent g.met.F.Field.field_laws kept c.deref.result.now c.args.row.items c.reduced-row.result.items c.in-Some.pivot c.deref.ensures.value c.requires.reduced c.reduced-row.ensures c.in-Some.ensures.some in
    λ k d h. (c.requires.reduced.each _ (Contains-get_or kept k d h)).row.0 ∙ sym new.0.pivot.row.0

pub cleared-kept-requires-clause-values : goal.cleared-kept-requires-clause-values
cleared-kept-requires-clause-values g c = λ k d h. (c.requires.reduced.each _ (Contains-get_or c.args.kept.items k d h)).row.1

pub cleared-kept-requires-clause-pivot : goal.cleared-kept-requires-clause-pivot
cleared-kept-requires-clause-pivot g c =
    let new = monic-lent g.met.F.Field.field_laws c.args.kept.items c.deref.result.now c.args.row.items c.reduced-row.result.items c.in-Some.pivot c.deref.ensures.value c.requires.reduced c.reduced-row.ensures c.in-Some.ensures.some in
    new.0.pivot.row.1

pub returns-clause-reduced : goal.returns-clause-reduced
returns-clause-reduced g c =
    let ring = g.F.Ring.ring in
    let field = g.met.F.Field.field_laws in
    let width = length c.args.row.items in
    let kept = c.args.kept.items in
    let pivot : PivotRow g.row.F.Denot = c.in-Some.pivot in
    let new = monic-lent field kept c.deref.result.now c.args.row.items c.reduced-row.result.items pivot c.deref.ensures.value c.requires.reduced c.reduced-row.ensures c.in-Some.ensures.some in
    let at = c.place-at.result in
    let shown : c.deref-2.result.now ≡ map (cleared ring pivot) kept = c.deref-2.ensures.value ∙ c.cleared-kept.ensures in
    let many : length c.deref-2.result.now ≡ length kept = ap (λ (xs : List (PivotRow g.row.F.Denot)). length xs) shown ∙ length-map kept (cleared ring pivot) in
    let whole : c.insert.new.self.items ≡ insert (map (cleared ring pivot) kept) at pivot = c.in_ok-insert.ensures.items ∙ ap (λ (xs : List (PivotRow g.row.F.Denot)). insert xs at pivot) c.cleared-kept.ensures in
    subst (IsReduced ring width) (sym whole)
    (reduced-insert field.is_ring width kept pivot at field.one_zero c.requires.reduced new.0 (subst (λ n. at ≤ n) many c.place-at.ensures.within)
    (λ k p l. subst (λ (xs : List (PivotRow g.row.F.Denot)). (get_or xs k p).column < pivot.column) shown (subst (λ n. (get_or c.deref-2.result.now k p).column < n) c.column.ensures (c.place-at.ensures.before k p l)))
    (λ p l. subst (λ (xs : List (PivotRow g.row.F.Denot)). pivot.column ≤ (get_or xs at p).column) shown (subst (λ n. n ≤ (get_or c.deref-2.result.now at p).column) c.column.ensures (c.place-at.ensures.after p (subst (λ n. at < n) (sym many) l)))))

pub returns-clause-span : goal.returns-clause-span
returns-clause-span g c =
    let ring = g.F.Ring.ring in
    let old = c.args.row.items in
    let kept = c.args.kept.items in
    let pivot : PivotRow g.row.F.Denot = c.in-Some.pivot in
    let new = monic-lent g.met.F.Field.field_laws kept c.deref.result.now old c.reduced-row.result.items pivot c.deref.ensures.value c.requires.reduced c.reduced-row.ensures c.in-Some.ensures.some in
    span-inserted g.met.F.Field.field_laws.is_ring (length old) kept old c.reduced-row.result.items pivot c.place-at.result c.requires.reduced (refl, c.requires.values) new.0 new.1 c.insert.new.self.items
    (c.in_ok-insert.ensures.items ∙ ap (λ (xs : List (PivotRow g.row.F.Denot)). insert xs c.place-at.result pivot) c.cleared-kept.ensures)
    (returns-clause-reduced g c)
