use Rattle.std.proofs.Common.{◌≡◌, ◌+◌, ◌<◌, ℕ, List, length, map, Contains, get_or, sym, ap, ◌∙◌, subst, arith}
use Rattle.std.proofs.lemmas.List.Elements.{Contains-get_or}
use Rattle.hp_linear.specs.Echelon.{PivotRow, IsReduced, rows_of}
use Rattle.hp_linear.specs.GrowingForms.{GrowingForm}
use Rattle.hp_linear.specs.Matrices.{IsEchelonForm}
use Rattle.hp_linear.proofs.GrowingForms.{form-echelon, full-pivots}
use Rattle.hp_linear.proofs.growing.GrowingForm.pivots.Goals as goal

pub numbers_of-requires : goal.numbers_of-requires
numbers_of-requires g c =
    let is : IsReduced g.F.Ring.ring c.args.self.now.cols c.args.self.now.kept =
    subst (λ (f : GrowingForm g.row.F.Denot). IsReduced g.F.Ring.ring f.cols f.kept) c.self.view_is c.self.invariant in
    let kept = c.args.self.now.kept in
    let same : c.deref.result.now ≡ kept = c.deref.ensures.value ∙ ap (λ (f : GrowingForm g.row.F.Denot). f.kept) c.self.view_is in
    subst (λ (ks : List (PivotRow g.row.F.Denot)). (k : ℕ) → (d : PivotRow g.row.F.Denot) → k < length ks → (get_or ks k d).column + 1 < 18446744073709551616) (sym same)
    (λ k d h. (let one = is.each _ (Contains-get_or kept k d h) in let small : c.cols-cols.result < 18446744073709551616 = c.cols-cols.type_inv in omega (arith, c.cols-cols.ensures, one.inside, small)))

pub returns-clause-form : goal.returns-clause-form
returns-clause-form g c rows of =
    let ring = g.F.Ring.ring in
    let f = c.args.self.now in
    let is : IsReduced ring f.cols f.kept =
    subst (λ (h : GrowingForm g.row.F.Denot). IsReduced ring h.cols h.kept) c.self.view_is c.self.invariant in
    let same : c.deref.result.now ≡ f.kept = c.deref.ensures.value ∙ ap (λ (h : GrowingForm g.row.F.Denot). h.kept) c.self.view_is in
    let numbers : c.in_ok-pivots.pivots.items ≡ map (λ p. p.column + 1) f.kept = c.in_ok-pivots.ensures ∙ ap (map (λ (p : PivotRow g.row.F.Denot). p.column + 1)) same in
    subst (IsEchelonForm ring (record { cols = f.cols; rows = rows }) (record { cols = f.cols; rows = rows_of ring f.kept })) (sym numbers)
    (form-echelon g.met.F.Ring.ring_laws is of)

pub returns-clause-full : goal.returns-clause-full
returns-clause-full g c full k low high =
    let f = c.args.self.now in
    let same : c.deref.result.now ≡ f.kept = c.deref.ensures.value ∙ ap (λ (h : GrowingForm g.row.F.Denot). h.kept) c.self.view_is in
    let numbers : c.in_ok-pivots.pivots.items ≡ map (λ p. p.column + 1) f.kept = c.in_ok-pivots.ensures ∙ ap (map (λ (p : PivotRow g.row.F.Denot). p.column + 1)) same in
    subst (λ xs. Contains xs k) (sym numbers) (full-pivots full k low high)
