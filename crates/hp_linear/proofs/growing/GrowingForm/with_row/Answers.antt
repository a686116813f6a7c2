use Rattle.std.proofs.Common.{◌≡◌, List, ◌∷◌, All, refl, sym, ap, ◌∙◌, subst}
use Rattle.hp_algebra.specs.Rows.{IsRow}
use Rattle.hp_linear.specs.Spaces.{HaveSameSpan}
use Rattle.hp_linear.specs.Echelon.{IsReduced, rows_of}
use Rattle.hp_linear.specs.GrowingForms.{GrowingForm, IsFormOf}
use Rattle.hp_linear.proofs.GrowingForms.{form-more}
use Rattle.hp_linear.proofs.growing.GrowingForm.with_row.Goals as goal

pub returns-clause-more : goal.returns-clause-more
returns-clause-more g c rows of =
    let ring = g.F.Ring.ring in
    let f : GrowingForm g.row.F.Denot = record { cols = c.self.inside.cols; kept = c.self.inside.kept.items } in
    let more = c.in_ok-kept.kept.items in
    let row = c.args.row.items in
    let long = c.requires ∙ sym (ap (λ (h : GrowingForm g.row.F.Denot). h.cols) c.self.view_is) in
    form-more g.met.F.Ring.ring_laws c.self.invariant (subst (λ n. IsReduced ring n more) long c.in_ok-kept.ensures.reduced)
    (long, subst (λ xs. All ring.IsValue xs) c.deref.ensures.value c.look_at.ensures)
    (subst (λ n. HaveSameSpan ring n (row ∷ rows_of ring f.kept) (rows_of ring more)) long c.in_ok-kept.ensures.span)
    (subst (λ h. IsFormOf ring h rows) (sym c.self.view_is) of)
