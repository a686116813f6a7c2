use Rattle.std.proofs.Common.{◌≡◌, ◌<◌, ℕ, List, length, ap, ◌∙◌, subst}
use Rattle.std.specs.Prelude.{Option, IfSome}
use Rattle.std.proofs.lemmas.List.{get_or_default}
use Rattle.hp_algebra.specs.Rows.{entry, row_scale}
use Rattle.hp_linear.proofs.echelon.pivot_of.Goals as goal

pub returns-clause-some : goal.returns-clause-some
returns-clause-some g c =
    let ring = g.F.Ring.ring in
    let inverse = g.F.Field.inverse in
    let row = c.args.row.items in
    let column = c.in_ok-column.column in
    let x = c.index.result.now in
    let lent = c.deref.ensures.value in
    let leads = c.in_ok-column.ensures in
    let inside : column < length row = subst (λ (r : List g.row.F.Denot). column < length r) lent leads.within in
    let read : x ≡ entry ring row column = c.index.ensures ∙ get_or_default row column x ring.zero inside in
    let factor : c.unwrap-factor.result ≡ inverse x = subst (λ (o : Option g.row.F.Denot). IfSome o (λ r. r ≡ inverse x)) c.unwrap-factor.ensures c.inv.ensures.some in
    rw c.new.ensures (record {
      inside = inside;
      nonzero = subst (λ (r : List g.row.F.Denot). entry ring r column ≡ ring.zero → ⊥) lent leads.nonzero;
      first = subst (λ (r : List g.row.F.Denot). (k : ℕ) → k < column → entry ring r k ≡ ring.zero) lent leads.first;
      entries = c.scaled.ensures ∙ ap (λ f. row_scale ring f row) (factor ∙ ap inverse read);
    })
