-- The elimination order is a term order.
use Rattle.std.specs.Prelude.{◌≡◌, ℕ}
use Rattle.std.specs.declared.cmp.Ordering.{Ordering}
use Rattle.std.specs.declared.cmp.Ordering.TheVariants.{Less, Equal, Greater}
use Rattle.std.specs.Ordering.{nat_cmp, ordering_then}
use Rattle.std.specs.Cmp.{IsTotalOrder, nat_cmp_total, on_total, back_total, then_total, tied_itself}
use mathlib.Core.Path.{sym, ap, ◌∙◌}
use Rattle.hp_mono.specs.declared.term.Term.{Term}
use Rattle.hp_mono.specs.TermOrders.{IsTermOrder, term_grevlex}
use Rattle.hp_mono.proofs.GrevlexLaws.{grevlex_product, term_grevlex_total, term_grevlex-is_order}
use Rattle.hp_module.specs.ElimOrders.{block, elimination_order}

then_same : (r s : Ordering) → ordering_then r s ≡ Equal → s ≡ Equal
then_same Less s e = absurd (cc)
then_same Equal s e = e
then_same Greater s e = absurd (cc)

module _ (split : ℕ) where
  elimination-total : IsTotalOrder (elimination_order split)
  elimination-total = then_total (back_total (on_total (λ (t : Term). block split t.comp) nat_cmp_total)) term_grevlex_total

  -- terms of one component compare as their monomials
  within_block : (s t : Term) → s.comp ≡ t.comp → elimination_order split s t ≡ term_grevlex s t
  within_block s t e =
      ap (λ c. ordering_then (nat_cmp (block split t.comp) (block split c)) (term_grevlex s t)) e
      ∙ ap (λ r. ordering_then r (term_grevlex s t)) (tied_itself nat_cmp_total (block split t.comp))

  -- The elimination order is a term order, for each split and width.
  pub elimination-is_order : (width : ℕ) → IsTermOrder width (elimination_order split)
  elimination-is_order width =
      let grevlex_order = term_grevlex-is_order width in record {
        same = λ s t hs ht e. grevlex_order.same s t hs ht (then_same _ _ e);
        itself = λ t h. tied_itself elimination-total t;
        opposite = λ s t hs ht. elimination-total.antisymm s t;
        transitive = λ r s t hr hs ht e f. elimination-total.trans r s t e f;
        keeps_products = λ m s t hm hs ht e.
            (λ i. ordering_then (nat_cmp (block split t.comp) (block split s.comp))
            (ordering_then (grevlex_product m s.mono t.mono hm hs.0 ht.0 i) (nat_cmp t.comp s.comp))) ∙ e;
        not_below_divisor = λ s t hs ht d e.
            grevlex_order.not_below_divisor s t hs ht d
            (sym (within_block s t (sym (ap (λ u. u.comp) d.2))) ∙ e);
      }
