-- The order of the monomials of a component is total, and products keep it.
use Rattle.std.specs.Prelude.{◌≡◌, ◌≢◌, ℕ, ◌≤◌, ◌==◌, Bool, true, false, length}
use Rattle.std.specs.declared.cmp.Ordering.{Ordering}
use Rattle.std.specs.declared.cmp.Ordering.TheVariants.{Less, Equal, Greater}
use Rattle.std.specs.Ordering.{ordering_reverse}
use Rattle.std.specs.Cmp.{IsTotalOrder}
use Rattle.std.proofs.lemmas.Bool.{eqb-true, eq-eqb}
use mathlib.Core.Path.{refl, sym, ap, ◌∙◌}
use Rattle.hp_mono.specs.declared.term.Term.{Term}
use Rattle.hp_mono.specs.Monomials.{Monomial, IsMonomial, product, vars}
use Rattle.hp_mono.specs.TermOrders.{IsTermOrder, IsTermWithin}
use Rattle.hp_mono.proofs.MonomialLaws.{product-monomial}
use Rattle.hp_sums.specs.Bases.{IsBasisOrder, KeepsOrder}
use Rattle.hp_poly.specs.PolySetting.{HaveProduct, from_greatest_same, from_greatest_total}
use Rattle.hp_module.specs.FallingTerms.{by_validity, component_order}

no_less_equal : Less ≢ Equal
no_less_equal e = absurd (cc)

no_greater_equal : Greater ≢ Equal
no_greater_equal e = absurd (cc)

no_greater_less : Greater ≢ Less
no_greater_less e = absurd (cc)

module _ (width : ℕ) (cmp : Term → Term → Ordering) (order : IsTermOrder width cmp) (k : ℕ) (low : 1 ≤ k) (high : k ≤ width) where
  at : Monomial → Term
  at m = record { mono = m; comp = k }

  in_width : (m : Monomial) → (length m == vars) ≡ true → IsTermWithin width (record { mono = m; comp = k })
  in_width m e = (eqb-true (length m) vars e, low, high)

  abbrev by : Bool → Bool → Monomial → Monomial → Ordering
  by p q a b = by_validity cmp k p q a b

  reversed : (p q : Bool) (a b : Monomial) → (length a == vars) ≡ p → (length b == vars) ≡ q
      → by p q a b ≡ ordering_reverse (by q p b a)
  reversed true true a b e f = order.opposite (record { mono = b; comp = k }) (record { mono = a; comp = k }) (in_width b f) (in_width a e)
  reversed true false a b e f = refl
  reversed false true a b e f = refl
  reversed false false a b e f = from_greatest_total.antisymm a b

  chained : (p q r : Bool) (a b c : Monomial) → (length a == vars) ≡ p → (length b == vars) ≡ q → (length c == vars) ≡ r
      → by p q a b ≡ Less → by q r b c ≡ Less → by p r a c ≡ Less
  chained true true true a b c e f g l m =
      order.transitive (record { mono = c; comp = k }) (record { mono = b; comp = k }) (record { mono = a; comp = k }) (in_width c g) (in_width b f) (in_width a e) m l
  chained true true false a b c e f g l m = refl
  chained true false true a b c e f g l m = absurd (no_greater_less m)
  chained true false false a b c e f g l m = refl
  chained false true r a b c e f g l m = absurd (no_greater_less l)
  chained false false true a b c e f g l m = absurd (no_greater_less m)
  chained false false false a b c e f g l m = from_greatest_total.trans a b c l m

  same_of : (p q : Bool) (a b : Monomial) → (length a == vars) ≡ p → (length b == vars) ≡ q → by p q a b ≡ Equal → a ≡ b
  same_of true true a b e f s =
      sym (ap (λ t. t.mono) (order.same (record { mono = b; comp = k }) (record { mono = a; comp = k }) (in_width b f) (in_width a e) s))
  same_of true false a b e f s = absurd (no_less_equal s)
  same_of false true a b e f s = absurd (no_greater_equal s)
  same_of false false a b e f s = from_greatest_same a b s

  pub component-same : (a b : Monomial) → component_order cmp k a b ≡ Equal → a ≡ b
  component-same a b e = same_of (length a == vars) (length b == vars) a b refl refl e

  pub component-total : IsTotalOrder (component_order cmp k)
  component-total = record {
    antisymm = λ a b. reversed (length a == vars) (length b == vars) a b refl refl;
    trans = λ a b c. chained (length a == vars) (length b == vars) (length c == vars) a b c refl refl refl;
    congr = λ a b c e. ap (λ m. component_order cmp k m c) (component-same a b e);
  }

  -- monomials compare as the terms do, the other way round
  pub component-terms : (a b : Monomial) → IsMonomial a → IsMonomial b
      → cmp (record { mono = b; comp = k }) (record { mono = a; comp = k }) ≡ component_order cmp k a b
  component-terms a b ha hb =
      let p = eq-eqb (length a) vars ha in
      let q = eq-eqb (length b) vars hb in
      λ i. by (sym p i) (sym q i) a b

  pub component-basis : IsBasisOrder (component_order cmp k)
  component-basis = record { total = component-total; same = component-same }

  -- products with a monomial keep the order
  pub component-keeps : (m : Monomial) → KeepsOrder (component_order cmp k) (HaveProduct m) (product m)
  component-keeps m a b f g l =
      sym (component-terms (product m a) (product m b) (product-monomial m a f.left f.right) (product-monomial m b g.left g.right))
      ∙ order.keeps_products m (record { mono = b; comp = k }) (record { mono = a; comp = k }) f.left (g.right, low, high) (f.right, low, high)
      (component-terms a b f.right g.right ∙ l)
