-- The terms of a monomial times a vector.
use Rattle.std.specs.Prelude.{◌≡◌, true, false, cond, List, [], ◌∷◌, All}
use Rattle.std.specs.Ordering.{eq_by_cmp}
use Rattle.std.proofs.lemmas.List.Elements.{All-head, All-tail}
use mathlib.Core.Path.{refl, sym, ap, ◌∙◌}
use Rattle.hp_algebra.specs.Ring.{RingOf, IsRing, IsCommutative}
use Rattle.hp_mono.specs.declared.term.Term.{Term}
use Rattle.hp_mono.specs.Monomials.{Monomial, IsMonomial, product}
use Rattle.hp_mono.specs.TermOrders.{times}
use Rattle.hp_mono.proofs.MonomialLaws.{cancel_product, product_comm}
use Rattle.hp_mono.proofs.TermLaws.{times-one, times-times}
use Rattle.hp_mono.specs.Monomials as mono
use Rattle.hp_sums.specs.FiniteSums.{total}
use Rattle.hp_sums.proofs.SumSetting.{SumSetting}
use Rattle.hp_sums.proofs.Collected.{tie}
use Rattle.hp_sums.proofs.EqualTotals.{eq-itself, eq-other}
use Rattle.hp_module.specs.FreeModules.{as_listed}
use Rattle.hp_module.proofs.VectorSums.{as_listed_same, shifted, term_setting}

pub times-cancel : (m : Monomial) (s t : Term) → IsMonomial m → IsMonomial s.mono → IsMonomial t.mono
    → times m s ≡ times m t → s ≡ t
times-cancel m s t im is it e =
    let p = cancel_product s.mono t.mono m (is ∙ sym im) (it ∙ sym im) (product_comm s.mono m ∙ ap (λ u. u.mono) e ∙ product_comm m t.mono) in
    let c = ap (λ u. u.comp) e in
    λ i. record { mono = p i; comp = c i }

module _ {F : Type 0} where
  pub shifted-shifted : (m n : Monomial) (xs : List (Term × F)) → shifted (product m n) xs ≡ shifted m (shifted n xs)
  shifted-shifted m n [] = refl
  shifted-shifted m n (x ∷ xs) =
      let e = times-times m n x.0 in
      let r = shifted-shifted m n xs in
      λ i. (e i, x.1) ∷ r i

  pub shifted-one : (xs : List (Term × F)) → All (λ t. IsMonomial t.0.mono) xs → shifted mono.one xs ≡ xs
  shifted-one [] h = refl
  shifted-one (x ∷ xs) h =
      let P : Term × F → Type 0 = λ t. IsMonomial t.0.mono in
      let e = times-one x.0 (All-head P x xs h) in
      let r = shifted-one xs (All-tail P x xs h) in
      λ i. (e i, x.1) ∷ r i

module _ {F : Type 0} {ring : RingOf F} (laws : IsRing ring) (commutes : IsCommutative ring) where
  abbrev T : SumSetting Term F
  T = term_setting laws commutes

  eq-times : (m : Monomial) (b t : Term) → IsMonomial m → IsMonomial b.mono → IsMonomial t.mono
      → eq_by_cmp as_listed (times m b) (times m t) ≡ eq_by_cmp as_listed b t
  eq-times m b t im ib it =
      elim (eq_by_cmp as_listed b t) as (λ z. eq_by_cmp as_listed b t ≡ z → eq_by_cmp as_listed (times m b) (times m t) ≡ z) [
        | true ↦ λ e. ap (λ u. eq_by_cmp as_listed (times m b) (times m u)) (sym (as_listed_same b t (tie (as_listed b t) e)))
            ∙ eq-itself T (times m b)
        | false ↦ λ e. eq-other T (times m b) (times m t) (λ q.
            let p = times-cancel m b t im ib it q in
            let x : true ≡ false = sym (eq-itself T b) ∙ ap (eq_by_cmp as_listed b) p ∙ e in
            cc)
      ] refl

  -- the coefficient of m b in m xs is that of b in xs
  pub total-times : (m : Monomial) (xs : List (Term × F)) (b : Term) → IsMonomial m → IsMonomial b.mono
      → All (λ t. IsMonomial t.0.mono) xs → total as_listed ring (shifted m xs) (times m b) ≡ total as_listed ring xs b
  total-times m [] b im ib h = refl
  total-times m (x ∷ xs) b im ib h =
      let P : Term × F → Type 0 = λ t. IsMonomial t.0.mono in
      let e = eq-times m b x.0 im ib (All-head P x xs h) in
      let r = total-times m xs b im ib (All-tail P x xs h) in
      λ i. cond (e i) (ring.add (r i) x.1) (r i)
