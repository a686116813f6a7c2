-- The polynomials over a domain are a domain: the leading coefficient of a product is that of the factors' multiplied.
use Rattle.std.specs.Prelude.{◌≡◌, ◌⊎◌, cond, length, [], ◌∷◌, All, slice_index_or}
use Rattle.std.specs.declared.cmp.Ordering.TheVariants.{Less}
use Rattle.std.specs.Ordering.{is_eq}
use Rattle.std.specs.Cmp.{tied_itself}
use Rattle.std.proofs.lemmas.List.Elements.{All-cons, All-head, All-tail}
use mathlib.Core.Logic.{inl, inr}
use mathlib.Core.Path.{refl, sym, ap, ◌∙◌}
use native.Mathlib.Omega.{arith}
use Rattle.hp_algebra.specs.Ring.{RingOf, IsRing, IsCommutative, IsDomain}
use Rattle.hp_mono.specs.Monomials as mono
use Rattle.hp_mono.specs.Monomials.{Monomial, IsMonomial, product}
use Rattle.hp_mono.proofs.MonomialLaws.{product_comm}
use Rattle.hp_mono.proofs.GrevlexLaws.{grevlex_product}
use Rattle.hp_sums.proofs.SumSetting.{SumSetting}
use Rattle.hp_sums.proofs.Collected.{sum-after, sum-total, sum-values}
use Rattle.hp_sums.proofs.FirstTerms.{one_term, first_value}
use Rattle.hp_sums.proofs.WeightedSums.{weighted-first, weighted-none, delta, delta-value, total-delta}
use Rattle.hp_sums.proofs.BilinearSums.{against, at as at_of, against-value, at-value, weighted-bilinear}
use Rattle.hp_poly.specs.Polynomials.{Poly, IsPoly, from_greatest, poly_ring, poly_times, coefficient_of}
use Rattle.hp_poly.specs.PolySetting.{poly_setting, from_greatest_total}
use Rattle.hp_poly.specs.PolyRing.{poly_is_ring, poly-values, rule, rule-values}

module _ {F : Type 0} {ring : RingOf F} (laws : IsRing ring) (commutes : IsCommutative ring) where
  open ring use {zero as 0ₖ, one as 1ₖ, add, mul, IsValue}

  abbrev S : SumSetting Monomial F
  S = poly_setting laws commutes

  -- the coefficient at k of the product of two monomials
  abbrev at : Monomial → Monomial → Monomial → F
  at k a c = at_of S (rule laws commutes) (rule-values laws commutes) k a c

  -- ---- products of smaller monomials are smaller

  product_after : (a b d : Monomial) → IsMonomial a → IsMonomial b → IsMonomial d → from_greatest b d ≡ Less
      → from_greatest (product a b) (product a d) ≡ Less
  product_after a b d ia ib id l = grevlex_product a d b ia id ib ∙ l

  pub product_before : (a b c : Monomial) → IsMonomial a → IsMonomial b → IsMonomial c → from_greatest a c ≡ Less
      → from_greatest (product a b) (product c b) ≡ Less
  product_before a b c ia ib ic l =
      (λ i. from_greatest (product_comm a b i) (product_comm c b i)) ∙ product_after b a c ib ia ic l

  -- the coefficient at k of two monomials whose product is after k
  at-after : (k a c : Monomial) → from_greatest k (product a c) ≡ Less
      → at k a c ≡ 0ₖ
  at-after k a c l =
      ap (λ r. add (mul 1ₖ (cond (is_eq r) 1ₖ 0ₖ)) 0ₖ) l
      ∙ laws.add_zero _ (laws.mul_value 1ₖ 0ₖ laws.one_value laws.zero_value) ∙ laws.one_mul 0ₖ laws.zero_value

  at-itself : (a c : Monomial) → at (product a c) a c ≡ 1ₖ
  at-itself a c =
      ap (λ r. add (mul 1ₖ (cond (is_eq r) 1ₖ 0ₖ)) 0ₖ) (tied_itself from_greatest_total (product a c))
      ∙ laws.add_zero _ (laws.mul_value 1ₖ 1ₖ laws.one_value laws.one_value) ∙ laws.one_mul 1ₖ laws.one_value

  -- the monomials of p times those of u + q are after the product of the first ones
  pub later_products : (t u : Monomial × F) (p q : Poly F) → IsPoly ring (t ∷ p) → IsPoly ring (u ∷ q)
      → All (λ (s : Monomial × F).
      All (λ (w : Monomial × F). from_greatest (product t.0 u.0) (product s.0 w.0) ≡ Less) (u ∷ q)) p
  later_products t u p q f g i s l =
      let M : Monomial × F → Type 0 = λ w. IsMonomial w.0 in
      let n = (slice_index_or p i s).0 in
      let mt = All-head M t p f.monomials in
      let mu = All-head M u q g.monomials in
      let mn : IsMonomial n = All-tail M t p f.monomials i s l in
      let before = product_before t.0 u.0 n mt mu mn (sum-after S t p f.is_sum i s l) in
      All-cons (λ (w : Monomial × F). from_greatest (product t.0 u.0) (product (slice_index_or p i s).0 w.0) ≡ Less) u q before
      (λ j w m. from_greatest_total.trans (product t.0 u.0) (product n u.0) (product n (slice_index_or q j w).0) before
      (product_after n u.0 _ mn mu (All-tail M u q g.monomials j w m) (sum-after S u q g.is_sum j w m)))

  -- The leading coefficient of a product is the product of the leading coefficients.
  pub lead_product : (t u : Monomial × F) (p q : Poly F) → IsPoly ring (t ∷ p) → IsPoly ring (u ∷ q)
      → coefficient_of ring (poly_times ring (t ∷ p) (u ∷ q)) (product t.0 u.0) ≡ mul t.1 u.1
  lead_product t u p q f g =
      let k = product t.0 u.0 in
      let r = rule laws commutes in
      let rv = rule-values laws commutes in
      let d = delta-value S k in
      let vp = poly-values laws commutes (t ∷ p) f in
      let vq = poly-values laws commutes (u ∷ q) g in
      let pq = (poly_is_ring laws commutes).mul_value _ _ f g in
      let M : Monomial × F → Type 0 = λ w. IsMonomial w.0 in
      let mt = All-head M t p f.monomials in
      let mu = All-head M u q g.monomials in
      sym (sum-total S _ k pq.is_sum) ∙ total-delta S k _ (sum-values S _ pq.is_sum)
      ∙ weighted-bilinear S r rv (delta S k) d (t ∷ p) (u ∷ q) vp vq
      ∙ weighted-first S (against S r rv (delta S k) (u ∷ q)) t p (against-value S r rv (delta S k) d (u ∷ q) vq t.0) vp
      (λ i s l. weighted-none S (at k (slice_index_or p i s).0) (u ∷ q) vq
      (λ j w m. at-after k _ (slice_index_or (u ∷ q) j w).0 (later_products t u p q f g i s l j w m)))
      ∙ ap (mul t.1) (weighted-first S (at k t.0) u q (at-value S r rv k t.0 u.0) vq
      (λ j w m. at-after k t.0 _ (product_after t.0 u.0 _ mt mu (All-tail M u q g.monomials j w m) (sum-after S u q g.is_sum j w m)))
      ∙ ap (mul u.1) (at-itself t.0 u.0) ∙ laws.mul_one u.1 (All-head (λ (s : Monomial × F). IsValue s.1) u q vq))

  -- ---- no zero divisors

  no_divisors : IsDomain ring → (p q : Poly F) → IsPoly ring p → IsPoly ring q → poly_times ring p q ≡ []
      → (p ≡ []) ⊎ (q ≡ [])
  no_divisors domain [] q f g e = inl refl
  no_divisors domain (t ∷ p) [] f g e = inr refl
  no_divisors domain (t ∷ p) (u ∷ q) f g e =
      let none : mul t.1 u.1 ≡ 0ₖ = sym (lead_product t u p q f g) ∙ ap (λ r. coefficient_of ring r (product t.0 u.0)) e in
      let v = first_value S t p f.is_sum in
      let w = first_value S u q g.is_sum in
      absurd (elim (domain.no_zero_divisors t.1 u.1 v.0 w.0 none) [ inl z ↦ v.1 z | inr z ↦ w.1 z ])

  -- The polynomials over a domain are a domain.
  pub poly_is_domain : IsDomain ring → IsDomain (poly_ring ring)
  poly_is_domain domain = record {
    one_zero = λ e. absurd (omega (arith, ap length (sym (one_term S mono.one 1ₖ laws.one_value domain.one_zero) ∙ e)));
    no_zero_divisors = no_divisors domain;
  }
