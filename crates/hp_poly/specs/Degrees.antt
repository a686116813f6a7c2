-- Degrees of polynomials: of a sum, a product, and of the first term; they meet the laws of a weight.
use Rattle.std.specs.Prelude.{◌≡◌, ℕ, ◌+◌, ◌≤◌, max, [], ◌∷◌, ◌++◌, map, reverse, All}
use Rattle.std.specs.declared.cmp.Ordering.TheVariants.{Less, Greater}
use Rattle.std.specs.Ordering.{nat_cmp, ordering_then}
use Rattle.std.specs.Cmp.{nat_cmp_is}
use Rattle.std.specs.Cmp.Lexicographic.{slice_cmp}
use Rattle.std.proofs.lemmas.Bool.{cases_lt}
use Rattle.std.proofs.lemmas.List.Elements.{All-nil, All-cons, All-head, All-tail, All-map, All-append, All-weaker}
use mathlib.Core.Logic.{inl, inr}
use mathlib.Core.Path.{refl, ap, ◌∙◌}
use native.Mathlib.Omega.{arith}
use Rattle.hp_algebra.specs.Ring.{RingOf, IsRing, IsCommutative, IsWeighted}
use Rattle.hp_mono.specs.Monomials as mono
use Rattle.hp_mono.specs.Monomials.{Monomial, degree}
use Rattle.hp_mono.proofs.MonomialLaws.{degree_product}
use Rattle.hp_sums.proofs.Collected.{collect-keys, sum-after}
use Rattle.hp_poly.specs.Polynomials.{from_greatest, Poly, IsPoly, poly_degree, poly_of, poly_ring, poly_times}
use Rattle.hp_poly.specs.PolyRing.{times-keys}
use Rattle.hp_poly.specs.PolySetting.{poly_setting}

-- what stands after in the order is no higher
no_higher : (a b : Monomial) → from_greatest a b ≡ Less → degree b ≤ degree a
no_higher a b e =
    elim (cases_lt (degree a) (degree b)) [
      | inl above ↦ let g = nat_cmp_is (degree b) (degree a) Greater (omega arith) in
          let x : Greater ≡ Less = ap (λ r. ordering_then r (slice_cmp nat_cmp (reverse a) (reverse b))) g ∙ e in
          cc
      | inr within ↦ within
    ]

module _ {F : Type 0} {ring : RingOf F} (laws : IsRing ring) (commutes : IsCommutative ring) where
  -- each monomial is at most of a degree
  abbrev AtMost : ℕ → Poly F → Type 0
  AtMost n p = All (λ (t : Monomial × F). degree t.0 ≤ n) p

  pub degree_most : (n : ℕ) (p : Poly F) → AtMost n p → poly_degree ring p ≤ n
  degree_most n [] h = omega arith
  degree_most n (t ∷ p) h =
      let P : Monomial × F → Type 0 = λ u. degree u.0 ≤ n in
      omega (arith, All-head P t p h, degree_most n p (All-tail P t p h))

  pub degree_bounds : (n : ℕ) (p : Poly F) → poly_degree ring p ≤ n → AtMost n p
  degree_bounds n [] l = All-nil (λ (t : Monomial × F). degree t.0 ≤ n)
  degree_bounds n (t ∷ p) l =
      All-cons (λ (u : Monomial × F). degree u.0 ≤ n) t p (omega arith) (degree_bounds n p (omega arith))

  -- the degree is that of the first term
  pub degree_first : (t : Monomial × F) (p : Poly F) → IsPoly ring (t ∷ p) → poly_degree ring (t ∷ p) ≡ degree t.0
  degree_first t p h =
      let later = sum-after (poly_setting laws commutes) t p h.is_sum in
      let rest = degree_most (degree t.0) p (All-weaker (λ (u : Monomial × F). from_greatest t.0 u.0 ≡ Less)
      (λ u. degree u.0 ≤ degree t.0) (λ u e. no_higher t.0 u.0 e) p later) in
      omega arith

  of_terms : (n : ℕ) (ts : Poly F) → AtMost n ts → poly_degree ring (poly_of ring ts) ≤ n
  of_terms n ts h = degree_most n (poly_of ring ts) (collect-keys (poly_setting laws commutes) (λ m. degree m ≤ n) ts h)

  pub degree_times_most : (p q : Poly F) → IsPoly ring p → IsPoly ring q
      → poly_degree ring (poly_times ring p q) ≤ poly_degree ring p + poly_degree ring q
  degree_times_most p q f g =
      let a = poly_degree ring p in
      let b = poly_degree ring q in
      degree_most (a + b) (poly_times ring p q) (times-keys laws commutes (λ m. degree m ≤ a + b) p q
      (λ i t l j u k. omega (
        arith,
        degree_product mono.vars _ _ (f.monomials i t l) (g.monomials j u k),
        degree_bounds a p (omega arith) i t l,
        degree_bounds b q (omega arith) j u k,
      )))

  pub poly_weights : IsWeighted (poly_ring ring)
  poly_weights = record {
    of_zero = refl;
    of_one =
        let P : Monomial × F → Type 0 = λ t. degree t.0 ≤ 0 in
        let one : Monomial × F = (mono.one, ring.one) in
        let l = of_terms 0 (one ∷ []) (All-cons P one [] (omega arith) (All-nil P)) in
        omega arith;
    of_sum = λ x y f g.
        let n = max (poly_degree ring x) (poly_degree ring y) in
        let P : Monomial × F → Type 0 = λ t. degree t.0 ≤ n in
        of_terms n (x ++ y) (All-append P x y (degree_bounds n x (omega arith)) (degree_bounds n y (omega arith)));
    of_neg = λ x f.
        let n = poly_degree ring x in
        let P : Monomial × F → Type 0 = λ t. degree t.0 ≤ n in
        let turn : Monomial × F → Monomial × F = λ t. (t.0, ring.neg t.1) in
        of_terms n (map turn x) (All-map P turn x (degree_bounds n x (omega arith)));
    of_product = degree_times_most;
  }
