-- The steps of a division by a factor: what a term of the quotient must meet, and that the first monomial falls.
use Rattle.std.specs.Prelude.{◌≡◌, ◌≢◌, ◌⊎◌, ℕ, zero, suc, ◌+◌, ◌≤◌, ◌<◌, List, [], ◌∷◌, ◌++◌, length, All}
use Rattle.std.specs.declared.cmp.Ordering.TheVariants.{Less}
use Rattle.std.proofs.lemmas.List.Elements.{All-head}
use mathlib.Core.Logic.{inl, inr}
use mathlib.Core.Path.{sym, ap, ◌∙◌, subst}
use native.Mathlib.Omega.{arith}
use Rattle.hp_algebra.specs.Ring.{RingOf, IsField, power}
use Rattle.hp_algebra.proofs.Rings.{field-domain, mul_zero, zero_mul}
use Rattle.hp_mono.specs.Monomials as mono
use Rattle.hp_mono.specs.Monomials.{Monomial, IsMonomial, Divides, degree, max_degree, product}
use Rattle.hp_mono.proofs.GrevlexRanks.{rank, rank_less}
use Rattle.hp_mono.proofs.MonomialLaws.{degree_product}
use Rattle.hp_sums.proofs.FirstTerms.{first_value}
use Rattle.hp_sums.proofs.Merges.{no_items}
use Rattle.hp_poly.specs.Factors.{IsFactor}
use Rattle.hp_poly.specs.Polynomials.{from_greatest, Poly, IsPoly, poly_degree, poly_neg, poly_of, poly_plus, poly_ring, poly_times, term_poly}
use Rattle.hp_poly.specs.PolyDomain.{poly_is_domain}
use Rattle.hp_poly.specs.PolyRing.{poly_commutes, poly_is_ring}
use Rattle.hp_poly.proofs.FactorLaws.{power-left, power-value}
use Rattle.hp_poly.proofs.ExactDivision.{IsDividing, dividing_end, dividing_fails, dividing_step, rest-after}
use Rattle.hp_poly.proofs.TermMultiples.{first_degree, first_monomial, setting}

-- a number that falls as the first monomial does
abbrev pub peak : {F : Type 0} → Poly F → ℕ
peak [] = 0
peak (t ∷ p) = suc (rank t.0)

-- c times the monomial m is the quotient of the first terms of the rest and of g.
pub record IsStep {F : Type 0} (ring : RingOf F) (inverse : F → F) (g rest : Poly F) (lead first : Monomial × F)
    (others more : Poly F) (m : Monomial) (c : F) : Type 0 where
  pub lead_is : g ≡ lead ∷ others
  pub first_is : rest ≡ first ∷ more
  pub g_is : IsPoly ring g
  pub rest_is : IsPoly ring rest
  pub m_is : IsMonomial m
  pub m_times : product m lead.0 ≡ first.0
  pub c_is : c ≡ ring.mul first.1 (inverse lead.1)
  pub most : degree first.0 ≤ max_degree

module _ {F : Type 0} {ring : RingOf F} {inverse : F → F} (field : IsField ring inverse) where
  module _ {lead first : Monomial × F} {g others rest more : Poly F} {m : Monomial} {c : F}
      (s : IsStep ring inverse g rest lead first others more m c) where
    whole-g : IsPoly ring (lead ∷ others)
    whole-g = subst (IsPoly ring) s.lead_is s.g_is

    whole-rest : IsPoly ring (first ∷ more)
    whole-rest = subst (IsPoly ring) s.first_is s.rest_is

    lead-value : ring.IsValue lead.1 × (lead.1 ≢ ring.zero)
    lead-value = first_value (setting field) lead others whole-g.is_sum

    first-value : ring.IsValue first.1 × (first.1 ≢ ring.zero)
    first-value = first_value (setting field) first more whole-rest.is_sum

    inverse-value : ring.IsValue (inverse lead.1)
    inverse-value = field.inverse_value lead.1 lead-value.0 lead-value.1

    c-value : ring.IsValue c
    c-value = subst ring.IsValue (sym s.c_is) (field.is_ring.mul_value first.1 _ first-value.0 inverse-value)

    -- c times the leading coefficient is the first one
    c-times : ring.mul c lead.1 ≡ first.1
    c-times =
        ap (λ x. ring.mul x lead.1) s.c_is
        ∙ field.is_ring.mul_assoc first.1 _ lead.1 first-value.0 inverse-value lead-value.0
        ∙ ap (ring.mul first.1) (field.commutes _ lead.1 inverse-value lead-value.0
        ∙ field.mul_inverse lead.1 lead-value.0 lead-value.1)
        ∙ field.is_ring.mul_one first.1 first-value.0

    pub c-nonzero : c ≢ ring.zero
    c-nonzero z = first-value.1 (sym c-times ∙ ap (λ x. ring.mul x lead.1) z ∙ zero_mul field.is_ring lead.1 lead-value.0)

    pub degrees-most : degree m + poly_degree ring g ≤ max_degree
    degrees-most =
        let e = first_degree field s.g_is s.lead_is in
        let p = degree_product mono.vars m lead.0 s.m_is (first_monomial field lead others whole-g) in
        let d = ap degree s.m_times in
        omega (arith, e, p, d, s.most)

    -- the division underway, one step on
    pub next : {p rest' : Poly F} {terms terms' : List (Monomial × F)} → IsDividing ring g p terms rest
        → terms' ≡ terms ++ (m, c) ∷ []
        → rest' ≡ poly_plus ring rest (poly_neg ring (poly_times ring (term_poly ring c m) g))
        → IsDividing ring g p terms' rest'
    next {p} {rest'} {terms} {terms'} d w e =
        subst (λ ts. IsDividing ring g p ts rest') (sym w)
        (subst (IsDividing ring g p (terms ++ (m, c) ∷ [])) (sym e) (dividing_step field g p terms rest c m s.g_is c-value s.m_is d))

    pub peak-falls : {rest' : Poly F} → IsPoly ring rest'
        → rest' ≡ poly_plus ring rest (poly_neg ring (poly_times ring (term_poly ring c m) g)) → peak rest' < peak rest
    peak-falls {rest'} new e =
        let later = λ (t : Monomial × F). from_greatest first.0 t.0 ≡ Less in
        let after = rest-after field lead first others more c m whole-g whole-rest c-value c-nonzero s.m_is s.m_times c-times in
        let is : rest' ≡ poly_plus ring (first ∷ more) (poly_neg ring (poly_times ring (term_poly ring c m) (lead ∷ others))) =
        e ∙ (λ i. poly_plus ring (s.first_is i) (poly_neg ring (poly_times ring (term_poly ring c m) (s.lead_is i)))) in
        subst (λ r. peak rest' < peak r) (sym s.first_is)
        (below rest' new (subst (All later) (sym is) after) (first_monomial field first more whole-rest))
      where
        below : (r : Poly F) → IsPoly ring r → All (λ (t : Monomial × F). from_greatest first.0 t.0 ≡ Less) r
            → IsMonomial first.0 → peak r < suc (rank first.0)
        below [] h a i = omega arith
        below (t ∷ r) h a i =
            let less = rank_less t.0 first.0 (first_monomial field t r h) i (omega (arith, s.most))
            (All-head (λ (u : Monomial × F). from_greatest first.0 u.0 ≡ Less) t r a) in
            omega (arith, less)

  -- the first monomial of what is left is no multiple of the divisor's
  pub fails : {lead first : Monomial × F} {g others rest more p : Poly F} {terms : List (Monomial × F)}
      → g ≡ lead ∷ others
      → rest ≡ first ∷ more → IsPoly ring g → IsDividing ring g p terms rest → ¬ (Divides lead.0 first.0)
      → ¬ (IsFactor (poly_ring ring) g p)
  fails {lead} {first} {g} {others} {rest} {more} {p} {terms} e d h s none =
      let s' = subst (λ r. IsDividing ring (lead ∷ others) p terms r) d (subst (λ q. IsDividing ring q p terms rest) e s) in
      subst (λ q. ¬ (IsFactor (poly_ring ring) q p)) (sym e)
      (dividing_fails field lead first others p terms more (subst (IsPoly ring) e h) s' none)

  -- nothing is left
  pub ends : {g rest p q : Poly F} {terms : List (Monomial × F)} → IsPoly ring g → IsDividing ring g p terms rest
      → length rest ≡ 0
      → q ≡ poly_of ring terms → p ≡ poly_times ring g q
  ends {g} {rest} {p} {q} {terms} h s n e =
      (dividing_end field g p terms rest h s (no_items rest n)).1 ∙ ap (poly_times ring g) (sym e)

  -- ---- powers

  -- g is no factor of the quotient by fewer powers, so the power is none
  pub power-fails : {g p q : Poly F} {k n : ℕ} → IsPoly ring g → g ≢ [] → IsPoly ring q
      → p ≡ poly_times ring (power (poly_ring ring) g k) q → k < n → ¬ (IsFactor (poly_ring ring) g q)
      → ¬ (IsFactor (poly_ring ring) (power (poly_ring ring) g n) p)
  power-fails {g} {p} {q} {k} {n} h nonzero f e l none d =
      let laws = poly_is_ring field.is_ring field.commutes in
      let commutes = poly_commutes field.is_ring field.commutes in
      let domain = poly_is_domain field.is_ring field.commutes (field-domain field) in
      none (power-left laws commutes domain g p q k n h nonzero f e l d)

  -- a power of zero is no factor of what is not zero
  pub zero-fails : {g h p : Poly F} {n : ℕ} → g ≡ h → g ≡ [] → 0 < n → p ≢ []
      → ¬ (IsFactor (poly_ring ring) (power (poly_ring ring) h n) p)
  zero-fails {g} {h} {p} {n} e z l nonzero d =
      nonzero (d.2 ∙ ap (λ x. poly_times ring x d.0) (no_times n l (sym e ∙ z)))
    where
      no_times : (n : ℕ) → 0 < n → h ≡ [] → power (poly_ring ring) h n ≡ []
      no_times zero l e = absurd (omega arith)
      no_times (suc n) l e = ap (λ x. poly_times ring x (power (poly_ring ring) h n)) e

  -- to the power 0, and of zero, a polynomial is its own quotient
  pub own-quotient : {h p q : Poly F} {n : ℕ} → IsPoly ring h → IsPoly ring p → q ≡ p → (n ≡ 0) ⊎ (p ≡ [])
      → p ≡ poly_times ring (power (poly_ring ring) h n) q
  own-quotient {h} {p} {q} {n} fh fp e (inl z) =
      let laws = poly_is_ring field.is_ring field.commutes in
      sym (ap (λ k. poly_times ring (power (poly_ring ring) h k) q) z ∙ ap (poly_times ring (power (poly_ring ring) h 0)) e
      ∙ laws.one_mul p fp)
  own-quotient {h} {p} {q} {n} fh fp e (inr z) =
      let laws = poly_is_ring field.is_ring field.commutes in
      z ∙ sym (ap (poly_times ring (power (poly_ring ring) h n)) (e ∙ z) ∙ mul_zero laws _ (power-value laws h n fh))
