-- Each homogeneous vector has a division by homogeneous vectors, of which none is zero.
use Rattle.std.specs.Prelude.{◌⊎◌, ℕ, zero, suc, ◌+◌, ◌<◌, ◌≤◌, List, [], ◌∷◌, length, All, slice_index_or}
use Rattle.std.proofs.lemmas.List.Elements.{All-cons, All-contains, All-from_get_or, All-head, All-nil, All-tail}
use mathlib.Core.Logic.{inl, inr}
use mathlib.Core.Path.{refl, ap, ◌∙◌}
use native.Mathlib.Omega.{arith}
use Rattle.hp_algebra.specs.Ring.{IsRing}
use Rattle.hp_mono.specs.declared.term.Term.{Term}
use Rattle.hp_mono.specs.Monomials.{IsMonomial}
use Rattle.hp_mono.specs.TermOrders.{TermDivides}
use Rattle.hp_mono.proofs.TermLaws.{term_divides-decided}
use Rattle.hp_poly.specs.Polynomials.{term_poly}
use Rattle.hp_module.specs.Vectors.{Vector, vector_plus, vector_scale, zero_vector}
use Rattle.hp_module.specs.FreeModules.{FreeModule, IsFreeModule, IsIn, HasDegree, plus_term, terms}
use Rattle.hp_module.specs.Leads.{AreLed, WithLeads, lead_at, member_at, no_term}
use Rattle.hp_module.specs.Divisions.{IsDivided, IsMoved, IsSubtracted, IsUnderway, height, peak}
use Rattle.hp_module.proofs.OrderedTerms.{peak-above}
use Rattle.hp_module.proofs.GreatestTerms.{greatest-at, zero_or_greatest}
use Rattle.hp_module.proofs.MonicVectors.{inverse-value, lead-value}
use Rattle.hp_module.proofs.DivisionSteps.{divide_begin, divide_end, move_step, moved_falls, subtract_step, subtracted_falls}

-- a divisor among terms, or none
divisor : (ts : List Term) (t : Term) → IsMonomial t.mono → All (λ u. IsMonomial u.mono) ts
    → ((j : ℕ) × (j < length ts) × TermDivides (slice_index_or ts j no_term) t) ⊎ All (λ u. ¬ (TermDivides u t)) ts
divisor [] t h f = inr (All-nil (λ (u : Term). ¬ (TermDivides u t)))
divisor (u ∷ ts) t h f =
    let Mo : Term → Type 0 = λ u. IsMonomial u.mono in
    elim (term_divides-decided u t (All-head Mo u ts f) h) [
      | inl d ↦ inl (0, omega arith, d)
      | inr n ↦ elim (divisor ts t h (All-tail Mo u ts f)) [
        | inl r ↦ let l = r.1 in inl (suc r.0, omega (arith, l), r.2)
        | inr a ↦ inr (All-cons (λ (u : Term). ¬ (TermDivides u t)) u ts n a)
      ]
    ]

module _ {F : Type 0} {M : FreeModule F} (L : IsFreeModule M) {s : WithLeads F} (led : AreLed M s) where
  open M use {ring, inverse, width, cmp}

  abbrev laws : IsRing ring
  laws = L.field.is_ring

  lead-monomials : All (λ u. IsMonomial u.mono) s.leads
  lead-monomials = All-from_get_or (λ (u : Term). IsMonomial u.mono) s.leads no_term (λ j l.
      let m : j < length s.members = omega (arith, l, led.same_length) in
      let g = led.led j m in
      (greatest-at L (member_at s j) (lead_at s j) g.0 (led.vectors j [] m) g.1).0.0)

  module _ (v : Vector F) (hv : IsIn M v) (d : ℕ) (hd : HasDegree M d v) where
    abbrev Division : Type 0
    Division = (qs r : Vector F) × IsDivided M v s qs r

    by_peak : (n : ℕ) (rest qs out : Vector F) → IsUnderway M s v rest qs out → peak M (terms rest) ≤ n → Division
    by_peak zero rest qs out u l = elim (zero_or_greatest L rest u.rest_vector) [
      | inl z ↦ (qs, out, divide_end L led hv u z)
      | inr g ↦ absurd (none (height M g.0) (All-contains (λ (y : Term × F). height M y.0 < peak M (terms rest)) (terms rest) (g.0, g.1) (peak-above M (terms rest)) g.2.occurs) l)
    ]
      where
        none : {p : ℕ} (h : ℕ) → h < p → p ≤ 0 → ⊥
        none h a b = omega (arith, a, b)
    by_peak (suc n) rest qs out u l = elim (zero_or_greatest L rest u.rest_vector) [
      | inl z ↦ (qs, out, divide_end L led hv u z)
      | inr g ↦
          let t = g.0 in
          let x = g.1 in
          let at = greatest-at L rest t x u.rest_vector g.2 in
          elim (divisor s.leads t at.0.0 lead-monomials) [
            | inl f ↦
                let j = f.0 in
                let lj : j < length s.members = omega (arith, f.1, led.same_length) in
                let lead = led.led j lj in
                let hg = led.vectors j [] lj in
                let vx = lead-value L rest t x u.rest_vector g.2 in
                let vi = inverse-value L (member_at s j) (lead_at s j) lead.0 hg lead.1 in
                let vc = lead-value L (member_at s j) (lead_at s j) lead.0 hg lead.1 in
                let nc = (greatest-at L (member_at s j) (lead_at s j) lead.0 hg lead.1).2 in
                let k = ring.mul x (inverse lead.0) in
                let p : IsSubtracted M s j t rest qs
                (vector_plus ring rest (vector_scale ring (term_poly ring (ring.neg k) f.2.0) (member_at s j)))
                (plus_term ring qs (record { mono = f.2.0; comp = j + 1 }) k) = record {
                  mono = f.2.0;
                  is_mono = f.2.1;
                  is_lead = f.2.2;
                  first = x;
                  rest_first = g.2;
                  member_first = lead.0;
                  member_lead = lead.1;
                  factor = k;
                  factor_value = laws.mul_value x (inverse lead.0) vx vi;
                  factor_is = laws.mul_assoc x (inverse lead.0) lead.0 vx vi vc
                      ∙ ap (ring.mul x) (L.field.commutes (inverse lead.0) lead.0 vi vc ∙ L.field.mul_inverse lead.0 vc nc) ∙ laws.mul_one x vx;
                  rest_is = refl;
                  quotients_are = refl;
                } in
                let falls = subtracted_falls L led hv d hd u lj p in
                by_peak n _ _ out (subtract_step L led hv d hd u lj p) (omega (arith, falls, l))
            | inr f ↦
                let p : IsMoved M t rest out (plus_term ring rest t (ring.neg x)) (plus_term ring out t x) = record {
                  first = x;
                  rest_first = g.2;
                  rest_is = refl;
                  out_is = refl;
                } in
                let falls = moved_falls L led hv d hd u p in
                by_peak n _ qs _ (move_step L led hv d hd u p f) (omega (arith, falls, l))
          ]
    ]

    pub division_exists : (qs r : Vector F) × IsDivided M v s qs r
    division_exists =
        let l : peak M (terms v) ≤ peak M (terms v) = omega arith in
        by_peak (peak M (terms v)) v (zero_vector ring (length s.members)) (zero_vector ring width) (divide_begin L led hv refl refl) l
