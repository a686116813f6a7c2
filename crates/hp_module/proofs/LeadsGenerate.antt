-- A set of vectors that is closed under the steps of division by some of its members, each lead of which is a multiple of
-- one of their leads: these members generate each homogeneous vector of the set.
use Rattle.std.specs.Prelude.{◌≡◌, ℕ, zero, suc, ◌<◌, ◌≤◌, [], length, slice_index_or}
use Rattle.std.proofs.lemmas.List.Elements.{All-contains}
use mathlib.Core.Logic.{inl, inr}
use mathlib.Core.Path.{sym, ap, ◌∙◌, subst}
use native.Mathlib.Omega.{arith}
use Rattle.hp_algebra.specs.Ring.{IsRing, IsCommutative}
use Rattle.hp_algebra.proofs.Rings.{neg_mul}
use Rattle.hp_mono.specs.declared.term.Term.{Term}
use Rattle.hp_mono.specs.Monomials.{Monomial, IsMonomial}
use Rattle.hp_mono.specs.TermOrders.{TermDivides}
use Rattle.hp_poly.specs.Polynomials.{term_poly}
use Rattle.hp_module.specs.Vectors.{Vector, IsGenerated, vector_plus, vector_scale}
use Rattle.hp_module.specs.FreeModules.{FreeModule, IsFreeModule, IsIn, HasDegree, coefficient_at, terms}
use Rattle.hp_module.specs.Leads.{AreLed, IsGreatestTerm, WithLeads, lead_at, member_at}
use Rattle.hp_module.specs.Divisions.{height, peak}
use Rattle.hp_module.proofs.VectorCoefficients.{coefficient-ext, coefficient-multiple, coefficient-plus, coefficient-value, multiple-vector, plus-vector, within}
use Rattle.hp_module.proofs.GreatestTerms.{greatest-at, greatest-degree, zero_or_greatest}
use Rattle.hp_module.proofs.OrderedTerms.{height-less, peak-above, peak-most}
use Rattle.hp_module.proofs.DivisionSteps.{at_multiple, left-at, left-below, left-degree, left-vector, multiple-value}
use Rattle.hp_module.proofs.MonicVectors.{lead-value, inverse-value}
use Rattle.hp_module.proofs.Symbols.{generated-member, generated-multiple, generated-plus, generated-zero}

module _ {F : Type 0} {M : FreeModule F} (L : IsFreeModule M) {s : WithLeads F} (led : AreLed M s) where
  open M use {ring, inverse, width, cmp}

  abbrev laws : IsRing ring
  laws = L.field.is_ring

  abbrev comm : IsCommutative ring
  comm = L.field.commutes

  abbrev co : Vector F → Term → F
  co v b = coefficient_at ring v b

  -- A set of vectors that keeps the steps of division, and whose leads are multiples of the leads at hand.
  pub record IsDividedBy (N : Vector F → Type 0) : Type 0 where
    pub vectors : (v : Vector F) → N v → IsIn M v
    pub steps : (v : Vector F) (c : F) (m : Monomial) (j : ℕ) → N v → ring.IsValue c → IsMonomial m
        → j < length s.members
        → N (vector_plus ring v (vector_scale ring (term_poly ring c m) (member_at s j)))
    pub leads : (v : Vector F) (t : Term) (x : F) → N v → IsGreatestTerm cmp v t x
        → (j : ℕ) × (j < length s.members) × TermDivides (lead_at s j) t

  -- (R + -f S) + f S = R
  restored : (R f S : F) → ring.IsValue R → ring.IsValue f → ring.IsValue S
      → ring.add (ring.add R (ring.mul (ring.neg f) S)) (ring.mul f S) ≡ R
  restored R f S vr vf vs =
      let x = laws.mul_value f S vf vs in
      let y = laws.mul_value (ring.neg f) S (laws.neg_value f vf) vs in
      laws.add_assoc R _ _ vr y x
      ∙ ap (ring.add R) (laws.add_comm _ _ y x ∙ ap (ring.add (ring.mul f S)) (neg_mul laws f S vf vs) ∙ laws.add_neg _ x)
      ∙ laws.add_zero R vr

  module _ {N : Vector F → Type 0} (closed : IsDividedBy N) (d : ℕ) where
    by_step : (n : ℕ) (v : Vector F) (t : Term) (x : F) → N v → HasDegree M d v → IsGreatestTerm cmp v t x
        → peak M (terms v) ≤ suc n
        → ((w : Vector F) → N w → HasDegree M d w → peak M (terms w) ≤ n → IsGenerated ring width s.members w)
        → IsGenerated ring width s.members v
    by_step n v t x nv hd gt l rec =
        let hv = closed.vectors v nv in
        let r = closed.leads v t x nv gt in
        let j = r.0 in
        let m = r.2.0 in
        let im = r.2.1 in
        let g = member_at s j in
        let hg : IsIn M g = led.vectors j [] r.1 in
        let lead = led.led j r.1 in
        let vx = lead-value L v t x hv gt in
        let vi = inverse-value L g (lead_at s j) lead.0 hg lead.1 in
        let vc = lead-value L g (lead_at s j) lead.0 hg lead.1 in
        let nc = (greatest-at L g (lead_at s j) lead.0 hg lead.1).2 in
        let f = ring.mul x (inverse lead.0) in
        let vf = laws.mul_value x (inverse lead.0) vx vi in
        let vn = laws.neg_value f vf in
        let is_x : ring.mul f lead.0 ≡ x =
        laws.mul_assoc x (inverse lead.0) lead.0 vx vi vc
        ∙ ap (ring.mul x) (L.field.commutes (inverse lead.0) lead.0 vi vc ∙ L.field.mul_inverse lead.0 vc nc) ∙ laws.mul_one x vx in
        let w = vector_plus ring v (vector_scale ring (term_poly ring (ring.neg f) m) g) in
        let he = led.homogeneous j r.1 in
        let hw = left-vector L v g d t (lead_at s j) x lead.0 f m hv hg hd he gt lead.1 im r.2.2 vf is_x in
        let dw = left-degree L v g d t (lead_at s j) x lead.0 f m hv hg hd he gt lead.1 im r.2.2 vf is_x in
        let below = left-below L v g d t (lead_at s j) x lead.0 f m hv hg hd he gt lead.1 im r.2.2 vf is_x in
        let t_at = greatest-at L v t x hv gt in
        let t_degree = greatest-degree L v t x d gt hd in
        let most = peak-most M (terms w) (height M t) (λ i y k.
        height-less M L (slice_index_or (terms w) i y).0 t (within laws comm width w hw i y k) t_at.0 (dw i y k ∙ sym t_degree) (below i y k)) in
        let above = All-contains (λ (y : Term × F). height M y.0 < peak M (terms v)) (terms v) (t, x) (peak-above M (terms v)) gt.occurs in
        let low : peak M (terms w) ≤ n = between (peak M (terms w)) (height M t) (peak M (terms v)) n most above l in
        let gw = rec w (closed.steps v (ring.neg f) m j nv vn im r.1) dw low in
        let gm = generated-multiple laws comm width s.members led.vectors f m g vf im (generated-member laws comm width s.members led.vectors j r.1) in
        let hm = multiple-vector laws comm width f m g vf im hg in
        let same : v ≡ vector_plus ring w (vector_scale ring (term_poly ring f m) g) =
        coefficient-ext laws comm width v _ hv (plus-vector laws comm width w _ hw hm) (λ b.
        let e = left-at L v g d t (lead_at s j) x lead.0 f m hv hg hd he gt lead.1 im r.2.2 vf is_x b in
        let k = coefficient-multiple laws comm width f m g b vf im hg in
        sym (coefficient-plus laws comm width w _ b hw hm ∙ (λ i. ring.add (e i) (k i))
        ∙ restored (co v b) f (at_multiple L m g b) (coefficient-value laws comm width v b hv) vf (multiple-value L g (lead_at s j) lead.0 m hg lead.1 im b))) in
        subst (IsGenerated ring width s.members) (sym same) (generated-plus laws comm width s.members led.vectors w _ gw gm)
      where
        between : (a b c n : ℕ) → a ≤ b → b < c → c ≤ suc n → a ≤ n
        between a b c n p q r = omega arith

    by_peak : (n : ℕ) (v : Vector F) → N v → HasDegree M d v → peak M (terms v) ≤ n → IsGenerated ring width s.members v
    by_peak zero v nv hd l =
        elim (zero_or_greatest L v (closed.vectors v nv)) [
          | inl z ↦ subst (IsGenerated ring width s.members) (sym z) (generated-zero laws comm width s.members led.vectors)
          | inr g ↦
              let above = All-contains (λ (y : Term × F). height M y.0 < peak M (terms v)) (terms v) (g.0, g.1) (peak-above M (terms v)) g.2.occurs in
              absurd (omega (arith, above, l))
        ]
    by_peak (suc n) v nv hd l =
        elim (zero_or_greatest L v (closed.vectors v nv)) [
          | inl z ↦ subst (IsGenerated ring width s.members) (sym z) (generated-zero laws comm width s.members led.vectors)
          | inr g ↦ by_step n v g.0 g.1 nv hd g.2 l (by_peak n)
        ]

    pub leads_generate : (v : Vector F) → N v → HasDegree M d v → IsGenerated ring width s.members v
    leads_generate v nv hd = let l : peak M (terms v) ≤ peak M (terms v) = omega arith in by_peak (peak M (terms v)) v nv hd l
