-- A division that is right for each term of the quotients is right for the products of quotients and members.
use Rattle.std.specs.Prelude.{◌≡◌, ◌≢◌, ℕ, zero, suc, ◌+◌, ◌-◌, ◌<◌, List, [], ◌∷◌, ◌++◌, length, All, slice_index_or}
use Rattle.std.specs.declared.cmp.Ordering.TheVariants.{Less, Equal, Greater}
use Rattle.std.proofs.lemmas.Bool.{cases_eq}
use Rattle.std.proofs.lemmas.List.{get_or_default}
use Rattle.std.proofs.lemmas.List.Elements.{All-cons, All-head, All-nil, All-tail, All-contains, All-weaker, Contains-append_left, Contains-append_right}
use mathlib.Core.Logic.{inl, inr}
use mathlib.Core.Path.{refl, sym, ap, ◌∙◌, subst}
use native.Mathlib.Omega.{arith}
use Rattle.hp_algebra.specs.Ring.{IsRing, IsCommutative}
use Rattle.hp_lists.proofs.Members.{each-All}
use Rattle.hp_mono.specs.declared.term.Term.{Term}
use Rattle.hp_mono.specs.Monomials.{Monomial, IsMonomial}
use Rattle.hp_mono.specs.TermOrders.{IsTermOrder, IsTermWithin, TermDivides, times}
use Rattle.hp_mono.proofs.TermLaws.{times-within}
use Rattle.hp_sums.proofs.WeightedSums.{delta, delta-value, total-delta, weighted-none}
use Rattle.hp_poly.specs.Polynomials.{Poly, IsPoly, IsHomogeneous}
use Rattle.hp_poly.specs.PolySetting.{poly_setting}
use Rattle.hp_poly.specs.PolyRing.{poly-values}
use Rattle.hp_module.specs.Vectors.{Vector, vector_scale}
use Rattle.hp_module.specs.FreeModules.{FreeModule, IsFreeModule, IsIn, HasDegree, coefficient_at, degree_of, terms, terms_from}
use Rattle.hp_module.specs.Leads.{AreLed, WithLeads, lead_at, lead_times, member_at, no_term}
use Rattle.hp_module.specs.Divisions.{IsDivided, IsDivision}
use Rattle.hp_module.proofs.VectorSums.{entry_terms, functional-scale, in_component, on_multiple, term_setting, terms-values}
use Rattle.hp_module.proofs.VectorCoefficients.{all-terms, scale-vector, total-shifted}
use Rattle.hp_module.proofs.DivisionSteps.{at_multiple, multiple-above, multiple-other}
use Rattle.hp_module.proofs.GreatestTerms.{greatest-at, greatest-unique}
use Rattle.hp_module.proofs.OrderedTerms.{degree-times, less-back}

module _ {X : Type 0} (P : X → Type 0) (xs ys : List X) (h : All P (xs ++ ys)) where
  All-left : All P xs
  All-left = each-All P xs (λ x c. All-contains P (xs ++ ys) x h (Contains-append_left xs ys x c))

  All-right : All P ys
  All-right = each-All P ys (λ y c. All-contains P (xs ++ ys) y h (Contains-append_right xs ys y c))

module _ {F : Type 0} where
  -- what holds of the terms of a vector holds of those of an entry
  pub entry-all : (P : Term → Type 0) (k i : ℕ) (v : Vector F) → All (λ t. P t.0) (terms_from k v) → i < length v
      → All (λ t. P (in_component (k + i) t.0)) (slice_index_or v i [])
  entry-all P k i [] h l = absurd (omega arith)
  entry-all P k zero (p ∷ v) h l =
      let z : k ≡ k + 0 = omega arith in
      let e = All-left (λ (t : Term × F). P t.0) (entry_terms k p) (terms_from (k + 1) v) h in
      subst (λ n. All (λ t. P (in_component n t.0)) p) z (unmap p e)
    where
      unmap : (p : Poly F) → All (λ t. P t.0) (entry_terms k p) → All (λ t. P (in_component k t.0)) p
      unmap [] h = All-nil (λ (t : Monomial × F). P (in_component k t.0))
      unmap (t ∷ p) h =
          let Q : Term × F → Type 0 = λ u. P u.0 in
          All-cons (λ (t : Monomial × F). P (in_component k t.0)) t p (All-head Q (in_component k t.0, t.1) (entry_terms k p) h)
          (unmap p (All-tail Q (in_component k t.0, t.1) (entry_terms k p) h))
  entry-all P k (suc i) (p ∷ v) h l =
      let z : (k + 1) + i ≡ k + suc i = omega arith in
      let e = All-right (λ (t : Term × F). P t.0) (entry_terms k p) (terms_from (k + 1) v) h in
      subst (λ n. All (λ t. P (in_component n t.0)) (slice_index_or v i [])) z (entry-all P (k + 1) i v e (omega arith))

module _ {F : Type 0} {M : FreeModule F} (L : IsFreeModule M) where
  open M use {ring, width, cmp}

  abbrev laws : IsRing ring
  laws = L.field.is_ring

  abbrev comm : IsCommutative ring
  comm = L.field.commutes

  abbrev order : IsTermOrder width cmp
  order = L.order

  -- where no term of q gives anything, q g has no coefficient
  pub product-absent : (q : Poly F) (g : Vector F) (b : Term) → IsPoly ring q → IsIn M g
      → All (λ t. at_multiple L t.0 g b ≡ ring.zero) q → coefficient_at ring (vector_scale ring q g) b ≡ ring.zero
  product-absent q g b f h z =
      let T = term_setting laws comm in
      let d = delta T b in
      let dv = delta-value T b in
      let values = terms-values laws comm 1 g h.1 in
      total-delta T b _ (terms-values laws comm 1 _ (scale-vector laws comm width q g f h).1)
      ∙ functional-scale laws comm d dv 1 q g f h.1
      ∙ weighted-none (poly_setting laws comm) (on_multiple laws comm d dv 1 g) q (poly-values laws comm q f)
      (λ i t l. sym (total-shifted laws comm (slice_index_or q i t).0 (terms g) b values) ∙ z i t l)

  module _ {s : WithLeads F} (led : AreLed M s) {v qs r : Vector F} (hv : IsIn M v) (p : IsDivided M v s qs r) where
    quotient_poly : (i : ℕ) → i < length s.members → IsPoly ring (slice_index_or qs i [])
    quotient_poly i l = p.quotients.1 i [] (omega (arith, l, p.quotients.0))

    back : (i : ℕ) → (1 + i) - 1 ≡ i
    back i = omega arith

    -- what holds of the leads of the symbols holds of the products of the monomials of q_i with lead i
    of_quotient : (P : Term → Type 0) (i : ℕ) → i < length s.members → All (λ a. P (lead_times s a.0)) (terms qs)
        → All (λ t. P (times t.0 (lead_at s i))) (slice_index_or qs i [])
    of_quotient P i l h =
        let e = entry-all (λ a. P (lead_times s a)) 1 i qs h (omega (arith, l, p.quotients.0)) in
        All-weaker (λ (t : Monomial × F). P (lead_times s (in_component (1 + i) t.0))) (λ t. P (times t.0 (lead_at s i)))
        (λ t x. subst (λ k. P (times t.0 (lead_at s k))) (back i) x) (slice_index_or qs i []) e

    pub division_of : (d : ℕ) → HasDegree M d v → IsDivision M v s.members qs r
    division_of d hd =
        let product : ℕ → Vector F = λ i. vector_scale ring (slice_index_or qs i []) (member_at s i) in
        let product_in : (i : ℕ) → i < length s.members → IsIn M (product i) =
        λ i l. scale-vector laws comm width _ _ (quotient_poly i l) (led.vectors i [] l) in
        record {
          quotients = p.quotients;
          rest = p.rest;
          sum = p.sum;
          free = λ i t c l g.
              let e = (greatest-unique L (member_at s i) (lead_at s i) t (led.led i l).0 c (led.vectors i [] l) (led.led i l).1 g).0 in
              let i_lead : i < length s.leads = omega (arith, l, led.same_length) in
              subst (λ u. All (λ a. ¬ (TermDivides u a.0)) (terms r)) e
              (p.free i no_term i_lead);
          not_above = λ i u t c e l gp gv above.
              let hp = product_in i l in
              let a = greatest-at L (product i) u c hp gp in
              let tv = greatest-at L v t e hv gv in
              let lead = led.led i l in
              let lead_in = (greatest-at L (member_at s i) (lead_at s i) lead.0 (led.vectors i [] l) lead.1).0 in
              let q = quotient_poly i l in
              let below = of_quotient (λ x. cmp x t ≢ Greater) i l (p.not_above t e gv) in
              let all : All (λ w. at_multiple L w.0 (member_at s i) u ≡ ring.zero) (slice_index_or qs i []) =
              (λ k y n. zero_above i u t l a.0 tv.0 above (slice_index_or (slice_index_or qs i []) k y).0 (q.monomials k y n) (below k y n)) in
              a.2 (sym a.1 ∙ product-absent (slice_index_or qs i []) (member_at s i) u q (led.vectors i [] l) all);
          homogeneous = λ i dq l.
              let li : i < length s.members = omega (arith, l, p.quotients.0) in
              let lead = led.led i li in
              let lead_in = (greatest-at L (member_at s i) (lead_at s i) lead.0 (led.vectors i [] li) lead.1).0 in
              let h = of_quotient (λ x. degree_of M x ≡ d) i li (p.degrees d hd) in
              let q = quotient_poly i li in
              let all : IsHomogeneous ring (d - degree_of M (lead_at s i)) (slice_index_or qs i []) =
              λ k y n. let e = degree-times M (slice_index_or (slice_index_or qs i []) k y).0 (lead_at s i) (q.monomials k y n) lead_in.0 in
              let f = h k y n in omega (arith, e, f) in
              (d - degree_of M (lead_at s i), subst (IsHomogeneous ring (d - degree_of M (lead_at s i))) (get_or_default qs i [] dq l) all);
          degrees = λ n i h l.
              let hp = product_in i l in
              let lead = led.led i l in
              let lead_in = (greatest-at L (member_at s i) (lead_at s i) lead.0 (led.vectors i [] l) lead.1).0 in
              let q = quotient_poly i l in
              let of = of_quotient (λ x. degree_of M x ≡ n) i l (p.degrees n h) in
              all-terms laws comm width (product i) (λ b. degree_of M b ≡ n) hp (λ b hb nz.
              elim (cases_eq (degree_of M b) n) [
                | inl e ↦ e
                | inr o ↦ absurd (nz (product-absent (slice_index_or qs i []) (member_at s i) b q (led.vectors i [] l)
                    (λ k y m. zero_other i b n l lead_in.0 o (slice_index_or (slice_index_or qs i []) k y).0 (q.monomials k y m) (of k y m))))
              ]);
          rest_degrees = p.rest_degrees;
          of_zero = p.of_zero;
        }
      where
        zero_above : (i : ℕ) (u t : Term) → i < length s.members → IsTermWithin width u → IsTermWithin width t
            → cmp u t ≡ Greater
            → (m : Monomial) → IsMonomial m → cmp (times m (lead_at s i)) t ≢ Greater
            → at_multiple L m (member_at s i) u ≡ ring.zero
        zero_above i u t l hu ht above m im n =
            let lead = led.led i l in
            let lead_in = (greatest-at L (member_at s i) (lead_at s i) lead.0 (led.vectors i [] l) lead.1).0 in
            let ml = times-within width m (lead_at s i) im lead_in in
            let below = less-back order u t hu ht above in
            multiple-above L (member_at s i) (lead_at s i) lead.0 m (led.vectors i [] l) lead.1 im u
            (elim (cmp (times m (lead_at s i)) t) as (λ o. cmp (times m (lead_at s i)) t ≡ o → cmp (times m (lead_at s i)) u ≡ Less) [
              | Less ↦ λ e. order.transitive _ t u ml ht hu e below
              | Equal ↦ λ e. ap (λ w. cmp w u) (order.same _ t ml ht e) ∙ below
              | Greater ↦ λ e. absurd (n e)
            ] refl)

        zero_other : (i : ℕ) (b : Term) (n : ℕ) → i < length s.members → IsMonomial (lead_at s i).mono
            → degree_of M b ≢ n
            → (m : Monomial) → IsMonomial m → degree_of M (times m (lead_at s i)) ≡ n
            → at_multiple L m (member_at s i) b ≡ ring.zero
        zero_other i b n l im_lead o m im e =
            let lead = led.led i l in
            let d = degree-times M m (lead_at s i) im im_lead in
            multiple-other L (member_at s i) (lead_at s i) lead.0 m (led.vectors i [] l) lead.1 im (degree_of M (lead_at s i)) (led.homogeneous i l) b
            (λ f. o (f ∙ sym d ∙ e))
