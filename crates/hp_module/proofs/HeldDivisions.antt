-- A division with the terms of what is left, of the quotients and of the remainder in lists.
use Rattle.std.specs.Prelude.{◌≡◌, ◌≢◌, ℕ, zero, suc, ◌-◌, ◌<◌, List, [], ◌∷◌, ◌++◌, drop, set, map, length, All}
use Rattle.std.specs.declared.cmp.Ordering.{Ordering}
use Rattle.std.specs.declared.cmp.Ordering.TheVariants.{Less}
use Rattle.std.proofs.Common.{get_or}
use Rattle.std.proofs.lemmas.List.{ext_get_or, get_or-replicate, length-map, length-replicate}
use Rattle.std.proofs.lemmas.List.Elements.{All-contains, All-head, All-map, All-tail, All-nil}
use mathlib.Core.Path.{refl, sym, ap, ◌∙◌, subst}
use native.Mathlib.Omega.{arith}
use Rattle.hp_algebra.specs.Ring.{RingOf, IsField}
use Rattle.hp_mono.specs.declared.term.Term.{Term}
use Rattle.hp_mono.specs.Monomials.{Monomial}
use Rattle.hp_mono.specs.TermOrders.{IsTermOrder, IsTermWithin}
use Rattle.hp_sums.specs.FiniteSums.{HasValues}
use Rattle.hp_poly.specs.Polynomials.{Poly, poly_of}
use Rattle.hp_module.specs.Vectors.{Vector, zero_vector}
use Rattle.hp_module.specs.FreeModules.{FreeModule, IsFreeModule, IsIn, HasDegree, IsHomogeneousBy, degree_of, terms}
use Rattle.hp_module.specs.Leads.{AreLed, IsGreatestTerm, WithLeads, lead_at, member_at, no_term}
use Rattle.hp_module.specs.Divisions.{HasNoDivisor, IsDivided, IsDivision, IsMoved, IsSubtracted, IsUnderway, peak}
use Rattle.hp_module.specs.FallingTerms.{AreDivisors, AreFalling, Divisor, Divisors, free_module, vector_of, with_leads}
use Rattle.hp_module.proofs.GreatestTerms.{greatest-at, greatest-degree, greatest-unique}
use Rattle.hp_module.proofs.VectorCoefficients.{coefficient-value}
use Rattle.hp_module.proofs.DivisionForms.{division_of}
use Rattle.hp_module.proofs.DivisionSteps.{divide_begin, divide_end, move_step, moved_falls, subtract_step, subtracted_falls}
use Rattle.hp_module.proofs.DividedParts.{drop-falling, parts-greatest, parts-vector, parts-zero, push-values, vector_of-drop, vector_of-push}

pub record IsHeld {F : Type 0} (M : FreeModule F) (s : WithLeads F) (v rest qs out : Vector F) : Type 0 where
  pub falling : AreFalling M.ring M.cmp M.width rest
  pub quotient_values : All (HasValues M.ring) qs
  pub out_values : All (HasValues M.ring) out
  pub underway : IsUnderway M s v (vector_of M.ring rest) (vector_of M.ring qs) (vector_of M.ring out)

vector_of-zeros : {F : Type 0} (ring : RingOf F) (n : ℕ) → vector_of ring (zero_vector ring n) ≡ zero_vector ring n
vector_of-zeros ring zero = refl
vector_of-zeros ring (suc n) = ap (λ v. [] ∷ v) (vector_of-zeros ring n)

zeros-values : {F : Type 0} (ring : RingOf F) (n : ℕ) → All (HasValues ring) (zero_vector ring n)
zeros-values {F} ring n = λ j d l.
    subst (HasValues ring) (sym (get_or-replicate n j [] d (omega (arith, l, length-replicate {A = List (Monomial × F)} n []))))
    (All-nil (λ (t : Monomial × F). ring.IsValue t.1))

module _ {F : Type 0} {ring : RingOf F} {inverse : F → F} (field : IsField ring inverse) (cmp : Term → Term → Ordering) (width : ℕ)
    (order : IsTermOrder width cmp) (shifts : List ℕ) where
  abbrev M : FreeModule F
  M = free_module ring inverse width shifts cmp

  abbrev L : IsFreeModule M
  L = record { field = field; order = order }

  module _ {s : WithLeads F} (led : AreLed M s) {v : Vector F} (hv : IsIn M v) where
    pub held-begin : {rest qs out : Vector F} → AreFalling ring cmp width rest → vector_of ring rest ≡ v
        → qs ≡ zero_vector ring (length s.members) → out ≡ zero_vector ring width → IsHeld M s v rest qs out
    held-begin {rest} {qs} {out} f e eq eo = record {
      falling = f;
      quotient_values = subst (All (HasValues ring)) (sym eq) (zeros-values ring (length s.members));
      out_values = subst (All (HasValues ring)) (sym eo) (zeros-values ring width);
      underway = subst (λ w. IsUnderway M s v w (vector_of ring qs) (vector_of ring out)) (sym e)
          (divide_begin L led hv (ap (vector_of ring) eq ∙ vector_of-zeros ring (length s.members)) (ap (vector_of ring) eo ∙ vector_of-zeros ring width));
    }

    module _ (d : ℕ) (hd : HasDegree M d v) {rest qs out : Vector F} (u : IsHeld M s v rest qs out) where
      -- the lead of what is left has the degree of the divided vector
      pub held-degree : (t : Term) (c : F) → IsGreatestTerm cmp (vector_of ring rest) t c → degree_of M t ≡ d
      held-degree t c g = (All-contains (λ (y : Term × F). Rattle.hp_module.specs.Divisions.IsUnder M v y.0) (terms (vector_of ring rest)) (t, c) u.underway.rest_under g.occurs).1 d hd

      -- the first term of a component that no other is above is the lead of what is left
      pub held-lead : {parts : Vector F} → parts ≡ rest → (t : Term) (c : F) → IsTermWithin width t
          → ((p : Poly F) × (get_or parts (t.comp - 1) [] ≡ (t.mono, c) ∷ p)) → All (λ s. cmp t s.0 ≢ Less) (terms parts)
          → IsGreatestTerm cmp (vector_of ring rest) t c
      held-lead {parts} e t c w first g =
          parts-greatest field cmp width order rest u.falling t c w
          (subst (λ r. (p : Poly F) × (get_or r (t.comp - 1) [] ≡ (t.mono, c) ∷ p)) e first)
          (subst (λ r. All (λ (s : Term × F). cmp t s.0 ≢ Less) (terms r)) e g)

      pub held-long : length qs ≡ length s.members
      held-long = omega (arith, length-map qs (poly_of ring), u.underway.qs_vector.0)

      pub held-subtract : {j : ℕ} {t : Term} {rest' qs' : Vector F} → j < length s.members → AreFalling ring cmp width rest'
          → All (HasValues ring) qs'
          → IsSubtracted M s j t (vector_of ring rest) (vector_of ring qs) (vector_of ring rest') (vector_of ring qs')
          → IsHeld M s v rest' qs' out
      held-subtract l f h p = record {
        falling = f;
        quotient_values = h;
        out_values = u.out_values;
        underway = subtract_step L led hv d hd u.underway l p;
      }

      pub held-subtract-falls : {j : ℕ} {t : Term} (rest' qs' : Vector F) → j < length s.members
          → IsSubtracted M s j t (vector_of ring rest) (vector_of ring qs) (vector_of ring rest') (vector_of ring qs')
          → peak M (terms (vector_of ring rest')) < peak M (terms (vector_of ring rest))
      held-subtract-falls rest' qs' l p = subtracted_falls L led hv d hd u.underway l p

      module _ {t : Term} {c : F} (w : IsTermWithin width t) (top : IsGreatestTerm cmp (vector_of ring rest) t c)
          (first : (p : Poly F) × (get_or rest (t.comp - 1) [] ≡ (t.mono, c) ∷ p)) {rest' out' : Vector F}
          (rest_is : rest' ≡ set rest (t.comp - 1) (drop 1 (get_or rest (t.comp - 1) [])))
          (out_is : out' ≡ set out (t.comp - 1) (get_or out (t.comp - 1) [] ++ (t.mono, c) ∷ [])) where
        inside : t.comp - 1 < width
        inside = omega (arith, w.1, w.2)

        out_inside : t.comp - 1 < length out
        out_inside = omega (arith, inside, length-map out (poly_of ring), u.underway.out_vector.0)

        vc : ring.IsValue c
        vc =
            subst ring.IsValue (greatest-at L (vector_of ring rest) t c u.underway.rest_vector top).1
            (coefficient-value field.is_ring field.commutes width (vector_of ring rest) t u.underway.rest_vector)

        moved : IsMoved M t (vector_of ring rest) (vector_of ring out) (vector_of ring rest') (vector_of ring out')
        moved = record {
          first = c;
          rest_first = top;
          rest_is = vector_of-drop field cmp width order rest rest' t c u.falling inside first rest_is;
          out_is = vector_of-push field cmp width order out out' t c u.out_values out_inside vc out_is;
        }

        pub held-move : HasNoDivisor s t → IsHeld M s v rest' qs out'
        held-move none = record {
          falling = drop-falling field cmp width order rest rest' t c u.falling inside first rest_is;
          quotient_values = u.quotient_values;
          out_values = push-values field cmp width order out out' t c u.out_values out_inside vc out_is;
          underway = move_step L led hv d hd u.underway moved none;
        }

        pub held-move-falls : peak M (terms (vector_of ring rest')) < peak M (terms (vector_of ring rest))
        held-move-falls = moved_falls L led hv d hd u.underway moved

    pub held-end : {rest qs out : Vector F} → IsHeld M s v rest qs out → terms rest ≡ []
        → IsDivided M v s (vector_of ring qs) (vector_of ring out)
    held-end {rest} u e = divide_end L led hv u.underway (parts-zero field cmp width order rest u.falling e)

  -- ---- the members and their leads

  each-at : {X Y Z : Type 0} (f : X → Y) (g : X → Z) (R : Y → Z → Type 0) (xs : List X) → All (λ x. R (f x) (g x)) xs → (i : ℕ)
      (y : Y) (z : Z) → i < length (map f xs) → R (get_or (map f xs) i y) (get_or (map g xs) i z)
  each-at f g R [] h i y z l = absurd (omega (arith, l))
  each-at f g R (x ∷ xs) h zero y z l = All-head (λ x. R (f x) (g x)) x xs h
  each-at f g R (x ∷ xs) h (suc i) y z l = each-at f g R xs (All-tail (λ x. R (f x) (g x)) x xs h) i y z (omega (arith, l))

  pub divisors-led : {d : Divisors F} {basis : List (Vector F)} → AreDivisors ring cmp width d → (with_leads ring d).members ≡ basis
      → All (IsHomogeneousBy shifts) basis → AreLed M (with_leads ring d)
  divisors-led {d} {basis} a e h =
      let s = with_leads ring d in
      let f : Divisor F → Vector F = λ m. vector_of ring m.parts in
      let g : Divisor F → Term = λ m. m.lead in
      let R : Vector F → Term → Type 0 = λ v t. (c : F) × IsGreatestTerm cmp v t c in
      let led : (i : ℕ) → i < length s.members → R (member_at s i) (lead_at s i) =
      λ i l. each-at f g R d.members (λ j x n. let w = a.members j x n in (w.first, w.greatest)) i [] no_term l in
      let graded = subst (All (IsHomogeneousBy shifts)) (sym e) h in
      record {
        vectors = All-map (IsIn M) f d.members (λ j x n. parts-vector field cmp width order _ (a.members j x n).falling);
        same_length = length-map d.members g ∙ sym (length-map d.members f);
        led = led;
        homogeneous = λ i l.
            let w = graded i [] l in
            let o = led i l in
            subst (λ n. HasDegree M n (member_at s i)) (sym (greatest-degree L (member_at s i) (lead_at s i) o.0 w.0 o.1 w.1)) w.1;
      }

  pub same-leads : {s : WithLeads F} {leads : List Term} → AreLed M s → AreLed M (record { members = s.members; leads = leads }) → s.leads ≡ leads
  same-leads {s} {leads} a b =
      ext_get_or no_term s.leads leads (a.same_length ∙ sym b.same_length) (λ i l.
      let n : i < length s.members = omega (arith, l, a.same_length) in
      (greatest-unique L (member_at s i) _ _ _ _ (a.vectors i [] n) (a.led i n).1 (b.led i n).1).0)

  -- the division by a list of vectors
  pub divided-by : (d : Divisors F) {basis : List (Vector F)} {v qs r : Vector F} → IsIn M v → AreLed M (with_leads ring d)
      → (with_leads ring d).members ≡ basis → IsDivided M v (with_leads ring d) qs r → (n : ℕ) → HasDegree M n v
      → IsDivision M v basis qs r
  divided-by d {basis} {v} {qs} {r} hv led e p n hd = subst (λ b. IsDivision M v b qs r) e (division_of L led hv p n hd)

  pub divided-leads : (d : Divisors F) {basis : List (Vector F)} {v qs r : Vector F} → AreLed M (with_leads ring d)
      → (with_leads ring d).members ≡ basis → IsDivided M v (with_leads ring d) qs r → (leads : List Term)
      → AreLed M (record { members = basis; leads = leads }) → IsDivided M v (record { members = basis; leads = leads }) qs r
  divided-leads d {basis} {v} {qs} {r} led e p leads b =
      let s = with_leads ring d in
      let same = same-leads led (subst (λ m. AreLed M (record { members = m; leads = leads })) (sym e) b) in
      subst (λ m. IsDivided M v (record { members = m; leads = leads }) qs r) e
      (subst (λ l. IsDivided M v (record { members = s.members; leads = l }) qs r) same p)
