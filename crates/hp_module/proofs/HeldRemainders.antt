-- A division that keeps no quotients: what is left and the remainder, in lists of terms; that quotients exist is enough.
use Rattle.std.specs.Prelude.{◌≡◌, ◌≢◌, ℕ, ◌+◌, ◌-◌, ◌<◌, List, [], ◌∷◌, ◌++◌, drop, set, length, All}
use Rattle.std.specs.declared.cmp.Ordering.{Ordering}
use Rattle.std.specs.declared.cmp.Ordering.TheVariants.{Less}
use Rattle.std.proofs.Common.{get_or}
use Rattle.std.proofs.lemmas.List.{length-map}
use Rattle.std.proofs.lemmas.List.Elements.{All-contains}
use mathlib.Core.Path.{refl, subst}
use native.Mathlib.Omega.{arith}
use Rattle.hp_algebra.specs.Ring.{RingOf, IsField}
use Rattle.hp_mono.specs.declared.term.Term.{Term}
use Rattle.hp_mono.specs.TermOrders.{IsTermOrder, IsTermWithin}
use Rattle.hp_sums.specs.FiniteSums.{HasValues}
use Rattle.hp_poly.specs.Polynomials.{Poly, poly_of}
use Rattle.hp_module.specs.Vectors.{Vector, zero_vector}
use Rattle.hp_module.specs.FreeModules.{FreeModule, IsFreeModule, IsIn, HasDegree, degree_of, plus_term, terms}
use Rattle.hp_module.specs.Leads.{AreLed, IsGreatestTerm, WithLeads}
use Rattle.hp_module.specs.Divisions.{HasNoDivisor, IsDivided, IsMoved, IsSubtracted, IsTaken, IsUnderway, peak}
use Rattle.hp_module.specs.FallingTerms.{AreFalling, free_module, vector_of}
use Rattle.hp_module.proofs.GreatestTerms.{greatest-at}
use Rattle.hp_module.proofs.VectorCoefficients.{coefficient-value}
use Rattle.hp_module.proofs.DivisionSteps.{divide_end, move_step, moved_falls, subtract_step, subtracted_falls}
use Rattle.hp_module.proofs.DividedParts.{drop-falling, parts-greatest, parts-zero, push-values, vector_of-drop, vector_of-push}
use Rattle.hp_module.proofs.HeldDivisions.{held-begin}

-- What is left falls, and with some quotients the division is under way.
pub record IsLeft {F : Type 0} (M : FreeModule F) (s : WithLeads F) (v rest out : Vector F) : Type 0 where
  pub falling : AreFalling M.ring M.cmp M.width rest
  pub out_values : All (HasValues M.ring) out
  pub quotients : Vector F
  pub underway : IsUnderway M s v (vector_of M.ring rest) quotients (vector_of M.ring out)

module _ {F : Type 0} {ring : RingOf F} {inverse : F → F} (field : IsField ring inverse) (cmp : Term → Term → Ordering) (width : ℕ)
    (order : IsTermOrder width cmp) (shifts : List ℕ) where
  abbrev M : FreeModule F
  M = free_module ring inverse width shifts cmp

  abbrev L : IsFreeModule M
  L = record { field = field; order = order }

  module _ {s : WithLeads F} (led : AreLed M s) {v : Vector F} (hv : IsIn M v) where
    -- nothing is divided yet
    pub left-begin : {rest out : Vector F} → AreFalling ring cmp width rest → vector_of ring rest ≡ v → out ≡ zero_vector ring width
        → IsLeft M s v rest out
    left-begin {rest} {out} f e eo =
        let zeros = zero_vector ring (length s.members) in
        let h = held-begin field cmp width order shifts led hv {rest = rest} {qs = zeros} {out = out} f e refl eo in
        record { falling = f; out_values = h.out_values; quotients = vector_of ring zeros; underway = h.underway }

    module _ (d : ℕ) (hd : HasDegree M d v) {rest out : Vector F} (u : IsLeft M s v rest out) where
      -- the lead of what is left has the degree of the divided vector
      pub left-degree : (t : Term) (c : F) → IsGreatestTerm cmp (vector_of ring rest) t c → degree_of M t ≡ d
      left-degree t c g =
          (All-contains (λ (y : Term × F). Rattle.hp_module.specs.Divisions.IsUnder M v y.0) (terms (vector_of ring rest)) (t, c) u.underway.rest_under g.occurs).1 d hd

      -- the first term of a component that no other is above is the lead of what is left
      pub left-lead : {parts : Vector F} → parts ≡ rest → (t : Term) (c : F) → IsTermWithin width t
          → ((p : Poly F) × (get_or parts (t.comp - 1) [] ≡ (t.mono, c) ∷ p)) → All (λ s. cmp t s.0 ≢ Less) (terms parts)
          → IsGreatestTerm cmp (vector_of ring rest) t c
      left-lead {parts} e t c w first g =
          parts-greatest field cmp width order rest u.falling t c w
          (subst (λ r. (p : Poly F) × (get_or r (t.comp - 1) [] ≡ (t.mono, c) ∷ p)) e first)
          (subst (λ r. All (λ (s : Term × F). cmp t s.0 ≢ Less) (terms r)) e g)

      module _ {j : ℕ} {t : Term} (l : j < length s.members) (rest' : Vector F) (p : IsTaken M s j t (vector_of ring rest) (vector_of ring rest')) where
        -- with the quotients that are not kept
        subtracted : IsSubtracted M s j t (vector_of ring rest) u.quotients (vector_of ring rest')
            (plus_term ring u.quotients (record { mono = p.mono; comp = j + 1 }) p.factor)
        subtracted = record {
          mono = p.mono;
          is_mono = p.is_mono;
          is_lead = p.is_lead;
          first = p.first;
          rest_first = p.rest_first;
          member_first = p.member_first;
          member_lead = p.member_lead;
          factor = p.factor;
          factor_value = p.factor_value;
          factor_is = p.factor_is;
          rest_is = p.rest_is;
          quotients_are = refl;
        }

        pub left-taken : AreFalling ring cmp width rest' → IsLeft M s v rest' out
        left-taken f = record {
          falling = f;
          out_values = u.out_values;
          quotients = plus_term ring u.quotients (record { mono = p.mono; comp = j + 1 }) p.factor;
          underway = subtract_step L led hv d hd u.underway l subtracted;
        }

        pub left-taken-falls : peak M (terms (vector_of ring rest')) < peak M (terms (vector_of ring rest))
        left-taken-falls = subtracted_falls L led hv d hd u.underway l subtracted

      module _ {t : Term} {c : F} (w : IsTermWithin width t) (top : IsGreatestTerm cmp (vector_of ring rest) t c)
          (first : (p : Poly F) × (get_or rest (t.comp - 1) [] ≡ (t.mono, c) ∷ p)) {rest' out' : Vector F}
          (rest_is : rest' ≡ set rest (t.comp - 1) (drop 1 (get_or rest (t.comp - 1) [])))
          (out_is : out' ≡ set out (t.comp - 1) (get_or out (t.comp - 1) [] ++ (t.mono, c) ∷ [])) where
        inside : t.comp - 1 < width
        inside = omega (arith, w.1, w.2)

        out_inside : t.comp - 1 < length out
        out_inside = omega (arith, inside, length-map out (poly_of ring), u.underway.out_vector.0)

        vc : ring.IsValue c
        vc =
            subst ring.IsValue (greatest-at L (vector_of ring rest) t c u.underway.rest_vector top).1
            (coefficient-value field.is_ring field.commutes width (vector_of ring rest) t u.underway.rest_vector)

        moved : IsMoved M t (vector_of ring rest) (vector_of ring out) (vector_of ring rest') (vector_of ring out')
        moved = record {
          first = c;
          rest_first = top;
          rest_is = vector_of-drop field cmp width order rest rest' t c u.falling inside first rest_is;
          out_is = vector_of-push field cmp width order out out' t c u.out_values out_inside vc out_is;
        }

        pub left-moved : HasNoDivisor s t → IsLeft M s v rest' out'
        left-moved none = record {
          falling = drop-falling field cmp width order rest rest' t c u.falling inside first rest_is;
          out_values = push-values field cmp width order out out' t c u.out_values out_inside vc out_is;
          quotients = u.quotients;
          underway = move_step L led hv d hd u.underway moved none;
        }

        pub left-moved-falls : peak M (terms (vector_of ring rest')) < peak M (terms (vector_of ring rest))
        left-moved-falls = moved_falls L led hv d hd u.underway moved

    -- At the end the vector is divided, with some quotients.
    pub left-end : {rest out : Vector F} → IsLeft M s v rest out → terms rest ≡ []
        → (qs : Vector F) × IsDivided M v s qs (vector_of ring out)
    left-end {rest} u e = (u.quotients, divide_end L led hv u.underway (parts-zero field cmp width order rest u.falling e))
