-- Over a field in which 1 and -1 may be equal, a family has too many forms or at most one.
use Rattle.std.proofs.Common.{◌≡◌, ◌≢◌, ◌⊎◌, ℕ, ◌+◌, ◌<◌, ◌≤◌, List, [], ◌∷◌, ◌++◌, flat_map, length, length-append, append-nil, None, refl, sym, ap, subst, ◌∙◌, inl, inr, arith}
use Rattle.std.proofs.lemmas.Bool.{cases_lt}
use Rattle.std.proofs.lemmas.List.{length-map}
use Rattle.std.proofs.lemmas.List.FromFn.{length-range_with_len}
use Rattle.hp_algebra.specs.Ring.{RingOf, Numbering, IsRing, IsNumbering}
use Rattle.hp_lists.specs.Lists.{one_to}
use Rattle.hp_algebra.specs.Rows.{unit_row}
use Rattle.hp_lists.proofs.Members.{Contains-none}
use Rattle.hp_arr.specs.FormFaults.{too_many_fault}
use Rattle.hp_arr.proofs.Faultless.{too_many-none_at}
use Rattle.hp_build.specs.Families.{pairs, difference, sum_form, boolean, type_b, type_d}
use Rattle.hp_build.proofs.FamilyForms.{boolean-simple, type_b-simple, type_d-simple, one-minus_one}
use Rattle.hp_build.proofs.Simple.{IsSimple}

module _ {K : Type 0} {ring : RingOf K} {numbers : Numbering K} (laws : IsRing ring) (numbering : IsNumbering ring numbers) (one_zero : ring.one ≢ ring.zero) where
  abbrev both : ℕ → ℕ × ℕ → List (List K)
  both r e = difference ring r e.0 e.1 ∷ sum_form ring r e.0 e.1 ∷ []

  none_of_one : (r : ℕ) (es : List (ℕ × ℕ)) → length (flat_map (both r) es) ≤ 1 → flat_map (both r) es ≡ []
  none_of_one r [] few = refl
  none_of_one r (e ∷ es) few = absurd (omega (arith, few))

  -- where they are not too many, the forms of type D are simple
  pub type_d-simple_few : (r : ℕ) → too_many_fault numbers (type_d ring r).forms ≡ None → IsSimple ring r (type_d ring r).forms
  type_d-simple_few r few = step (cases_lt numbers.order 3)
    where
      below : (b n : ℕ) → n < b → b < 3 → n ≤ 1
      below b n l h = omega arith

      none : IsSimple ring r []
      none = record { rows = λ a c. absurd (Contains-none a c); no_zero = λ a c. absurd (Contains-none a c); no_multiple = tt }

      step : (numbers.order < 3) ⊎ (3 ≤ numbers.order) → IsSimple ring r (type_d ring r).forms
      step (inl small) = subst (IsSimple ring r) (sym (none_of_one r (pairs r) (below numbers.order _ ((too_many-none_at numbers (type_d ring r).forms few).1) small))) none
      step (inr odd) = type_d-simple laws one_zero (one-minus_one laws numbering odd) r

  -- and those of type B
  pub type_b-simple_few : (r : ℕ) → 1 ≤ r → too_many_fault numbers (type_b ring r).forms ≡ None → IsSimple ring r (type_b ring r).forms
  type_b-simple_few r low few = step (cases_lt numbers.order 3)
    where
      below : (b r all first rest : ℕ) → all ≡ first + rest → first ≡ r → 1 ≤ r → all < b → b < 3 → rest ≤ 1
      below b r all first rest e f low l h = omega arith

      step : (numbers.order < 3) ⊎ (3 ≤ numbers.order) → IsSimple ring r (type_b ring r).forms
      step (inl small) =
          let all = length-append (boolean ring r).forms (type_d ring r).forms in
          let first : length (boolean ring r).forms ≡ r = length-map (one_to r) (unit_row ring r) ∙ length-range_with_len 1 r in
          let rest = none_of_one r (pairs r) (below numbers.order r _ _ _ all first low ((too_many-none_at numbers (type_b ring r).forms few).1) small) in
          subst (IsSimple ring r) (sym (ap (λ s. (boolean ring r).forms ++ s) rest ∙ append-nil (boolean ring r).forms)) (boolean-simple laws one_zero r)
      step (inr odd) = type_b-simple laws one_zero (one-minus_one laws numbering odd) r
