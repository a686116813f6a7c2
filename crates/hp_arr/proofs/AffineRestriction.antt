-- The restriction of an affine arrangement is one.
use Rattle.std.specs.Prelude.{◌≡◌, ◌≢◌, ℕ, ◌+◌, ◌-◌, ◌<◌, ◌≤◌, Bool, true, false, not, ◌&&◌, List, [], ◌∷◌, map, filter, take, drop, length, All, slice_get, Some, remove}
use Rattle.std.proofs.Common.{get_or, refl, sym, ap, ◌∙◌, subst, inl, inr, arith}
use Rattle.std.proofs.lemmas.Bool.{false≢true, cases_order, not-true}
use Rattle.std.proofs.lemmas.Option.{slice_get_within, slice_get-get_or, get_or_from_slice_get}
use Rattle.std.proofs.lemmas.List.{length-map, take-map, take-append-drop, length-take-le, get_or-take}
use Rattle.std.proofs.lemmas.List.Elements.{All-head, All-tail, All-map, All-filter, All-take, Contains-get_or}
use Rattle.hp_lists.proofs.Members.{filter-Contains}
use Rattle.std.proofs.lemmas.List.Sums.{length-filter, count_by-le-length}
use Rattle.std.proofs.lemmas.List.Folds.{list_all-append}
use Rattle.hp_algebra.specs.Rows.{IsRow, IsMultiple, entry, is_zero_row, row_scale, same_row}
use Rattle.hp_algebra.proofs.RowDifferences.{same_row-self}
use Rattle.hp_arr.specs.Arrangement.{form, IsAffineArrangement}
use Rattle.hp_arr.specs.Operations.{first_copies, normalised, deletion, last_place, restricted_form, restriction}
use Rattle.hp_arr.proofs.NonzeroPlaces.{IsLastNonzero, last_nonzero, last_place-is, first_nonzero, first_entry}
use Rattle.hp_arr.proofs.NormalRows.{IsNormal, normal-same, normalised-normal, normalised-row}
use Rattle.hp_arr.proofs.FirstCopies.{All-first_copies, length-first_copies, first_copies-apart}
use Rattle.hp_arr.proofs.ConePoints.{AffineSetting, n, finite, form-row}
use Rattle.hp_arr.proofs.AffineDeletion.{deletion-lawful, fewer, apart_from}
use Rattle.hp_arr.proofs.ClearedRows.{IsNonzeroAt, cleared, restricted-row, restricted-nonzero}
use Rattle.hp_arr.proofs.RestrictedZeros.{inverse-zero}

module _ {K : Type 0} (A : AffineSetting K) (i : ℕ) (low : 1 ≤ i) (high : i ≤ n A) where
  open A use {ring, inverse, numbers, arr, field, num, lawful}

  abbrev pub a : List K
  a = form A.arr i

  abbrev pub others : List (List K)
  others = (deletion A.arr i).forms

  inside : i - 1 < length arr.forms
  inside = omega (arith, low, high)

  pub a-row : IsRow ring (arr.dim + 1) a
  a-row = form-row A i (low, high)

  -- the last place of its coefficients that is not zero
  pub last : (k : ℕ) × IsLastNonzero field.is_ring (take arr.dim a) k
  last = last_nonzero field.is_ring (take arr.dim a) (All-take ring.IsValue arr.dim a a-row.1) (lawful.no_zero (i - 1) [] inside)

  taken : (xs : List K) (m k : ℕ) → m ≤ length xs → k < length (take m xs) → (k < m) × (entry ring (take m xs) k ≡ entry ring xs k)
  taken xs m k l h = (within xs m k l h, same xs m k l h)
    where
      within : (xs : List K) (m k : ℕ) → m ≤ length xs → k < length (take m xs) → k < m
      within xs m k l h = let e = length-take-le m xs l in omega (arith, h, e)

      same : (xs : List K) (m k : ℕ) → m ≤ length xs → k < length (take m xs) → entry ring (take m xs) k ≡ entry ring xs k
      same xs m k l h = get_or-take m xs k ring.zero (within xs m k l h)

  pub place-low : last.0 < arr.dim
  place-low = (taken a arr.dim last.0 (let w = a-row.0 in omega (arith, w)) last.1.within).0

  pub nonzero-at : IsNonzeroAt ring a last.0
  nonzero-at = record {
    within = let w = a-row.0 in let l = place-low in omega (arith, w, l);
    nonzero = λ e. last.1.nonzero ((taken a arr.dim last.0 (let w = a-row.0 in omega (arith, w)) last.1.within).1 ∙ e);
  }

  place-is : last_place ring (take arr.dim a) ≡ last.0
  place-is = last_place-is field.is_ring (take arr.dim a) (All-take ring.IsValue arr.dim a a-row.1) last.0 last.1

  -- ---- one row on the hyperplane of row i

  abbrev pub restricted : List K → List K
  restricted b = restricted_form A.ring A.inverse A.arr.dim (form A.arr i) b

  pub restricted-at : (b : List K) → restricted b ≡ remove (cleared field a b last.0) last.0
  restricted-at b = ap (λ j. remove (cleared field a b j) j) place-is

  pub other-row : (k : ℕ) → k < length others → IsRow ring (arr.dim + 1) (get_or others k [])
  other-row k h = (deletion-lawful A i low high).rows k [] h

  pub other-apart : (k : ℕ) → k < length others → ¬ (IsMultiple ring (get_or others k []) a)
  other-apart k h = apart_from A i low high k a (get_or others k []) (slice_get-get_or others k [] h) (slice_get-get_or arr.forms (i - 1) [] inside)

  pub restricted-is_row : (b : List K) → IsRow ring (arr.dim + 1) b → IsRow ring arr.dim (restricted b)
  restricted-is_row b r =
      subst (IsRow ring arr.dim) (sym (restricted-at b))
      (subst (λ d. IsRow ring d (remove (cleared field a b last.0) last.0)) (back arr.dim (length a) a-row.0)
      (restricted-row field a b last.0 a-row.1 r.1 (r.0 ∙ sym a-row.0) nonzero-at))
    where
      back : (d w : ℕ) → w ≡ d + 1 → w - 1 ≡ d
      back d w e = omega (arith, e)

  pub restricted-not_zero : (b : List K) → IsRow ring (arr.dim + 1) b → ¬ (IsMultiple ring b a) → is_zero_row ring (restricted b) ≡ false
  restricted-not_zero b r apart = ap (is_zero_row ring) (restricted-at b) ∙ restricted-nonzero field a b last.0 a-row.1 r.1 (r.0 ∙ sym a-row.0) nonzero-at apart

  -- whether the hyperplane of the row meets H_i and is kept
  abbrev pub stays : List K → Bool
  stays b = not (is_zero_row A.ring (take (A.arr.dim - 1) b))

  pub whole-nonzero : (b : List K) → stays b ≡ true → is_zero_row ring b ≡ false
  whole-nonzero b h =
      ap (is_zero_row ring) (sym (take-append-drop (arr.dim - 1) b)) ∙ list_all-append ring.is_zero (take (arr.dim - 1) b) (drop (arr.dim - 1) b)
      ∙ ap (λ c. c && is_zero_row ring (drop (arr.dim - 1) b)) (not-true (is_zero_row ring (take (arr.dim - 1) b)) h)

  -- a row that is divided by its first entry keeps its zeros
  scaled-zeros : (c : K) (xs : List K) → ring.IsValue c → c ≢ ring.zero → All ring.IsValue xs → is_zero_row ring (row_scale ring (inverse c) xs) ≡ is_zero_row ring xs
  scaled-zeros c [] v nz vx = refl
  scaled-zeros c (x ∷ xs) v nz vx =
      λ j. inverse-zero (finite A) c x v nz (All-head ring.IsValue x xs vx) j && scaled-zeros c xs v nz (All-tail ring.IsValue x xs vx) j

  pub normalised-stays : (b : List K) → All ring.IsValue b → stays b ≡ true → stays (normalised ring inverse b) ≡ true
  normalised-stays b v h =
      let nz = whole-nonzero b h in
      let at = first_nonzero field.is_ring b v nz in
      let e = entry ring b at.0 in
      ap not (ap (λ c. is_zero_row ring (take (arr.dim - 1) (row_scale ring (inverse c) b))) (first_entry field.is_ring b v at.0 at.1)
      ∙ ap (is_zero_row ring) (take-map (ring.mul (inverse e)) (arr.dim - 1) b)
      ∙ scaled-zeros e (take (arr.dim - 1) b) (v at.0 ring.zero at.1.within) at.1.nonzero (All-take ring.IsValue (arr.dim - 1) b v)) ∙ h

  -- ---- all rows

  abbrev pub staying : List (List K)
  staying = filter stays (map restricted others)

  abbrev pub kept : List (List K)
  kept = first_copies A.ring (map (normalised A.ring A.inverse) staying)

  abbrev Good : List K → Type 0
  Good b = (IsRow A.ring A.arr.dim b × IsNormal A.field b) × (stays b ≡ true)

  staying-rows : All (λ b. IsRow ring arr.dim b × (stays b ≡ true)) staying
  staying-rows k d h = (
    All-filter stays (IsRow ring arr.dim) (map restricted others) (All-map (IsRow ring arr.dim) restricted others (λ j e l. restricted-is_row (get_or others j e) ((deletion-lawful A i low high).rows j e l))) k d h,
    (filter-Contains stays (map restricted others) (get_or staying k d) (Contains-get_or staying k d h)).1,
  )

  kept-good : All Good kept
  kept-good = All-first_copies ring Good (map (normalised ring inverse) staying) (All-map Good (normalised ring inverse) staying (λ k d h.
      let b = get_or staying k d in
      let r = staying-rows k d h in
      let nz = whole-nonzero b r.1 in
      ((normalised-row field b r.0.1 nz arr.dim r.0.0, normalised-normal field b r.0.1 nz), normalised-stays b r.0.1 r.1)))

  kept-few : length kept ≤ length others
  kept-few =
      let few = length-first_copies ring (map (normalised ring inverse) staying) in
      let same = length-map staying (normalised ring inverse) in
      let less = length-filter stays (map restricted others) in
      let most = count_by-le-length stays (map restricted others) in
      let all = length-map others restricted in
      omega (arith, few, same, less, most, all)

  -- a later kept row is no copy of an earlier one
  kept-differ : (p q : ℕ) → p < q → q < length kept → get_or kept p [] ≢ get_or kept q []
  kept-differ p q before within e =
      let row = (kept-good p [] (omega (arith, before, within))).0.0 in
      false≢true (sym (first_copies-apart ring (map (normalised ring inverse) staying) p q [] before within)
      ∙ ap (same_row ring (get_or kept p [])) (sym e) ∙ same_row-self field.is_ring (get_or kept p []) row.1)

  kept-apart : (p q : ℕ) (x y : List K) → p ≢ q → slice_get kept p ≡ Some x → slice_get kept q ≡ Some y → ¬ (IsMultiple ring x y)
  kept-apart p q x y differ at_p at_q multiple =
      elim (cases_order p q) [
        | inl same ↦ differ same
        | inr apart ↦ elim apart [
          | inl before ↦ kept-differ p q before in_q (here ∙ equal ∙ sym there)
          | inr behind ↦ kept-differ q p behind in_p (there ∙ sym equal ∙ sym here)
        ]
      ]
    where
      in_p : p < length kept
      in_p = slice_get_within kept p x at_p

      in_q : q < length kept
      in_q = slice_get_within kept q y at_q

      here : get_or kept p [] ≡ x
      here = get_or_from_slice_get kept p x [] at_p

      there : get_or kept q [] ≡ y
      there = get_or_from_slice_get kept q y [] at_q

      equal : x ≡ y
      equal =
          let good_x = subst Good here (kept-good p [] in_p) in
          let good_y = subst Good there (kept-good q [] in_q) in
          normal-same field x y good_y.0.0.1 good_x.0.1 good_y.0.1 multiple

  pub restriction-lawful : 2 ≤ arr.dim → IsAffineArrangement ring numbers (restriction ring inverse arr i)
  unfolding restriction
  restriction-lawful two =
      let few = kept-few in
      let one = fewer A i low high in
      let most = lawful.few_forms in
      let below = lawful.below_order in
      let greatest = lawful.dim_high in
      record {
        dim_low = omega (arith, two);
        dim_high = omega (arith, greatest);
        rows = λ k d h. subst (λ l. IsRow ring l (get_or kept k d)) (up arr.dim two) (kept-good k d h).0.0;
        few_forms = omega (arith, few, one, most);
        below_order = omega (arith, few, one, below);
        no_zero = λ k d h. not-true (is_zero_row ring (take (arr.dim - 1) (get_or kept k d))) (kept-good k d h).1;
        no_multiple = kept-apart;
      }
    where
      up : (d : ℕ) → 2 ≤ d → d ≡ (d - 1) + 1
      up d t = omega (arith, t)
