-- A list of rows with constants that has no fault is the list of an affine arrangement.
use Rattle.std.proofs.Common.{◌≡◌, ℕ, ◌+◌, ◌-◌, ◌≤◌, false, ◌&&◌, List, [], ◌∷◌, map, take, drop, All, length, get_or, None, sym, ap, ◌∙◌, subst, inl, inr, arith}
use Rattle.std.proofs.lemmas.Bool.{cases_order}
use Rattle.std.proofs.lemmas.Option.{slice_get_within, get_or_from_slice_get}
use Rattle.std.proofs.lemmas.List.{length-map, get_or-map, get_or_default, take-append-drop, take_rest}
use Rattle.std.proofs.lemmas.List.Folds.{list_all-append}
use Rattle.std.proofs.lemmas.List.Elements.{All-append}
use Rattle.hp_algebra.specs.Ring.{RingOf, Numbering, IsField, IsNumbering}
use Rattle.hp_algebra.specs.Rows.{IsRow, is_zero_row}
use Rattle.hp_lists.proofs.Firsts.{first_some-parts}
use Rattle.hp_arr.specs.Arrangement.{Arrangement, max_dim, IsAffineArrangement}
use Rattle.hp_arr.specs.FormFaults.{row, zero_fault, repeated_fault, too_many_fault, affine_fault}
use Rattle.hp_arr.proofs.FaultFacts.{zero_fault-none, zero_fault-none_at}
use Rattle.hp_arr.proofs.Faultless.{too_many-none_at, apart_later}
use Rattle.hp_arr.proofs.NormalRows.{IsMultiple-back}

module _ {K : Type 0} (ring : RingOf K) where
  -- a row whose first entries are not all zero is not zero
  pub whole-nonzero : (l : ℕ) (b : List K) → is_zero_row ring (take l b) ≡ false → is_zero_row ring b ≡ false
  whole-nonzero l b h =
      ap (is_zero_row ring) (sym (take-append-drop l b)) ∙ list_all-append ring.is_zero (take l b) (drop l b)
      ∙ ap (λ c. c && is_zero_row ring (drop l b)) h

  -- entries that are values, in two parts
  pub values-parts : (l : ℕ) (b : List K) → All ring.IsValue (take l b) → All ring.IsValue (take (length b - l) (drop l b)) → All ring.IsValue b
  values-parts l b front rest =
      subst (All ring.IsValue) (take-append-drop l b) (All-append ring.IsValue (take l b) (drop l b) front (subst (All ring.IsValue) (take_rest b l) rest))

  pub row-take : (l : ℕ) (rows : List (List K)) (h : ℕ) → 1 ≤ h → h ≤ length rows → row (map (take l) rows) h ≡ take l (row rows h)
  row-take l rows h low high = get_or-map (take l) rows (h - 1) [] [] (omega (arith, low, high))

  -- where each row has a coefficient that is not zero, no row is zero
  pub zero-whole : (l : ℕ) (rows : List (List K)) → zero_fault ring (map (take l) rows) ≡ None → zero_fault ring rows ≡ None
  zero-whole l rows none = zero_fault-none ring rows (λ h low high. whole-nonzero l (row rows h)
      (ap (is_zero_row ring) (sym (row-take l rows h low high))
      ∙ zero_fault-none_at ring (map (take l) rows) none h low (let e = length-map rows (take l) in omega (arith, e, high))))

  coefficients : (l : ℕ) (rows : List (List K)) → zero_fault ring (map (take l) rows) ≡ None → All (λ b. is_zero_row ring (take l b) ≡ false) rows
  coefficients l rows none k d h =
      let at : k + 1 - 1 ≡ k = omega arith in
      ap (λ n. is_zero_row ring (take l n)) (sym (get_or_default rows k [] d h) ∙ ap (λ n. get_or rows n []) (sym at))
      ∙ ap (is_zero_row ring) (sym (row-take l rows (k + 1) (omega arith) (omega (arith, h))))
      ∙ zero_fault-none_at ring (map (take l) rows) none (k + 1) (omega arith) (let e = length-map rows (take l) in omega (arith, e, h))

module _ {K : Type 0} {ring : RingOf K} {inverse : K → K} (field : IsField ring inverse) {numbers : Numbering K} (numbering : IsNumbering ring numbers) where
  -- rows without a fault are those of an affine arrangement
  pub IsAffineArrangement-from_faultless : (arr : Arrangement K) → 1 ≤ arr.dim → arr.dim ≤ max_dim → All (IsRow ring (arr.dim + 1)) arr.forms
      → affine_fault ring numbers arr.dim arr.forms ≡ None → IsAffineArrangement ring numbers arr
  IsAffineArrangement-from_faultless arr low high rows none =
      let forms = arr.forms in
      let wide : Arrangement K = record { dim = arr.dim + 1; forms = arr.forms } in
      let first = first_some-parts (zero_fault ring (map (take arr.dim) forms)) (repeated_fault ring numbers forms ∷ too_many_fault numbers forms ∷ []) none in
      let second = first_some-parts (repeated_fault ring numbers forms) (too_many_fault numbers forms ∷ []) first.1 in
      let third = first_some-parts (too_many_fault numbers forms) [] second.1 in
      let counts = too_many-none_at numbers forms third.0 in
      let later = apart_later field numbering wide rows second.0 in
      record {
        dim_low = low;
        dim_high = high;
        rows = rows;
        few_forms = counts.0;
        below_order = counts.1;
        no_zero = coefficients ring arr.dim forms first.0;
        no_multiple = λ i j a b differ at_i at_j m.
            elim (cases_order i j) [
              | inl same ↦ differ same
              | inr apart ↦ elim apart [
                | inl before ↦ later i j a b before at_i at_j m
                | inr after ↦ (
                    let values_b : All ring.IsValue b = (subst (IsRow ring (arr.dim + 1)) (get_or_from_slice_get forms j b [] at_j) (rows j [] (slice_get_within forms j b at_j))).1 in
                    let nonzero_a : is_zero_row ring a ≡ false = ap (is_zero_row ring) (sym (get_or_from_slice_get forms i a [] at_i))
                    ∙ whole-nonzero ring arr.dim (get_or forms i []) (coefficients ring arr.dim forms first.0 i [] (slice_get_within forms i a at_i)) in
                    later j i b a after at_j at_i (IsMultiple-back field a b values_b nonzero_a m))
              ]
            ];
      }
