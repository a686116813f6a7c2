-- The deletion of an arrangement is an arrangement.
use Rattle.std.specs.Prelude.{◌≡◌, ◌≢◌, ℕ, ◌+◌, ◌-◌, ◌<◌, ◌≤◌, List, [], length, All, slice_index_or, slice_get, Some, remove, false}
use Rattle.std.proofs.Common.{◌⊎◌, refl, sym, ap, ◌∙◌, subst, inl, inr, arith}
use Rattle.std.proofs.lemmas.Option.{slice_get_within, slice_get-get_or, get_or_from_slice_get}
use Rattle.std.proofs.lemmas.List.Edits.{get_or-remove_below, get_or-remove_above, length-remove}
use Rattle.std.proofs.lemmas.Bool.{cases_lt}
use Rattle.hp_algebra.specs.Ring.{RingOf, Numbering}
use Rattle.hp_arr.specs.Arrangement.{Arrangement, IsArrangement}
use Rattle.hp_algebra.specs.Rows.{IsRow, IsMultiple, is_zero_row}
use Rattle.hp_arr.specs.Operations.{deletion}

-- where a member stood before one was removed
abbrev step_over : ℕ → ℕ → ℕ → Type 0
step_over k m p = ((m < k) × (p ≡ m)) ⊎ ((k ≤ m) × (p ≡ m + 1))

remove-at : {X : Type 0} (xs : List X) (k m : ℕ) (d : X) → k < length xs → m < length (remove xs k) → (p : ℕ) × (p < length xs) × (slice_index_or (remove xs k) m d ≡ slice_index_or xs p d) × step_over k m p
remove-at xs k m d l h =
    let shorter = length-remove xs k l in
    elim (cases_lt m k) [
      | inl before ↦ (m, omega (arith, before, l), get_or-remove_below xs k d m before l, inl (before, refl))
      | inr behind ↦ (m + 1, omega (arith, h, shorter), get_or-remove_above xs k d m behind l, inr (behind, refl))
    ]

-- what each member has, each has that is left
pub All-remove : {X : Type 0} (P : X → Type 0) (xs : List X) (k : ℕ) → k < length xs → All P xs → All P (remove xs k)
All-remove P xs k l all m d h = let at = remove-at xs k m d l h in subst P (sym at.2) (all at.0 d at.1)

-- members that stand apart stood apart before
apart : (k p q r s : ℕ) → p ≢ q → step_over k p r → step_over k q s → r ≢ s
apart k p q r s differ (inl a) (inl b) e = let p_is = a.1 in let q_is = b.1 in differ (omega arith)
apart k p q r s differ (inl a) (inr b) e = let at = a.0 in let p_is = a.1 in let from = b.0 in let q_is = b.1 in omega arith
apart k p q r s differ (inr a) (inl b) e = let at = a.0 in let p_is = a.1 in let from = b.0 in let q_is = b.1 in omega arith
apart k p q r s differ (inr a) (inr b) e = let p_is = a.1 in let q_is = b.1 in differ (omega arith)

module _ {K : Type 0} (ring : RingOf K) (numbers : Numbering K) (arr : Arrangement K) (lawful : IsArrangement ring numbers arr) (i : ℕ) (low : 1 ≤ i) (high : i ≤ length arr.forms) where
  inside : i - 1 < length arr.forms
  inside = omega (arith, low, high)

  pub fewer : length (deletion arr i).forms + 1 ≡ length arr.forms
  fewer = length-remove arr.forms (i - 1) inside

  -- form p of the deletion, in the arrangement
  found : (p : ℕ) (a : List K) → slice_get (deletion arr i).forms p ≡ Some a → (q : ℕ) × (slice_get arr.forms q ≡ Some a) × step_over (i - 1) p q
  found p a e =
      let at = remove-at arr.forms (i - 1) p [] inside (slice_get_within (deletion arr i).forms p a e) in
      (at.0, slice_get-get_or arr.forms at.0 [] at.1 ∙ ap Some (sym at.2 ∙ get_or_from_slice_get (deletion arr i).forms p a [] e), at.3)

  pub deletion-lawful : IsArrangement ring numbers (deletion arr i)
  deletion-lawful = record {
    dim_low = lawful.dim_low;
    dim_high = lawful.dim_high;
    rows = All-remove (IsRow ring arr.dim) arr.forms (i - 1) inside lawful.rows;
    few_forms = let few = lawful.few_forms in let one = fewer in omega (arith, few, one);
    below_order = let few = lawful.below_order in let one = fewer in omega (arith, few, one);
    no_zero = All-remove (λ a. is_zero_row ring a ≡ false) arr.forms (i - 1) inside lawful.no_zero;
    no_multiple = λ p q a b differ at_p at_q.
        let in_p = found p a at_p in
        let in_q = found q b at_q in
        lawful.no_multiple in_p.0 in_q.0 a b (apart (i - 1) p q in_p.0 in_q.0 differ in_p.2 in_q.2) in_p.1 in_q.1;
  }

  -- no other form is a multiple of form i
  pub apart_from : (p : ℕ) (a b : List K) → slice_get (deletion arr i).forms p ≡ Some b → slice_get arr.forms (i - 1) ≡ Some a → ¬ (IsMultiple ring b a)
  apart_from p a b at_p at_i =
      let in_p = found p b at_p in
      lawful.no_multiple in_p.0 (i - 1) b a (other in_p.2) in_p.1 at_i
    where
      other : {q : ℕ} → step_over (i - 1) p q → q ≢ i - 1
      other (inl a) e = let before = a.0 in let same = a.1 in omega arith
      other (inr a) e = let behind = a.0 in let same = a.1 in omega arith
