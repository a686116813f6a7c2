-- Rows of one width, none zero and no two proportional, are the forms of an arrangement, unless they are too many.
use Rattle.std.proofs.Common.{◌≡◌, ℕ, ◌≤◌, false, List, [], ◌++◌, get_or, Contains, None, sym, subst, inl, inr}
use Rattle.std.proofs.lemmas.Option.{slice_get_within, get_or_from_slice_get}
use Rattle.std.proofs.lemmas.List.Elements.{Contains-get_or, Contains-append_cases}
use Rattle.hp_algebra.specs.Ring.{RingOf, Numbering, IsField, IsNumbering}
use Rattle.hp_lists.specs.Lists.{Ordered}
use Rattle.hp_algebra.specs.Rows.{IsRow, IsMultiple, is_zero_row}
use Rattle.hp_lists.proofs.Ordered.{Ordered-append, Ordered-at}
use Rattle.hp_arr.specs.Arrangement.{IsArrangement, max_dim}
use Rattle.hp_arr.specs.FormFaults.{too_many_fault}
use Rattle.hp_arr.proofs.Faultless.{too_many-none_at, IsArrangement-from_apart}

-- rows of one width, none zero and no two proportional
pub record IsSimple {K : Type 0} (ring : RingOf K) (l : ℕ) (forms : List (List K)) : Type 0 where
  pub rows : (a : List K) → Contains forms a → IsRow ring l a
  pub no_zero : (a : List K) → Contains forms a → is_zero_row ring a ≡ false
  pub no_multiple : Ordered (λ a b. ¬ (IsMultiple ring a b)) forms

pub simple-append : {K : Type 0} {ring : RingOf K} (l : ℕ) (xs ys : List (List K)) → IsSimple ring l xs → IsSimple ring l ys
    → ((a b : List K) → Contains xs a → Contains ys b → ¬ (IsMultiple ring a b)) → IsSimple ring l (xs ++ ys)
simple-append {K = K} {ring = ring} l xs ys p q apart = record {
  rows = λ a c. elim (Contains-append_cases xs ys a c) [ inl d ↦ p.rows a d | inr d ↦ q.rows a d ];
  no_zero = λ a c. elim (Contains-append_cases xs ys a c) [ inl d ↦ p.no_zero a d | inr d ↦ q.no_zero a d ];
  no_multiple = Ordered-append (λ a b. ¬ (IsMultiple ring a b)) xs ys p.no_multiple q.no_multiple apart;
}

module _ {K : Type 0} {ring : RingOf K} {inverse : K → K} {numbers : Numbering K} (field : IsField ring inverse)
    (num : IsNumbering ring numbers) where
  abbrev Lawful : ℕ → List (List K) → Type 0
  Lawful l forms = IsArrangement ring numbers (record { dim = l; forms = forms })

  lawful-from_simple : (l : ℕ) (forms : List (List K)) → 1 ≤ l → l ≤ max_dim → IsSimple ring l forms → too_many_fault numbers forms ≡ None
      → Lawful l forms
  lawful-from_simple l forms low high simple few =
      let counts = too_many-none_at numbers forms few in
      IsArrangement-from_apart field num (record { dim = l; forms = forms }) low high
      (λ k d h. simple.rows (get_or forms k d) (Contains-get_or forms k d h)) counts.0 counts.1
      (λ k d h. simple.no_zero (get_or forms k d) (Contains-get_or forms k d h))
      (λ i j a b before at_i at_j.
      let Apart : List K → List K → Type 0 = λ x y. ¬ (IsMultiple ring x y) in
      let apart : Apart (get_or forms i []) (get_or forms j []) =
      Ordered-at Apart forms i j [] simple.no_multiple before (slice_get_within forms j b at_j) in
      subst (λ x. Apart x b) (get_or_from_slice_get forms i a [] at_i)
      (subst (Apart (get_or forms i [])) (get_or_from_slice_get forms j b [] at_j) apart))

  -- forms that were made as those of a family are lawful with it
  pub lawful-made : (l : ℕ) (made forms : List (List K)) → 1 ≤ l → l ≤ max_dim → made ≡ forms
      → (too_many_fault numbers forms ≡ None → IsSimple ring l forms) → too_many_fault numbers made ≡ None → Lawful l made
  lawful-made l made forms low high e simple few =
      let few_forms : too_many_fault numbers forms ≡ None = subst (λ fs. too_many_fault numbers fs ≡ None) e few in
      subst (Lawful l) (sym e) (lawful-from_simple l forms low high (simple few_forms) few_forms)
