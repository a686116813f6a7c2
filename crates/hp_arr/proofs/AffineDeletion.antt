-- The deletion of an affine arrangement is one, and has the cuts of the arrangement, under the names that the rows had before.
use Rattle.std.specs.Prelude.{nat_lt, ◌≡◌, ℕ, zero, suc, ◌+◌, ◌-◌, ◌*◌, ◌^◌, ◌<◌, ◌≤◌, ◌==◌, Bool, true, false, cond, ◌&&◌, List, [], ◌∷◌, ◌++◌, map, length, filter, slice_index_or, ◌≢◌, slice_get, Some, take, remove, ◌⊎◌}
use Rattle.std.specs.List.{list_all, range_with_len}
use Rattle.std.proofs.lemmas.Bool.{eqb-true, eqb-false, ltb-true, ltb-false, lt-ltb, le-ltb, cases_lt}
use Rattle.std.proofs.lemmas.List.Edits.{get_or-remove_below, get_or-remove_above, length-remove}
use mathlib.Core.Path.{refl, sym, ap, ◌∙◌, subst}
use native.Mathlib.Omega.{arith}
use Rattle.hp_algebra.specs.Ring.{dot_of}
use Rattle.hp_lists.specs.Lists.{one_to, first_below}
use Rattle.hp_sets.specs.Sets.{Set, contains}
use Rattle.std.proofs.lemmas.Option.{slice_get_within, slice_get-get_or, get_or_from_slice_get}
use mathlib.Core.Logic.{inl, inr}
use Rattle.hp_algebra.specs.Rows.{IsRow, IsMultiple, is_zero_row}
use Rattle.hp_arr.specs.Arrangement.{form, IsAffineArrangement, lies_in}
use Rattle.hp_arr.specs.Flats.{points, cut, has_point, rank}
use Rattle.hp_arr.specs.Operations.{deletion}
use Rattle.hp_arr.proofs.LawfulDeletion.{All-remove}
use Rattle.hp_matroid.specs.Matroids.{Within}
use Rattle.hp_matroid.proofs.CentralTriples.{IsCentralDeletion}
use Rattle.hp_arr.proofs.ConePoints.{AffineSetting, n}
use Rattle.hp_arr.proofs.ConeMatroids.{affine_matroid, central, rows-indices, has_point-central, rank-matroid}
use Rattle.hp_matroid.proofs.Subsets.{head_in, or_right, map-contains, contains-map}
use Rattle.hp_matroid.proofs.Triple as triple
use Rattle.hp_arr.proofs.ArrangementMatroids.{ground-index}

-- where a member stood before one was removed
abbrev step_over : ℕ → ℕ → ℕ → Type 0
step_over k m p = ((m < k) × (p ≡ m)) ⊎ ((k ≤ m) × (p ≡ m + 1))

remove-at : {X : Type 0} (xs : List X) (k m : ℕ) (d : X) → k < length xs → m < length (remove xs k) → (p : ℕ) × (p < length xs) × (slice_index_or (remove xs k) m d ≡ slice_index_or xs p d) × step_over k m p
remove-at xs k m d l h =
    let shorter = length-remove xs k l in
    elim (cases_lt m k) [
      | inl before ↦ (m, omega (arith, before, l), get_or-remove_below xs k d m before l, inl (before, refl))
      | inr behind ↦ (m + 1, omega (arith, h, shorter), get_or-remove_above xs k d m behind l, inr (behind, refl))
    ]

-- members that stand apart stood apart before
apart : (k p q r s : ℕ) → p ≢ q → step_over k p r → step_over k q s → r ≢ s
apart k p q r s differ (inl a) (inl b) e = let p_is = a.1 in let q_is = b.1 in differ (omega arith)
apart k p q r s differ (inl a) (inr b) e = let at = a.0 in let p_is = a.1 in let from = b.0 in let q_is = b.1 in omega arith
apart k p q r s differ (inr a) (inl b) e = let at = a.0 in let p_is = a.1 in let from = b.0 in let q_is = b.1 in omega arith
apart k p q r s differ (inr a) (inr b) e = let p_is = a.1 in let q_is = b.1 in differ (omega arith)

-- what the form j of the deletion was called before form i was taken out
abbrev pub old_name : ℕ → ℕ → ℕ
old_name i j = cond (nat_lt j i) j (suc j)

names-above : (i a n : ℕ) → i ≤ a → map (old_name i) (range_with_len a n) ≡ range_with_len (a + 1) n
names-above i a zero l = refl
names-above i a (suc n) l = λ k. (ap (λ b. cond b a (suc a)) (le-ltb a i l) ∙ next a) k ∷ names-above i (a + 1) n (omega (arith, l)) k
  where
    next : (a : ℕ) → suc a ≡ a + 1
    next a = omega arith

names : (i a n : ℕ) → a ≤ i → i ≤ a + n → map (old_name i) (range_with_len a n) ≡ triple.remove i (range_with_len a (suc n))
names i a zero l h = ap (λ b. cond b [] (a ∷ [])) (sym (at a i l h))
  where
    at : (a i : ℕ) → a ≤ i → i ≤ a + 0 → (a == i) ≡ true
    at a i l h = grind (arith, eqb-false)
names i a (suc n) l h = step (a == i) refl (names i (a + 1) n)
  where
    same : (a i : ℕ) → a ≡ i → i ≤ a
    same a i e = omega arith

    up : (a i : ℕ) → a ≤ i → (a ≡ i → ⊥) → a + 1 ≤ i
    up a i l e = omega arith

    low : (a i : ℕ) → a ≤ i → (a ≡ i → ⊥) → a < i
    low a i l e = omega arith

    shift : (i a n : ℕ) → i ≤ a + suc n → i ≤ (a + 1) + n
    shift i a n h = omega arith

    step : (b : Bool) → (a == i) ≡ b
        → (a + 1 ≤ i → i ≤ (a + 1) + n → map (old_name i) (range_with_len (a + 1) n) ≡ triple.remove i (range_with_len (a + 1) (suc n)))
        → map (old_name i) (range_with_len a (suc n)) ≡ cond b (range_with_len (a + 1) (suc n)) (a ∷ triple.remove i (range_with_len (a + 1) (suc n)))
    step true e ih = names-above i a (suc n) (same a i (eqb-true a i e))
    step false e ih = λ k. cond (lt-ltb a i (low a i l (eqb-false a i e)) k) a (suc a) ∷ ih (up a i l (eqb-false a i e)) (shift i a n h) k

all-map : (test : ℕ → Bool) (name : ℕ → ℕ) (s : Set) → list_all test (map name s) ≡ list_all (λ j. test (name j)) s
all-map test name [] = refl
all-map test name (x ∷ s) = ap (λ b. test (name x) && b) (all-map test name s)

module _ {K : Type 0} (A : AffineSetting K) (i : ℕ) (low : 1 ≤ i) (high : i ≤ n A) where
  open A use {ring, inverse, numbers, arr, field, num, lawful}

  inside : i - 1 < length arr.forms
  inside = omega (arith, low, high)

  pub fewer : length (deletion arr i).forms + 1 ≡ length arr.forms
  fewer = length-remove arr.forms (i - 1) inside

  -- row p of the deletion, in the arrangement
  found : (p : ℕ) (a : List K) → slice_get (deletion arr i).forms p ≡ Some a → (q : ℕ) × (slice_get arr.forms q ≡ Some a) × step_over (i - 1) p q
  found p a e =
      let at = remove-at arr.forms (i - 1) p [] inside (slice_get_within (deletion arr i).forms p a e) in
      (at.0, slice_get-get_or arr.forms at.0 [] at.1 ∙ ap Some (sym at.2 ∙ get_or_from_slice_get (deletion arr i).forms p a [] e), at.3)

  pub deletion-lawful : IsAffineArrangement ring numbers (deletion arr i)
  deletion-lawful = record {
    dim_low = lawful.dim_low;
    dim_high = lawful.dim_high;
    rows = All-remove (IsRow ring (arr.dim + 1)) arr.forms (i - 1) inside lawful.rows;
    few_forms = let few = lawful.few_forms in let one = fewer in omega (arith, few, one);
    below_order = let few = lawful.below_order in let one = fewer in omega (arith, few, one);
    no_zero = All-remove (λ a. is_zero_row ring (take arr.dim a) ≡ false) arr.forms (i - 1) inside lawful.no_zero;
    no_multiple = λ p q a b differ at_p at_q.
        let in_p = found p a at_p in
        let in_q = found q b at_q in
        lawful.no_multiple in_p.0 in_q.0 a b (apart (i - 1) p q in_p.0 in_q.0 differ in_p.2 in_q.2) in_p.1 in_q.1;
  }

  -- no other row is a multiple of row i
  pub apart_from : (p : ℕ) (a b : List K) → slice_get (deletion arr i).forms p ≡ Some b → slice_get arr.forms (i - 1) ≡ Some a → ¬ (IsMultiple ring b a)
  apart_from p a b at_p at_i =
      let in_p = found p b at_p in
      lawful.no_multiple in_p.0 (i - 1) b a (other in_p.2) in_p.1 at_i
    where
      other : {q : ℕ} → step_over (i - 1) p q → q ≢ i - 1
      other (inl a) e = let before = a.0 in let same = a.1 in omega arith
      other (inr a) e = let behind = a.0 in let same = a.1 in omega arith

  -- the deletion, with its laws
  abbrev pub deleted : AffineSetting K
  deleted = record { ring = A.ring; inverse = A.inverse; numbers = A.numbers; arr = deletion A.arr i; field = A.field; num = A.num; lawful = deletion-lawful }

  pub form-deletion : (j : ℕ) → 1 ≤ j → form (deletion arr i) j ≡ form arr (old_name i j)
  form-deletion j l = step (nat_lt j i) refl
    where
      next : (j : ℕ) → 1 ≤ j → (j - 1) + 1 ≡ suc j - 1
      next j a = omega arith

      below : (j i : ℕ) → 1 ≤ j → j < i → j - 1 < i - 1
      below j i a b = omega arith

      beyond : (j i : ℕ) → 1 ≤ i → i ≤ j → i - 1 ≤ j - 1
      beyond j i a b = omega arith

      step : (b : Bool) → nat_lt j i ≡ b → form (deletion arr i) j ≡ form arr (cond b j (suc j))
      step true e = get_or-remove_below arr.forms (i - 1) [] (j - 1) (below j i l (ltb-true j i e)) inside
      step false e =
          get_or-remove_above arr.forms (i - 1) [] (j - 1) (beyond j i low (ltb-false j i e)) inside
          ∙ ap (λ k. slice_index_or arr.forms k []) (next j l)

  inside-same : (s : Set) (x : List K) → ((j : ℕ) → contains s j ≡ true → 1 ≤ j)
      → list_all (λ j. lies_in ring (deletion arr i) j x) s ≡ list_all (λ j. lies_in ring arr (old_name i j) x) s
  inside-same [] x h = refl
  inside-same (j ∷ s) x h = λ k. at k && inside-same s x (λ l e. h l (or_right (j == l) (contains s l) e)) k
    where
      at : lies_in ring (deletion arr i) j x ≡ lies_in ring arr (old_name i j) x
      at = ap (λ a. ring.is_zero (dot_of ring a (x ++ ring.one ∷ []))) (form-deletion j (h j (head_in j s)))

  -- the cuts of the deletion
  pub cut-deletion : (s : Set) → ((j : ℕ) → contains s j ≡ true → 1 ≤ j) → cut ring numbers (deletion arr i) s ≡ cut ring numbers arr (map (old_name i) s)
  unfolding cut
  cut-deletion s h = λ k. filter (λ x. (inside-same s x h ∙ sym (all-map (λ j. lies_in ring arr j x) (old_name i) s)) k) (points ring numbers arr.dim)

  has_point-deletion : (s : Set) → ((j : ℕ) → contains s j ≡ true → 1 ≤ j) → has_point ring numbers (deletion arr i) s ≡ has_point ring numbers arr (map (old_name i) s)
  unfolding has_point
  has_point-deletion s h = ap (λ c. nat_lt 0 (length c)) (cut-deletion s h)

  rank-deletion : (s : Set) → ((j : ℕ) → contains s j ≡ true → 1 ≤ j) → rank ring numbers (deletion arr i) s ≡ rank ring numbers arr (map (old_name i) s)
  unfolding rank
  rank-deletion s h = ap (λ c. first_below (arr.dim + 1) (λ r. (length c * numbers.order ^ r) == numbers.order ^ arr.dim)) (cut-deletion s h)

  pub names-deletion : map (old_name i) (one_to (n deleted)) ≡ triple.remove i (one_to (n A))
  names-deletion =
      names i 1 (length (deletion arr i).forms) low (top i (length (deletion arr i).forms) (n A) count high)
      ∙ ap (λ n. triple.remove i (one_to n)) (next (length (deletion arr i).forms) ∙ count)
    where
      count : length (deletion arr i).forms + 1 ≡ n A
      count = fewer

      next : (a : ℕ) → suc a ≡ a + 1
      next a = omega arith

      top : (i a n : ℕ) → a + 1 ≡ n → i ≤ n → i ≤ 1 + a
      top i a n e l = omega arith

  pub name-within : (s : Set) → Within s (one_to (n deleted)) → Within (map (old_name i) s) (one_to (n A))
  name-within s w j h =
      let q = map-contains (old_name i) s j h in
      triple.remove-within i (one_to (n A)) j (ap (λ z. contains z j) (sym names-deletion) ∙ subst (λ z. contains (map (old_name i) (one_to (n deleted))) z ≡ true) q.2 (contains-map (old_name i) (one_to (n deleted)) q.0 (w q.0 q.1)))

  -- The deletion is one in the sense of central sets and ranks.
  pub deletion-IsCentral : IsCentralDeletion (one_to (n A)) (central A) (affine_matroid A).rank i (one_to (n deleted)) (central deleted) (affine_matroid deleted).rank (old_name i)
  deletion-IsCentral = record {
    names = names-deletion;
    centrals = λ s w.
        sym (has_point-central deleted s (rows-indices deleted s w)) ∙ has_point-deletion s (up s w)
        ∙ has_point-central A (map (old_name i) s) (rows-indices A (map (old_name i) s) (name-within s w));
    ranks = λ s w c.
        let p = has_point-central deleted s (rows-indices deleted s w) ∙ c in
        sym (rank-matroid deleted s (rows-indices deleted s w) p) ∙ rank-deletion s (up s w)
        ∙ rank-matroid A (map (old_name i) s) (rows-indices A (map (old_name i) s) (name-within s w)) (sym (has_point-deletion s (up s w)) ∙ p);
  }
    where
      up : (s : Set) → Within s (one_to (n deleted)) → (j : ℕ) → contains s j ≡ true → 1 ≤ j
      up s w j h = (ground-index (n deleted) j (w j h)).0
