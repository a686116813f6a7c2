-- The search for a repeated form: each form is looked up among the earlier ones by the numbers of its normalised entries.
use Rattle.std.proofs.Common.{◌≡◌, ℕ, ◌+◌, ◌-◌, ◌<◌, ◌≤◌, Bool, true, false, nat_eq, List, [], ◌∷◌, ◌++◌, cond, All, map, length, get_or, take, Some, None, refl, sym, ap, ◌∙◌, subst, inl, inr, arith}
use Rattle.std.specs.Cmp.Lexicographic.{pointwise, same_text, nat_list_eq_equiv}
use Rattle.std.specs.List.{list_any, position_or_len}
use Rattle.std.proofs.lemmas.Bool.{false≢true, cases_Bool, cases_lt, cases_eq}
use Rattle.std.proofs.lemmas.List.{get_or-map, get_or-take, length-map, length-take-le, map_push, map_more}
use Rattle.std.proofs.lemmas.List.Elements.{All-head, All-tail}
use Rattle.std.proofs.lemmas.List.Folds.{list_any_at, Any-from_list_any}
use Rattle.std.proofs.lemmas.List.Sums.{fails_before_first, passes_at_first}
use Rattle.hp_algebra.specs.Ring.{RingOf, Numbering, IsField, IsNumbering}
use Rattle.hp_algebra.proofs.Finite.{Finite}
use Rattle.hp_algebra.specs.Rows.{is_zero_row, is_multiple}
use Rattle.hp_arr.specs.FormFaults.{row, zero_fault, earlier_multiple}
use Rattle.hp_arr.specs.Operations.{normalised}
use Rattle.hp_arr.proofs.FaultFacts.{zero_fault-none_at, earlier_multiple-first, earlier_multiple-none}
use Rattle.hp_algebra.proofs.Multiples.{is_multiple-exact}
use Rattle.hp_lists.proofs.Members.{same_test}
use Rattle.hp_arr.proofs.NormalRows.{normalised-row, normalised-same, multiple-from_normalised}

-- the test of two lists of numbers, read from what holds them
abbrev pub same_items : {Key : Type 0} → (Key → List ℕ) → Key → Key → Bool
same_items items x y = pointwise nat_eq (items x) (items y)

-- a test that some member passes has a first place within the list
found-within : {X : Type 0} (test : X → Bool) (xs : List X) → list_any test xs ≡ true → position_or_len test xs < length xs
found-within test xs passes =
    let some = Any-from_list_any test xs passes in
    elim (cases_lt (position_or_len test xs) (length xs)) [
      | inl within ↦ within
      | inr past ↦ absurd (false≢true
          (sym (fails_before_first test xs some.0 some.1 (omega (arith, some.2, past))) ∙ ap test some.3 ∙ some.4))
    ]

-- forms whose entries are values, and of which none is zero
pub record CanSearch {K : Type 0} (ring : RingOf K) (forms : List (List K)) : Type 0 where
  pub values : All (All ring.IsValue) forms
  pub nonzero : zero_fault ring forms ≡ None

module _ {K : Type 0} {ring : RingOf K} {inverse : K → K} {numbers : Numbering K} (field : IsField ring inverse)
    (num : IsNumbering ring numbers) where
  abbrev finite : Finite K
  finite = record { ring = ring; inverse = inverse; numbers = numbers; field = field; num = num }

  -- the numbers of the normalised entries
  abbrev pub places_of : List K → List ℕ
  places_of a = map numbers.place (normalised ring inverse a)

  -- values with the same numbers are the same
  same-from_places : (a b : List K) → All ring.IsValue a → All ring.IsValue b → map numbers.place a ≡ map numbers.place b → a ≡ b
  same-from_places a b va vb e = sym (back a va) ∙ ap (map numbers.nth) e ∙ back b vb
    where
      back : (a : List K) → All ring.IsValue a → map numbers.nth (map numbers.place a) ≡ a
      back [] v = refl
      back (x ∷ a) v =
          let head = num.nth_of_place x (All-head ring.IsValue x a v) in
          let tail = back a (All-tail ring.IsValue x a v) in
          λ i. head i ∷ tail i

  module _ (forms : List (List K)) (can : CanSearch ring forms) where
    row-values : (i : ℕ) → 1 ≤ i → i ≤ length forms → All ring.IsValue (row forms i)
    row-values i low high = can.values (i - 1) [] (omega arith)

    row-nonzero : (i : ℕ) → 1 ≤ i → i ≤ length forms → is_zero_row ring (row forms i) ≡ false
    row-nonzero i low high = zero_fault-none_at ring forms can.nonzero i low high

    -- the test for a multiple is that of the numbers
    multiple-test : (i j : ℕ) → 1 ≤ i → i < j → j ≤ length forms
        → is_multiple ring numbers (row forms i) (row forms j) ≡ pointwise nat_eq (places_of (row forms j)) (places_of (row forms i))
    multiple-test i j low before high =
        let a = row forms i in
        let b = row forms j in
        let va = row-values i low (omega arith) in
        let vb = row-values j (omega arith) high in
        let na = row-nonzero i low (omega arith) in
        let nb = row-nonzero j (omega arith) high in
        same_test _ _ (is_multiple-exact finite a b va vb) (
          λ t. multiple-from_normalised field a b va vb na nb
              (sym (same-from_places (normalised ring inverse b) (normalised ring inverse a)
              (normalised-row field b vb nb (length b) refl).1 (normalised-row field a va na (length a) refl).1
              (same_text (places_of b) (places_of a) (sym t)))),
          λ m. let e = ap (map numbers.place) (normalised-same field a b va vb na nb m) in
              subst (λ s. pointwise nat_eq (places_of b) s ≡ true) (sym e) (nat_list_eq_equiv.refl (places_of b)),
        )

    module _ {Key : Type 0} (items : Key → List ℕ) (keys : List Key) (k : ℕ) (x : Key) (within : k < length forms)
        (held : map items keys ≡ map places_of (take k forms)) (looked : items x ≡ places_of (row forms (k + 1))) where
      keys-length : length keys ≡ k
      keys-length = sym (length-map keys items) ∙ ap length held ∙ length-map (take k forms) places_of ∙ length-take-le k forms (omega arith)

      -- the key at a place is that of the form there
      key-at : (h : ℕ) (d : Key) → h < k → items (get_or keys h d) ≡ places_of (row forms (h + 1))
      key-at h d below =
          let in_keys : h < length keys = (let n = keys-length in omega arith) in
          let in_take : h < length (take k forms) = (let n = length-take-le k forms (omega arith) in omega arith) in
          let same : h ≡ h + 1 - 1 = omega arith in
          sym (get_or-map items keys h d [] in_keys) ∙ ap (λ l. get_or l h []) held
          ∙ get_or-map places_of (take k forms) h [] [] in_take
          ∙ ap places_of (get_or-take k forms h [] below ∙ ap (λ n. get_or forms n []) same)

      key-test : (h : ℕ) (d : Key) → h < k → is_multiple ring numbers (row forms (h + 1)) (row forms (k + 1)) ≡ same_items items x (get_or keys h d)
      key-test h d below =
          multiple-test (h + 1) (k + 1) (omega arith) (omega arith) (omega arith)
          ∙ ap (λ s. pointwise nat_eq s (places_of (row forms (h + 1)))) (sym looked)
          ∙ ap (λ s. pointwise nat_eq (items x) s) (sym (key-at h d below))

      back : (h : ℕ) → 1 ≤ h → h ≡ h - 1 + 1
      back h low = omega arith

      -- where the key is found, the form repeats the one at its place
      pub repeat-found : (i : ℕ) → i ≡ position_or_len (same_items items x) keys → list_any (same_items items x) keys ≡ true
          → (i < k) × (earlier_multiple ring numbers forms (k + 1) ≡ Some (i + 1))
      repeat-found i at passes =
          let in_keys = found-within (same_items items x) keys passes in
          let below : i < k = (let n = keys-length in omega (arith, at, in_keys)) in (
            below,
            earlier_multiple-first ring numbers forms (i + 1) (k + 1) (omega arith) (omega arith)
                (key-test i x below ∙ ap (λ p. same_items items x (get_or keys p x)) at ∙ passes_at_first (same_items items x) keys x in_keys)
                (λ h low high.
                let before : h - 1 < position_or_len (same_items items x) keys = omega (arith, at) in
                ap (λ n. is_multiple ring numbers (row forms n) (row forms (k + 1))) (back h low)
                ∙ key-test (h - 1) x (omega arith)
                ∙ fails_before_first (same_items items x) keys (h - 1) x before),
          )

      -- where it is new, no earlier form is a multiple
      repeat-none : list_any (same_items items x) keys ≡ false → earlier_multiple ring numbers forms (k + 1) ≡ None
      repeat-none new =
          earlier_multiple-none ring numbers forms (k + 1) (λ h low high.
          let below : h - 1 < k = omega arith in
          let in_keys : h - 1 < length keys = (let n = keys-length in omega arith) in
          ap (λ n. is_multiple ring numbers (row forms n) (row forms (k + 1))) (back h low)
          ∙ key-test (h - 1) x below
          ∙ elim (cases_Bool (same_items items x (get_or keys (h - 1) x))) [
            | inl passes ↦ absurd (false≢true (sym new ∙ list_any_at (same_items items x) keys (h - 1) x in_keys passes))
            | inr fails ↦ fails
          ])

      -- and then it is held with the others
      held-more : (all : List Key) → list_any (same_items items x) keys ≡ false → all ≡ cond (list_any (same_items items x) keys) keys (keys ++ x ∷ [])
          → map items all ≡ map places_of (take (k + 1) forms)
      held-more all new e =
          ap (map items) (e ∙ ap (λ b. cond b keys (keys ++ x ∷ [])) new)
          ∙ map_push items keys x
          ∙ ap (λ l. l ++ items x ∷ []) held
          ∙ ap (λ y. map places_of (take k forms) ++ y ∷ []) (looked ∙ ap (λ n. places_of (get_or forms n [])) (omega arith))
          ∙ sym (map_more places_of forms k [] within)

    -- the forms that were looked at repeat none
    none-more : (k : ℕ) → ((h : ℕ) → 1 ≤ h → h ≤ k → earlier_multiple ring numbers forms h ≡ None) → earlier_multiple ring numbers forms (k + 1) ≡ None
        → (h : ℕ) → 1 ≤ h → h ≤ k + 1 → earlier_multiple ring numbers forms h ≡ None
    none-more k before here h low high =
        elim (cases_eq h (k + 1)) [
          | inl same ↦ ap (earlier_multiple ring numbers forms) same ∙ here
          | inr other ↦ before h low (omega (arith, other))
        ]

    -- where the key is new, the search goes on with it
    pub search-more : {Key : Type 0} (items : Key → List ℕ) (keys : List Key) (k : ℕ) (x : Key) → k < length forms
        → map items keys ≡ map places_of (take k forms) → items x ≡ places_of (row forms (k + 1))
        → ((h : ℕ) → 1 ≤ h → h ≤ k → earlier_multiple ring numbers forms h ≡ None)
        → (all : List Key) → list_any (same_items items x) keys ≡ false
        → all ≡ cond (list_any (same_items items x) keys) keys (keys ++ x ∷ [])
        → (map items all ≡ map places_of (take (k + 1) forms))
        × ((h : ℕ) → 1 ≤ h → h ≤ k + 1 → earlier_multiple ring numbers forms h ≡ None)
    search-more items keys k x within held looked before all new e = (
      held-more items keys k x within held looked all new e,
      none-more k before (repeat-none items keys k x within held looked new),
    )
