-- The elements of a finite field and the rows over it: which they are, how many, and sums over them.
use Rattle.std.specs.Prelude.{◌≡◌, ◌≢◌, ◌↔◌, ℕ, zero, suc, ◌^◌, ◌<◌, ◌≤◌, Bool, true, List, [], ◌∷◌, map, length, Contains, sum_by}
use Rattle.std.specs.List.{list_any}
use Rattle.std.proofs.lemmas.List.FromFn.{length-map-range_with_len}
use Rattle.std.proofs.lemmas.List.Elements.{All-nil, All-head, Contains-get_or}
use Rattle.std.proofs.lemmas.List.Folds.{Any-from_list_any, list_any_at}
use mathlib.Core.Logic.{inl, inr}
use mathlib.Core.Path.{refl, sym, ap, ◌∙◌, subst}
use native.Mathlib.Omega.{arith}
use Rattle.hp_lists.specs.Lists.{Ordered, words_over, below}
use Rattle.hp_algebra.specs.Ring.{IsRing, multiple_of_one, elements}
use Rattle.hp_algebra.specs.Rows.{IsRow, row_plus}
use Rattle.hp_algebra.proofs.Finite.{Finite}
use Rattle.hp_lists.proofs.Members.{Contains-here, Contains-cases, Contains-none, Contains-map, map-Contains}
use Rattle.hp_lists.proofs.Ordered.{Ordered-weaker, Ordered-map}
use Rattle.hp_lists.proofs.Ranges.{below_members, members_below, range_rises}
use Rattle.hp_algebra.proofs.Rings.{add_cancel_right}
use Rattle.hp_algebra.proofs.Rows.{row-tail, row-cons}
use Rattle.hp_lists.proofs.NaturalSums.{sum_by-ext, sum_by-map, sum_by-words, sum_by-cycle}
use Rattle.hp_lists.proofs.WordsOver.{words-length, words-once, starting-Contains, Contains-starting}

module _ {K : Type 0} (F : Finite K) where
  open F use {ring, numbers, field, num}

  abbrev laws : IsRing ring
  laws = field.is_ring

  -- ---- the elements

  pub elements-length : length (elements numbers) ≡ numbers.order
  unfolding elements
  elements-length = length-map-range_with_len numbers.nth 0 numbers.order

  pub elements-values : (x : K) → Contains (elements numbers) x → ring.IsValue x
  unfolding elements
  elements-values x c =
      let m = map-Contains numbers.nth (below numbers.order) x c in
      subst ring.IsValue m.2 (num.nth_value m.0 (below_members m.0 numbers.order m.1))

  pub elements-complete : (x : K) → ring.IsValue x → Contains (elements numbers) x
  unfolding elements
  elements-complete x v =
      subst (Contains (map numbers.nth (below numbers.order))) (num.nth_of_place x v)
      (Contains-map numbers.nth (below numbers.order) (numbers.place x) (members_below (numbers.place x) numbers.order (num.place_below x v)))

  pub elements-once : Ordered (λ x y. x ≢ y) (elements numbers)
  unfolding elements
  elements-once =
      Ordered-map (λ x y. x ≢ y) numbers.nth (below numbers.order) (Ordered-weaker (λ h k. h < k) _ (below numbers.order)
      (λ h k c d l e.
      let same = sym (num.place_of_nth h (below_members h numbers.order c)) ∙ ap numbers.place e ∙ num.place_of_nth k (below_members k numbers.order d) in
      absurd (omega (arith, l, same)))
      (range_rises 0 numbers.order))

  -- a field has two elements at least
  pub two_elements : 2 ≤ numbers.order
  two_elements =
      let zero_below = num.place_below _ laws.zero_value in
      let one_below = num.place_below _ laws.one_value in
      let apart : numbers.place ring.zero ≢ numbers.place ring.one =
      λ e. field.one_zero (sym (num.nth_of_place _ laws.one_value) ∙ ap numbers.nth (sym e) ∙ num.nth_of_place _ laws.zero_value) in
      omega (arith, zero_below, one_below, apart)

  -- some element passes a test exactly where some value does
  pub elements-any : (test : K → Bool)
      → (list_any test (elements numbers) ≡ true) ↔ ((c : K) × ring.IsValue c × (test c ≡ true))
  elements-any test = (
    λ t. (let some = Any-from_list_any test (elements numbers) t in
        (some.1, elements-values some.1 (subst (Contains (elements numbers)) some.3 (Contains-get_or (elements numbers) some.0 some.1 some.2)), some.4)),
    λ m. (let c = elements-complete m.0 m.1 in list_any_at test (elements numbers) c.0 m.0 c.1 (ap test c.2 ∙ m.2)),
  )

  -- ---- sums over the elements

  multiple-value : (k : ℕ) → ring.IsValue (multiple_of_one ring k)
  unfolding multiple_of_one
  multiple-value zero = laws.zero_value
  multiple-value (suc k) = laws.add_value _ _ (multiple-value k) laws.one_value

  -- as many times one as there are elements is zero
  order-zero : multiple_of_one ring numbers.order ≡ ring.zero
  unfolding multiple_of_one
  order-zero = go numbers.order (numbers.place (multiple_of_one ring numbers.order)) refl (num.place_below _ (multiple-value numbers.order))
      (sym (num.nth_of_place _ (multiple-value numbers.order)) ∙ num.nth_multiple _ (num.place_below _ (multiple-value numbers.order)))
    where
      go : (n j : ℕ) → n ≡ numbers.order → j < n → multiple_of_one ring n ≡ multiple_of_one ring j
          → multiple_of_one ring n ≡ ring.zero
      go n zero e l m = m
      go zero (suc i) e l m = absurd (omega (arith, l))
      go (suc q) (suc i) e l m =
          let high : q < numbers.order = omega (arith, e) in
          let low : i < numbers.order = omega (arith, e, l) in
          let same : numbers.nth q ≡ numbers.nth i =
          num.nth_multiple q high ∙ add_cancel_right laws _ _ ring.one (multiple-value q) (multiple-value i) laws.one_value m ∙ sym (num.nth_multiple i low) in
          let equal = sym (num.place_of_nth q high) ∙ ap numbers.place same ∙ num.place_of_nth i low in
          absurd (omega (arith, l, equal))

  -- the elements are the multiples of one
  sum-multiples : (f : K → ℕ)
      → sum_by f (elements numbers) ≡ sum_by (λ k. f (multiple_of_one ring k)) (below numbers.order)
  unfolding elements
  sum-multiples f =
      sum_by-map f numbers.nth (below numbers.order)
      ∙ sum_by-ext _ _ (below numbers.order) (λ k c. ap f (num.nth_multiple k (below_members k numbers.order c)))

  sum-plus_one : (f : K → ℕ) → sum_by (λ x. f (ring.add x ring.one)) (elements numbers) ≡ sum_by f (elements numbers)
  unfolding multiple_of_one
  sum-plus_one f =
      sum-multiples (λ x. f (ring.add x ring.one))
      ∙ sum_by-cycle (λ k. f (multiple_of_one ring k)) numbers.order (ap f order-zero) ∙ sym (sum-multiples f)

  sum-plus_multiple : (m : ℕ) (f : K → ℕ)
      → sum_by (λ x. f (ring.add x (multiple_of_one ring m))) (elements numbers) ≡ sum_by f (elements numbers)
  unfolding multiple_of_one
  sum-plus_multiple zero f = sum_by-ext _ _ (elements numbers) (λ x c. ap f (laws.add_zero x (elements-values x c)))
  sum-plus_multiple (suc m) f =
      sum_by-ext _ _ (elements numbers) (λ x c. ap f (sym (laws.add_assoc x _ _ (elements-values x c) (multiple-value m) laws.one_value)))
      ∙ sum-plus_multiple m (λ y. f (ring.add y ring.one)) ∙ sum-plus_one f

  -- a sum over the field does not change by a translation
  pub sum-plus : (w : K) → ring.IsValue w → (f : K → ℕ)
      → sum_by (λ x. f (ring.add x w)) (elements numbers) ≡ sum_by f (elements numbers)
  sum-plus w v f =
      let e : multiple_of_one ring (numbers.place w) ≡ w = sym (num.nth_multiple _ (num.place_below w v)) ∙ num.nth_of_place w v in
      ap (λ z. sum_by (λ x. f (ring.add x z)) (elements numbers)) (sym e) ∙ sum-plus_multiple (numbers.place w) f

  -- ---- rows

  -- the words over the elements are the rows
  pub words-rows : (l : ℕ) (x : List K) → Contains (words_over (elements numbers) l) x → IsRow ring l x
  words-rows zero x c = elim (Contains-cases [] [] x c) [ inl e ↦ subst (IsRow ring 0) e (refl, All-nil ring.IsValue) | inr d ↦ absurd (Contains-none x d) ]
  words-rows (suc l) x c =
      let u = starting-Contains (words_over (elements numbers) l) (elements numbers) x c in
      subst (IsRow ring (suc l)) u.4 (row-cons laws l u.0 u.1 (elements-values u.0 u.2) (words-rows l u.1 u.3))

  pub rows-words : (l : ℕ) (x : List K) → IsRow ring l x → Contains (words_over (elements numbers) l) x
  rows-words zero [] r = Contains-here [] []
  rows-words zero (c ∷ x) r = absurd (omega (arith, r.0))
  rows-words (suc l) [] r = absurd (omega (arith, r.0))
  rows-words (suc l) (c ∷ x) r =
      Contains-starting (words_over (elements numbers) l) (elements numbers) c x (elements-complete c (All-head ring.IsValue c x r.1))
      (rows-words l x (row-tail laws l c x r))

  pub rows-once : (l : ℕ) → Ordered (λ x y. x ≢ y) (words_over (elements numbers) l)
  rows-once l = words-once (elements numbers) l elements-once

  -- how many rows there are
  pub rows-number : (l : ℕ) → length (words_over (elements numbers) l) ≡ numbers.order ^ l
  rows-number l = words-length (elements numbers) l ∙ ap (λ n. n ^ l) elements-length

  -- a sum over all rows does not change by a translation
  pub sum-translate : (l : ℕ) (v : List K) → IsRow ring l v → (f : List K → ℕ)
      → sum_by (λ w. f (row_plus ring w v)) (words_over (elements numbers) l)
      ≡ sum_by f (words_over (elements numbers) l)
  sum-translate zero v h f = refl
  sum-translate (suc l) [] h f = absurd (omega (arith, h.0))
  sum-translate (suc l) (c ∷ v) h f =
      sum_by-words (λ w. f (row_plus ring w (c ∷ v))) (elements numbers) l
      ∙ sum_by-ext _ _ (elements numbers) (λ x m. sum-translate l v (row-tail laws l c v h) (λ w. f (ring.add x c ∷ w)))
      ∙ sum-plus c (All-head ring.IsValue c v h.1) (λ x. sum_by (λ w. f (x ∷ w)) (words_over (elements numbers) l))
      ∙ sym (sum_by-words f (elements numbers) l)
