-- What the search finds of a wanted size: how it grows by one more number, and the list that it is when it is sorted.
use Rattle.std.specs.Prelude.{◌≡◌, ◌≢◌, ◌↔◌, ℕ, ◌<◌, ◌≤◌, ◌==◌, Bool, true, false, cond, ◌&&◌, List, [], ◌∷◌, ◌++◌, length, filter, Contains, Option, Some, None, pos, ◌*ℤ◌}
use Rattle.std.specs.List.Sorted.{IsStrictlySortedBy, IsSorted, IsPermutation}
use Rattle.std.proofs.lemmas.List.Kept.{IsStrictlySortedBy-filter}
use mathlib.Core.Path.{refl, sym, ap, ◌∙◌, subst}
use Rattle.hp_algebra.specs.Integers.{sign}
use Rattle.hp_lists.proofs.Distinct.{Distinct}
use Rattle.hp_lists.proofs.Members.{Contains-filter, filter-Contains, filter-ext}
use Rattle.hp_lists.proofs.Ordered.{Ordered-filter}
use Rattle.hp_sets.specs.Sets.{Set, IsSetWithin, cmp_listed, sets_within}
use Rattle.hp_sets.proofs.SetLists.{sets-complete, sets_within-sorted}
use Rattle.hp_arr.specs.Circuits.{is_nbc, nbc_sets, nbc_sets_of_size}
use Rattle.hp_arr.specs.Moebius.{rank_sum}
use Rattle.hp_arr.proofs.Setting.{Setting, n}
use Rattle.hp_arr.proofs.MobiusLaws.{coefficient-nbc}
use Rattle.hp_circuits.specs.NbcSearch.{is_wanted, wanted_from}
use Rattle.hp_circuits.proofs.NbcLaw.{Nbc, nbc-same}
use Rattle.hp_circuits.proofs.NbcFound.{all_found, found-nbc, nbc-once}
use Rattle.hp_circuits.proofs.SortedSets.{sorted-listed, found-count}

filter-twice : {X : Type 0} (p q : X → Bool) (xs : List X) → filter q (filter p xs) ≡ filter (λ x. p x && q x) xs
filter-twice p q [] = refl
filter-twice {X} p q (x ∷ xs) = step (p x) (filter-twice p q xs)
  where
    step : (b : Bool) → filter q (filter p xs) ≡ filter (λ y. p y && q y) xs
        → filter q (cond b (x ∷ filter p xs) (filter p xs))
        ≡ cond (b && q x) (x ∷ filter (λ y. p y && q y) xs) (filter (λ y. p y && q y) xs)
    step true e = ap (λ (ys : List X). cond (q x) (x ∷ ys) ys) e
    step false e = e

module _ {K : Type 0} (S : Setting K) where
  open S use {ring, inverse, numbers, arr}

  -- ---- the lists

  pub nbc_sets-rise : IsStrictlySortedBy cmp_listed (nbc_sets ring numbers arr)
  unfolding nbc_sets
  nbc_sets-rise = IsStrictlySortedBy-filter cmp_listed (is_nbc ring numbers arr) (sets_within (n S)) (sets_within-sorted (n S))

  pub nbc_sets-members : (U : Set) → Contains (nbc_sets ring numbers arr) U ↔ (IsSetWithin (n S) U × Nbc S U)
  unfolding nbc_sets
  nbc_sets-members U = (
    (λ c. let d = filter-Contains (is_nbc ring numbers arr) (sets_within (n S)) U c in ((sets-complete (n S) U).0 d.0, d.1)),
    λ h. Contains-filter (is_nbc ring numbers arr) (sets_within (n S)) U ((sets-complete (n S) U).1 h.0) h.1,
  )

  -- those of the wanted size
  abbrev pub wanted_sets : Option ℕ → List Set
  wanted_sets w = filter (is_wanted w) (nbc_sets S.ring S.numbers S.arr)

  abbrev pub wanted_found : Option ℕ → List Set
  wanted_found w = filter (is_wanted w) (all_found S)

  wanted-rise : (w : Option ℕ) → IsStrictlySortedBy cmp_listed (wanted_sets w)
  wanted-rise w = IsStrictlySortedBy-filter cmp_listed (is_wanted w) (nbc_sets ring numbers arr) nbc_sets-rise

  wanted-once : (w : Option ℕ) → Distinct (wanted_found w)
  wanted-once w = Ordered-filter (λ x y. x ≢ y) (is_wanted w) (all_found S) (nbc-once S)

  wanted-members : (w : Option ℕ) (U : Set) → Contains (wanted_found w) U ↔ Contains (wanted_sets w) U
  wanted-members w U = (
    (λ c. let d = filter-Contains (is_wanted w) (all_found S) U c in
        Contains-filter (is_wanted w) (nbc_sets ring numbers arr) U ((nbc_sets-members U).1 ((found-nbc S U).0 d.0)) d.1),
    λ c. let d = filter-Contains (is_wanted w) (nbc_sets ring numbers arr) U c in
        Contains-filter (is_wanted w) (all_found S) U ((found-nbc S U).1 ((nbc_sets-members U).0 d.0)) d.1,
  )

  -- What was found, sorted, is the list.
  pub wanted-sorted : (w : Option ℕ) (ys : List Set) → IsPermutation (wanted_found w) ys → IsSorted cmp_listed ys
      → ys ≡ wanted_sets w
  wanted-sorted w ys p s = sorted-listed (wanted_found w) ys (wanted_sets w) (wanted-once w) p s (wanted-rise w) (wanted-members w)

  pub wanted-count : (w : Option ℕ) → length (wanted_found w) ≡ length (wanted_sets w)
  wanted-count w = found-count (wanted_found w) (wanted_sets w) (wanted-once w) (wanted-rise w) (wanted-members w)

  -- the search from the empty set with the forms
  module _ (w : Option ℕ) (set : Set) (rows : List (List K)) (old : List Set) (nothing : old ≡ []) (empty : set ≡ [])
      (forms : rows ≡ arr.forms) where
    from-empty : old ++ wanted_from ring inverse w (length rows) set rows ≡ wanted_found w
    from-empty = λ i. nothing i ++ wanted_from ring inverse w (length (forms i)) (empty i) (forms i)

    module _ (after : List Set) (is : after ≡ old ++ wanted_from ring inverse w (length rows) set rows) where
      pub after-sorted : (ys : List Set) → IsPermutation after ys → IsSorted cmp_listed ys → ys ≡ wanted_sets w
      after-sorted ys p s = wanted-sorted w ys (subst (λ xs. IsPermutation xs ys) (is ∙ from-empty) p) s

      pub after-few : (most : ℕ) → length after ≤ most → length (wanted_sets w) ≤ most
      after-few most l = subst (λ k. k ≤ most) (ap (λ (xs : List Set). length xs) (is ∙ from-empty) ∙ wanted-count w) l

    pub after-stops : (most : ℕ) → most < length (old ++ wanted_from ring inverse w (length rows) set rows)
        → most < length (wanted_sets w)
    after-stops most l = subst (λ k. most < k) (ap (λ (xs : List Set). length xs) from-empty ∙ wanted-count w) l

  pub wanted-all : wanted_sets None ≡ nbc_sets ring numbers arr
  wanted-all = all (nbc_sets ring numbers arr)
    where
      all : (xs : List Set) → filter (is_wanted None) xs ≡ xs
      all [] = refl
      all (x ∷ xs) = ap (λ ys. x ∷ ys) (all xs)

  pub wanted-size : (k : ℕ) → wanted_sets (Some k) ≡ nbc_sets_of_size ring numbers arr k
  unfolding nbc_sets_of_size
  wanted-size k = refl

  -- The sets of k members are as many as the coefficient of degree k says.
  pub size-count : (k : ℕ) → pos (length (filter (λ s. length s == k) (nbc_sets ring numbers arr)))
      ≡ rank_sum ring numbers arr k *ℤ sign k
  unfolding nbc_sets
  size-count k =
      ap (λ (xs : List Set). pos (length xs))
      (filter-twice (is_nbc ring numbers arr) (λ s. length s == k) (sets_within (n S))
      ∙ filter-ext _ _ (sets_within (n S)) (λ s c. ap (λ b. b && (length s == k)) (nbc-same S s)))
      ∙ sym (coefficient-nbc S k)

  pub wanted-size_count : (k : ℕ)
      → pos (length (nbc_sets_of_size ring numbers arr k)) ≡ rank_sum ring numbers arr k *ℤ sign k
  unfolding nbc_sets_of_size
  wanted-size_count k = size-count k
