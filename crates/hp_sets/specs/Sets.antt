-- Finite sets of the numbers 1 to 64. A set is the list of its members in rising order, so equal sets are equal lists.
use Rattle.std.specs.Prelude.{◌≡◌, ℕ, zero, suc, ◌≤◌, ◌==◌, nat_lt, Bool, not, ◌&&◌, ◌||◌, List, [], ◌∷◌, ◌++◌, length, filter, count_by, All, Contains}
use Rattle.std.specs.List.Sorted.{IsStrictlyIncreasing}
use Rattle.std.specs.declared.cmp.Ordering.{Ordering}
use Rattle.std.specs.Ordering.{nat_cmp, ordering_then}
use Rattle.std.specs.Cmp.Lexicographic.{slice_cmp}
use Rattle.hp_lists.specs.Lists.{one_to, list_any, list_all, sublists_of_length}

abbrev pub Set : Type 0
Set = List ℕ

-- The list is a set of numbers from 1 to n.
pub record IsSetWithin (n : ℕ) (s : Set) : Type 0 where
  pub rising : IsStrictlyIncreasing s
  pub members : All (λ i. (1 ≤ i) × (i ≤ n)) s

abbrev pub contains : Set → ℕ → Bool
contains s i = list_any (λ j. j == i) s

-- the set of the numbers from 1 to 64 with a property
unfoldable pub those : (ℕ → Bool) → Set
those test = filter test (one_to 64)

abbrev pub union : Set → Set → Set
union s t = those (λ i. contains s i || contains t i)

abbrev pub meet : Set → Set → Set
meet s t = those (λ i. contains s i && contains t i)

abbrev pub minus : Set → Set → Set
minus s t = those (λ i. contains s i && not (contains t i))

abbrev pub with_member : Set → ℕ → Set
with_member s i = union s (i ∷ [])

abbrev pub without_member : Set → ℕ → Set
without_member s i = minus s (i ∷ [])

abbrev pub is_within : Set → Set → Bool
is_within s t = list_all (contains t) s

-- within t and not all of it
abbrev pub is_properly_within : Set → Set → Bool
is_properly_within s t = is_within s t && not (is_within t s)

-- the least member, the greatest, and the member with exactly k smaller ones
abbrev pub IsLeast : Set → ℕ → Type 0
IsLeast s i = Contains s i × All (λ j. i ≤ j) s

abbrev pub IsGreatest : Set → ℕ → Type 0
IsGreatest s i = Contains s i × All (λ j. j ≤ i) s

abbrev pub HasSmaller : ℕ → Set → ℕ → Type 0
HasSmaller k s i = Contains s i × (count_by (λ j. nat_lt j i) s ≡ k)

-- the smaller size first, and sets of one size in lexicographic order of their members
abbrev pub cmp_listed : Set → Set → Ordering
cmp_listed s t = ordering_then (nat_cmp (length s) (length t)) (slice_cmp nat_cmp s t)

-- the sets within 1 to n of at most k members, and all sets within 1 to n, in that order
abbrev pub sets_of_at_most : ℕ → ℕ → List Set
sets_of_at_most n zero = sublists_of_length 0 (one_to n)
sets_of_at_most n (suc k) = sets_of_at_most n k ++ sublists_of_length (suc k) (one_to n)

unfoldable pub sets_within : ℕ → List Set
sets_within n = sets_of_at_most n n
