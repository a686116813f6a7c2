-- What the hyperplanes of an arrangement have in common: cuts, flats, ranks, dependent sets and circuits. Points are counted; no form is reduced. Hyperplanes without a common point make no flat.
use Rattle.std.specs.Prelude.{◌≡◌, ℕ, ◌+◌, ◌*◌, ◌^◌, ◌==◌, nat_lt, Bool, IsTrue, not, ◌&&◌, if◌then◌else◌, List, [], ◌∷◌, length, filter, map, flat_map, Option, Some, None}
use Rattle.std.specs.declared.cmp.Ordering.{Ordering}
use Rattle.std.specs.Ordering.{nat_cmp, ordering_then}
use Rattle.hp_algebra.specs.Ring.{RingOf, Numbering, elements}
use Rattle.hp_lists.specs.Lists.{below, first_below, words_over, list_all, list_any}
use Rattle.hp_sets.specs.Sets.{Set, IsSetWithin, cmp_listed, sets_within, is_within, is_properly_within}
use Rattle.hp_sets.specs.declared.flat.Flat.{Flat}
use Rattle.hp_arr.specs.Arrangement.{Arrangement, indices, lies_in}

-- the smaller rank first, and flats of one rank as sets are listed
abbrev pub cmp_ranked : Flat → Flat → Ordering
cmp_ranked f g = ordering_then (nat_cmp f.rank g.rank) (cmp_listed f.set g.set)

-- the greatest of the numbers, and 0 where there is none
abbrev pub greatest : List ℕ → ℕ
greatest [] = 0
greatest (x ∷ xs) = if nat_lt (greatest xs) x then x else greatest xs

module _ {K : Type 0} (ring : RingOf K) (numbers : Numbering K) where
  -- the points of a space, in lexicographic order
  unfoldable pub points : ℕ → List (List K)
  points l = words_over (elements numbers) l

  -- the points that lie in H_i for every i of the set
  unfoldable pub cut : Arrangement K → Set → List (List K)
  cut arr s = filter (λ x. list_all (λ i. lies_in ring arr i x) s) (points arr.dim)

  -- the hyperplanes of the set have a common point
  unfoldable pub has_point : Arrangement K → Set → Bool
  has_point arr s = nat_lt 0 (length (cut arr s))

  -- what is said of a set, where it has a common point
  abbrev pub where_met : {X : Type 0} → Arrangement K → Set → X → Option X
  where_met arr s x = if has_point arr s then Some x else None

  -- the closure of a set with a common point, which is a flat: the hyperplanes that contain the cut
  unfoldable pub closure : Arrangement K → Set → Set
  closure arr s = filter (λ j. list_all (lies_in ring arr j) (cut arr s)) (indices arr)

  -- a set is a flat where it is the closure of some set of hyperplanes with a common point
  abbrev pub IsFlat : Arrangement K → Set → Type 0
  IsFlat arr f = (s : Set) × IsSetWithin (length arr.forms) s × IsTrue (has_point arr s) × (f ≡ closure arr s)

  -- the rank of a set with a common point: the r from 0 to the dimension with |cut| p^r = p^dim
  unfoldable pub rank : Arrangement K → Set → ℕ
  rank arr s = first_below (arr.dim + 1) (λ r. (length (cut arr s) * numbers.order ^ r) == numbers.order ^ arr.dim)

  -- whether a set has a common point and is its own closure
  unfoldable pub is_flat : Arrangement K → Set → Bool
  is_flat arr s = has_point arr s && (is_within (closure arr s) s && is_within s (closure arr s))

  -- the flats of one rank, as sets are listed
  unfoldable pub flats_of_rank : Arrangement K → ℕ → List Set
  flats_of_rank arr r = filter (λ s. is_flat arr s && (rank arr s == r)) (sets_within (length arr.forms))

  -- every flat once with its rank, by rank and then as sets are listed
  unfoldable pub flats : Arrangement K → List Flat
  flats arr = flat_map (λ r. map (λ s. record { rank = r; set = s }) (flats_of_rank arr r)) (below (arr.dim + 1))

  -- the rank of the arrangement: the greatest rank of a flat
  unfoldable pub total_rank : Arrangement K → ℕ
  total_rank arr = greatest (map (λ f. f.rank) (flats arr))

  -- a set is dependent where its rank is below its size
  unfoldable pub is_dependent : Arrangement K → Set → Bool
  is_dependent arr s = nat_lt (rank arr s) (length s)

  -- a circuit is dependent, and no set properly within it is
  unfoldable pub is_circuit : Arrangement K → Set → Bool
  is_circuit arr s = is_dependent arr s && not (list_any (λ t. is_properly_within t s && is_dependent arr t) (sets_within (length arr.forms)))
