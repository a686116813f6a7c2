-- What the search for flats keeps: the values of all rows, and of the last coordinate, at points of the cone that decide which hyperplanes contain a flat.
use Rattle.std.specs.Prelude.{◌≡◌, ℕ, ◌-◌, ◌≤◌, true, false, List, map, flat_map, slice_index_or, Contains, []}
use Rattle.std.specs.List.Sorted.{IsStrictlySortedBy}
use Rattle.std.specs.Map.{keys_of}
use Rattle.hp_algebra.specs.Ring.{RingOf, Numbering, dot_of}
use Rattle.hp_lists.specs.Lists.{below, list_all}
use Rattle.hp_arr.specs.Arrangement.{Arrangement, form, indices, lies_in}
use Rattle.hp_arr.specs.Operations.{cone}
use Rattle.hp_algebra.specs.Rows.{IsRow, entry, row_plus, row_scale}
use Rattle.hp_arr.specs.Flats.{rank, IsFlat, flats_of_rank}
use Rattle.hp_sets.specs.Sets.{Set, contains, cmp_listed}
use Rattle.hp_sets.specs.declared.flat.Flat.{Flat}

module _ {K : Type 0} (ring : RingOf K) where
  -- the value of form j, from the values of all forms at a point
  abbrev pub at_form : ℕ → List K → K
  at_form j values = entry ring values (j - 1)

  -- form i is w there, and form j is v: the cross products of these values and those at each of the points are equal
  abbrev pub AreParallel : List (List K) → ℕ → ℕ → ℕ → Type 0
  AreParallel rows q i j = let pivot = slice_index_or rows q [] in
      (w : List K) → Contains rows w → ring.mul (at_form i pivot) (at_form j w) ≡ ring.mul (at_form j pivot) (at_form i w)

  -- of the hyperplanes from one number to another, those that are not covered and are parallel to H_i
  abbrev pub IsParallelFrom : List (List K) → Set → ℕ → ℕ → ℕ → ℕ → ℕ → Type 0
  IsParallelFrom rows covered q i from to k = (from ≤ k) × (k ≤ to) × (contains covered k ≡ false) × AreParallel rows q i k

  -- the values at a point of H_i in the plane of two points: the first and the pivot
  abbrev pub reduced : List K → ℕ → List K → List K
  reduced pivot i w = row_plus ring (row_scale ring (at_form i pivot) w) (row_scale ring (ring.neg (at_form i w)) pivot)

module _ {K : Type 0} (ring : RingOf K) (arr : Arrangement K) where
  -- a point that lies in each hyperplane of the set
  abbrev pub IsPointOf : Set → List K → Type 0
  IsPointOf s x = IsRow ring arr.dim x × (list_all (λ i. lies_in ring arr i x) s ≡ true)

  -- the values of all forms at a point
  abbrev pub values_of : List K → List K
  values_of x = map (λ j. dot_of ring (form arr j) x) (indices arr)

  -- The values of all forms at some points of the set. A form that is zero at these is zero at all points of the set.
  pub record HasValues (s : Set) (rows : List (List K)) : Type 0 where
    pub points : List (List K)
    pub lie : (b : List K) → Contains points b → IsPointOf s b
    pub decide : (a : List K) → IsRow ring arr.dim a → ((b : List K) → Contains points b → dot_of ring a b ≡ ring.zero)
        → (x : List K) → IsPointOf s x → dot_of ring a x ≡ ring.zero
    pub values : rows ≡ map values_of points

module _ {K : Type 0} (ring : RingOf K) (numbers : Numbering K) (arr : Arrangement K) where
  -- a flat of rank r with such values, of the forms of the cone
  pub record IsEntry (r : ℕ) (f : Set) (rows : List (List K)) : Type 0 where
    pub is_flat : IsFlat ring numbers arr f
    pub has_rank : rank ring numbers arr f ≡ r
    pub has_values : HasValues ring (cone ring arr.dim arr.forms) f rows

  -- some flats of rank r, as sets are listed
  pub record AreOfRank (r : ℕ) (entries : List (Set × List (List K))) : Type 0 where
    pub each : (f : Set) (rows : List (List K)) → Contains entries (f, rows) → IsEntry r f rows
    pub sorted : IsStrictlySortedBy cmp_listed (keys_of entries)

  -- all flats of rank r
  pub record IsLevel (r : ℕ) (entries : List (Set × List (List K))) : Type 0 where
    pub are : AreOfRank r entries
    pub sets : keys_of entries ≡ flats_of_rank ring numbers arr r

  -- the flats of rank below r with their ranks
  abbrev pub flats_below : ℕ → List Flat
  flats_below r = flat_map (λ k. map (λ s. record { rank = k; set = s }) (flats_of_rank ring numbers arr k)) (below r)
