-- The points of a space: which they are, how many, and sums over them.
use Rattle.std.specs.Prelude.{◌≡◌, ℕ, ◌^◌, List, length, Contains, sum_by}
use Rattle.hp_algebra.specs.Rows.{IsRow, row_plus}
use Rattle.hp_algebra.proofs.Finite.{Finite}
use Rattle.hp_algebra.proofs.Elements.{words-rows, rows-words, rows-number, sum-translate}
use Rattle.hp_arr.specs.Flats.{points}

module _ {K : Type 0} (F : Finite K) where
  open F use {ring, numbers}

  -- the points of a space are the rows of its dimension
  pub points-rows : (l : ℕ) (x : List K) → Contains (points ring numbers l) x → IsRow ring l x
  unfolding points
  points-rows l x c = words-rows F l x c

  pub rows-points : (l : ℕ) (x : List K) → IsRow ring l x → Contains (points ring numbers l) x
  unfolding points
  rows-points l x r = rows-words F l x r

  -- how many there are
  pub points-number : (l : ℕ) → length (points ring numbers l) ≡ numbers.order ^ l
  unfolding points
  points-number l = rows-number F l

  -- a sum over all points does not change by a translation
  pub sum-points : (l : ℕ) (v : List K) → IsRow ring l v → (f : List K → ℕ)
      → sum_by (λ w. f (row_plus ring w v)) (points ring numbers l) ≡ sum_by f (points ring numbers l)
  unfolding points
  sum-points l v h f = sum-translate F l v h f
