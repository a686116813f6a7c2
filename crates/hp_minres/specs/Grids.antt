-- Row vectors as functions that are zero from their length on, and matrices as functions of row and column.
use Rattle.std.specs.Prelude.{◌≡◌, ℕ, zero, suc, ◌≤◌, List, [], slice_index_or}
use Rattle.hp_algebra.specs.Ring.{RingOf}
use Rattle.hp_algebra.specs.Rows.{entry}

-- the numbers other than r, in order
abbrev pub skip : ℕ → ℕ → ℕ
skip zero i = suc i
skip (suc r) zero = zero
skip (suc r) (suc i) = suc (skip r i)

module _ {R : Type 0} (ring : RingOf R) where
  -- f 0 + .. + f (n - 1)
  abbrev pub sum : ℕ → (ℕ → R) → R
  sum zero f = ring.zero
  sum (suc n) f = ring.add (f zero) (sum n (λ i. f (suc i)))

  abbrev pub zeros : ℕ → R
  zeros i = ring.zero

  -- A row vector of length n: values, and zero from n on.
  pub record IsRowOf (n : ℕ) (c : ℕ → R) : Type 0 where
    pub value : (i : ℕ) → ring.IsValue (c i)
    pub end : (i : ℕ) → n ≤ i → c i ≡ ring.zero

  -- the row vector c of length n times the matrix A
  abbrev pub combine : ℕ → (ℕ → R) → (ℕ → ℕ → R) → ℕ → R
  combine n c A j = sum n (λ i. ring.mul (c i) (A i j))

  -- a matrix with m columns
  abbrev pub IsGrid : ℕ → (ℕ → ℕ → R) → Type 0
  IsGrid m A = (i : ℕ) → IsRowOf m (A i)

  -- The relations of the n rows of A are the combinations of the q rows of N.
  pub record IsExactAt (n : ℕ) (A : ℕ → ℕ → R) (q : ℕ) (N : ℕ → ℕ → R) : Type 0 where
    pub in_image : (c : ℕ → R) → IsRowOf n c → combine n c A ≡ zeros → (d : ℕ → R) × IsRowOf q d × (c ≡ combine q d N)
    pub of_image : (d : ℕ → R) → IsRowOf q d → combine n (combine q d N) A ≡ zeros

  -- the entries of a list of rows, zero outside
  abbrev pub cell : List (List R) → ℕ → ℕ → R
  cell rows i j = entry ring (slice_index_or rows i []) j

  -- The entries without row r and column c after one step of elimination: the old entry less the product of the old entry
  -- in column c, of w and of the old entry in row r.
  abbrev pub eliminated : (ℕ → ℕ → R) → ℕ → ℕ → R → ℕ → ℕ → R
  eliminated A r c w i j =
      ring.add (A (skip r i) (skip c j)) (ring.neg (ring.mul (A (skip r i) c) (ring.mul w (A r (skip c j)))))
