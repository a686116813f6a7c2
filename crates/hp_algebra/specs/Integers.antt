-- Signs, and sums of integers over a list.
use Rattle.std.specs.Prelude.{ℕ, zero, suc, List, [], ◌∷◌, ℤ, pos, ◌+ℤ◌, neg_ℤ}

-- (-1)^k
abbrev pub sign : ℕ → ℤ
sign zero = pos 1
sign (suc k) = neg_ℤ (sign k)

-- the sum of f over the list
abbrev pub sum_over : {X : Type 0} → (X → ℤ) → List X → ℤ
sum_over f [] = pos 0
sum_over f (x ∷ xs) = f x +ℤ sum_over f xs
