-- The set that a word stands for, and the word of a set.
use Rattle.std.specs.Prelude.{ℕ, ◌+◌, ◌-◌, ◌^◌, ◌==◌, [], ◌∷◌}
use Rattle.std.specs.Int.{bit_at}
use Rattle.hp_sets.specs.Sets.{Set, those}

-- i is a member where bit i - 1 is set
unfoldable pub members : ℕ → Set
members n = those (λ i. bit_at n (i - 1) == 1)

-- the sum of 2^(i-1) over the members
unfoldable pub bits_of : Set → ℕ
bits_of [] = 0
bits_of (i ∷ s) = 2 ^ (i - 1) + bits_of s
