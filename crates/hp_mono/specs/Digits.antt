-- Numbers by their digits in base 4096, the lowest first.
use Rattle.std.specs.Prelude.{◌≡◌, ℕ, ◌+◌, ◌*◌, ◌/◌, ◌%◌, ◌≤◌, List, [], ◌∷◌, ◌++◌}
use Rattle.hp_mono.specs.Monomials.{Monomial}
use native.Mathlib.Omega.{arith}

-- five digits, the last with all that is above it
abbrev pub five_digits : ℕ → List ℕ
five_digits w =
    w % 4096 ∷ w / 4096 % 4096 ∷ w / 4096 / 4096 % 4096 ∷ w / 4096 / 4096 / 4096 % 4096
    ∷ w / 4096 / 4096 / 4096 / 4096 ∷ []

-- each number of a list is at most the number at its place in another
abbrev pub EachAtMost : List ℕ → List ℕ → Type 0
EachAtMost [] ys = Unit {0}
EachAtMost (x ∷ xs) [] = Unit {0}
EachAtMost (x ∷ xs) (y ∷ ys) = (x ≤ y) × EachAtMost xs ys

-- the number with these digits
abbrev pub from_digits : List ℕ → ℕ
from_digits [] = 0
from_digits (d ∷ ds) = d + 4096 * from_digits ds

-- the exponents that two words stand for
abbrev pub exponents_of : ℕ → ℕ → Monomial
exponents_of low high = five_digits low ++ five_digits high

-- the words with these exponents
abbrev pub low_word : Monomial → ℕ
low_word (a ∷ b ∷ c ∷ d ∷ e ∷ rest) = from_digits (a ∷ b ∷ c ∷ d ∷ e ∷ [])
low_word m = 0

abbrev pub high_word : Monomial → ℕ
high_word (a ∷ b ∷ c ∷ d ∷ e ∷ rest) = from_digits rest
high_word m = 0

pub low_word-exponents_of : (low high : ℕ) → low_word (exponents_of low high) ≡ low
low_word-exponents_of low high = omega arith

pub high_word-exponents_of : (low high : ℕ) → high_word (exponents_of low high) ≡ high
high_word-exponents_of low high = omega arith
