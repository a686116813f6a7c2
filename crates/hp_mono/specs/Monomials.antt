-- Monomials as lists of exponents.
use Rattle.std.specs.Prelude.{◌≡◌, ℕ, ◌+◌, ◌-◌, ◌≤◌, max, List, [], ◌∷◌, length, sum, reverse, replicate, set, slice_index_or}
use Rattle.std.specs.declared.cmp.Ordering.{Ordering}
use Rattle.std.specs.Ordering.{nat_cmp, ordering_then}
use Rattle.std.specs.Cmp.Lexicographic.{slice_cmp}

-- how many variables there are
abbrev pub vars : ℕ
vars = 10

-- the greatest degree of a monomial that is kept in two words
abbrev pub max_degree : ℕ
max_degree = 4000

-- the exponents of x_1, .., x_10
abbrev pub Monomial : Type 0
Monomial = List ℕ

abbrev pub IsMonomial : Monomial → Type 0
IsMonomial m = length m ≡ vars

abbrev pub one : Monomial
one = replicate vars 0

-- x_i, with i from 1
abbrev pub variable : ℕ → Monomial
variable i = set one (i - 1) 1

-- the exponent of x_i, with i from 1
abbrev pub exponent : Monomial → ℕ → ℕ
exponent m i = slice_index_or m (i - 1) 0

abbrev pub degree : Monomial → ℕ
degree m = sum m

-- A monomial whose degree is at most a bound.
pub record IsMonomialUpTo (most : ℕ) (m : Monomial) : Type 0 where
  pub exponents : IsMonomial m
  pub degree_most : degree m ≤ most

-- place by place
abbrev pub with_each : (ℕ → ℕ → ℕ) → Monomial → Monomial → Monomial
with_each f [] ys = []
with_each f (x ∷ xs) [] = []
with_each f (x ∷ xs) (y ∷ ys) = f x y ∷ with_each f xs ys

abbrev pub product : Monomial → Monomial → Monomial
product = with_each ◌+◌

abbrev pub lcm : Monomial → Monomial → Monomial
lcm = with_each max

-- what the lcm of a and b has more than a
abbrev pub cofactor : Monomial → Monomial → Monomial
cofactor a b = with_each ◌-◌ (lcm a b) a

-- some monomial times a is b
abbrev pub Divides : Monomial → Monomial → Type 0
Divides a b = (m : Monomial) × IsMonomial m × (product m a ≡ b)

-- The greater degree is greater. For equal degrees, at the greatest place where the exponents differ, the smaller
-- exponent is greater: the exponents are compared from the last on, the other way round.
abbrev pub grevlex : Monomial → Monomial → Ordering
grevlex a b = ordering_then (nat_cmp (degree a) (degree b)) (slice_cmp nat_cmp (reverse b) (reverse a))
