-- Prime numbers.
use Rattle.std.specs.Prelude.{◌≡◌, ℕ, ◌<◌, ◌⊎◌, List, [], ◌∷◌}
use Rattle.std.specs.Int.{◌∣◌}

-- no divisors but 1 and itself
pub record IsPrime (p : ℕ) : Type 0 where
  pub above_one : 1 < p
  pub divisors : (d : ℕ) → d ∣ p → (d ≡ 1) ⊎ (d ≡ p)

-- the primes of the fields
abbrev pub listed_primes : List ℕ
listed_primes = 5 ∷ 7 ∷ 13 ∷ 31 ∷ 101 ∷ 251 ∷ 32003 ∷ []
