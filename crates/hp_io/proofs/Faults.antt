-- Counts of faults over several calls.
use Rattle.std.proofs.Common.{ℕ, ◌-◌, ◌^◌, ◌≤◌, ◌⊎◌, inl, inr, arith}
use Rattle.hp_io.specs.Causes.{Rose, HasCause}

-- a count that rose in an earlier call rose over both
pub rose_then : (a b c : ℕ) → Rose a b → b ≤ c → Rose a c
rose_then a b c p q = omega arith

-- a count that rose in a later call rose over both
pub then_rose : (a b c : ℕ) → a ≤ b → Rose b c → Rose a c
then_rose a b c p q = omega arith

-- where nothing happens, there is no fault
pub cause_none : (a : ℕ) (fault : Type 0) → a ≤ 2 ^ 64 - 1 → ¬ fault → HasCause a a fault
cause_none a fault fits never = record { never_falls = omega arith; fits = fits; cause = λ here. absurd (never here) }

-- a fault of two calls is one of the first or of the second
pub cause_more : (a b c : ℕ) (first second both : Type 0) → HasCause a b first → HasCause b c second
    → (both → first ⊎ second) → HasCause a c both
cause_more a b c first second both p q which =
    record {
      never_falls = omega (arith, p.never_falls, q.never_falls);
      fits = q.fits;
      cause = λ here. elim (which here) [
        | inl one ↦ rose_then a b c (p.cause one) q.never_falls
        | inr two ↦ then_rose a b c p.never_falls (q.cause two)
      ];
    }
