-- The residues modulo p.
use Rattle.std.specs.Prelude.{ℕ, ◌+◌, ◌-◌, ◌*◌, ◌%◌, ◌<◌, ◌==◌}
use Rattle.hp_algebra.specs.Ring.{RingOf, Numbering}
use Rattle.hp_lists.specs.Lists.{first_below}

abbrev pub residue_ring : ℕ → RingOf ℕ
residue_ring p = record {
  IsValue = λ r. r < p;
  zero = 0;
  one = 1 % p;
  add = λ a b. (a + b) % p;
  neg = λ a. (p - a) % p;
  mul = λ a b. (a * b) % p;
  is_zero = λ a. a == 0;
  weight = λ a. 0;
}

-- the residue b with a b = 1 modulo p
unfoldable pub inverse_mod : ℕ → ℕ → ℕ
inverse_mod p a = first_below p (λ b. ((a * b) % p) == 1)

-- the residues by their own numbers
abbrev pub residue_numbers : ℕ → Numbering ℕ
residue_numbers p = record { order = p; nth = λ k. k; place = λ a. a }
