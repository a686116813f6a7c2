use Rattle.std.proofs.Common.{◌≡◌, ◌<◌, ◌≤◌, ℕ}
use Rattle.hp_syzygy.proofs.LeadExponents.{exponent_of}
use Rattle.hp_syzygy.proofs.relation.is_in_first.Given as goal

-- no other variable so far
abbrev pub invariant-loop-i : goal.invariant-loop-i
invariant-loop-i c = (j : ℕ) → c.l ≤ j → j < c.i → exponent_of c.m j ≡ 0
