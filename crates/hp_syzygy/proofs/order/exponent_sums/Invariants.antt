use Rattle.std.proofs.Common.{◌≡◌, ◌<◌, ℕ, get_or, length}
use Rattle.hp_mono.specs.Monomials.{product, vars}
use Rattle.hp_syzygy.proofs.order.exponent_sums.Given as goal

-- the exponents so far
abbrev pub invariant-loop-i : goal.invariant-loop-i
invariant-loop-i l = record {
  long : length l.sums ≡ vars;
  each : (j : ℕ) → j < l.i → get_or l.sums j 0 ≡ get_or (product l.a l.s) j 0;
}
