use Rattle.std.proofs.Common.{◌≡◌, ◌≤◌, length, drop}
use Rattle.hp_resolution.specs.Resolutions.{highest}
use Rattle.hp_minres.proofs.numbers.highest.Given as goal

abbrev pub invariant-loop-k : goal.invariant-loop-k
invariant-loop-k l = record {
  within : l.k ≤ length l.degrees;
  value : l.most ≡ highest (drop l.k l.degrees);
}
