use Rattle.std.proofs.Common.{All, length, drop, ◌≤◌}
use Rattle.hp_module.specs.Vectors.{IsVector}
use Rattle.hp_groebner.proofs.basis.greatest_width.Given as goal

abbrev pub invariant-loop-k : goal.invariant-loop-k
invariant-loop-k g l = record {
  within : l.k ≤ length l.gens;
  vectors : All (λ v. IsVector g.F.Ring.ring (length v) v) (drop l.k l.gens);
}
