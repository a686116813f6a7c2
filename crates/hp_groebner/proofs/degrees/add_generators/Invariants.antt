use Rattle.std.proofs.Common.{◌+◌}
use Rattle.hp_groebner.specs.Runs.{IsRun, job}
use Rattle.hp_groebner.proofs.degrees.add_generators.Given as goal

abbrev pub invariant-loop-k : goal.invariant-loop-k
invariant-loop-k g l = IsRun (job g.F.Ring.ring g.F.Field.inverse l.setting l.gens) l.state l.d l.k 0 (l.d + 1)
