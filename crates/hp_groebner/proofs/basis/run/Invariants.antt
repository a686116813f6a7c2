use Rattle.hp_groebner.specs.Runs.{IsRun, job}
use Rattle.hp_groebner.proofs.basis.run.Given as goal

abbrev pub invariant-loop-d : goal.invariant-loop-d
invariant-loop-d g l = IsRun (job g.F.Ring.ring g.F.Field.inverse l.setting l.gens) l.state l.d 0 0 l.d
