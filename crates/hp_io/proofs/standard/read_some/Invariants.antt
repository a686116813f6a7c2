use Rattle.std.specs.Io.KnownBytes.{Keeps}
use Rattle.hp_io.proofs.standard.read_some.Given as goal

abbrev pub invariant-loop : goal.invariant-loop
invariant-loop g l = Keeps (g.I.Read.remaining l.fn.from) (g.I.Read.remaining l.from)
