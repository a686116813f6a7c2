use Rattle.hp_groebner.specs.NewPairs.{AreAdded}
use Rattle.hp_groebner.proofs.queue.add_pairs.Given as goal

abbrev pub invariant-loop-k : goal.invariant-loop-k
invariant-loop-k l = AreAdded l.leads l.t l.limit l.kept l.k l.initial.due.items l.due.items
