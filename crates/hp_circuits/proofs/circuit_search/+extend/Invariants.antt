use Rattle.std.proofs.Common.{◌≡◌, ◌≤◌, ◌++◌, drop, length}
use Rattle.hp_circuits.specs.Bounds.{most_circuits}
use Rattle.hp_circuits.specs.CircuitSteps.{searched}
use Rattle.hp_circuits.proofs.circuit_search.+extend.Given as goal

abbrev pub decreases-extend : goal.decreases-extend
decreases-extend g l = length l.later.now

-- what is found and what the forms that are left will give are all
abbrev pub invariant-loop-k : goal.invariant-loop-k
invariant-loop-k g l =
    let ring = g.K.Ring.ring in
    let inverse = g.K.Field.inverse in
    record {
      all : l.found.items ++ searched ring inverse l.fn.set (drop l.k l.fn.later) ≡ l.fn.found.items ++ searched ring inverse l.fn.set l.fn.later;
      few : length l.found.items ≤ most_circuits;
    }
