use Rattle.std.proofs.Common.{◌≡◌, ◌≤◌, ◌++◌, length}
use Rattle.hp_circuits.specs.NbcSearch.{wanted_from}
use Rattle.hp_circuits.proofs.nbc_search.+extend.Given as goal

abbrev pub decreases-extend : goal.decreases-extend
decreases-extend g l = length l.rows.now

-- what was found from the forms so far
abbrev pub invariant-loop-m : goal.invariant-loop-m
invariant-loop-m g l = record {
  found : l.found.items ≡ l.fn.found.items ++ wanted_from g.K.Ring.ring g.K.Field.inverse l.wanted l.m l.set l.rows;
  room : length l.found.items ≤ l.most;
}
