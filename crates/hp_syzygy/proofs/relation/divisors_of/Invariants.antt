use Rattle.std.proofs.Common.{◌≡◌, take, length}
use Rattle.hp_module.specs.FallingTerms.{AreDivisors, with_leads}
use Rattle.hp_syzygy.specs.ChainOrders.{chain_order}
use Rattle.hp_syzygy.proofs.relation.divisors_of.Given as goal

-- the members so far
abbrev pub invariant-loop-k : goal.invariant-loop-k
invariant-loop-k g c = record {
  divisors : AreDivisors g.F.Ring.ring (chain_order c.level.chain) (length c.level.chain.tops) c.divisors;
  members : (with_leads g.F.Ring.ring c.divisors).members ≡ take c.k c.level.members;
}
