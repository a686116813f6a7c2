use Rattle.std.proofs.Common.{◌≡◌, ◌≤◌, length, drop}
use Rattle.hp_exterior.specs.Exterior.{monomial}
use Rattle.hp_sets.specs.Sets.{IsSetWithin}
use Rattle.hp_session.specs.Expressions.{generator_product}
use Rattle.hp_session.proofs.expressions.generator_product.Given as goal

abbrev pub invariant-loop-k : goal.invariant-loop-k
invariant-loop-k g l = record {
  within : l.k ≤ length l.generators;
  value : monomial g.K.Ring.ring l.factor l.set ≡ generator_product g.K.Ring.ring (drop l.k l.generators);
  set : IsSetWithin 64 l.set;
  answer : g.K.Ring.ring.IsValue l.factor;
}
