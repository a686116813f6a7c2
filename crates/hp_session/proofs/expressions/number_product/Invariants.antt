use Rattle.std.proofs.Common.{◌≡◌, ◌≤◌, length, drop}
use Rattle.hp_session.specs.Expressions.{number_product}
use Rattle.hp_session.proofs.expressions.number_product.Given as goal

abbrev pub invariant-loop-k : goal.invariant-loop-k
invariant-loop-k g l = record {
  within : l.k ≤ length l.numbers;
  value : l.product ≡ number_product g.K.Ring.ring (drop l.k l.numbers);
  answer : g.K.Ring.ring.IsValue l.product;
}
