use Rattle.std.proofs.Common.{◌≡◌, ◌++◌, map, length}
use Rattle.hp_exterior.specs.Exterior.{monomial}
use Rattle.hp_sums.specs.FiniteSums.{HasValues}
use Rattle.hp_session.specs.Expressions.{HaveIndices, product_value}
use Rattle.hp_session.proofs.expressions.sum.Given as goal

abbrev pub invariant-loop-product : goal.invariant-loop-product
invariant-loop-product g l = record {
  indices : HaveIndices l.rest;
  values : HasValues g.K.Ring.ring l.terms.items;
  each :
      map (λ t. monomial g.K.Ring.ring t.1 t.0) l.terms.items ++ map (product_value g.K.Ring.ring) l.rest
      ≡ map (product_value g.K.Ring.ring) l.products;
}

abbrev pub decreases-loop-product : goal.decreases-loop-product
decreases-loop-product g l = length l.rest
