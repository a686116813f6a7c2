use Rattle.std.proofs.Common.{◌≡◌, ◌<◌, ◌*◌, ◌%◌, ◌∙◌, arith}
use Rattle.std.proofs.Math.Nat.{mod-lt}
use Rattle.hp_modp.specs.Inverses.{rest_positive}
use Rattle.hp_modp.specs.Inverses.{factor_step}
use Rattle.hp_modp.specs.ResidueLaws.{inverse_mod-only}
use Rattle.hp_modp.proofs.gf.GfField.inv.Goals as goal

pub loop-rest-preserved : goal.loop-rest-preserved
loop-rest-preserved g c =
    let p = g.M.Modulus.P in
    let prime = g.M.Modulus.prime in
    let rest = c.loop-rest.rest in
    let inv = c.loop-rest.invariant in
    let smaller : p % rest < rest = mod-lt p inv.positive in
    rw c.P-p.ensures (record {
      positive = rest_positive p rest prime c.loop-rest-test.true inv.below;
      below = omega arith;
      factor_below = mod-lt _ (omega arith);
      product = factor_step p c.args.self c.loop-rest.factor rest inv.positive inv.below inv.product;
    })

pub returns-clause-some : goal.returns-clause-some
returns-clause-some g c =
    let inv = c.loop-rest.invariant in
    let below : c.args.self < g.M.Modulus.P = rw (← c.self.view_is) c.self.invariant in
    let one : (c.args.self * c.loop-rest.factor) % g.M.Modulus.P ≡ 1 = inv.product ∙ (let e : c.loop-rest.rest ≡ 1 = omega arith in e) in
    c.new.ensures ∙ inverse_mod-only g.M.Modulus.prime c.args.self c.loop-rest.factor below (omega arith) inv.factor_below one
