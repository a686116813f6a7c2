use Rattle.std.proofs.Common.{◌≡◌, length, min, arith, ◌∙◌}
use Rattle.hp_poly.proofs.TermMultiples.{value_end}
use Rattle.hp_poly.proofs.value.monomial_value.Goals as goal

pub loop-k-init : goal.loop-k-init
loop-k-init g c =
    let m = c.args.m.now in
    let eight = c.degree-degree.ensures.of.exponents in
    let end : c.min-k.result ≡ min (length c.args.point.now) (length m) = omega (arith, c.min-k.ensures, eight) in record {
      within = omega (arith, c.min-k.ensures);
      value = c.unit-value.ensures.value ∙ value_end g.F.Ring.ring c.min-k.result c.args.point.now m end;
    }
