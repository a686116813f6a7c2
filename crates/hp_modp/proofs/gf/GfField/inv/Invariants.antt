use Rattle.std.proofs.Common.{◌≡◌, ◌<◌, ◌*◌, ◌%◌}
use Rattle.hp_modp.proofs.gf.GfField.inv.Given as goal

abbrev pub invariant-loop-rest : goal.invariant-loop-rest
invariant-loop-rest g l = record {
  positive : 0 < l.rest;
  below : l.rest < g.M.Modulus.P;
  factor_below : l.factor < g.M.Modulus.P;
  product : (l.fn.self * l.factor) % g.M.Modulus.P ≡ l.rest;
}

abbrev pub decreases-loop-rest : goal.decreases-loop-rest
decreases-loop-rest g l = l.rest
