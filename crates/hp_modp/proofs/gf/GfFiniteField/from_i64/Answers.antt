use Rattle.std.proofs.Common.{◌<ℤ◌, ◌≤ℤ◌, pos, arith}
use Rattle.std.proofs.lemmas.Int.{ints, to_z-of_z}
use Rattle.hp_modp.specs.ResidueLaws.{integer_from_zero, integer_below_zero}
use Rattle.hp_modp.proofs.gf.GfFiniteField.from_i64.Goals as goal

pub returns-then-v-lt0-clause-multiple : goal.returns-then-v-lt0-clause-multiple
returns-then-v-lt0-clause-multiple g c =
    let prime = g.M.Modulus.prime in
    let fits = c.ranges.v in
    let size = simp to_z-of_z at c.unsigned_abs.ensures.value in
    let below : c.args.v <ℤ pos 0 = omega (arith, ints) in
    rw (c.negate.ensures.value, c.new-size.ensures, size, c.P.ensures) (integer_below_zero g.M.Modulus.P prime.above_one c.args.v below)

pub returns-else-v-lt0-clause-multiple : goal.returns-else-v-lt0-clause-multiple
returns-else-v-lt0-clause-multiple g c =
    let prime = g.M.Modulus.prime in
    let fits = c.ranges.v in
    let size = simp to_z-of_z at c.unsigned_abs.ensures.value in
    let not_below : pos 0 ≤ℤ c.args.v = omega (arith, ints) in
    rw (c.new-size.ensures, size, c.P.ensures) (integer_from_zero g.M.Modulus.P prime.above_one c.args.v not_below)
