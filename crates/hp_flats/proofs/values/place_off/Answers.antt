use Rattle.std.proofs.Common.{arith}
use Rattle.hp_flats.proofs.values.place_off.Goals as goal

pub returns-clause-none : goal.returns-clause-none
returns-clause-none g c = λ _ k d l. c.loop-q.invariant k d (omega (arith, l, c.loop-q-test.false))
