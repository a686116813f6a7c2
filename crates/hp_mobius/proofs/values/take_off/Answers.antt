use Rattle.std.specs.Prelude.{pos}
use Rattle.std.specs.Option.{unwrap_or}
use mathlib.Core.Path.{ap}
use Rattle.hp_mobius.proofs.CoverShares.{differ}
use Rattle.hp_mobius.proofs.values.take_off.Goals as goal

pub returns-clause-others : goal.returns-clause-others
returns-clause-others c = λ h apart. ap (λ o. unwrap_or o (pos 0)) (c.in_ok-insert.ensures.updates.2 h (differ c.args.set h apart))
