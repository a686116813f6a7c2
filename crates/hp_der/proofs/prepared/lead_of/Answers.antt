use Rattle.std.proofs.Common.{◌∙◌, refl, ap}
use Rattle.hp_module.specs.Vectors.{zero_vector}
use Rattle.hp_der.proofs.prepared.lead_of.Goals as goal

pub returns-in-None : goal.returns-in-None
returns-in-None g c = absurd (c.requires.nonzero (c.in-None.ensures.none.0 refl ∙ ap (zero_vector g.F.Ring.ring) c.requires.width))
