use Rattle.std.proofs.Common.{◌∙◌}
use Rattle.hp_saito.proofs.FreeGenerators.{generators-resolution, one-pushed}
use Rattle.hp_saito.proofs.generators.short_resolution.Goals as goal

pub new-requires-2 : goal.new-requires-2
new-requires-2 g c =
    generators-resolution g.met.K.Field.field_laws g.met.K.FiniteField.numbering c.dim.ensures.lawful c.requires.generators
    c.requires.as_many c.new.ensures.value
    (one-pushed c.in_ok-push.ensures.items c.new-maps.ensures.items c.in_ok-matrix_of.ensures) c.dim.ensures.value
    (one-pushed c.in_ok-push-2.ensures.items c.new-degrees.ensures.items (c.of.ensures ∙ c.in_ok-vector_degrees.ensures))
