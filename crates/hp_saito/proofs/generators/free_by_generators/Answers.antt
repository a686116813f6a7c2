use Rattle.std.proofs.Common.{arith, refl}
use Rattle.hp_saito.proofs.FreeGenerators.{generators-not_free}
use Rattle.hp_saito.proofs.generators.free_by_generators.Goals as goal

pub returns-then-generators-dim : goal.returns-then-generators-dim
returns-then-generators-dim g c =
    let other = c.if-generators-dim.true in
    let dim = c.dim.ensures.value in
    let r = generators-not_free g.met.K.Field.field_laws g.met.K.FiniteField.numbering c.dim.ensures.lawful
    c.requires.generators (λ e. absurd (omega (arith, other, dim, e))) in
    (r.0, refl, r.1)
