use Rattle.hp_session.proofs.KeptResolutions.{kept-minimal, logarithmic-basis}
use Rattle.hp_session.proofs.resolutions.freeness.Goals as goal

pub free_by_generators-requires-clause-generators : goal.free_by_generators-requires-clause-generators
free_by_generators-requires-clause-generators g c =
    let is = logarithmic-basis c.args.basis.now g.met.K.Field.field_laws g.met.K.FiniteField.numbering c.dim-dim.ensures.lawful
    c.requires.width c.requires.reduced c.requires.generates c.requires.degrees in
    let kept = c.in_ok-kept.ensures in
    kept-minimal c.in_ok-kept.kept.items c.as_slice.result.now is kept.kept kept.same kept.irredundant c.as_slice.ensures.value
