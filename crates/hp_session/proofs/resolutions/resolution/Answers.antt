use Rattle.std.proofs.Common.{sym, subst}
use Rattle.std.proofs.lemmas.Result.{IfOk-weaker}
use Rattle.hp_complex.specs.Complexes.{map_at}
use Rattle.hp_module.specs.Vectors.{IsKept}
use Rattle.hp_der.specs.BasisSettings.{HaveDegrees}
use Rattle.hp_session.proofs.KeptResolutions.{kept-minimal, logarithmic-basis}
use Rattle.hp_session.proofs.resolutions.resolution.Goals as goal

pub short_resolution-requires-clause-generators : goal.short_resolution-requires-clause-generators
short_resolution-requires-clause-generators g c =
    let is = logarithmic-basis c.args.basis.now g.met.K.Field.field_laws g.met.K.FiniteField.numbering c.dim.ensures.lawful
    c.requires.width c.requires.reduced c.requires.generates c.requires.degrees in
    let kept = c.in_ok-kept.ensures in
    kept-minimal c.in_ok-kept.kept.items c.as_slice.result.now is kept.kept kept.same kept.irredundant c.as_slice.ensures.value

pub framed_resolution-requires-clause-degrees : goal.framed_resolution-requires-clause-degrees
framed_resolution-requires-clause-degrees g c = subst (λ b. HaveDegrees g.K.Ring.ring b.members) (sym c.in_ok-whole.ensures) c.requires.degrees
