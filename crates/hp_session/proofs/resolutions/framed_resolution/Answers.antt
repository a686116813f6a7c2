use Rattle.std.proofs.lemmas.Result.{IfOk-weaker}
use Rattle.hp_complex.specs.Complexes.{map_at}
use Rattle.hp_minres.specs.Minimised.{HasKeptRows}
use Rattle.hp_module.specs.Vectors.{IsKept}
use Rattle.hp_saito.proofs.LogarithmicBases.{logarithmic-in_order, logarithmic-leads, logarithmic-nonzero, logarithmic-some_member}
use Rattle.hp_session.proofs.KeptResolutions.{kept-resolution, logarithmic-basis}
use Rattle.hp_session.proofs.resolutions.framed_resolution.Goals as goal

pub frame-requires-clause-some_member : goal.frame-requires-clause-some_member
frame-requires-clause-some_member g c =
    let is = logarithmic-basis c.args.basis.now g.met.K.Field.field_laws g.met.K.FiniteField.numbering c.dim-dim.ensures.lawful
    c.requires.width c.requires.reduced c.requires.generates c.requires.degrees in
    logarithmic-some_member is

pub frame-requires-clause-leads : goal.frame-requires-clause-leads
frame-requires-clause-leads g c =
    let is = logarithmic-basis c.args.basis.now g.met.K.Field.field_laws g.met.K.FiniteField.numbering c.dim-dim.ensures.lawful
    c.requires.width c.requires.reduced c.requires.generates c.requires.degrees in
    logarithmic-leads is

pub minimise-requires-clause-order : goal.minimise-requires-clause-order
minimise-requires-clause-order g c =
    let is = logarithmic-basis c.args.basis.now g.met.K.Field.field_laws g.met.K.FiniteField.numbering c.dim-dim.ensures.lawful
    c.requires.width c.requires.reduced c.requires.generates c.requires.degrees in
    logarithmic-in_order is c.in_ok-frame.frame c.in_ok-frame.ensures.resolution

pub minimise-requires-clause-nonzero : goal.minimise-requires-clause-nonzero
minimise-requires-clause-nonzero g c =
    let is = logarithmic-basis c.args.basis.now g.met.K.Field.field_laws g.met.K.FiniteField.numbering c.dim-dim.ensures.lawful
    c.requires.width c.requires.reduced c.requires.generates c.requires.degrees in
    logarithmic-nonzero is c.in_ok-frame.frame c.in_ok-frame.ensures.resolution

pub returns-clause-kept : goal.returns-clause-kept
returns-clause-kept g c =
    let ring = g.K.Ring.ring in
    let f = c.in_ok-frame.frame in
    IfOk-weaker c.minimise.result (HasKeptRows ring f)
    (λ r. IsKept ring c.args.arr.now.dim c.args.basis.now.members (map_at r.maps 0).rows)
    (λ r has. kept-resolution f r c.requires.generates c.in_ok-frame.ensures.resolution has) c.minimise.ensures.rows
