use Rattle.std.proofs.Common.{ap, subst, ◌∙◌}
use Rattle.hp_exterior.specs.Exterior.{IsExt, boundary}
use Rattle.hp_exterior.proofs.BoundaryLaws.{boundary_closed, product_rule}
use Rattle.hp_exterior.proofs.ext.Ext.boundary.Goals as goal

pub returns-in_err-boundary_of-clause-rule : goal.returns-in_err-boundary_of-clause-rule
returns-in_err-boundary_of-clause-rule g c =
    product_rule g.met.F.Ring.ring_laws g.met.F.CommRing.commutes c.args.self.now
    (subst (IsExt g.F.Ring.ring) c.self.view_is c.self.invariant)

pub returns-clause-twice : goal.returns-clause-twice
returns-clause-twice g c =
    boundary_closed g.met.F.Ring.ring_laws g.met.F.CommRing.commutes c.self.invariant
    (c.in_ok-boundary_of.ensures.value ∙ ap (boundary g.F.Ring.ring) c.as_slice.ensures.value)

pub returns-clause-rule : goal.returns-clause-rule
returns-clause-rule g c =
    product_rule g.met.F.Ring.ring_laws g.met.F.CommRing.commutes c.args.self.now
    (subst (IsExt g.F.Ring.ring) c.self.view_is c.self.invariant)
