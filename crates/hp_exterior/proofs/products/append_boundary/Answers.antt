use Rattle.hp_exterior.proofs.BoundarySteps.{dropping_smaller, dropping_step}
use Rattle.hp_exterior.proofs.products.append_boundary.Goals as goal

pub loop-i-smaller : goal.loop-i-smaller
loop-i-smaller g c =
    dropping_smaller g.met.F.Ring.ring_laws g.met.F.CommRing.commutes c.loop-i.invariant c.in-Some.ensures.value
    c.without-rest.ensures.value

pub loop-i-preserved : goal.loop-i-preserved
loop-i-preserved g c =
    dropping_step g.met.F.Ring.ring_laws g.met.F.CommRing.commutes c.loop-i.invariant c.in-Some.ensures.value
    c.without.ensures.value c.in_ok-push.ensures.items c.negate-turned.ensures.value c.without-rest.ensures.value
