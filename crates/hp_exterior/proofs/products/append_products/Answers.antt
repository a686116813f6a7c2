use Rattle.std.proofs.Common.{refl}
use Rattle.hp_exterior.proofs.ProductSteps.{products_skip, products_step}
use Rattle.hp_exterior.proofs.products.append_products.Goals as goal

pub loop-t-preserved-in_ok-push : goal.loop-t-preserved-in_ok-push
loop-t-preserved-in_ok-push g c =
    products_step g.met.F.Ring.ring_laws g.met.F.CommRing.commutes c.args.s c.args.c c.loop-t.out.items
    c.is_empty-members.ensures.set c.loop-t.invariant c.in-Some.ensures.cases.0 c.meet.ensures.value
    c.if-is_empty.ensures.value refl c.times.ensures.value c.crossings.ensures c.signed-turned.ensures.value
    c.union.ensures.value c.in_ok-push.ensures.items

pub loop-t-preserved : goal.loop-t-preserved
loop-t-preserved g c =
    products_skip g.met.F.Ring.ring_laws g.met.F.CommRing.commutes c.args.s c.args.c c.loop-t.out.items
    c.is_empty-members.ensures.set c.loop-t.invariant c.in-Some.ensures.cases.0 c.meet.ensures.value
    c.if-is_empty.ensures.value refl
