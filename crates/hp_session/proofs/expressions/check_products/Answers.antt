use Rattle.std.proofs.Common.{ap, sym, ◌∙◌, subst}
use Rattle.hp_session.specs.Refused.{expression_refusal, generators_refusal}
use Rattle.hp_session.specs.Stops.{StopsBy}
use Rattle.hp_session.proofs.GeneratorRefusals.{passes_by, stops_all}
use Rattle.hp_session.proofs.expressions.check_products.Goals as goal

pub returns-in-Err-clause-stop : goal.returns-in-Err-clause-stop
returns-in-Err-clause-stop g c =
    let arr = c.args.arr.now in
    let stop = c.in-Err.stop in
    subst (λ o. StopsBy o stop)
    (sym (c.loop-product.invariant ∙ ap (expression_refusal arr) c.in-Some.ensures.cases.0))
    (stops_all arr c.in-Some.product.now c.in-Some.more.now stop
    (subst (λ gs. StopsBy (generators_refusal arr gs) stop) c.as_slice.ensures c.in-Err.ensures.stop))

pub loop-product-preserved : goal.loop-product-preserved
loop-product-preserved g c =
    let arr = c.args.arr.now in
    c.loop-product.invariant ∙ ap (expression_refusal arr) c.in-Some.ensures.cases.0
    ∙ passes_by arr c.in-Some.product.now c.in-Some.more.now (ap (generators_refusal arr) (sym c.as_slice.ensures) ∙ c.in-Ok.ensures.accepted)
