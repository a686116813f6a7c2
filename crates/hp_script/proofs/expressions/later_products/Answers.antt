use Rattle.std.proofs.lemmas.Result.{err_from_is_err_and}
use Rattle.hp_script.specs.Reading.{is_sign, later_at}
use Rattle.hp_script.proofs.Loop.{goes_on, is_done, ends}
use Rattle.hp_script.proofs.expressions.later_products.Goals as goal

pub returns-in_err-product : goal.returns-in_err-product
returns-in_err-product c =
    let p = err_from_is_err_and c.from_residual.result c.from_residual.ensures.1 in
    rw (p.1, p.2) (record { given = ends is_sign later_at c.args.products.items c.args.tokens.now c.more.products.items c.more.rest.now c.in_err-product.field-0.0 c.more.invariant c.more-test.ensures c.in_err-product.ensures.given })

pub more-preserved : goal.more-preserved
more-preserved c =
    rw c.in_ok-push.ensures.items
    (goes_on is_sign later_at c.args.products.items c.args.tokens.now c.more.products.items c.more.rest.now c.in_ok-product.after.now c.in_ok-product.product c.more.invariant c.more-test.ensures c.in_ok-product.ensures.given c.in_ok-product.ensures.shorter)

pub returns : goal.returns
returns c = record { given = is_done is_sign later_at c.args.products.items c.args.tokens.now c.more.products.items c.more.rest.now c.more.invariant c.more-test.ensures }
