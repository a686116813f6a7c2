use Rattle.std.proofs.lemmas.Result.{err_from_is_err_and}
use Rattle.hp_script.specs.Reading.{is_symbol, later_factor_at}
use Rattle.hp_script.proofs.Loop.{goes_on, is_done, ends}
use Rattle.hp_script.proofs.expressions.later_factors.Goals as goal

pub returns-in_err-factor-clause-given : goal.returns-in_err-factor-clause-given
returns-in_err-factor-clause-given c =
    let p = err_from_is_err_and c.from_residual.result c.from_residual.ensures.1 in
    rw (p.1, p.2) (ends (is_symbol 42) later_factor_at c.args.factors.items c.args.tokens.now c.more.factors.items c.more.rest.now c.in_err-factor.field-0.0 c.more.invariant c.more-test.ensures c.in_err-factor.ensures.given)

pub more-preserved : goal.more-preserved
more-preserved c =
    rw c.in_ok-push.ensures.items
    (goes_on (is_symbol 42) later_factor_at c.args.factors.items c.args.tokens.now c.more.factors.items c.more.rest.now c.in_ok-factor.after.now c.in_ok-factor.factor c.more.invariant c.more-test.ensures c.in_ok-factor.ensures.given c.in_ok-factor.ensures.shorter)

pub returns-clause-given : goal.returns-clause-given
returns-clause-given c = is_done (is_symbol 42) later_factor_at c.args.factors.items c.args.tokens.now c.more.factors.items c.more.rest.now c.more.invariant c.more-test.ensures
