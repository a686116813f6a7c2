use Rattle.std.proofs.lemmas.Result.{err_from_is_err_and}
use Rattle.hp_script.specs.Reading.{is_symbol, later_row_at}
use Rattle.hp_script.proofs.Loop.{goes_on, is_done, ends}
use Rattle.hp_script.proofs.rows.later_rows.Goals as goal

pub returns-in_err-row : goal.returns-in_err-row
returns-in_err-row c =
    let p = err_from_is_err_and c.from_residual.result c.from_residual.ensures.1 in
    rw (p.1, p.2) (record { given = ends (is_symbol 44) later_row_at c.args.rows.items c.args.tokens.now c.more.rows.items c.more.rest.now c.in_err-row.field-0.0 c.more.invariant c.more-test.ensures c.in_err-row.ensures.given })

pub more-preserved : goal.more-preserved
more-preserved c =
    rw c.in_ok-push.ensures.items
    (goes_on (is_symbol 44) later_row_at c.args.rows.items c.args.tokens.now c.more.rows.items c.more.rest.now c.in_ok-row.after.now c.in_ok-row.row c.more.invariant c.more-test.ensures c.in_ok-row.ensures.given c.in_ok-row.ensures.shorter)

pub returns : goal.returns
returns c = record { given = is_done (is_symbol 44) later_row_at c.args.rows.items c.args.tokens.now c.more.rows.items c.more.rest.now c.more.invariant c.more-test.ensures }
