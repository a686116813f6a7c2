use Rattle.std.proofs.lemmas.Result.{err_from_is_err_and}
use Rattle.hp_script.specs.Reading.{is_number, edge_at}
use Rattle.hp_script.proofs.Loop.{is_done, ends}
use Rattle.hp_script.proofs.rows.more_edges.Goals as goal

pub returns-in_err-edge : goal.returns-in_err-edge
returns-in_err-edge c =
    let p = err_from_is_err_and c.from_residual.result c.from_residual.ensures.1 in
    rw (p.1, p.2) (record { given = ends is_number edge_at c.args.edges.items c.args.tokens.now c.more.edges.items c.more.rest.now c.in_err-edge.field-0.0 c.more.invariant c.more-test.ensures c.in_err-edge.ensures.given })

pub returns : goal.returns
returns c = record { given = is_done is_number edge_at c.args.edges.items c.args.tokens.now c.more.edges.items c.more.rest.now c.more.invariant c.more-test.ensures }
