use Rattle.std.proofs.Common.{◌-◌, length, take, slice_index_or, sym, ◌∙◌, arith}
use Rattle.hp_lists.proofs.Firsts.{find-first, find-none}
use Rattle.hp_build.specs.Graphs.{is_bad_edge}
use Rattle.hp_build.proofs.edges.find_bad_edge.Goals as goal

pub returns-then-is_bad_edge : goal.returns-then-is_bad_edge
returns-then-is_bad_edge c =
    let edges = c.args.edges.now in
    sym (find-first (λ k. is_bad_edge c.args.v (take (k - 1) edges) (slice_index_or edges (k - 1) (0, 0))) 1 (length edges) c.loop-k.k (omega arith) (omega arith) (sym c.is_bad_edge.ensures ∙ c.if-is_bad_edge.true) c.loop-k.invariant)

pub returns : goal.returns
returns c =
    let edges = c.args.edges.now in
    sym (find-none (λ k. is_bad_edge c.args.v (take (k - 1) edges) (slice_index_or edges (k - 1) (0, 0))) 1 (length edges) (λ h low high. c.loop-k.invariant h low (omega arith)))
