use Rattle.std.proofs.Common.{◌≡◌, length, subst, arith}
use Rattle.hp_linear.specs.Matrices.{IsRank}
use Rattle.hp_linear.proofs.Dimension.{rank-unique, rank-rows}
use Rattle.hp_linear.proofs.Units.{reduced-rank}
use Rattle.hp_linear.proofs.matrix.Matrix.rank.Goals as goal

pub returns-clause-dimension : goal.returns-clause-dimension
returns-clause-dimension g c =
    let kept = c.in_ok-kept.kept in
    let many : length kept.items ≡ c.len.result = omega (arith, c.len.ensures, kept.ok.0) in
    subst (IsRank g.F.Ring.ring c.args.self.now) many (reduced-rank g.met.F.Ring.ring_laws c.args.self.now kept.items c.in_ok-kept.ensures.reduced c.in_ok-kept.ensures.span)

pub returns-clause-only : goal.returns-clause-only
returns-clause-only g c d is =
    rank-unique g.met.F.Field.field_laws c.args.self.now d c.len.result c.in_ok-kept.ensures.matrix is (returns-clause-dimension g c)

pub returns-clause-at_most_rows : goal.returns-clause-at_most_rows
returns-clause-at_most_rows g c = rank-rows g.met.F.Field.field_laws c.args.self.now c.len.result c.in_ok-kept.ensures.matrix (returns-clause-dimension g c)
