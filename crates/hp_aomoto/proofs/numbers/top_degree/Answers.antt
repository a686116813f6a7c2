use Rattle.std.proofs.Common.{◌≡◌, ◌≤◌, subst, ◌∙◌, ap, sym, arith}
use Rattle.hp_arr.specs.Arrangement.{max_dim, indices, with_constants}
use Rattle.hp_arr.specs.Flats.{rank, total_rank}
use Rattle.hp_arr.proofs.CentralCase.{constants-central, total-central, total-all}
use Rattle.hp_arr.proofs.Ranks.{rank-dim}
use Rattle.hp_arr.proofs.Setting.{setting, over}
use Rattle.hp_aomoto.proofs.numbers.top_degree.Goals as goal

pub returns-clause-value : goal.returns-clause-value
returns-clause-value g c =
    let ring = g.K.Ring.ring in
    let numbers = g.K.FiniteField.numbers in
    let arr = c.args.arr.now in
    let S = setting g.met.K.Field.field_laws g.met.K.FiniteField.numbering c.len-lawful.ensures.lawful in
    c.in_ok-total_rank.ensures ∙ ap (total_rank ring numbers) c.in_ok-aff.ensures.value ∙ total-central S (with_constants ring arr) (constants-central S)

pub returns-clause-low : goal.returns-clause-low
returns-clause-low g c =
    let lawful = c.len-lawful.ensures.lawful in
    let S = setting g.met.K.Field.field_laws g.met.K.FiniteField.numbering lawful in
    let e = returns-clause-value g c in
    omega (arith, e, total-all S, rank-dim (over S) (indices c.args.arr.now), lawful.dim_high)
