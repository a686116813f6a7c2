use Rattle.std.proofs.Common.{◌≡◌, length, ap, ◌∙◌, arith}
use Rattle.hp_algebra.proofs.RowDifferences.{length-minus_multiple}
use Rattle.hp_arr.proofs.restriction.restricted_form.Goals as goal

pub remove-requires : goal.remove-requires
remove-requires g c =
    let b = c.args.b.now in
    let long : length c.in_ok-row.row.items ≡ length b = ap length c.in_ok-row.ensures ∙ length-minus_multiple g.K.Ring.ring _ b c.args.a.now c.requires.widths in
    omega (arith, long, c.requires.widths, c.requires.within, c.in_ok-row.row.ok.0)
