use Rattle.std.proofs.Common.{◌≡◌, ◌<◌, ◌++◌, List, length, take, drop, sym, ◌∙◌, arith}
use Rattle.std.proofs.lemmas.List.{same_lists, get_or-map, length-map}
use Rattle.std.proofs.lemmas.Grind.{common_steps}
use Rattle.hp_linear.specs.Echelon.{PivotRow, cleared}
use Rattle.hp_linear.proofs.echelon.cleared.Goals as goal

pub returns : goal.returns
returns g c =
    let f = cleared g.F.Ring.ring c.args.pivot.now in
    let old = c.args.kept.items in
    let new : List (PivotRow g.row.F.Denot) = c.loop-p.p-items in
    let long : length new ≡ length old = c.loop-p.invariant.long in
    let many : c.args.kept.len ≡ length old = omega (arith, c.args.kept.ok.0) in
    let whole : take c.args.kept.len (new ++ drop (length new) old) ≡ new = grind (arith, common_steps) in
    whole ∙ same_lists _ _ (long ∙ sym (length-map old f)) (λ k d h.
    let in_old : k < length old = omega (arith, long, h) in
    c.loop-p.invariant.done k d (omega (arith, h, c.loop-p-test.false)) ∙ sym (get_or-map f old k d d in_old))
