use Rattle.std.proofs.Common.{◌≡◌, List, length, get_or, All, Vec, Global, ap, subst, arith}
use Rattle.std.proofs.lemmas.List.Elements.{All-map}
use Rattle.hp_algebra.specs.Rows.{IsRow}
use Rattle.hp_linear.proofs.matrix.Matrix.new.Goals as goal

pub invariant_of-result : goal.invariant_of-result
invariant_of-result g c =
    let ring = g.F.Ring.ring in
    let f : Vec g.row.F.Denot Global → List g.row.F.Denot = λ row. row.items in
    let lent = c.deref-row-items.ensures.value in
    let many : length c.deref-row-items.result.now ≡ length c.args.rows.items = ap (λ (rows : List (Vec g.row.F.Denot Global)). length rows) lent in
    All-map (IsRow ring c.args.cols) f c.args.rows.items (λ k d h. (c.requires k d h, subst (λ (rows : List (Vec g.row.F.Denot Global)). All ring.IsValue (get_or rows k d).items) lent (c.loop-row.invariant k d (omega (arith, h, many, c.loop-row-test.false)))))
