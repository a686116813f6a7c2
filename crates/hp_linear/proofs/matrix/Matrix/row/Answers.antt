use Rattle.std.proofs.Common.{◌≡◌, ◌<◌, List, [], length, map, get_or, Vec, Global, sym, ap, ◌∙◌, subst}
use Rattle.std.proofs.lemmas.List.{get_or-map, length-map}
use Rattle.hp_algebra.specs.Rows.{IsRow}
use Rattle.hp_linear.specs.Matrices.{Matrix}
use Rattle.hp_linear.proofs.matrix.Matrix.row.Goals as goal

pub returns-clause-row : goal.returns-clause-row
returns-clause-row g c =
    let ring = g.F.Ring.ring in
    let held = c.self.inside.rows.items in
    let k = c.args.k in
    let f : Vec g.row.F.Denot Global → List g.row.F.Denot = λ row. row.items in
    let cols : c.args.self.now.cols ≡ c.self.inside.cols = ap (λ (m : Matrix g.row.F.Denot). m.cols) (sym c.self.view_is) in
    let many : length c.args.self.now.rows ≡ length held = ap (λ (m : Matrix g.row.F.Denot). length m.rows) (sym c.self.view_is) ∙ length-map held f in
    let inside : k < length held = subst (λ n. k < n) many c.requires in
    let read : c.as_slice.result.now ≡ get_or (map f held) k [] =
    c.as_slice.ensures.value ∙ ap f c.index.ensures ∙ sym (get_or-map f held k c.index.result.now [] inside) in
    subst (λ n. IsRow ring n c.as_slice.result.now) (sym cols)
    (subst (IsRow ring c.self.inside.cols) (sym read) (c.self.invariant k [] (subst (λ n. k < n) (sym (length-map held f)) inside)))
