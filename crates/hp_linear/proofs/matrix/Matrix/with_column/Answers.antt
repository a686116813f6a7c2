use Rattle.std.proofs.Common.{◌≡◌, ◌+◌, ◌<◌, ◌++◌, List, [], ◌∷◌, length, map, get_or, Vec, Global, sym, ap, ◌∙◌, subst, arith}
use Rattle.std.proofs.lemmas.List.{same_lists, length-map, get_or-map}
use Rattle.std.proofs.lemmas.Grind.{common_steps}
use Rattle.hp_linear.specs.Matrices.{joined}
use Rattle.hp_lists.proofs.Members.{get_or-mapped}
use Rattle.hp_linear.proofs.Solutions.{length-joined, get_or-joined}
use Rattle.hp_linear.proofs.matrix.Matrix.with_column.Goals as goal

pub returns-clause-extended : goal.returns-clause-extended
returns-clause-extended g c =
    let ring = g.F.Ring.ring in
    let m = c.args.self.now in
    let b = c.args.b.now in
    let f : Vec g.row.F.Denot Global → List g.row.F.Denot = λ row. row.items in
    let single : g.row.F.Denot → List g.row.F.Denot = λ x. x ∷ [] in
    let rows = c.loop-k.rows.items in
    let cols : c.in_ok-cols.cols ≡ m.cols + 1 = grind (arith, common_steps, c.in_ok-cols.ensures, c.checked_add.ensures, c.cols.ensures.value) in
    let many : length rows ≡ length b = omega (arith, c.loop-k.invariant.long, c.loop-k-test.false, c.loop-k.auto.k-end) in
    let singles : length m.rows ≡ length (map single b) = sym c.requires ∙ sym (length-map b single) in
    let same : map f rows ≡ joined ring m.rows (map single b) =
    same_lists _ _ (length-map rows f ∙ many ∙ c.requires ∙ sym (length-joined ring m.rows (map single b) singles)) (λ k d h.
    let in_rows : k < length rows = subst (λ n. k < n) (length-map rows f) h in
    let in_b : k < length b = omega (arith, many, in_rows) in
    get_or-mapped f rows k _ d in_rows (λ v.
    c.loop-k.invariant.each k v (omega (arith, in_rows, c.loop-k.invariant.long))
    ∙ ap (λ (r : List g.row.F.Denot). get_or m.rows k [] ++ r) (sym (get_or-map single b k ring.zero [] in_b))
    ∙ sym (get_or-joined ring m.rows (map single b) k d [] [] singles (omega (arith, in_b, c.requires))))) in
    c.new.ensures ∙ (λ i. record { cols = cols i; rows = same i })
