use Rattle.std.proofs.Common.{◌≡◌, ◌+◌, ◌<◌, ◌++◌, List, [], length, map, get_or, Vec, Global, sym, ap, ◌∙◌, subst, arith}
use Rattle.std.proofs.lemmas.List.{same_lists, length-map, length-append}
use Rattle.std.proofs.lemmas.Grind.{common_steps}
use Rattle.hp_linear.specs.Matrices.{joined}
use Rattle.hp_algebra.specs.Rows.{unit_row}
use Rattle.hp_lists.proofs.Members.{get_or-mapped}
use Rattle.hp_linear.proofs.Solutions.{length-joined, get_or-joined}
use Rattle.hp_algebra.proofs.UnitRows.{identity_rows, identity-length, identity-at, unit-row}
use Rattle.hp_linear.proofs.matrix.Matrix.with_identity.Goals as goal

pub returns-clause-extended : goal.returns-clause-extended
returns-clause-extended g c =
    let ring = g.F.Ring.ring in
    let laws = g.met.F.Ring.ring_laws in
    let m = c.args.self.now in
    let f : Vec g.row.F.Denot Global → List g.row.F.Denot = λ row. row.items in
    let rows = c.loop-k.rows.items in
    let identity = identity_rows ring m.cols in
    let same_cols = c.cols-cols.ensures.value in
    let cols : c.in_ok-wide.wide ≡ m.cols + m.cols = grind (arith, common_steps, c.in_ok-wide.ensures, c.checked_add.ensures, same_cols) in
    let many : length rows ≡ m.cols = omega (arith, c.loop-k.invariant.long, c.loop-k-test.false, c.loop-k.auto.k-end, same_cols) in
    let long : length m.rows ≡ length identity = c.requires ∙ sym (identity-length ring m.cols) in
    let same : map f rows ≡ joined ring m.rows identity =
    same_lists _ _ (length-map rows f ∙ many ∙ sym c.requires ∙ sym (length-joined ring m.rows identity long)) (λ k d h.
    let in_rows : k < length rows = subst (λ n. k < n) (length-map rows f) h in
    let below : k < m.cols = subst (λ n. k < n) many in_rows in
    get_or-mapped f rows k _ d in_rows (λ v.
    c.loop-k.invariant.each k v (omega (arith, in_rows, c.loop-k.invariant.long))
    ∙ ap (λ n. get_or m.rows k [] ++ unit_row ring n (k + 1)) same_cols
    ∙ ap (λ (r : List g.row.F.Denot). get_or m.rows k [] ++ r) (sym (identity-at ring m.cols k [] below))
    ∙ sym (get_or-joined ring m.rows identity k d [] [] long (subst (λ n. k < n) (sym c.requires) below)))) in
    c.new.ensures ∙ (λ i. record { cols = cols i; rows = same i })

pub new-requires : goal.new-requires
new-requires g c = λ k d h.
    let ring = g.F.Ring.ring in
    let laws = g.met.F.Ring.ring_laws in
    let m = c.args.self.now in
    let row = get_or m.rows k [] in
    let cols = c.cols-cols.result in
    let same_cols : cols ≡ m.cols = c.cols-cols.ensures.value in
    let wide : c.in_ok-wide.wide ≡ cols + cols = grind (arith, common_steps, c.in_ok-wide.ensures, c.checked_add.ensures) in
    let below : k < length m.rows = omega (arith, h, c.loop-k.invariant.long, c.loop-k.auto.k-end, same_cols, c.requires) in
    let left : length row ≡ m.cols = (c.cols-cols.ensures.matrix k [] below).0 in
    let right : length (unit_row ring cols (k + 1)) ≡ cols = (unit-row laws cols (k + 1)).0 in
    ap (λ (r : List g.row.F.Denot). length r) (c.loop-k.invariant.each k d (omega (arith, h, c.loop-k.invariant.long)))
    ∙ length-append row (unit_row ring cols (k + 1)) ∙ omega (arith, left, right, same_cols, wide)
