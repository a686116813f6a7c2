use Rattle.std.proofs.Common.{◌≡◌, ◌+◌, ◌<◌, ℕ, List, length, map, get_or, Vec, Global, sym, ap, ◌∙◌, subst, arith}
use Rattle.std.proofs.lemmas.List.{get_or-map, length-map}
use Rattle.std.proofs.lemmas.List.Elements.{Contains-get_or}
use Rattle.hp_linear.specs.Echelon.{PivotRow, rows_of}
use Rattle.hp_linear.proofs.Reduction.{reduced-rows}
use Rattle.hp_linear.proofs.EchelonForms.{reduced-form}
use Rattle.hp_linear.proofs.matrix.Matrix.echelon.Goals as goal

pub numbers_of-requires : goal.numbers_of-requires
numbers_of-requires g c =
    let kept = c.in_ok-kept.kept.items in
    let cols : c.cols-cols.result ≡ c.args.self.now.cols = c.cols-cols.ensures.value in
    subst (λ (ks : List (PivotRow g.row.F.Denot)). (k : ℕ) → (d : PivotRow g.row.F.Denot) → k < length ks → (get_or ks k d).column + 1 < 18446744073709551616) (sym c.deref.ensures.value)
    (λ k d h. (let is = c.in_ok-kept.ensures.reduced.each _ (Contains-get_or kept k d h) in let small : c.cols-cols.result < 18446744073709551616 = c.cols-cols.type_inv in omega (arith, cols, is.inside, small)))

pub new-requires : goal.new-requires
new-requires g c =
    let ring = g.F.Ring.ring in
    let kept = c.in_ok-kept.kept.items in
    let rows = c.in_ok-rows.rows.items in
    let f : Vec g.row.F.Denot Global → List g.row.F.Denot = λ row. row.items in
    let cols : c.cols-cols.result ≡ c.args.self.now.cols = c.cols-cols.ensures.value in
    let are = reduced-rows g.met.F.Ring.ring_laws c.args.self.now.cols kept c.in_ok-kept.ensures.reduced in
    let same : map f rows ≡ rows_of ring kept = c.in_ok-rows.ensures in
    λ k d h.
    let inside : k < length (map f rows) = subst (λ n. k < n) (sym (length-map rows f)) h in
    ap (λ (r : List g.row.F.Denot). length r) (sym (get_or-map f rows k d d.items h) ∙ ap (λ (rs : List (List g.row.F.Denot)). get_or rs k d.items) same)
    ∙ (are k d.items (subst (λ (rs : List (List g.row.F.Denot)). k < length rs) same inside)).0 ∙ sym cols

pub returns : goal.returns
returns g c =
    let ring = g.F.Ring.ring in
    let m = c.args.self.now in
    let kept = c.in_ok-kept.kept.items in
    let cols : c.cols-cols.result ≡ m.cols = c.cols-cols.ensures.value in
    let form = reduced-form g.met.F.Ring.ring_laws m kept c.in_ok-kept.ensures.reduced c.in_ok-kept.ensures.span in
    let made : c.new.result ≡ record { cols = m.cols; rows = rows_of ring kept } = c.new.ensures ∙ (λ i. record { cols = cols i; rows = c.in_ok-rows.ensures i }) in
    let numbers = c.in_ok-pivots.ensures ∙ ap (λ (ks : List (PivotRow g.row.F.Denot)). map (λ p. p.column + 1) ks) c.deref.ensures.value in
    rw (made, numbers) form
