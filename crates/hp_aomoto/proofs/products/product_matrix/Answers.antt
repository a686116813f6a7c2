use Rattle.std.proofs.Common.{◌≡◌, ◌+◌, ◌∷◌, [], ◌++◌, All, Contains, List, map, take, length, sym, ap, subst, ◌∙◌, arith}
use Rattle.std.specs.List.{AllZip}
use Rattle.std.proofs.lemmas.List.{take_more, map-append}
use Rattle.std.proofs.lemmas.List.Elements.{All-push}
use Rattle.hp_sets.specs.Sets.{Set}
use Rattle.hp_arr.proofs.Setting.{setting}
use Rattle.hp_aomoto.specs.ProductMatrices.{IsProductRow}
use Rattle.hp_aomoto.proofs.NbcCoordinates.{nbc-is}
use Rattle.hp_aomoto.proofs.AomotoNumbers.{row_more}
use Rattle.hp_aomoto.proofs.products.product_matrix.Goals as goal

pub product_row-requires-clause-set : goal.product_row-requires-clause-set
product_row-requires-clause-set g c =
    let S = setting g.met.K.Field.field_laws g.met.K.FiniteField.numbering c.len-lawful.ensures.lawful in
    let x = c.index-sets-j.result in
    let at : Contains c.args.sets.now x = (c.loop-j.j, omega arith, sym c.index-sets-j.is) in
    (nbc-is S c.args.k x (subst (λ (ts : List Set). Contains ts x) c.requires.sets at)).0

pub loop-j-preserved : goal.loop-j-preserved
loop-j-preserved g c =
    let R = IsProductRow g.K.Ring.ring g.K.FiniteField.numbers c.args.arr.now c.args.weights.now c.args.k in
    let sets = c.args.sets.now in
    let x = c.index-sets-j.result in
    let row = c.in_ok-product_row.field-0 in
    let before = c.loop-j.rows.items in
    let pushed : c.push.new.self.items ≡ before ++ row ∷ [] = c.in_ok-push.ensures.items in
    let front : take (c.loop-j.j + 1) sets ≡ take c.loop-j.j sets ++ x ∷ [] =
    take_more sets c.loop-j.j x (omega arith) ∙ ap (λ y. take c.loop-j.j sets ++ y ∷ []) (sym c.index-sets-j.is) in
    let lists = ap (map (λ row. row.items)) pushed ∙ map-append (λ row. row.items) before (row ∷ []) in
    record {
      rows = subst (λ (xs : List Set). AllZip R xs (map (λ row. row.items) c.push.new.self.items)) (sym front)
          (subst (λ ys. AllZip R (take c.loop-j.j sets ++ x ∷ []) ys) (sym lists)
          (row_more R (take c.loop-j.j sets) (map (λ row. row.items) before) x row.items c.loop-j.invariant.rows c.in_ok-product_row.ensures.row));
      widths = subst (All (λ row. length row.items ≡ length c.args.next.now)) (sym pushed)
          (All-push (λ row. length row.items ≡ length c.args.next.now) before row c.loop-j.invariant.widths c.in_ok-product_row.ensures.width);
    }
