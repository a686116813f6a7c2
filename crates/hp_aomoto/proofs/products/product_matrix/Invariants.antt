use Rattle.std.proofs.Common.{◌≡◌, All, length, map, take}
use Rattle.std.specs.List.{AllZip}
use Rattle.hp_aomoto.specs.ProductMatrices.{IsProductRow}
use Rattle.hp_aomoto.proofs.products.product_matrix.Given as goal

-- the rows of the first j sets
abbrev pub invariant-loop-j : goal.invariant-loop-j
invariant-loop-j g l = record {
  rows : AllZip (IsProductRow g.K.Ring.ring g.K.FiniteField.numbers l.arr l.weights l.k) (take l.j l.sets) (map (λ row. row.items) l.rows.items);
  widths : All (λ row. length row.items ≡ length l.next) l.rows.items;
}
