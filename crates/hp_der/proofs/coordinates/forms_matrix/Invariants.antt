use Rattle.std.proofs.Common.{◌≡◌, map, take, length, All}
use Rattle.hp_der.proofs.coordinates.forms_matrix.Given as goal

abbrev pub invariant-loop-i : goal.invariant-loop-i
invariant-loop-i g l = (map (λ row. row.items) l.rows.items ≡ take l.i l.arr.forms) × All (λ row. length row.items ≡ l.arr.dim) l.rows.items
