use Rattle.std.proofs.Common.{◌≡◌, ◌+◌, map, take, length, All}
use Rattle.hp_arr.specs.Arrangement.{form}
use Rattle.hp_flats.proofs.closing.rows_of.Given as goal

-- the rows of the first k members
abbrev pub invariant-loop-k : goal.invariant-loop-k
invariant-loop-k g l = (map (λ row. row.items) l.rows.items ≡ map (form l.aff) (take l.k l.s)) × All (λ row. length row.items ≡ l.aff.dim + 1) l.rows.items
