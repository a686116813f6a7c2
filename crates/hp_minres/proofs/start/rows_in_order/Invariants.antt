use Rattle.std.proofs.Common.{◌≡◌, take}
use Rattle.hp_minres.specs.Reductions.{in_orders}
use Rattle.hp_minres.proofs.start.rows_in_order.Given as goal

abbrev pub invariant-loop-k : goal.invariant-loop-k
invariant-loop-k g l = l.sorted.items ≡ in_orders l.m.rows (take l.k l.rows) l.columns
