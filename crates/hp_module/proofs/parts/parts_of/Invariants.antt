use Rattle.std.proofs.Common.{◌≡◌, ◌<◌, ℕ, [], get_or, length}
use Rattle.hp_module.proofs.HeldParts.{IsPartFor}
use Rattle.hp_module.proofs.parts.parts_of.Given as goal

abbrev pub invariant-loop-k : goal.invariant-loop-k
invariant-loop-k g l = record {
  long : length l.parts.items ≡ l.k;
  each : (j : ℕ) → j < l.k → IsPartFor g.F.Ring.ring (g.O.TermOrder.order l.order) l.entries j (get_or l.parts.items j []);
}
