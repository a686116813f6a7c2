use Rattle.std.proofs.Common.{◌≡◌, ◌≤◌, ◌<◌, ℕ, length, get_or}
use Rattle.hp_linear.specs.Echelon.{PivotRow, cleared}
use Rattle.hp_linear.proofs.echelon.cleared.Given as goal

abbrev pub invariant-loop-p : goal.invariant-loop-p
invariant-loop-p g l =
    let old = l.fn.kept.items in
    record {
      long : length l.p-items ≡ length old;
      done : (k : ℕ) (d : PivotRow g.row.F.Denot) → k < l.p-index → get_or l.p-items k d ≡ cleared g.F.Ring.ring l.pivot (get_or old k d);
      rest : (k : ℕ) (d : PivotRow g.row.F.Denot) → l.p-index ≤ k → k < length l.p-items → get_or l.p-items k d ≡ get_or old k d;
    }
