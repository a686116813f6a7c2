use Rattle.std.proofs.Common.{◌<◌, ◌≤◌, ℕ, get_or}
use Rattle.hp_os.specs.Straightening.{member_sum}
use Rattle.hp_os.proofs.terms.bound_of.Given as goal

-- the terms so far have smaller sums
abbrev pub invariant-loop-t : goal.invariant-loop-t
invariant-loop-t g l = record {
  low : (j : ℕ) (d : _) → j < l.t-index → member_sum (get_or l.terms j d).0 < l.bound;
  high : l.bound ≤ 4097;
}
