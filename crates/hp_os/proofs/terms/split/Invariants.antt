use Rattle.std.proofs.Common.{◌≡◌, ◌++◌, length}
use Rattle.hp_os.specs.Straightening.{lower_terms, upper_terms}
use Rattle.hp_os.proofs.terms.split.Given as goal

abbrev pub invariant-loop-t : goal.invariant-loop-t
invariant-loop-t g l = record {
  upper : l.upper.items ++ upper_terms l.level l.rest ≡ l.fn.upper.items ++ upper_terms l.level l.terms;
  lower : l.lower.items ++ lower_terms l.level l.rest ≡ l.fn.lower.items ++ lower_terms l.level l.terms;
}

abbrev pub decreases-loop-t : goal.decreases-loop-t
decreases-loop-t g l = length l.rest
