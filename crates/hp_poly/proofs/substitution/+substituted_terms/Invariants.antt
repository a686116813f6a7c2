use Rattle.std.proofs.Common.{length}
use Rattle.hp_poly.proofs.substitution.+substituted_terms.Given as goal

abbrev pub decreases-substituted_terms : goal.decreases-substituted_terms
decreases-substituted_terms g l = length l.p.now
