use Rattle.std.proofs.Common.{sym, subst}
use Rattle.hp_der.specs.BasisSettings.{HaveDegrees}
use Rattle.hp_der.proofs.basis.der_basis.Goals as goal

pub returns-clause-degrees : goal.returns-clause-degrees
returns-clause-degrees g c = subst (λ b. HaveDegrees g.K.Ring.ring b.members) (sym c.in_ok-basis.ensures) c.in_ok-derivations.ensures.degrees
