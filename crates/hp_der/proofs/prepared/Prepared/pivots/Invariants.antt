use Rattle.hp_graded.proofs.BasisMembers.{basis_module}
use Rattle.hp_der.specs.BasisSettings.{led_by}
use Rattle.hp_der.proofs.PairRows.{IsRead}
use Rattle.hp_der.proofs.prepared.Prepared.pivots.Given as goal

abbrev pub invariant-loop-k : goal.invariant-loop-k
invariant-loop-k g l =
    IsRead (basis_module g.F.Ring.ring g.F.Field.inverse l.basis) (led_by l.basis l.self.leads) l.start l.stop l.pairs l.k l.form
