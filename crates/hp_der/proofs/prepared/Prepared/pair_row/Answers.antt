use Rattle.std.proofs.Common.{◌∙◌, ap, sym, refl}
use Rattle.hp_der.specs.BasisSettings.{Prepared}
use Rattle.hp_der.proofs.PreparedPairs.{read-graded}
use Rattle.hp_der.proofs.prepared.Prepared.pair_row.Goals as goal

pub divide-requires-clause-width : goal.divide-requires-clause-width
divide-requires-clause-width g c =
    c.width.ensures.value ∙ sym (read-graded c.requires.prepared c.requires.pair refl c.in_ok-v.ensures).0.0

pub divide-requires-clause-homogeneous : goal.divide-requires-clause-homogeneous
divide-requires-clause-homogeneous g c =
    let e = ap (λ (p : Prepared g.row.F.Denot). p.shifts) c.self.view_is in
    (read-graded c.requires.prepared c.requires.pair e c.in_ok-v.ensures).1
