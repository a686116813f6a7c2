use Rattle.std.proofs.Common.{ap, arith}
use Rattle.hp_der.specs.BasisSettings.{Prepared}
use Rattle.hp_der.proofs.PreparedPairs.{read-lcm}
use Rattle.hp_der.proofs.prepared.Prepared.is_pair.Goals as goal

pub lcm-requires : goal.lcm-requires
lcm-requires g c =
    let e = ap (λ (p : Prepared g.row.F.Denot). p.leads) c.self.view_is in
    read-lcm c.requires.prepared c.args.j c.args.i (omega (arith, c.requires.earlier, c.requires.within)) c.requires.within e c.index.ensures c.index-2.ensures
