use Rattle.std.proofs.Common.{ap}
use Rattle.hp_der.specs.BasisSettings.{Prepared}
use Rattle.hp_der.proofs.PreparedPairs.{read-lcm, read-scaled}
use Rattle.hp_der.proofs.prepared.Prepared.pair_vector.Goals as goal

pub cofactor-up-requires : goal.cofactor-up-requires
cofactor-up-requires g c =
    let e = ap (λ (p : Prepared g.row.F.Denot). p.leads) c.self.view_is in
    read-lcm c.requires.prepared c.args.i c.args.j c.requires.second c.requires.first e c.index.ensures c.index-2.ensures

pub cofactor-down-requires : goal.cofactor-down-requires
cofactor-down-requires g c =
    let e = ap (λ (p : Prepared g.row.F.Denot). p.leads) c.self.view_is in
    read-lcm c.requires.prepared c.args.j c.args.i c.requires.first c.requires.second e c.index-3.ensures c.index-4.ensures

pub times_term-requires : goal.times_term-requires
times_term-requires g c =
    let e = ap (λ (p : Prepared g.row.F.Denot). p.leads) c.self.view_is in
    read-scaled c.requires.prepared c.args.i c.args.j c.requires.second c.requires.first e c.index.ensures c.index-2.ensures
    c.members-members.ensures.value c.index-members-i.is c.cofactor-up.ensures.value

pub times_term-requires-2 : goal.times_term-requires-2
times_term-requires-2 g c =
    let e = ap (λ (p : Prepared g.row.F.Denot). p.leads) c.self.view_is in
    read-scaled c.requires.prepared c.args.j c.args.i c.requires.first c.requires.second e c.index-3.ensures c.index-4.ensures
    c.members-members.ensures.value c.index-members-j.is c.cofactor-down.ensures.value
