use Rattle.std.proofs.Common.{◌<◌, ap, length, refl, set, subst, sym}
use Rattle.hp_module.specs.ElimOrders.{elimination_order}
use Rattle.hp_module.specs.FallingTerms.{AreDivisors}
use Rattle.hp_groebner.specs.BasisEnds.{IsTailReduced}
use Rattle.hp_groebner.specs.Runs.{IsReplaced, IsRun, State, job}
use Rattle.hp_groebner.proofs.StatePushes.{replace-lead, replace-place, replace-width, replaced}
use Rattle.hp_groebner.proofs.state.State.replace.Goals as goal

pub replace-requires-clause-divisors : goal.replace-requires-clause-divisors
replace-requires-clause-divisors g c =
    let J = job g.F.Ring.ring g.F.Field.inverse c.args.setting.now c.args.gens.now in
    subst (λ (s : State g.row.F.Denot). AreDivisors J.ring (elimination_order J.split) J.width s.divisors) (sym c.self.view_is)
    c.requires.run.4.0.divisors

pub replace-requires-clause-width : goal.replace-requires-clause-width
replace-requires-clause-width g c = replace-width c.requires.run.4 c.requires.within c.requires.reduced

pub replace-requires-clause-place : goal.replace-requires-clause-place
replace-requires-clause-place g c =
    replace-place c.requires.run.4 c.requires.within c.requires.reduced (ap (λ (s : State g.row.F.Denot). s.divisors) c.self.view_is)

pub replace-requires-clause-same_lead : goal.replace-requires-clause-same_lead
replace-requires-clause-same_lead g c =
    replace-lead c.requires.run.4 c.requires.within c.requires.reduced (ap (λ (s : State g.row.F.Denot). s.divisors) c.self.view_is)

pub returns : goal.returns
returns g c =
    let J = job g.F.Ring.ring g.F.Field.inverse c.args.setting.now c.args.gens.now in
    let i = c.args.place in
    let v = c.args.v in
    let e = sym c.self.view_is in
    let q = c.requires.run in
    let r = subst (λ (s : State g.row.F.Denot). IsRun J s q.0 q.1 q.2 q.3) e q.4 in
    let l = subst (λ (s : State g.row.F.Denot). i < length s.members) e c.requires.within in
    let x = subst (λ (s : State g.row.F.Denot). IsTailReduced J s i v) e c.requires.reduced in
    let new : State g.row.F.Denot =
    record { divisors = c.replace.new.self; members = set c.self.inside.members.items i v; queue = c.self.inside.queue } in
    subst (λ s. IsReplaced J s i v new) c.self.view_is
    (replaced r l x c.in_ok-replace.ensures.divisors c.in_ok-replace.ensures.members c.in_ok-replace.ensures.leads refl)
