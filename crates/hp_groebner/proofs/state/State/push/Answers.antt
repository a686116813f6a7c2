use Rattle.std.proofs.Common.{◌≤◌, ◌+◌, subst, sym}
use Rattle.hp_mono.specs.declared.term.Term.{Term}
use Rattle.hp_mono.specs.Monomials.{degree}
use Rattle.std.specs.Prelude.{All}
use Rattle.hp_groebner.specs.LimitRules.{most_degree}
use Rattle.hp_groebner.specs.Runs.{IsPushed, IsRunning, State, job}
use Rattle.hp_groebner.proofs.StatePushes.{leads-low, push-degree, push-nonzero, pushed}
use Rattle.hp_groebner.proofs.state.State.push.Goals as goal

pub push-requires-clause-nonzero : goal.push-requires-clause-nonzero
push-requires-clause-nonzero g c = push-nonzero c.requires.run.2.0 c.requires.vector c.requires.lead c.requires.homogeneous

pub push-requires-2-clause-degree : goal.push-requires-2-clause-degree
push-requires-2-clause-degree g c =
    (push-degree c.requires.run.2.0 c.requires.vector c.requires.lead c.requires.homogeneous c.requires.degree).degree_most

pub push-requires-2-clause-degrees : goal.push-requires-2-clause-degrees
push-requires-2-clause-degrees g c =
    subst (λ (s : State g.row.F.Denot). All (λ (t : Term). degree t.mono ≤ most_degree) s.queue.leads) (sym c.self.view_is)
    (λ k d l. (leads-low c.requires.run.2.0 c.requires.degree k d l).degree_most)

pub returns : goal.returns
returns g c =
    let J = job g.F.Ring.ring g.F.Field.inverse c.args.setting.now c.args.gens.now in
    let r = subst (λ s. IsRunning J s c.args.d c.requires.run.0 c.requires.run.1 (c.args.d + 1)) (sym c.self.view_is) c.requires.run.2.0 in
    let new : State g.row.F.Denot =
    record { divisors = c.push.new.self; members = c.push-3.new.self.items; queue = c.push-2.new.self } in
    subst (λ s. IsPushed J s c.args.v c.args.t new) c.self.view_is
    (pushed r c.requires.vector c.requires.lead c.requires.homogeneous c.in_ok-push.ensures.divisors c.in_ok-push.ensures.members
    c.in_ok-push-3.ensures.items c.in_ok-push-2.ensures.queue c.in_ok-push-2.ensures.longer)
