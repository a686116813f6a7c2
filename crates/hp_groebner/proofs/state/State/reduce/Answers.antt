use Rattle.std.proofs.Common.{ap, arith}
use Rattle.std.specs.Prelude.{is_some}
use Rattle.hp_groebner.specs.Runs.{State}
use Rattle.hp_groebner.proofs.StatePushes.{lead-nonzero, monic-homogeneous, monic-in, monic-lead, reduced-none, reduced-pushed, rest-weight}
use Rattle.hp_groebner.proofs.state.State.reduce.Goals as goal
use Rattle.hp_groebner.proofs.state.State.reduce.Goals.{in-Some+in_ok-member+in_ok-push+else-pairs-setting, in_default}

pub monic-requires-clause-nonzero : goal.monic-requires-clause-nonzero
monic-requires-clause-nonzero g c =
    lead-nonzero c.requires.run.2 c.requires.homogeneous c.in_ok-rest.ensures c.in-Some.ensures.some

pub monic-requires-clause-weight : goal.monic-requires-clause-weight
monic-requires-clause-weight g c =
    rest-weight c.requires.run.2 c.requires.homogeneous c.in_ok-rest.ensures c.requires.degree

pub push-requires-clause-vector : goal.push-requires-clause-vector
push-requires-clause-vector g c =
    monic-in c.requires.run.2 c.requires.homogeneous c.in_ok-rest.ensures c.in-Some.ensures.some c.in_ok-member.ensures

pub push-requires-clause-lead : goal.push-requires-clause-lead
push-requires-clause-lead g c =
    monic-lead c.requires.run.2 c.requires.homogeneous c.in_ok-rest.ensures c.in-Some.ensures.some c.in_ok-member.ensures

pub push-requires-clause-homogeneous : goal.push-requires-clause-homogeneous
push-requires-clause-homogeneous g c =
    monic-homogeneous c.requires.run.2 c.requires.homogeneous c.in_ok-rest.ensures c.in-Some.ensures.some c.in_ok-member.ensures

pub returns-clause-reduced : goal.returns-clause-reduced
returns-clause-reduced g c =
    elim c.match-lead.branch [
      | in-Some+in_ok-member+in_ok-push+else-pairs-setting w ↦
          reduced-pushed c.requires.run.2 c.requires.homogeneous c.in_ok-rest.ensures w.in-Some.ensures.some w.in_ok-member.ensures
          w.push.new.self c.match-lead.self w.in_ok-push.ensures w.self-is (
          let e = ap (λ (s : State g.row.F.Denot). s.queue.pairs) w.self.view_is in
          let f = ap (λ (s : State g.row.F.Denot). s.queue.pairs) w.self-is in
          let t = w.if-pairs-setting.false in
          let p = w.pairs.ensures in
          omega (arith, e, f, t, p))
      | in_default w ↦ reduced-none c.requires.run.2 c.requires.homogeneous c.in_ok-rest.ensures (c.lead.ensures.none.0 (ap is_some w.in_default.is)) c.match-lead.self w.self-is
    ]
