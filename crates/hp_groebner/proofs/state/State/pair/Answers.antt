use Rattle.std.proofs.Common.{ap, ◌∙◌}
use Rattle.hp_groebner.specs.Runs.{State}
use Rattle.hp_groebner.proofs.StatePushes.{down-fits, up-fits, up-lcm}
use Rattle.hp_groebner.proofs.state.State.pair.Goals as goal

pub cofactor-up-requires : goal.cofactor-up-requires
cofactor-up-requires g c =
    let e = c.leads-leads.ensures ∙ ap (λ (s : State g.row.F.Denot). s.queue.leads) c.self.view_is in
    up-lcm c.requires.run.2.0 c.requires.degree c.requires.pair c.requires.lcm e c.index-leads-later.result c.index-leads-earlier.result

pub times_term-requires : goal.times_term-requires
times_term-requires g c =
    let e = c.leads-leads.ensures ∙ ap (λ (s : State g.row.F.Denot). s.queue.leads) c.self.view_is in
    let f = ap (λ (s : State g.row.F.Denot). s.members) c.self.view_is in
    up-fits c.requires.run.2.0 c.requires.degree c.requires.pair c.requires.lcm e c.index-leads-later.result c.index-leads-earlier.result f
    c.cofactor-up.ensures.value c.index.ensures

pub times_term-requires-2 : goal.times_term-requires-2
times_term-requires-2 g c =
    let e = c.leads-leads.ensures ∙ ap (λ (s : State g.row.F.Denot). s.queue.leads) c.self.view_is in
    let f = ap (λ (s : State g.row.F.Denot). s.members) c.self.view_is in
    down-fits c.requires.run.2.0 c.requires.degree c.requires.pair c.requires.lcm e c.index-leads-later-2.result c.index-leads-earlier-2.result f
    c.cofactor-down.ensures.value c.index-2.ensures
