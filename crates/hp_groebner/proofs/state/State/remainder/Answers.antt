use Rattle.std.proofs.Common.{◌≡◌, ◌∙◌, ap, subst}
use Rattle.std.proofs.lemmas.Result.{IfOk-weaker}
use Rattle.hp_module.specs.Vectors.{Vector}
use Rattle.hp_module.specs.Divisions.{IsDivided}
use Rattle.hp_module.specs.FallingTerms.{with_leads}
use Rattle.hp_groebner.specs.Runs.{State, held, job, module_of}
use Rattle.hp_groebner.proofs.StatePushes.{low-degree}
use Rattle.hp_groebner.proofs.state.State.remainder.Goals as goal

pub remainder-requires-clause-homogeneous : goal.remainder-requires-clause-homogeneous
remainder-requires-clause-homogeneous g c = low-degree c.requires.run.2.0 c.args.v.now c.requires.degree c.requires.homogeneous

pub returns : goal.returns
returns g c =
    let ring = g.F.Ring.ring in
    let M = module_of (job ring g.F.Field.inverse c.args.setting.now c.args.gens.now) in
    let s = c.args.self.now in
    let v = c.args.v.now in
    let D = c.self.inside.divisors in
    let e : with_leads ring D ≡ held s =
    ap (λ (u : State g.row.F.Denot). with_leads ring u.divisors) c.self.view_is ∙ c.requires.run.2.0.divisors_are in
    IfOk-weaker c.remainder.result (λ r. (qs : Vector g.row.F.Denot) × IsDivided M v (with_leads ring D) qs r)
    (λ r. (qs : Vector g.row.F.Denot) × IsDivided M v (held s) qs r)
    (λ r x. subst (λ w. (qs : Vector g.row.F.Denot) × IsDivided M v w qs r) e x) c.remainder.ensures
