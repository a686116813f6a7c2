use Rattle.std.proofs.Common.{◌+◌, ◌≤◌}
use Rattle.std.proofs.lemmas.Result.{IfErr-weaker, IfOk-weaker}
use Rattle.hp_groebner.specs.Runs.{IsOver, IsReduced, IsRun, IsRunStop, job}
use Rattle.hp_groebner.proofs.LoopSteps.{generator-homogeneous, generator-on, generator-over, generator-past, not-true}
use Rattle.hp_groebner.proofs.degrees.add_generator.Goals as goal

pub reduce-requires-clause-homogeneous : goal.reduce-requires-clause-homogeneous
reduce-requires-clause-homogeneous g c =
    generator-homogeneous c.requires.run.0.done.of c.requires.within c.index-gens-k.is (c.has_degree.ensures.yes c.if-has_degree.true)

pub returns-then-has_degree-clause-run : goal.returns-then-has_degree-clause-run
returns-then-has_degree-clause-run g c =
    let J = job g.F.Ring.ring g.F.Field.inverse c.args.setting.now c.args.gens.now in
    let s' = c.reduce.new.self in
    IfOk-weaker c.reduce.result (λ _. IsReduced J c.index-gens-k.result c.args.state.now s' × (s'.queue.pairs ≤ J.limits.pairs))
    (λ _. IsRun J s' c.args.d (c.args.k + 1) 0 (c.args.d + 1))
    (λ _ x. generator-on c.requires.run c.requires.within c.index-gens-k.is (c.has_degree.ensures.yes c.if-has_degree.true) s' x)
    c.reduce.ensures.reduced

pub returns-then-has_degree-clause-stop : goal.returns-then-has_degree-clause-stop
returns-then-has_degree-clause-stop g c =
    let J = job g.F.Ring.ring g.F.Field.inverse c.args.setting.now c.args.gens.now in
    let s' = c.reduce.new.self in
    IfErr-weaker c.reduce.result (IsOver J c.index-gens-k.result c.args.state.now s') (IsRunStop J)
    (λ e x. generator-over c.requires.run c.requires.within c.index-gens-k.is (c.has_degree.ensures.yes c.if-has_degree.true) s' e x)
    c.reduce.ensures.stop

pub returns-clause-run : goal.returns-clause-run
returns-clause-run g c =
    generator-past c.requires.run c.requires.within c.index-gens-k.is (c.has_degree.ensures.no (not-true c.has_degree.result c.if-has_degree.false))
