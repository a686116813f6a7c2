use Rattle.std.proofs.Common.{◌≡◌, ◌+◌, ◌≤◌, length, subst, sym}
use Rattle.std.proofs.lemmas.Result.{IfErr-weaker, IfOk-weaker}
use Rattle.hp_module.specs.FreeModules.{HasDegree, IsIn}
use Rattle.hp_groebner.specs.PairQueues.{bucket}
use Rattle.hp_groebner.specs.Runs.{IsOver, IsReduced, IsRun, IsRunStop, job, module_of}
use Rattle.hp_groebner.proofs.LoopSteps.{pair-many, pair-on, pair-over, pair-read}
use Rattle.hp_groebner.proofs.RunReductions.{pair-homogeneous, pair-in}
use Rattle.hp_groebner.proofs.degrees.add_pair.Goals as goal

pub reduce-requires-clause-vector : goal.reduce-requires-clause-vector
reduce-requires-clause-vector g c =
    let J = job g.F.Ring.ring g.F.Field.inverse c.args.setting.now c.args.gens.now in
    let s = c.args.state.now in
    let r = c.requires.run in
    let l = c.requires.within in
    let is = pair-read g.F.Ring.ring s c.args.d c.args.k c.queue.ensures c.due.ensures c.in_ok-v.ensures in
    subst (IsIn (module_of J)) (sym is) (pair-in s r.0.done (r.0.queue.listed c.args.d c.args.k (0, 0) l).0)

pub reduce-requires-clause-homogeneous : goal.reduce-requires-clause-homogeneous
reduce-requires-clause-homogeneous g c =
    let J = job g.F.Ring.ring g.F.Field.inverse c.args.setting.now c.args.gens.now in
    let s = c.args.state.now in
    let r = c.requires.run in
    let l = c.requires.within in
    let is = pair-read g.F.Ring.ring s c.args.d c.args.k c.queue.ensures c.due.ensures c.in_ok-v.ensures in
    let q = r.0.queue.listed c.args.d c.args.k (0, 0) l in
    subst (HasDegree (module_of J) c.args.d) (sym is) (pair-homogeneous s r.0.done q.0 q.1)

pub returns-clause-run : goal.returns-clause-run
returns-clause-run g c =
    let J = job g.F.Ring.ring g.F.Field.inverse c.args.setting.now c.args.gens.now in
    let s = c.args.state.now in
    let r = c.requires.run in
    let l = c.requires.within in
    let is = pair-read g.F.Ring.ring s c.args.d c.args.k c.queue.ensures c.due.ensures c.in_ok-v.ensures in
    let s' = c.reduce.new.self in
    IfOk-weaker c.reduce.result (λ _. IsReduced J c.in_ok-v.v s s' × (s'.queue.pairs ≤ J.limits.pairs))
    (λ _. IsRun J s' c.args.d (length J.gens) (c.args.k + 1) (c.args.d + 1)) (λ _ x. pair-on r l is s' x) c.reduce.ensures.reduced

pub returns-clause-many : goal.returns-clause-many
returns-clause-many g c =
    let J = job g.F.Ring.ring g.F.Field.inverse c.args.setting.now c.args.gens.now in
    let s = c.args.state.now in
    let r = c.requires.run in
    let l = c.requires.within in
    let is = pair-read g.F.Ring.ring s c.args.d c.args.k c.queue.ensures c.due.ensures c.in_ok-v.ensures in
    let s' = c.reduce.new.self in
    IfOk-weaker c.reduce.result (λ _. IsReduced J c.in_ok-v.v s s' × (s'.queue.pairs ≤ J.limits.pairs))
    (λ _. length (bucket s'.queue c.args.d) ≡ length (bucket s.queue c.args.d)) (λ _ x. pair-many r l is s' x) c.reduce.ensures.reduced

pub returns-clause-stop : goal.returns-clause-stop
returns-clause-stop g c =
    let J = job g.F.Ring.ring g.F.Field.inverse c.args.setting.now c.args.gens.now in
    let s = c.args.state.now in
    let r = c.requires.run in
    let l = c.requires.within in
    let is = pair-read g.F.Ring.ring s c.args.d c.args.k c.queue.ensures c.due.ensures c.in_ok-v.ensures in
    let s' = c.reduce.new.self in
    IfErr-weaker c.reduce.result (IsOver J c.in_ok-v.v s s') (IsRunStop J) (λ e x. pair-over r l is s' e x) c.reduce.ensures.stop
