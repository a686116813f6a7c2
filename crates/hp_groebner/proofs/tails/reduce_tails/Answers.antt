use Rattle.std.proofs.Common.{◌≢◌, ◌∙◌, ◌+◌, ◌<◌, length, sym, ap, subst, arith}
use Rattle.hp_mono.specs.Monomials.{degree}
use Rattle.hp_module.specs.Leads.{lead_at}
use Rattle.hp_groebner.specs.PairQueues.{bucket}
use Rattle.hp_groebner.specs.Runs.{AreReducedAt, IsRun, State, held, job}
use Rattle.hp_groebner.proofs.KeptTails.{passed-tail}
use Rattle.hp_groebner.proofs.TailSteps.{lead-read}
use Rattle.hp_groebner.proofs.tails.reduce_tails.Goals as goal
use Rattle.hp_groebner.proofs.tails.reduce_tails.Goals.{then-degree-d+in_ok-reduce_tail, else-degree-d}

pub loop-place-preserved : goal.loop-place-preserved
loop-place-preserved g c =
    let J = job g.F.Ring.ring g.F.Field.inverse c.args.setting.now c.args.gens.now in
    let d = c.args.d in
    let p = c.loop-place.place in
    let inv = c.loop-place.invariant in
    let l : p < length c.loop-place.state.members = omega (arith, inv.many, c.loop-place-test.true) in
    let Run : State g.row.F.Denot → Type 0 = λ s. IsRun J s d (length J.gens) (length (bucket s.queue d)) (d + 1) in
    record {
      run = elim c.if-degree-d.branch [
        | then-degree-d+in_ok-reduce_tail w ↦ subst Run (sym w.state-is) w.in_ok-reduce_tail.ensures.run
        | else-degree-d w ↦ subst Run (sym w.state-is) inv.run
      ];
      many = elim c.if-degree-d.branch [
        | then-degree-d+in_ok-reduce_tail w ↦
            ap (λ (s : State g.row.F.Denot). length s.members) w.state-is ∙ w.in_ok-reduce_tail.ensures.many ∙ inv.many
        | else-degree-d w ↦ ap (λ (s : State g.row.F.Denot). length s.members) w.state-is ∙ inv.many
      ];
      tails = elim c.if-degree-d.branch [
        | then-degree-d+in_ok-reduce_tail w ↦
            subst (λ (s : State g.row.F.Denot). AreReducedAt (held s) (λ i. i < p + 1)) (sym w.state-is)
            (w.in_ok-reduce_tail.ensures.tails inv.tails)
        | else-degree-d w ↦
            let read = lead-read inv.run l c.queue.ensures c.leads.ensures c.index-leads-place.is in
            let other : degree (lead_at (held c.loop-place.state) p).mono ≢ d =
            (λ e. w.if-degree-d.false (c.degree.ensures.value ∙ ap (λ t. degree t.mono) (sym c.index-leads-place.is ∙ read) ∙ e)) in
            subst (λ (s : State g.row.F.Denot). AreReducedAt (held s) (λ i. i < p + 1)) (sym w.state-is)
            (passed-tail inv.run p other inv.tails)
      ];
    }

pub returns-clause-tails : goal.returns-clause-tails
returns-clause-tails g c i j a b z =
    c.loop-place.invariant.tails i j a b (omega (arith, a, c.loop-place.invariant.many, c.loop-place-test.false))
