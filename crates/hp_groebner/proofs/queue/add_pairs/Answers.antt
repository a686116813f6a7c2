use Rattle.std.proofs.Common.{◌≡◌, ◌+◌, ◌<◌, ◌++◌, [], ◌∷◌, length, set, arith, slice_index_or, sym, ap, ◌∙◌, subst}
use Rattle.std.proofs.lemmas.List.{get_or_default}
use Rattle.hp_mono.specs.Monomials.{degree, lcm, one}
use Rattle.hp_module.specs.Leads.{no_term}
use Rattle.hp_groebner.specs.NewPairs.{AreAdded, new_degree, place_at}
use Rattle.hp_groebner.proofs.MinimalCofactors.{lcm-small}
use Rattle.hp_groebner.proofs.QueueSteps.{added-next, added-past}
use Rattle.hp_groebner.proofs.queue.add_pairs.Goals as goal
use Rattle.hp_groebner.proofs.queue.add_pairs.Goals.{then-e-limit+in_ok-push, else-e-limit}

pub lcm-requires : goal.lcm-requires
lcm-requires c =
    let leads = c.args.leads.now in
    let y = slice_index_or c.args.kept.now c.loop-k.k c.index-kept-k.result in
    let companion = c.requires.companions c.loop-k.k c.index-kept-k.result c.loop-k-test.true in
    let x = slice_index_or leads y.1 c.index-leads-j.result in
    let is = get_or_default leads y.1 c.index-leads-j.result x companion.within in
    lcm-small leads c.args.t.now y.1 x companion.within is c.requires.degrees

pub loop-k-preserved : goal.loop-k-preserved
loop-k-preserved c =
    let leads = c.args.leads.now in
    let t = c.args.t.now in
    let kept = c.args.kept.now in
    let k = c.loop-k.k in
    let y = slice_index_or kept k c.index-kept-k.result in
    let companion = c.requires.companions k c.index-kept-k.result c.loop-k-test.true in
    let at : place_at kept k ≡ y.1 =
    ap (λ z. z.1) (get_or_default kept k (one, 0) c.index-kept-k.result c.loop-k-test.true) in
    let of_degree : new_degree leads t y.1 ≡ c.degree-e.result =
    ap (λ s. degree (lcm s.mono t.mono)) (get_or_default leads y.1 no_term c.index-leads-j.result companion.within)
    ∙ ap degree (sym c.lcm.ensures.value) ∙ sym c.degree-e.ensures.value in
    elim c.if-e-limit.branch [
      | then-e-limit+in_ok-push w ↦
          let e = c.degree-e.result in
          let within : c.degree-e.result < length c.loop-k.due.items =
          omega (arith, c.loop-k.invariant.long, c.requires.long, w.if-e-limit.true) in
          let old = w.index_mut.ensures.value ∙ get_or_default c.loop-k.due.items e w.index_mut.result.now [] within in
          let new = w.in_ok-push.ensures ∙ ap (λ us. us ++ (y.1, length leads) ∷ []) old in
          subst (AreAdded leads t c.args.limit kept (k + 1) c.args.due.now.items)
          (sym (ap (λ v. v.items) w.due-is ∙ ap (set c.loop-k.due.items e) new))
          (added-next leads t c.args.limit kept k c.args.due.now.items c.loop-k.due.items c.loop-k.invariant y.1 e at
          companion of_degree within)
      | else-e-limit w ↦
          subst (λ v. AreAdded leads t c.args.limit kept (k + 1) c.args.due.now.items v.items) (sym w.due-is)
          (added-past leads t c.args.limit kept k c.args.due.now.items c.loop-k.due.items c.loop-k.invariant
          (subst (λ d. c.args.limit < d) (sym (ap (new_degree leads t) at ∙ of_degree)) w.if-e-limit.false))
    ]
