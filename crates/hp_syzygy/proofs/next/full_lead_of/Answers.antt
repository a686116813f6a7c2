use Rattle.std.proofs.Common.{◌≡◌, ◌≤◌, ◌<◌, ◌+◌, ◌∙◌, get_or, length, ap, sym, subst, arith}
use Rattle.std.proofs.lemmas.List.{get_or_default}
use Rattle.hp_mono.specs.Monomials.{degree, max_degree}
use Rattle.hp_module.specs.Leads.{no_term}
use Rattle.hp_syzygy.specs.ChainOrders.{top_of}
use Rattle.hp_syzygy.proofs.NextChains.{lead-within}
use Rattle.hp_syzygy.proofs.LevelDegrees.{full-most}
use Rattle.hp_syzygy.proofs.next.full_lead_of.Goals as goal

pub full-requires-clause-counted : goal.full-requires-clause-counted
full-requires-clause-counted g c =
    let v = c.args.level.now in
    let k = c.args.k in
    let x = c.index.result.now in
    let e : get_or v.leads k no_term ≡ x =
    get_or_default v.leads k no_term x c.requires.place ∙ sym (c.index.ensures ∙ ap (λ w. get_or w.leads k x) c.level.view_is) in
    let l : k < length v.members = omega (arith, c.requires.place, c.requires.level.led.same_length) in
    subst (λ t. 1 ≤ t.comp) e (lead-within c.requires.level k l).1

pub full-requires-clause-within : goal.full-requires-clause-within
full-requires-clause-within g c =
    let v = c.args.level.now in
    let k = c.args.k in
    let x = c.index.result.now in
    let e : get_or v.leads k no_term ≡ x =
    get_or_default v.leads k no_term x c.requires.place ∙ sym (c.index.ensures ∙ ap (λ w. get_or w.leads k x) c.level.view_is) in
    let l : k < length v.members = omega (arith, c.requires.place, c.requires.level.led.same_length) in
    subst (λ n. x.comp ≤ n) (sym (ap (λ w. length w.chain.tops) c.level.view_is))
    (subst (λ t. t.comp ≤ length v.chain.tops) e (lead-within c.requires.level k l).2)

pub full-requires-clause-low : goal.full-requires-clause-low
full-requires-clause-low g c =
    let v = c.args.level.now in
    let k = c.args.k in
    let x = c.index.result.now in
    let e : get_or v.leads k no_term ≡ x =
    get_or_default v.leads k no_term x c.requires.place ∙ sym (c.index.ensures ∙ ap (λ w. get_or w.leads k x) c.level.view_is) in
    let l : k < length v.members = omega (arith, c.requires.place, c.requires.level.led.same_length) in
    subst (λ o. degree x.mono + degree (top_of o x.comp).mono ≤ max_degree) (sym (ap (λ w. w.chain) c.level.view_is))
    (subst (λ t. degree t.mono + degree (top_of v.chain t.comp).mono ≤ max_degree) e (full-most c.requires.level k l))
