use Rattle.std.proofs.Common.{◌≡◌, ◌≤◌, ◌<◌, ◌-◌, ◌∙◌, suc, get_or, length, ap, sym, subst, arith}
use Rattle.std.proofs.lemmas.List.{get_or_default}
use Rattle.hp_mono.specs.Monomials.{cofactor, degree, lcm, max_degree}
use Rattle.hp_module.specs.CriticalPairs.{pair_vector}
use Rattle.hp_module.specs.Divisions.{IsDivided}
use Rattle.hp_module.specs.FallingTerms.{with_leads as divisor_leads}
use Rattle.hp_module.specs.FreeModules.{IsGraded, plus_term}
use Rattle.hp_module.specs.Leads.{no_term}
use Rattle.hp_syzygy.specs.VariableTests.{negated_firsts}
use Rattle.hp_syzygy.specs.FrameLevels.{IsRelationOf, level_module, pair_lead, with_leads}
use Rattle.hp_syzygy.proofs.LevelDegrees.{lcm-most}
use Rattle.hp_syzygy.proofs.PairQuotients.{difference-degree, difference-vector, relation_made}
use Rattle.hp_syzygy.proofs.relation.relation_of.Goals as goal

pub cofactor-down-requires : goal.cofactor-down-requires
cofactor-down-requires g c =
    let lv = c.args.level.now in
    let is = c.requires.level in
    let pair = c.requires.pair.2 in
    let i = c.requires.pair.1 in
    let j = c.args.earlier in
    let x = c.index.result.now in
    let y = c.index-2.result.now in
    let li : i < length lv.members = omega (arith, pair.later, is.led.same_length) in
    let lj : j < length lv.members = omega (arith, pair.earlier, is.led.same_length) in
    let place : c.args.lead.now.comp - 1 ≡ i = omega (arith, ap (λ t. t.comp) c.requires.pair.3) in
    let leads = ap (λ v. v.leads) c.level.view_is in
    let ex : x ≡ get_or lv.leads j no_term = c.index.ensures ∙ ap (λ ts. get_or ts j x) leads ∙ get_or_default lv.leads j x no_term pair.earlier in
    let ey : y ≡ get_or lv.leads i no_term =
    c.index-2.ensures ∙ ap (λ ts. get_or ts (c.args.lead.now.comp - 1) y) leads ∙ ap (λ k. get_or lv.leads k y) place ∙ get_or_default lv.leads i y no_term pair.later in
    subst (λ k. k ≤ max_degree) (λ k. degree (lcm (sym ex k).mono (sym ey k).mono)) (lcm-most is j i lj li)

pub divide-requires-clause-width : goal.divide-requires-clause-width
divide-requires-clause-width g c =
    let lv = c.args.level.now in
    let j = c.args.earlier in
    let place : c.args.lead.now.comp - 1 ≡ c.requires.pair.1 = omega (arith, ap (λ t. t.comp) c.requires.pair.3) in
    let is : c.in_ok-difference.difference ≡ pair_vector g.F.Ring.ring (with_leads lv) j c.requires.pair.1 g.F.Ring.ring.one g.F.Ring.ring.one =
    c.in_ok-difference.ensures ∙ ap (λ k. pair_vector g.F.Ring.ring (with_leads lv) j k g.F.Ring.ring.one g.F.Ring.ring.one) place in
    ap (λ v. length v.chain.tops) c.level.view_is
    ∙ sym (ap length is ∙ (difference-vector c.requires.level c.requires.pair.2).0)

pub divide-requires-clause-homogeneous : goal.divide-requires-clause-homogeneous
divide-requires-clause-homogeneous g c =
    let lv = c.args.level.now in
    let j = c.args.earlier in
    let place : c.args.lead.now.comp - 1 ≡ c.requires.pair.1 = omega (arith, ap (λ t. t.comp) c.requires.pair.3) in
    let is : c.in_ok-difference.difference ≡ pair_vector g.F.Ring.ring (with_leads lv) j c.requires.pair.1 g.F.Ring.ring.one g.F.Ring.ring.one =
    c.in_ok-difference.ensures ∙ ap (λ k. pair_vector g.F.Ring.ring (with_leads lv) j k g.F.Ring.ring.one g.F.Ring.ring.one) place in
    let d = difference-degree c.requires.level c.requires.pair.2 in
    let shifts = ap (λ v. v.degrees) c.level.view_is in
    (d.0, d.1, subst (λ ds. IsGraded ds d.0 c.in_ok-difference.difference) (sym shifts) (subst (IsGraded lv.degrees d.0) (sym is) d.2))

pub returns : goal.returns
returns g c =
    let ring = g.F.Ring.ring in
    let inverse = g.F.Field.inverse in
    let lv = c.args.level.now in
    let i = c.requires.pair.1 in
    let j = c.args.earlier in
    let pair = c.requires.pair.2 in
    let lead = c.args.lead.now in
    let x = c.index.result.now in
    let y = c.index-2.result.now in
    let difference = c.in_ok-difference.difference in
    let q = c.in_ok-divided.divided.0.items in
    let r = c.in_ok-divided.divided.1 in
    let place : lead.comp - 1 ≡ i = omega (arith, ap (λ t. t.comp) c.requires.pair.3) in
    let leads = ap (λ v. v.leads) c.level.view_is in
    let ex : x ≡ get_or lv.leads j no_term = c.index.ensures ∙ ap (λ ts. get_or ts j x) leads ∙ get_or_default lv.leads j x no_term pair.earlier in
    let ey : y ≡ get_or lv.leads i no_term =
    c.index-2.ensures ∙ ap (λ ts. get_or ts (lead.comp - 1) y) leads ∙ ap (λ k. get_or lv.leads k y) place ∙ get_or_default lv.leads i y no_term pair.later in
    let is : difference ≡ pair_vector ring (with_leads lv) j i ring.one ring.one =
    c.in_ok-difference.ensures ∙ ap (λ k. pair_vector ring (with_leads lv) j k ring.one ring.one) place in
    let d1 = subst (λ w. IsDivided (level_module ring inverse w) difference (divisor_leads ring c.args.divisors.now) q r) c.level.view_is c.in_ok-divided.ensures in
    let d2 = subst (λ w. IsDivided (level_module ring inverse lv) difference w q r) c.requires.leads d1 in
    let d3 = subst (λ w. IsDivided (level_module ring inverse lv) w (with_leads lv) q r) is d2 in
    let width : c.first_width.result ≡ lv.chain.width = c.first_width.ensures.value ∙ ap (λ v. v.chain.width) c.level.view_is in
    let negs : c.in_ok-entries.entries.items ≡ negated_firsts ring lv.chain.width q =
    c.in_ok-entries.ensures ∙ (λ k. negated_firsts ring (width k) (c.as_slice.ensures.value k)) in
    let down : record { mono = c.cofactor-down.result; comp = suc j } ≡ pair_lead lv.leads j i =
    (λ k. record { mono = (c.cofactor-down.ensures.value ∙ (λ m. cofactor (ex m).mono (ey m).mono)) k; comp = suc j }) in
    let up : record { mono = lead.mono; comp = suc (lead.comp - 1) } ≡ pair_lead lv.leads i j =
    (λ k. record { mono = (c.requires.pair.3 k).mono; comp = suc (place k) }) in
    let minus = c.negate.ensures.value ∙ ap ring.neg c.unit.ensures.value in
    let rel : c.new.result ≡ plus_term ring (plus_term ring (negated_firsts ring lv.chain.width q) (pair_lead lv.leads j i) (ring.neg ring.one)) (pair_lead lv.leads i j) ring.one =
    c.new.ensures.value ∙ c.in_ok-add_term-2.ensures
    ∙ (λ k. plus_term ring ((c.in_ok-add_term.ensures ∙ (λ m. plus_term ring (negs m) (down m) (minus m))) k) (up k) (c.unit-2.ensures.value k)) in
    λ h. subst (λ t. IsRelationOf ring inverse h (t, j) c.new.result) (sym c.requires.pair.3) (relation_made h pair d3 rel)
