use Rattle.std.proofs.Common.{◌≡◌, ◌∙◌, [], get_or, set, ap, sym, subst}
use Rattle.std.proofs.lemmas.List.{get_or_default}
use Rattle.hp_module.specs.FallingTerms.{AreDivisors, Divisor, Divisors, with_leads}
use Rattle.hp_module.proofs.DivisorLists.{divisors-replaced, replaced-divisor, replaced-leads, replaced-members}
use Rattle.hp_module.proofs.divisors.Divisors.replace.Goals as goal

pub returns-clause-divisors : goal.returns-clause-divisors
returns-clause-divisors g c =
    let ring = g.F.Ring.ring in
    let place = c.args.place in
    let d = c.args.self.now in
    let e = c.self.view_is in
    let m = c.index.result.now in
    let n : Divisor g.row.F.Denot = record { lead = c.behind-self.inside.lead; inverse = c.behind-self-2.inside.inverse; parts = c.in_ok-parts.parts.items } in
    let here : get_or d.members place m ≡ m = ap (λ (x : Divisors g.row.F.Denot). get_or x.members place m) (sym e) ∙ sym c.index.ensures in
    let same_lead : n.lead ≡ m.lead = ap (λ (x : Divisor g.row.F.Denot). x.lead) c.behind-self.view_is in
    let cmp = g.O.TermOrder.order c.args.order.now in
    let width = g.O.TermOrder.components c.args.order.now in
    let order = g.met.O.TermOrder.lawful c.args.order.now c.width-width.ensures.of in
    let field = g.met.F.Field.field_laws in
    let m2 = c.index-2.result.now in
    let here2 : get_or d.members place m2 ≡ m2 = ap (λ (x : Divisors g.row.F.Denot). get_or x.members place m2) (sym e) ∙ sym c.index-2.ensures in
    let twice : m2 ≡ m = sym here2 ∙ get_or_default d.members place m2 m c.requires.place ∙ here in
    let same_inverse : n.inverse ≡ m.inverse = ap (λ (x : Divisor g.row.F.Denot). x.inverse) (c.behind-self-2.view_is ∙ twice) in
    let is = replaced-divisor field cmp width order [] c.requires.divisors place m n c.requires.place here c.in_ok-parts.ensures.falling same_lead same_inverse
    c.args.v.now c.in_ok-parts.ensures.value c.requires.same_lead in
    subst (λ (x : Divisors g.row.F.Denot). AreDivisors ring cmp width (record { members = set x.members place n; listed = x.listed })) (sym e)
    (divisors-replaced ring cmp width c.requires.divisors c.requires.place here is same_lead)

pub returns-clause-members : goal.returns-clause-members
returns-clause-members g c =
    let ring = g.F.Ring.ring in
    let place = c.args.place in
    let d = c.args.self.now in
    let e = c.self.view_is in
    let n : Divisor g.row.F.Denot = record { lead = c.behind-self.inside.lead; inverse = c.behind-self-2.inside.inverse; parts = c.in_ok-parts.parts.items } in
    ap (λ (x : Divisors g.row.F.Denot). (with_leads ring (record { members = set x.members place n; listed = x.listed })).members) e
    ∙ replaced-members ring (g.O.TermOrder.order c.args.order.now) (g.O.TermOrder.components c.args.order.now) d n place
    ∙ ap (set (with_leads ring d).members place) c.in_ok-parts.ensures.value

pub returns-clause-leads : goal.returns-clause-leads
returns-clause-leads g c =
    let ring = g.F.Ring.ring in
    let place = c.args.place in
    let d = c.args.self.now in
    let e = c.self.view_is in
    let m = c.index.result.now in
    let n : Divisor g.row.F.Denot = record { lead = c.behind-self.inside.lead; inverse = c.behind-self-2.inside.inverse; parts = c.in_ok-parts.parts.items } in
    let here : get_or d.members place m ≡ m = ap (λ (x : Divisors g.row.F.Denot). get_or x.members place m) (sym e) ∙ sym c.index.ensures in
    let same_lead : n.lead ≡ m.lead = ap (λ (x : Divisor g.row.F.Denot). x.lead) c.behind-self.view_is in
    ap (λ (x : Divisors g.row.F.Denot). (with_leads ring (record { members = set x.members place n; listed = x.listed })).leads) e
    ∙ replaced-leads ring (g.O.TermOrder.order c.args.order.now) (g.O.TermOrder.components c.args.order.now) d m n place here same_lead
