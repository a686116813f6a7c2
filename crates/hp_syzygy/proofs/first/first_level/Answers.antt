use Rattle.std.proofs.Common.{◌≡◌, ◌∙◌, length, replicate, ap, sym, subst}
use Rattle.hp_module.specs.ElimOrders.{elimination_order}
use Rattle.hp_syzygy.specs.ChainOrders.{first_chain}
use Rattle.hp_syzygy.specs.FrameLevels.{AreLeadsOf, IsLevel}
use Rattle.hp_syzygy.proofs.FirstLevels.{first-is_level, first-width, first_level}
use Rattle.hp_syzygy.proofs.first.first_level.Goals as goal

pub returns-clause-level : goal.returns-clause-level
returns-clause-level g c =
    let ring = g.F.Ring.ring in
    let inverse = g.F.Field.inverse in
    let basis = c.args.basis.now in
    let width = c.width-width.ensures.value in
    let leads = c.in_ok-leads.leads.items in
    let listed : AreLeadsOf (elimination_order 0) basis.members leads =
    subst (λ vs. AreLeadsOf (elimination_order 0) vs leads) c.members-2.ensures.value c.in_ok-leads.ensures in
    let field = g.met.F.Field.field_laws in
    let chain = c.in_ok-order.ensures ∙ ap first_chain width in
    let degrees = c.of.ensures ∙ c.in_ok-degrees.ensures ∙ ap (λ n. replicate n 0) width in
    let members = c.in_ok-members.ensures ∙ c.members.ensures.value in
    let same : first_level field c.width-width.ensures.of c.requires.split c.requires.variables c.requires.leads listed
    ≡ record { chain = c.in_ok-order.order; left = c.width-width.result; degrees = c.of.result; members = c.in_ok-members.members.items; leads = leads } =
    λ k. record { chain = sym chain k; left = sym width k; degrees = sym degrees k; members = sym members k; leads = leads } in
    subst (IsLevel ring inverse) same (first-is_level field c.width-width.ensures.of c.requires.split c.requires.variables c.requires.leads listed)

pub returns-clause-width : goal.returns-clause-width
returns-clause-width g c =
    let width = c.width-width.ensures.value in
    ap (λ o. length o.tops) (c.in_ok-order.ensures ∙ ap first_chain width) ∙ first-width c.args.basis.now.width
