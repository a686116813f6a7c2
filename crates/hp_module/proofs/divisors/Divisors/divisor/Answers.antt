use Rattle.std.proofs.Common.{◌≡◌, ◌<◌, ◌-◌, ◌∙◌, ℕ, [], All, Contains, get_or, length, ap, subst, arith}
use Rattle.std.proofs.lemmas.Bool.{cases_lt}
use Rattle.std.proofs.lemmas.List.{get_or_default}
use mathlib.Core.Logic.{inl, inr}
use Rattle.hp_mono.specs.Monomials.{Monomial, Divides, product}
use Rattle.hp_module.proofs.DivisorLists.{divisor-found, no-divisor}
use Rattle.hp_module.proofs.divisors.Divisors.divisor.Goals as goal

pub loop-k-init : goal.loop-k-init
loop-k-init g c = λ j u h. absurd (omega (arith, h))

pub loop-k-preserved : goal.loop-k-preserved
loop-k-preserved g c =
    let list = c.as_slice-listed.result.now in
    let k = c.loop-k.k in
    let x = c.index-listed-k.result in
    λ j u h w.
    elim (cases_lt j k) [
      | inl low ↦ c.loop-k.invariant j u low w
      | inr high ↦
          let s : j ≡ k = omega (arith, h, high) in
          let here : get_or list j u ≡ get_or list k x =
          ap (λ i. get_or list i u) s ∙ get_or_default list k u x c.loop-k-test.true in
          c.in_default.ensures.none (subst (λ y. Divides y.0 c.args.t.now.mono) here w)
    ]

pub returns-in-Some : goal.returns-in-Some
returns-in-Some g c =
    let cmp = g.O.TermOrder.order c.args.order.now in
    let width = g.O.TermOrder.components c.args.order.now in
    let list = c.as_slice-listed.result.now in
    let k = c.loop-k.k in
    let x = c.index-listed-k-in-Some.result in
    let u = get_or list k x in
    let t = c.args.t.now in
    let inside : t.comp - 1 < length c.args.self.now.listed = omega (arith, c.requires.within.1, c.requires.within.2, c.requires.divisors.long) in
    let list_is : list ≡ get_or c.args.self.now.listed (t.comp - 1) [] =
    c.as_slice-listed.ensures ∙ c.index.ensures ∙ ap (λ d. get_or d.listed (t.comp - 1) c.index.result.now) c.self.view_is
    ∙ get_or_default c.args.self.now.listed (t.comp - 1) c.index.result.now [] inside in
    let found : Contains list u = (k, c.loop-k-test.true, get_or_default list k u x c.loop-k-test.true) in
    let same : u ≡ get_or list k c.index-listed-k.result = get_or_default list k x c.index-listed-k.result c.loop-k-test.true in
    divisor-found g.F.Ring.ring cmp width c.requires.divisors c.requires.within u (subst (λ l. Contains l u) list_is found) c.in-Some.quotient
    (ap (λ y. product c.in-Some.quotient y.0) same ∙ c.in-Some.ensures.some)

pub returns : goal.returns
returns g c =
    let cmp = g.O.TermOrder.order c.args.order.now in
    let width = g.O.TermOrder.components c.args.order.now in
    let list = c.as_slice-listed.result.now in
    let t = c.args.t.now in
    let inside : t.comp - 1 < length c.args.self.now.listed = omega (arith, c.requires.within.1, c.requires.within.2, c.requires.divisors.long) in
    let list_is : list ≡ get_or c.args.self.now.listed (t.comp - 1) [] =
    c.as_slice-listed.ensures ∙ c.index.ensures ∙ ap (λ d. get_or d.listed (t.comp - 1) c.index.result.now) c.self.view_is
    ∙ get_or_default c.args.self.now.listed (t.comp - 1) c.index.result.now [] inside in
    no-divisor g.F.Ring.ring cmp width c.requires.divisors c.requires.within
    (subst (All (λ (u : Monomial × ℕ). ¬ (Divides u.0 t.mono))) list_is (λ j u l. c.loop-k.invariant j u (omega (arith, l, c.loop-k-test.false))))
