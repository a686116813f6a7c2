use Rattle.std.proofs.Common.{◌≡◌, ◌∙◌, ◌+◌, All, [], get_or, refl, sym, subst, arith}
use Rattle.std.proofs.lemmas.Bool.{false≢true}
use Rattle.std.proofs.lemmas.List.{get_or_default}
use Rattle.hp_mono.specs.Monomials.{Monomial, degree}
use Rattle.hp_module.proofs.EntryTerms.{graded_all, graded_each}
use Rattle.hp_module.proofs.vector.have_degree.Goals as goal

pub returns-then-not-have_total : goal.returns-then-not-have_total
returns-then-not-have_total g c =
    let k = c.loop-k.k in
    let shifts = c.args.shifts.now in
    let d = c.args.degree in
    let entries = c.args.entries.now in
    let within = c.loop-k-test.true in
    let x = c.index-entries-k.result in (
      λ e. absurd (false≢true e),
      λ h.
          let at = graded_each shifts d entries h k (omega (arith, within)) in
          let X : All (λ (t : Monomial × g.row.F.Denot). degree t.0 + get_or shifts k 0 ≡ d) c.terms.result.now =
          subst (All (λ (t : Monomial × g.row.F.Denot). degree t.0 + get_or shifts k 0 ≡ d))
          (sym (c.terms.ensures.value ∙ c.index-entries-k.is ∙ get_or_default entries k x [] (omega (arith, within)))) at in
          c.if-not-have_total.ensures.1 X,
    )

pub returns : goal.returns
returns g c =
    (λ _. graded_all c.args.shifts.now c.args.degree c.args.entries.now (λ j h. c.loop-k.invariant j (omega (arith, h, c.loop-k-test.false))), λ _. refl)
