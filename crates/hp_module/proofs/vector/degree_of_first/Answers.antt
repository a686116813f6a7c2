use Rattle.std.proofs.Common.{◌≡◌, ◌∙◌, ◌+◌, ◌-◌, ◌∷◌, ◌++◌, [], Contains, MatchOption, get_or, drop, sym, ap, subst, arith}
use Rattle.std.proofs.lemmas.List.{drop_more}
use Rattle.hp_mono.specs.declared.term.Term.{Term}
use Rattle.hp_mono.specs.Monomials.{degree}
use Rattle.hp_module.specs.FreeModules.{term_degree, terms_from}
use Rattle.hp_module.specs.LeadSearch.{component_terms}
use Rattle.hp_sums.proofs.Merges.{no_items}
use Rattle.hp_module.proofs.EntryTerms.{first_found, terms_drop}
use Rattle.hp_module.proofs.vector.degree_of_first.Goals as goal

pub loop-k-preserved-in-Some : goal.loop-k-preserved-in-Some
loop-k-preserved-in-Some g c =
    let entries = c.args.entries.now in
    let shifts = c.args.shifts.now in
    let m = c.loop-k.k in
    let k = m - 1 in
    let x = c.index-entries-k.result in
    let t = c.in-Some.t.now in
    let front : drop k entries ≡ x ∷ drop (k + 1) entries =
    drop_more entries k x (omega (arith, c.loop-k.invariant.long)) ∙ (λ i. sym c.index-entries-k.is i ∷ drop (k + 1) entries) in
    let total : degree t.0 + get_or shifts (k + 1 - 1) 0 ≡ c.from.result + c.from-in-Some.result =
    (λ i. sym (c.from.ensures ∙ c.degree.ensures.value) i + get_or shifts (k + 1 - 1) 0)
    ∙ ap (λ n. c.from.result + get_or shifts n 0) (omega arith) ∙ ap (λ n. c.from.result + n) (sym c.from-in-Some.ensures) in
    record {
      long = omega (arith, c.loop-k.invariant.long);
      degree = ((record { mono = t.0; comp = k + 1 }, t.1), first_found (k + 1) front (sym c.terms.ensures.value ∙ c.in-Some.ensures.cases.0), total);
    }

pub loop-k-preserved : goal.loop-k-preserved
loop-k-preserved g c =
    let entries = c.args.entries.now in
    let shifts = c.args.shifts.now in
    let m = c.loop-k.k in
    let k = m - 1 in
    let x = c.index-entries-k.result in
    let next : k + 1 ≡ m = omega arith in
    let front : drop k entries ≡ x ∷ drop m entries =
    drop_more entries k x (omega (arith, c.loop-k.invariant.long)) ∙ (λ i. sym c.index-entries-k.is i ∷ drop (k + 1) entries) ∙ ap (λ n. x ∷ drop n entries) next in
    let same : terms_from (k + 1) (drop k entries) ≡ terms_from (m + 1) (drop m entries) =
    terms_drop entries k m next front c.terms.ensures.value
    ∙ ap (λ p. component_terms (k + 1) p ++ terms_from (m + 1) (drop m entries)) (no_items c.terms.result.now c.in_default.ensures.cases) in
    record {
      long = omega (arith, c.loop-k.invariant.long);
      degree = subst (λ xs. MatchOption c.loop-k.degree (xs ≡ []) (λ d. (u : Term × g.row.F.Denot) × Contains xs u × (term_degree shifts u.0 ≡ d)))
          (sym same) c.loop-k.invariant.degree;
    }

pub returns : goal.returns
returns g c =
    let entries = c.args.entries.now in
    let zero : c.loop-k.k ≡ 0 = omega (arith, c.loop-k-test.false) in
    subst (λ n. MatchOption c.loop-k.degree (terms_from (n + 1) (drop n entries) ≡ []) (λ d. (u : Term × g.row.F.Denot) × Contains (terms_from (n + 1) (drop n entries)) u × (term_degree c.args.shifts.now u.0 ≡ d)))
    zero c.loop-k.invariant.degree
