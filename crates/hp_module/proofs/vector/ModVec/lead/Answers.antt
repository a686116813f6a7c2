use Rattle.std.proofs.Common.{◌≡◌, ◌∙◌, ◌+◌, ◌-◌, ◌∷◌, ℕ, All, Option, length, drop, sym, ap, subst, refl, arith}
use Rattle.std.proofs.lemmas.List.{drop_more, length-drop}
use Rattle.std.proofs.lemmas.List.Elements.{All-drop}
use Rattle.std.specs.declared.cmp.Ordering.{Ordering}
use Rattle.hp_module.specs.Vectors.{Vector}
use Rattle.hp_mono.specs.declared.term.Term.{Term}
use Rattle.hp_algebra.proofs.Rows.{zero_row-ext}
use Rattle.hp_poly.specs.Polynomials.{IsPoly}
use Rattle.hp_poly.specs.PolyRing.{poly_is_ring}
use Rattle.hp_module.specs.FreeModules.{terms, terms_from}
use Rattle.hp_module.specs.LeadSearch.{IsGreatestOf}
use Rattle.hp_module.proofs.VectorSums.{terms-within, terms-zero}
use Rattle.hp_module.proofs.EntryTerms.{terms_drop, terms_none}
use Rattle.hp_module.proofs.GreatestSteps.{greatest_none, greatest_term}
use Rattle.hp_module.proofs.vector.ModVec.lead.Goals as goal

pub loop-k-preserved : goal.loop-k-preserved
loop-k-preserved g c =
    let entries = c.entries-entries.result.now in
    let width = g.O.TermOrder.components c.args.order.now in
    let cmp = g.O.TermOrder.order c.args.order.now in
    let m = c.loop-k.k in
    let k = m - 1 in
    let x = c.index-entries-k.result in
    let next : k + 1 ≡ m = omega arith in
    let front : drop k entries ≡ x ∷ drop m entries =
    drop_more entries k x (omega arith) ∙ ap (λ y. y ∷ drop (k + 1) entries) (sym c.index-entries-k.is) ∙ ap (λ n. x ∷ drop n entries) next in
    let laws = g.met.F.Ring.ring_laws in
    let commutes = g.met.F.CommRing.commutes in
    let polys = subst (All (IsPoly g.F.Ring.ring)) (sym c.entries-entries.ensures.value) c.entries-entries.ensures.of.1 in
    let long : length entries ≡ width = ap length c.entries-entries.ensures.value ∙ sym c.requires in
    let later = terms-within laws commutes (m + 1) width (drop m entries) (All-drop (IsPoly g.F.Ring.ring) m entries polys) (omega (arith, length-drop m entries, long, c.loop-k.invariant.long)) (omega arith) in
    record {
      long = omega (arith, c.loop-k.invariant.long);
      within = c.greatest-lead.ensures.within;
      greatest =
          subst (λ xs. IsGreatestOf cmp xs c.greatest-lead.result)
          (sym (terms_drop entries k m next front c.terms.ensures.value))
          (c.greatest-lead.ensures.greatest (terms_from (m + 1) (drop m entries)) later c.loop-k.invariant.greatest);
    }

whole : {X : Type 0} {v w : Vector X} (lead : Option (Term × X)) (cmp : Term → Term → Ordering) (k : ℕ) → k ≡ 0 → v ≡ w
    → IsGreatestOf cmp (terms_from (k + 1) (drop k v)) lead → IsGreatestOf cmp (terms w) lead
whole {X} {v} {w} lead cmp k z e h = subst (λ u. IsGreatestOf cmp (terms u) lead) e (subst (λ n. IsGreatestOf cmp (terms_from (n + 1) (drop n v)) lead) z h)

pub returns-clause-some : goal.returns-clause-some
returns-clause-some g c =
    let cmp = g.O.TermOrder.order c.args.order.now in
    greatest_term cmp c.args.self.now c.loop-k.lead
    (whole c.loop-k.lead cmp c.loop-k.k (omega (arith, c.loop-k-test.false)) c.entries-entries.ensures.value c.loop-k.invariant.greatest)

pub returns-clause-none : goal.returns-clause-none
returns-clause-none g c =
    let cmp = g.O.TermOrder.order c.args.order.now in
    let v = c.args.self.now in
    let laws = poly_is_ring g.met.F.Ring.ring_laws g.met.F.CommRing.commutes in
    let none = greatest_none cmp (terms v) c.loop-k.lead
    (whole c.loop-k.lead cmp c.loop-k.k (omega (arith, c.loop-k-test.false)) c.entries-entries.ensures.value c.loop-k.invariant.greatest) in (
      λ e. zero_row-ext laws (length v) v refl (terms_none 1 v (none.0 e)),
      λ e. none.1 (ap terms e ∙ terms-zero g.F.Ring.ring 1 (length v)),
    )
