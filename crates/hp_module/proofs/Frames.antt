-- The relations of covered pairs: they are all relations, and a Gröbner basis of these in the induced order.
use Rattle.std.specs.Prelude.{◌≡◌, ℕ, ◌-◌, ◌<◌, ◌≤◌, List, length}
use mathlib.Core.Path.{sym, ◌∙◌, subst}
use native.Mathlib.Omega.{arith}
use Rattle.hp_algebra.specs.Ring.{IsRing, IsCommutative}
use Rattle.hp_mono.specs.declared.term.Term.{Term}
use Rattle.hp_mono.specs.TermOrders.{TermDivides}
use Rattle.hp_module.specs.Vectors.{Vector, IsGenerated, combination, zero_vector}
use Rattle.hp_module.specs.FreeModules.{FreeModule, IsFreeModule, HasDegree, terms}
use Rattle.hp_module.specs.Leads.{AreLed, IsGreatestTerm, WithLeads, lead_at}
use Rattle.hp_module.specs.InducedOrders.{induced}
use Rattle.hp_module.proofs.VectorCoefficients.{coefficient-ext, coefficient-zero, combination-vector, zero-vector}
use Rattle.hp_module.proofs.Symbols.{generated-vector, to_symbols}
use Rattle.hp_module.proofs.Criterion.{Found, Ranking, lead_of, pair_symbol}
use Rattle.hp_module.proofs.GroebnerLaw.{AreRelations, IsUpTo, PairsUpTo, combination-symbols, law_leads, zero_on}
use Rattle.hp_module.proofs.GroebnerBases.{homogeneous_combination, top_bound}
use Rattle.hp_module.proofs.InducedOrder.{law_schreyer}

module _ {F : Type 0} {M : FreeModule F} (L : IsFreeModule M) {s : WithLeads F} (led : AreLed M s) where
  open M use {ring, width, cmp}

  abbrev laws : IsRing ring
  laws = L.field.is_ring

  abbrev comm : IsCommutative ring
  comm = L.field.commutes

  -- what relations generate are relations
  pub only_relations : {rels : List (Vector F)} → AreRelations L led rels → (qs : Vector F)
      → IsGenerated ring (length s.members) rels qs → combination ring width qs s.members ≡ zero_vector ring width
  only_relations {rels} ar qs g =
      let f = generated-vector laws comm (length s.members) rels ar.vectors qs g in
      let p = to_symbols laws comm (length s.members) rels ar.vectors qs g in
      coefficient-ext laws comm width _ (zero_vector ring width) (combination-vector laws comm width qs s.members f.1 led.vectors)
      (zero-vector laws comm width) (λ b.
      combination-symbols L led qs f b ∙ zero_on L led ar b (terms qs) p ∙ sym (coefficient-zero laws comm width b))

  module _ {rels : List (Vector F)} (ar : AreRelations L led rels) (rk : Ranking (length s.members)) where
    -- The leads of the relations of the pairs divide the leads of all relations, in the induced order.
    pub next_leads : ((d : ℕ) → PairsUpTo L led rels rk.rank d) → (qs : Vector F)
        → IsGenerated ring (length s.members) rels qs → (t : Term) (x : F)
        → IsGreatestTerm (induced cmp s rk.rank) qs t x
        → Found (λ j. (rk.rank j < rk.rank t.comp) × ((lead_of L led j).comp ≡ (lead_of L led t.comp).comp)
        × TermDivides (pair_symbol L led t.comp j) t) (length s.members)
    next_leads pairs qs g t x gt =
        let f = generated-vector laws comm (length s.members) rels ar.vectors qs g in
        let b = top_bound L led (terms qs) in
        law_schreyer L led rk ar b.0 (pairs b.0) qs f b.1 (only_relations ar qs g) t x gt

    -- Pairs up to degree d give the leads of degree d.
    pub truncated : (d e : ℕ) → e ≤ d → PairsUpTo L led rels rk.rank d → (v : Vector F)
        → IsGenerated ring width s.members v → HasDegree M e v → (t : Term) (x : F) → IsGreatestTerm cmp v t x
        → (j : ℕ) × (j < length s.members) × TermDivides (lead_at s j) t
    truncated d e l pairs v g h t x gt =
        let q = homogeneous_combination L led e v g h in
        let low : IsUpTo L led d q.0 = (λ i y k. let z = q.3 i y k in omega (arith, z, l)) in
        let r = law_leads L led ar rk d pairs q.0 q.1 low t x (subst (λ w. IsGreatestTerm cmp w t x) q.2 gt) in
        (r.0 - 1, omega (arith, r.1, r.2), r.3)
