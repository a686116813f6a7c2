-- A Gröbner basis up to a degree: its leads are the least leads of the submodule up to that degree.
use Rattle.std.specs.Prelude.{◌≡◌, ℕ, zero, suc, ◌-◌, ◌<◌, ◌≤◌, List, [], length, All, Contains, replicate, slice_index_or}
use Rattle.std.proofs.lemmas.List.{get_or_default}
use Rattle.std.proofs.lemmas.List.Elements.{Contains-get_or}
use Rattle.std.proofs.lemmas.Option.{slice_get_within, get_or_from_slice_get}
use mathlib.Core.Path.{refl, sym, ◌∙◌, subst}
use native.Mathlib.Omega.{arith}
use Rattle.hp_algebra.specs.Ring.{IsRing, IsCommutative}
use Rattle.hp_mono.specs.declared.term.Term.{Term}
use Rattle.hp_mono.specs.Monomials.{IsMonomial, degree}
use Rattle.hp_mono.specs.TermOrders.{TermDivides}
use Rattle.hp_module.specs.Vectors.{Vector, IsVector, IsGenerated}
use Rattle.hp_module.specs.FreeModules.{FreeModule, IsFreeModule, HasDegree, degree_of, term_degree, terms}
use Rattle.hp_module.specs.Leads.{AreLeastLeadsUpTo, AreLed, IsLead, IsLeastLead, WithLeads, lead_at, member_at, no_term}
use Rattle.hp_module.proofs.VectorCoefficients.{within}
use Rattle.hp_module.proofs.DividingTerms.{divides-both, divides-chain, divides-degree, divides-itself}
use Rattle.hp_module.proofs.GreatestTerms.{greatest-at}
use Rattle.hp_module.proofs.Symbols.{generated-through, generated-vector}
use Rattle.hp_module.proofs.Criterion.{Ranking}
use Rattle.hp_module.proofs.HomogeneousParts.{part-greatest, part_generated, part_of}
use Rattle.hp_module.proofs.ResolvedPairs.{AreSettled, leads_up_to}

abbrev shift_at : List ℕ → ℕ → ℕ
shift_at xs i = slice_index_or xs i 0

no_shift : (n i : ℕ) → shift_at (replicate n 0) i ≡ 0
no_shift zero i = refl
no_shift (suc n) zero = refl
no_shift (suc n) (suc i) = no_shift n i

-- without shifts the degree of a term is that of its monomial
pub unshifted : (width : ℕ) (t : Term) → term_degree (replicate width 0) t ≡ degree t.mono
unshifted width t = let z = no_shift width (t.comp - 1) in omega (arith, z)

module _ {F : Type 0} {M : FreeModule F} (L : IsFreeModule M) (gens : List (Vector F))
    (vectors : All (IsVector M.ring M.width) gens) (D : ℕ → ℕ)
    (homogeneous : (i : ℕ) → i < length gens → HasDegree M (D i) (slice_index_or gens i []))
    {s : WithLeads F} (led : AreLed M s) (rk : Ranking (length s.members)) where
  open M use {ring, width, cmp}

  abbrev laws : IsRing ring
  laws = L.field.is_ring

  abbrev comm : IsCommutative ring
  comm = L.field.commutes

  -- the submodule
  abbrev N : Vector F → Type 0
  N v = IsGenerated ring width gens v

  -- What is known of a list once all generators and pairs up to degree d are done.
  pub record IsBasisUpTo (d : ℕ) : Type 0 where
    pub members : (i : ℕ) → i < length s.members → IsGenerated ring width gens (member_at s i)
    pub low : (i : ℕ) → i < length s.members → degree_of M (lead_at s i) ≤ d
    pub generators : (i : ℕ) → i < length gens → D i ≤ d → IsGenerated ring width s.members (slice_index_or gens i [])
    pub pairs : AreSettled L led rk.rank d
    pub apart : (i j : ℕ) → i < length s.members → j < length s.members → TermDivides (lead_at s i) (lead_at s j)
        → i ≡ j

  module _ {d : ℕ} (known : IsBasisUpTo d) where
    -- each lead of degree at most d is a multiple of a lead of the list
    pub lead_up_to : (t : Term) → IsLead cmp (IsGenerated ring width gens) t → degree_of M t ≤ d
        → (j : ℕ) × (j < length s.members) × TermDivides (lead_at s j) t
    lead_up_to t l low =
        let v = l.0 in
        let c = l.1 in
        let g = l.2 in
        let hv = generated-vector laws comm width gens vectors v g in
        let p = part_of L (degree_of M t) v hv in
        let w = p.0 in
        let q = part_generated L gens vectors D homogeneous (degree_of M t) v w g p.1 in
        let inside = within laws comm (length gens) q.0 q.1 in
        let each : All (λ x. IsGenerated ring width s.members (slice_index_or gens (x.0.comp - 1) [])) (terms q.0) =
        (λ i y k.
        let h = inside i y k in
        let e = q.3 i y k in
        known.generators ((slice_index_or (terms q.0) i y).0.comp - 1) (omega (arith, h.1, h.2)) (omega (arith, e, low))) in
        let gw = generated-through laws comm width s.members gens led.vectors vectors w q.0 q.1 q.2 each in
        leads_up_to L led rk d (degree_of M t) low known.pairs w gw p.1.of_degree t c (part-greatest L v w t c hv l.3 p.1)

    own_lead : (i : ℕ) → i < length s.members → IsLead cmp N (lead_at s i)
    own_lead i l = let g = led.led i l in (member_at s i, g.0, known.members i l, g.1)

    lead_monomial : (t : Term) → IsLead cmp N t → IsMonomial t.mono
    lead_monomial t l = (greatest-at L l.0 t l.1 (generated-vector laws comm width gens vectors l.0 l.2) l.3).0.0

    module _ (plain : (t : Term) → degree_of M t ≡ degree t.mono) where
      least : (i : ℕ) → i < length s.members → IsLeastLead cmp N (lead_at s i)
      least i l = record {
        lead = own_lead i l;
        least = λ u lu q.
            let hu = lead_monomial u lu in
            let hi = lead_monomial (lead_at s i) (own_lead i l) in
            let e = divides-degree u (lead_at s i) hu q in
            let k = known.low i l in
            let pu = plain u in
            let pi = plain (lead_at s i) in
            let r = lead_up_to u lu (omega (arith, e, k, pu, pi)) in
            let same = known.apart r.0 i r.1 l (divides-chain (lead_at s r.0) u (lead_at s i) r.2 q) in
            divides-both u (lead_at s i) hu hi q (subst (λ j. TermDivides (lead_at s j) u) same r.2);
      }

      -- The leads of the list are the least leads of the submodule up to degree d.
      pub least_leads_up_to : AreLeastLeadsUpTo cmp (IsGenerated ring width gens) d s.leads
      least_leads_up_to = record {
        each = λ t. (
          λ c.
              let l : c.0 < length s.members = omega (arith, c.1, led.same_length) in
              let e : lead_at s c.0 ≡ t = get_or_default s.leads c.0 no_term t c.1 ∙ c.2 in
              let k = known.low c.0 l in
              let p = plain (lead_at s c.0) in
              let z : degree (lead_at s c.0).mono ≤ d = omega (arith, k, p) in
              (subst (IsLeastLead cmp N) e (least c.0 l), subst (λ u. degree u.mono ≤ d) e z),
          λ h.
              let p = plain t in
              let z = h.1 in
              let r = lead_up_to t h.0.lead (omega (arith, z, p)) in
              let e = h.0.least (lead_at s r.0) (own_lead r.0 r.1) r.2 in
              subst (Contains s.leads) e (Contains-get_or s.leads r.0 no_term (omega (arith, r.1, led.same_length))),
        );
        once = λ i j t p q.
            let li = slice_get_within s.leads i t p in
            let lj = slice_get_within s.leads j t q in
            let ei = get_or_from_slice_get s.leads i t no_term p in
            let ej = get_or_from_slice_get s.leads j t no_term q in
            let bi : i < length s.members = omega (arith, li, led.same_length) in
            let bj : j < length s.members = omega (arith, lj, led.same_length) in
            known.apart i j bi bj (subst (λ u. TermDivides u (lead_at s j)) (ej ∙ sym ei) (divides-itself (lead_at s j) (lead_monomial (lead_at s j) (own_lead j bj))));
      }
