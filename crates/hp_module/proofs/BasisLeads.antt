-- The leads of a reduced basis: with them its members are a Gröbner basis.
use Rattle.std.specs.Prelude.{◌≡◌, ℕ, zero, suc, ◌<◌, List, [], ◌∷◌, length, All, slice_index_or}
use Rattle.std.proofs.lemmas.List.{get_or_default}
use Rattle.std.proofs.lemmas.List.Elements.{All-head, All-tail}
use mathlib.Core.Path.{refl, sym, ap, ◌∙◌, subst}
use native.Mathlib.Omega.{arith}
use Rattle.hp_mono.specs.declared.term.Term.{Term}
use Rattle.hp_mono.specs.TermOrders.{TermDivides}
use Rattle.hp_module.specs.Vectors.{Vector, IsGenerated}
use Rattle.hp_module.specs.FreeModules.{FreeModule, IsFreeModule, IsIn, HasDegree}
use Rattle.hp_module.specs.Leads.{AreLed, IsGreatestTerm, IsGroebner, IsLead, IsLeastLead, IsReducedBasis, WithLeads, lead_at, member_at, no_term}
use Rattle.hp_module.proofs.GreatestTerms.{greatest-degree, greatest-unique}
use Rattle.hp_module.proofs.LeastLeads.{lead_divided}

module _ {F : Type 0} {M : FreeModule F} (L : IsFreeModule M) {N : Vector F → Type 0}
    (vectors : (v : Vector F) → N v → IsIn M v) {G : List (Vector F)} (basis : IsReducedBasis M.ring M.cmp N G) where
  open M use {ring, width, cmp}

  abbrev Monic : Vector F → Type 0
  Monic g = (t : Term) × IsGreatestTerm cmp g t ring.one × IsLeastLead cmp N t

  leads_of : (gs : List (Vector F)) → All Monic gs → List Term
  leads_of [] m = []
  leads_of (g ∷ gs) m = (All-head Monic g gs m).0 ∷ leads_of gs (All-tail Monic g gs m)

  leads_of-length : (gs : List (Vector F)) (m : All Monic gs) → length (leads_of gs m) ≡ length gs
  unfolding leads_of
  leads_of-length [] m = refl
  leads_of-length (g ∷ gs) m = ap suc (leads_of-length gs (All-tail Monic g gs m))

  leads_of-at : (gs : List (Vector F)) (m : All Monic gs) (i : ℕ) → i < length gs
      → IsGreatestTerm cmp (slice_index_or gs i []) (slice_index_or (leads_of gs m) i no_term) ring.one
  unfolding leads_of
  leads_of-at [] m i l = absurd (omega (arith, l))
  leads_of-at (g ∷ gs) m zero l = (All-head Monic g gs m).1
  leads_of-at (g ∷ gs) m (suc i) l = leads_of-at gs (All-tail Monic g gs m) i (omega (arith, l))

  -- the members with their leads
  pub basis_leads : WithLeads F
  basis_leads = record { members = G; leads = leads_of G basis.monic }

  pub basis-members : basis_leads.members ≡ G
  unfolding basis_leads
  basis-members = refl

  pub basis-length : length basis_leads.leads ≡ length basis_leads.members
  unfolding basis_leads
  basis-length = leads_of-length G basis.monic

  -- each member is monic at its lead
  pub basis-monic : (i : ℕ) → i < length basis_leads.members
      → IsGreatestTerm cmp (member_at basis_leads i) (lead_at basis_leads i) ring.one
  unfolding basis_leads
  basis-monic i l = leads_of-at G basis.monic i l

  pub basis-led : ((i : ℕ) → i < length G → (d : ℕ) × HasDegree M d (slice_index_or G i [])) → AreLed M basis_leads
  unfolding basis_leads
  basis-led homogeneous = record {
    vectors = λ i d l. vectors _ (basis.members i d l);
    same_length = basis-length;
    led = λ i l. (ring.one, basis-monic i l);
    homogeneous = λ i l.
        let h = homogeneous i l in
        let e = greatest-degree L _ _ ring.one h.0 (basis-monic i l) h.1 in
        subst (λ k. HasDegree M k (slice_index_or G i [])) (sym e) h.1;
  }

  -- each lead of the set is a multiple of the lead of a member
  pub basis-divided : (t : Term) → IsLead cmp N t
      → (j : ℕ) × (j < length basis_leads.members) × TermDivides (lead_at basis_leads j) t
  unfolding basis_leads
  basis-divided t l =
      let u = lead_divided L vectors basis t l in
      let a = basis.complete u.0 u.1 in
      let g = a.1 in
      let same : slice_index_or G a.0 [] ≡ g = get_or_default G a.0 [] g a.2 ∙ a.3 in
      let m = subst (λ v. IsGreatestTerm cmp v (lead_at basis_leads a.0) ring.one) same (basis-monic a.0 a.2) in
      let hv = vectors g (subst N a.3 (basis.members a.0 g a.2)) in
      let e = (greatest-unique L g u.0 (lead_at basis_leads a.0) ring.one ring.one hv a.4 m).0 in
      (a.0, a.2, subst (λ w. TermDivides w t) e u.2)

  -- The members of a reduced basis are a Gröbner basis.
  pub basis-groebner : ((v : Vector F) → IsGenerated ring width G v → N v) → IsGroebner M basis_leads
  unfolding basis_leads
  basis-groebner inside v t c g gt = basis-divided t (v, c, inside v g, gt)
