-- Leads of a set of vectors with a reduced basis are multiples of least leads; and when a list is a reduced basis.
use Rattle.std.specs.Prelude.{◌≡◌, ◌≢◌, ◌⊎◌, ℕ, zero, suc, ◌<◌, List, [], ◌∷◌, length, All}
use Rattle.std.specs.declared.cmp.Ordering.TheVariants.{Less}
use Rattle.std.specs.Ordering.{nat_cmp, ordering_then}
use Rattle.std.proofs.lemmas.List.{get_or_default}
use Rattle.std.proofs.lemmas.List.Elements.{All-nil, All-cons, All-head, All-tail, All-contains}
use Rattle.std.proofs.lemmas.Option.{slice_get_within, get_or_from_slice_get}
use mathlib.Core.Logic.{inl, inr}
use mathlib.Core.Path.{sym, ◌∙◌, subst}
use native.Mathlib.Omega.{arith}
use Rattle.hp_mono.specs.declared.term.Term.{Term}
use Rattle.hp_mono.specs.Monomials.{IsMonomial, degree}
use Rattle.hp_mono.specs.TermOrders.{IsTermWithin, TermDivides}
use Rattle.hp_mono.proofs.TermLaws.{term_divides-decided}
use Rattle.hp_module.specs.Vectors.{Vector}
use Rattle.hp_module.specs.FreeModules.{FreeModule, IsFreeModule, IsIn, terms}
use Rattle.hp_module.specs.Leads.{IsGreatestTerm, IsLead, IsLeastLead, IsReducedBasis, WithLeads, lead_at, member_at}
use Rattle.hp_module.proofs.DividingTerms.{divides-both, divides-chain, divides-degree, divides-itself, divides-same}
use Rattle.hp_module.proofs.GreatestTerms.{greatest-at, greatest-unique}

module _ {F : Type 0} {M : FreeModule F} (L : IsFreeModule M) {N : Vector F → Type 0}
    (vectors : (v : Vector F) → N v → IsIn M v) where
  open M use {ring, width, cmp}

  pub lead-within : (t : Term) → IsLead cmp N t → IsTermWithin width t
  lead-within t l = (greatest-at L l.0 t l.1 (vectors l.0 l.2) l.3).0

  -- ---- leads are multiples of least leads

  module _ {G : List (Vector F)} (basis : IsReducedBasis ring cmp N G) where
    abbrev Monic : Vector F → Type 0
    Monic g = (t : Term) × IsGreatestTerm cmp g t ring.one × IsLeastLead cmp N t

    abbrev Divided : Term → Type 0
    Divided t = (u : Term) × IsLeastLead cmp N u × TermDivides u t

    abbrev Free : Term → Vector F → Type 0
    Free t g = (u : Term) → IsGreatestTerm cmp g u ring.one → ¬ (TermDivides u t)

    search_divisor : (gs : List (Vector F)) (t : Term) → IsMonomial t.mono → All Monic gs → All N gs
        → Divided t ⊎ All (Free t) gs
    search_divisor [] t h m v = inr (All-nil (Free t))
    search_divisor (g ∷ gs) t h m v =
        let mg = All-head Monic g gs m in
        let vg = vectors g (All-head N g gs v) in
        let rest = search_divisor gs t h (All-tail Monic g gs m) (All-tail N g gs v) in
        elim (term_divides-decided mg.0 t (greatest-at L g mg.0 ring.one vg mg.1).0.0 h) [
          | inl d ↦ inl (mg.0, mg.2, d)
          | inr n ↦ elim rest [
            | inl r ↦ inl r
            | inr r ↦ inr (All-cons (Free t) g gs (λ u p d. n (subst (λ w. TermDivides w t) (greatest-unique L g u mg.0 ring.one ring.one vg p mg.1).0 d)) r)
          ]
        ]

    -- a least lead is the lead of a member of the list
    not_free : (t u : Term) → IsLeastLead cmp N u → TermDivides u t → All (Free t) G → ⊥
    not_free t u l d f =
        let a = basis.complete u l in
        All-contains (Free t) G a.1 f (a.0, a.2, a.3) u a.4 d

    divided : (n : ℕ) (t : Term) → degree t.mono < n → IsLead cmp N t → Divided t
    divided zero t b l = absurd (omega (arith, b))
    divided (suc n) t b l =
        let ht = lead-within t l in
        elim (search_divisor G t ht.0 basis.monic basis.members) [
          | inl r ↦ r
          | inr f ↦
              let least : (s : Term) → IsLead cmp N s → TermDivides s t → s ≡ t =
              λ s ls d. least_of n t b f s ls d (divided n s) in
              absurd (not_free t t (record { lead = l; least = least }) (divides-itself t ht.0) f)
        ]
      where
        least_of : (n : ℕ) (t : Term) → degree t.mono < suc n → All (Free t) G → (s : Term) → IsLead cmp N s
            → TermDivides s t
            → (degree s.mono < n → IsLead cmp N s → Divided s) → s ≡ t
        least_of n t b f s ls d rec =
            let hs = lead-within s ls in
            let e = divides-degree s t hs.0 d in
            elim (Rattle.std.proofs.lemmas.Bool.cases_lt (degree s.mono) (degree t.mono)) [
              | inl low ↦ let r = rec (omega (arith, low, b)) ls in absurd (not_free t r.0 r.1 (divides-chain r.0 s t r.2 d) f)
              | inr high ↦ divides-same s t hs.0 d high
            ]

    -- Every lead is a multiple of a least lead, which is the lead of a member of the reduced basis.
    pub lead_divided : (t : Term) → IsLead cmp N t → (u : Term) × IsLeastLead cmp N u × TermDivides u t
    lead_divided t l = let b : degree t.mono < suc (degree t.mono) = omega arith in divided (suc (degree t.mono)) t b l

  -- ---- a list that is a reduced basis

  -- What a program knows of its list: monic members whose leads do not divide each other and divide all leads.
  pub record IsMade (s : WithLeads F) : Type 0 where
    pub member : (k : ℕ) → k < length s.members → N (member_at s k)
    pub monic : (k : ℕ) → k < length s.members → IsGreatestTerm cmp (member_at s k) (lead_at s k) ring.one
    pub apart : (k l : ℕ) → k < length s.members → l < length s.members → TermDivides (lead_at s k) (lead_at s l)
        → k ≡ l
    pub divided : (t : Term) → IsLead cmp N t → (k : ℕ) × (k < length s.members) × TermDivides (lead_at s k) t
    pub tails : (k l : ℕ) → k < length s.members → l < length s.members
        → All (λ a. a.0 ≢ lead_at s k → ¬ (TermDivides (lead_at s l) a.0)) (terms (member_at s k))
    pub in_order : (k l : ℕ) → k < l → l < length s.members
        → ordering_then (nat_cmp (degree (lead_at s k).mono) (degree (lead_at s l).mono))
        (cmp (lead_at s l) (lead_at s k)) ≡ Less

  module _ {s : WithLeads F} (made : IsMade s) where
    abbrev G : List (Vector F)
    G = s.members

    own_lead : (k : ℕ) → k < length s.members → IsLead cmp N (lead_at s k)
    own_lead k l = (member_at s k, ring.one, made.member k l, made.monic k l)

    pub made-least : (k : ℕ) → k < length s.members → IsLeastLead cmp N (lead_at s k)
    made-least k l = record {
      lead = own_lead k l;
      least = λ u lu d.
          let e = made.divided u lu in
          let same = made.apart e.0 k e.1 l (divides-chain (lead_at s e.0) u (lead_at s k) e.2 d) in
          divides-both u (lead_at s k) (lead-within u lu).0 (lead-within (lead_at s k) (own_lead k l)).0 d (subst (λ i. TermDivides (lead_at s i) u) same e.2);
    }

    -- the lead of the member at a place
    unique : (k : ℕ) (g : Vector F) (t : Term) (c : F) → k < length s.members → member_at s k ≡ g
        → IsGreatestTerm cmp g t c → t ≡ lead_at s k
    unique k g t c l e gt =
        (greatest-unique L g t (lead_at s k) c ring.one (vectors g (subst N e (made.member k l))) gt (subst (λ v. IsGreatestTerm cmp v (lead_at s k) ring.one) e (made.monic k l))).0

    -- The list is the reduced basis.
    pub is_reduced : IsReducedBasis ring cmp N s.members
    is_reduced = record {
      members = λ k d l. subst N (get_or_default G k [] d l) (made.member k l);
      monic = λ k d l. (lead_at s k, subst (λ v. IsGreatestTerm cmp v (lead_at s k) ring.one) (get_or_default G k [] d l) (made.monic k l), made-least k l);
      complete = λ t ll.
          let e = made.divided t ll.lead in
          let same : lead_at s e.0 ≡ t = ll.least (lead_at s e.0) (own_lead e.0 e.1) e.2 in
          (e.0, member_at s e.0, e.1, get_or_default G e.0 (member_at s e.0) [] e.1, subst (λ u. IsGreatestTerm cmp (member_at s e.0) u ring.one) same (made.monic e.0 e.1));
      only_one = λ i j g h t c d p q gg gh.
          let li = slice_get_within G i g p in
          let lj = slice_get_within G j h q in
          let ti = unique i g t c li (get_or_from_slice_get G i g [] p) gg in
          let tj = unique j h t d lj (get_or_from_slice_get G j h [] q) gh in
          made.apart i j li lj (subst (λ u. TermDivides u (lead_at s j)) (sym tj ∙ ti) (divides-itself (lead_at s j) (lead-within (lead_at s j) (own_lead j lj)).0));
      tails = λ g t u c d at gt os n w lw du.
          let e = made.divided w lw in
          let eg : member_at s at.0 ≡ g = get_or_default G at.0 [] g at.1 ∙ at.2 in
          let tk : t ≡ lead_at s at.0 = unique at.0 g t c at.1 eg gt in
          let P : Term × F → Type 0 = λ y. y.0 ≢ lead_at s at.0 → ¬ (TermDivides (lead_at s e.0) y.0) in
          All-contains P (terms g) (u, d) (subst (λ v. All P (terms v)) eg (made.tails at.0 e.0 at.1 e.1)) os (λ r. n (r ∙ sym tk))
          (divides-chain (lead_at s e.0) w u e.2 du);
      in_order = λ i j g h t u c d p q gg gh l.
          let li = slice_get_within G i g p in
          let lj = slice_get_within G j h q in
          let ti = unique i g t c li (get_or_from_slice_get G i g [] p) gg in
          let tj = unique j h u d lj (get_or_from_slice_get G j h [] q) gh in
          (λ k. ordering_then (nat_cmp (degree (ti k).mono) (degree (tj k).mono)) (cmp (tj k) (ti k))) ∙ made.in_order i j l lj;
    }
