-- What holds of the members in a run: the leads up to a degree, and one member more.
use Rattle.std.specs.Prelude.{◌≡◌, ℕ, ◌+◌, ◌-◌, ◌<◌, ◌≤◌, [], ◌∷◌, ◌++◌, length, All, slice_index_or}
use Rattle.std.proofs.lemmas.Bool.{cases_lt}
use mathlib.Core.Logic.{inl, inr}
use mathlib.Core.Path.{sym, ap, ◌∙◌, subst}
use native.Mathlib.Omega.{arith}
use Rattle.hp_algebra.specs.Ring.{IsRing, IsCommutative}
use Rattle.hp_mono.specs.declared.term.Term.{Term}
use Rattle.hp_mono.specs.Monomials.{IsMonomial, degree}
use Rattle.hp_mono.specs.TermOrders.{TermDivides, IsTermWithin}
use Rattle.hp_module.specs.Vectors.{Vector, IsVector, IsGenerated}
use Rattle.hp_module.specs.FreeModules.{FreeModule, IsFreeModule, HasDegree, degree_of, term_degree, terms}
use Rattle.hp_module.specs.Leads.{IsGreatestTerm, IsLead, IsLeastLead, WithLeads, lead_at, member_at}
use Rattle.hp_module.specs.ElimOrders.{elimination_order}
use Rattle.hp_module.proofs.DividingTerms.{divides-both, divides-chain, divides-degree, divides-itself, divides-same}
use Rattle.hp_module.proofs.GreatestTerms.{greatest-at, greatest-degree}
use Rattle.hp_module.proofs.VectorCoefficients.{within}
use Rattle.hp_module.proofs.Symbols.{generated-through, generated-vector}
use Rattle.hp_module.proofs.HomogeneousParts.{part-greatest, part_generated, part_of}
use Rattle.hp_module.proofs.Criterion.{Ranking}
use Rattle.hp_module.proofs.ResolvedPairs.{AreSettled, IsResolved, leads_up_to}
use Rattle.hp_module.proofs.TruncatedBases.{unshifted}
use Rattle.hp_module.proofs.LongerBases.{longer, longer-length, longer-led, earlier-generated, earlier-lead, earlier-member, earlier-resolved, last-lead, last-member}
use Rattle.hp_groebner.specs.Runs.{HaveDone, IsJob, Job, generator, generator_degree, module_of, submodule}

-- the places in their order
abbrev pub by_place : (n : ℕ) → Ranking n
by_place n = record {
  rank = λ i. i;
  most = n;
  rank_most = λ i a b. b;
  apart = λ i j a b c e p. p;
}

module _ {F : Type 0} {J : Job F} (of : IsJob J) where
  abbrev pub laws : IsRing J.ring
  laws = of.lawful.field.is_ring

  abbrev pub comm : IsCommutative J.ring
  comm = of.lawful.field.commutes

  -- the degree of a term is that of its monomial
  pub plain : (t : Term) → degree_of (module_of J) t ≡ degree t.mono
  plain t = ap (λ xs. term_degree xs t) of.plain ∙ unshifted J.width t

  pub submodule-vector : (v : Vector F) → submodule J v → IsVector J.ring J.width v
  submodule-vector v g = generated-vector laws comm J.width J.gens of.vectors v g

  pub lead-within : (t : Term) → IsLead (elimination_order J.split) (submodule J) t → IsTermWithin J.width t
  lead-within t l = (greatest-at of.lawful l.0 t l.1 (submodule-vector l.0 l.2) l.3).0

module _ {F : Type 0} {J : Job F} {w : WithLeads F} {top : ℕ} {P : ℕ → Type 0} {R : ℕ → ℕ → Type 0}
    (h : HaveDone J w top P R) where
  abbrev M : FreeModule F
  M = module_of J

  abbrev L : IsFreeModule (module_of J)
  L = h.of.lawful

  -- other generators and pairs that are done
  pub redone : {P' : ℕ → Type 0} {R' : ℕ → ℕ → Type 0}
      → ((i : ℕ) → i < length J.gens → P' i → IsGenerated J.ring J.width w.members (generator J i))
      → ((j i : ℕ) → j < length w.members → i < length w.members → R' j i → IsResolved h.of.lawful h.led (j + 1) (i + 1))
      → HaveDone J w top P' R'
  redone f g = record {
    of = h.of;
    led = h.led;
    monic = h.monic;
    members = h.members;
    low = h.low;
    apart = h.apart;
    generators = f;
    resolved = g;
  }

  pub higher : {top' : ℕ} → top ≤ top' → HaveDone J w top' P R
  higher l = record {
    of = h.of;
    led = h.led;
    monic = h.monic;
    members = h.members;
    low = λ i b. let k = h.low i b in omega (arith, k, l);
    apart = h.apart;
    generators = h.generators;
    resolved = h.resolved;
  }

  pub member-lead : (i : ℕ) → i < length w.members → IsLead (elimination_order J.split) (submodule J) (lead_at w i)
  member-lead i l = (member_at w i, J.ring.one, h.members i l, h.monic i l)

  pub lead-monomial : (i : ℕ) → i < length w.members → IsMonomial (lead_at w i).mono
  lead-monomial i l = (lead-within h.of (lead_at w i) (member-lead i l)).0

  -- Where the generators up to a degree are generated and the pairs up to it settled, each lead up to it is a multiple of
  -- a lead of the list.
  pub record AreKnown (e : ℕ) : Type 0 where
    pub generated : (i : ℕ) → i < length J.gens → generator_degree J i ≤ e → IsGenerated J.ring J.width w.members (generator J i)
    pub settled : AreSettled h.of.lawful h.led (λ i. i) e

  pub lead-up_to : (e : ℕ) → AreKnown e → (t : Term) → IsLead (elimination_order J.split) (submodule J) t → degree t.mono ≤ e
      → (j : ℕ) × (j < length w.members) × TermDivides (lead_at w j) t
  lead-up_to e known t l low =
      let v = l.0 in
      let c = l.1 in
      let g = l.2 in
      let hv = submodule-vector h.of v g in
      let pt = plain h.of t in
      let p = part_of L (degree_of M t) v hv in
      let u = p.0 in
      let q = part_generated L J.gens h.of.vectors (generator_degree J) h.of.homogeneous (degree_of M t) v u g p.1 in
      let inside = within (laws h.of) (comm h.of) (length J.gens) q.0 q.1 in
      let each : All (λ (x : Term × F). IsGenerated J.ring J.width w.members (generator J (x.0.comp - 1))) (terms q.0) =
      (λ i y k.
      let b = inside i y k in
      let z = q.3 i y k in
      known.generated ((slice_index_or (terms q.0) i y).0.comp - 1) (omega (arith, b.1, b.2)) (omega (arith, z, low, pt))) in
      let gu = generated-through (laws h.of) (comm h.of) J.width w.members J.gens h.led.vectors h.of.vectors u q.0 q.1 q.2 each in
      leads_up_to L h.led (by_place (length w.members)) e (degree_of M t) (omega (arith, low, pt)) known.settled u gu p.1.of_degree t c
      (part-greatest L v u t c hv l.3 p.1)

  -- The leads of the list are least leads, where those below a degree are known.
  pub least-below : (d : ℕ) → top ≤ d + 1 → ((e : ℕ) → e < d → AreKnown e) → (i : ℕ) → i < length w.members
      → IsLeastLead (elimination_order J.split) (submodule J) (lead_at w i)
  least-below d le known i l = record {
    lead = member-lead i l;
    least = λ u lu q.
        let hu = (lead-within h.of u lu).0 in
        let hi = lead-monomial i l in
        let e = divides-degree u (lead_at w i) hu q in
        let k = h.low i l in
        elim (cases_lt (degree u.mono) (degree (lead_at w i).mono)) [
          | inl low ↦
              let r = lead-up_to (degree u.mono) (known (degree u.mono) (omega (arith, low, k, le))) u lu (omega arith) in
              let same = h.apart r.0 i r.1 l (divides-chain (lead_at w r.0) u (lead_at w i) r.2 q) in
              divides-both u (lead_at w i) hu hi q (subst (λ j. TermDivides (lead_at w j) u) same r.2)
          | inr high ↦ divides-same u (lead_at w i) hu q high
        ];
  }

  -- ---- one member more

  module _ {v : Vector F} {t : Term} (d : ℕ) (le : d < top) (gv : submodule J v)
      (gt : IsGreatestTerm (elimination_order J.split) v t J.ring.one) (hd : HasDegree (module_of J) d v)
      (free : (i : ℕ) → i < length w.members → ¬ (TermDivides (lead_at w i) t))
      (all_low : (i : ℕ) → i < length w.members → degree (lead_at w i).mono ≤ d) where
    pub lead-degree : degree t.mono ≡ d
    lead-degree = sym (plain h.of t) ∙ greatest-degree L v t J.ring.one d gt hd

    pub own-degree : HasDegree (module_of J) (degree_of (module_of J) t) v
    own-degree = subst (λ n. HasDegree M n v) (sym (greatest-degree L v t J.ring.one d gt hd)) hd

    abbrev hv : IsVector J.ring J.width v
    hv = submodule-vector h.of v gv

    t-within : IsTermWithin J.width t
    t-within = lead-within h.of t (v, J.ring.one, gv, gt)

    abbrev n : ℕ
    n = length w.members

    abbrev w' : WithLeads F
    w' = longer w v t

    pub longer-many : length (w.members ++ v ∷ []) ≡ length w.members + 1
    longer-many = longer-length L h.led hv gt own-degree

    pub each-place : (Q : Vector F → Term → Type 0) → ((i : ℕ) → i < length w.members → Q (member_at w i) (lead_at w i)) → Q v t
        → (i : ℕ) → i < length (w.members ++ v ∷ []) → Q (member_at (longer w v t) i) (lead_at (longer w v t) i)
    each-place Q f q i l =
        elim (cases_lt i n) [
          | inl low ↦
              let a = sym (earlier-member L h.led hv gt own-degree i low) in
              let b = sym (earlier-lead L h.led hv gt own-degree i low) in
              subst (λ x. Q x (lead_at w' i)) a (subst (Q (member_at w i)) b (f i low))
          | inr high ↦
              let e : n ≡ i = omega (arith, l, high, longer-many) in
              subst (λ k. Q (member_at w' k) (lead_at w' k)) e
              (subst (λ x. Q x (lead_at w' n)) (sym (last-member L h.led hv gt own-degree))
              (subst (Q v) (sym (last-lead L h.led hv gt own-degree)) q))
        ]

    pub longer-apart : (i j : ℕ) → i < length (w.members ++ v ∷ []) → j < length (w.members ++ v ∷ [])
        → TermDivides (lead_at (longer w v t) i) (lead_at (longer w v t) j) → i ≡ j
    longer-apart i j a b q =
        elim (cases_lt i n) [
          | inl i_low ↦
              let ei = earlier-lead L h.led hv gt own-degree i i_low in
              elim (cases_lt j n) [
                | inl j_low ↦
                    let ej = earlier-lead L h.led hv gt own-degree j j_low in
                    h.apart i j i_low j_low (subst (TermDivides (lead_at w i)) ej (subst (λ u. TermDivides u (lead_at w' j)) ei q))
                | inr j_high ↦
                    let e : j ≡ n = omega (arith, b, j_high, longer-many) in
                    let ej = ap (lead_at w') e ∙ last-lead L h.led hv gt own-degree in
                    absurd (free i i_low (subst (TermDivides (lead_at w i)) ej (subst (λ u. TermDivides u (lead_at w' j)) ei q)))
              ]
          | inr i_high ↦
              let e : i ≡ n = omega (arith, a, i_high, longer-many) in
              let ei = ap (lead_at w') e ∙ last-lead L h.led hv gt own-degree in
              elim (cases_lt j n) [
                | inl j_low ↦
                    let ej = earlier-lead L h.led hv gt own-degree j j_low in
                    let p = subst (TermDivides t) ej (subst (λ u. TermDivides u (lead_at w' j)) ei q) in
                    let k = all_low j j_low in
                    let same = divides-same t (lead_at w j) t-within.0 p (omega (arith, k, lead-degree)) in
                    absurd (free j j_low (subst (TermDivides (lead_at w j)) (sym same) (divides-itself (lead_at w j) (lead-monomial j j_low))))
                | inr j_high ↦ omega (arith, a, b, i_high, j_high, longer-many)
              ]
        ]

    -- The longer list is one of the run. The pairs of the earlier members keep their relations.
    unfoldable pub longer-done : {P' : ℕ → Type 0} {R' : ℕ → ℕ → Type 0} → ((i : ℕ) → P' i → P i)
        → ((j i : ℕ) → j < length w.members + 1 → i < length w.members + 1 → R' j i
        → (j < length w.members) × (i < length w.members) × R j i)
        → HaveDone J (longer w v t) top P' R'
    longer-done f g = record {
      of = h.of;
      led = longer-led L h.led hv gt own-degree;
      monic = each-place (λ x u. IsGreatestTerm (elimination_order J.split) x u J.ring.one) h.monic gt;
      members = each-place (λ x u. submodule J x) h.members gv;
      low = each-place (λ x u. degree u.mono < top) h.low (omega (arith, lead-degree, le));
      apart = longer-apart;
      generators = λ i l p. earlier-generated L h.led hv gt own-degree (generator J i) (h.generators i l (f i p));
      resolved = λ j i a b r.
          let q = g j i (omega (arith, a, longer-many)) (omega (arith, b, longer-many)) r in
          let la = q.0 in
          let lb = q.1 in
          earlier-resolved L h.led hv gt own-degree (j + 1) (i + 1) (omega arith) (omega (arith, la)) (omega arith) (omega (arith, lb))
          (h.resolved j i la lb q.2);
    }
