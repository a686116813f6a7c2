-- The end of a run: the members with reduced tails, listed in order, are the reduced basis.
use Rattle.std.specs.Prelude.{◌≡◌, ◌≢◌, ℕ, ◌+◌, ◌<◌, ◌≤◌, List, [], map, length, All, slice_index_or}
use Rattle.std.proofs.lemmas.List.{get_or-map, get_or_default, length-map}
use Rattle.std.proofs.lemmas.List.Elements.{All-weaker}
use mathlib.Core.Path.{refl, sym, ap, ◌∙◌, subst}
use native.Mathlib.Omega.{arith}
use Rattle.hp_algebra.specs.Ring.{IsRing, IsCommutative}
use Rattle.hp_mono.specs.declared.term.Term.{Term}
use Rattle.hp_mono.specs.Monomials.{degree}
use Rattle.hp_mono.specs.TermOrders.{TermDivides}
use Rattle.hp_poly.specs.Polynomials.{IsHomogeneous}
use Rattle.hp_module.specs.Vectors.{IsGenerated, IsHomogeneousVector, IsVector, Vector}
use Rattle.hp_module.specs.FreeModules.{HasDegree, IsFreeModule, IsIn, degree_of, terms}
use Rattle.hp_module.specs.Leads.{AreLed, IsGreatestTerm, IsLead, WithLeads, lead_at, member_at, no_term}
use Rattle.hp_module.specs.ElimOrders.{elimination_order}
use Rattle.hp_module.specs.ReducedBases.{IsBasis}
use Rattle.hp_module.proofs.EntryTerms.{terms_each}
use Rattle.hp_module.proofs.LeadsGenerate.{IsDividedBy, leads_generate}
use Rattle.hp_module.proofs.LeastLeads.{IsMade, is_reduced}
use Rattle.hp_module.proofs.Symbols.{generated-chain, generated-member, generated-multiple, generated-plus, generated-vector}
use Rattle.hp_groebner.specs.BasisEnds.{AreListed, AreMembersAt, listed_order, place}
use Rattle.hp_groebner.specs.LimitRules.{most_degree}
use Rattle.hp_groebner.specs.PairQueues.{nth}
use Rattle.hp_groebner.specs.Runs.{IsAnswer, IsJob, IsRun, Job, State, generator_degree, held, module_of, submodule}
use Rattle.hp_groebner.proofs.ReducedTails.{IsNewMember}
use Rattle.hp_groebner.proofs.RunMembers.{plain, submodule-vector}
use Rattle.hp_groebner.proofs.RunStops.{all-divided, never-stops}

-- homogeneous by shifts that are all 0
pub homogeneous-vector : {F : Type 0} {J : Job F} → IsJob J → (v : Vector F) (d : ℕ) → HasDegree (module_of J) d v
    → IsHomogeneousVector J.ring d v
homogeneous-vector {F} {J} of v d h =
    let P : Term × F → Type 0 = λ a. degree a.0.mono ≡ d in
    let each = All-weaker (λ (a : Term × F). degree_of (module_of J) a.0 ≡ d) P (λ a e. sym (plain of a.0) ∙ e)
    (terms v) h in
    λ j x l. subst (IsHomogeneous J.ring d) (get_or_default v j [] x l) (terms_each P 1 v each j l)

module _ {F : Type 0} {J : Job F} {s : State F} (r : IsRun J s (most_degree + 1) 0 0 (most_degree + 1))
    {ps : List ℕ} (o : AreListed J.split s.queue.leads ps) {ws : List (Vector F)}
    (kept : AreMembersAt s ps (length ps) ws) where
  abbrev of : IsJob J
  of = r.0.done.of

  abbrev L : IsFreeModule (module_of J)
  L = r.0.done.of.lawful

  abbrev laws : IsRing J.ring
  laws = r.0.done.of.lawful.field.is_ring

  abbrev comm : IsCommutative J.ring
  comm = r.0.done.of.lawful.field.commutes

  -- the members in order, with their leads
  abbrev pub listed : WithLeads F
  listed = record { members = ws; leads = map (nth s.queue.leads) ps }

  at : (i : ℕ) → i < length ws → place ps i < length s.members
  at i l = let a = o.inside i 0 (omega (arith, l, kept.many)) in omega (arith, a, r.0.done.led.same_length)

  lead-is : (i : ℕ) → i < length ws → lead_at listed i ≡ lead_at (held s) (place ps i)
  lead-is i l = get_or-map (nth s.queue.leads) ps i 0 no_term (omega (arith, l, kept.many))

  -- at the end of a run all tails are reduced
  kept-member : (p : ℕ) → p < length s.members → IsNewMember s r.0.done p (member_at (held s) p)
  kept-member p l = record {
    member = r.0.done.members p l;
    vector = r.0.done.led.vectors p [] l;
    greatest = r.0.done.monic p l;
    of_degree = r.0.done.led.homogeneous p l;
    tails = λ j m. r.0.tails p j l m (r.0.done.low p l);
  }

  new : (i : ℕ) → i < length ws → IsNewMember s r.0.done (place ps i) (member_at listed i)
  new i l =
      subst (IsNewMember s r.0.done (place ps i)) (sym (kept.each i (omega (arith, l, kept.many)))) (kept-member (place ps i) (at i l))

  greatest : (i : ℕ) → i < length ws
      → IsGreatestTerm (elimination_order J.split) (member_at listed i) (lead_at listed i) J.ring.one
  greatest i l =
      subst (λ t. IsGreatestTerm (elimination_order J.split) (member_at listed i) t J.ring.one) (sym (lead-is i l))
      (new i l).greatest

  divided : (t : Term) → IsLead (elimination_order J.split) (submodule J) t
      → (k : ℕ) × (k < length ws) × TermDivides (lead_at listed k) t
  divided t q =
      let a = all-divided r t q in
      let b = a.1 in
      let c = o.all a.0 (omega (arith, b, r.0.done.led.same_length)) in
      let low : c.0 < length ws = omega (arith, c.1, kept.many) in
      let here : place ps c.0 ≡ a.0 = get_or_default ps c.0 0 a.0 c.1 ∙ c.2 in
      (c.0, low, subst (λ u. TermDivides u t) (sym (lead-is c.0 low ∙ ap (lead_at (held s)) here)) a.2)

  vectors : All (IsVector J.ring J.width) ws
  vectors i x l = subst (IsVector J.ring J.width) (get_or_default ws i [] x l) (new i l).vector

  pub members : All (submodule J) ws
  members i x l = subst (submodule J) (get_or_default ws i [] x l) (new i l).member

  led : AreLed (module_of J) listed
  led = record {
    vectors = vectors;
    same_length = length-map ps (nth s.queue.leads) ∙ sym kept.many;
    led = λ i l. (J.ring.one, greatest i l);
    homogeneous = λ i l. subst (λ t. HasDegree (module_of J) (degree_of (module_of J) t) (member_at listed i))
        (sym (lead-is i l)) (new i l).of_degree;
  }

  -- the list generates the submodule
  closed : IsDividedBy L led (submodule J)
  closed = record {
    vectors = submodule-vector of;
    steps = λ v c m j g vc im l. generated-plus laws comm J.width J.gens of.vectors v _ g
        (generated-multiple laws comm J.width J.gens of.vectors c m (member_at listed j) vc im (new j l).member);
    leads = λ v t x g gt. divided t (v, x, g, gt);
  }

  pub every : (v : Vector F) → submodule J v → IsGenerated J.ring J.width ws v
  every v g = generated-chain laws comm J.width ws J.gens vectors of.vectors
      (λ i l. leads_generate L led closed (generator_degree J i) (slice_index_or J.gens i [])
      (generated-member laws comm J.width J.gens of.vectors i l)
      (of.homogeneous i l)) v g

  back : (v : Vector F) → IsGenerated J.ring J.width ws v → submodule J v
  back v g = generated-chain laws comm J.width J.gens ws of.vectors vectors
      (λ i l. (new i l).member) v g

  -- ---- the reduced basis of the submodule, in either form

  module _ {N : Vector F → Type 0} (in_module : (v : Vector F) → N v → IsIn (module_of J) v)
      (member : (k : ℕ) → k < length ws → N (member_at listed k))
      (to : (v : Vector F) → N v → submodule J v) where
    made : IsMade L in_module listed
    made = record {
      member = member;
      monic = greatest;
      apart = λ i j a b d. o.once i j (omega (arith, a, kept.many)) (omega (arith, b, kept.many))
          (r.0.done.apart (place ps i) (place ps j) (at i a) (at j b)
          (subst (TermDivides (lead_at (held s) (place ps i))) (lead-is j b)
          (subst (λ u. TermDivides u (lead_at listed j)) (lead-is i a) d)));
      divided = λ t q. divided t (q.0, q.1, to q.0 q.2, q.3);
      tails = λ i j a b.
          let Free : Term → Term → Type 0 = λ t u.
          All (λ (x : Term × F). x.0 ≢ t → ¬ (TermDivides u x.0)) (terms (member_at listed i)) in
          subst (λ t. Free t (lead_at listed j)) (sym (lead-is i a))
          (subst (Free (lead_at (held s) (place ps i))) (sym (lead-is j b)) ((new i a).tails (place ps j) (at j b)));
      in_order = λ i j a b.
          let x = lead-is i (omega (arith, a, b)) in
          let y = lead-is j b in
          (λ k. listed_order J.split (x k) (y k)) ∙ o.in_order i j a (omega (arith, b, kept.many));
    }

  homogeneous : All (λ v. (d : ℕ) × (d ≤ most_degree) × IsHomogeneousVector J.ring d v) ws
  homogeneous i x l =
      let a = new i l in
      let t : Term = lead_at (held s) (place ps i) in
      let low = r.0.done.low (place ps i) (at i l) in
      let e = plain of t in
      subst (λ v. (d : ℕ) × (d ≤ most_degree) × IsHomogeneousVector J.ring d v) (get_or_default ws i [] x l)
      (degree_of (module_of J) t, omega (arith, low, e), homogeneous-vector of (member_at listed i) _ a.of_degree)

  -- The list is a basis,
  pub is-basis : IsBasis J.ring (record { split = J.split; width = J.width; members = ws })
  is-basis = record {
    vectors = vectors;
    homogeneous = λ i x l. let a = homogeneous i x l in (a.0, a.2);
    reduced = is_reduced L (generated-vector laws comm J.width ws vectors)
        (made (generated-vector laws comm J.width ws vectors)
        (generated-member laws comm J.width ws vectors) back);
  }

  -- and it is the answer.
  pub is-answer : IsAnswer J (record { split = J.split; width = J.width; members = ws })
  is-answer = record {
    split = refl;
    width = refl;
    reduced = is_reduced L (submodule-vector of) (made (submodule-vector of) (λ i l. (new i l).member) (λ v g. g));
    generates = record { members = members; every = every };
    degrees = homogeneous;
    no_stop = never-stops r;
  }
