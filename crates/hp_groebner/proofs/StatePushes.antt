-- A member that is pushed, one whose place is taken, and what is left of a division, as facts of a run.
use Rattle.std.specs.Prelude.{◌≡◌, ◌≢◌, ℕ, suc, ◌+◌, ◌<◌, ◌≤◌, List, [], ◌∷◌, ◌++◌, set, length, All, slice_index_or}
use Rattle.std.proofs.lemmas.List.{get_or_default, length-map}
use mathlib.Core.Logic.{inl, inr}
use mathlib.Core.Path.{refl, sym, ap, ◌∙◌, subst}
use native.Mathlib.Omega.{arith}
use Rattle.hp_algebra.specs.Ring.{RingOf, greatest_weight_of}
use Rattle.hp_mono.specs.declared.term.Term.{Term}
use Rattle.hp_mono.specs.Monomials.{IsMonomial, IsMonomialUpTo, Monomial, cofactor, degree, lcm, max_degree}
use Rattle.hp_mono.proofs.MonomialLaws.{lcm_comm}
use Rattle.hp_poly.specs.Polynomials.{constant, poly_degree, poly_ring}
use Rattle.hp_poly.specs.Degrees.{degree_most}
use Rattle.hp_module.specs.Vectors.{Vector, vector_scale, zero_vector}
use Rattle.hp_module.specs.FreeModules.{HasDegree, IsFreeModule, IsGraded, IsHomogeneousBy, IsIn, degree_of}
use Rattle.hp_module.specs.Leads.{AreLed, IsGreatestTerm, WithLeads, lead_at, member_at, no_term}
use Rattle.hp_module.specs.ElimOrders.{elimination_order}
use Rattle.hp_module.specs.FallingTerms.{AreDivisors, Divisors, vector_of, with_leads}
use Rattle.hp_module.specs.Divisions.{IsDivided}
use Rattle.hp_module.proofs.EntryTerms.{terms_each}
use Rattle.hp_module.proofs.MonicVectors.{constant-all, inverse-value, monic-greatest, monic-vector}
use Rattle.hp_module.proofs.GreatestTerms.{greatest-at, greatest-degree, greatest-nonzero}
use Rattle.hp_module.proofs.HeldDivisions.{divisors-led, same-leads}
use Rattle.hp_module.proofs.LongerBases.{longer, longer-led}
use Rattle.hp_groebner.specs.BasisEnds.{IsTailReduced}
use Rattle.hp_groebner.specs.LimitRules.{most_degree}
use Rattle.hp_groebner.specs.PairQueues.{IsLonger, IsPair, IsQueue, Queue, nth, pair_degree}
use Rattle.hp_groebner.specs.Runs.{IsJob, IsPushed, IsReduced, IsReplaced, IsRun, IsRunning, Job, State, held, module_of}
use Rattle.hp_groebner.proofs.PairDegrees.{degree-lcm, degree-lcm_back}
use Rattle.hp_groebner.proofs.ReducedTails.{IsNewMember, new-member}
use Rattle.hp_groebner.proofs.RunMembers.{comm, laws, lead-monomial, plain}
use Rattle.hp_groebner.proofs.RunPairs.{pair-within}
use Rattle.hp_groebner.proofs.RunSteps.{lead-low}

module _ {F : Type 0} {J : Job F} {s : State F} {d g p : ℕ} (r : IsRunning J s d g p (d + 1)) where
  -- the leads are monomials of degrees up to 240
  pub leads-low : d ≤ most_degree → All (λ (t : Term). IsMonomialUpTo most_degree t.mono) s.queue.leads
  leads-low b = λ i x l.
      let m : i < length s.members = omega (arith, l, r.done.led.same_length) in
      let k = lead-low r i m in
      subst (λ (t : Term). IsMonomialUpTo most_degree t.mono) (get_or_default s.queue.leads i no_term x l)
      (record { exponents = lead-monomial r.done i m; degree_most = omega (arith, k, b) })

  -- what is divided has a degree that a division takes
  pub low-degree : (v : Vector F) → d ≤ most_degree → HasDegree (module_of J) d v
      → (e : ℕ) × (e ≤ max_degree) × IsGraded J.shifts e v
  low-degree v b h = (d, omega (arith, b), h)

  module _ {v : Vector F} {t : Term} (hv : IsIn (module_of J) v)
      (gt : IsGreatestTerm (elimination_order J.split) v t J.ring.one) (hd : HasDegree (module_of J) d v) where
    -- it isn't zero
    pub push-nonzero : ¬ (v ≡ zero_vector J.ring (length v))
    push-nonzero z =
        greatest-nonzero r.done.of.lawful v t J.ring.one hv gt (z ∙ ap (zero_vector J.ring) hv.0)

    pub push-degree : d ≤ most_degree → IsMonomialUpTo most_degree t.mono
    push-degree b =
        let e = sym (plain r.done.of t) ∙ greatest-degree r.done.of.lawful v t J.ring.one d gt hd in
        record { exponents = (greatest-at r.done.of.lawful v t J.ring.one hv gt).0.0; degree_most = omega (arith, e, b) }

    -- the member is the last one now
    pub pushed : {D : Divisors F} {ms : List (Vector F)} {q : Queue} → AreDivisors J.ring (elimination_order J.split) J.width D
        → (with_leads J.ring D).members ≡ (with_leads J.ring s.divisors).members ++ v ∷ [] → ms ≡ s.members ++ v ∷ []
        → IsQueue J.limits q → IsLonger s.queue t q → IsPushed J s v t (record { divisors = D; members = ms; queue = q })
    pushed {D} {ms} {q} a m e iq l =
        let L = r.done.of.lawful in
        let M = module_of J in
        let w' : WithLeads F = longer (held s) v t in
        let own : HasDegree M (degree_of M t) v =
        subst (λ n. HasDegree M n v) (sym (greatest-degree L v t J.ring.one d gt hd)) hd in
        let led' : AreLed M w' = longer-led L r.done.led hv gt own in
        let all : (with_leads J.ring D).members ≡ w'.members = m ∙ ap (λ (w : WithLeads F). w.members ++ v ∷ []) r.divisors_are in
        let graded : All (IsHomogeneousBy J.shifts) w'.members =
        (λ i x b. subst (IsHomogeneousBy J.shifts) (get_or_default w'.members i [] x b) (degree_of M (lead_at w' i), led'.homogeneous i b)) in
        let led : AreLed M (with_leads J.ring D) =
        divisors-led L.field (elimination_order J.split) J.width L.order J.shifts a all graded in
        let leads : (with_leads J.ring D).leads ≡ w'.leads =
        same-leads L.field (elimination_order J.split) J.width L.order J.shifts led
        (subst (λ ws. AreLed M (record { members = ws; leads = w'.leads })) (sym all) led') in
        let held_is : held (record { divisors = D; members = ms; queue = q }) ≡ w' =
        (λ i. record { members = e i; leads = l.leads i }) in
        record {
          divisors = a;
          divisors_are = (λ i. record { members = all i; leads = leads i }) ∙ sym held_is;
          held_is = held_is;
          queue = iq;
          longer = l;
        }

-- ---- weights

module _ {F : Type 0} (ring : RingOf F) where
  weight-each : (d : ℕ) (v : Vector F) → ((j : ℕ) → j < length v → poly_degree ring (slice_index_or v j []) ≤ d)
      → greatest_weight_of (poly_ring ring) v ≤ d
  weight-each d [] f = omega arith
  weight-each d (p ∷ v) f =
      let a = f 0 (omega arith) in
      let b = weight-each d v (λ j l. f (suc j) (omega (arith, l))) in
      omega (arith, a, b)

module _ {F : Type 0} {J : Job F} (of : IsJob J) where
  -- the entries of a homogeneous vector have no higher degree
  pub weight-low : {d : ℕ} (v : Vector F) → HasDegree (module_of J) d v → greatest_weight_of (poly_ring J.ring) v ≤ d
  weight-low {d} v h =
      weight-each J.ring d v (λ j l.
      degree_most (laws of) (comm of) d (slice_index_or v j []) (λ i x b.
      let e = terms_each (λ (t : Term × F). degree_of (module_of J) t.0 ≡ d) 1 v h j l i x b in
      let p = plain of (record { mono = (slice_index_or (slice_index_or v j []) i x).0; comp = 1 + j }) in
      omega (arith, e, p)))

-- ---- a remainder

module _ {F : Type 0} {J : Job F} {s : State F} {d g p : ℕ} (r : IsRun J s d g p (d + 1)) {v rest : Vector F}
    (hd : HasDegree (module_of J) d v)
    (D : (qs : Vector F) × IsDivided (module_of J) v (held s) qs rest) where
  abbrev L : IsFreeModule (module_of J)
  L = r.0.done.of.lawful

  rest-degree : HasDegree (module_of J) d rest
  rest-degree = D.1.rest_degrees d hd

  pub rest-weight : d ≤ most_degree → greatest_weight_of (poly_ring J.ring) rest ≤ max_degree
  rest-weight b = let w = weight-low r.0.done.of rest rest-degree in omega (arith, w, b)

  -- a remainder that is zero
  pub reduced-none : rest ≡ zero_vector J.ring (length rest) → (s' : State F) → s' ≡ s
      → IsReduced J v s s' × (s'.queue.pairs ≤ J.limits.pairs)
  reduced-none z s' e = (
    record {
      quotients = D.0;
      rest = rest;
      divided = D.1;
      next = inl (z ∙ ap (zero_vector J.ring) D.1.rest.0, e);
    },
    subst (λ (u : State F). u.queue.pairs ≤ J.limits.pairs) (sym e) r.1,
  )

  module _ {t : Term} {c : F} (gt : IsGreatestTerm (elimination_order J.split) rest t c) where
    pub lead-nonzero : c ≢ J.ring.zero
    lead-nonzero = (greatest-at L rest t c D.1.rest gt).2

    module _ {m : Vector F} (is : m ≡ vector_scale J.ring (constant J.ring (J.inverse c)) rest) where
      pub monic-in : IsIn (module_of J) m
      monic-in = subst (IsIn (module_of J)) (sym is) (monic-vector L rest t c D.1.rest gt)

      pub monic-lead : IsGreatestTerm (elimination_order J.split) m t J.ring.one
      monic-lead = subst (λ u. IsGreatestTerm (elimination_order J.split) u t J.ring.one) (sym is) (monic-greatest L rest t c D.1.rest gt)

      pub monic-homogeneous : HasDegree (module_of J) d m
      monic-homogeneous = subst (HasDegree (module_of J) d) (sym is)
          (constant-all L (λ b. degree_of (module_of J) b ≡ d) (J.inverse c) rest (inverse-value L rest t c D.1.rest gt) D.1.rest rest-degree)

      -- a remainder that is the last member now
      pub reduced-pushed : (s' s'' : State F) → IsPushed J s m t s' → s'' ≡ s' → s''.queue.pairs ≤ J.limits.pairs
          → IsReduced J v s s'' × (s''.queue.pairs ≤ J.limits.pairs)
      reduced-pushed s' s'' q e few = (
        record {
          quotients = D.0;
          rest = rest;
          divided = D.1;
          next = inr (t, c, gt, subst (λ u. IsPushed J s u t s'') is (subst (IsPushed J s m t) (sym e) q));
        },
        few,
      )

-- ---- the vector of a pair

module _ {F : Type 0} {J : Job F} {s : State F} {d g p : ℕ} (r : IsRunning J s d g p (d + 1)) (b : d ≤ most_degree) {j i : ℕ}
    (pr : IsPair s.queue.leads j i) (lcm_is : pair_degree s.queue.leads j i ≡ d) where
  abbrev leads : List Term
  leads = s.queue.leads

  abbrev of : IsJob J
  of = r.done.of

  j-mono : IsMonomial (nth s.queue.leads j).mono
  j-mono = lead-monomial r.done j (pair-within s r.done pr).0

  i-mono : IsMonomial (nth s.queue.leads i).mono
  i-mono = lead-monomial r.done i (pair-within s r.done pr).1

  pub lcm-fits : degree (lcm (nth s.queue.leads j).mono (nth s.queue.leads i).mono) ≤ max_degree
  lcm-fits = omega (arith, lcm_is, b)

  pub lcm-fits_back : degree (lcm (nth s.queue.leads i).mono (nth s.queue.leads j).mono) ≤ max_degree
  lcm-fits_back = let e = ap degree (lcm_comm (nth leads i).mono (nth leads j).mono) in omega (arith, lcm_is, b, e)

  member-weight : (k : ℕ) → k < length s.members → greatest_weight_of (poly_ring J.ring) (member_at (held s) k) ≤ d
  member-weight k l =
      let e = plain of (lead_at (held s) k) in
      let w = weight-low of (member_at (held s) k) (r.done.led.homogeneous k l) in
      let z = lead-low r k l in
      omega (arith, e, w, z)

  pub later-fits : degree (cofactor (nth s.queue.leads i).mono (nth s.queue.leads j).mono)
      + greatest_weight_of (poly_ring J.ring) (member_at (held s) i) ≤ max_degree
  later-fits =
      let w = member-weight i (pair-within s r.done pr).1 in
      let e = degree-lcm_back (nth leads j).mono (nth leads i).mono j-mono i-mono in
      omega (arith, w, e, lcm_is, b)

  pub earlier-fits : degree (cofactor (nth s.queue.leads j).mono (nth s.queue.leads i).mono)
      + greatest_weight_of (poly_ring J.ring) (member_at (held s) j) ≤ max_degree
  earlier-fits =
      let w = member-weight j (pair-within s r.done pr).0 in
      let e = degree-lcm (nth leads j).mono (nth leads i).mono j-mono i-mono in
      omega (arith, w, e, lcm_is, b)

  -- ---- the same as the program reads it

  module _ {us : List Term} (e : us ≡ s.queue.leads) (x y : Term) where
    lead-read : (k : ℕ) (z : Term) → k < length s.queue.leads → slice_index_or us k z ≡ nth s.queue.leads k
    lead-read k z l = ap (λ (ts : List Term). slice_index_or ts k z) e ∙ get_or_default s.queue.leads k z no_term l

    j-low : j < length s.queue.leads
    j-low = let a = pr.earlier in let b = pr.within in omega (arith, a, b)

    ei : slice_index_or us i x ≡ nth s.queue.leads i
    ei = lead-read i x pr.within

    ej : slice_index_or us j y ≡ nth s.queue.leads j
    ej = lead-read j y j-low

    pub up-lcm : degree (lcm (slice_index_or us i x).mono (slice_index_or us j y).mono) ≤ max_degree
    up-lcm = subst (λ n. n ≤ max_degree) (sym (λ k. degree (lcm (ei k).mono (ej k).mono))) lcm-fits_back

    pub down-lcm : degree (lcm (slice_index_or us j y).mono (slice_index_or us i x).mono) ≤ max_degree
    down-lcm = subst (λ n. n ≤ max_degree) (sym (λ k. degree (lcm (ej k).mono (ei k).mono))) lcm-fits

    module _ {ms : List (Vector F)} (f : ms ≡ s.members) {q : Monomial} {v : Vector F} where
      pub up-fits : q ≡ cofactor (slice_index_or us i x).mono (slice_index_or us j y).mono → v ≡ slice_index_or ms i v
          → degree q + greatest_weight_of (poly_ring J.ring) v ≤ max_degree
      up-fits u h =
          let vs = h ∙ ap (λ (z : List (Vector F)). slice_index_or z i v) f ∙ get_or_default s.members i v [] (pair-within s r.done pr).1 in
          let qs = u ∙ (λ k. cofactor (ei k).mono (ej k).mono) in
          subst (λ n. n ≤ max_degree) (sym (λ k. degree (qs k) + greatest_weight_of (poly_ring J.ring) (vs k))) later-fits

      pub down-fits : q ≡ cofactor (slice_index_or us j y).mono (slice_index_or us i x).mono → v ≡ slice_index_or ms j v
          → degree q + greatest_weight_of (poly_ring J.ring) v ≤ max_degree
      down-fits u h =
          let vs = h ∙ ap (λ (z : List (Vector F)). slice_index_or z j v) f ∙ get_or_default s.members j v [] (pair-within s r.done pr).0 in
          let qs = u ∙ (λ k. cofactor (ej k).mono (ei k).mono) in
          subst (λ n. n ≤ max_degree) (sym (λ k. degree (qs k) + greatest_weight_of (poly_ring J.ring) (vs k))) earlier-fits

-- ---- a member whose place is taken

module _ {F : Type 0} {J : Job F} {s : State F} {d g p top : ℕ} (r : IsRun J s d g p top) {i : ℕ} (l : i < length s.members)
    {v : Vector F} (x : IsTailReduced J s i v) where
  new : IsNewMember s r.0.done i v
  new = new-member s r.0.done i l x

  pub replace-width : J.width ≡ length v
  replace-width = sym new.vector.0

  module _ {D : Divisors F} (e : D ≡ s.divisors) where
    leads-are : with_leads J.ring D ≡ held s
    leads-are = ap (with_leads J.ring) e ∙ r.0.divisors_are

    pub replace-place : i < length D.members
    replace-place =
        let a = length-map D.members (λ m. vector_of J.ring m.parts) in
        let b = ap (λ (w : WithLeads F). length w.members) leads-are in
        omega (arith, a, b, l)

    pub replace-lead : (c : F)
        × IsGreatestTerm (elimination_order J.split) (member_at (with_leads J.ring D) i) (lead_at (with_leads J.ring D) i) c
        × IsGreatestTerm (elimination_order J.split) v (lead_at (with_leads J.ring D) i) c
    replace-lead = (
      J.ring.one,
      subst (λ w. IsGreatestTerm (elimination_order J.split) (member_at w i) (lead_at w i) J.ring.one) (sym leads-are) (r.0.done.monic i l),
      subst (λ w. IsGreatestTerm (elimination_order J.split) v (lead_at w i) J.ring.one) (sym leads-are) new.greatest,
    )

  pub replaced : {D : Divisors F} {ms : List (Vector F)} → AreDivisors J.ring (elimination_order J.split) J.width D
      → (with_leads J.ring D).members ≡ set (with_leads J.ring s.divisors).members i v
      → (with_leads J.ring D).leads ≡ (with_leads J.ring s.divisors).leads → ms ≡ set s.members i v
      → IsReplaced J s i v (record { divisors = D; members = ms; queue = s.queue })
  replaced {D} {ms} a m k e =
      let all = m ∙ ap (λ (w : WithLeads F). set w.members i v) r.0.divisors_are ∙ sym e in
      let leads = k ∙ ap (λ (w : WithLeads F). w.leads) r.0.divisors_are in
      record {
        divisors = a;
        divisors_are = λ n. record { members = all n; leads = leads n };
        members = e;
        queue = refl;
      }
