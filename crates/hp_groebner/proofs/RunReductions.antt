-- A generator or a pair that is divided in a run.
use Rattle.std.specs.Prelude.{◌≡◌, ℕ, ◌+◌, ◌-◌, ◌<◌, ◌≤◌, [], ◌∷◌, ◌++◌, length}
use Rattle.std.proofs.lemmas.Bool.{cases_lt}
use Rattle.std.proofs.lemmas.List.Elements.{All-contains}
use mathlib.Core.Logic.{inl, inr}
use mathlib.Core.Path.{refl, sym, ap, ◌∙◌, subst}
use native.Mathlib.Omega.{arith}
use Rattle.hp_algebra.specs.Ring.{RingOf, IsRing}
use Rattle.hp_algebra.proofs.Rings.{neg_mul}
use Rattle.hp_mono.specs.declared.term.Term.{Term}
use Rattle.hp_mono.specs.Monomials as mono
use Rattle.hp_mono.specs.TermOrders.{TermDivides}
use Rattle.hp_mono.specs.Monomials.{cofactor}
use Rattle.hp_mono.proofs.MonomialLaws.{cofactor-monomial}
use Rattle.hp_module.specs.Vectors.{Vector, IsVector, IsGenerated, combination, vector_plus, zero_vector}
use Rattle.hp_module.specs.FreeModules.{IsFreeModule, IsIn, HasDegree, coefficient_at, degree_of, terms}
use Rattle.hp_module.specs.Leads.{IsGreatestTerm, WithLeads, lead_at, member_at, no_term}
use Rattle.hp_module.specs.ElimOrders.{elimination_order}
use Rattle.hp_module.specs.CriticalPairs.{pair_vector}
use Rattle.hp_module.specs.Divisions.{IsDivided}
use Rattle.hp_module.proofs.VectorCoefficients.{coefficient-ext, coefficient-plus, coefficient-value, combination-vector, plus-vector}
use Rattle.hp_module.proofs.MonicVectors.{coefficient-constant, constant-all, constant-vector, lead-value, inverse-value, monic-back, monic-greatest, plus-zero, times_constant}
use Rattle.hp_module.proofs.Symbols.{generated-chain, generated-member, generated-multiple, generated-plus}
use Rattle.hp_module.proofs.LongerBases.{longer, longer-led, earlier-generated, last-generated}
use Rattle.hp_module.proofs.PairRelations.{pair-degree, pair-vector}
use Rattle.hp_module.proofs.ResolvedPairs.{IsResolved}
use Rattle.hp_groebner.specs.LimitRules.{StopsForPairs}
use Rattle.hp_groebner.specs.PairQueues.{IsPair, bucket, nth, pair_degree}
use Rattle.hp_groebner.specs.Runs.{HaveDone, IsGeneratorDone, IsJob, IsPairDone, IsPushed, IsReduced, IsRunning, Job, State, generator, generator_degree, held, module_of, pair_at, submodule}
use Rattle.hp_groebner.proofs.PairRemainders.{monic-pair, resolved-pushed, resolved-zero}
use Rattle.hp_groebner.proofs.RunMembers.{laws, comm, lead-monomial, longer-done, own-degree, redone, submodule-vector}
use Rattle.hp_groebner.proofs.RunPairs.{pair-within, symbol-degree}
use Rattle.hp_groebner.proofs.RunSteps.{lead-low, pairs-stop, pushed-done, pushed-with, same-bucket, same-pair}

-- (y + x) - y = x
difference : {F : Type 0} {ring : RingOf F} → IsRing ring → (x y : F) → ring.IsValue x → ring.IsValue y
    → ring.add (ring.add y x) (ring.mul (ring.neg ring.one) y) ≡ x
difference {F} {ring} laws x y vx vy =
    let n = laws.neg_value y vy in
    ap (ring.add (ring.add y x)) (neg_mul laws ring.one y laws.one_value vy ∙ ap ring.neg (laws.one_mul y vy))
    ∙ ap (λ u. ring.add u (ring.neg y)) (laws.add_comm y x vy vx) ∙ laws.add_assoc x y _ vx vy n
    ∙ ap (ring.add x) (laws.add_neg y vy) ∙ laws.add_zero x vx

module _ {F : Type 0} {J : Job F} (of : IsJob J) where
  abbrev L : IsFreeModule (module_of J)
  L = of.lawful

  -- what is left of a member of the submodule when another is taken away
  pub rest-member : (v q r : Vector F) → v ≡ vector_plus J.ring q r → IsVector J.ring J.width q → IsVector J.ring J.width r
      → submodule J v → submodule J q → submodule J r
  rest-member v q r e hq hr gv gq =
      let n = (laws of).neg_value J.ring.one (laws of).one_value in
      let minus = times_constant L (J.ring.neg J.ring.one) q in
      let hm = constant-vector L (J.ring.neg J.ring.one) q n hq in
      let hv = submodule-vector of v gv in
      let gm = generated-multiple (laws of) (comm of) J.width J.gens of.vectors (J.ring.neg J.ring.one) mono.one q n refl gq in
      let same : r ≡ vector_plus J.ring v minus =
      coefficient-ext (laws of) (comm of) J.width r _ hr (plus-vector (laws of) (comm of) J.width v minus hv hm) (λ b.
      let a = coefficient-plus (laws of) (comm of) J.width v minus b hv hm in
      let c = ap (λ w. coefficient_at J.ring w b) e ∙ coefficient-plus (laws of) (comm of) J.width q r b hq hr in
      let d = coefficient-constant L (J.ring.neg J.ring.one) q b n hq in
      sym (a ∙ (λ k. J.ring.add (c k) (d k))
      ∙ difference (laws of) (coefficient_at J.ring r b) (coefficient_at J.ring q b) (coefficient-value (laws of) (comm of) J.width r b hr)
      (coefficient-value (laws of) (comm of) J.width q b hq))) in
      subst (submodule J) (sym same) (generated-plus (laws of) (comm of) J.width J.gens of.vectors v minus gv gm)

module _ {F : Type 0} {J : Job F} {s s' : State F} {d g p : ℕ} (r : IsRunning J s d g p (d + 1)) {v : Vector F}
    (gv : submodule J v) (hd : HasDegree (module_of J) d v) (x : IsReduced J v s s') where
  abbrev of : IsJob J
  of = r.done.of

  abbrev comb : Vector F
  comb = combination J.ring J.width x.quotients s.members

  comb-vector : IsVector J.ring J.width comb
  comb-vector = combination-vector (laws of) (comm of) J.width x.quotients s.members x.divided.quotients.1 r.done.led.vectors

  own-generated : IsGenerated J.ring J.width s.members comb
  own-generated = (x.quotients, x.divided.quotients, refl)

  comb-member : submodule J comb
  comb-member = generated-chain (laws of) (comm of) J.width J.gens s.members of.vectors r.done.led.vectors r.done.members comb own-generated

  rest-in : submodule J x.rest
  rest-in = rest-member of v comb x.rest x.divided.sum comb-vector x.divided.rest gv comb-member

  module _ {t : Term} {c : F} (gt : IsGreatestTerm (elimination_order J.split) x.rest t c) where
    abbrev m : Vector F
    m = times_constant of.lawful (J.inverse c) x.rest

    vi : J.ring.IsValue (J.inverse c)
    vi = inverse-value (of.lawful) x.rest t c x.divided.rest gt

    m-member : submodule J m
    m-member = generated-multiple (laws of) (comm of) J.width J.gens of.vectors (J.inverse c) mono.one x.rest vi refl rest-in

    m-greatest : IsGreatestTerm (elimination_order J.split) m t J.ring.one
    m-greatest = monic-greatest (of.lawful) x.rest t c x.divided.rest gt

    m-degree : HasDegree (module_of J) d m
    m-degree = constant-all (of.lawful) (λ b. degree_of (module_of J) b ≡ d) (J.inverse c) x.rest vi x.divided.rest (x.divided.rest_degrees d hd)

    free : (i : ℕ) → i < length s.members → ¬ (TermDivides (lead_at (held s) i) t)
    free i l = All-contains (λ (a : Term × F). ¬ (TermDivides (lead_at (held s) i) a.0)) (terms x.rest) (t, c)
        (x.divided.free i no_term (omega (arith, l, r.done.led.same_length))) gt.occurs

    module _ (q : IsPushed J s (times_constant r.done.of.lawful (J.inverse c) x.rest) t s') where
      abbrev h' : HaveDone J (longer (held s) m t) (d + 1) (IsGeneratorDone J d g) (IsPairDone s' d p)
      h' = pushed-done r m-member m-greatest m-degree free q

      abbrev hv : IsVector J.ring J.width m
      hv = submodule-vector of m m-member

      abbrev hd' : HasDegree (module_of J) (degree_of (module_of J) t) m
      hd' = own-degree r.done d (omega arith) m-member m-greatest m-degree free (lead-low r)

      vc : J.ring.IsValue c
      vc = lead-value (of.lawful) x.rest t c x.divided.rest gt

      longer-generated : IsGenerated J.ring J.width (s.members ++ m ∷ []) v
      longer-generated =
          let vectors = (longer-led of.lawful r.done.led hv m-greatest hd').vectors in
          let whole : v ≡ vector_plus J.ring comb (times_constant of.lawful c m) =
          x.divided.sum ∙ ap (vector_plus J.ring comb) (monic-back (of.lawful) x.rest t c x.divided.rest gt) in
          subst (IsGenerated J.ring J.width (s.members ++ m ∷ [])) (sym whole)
          (generated-plus (laws of) (comm of) J.width (s.members ++ m ∷ []) vectors comb (times_constant of.lawful c m)
          (earlier-generated of.lawful r.done.led hv m-greatest hd' comb own-generated)
          (generated-multiple (laws of) (comm of) J.width (s.members ++ m ∷ []) vectors c mono.one m vc refl
          (last-generated of.lawful r.done.led hv m-greatest hd')))

      abbrev Next : WithLeads F → Type 0
      Next w = HaveDone J w (d + 1) (IsGeneratorDone J d g) (IsPairDone s' d p)

      next-generated : IsRunning J s' d g p (d + 1) × IsGenerated J.ring J.width s'.members v
      next-generated = (
        pushed-with r m-member m-greatest m-degree free q (subst Next (sym q.held_is) h'),
        subst (λ w. IsGenerated J.ring J.width w.members v) (sym q.held_is) longer-generated,
      )

  whole-zero : x.rest ≡ zero_vector J.ring J.width → v ≡ comb
  whole-zero z = x.divided.sum ∙ plus-zero (of.lawful) comb x.rest comb-vector z

  -- The run goes on, and the vector is generated by its members.
  pub reduced-generated : IsRunning J s' d g p (d + 1) × IsGenerated J.ring J.width s'.members v
  reduced-generated =
      elim x.next [
        | inl z ↦ subst (λ u. IsRunning J u d g p (d + 1) × IsGenerated J.ring J.width u.members v) (sym z.1)
            (r, subst (IsGenerated J.ring J.width s.members) (sym (whole-zero z.0)) own-generated)
        | inr n ↦ next-generated n.2 n.3
      ]

  -- the pairs of degree d are the same
  pub reduced-pair : (k : ℕ) → k < length (bucket s.queue d) → pair_at s' d k ≡ pair_at s d k
  reduced-pair k l =
      elim x.next [
        | inl z ↦ ap (λ u. pair_at u d k) z.1
        | inr n ↦ same-pair r (m-member n.2) (m-greatest n.2) (m-degree n.2) (free n.2) n.3 d k l
      ]

  pub reduced-bucket : length (bucket s'.queue d) ≡ length (bucket s.queue d)
  reduced-bucket =
      elim x.next [
        | inl z ↦ ap (λ (u : State F). length (bucket u.queue d)) z.1
        | inr n ↦ same-bucket r (m-member n.2) (m-greatest n.2) (m-degree n.2) (free n.2) n.3 d (omega arith)
      ]

  -- Where the pairs are now more than the limit, the rule stops for the pairs.
  pub reduced-stop : J.limits.pairs < s'.queue.pairs
      → StopsForPairs (elimination_order J.split) (submodule J) J.limits
  reduced-stop l = pairs-stop reduced-generated.0 l

  module _ {j i : ℕ} (pr : IsPair s.queue.leads j i) (is : v ≡ pair_vector J.ring (held s) j i J.ring.one J.ring.one) where
    j-back : j ≡ j + 1 - 1
    j-back = omega arith

    i-back : i ≡ i + 1 - 1
    i-back = omega arith

    D : IsDivided (module_of J) (pair_vector J.ring (held s) (j + 1 - 1) (i + 1 - 1) J.ring.one J.ring.one) (held s) x.quotients x.rest
    D = subst (λ u. IsDivided (module_of J) u (held s) x.quotients x.rest)
        (is ∙ (λ k. pair_vector J.ring (held s) (j-back k) (i-back k) J.ring.one J.ring.one)) x.divided

    j-low : 1 ≤ j + 1
    j-low = omega arith

    i-low : 1 ≤ i + 1
    i-low = omega arith

    j-high : j + 1 ≤ length s.members
    j-high = let w = (pair-within s r.done pr).0 in omega (arith, w)

    i-high : i + 1 ≤ length s.members
    i-high = let w = (pair-within s r.done pr).1 in omega (arith, w)

    same-comp : (lead_at (held s) (j + 1 - 1)).comp ≡ (lead_at (held s) (i + 1 - 1)).comp
    same-comp = ap (λ k. (nth s.queue.leads k).comp) (sym j-back) ∙ pr.same_component ∙ ap (λ k. (nth s.queue.leads k).comp) i-back

    abbrev OnWith : State F → Type 0
    OnWith u = (o : IsRunning J u d g p (d + 1)) × IsResolved o.done.of.lawful o.done.led (j + 1) (i + 1)

    abbrev Resolved : WithLeads F → Type 0
    Resolved w =
        (h : HaveDone J w (d + 1) (IsGeneratorDone J d g) (IsPairDone s' d p)) × IsResolved h.of.lawful h.led (j + 1) (i + 1)

    next-resolved : {t : Term} {c : F} → IsGreatestTerm (elimination_order J.split) x.rest t c
        → IsPushed J s (times_constant of.lawful (J.inverse c) x.rest) t s' → OnWith s'
    unfolding pushed-done longer-done pushed-with
    next-resolved gt q =
        let m' = m-member gt in
        let g' = m-greatest gt in
        let d' = m-degree gt in
        let f' = free gt in
        let h = pushed-done r m' g' d' f' q in
        let res = resolved-pushed of.lawful r.done.led r.done.monic (j + 1) (i + 1) j-low j-high i-low i-high same-comp D gt
        (submodule-vector of _ m') g' (own-degree r.done d (omega arith) m' g' d' f' (lead-low r)) h.monic in
        let o : Resolved (held s') = subst Resolved (sym q.held_is) (h, res) in
        (pushed-with r m' g' d' f' q o.0, o.1)

    -- The run goes on, and the pair has a relation.
    pub reduced-resolved : (o : IsRunning J s' d g p (d + 1)) × IsResolved o.done.of.lawful o.done.led (j + 1) (i + 1)
    reduced-resolved =
        elim x.next [
          | inl z ↦ subst OnWith (sym z.1)
              (r, resolved-zero of.lawful r.done.led r.done.monic (j + 1) (i + 1) j-low j-high i-low i-high same-comp D z.0)
          | inr n ↦ next-resolved n.2 n.3
        ]

-- ---- the steps of the loops

module _ {F : Type 0} {J : Job F} {s : State F} {d g p top : ℕ} (r : IsRunning J s d g p top) where
  -- other generators and pairs of degree d that are done
  pub running-with : {g' p' : ℕ} → HaveDone J (held s) top (IsGeneratorDone J d g') (IsPairDone s d p') → IsRunning J s d g' p' top
  running-with h = record {
    done = h;
    divisors = r.divisors;
    divisors_are = r.divisors_are;
    queue = r.queue;
    calm = r.calm;
    passed = r.passed;
    tails = r.tails;
  }

  -- one generator more, if it has degree d
  pub with-generator : (generator_degree J g ≡ d → IsGenerated J.ring J.width s.members (generator J g)) → IsRunning J s d (g + 1) p top
  with-generator f = running-with (redone r.done (λ i b q.
      elim q [
        | inl l ↦ r.done.generators i b (inl l)
        | inr e ↦
            let e0 = e.0 in
            let e1 = e.1 in
            elim (cases_lt i g) [
              | inl l ↦ r.done.generators i b (inr (e0, l))
              | inr l ↦
                  let same : g ≡ i = omega (arith, e1, l) in
                  subst (λ k. IsGenerated J.ring J.width s.members (generator J k)) same (f (ap (generator_degree J) same ∙ e0))
            ]
      ]) (λ j i a b q. r.done.resolved j i a b q))

  -- one pair more
  pub with-pair : IsResolved r.done.of.lawful r.done.led ((pair_at s d p).0 + 1) ((pair_at s d p).1 + 1) → IsRunning J s d g (p + 1) top
  with-pair f = running-with (redone r.done (λ i b q. r.done.generators i b q) (λ j i a b q.
      elim q.3 [
        | inl l ↦ r.done.resolved j i a b (q.0, q.1, q.2, inl l, q.4)
        | inr e ↦
            let e0 = e.0 in
            let e1 = e.1 in
            elim (cases_lt q.1 p) [
              | inl l ↦ r.done.resolved j i a b (q.0, q.1, q.2, inr (e0, l), q.4)
              | inr l ↦
                  let same : p ≡ q.1 = omega (arith, e1, l) in
                  let at : pair_at s d p ≡ (j, i) = (λ k. pair_at s (sym e0 k) (same k)) ∙ q.4 in
                  subst (λ u. IsResolved r.done.of.lawful r.done.led (u.0 + 1) (u.1 + 1)) at f
            ]
      ]))

module _ {F : Type 0} {J : Job F} {s s' : State F} {d g p : ℕ} (r : IsRunning J s d g p (d + 1)) where
  -- a generator of degree d is divided
  pub generator-step : g < length J.gens → generator_degree J g ≡ d → IsReduced J (generator J g) s s' → IsRunning J s' d (g + 1) p (d + 1)
  generator-step l e x =
      let gv = generated-member (laws r.done.of) (comm r.done.of) J.width J.gens r.done.of.vectors g l in
      let hd = subst (λ n. HasDegree (module_of J) n (generator J g)) e (r.done.of.homogeneous g l) in
      let o = reduced-generated r gv hd x in
      with-generator o.0 (λ q. o.1)

  -- and where the pairs are too many then, the rule stops
  pub generator-stop : g < length J.gens → generator_degree J g ≡ d → IsReduced J (generator J g) s s'
      → J.limits.pairs < s'.queue.pairs → StopsForPairs (elimination_order J.split) (submodule J) J.limits
  generator-stop l e x many =
      let gv = generated-member (laws r.done.of) (comm r.done.of) J.width J.gens r.done.of.vectors g l in
      let hd = subst (λ n. HasDegree (module_of J) n (generator J g)) e (r.done.of.homogeneous g l) in
      reduced-stop r gv hd x many

-- ---- pairs

module _ {F : Type 0} {J : Job F} (s : State F) {top : ℕ} {P : ℕ → Type 0} {R : ℕ → ℕ → Type 0}
    (h : HaveDone J (held s) top P R) {j i : ℕ} (pr : IsPair s.queue.leads j i) where
  j-place : j ≡ j + 1 - 1
  j-place = omega arith

  i-place : i ≡ i + 1 - 1
  i-place = omega arith

  as-pair : Rattle.hp_module.proofs.PairRelations.IsPair h.of.lawful h.led (j + 1) (i + 1) J.ring.one J.ring.one
  as-pair =
      let w = pair-within s h pr in
      let wj = w.0 in
      let wi = w.1 in
      monic-pair h.of.lawful h.led h.monic (j + 1) (i + 1) (omega arith) (omega (arith, wj)) (omega arith) (omega (arith, wi))
      (ap (λ k. (nth s.queue.leads k).comp) (sym j-place) ∙ pr.same_component ∙ ap (λ k. (nth s.queue.leads k).comp) i-place)

  vector-place : pair_vector J.ring (held s) (j + 1 - 1) (i + 1 - 1) J.ring.one J.ring.one
      ≡ pair_vector J.ring (held s) j i J.ring.one J.ring.one
  vector-place = λ k. pair_vector J.ring (held s) (sym j-place k) (sym i-place k) J.ring.one J.ring.one

  -- the vector of the pair has the degree of the lcm,
  pub pair-homogeneous : {d : ℕ} → pair_degree s.queue.leads j i ≡ d
      → HasDegree (module_of J) d (pair_vector J.ring (held s) j i J.ring.one J.ring.one)
  pair-homogeneous {d} e =
      let w = pair-within s h pr in
      let wj = w.0 in
      let wi = w.1 in
      let q = pair-degree h.of.lawful h.led as-pair in
      let z = symbol-degree s h (j + 1) (i + 1) (omega arith) (omega (arith, wj)) (omega arith) (omega (arith, wi))
      ∙ (λ k. pair_degree s.queue.leads (sym j-place k) (sym i-place k)) ∙ e in
      subst (HasDegree (module_of J) d) vector-place (subst (λ n. HasDegree (module_of J) n (pair_vector J.ring (held s) (j + 1 - 1) (i + 1 - 1) J.ring.one J.ring.one)) z q)

  -- and is a vector of the module, in the submodule
  pub pair-in : IsIn (module_of J) (pair_vector J.ring (held s) j i J.ring.one J.ring.one)
  pair-in = subst (IsIn (module_of J)) vector-place (pair-vector h.of.lawful h.led as-pair)

  pub pair-member : submodule J (pair_vector J.ring (held s) j i J.ring.one J.ring.one)
  pair-member =
      let w = pair-within s h pr in
      let mj = lead-monomial h j w.0 in
      let mi = lead-monomial h i w.1 in
      let one = (laws h.of).one_value in
      let minus = (laws h.of).neg_value J.ring.one one in
      generated-plus (laws h.of) (comm h.of) J.width J.gens h.of.vectors _ _
      (generated-multiple (laws h.of) (comm h.of) J.width J.gens h.of.vectors J.ring.one
      (cofactor (nth s.queue.leads i).mono (nth s.queue.leads j).mono) (member_at (held s) i) one
      (cofactor-monomial (nth s.queue.leads i).mono (nth s.queue.leads j).mono mi mj) (h.members i w.1))
      (generated-multiple (laws h.of) (comm h.of) J.width J.gens h.of.vectors (J.ring.neg J.ring.one)
      (cofactor (nth s.queue.leads j).mono (nth s.queue.leads i).mono) (member_at (held s) j) minus
      (cofactor-monomial (nth s.queue.leads j).mono (nth s.queue.leads i).mono mj mi) (h.members j w.0))

module _ {F : Type 0} {J : Job F} {s s' : State F} {d g p : ℕ} (r : IsRunning J s d g p (d + 1))
    (l : p < length (bucket s.queue d)) {v : Vector F}
    (is : v ≡ pair_vector J.ring (held s) (pair_at s d p).0 (pair_at s d p).1 J.ring.one J.ring.one) (x : IsReduced J v s s') where
  pr : IsPair s.queue.leads (pair_at s d p).0 (pair_at s d p).1
  pr = (r.queue.listed d p (0, 0) l).0

  gv : submodule J v
  gv = subst (submodule J) (sym is) (pair-member s r.done pr)

  hd : HasDegree (module_of J) d v
  hd = subst (HasDegree (module_of J) d) (sym is) (pair-homogeneous s r.done pr (r.queue.listed d p (0, 0) l).1)

  -- the pair is divided
  pub pair-step : IsRunning J s' d g (p + 1) (d + 1)
  pair-step =
      let o = reduced-resolved r gv hd x pr is in
      with-pair o.0 (subst (λ u. IsResolved o.0.done.of.lawful o.0.done.led (u.0 + 1) (u.1 + 1)) (sym (reduced-pair r gv hd x p l)) o.1)

  pub pair-bucket : length (bucket s'.queue d) ≡ length (bucket s.queue d)
  pair-bucket = reduced-bucket r gv hd x

  pub pair-stop : J.limits.pairs < s'.queue.pairs → StopsForPairs (elimination_order J.split) (submodule J) J.limits
  pair-stop many = reduced-stop r gv hd x many
