-- A member of a run whose place is taken by one of the submodule with the same lead: once all of a degree is done, the run is
-- where it was.
use Rattle.std.specs.Prelude.{◌≡◌, ◌≢◌, ◌⊎◌, ℕ, ◌+◌, ◌-◌, ◌<◌, ◌≤◌, List, [], set, length, All, slice_index_or}
use Rattle.std.proofs.lemmas.Bool.{cases_eq, cases_lt}
use Rattle.std.proofs.lemmas.List.{get_or-set_other, get_or-set_same, length-set}
use Rattle.std.proofs.lemmas.List.Elements.{All-set}
use mathlib.Core.Logic.{inl, inr}
use mathlib.Core.Path.{refl, sym, ap, ◌∙◌, subst}
use native.Mathlib.Omega.{arith}
use Rattle.hp_mono.specs.declared.term.Term.{Term}
use Rattle.hp_mono.specs.Monomials.{degree}
use Rattle.hp_mono.specs.TermOrders.{TermDivides}
use Rattle.hp_module.specs.Vectors.{IsGenerated, Vector, zero_vector}
use Rattle.hp_module.specs.FreeModules.{HasDegree, IsFreeModule, IsIn, degree_of, terms}
use Rattle.hp_module.specs.Leads.{AreLed, IsGreatestTerm, IsLead, WithLeads, lead_at, member_at}
use Rattle.hp_module.specs.ElimOrders.{elimination_order}
use Rattle.hp_module.specs.CriticalPairs.{pair_vector}
use Rattle.hp_module.specs.Divisions.{IsDivided}
use Rattle.hp_module.proofs.DivisionExistence.{division_exists}
use Rattle.hp_module.proofs.ResolvedPairs.{IsResolved}
use Rattle.hp_module.proofs.Symbols.{generated-member}
use Rattle.hp_module.proofs.TruncatedRemainders.{generated_up_to, remainder_up_to}
use Rattle.hp_groebner.specs.PairQueues.{IsPair, bucket, nth, pair_degree}
use Rattle.hp_groebner.specs.Runs.{AreReducedAt, HaveDone, IsFreeOf, IsGeneratorDone, IsJob, IsPairDone, IsReplaced, IsRun, IsRunning, Job, State, generator, generator_degree, held, module_of, pair_at, submodule}
use Rattle.hp_groebner.proofs.PairRemainders.{resolved-zero}
use Rattle.hp_groebner.proofs.ReducedTails.{IsNewMember}
use Rattle.hp_groebner.proofs.RunMembers.{comm, laws, lead-up_to, plain, redone}
use Rattle.hp_groebner.proofs.RunReductions.{pair-homogeneous, pair-in, pair-member}
use Rattle.hp_groebner.proofs.RunStops.{known}

-- what holds at each place holds after one member is replaced by a vector of which it holds
each-replaced : {F : Type 0} (Q : Vector F → Term → Type 0) (ms : List (Vector F)) (ts : List Term) (p : ℕ) (w : Vector F)
    → ((i : ℕ) → i < length ms → Q (member_at (record { members = ms; leads = ts }) i) (nth ts i)) → Q w (nth ts p)
    → (i : ℕ) → i < length (set ms p w) → Q (member_at (record { members = set ms p w; leads = ts }) i) (nth ts i)
each-replaced Q ms ts p w f q i l =
    let inside : i < length ms = omega (arith, l, length-set ms p w) in
    elim (cases_eq i p) [
      | inl e ↦
          subst (λ k. Q (slice_index_or (set ms p w) k []) (nth ts k)) (sym e)
          (subst (λ x. Q x (nth ts p)) (sym (get_or-set_same ms p w [] (subst (λ k. k < length ms) e inside))) q)
      | inr n ↦ subst (λ x. Q x (nth ts i)) (sym (get_or-set_other ms p i w [] n)) (f i inside)
    ]

module _ {F : Type 0} {J : Job F} {s : State F} {d : ℕ} (r : IsRun J s d (length J.gens) (length (bucket s.queue d)) (d + 1))
    (p : ℕ) (l : p < length s.members) {w : Vector F} (x : IsNewMember s r.0.done p w) where
  abbrev of : IsJob J
  of = r.0.done.of

  abbrev L : IsFreeModule (module_of J)
  L = r.0.done.of.lawful

  abbrev old : HaveDone J (held s) (d + 1) (IsGeneratorDone J d (length J.gens)) (IsPairDone s d (length (bucket s.queue d)))
  old = r.0.done

  abbrev ms : List (Vector F)
  ms = set s.members p w

  abbrev w' : WithLeads F
  w' = record { members = set s.members p w; leads = s.queue.leads }

  many : length (set s.members p w) ≡ length s.members
  many = length-set s.members p w

  each : (Q : Vector F → Term → Type 0) → ((i : ℕ) → i < length s.members → Q (member_at (held s) i) (lead_at (held s) i))
      → Q w (lead_at (held s) p) → (i : ℕ) → i < length (set s.members p w) → Q (member_at w' i) (lead_at w' i)
  each Q f q i b = each-replaced Q s.members s.queue.leads p w f q i b

  new-led : AreLed (module_of J) w'
  new-led = record {
    vectors = All-set (IsIn (module_of J)) s.members p w x.vector old.led.vectors;
    same_length = old.led.same_length ∙ sym many;
    led = each (λ v t. (c : F) × IsGreatestTerm (elimination_order J.split) v t c) old.led.led (J.ring.one, x.greatest);
    homogeneous = each (λ v t. HasDegree (module_of J) (degree_of (module_of J) t) v) old.led.homogeneous x.of_degree;
  }

  -- what holds of the members without what they generate
  bare : HaveDone J w' (d + 1) (λ i. ⊥) (λ j i. ⊥)
  bare = record {
    of = of;
    led = new-led;
    monic = each (λ v t. IsGreatestTerm (elimination_order J.split) v t J.ring.one) old.monic x.greatest;
    members = each (λ v t. submodule J v) old.members x.member;
    low = λ i b. old.low i (omega (arith, b, many));
    apart = λ i j a b q. old.apart i j (omega (arith, a, many)) (omega (arith, b, many)) q;
    generators = λ i b z. absurd z;
    resolved = λ j i a b z. absurd z;
  }

  -- the tail of the new member is reduced, and the others stay as they are
  now-reduced : (P Q : ℕ → Type 0) → ((i : ℕ) → Q i → (i ≡ p) ⊎ P i) → AreReducedAt (held s) P → AreReducedAt w' Q
  now-reduced P Q f h i j a b q =
      let a' : i < length s.members = omega (arith, a, many) in
      let b' : j < length s.members = omega (arith, b, many) in
      elim (cases_eq i p) [
        | inl e ↦
            subst (λ k. IsFreeOf w' k j) (sym e)
            (subst (λ x. All (λ (c : Term × F). c.0 ≢ lead_at (held s) p → ¬ (TermDivides (lead_at (held s) j) c.0)) (terms x))
            (sym (get_or-set_same s.members p w [] l)) (x.tails j b'))
        | inr n ↦
            subst (λ x. All (λ (c : Term × F). c.0 ≢ lead_at (held s) i → ¬ (TermDivides (lead_at (held s) j) c.0)) (terms x))
            (sym (get_or-set_other s.members p i w [] n))
            (h i j a' b' (elim (f i q) [ inl e ↦ absurd (n e) | inr z ↦ z ]))
      ]

  -- each lead up to degree d is a multiple of one of the leads
  known-leads : (t : Term) → IsLead (elimination_order J.split) (submodule J) t → degree_of (module_of J) t ≤ d
      → (j : ℕ) × (j < length s.queue.leads) × TermDivides (slice_index_or s.queue.leads j Rattle.hp_module.specs.Leads.no_term) t
  known-leads t u low =
      let e = plain of t in
      let k = lead-up_to old d (known r.0 r.1) t u (omega (arith, low, e)) in
      let k1 = k.1 in
      (k.0, omega (arith, k1, old.led.same_length), k.2)

  module _ (v : Vector F) (hv : IsIn (module_of J) v) (e : ℕ) (low : e ≤ d) (gv : submodule J v) (degree : HasDegree (module_of J) e v) where
    -- a vector of the submodule of such a degree is generated,
    now-generated : IsGenerated J.ring J.width ms v
    now-generated =
        let D = division_exists L new-led v hv e degree in
        generated_up_to L J.gens of.vectors d s.queue.leads known-leads new-led refl bare.members hv e low gv degree D.2

    -- and leaves zero
    now-zero : (qs y : Vector F) × IsDivided (module_of J) v w' qs y × (y ≡ zero_vector J.ring J.width)
    now-zero =
        let D = division_exists L new-led v hv e degree in
        (D.0, D.1, D.2, remainder_up_to L J.gens of.vectors d s.queue.leads known-leads new-led refl bare.members hv e low gv degree D.2)

  module _ (s' : State F) (members_are : s'.members ≡ set s.members p w) (queue_is : s'.queue ≡ s.queue) where
    abbrev s1 : State F
    s1 = record { divisors = s'.divisors; members = set s.members p w; queue = s.queue }

    degree-low : (e k : ℕ) → Rattle.hp_groebner.specs.Runs.IsDone d (length (bucket s.queue d)) e k → e ≤ d
    degree-low e k o = elim o [ inl a ↦ omega (arith, a) | inr a ↦ let b = a.0 in omega (arith, b) ]

    generators-are : (i : ℕ) → i < length J.gens → IsGeneratorDone J d (length J.gens) i → IsGenerated J.ring J.width ms (generator J i)
    generators-are i b o =
        let low : generator_degree J i ≤ d = elim o [ inl a ↦ omega (arith, a) | inr a ↦ let c = a.0 in omega (arith, c) ] in
        now-generated (generator J i) (of.vectors i [] b) (generator_degree J i) low
        (generated-member (laws of) (comm of) J.width J.gens of.vectors i b) (of.homogeneous i b)

    resolved-are : (j i : ℕ) → j < length ms → i < length ms → IsPairDone s d (length (bucket s.queue d)) j i
        → IsResolved bare.of.lawful bare.led (j + 1) (i + 1)
    resolved-are j i a b o =
        let e : ℕ = o.0 in
        let k : ℕ = o.1 in
        let q = r.0.queue.listed e k (0, 0) o.2 in
        let pr : IsPair s.queue.leads j i = subst (λ u. IsPair s.queue.leads u.0 u.1) o.4 q.0 in
        let de : pair_degree s.queue.leads j i ≡ e = subst (λ u. pair_degree s.queue.leads u.0 u.1 ≡ e) o.4 q.1 in
        let z = now-zero (pair_vector J.ring w' j i J.ring.one J.ring.one) (pair-in s1 bare pr) e (degree-low e k o.3) (pair-member s1 bare pr)
        (pair-homogeneous s1 bare pr de) in
        let j-back : j ≡ j + 1 - 1 = omega arith in
        let i-back : i ≡ i + 1 - 1 = omega arith in
        resolved-zero bare.of.lawful bare.led bare.monic (j + 1) (i + 1) (omega arith) (omega (arith, a)) (omega arith) (omega (arith, b))
        (ap (λ n. (nth s.queue.leads n).comp) (sym j-back) ∙ pr.same_component ∙ ap (λ n. (nth s.queue.leads n).comp) i-back)
        (subst (λ u. IsDivided (module_of J) u w' z.0 z.1)
        (λ n. pair_vector J.ring w' (j-back n) (i-back n) J.ring.one J.ring.one) z.2) z.3

    unfoldable now-done : HaveDone J w' (d + 1) (IsGeneratorDone J d (length J.gens)) (IsPairDone s d (length (bucket s.queue d)))
    now-done = redone bare generators-are resolved-are

  -- so one place more has a reduced tail
  pub replaced-tails : (s' : State F) → IsReplaced J s p w s' → AreReducedAt (held s) (λ i. i < p) → AreReducedAt (held s') (λ i. i < p + 1)
  replaced-tails s' y h =
      let same : w' ≡ held s' = (λ i. record { members = sym y.members i; leads = ap (λ q. q.leads) (sym y.queue) i }) in
      subst (λ u. AreReducedAt u (λ i. i < p + 1)) same
      (now-reduced (λ i. i < p) (λ i. i < p + 1) (λ i z. elim (cases_lt i p) [ inl low ↦ inr low | inr high ↦ inl (omega (arith, z, high)) ]) h)

  pub replaced-run : (s' : State F) → IsReplaced J s p w s' → IsRun J s' d (length J.gens) (length (bucket s'.queue d)) (d + 1)
  replaced-run s' y =
      let s1 : State F = record { divisors = s'.divisors; members = set s.members p w; queue = s.queue } in
      let same : s1 ≡ s' = (λ i. record { divisors = s'.divisors; members = sym y.members i; queue = sym y.queue i }) in
      subst (λ u. IsRun J u d (length J.gens) (length (bucket u.queue d)) (d + 1)) same (
        record {
          done = now-done s' y.members y.queue;
          divisors = y.divisors;
          divisors_are = y.divisors_are ∙ ap held (sym same);
          queue = r.0.queue;
          calm = r.0.calm;
          passed = r.0.passed;
          tails = now-reduced (λ i. degree (lead_at (held s) i).mono < d) (λ i. degree (lead_at (held s) i).mono < d) (λ i z. inr z) r.0.tails;
        },
        r.1,
      )
