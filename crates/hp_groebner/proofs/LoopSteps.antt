-- What a generator or a pair that was divided gives the loops.
use Rattle.std.specs.Prelude.{◌≡◌, ◌≢◌, ◌⊎◌, ℕ, ◌+◌, ◌<◌, ◌≤◌, Bool, true, false, IsTrue, List, [], length, slice_index_or}
use Rattle.std.proofs.lemmas.List.{get_or_default}
use mathlib.Core.Logic.{inl, inr}
use mathlib.Core.Path.{sym, ap, ◌∙◌, subst}
use native.Mathlib.Omega.{arith}
use Rattle.hp_algebra.specs.Ring.{RingOf}
use Rattle.hp_module.specs.Vectors.{Vector, IsGenerated, zero_vector}
use Rattle.hp_module.specs.FreeModules.{HasDegree, IsIn}
use Rattle.hp_module.specs.ElimOrders.{elimination_order}
use Rattle.hp_module.specs.CriticalPairs.{pair_vector}
use Rattle.hp_module.proofs.GreatestTerms.{greatest-degree}
use Rattle.hp_module.proofs.Symbols.{generated-zero}
use Rattle.hp_groebner.specs.declared.limits.Stop.{Stop}
use Rattle.hp_groebner.specs.declared.limits.Stop.TheVariants as stops
use Rattle.hp_groebner.specs.PairQueues.{Queue, bucket}
use Rattle.hp_groebner.specs.Runs.{AreReducedAt, HasLeadOfDegree, IsJob, IsOver, IsReduced, IsRun, IsRunStop, Job, State, generator, generator_degree, held, module_of, pair_at}
use Rattle.hp_groebner.proofs.RunMembers.{comm, higher, laws, plain}
use Rattle.hp_groebner.proofs.RunStops.{degree-stop, next-degree}
use Rattle.hp_groebner.proofs.RunReductions.{generator-step, generator-stop, pair-bucket, pair-step, pair-stop, with-generator}

pub not-true : (b : Bool) → b ≡ false → ¬ (IsTrue b)
not-true true e t = absurd (cc)
not-true false e t = absurd (cc)

module _ {F : Type 0} {J : Job F} (of : IsJob J) {k : ℕ} (l : k < length J.gens) {v : Vector F}
    (is : v ≡ slice_index_or J.gens k v) where
  pub generator-is : v ≡ generator J k
  generator-is = is ∙ get_or_default J.gens k v [] l

  pub generator-width : length v ≡ J.width
  generator-width = ap length generator-is ∙ (of.vectors k [] l).0

  pub generator-in : IsIn (module_of J) v
  generator-in = subst (IsIn (module_of J)) (sym generator-is) (of.vectors k [] l)

  -- the degree of the lead is that of the generator
  pub degree-is : {d : ℕ} → HasLeadOfDegree (elimination_order J.split) d v → generator_degree J k ≡ d
  degree-is {d} (t, c, g, e) =
      sym (greatest-degree of.lawful v t c (generator_degree J k) g (subst (HasDegree (module_of J) (generator_degree J k)) (sym generator-is) (of.homogeneous k l)))
      ∙ plain of t ∙ e

  pub generator-homogeneous : {d : ℕ} → HasLeadOfDegree (elimination_order J.split) d v → HasDegree (module_of J) d v
  generator-homogeneous h =
      subst (HasDegree (module_of J) _) (sym generator-is)
      (subst (λ n. HasDegree (module_of J) n (generator J k)) (degree-is h) (of.homogeneous k l))

module _ {F : Type 0} {J : Job F} {s : State F} {d k : ℕ} (r : IsRun J s d k 0 (d + 1)) (l : k < length J.gens) {v : Vector F}
    (is : v ≡ slice_index_or J.gens k v) where
  abbrev of : IsJob J
  of = r.0.done.of

  -- a generator of degree d was divided
  pub generator-on : HasLeadOfDegree (elimination_order J.split) d v → (s' : State F)
      → IsReduced J v s s' × (s'.queue.pairs ≤ J.limits.pairs) → IsRun J s' d (k + 1) 0 (d + 1)
  generator-on h s' x =
      (generator-step r.0 l (degree-is of l is h) (subst (λ u. IsReduced J u s s') (generator-is of l is) x.0), x.1)

  pub generator-over : HasLeadOfDegree (elimination_order J.split) d v → (s' : State F) (e : Stop) → IsOver J v s s' e → IsRunStop J e
  generator-over h s' stops.Pairs x =
      generator-stop r.0 l (degree-is of l is h) (subst (λ u. IsReduced J u s s') (generator-is of l is) x.0) x.1
  generator-over h s' stops.Degree x = absurd x
  generator-over h s' stops.Memory x = tt

  -- a generator that is zero, or of another degree, is passed
  pub generator-past : (v ≡ zero_vector J.ring (length v)) ⊎ ((e : ℕ) × (e ≢ d) × HasLeadOfDegree (elimination_order J.split) e v)
      → IsRun J s d (k + 1) 0 (d + 1)
  generator-past o = (
    with-generator r.0 (λ q. elim o [
      | inl z ↦
          subst (IsGenerated J.ring J.width s.members) (sym (sym (generator-is of l is) ∙ z ∙ ap (zero_vector J.ring) (generator-width of l is)))
          (generated-zero (laws of) (comm of) J.width s.members r.0.done.led.vectors)
      | inr n ↦ absurd (n.1 (sym (degree-is of l is n.2) ∙ q))
    ]),
    r.1,
  )

module _ {F : Type 0} {J : Job F} {s : State F} {d k : ℕ} (r : IsRun J s d (length J.gens) k (d + 1))
    (l : k < length (bucket s.queue d)) {v : Vector F}
    (is : v ≡ pair_vector J.ring (held s) (pair_at s d k).0 (pair_at s d k).1 J.ring.one J.ring.one) where
  -- a pair was divided
  pub pair-on : (s' : State F) → IsReduced J v s s' × (s'.queue.pairs ≤ J.limits.pairs) → IsRun J s' d (length J.gens) (k + 1) (d + 1)
  pair-on s' x = (pair-step r.0 l is x.0, x.1)

  pub pair-many : (s' : State F) → IsReduced J v s s' × (s'.queue.pairs ≤ J.limits.pairs)
      → length (bucket s'.queue d) ≡ length (bucket s.queue d)
  pair-many s' x = pair-bucket r.0 l is x.0

  pub pair-over : (s' : State F) (e : Stop) → IsOver J v s s' e → IsRunStop J e
  pair-over s' stops.Pairs x = pair-stop r.0 l is x.0 x.1
  pair-over s' stops.Degree x = absurd x
  pair-over s' stops.Memory x = tt

-- the vector of the pair that the queue was asked for
pub pair-read : {F : Type 0} (ring : RingOf F) (s : State F) (d k : ℕ) {q : Queue} {us : List (ℕ × ℕ)} {v : Vector F} → q ≡ s.queue
    → us ≡ bucket q d
    → v ≡ pair_vector ring (held s) (slice_index_or us k (0, 0)).0 (slice_index_or us k (0, 0)).1 ring.one ring.one
    → v ≡ pair_vector ring (held s) (pair_at s d k).0 (pair_at s d k).1 ring.one ring.one
pair-read ring s d k {q} {us} e f h =
    let z : us ≡ bucket s.queue d = f ∙ ap (λ p. bucket p d) e in
    h ∙ ap (λ (xs : List (ℕ × ℕ)). pair_vector ring (held s) (slice_index_or xs k (0, 0)).0 (slice_index_or xs k (0, 0)).1 ring.one ring.one) z

module _ {F : Type 0} {J : Job F} {s : State F} {d : ℕ} where
  -- at its beginning a degree has no member of it yet
  pub degree-begins : IsRun J s d 0 0 d → IsRun J s d 0 0 (d + 1)
  degree-begins r = (
    record {
      done = higher r.0.done (omega arith);
      divisors = r.0.divisors;
      divisors_are = r.0.divisors_are;
      queue = r.0.queue;
      calm = r.0.calm;
      passed = r.0.passed;
      tails = r.0.tails;
    },
    r.1,
  )

  -- a loop that has come to the end of the generators
  pub generators-end : {k : ℕ} → length J.gens ≤ k → k ≤ length J.gens → IsRun J s d k 0 (d + 1) → IsRun J s d (length J.gens) 0 (d + 1)
  generators-end {k} a b r = let e : k ≡ length J.gens = omega (arith, a, b) in subst (λ n. IsRun J s d n 0 (d + 1)) e r

  -- or of the pairs
  pub pairs-end : {k n : ℕ} → n ≤ k → k ≤ n → length (bucket s.queue d) ≡ n → IsRun J s d (length J.gens) k (d + 1)
      → IsRun J s d (length J.gens) (length (bucket s.queue d)) (d + 1)
  pairs-end {k} {n} a b m r =
      let e : k ≡ length (bucket s.queue d) = omega (arith, a, b, m) in subst (λ i. IsRun J s d (length J.gens) i (d + 1)) e r

module _ {F : Type 0} {J : Job F} {s : State F} {d : ℕ}
    (r : IsRun J s d (length J.gens) (length (bucket s.queue d)) (d + 1)) {q : Queue} {b : Bool} (is : q ≡ s.queue) (tested : b ≡ q.high) where
  high-is : b ≡ s.queue.high
  high-is = tested ∙ ap (λ (p : Queue). p.high) is

  -- the test of the limit at the end of a degree
  pub degree-over : b ≡ true → IsRunStop J stops.Degree
  degree-over e = degree-stop r.0 r.1 (sym high-is ∙ e)

  pub degree-passed : b ≡ false → AreReducedAt (held s) (λ i. i < length s.members) → IsRun J s (d + 1) 0 0 (d + 1)
  degree-passed e tails = next-degree r.0 r.1 (not-true s.queue.high (sym high-is ∙ e)) tails
