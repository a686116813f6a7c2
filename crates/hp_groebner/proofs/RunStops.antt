-- The end of a degree and of a run: the stop for the degree, the next degree, and no stop at all.
use Rattle.std.specs.Prelude.{◌≡◌, ℕ, ◌+◌, ◌<◌, ◌≤◌, IsTrue, List, [], length}
use Rattle.std.proofs.lemmas.Bool.{cases_lt}
use Rattle.std.proofs.lemmas.List.{get_or_default, get_or_past}
use Rattle.std.proofs.lemmas.List.Elements.{Contains-get_or}
use mathlib.Core.Logic.{inl, inr}
use mathlib.Core.Path.{refl, sym, ap, ◌∙◌, subst}
use native.Mathlib.Omega.{arith}
use Rattle.hp_mono.specs.declared.term.Term.{Term}
use Rattle.hp_mono.specs.Monomials.{degree}
use Rattle.hp_mono.specs.TermOrders.{TermDivides}
use Rattle.hp_mono.proofs.MonomialLaws.{lcm_comm}
use Rattle.hp_module.specs.Leads.{AreLeastLeadsUpTo, IsLead, lead_at, no_term}
use Rattle.hp_module.specs.ElimOrders.{elimination_order}
use Rattle.hp_module.specs.CriticalPairs.{critical_pairs, lcm_degree}
use Rattle.hp_module.proofs.DividingTerms.{divides-itself}
use Rattle.hp_module.proofs.TruncatedBases.{IsBasisUpTo, least_leads_up_to}
use Rattle.hp_groebner.specs.LimitRules.{AreDifferentLeastLeads, HasTooHighPair, HasTooManyPairs, IsPassed, NeverStops, StopsForDegree, most_degree}
use Rattle.hp_groebner.specs.PairQueues.{HasHighPair, IsPair, bucket, nth, pair_degree}
use Rattle.hp_groebner.specs.Runs.{AreReducedAt, HaveDone, IsRun, IsRunning, Job, State, generator_degree, held, submodule}
use Rattle.hp_groebner.proofs.PairCounts.{none-twice, pairs-fewer}
use Rattle.hp_groebner.proofs.RunMembers.{AreKnown, by_place, lead-monomial, lead-up_to, plain, redone}
use Rattle.hp_groebner.proofs.RunPairs.{all-settled, low-pair, pair-within}

-- a list of leads in which each place has its own lead
module _ {F : Type 0} {J : Job F} (s : State F) {top : ℕ} {P : ℕ → Type 0} {R : ℕ → ℕ → Type 0}
    (h : HaveDone J (held s) top P R) where
  abbrev Least : ℕ → List Term → Type 0
  Least e ts = AreLeastLeadsUpTo (elimination_order J.split) (submodule J) e ts

  -- where all of degree at most e is known, the leads are the least leads up to e
  pub least-leads : (e : ℕ) → top ≤ e + 1 → AreKnown h e
      → AreLeastLeadsUpTo (elimination_order J.split) (submodule J) e s.queue.leads
  least-leads e l known =
      let basis : IsBasisUpTo h.of.lawful J.gens h.of.vectors (generator_degree J) h.of.homogeneous h.led (by_place (length s.members)) e = record {
        members = h.members;
        low = λ i b. let k = h.low i b in let p = plain h.of (lead_at (held s) i) in omega (arith, k, p, l);
        generators = known.generated;
        pairs = known.settled;
        apart = h.apart;
      } in
      least_leads_up_to h.of.lawful J.gens h.of.vectors (generator_degree J) h.of.homogeneous h.led (by_place (length s.members)) basis (plain h.of)

  -- their pairs are all: none are too many where the list has few
  pub not-many : (e : ℕ) → AreLeastLeadsUpTo (elimination_order J.split) (submodule J) e s.queue.leads
      → length (critical_pairs s.queue.leads) ≤ J.limits.pairs
      → ¬ (HasTooManyPairs (elimination_order J.split) (submodule J) J.limits e)
  not-many e are few (ts, d, many) =
      let l = pairs-fewer ts s.queue.leads (none-twice ts d.once)
      (λ z c. (are.each z).1 (subst (λ u. Rattle.hp_groebner.specs.LimitRules.IsLeastLeadUpTo (elimination_order J.split) (submodule J) e u) c.2 (d.each c.0 z c.1))) in
      omega (arith, l, few, many)

  -- and none is too high where the list has none
  pub not-high : (e : ℕ) → AreLeastLeadsUpTo (elimination_order J.split) (submodule J) e s.queue.leads
      → ¬ (HasHighPair J.limits s.queue.leads)
      → ¬ (HasTooHighPair (elimination_order J.split) (submodule J) J.limits e)
  not-high e are low p =
      let leads = s.queue.leads in
      let c = (are.each p.first).1 p.first_lead in
      let d = (are.each p.second).1 p.second_lead in
      let ec : nth leads c.0 ≡ p.first = get_or_default leads c.0 no_term p.first c.1 ∙ c.2 in
      let ed : nth leads d.0 ≡ p.second = get_or_default leads d.0 no_term p.second d.1 ∙ d.2 in
      let high = p.high in
      elim (cases_lt c.0 d.0) [
        | inl l ↦ low (
          c.0,
          d.0,
          record { earlier = l; within = d.1; same_component = ap (λ u. u.comp) ec ∙ p.same_component ∙ sym (ap (λ u. u.comp) ed) },
          subst (λ n. J.limits.degree < n) (λ k. lcm_degree (sym ec k, sym ed k)) high,
        )
        | inr m ↦ elim (cases_lt d.0 c.0) [
          | inl l ↦ low (
            d.0,
            c.0,
            record { earlier = l; within = c.1; same_component = ap (λ u. u.comp) ed ∙ sym p.same_component ∙ sym (ap (λ u. u.comp) ec) },
            subst (λ n. J.limits.degree < n) ((λ k. lcm_degree (sym ec k, sym ed k)) ∙ ap degree (lcm_comm (nth leads c.0).mono (nth leads d.0).mono)) high,
          )
          | inr k ↦ absurd (p.different (sym ec ∙ ap (nth leads) (omega (arith, m, k)) ∙ ed))
        ]
      ]

  -- a high pair of the list is one of the least leads
  pub has-high : (e : ℕ) → AreLeastLeadsUpTo (elimination_order J.split) (submodule J) e s.queue.leads
      → HasHighPair J.limits s.queue.leads → HasTooHighPair (elimination_order J.split) (submodule J) J.limits e
  has-high e are (j, i, p, high) =
      let w = pair-within s h p in
      let wj = w.0 in
      let wi = w.1 in
      let lj : j < length s.queue.leads = omega (arith, wj, h.led.same_length) in
      let li : i < length s.queue.leads = omega (arith, wi, h.led.same_length) in
      let earlier = p.earlier in
      record {
        first = nth s.queue.leads j;
        second = nth s.queue.leads i;
        first_lead = (are.each (nth s.queue.leads j)).0 (Contains-get_or s.queue.leads j no_term lj);
        second_lead = (are.each (nth s.queue.leads i)).0 (Contains-get_or s.queue.leads i no_term li);
        different = λ q.
            let e = h.apart j i wj wi (subst (TermDivides (nth s.queue.leads j)) q (divides-itself (nth s.queue.leads j) (lead-monomial h j wj))) in
            omega (arith, e, earlier);
        same_component = p.same_component;
        high = high;
      }

-- ---- the end of a degree

module _ {F : Type 0} {J : Job F} {s : State F} {d : ℕ}
    (r : IsRunning J s d (length J.gens) (length (bucket s.queue d)) (d + 1)) (few : s.queue.pairs ≤ J.limits.pairs) where
  pub known : AreKnown r.done d
  known = record {
    generated = λ i b z. r.done.generators i b (elim (cases_lt (generator_degree J i) d) [
      | inl x ↦ inl x
      | inr x ↦ inr (omega (arith, x, z), b)
    ]);
    settled = all-settled s r.done r.queue d (low-pair s r.done d r.calm) (λ a k x y. (
      a,
      k,
      y,
      elim (cases_lt a d) [
        | inl z ↦ inl z
        | inr z ↦
            let e : a ≡ d = omega (arith, z, x) in
            inr (e, subst (λ n. k < length (bucket s.queue n)) e y)
      ],
      refl,
    ));
  }

  are : AreLeastLeadsUpTo (elimination_order J.split) (submodule J) d s.queue.leads
  are = least-leads s r.done d (omega arith) known

  few_pairs : length (critical_pairs s.queue.leads) ≤ J.limits.pairs
  few_pairs = let c = r.queue.counted in omega (arith, c, few)

  -- A pair above the limit stops for the degree,
  pub degree-stop : IsTrue s.queue.high → StopsForDegree (elimination_order J.split) (submodule J) J.limits
  degree-stop t = (d, (inr (has-high s r.done d are (r.queue.high.0 t)), r.passed), not-many s r.done d are few_pairs)

  -- and where there is none the next degree is begun.
  pub next-degree : ¬ (IsTrue s.queue.high) → AreReducedAt (held s) (λ i. i < length s.members) → IsRun J s (d + 1) 0 0 (d + 1)
  next-degree f tails =
      let low : ¬ (HasHighPair J.limits s.queue.leads) = (λ p. f (r.queue.high.1 p)) in (
        record {
          done = redone r.done (λ i b q. r.done.generators i b (elim q [
            | inl x ↦ elim (cases_lt (generator_degree J i) d) [ inl y ↦ inl y | inr y ↦ inr (omega (arith, x, y), b) ]
            | inr x ↦ let n = x.1 in absurd (omega (arith, n))
          ])) (λ j i a b q. r.done.resolved j i a b (
            q.0,
            q.1,
            q.2,
            elim q.3 [
              | inl x ↦ elim (cases_lt q.0 d) [
                | inl y ↦ inl y
                | inr y ↦
                    let e : q.0 ≡ d = omega (arith, x, y) in
                    inr (e, subst (λ n. q.1 < length (bucket s.queue n)) e q.2)
              ]
              | inr x ↦ let n = x.1 in absurd (omega (arith, n))
            ],
            q.4,
          ));
          divisors = r.divisors;
          divisors_are = r.divisors_are;
          queue = r.queue;
          calm = λ j i p a b. elim (cases_lt J.limits.degree (pair_degree s.queue.leads j i)) [
            | inl x ↦ absurd (low (j, i, p, x))
            | inr x ↦ omega (arith, x)
          ];
          passed = λ e l. elim (cases_lt e d) [
            | inl x ↦ r.passed e x
            | inr x ↦
                let same : d ≡ e = omega (arith, x, l) in
                subst (λ n. ¬ (IsPassed (elimination_order J.split) (submodule J) J.limits n)) same (λ z. elim z [
                  | inl many ↦ not-many s r.done d are few_pairs many
                  | inr high ↦ not-high s r.done d are low high
                ])
          ];
          tails = λ i j a b z. tails i j a b a;
        },
        few,
      )

-- ---- the end of a run

module _ {F : Type 0} {J : Job F} {s : State F} (r : IsRun J s (most_degree + 1) 0 0 (most_degree + 1)) where
  all-calm : (j i : ℕ) → IsPair s.queue.leads j i → pair_degree s.queue.leads j i ≤ J.limits.degree
  all-calm j i p =
      let w = pair-within s r.0.done p in
      r.0.calm j i p (r.0.done.low j w.0) (r.0.done.low i w.1)

  -- all degrees are known
  pub known-all : (e : ℕ) → AreKnown r.0.done e
  known-all e = record {
    generated = λ i b z. let k = r.0.done.of.degrees i b in r.0.done.generators i b (inl (omega (arith, k)));
    settled = all-settled s r.0.done r.0.queue e (λ j i p z. all-calm j i p) (λ a k x y.
        elim (cases_lt a (most_degree + 1)) [
          | inl z ↦ (a, k, y, inl z, refl)
          | inr z ↦
              let long = r.0.queue.long in
              let top = r.0.done.of.limits.degree in
              let none = get_or_past s.queue.due a [] (omega (arith, long, top, z)) in
              let y' = subst (λ (us : List (ℕ × ℕ)). k < length us) none y in
              absurd (omega (arith, y'))
        ]);
  }

  -- At no degree a limit is passed.
  pub never-stops : NeverStops (elimination_order J.split) (submodule J) J.limits
  never-stops e =
      elim (cases_lt e (most_degree + 1)) [
        | inl l ↦ r.0.passed e l
        | inr l ↦
            let are = least-leads s r.0.done e (omega (arith, l)) (known-all e) in
            let c = r.0.queue.counted in
            let few = r.1 in
            let few_pairs : length (critical_pairs s.queue.leads) ≤ J.limits.pairs = omega (arith, c, few) in
            λ z. elim z [
              | inl many ↦ not-many s r.0.done e are few_pairs many
              | inr high ↦ not-high s r.0.done e are (λ p. let z = all-calm p.0 p.1 p.2 in let y = p.3 in omega (arith, z, y)) high
            ]
      ]

  -- each lead is a multiple of one of the list
  pub all-divided : (t : Term) → IsLead (elimination_order J.split) (submodule J) t
      → (j : ℕ) × (j < length s.members) × TermDivides (lead_at (held s) j) t
  all-divided t l = lead-up_to r.0.done (degree t.mono) (known-all (degree t.mono)) t l (omega arith)
