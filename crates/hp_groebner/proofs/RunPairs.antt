-- The pairs of a run: those that are done settle all pairs of their degrees.
use Rattle.std.specs.Prelude.{◌≡◌, ℕ, ◌+◌, ◌-◌, ◌<◌, ◌≤◌, length}
use Rattle.std.proofs.lemmas.List.{get_or_default}
use mathlib.Core.Path.{sym, ap, ◌∙◌, subst}
use native.Mathlib.Omega.{arith}
use Rattle.hp_mono.specs.Monomials.{cofactor, degree, product}
use Rattle.hp_mono.proofs.MonomialLaws.{cofactor_product, lcm_comm}
use Rattle.hp_module.specs.FreeModules.{degree_of}
use Rattle.hp_module.specs.Leads.{lead_at, lead_times}
use Rattle.hp_module.proofs.Criterion.{pair_symbol}
use Rattle.hp_module.proofs.ResolvedPairs.{AreSettled, IsResolved}
use Rattle.hp_groebner.specs.PairQueues.{IsPair, IsQueue, bucket, nth, pair_degree}
use Rattle.hp_groebner.specs.Runs.{HaveDone, Job, State, held, module_of, pair_at}
use Rattle.hp_groebner.proofs.PairDegrees.{cover-low, lcm-higher}
use Rattle.hp_groebner.proofs.RunMembers.{lead-monomial, plain}

module _ {F : Type 0} {J : Job F} (s : State F) {top : ℕ} {P : ℕ → Type 0} {R : ℕ → ℕ → Type 0}
    (h : HaveDone J (held s) top P R) where
  -- the degree of the lcm is that of the lead of the pair's symbol
  pub symbol-degree : (j i : ℕ) → 1 ≤ j → j ≤ length s.members → 1 ≤ i → i ≤ length s.members
      → degree_of (module_of J) (lead_times (held s) (pair_symbol h.of.lawful h.led i j))
      ≡ pair_degree s.queue.leads (j - 1) (i - 1)
  symbol-degree j i a b c d =
      let mj = lead-monomial h (j - 1) (omega (arith, a, b)) in
      let mi = lead-monomial h (i - 1) (omega (arith, c, d)) in
      plain h.of (lead_times (held s) (pair_symbol h.of.lawful h.led i j))
      ∙ ap degree (cofactor_product (lead_at (held s) (i - 1)).mono (lead_at (held s) (j - 1)).mono (mi ∙ sym mj)
      ∙ lcm_comm (lead_at (held s) (i - 1)).mono (lead_at (held s) (j - 1)).mono)

  pub pair-within : {j i : ℕ} → IsPair s.queue.leads j i → (j < length s.members) × (i < length s.members)
  pair-within p =
      let a = p.earlier in
      let b = p.within in
      (omega (arith, a, b, h.led.same_length), omega (arith, b, h.led.same_length))

  -- where all pairs of the buckets up to a degree have relations, all pairs up to it are settled
  pub all-settled : (q : IsQueue J.limits s.queue) (e : ℕ)
      → ((j i : ℕ) → IsPair s.queue.leads j i → pair_degree s.queue.leads j i ≤ e
      → pair_degree s.queue.leads j i ≤ J.limits.degree)
      → ((a k : ℕ) → a ≤ e → k < length (bucket s.queue a) → R (pair_at s a k).0 (pair_at s a k).1)
      → AreSettled h.of.lawful h.led (λ i. i) e
  all-settled q e calm done j i a b c d l m low =
      let leads = s.queue.leads in
      let J0 : ℕ = j - 1 in
      let I0 : ℕ = i - 1 in
      let p : IsPair leads J0 I0 = record {
        earlier = omega (arith, a, c, l);
        within = omega (arith, c, d, h.led.same_length);
        same_component = m;
      } in
      let deg = symbol-degree j i a b c d in
      let low' : pair_degree leads J0 I0 ≤ e = omega (arith, low, deg) in
      let cov = q.covered J0 I0 p (calm J0 I0 p low') in
      let k : ℕ = cov.0 in
      let cover = cov.1 in
      let at = cov.2 in
      let kw = pair-within cover.pair in
      let k0 = kw.0 in
      let iw = kw.1 in
      let jw : J0 < length s.members = omega (arith, a, b) in
      let deg' = cover-low (nth leads I0).mono (nth leads J0).mono (nth leads k).mono (lead-monomial h I0 iw) (lead-monomial h J0 jw)
      (lead-monomial h k k0) cover.divides in
      let le : pair_degree leads k I0 ≤ e = omega (arith, deg', low') in
      let same : pair_at s (pair_degree leads k I0) at.0 ≡ (k, I0) =
      get_or_default (bucket s.queue (pair_degree leads k I0)) at.0 (0, 0) (k, I0) at.1 ∙ at.2 in
      let r : R k I0 = subst (λ u. R u.0 u.1) same (done (pair_degree leads k I0) at.0 le at.1) in
      let back : I0 + 1 ≡ i = omega (arith, c) in
      let res : IsResolved h.of.lawful h.led (k + 1) i = subst (IsResolved h.of.lawful h.led (k + 1)) back (h.resolved k I0 k0 iw r) in
      let here : k + 1 - 1 ≡ k = omega arith in
      let before = cover.pair.earlier in
      record {
        place = k + 1;
        low = omega arith;
        high = omega (arith, k0);
        before = omega (arith, before);
        same_comp = ap (λ x. (nth leads x).comp) here ∙ cover.pair.same_component;
        factor = cover.divides.0;
        factor_monomial = cover.divides.1;
        divides = ap (λ x. product cover.divides.0 (cofactor (nth leads I0).mono (nth leads x).mono)) here ∙ cover.divides.2;
        resolved = res;
      }

  -- a pair of degree at most d has leads of degrees below d
  pub low-pair : (d : ℕ) → ((j i : ℕ) → IsPair s.queue.leads j i → degree (nth s.queue.leads j).mono < d
      → degree (nth s.queue.leads i).mono < d → pair_degree s.queue.leads j i ≤ J.limits.degree)
      → (j i : ℕ) → IsPair s.queue.leads j i → pair_degree s.queue.leads j i ≤ d
      → pair_degree s.queue.leads j i ≤ J.limits.degree
  low-pair d calm j i p l =
      let leads = s.queue.leads in
      let w = pair-within p in
      let mj = lead-monomial h j w.0 in
      let mi = lead-monomial h i w.1 in
      let earlier = p.earlier in
      let x = lcm-higher (nth leads j) (nth leads i) mj mi p.same_component
      (λ q. let e = h.apart j i w.0 w.1 q in omega (arith, e, earlier)) in
      let y = lcm-higher (nth leads i) (nth leads j) mi mj (sym p.same_component)
      (λ q. let e = h.apart i j w.1 w.0 q in omega (arith, e, earlier)) in
      let z = ap degree (lcm_comm (nth leads i).mono (nth leads j).mono) in
      calm j i p (omega (arith, y, z, l)) (omega (arith, x, l))
