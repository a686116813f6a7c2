-- One member more in a run, and the leads that are known in it.
use Rattle.std.specs.Prelude.{◌≡◌, ◌⊎◌, ℕ, ◌+◌, ◌-◌, ◌<◌, ◌≤◌, List, [], ◌∷◌, ◌++◌, length, slice_index_or}
use Rattle.std.proofs.lemmas.Bool.{cases_lt}
use Rattle.std.proofs.lemmas.List.{get_or_append_left, get_or-append_right, get_or_default, length-append}
use Rattle.std.proofs.lemmas.Option.{slice_get_within, get_or_from_slice_get}
use Rattle.std.proofs.Math.Seq.{get_or-append_seam}
use mathlib.Core.Logic.{inl, inr}
use mathlib.Core.Path.{refl, sym, ap, ◌∙◌, subst}
use native.Mathlib.Omega.{arith}
use Rattle.hp_mono.specs.declared.term.Term.{Term}
use Rattle.hp_mono.specs.Monomials.{IsMonomial, degree, lcm}
use Rattle.hp_mono.specs.TermOrders.{TermDivides}
use Rattle.hp_module.specs.Vectors.{Vector}
use Rattle.hp_module.specs.FreeModules.{HasDegree}
use Rattle.hp_module.specs.Leads.{IsGreatestTerm, lead_at, no_term}
use Rattle.hp_module.specs.ElimOrders.{elimination_order}
use Rattle.hp_module.proofs.DividingTerms.{divides-itself}
use Rattle.hp_module.proofs.LongerBases.{longer}
use Rattle.hp_groebner.specs.LimitRules.{AreDifferentLeastLeads, HasTooManyPairs, IsLeastLeadUpTo, StopsForPairs}
use Rattle.hp_groebner.specs.PairQueues.{IsPair, bucket, nth, pair_degree}
use Rattle.hp_groebner.specs.Runs.{AreReducedAt, HaveDone, IsGeneratorDone, IsPairDone, IsPushed, IsRunning, Job, State, held, module_of, pair_at, submodule}
use Rattle.hp_groebner.proofs.PairDegrees.{lcm-higher}
use Rattle.hp_groebner.proofs.RunMembers.{AreKnown, lead-monomial, lead-within, least-below, lead-degree, longer-done}
use Rattle.hp_groebner.proofs.KeptTails.{longer-tails}
use Rattle.hp_groebner.proofs.RunPairs.{all-settled, low-pair, pair-within}

pub nth-earlier : (ts : List Term) (t : Term) (i : ℕ) → i < length ts → nth (ts ++ t ∷ []) i ≡ nth ts i
nth-earlier ts t i l = get_or_append_left ts (t ∷ []) no_term i l

pub nth-last : (ts : List Term) (t : Term) → nth (ts ++ t ∷ []) (length ts) ≡ t
nth-last ts t = get_or-append_seam ts t [] no_term

-- a pair of the longer list is one of the list, or its later lead is the last
pub longer-pair : (ts : List Term) (t : Term) (j i : ℕ) → IsPair (ts ++ t ∷ []) j i
    → IsPair ts j i ⊎ ((j < length ts) × (i ≡ length ts) × ((nth ts j).comp ≡ t.comp))
longer-pair ts t j i p =
    let a = p.earlier in
    let b = p.within in
    let many = length-append ts (t ∷ []) in
    let j_low : j < length ts = omega (arith, a, b, many) in
    let ej = ap (λ u. u.comp) (nth-earlier ts t j j_low) in
    elim (cases_lt i (length ts)) [
      | inl low ↦ inl record {
        earlier = a;
        within = low;
        same_component = sym ej ∙ p.same_component ∙ ap (λ u. u.comp) (nth-earlier ts t i low);
      }
      | inr high ↦
          let e : i ≡ length ts = omega (arith, b, many, high) in
          inr (j_low, e, sym ej ∙ p.same_component ∙ ap (λ k. (nth (ts ++ t ∷ []) k).comp) e ∙ ap (λ u. u.comp) (nth-last ts t))
    ]

module _ {F : Type 0} {J : Job F} {s : State F} {d g p : ℕ} (r : IsRunning J s d g p (d + 1)) where
  abbrev h : HaveDone J (held s) (d + 1) (IsGeneratorDone J d g) (IsPairDone s d p)
  h = r.done

  -- what is known of the degrees below d
  pub known-below : (e : ℕ) → e < d → AreKnown r.done e
  known-below e l = record {
    generated = λ i b z. r.done.generators i b (inl (omega (arith, z, l)));
    settled = all-settled s r.done r.queue e (λ j i q z. low-pair s r.done d r.calm j i q (omega (arith, z, l)))
        (λ a k x y. (a, k, y, inl (omega (arith, x, l)), refl));
  }

  pub lead-low : (i : ℕ) → i < length s.members → degree (lead_at (held s) i).mono ≤ d
  lead-low i b = let k = r.done.low i b in omega (arith, k)

  -- The leads are least leads of degree at most d.
  pub least-lead : (i : ℕ) → i < length s.members → IsLeastLeadUpTo (elimination_order J.split) (submodule J) d (lead_at (held s) i)
  least-lead i b = (least-below r.done d (omega arith) known-below i b, lead-low i b)

  pub different-leads : AreDifferentLeastLeads (elimination_order J.split) (submodule J) d s.queue.leads
  different-leads = record {
    each = λ i x l. subst (IsLeastLeadUpTo (elimination_order J.split) (submodule J) d) (get_or_default s.queue.leads i no_term x l)
        (least-lead i (omega (arith, l, r.done.led.same_length)));
    once = λ i j t a b.
        let li = slice_get_within s.queue.leads i t a in
        let lj = slice_get_within s.queue.leads j t b in
        let ei = get_or_from_slice_get s.queue.leads i t no_term a in
        let ej = get_or_from_slice_get s.queue.leads j t no_term b in
        let mi : i < length s.members = omega (arith, li, r.done.led.same_length) in
        let mj : j < length s.members = omega (arith, lj, r.done.led.same_length) in
        r.done.apart i j mi mj (subst (λ u. TermDivides u (lead_at (held s) j)) (ej ∙ sym ei)
        (divides-itself (lead_at (held s) j) (lead-monomial r.done j mj)));
  }

  -- Where their pairs are more than the limit, the rule stops for the pairs.
  pub pairs-stop : J.limits.pairs < s.queue.pairs → StopsForPairs (elimination_order J.split) (submodule J) J.limits
  pairs-stop l =
      let c = r.queue.counted in
      let many : HasTooManyPairs (elimination_order J.split) (submodule J) J.limits d =
      (s.queue.leads, different-leads, omega (arith, l, c)) in
      (d, (inl many, r.passed), many)

  module _ {v : Vector F} {t : Term} {s' : State F} (gv : submodule J v)
      (gt : IsGreatestTerm (elimination_order J.split) v t J.ring.one) (hd : HasDegree (module_of J) d v)
      (free : (i : ℕ) → i < length s.members → ¬ (TermDivides (lead_at (held s) i) t)) (x : IsPushed J s v t s') where
    abbrev leads : List Term
    leads = s.queue.leads

    same_many : length leads ≡ length s.members
    same_many = r.done.led.same_length

    pub t-degree : degree t.mono ≡ d
    t-degree = lead-degree r.done d (omega arith) gv gt hd free lead-low

    pub t-monomial : IsMonomial t.mono
    t-monomial = (lead-within r.done.of t (v, J.ring.one, gv, gt)).0

    -- a pair of the new lead has an lcm of higher degree
    new-high : (j i : ℕ) → j < length s.queue.leads → i ≡ length s.queue.leads → (nth s.queue.leads j).comp ≡ t.comp
        → d < pair_degree (s.queue.leads ++ t ∷ []) j i
    new-high j i l e c =
        let jw : j < length s.members = omega (arith, l, same_many) in
        let z = lcm-higher (nth leads j) t (lead-monomial r.done j jw) t-monomial c (free j jw) in
        let ej = nth-earlier leads t j l in
        let ei = ap (nth (leads ++ t ∷ [])) e ∙ nth-last leads t in
        let q : pair_degree (leads ++ t ∷ []) j i ≡ degree (lcm (nth leads j).mono t.mono) =
        (λ k. degree (lcm (ej k).mono (ei k).mono)) in
        omega (arith, z, q, t-degree)

    -- in the buckets up to degree d nothing is new
    pub no-new : (e k : ℕ) → e ≤ d → k < length (bucket s'.queue e) → k < length (bucket s.queue e)
    no-new e k le l =
        let b = x.longer.buckets e in
        let us = b.0 in
        let split = b.1 in
        let whole : k < length (bucket s.queue e ++ us) = subst (λ z. k < length z) split l in
        elim (cases_lt k (length (bucket s.queue e))) [
          | inl low ↦ low
          | inr high ↦
              let m : ℕ = k - length (bucket s.queue e) in
              let inside : m < length us = omega (arith, whole, high, length-append (bucket s.queue e) us) in
              let j : ℕ = (pair_at s' e k).0 in
              let i : ℕ = (pair_at s' e k).1 in
              let here : pair_at s' e k ≡ slice_index_or us m (0, 0) =
              ap (λ z. slice_index_or z k (0, 0)) split ∙ get_or-append_right (bucket s.queue e) us (length (bucket s.queue e)) k (0, 0) refl high in
              let last : i ≡ length leads = ap (λ u. u.1) here ∙ b.2 m (0, 0) inside in
              let q' = subst (λ ts. IsPair ts j i × (pair_degree ts j i ≡ e)) x.longer.leads (x.queue.listed e k (0, 0) l) in
              elim (longer-pair leads t j i q'.0) [
                | inl old ↦ let w = old.within in absurd (omega (arith, w, last))
                | inr new ↦
                    let z = new-high j i new.0 new.1 new.2 in
                    let z1 = q'.1 in
                    absurd (omega (arith, z, z1, le))
              ]
        ]

    pub same-pair : (e k : ℕ) → k < length (bucket s.queue e) → pair_at s' e k ≡ pair_at s e k
    same-pair e k low =
        let b = x.longer.buckets e in
        ap (λ z. slice_index_or z k (0, 0)) b.1 ∙ get_or_append_left (bucket s.queue e) b.0 (0, 0) k low

    pub same-bucket : (e : ℕ) → e ≤ d → length (bucket s'.queue e) ≡ length (bucket s.queue e)
    same-bucket e le =
        let b = x.longer.buckets e in
        let many = ap length b.1 ∙ length-append (bucket s.queue e) b.0 in
        elim (cases_lt (length (bucket s.queue e)) (length (bucket s'.queue e))) [
          | inl l ↦ let z = no-new e (length (bucket s.queue e)) le l in absurd (omega (arith, z))
          | inr l ↦ omega (arith, l, many)
        ]

    pub earlier-done : (j i : ℕ) → IsPairDone s' d p j i → (j < length s.members) × (i < length s.members) × IsPairDone s d p j i
    earlier-done j i (e, k, l, done, same) =
        let le : e ≤ d = elim done [ inl b ↦ omega (arith, b) | inr c ↦ let c0 = c.0 in omega (arith, c0) ] in
        let low = no-new e k le l in
        let here : pair_at s e k ≡ (j, i) = sym (same-pair e k low) ∙ same in
        let q : IsPair leads j i = subst (λ u. IsPair leads u.0 u.1) here (r.queue.listed e k (0, 0) low).0 in
        let w = pair-within s r.done q in
        (w.0, w.1, (e, k, low, done, here))

    -- what holds of the longer list,
    unfoldable pub pushed-done : HaveDone J (longer (held s) v t) (d + 1) (IsGeneratorDone J d g) (IsPairDone s' d p)
    pushed-done = longer-done r.done d (omega arith) gv gt hd free lead-low (λ i q. q) (λ j i a b q. earlier-done j i q)

    -- and with it of the run
    unfoldable pub pushed-with : HaveDone J (held s') (d + 1) (IsGeneratorDone J d g) (IsPairDone s' d p) → IsRunning J s' d g p (d + 1)
    pushed-with done = record {
      done = done;
      divisors = x.divisors;
      divisors_are = x.divisors_are;
      queue = x.queue;
      calm = λ j i q a b.
          let C : List Term → Type 0 = λ ts. IsPair ts j i → degree (nth ts j).mono < d → degree (nth ts i).mono < d → pair_degree ts j i ≤ J.limits.degree in
          let c : C (leads ++ t ∷ []) = (λ q a b.
          elim (longer-pair leads t j i q) [
            | inl old ↦
                let o1 = old.earlier in
                let o2 = old.within in
                let ej = nth-earlier leads t j (omega (arith, o1, o2)) in
                let ei = nth-earlier leads t i o2 in
                let z = r.calm j i old (subst (λ u. degree u.mono < d) ej a) (subst (λ u. degree u.mono < d) ei b) in
                let y : pair_degree (leads ++ t ∷ []) j i ≡ pair_degree leads j i = (λ k. degree (lcm (ej k).mono (ei k).mono)) in
                omega (arith, z, y)
            | inr new ↦
                let ei = ap (nth (leads ++ t ∷ [])) new.1 ∙ nth-last leads t in
                let z = subst (λ u. degree u.mono < d) ei b in
                absurd (omega (arith, z, t-degree))
          ]) in
          subst C (sym x.longer.leads) c q a b;
      passed = r.passed;
      tails = subst (λ w. AreReducedAt w (λ i. degree (lead_at w i).mono < d)) (sym x.held_is)
          (longer-tails r.done d t t-monomial t-degree v r.tails);
    }
