-- A list of vectors with leads that gets one member more: what held of the earlier members still holds.
use Rattle.std.specs.Prelude.{◌≡◌, ℕ, ◌+◌, ◌-◌, ◌<◌, ◌≤◌, [], ◌∷◌, ◌++◌, length, slice_index_or}
use Rattle.std.specs.declared.cmp.Ordering.TheVariants.{Less}
use Rattle.std.proofs.lemmas.Bool.{cases_lt}
use Rattle.std.proofs.lemmas.List.{get_or_append_left, length-append}
use Rattle.std.proofs.lemmas.List.Elements.{All-push, All-weaker}
use Rattle.std.proofs.Math.Seq.{get_or-append_seam}
use mathlib.Core.Logic.{inl, inr}
use mathlib.Core.Path.{sym, ap, ◌∙◌, subst}
use native.Mathlib.Omega.{arith}
use Rattle.hp_algebra.specs.Ring.{IsRing, IsCommutative}
use Rattle.hp_mono.specs.declared.term.Term.{Term}
use Rattle.hp_mono.specs.Monomials.{cofactor, product}
use Rattle.hp_mono.specs.TermOrders.{IsTermWithin, times}
use Rattle.hp_sums.specs.FiniteSums.{total}
use Rattle.hp_sums.proofs.SumSetting.{SumSetting}
use Rattle.hp_sums.proofs.WeightedSums.{weighted_ext}
use Rattle.hp_sums.proofs.EqualTotals.{weighted-same}
use Rattle.hp_module.specs.Vectors.{Vector, IsGenerated, combination, zero_vector}
use Rattle.hp_module.specs.FreeModules.{FreeModule, IsFreeModule, IsIn, HasDegree, as_listed, coefficient_at, degree_of, terms}
use Rattle.hp_module.specs.Leads.{AreLed, IsGreatestTerm, WithLeads, lead_at, lead_times, member_at, no_term}
use Rattle.hp_module.proofs.VectorSums.{shifted, term_setting, terms-values}
use Rattle.hp_module.proofs.VectorCoefficients.{coefficient-ext, coefficient-zero, combination-vector, within, zero-vector}
use Rattle.hp_module.proofs.Symbols.{generated-chain, generated-member, vector_of}
use Rattle.hp_module.proofs.Criterion.{IsLower, lead_of, on_member, on_member-value, pair_symbol}
use Rattle.hp_module.proofs.GroebnerLaw.{combination-symbols}
use Rattle.hp_module.proofs.ResolvedPairs.{IsResolved, IsSettled}

-- the list with one member more
abbrev pub longer : {F : Type 0} → WithLeads F → Vector F → Term → WithLeads F
longer s r t = record { members = s.members ++ r ∷ []; leads = s.leads ++ t ∷ [] }

module _ {F : Type 0} {M : FreeModule F} (L : IsFreeModule M) {s : WithLeads F} (led : AreLed M s)
    {r : Vector F} {t : Term} {c : F}
    (hr : IsIn M r) (gt : IsGreatestTerm M.cmp r t c) (hd : HasDegree M (degree_of M t) r) where
  open M use {ring, width, cmp}

  abbrev laws : IsRing ring
  laws = L.field.is_ring

  abbrev comm : IsCommutative ring
  comm = L.field.commutes

  abbrev T : SumSetting Term F
  T = term_setting laws comm

  abbrev s' : WithLeads F
  s' = longer s r t

  pub longer-length : length (s.members ++ r ∷ []) ≡ length s.members + 1
  longer-length = length-append s.members (r ∷ [])

  -- ---- places

  pub earlier-member : (i : ℕ) → i < length s.members → member_at (longer s r t) i ≡ member_at s i
  earlier-member i l = get_or_append_left s.members (r ∷ []) [] i l

  pub earlier-lead : (i : ℕ) → i < length s.members → lead_at (longer s r t) i ≡ lead_at s i
  earlier-lead i l = get_or_append_left s.leads (t ∷ []) no_term i (omega (arith, l, led.same_length))

  pub last-member : member_at (longer s r t) (length s.members) ≡ r
  last-member = get_or-append_seam s.members r [] []

  pub last-lead : lead_at (longer s r t) (length s.members) ≡ t
  last-lead = ap (λ n. lead_at s' n) (sym led.same_length) ∙ get_or-append_seam s.leads t [] no_term

  -- a fact of the places of the longer list
  each-place : (P : Vector F → Term → Type 0) → ((i : ℕ) → i < length s.members → P (member_at s i) (lead_at s i))
      → P r t
      → (i : ℕ) → i < length (s.members ++ r ∷ []) → P (member_at (longer s r t) i) (lead_at (longer s r t) i)
  each-place P f p i l =
      elim (cases_lt i (length s.members)) [
        | inl low ↦
            let m = sym (earlier-member i low) in
            let q = sym (earlier-lead i low) in
            subst (λ v. P v (lead_at s' i)) m (subst (P (member_at s i)) q (f i low))
        | inr high ↦
            let e : length s.members ≡ i = omega (arith, l, high, longer-length) in
            subst (λ k. P (member_at s' k) (lead_at s' k)) e
            (subst (λ v. P v (lead_at s' (length s.members))) (sym last-member) (subst (P r) (sym last-lead) p))
      ]

  pub longer-led : AreLed M (longer s r t)
  longer-led = record {
    vectors = All-push (IsIn M) s.members r led.vectors hr;
    same_length = length-append s.leads (t ∷ []) ∙ ap (λ n. n + 1) led.same_length ∙ sym longer-length;
    led = each-place (λ v u. (x : F) × IsGreatestTerm cmp v u x) led.led (c, gt);
    homogeneous = each-place (λ v u. HasDegree M (degree_of M u) v) led.homogeneous hd;
  }

  -- ---- symbols of the earlier members

  pub wider : (a : Term) → IsTermWithin (length s.members) a → IsTermWithin (length (s.members ++ r ∷ [])) a
  wider a h = (h.0, h.1, omega (arith, h.2, longer-length))

  earlier-symbol : (b a : Term) → IsTermWithin (length s.members) a → on_member L longer-led b a ≡ on_member L led b a
  earlier-symbol b a h =
      ap (λ v. total as_listed ring (shifted a.mono (terms v)) b) (earlier-member (a.comp - 1) (omega (arith, h.1, h.2)))

  pub earlier-top : (a : Term) → IsTermWithin (length s.members) a → lead_times (longer s r t) a ≡ lead_times s a
  earlier-top a h = ap (times a.mono) (earlier-lead (a.comp - 1) (omega (arith, h.1, h.2)))

  pub earlier-lead_of : (i : ℕ) → 1 ≤ i → i ≤ length s.members → lead_of L longer-led i ≡ lead_of L led i
  earlier-lead_of i a b = earlier-lead (i - 1) (omega (arith, a, b))

  pub earlier-pair : (i j : ℕ) → 1 ≤ i → i ≤ length s.members → 1 ≤ j → j ≤ length s.members
      → pair_symbol L longer-led i j ≡ pair_symbol L led i j
  earlier-pair i j a b d e =
      let x = earlier-lead_of i a b in
      let y = earlier-lead_of j d e in
      λ k. record { mono = cofactor (x k).mono (y k).mono; comp = i }

  earlier-lower : (j i : ℕ) → 1 ≤ j → j ≤ length s.members → 1 ≤ i → i ≤ length s.members → (u : Term)
      → IsLower L led j i u → IsLower L longer-led j i u
  earlier-lower j i a b d e u p =
      let up = pair_symbol L led i j in
      let lower' : Term → Term → Type 0 = λ x y. (degree_of M x ≡ degree_of M y) × (cmp x y ≡ Less) in
      let in_up : IsTermWithin (length s.members) up =
      Rattle.hp_module.proofs.Criterion.pair_symbol-in L led i j d e a b in
      let x : lead_times s u ≡ lead_times s' u = sym (earlier-top u p.0) in
      let y : lead_times s up ≡ lead_times s' (pair_symbol L longer-led i j) =
      sym (earlier-top up in_up) ∙ ap (lead_times s') (sym (earlier-pair i j d e a b)) in
      let q = subst (lower' (lead_times s' u)) y (subst (λ z. lower' z (lead_times s up)) x (p.1, p.2)) in
      (wider u p.0, q.0, q.1)

  -- a pair that has a relation still has one
  pub earlier-resolved : (j i : ℕ) → 1 ≤ j → j ≤ length s.members → 1 ≤ i → i ≤ length s.members → IsResolved L led j i
      → IsResolved L longer-led j i
  earlier-resolved j i a b d e q =
      let n = length s.members in
      let n' = length (s.members ++ r ∷ []) in
      let xs = terms q.relation in
      let xv = terms-values laws comm 1 q.relation q.vector.1 in
      let xw = within laws comm n q.relation q.vector in
      let In : Term × F → Type 0 = λ u. IsTermWithin n u.0 in
      let w = vector_of laws comm n' xs xv (All-weaker In (λ u. IsTermWithin n' u.0) (λ u h. wider u.0 h) xs xw) in
      let wv = terms-values laws comm 1 w.0 w.1.1 in
      let cv = combination-vector laws comm width w.0 (s.members ++ r ∷ []) w.1.1 longer-led.vectors in
      let zero_at : (x : Term) → coefficient_at ring (combination ring width w.0 (s.members ++ r ∷ [])) x ≡ ring.zero =
      λ x. combination-symbols L longer-led w.0 w.1 x
      ∙ weighted-same T (on_member L longer-led x) (on_member-value L longer-led x) (terms w.0) xs wv xv w.2
      ∙ weighted_ext T (on_member L longer-led x) (on_member L led x) xs (λ k y l. earlier-symbol x (slice_index_or xs k y).0 (xw k y l))
      ∙ sym (combination-symbols L led q.relation q.vector x) ∙ ap (λ v. coefficient_at ring v x) q.zero ∙ coefficient-zero laws comm width x in
      let p = q.pair in
      let up = sym (earlier-pair i j d e a b) in
      let down = sym (earlier-pair j i a b d e) in
      record {
        relation = w.0;
        vector = w.1;
        zero = coefficient-ext laws comm width _ (zero_vector ring width) cv (zero-vector laws comm width)
            (λ x. zero_at x ∙ sym (coefficient-zero laws comm width x));
        pair = record {
          first = p.first;
          second = p.second;
          first_value = p.first_value;
          second_value = p.second_value;
          first_nonzero = p.first_nonzero;
          rest = p.rest;
          rest_values = p.rest_values;
          lower = All-weaker (λ (u : Term × F). IsLower L led j i u.0) (λ u. IsLower L longer-led j i u.0)
              (λ u h. earlier-lower j i a b d e u.0 h) p.rest p.lower;
          same = λ x. w.2 x ∙ p.same x ∙ (λ k. total as_listed ring ((up k, p.first) ∷ (down k, p.second) ∷ p.rest) x);
        };
      }

  -- and a settled pair stays settled
  pub earlier-settled : (rank : ℕ → ℕ) (j i : ℕ) → 1 ≤ j → j ≤ length s.members → 1 ≤ i → i ≤ length s.members
      → IsSettled L led rank j i → IsSettled L longer-led rank j i
  earlier-settled rank j i a b d e q =
      let li = sym (earlier-lead_of i d e) in
      let lj = sym (earlier-lead_of j a b) in
      let lp = sym (earlier-lead_of q.place q.low q.high) in
      record {
        place = q.place;
        low = q.low;
        high = omega (arith, q.high, longer-length);
        before = q.before;
        same_comp = sym (ap (λ u. u.comp) lp) ∙ q.same_comp ∙ ap (λ u. u.comp) li;
        factor = q.factor;
        factor_monomial = q.factor_monomial;
        divides = (λ k. product q.factor (cofactor (sym li k).mono (sym lp k).mono)) ∙ q.divides ∙ (λ k. cofactor (li k).mono (lj k).mono);
        resolved = earlier-resolved q.place i q.low q.high d e q.resolved;
      }

  -- what was generated still is, and the new member is
  pub earlier-generated : (v : Vector F) → IsGenerated ring width s.members v
      → IsGenerated ring width (s.members ++ r ∷ []) v
  earlier-generated v g = generated-chain laws comm width (s.members ++ r ∷ []) s.members longer-led.vectors led.vectors
      (λ i l. subst (IsGenerated ring width (s.members ++ r ∷ [])) (earlier-member i l)
      (generated-member laws comm width (s.members ++ r ∷ []) longer-led.vectors i (omega (arith, l, longer-length)))) v g

  pub last-generated : IsGenerated ring width (s.members ++ r ∷ []) r
  last-generated = subst (IsGenerated ring width (s.members ++ r ∷ [])) last-member
      (generated-member laws comm width (s.members ++ r ∷ []) longer-led.vectors (length s.members) (omega (arith, longer-length)))
