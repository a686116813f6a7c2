-- A member of a run with a reduced tail.
use Rattle.std.specs.Prelude.{◌≡◌, ◌≢◌, ◌⊎◌, ℕ, ◌+◌, ◌-◌, ◌<◌, ◌≤◌, Bool, true, false, cond, List, [], length, All, slice_index_or}
use Rattle.std.specs.declared.cmp.Ordering.{Ordering}
use Rattle.std.specs.declared.cmp.Ordering.TheVariants.{Less}
use Rattle.std.specs.Ordering.{eq_by_cmp}
use Rattle.std.proofs.lemmas.List.Elements.{All-weaker}
use mathlib.Core.Logic.{inl, inr}
use mathlib.Core.Path.{refl, sym, ap, ◌∙◌, subst}
use native.Mathlib.Omega.{arith}
use Rattle.hp_algebra.specs.Ring.{IsRing, IsCommutative}
use Rattle.hp_algebra.proofs.Rings.{zero_add}
use Rattle.hp_mono.specs.declared.term.Term.{Term}
use Rattle.hp_mono.specs.TermOrders.{IsTermWithin, TermDivides}
use Rattle.hp_sums.proofs.EqualTotals.{eq-itself}
use Rattle.hp_module.specs.Vectors.{Vector, combination, vector_plus}
use Rattle.hp_module.specs.FreeModules.{IsFreeModule, IsIn, HasDegree, as_listed, coefficient_at, degree_of, plus_term, terms}
use Rattle.hp_module.specs.Leads.{IsGreatestTerm, lead_at, member_at, no_term}
use Rattle.hp_module.specs.ElimOrders.{elimination_order}
use Rattle.hp_module.proofs.VectorSums.{term_setting}
use Rattle.hp_module.proofs.VectorCoefficients.{all-terms, at-term, coefficient-ext, coefficient-plus, coefficient-plus_term, coefficient-value, coefficient-zero, combination-vector, occurs, plus-vector, plus_term-all, plus_term-vector, within}
use Rattle.hp_module.proofs.OrderedTerms.{greater-back, not_greater-chain, not_less-back, not_less-itself}
use Rattle.hp_module.proofs.DividingTerms.{divides-itself}
use Rattle.hp_module.proofs.GreatestTerms.{greatest-at, zero_or_greatest}
use Rattle.hp_module.proofs.Symbols.{generated-chain}
use Rattle.hp_groebner.specs.BasisEnds.{IsTailReduced}
use Rattle.hp_groebner.specs.Runs.{HaveDone, Job, State, held, module_of, submodule}
use Rattle.hp_groebner.proofs.RunReductions.{rest-member}

module _ {F : Type 0} {J : Job F} (s : State F) {top : ℕ} {P : ℕ → Type 0} {R : ℕ → ℕ → Type 0}
    (h : HaveDone J (held s) top P R) (p : ℕ) where
  open J use {ring, width}

  abbrev L : IsFreeModule (module_of J)
  L = h.of.lawful

  abbrev laws : IsRing ring
  laws = h.of.lawful.field.is_ring

  abbrev comm : IsCommutative ring
  comm = h.of.lawful.field.commutes

  abbrev cmp : Term → Term → Ordering
  cmp = elimination_order J.split

  abbrev t : Term
  t = lead_at (held s) p

  abbrev g : Vector F
  g = member_at (held s) p

  abbrev co : Vector F → Term → F
  co v b = coefficient_at ring v b

  abbrev v1 : ring.IsValue ring.one
  v1 = laws.one_value

  abbrev vm : ring.IsValue (ring.neg ring.one)
  vm = laws.neg_value ring.one laws.one_value

  -- the member without its lead
  abbrev pub tail : Vector F
  tail = plus_term J.ring (member_at (held s) p) (lead_at (held s) p) (J.ring.neg J.ring.one)

  -- What a member with a reduced tail is: one of the submodule with the same lead and degree, no other term of which is
  -- a multiple of a lead.
  pub record IsNewMember (w : Vector F) : Type 0 where
    pub member : submodule J w
    pub vector : IsIn (module_of J) w
    pub greatest : IsGreatestTerm (elimination_order J.split) w (lead_at (held s) p) J.ring.one
    pub of_degree : HasDegree (module_of J) (degree_of (module_of J) (lead_at (held s) p)) w
    pub tails : (j : ℕ) → j < length s.members
        → All (λ a. a.0 ≢ lead_at (held s) p → ¬ (TermDivides (lead_at (held s) j) a.0)) (terms w)

  module _ (l : p < length s.members) where
    hg : IsIn (module_of J) g
    hg = h.led.vectors p [] l

    at : IsTermWithin width t × (co g t ≡ ring.one) × (ring.one ≢ ring.zero)
    at = greatest-at L g t ring.one hg (h.monic p l)

    pub inside : IsTermWithin J.width (lead_at (held s) p)
    inside = at.0

    pub tail-in : IsIn (module_of J) tail
    tail-in = plus_term-vector laws comm width g t (ring.neg ring.one) hg inside vm

    pub tail-degree : HasDegree (module_of J) (degree_of (module_of J) (lead_at (held s) p)) tail
    tail-degree = plus_term-all laws comm width (λ b. degree_of (module_of J) b ≡ degree_of (module_of J) t)
        g t (ring.neg ring.one) hg inside vm refl (h.led.homogeneous p l)

    itself : cmp t t ≢ Less
    itself = not_less-itself L.order t inside

    tail_below : All (λ a. cmp t a.0 ≢ Less) (terms tail)
    tail_below = plus_term-all laws comm width (λ b. cmp t b ≢ Less) g t (ring.neg ring.one) hg inside vm itself
        (h.monic p l).greatest

    module _ {w : Vector F} (x : IsTailReduced J s p w) where
      rest_in : IsIn (module_of J) x.rest
      rest_in = x.divided.rest

      abbrev W : Vector F
      W = plus_term ring x.rest t ring.one

      hw : IsIn (module_of J) W
      hw = plus_term-vector laws comm width x.rest t ring.one rest_in inside v1

      -- what holds of the lead and of the terms of the rest holds of all
      all_new : (Q : Term → Type 0) → Q t → All (λ a. Q a.0) (terms x.rest) → All (λ a. Q a.0) (terms W)
      all_new Q q f = plus_term-all laws comm width Q x.rest t ring.one rest_in inside v1 q f

      w_at : (b : Term) → co W b ≡ cond (eq_by_cmp as_listed b t) (ring.add (co x.rest b) ring.one) (co x.rest b)
      w_at b = coefficient-plus_term laws comm width x.rest t ring.one b rest_in inside v1

      free : (j : ℕ) → j < length s.members → All (λ a. ¬ (TermDivides (lead_at (held s) j) a.0)) (terms x.rest)
      free j m = x.divided.free j no_term (omega (arith, m, h.led.same_length))

      -- the rest has no term at the lead
      rest_at : co x.rest t ≡ ring.zero
      rest_at =
          let test = laws.zero_test (co x.rest t) (coefficient-value laws comm width x.rest t rest_in) in
          elim (ring.is_zero (co x.rest t)) as (λ z. ring.is_zero (co x.rest t) ≡ z → co x.rest t ≡ ring.zero) [
            | true ↦ λ e. test.0 e
            | false ↦ λ e. absurd (at-term laws comm width x.rest (λ b. ¬ (TermDivides t b)) t rest_in (free p l)
                (λ z. Rattle.std.proofs.lemmas.Bool.false≢true (sym e ∙ test.1 z)) (divides-itself t inside.0))
          ] refl

      new_at : co W t ≡ ring.one
      new_at =
          w_at t
          ∙ ap (λ z. cond z (ring.add (co x.rest t) ring.one) (co x.rest t)) (eq-itself (term_setting laws comm) t)
          ∙ ap (λ u. ring.add u ring.one) rest_at ∙ zero_add laws ring.one v1

      rest_below : All (λ a. cmp t a.0 ≢ Less) (terms x.rest)
      rest_below =
          elim (zero_or_greatest L tail tail-in) [
            | inl z ↦ all-terms laws comm width x.rest (λ b. cmp t b ≢ Less) rest_in (λ b hb n.
                absurd (n (ap (λ u. co u b) (x.divided.of_zero z).1 ∙ coefficient-zero laws comm width b)))
            | inr q ↦
                let u = q.0 in
                let a = greatest-at L tail u q.1 tail-in q.2 in
                let n : co tail u ≢ ring.zero = (λ z. a.2 (sym a.1 ∙ z)) in
                let below = at-term laws comm width tail (λ b. cmp t b ≢ Less) u tail-in tail_below n in
                let above = x.divided.rest_not_above u q.1 q.2 in
                let rest_within = within laws comm width x.rest rest_in in
                λ i d k.
                let b : Term = (slice_index_or (terms x.rest) i d).0 in
                let hb : IsTermWithin width b = rest_within i d k in
                λ e. not_greater-chain L.order b u t hb a.0 inside (above i d k)
                (not_less-back L.order t u inside a.0 below) (greater-back L.order t b inside hb e)
          ]

      -- the member is a combination and the new one
      abbrev comb : Vector F
      comb = combination ring width x.quotients s.members

      hc : IsIn (module_of J) comb
      hc = combination-vector laws comm width x.quotients s.members x.divided.quotients.1 h.led.vectors

      sum_at : (b : Term) → co g b ≡ ring.add (co comb b) (co W b)
      sum_at b =
          let vg = coefficient-value laws comm width g b hg in
          let vc = coefficient-value laws comm width comb b hc in
          let vr = coefficient-value laws comm width x.rest b rest_in in
          let tail_at : co tail b ≡ cond (eq_by_cmp as_listed b t) (ring.add (co g b) (ring.neg ring.one)) (co g b) =
          coefficient-plus_term laws comm width g t (ring.neg ring.one) b hg inside vm in
          let sum : co tail b ≡ ring.add (co comb b) (co x.rest b) =
          ap (λ v. co v b) x.divided.sum ∙ coefficient-plus laws comm width comb x.rest b hc rest_in in
          let back : co g b ≡ ring.add (ring.add (co g b) (ring.neg ring.one)) ring.one =
          sym (laws.add_assoc (co g b) (ring.neg ring.one) ring.one vg vm v1
          ∙ ap (ring.add (co g b)) (laws.add_comm (ring.neg ring.one) ring.one vm v1 ∙ laws.add_neg ring.one v1)
          ∙ laws.add_zero (co g b) vg) in
          let Sum : Type 0 = co g b ≡ ring.add (co comb b) (co W b) in
          elim (eq_by_cmp as_listed b t) as (λ z. eq_by_cmp as_listed b t ≡ z → Sum) [
            | true ↦ λ e.
                let a = ap (λ z. cond z (ring.add (co g b) (ring.neg ring.one)) (co g b)) e in
                let c = ap (λ z. cond z (ring.add (co x.rest b) ring.one) (co x.rest b)) e in
                back ∙ ap (λ u. ring.add u ring.one) (sym (tail_at ∙ a) ∙ sum)
                ∙ laws.add_assoc (co comb b) (co x.rest b) ring.one vc vr v1
                ∙ ap (ring.add (co comb b)) (sym (w_at b ∙ c))
            | false ↦ λ e.
                let a = ap (λ z. cond z (ring.add (co g b) (ring.neg ring.one)) (co g b)) e in
                let c = ap (λ z. cond z (ring.add (co x.rest b) ring.one) (co x.rest b)) e in
                sym (tail_at ∙ a) ∙ sum ∙ ap (ring.add (co comb b)) (sym (w_at b ∙ c))
          ] refl

      member : submodule J W
      member = rest-member h.of g comb W
          (coefficient-ext laws comm width g (vector_plus ring comb W) hg (plus-vector laws comm width comb W hc hw)
          (λ b. sum_at b ∙ sym (coefficient-plus laws comm width comb W b hc hw)))
          hc hw (h.members p l)
          (generated-chain laws comm width J.gens s.members h.of.vectors h.led.vectors h.members comb
          (x.quotients, x.divided.quotients, refl))

      pub new-member : IsNewMember w
      new-member = subst IsNewMember (sym x.new_is) record {
        member = member;
        vector = hw;
        greatest = record {
          occurs = subst (λ c. Rattle.std.specs.Prelude.Contains (terms W) (t, c)) new_at
              (occurs laws comm width W t hw (λ z. at.2 (sym new_at ∙ z)));
          greatest = all_new (λ b. cmp t b ≢ Less) itself rest_below;
        };
        of_degree = all_new (λ b. degree_of (module_of J) b ≡ degree_of (module_of J) t) refl
            (x.divided.rest_degrees (degree_of (module_of J) t) tail-degree);
        tails = λ j m. all_new (λ b. b ≢ t → ¬ (TermDivides (lead_at (held s) j) b)) (λ n. absurd (n refl))
            (All-weaker (λ (a : Term × F). ¬ (TermDivides (lead_at (held s) j) a.0))
            (λ a. a.0 ≢ t → ¬ (TermDivides (lead_at (held s) j) a.0)) (λ a f n. f) (terms x.rest) (free j m));
      }
