-- The steps of a program that reduces the tail of a member: what is read, and what comes out.
use Rattle.std.specs.Prelude.{◌≡◌, ℕ, ◌+◌, ◌<◌, ◌≤◌, List, [], ◌∷◌, ◌++◌, length, slice_index_or}
use Rattle.std.proofs.lemmas.Bool.{cases_lt}
use Rattle.std.proofs.lemmas.List.{get_or_append_left, get_or_default, get_or_push, length-append}
use mathlib.Core.Logic.{inl, inr}
use mathlib.Core.Path.{sym, ap, ◌∙◌, subst}
use native.Mathlib.Omega.{arith}
use Rattle.hp_mono.specs.declared.term.Term.{Term}
use Rattle.hp_mono.specs.Monomials.{max_degree}
use Rattle.hp_mono.specs.TermOrders.{IsTermWithin, TermDivides}
use Rattle.hp_module.specs.Vectors.{Vector}
use Rattle.hp_module.specs.FreeModules.{IsGraded, degree_of, plus_term}
use Rattle.hp_module.specs.Leads.{lead_at, member_at, no_term}
use Rattle.hp_module.specs.Divisions.{IsDivided}
use Rattle.hp_module.specs.FallingTerms.{Divisors, with_leads}
use Rattle.hp_module.proofs.DividingTerms.{divides-itself}
use Rattle.hp_groebner.specs.BasisEnds.{AreListed, AreMembersAt, IsTailReduced, place}
use Rattle.hp_groebner.specs.LimitRules.{most_degree}
use Rattle.hp_groebner.specs.PairQueues.{Queue, nth}
use Rattle.hp_groebner.specs.Runs.{IsRun, Job, State, held, module_of}
use Rattle.hp_groebner.proofs.ReducedTails.{inside, tail-degree}
use Rattle.hp_groebner.proofs.RunMembers.{lead-monomial, plain}

module _ {F : Type 0} {J : Job F} {s : State F} {d g n top : ℕ} (r : IsRun J s d g n top) {p : ℕ}
    (l : p < length s.members) {q : Queue} {ts : List Term} {u : Term} (queue_is : q ≡ s.queue)
    (leads_are : ts ≡ q.leads) (lead_is : u ≡ slice_index_or ts p u) where
  pub lead-read : u ≡ lead_at (held s) p
  lead-read =
      lead_is ∙ ap (λ xs. slice_index_or xs p u) (leads_are ∙ ap (λ x. x.leads) queue_is)
      ∙ get_or_default s.queue.leads p u no_term (omega (arith, l, r.0.done.led.same_length))

  pub lead-inside : IsTermWithin J.width u
  lead-inside = subst (IsTermWithin J.width) (sym lead-read) (inside s r.0.done p l)

  -- the remainder of a division has the component of the lead
  pub lead-in_rest : (D : Divisors F) {v qs rest : Vector F} → IsDivided (module_of J) v (with_leads J.ring D) qs rest
      → u.comp ≤ length rest
  lead-in_rest D x = let a = x.rest.0 in let b = lead-inside.2 in omega (arith, a, b)

  module _ {vs : List (Vector F)} {v : Vector F} (members_are : vs ≡ s.members)
      (member_is : v ≡ slice_index_or vs p v) where
    pub member-read : v ≡ member_at (held s) p
    member-read = member_is ∙ ap (λ xs. slice_index_or xs p v) members_are ∙ get_or_default s.members p v [] l

    pub lead-in_member : u.comp ≤ length v
    lead-in_member =
        let a = ap length member-read in
        let b = (r.0.done.led.vectors p [] l).0 in
        let c = lead-inside.2 in
        omega (arith, a, b, c)

    module _ {v' : Vector F} {m k : F} (tail_is : v' ≡ plus_term J.ring v u k) (minus : k ≡ J.ring.neg m)
        (one : m ≡ J.ring.one) where
      pub tail-read : v' ≡ plus_term J.ring (member_at (held s) p) (lead_at (held s) p) (J.ring.neg J.ring.one)
      tail-read =
          let a = member-read in
          let b = lead-read in
          let c = minus ∙ ap J.ring.neg one in
          tail_is ∙ (λ i. plus_term J.ring (a i) (b i) (c i))

      pub tail-divisible : top ≤ most_degree + 1 → (e : ℕ) × (e ≤ max_degree) × IsGraded J.shifts e v'
      tail-divisible low =
          let a = r.0.done.low p l in
          let b = plain r.0.done.of (lead_at (held s) p) in (
            degree_of (module_of J) (lead_at (held s) p),
            omega (arith, a, b, low),
            subst (IsGraded J.shifts (degree_of (module_of J) (lead_at (held s) p))) (sym tail-read)
                (tail-degree s r.0.done p l),
          )

      pub tail-reduced : {D : Divisors F} {qs rest w : Vector F} {c : F} → D ≡ s.divisors
          → IsDivided (module_of J) v' (with_leads J.ring D) qs rest → c ≡ J.ring.one → w ≡ plus_term J.ring rest u c
          → IsTailReduced J s p w
      tail-reduced {D} {qs} {rest} divisors_are x e new = record {
        quotients = qs;
        rest = rest;
        divided =
            let same = ap (with_leads J.ring) divisors_are ∙ r.0.divisors_are in
            subst (λ z. IsDivided (module_of J) z (held s) qs rest) tail-read
            (subst (λ z. IsDivided (module_of J) v' z qs rest) same x);
        new_is = let a = lead-read in new ∙ (λ i. plus_term J.ring rest (a i) (e i));
      }

-- ---- all members

module _ {F : Type 0} {J : Job F} {s : State F} (r : IsRun J s (most_degree + 1) 0 0 (most_degree + 1)) {q : Queue}
    {ts : List Term} (queue_is : q ≡ s.queue) (leads_are : ts ≡ q.leads) where
  read : ts ≡ s.queue.leads
  read = leads_are ∙ ap (λ x. x.leads) queue_is

  pub leads-different : (i j : ℕ) → i < length ts → j < length ts → nth ts i ≡ nth ts j → i ≡ j
  leads-different i j a b e =
      let many = ap length read in
      let x : i < length s.members = omega (arith, a, many, r.0.done.led.same_length) in
      let y : j < length s.members = omega (arith, b, many, r.0.done.led.same_length) in
      let same : lead_at (held s) i ≡ lead_at (held s) j =
      ap (λ us. nth us i) (sym read) ∙ e ∙ ap (λ us. nth us j) read in
      r.0.done.apart i j x y (subst (TermDivides (lead_at (held s) i)) same
      (divides-itself (lead_at (held s) i) (lead-monomial r.0.done i x)))

  pub listed-leads : {ps : List ℕ} → AreListed J.split ts ps → AreListed J.split s.queue.leads ps
  listed-leads {ps} o = subst (λ us. AreListed J.split us ps) read o

module _ {F : Type 0} {s : State F} {ps : List ℕ} {i : ℕ} {ws : List (Vector F)} (kept : AreMembersAt s ps i ws) where
  pub more-members : {J : Job F} {d g n top split : ℕ} → IsRun J s d g n top → AreListed split s.queue.leads ps
      → {u : ℕ} {vs : List (Vector F)} {v w : Vector F} {ws' : List (Vector F)} → i < length ps
      → u ≡ slice_index_or ps i u → vs ≡ s.members → v ≡ slice_index_or vs u v → w ≡ v → ws' ≡ ws ++ w ∷ []
      → AreMembersAt s ps (i + 1) ws'
  more-members r o {u} {vs} {v} {w} {ws'} within place_is members_are member_is copied e =
      let at : u ≡ place ps i = place_is ∙ get_or_default ps i u 0 within in
      let low = o.inside i 0 within in
      let inside : u < length s.members = omega (arith, at, low, r.0.done.led.same_length) in
      let x : w ≡ member_at (held s) (place ps i) =
      copied ∙ member_is ∙ ap (λ xs. slice_index_or xs u v) members_are ∙ get_or_default s.members u v [] inside ∙ ap (member_at (held s)) at in
      subst (AreMembersAt s ps (i + 1)) (sym e) record {
        many = length-append ws (w ∷ []) ∙ ap (λ n. n + 1) kept.many;
        each = λ k l. elim (cases_lt k i) [
          | inl low ↦ get_or_append_left ws (w ∷ []) [] k (omega (arith, low, kept.many)) ∙ kept.each k low
          | inr high ↦
              let same : i ≡ k = omega (arith, l, high) in
              subst (λ n. slice_index_or (ws ++ w ∷ []) n [] ≡ member_at (held s) (place ps n)) same
              (get_or_push ws w [] i kept.many ∙ x)
        ];
      }

  pub all-members : length ps ≤ i → i ≤ length ps → AreMembersAt s ps (length ps) ws
  all-members a b = let same : i ≡ length ps = omega (arith, a, b) in subst (λ n. AreMembersAt s ps n ws) same kept
