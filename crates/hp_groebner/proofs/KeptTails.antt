-- Tails that stay reduced.
use Rattle.std.specs.Prelude.{◌≡◌, ◌≢◌, ℕ, ◌+◌, ◌<◌, [], ◌∷◌, length, All, slice_index_or}
use Rattle.std.proofs.lemmas.Bool.{cases_lt}
use Rattle.std.proofs.lemmas.List.{get_or_append_left, length-append}
use Rattle.std.proofs.Math.Seq.{get_or-append_seam}
use mathlib.Core.Logic.{inl, inr}
use mathlib.Core.Path.{sym, ap, ◌∙◌, subst}
use native.Mathlib.Omega.{arith}
use Rattle.hp_mono.specs.declared.term.Term.{Term}
use Rattle.hp_mono.specs.Monomials.{IsMonomial, degree}
use Rattle.hp_mono.specs.TermOrders.{TermDivides}
use Rattle.hp_module.specs.Vectors.{Vector}
use Rattle.hp_module.specs.FreeModules.{terms}
use Rattle.hp_module.specs.Leads.{WithLeads, lead_at, member_at, no_term}
use Rattle.hp_module.proofs.DividingTerms.{divides-degree}
use Rattle.hp_module.proofs.LongerBases.{longer}
use Rattle.hp_groebner.specs.Runs.{AreReducedAt, HaveDone, IsRun, Job, State, held}
use Rattle.hp_groebner.proofs.RunMembers.{plain}

-- no term of the vector but the first is a multiple of the second
abbrev IsFree : {F : Type 0} → Vector F → Term → Term → Type 0
IsFree v s t = All (λ a. a.0 ≢ s → ¬ (TermDivides t a.0)) (terms v)

module _ {F : Type 0} {J : Job F} {w : WithLeads F} {top : ℕ} {P : ℕ → Type 0} {R : ℕ → ℕ → Type 0} (h : HaveDone J w top P R)
    (d : ℕ) (t : Term) (it : IsMonomial t.mono) (of_degree : degree t.mono ≡ d) where
  -- a lead of degree d divides no term of a lower degree
  not-low : (i : ℕ) → i < length w.members → degree (lead_at w i).mono < d → IsFree (member_at w i) (lead_at w i) t
  not-low i l low k c inside n q =
      let a : Term = (slice_index_or (terms (member_at w i)) k c).0 in
      let e = h.led.homogeneous i l k c inside in
      let p = plain h.of a in
      let p' = plain h.of (lead_at w i) in
      let z = divides-degree t a it q in
      absurd (omega (arith, e, p, p', z, of_degree, low))

  -- so the tails below degree d stay reduced when a lead of degree d comes in
  pub longer-tails : (v : Vector F) → AreReducedAt w (λ i. degree (lead_at w i).mono < d)
      → AreReducedAt (longer w v t) (λ i. degree (lead_at (longer w v t) i).mono < d)
  longer-tails v tails i j a b low =
      let many = length-append w.members (v ∷ []) in
      let leads = h.led.same_length in
      elim (cases_lt i (length w.members)) [
        | inl li ↦
            let em : member_at (longer w v t) i ≡ member_at w i = get_or_append_left w.members (v ∷ []) [] i li in
            let ei : lead_at (longer w v t) i ≡ lead_at w i = get_or_append_left w.leads (t ∷ []) no_term i (omega (arith, li, leads)) in
            let low' : degree (lead_at w i).mono < d = subst (λ u. degree u.mono < d) ei low in
            let move : (u : Term) → IsFree (member_at w i) (lead_at w i) u → IsFree (member_at (longer w v t) i) (lead_at (longer w v t) i) u =
            (λ u f. subst (λ x. IsFree x (lead_at (longer w v t) i) u) (sym em) (subst (λ x. IsFree (member_at w i) x u) (sym ei) f)) in
            elim (cases_lt j (length w.members)) [
              | inl lj ↦
                  let ej : lead_at (longer w v t) j ≡ lead_at w j = get_or_append_left w.leads (t ∷ []) no_term j (omega (arith, lj, leads)) in
                  subst (IsFree (member_at (longer w v t) i) (lead_at (longer w v t) i)) (sym ej) (move (lead_at w j) (tails i j li lj low'))
              | inr hj ↦
                  let last : length w.leads ≡ j = omega (arith, b, many, hj, leads) in
                  let ej : lead_at (longer w v t) j ≡ t =
                  ap (lead_at (longer w v t)) (sym last) ∙ get_or-append_seam w.leads t [] no_term in
                  subst (IsFree (member_at (longer w v t) i) (lead_at (longer w v t) i)) (sym ej) (move t (not-low i li low'))
            ]
        | inr hi ↦
            let last : length w.leads ≡ i = omega (arith, a, many, hi, leads) in
            let ei : lead_at (longer w v t) i ≡ t =
            ap (lead_at (longer w v t)) (sym last) ∙ get_or-append_seam w.leads t [] no_term in
            let z = subst (λ u. degree u.mono < d) ei low in
            absurd (omega (arith, z, of_degree))
      ]

module _ {F : Type 0} {J : Job F} {s : State F} {d g n : ℕ} (r : IsRun J s d g n (d + 1)) (p : ℕ) where
  -- a member of a lower degree has a reduced tail already
  pub passed-tail : degree (lead_at (held s) p).mono ≢ d → AreReducedAt (held s) (λ i. i < p) → AreReducedAt (held s) (λ i. i < p + 1)
  passed-tail f h i j a b l =
      elim (cases_lt i p) [
        | inl low ↦ h i j a b low
        | inr high ↦
            let e : i ≡ p = omega (arith, l, high) in
            let k = r.0.done.low i a in
            r.0.tails i j a b (elim (cases_lt (degree (lead_at (held s) i).mono) d) [
              | inl z ↦ z
              | inr z ↦ absurd (f (ap (λ m. degree (lead_at (held s) m).mono) (sym e) ∙ omega (arith, k, z)))
            ])
      ]
