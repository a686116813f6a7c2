-- Vectors of a submodule with the leads of a Gröbner basis up to a degree: what they leave of a vector of the submodule of
-- such a degree is zero. So the members of a basis up to a degree may be replaced by members with the same leads.
use Rattle.std.specs.Prelude.{◌≡◌, ℕ, ◌<◌, ◌≤◌, List, length, All, slice_index_or}
use Rattle.std.proofs.lemmas.List.Elements.{All-contains}
use mathlib.Core.Logic.{inl, inr}
use mathlib.Core.Path.{refl, sym, ap, ◌∙◌, subst}
use native.Mathlib.Omega.{arith}
use Rattle.hp_algebra.specs.Ring.{IsRing, IsCommutative}
use Rattle.hp_algebra.proofs.Rings.{neg_mul}
use Rattle.hp_mono.specs.declared.term.Term.{Term}
use Rattle.hp_mono.specs.Monomials as mono
use Rattle.hp_mono.specs.TermOrders.{TermDivides}
use Rattle.hp_poly.specs.Polynomials.{constant}
use Rattle.hp_module.specs.Vectors.{Vector, IsVector, IsGenerated, combination, vector_plus, vector_scale, zero_vector}
use Rattle.hp_module.specs.FreeModules.{FreeModule, IsFreeModule, IsIn, HasDegree, coefficient_at, degree_of, terms}
use Rattle.hp_module.specs.Leads.{AreLed, IsLead, WithLeads, lead_at, member_at, no_term}
use Rattle.hp_module.specs.Divisions.{IsDivided}
use Rattle.hp_module.proofs.GreatestTerms.{greatest-degree, zero_or_greatest}
use Rattle.hp_module.proofs.MonicVectors.{coefficient-constant, constant-vector, plus-zero}
use Rattle.hp_module.proofs.Symbols.{generated-chain, generated-multiple, generated-plus}
use Rattle.hp_module.proofs.VectorCoefficients.{coefficient-ext, coefficient-plus, coefficient-value, combination-vector, plus-vector}

module _ {F : Type 0} {M : FreeModule F} (L : IsFreeModule M) (gens : List (Vector F)) (vectors : All (IsVector M.ring M.width) gens)
    (d : ℕ) (leads : List Term)
    (known : (t : Term) → IsLead M.cmp (IsGenerated M.ring M.width gens) t → degree_of M t ≤ d
    → (j : ℕ) × (j < length leads) × TermDivides (slice_index_or leads j no_term) t)
    {w : WithLeads F} (led : AreLed M w) (same : w.leads ≡ leads)
    (members : (i : ℕ) → i < length w.members → IsGenerated M.ring M.width gens (member_at w i)) where
  open M use {ring, width, cmp}

  abbrev laws : IsRing ring
  laws = L.field.is_ring

  abbrev comm : IsCommutative ring
  comm = L.field.commutes

  abbrev co : Vector F → Term → F
  co v b = coefficient_at ring v b

  module _ {v qs r : Vector F} (hv : IsIn M v) (e : ℕ) (low : e ≤ d) (gv : IsGenerated M.ring M.width gens v) (degree : HasDegree M e v)
      (div : IsDivided M v w qs r) where
    abbrev comb : Vector F
    comb = combination ring width qs w.members

    hc : IsIn M comb
    hc = combination-vector laws comm width qs w.members div.quotients.1 led.vectors

    abbrev minus : F
    minus = ring.neg ring.one

    vm : ring.IsValue minus
    vm = laws.neg_value ring.one laws.one_value

    abbrev negated : Vector F
    negated = vector_scale ring (constant ring minus) comb

    hn : IsIn M negated
    hn = constant-vector L minus comb vm hc

    -- the remainder is the vector without the combination
    rest-is : r ≡ vector_plus ring v negated
    rest-is = coefficient-ext laws comm width r (vector_plus ring v negated) div.rest (plus-vector laws comm width v negated hv hn) (λ b.
        let x = co comb b in
        let y = co r b in
        let vx = coefficient-value laws comm width comb b hc in
        let vy = coefficient-value laws comm width r b div.rest in
        let nx = laws.neg_value x vx in
        sym (coefficient-plus laws comm width v negated b hv hn
        ∙ (λ i. ring.add ((ap (λ u. co u b) div.sum ∙ coefficient-plus laws comm width comb r b hc div.rest) i) ((coefficient-constant L minus comb b vm hc ∙ neg_mul laws ring.one x laws.one_value vx ∙ ap ring.neg (laws.one_mul x vx)) i))
        ∙ ap (λ u. ring.add u (ring.neg x)) (laws.add_comm x y vx vy) ∙ laws.add_assoc y x (ring.neg x) vy vx nx ∙ ap (ring.add y) (laws.add_neg x vx) ∙ laws.add_zero y vy))

    rest-generated : IsGenerated ring width gens r
    rest-generated =
        subst (IsGenerated ring width gens) (sym rest-is)
        (generated-plus laws comm width gens vectors v negated gv
        (generated-multiple laws comm width gens vectors minus mono.one comb vm refl
        (generated-chain laws comm width gens w.members vectors led.vectors members comb (qs, div.quotients, refl))))

    -- The remainder is zero.
    pub remainder_up_to : r ≡ zero_vector M.ring M.width
    remainder_up_to = elim (zero_or_greatest L r div.rest) [
      | inl z ↦ z
      | inr q ↦
          let t = q.0 in
          let g = q.2 in
          let dt = greatest-degree L r t q.1 e g (div.rest_degrees e degree) in
          let k = known t (r, q.1, rest-generated, g) (omega (arith, dt, low)) in
          let l : k.0 < length w.leads = subst (λ ls. k.0 < length ls) (sym same) k.1 in
          let no_multiple = All-contains (λ (a : Term × F). ¬ (TermDivides (lead_at w k.0) a.0)) (terms r) (t, q.1) (div.free k.0 no_term l) g.occurs in
          absurd (no_multiple (subst (λ ls. TermDivides (slice_index_or ls k.0 no_term) t) (sym same) k.2))
    ]

    -- So these vectors generate the vector.
    pub generated_up_to : IsGenerated M.ring M.width w.members v
    generated_up_to = (qs, div.quotients, div.sum ∙ plus-zero L comb r hc remainder_up_to)
