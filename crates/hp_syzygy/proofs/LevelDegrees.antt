-- The degrees of a level: its members have those of their leads, and those of pairs are degrees of monomials.
use Rattle.std.specs.Prelude.{◌≡◌, ℕ, suc, ◌+◌, ◌<◌, ◌≤◌, max, [], ◌∷◌, length, All, slice_index_or}
use Rattle.std.proofs.lemmas.List.Elements.{All-weaker}
use mathlib.Core.Path.{sym, ap, ◌∙◌, subst}
use native.Mathlib.Omega.{arith}
use Rattle.hp_algebra.specs.Ring.{RingOf, IsRing, IsCommutative, greatest_weight_of}
use Rattle.hp_mono.specs.declared.term.Term.{Term}
use Rattle.hp_mono.specs.Monomials.{Monomial, IsMonomial, degree, lcm, max_degree, product, vars, cofactor}
use Rattle.hp_mono.specs.TermOrders.{IsTermWithin, times}
use Rattle.hp_mono.proofs.MonomialLaws.{cofactor-monomial, degree_product, length-with_each}
use Rattle.hp_mono.proofs.TermLaws.{times-within}
use Rattle.hp_poly.specs.Polynomials.{poly_degree, poly_ring}
use Rattle.hp_poly.specs.Degrees.{degree_most}
use Rattle.hp_module.specs.Vectors.{Vector}
use Rattle.hp_module.specs.FreeModules.{degree_of, terms}
use Rattle.hp_module.specs.Leads.{member_at}
use Rattle.hp_module.proofs.EntryTerms.{terms_each}
use Rattle.hp_module.proofs.OrderedTerms.{degree-times}
use Rattle.hp_syzygy.specs.ChainOrders.{full, top_of}
use Rattle.hp_syzygy.specs.ChainLaws.{full-in, full-times, top-in}
use Rattle.hp_syzygy.specs.FrameLevels.{IsLevel, Level, level_lead, level_module, level_width, most_lead, with_leads}
use Rattle.hp_syzygy.proofs.LeadExponents.{degree-bounded, exponent_of, lcm-bounded, lcm-exponent, product-exponent}
use Rattle.hp_syzygy.proofs.NextChains.{chain-degree, lead-within}

module _ {F : Type 0} {ring : RingOf F} (laws : IsRing ring) (comm : IsCommutative ring) where
  -- the weight of a vector whose terms have degrees up to d
  pub vector-weight : (d : ℕ) (v : Vector F) → ((j : ℕ) → j < length v → All (λ t. degree t.0 ≤ d) (slice_index_or v j []))
      → greatest_weight_of (poly_ring ring) v ≤ d
  vector-weight d [] h = omega arith
  vector-weight d (p ∷ v) h =
      let here = degree_most laws comm d p (h 0 (omega arith)) in
      let rest = vector-weight d v (λ j l. h (suc j) (omega (arith, l))) in
      both (poly_degree ring p) (greatest_weight_of (poly_ring ring) v) here rest
    where
      both : (a b : ℕ) → a ≤ d → b ≤ d → max a b ≤ d
      both a b p q = omega arith

module _ {F : Type 0} {ring : RingOf F} {inverse : F → F} {v : Level F} (is : IsLevel ring inverse v) where
  abbrev laws : IsRing ring
  laws = is.module_laws.field.is_ring

  abbrev comm : IsCommutative ring
  comm = is.module_laws.field.commutes

  abbrev lead : ℕ → Term
  lead i = level_lead v i

  -- the degree of a term, by what it stands for
  pub degree-full : (a : Term) → IsTermWithin (level_width v) a
      → degree_of (level_module ring inverse v) a ≡ degree (full v.chain a).mono
  degree-full a h = chain-degree v.chain is.chain v.degrees is.degrees a h

  pub member-weight : (i : ℕ) → i < length v.members
      → greatest_weight_of (poly_ring ring) (member_at (with_leads v) i) ≤ degree_of (level_module ring inverse v) (lead i)
  member-weight i l =
      let g = member_at (with_leads v) i in
      let d = degree_of (level_module ring inverse v) (lead i) in
      let low : (a b : ℕ) → a + b ≡ d → a ≤ d = λ a b e. omega (arith, e) in
      vector-weight laws comm d g (λ j n. terms_each (λ (t : Term × F). degree t.0.mono ≤ d) 1 g
      (All-weaker (λ (t : Term × F). degree_of (level_module ring inverse v) t.0 ≡ d) (λ t. degree t.0.mono ≤ d) (λ t e. low (degree t.0.mono) _ e) (terms g) (is.led.homogeneous i l)) j n)

  -- the degree of a member
  pub full-most : (i : ℕ) → i < length v.members
      → degree (lead i).mono + degree (top_of v.chain (lead i).comp).mono ≤ max_degree
  full-most i l =
      let w = lead-within is i l in
      let t = top-in v.chain is.chain (lead i).comp w.1 w.2 in
      let f = full-in v.chain is.chain (lead i) w in
      let d = degree-bounded vars most_lead (full v.chain (lead i)).mono f.0 (λ x. is.low i x l) in
      let p = degree_product vars (lead i).mono (top_of v.chain (lead i).comp).mono w.0 t.0 in
      omega (arith, d, p)

  module _ (i j : ℕ) (li : i < length v.members) (lj : j < length v.members) where
    abbrev cof : Monomial
    cof = cofactor (lead i).mono (lead j).mono

    lead_i : IsTermWithin (level_width v) (lead i)
    lead_i = lead-within is i li

    lead_j : IsTermWithin (level_width v) (lead j)
    lead_j = lead-within is j lj

    cof-monomial : IsMonomial cof
    cof-monomial = cofactor-monomial (lead i).mono (lead j).mono lead_i.0 lead_j.0

    exponent-low : (k x : ℕ) → k < length v.members → exponent_of (lead k).mono x ≤ most_lead
    exponent-low k x l =
        let w = lead-within is k l in
        let t = top-in v.chain is.chain (lead k).comp w.1 w.2 in
        let p = product-exponent (lead k).mono (top_of v.chain (lead k).comp).mono x (w.0 ∙ sym t.0) in
        let q = is.low k x l in
        omega (arith, p, q)

    -- the lcm of two leads
    pub lcm-most : degree (lcm (lead i).mono (lead j).mono) ≤ max_degree
    lcm-most =
        let m = length-with_each max (lead i).mono (lead j).mono (lead_i.0 ∙ sym lead_j.0) ∙ lead_i.0 in
        let d = degree-bounded vars most_lead (lcm (lead i).mono (lead j).mono) m (λ x. lcm-exponent (lead i).mono (lead j).mono x most_lead (exponent-low i x li) (exponent-low j x lj)) in
        omega (arith, d)

    module _ (comps : (lead j).comp ≡ (lead i).comp) where
      -- the degree of a pair
      pub pair-most : degree (cofactor (lead i).mono (lead j).mono) + degree_of (level_module ring inverse v) (lead i) ≤ max_degree
      pair-most =
          let c = top_of v.chain (lead i).comp in
          let c_mono = (top-in v.chain is.chain (lead i).comp lead_i.1 lead_i.2).0 in
          let other : (x : ℕ) → exponent_of (product (lead j).mono c.mono) x ≤ most_lead =
          λ x. subst (λ k. exponent_of (product (lead j).mono (top_of v.chain k).mono) x ≤ most_lead) comps (is.low j x lj) in
          let whole = times cof (lead i) in
          let whole_in = times-within (level_width v) cof (lead i) cof-monomial lead_i in
          let f = full-in v.chain is.chain whole whole_in in
          let stands : (full v.chain whole).mono ≡ product cof (product (lead i).mono c.mono) =
          ap (λ t. t.mono) (full-times v.chain is.chain cof (lead i)) in
          let low : (x : ℕ) → exponent_of (full v.chain whole).mono x ≤ most_lead =
          λ x. subst (λ m. exponent_of m x ≤ most_lead) (sym stands)
          (lcm-bounded vars x most_lead (lead i).mono (lead j).mono c.mono lead_i.0 lead_j.0 c_mono (is.low i x li) (other x)) in
          let d = degree-bounded vars most_lead (full v.chain whole).mono f.0 low in
          let e = degree-full whole whole_in in
          let t = degree-times (level_module ring inverse v) cof (lead i) cof-monomial lead_i.0 in
          omega (arith, d, e, t)
