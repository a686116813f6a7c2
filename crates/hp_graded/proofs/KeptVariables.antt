-- Submodules with generators in chosen variables: they are closed under putting 0 for the other variables, and each of
-- their leads is a multiple of a lead in the chosen variables.
use Rattle.std.specs.Prelude.{◌≡◌, ◌≢◌, ℕ, ◌-◌, ◌<◌, Bool, true, false, List, [], ◌∷◌, map, length, All, slice_index_or}
use Rattle.std.specs.declared.cmp.Ordering.TheVariants.{Less}
use Rattle.std.specs.Ordering.{eq_by_cmp}
use Rattle.std.proofs.lemmas.List.Elements.{All-head, All-map, All-tail, All-weaker}
use mathlib.Core.Path.{refl, sym, ap, ◌∙◌, subst}
use native.Mathlib.Omega.{arith}
use Rattle.hp_algebra.specs.Ring.{IsRing, IsCommutative}
use Rattle.hp_mono.specs.declared.term.Term.{Term}
use Rattle.hp_mono.specs.Monomials as mono
use Rattle.hp_mono.specs.Monomials.{Monomial, IsMonomial, product}
use Rattle.hp_mono.specs.TermOrders.{IsTermWithin, TermDivides, times}
use Rattle.hp_sums.specs.FiniteSums.{HasValues, total}
use Rattle.hp_sums.proofs.SumSetting.{SumSetting}
use Rattle.hp_sums.proofs.WeightedSums.{weighted, weighted_ext}
use Rattle.hp_sums.proofs.EqualTotals.{weighted-same}
use Rattle.hp_poly.specs.Polynomials.{from_greatest}
use Rattle.hp_mono.proofs.TermLaws.{times-within}
use Rattle.hp_module.specs.Vectors.{Vector, IsVector, IsGenerated, combination}
use Rattle.hp_module.specs.FreeModules.{FreeModule, IsFreeModule, IsIn, as_listed, coefficient_at, terms}
use Rattle.hp_module.specs.Leads.{IsGreatestTerm, IsLeastLead}
use Rattle.hp_module.proofs.VectorSums.{shifted, term_setting, terms-values, weighted-shifted}
use Rattle.hp_module.proofs.ShiftedTerms.{shifted-shifted, total-times}
use Rattle.hp_module.proofs.VectorCoefficients.{coefficient-combination, combination-vector, family, family-values, image, image-value, within}
use Rattle.hp_module.proofs.Symbols.{AreTermsOf, generated-vector, vector_of}
use Rattle.hp_module.proofs.GreatestTerms.{greatest-above, greatest-at, greatest-from}
use Rattle.hp_graded.proofs.KeptExponents.{IsInside, high, high-length, high-low, high-product, highs-same, inside-same, low, low-inside, low-length, same-highs, same-inside, same_high}
use Rattle.hp_graded.proofs.SelectedTerms.{Agree, IsSelection, selected_generated, selected_symbols, selection-itself, selection-of, symbol-absent}

-- the term with the exponents at the chosen places alone
abbrev pub low_term : List Bool → Term → Term
low_term keep t = record { mono = low keep t.mono; comp = t.comp }

module _ {F : Type 0} {M : FreeModule F} (L : IsFreeModule M) (gens : List (Vector F))
    (vectors : All (IsVector M.ring M.width) gens) (keep : List Bool)
    (first : (i : ℕ) → i < length gens → All (λ t. IsInside keep t.0.mono) (terms (slice_index_or gens i []))) where
  open M use {ring, width, cmp}

  abbrev laws : IsRing ring
  laws = L.field.is_ring

  abbrev comm : IsCommutative ring
  comm = L.field.commutes

  abbrev S : SumSetting Term F
  S = term_setting laws comm

  abbrev co : Vector F → Term → F
  co v b = coefficient_at ring v b

  abbrev fam : ℕ → List (Term × F)
  fam = family laws comm gens

  abbrev im : Term → Term → F
  im b a = image laws comm (family laws comm gens) b a

  -- the exponents elsewhere
  abbrev tail : Monomial → Term → Bool
  tail n a = same_high keep a.mono n

  member-within : (a : Term) → IsTermWithin (length gens) a → All (λ t. IsTermWithin width t.0) (fam a.comp)
  member-within a h = within laws comm width _ (vectors (a.comp - 1) [] (omega (arith, h.1, h.2)))

  -- a symbol has the exponents elsewhere of its terms
  tails_agree : (n : Monomial) → Agree L gens vectors (tail n) (tail n)
  tails_agree n a b h ne =
      symbol-absent L gens vectors a b (λ i d m e.
      let t = (slice_index_or (fam a.comp) i d).0 in
      let f = first (a.comp - 1) (omega (arith, h.1, h.2)) i d m in
      let s : high keep b.mono ≡ high keep a.mono =
      ap (λ u. high keep u.mono) e ∙ high-product keep a.mono t.mono (h.0 ∙ sym (member-within a h i d m).0) f in
      ne (ap (λ u. eq_by_cmp from_greatest u (high keep n)) (sym s)))

  -- Putting 0 for the other variables: the part of a member in the chosen variables is a member.
  pub inside_generated : (v w : Vector F) → IsSelection L (λ t. same_high keep t.mono mono.one) v w
      → IsGenerated ring width gens v → IsGenerated ring width gens w
  inside_generated v w s g =
      let r = selected_generated L gens vectors (tail mono.one) (tail mono.one) (tails_agree mono.one) v w s g in (r.0, r.1, r.2)

  -- a member in the chosen variables has coefficients in them
  pub inside_coefficients : (v : Vector F) → IsGenerated ring width gens v → All (λ t. IsInside keep t.0.mono) (terms v)
      → (ps : Vector F) × IsVector ring (length gens) ps × (v ≡ combination ring width ps gens)
      × All (λ a. IsInside keep a.0.mono) (terms ps)
  inside_coefficients v g f =
      let hv = generated-vector laws comm width gens vectors v g in
      let w = within laws comm width v hv in
      let s = selection-itself L (tail mono.one) v hv (λ i d m. inside-same laws comm keep _ (w i d m).0 (f i d m)) in
      let r = selected_generated L gens vectors (tail mono.one) (tail mono.one) (tails_agree mono.one) v v s g in
      (r.0, r.1, r.2, All-weaker (λ (a : Term × F). tail mono.one a.0 ≡ true) (λ a. IsInside keep a.0.mono) (λ a e. same-inside keep a.0.mono e) (terms r.0) r.3)

  -- multiples by one monomial have the same coefficients
  image-times : (m : Monomial) (a b : Term) → IsMonomial m → IsTermWithin (length gens) a → IsMonomial b.mono
      → im (times m b) (times m a) ≡ im b a
  image-times m a b hm ha hb =
      let xs = shifted a.mono (fam a.comp) in
      ap (λ ys. total as_listed ring ys (times m b)) (shifted-shifted m a.mono (fam a.comp))
      ∙ total-times laws comm m xs b hm hb (All-map (λ (t : Term × F). IsMonomial t.0.mono) (λ t. (times a.mono t.0, t.1)) (fam a.comp)
      (λ i d k. (times-within width a.mono _ ha.0 (member-within a ha i d k)).0))

  module _ (v : Vector F) (t : Term) (c : F) (g : IsGenerated M.ring M.width gens v) (gt : IsGreatestTerm M.cmp v t c) where
    hv : IsIn M v
    hv = generated-vector laws comm width gens vectors v g

    at : IsTermWithin width t × (co v t ≡ c) × (c ≢ ring.zero)
    at = greatest-at L v t c hv gt

    -- the part of v with the exponents of t elsewhere
    part : (w : Vector F) × IsSelection L (tail t.mono) v w
    part = selection-of L (tail t.mono) v hv

    symbols : (s : AreTermsOf laws comm width gens vectors (terms part.0)) × All (λ a. tail t.mono a.0 ≡ true) s.symbols
    symbols = selected_symbols L gens vectors (tail t.mono) (tail t.mono) (tails_agree t.mono) v part.0 part.1 g

    abbrev H : Monomial
    H = high keep t.mono

    H-monomial : IsMonomial H
    H-monomial = high-length keep t.mono ∙ at.0.0

    t-is : times H (low_term keep t) ≡ t
    t-is = let e = high-low keep t.mono in λ i. record { mono = e i; comp = t.comp }

    abbrev strip : Term × F → Term × F
    strip a = (low_term keep a.0, a.1)

    abbrev us : List (Term × F)
    us = map strip symbols.0.symbols

    stripped : (xs : List (Term × F)) → All (λ a. IsTermWithin (length gens) a.0) xs
        → All (λ a. same_high keep a.0.mono t.mono ≡ true) xs → shifted H (map strip xs) ≡ xs
    stripped [] h p = refl
    stripped (x ∷ xs) h p =
        let hx = All-head (λ (a : Term × F). IsTermWithin (length gens) a.0) x xs h in
        let px = highs-same keep x.0.mono t.mono (All-head (λ (a : Term × F). same_high keep a.0.mono t.mono ≡ true) x xs p) in
        let e = ap (λ u. product u (low keep x.0.mono)) (sym px) ∙ high-low keep x.0.mono in
        let r = stripped xs (All-tail (λ (a : Term × F). IsTermWithin (length gens) a.0) x xs h)
        (All-tail (λ (a : Term × F). same_high keep a.0.mono t.mono ≡ true) x xs p) in
        λ i. (record { mono = e i; comp = x.0.comp }, x.1) ∷ r i

    us-values : HasValues ring us
    us-values = All-map (λ (a : Term × F). ring.IsValue a.1) strip symbols.0.symbols symbols.0.symbol_values

    us-inside : All (λ a. IsTermWithin (length gens) a.0) us
    us-inside = All-map (λ (a : Term × F). IsTermWithin (length gens) a.0) strip symbols.0.symbols
        (λ i d k. let h = symbols.0.inside i d k in (low-length keep _ ∙ h.0, h.1, h.2))

    -- the combination of the stripped symbols
    qs : (qs : Vector F) × IsVector ring (length gens) qs × ((b : Term) → co qs b ≡ total as_listed ring us b)
    qs = vector_of laws comm (length gens) us us-values us-inside

    abbrev low_vector : Vector F
    low_vector = combination ring width qs.0 gens

    low-in : IsIn M low_vector
    low-in = combination-vector laws comm width qs.0 gens qs.1.1 vectors

    low-at : (b : Term) → co low_vector b ≡ weighted ring (im b) us
    low-at b =
        coefficient-combination laws comm width qs.0 gens qs.1 vectors b
        ∙ weighted-same S (im b) (image-value laws comm fam (family-values laws comm width gens vectors) b) (terms qs.0) us
        (terms-values laws comm 1 qs.0 qs.1.1) us-values qs.2

    -- the part is H times the combination
    part-at : (b : Term) → IsMonomial b.mono → co part.0 (times H b) ≡ co low_vector b
    part-at b hb =
        symbols.0.same (times H b)
        ∙ ap (weighted ring (im (times H b))) (sym (stripped symbols.0.symbols symbols.0.inside symbols.1))
        ∙ weighted-shifted ring (im (times H b)) H us
        ∙ weighted_ext S (λ a. im (times H b) (times H a)) (im b) us (λ i d k. image-times H _ b H-monomial (us-inside i d k) hb)
        ∙ sym (low-at b)

    low-within : IsTermWithin width (low_term keep t)
    low-within = (low-length keep t.mono ∙ at.0.0, at.0.1, at.0.2)

    low-nonzero : co low_vector (low_term keep t) ≢ ring.zero
    low-nonzero z =
        at.2 (sym at.1 ∙ sym (part.1.inside t (same-highs laws comm keep t.mono t.mono refl)) ∙ ap (co part.0) (sym t-is)
        ∙ part-at (low_term keep t) low-within.0 ∙ z)

    low-above : (b : Term) → IsTermWithin width b → co low_vector b ≢ ring.zero → cmp (low_term keep t) b ≢ Less
    low-above b hb n e =
        greatest-above L v t c hv gt (times H b)
        (λ z. n (sym (part-at b hb.0) ∙ zero (tail t.mono (times H b)) refl z))
        (ap (λ u. cmp u (times H b)) (sym t-is) ∙ L.order.keeps_products H (low_term keep t) b H-monomial low-within hb e)
      where
        zero : (d : Bool) → tail t.mono (times H b) ≡ d → co v (times H b) ≡ ring.zero → co part.0 (times H b) ≡ ring.zero
        zero true p z = part.1.inside (times H b) p ∙ z
        zero false p z = part.1.outside (times H b) p

    -- Each lead is a multiple of a lead in the chosen variables.
    pub inside_lead : (w : Vector F) × (x : F) × IsGenerated M.ring M.width gens w
        × IsGreatestTerm M.cmp w (low_term keep t) x × TermDivides (low_term keep t) t
    inside_lead = (
      low_vector,
      co low_vector (low_term keep t),
      (qs.0, qs.1, refl),
      greatest-from L low_vector (low_term keep t) low-in low-nonzero low-above,
      (H, H-monomial, t-is),
    )

  -- so the least leads are in the chosen variables
  pub least_inside : (t : Term) → IsLeastLead cmp (IsGenerated ring width gens) t → IsInside keep t.mono
  least_inside t least =
      let d = least.lead in
      let r = inside_lead d.0 t d.1 d.2 d.3 in
      subst (λ s. IsInside keep s.mono) (least.least (low_term keep t) (r.0, r.1, r.2, r.3) r.4) (low-inside keep t.mono)
