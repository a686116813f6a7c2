-- A map that keeps the first term of each polynomial keeps the greatest terms of vectors, and so the leads and the least
-- leads of a set of vectors.
use Rattle.std.specs.Prelude.{◌≡◌, ◌≢◌, ◌⊎◌, ◌↔◌, ℕ, ◌+◌, ◌-◌, ◌<◌, [], ◌∷◌, map, length, slice_index_or}
use Rattle.std.specs.declared.cmp.Ordering.{Ordering}
use Rattle.std.specs.declared.cmp.Ordering.TheVariants.{Less, Equal, Greater}
use Rattle.std.specs.Ordering.{ordering_reverse}
use Rattle.std.proofs.lemmas.List.{get_or-map}
use Rattle.std.proofs.lemmas.List.Elements.{All-contains}
use mathlib.Core.Logic.{inl, inr}
use mathlib.Core.Path.{refl, sym, ap, ◌∙◌, subst}
use native.Mathlib.Omega.{arith}
use Rattle.hp_algebra.specs.Ring.{IsRing, IsCommutative}
use Rattle.hp_mono.specs.declared.term.Term.{Term}
use Rattle.hp_mono.specs.Monomials.{Monomial, IsMonomial}
use Rattle.hp_mono.specs.TermOrders.{IsTermWithin}
use Rattle.hp_sums.proofs.SumSetting.{SumSetting}
use Rattle.hp_sums.proofs.Collected.{sum-total}
use Rattle.hp_sums.proofs.EqualTotals.{occurs-at, own-terms}
use Rattle.hp_sums.proofs.FirstTerms.{first_value}
use Rattle.hp_poly.specs.Polynomials.{Poly, IsPoly, coefficient_of, from_greatest}
use Rattle.hp_poly.specs.PolySetting.{from_greatest_same, from_greatest_total, poly_setting}
use Rattle.hp_poly.specs.Substitutions.{IsPolyMap, KeepsFirst}
use Rattle.hp_poly.proofs.SubstitutedTerms.{IsFrom, all-from, begins, first-coefficient}
use Rattle.hp_poly.proofs.TermMultiples.{first_monomial}
use Rattle.hp_module.specs.Vectors.{Vector}
use Rattle.hp_module.specs.FreeModules.{FreeModule, IsFreeModule, IsIn, coefficient_at}
use Rattle.hp_module.specs.Leads.{IsGreatestTerm, IsLead, IsLeastLead}
use Rattle.hp_module.proofs.VectorCoefficients.{coefficient-entry}
use Rattle.hp_module.proofs.GreatestTerms.{greatest-above, greatest-at, greatest-from, greatest-nonzero, greatest-unique, zero_or_greatest}
use Rattle.hp_graded.proofs.MappedVectors.{IsMapped, mapped-vector, mapped-zero}

-- in one component the order is that of the monomials
abbrev pub IsByMonomials : (Term → Term → Ordering) → Type 0
IsByMonomials cmp = (k : ℕ) (a b : Monomial) → IsMonomial a → IsMonomial b → from_greatest a b ≡ Less
    → cmp (record { mono = b; comp = k }) (record { mono = a; comp = k }) ≡ Less

module _ {F : Type 0} {M : FreeModule F} (L : IsFreeModule M) (by : IsByMonomials M.cmp) {f : Poly F → Poly F}
    (is : IsPolyMap M.ring f) (keeps : KeepsFirst M.ring f) where
  open M use {ring, inverse, width, cmp}

  abbrev laws : IsRing ring
  laws = L.field.is_ring

  abbrev comm : IsCommutative ring
  comm = L.field.commutes

  abbrev S : SumSetting Monomial F
  S = poly_setting laws comm

  abbrev co : Vector F → Term → F
  co v b = coefficient_at ring v b

  abbrev entry_of : Vector F → Term → Poly F
  entry_of v b = slice_index_or v (b.comp - 1) []

  -- the coefficient of a vector is that of the entry
  pub entry-coefficient : (v : Vector F) (b : Term) → IsIn M v → IsTermWithin width b
      → coefficient_at ring v b ≡ coefficient_of ring (slice_index_or v (b.comp - 1) []) b.mono
  entry-coefficient v b h w =
      let l : b.comp - 1 < length v = omega (arith, w.1, w.2, h.0) in
      let c : b.comp ≡ 1 + (b.comp - 1) = omega (arith, w.1) in
      ap (λ k. co v (record { mono = b.mono; comp = k })) c ∙ coefficient-entry laws comm 1 (b.comp - 1) v b.mono h.1 l
      ∙ sum-total S (entry_of v b) b.mono (h.1 (b.comp - 1) [] l).is_sum

  pub mapped-entry : (v : Vector F) (b : Term) → IsIn M v → IsTermWithin width b
      → coefficient_at ring (map f v) b ≡ coefficient_of ring (f (slice_index_or v (b.comp - 1) [])) b.mono
  mapped-entry v b h w =
      let l : b.comp - 1 < length v = omega (arith, w.1, w.2, h.0) in
      entry-coefficient (map f v) b (mapped-vector laws comm is width v h) w
      ∙ ap (λ p. coefficient_of ring p b.mono) (get_or-map f v (b.comp - 1) [] [] l)

  -- a polynomial with a coefficient at m and none before begins with m
  first-at : (p : Poly F) (m : Monomial) (c : F) → IsPoly ring p → coefficient_of ring p m ≡ c → c ≢ ring.zero
      → ((b : Monomial) → IsMonomial b → coefficient_of ring p b ≢ ring.zero → from_greatest b m ≢ Less)
      → (rest : Poly F) × (p ≡ (m, c) ∷ rest)
  first-at p m c h e n above =
      begins L.field p m c h n (λ i d l.
      let b = (slice_index_or p i d).0 in
      let own = own-terms S p h.is_sum i d l in
      let nz : coefficient_of ring p b ≢ ring.zero = λ z. (h.is_sum.values i d l).1 (sym own ∙ sum-total S p b h.is_sum ∙ z) in
      let not : from_greatest b m ≢ Less = above b (h.monomials i d l) nz in
      elim (from_greatest m b) as (λ r. from_greatest m b ≡ r → IsFrom L.field m b) [
        | Less ↦ λ q. inr q
        | Equal ↦ λ q. inl (sym (from_greatest_same m b q))
        | Greater ↦ λ q. absurd (not (from_greatest_total.antisymm b m ∙ ap ordering_reverse q))
      ] refl) e

  -- where a polynomial begins, a coefficient is at a monomial from there on
  from-first : (t : Monomial × F) (p : Poly F) (b : Monomial) → IsPoly ring (t ∷ p) → coefficient_of ring (t ∷ p) b ≢ ring.zero
      → IsFrom L.field t.0 b × IsMonomial b
  from-first t p b h n =
      let o = occurs-at S (t ∷ p) b h.is_sum (λ z. n (sym (sum-total S (t ∷ p) b h.is_sum) ∙ z)) in (
        All-contains (λ (u : Monomial × F). IsFrom L.field t.0 u.0) (t ∷ p) (b, _) (all-from L.field t p h) o,
        All-contains (λ (u : Monomial × F). IsMonomial u.0) (t ∷ p) (b, _) h.monomials o,
      )

  -- below a term of the vector in its component
  record IsBelowSome (v : Vector F) (b : Term) : Type 0 where
    top : Term
    top_within : IsTermWithin width top
    top_occurs : coefficient_at ring v top ≢ ring.zero
    below : (b ≡ top) ⊎ (cmp b top ≡ Less)

  below-some : (v : Vector F) (b : Term) → IsIn M v → IsTermWithin width b → co (map f v) b ≢ ring.zero → IsBelowSome v b
  below-some v b h w n =
      let l : b.comp - 1 < length v = omega (arith, w.1, w.2, h.0) in
      let p = entry_of v b in
      let hp = h.1 (b.comp - 1) [] l in
      let at = mapped-entry v b h w in
      go p refl hp (λ z. n (at ∙ z))
    where
      go : (p : Poly F) → slice_index_or v (b.comp - 1) [] ≡ p → IsPoly ring p → coefficient_of ring (f p) b.mono ≢ ring.zero → IsBelowSome v b
      go [] e hp nz = absurd (nz (ap (λ q. coefficient_of ring q b.mono) is.zero))
      go (t ∷ p) e hp nz =
          let k = keeps t p hp in
          let fp = subst (IsPoly ring) k.1 (is.value (t ∷ p) hp) in
          let from = from-first t k.0 b.mono fp (λ z. nz (ap (λ q. coefficient_of ring q b.mono) k.1 ∙ z)) in
          let it = first_monomial L.field t p hp in
          let top : Term = record { mono = t.0; comp = b.comp } in
          let wt : IsTermWithin width top = (it, w.1, w.2) in
          record {
            top = top;
            top_within = wt;
            top_occurs = λ z. (first_value S t p hp.is_sum).1 (sym (first-coefficient L.field t p) ∙ sym (ap (λ q. coefficient_of ring q t.0) e) ∙ sym (entry-coefficient v top h wt) ∙ z);
            below = elim from.0 [
              | inl s ↦ inl (λ i. record { mono = s i; comp = b.comp })
              | inr a ↦ inr (by b.comp t.0 b.mono it from.1 a)
            ];
          }

  -- The greatest term of a vector is that of its image.
  pub greatest-mapped : (v : Vector F) (t : Term) (c : F) → IsIn M v → IsGreatestTerm cmp v t c → IsGreatestTerm cmp (map f v) t c
  greatest-mapped v t c h g =
      let at = greatest-at L v t c h g in
      let w = at.0 in
      let l : t.comp - 1 < length v = omega (arith, w.1, w.2, h.0) in
      let p = entry_of v t in
      let hp = h.1 (t.comp - 1) [] l in
      let begin = first-at p t.mono c hp (sym (entry-coefficient v t h w) ∙ at.1) at.2 (λ b ib n e.
      let u : Term = record { mono = b; comp = t.comp } in
      let wu : IsTermWithin width u = (ib, w.1, w.2) in
      greatest-above L v t c h g u (λ z. n (sym (entry-coefficient v u h wu) ∙ z)) (by t.comp b t.mono ib w.0 e)) in
      let one : Monomial × F = (t.mono, c) in
      let hq = subst (IsPoly ring) begin.1 hp in
      let k = keeps one begin.0 hq in
      let value : co (map f v) t ≡ c =
      mapped-entry v t h w ∙ ap (λ q. coefficient_of ring (f q) t.mono) begin.1 ∙ ap (λ q. coefficient_of ring q t.mono) k.1
      ∙ first-coefficient L.field one k.0 in
      subst (IsGreatestTerm cmp (map f v) t) value
      (greatest-from L (map f v) t (mapped-vector laws comm is width v h) (λ z. at.2 (sym value ∙ z)) (λ b wb n less.
      let s = below-some v b h wb n in
      let not = greatest-above L v t c h g s.top s.top_occurs in
      elim s.below [
        | inl e ↦ not (ap (cmp t) (sym e) ∙ less)
        | inr q ↦ not (L.order.transitive t b s.top w wb s.top_within less q)
      ]))

  pub greatest-unmapped : (v : Vector F) (t : Term) (c : F) → IsIn M v → IsGreatestTerm cmp (map f v) t c → IsGreatestTerm cmp v t c
  greatest-unmapped v t c h g =
      let hm = mapped-vector laws comm is width v h in
      elim (zero_or_greatest L v h) [
        | inl z ↦ absurd (greatest-nonzero L (map f v) t c hm g (ap (map f) z ∙ mapped-zero laws comm is width))
        | inr q ↦
            let e = greatest-unique L (map f v) q.0 t q.1 c hm (greatest-mapped v q.0 q.1 h q.2) g in
            subst (λ s. IsGreatestTerm cmp v s c) e.0 (subst (IsGreatestTerm cmp v q.0) e.1 q.2)
      ]

  -- ---- the leads of a set of vectors and of their images

  module _ {N N' : Vector F → Type 0} (vectors : (v : Vector F) → N v → IsIn M v) (same : (w : Vector F) → N' w ↔ IsMapped f N w) where
    pub leads-same : (t : Term) → IsLead cmp N t ↔ IsLead cmp N' t
    leads-same t = (
      (λ l. (map f l.0, l.1, (same (map f l.0)).1 (l.0, l.2, refl), greatest-mapped l.0 t l.1 (vectors l.0 l.2) l.3)),
      (λ l.
          let i = (same l.0).0 l.2 in
          (i.0, l.1, i.1, greatest-unmapped i.0 t l.1 (vectors i.0 i.1) (subst (λ w. IsGreatestTerm cmp w t l.1) i.2 l.3))),
    )

    pub least-same : (t : Term) → IsLeastLead cmp N t ↔ IsLeastLead cmp N' t
    least-same t = (
      (λ l. record { lead = (leads-same t).0 l.lead; least = λ s ls d. l.least s ((leads-same s).1 ls) d }),
      (λ l. record { lead = (leads-same t).1 l.lead; least = λ s ls d. l.least s ((leads-same s).0 ls) d }),
    )
