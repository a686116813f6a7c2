-- Substitution of forms x_i + .. in other variables for chosen variables: the terms of an image are over the terms of the
-- vector, and degrees stay.
use Rattle.std.specs.Prelude.{◌≡◌, ◌≢◌, ℕ, ◌+◌, ◌-◌, ◌<◌, Bool, List, [], ◌∷◌, map, length, All, slice_index_or}
use Rattle.std.proofs.lemmas.List.{get_or-map}
use Rattle.std.proofs.lemmas.List.Elements.{All-contains, All-map, All-weaker}
use mathlib.Core.Path.{refl, sym, ap, ◌∙◌}
use native.Mathlib.Omega.{arith}
use Rattle.hp_algebra.specs.Ring.{RingOf, IsRing, IsCommutative, IsField}
use Rattle.hp_mono.specs.declared.term.Term.{Term}
use Rattle.hp_mono.specs.Monomials as mono
use Rattle.hp_mono.specs.Monomials.{Monomial, IsMonomial, degree, product, variable, vars}
use Rattle.hp_mono.specs.TermOrders.{IsTermWithin}
use Rattle.hp_mono.proofs.MonomialLaws.{degree_product, divides-most, most-divides, product-monomial}
use Rattle.hp_sums.proofs.SumSetting.{SumSetting}
use Rattle.hp_sums.proofs.Collected.{sum-total}
use Rattle.hp_sums.proofs.EqualTotals.{occurs-at, own-terms}
use Rattle.hp_sums.proofs.BilinearSums.{linear-keys}
use Rattle.hp_poly.specs.Polynomials.{Poly, IsPoly, IsHomogeneous, coefficient_of, constant, poly_times}
use Rattle.hp_poly.specs.PolyRing.{poly_is_ring, times-keys}
use Rattle.hp_poly.specs.PolySetting.{poly_setting}
use Rattle.hp_poly.specs.Substitutions.{IsTriangular, image_of, substituted}
use Rattle.hp_poly.proofs.Substitutions.{image-values, substituted-IsPoly, substitution_is_map}
use Rattle.hp_poly.proofs.SubstitutedTerms.{image-all}
use Rattle.hp_module.specs.Vectors.{Vector, IsHomogeneousVector}
use Rattle.hp_module.specs.FreeModules.{FreeModule, IsFreeModule, IsIn, coefficient_at}
use Rattle.hp_module.specs.Leads.{IsLeastLead}
use Rattle.hp_graded.proofs.KeptExponents.{IsBounded, IsInside, bounded-divisor, bounded-one, bounded-product}
use Rattle.hp_graded.proofs.MappedLeads.{IsByMonomials, entry-coefficient, mapped-entry}
use Rattle.hp_graded.proofs.MappedBases.{IsOver}

-- The monomial b may occur in the image of m: it has the same degree, and no greater exponent at a chosen place.
pub record IsUnder (ks : List Bool) (b m : Monomial) : Type 0 where
  pub monomial : IsMonomial b
  pub above : IsMonomial m
  pub same_degree : degree b ≡ degree m
  pub bounded : IsBounded ks b m

-- The terms of the polynomial may occur in the image of m.
pub record AreUnder {F : Type 0} (ring : RingOf F) (ks : List Bool) (p : Poly F) (m : Monomial) : Type 0 where
  pub poly : IsPoly ring p
  pub each : All (λ t. IsUnder ks t.0 m) p

module _ {F : Type 0} {ring : RingOf F} {inverse : F → F} (field : IsField ring inverse) (ks : List Bool) (xs : List (Poly F))
    (triangular : IsTriangular ring xs) (polys : All (IsPoly ring) xs)
    (under : (i : ℕ) → i < vars → All (λ t. IsUnder ks t.0 (variable (i + 1))) (slice_index_or xs i [])) where
  abbrev laws : IsRing ring
  laws = field.is_ring

  abbrev comm : IsCommutative ring
  comm = field.commutes

  abbrev S : SumSetting Monomial F
  S = poly_setting laws comm

  under-one : AreUnder ring ks (constant ring ring.one) mono.one
  under-one = record {
    poly = (poly_is_ring laws comm).one_value;
    each = Rattle.hp_sums.proofs.Collected.collect-keys S (λ m. IsUnder ks m mono.one) ((mono.one, ring.one) ∷ [])
        (Rattle.std.proofs.lemmas.List.Elements.All-cons (λ (t : Monomial × F). IsUnder ks t.0 mono.one) (mono.one, ring.one) [] (record { monomial = refl; above = refl; same_degree = refl; bounded = bounded-one ks vars })
        (Rattle.std.proofs.lemmas.List.Elements.All-nil (λ (t : Monomial × F). IsUnder ks t.0 mono.one)));
  }

  under-product : (p q : Poly F) (m n : Monomial) → AreUnder ring ks p m → AreUnder ring ks q n
      → AreUnder ring ks (poly_times ring p q) (product m n)
  under-product p q m n a b = record {
    poly = (poly_is_ring laws comm).mul_value p q a.poly b.poly;
    each = times-keys laws comm (λ k. IsUnder ks k (product m n)) p q (λ i t l j u k.
        let x = a.each i t l in
        let y = b.each j u k in
        let d = degree_product vars _ _ x.monomial y.monomial in
        let e = degree_product vars m n x.above y.above in
        record {
          monomial = product-monomial _ _ x.monomial y.monomial;
          above = product-monomial m n x.above y.above;
          same_degree = d ∙ (λ z. x.same_degree z + y.same_degree z) ∙ sym e;
          bounded = bounded-product ks _ m _ n x.bounded y.bounded;
        });
  }

  pub image-under : (m : Monomial) → IsMonomial m → AreUnder ring ks (image_of ring xs m) m
  image-under m im = image-all laws xs triangular.long (AreUnder ring ks) under-one under-product
      (λ i l. record { poly = triangular.polys i l; each = under i l }) m im

  -- a monomial of the image of a polynomial is under one of the polynomial
  abbrev IsBelow : Poly F → Monomial → Type 0
  IsBelow p b = (m : Monomial) × (coefficient_of ring p m ≢ ring.zero) × IsUnder ks b m

  below-terms : (p : Poly F) → IsPoly ring p → All (λ t. IsBelow p t.0) (substituted ring xs p)
  below-terms p h = linear-keys S (image_of ring xs) (image-values field xs polys) (IsBelow p) p (λ i d l.
      let m = (slice_index_or p i d).0 in
      let nz : coefficient_of ring p m ≢ ring.zero =
      λ z. (h.is_sum.values i d l).1 (sym (own-terms S p h.is_sum i d l) ∙ sum-total S p m h.is_sum ∙ z) in
      All-weaker (λ (t : Monomial × F). IsUnder ks t.0 m) (λ t. IsBelow p t.0) (λ t u. (m, nz, u)) (image_of ring xs m)
      (image-under m (h.monomials i d l)).each)

  below-at : (p : Poly F) (b : Monomial) → IsPoly ring p → coefficient_of ring (substituted ring xs p) b ≢ ring.zero → IsBelow p b
  below-at p b h n =
      let q = substituted ring xs p in
      let s = (substituted-IsPoly field xs polys p h).is_sum in
      let o = occurs-at S q b s (λ z. n (sym (sum-total S q b s) ∙ z)) in
      All-contains (λ (t : Monomial × F). IsBelow p t.0) q (b, _) (below-terms p h) o

  pub substituted-homogeneous : (d : ℕ) (p : Poly F) → IsPoly ring p → IsHomogeneous ring d p
      → IsHomogeneous ring d (substituted ring xs p)
  substituted-homogeneous d p h g =
      All-weaker (λ (t : Monomial × F). IsBelow p t.0) (λ t. degree t.0 ≡ d) (λ t k.
      let o = occurs-at S p k.0 h.is_sum (λ z. k.1 (sym (sum-total S p k.0 h.is_sum) ∙ z)) in
      k.2.same_degree ∙ All-contains (λ (u : Monomial × F). degree u.0 ≡ d) p (k.0, _) g o) (substituted ring xs p) (below-terms p h)

  pub mapped-homogeneous : (d : ℕ) (v : Vector F) → All (IsPoly ring) v → IsHomogeneousVector ring d v
      → IsHomogeneousVector ring d (map (substituted ring xs) v)
  mapped-homogeneous d v h g =
      All-map (IsHomogeneous ring d) (substituted ring xs) v (λ i e l. substituted-homogeneous d (slice_index_or v i e) (h i e l) (g i e l))

-- With least leads in the chosen variables, each term of an image is over a term of the vector.
module _ {F : Type 0} {M : FreeModule F} (L : IsFreeModule M) (by : IsByMonomials M.cmp) (ks : List Bool) (xs : List (Poly F))
    (triangular : IsTriangular M.ring xs) (polys : All (IsPoly M.ring) xs)
    (under : (i : ℕ) → i < vars → All (λ t. IsUnder ks t.0 (variable (i + 1))) (slice_index_or xs i []))
    (keeps : Rattle.hp_poly.specs.Substitutions.KeepsFirst M.ring (substituted M.ring xs))
    {N : Vector F → Type 0} (inside : (t : Term) → IsLeastLead M.cmp N t → IsTermWithin M.width t × IsInside ks t.mono) where
  open M use {ring, width, cmp}

  pub substituted-over : (v : Vector F) (s : Term) → IsIn M v → IsTermWithin width s
      → coefficient_at ring (map (substituted ring xs) v) s ≢ ring.zero → IsOver M N v s
  substituted-over v s h w n =
      let is = substitution_is_map L.field xs polys in
      let l : s.comp - 1 < length v = omega (arith, w.1, w.2, h.0) in
      let p = slice_index_or v (s.comp - 1) [] in
      let hp = h.1 (s.comp - 1) [] l in
      let k = below-at L.field ks xs triangular polys under p s.mono hp (λ z. n (mapped-entry L by is keeps v s h w ∙ z)) in
      let top : Term = record { mono = k.0; comp = s.comp } in
      let wt : IsTermWithin width top = (k.2.above, w.1, w.2) in
      record {
        top = top;
        inside = wt;
        occurs = λ z. k.1 (sym (entry-coefficient L by is keeps v top h wt) ∙ z);
        same_degree = k.2.same_degree;
        divided = λ u lu du.
            let a = inside u lu in
            let comp = ap (λ t. t.comp) du.2 in
            let each = bounded-divisor ks u.mono s.mono k.0 (a.0.0 ∙ sym w.0) (w.0 ∙ sym k.2.above) a.1
            (divides-most u.mono s.mono a.0.0 (du.0, du.1, ap (λ t. t.mono) du.2)) k.2.bounded in
            let q = most-divides u.mono k.0 a.0.0 k.2.above each in
            (q.0, q.1, λ i. record { mono = q.2 i; comp = comp i });
      }
