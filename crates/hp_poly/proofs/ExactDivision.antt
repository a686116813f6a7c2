-- Division of a polynomial by one that is a factor, from the greatest term on: each step takes the first term of the rest.
use Rattle.std.specs.Prelude.{◌≡◌, ◌≢◌, cond, List, [], ◌∷◌, ◌++◌, map, length, slice_index_or, All}
use Rattle.std.specs.declared.cmp.Ordering.TheVariants.{Less}
use Rattle.std.proofs.lemmas.List.Elements.{All-nil, All-cons, All-append, All-map}
use mathlib.Core.Path.{sym, ap, ◌∙◌, subst}
use native.Mathlib.Omega.{arith}
use Rattle.hp_algebra.specs.Ring.{RingOf, IsRing, IsField}
use Rattle.hp_algebra.proofs.Rings.{zero_passes, mul_zero, zero_add}
use Rattle.hp_mono.specs.Monomials.{Monomial, IsMonomial, Divides, product}
use Rattle.hp_mono.proofs.MonomialLaws.{product_comm}
use Rattle.hp_sums.specs.FiniteSums.{HasValues}
use Rattle.hp_sums.proofs.SumLaws.{plus-keys}
use Rattle.hp_sums.proofs.Collected.{sum-after}
use Rattle.hp_sums.proofs.FirstTerms.{first_value, negated_sum, negative_negated}
use Rattle.hp_sums.proofs.Merges.{collect_both, plus_both, plus_left}
use Rattle.hp_poly.specs.Factors.{IsFactor}
use Rattle.hp_poly.specs.Polynomials.{from_greatest, Poly, IsPoly, multiple, poly_neg, poly_of, poly_plus, poly_ring, poly_times, term_poly}
use Rattle.hp_poly.specs.PolyRing.{poly_is_ring, poly_commutes, poly_of-IsPoly, term_poly-IsPoly, times-keys}
use Rattle.hp_poly.specs.PolyDomain.{later_products}
use Rattle.hp_poly.proofs.FactorLaws.{factor_rest}
use Rattle.hp_poly.proofs.TermMultiples.{first_monomial, rest_poly, setting, term_rest, times_multiple, multiple_poly}

-- The terms so far, as a polynomial, times g, and the rest are p.
pub record IsDividing {F : Type 0} (ring : RingOf F) (g p : Poly F) (terms : List (Monomial × F)) (rest : Poly F) : Type 0 where
  pub values : HasValues ring terms
  pub monomials : All (λ t. IsMonomial t.0) terms
  pub rest_is : IsPoly ring rest
  pub whole : p ≡ poly_plus ring (poly_times ring g (poly_of ring terms)) rest

module _ {F : Type 0} {ring : RingOf F} {inverse : F → F} (field : IsField ring inverse) where
  abbrev laws : IsRing ring
  laws = field.is_ring

  abbrev P : IsRing (poly_ring ring)
  P = poly_is_ring laws field.commutes

  -- The rest without the multiple of g that has its first term has later terms alone.
  pub rest-after : (t u : Monomial × F) (g r : Poly F) (c : F) (m : Monomial) → IsPoly ring (t ∷ g)
      → IsPoly ring (u ∷ r)
      → ring.IsValue c → c ≢ ring.zero → IsMonomial m → product m t.0 ≡ u.0 → ring.mul c t.1 ≡ u.1
      → All (λ (s : Monomial × F). from_greatest u.0 s.0 ≡ Less)
      (poly_plus ring (u ∷ r) (poly_neg ring (poly_times ring (term_poly ring c m) (t ∷ g))))
  rest-after t u g r c m hg hr vc nonzero im em ec =
      let s = multiple ring c m g in
      let turn : Monomial × F → Monomial × F = λ w. (w.0, ring.neg w.1) in
      let first : multiple ring c m (t ∷ g) ≡ u ∷ s = (λ i. (em i, ec i) ∷ s) in
      let hs = subst (IsPoly ring) first (multiple_poly field c m (t ∷ g) vc nonzero im hg) in
      let hn = negated_sum (setting field) (u ∷ s) hs.is_sum in
      let v = (first_value (setting field) u r hr.is_sum).0 in
      let after = λ (w : Monomial × F). from_greatest u.0 w.0 ≡ Less in
      let is : poly_plus ring (u ∷ r) (poly_neg ring (poly_times ring (term_poly ring c m) (t ∷ g))) ≡ poly_plus ring r (map turn s) =
      ap (λ w. poly_plus ring (u ∷ r) (poly_neg ring w)) (times_multiple field c m (t ∷ g) vc nonzero im hg ∙ first)
      ∙ ap (poly_plus ring (u ∷ r)) (negative_negated (setting field) (u ∷ s) hs.is_sum)
      ∙ plus_both (setting field) u.0 u.1 (ring.neg u.1) r (map turn s) hr.is_sum hn
      ∙ ap (λ z. cond z (poly_plus ring r (map turn s)) ((u.0, ring.add u.1 (ring.neg u.1)) ∷ poly_plus ring r (map turn s)))
      (zero_passes laws _ (laws.add_neg u.1 v)) in
      subst (All after) (sym is)
      (plus-keys (setting field) (λ k. from_greatest u.0 k ≡ Less) r (map turn s) (sum-after (setting field) u r hr.is_sum)
      (All-map after turn s (sum-after (setting field) u s hs.is_sum)))

  -- ---- one step, from its start to its end

  pub dividing_start : (g p : Poly F) → IsPoly ring g → IsPoly ring p → IsDividing ring g p [] p
  dividing_start g p hg hp = record {
    values = All-nil (λ (t : Monomial × F). ring.IsValue t.1);
    monomials = All-nil (λ (t : Monomial × F). IsMonomial t.0);
    rest_is = hp;
    whole = sym (ap (λ w. poly_plus ring w p) (mul_zero P g hg) ∙ zero_add P p hp);
  }

  pub dividing_step : (g p : Poly F) (terms : List (Monomial × F)) (rest : Poly F) (c : F) (m : Monomial)
      → IsPoly ring g
      → ring.IsValue c → IsMonomial m → IsDividing ring g p terms rest
      → IsDividing ring g p (terms ++ (m, c) ∷ [])
      (poly_plus ring rest (poly_neg ring (poly_times ring (term_poly ring c m) g)))
  dividing_step g p terms rest c m hg vc im d =
      let V : Monomial × F → Type 0 = λ t. ring.IsValue t.1 in
      let M : Monomial × F → Type 0 = λ t. IsMonomial t.0 in
      let one = All-cons V (m, c) [] vc (All-nil V) in
      let key = All-cons M (m, c) [] im (All-nil M) in
      let q = poly_of ring terms in
      let hq = poly_of-IsPoly laws field.commutes terms d.values d.monomials in
      let T = term_poly ring c m in
      let hT = term_poly-IsPoly laws field.commutes c m vc im in
      let gq = P.mul_value g q hg hq in
      let gT = P.mul_value g T hg hT in
      let hr = d.rest_is in
      let n = P.neg_value _ gT in
      let swap = ap (poly_neg ring) (poly_commutes laws field.commutes T g hT hg) in record {
        values = All-append V terms ((m, c) ∷ []) d.values one;
        monomials = All-append M terms ((m, c) ∷ []) d.monomials key;
        rest_is = P.add_value rest _ hr (P.neg_value _ (P.mul_value T g hT hg));
        whole = d.whole
            ∙ ap (poly_plus ring (poly_times ring g q))
            (sym (P.add_zero rest hr) ∙ ap (poly_plus ring rest) (sym (P.add_comm _ _ n gT ∙ P.add_neg _ gT))
            ∙ sym (P.add_assoc rest _ _ hr n gT) ∙ P.add_comm _ _ (P.add_value rest _ hr n) gT)
            ∙ sym (P.add_assoc _ _ _ gq gT (P.add_value rest _ hr n))
            ∙ (λ i. poly_plus ring (sym (P.mul_add g q T hg hq hT) i) (poly_plus ring rest (sym swap i)))
            ∙ ap (λ w. poly_plus ring (poly_times ring g w) (poly_plus ring rest (poly_neg ring (poly_times ring T g))))
            (sym (collect_both (setting field) terms ((m, c) ∷ []) d.values one));
      }

  -- nothing is left: the terms are the quotient
  pub dividing_end : (g p : Poly F) (terms : List (Monomial × F)) (rest : Poly F) → IsPoly ring g
      → IsDividing ring g p terms rest → rest ≡ []
      → IsPoly ring (poly_of ring terms) × (p ≡ poly_times ring g (poly_of ring terms))
  dividing_end g p terms rest hg d e =
      let hq = poly_of-IsPoly laws field.commutes terms d.values d.monomials in
      (hq, d.whole ∙ ap (poly_plus ring _) e ∙ P.add_zero _ (P.mul_value g _ hg hq))

  -- the first term of a product is the product of the first terms
  pub first_product : (t u : Monomial × F) (p q : Poly F) → IsPoly ring (t ∷ p) → IsPoly ring (u ∷ q)
      → poly_times ring (t ∷ p) (u ∷ q)
      ≡ (product t.0 u.0, ring.mul t.1 u.1) ∷ poly_plus ring (multiple ring t.1 t.0 q) (poly_times ring p (u ∷ q))
  first_product t u p q f g =
      let w = first_value (setting field) t p f.is_sum in
      let mt = first_monomial field t p f in
      let hp = rest_poly field t p f in
      let hT = term_poly-IsPoly laws field.commutes t.1 t.0 w.0 mt in
      ap (λ z. poly_times ring z (u ∷ q)) (term_rest field t p f) ∙ P.add_mul _ p (u ∷ q) hT hp g
      ∙ ap (λ z. poly_plus ring z (poly_times ring p (u ∷ q))) (times_multiple field t.1 t.0 (u ∷ q) w.0 w.1 mt g)
      ∙ plus_left (setting field) (product t.0 u.0, ring.mul t.1 u.1) (multiple ring t.1 t.0 q) (poly_times ring p (u ∷ q))
      (multiple_poly field t.1 t.0 (u ∷ q) w.0 w.1 mt g).is_sum
      (times-keys laws field.commutes (λ k. from_greatest (product t.0 u.0) k ≡ Less) p (u ∷ q)
      (later_products laws field.commutes t u p q f g))

  -- the first monomial of g divides that of each multiple
  pub lead_divides : (t u : Monomial × F) (g r : Poly F) → IsPoly ring (t ∷ g) → IsPoly ring (u ∷ r)
      → IsFactor (poly_ring ring) (t ∷ g) (u ∷ r) → Divides t.0 u.0
  lead_divides t u g r hg hr ([], hh, e) =
      absurd (omega (arith, ap length (e ∙ mul_zero P (t ∷ g) hg)))
  lead_divides t u g r hg hr (w ∷ h, hh, e) =
      let mw = first_monomial field w h hh in
      (w.0, mw, product_comm w.0 t.0 ∙ sym (first_key (e ∙ first_product t w g h hg hh)))
    where
      first_key : {s v : Monomial × F} {p q : Poly F} → s ∷ p ≡ v ∷ q → s.0 ≡ v.0
      first_key {s} {v} {p} {q} e = ap (λ z. (slice_index_or z 0 s).0) e

  -- the rest has a first term that the first term of g does not divide: g is no factor
  pub dividing_fails : (t u : Monomial × F) (g p : Poly F) (terms : List (Monomial × F)) (r : Poly F)
      → IsPoly ring (t ∷ g)
      → IsDividing ring (t ∷ g) p terms (u ∷ r) → ¬ (Divides t.0 u.0) → ¬ (IsFactor (poly_ring ring) (t ∷ g) p)
  dividing_fails t u g p terms r hg d none f =
      let hq = poly_of-IsPoly laws field.commutes terms d.values d.monomials in
      none (lead_divides t u g r hg d.rest_is ((factor_rest P (t ∷ g) p _ (u ∷ r) hg hq d.rest_is d.whole).0 f))
