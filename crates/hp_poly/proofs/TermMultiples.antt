-- A polynomial times one term is the list of the products in the same order; products by sums of multiples.
use Rattle.std.specs.Prelude.{◌≡◌, ◌≢◌, ◌↔◌, ◌+◌, ◌≤◌, ℕ, zero, suc, min, Bool, cond, IsTrue, List, [], ◌∷◌, map, flat_map, length, drop, All, Some}
use Rattle.std.specs.declared.cmp.Ordering.TheVariants.{Less, Greater}
use Rattle.std.specs.Option.{unwrap_or}
use Rattle.std.specs.Ordering.{is_eq}
use Rattle.std.specs.FinMap.Entries.{find}
use Rattle.std.proofs.Common.{append-nil}
use Rattle.std.proofs.lemmas.List.Elements.{All-cons, All-head, All-nil, All-tail, All-map}
use mathlib.Core.Logic.{inl, inr}
use mathlib.Core.Path.{refl, sym, ap, ◌∙◌, subst}
use native.Mathlib.Omega.{arith}
use Rattle.hp_algebra.specs.Ring.{RingOf, IsField}
use Rattle.hp_algebra.proofs.Rings.{field-domain, neg_mul}
use Rattle.hp_mono.specs.Monomials.{Monomial, IsMonomial, product, degree, grevlex, max_degree}
use Rattle.hp_mono.proofs.MonomialLaws.{product-monomial}
use Rattle.hp_mono.proofs.GrevlexLaws.{grevlex_product}
use Rattle.hp_sums.proofs.SumSetting.{SumSetting}
use Rattle.hp_sums.proofs.Collected.{collect-IsSum, collect-keys, collect-sum, sum-after, sum-tail}
use Rattle.hp_sums.proofs.SumLaws.{plus_zero, zero_plus}
use Rattle.hp_sums.proofs.FirstTerms.{cons_sum, find_after, first_value, negated_sum, negative_negated, one_term}
use Rattle.hp_sums.proofs.Merges.{before_all, no_items}
use Rattle.hp_poly.specs.Polynomials.{from_greatest, Poly, IsPoly, IsHomogeneous, coefficient_of, monomial_value, multiple, poly_degree, poly_neg, poly_of, poly_plus, poly_times, term_poly}
use Rattle.hp_poly.specs.PolySetting.{HaveProduct, poly_setting}
use Rattle.hp_poly.specs.PolyRing.{poly_is_ring, term_poly-IsPoly}
use Rattle.hp_poly.specs.Degrees.{degree_first}

-- The sum so far, with what is left of a times b, is a b.
pub record IsMultiplied {F : Type 0} (ring : RingOf F) (a b rest sum : Poly F) : Type 0 where
  pub rest_is : IsPoly ring rest
  pub sum_is : IsPoly ring sum
  pub whole : poly_plus ring sum (poly_times ring rest b) ≡ poly_times ring a b

module _ {F : Type 0} {ring : RingOf F} {inverse : F → F} (field : IsField ring inverse) where
  abbrev pub setting : SumSetting Monomial F
  setting = poly_setting field.is_ring field.commutes

  -- ---- a polynomial by its first term

  pub cons_poly : (t : Monomial × F) (p : Poly F) → ring.IsValue t.1 → t.1 ≢ ring.zero → IsMonomial t.0
      → All (λ (u : Monomial × F). from_greatest t.0 u.0 ≡ Less) p → IsPoly ring p → IsPoly ring (t ∷ p)
  cons_poly t p v n i h f = record {
    is_sum = cons_sum setting t p v n h f.is_sum;
    monomials = All-cons (λ (u : Monomial × F). IsMonomial u.0) t p i f.monomials;
  }

  pub rest_poly : (t : Monomial × F) (p : Poly F) → IsPoly ring (t ∷ p) → IsPoly ring p
  rest_poly t p f = record {
    is_sum = sum-tail setting t p f.is_sum;
    monomials = All-tail (λ (u : Monomial × F). IsMonomial u.0) t p f.monomials;
  }

  pub first_monomial : (t : Monomial × F) (p : Poly F) → IsPoly ring (t ∷ p) → IsMonomial t.0
  first_monomial t p f = All-head (λ (u : Monomial × F). IsMonomial u.0) t p f.monomials

  -- a polynomial is its first term and the rest
  pub term_rest : (t : Monomial × F) (p : Poly F) → IsPoly ring (t ∷ p)
      → t ∷ p ≡ poly_plus ring (term_poly ring t.1 t.0) p
  term_rest t p f =
      let w = first_value setting t p f.is_sum in
      sym (ap (λ z. poly_plus ring z p) (one_term setting t.0 t.1 w.0 w.1) ∙ collect-sum setting (t ∷ p) f.is_sum)

  -- ---- multiples

  pub product_nonzero : (c d : F) → ring.IsValue c → c ≢ ring.zero → ring.IsValue d → d ≢ ring.zero
      → ring.mul c d ≢ ring.zero
  product_nonzero c d v n w m e = elim ((field-domain field).no_zero_divisors c d v w e) [ inl z ↦ n z | inr z ↦ m z ]

  pub multiple_poly : (c : F) (m : Monomial) (p : Poly F) → ring.IsValue c → c ≢ ring.zero → IsMonomial m
      → IsPoly ring p
      → IsPoly ring (multiple ring c m p)
  multiple_poly c m [] v n i f = f
  multiple_poly c m (t ∷ p) v n i f =
      let w = first_value setting t p f.is_sum in
      let it = first_monomial t p f in
      let g = rest_poly t p f in
      let h = sum-after setting t p f.is_sum in
      cons_poly (product m t.0, ring.mul c t.1) (multiple ring c m p) (field.is_ring.mul_value c t.1 v w.0)
      (product_nonzero c t.1 v n w.0 w.1) (product-monomial m t.0 i it)
      (All-map (λ (u : Monomial × F). from_greatest (product m t.0) u.0 ≡ Less)
      (λ (u : Monomial × F). (product m u.0, ring.mul c u.1)) p
      (λ k d l. grevlex_product m _ t.0 i (g.monomials k d l) it ∙ h k d l))
      (multiple_poly c m p v n i g)

  -- the terms of c m times q, as the product of polynomials lists them
  row : F → Monomial → Poly F → Poly F
  row c m q =
      let scaled : F → Monomial × F → Monomial × F = λ d v. (v.0, ring.mul d v.1) in
      flat_map (λ (u : Monomial × F). map (scaled (ring.mul c u.1)) ((product m u.0, ring.one) ∷ [])) q

  row_multiple : (c : F) (m : Monomial) (q : Poly F) → ring.IsValue c → IsPoly ring q → row c m q ≡ multiple ring c m q
  unfolding row
  row_multiple c m [] v f = refl
  row_multiple c m (u ∷ q) v f =
      let e = field.is_ring.mul_one (ring.mul c u.1) (field.is_ring.mul_value c u.1 v (first_value setting u q f.is_sum).0) in
      let r = row_multiple c m q v (rest_poly u q f) in
      λ i. (product m u.0, e i) ∷ r i

  -- a term times a polynomial
  pub times_multiple : (c : F) (m : Monomial) (q : Poly F) → ring.IsValue c → c ≢ ring.zero → IsMonomial m
      → IsPoly ring q
      → poly_times ring (term_poly ring c m) q ≡ multiple ring c m q
  unfolding row
  times_multiple c m q v n i f =
      ap (λ p. poly_times ring p q) (one_term setting m c v n)
      ∙ ap (poly_of ring) (append-nil (row c m q) ∙ row_multiple c m q v f)
      ∙ collect-sum setting (multiple ring c m q) (multiple_poly c m q v n i f).is_sum

  -- ---- negatives

  pub negated_poly : (p : Poly F) → IsPoly ring p → IsPoly ring (map (λ t. (t.0, ring.neg t.1)) p)
  negated_poly p f = record {
    is_sum = negated_sum setting p f.is_sum;
    monomials = All-map (λ (u : Monomial × F). IsMonomial u.0) (λ (t : Monomial × F). (t.0, ring.neg t.1)) p f.monomials;
  }

  neg_nonzero : (c : F) → ring.IsValue c → c ≢ ring.zero → ring.neg c ≢ ring.zero
  neg_nonzero c v n e = n (sym (field.is_ring.add_zero c v) ∙ ap (ring.add c) (sym e) ∙ field.is_ring.add_neg c v)

  -- the negative of a term times a polynomial
  minus_term : (c : F) (m : Monomial) (q : Poly F) → ring.IsValue c → c ≢ ring.zero → IsMonomial m → IsPoly ring q
      → poly_times ring (term_poly ring (ring.neg c) m) q ≡ poly_neg ring (poly_times ring (term_poly ring c m) q)
  minus_term c m q v n i f =
      let tp = term_poly-IsPoly field.is_ring field.commutes c m v i in
      ap (λ z. poly_times ring z q)
      (one_term setting m (ring.neg c) (field.is_ring.neg_value c v) (neg_nonzero c v n)
      ∙ sym (ap (map (λ (t : Monomial × F). (t.0, ring.neg t.1))) (one_term setting m c v n))
      ∙ sym (negative_negated setting (term_poly ring c m) tp.is_sum))
      ∙ neg_mul (poly_is_ring field.is_ring field.commutes) (term_poly ring c m) q tp f

  -- ---- the steps of a product

  module _ {a b : Poly F} where
    pub multiplied_step : {t : Monomial × F} {p xs sum was more : Poly F} → IsPoly ring b → IsMultiplied ring a b xs sum
        → xs ≡ t ∷ p → was ≡ sum → more ≡ poly_plus ring was (poly_times ring (term_poly ring t.1 t.0) b)
        → IsMultiplied ring a b p more
    multiplied_step {t} {p} {xs} {sum} {was} {more} g s e w d =
        let laws = poly_is_ring field.is_ring field.commutes in
        let f : IsPoly ring (t ∷ p) = subst (IsPoly ring) e s.rest_is in
        let fp = rest_poly t p f in
        let ft = term_poly-IsPoly field.is_ring field.commutes t.1 t.0 (first_value setting t p f.is_sum).0 (first_monomial t p f) in
        let tb = laws.mul_value _ b ft g in
        let pb = laws.mul_value p b fp g in
        let d' : more ≡ poly_plus ring sum (poly_times ring (term_poly ring t.1 t.0) b) =
        d ∙ ap (λ z. poly_plus ring z (poly_times ring (term_poly ring t.1 t.0) b)) w in record {
          rest_is = fp;
          sum_is = subst (IsPoly ring) (sym d') (laws.add_value sum _ s.sum_is tb);
          whole =
              ap (λ z. poly_plus ring z (poly_times ring p b)) d'
              ∙ laws.add_assoc sum _ _ s.sum_is tb pb
              ∙ ap (poly_plus ring sum)
              (sym (laws.add_mul _ p b ft fp g) ∙ ap (λ z. poly_times ring z b) (sym (e ∙ term_rest t p f)))
              ∙ s.whole;
        }

    pub multiplied_end : {xs sum : Poly F} → IsMultiplied ring a b xs sum → length xs ≡ 0 → sum ≡ poly_times ring a b
    multiplied_end {xs} {sum} s n =
        sym (plus_zero setting sum s.sum_is.is_sum)
        ∙ ap (λ z. poly_plus ring sum (poly_times ring z b)) (sym (no_items xs n)) ∙ s.whole

    pub multiplied_start : {sum : Poly F} → IsPoly ring a → IsPoly ring b → sum ≡ [] → IsMultiplied ring a b a sum
    multiplied_start {sum} f g e =
        let laws = poly_is_ring field.is_ring field.commutes in record {
          rest_is = f;
          sum_is = subst (IsPoly ring) (sym e) laws.zero_value;
          whole =
              ap (λ z. poly_plus ring z (poly_times ring a b)) e
              ∙ zero_plus setting (poly_times ring a b) (laws.mul_value a b f g).is_sum;
        }

  -- ---- what the answers cite

  -- where the degrees fit, each term has a product with m
  pub each_product : (m : Monomial) (p : Poly F) → IsMonomial m → All (λ t. IsMonomial t.0) p
      → degree m + poly_degree ring p ≤ max_degree → All (λ t. HaveProduct m t.0) p
  each_product m [] i h d = All-nil (λ (u : Monomial × F). HaveProduct m u.0)
  each_product m (t ∷ p) i h d =
      All-cons (λ (u : Monomial × F). HaveProduct m u.0) t p
      (record { left = i; right = All-head (λ (u : Monomial × F). IsMonomial u.0) t p h; degrees = omega (arith, d) })
      (each_product m p i (All-tail (λ (u : Monomial × F). IsMonomial u.0) t p h) (omega (arith, d)))

  -- the sum of terms with monomials is a polynomial
  pub collected_poly : (ts : List (Monomial × F)) {p : Poly F} → All (λ t. ring.IsValue t.1) ts → All (λ t. IsMonomial t.0) ts
      → p ≡ poly_of ring ts → IsPoly ring p
  collected_poly ts v h e =
      subst (IsPoly ring) (sym e)
      (record { is_sum = collect-IsSum setting ts v; monomials = collect-keys setting IsMonomial ts h })

  -- the sum is a polynomial
  pub plus_poly : {a b p : Poly F} → IsPoly ring a → IsPoly ring b → p ≡ poly_plus ring a b → IsPoly ring p
  plus_poly {a} {b} {p} f g e =
      subst (IsPoly ring) (sym e) ((poly_is_ring field.is_ring field.commutes).add_value a b f g)

  -- the first coefficient is not zero
  pub first_nonzero : {t : Monomial × F} {p xs : Poly F} → IsPoly ring xs → xs ≡ t ∷ p → t.1 ≢ ring.zero
  first_nonzero {t} {p} {xs} f e = (first_value setting t p (subst (IsPoly ring) e f).is_sum).1

  -- the degree stands first
  pub first_degree : {t : Monomial × F} {p xs : Poly F} → IsPoly ring xs → xs ≡ t ∷ p → poly_degree ring xs ≡ degree t.0
  first_degree {t} {p} {xs} f e =
      ap (poly_degree ring) e ∙ degree_first field.is_ring field.commutes t p (subst (IsPoly ring) e f)

  -- the negatives are the negative
  pub negatives_poly : {p q : Poly F} → IsPoly ring p → q ≡ map (λ t. (t.0, ring.neg t.1)) p → IsPoly ring q
  negatives_poly {p} {q} f e = subst (IsPoly ring) (sym e) (negated_poly p f)

  pub negatives_value : {p q : Poly F} → IsPoly ring p → q ≡ map (λ t. (t.0, ring.neg t.1)) p → q ≡ poly_neg ring p
  negatives_value {p} {q} f e = e ∙ sym (negative_negated setting p f.is_sum)

  -- a multiple is taken away
  pub minus_value : {p a a' b b0 b' : Poly F} {c d : F} (m : Monomial)
      → p ≡ poly_plus ring a' (poly_times ring (term_poly ring d m) b') → a' ≡ a → b' ≡ b0 → b0 ≡ b → d ≡ ring.neg c
      → ring.IsValue c → c ≢ ring.zero → IsMonomial m → IsPoly ring b0
      → p ≡ poly_plus ring a (poly_neg ring (poly_times ring (term_poly ring c m) b))
  minus_value {p} {a} {a'} {b} {b0} {b'} {c} {d} m e u v w x vc n i f =
      e ∙ (λ k. poly_plus ring (u k) (poly_times ring (term_poly ring (x k) m) (v k)))
      ∙ ap (poly_plus ring a) (minus_term c m b0 vc n i f ∙ ap (λ z. poly_neg ring (poly_times ring (term_poly ring c m) z)) w)

  -- ---- coefficients, and terms of one degree

  -- a term before the monomial tells nothing of its coefficient
  pub later_coefficient : {t : Monomial × F} {p xs : Poly F} (m : Monomial) → xs ≡ t ∷ p → Greater ≡ grevlex t.0 m
      → coefficient_of ring p m ≡ coefficient_of ring xs m
  later_coefficient {t} {p} {xs} m e g =
      ap (λ r. unwrap_or (cond (is_eq r) (Some t.1) (find from_greatest m p)) ring.zero) g
      ∙ ap (λ q. coefficient_of ring q m) (sym e)

  -- where the first term is after the monomial, there is no such term
  pub no_coefficient : {t : Monomial × F} {p xs : Poly F} (m : Monomial) → IsPoly ring xs → xs ≡ t ∷ p
      → Less ≡ grevlex t.0 m → ring.zero ≡ coefficient_of ring xs m
  no_coefficient {t} {p} {xs} m f e l =
      let after = before_all setting m t p (subst (IsPoly ring) e f).is_sum (sym l) in
      ap (λ o. unwrap_or o ring.zero) (sym (find_after setting m (t ∷ p) after)) ∙ ap (λ q. coefficient_of ring q m) (sym e)

  pub rest_is_poly : {t : Monomial × F} {p xs : Poly F} → IsPoly ring xs → xs ≡ t ∷ p → IsPoly ring p
  rest_is_poly {t} {p} {xs} f e = rest_poly t p (subst (IsPoly ring) e f)

-- all terms have one degree where the later ones have that of the first
pub homogeneous_first : {F : Type 0} (ring : RingOf F) {t : Monomial × F} {p xs : Poly F} {d : ℕ} {b : Bool}
    → xs ≡ t ∷ p
    → d ≡ degree t.0 → IsTrue b ↔ IsHomogeneous ring d p → IsTrue b ↔ ((x : ℕ) × IsHomogeneous ring x xs)
homogeneous_first {F} ring {t} {p} {xs} {d} {b} e q w = (
  λ h. (d, subst (IsHomogeneous ring d) (sym e) (All-cons (λ (u : Monomial × F). degree u.0 ≡ d) t p (sym q) (w.0 h))),
  λ h. let P : Monomial × F → Type 0 = λ u. degree u.0 ≡ h.0 in
      let all = subst (IsHomogeneous ring h.0) e h.1 in
      w.1 (subst (λ n. IsHomogeneous ring n p) (sym (q ∙ All-head P t p all)) (All-tail P t p all)),
)

-- where the coordinates or the exponents have ended, the value is 1
pub value_end : {F : Type 0} (ring : RingOf F) (k : ℕ) (xs : List F) (m : Monomial) → k ≡ min (length xs) (length m)
    → ring.one ≡ monomial_value ring (drop k xs) (drop k m)
value_end ring zero [] m e = refl
value_end ring (suc k) [] m e = refl
value_end ring zero (x ∷ xs) [] e = refl
value_end ring (suc k) (x ∷ xs) [] e = absurd (omega arith)
value_end ring zero (x ∷ xs) (y ∷ m) e = absurd (omega arith)
value_end ring (suc k) (x ∷ xs) (y ∷ m) e = value_end ring k xs m (omega arith)
