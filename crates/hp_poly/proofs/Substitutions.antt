-- Substitution of polynomials for the variables keeps sums, products and constants.
use Rattle.std.specs.Prelude.{◌≡◌, ◌≢◌, ℕ, true, false, T, List, [], ◌∷◌, ◌++◌, drop, take, flat_map, All}
use Rattle.std.proofs.lemmas.Grind.{flat_map-append}
use Rattle.std.proofs.lemmas.List.{append-nil, take-append-drop}
use Rattle.std.proofs.lemmas.List.Elements.{All-append, All-drop, All-head, All-nil, All-tail, All-take}
use mathlib.Core.Path.{refl, sym, ap, ◌∙◌, subst}
use Rattle.hp_algebra.specs.Ring.{RingOf, IsRing, IsCommutative, IsField}
use Rattle.hp_algebra.proofs.Rings.{mul_zero}
use Rattle.hp_mono.specs.Monomials as mono
use Rattle.hp_mono.specs.Monomials.{Monomial, IsMonomial, product, vars}
use Rattle.hp_mono.proofs.MonomialLaws.{product-one}
use Rattle.hp_sums.specs.FiniteSums.{HasValues}
use Rattle.hp_sums.proofs.SumSetting.{SumSetting}
use Rattle.hp_sums.proofs.Collected.{collect-sum}
use Rattle.hp_sums.proofs.SumLaws.{zero_plus}
use Rattle.hp_sums.proofs.Merges.{collect_both}
use Rattle.hp_sums.proofs.FirstTerms.{first_value, no_term, one_term}
use Rattle.hp_sums.proofs.WeightedSums.{scaled, scaled-values}
use Rattle.hp_sums.proofs.BilinearSums.{linear-IsSum, linear-keys, linear-plus}
use Rattle.hp_poly.specs.Polynomials.{Poly, IsPoly, constant, multiple, poly_of, poly_plus, poly_ring, poly_times, term_poly}
use Rattle.hp_poly.specs.PolyRing.{poly_commutes, poly_is_ring, poly-values, term_poly-IsPoly}
use Rattle.hp_poly.specs.PolySetting.{poly_setting}
use Rattle.hp_poly.specs.Substitutions.{IsPolyMap, image_of, substituted}
use Rattle.hp_poly.proofs.Evaluation.{monomial-value, value_one, value_product}
use Rattle.hp_poly.proofs.TermMultiples.{first_monomial, multiple_poly, product_nonzero, rest_poly, term_rest, times_multiple}

module _ {F : Type 0} {ring : RingOf F} {inverse : F → F} (field : IsField ring inverse) (xs : List (Poly F))
    (polys : All (IsPoly ring) xs) where
  abbrev laws : IsRing ring
  laws = field.is_ring

  abbrev comm : IsCommutative ring
  comm = field.commutes

  abbrev PR : IsRing (poly_ring ring)
  PR = poly_is_ring laws comm

  abbrev PC : IsCommutative (poly_ring ring)
  PC = poly_commutes laws comm

  abbrev S : SumSetting Monomial F
  S = poly_setting laws comm

  abbrev image : Monomial → Poly F
  image m = image_of ring xs m

  abbrev sub : Poly F → Poly F
  sub p = substituted ring xs p

  pub image-IsPoly : (m : Monomial) → IsPoly ring (image_of ring xs m)
  image-IsPoly m = monomial-value PR PC xs m polys

  pub image-values : (m : Monomial) → HasValues ring (image_of ring xs m)
  image-values m = poly-values laws comm (image m) (image-IsPoly m)

  pub substituted-IsPoly : (p : Poly F) → IsPoly ring p → IsPoly ring (substituted ring xs p)
  substituted-IsPoly p f = record {
    is_sum = linear-IsSum S image image-values p (poly-values laws comm p f);
    monomials = linear-keys S image image-values IsMonomial p (λ i t l. (image-IsPoly _).monomials);
  }

  pub substituted-plus : (p q : Poly F) → IsPoly ring p → IsPoly ring q
      → substituted ring xs (poly_plus ring p q) ≡ poly_plus ring (substituted ring xs p) (substituted ring xs q)
  substituted-plus p q f g = linear-plus S image image-values p q f.is_sum g.is_sum

  -- ---- terms

  scaled-multiple : (c : F) (q : Poly F) → All (λ t. IsMonomial t.0) q → multiple ring c mono.one q ≡ scaled ring c q
  scaled-multiple c [] h = refl
  scaled-multiple c (t ∷ q) h =
      let M : Monomial × F → Type 0 = λ u. IsMonomial u.0 in
      let e = product-one t.0 (All-head M t q h) in
      let r = scaled-multiple c q (All-tail M t q h) in
      λ i. (e i, ring.mul c t.1) ∷ r i

  pub substituted-term : (c : F) (m : Monomial) → ring.IsValue c → c ≢ ring.zero
      → substituted ring xs (term_poly ring c m) ≡ poly_times ring (constant ring c) (image_of ring xs m)
  substituted-term c m v n =
      let q = image m in
      let f = image-IsPoly m in
      ap sub (one_term S m c v n) ∙ ap (poly_of ring) (append-nil (scaled ring c q) ∙ sym (scaled-multiple c q f.monomials))
      ∙ collect-sum S (multiple ring c mono.one q) (multiple_poly field c mono.one q v n refl f).is_sum
      ∙ sym (times_multiple field c mono.one q v n refl f)

  -- one term
  pub substituted-one : (c : F) (m : Monomial) → ring.IsValue c → c ≢ ring.zero
      → poly_plus ring [] (poly_times ring (constant ring c) (image_of ring xs m)) ≡ substituted ring xs ((m, c) ∷ [])
  substituted-one c m v n =
      let q = poly_times ring (constant ring c) (image m) in
      let h : IsPoly ring q = PR.mul_value (constant ring c) (image m) (term_poly-IsPoly laws comm c mono.one v refl) (image-IsPoly m) in
      zero_plus S q h.is_sum ∙ sym (substituted-term c m v n) ∙ ap sub (one_term S m c v n)

  -- ---- the two halves of a list

  abbrev Val : Monomial × F → Type 0
  Val t = ring.IsValue t.1

  abbrev images : Poly F → List (Monomial × F)
  images p = flat_map (λ t. scaled ring t.1 (image t.0)) p

  images-values : (p : Poly F) → HasValues ring p → HasValues ring (images p)
  images-values [] h = All-nil Val
  images-values (t ∷ p) h =
      All-append Val (scaled ring t.1 (image t.0)) (images p) (scaled-values S t.1 (image t.0) (All-head Val t p h) (image-values t.0))
      (images-values p (All-tail Val t p h))

  pub substituted-halves : (p : Poly F) (n : ℕ) {front back l r left right sum : Poly F} → front ≡ take n p → back ≡ drop n p → HasValues ring p
      → left ≡ substituted ring xs front → right ≡ substituted ring xs back → l ≡ left → r ≡ right → sum ≡ poly_plus ring l r
      → sum ≡ substituted ring xs p
  substituted-halves p n {front} {back} e d h u v a b w =
      let f : HasValues ring front = subst (HasValues ring) (sym e) (All-take Val n p h) in
      let g : HasValues ring back = subst (HasValues ring) (sym d) (All-drop Val n p h) in
      w ∙ (λ i. poly_plus ring ((a ∙ u) i) ((b ∙ v) i)) ∙ sym (collect_both S (images front) (images back) (images-values front f) (images-values back g))
      ∙ ap (poly_of ring) (sym (flat_map-append (λ t. scaled ring t.1 (image t.0)) front back) ∙ ap images ((λ i. e i ++ d i) ∙ take-append-drop n p))

  image-one : image mono.one ≡ constant ring ring.one
  image-one = value_one PR PC xs vars polys

  pub substituted-constant : (c : F) → ring.IsValue c → substituted ring xs (constant ring c) ≡ constant ring c
  substituted-constant c v =
      elim (ring.is_zero c) as (λ z. ring.is_zero c ≡ z → sub (constant ring c) ≡ constant ring c) [
        | true ↦ λ z. ap sub (no_term S mono.one c v z) ∙ sym (no_term S mono.one c v z)
        | false ↦ λ z.
            let n : c ≢ ring.zero = λ e. absurd (subst T (sym ((laws.zero_test c v).1 e) ∙ z) tt) in
            substituted-term c mono.one v n ∙ ap (poly_times ring (constant ring c)) image-one
            ∙ PR.mul_one (constant ring c) (term_poly-IsPoly laws comm c mono.one v refl)
      ] refl

  -- (a b) (c d) = (a c) (b d)
  cross : (a b c d : Poly F) → IsPoly ring a → IsPoly ring b → IsPoly ring c → IsPoly ring d
      → poly_times ring (poly_times ring a b) (poly_times ring c d) ≡ poly_times ring (poly_times ring a c) (poly_times ring b d)
  cross a b c d va vb vc vd =
      let mul = poly_times ring in
      let cd = PR.mul_value c d vc vd in
      let bd = PR.mul_value b d vb vd in
      PR.mul_assoc a b _ va vb cd
      ∙ ap (mul a) (sym (PR.mul_assoc b c d vb vc vd) ∙ ap (λ u. mul u d) (PC b c vb vc) ∙ PR.mul_assoc c b d vc vb vd)
      ∙ sym (PR.mul_assoc a c _ va vc bd)

  term-times : (c d : F) (m n : Monomial) → ring.IsValue c → c ≢ ring.zero → ring.IsValue d → d ≢ ring.zero
      → IsMonomial m → IsMonomial n
      → poly_times ring (term_poly ring c m) (term_poly ring d n) ≡ term_poly ring (ring.mul c d) (product m n)
  term-times c d m n vc nc vd nd im in_n =
      times_multiple field c m (term_poly ring d n) vc nc im (term_poly-IsPoly laws comm d n vd in_n)
      ∙ ap (multiple ring c m) (one_term S n d vd nd)
      ∙ sym (one_term S (product m n) (ring.mul c d) (laws.mul_value c d vc vd) (product_nonzero field c d vc nc vd nd))

  abbrev term : Monomial × F → Poly F
  term t = term_poly ring t.1 t.0

  record IsTerm (t : Monomial × F) : Type 0 where
    value : ring.IsValue t.1
    nonzero : t.1 ≢ ring.zero
    monomial : IsMonomial t.0

  first_term : (t : Monomial × F) (p : Poly F) → IsPoly ring (t ∷ p) → IsTerm t
  first_term t p f = let w = first_value S t p f.is_sum in record {
    value = w.0;
    nonzero = w.1;
    monomial = first_monomial field t p f;
  }

  term-IsPoly : (t : Monomial × F) → IsTerm t → IsPoly ring (term t)
  term-IsPoly t h = term_poly-IsPoly laws comm t.1 t.0 h.value h.monomial

  two_terms : (t u : Monomial × F) → IsTerm t → IsTerm u → sub (poly_times ring (term t) (term u)) ≡ poly_times ring (sub (term t)) (sub (term u))
  two_terms t u h k =
      let ct = constant ring t.1 in
      let cu = constant ring u.1 in
      let it = term_poly-IsPoly laws comm t.1 mono.one h.value refl in
      let iu = term_poly-IsPoly laws comm u.1 mono.one k.value refl in
      ap sub (term-times t.1 u.1 t.0 u.0 h.value h.nonzero k.value k.nonzero h.monomial k.monomial)
      ∙ substituted-term (ring.mul t.1 u.1) (product t.0 u.0) (laws.mul_value t.1 u.1 h.value k.value)
      (product_nonzero field t.1 u.1 h.value h.nonzero k.value k.nonzero)
      ∙ ap (λ c. poly_times ring c (image (product t.0 u.0)))
      (sym (term-times t.1 u.1 mono.one mono.one h.value h.nonzero k.value k.nonzero refl refl))
      ∙ ap (poly_times ring (poly_times ring ct cu)) (value_product PR PC xs t.0 u.0 polys (h.monomial ∙ sym k.monomial))
      ∙ cross ct cu (image t.0) (image u.0) it iu (image-IsPoly t.0) (image-IsPoly u.0)
      ∙ (λ i. poly_times ring (sym (substituted-term t.1 t.0 h.value h.nonzero) i) (sym (substituted-term u.1 u.0 k.value k.nonzero) i))

  -- ---- products

  term_left : (t : Monomial × F) (q : Poly F) → IsTerm t → IsPoly ring q
      → sub (poly_times ring (term t) q) ≡ poly_times ring (sub (term t)) (sub q)
  term_left t [] h f =
      ap sub (mul_zero PR (term t) (term-IsPoly t h)) ∙ sym (mul_zero PR (sub (term t)) (substituted-IsPoly (term t) (term-IsPoly t h)))
  term_left t (u ∷ q) h f =
      let T = term t in
      let U = term u in
      let k = first_term u q f in
      let g = rest_poly field u q f in
      let iT = term-IsPoly t h in
      let iU = term-IsPoly u k in
      let e = term_rest field u q f in
      ap (λ z. sub (poly_times ring T z)) e ∙ ap sub (PR.mul_add T U q iT iU g)
      ∙ substituted-plus (poly_times ring T U) (poly_times ring T q) (PR.mul_value T U iT iU) (PR.mul_value T q iT g)
      ∙ (λ i. poly_plus ring (two_terms t u h k i) (term_left t q h g i))
      ∙ sym (PR.mul_add (sub T) (sub U) (sub q) (substituted-IsPoly T iT) (substituted-IsPoly U iU) (substituted-IsPoly q g))
      ∙ ap (poly_times ring (sub T)) (sym (substituted-plus U q iU g)) ∙ ap (λ z. poly_times ring (sub T) (sub z)) (sym e)

  pub substituted-times : (p q : Poly F) → IsPoly ring p → IsPoly ring q
      → substituted ring xs (poly_times ring p q) ≡ poly_times ring (substituted ring xs p) (substituted ring xs q)
  substituted-times [] q f g = refl
  substituted-times (t ∷ p) q f g =
      let T = term t in
      let h = first_term t p f in
      let r = rest_poly field t p f in
      let iT = term-IsPoly t h in
      let e = term_rest field t p f in
      ap (λ z. sub (poly_times ring z q)) e ∙ ap sub (PR.add_mul T p q iT r g)
      ∙ substituted-plus (poly_times ring T q) (poly_times ring p q) (PR.mul_value T q iT g) (PR.mul_value p q r g)
      ∙ (λ i. poly_plus ring (term_left t q h g i) (substituted-times p q r g i))
      ∙ sym (PR.add_mul (sub T) (sub p) (sub q) (substituted-IsPoly T iT) (substituted-IsPoly p r) (substituted-IsPoly q g))
      ∙ ap (λ z. poly_times ring z (sub q)) (sym (substituted-plus T p iT r)) ∙ ap (λ z. poly_times ring (sub z) (sub q)) (sym e)

  -- Substitution keeps sums, products and constants.
  pub substitution_is_map : IsPolyMap ring (substituted ring xs)
  substitution_is_map = record {
    value = substituted-IsPoly;
    zero = refl;
    plus = substituted-plus;
    times = substituted-times;
    of_constant = substituted-constant;
  }
