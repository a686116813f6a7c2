-- The terms of a substituted polynomial: what products keep passes from the variables to all monomials. A triangular
-- substitution keeps the first term of each polynomial.
use Rattle.std.specs.Prelude.{◌≡◌, ◌≢◌, ◌⊎◌, ℕ, zero, suc, ◌+◌, ◌-◌, ◌<◌, ◌≤◌, cond, List, [], ◌∷◌, ◌++◌, length, All, replicate, set, slice_index_or}
use Rattle.std.specs.declared.cmp.Ordering.TheVariants.{Less}
use Rattle.std.specs.Option.{unwrap_or}
use Rattle.std.specs.Ordering.{is_eq}
use Rattle.std.specs.Cmp.{tied_itself}
use Rattle.std.proofs.lemmas.List.{append-nil}
use Rattle.std.proofs.lemmas.List.Elements.{All-cons, All-head, All-tail, All-weaker}
use mathlib.Core.Logic.{inl, inr}
use mathlib.Core.Path.{refl, sym, ap, ◌∙◌, subst}
use native.Mathlib.Omega.{arith}
use Rattle.hp_algebra.specs.Ring.{RingOf, IsRing, IsCommutative, IsField, power}
use Rattle.hp_mono.specs.Monomials as mono
use Rattle.hp_mono.specs.Monomials.{Monomial, IsMonomial, product, variable, vars}
use Rattle.hp_mono.proofs.GrevlexLaws.{grevlex_product}
use Rattle.hp_mono.proofs.MonomialLaws.{product-monomial}
use Rattle.hp_sums.proofs.SumSetting.{SumSetting}
use Rattle.hp_sums.proofs.Collected.{AreAfter, sum-after, sum-total, sum-values}
use Rattle.hp_sums.proofs.FirstTerms.{find_after, first_value, one_term}
use Rattle.hp_sums.proofs.WeightedSums.{delta, delta-value, total-delta, weighted, weighted-first, weighted-value}
use Rattle.hp_sums.proofs.BilinearSums.{linear-keys, weighted-linear}
use Rattle.hp_poly.specs.Polynomials.{Poly, IsPoly, coefficient_of, constant, from_greatest, monomial_value, poly_ring, poly_times}
use Rattle.hp_poly.specs.PolyDomain.{lead_product, product_before}
use Rattle.hp_poly.specs.PolyRing.{poly_is_ring, poly-values, times-keys}
use Rattle.hp_poly.specs.PolySetting.{from_greatest_total, poly_setting}
use Rattle.hp_poly.specs.Substitutions.{IsTriangular, KeepsFirst, image_of, substituted}
use Rattle.hp_poly.proofs.Substitutions.{image-values, substituted-IsPoly}
use Rattle.hp_poly.proofs.TermMultiples.{product_nonzero}

-- ---- monomials with one exponent

abbrev pub zeros : ℕ → Monomial
zeros k = replicate k 0

-- the exponent e after k zeros and before n
abbrev pub spike : ℕ → ℕ → ℕ → Monomial
spike k e n = replicate k 0 ++ e ∷ replicate n 0

zeros_product : (m : Monomial) → product (replicate (length m) 0) m ≡ m
zeros_product [] = refl
zeros_product (e ∷ m) = let h : 0 + e ≡ e = omega arith in let r = zeros_product m in λ i. h i ∷ r i

spike-zero : (k n : ℕ) → spike k 0 n ≡ replicate (k + (n + 1)) 0
spike-zero zero n = let e : suc n ≡ 0 + (n + 1) = omega arith in ap (λ c. replicate c 0) e
spike-zero (suc k) n =
    let e : suc (k + (n + 1)) ≡ suc k + (n + 1) = omega arith in
    ap (λ m. 0 ∷ m) (spike-zero k n) ∙ ap (λ c. replicate c 0) e

pub spike-variable : (k n : ℕ) → set (replicate (k + (n + 1)) 0) k 1 ≡ spike k 1 n
spike-variable zero n = let e : 0 + (n + 1) ≡ suc n = omega arith in ap (λ c. set (replicate c 0) 0 1) e
spike-variable (suc k) n =
    let e : suc k + (n + 1) ≡ suc (k + (n + 1)) = omega arith in
    ap (λ c. set (replicate c 0) (suc k) 1) e ∙ ap (λ m. 0 ∷ m) (spike-variable k n)

spike-product : (k a b n : ℕ) → product (spike k a n) (spike k b n) ≡ spike k (a + b) n
spike-product zero a b n = ap (λ m. (a + b) ∷ m) (go n)
  where
    go : (n : ℕ) → product (replicate n 0) (replicate n 0) ≡ replicate n 0
    go zero = refl
    go (suc n) = ap (λ m. 0 ∷ m) (go n)
spike-product (suc k) a b n = ap (λ m. 0 ∷ m) (spike-product k a b n)

spike-rest : (k e n : ℕ) (m : Monomial) → length m ≡ n → product (spike k e n) (replicate (k + 1) 0 ++ m) ≡ replicate k 0 ++ e ∷ m
spike-rest zero e n m l =
    let h : e + 0 ≡ e = omega arith in
    let r = ap (λ c. product (replicate c 0) m) (sym l) ∙ zeros_product m in
    λ i. h i ∷ r i
spike-rest (suc k) e n m l =
    let c : suc k + 1 ≡ suc (k + 1) = omega arith in
    ap (λ x. product (spike (suc k) e n) (replicate x 0 ++ m)) c ∙ ap (λ r. 0 ∷ r) (spike-rest k e n m l)

-- ---- what products keep

module _ {F : Type 0} {ring : RingOf F} (laws : IsRing ring) (xs : List (Poly F)) (long : length xs ≡ vars) where
  -- What holds of 1, of each variable, and of products holds of each monomial with its image.
  module _ (Q : Poly F → Monomial → Type 0) (of_one : Q (constant ring ring.one) mono.one)
      (of_product : (p q : Poly F) (m n : Monomial) → Q p m → Q q n → Q (poly_times ring p q) (product m n))
      (of_variable : (i : ℕ) → i < vars → Q (slice_index_or xs i []) (variable (i + 1))) where
    of_power : (x : Poly F) (k e n : ℕ) → k + (n + 1) ≡ vars → Q x (spike k 1 n) → Q (power (poly_ring ring) x e) (spike k e n)
    of_power x k zero n l h = subst (Q (constant ring ring.one)) (sym (spike-zero k n ∙ ap (λ c. replicate c 0) l)) of_one
    of_power x k (suc e) n l h =
        let c : 1 + e ≡ suc e = omega arith in
        subst (Q (power (poly_ring ring) x (suc e))) (spike-product k 1 e n ∙ ap (λ c. spike k c n) c)
        (of_product x (power (poly_ring ring) x e) (spike k 1 n) (spike k e n) h (of_power x k e n l h))

    from_place : (k : ℕ) (ys : List (Poly F)) (m : Monomial) → k + length ys ≡ vars → length m ≡ length ys
        → ((i : ℕ) → i < length ys → slice_index_or ys i [] ≡ slice_index_or xs (k + i) [])
        → Q (monomial_value (poly_ring ring) ys m) (replicate k 0 ++ m)
    from_place k [] [] l e h =
        let c : k ≡ vars = omega (arith, l) in
        subst (Q (constant ring ring.one)) (sym (append-nil (zeros k) ∙ ap zeros c)) of_one
    from_place k [] (e ∷ m) l q h = absurd (omega (arith, q))
    from_place k (y ∷ ys) [] l q h = absurd (omega (arith, q))
    from_place k (y ∷ ys) (e ∷ m) l q h =
        let n = length ys in
        let lk : k + (n + 1) ≡ vars = omega (arith, l) in
        let next : (k + 1) + n ≡ vars = omega (arith, l) in
        let first : y ≡ slice_index_or xs k [] = (let z : k + 0 ≡ k = omega arith in h 0 (omega arith) ∙ ap (λ c. slice_index_or xs c []) z) in
        let back : (k + 1) - 1 ≡ k = omega arith in
        let spiked : variable (k + 1) ≡ spike k 1 n =
        ap (λ c. set mono.one c 1) back ∙ ap (λ c. set (replicate c 0) k 1) (sym lk) ∙ spike-variable k n in
        let v = subst (Q y) spiked (subst (λ z. Q z (variable (k + 1))) (sym first) (of_variable k (omega (arith, l)))) in
        let rest = from_place (k + 1) ys m next (omega (arith, q)) (λ i d.
        let a : k + suc i ≡ (k + 1) + i = omega arith in h (suc i) (omega (arith, d)) ∙ ap (λ c. slice_index_or xs c []) a) in
        subst (Q (monomial_value (poly_ring ring) (y ∷ ys) (e ∷ m))) (spike-rest k e n m (omega (arith, q)))
        (of_product _ _ (spike k e n) (replicate (k + 1) 0 ++ m) (of_power y k e n lk v) rest)

    pub image-all : (m : Monomial) → IsMonomial m → Q (image_of ring xs m) m
    image-all m l = from_place 0 xs m (omega (arith, long)) (l ∙ sym long) (λ i d. let z : i ≡ 0 + i = omega arith in ap (λ c. slice_index_or xs c []) z)

-- ---- first terms

module _ {F : Type 0} {ring : RingOf F} {inverse : F → F} (field : IsField ring inverse) where
  abbrev laws : IsRing ring
  laws = field.is_ring

  abbrev comm : IsCommutative ring
  comm = field.commutes

  abbrev S : SumSetting Monomial F
  S = poly_setting laws comm

  -- m itself or after it
  abbrev pub IsFrom : Monomial → Monomial → Type 0
  IsFrom m b = (b ≡ m) ⊎ (from_greatest m b ≡ Less)

  pub from-after : (m b c : Monomial) → IsFrom m b → from_greatest b c ≡ Less → from_greatest m c ≡ Less
  from-after m b c h l = elim h [
    | inl e ↦ ap (λ x. from_greatest x c) (sym e) ∙ l
    | inr a ↦ from_greatest_total.trans m b c a l
  ]

  from-from : (m b c : Monomial) → IsFrom m b → IsFrom b c → IsFrom m c
  from-from m b c h k = elim k [ inl e ↦ subst (IsFrom m) (sym e) h | inr l ↦ inr (from-after m b c h l) ]

  from-product : (m n b c : Monomial) → IsMonomial m → IsMonomial n → IsMonomial b → IsMonomial c → IsFrom m b → IsFrom n c
      → IsFrom (product m n) (product b c)
  from-product m n b c im in_n ib ic h k =
      let left : IsFrom (product m n) (product b n) = elim h [
        | inl e ↦ inl (ap (λ x. product x n) e)
        | inr l ↦ inr (product_before laws comm m n b im in_n ib l)
      ] in
      let right : IsFrom (product b n) (product b c) = elim k [
        | inl e ↦ inl (ap (product b) e)
        | inr l ↦ inr (grevlex_product b c n ib ic in_n ∙ l)
      ] in
      from-from (product m n) (product b n) (product b c) left right

  -- the terms of a polynomial are from the first one on
  pub all-from : (t : Monomial × F) (p : Poly F) → IsPoly ring (t ∷ p) → All (λ u. IsFrom t.0 u.0) (t ∷ p)
  all-from t p f =
      All-cons (λ (u : Monomial × F). IsFrom t.0 u.0) t p (inl refl)
      (All-weaker (λ (u : Monomial × F). from_greatest t.0 u.0 ≡ Less) (λ u. IsFrom t.0 u.0) (λ u l. inr l) p (sum-after S t p f.is_sum))

  pub first-coefficient : (t : Monomial × F) (p : Poly F) → coefficient_of ring (t ∷ p) t.0 ≡ t.1
  first-coefficient t p =
      ap (λ r. unwrap_or (cond (is_eq r) (Rattle.std.specs.Prelude.Some t.1) (Rattle.std.specs.FinMap.Entries.find from_greatest t.0 p)) ring.zero)
      (tied_itself from_greatest_total t.0)

  -- a polynomial whose terms are from k on, and which has a coefficient at k, begins there
  pub begins : (r : Poly F) (k : Monomial) (c : F) → IsPoly ring r → c ≢ ring.zero → All (λ t. IsFrom k t.0) r
      → coefficient_of ring r k ≡ c → (rest : Poly F) × (r ≡ (k, c) ∷ rest)
  begins [] k c f n h e = absurd (n (sym e))
  begins (t ∷ r) k c f n h e = elim (All-head (λ (u : Monomial × F). IsFrom k u.0) t r h) [
    | inl s ↦ (
      r,
      (let w = sym (first-coefficient t r) ∙ ap (coefficient_of ring (t ∷ r)) s ∙ e in λ i. (s i, w i) ∷ r),
    )
    | inr l ↦
        let P : Monomial × F → Type 0 = λ u. from_greatest k u.0 ≡ Less in
        let after : AreAfter S k (t ∷ r) = All-cons P t r l
        (All-weaker (λ (u : Monomial × F). from_greatest t.0 u.0 ≡ Less) P (λ u a. from_greatest_total.trans k t.0 u.0 l a) r (sum-after S t r f.is_sum)) in
        absurd (n (sym e ∙ ap (λ o. unwrap_or o ring.zero) (find_after S k (t ∷ r) after)))
  ]

  -- A polynomial whose first term is the monomial, with coefficient 1.
  pub record IsMonicAt (p : Poly F) (m : Monomial) : Type 0 where
    pub poly : IsPoly ring p
    pub monomial : IsMonomial m
    pub rest : Poly F
    pub first : p ≡ (m, ring.one) ∷ rest

  monic-product : (p q : Poly F) (m n : Monomial) → IsMonicAt p m → IsMonicAt q n → IsMonicAt (poly_times ring p q) (product m n)
  monic-product p q m n a b =
      let fp = subst (IsPoly ring) a.first a.poly in
      let fq = subst (IsPoly ring) b.first b.poly in
      let one : Monomial × F = (m, ring.one) in
      let two : Monomial × F = (n, ring.one) in
      let pq = one ∷ a.rest in
      let qq = two ∷ b.rest in
      let whole = (poly_is_ring laws comm).mul_value _ _ fp fq in
      let hp = all-from one a.rest fp in
      let hq = all-from two b.rest fq in
      let keys : All (λ t. IsFrom (product m n) t.0) (poly_times ring pq qq) =
      times-keys laws comm (IsFrom (product m n)) pq qq (λ i t l j u k.
      from-product m n _ _ a.monomial b.monomial (fp.monomials i t l) (fq.monomials j u k) (hp i t l) (hq j u k)) in
      let r = begins (poly_times ring pq qq) (product m n) (ring.mul ring.one ring.one) whole
      (product_nonzero field ring.one ring.one laws.one_value field.one_zero laws.one_value field.one_zero) keys
      (lead_product laws comm one two a.rest b.rest fp fq) in
      let back : poly_times ring p q ≡ poly_times ring pq qq = (λ i. poly_times ring (a.first i) (b.first i)) in
      record {
        poly = (poly_is_ring laws comm).mul_value p q a.poly b.poly;
        monomial = product-monomial m n a.monomial b.monomial;
        rest = r.0;
        first = back ∙ r.1 ∙ ap (λ c. (product m n, c) ∷ r.0) (laws.one_mul ring.one laws.one_value);
      }

  module _ (xs : List (Poly F)) (triangular : IsTriangular ring xs) (polys : All (IsPoly ring) xs) where
    pub image-first : (m : Monomial) → IsMonomial m → IsMonicAt (image_of ring xs m) m
    image-first m im = image-all laws xs triangular.long IsMonicAt
        (record {
          poly = (poly_is_ring laws comm).one_value;
          monomial = refl;
          rest = [];
          first = one_term S mono.one ring.one laws.one_value field.one_zero;
        })
        monic-product
        (λ i l. let f = triangular.first i l in record {
          poly = triangular.polys i l;
          monomial = Rattle.hp_poly.proofs.LinearForms.variable-monomial (i + 1);
          rest = f.0;
          first = f.1;
        }) m im

    -- the coefficient of an image at a monomial that is not after
    image-at : (k m : Monomial) → IsMonomial m → IsFrom k m → (c : F)
        → ((m ≡ k) → c ≡ ring.one) → (from_greatest k m ≡ Less → c ≡ ring.zero)
        → weighted ring (delta S k) (image_of ring xs m) ≡ c
    image-at k m im h c tied before =
        let a = image-first m im in
        let f = subst (IsPoly ring) a.first a.poly in
        let at : weighted ring (delta S k) (image_of ring xs m) ≡ coefficient_of ring ((m, ring.one) ∷ a.rest) k =
        sym (total-delta S k _ (sum-values S _ a.poly.is_sum)) ∙ sum-total S _ k a.poly.is_sum ∙ ap (λ r. coefficient_of ring r k) a.first in
        elim h [
          | inl e ↦ at ∙ ap (coefficient_of ring ((m, ring.one) ∷ a.rest)) (sym e) ∙ first-coefficient (m, ring.one) a.rest ∙ sym (tied e)
          | inr l ↦
              let P : Monomial × F → Type 0 = λ u. from_greatest k u.0 ≡ Less in
              let after : AreAfter S k ((m, ring.one) ∷ a.rest) = All-cons P (m, ring.one) a.rest l
              (All-weaker (λ (u : Monomial × F). from_greatest m u.0 ≡ Less) P (λ u b. from_greatest_total.trans k m u.0 l b) a.rest
              (sum-after S (m, ring.one) a.rest f.is_sum)) in
              at ∙ ap (λ o. unwrap_or o ring.zero) (find_after S k ((m, ring.one) ∷ a.rest) after) ∙ sym (before l)
        ]

    -- A triangular substitution keeps the first term.
    pub keeps_first : KeepsFirst ring (substituted ring xs)
    keeps_first t p f =
        let k = t.0 in
        let w = first_value S t p f.is_sum in
        let vp = poly-values laws comm (t ∷ p) f in
        let iv = image-values field xs polys in
        let g : Monomial → F = λ b. weighted ring (delta S k) (image_of ring xs b) in
        let gv : (b : Monomial) → ring.IsValue (g b) = λ b. weighted-value S (delta S k) (delta-value S k) _ (iv b) in
        let r = substituted ring xs (t ∷ p) in
        let fr = substituted-IsPoly field xs polys (t ∷ p) f in
        let it = All-head (λ (u : Monomial × F). IsMonomial u.0) t p f.monomials in
        let ip = All-tail (λ (u : Monomial × F). IsMonomial u.0) t p f.monomials in
        let later = sum-after S t p f.is_sum in
        let keys : All (λ u. IsFrom k u.0) r =
        linear-keys S (image_of ring xs) iv (IsFrom k) (t ∷ p) (λ i d l.
        let b = (slice_index_or (t ∷ p) i d).0 in
        let a = image-first b (f.monomials i d l) in
        let fa = subst (IsPoly ring) a.first a.poly in
        subst (All (λ (u : Monomial × F). IsFrom k u.0)) (sym a.first)
        (All-weaker (λ (u : Monomial × F). IsFrom b u.0) (λ u. IsFrom k u.0) (λ u h. from-from k b u.0 (all-from t p f i d l) h) ((b, ring.one) ∷ a.rest)
        (all-from (b, ring.one) a.rest fa))) in
        let at : coefficient_of ring r k ≡ t.1 =
        sym (sum-total S r k fr.is_sum) ∙ total-delta S k r (sum-values S r fr.is_sum)
        ∙ weighted-linear S (image_of ring xs) iv (delta S k) (delta-value S k) (t ∷ p) vp
        ∙ weighted-first S g t p (gv k) vp (λ i d l.
        image-at k _ (ip i d l) (inr (later i d l)) ring.zero
        (λ e. absurd (let x = sym (ap (from_greatest k) e ∙ tied_itself from_greatest_total k) ∙ later i d l in cc)) (λ q. refl))
        ∙ ap (ring.mul t.1) (image-at k k it (inl refl) ring.one (λ e. refl) (λ q. absurd (let x = sym (tied_itself from_greatest_total k) ∙ q in cc)))
        ∙ laws.mul_one t.1 w.0 in
        begins r k t.1 fr w.1 keys at
