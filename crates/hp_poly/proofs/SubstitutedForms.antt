-- Linear forms substituted for the variables: the image of a form is the form whose coefficients are the combination of the
-- rows, and that of its power is the power.
use Rattle.std.specs.Prelude.{◌≡◌, ℕ, zero, suc, ◌+◌, ◌-◌, ◌<◌, ◌≤◌, List, [], ◌∷◌, map, length, All, replicate, set, zip, slice_index_or}
use Rattle.std.proofs.lemmas.List.Elements.{All-head, All-tail}
use mathlib.Core.Path.{refl, sym, ap, ◌∙◌}
use native.Mathlib.Omega.{arith}
use Rattle.hp_algebra.specs.Ring.{RingOf, IsRing, IsCommutative, IsField, dot_of, power}
use Rattle.hp_algebra.specs.Rows.{IsRow, row_plus, row_scale, row_times, zero_row}
use Rattle.hp_algebra.proofs.Rings.{mul_zero}
use Rattle.hp_algebra.proofs.Rows.{plus-row, scale-row, zeros-row}
use Rattle.hp_lists.specs.Lists.{range_with_len}
use Rattle.hp_mono.specs.Monomials as mono
use Rattle.hp_mono.specs.Monomials.{Monomial, variable, vars}
use Rattle.hp_sums.proofs.SumSetting.{SumSetting}
use Rattle.hp_sums.proofs.WeightedSums.{delta, delta-value, delta_ext, weighted, weighted-collect, weighted-plus, weighted-value}
use Rattle.hp_sums.proofs.BilinearSums.{weighted-linear}
use Rattle.hp_poly.specs.Polynomials.{Poly, IsPoly, constant, form_power, form_terms, linear_form, monomial_value, poly_plus, poly_ring, poly_times}
use Rattle.hp_poly.specs.PolyRing.{poly_commutes, poly_is_ring, poly-values}
use Rattle.hp_poly.specs.PolySetting.{poly_setting}
use Rattle.hp_poly.specs.Substitutions.{IsPolyMap, image_of, substituted}
use Rattle.hp_poly.proofs.Evaluation.{monomial-value, value_one}
use Rattle.hp_poly.proofs.FactorLaws.{power-value}
use Rattle.hp_poly.proofs.LinearForms.{form_terms-values, linear_form-IsPoly}
use Rattle.hp_poly.proofs.Substitutions.{image-values, substituted-IsPoly, substitution_is_map}

-- a map takes powers to powers
pub mapped-power : {F : Type 0} {ring : RingOf F} (laws : IsRing ring) (comm : IsCommutative ring) {f : Poly F → Poly F}
    → IsPolyMap ring f → (p : Poly F) (n : ℕ) → IsPoly ring p → f (power (poly_ring ring) p n) ≡ power (poly_ring ring) (f p) n
mapped-power {F} {ring} laws comm is p zero h = is.of_constant ring.one laws.one_value
mapped-power {F} {ring} laws comm {f} is p (suc n) h =
    is.times p _ h (power-value (poly_is_ring laws comm) p n h) ∙ ap (poly_times ring (f p)) (mapped-power laws comm is p n h)

module _ {F : Type 0} {ring : RingOf F} {inverse : F → F} (field : IsField ring inverse) where
  open ring use {IsValue, add, mul}

  abbrev laws : IsRing ring
  laws = field.is_ring

  abbrev comm : IsCommutative ring
  comm = field.commutes

  abbrev PR : IsRing (poly_ring ring)
  PR = poly_is_ring laws comm

  abbrev PC : IsCommutative (poly_ring ring)
  PC = poly_commutes laws comm

  abbrev S : SumSetting Monomial F
  S = poly_setting laws comm

  -- (a + b) + (c + d) = (a + c) + (b + d)
  add_mid : (a b c d : F) → IsValue a → IsValue b → IsValue c → IsValue d → add (add a b) (add c d) ≡ add (add a c) (add b d)
  add_mid a b c d va vb vc vd =
      let cd = laws.add_value c d vc vd in
      let bd = laws.add_value b d vb vd in
      laws.add_assoc a b _ va vb cd
      ∙ ap (add a) (sym (laws.add_assoc b c d vb vc vd) ∙ ap (λ u. add u d) (laws.add_comm b c vb vc) ∙ laws.add_assoc c b d vc vb vd)
      ∙ sym (laws.add_assoc a c _ va vc bd)

  -- a combination of rows is one
  times-row : (width : ℕ) (cs : List F) (rows : List (List F)) → All IsValue cs → All (IsRow ring width) rows
      → IsRow ring width (row_times ring width cs rows)
  times-row width [] rows v r = zeros-row laws width
  times-row width (c ∷ cs) [] v r = zeros-row laws width
  times-row width (c ∷ cs) (row ∷ rows) v r =
      plus-row laws width _ _ (scale-row laws width c row (All-head IsValue c cs v) (All-head (IsRow ring width) row rows r))
      (times-row width cs rows (All-tail IsValue c cs v) (All-tail (IsRow ring width) row rows r))

  -- ---- a functional of a form

  -- c_1 g(x_s) + c_2 g(x_(s + 1)) + ..
  abbrev pub form_sum : (Monomial → F) → ℕ → List F → F
  form_sum g s [] = ring.zero
  form_sum g s (c ∷ cs) = add (mul c (g (variable s))) (form_sum g (s + 1) cs)

  form_sum-raw : (g : Monomial → F) (s : ℕ) (cs : List F)
      → weighted ring g (map (λ (t : ℕ × F). (variable t.0, t.1)) (zip (range_with_len s (length cs)) cs)) ≡ form_sum g s cs
  form_sum-raw g s [] = refl
  form_sum-raw g s (c ∷ cs) = ap (add (mul c (g (variable s)))) (form_sum-raw g (s + 1) cs)

  pub form_sum-is : (g : Monomial → F) → ((m : Monomial) → IsValue (g m)) → (cs : List F) → All IsValue cs
      → weighted ring g (linear_form ring cs) ≡ form_sum g 1 cs
  form_sum-is g gv cs v = weighted-collect S g gv (form_terms ring cs) (form_terms-values laws comm cs v) ∙ form_sum-raw g 1 cs

  module _ (g : Monomial → F) (gv : (m : Monomial) → IsValue (g m)) where
    pub form_sum-value : (s : ℕ) (cs : List F) → All IsValue cs → IsValue (form_sum g s cs)
    form_sum-value s [] v = laws.zero_value
    form_sum-value s (c ∷ cs) v =
        laws.add_value _ _ (laws.mul_value c _ (All-head IsValue c cs v) (gv (variable s))) (form_sum-value (s + 1) cs (All-tail IsValue c cs v))

    form_sum-zero : (s n : ℕ) → form_sum g s (zero_row ring n) ≡ ring.zero
    form_sum-zero s zero = refl
    form_sum-zero s (suc n) =
        (λ i. add (zero_mul_ (g (variable s)) (gv (variable s)) i) (form_sum-zero (s + 1) n i)) ∙ laws.add_zero ring.zero laws.zero_value
      where
        zero_mul_ : (x : F) → IsValue x → mul ring.zero x ≡ ring.zero
        zero_mul_ x v = comm ring.zero x laws.zero_value v ∙ mul_zero laws x v

    form_sum-plus : (s : ℕ) (a b : List F) → length a ≡ length b → All IsValue a → All IsValue b
        → form_sum g s (row_plus ring a b) ≡ add (form_sum g s a) (form_sum g s b)
    form_sum-plus s [] [] e v w = sym (laws.add_zero ring.zero laws.zero_value)
    form_sum-plus s [] (y ∷ b) e v w = absurd (omega (arith, e))
    form_sum-plus s (x ∷ a) [] e v w = absurd (omega (arith, e))
    form_sum-plus s (x ∷ a) (y ∷ b) e v w =
        let h = g (variable s) in
        let vh = gv (variable s) in
        let vx = All-head IsValue x a v in
        let vy = All-head IsValue y b w in
        let va = All-tail IsValue x a v in
        let vb = All-tail IsValue y b w in
        (λ i. add (laws.add_mul x y h vx vy vh i) (form_sum-plus (s + 1) a b (omega (arith, e)) va vb i))
        ∙ add_mid (mul x h) (mul y h) (form_sum g (s + 1) a) (form_sum g (s + 1) b) (laws.mul_value x h vx vh) (laws.mul_value y h vy vh)
        (form_sum-value (s + 1) a va) (form_sum-value (s + 1) b vb)

    form_sum-scale : (s : ℕ) (c : F) (a : List F) → IsValue c → All IsValue a → form_sum g s (row_scale ring c a) ≡ mul c (form_sum g s a)
    form_sum-scale s c [] vc v = sym (mul_zero laws c vc)
    form_sum-scale s c (x ∷ a) vc v =
        let h = g (variable s) in
        let vh = gv (variable s) in
        let vx = All-head IsValue x a v in
        let va = All-tail IsValue x a v in
        (λ i. add (laws.mul_assoc c x h vc vx vh i) (form_sum-scale (s + 1) c a vc va i))
        ∙ sym (laws.mul_add c (mul x h) (form_sum g (s + 1) a) vc (laws.mul_value x h vx vh) (form_sum-value (s + 1) a va))

    -- of a combination of rows
    form_sum-times : (width : ℕ) (cs : List F) (rows : List (List F)) → All IsValue cs → All (IsRow ring width) rows
        → form_sum g 1 (row_times ring width cs rows) ≡ dot_of ring cs (map (form_sum g 1) rows)
    form_sum-times width [] rows v r = form_sum-zero 1 width
    form_sum-times width (c ∷ cs) [] v r = form_sum-zero 1 width
    form_sum-times width (c ∷ cs) (row ∷ rows) v r =
        let vc = All-head IsValue c cs v in
        let vs = All-tail IsValue c cs v in
        let hr = All-head (IsRow ring width) row rows r in
        let hs = All-tail (IsRow ring width) row rows r in
        let first = scale-row laws width c row vc hr in
        let rest = times-row width cs rows vs hs in
        form_sum-plus 1 (row_scale ring c row) (row_times ring width cs rows) (first.0 ∙ sym rest.0) first.1 rest.1
        ∙ (λ i. add (form_sum-scale 1 c row vc hr.1 i) (form_sum-times width cs rows vs hs i))

  -- of the images of the variables
  form_sum-images : (h : Monomial → F) (D : List F → F) (k : ℕ) (cs : List F) (rows : List (List F)) → length cs ≤ length rows
      → ((i : ℕ) → i < length cs → h (variable (k + i)) ≡ D (slice_index_or rows i [])) → form_sum h k cs ≡ dot_of ring cs (map D rows)
  form_sum-images h D k [] rows e at = refl
  form_sum-images h D k (c ∷ cs) [] e at = absurd (omega (arith, e))
  form_sum-images h D k (c ∷ cs) (row ∷ rows) e at =
      let z : k ≡ k + 0 = omega arith in
      let first = ap (λ j. h (variable j)) z ∙ at 0 (omega arith) in
      let rest = form_sum-images h D (k + 1) cs rows (omega (arith, e)) (λ i l.
      let n : (k + 1) + i ≡ k + suc i = omega arith in ap (λ j. h (variable j)) n ∙ at (suc i) (omega (arith, l))) in
      λ i. add (mul c (first i)) (rest i)

  -- ---- substitution

  at-unit : (n k : ℕ) (xs : List (Poly F)) → All (IsPoly ring) xs → k < n → k < length xs
      → monomial_value (poly_ring ring) xs (set (replicate n 0) k 1) ≡ slice_index_or xs k []
  at-unit zero k xs h l m = absurd (omega arith)
  at-unit (suc n) k [] h l m = absurd (omega arith)
  at-unit (suc n) zero (x ∷ xs) h l m =
      let v = All-head (IsPoly ring) x xs h in
      ap (poly_times ring (poly_times ring x (constant ring ring.one))) (value_one PR PC xs n (All-tail (IsPoly ring) x xs h))
      ∙ PR.mul_one _ (PR.mul_value x _ v PR.one_value) ∙ PR.mul_one x v
  at-unit (suc n) (suc k) (x ∷ xs) h l m =
      let r = All-tail (IsPoly ring) x xs h in
      PR.one_mul _ (monomial-value PR PC xs (set (replicate n 0) k 1) r) ∙ at-unit n k xs r (omega arith) (omega arith)

  module _ (xs : List (Poly F)) (polys : All (IsPoly ring) xs) (long : length xs ≡ vars) where
    pub image-variable : (i : ℕ) → i < vars → image_of ring xs (variable (i + 1)) ≡ slice_index_or xs i []
    image-variable i l =
        let back : (i + 1) - 1 ≡ i = omega arith in
        ap (λ k. image_of ring xs (set mono.one k 1)) back ∙ at-unit vars i xs polys l (omega (arith, l, long))

    module _ (width : ℕ) (rows : List (List F)) (are : All (IsRow ring width) rows) (many : length rows ≡ width) (few : width ≤ vars)
        (forms : (i : ℕ) → i < width → slice_index_or xs i [] ≡ linear_form ring (slice_index_or rows i [])) where
      -- The image of a form is the form of the combination of the rows.
      pub substituted-form : (cs : List F) → IsRow ring width cs
          → substituted ring xs (linear_form ring cs) ≡ linear_form ring (row_times ring width cs rows)
      substituted-form cs h =
          let p = linear_form ring cs in
          let hp = linear_form-IsPoly laws comm cs h.1 in
          let ht = times-row width cs rows h.1 are in
          let hq = linear_form-IsPoly laws comm (row_times ring width cs rows) ht.1 in
          let iv = image-values field xs polys in
          delta_ext S _ _ (substituted-IsPoly field xs polys p hp).is_sum hq.is_sum (λ b.
          let d = delta S b in
          let dv = delta-value S b in
          let g : Monomial → F = λ m. weighted ring d (image_of ring xs m) in
          let gv : (m : Monomial) → IsValue (g m) = λ m. weighted-value S d dv _ (iv m) in
          weighted-linear S (image_of ring xs) iv d dv p (poly-values laws comm p hp)
          ∙ form_sum-is g gv cs h.1
          ∙ form_sum-images g (form_sum d 1) 1 cs rows (omega (arith, h.0, many)) (λ i l.
          let w : i < width = omega (arith, l, h.0) in
          let k : 1 + i ≡ i + 1 = omega arith in
          ap (λ j. g (variable j)) k ∙ ap (weighted ring d) (image-variable i (omega (arith, w, few)) ∙ forms i w)
          ∙ form_sum-is d dv (slice_index_or rows i []) (are i [] (omega (arith, w, many))).1)
          ∙ sym (form_sum-is d dv (row_times ring width cs rows) ht.1 ∙ form_sum-times d dv width cs rows h.1 are))

      pub substituted-power : (cs : List F) (n : ℕ) → IsRow ring width cs
          → substituted ring xs (form_power ring cs n) ≡ form_power ring (row_times ring width cs rows) n
      substituted-power cs n h =
          mapped-power laws comm (substitution_is_map field xs polys) (linear_form ring cs) n (linear_form-IsPoly laws comm cs h.1)
          ∙ ap (λ p. power (poly_ring ring) p n) (substituted-form cs h)

  -- the form of a sum
  pub linear_form-plus : (a b : List F) → length a ≡ length b → All IsValue a → All IsValue b
      → linear_form ring (row_plus ring a b) ≡ poly_plus ring (linear_form ring a) (linear_form ring b)
  linear_form-plus a b e v w =
      let vs = plus-row laws (length a) a b (refl, v) (sym e, w) in
      let pa = linear_form-IsPoly laws comm a v in
      let pb = linear_form-IsPoly laws comm b w in
      delta_ext S _ _ (linear_form-IsPoly laws comm (row_plus ring a b) vs.1).is_sum (PR.add_value _ _ pa pb).is_sum (λ k.
      let d = delta S k in
      let dv = delta-value S k in
      form_sum-is d dv (row_plus ring a b) vs.1 ∙ form_sum-plus d dv 1 a b e v w
      ∙ (λ i. add (sym (form_sum-is d dv a v) i) (sym (form_sum-is d dv b w) i))
      ∙ sym (weighted-plus S d dv (linear_form ring a) (linear_form ring b) pa.is_sum pb.is_sum))
