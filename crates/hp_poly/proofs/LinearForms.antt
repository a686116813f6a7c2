-- Linear forms and their powers as polynomials: their degree, and their value at a point.
use Rattle.std.specs.Prelude.{◌≡◌, ℕ, zero, suc, ◌+◌, ◌-◌, ◌<◌, ◌≤◌, List, [], ◌∷◌, map, zip, drop, length, All, replicate, set, slice_index_or}
use Rattle.std.proofs.lemmas.List.{length-set}
use Rattle.std.proofs.lemmas.List.Sums.{sum_by-cons}
use Rattle.std.proofs.lemmas.List.Elements.{All-nil, All-cons, All-head, All-tail, All-map, All-weaker}
use Rattle.std.proofs.Math.Seq.{drop-cons}
use mathlib.Core.Path.{refl, sym, ap, ◌∙◌}
use native.Mathlib.Omega.{arith}
use Rattle.hp_lists.specs.Lists.{one_to, range_with_len}
use Rattle.hp_algebra.specs.Ring.{RingOf, IsRing, IsCommutative, dot_of, power}
use Rattle.hp_mono.specs.Monomials.{Monomial, IsMonomial, variable, degree, vars}
use Rattle.hp_sums.proofs.Collected.{collect-keys}
use Rattle.hp_poly.specs.Polynomials.{IsPoly, IsHomogeneous, form_power, form_terms, linear_form, monomial_value, poly_value}
use Rattle.hp_poly.specs.PolySetting.{poly_setting}
use Rattle.hp_poly.specs.PolyRing.{poly_is_ring, poly_of-IsPoly}
use Rattle.hp_poly.proofs.Evaluation.{monomial-value, value_of, value_one, value_power}
use Rattle.hp_poly.proofs.FactorLaws.{power-value}

-- ---- the degree of a variable

degree-zeros : (n : ℕ) → degree (replicate n 0) ≡ 0
degree-zeros zero = refl
degree-zeros (suc n) = sum_by-cons (λ k. k) 0 (replicate n 0) ∙ ap (λ d. 0 + d) (degree-zeros n)

degree-unit : (n k : ℕ) → k < n → degree (set (replicate n 0) k 1) ≡ 1
degree-unit zero k h = absurd (omega arith)
degree-unit (suc n) zero h = sum_by-cons (λ k. k) 1 (replicate n 0) ∙ ap (λ d. 1 + d) (degree-zeros n)
degree-unit (suc n) (suc k) h =
    sum_by-cons (λ k. k) 0 (set (replicate n 0) k 1) ∙ ap (λ d. 0 + d) (degree-unit n k (omega arith))

pub variable-monomial : (i : ℕ) → IsMonomial (variable i)
variable-monomial i = length-set (replicate vars 0) (i - 1) 1

module _ {F : Type 0} {ring : RingOf F} (laws : IsRing ring) (commutes : IsCommutative ring) where
  open ring use {zero as 0ₖ, one as 1ₖ, add, mul, IsValue}

  -- a fact of the numbers s, s + 1, .. and one of the coefficients
  pairs : (Q : ℕ → Type 0) (s : ℕ) (cs : List F) → ((i : ℕ) → s ≤ i → i < s + length cs → Q i) → All IsValue cs
      → All (λ (t : ℕ × F). Q t.0 × IsValue t.1) (zip (range_with_len s (length cs)) cs)
  pairs Q s [] h v = All-nil (λ (t : ℕ × F). Q t.0 × IsValue t.1)
  pairs Q s (c ∷ cs) h v =
      All-cons (λ (t : ℕ × F). Q t.0 × IsValue t.1) (s, c) _ (h s (omega arith) (omega arith), All-head IsValue c cs v)
      (pairs Q (s + 1) cs (λ i p q. h i (omega arith) (omega arith)) (All-tail IsValue c cs v))

  form_terms-all : (P : Monomial → Type 0) (cs : List F) → ((i : ℕ) → 1 ≤ i → i < 1 + length cs → P (variable i))
      → All IsValue cs → All (λ (t : Monomial × F). P t.0 × IsValue t.1) (form_terms ring cs)
  form_terms-all P cs h v =
      All-map (λ (t : Monomial × F). P t.0 × IsValue t.1) (λ (t : ℕ × F). (variable t.0, t.1)) (zip (one_to (length cs)) cs)
      (pairs (λ i. P (variable i)) 1 cs h v)

  pub form_terms-values : (cs : List F) → All IsValue cs → All (λ (t : Monomial × F). IsValue t.1) (form_terms ring cs)
  form_terms-values cs v =
      All-weaker (λ (t : Monomial × F). IsMonomial t.0 × IsValue t.1) (λ t. IsValue t.1) (λ t p. p.1) (form_terms ring cs)
      (form_terms-all IsMonomial cs (λ i p q. variable-monomial i) v)

  pub linear_form-IsPoly : (cs : List F) → All IsValue cs → IsPoly ring (linear_form ring cs)
  linear_form-IsPoly cs v =
      poly_of-IsPoly laws commutes (form_terms ring cs) (form_terms-values cs v)
      (All-weaker (λ (t : Monomial × F). IsMonomial t.0 × IsValue t.1) (λ t. IsMonomial t.0) (λ t p. p.0) (form_terms ring cs)
      (form_terms-all IsMonomial cs (λ i p q. variable-monomial i) v))

  pub linear_form-homogeneous : (cs : List F) → All IsValue cs → length cs ≤ vars
      → IsHomogeneous ring 1 (linear_form ring cs)
  linear_form-homogeneous cs v few =
      collect-keys (poly_setting laws commutes) (λ m. degree m ≡ 1) (form_terms ring cs)
      (All-weaker (λ (t : Monomial × F). (degree t.0 ≡ 1) × IsValue t.1) (λ t. degree t.0 ≡ 1) (λ t p. p.0) (form_terms ring cs)
      (form_terms-all (λ m. degree m ≡ 1) cs (λ i p q. degree-unit vars (i - 1) (omega (arith, few))) v))

  pub form_power-IsPoly : (cs : List F) (m : ℕ) → All IsValue cs → IsPoly ring (form_power ring cs m)
  form_power-IsPoly cs m v = power-value (poly_is_ring laws commutes) (linear_form ring cs) m (linear_form-IsPoly cs v)

  -- ---- values at a point

  at-unit : (n k : ℕ) (xs : List F) → All IsValue xs → k < n → k < length xs
      → monomial_value ring xs (set (replicate n 0) k 1) ≡ slice_index_or xs k 0ₖ
  at-unit zero k xs h l m = absurd (omega arith)
  at-unit (suc n) k [] h l m = absurd (omega arith)
  at-unit (suc n) zero (x ∷ xs) h l m =
      let v = All-head IsValue x xs h in
      ap (mul (mul x 1ₖ)) (value_one laws commutes xs n (All-tail IsValue x xs h)) ∙ laws.mul_one _ (laws.mul_value x 1ₖ v laws.one_value)
      ∙ laws.mul_one x v
  at-unit (suc n) (suc k) (x ∷ xs) h l m =
      let r = All-tail IsValue x xs h in
      laws.one_mul _ (monomial-value laws commutes xs (set (replicate n 0) k 1) r) ∙ at-unit n k xs r (omega arith) (omega arith)

  value-pairs : (xs : List F) → All IsValue xs → length xs ≤ vars → (s : ℕ) (cs : List F) → length cs + s ≡ length xs
      → poly_value ring xs (map (λ (t : ℕ × F). (variable t.0, t.1)) (zip (range_with_len (s + 1) (length cs)) cs))
      ≡ dot_of ring cs (drop s xs)
  value-pairs xs h l s [] e = refl
  value-pairs xs h l s (c ∷ cs) e =
      let back : (s + 1) - 1 ≡ s = omega arith in
      let more : s + 1 ≡ suc s = omega arith in
      let below : s < length xs = omega (arith, e) in
      let room : s < vars = omega (arith, e, l) in
      let first = ap (λ k. monomial_value ring xs (set (replicate vars 0) k 1)) back ∙ at-unit vars s xs h room below in
      let rest = value-pairs xs h l (s + 1) cs (omega (arith, e)) in
      (λ i. add (mul c (first i)) (rest i))
      ∙ ap (λ k. add (mul c (slice_index_or xs s 0ₖ)) (dot_of ring cs (drop k xs))) more
      ∙ ap (dot_of ring (c ∷ cs)) (sym (drop-cons xs s 0ₖ below))

  -- the value of a form at a point, and that of its powers
  pub value_linear_form : (cs xs : List F) → All IsValue cs → All IsValue xs → length cs ≡ length xs → length xs ≤ vars
      → poly_value ring xs (linear_form ring cs) ≡ dot_of ring cs xs
  value_linear_form cs xs h k e l =
      value_of laws commutes xs k (form_terms ring cs) (form_terms-values cs h) ∙ value-pairs xs k l 0 cs (omega (arith, e))

  pub value_form_power : (cs xs : List F) (m : ℕ) → All IsValue cs → All IsValue xs → length cs ≡ length xs
      → length xs ≤ vars
      → poly_value ring xs (form_power ring cs m) ≡ power ring (dot_of ring cs xs) m
  value_form_power cs xs m h k e l =
      value_power laws commutes xs k (linear_form ring cs) m (linear_form-IsPoly cs h)
      ∙ ap (λ v. power ring v m) (value_linear_form cs xs h k e l)
