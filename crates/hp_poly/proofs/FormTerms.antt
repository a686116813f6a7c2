-- The terms of a linear form: each is a variable whose coefficient isn't zero, and the first such variable stands first.
use Rattle.std.specs.Prelude.{◌≡◌, ◌≢◌, ◌⊎◌, ℕ, zero, suc, ◌+◌, ◌-◌, ◌<◌, ◌≤◌, cond, true, false, List, [], ◌∷◌, ◌++◌, length, reverse, replicate, set, All, slice_index_or}
use Rattle.std.specs.declared.cmp.Ordering.TheVariants.{Less, Equal}
use Rattle.std.specs.Ordering.{eq_by_cmp, nat_cmp, ordering_then}
use Rattle.std.specs.Cmp.{tied_itself, nat_cmp_is}
use Rattle.std.specs.Cmp.Lexicographic.{slice_cmp}
use Rattle.std.proofs.lemmas.Bool.{cases_eq, cases_lt}
use Rattle.std.proofs.lemmas.List.{append_assoc, reverse-append}
use Rattle.std.proofs.lemmas.List.Elements.{All-head, All-tail}
use mathlib.Core.Logic.{inl, inr}
use mathlib.Core.Path.{refl, sym, ap, ◌∙◌}
use native.Mathlib.Omega.{arith}
use Rattle.hp_algebra.specs.Ring.{RingOf, IsRing, IsCommutative, IsField}
use Rattle.hp_algebra.specs.Rows.{entry}
use Rattle.hp_algebra.proofs.Rings.{mul_zero, zero_add}
use Rattle.hp_mono.specs.Monomials as mono
use Rattle.hp_mono.specs.Monomials.{Monomial, IsMonomial, degree, variable, vars}
use Rattle.hp_sums.proofs.SumSetting.{SumSetting}
use Rattle.hp_sums.proofs.Collected.{sum-total, sum-values, tie}
use Rattle.hp_sums.proofs.EqualTotals.{eq-itself, eq-other, own-terms}
use Rattle.hp_sums.proofs.WeightedSums.{delta, delta-value, total-delta}
use Rattle.hp_poly.specs.Polynomials.{Poly, coefficient_of, from_greatest, linear_form}
use Rattle.hp_poly.specs.PolySetting.{from_greatest_same, from_greatest_total, poly_setting}
use Rattle.hp_poly.proofs.LinearForms.{linear_form-IsPoly}
use Rattle.hp_poly.proofs.SubstitutedForms.{form_sum, form_sum-is, form_sum-value}
use Rattle.hp_poly.proofs.SubstitutedTerms.{begins, spike, spike-variable, zeros}

-- ---- the variables fall

zeros-more : (n : ℕ) → zeros n ++ 0 ∷ [] ≡ zeros (suc n)
zeros-more zero = refl
zeros-more (suc n) = ap (λ m. 0 ∷ m) (zeros-more n)

reverse-zeros : (n : ℕ) → reverse (zeros n) ≡ zeros n
reverse-zeros zero = refl
reverse-zeros (suc n) = reverse-append (zeros 1) (zeros n) ∙ ap (λ m. m ++ zeros 1) (reverse-zeros n) ∙ zeros-more n

abbrev one_place : Monomial
one_place = 1 ∷ []

reverse-spike : (k n : ℕ) → reverse (spike k 1 n) ≡ spike n 1 k
reverse-spike k n =
    reverse-append (zeros k) (one_place ++ zeros n)
    ∙ (λ i. reverse-append one_place (zeros n) i ++ reverse-zeros k i) ∙ ap (λ m. (m ++ one_place) ++ zeros k) (reverse-zeros n)
    ∙ append_assoc (zeros n) one_place (zeros k)

spikes-fall : (n m k l : ℕ) → m < n → slice_cmp nat_cmp (spike n 1 k) (spike m 1 l) ≡ Less
spikes-fall zero m k l h = absurd (omega arith)
spikes-fall (suc n) zero k l h = refl
spikes-fall (suc n) (suc m) k l h = spikes-fall n m k l (omega arith)

variable-spike : (k n : ℕ) → k + (n + 1) ≡ vars → variable (k + 1) ≡ spike k 1 n
variable-spike k n e =
    let back : (k + 1) - 1 ≡ k = omega arith in
    ap (λ c. set mono.one c 1) back ∙ ap (λ c. set (replicate c 0) k 1) (sym e) ∙ spike-variable k n

degree-unit : (n k : ℕ) → k < n → degree (set (replicate n 0) k 1) ≡ 1
degree-unit zero k h = absurd (omega arith)
degree-unit (suc n) zero h = Rattle.std.proofs.lemmas.List.Sums.sum_by-cons (λ k. k) 1 (replicate n 0) ∙ ap (λ d. 1 + d) (none n)
  where
    none : (n : ℕ) → degree (replicate n 0) ≡ 0
    none zero = refl
    none (suc n) = Rattle.std.proofs.lemmas.List.Sums.sum_by-cons (λ k. k) 0 (replicate n 0) ∙ ap (λ d. 0 + d) (none n)
degree-unit (suc n) (suc k) h =
    Rattle.std.proofs.lemmas.List.Sums.sum_by-cons (λ k. k) 0 (set (replicate n 0) k 1) ∙ ap (λ d. 0 + d) (degree-unit n k (omega arith))

pub variable-degree : (k : ℕ) → k < vars → degree (variable (k + 1)) ≡ 1
variable-degree k l =
    let back : (k + 1) - 1 ≡ k = omega arith in
    ap (λ c. degree (set mono.one c 1)) back ∙ degree-unit vars k l

-- a later variable is smaller
pub variables-fall : (i k : ℕ) → i < k → k < vars → from_greatest (variable (i + 1)) (variable (k + 1)) ≡ Less
variables-fall i k l h =
    let n = vars - (i + 1) in
    let m = vars - (k + 1) in
    let a = variable-spike i n (omega (arith, l, h)) in
    let b = variable-spike k m (omega (arith, h)) in
    let da = variable-degree i (omega (arith, l, h)) in
    let db = variable-degree k h in
    let x = variable (i + 1) in
    let y = variable (k + 1) in
    let t : nat_cmp (degree y) (degree x) ≡ Equal = sym (nat_cmp_is (degree y) (degree x) Equal (omega (arith, da, db))) in
    let whole : from_greatest x y ≡ slice_cmp nat_cmp (reverse x) (reverse y) = ap (λ o. ordering_then o (slice_cmp nat_cmp (reverse x) (reverse y))) t in
    let spiked : slice_cmp nat_cmp (reverse x) (reverse y) ≡ slice_cmp nat_cmp (reverse (spike i 1 n)) (reverse (spike k 1 m)) =
    (λ z. slice_cmp nat_cmp (reverse (a z)) (reverse (b z))) in
    let turned : slice_cmp nat_cmp (reverse (spike i 1 n)) (reverse (spike k 1 m)) ≡ slice_cmp nat_cmp (spike n 1 i) (spike m 1 k) =
    (λ z. slice_cmp nat_cmp (reverse-spike i n z) (reverse-spike k m z)) in
    whole ∙ spiked ∙ turned ∙ spikes-fall n m i k (omega (arith, l, h))

pub variables-differ : (i k : ℕ) → i < k → k < vars → variable (i + 1) ≢ variable (k + 1)
variables-differ i k l h e =
    let x = sym (variables-fall i k l h) ∙ ap (from_greatest (variable (i + 1))) (sym e) ∙ tied_itself from_greatest_total (variable (i + 1)) in
    absurd (cc)

-- ---- coefficients of a form

module _ {F : Type 0} {ring : RingOf F} {inverse : F → F} (field : IsField ring inverse) where
  open ring use {IsValue, add, mul}

  abbrev laws : IsRing ring
  laws = field.is_ring

  abbrev comm : IsCommutative ring
  comm = field.commutes

  abbrev S : SumSetting Monomial F
  S = poly_setting laws comm

  abbrev at : Monomial → ℕ → List F → F
  at b s cs = form_sum field (delta S b) s cs

  at-value : (b : Monomial) (s : ℕ) (cs : List F) → All IsValue cs → IsValue (at b s cs)
  at-value b s cs v = form_sum-value field (delta S b) (delta-value S b) s cs v

  zero_or : (x : F) → IsValue x → (x ≡ ring.zero) ⊎ (x ≢ ring.zero)
  zero_or x v = elim (ring.is_zero x) as (λ z. ring.is_zero x ≡ z → (x ≡ ring.zero) ⊎ (x ≢ ring.zero)) [
    | true ↦ λ e. inl ((laws.zero_test x v).0 e)
    | false ↦ λ e. inr (λ z. absurd (let w = sym e ∙ (laws.zero_test x v).1 z in cc))
  ] refl

  delta-other : (b x : Monomial) → b ≢ x → delta S b x ≡ ring.zero
  delta-other b x n = ap (λ c. cond c ring.one ring.zero) (eq-other S b x n)

  delta-same : (b : Monomial) → delta S b b ≡ ring.one
  delta-same b = ap (λ c. cond c ring.one ring.zero) (eq-itself S b)

  abbrev HasAt : Monomial → ℕ → List F → Type 0
  HasAt b s cs = (k : ℕ) × (k < length cs) × (entry ring cs k ≢ ring.zero) × (b ≡ variable (s + k))

  -- where the sum at b isn't zero, b is a variable with a coefficient
  has-at : (b : Monomial) (s : ℕ) (cs : List F) → All IsValue cs → at b s cs ≢ ring.zero → HasAt b s cs
  has-at b s [] v n = absurd (n refl)
  has-at b s (c ∷ cs) v n =
      let vc = All-head IsValue c cs v in
      let vs = All-tail IsValue c cs v in
      let d = delta S b (variable s) in
      let z : s + 0 ≡ s = omega arith in
      elim (zero_or (at b (s + 1) cs) (at-value b (s + 1) cs vs)) [
        | inr m ↦
            let r = has-at b (s + 1) cs vs m in
            let e : (s + 1) + r.0 ≡ s + suc r.0 = omega arith in
            let l = r.1 in
            (suc r.0, omega (arith, l), r.2, r.3 ∙ ap variable e)
        | inl none ↦ elim (cases_eq_mono b (variable s)) [
          | inl e ↦ (0, omega arith, (λ y. n (ap (λ u. add (mul u d) (at b (s + 1) cs)) y ∙ (λ i. add (zero_times d (delta-value S b (variable s)) i) (none i)) ∙ laws.add_zero ring.zero laws.zero_value)), e ∙ ap variable (sym z))
          | inr o ↦ absurd (n ((λ i. add (mul c (delta-other b (variable s) o i)) (none i)) ∙ ap (λ u. add u ring.zero) (mul_zero laws c vc) ∙ laws.add_zero ring.zero laws.zero_value))
        ]
      ]
    where
      zero_times : (x : F) → IsValue x → mul ring.zero x ≡ ring.zero
      zero_times x v = comm ring.zero x laws.zero_value v ∙ mul_zero laws x v

      cases_eq_mono : (x y : Monomial) → (x ≡ y) ⊎ (x ≢ y)
      cases_eq_mono x y = elim (eq_by_cmp from_greatest x y) as (λ z. eq_by_cmp from_greatest x y ≡ z → (x ≡ y) ⊎ (x ≢ y)) [
        | true ↦ λ e. inl (from_greatest_same x y (tie (from_greatest x y) e))
        | false ↦ λ e. inr (λ q. absurd (let w = sym e ∙ ap (λ m. eq_by_cmp from_greatest x m) (sym q) ∙ eq-itself S x in cc))
      ] refl

  -- the sum at a variable is its coefficient
  at-variable : (i s : ℕ) (cs : List F) → All IsValue cs → i < length cs → 1 ≤ s → s + length cs ≤ vars + 1
      → at (variable (s + i)) s cs ≡ entry ring cs i
  at-variable i s [] v l o h = absurd (omega (arith, l))
  at-variable zero s (c ∷ cs) v l o h =
      let vc = All-head IsValue c cs v in
      let vs = All-tail IsValue c cs v in
      let z : s + 0 ≡ s = omega arith in
      let first : delta S (variable (s + 0)) (variable s) ≡ ring.one = ap (λ k. delta S (variable (s + 0)) (variable k)) (sym z) ∙ delta-same (variable (s + 0)) in
      let none : at (variable (s + 0)) (s + 1) cs ≡ ring.zero = elim (zero_or (at (variable (s + 0)) (s + 1) cs) (at-value (variable (s + 0)) (s + 1) cs vs)) [
        | inl e ↦ e
        | inr n ↦
            let r = has-at (variable (s + 0)) (s + 1) cs vs n in
            let k = r.0 in
            let lk = r.1 in
            let a : (s - 1) + 1 ≡ s + 0 = omega (arith, o) in
            let b : ((s - 1) + 1 + k) + 1 ≡ (s + 1) + k = omega (arith, o) in
            absurd (variables-differ (s - 1) ((s - 1) + 1 + k) (omega arith) (omega (arith, lk, h, o)) (ap variable a ∙ r.3 ∙ ap variable (sym b)))
      ] in
      (λ i. add (mul c (first i)) (none i)) ∙ laws.add_zero _ (laws.mul_value c _ vc laws.one_value) ∙ laws.mul_one c vc
  at-variable (suc i) s (c ∷ cs) v l o h =
      let vc = All-head IsValue c cs v in
      let vs = All-tail IsValue c cs v in
      let e : s + suc i ≡ (s + 1) + i = omega arith in
      let a : (s - 1) + 1 ≡ s = omega (arith, o) in
      let b : (s + i) + 1 ≡ s + suc i = omega arith in
      let differ : variable (s + suc i) ≢ variable s =
      λ q. variables-differ (s - 1) (s + i) (omega (arith, o)) (omega (arith, l, h, o)) (ap variable a ∙ sym q ∙ ap variable (sym b)) in
      let rest = ap (λ k. at (variable k) (s + 1) cs) e ∙ at-variable i (s + 1) cs vs (omega (arith, l)) (omega arith) (omega (arith, h)) in
      (λ j. add (mul c (delta-other (variable (s + suc i)) (variable s) differ j)) (rest j))
      ∙ ap (λ u. add u (entry ring cs i)) (mul_zero laws c vc)
      ∙ zero_add laws (entry ring cs i) (vs i ring.zero (omega (arith, l)))

  -- each term of a form is a variable with a coefficient
  pub form-terms : (cs : List F) → All IsValue cs
      → All (λ t. (k : ℕ) × (k < length cs) × (entry ring cs k ≢ ring.zero) × (t.0 ≡ variable (k + 1))) (linear_form ring cs)
  form-terms cs v i d l =
      let p = linear_form ring cs in
      let s = (linear_form-IsPoly laws comm cs v).is_sum in
      let b = (slice_index_or p i d).0 in
      let value = sym (total-delta S b p (sum-values S p s) ∙ form_sum-is field (delta S b) (delta-value S b) cs v) ∙ own-terms S p s i d l in
      let r = has-at b 1 cs v (λ z. (s.values i d l).1 (sym value ∙ z)) in
      let e : 1 + r.0 ≡ r.0 + 1 = omega arith in
      (r.0, r.1, r.2, r.3 ∙ ap variable e)

  pub form-coefficient : (cs : List F) (i : ℕ) → All IsValue cs → i < length cs → length cs ≤ vars
      → coefficient_of ring (linear_form ring cs) (variable (i + 1)) ≡ entry ring cs i
  form-coefficient cs i v l few =
      let p = linear_form ring cs in
      let s = (linear_form-IsPoly laws comm cs v).is_sum in
      let b = variable (i + 1) in
      let e : i + 1 ≡ 1 + i = omega arith in
      sym (sum-total S p b s) ∙ total-delta S b p (sum-values S p s) ∙ form_sum-is field (delta S b) (delta-value S b) cs v
      ∙ ap (λ k. at (variable k) 1 cs) e ∙ at-variable i 1 cs v l (omega arith) (omega (arith, few))

  -- a form begins with its first variable
  pub form-first : (cs : List F) (i : ℕ) → All IsValue cs → i < length cs → length cs ≤ vars → entry ring cs i ≢ ring.zero
      → ((k : ℕ) → k < i → entry ring cs k ≡ ring.zero)
      → (rest : Poly F) × (linear_form ring cs ≡ (variable (i + 1), entry ring cs i) ∷ rest)
  form-first cs i v l few n before =
      begins field (linear_form ring cs) (variable (i + 1)) (entry ring cs i) (linear_form-IsPoly laws comm cs v) n
      (λ j d m.
      let r = form-terms cs v j d m in
      let k = r.0 in
      let lk = r.1 in
      let e = r.3 in
      elim (cases_eq k i) [
        | inl q ↦ inl (e ∙ ap (λ x. variable (x + 1)) q)
        | inr o ↦ elim (cases_lt k i) [
          | inl less ↦ absurd (r.2 (before k less))
          | inr more ↦ inr (ap (from_greatest (variable (i + 1))) e ∙ variables-fall i k (omega (arith, o, more)) (omega (arith, lk, few)))
        ]
      ])
      (form-coefficient cs i v l few)
