-- Polynomials in the first variables and homogeneous ones: constants, linear forms and their powers, sums and products.
use Rattle.std.specs.Prelude.{◌≡◌, ℕ, zero, suc, ◌+◌, ◌-◌, ◌<◌, ◌≤◌, List, [], ◌∷◌, map, zip, drop, length, All, replicate, set}
use Rattle.std.proofs.lemmas.List.Sums.{sum_by-cons}
use Rattle.std.proofs.lemmas.List.Elements.{All-cons, All-head, All-nil, All-tail, All-weaker}
use mathlib.Core.Path.{refl, sym, ap, ◌∙◌, subst}
use native.Mathlib.Omega.{arith}
use Rattle.hp_lists.specs.Lists.{range_with_len}
use Rattle.hp_algebra.specs.Ring.{RingOf, IsRing, IsCommutative, dot_of}
use Rattle.hp_mono.specs.Monomials as mono
use Rattle.hp_mono.specs.Monomials.{Monomial, IsMonomial, degree, product, variable, vars}
use Rattle.hp_mono.proofs.MonomialLaws.{degree_product}
use Rattle.hp_sums.proofs.Collected.{collect-keys}
use Rattle.hp_sums.proofs.SumLaws.{plus-keys}
use Rattle.hp_poly.specs.Polynomials.{Poly, IsPoly, IsHomogeneous, constant, form_power, form_terms, linear_form, poly_degree, poly_plus, poly_ring, poly_times}
use Rattle.hp_poly.specs.Degrees.{degree_most}
use Rattle.hp_poly.specs.PolySetting.{poly_setting}
use Rattle.hp_poly.specs.PolyRing.{times-keys}
use Rattle.hp_poly.proofs.LinearForms.{form_power-IsPoly, linear_form-IsPoly, linear_form-homogeneous}
use Rattle.hp_graded.proofs.ExponentTails.{IsFirst, drop-product, first-one}

-- all monomials are in the first l variables
abbrev pub AllFirst : {F : Type 0} → ℕ → Poly F → Type 0
AllFirst l p = All (λ t. IsFirst l t.0) p

first-variable : (n k l : ℕ) → k < l → All (λ (e : ℕ). e ≡ 0) (drop l (set (replicate n 0) k 1))
first-variable zero k zero m = All-nil (λ (e : ℕ). e ≡ 0)
first-variable zero k (suc l) m = All-nil (λ (e : ℕ). e ≡ 0)
first-variable (suc n) k zero m = absurd (omega (arith, m))
first-variable (suc n) zero (suc l) m = first-one l n
first-variable (suc n) (suc k) (suc l) m = first-variable n k l (omega (arith, m))

degree-one : (n : ℕ) → degree (replicate n 0) ≡ 0
degree-one zero = refl
degree-one (suc n) = sum_by-cons (λ k. k) 0 (replicate n 0) ∙ ap (λ d. 0 + d) (degree-one n)

module _ {F : Type 0} {ring : RingOf F} (laws : IsRing ring) (commutes : IsCommutative ring) where
  open ring use {IsValue}

  pub first-plus : (l : ℕ) (p q : Poly F) → AllFirst l p → AllFirst l q → AllFirst l (poly_plus ring p q)
  first-plus l p q f g = plus-keys (poly_setting laws commutes) (IsFirst l) p q f g

  pub first-times : (l : ℕ) (p q : Poly F) → IsPoly ring p → IsPoly ring q → AllFirst l p → AllFirst l q
      → AllFirst l (poly_times ring p q)
  first-times l p q hp hq f g =
      times-keys laws commutes (IsFirst l) p q (λ i d m j e k.
      let a = Rattle.std.specs.Prelude.slice_index_or p i d in
      let b = Rattle.std.specs.Prelude.slice_index_or q j e in
      subst (All (λ (e : ℕ). e ≡ 0)) (sym (drop-product l a.0 b.0 (hp.monomials i d m ∙ sym (hq.monomials j e k)) (g j e k))) (f i d m))

  pub homogeneous-times : (d e : ℕ) (p q : Poly F) → IsPoly ring p → IsPoly ring q → IsHomogeneous ring d p
      → IsHomogeneous ring e q → IsHomogeneous ring (d + e) (poly_times ring p q)
  homogeneous-times d e p q hp hq f g =
      times-keys laws commutes (λ m. degree m ≡ d + e) p q (λ i x m j y k.
      let a = Rattle.std.specs.Prelude.slice_index_or p i x in
      let b = Rattle.std.specs.Prelude.slice_index_or q j y in
      degree_product vars a.0 b.0 (hp.monomials i x m) (hq.monomials j y k) ∙ (λ z. f i x m z + g j y k z))

  -- what holds of 1 holds of the monomials of a constant
  pub constant-all : (P : Monomial → Type 0) (c : F) → P mono.one → All (λ t. P t.0) (constant ring c)
  constant-all P c h =
      collect-keys (poly_setting laws commutes) P ((mono.one, c) ∷ [])
      (All-cons (λ (t : Monomial × F). P t.0) (mono.one, c) [] h (All-nil (λ (t : Monomial × F). P t.0)))

  pub first-constant : (l : ℕ) (c : F) → AllFirst l (constant ring c)
  first-constant l c = constant-all (IsFirst l) c (first-one l vars)

  pub homogeneous-constant : (c : F) → IsHomogeneous ring 0 (constant ring c)
  homogeneous-constant c = constant-all (λ m. degree m ≡ 0) c refl

  pub first-dot : (l : ℕ) (ps qs : List (Poly F)) → All (IsPoly ring) ps → All (IsPoly ring) qs → All (AllFirst l) ps
      → All (AllFirst l) qs → AllFirst l (dot_of (poly_ring ring) ps qs)
  first-dot l [] qs hp hq f g = All-nil (λ (t : Monomial × F). IsFirst l t.0)
  first-dot l (p ∷ ps) [] hp hq f g = All-nil (λ (t : Monomial × F). IsFirst l t.0)
  first-dot l (p ∷ ps) (q ∷ qs) hp hq f g =
      first-plus l (poly_times ring p q) (dot_of (poly_ring ring) ps qs)
      (first-times l p q (All-head (IsPoly ring) p ps hp) (All-head (IsPoly ring) q qs hq) (All-head (AllFirst l) p ps f) (All-head (AllFirst l) q qs g))
      (first-dot l ps qs (All-tail (IsPoly ring) p ps hp) (All-tail (IsPoly ring) q qs hq) (All-tail (AllFirst l) p ps f) (All-tail (AllFirst l) q qs g))

  -- ---- linear forms and their powers

  pairs : (P : Monomial → Type 0) (s : ℕ) (cs : List F) → ((i : ℕ) → s ≤ i → i < s + length cs → P (variable i))
      → All (λ (t : Monomial × F). P t.0) (map (λ (t : ℕ × F). (variable t.0, t.1)) (zip (range_with_len s (length cs)) cs))
  pairs P s [] h = All-nil (λ (t : Monomial × F). P t.0)
  pairs P s (c ∷ cs) h =
      All-cons (λ (t : Monomial × F). P t.0) (variable s, c) _ (h s (omega arith) (omega arith))
      (pairs P (s + 1) cs (λ i p q. h i (omega (arith, p)) (omega (arith, q))))

  pub first-form : (l : ℕ) (cs : List F) → length cs ≤ l → AllFirst l (linear_form ring cs)
  first-form l cs b =
      collect-keys (poly_setting laws commutes) (IsFirst l) (form_terms ring cs)
      (pairs (IsFirst l) 1 cs (λ i p q. first-variable vars (i - 1) l (omega (arith, p, q, b))))

  pub first-power : (l : ℕ) (cs : List F) (m : ℕ) → All IsValue cs → length cs ≤ l → AllFirst l (form_power ring cs m)
  first-power l cs zero v b = first-constant l ring.one
  first-power l cs (suc m) v b =
      first-times l (linear_form ring cs) (form_power ring cs m) (linear_form-IsPoly laws commutes cs v)
      (form_power-IsPoly laws commutes cs m v) (first-form l cs b) (first-power l cs m v b)

  pub homogeneous-power : (cs : List F) (m : ℕ) → All IsValue cs → length cs ≤ vars → IsHomogeneous ring m (form_power ring cs m)
  homogeneous-power cs zero v b = homogeneous-constant ring.one
  homogeneous-power cs (suc m) v b =
      let next : 1 + m ≡ suc m = omega arith in
      subst (λ d. IsHomogeneous ring d (form_power ring cs (suc m))) next
      (homogeneous-times 1 m (linear_form ring cs) (form_power ring cs m) (linear_form-IsPoly laws commutes cs v)
      (form_power-IsPoly laws commutes cs m v) (linear_form-homogeneous laws commutes cs v b) (homogeneous-power cs m v b))

  pub power-degree : (cs : List F) (m : ℕ) → All IsValue cs → length cs ≤ vars → poly_degree ring (form_power ring cs m) ≤ m
  power-degree cs m v b =
      degree_most laws commutes m (form_power ring cs m)
      (All-weaker (λ (t : Monomial × F). degree t.0 ≡ m) (λ t. degree t.0 ≤ m) (λ t e. omega (arith, e)) (form_power ring cs m) (homogeneous-power cs m v b))

  pub form-degree : (cs : List F) → All IsValue cs → length cs ≤ vars → poly_degree ring (linear_form ring cs) ≤ 1
  form-degree cs v b =
      degree_most laws commutes 1 (linear_form ring cs)
      (All-weaker (λ (t : Monomial × F). degree t.0 ≡ 1) (λ t. degree t.0 ≤ 1) (λ t e. omega (arith, e)) (linear_form ring cs) (linear_form-homogeneous laws commutes cs v b))
