-- The exponents of a monomial up to the l-th, and those after it. Products with monomials in the first variables change
-- only the former.
use Rattle.std.specs.Prelude.{◌≡◌, ℕ, zero, suc, ◌+◌, Bool, true, List, [], ◌∷◌, length, drop, replicate, All}
use Rattle.std.specs.Ordering.{eq_by_cmp}
use Rattle.std.proofs.lemmas.List.Elements.{All-cons, All-head, All-nil, All-tail}
use mathlib.Core.Path.{refl, sym, ap, ◌∙◌, subst}
use native.Mathlib.Omega.{arith}
use Rattle.hp_algebra.specs.Ring.{RingOf, IsRing, IsCommutative}
use Rattle.hp_mono.specs.Monomials as mono
use Rattle.hp_mono.specs.Monomials.{Monomial, IsMonomial, product, vars}
use Rattle.hp_sums.proofs.Collected.{tie}
use Rattle.hp_sums.proofs.EqualTotals.{eq-itself}
use Rattle.hp_poly.specs.Polynomials.{from_greatest}
use Rattle.hp_poly.specs.PolySetting.{from_greatest_same, poly_setting}

-- the exponents after the l-th are 0: only x_1, .., x_l occur
abbrev pub IsFirst : ℕ → Monomial → Type 0
IsFirst l m = All (λ e. e ≡ 0) (drop l m)

-- a product with a monomial in the first variables has the other's exponents after the l-th
pub drop-product : (l : ℕ) (m t : List ℕ) → length m ≡ length t → IsFirst l t → drop l (product m t) ≡ drop l m
drop-product zero [] [] e h = refl
drop-product zero [] (y ∷ t) e h = absurd (omega (arith, e))
drop-product zero (x ∷ m) [] e h = absurd (omega (arith, e))
drop-product zero (x ∷ m) (y ∷ t) e h =
    let y0 = All-head (λ (z : ℕ). z ≡ 0) y t h in
    let p : x + y ≡ x = omega (arith, y0) in
    let r = drop-product zero m t (omega (arith, e)) (All-tail (λ (z : ℕ). z ≡ 0) y t h) in
    λ i. p i ∷ r i
drop-product (suc l) [] t e h = refl
drop-product (suc l) (x ∷ m) [] e h = absurd (omega (arith, e))
drop-product (suc l) (x ∷ m) (y ∷ t) e h = drop-product l m t (omega (arith, e)) h

-- in the first variables, the exponents after the l-th are those of 1
pub first-drop : (l n : ℕ) (m : List ℕ) → length m ≡ n → IsFirst l m → drop l m ≡ drop l (replicate n 0)
first-drop l zero [] e h = refl
first-drop l (suc n) [] e h = absurd (omega (arith, e))
first-drop l zero (x ∷ m) e h = absurd (omega (arith, e))
first-drop zero (suc n) (x ∷ m) e h =
    let p = All-head (λ (z : ℕ). z ≡ 0) x m h in
    let r = first-drop zero n m (omega (arith, e)) (All-tail (λ (z : ℕ). z ≡ 0) x m h) in
    λ i. p i ∷ r i
first-drop (suc l) (suc n) (x ∷ m) e h = first-drop l n m (omega (arith, e)) h

pub first-one : (l n : ℕ) → All (λ (e : ℕ). e ≡ 0) (drop l (replicate n 0))
first-one zero zero = All-nil (λ (e : ℕ). e ≡ 0)
first-one (suc l) zero = All-nil (λ (e : ℕ). e ≡ 0)
first-one zero (suc n) = All-cons (λ (e : ℕ). e ≡ 0) 0 (replicate n 0) refl (first-one zero n)
first-one (suc l) (suc n) = first-one l n

-- the exponents up to the l-th, and zeros; zeros, and the exponents after it
abbrev pub low : ℕ → Monomial → Monomial
low l [] = []
low zero (x ∷ m) = 0 ∷ low zero m
low (suc l) (x ∷ m) = x ∷ low l m

abbrev pub high : ℕ → Monomial → Monomial
high zero m = m
high (suc l) [] = []
high (suc l) (x ∷ m) = 0 ∷ high l m

pub low-length : (l : ℕ) (m : Monomial) → length (low l m) ≡ length m
low-length zero [] = refl
low-length (suc l) [] = refl
low-length zero (x ∷ m) = ap suc (low-length zero m)
low-length (suc l) (x ∷ m) = ap suc (low-length l m)

pub high-length : (l : ℕ) (m : Monomial) → length (high l m) ≡ length m
high-length zero m = refl
high-length (suc l) [] = refl
high-length (suc l) (x ∷ m) = ap suc (high-length l m)

pub high-low : (l : ℕ) (m : Monomial) → product (high l m) (low l m) ≡ m
high-low zero [] = refl
high-low (suc l) [] = refl
high-low zero (x ∷ m) =
    let p : x + 0 ≡ x = omega arith in
    let r = high-low zero m in
    λ i. p i ∷ r i
high-low (suc l) (x ∷ m) =
    let p : 0 + x ≡ x = omega arith in
    let r = high-low l m in
    λ i. p i ∷ r i

pub high-same : (l : ℕ) (m n : Monomial) → length m ≡ length n → drop l m ≡ drop l n → high l m ≡ high l n
high-same zero m n e p = all m ∙ p ∙ sym (all n)
  where
    all : (m : Monomial) → m ≡ drop 0 m
    all [] = refl
    all (x ∷ m) = refl
high-same (suc l) [] [] e p = refl
high-same (suc l) [] (y ∷ n) e p = absurd (omega (arith, e))
high-same (suc l) (x ∷ m) [] e p = absurd (omega (arith, e))
high-same (suc l) (x ∷ m) (y ∷ n) e p = ap (λ u. 0 ∷ u) (high-same l m n (omega (arith, e)) p)

pub low-first : (l : ℕ) (m : Monomial) → IsFirst l (low l m)
low-first zero [] = All-nil (λ (e : ℕ). e ≡ 0)
low-first (suc l) [] = All-nil (λ (e : ℕ). e ≡ 0)
low-first zero (x ∷ m) = All-cons (λ (e : ℕ). e ≡ 0) 0 (low zero m) refl (whole (low zero m) (low-first zero m))
  where
    whole : (m : Monomial) → IsFirst 0 m → All (λ e. e ≡ 0) m
    whole [] h = h
    whole (x ∷ m) h = h
low-first (suc l) (x ∷ m) = low-first l m

-- whether two monomials have the same exponents after the l-th
abbrev pub same_tail : ℕ → Monomial → Monomial → Bool
same_tail l m n = eq_by_cmp from_greatest (drop l m) (drop l n)

pub tails-same : (l : ℕ) (m n : Monomial) → same_tail l m n ≡ true → drop l m ≡ drop l n
tails-same l m n e = from_greatest_same (drop l m) (drop l n) (tie (from_greatest (drop l m) (drop l n)) e)

module _ {F : Type 0} {ring : RingOf F} (laws : IsRing ring) (commutes : IsCommutative ring) where
  pub same-tails : (l : ℕ) (m n : Monomial) → drop l m ≡ drop l n → same_tail l m n ≡ true
  same-tails l m n e = ap (λ t. eq_by_cmp from_greatest t (drop l n)) e ∙ eq-itself (poly_setting laws commutes) (drop l n)

  pub first-tail : (l : ℕ) (m : Monomial) → IsMonomial m → IsFirst l m → same_tail l m mono.one ≡ true
  first-tail l m h f = same-tails l m mono.one (first-drop l vars m h f)

pub tail-first : (l : ℕ) (m : Monomial) → same_tail l m mono.one ≡ true → IsFirst l m
tail-first l m e = subst (All (λ (e : ℕ). e ≡ 0)) (sym (tails-same l m mono.one e)) (first-one l vars)
