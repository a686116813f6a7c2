-- A number for each monomial that rises with the order, as a measure for loops that take the greatest monomial away.
use Rattle.std.specs.Prelude.{◌≡◌, ℕ, ◌+◌, ◌*◌, ◌-◌, ◌^◌, ◌≤◌, ◌<◌, List, [], ◌∷◌, ◌++◌, length, sum, reverse}
use Rattle.std.specs.declared.cmp.Ordering.TheVariants.{Less, Equal, Greater}
use Rattle.std.specs.Ordering.{nat_cmp, ordering_then}
use Rattle.std.specs.Cmp.{nat_cmp_is}
use Rattle.std.specs.Cmp.Lexicographic.{slice_cmp}
use Rattle.std.proofs.Math.Nat.{mul-le-mul_right, pow-succ'}
use Rattle.std.proofs.lemmas.Bool.{cases_lt}
use Rattle.std.proofs.lemmas.List.{reverse-append, length-reverse}
use Rattle.std.proofs.lemmas.List.Sums.{sum_by-append, sum_by-cons}
use mathlib.Core.Logic.{inl, inr}
use mathlib.Core.Path.{sym, ap, ◌∙◌}
use native.Mathlib.Omega.{arith}
use Rattle.hp_mono.specs.Monomials.{Monomial, IsMonomial, degree, grevlex, vars}

-- the number with digits in base 4096, the first the highest, that falls as they rise
abbrev fall : List ℕ → ℕ
fall [] = 0
fall (x ∷ xs) = (4095 - x) * 4096 ^ length xs + fall xs

abbrev pub rank : Monomial → ℕ
rank m = degree m * 4096 ^ vars + fall (reverse m)

fall-below : (xs : List ℕ) → fall xs < 4096 ^ length xs
fall-below [] = omega arith
fall-below (x ∷ xs) =
    let l : (4095 - x) * 4096 ^ length xs ≤ 4095 * 4096 ^ length xs = mul-le-mul_right (4096 ^ length xs) (omega arith) in
    omega (arith, l, fall-below xs, pow-succ' 4096 (length xs))

-- a * n is below b * n by n, where a is below b
step : (a b n : ℕ) → a < b → a * n + n ≤ b * n
step a b n l =
    let h : (a + 1) * n ≤ b * n = mul-le-mul_right n (omega arith) in
    omega (arith, h)

fall-less : (xs ys : List ℕ) → length xs ≡ length ys → sum ys ≤ 4095 → slice_cmp nat_cmp xs ys ≡ Less
    → fall ys < fall xs
fall-less [] [] e b l = absurd (cc)
fall-less [] (y ∷ ys) e b l = absurd (omega arith)
fall-less (x ∷ xs) [] e b l = absurd (omega arith)
fall-less (x ∷ xs) (y ∷ ys) e b l =
    let s = sum_by-cons (λ n. n) y ys in
    let n : length xs ≡ length ys = omega arith in
    let p : 4096 ^ length xs ≡ 4096 ^ length ys = ap (λ k. 4096 ^ k) n in
    elim (cases_lt x y) [
      | inl below ↦ let h = step (4095 - y) (4095 - x) (4096 ^ length xs) (omega (arith, s)) in
          let q : (4095 - y) * 4096 ^ length ys ≡ (4095 - y) * 4096 ^ length xs = ap (λ k. (4095 - y) * k) (sym p) in
          omega (arith, h, q, p, fall-below ys)
      | inr within ↦ elim (cases_lt y x) [
        | inl above ↦ let g = nat_cmp_is x y Greater (omega arith) in
            absurd (no_less (ap (λ r. ordering_then r (slice_cmp nat_cmp xs ys)) g ∙ l))
        | inr also ↦ let same : x ≡ y = omega arith in
            let t = nat_cmp_is x y Equal (omega arith) in
            let r = fall-less xs ys n (omega (arith, s)) (ap (λ r. ordering_then r (slice_cmp nat_cmp xs ys)) t ∙ l) in
            let q : (4095 - y) * 4096 ^ length ys ≡ (4095 - x) * 4096 ^ length xs = λ i. (4095 - sym same i) * sym p i in
            omega (arith, r, q)
      ]
    ]
  where
    no_less : Greater ≡ Less → ⊥
    no_less e = cc

sum-reverse : (xs : List ℕ) → sum (reverse xs) ≡ sum xs
sum-reverse [] = omega arith
sum-reverse (x ∷ xs) =
    let e : sum (reverse (x ∷ xs)) ≡ sum (reverse xs ++ x ∷ []) = ap sum (reverse-append (x ∷ []) xs) in
    let a = sum_by-append (λ n. n) (reverse xs) (x ∷ []) in
    let one = sum_by-cons (λ n. n) x [] in
    let s = sum_by-cons (λ n. n) x xs in
    omega (arith, e, a, one, s, sum-reverse xs)

pub rank_less : (a b : Monomial) → IsMonomial a → IsMonomial b → degree b ≤ 4095 → grevlex a b ≡ Less → rank a < rank b
rank_less a b ia ib most l =
    let la : length (reverse a) ≡ vars = length-reverse a ∙ ia in
    let lb : length (reverse b) ≡ vars = length-reverse b ∙ ib in
    let low = fall-below (reverse a) in
    let p : 4096 ^ length (reverse a) ≡ 4096 ^ vars = ap (λ k. 4096 ^ k) la in
    elim (cases_lt (degree a) (degree b)) [
      | inl below ↦ let h = step (degree a) (degree b) (4096 ^ vars) below in omega (arith, h, low, p)
      | inr within ↦ elim (cases_lt (degree b) (degree a)) [
        | inl above ↦ let g = nat_cmp_is (degree a) (degree b) Greater (omega arith) in
            absurd (no_less (ap (λ r. ordering_then r (slice_cmp nat_cmp (reverse b) (reverse a))) g ∙ l))
        | inr also ↦ let same : degree a ≡ degree b = omega arith in
            let t = nat_cmp_is (degree a) (degree b) Equal (omega arith) in
            let r = fall-less (reverse b) (reverse a) (lb ∙ sym la) (omega (arith, sum-reverse a))
            (ap (λ r. ordering_then r (slice_cmp nat_cmp (reverse b) (reverse a))) t ∙ l) in
            let q : degree a * 4096 ^ vars ≡ degree b * 4096 ^ vars = ap (λ d. d * 4096 ^ vars) same in
            omega (arith, r, q)
      ]
    ]
  where
    no_less : Greater ≡ Less → ⊥
    no_less e = cc
