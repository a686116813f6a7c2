-- Divisors, quotients and exponents of monomials in two words.
use Rattle.std.specs.Prelude.{◌≡◌, ℕ, ◌+◌, ◌-◌, ◌/◌, ◌%◌, ◌≤◌, [], ◌∷◌, reverse}
use Rattle.std.specs.declared.cmp.Ordering.{Ordering}
use Rattle.std.specs.declared.cmp.Ordering.TheVariants.{Less, Equal, Greater}
use Rattle.std.specs.Ordering.{nat_cmp, ordering_then}
use Rattle.std.specs.Cmp.Lexicographic.{slice_cmp}
use Rattle.std.proofs.Common.{get_or}
use Rattle.std.proofs.lemmas.Bool.Decides.{nat_tests}
use mathlib.Core.Path.{refl, sym, ap, ◌∙◌}
use native.Mathlib.Omega.{arith}
use Rattle.hp_mono.specs.Monomials.{Monomial, IsMonomial, Divides, degree, max_degree, product, grevlex, vars}
use Rattle.hp_mono.proofs.MonomialLaws.{degree_product, product-most}
use Rattle.hp_mono.specs.Digits.{EachAtMost, five_digits, from_digits, exponents_of}

-- the digits of both words
pub most-exponents : (a b c d : ℕ) → EachAtMost (five_digits a) (five_digits c) → EachAtMost (five_digits b) (five_digits d)
    → EachAtMost (exponents_of a b) (exponents_of c d)
most-exponents a b c d (p, (q, (r, (s, (t, u))))) h = (p, (q, (r, (s, (t, h)))))

pub exponents-most : (a b c d : ℕ) → EachAtMost (exponents_of a b) (exponents_of c d)
    → EachAtMost (five_digits a) (five_digits c) × EachAtMost (five_digits b) (five_digits d)
exponents-most a b c d (p, (q, (r, (s, (t, h))))) = ((p, (q, (r, (s, (t, tt))))), h)

-- the words of a divisor are at most those of its multiple
pub low-at_most : (a b c d : ℕ) → EachAtMost (exponents_of a b) (exponents_of c d) → a ≤ c
low-at_most a b c d h = omega arith

pub high-at_most : (a b c d : ℕ) → EachAtMost (exponents_of a b) (exponents_of c d) → b ≤ d
high-at_most a b c d h = omega arith

-- the digits of the differences are the differences of the digits
pub difference-product : (a b c d : ℕ) → EachAtMost (exponents_of a b) (exponents_of c d)
    → product (exponents_of (c - a) (d - b)) (exponents_of a b) ≡ exponents_of c d
difference-product a b c d h =
    let x_1 : (c - a) % 4096 + a % 4096 ≡ c % 4096 = omega arith in
    let x_2 : (c - a) / 4096 % 4096 + a / 4096 % 4096 ≡ c / 4096 % 4096 = omega arith in
    let x_3 : (c - a) / 4096 / 4096 % 4096 + a / 4096 / 4096 % 4096 ≡ c / 4096 / 4096 % 4096 = omega arith in
    let x_4 : (c - a) / 4096 / 4096 / 4096 % 4096 + a / 4096 / 4096 / 4096 % 4096 ≡ c / 4096 / 4096 / 4096 % 4096 = omega arith in
    let x_5 : (c - a) / 4096 / 4096 / 4096 / 4096 + a / 4096 / 4096 / 4096 / 4096 ≡ c / 4096 / 4096 / 4096 / 4096 = omega arith in
    let x_6 : (d - b) % 4096 + b % 4096 ≡ d % 4096 = omega arith in
    let x_7 : (d - b) / 4096 % 4096 + b / 4096 % 4096 ≡ d / 4096 % 4096 = omega arith in
    let x_8 : (d - b) / 4096 / 4096 % 4096 + b / 4096 / 4096 % 4096 ≡ d / 4096 / 4096 % 4096 = omega arith in
    let x_9 : (d - b) / 4096 / 4096 / 4096 % 4096 + b / 4096 / 4096 / 4096 % 4096 ≡ d / 4096 / 4096 / 4096 % 4096 = omega arith in
    let x_10 : (d - b) / 4096 / 4096 / 4096 / 4096 + b / 4096 / 4096 / 4096 / 4096 ≡ d / 4096 / 4096 / 4096 / 4096 = omega arith in
    λ i. x_1 i ∷ x_2 i ∷ x_3 i ∷ x_4 i ∷ x_5 i ∷ x_6 i ∷ x_7 i ∷ x_8 i ∷ x_9 i ∷ x_10 i ∷ []

pub difference-degree : (a b c d : ℕ) → EachAtMost (exponents_of a b) (exponents_of c d)
    → degree (exponents_of c d) ≤ max_degree → degree (exponents_of (c - a) (d - b)) ≤ max_degree
difference-degree a b c d h l =
    let e = degree_product vars (exponents_of (c - a) (d - b)) (exponents_of a b) refl refl in
    let f = ap degree (difference-product a b c d h) in
    omega (arith, e, f)

-- monomials that two words stand for
pub words-divide : {x y : Monomial} (a b c d : ℕ) → exponents_of a b ≡ x → exponents_of c d ≡ y
    → EachAtMost (five_digits a) (five_digits c) → EachAtMost (five_digits b) (five_digits d) → Divides x y
words-divide a b c d e f p q =
    let h = most-exponents a b c d p q in
    (exponents_of (c - a) (d - b), refl, ap (product (exponents_of (c - a) (d - b))) (sym e) ∙ difference-product a b c d h ∙ f)

pub divided-words : {x y : Monomial} (a b c d : ℕ) → exponents_of a b ≡ x → exponents_of c d ≡ y
    → Divides x y → EachAtMost (exponents_of a b) (exponents_of c d)
divided-words a b c d e f (m, lm, p) = product-most m (exponents_of a b) (exponents_of c d) lm (ap (product m) e ∙ p ∙ sym f)

-- the exponents of the words that are made of exponents
pub exponents-made : (e : Monomial) → IsMonomial e → degree e ≤ max_degree → (low high : ℕ)
    → low ≡ from_digits (get_or e 0 0 ∷ get_or e 1 0 ∷ get_or e 2 0 ∷ get_or e 3 0 ∷ get_or e 4 0 ∷ [])
    → high ≡ from_digits (get_or e 5 0 ∷ get_or e 6 0 ∷ get_or e 7 0 ∷ get_or e 8 0 ∷ get_or e 9 0 ∷ [])
    → exponents_of low high ≡ e
exponents-made [] l m low high f g = absurd (omega arith)
exponents-made (p ∷ []) l m low high f g = absurd (omega arith)
exponents-made (p ∷ q ∷ []) l m low high f g = absurd (omega arith)
exponents-made (p ∷ q ∷ r ∷ []) l m low high f g = absurd (omega arith)
exponents-made (p ∷ q ∷ r ∷ s ∷ []) l m low high f g = absurd (omega arith)
exponents-made (p ∷ q ∷ r ∷ s ∷ t ∷ []) l m low high f g = absurd (omega arith)
exponents-made (p ∷ q ∷ r ∷ s ∷ t ∷ u ∷ []) l m low high f g = absurd (omega arith)
exponents-made (p ∷ q ∷ r ∷ s ∷ t ∷ u ∷ v ∷ []) l m low high f g = absurd (omega arith)
exponents-made (p ∷ q ∷ r ∷ s ∷ t ∷ u ∷ v ∷ w ∷ []) l m low high f g = absurd (omega arith)
exponents-made (p ∷ q ∷ r ∷ s ∷ t ∷ u ∷ v ∷ w ∷ y ∷ []) l m low high f g = absurd (omega arith)
exponents-made (p ∷ q ∷ r ∷ s ∷ t ∷ u ∷ v ∷ w ∷ y ∷ z ∷ o ∷ rest) l m low high f g = absurd (omega arith)
exponents-made (p ∷ q ∷ r ∷ s ∷ t ∷ u ∷ v ∷ w ∷ y ∷ z ∷ []) l m low high f g =
    let x_1 : low % 4096 ≡ p = omega arith in
    let x_2 : low / 4096 % 4096 ≡ q = omega arith in
    let x_3 : low / 4096 / 4096 % 4096 ≡ r = omega arith in
    let x_4 : low / 4096 / 4096 / 4096 % 4096 ≡ s = omega arith in
    let x_5 : low / 4096 / 4096 / 4096 / 4096 ≡ t = omega arith in
    let x_6 : high % 4096 ≡ u = omega arith in
    let x_7 : high / 4096 % 4096 ≡ v = omega arith in
    let x_8 : high / 4096 / 4096 % 4096 ≡ w = omega arith in
    let x_9 : high / 4096 / 4096 / 4096 % 4096 ≡ y = omega arith in
    let x_10 : high / 4096 / 4096 / 4096 / 4096 ≡ z = omega arith in
    λ i. x_1 i ∷ x_2 i ∷ x_3 i ∷ x_4 i ∷ x_5 i ∷ x_6 i ∷ x_7 i ∷ x_8 i ∷ x_9 i ∷ x_10 i ∷ []

-- ---- words compare as their digits do, from the last on

then_after : (r s t : Ordering) → ordering_then (ordering_then r s) t ≡ ordering_then r (ordering_then s t)
then_after Less s t = refl
then_after Equal s t = refl
then_after Greater s t = refl

then_last : (r : Ordering) → r ≡ ordering_then r Equal
then_last Less = refl
then_last Equal = refl
then_last Greater = refl

by_digit : (x y : ℕ) → nat_cmp x y ≡ ordering_then (nat_cmp (x / 4096) (y / 4096)) (nat_cmp (x % 4096) (y % 4096))
by_digit x y = grind (arith, nat_tests)

next_digit : (x y : ℕ) (r : Ordering)
    → ordering_then (nat_cmp x y) r ≡ ordering_then (nat_cmp (x / 4096) (y / 4096)) (ordering_then (nat_cmp (x % 4096) (y % 4096)) r)
next_digit x y r =
    ap (λ t. ordering_then t r) (by_digit x y) ∙ then_after (nat_cmp (x / 4096) (y / 4096)) (nat_cmp (x % 4096) (y % 4096)) r

five_first : (x y : ℕ) (r : Ordering) → ordering_then (nat_cmp x y) r ≡ ordering_then (nat_cmp (x / 4096 / 4096 / 4096 / 4096) (y / 4096 / 4096 / 4096 / 4096))
    (ordering_then (nat_cmp (x / 4096 / 4096 / 4096 % 4096) (y / 4096 / 4096 / 4096 % 4096))
    (ordering_then (nat_cmp (x / 4096 / 4096 % 4096) (y / 4096 / 4096 % 4096))
    (ordering_then (nat_cmp (x / 4096 % 4096) (y / 4096 % 4096)) (ordering_then (nat_cmp (x % 4096) (y % 4096)) r))))
five_first x y r =
    next_digit x y r ∙ next_digit (x / 4096) (y / 4096) _ ∙ next_digit (x / 4096 / 4096) (y / 4096 / 4096) _
    ∙ next_digit (x / 4096 / 4096 / 4096) (y / 4096 / 4096 / 4096) _

-- of two monomials of one degree the one with the smaller words, from the second on, is the greater
pub grevlex-words : {x y : Monomial} {r t u v w : Ordering} (a b c d : ℕ) → exponents_of a b ≡ x → exponents_of c d ≡ y
    → r ≡ nat_cmp (degree x) (degree y) → t ≡ nat_cmp d b → u ≡ nat_cmp c a → v ≡ ordering_then r t → w ≡ ordering_then v u
    → w ≡ grevlex x y
grevlex-words {x} {y} {r} {t} {u} {v} {w} a b c d e f g h k l m =
    m ∙ ap (λ z. ordering_then z u) l ∙ then_after r t u
    ∙ (λ i. ordering_then (g i) (ordering_then (h i) (k i)))
    ∙ ap (ordering_then (nat_cmp (degree x) (degree y))) words
    ∙ (λ i. ordering_then (nat_cmp (degree x) (degree y)) (slice_cmp nat_cmp (reverse (f i)) (reverse (e i))))
  where
    words : ordering_then (nat_cmp d b) (nat_cmp c a) ≡ slice_cmp nat_cmp (reverse (exponents_of c d)) (reverse (exponents_of a b))
    words = ap (ordering_then (nat_cmp d b)) (then_last (nat_cmp c a) ∙ five_first c a Equal) ∙ five_first d b _
