-- The test of divisibility says what it should.
use Rattle.std.specs.Prelude.{◌≡◌, ◌↔◌, ℕ, ◌≤◌, Bool, true, false, nat_eq, nat_le, ◌&&◌, IsTrue, [], ◌∷◌}
use Rattle.std.proofs.lemmas.Bool.{eq-eqb, eqb-true, leb-true, leb-false}
use mathlib.Core.Path.{refl, sym, ap}
use native.Mathlib.Omega.{arith}
use Rattle.hp_mono.specs.declared.term.Term.{Term}
use Rattle.hp_mono.specs.Digits.{EachAtMost}
use Rattle.hp_mono.specs.Monomials.{Monomial, IsMonomial, Divides}
use Rattle.hp_mono.specs.TermOrders.{TermDivides}
use Rattle.hp_mono.proofs.MonomialLaws.{divides-most, most-divides}
use Rattle.hp_syzygy.specs.DividingTests.{each_most, term_divides}

and_left : (a b : Bool) → (a && b) ≡ true → a ≡ true
and_left true b e = refl
and_left false b e = e

and_right : (a b : Bool) → (a && b) ≡ true → b ≡ true
and_right true b e = e
and_right false b e = absurd (cc)

most_true : (x y : ℕ) → x ≤ y → nat_le x y ≡ true
most_true x y l =
    elim (nat_le x y) as (λ z. nat_le x y ≡ z → nat_le x y ≡ true) [
      | true ↦ λ e. e
      | false ↦ λ e. absurd (let n = leb-false x y e in omega (arith, n, l))
    ] refl

test-most : (m n : Monomial) → each_most m n ≡ true → EachAtMost m n
test-most [] n e = tt
test-most (x ∷ m) [] e = tt
test-most (x ∷ m) (y ∷ n) e =
    (leb-true x y (and_left (nat_le x y) (each_most m n) e), test-most m n (and_right (nat_le x y) (each_most m n) e))

most-test : (m n : Monomial) → EachAtMost m n → each_most m n ≡ true
most-test [] n h = refl
most-test (x ∷ m) [] h = refl
most-test (x ∷ m) (y ∷ n) h =
    let a = most_true x y h.0 in
    let b = most-test m n h.1 in
    λ i. a i && b i

pub divides-test : (m n : Monomial) → IsMonomial m → Divides m n → each_most m n ≡ true
divides-test m n im d = most-test m n (divides-most m n im d)

pub test-divides : (m n : Monomial) → IsMonomial m → IsMonomial n → each_most m n ≡ true → Divides m n
test-divides m n im jn e = most-divides m n im jn (test-most m n e)

-- an answer that is true exactly where it should is the test's
pub answer-test : (r : Bool) (m n : Monomial) → IsMonomial m → IsMonomial n → (IsTrue r ↔ Divides m n) → r ≡ each_most m n
answer-test true m n im jn h = sym (divides-test m n im (h.0 refl))
answer-test false m n im jn h =
    elim (each_most m n) as (λ z. each_most m n ≡ z → false ≡ z) [
      | true ↦ λ e. h.1 (test-divides m n im jn e)
      | false ↦ λ e. refl
    ] refl

pub term-test : (s t : Term) → IsMonomial s.mono → TermDivides s t → term_divides s t ≡ true
term-test s t h d =
    let c = eq-eqb s.comp t.comp (ap (λ u. u.comp) d.2) in
    let m = divides-test s.mono t.mono h (d.0, d.1, ap (λ u. u.mono) d.2) in
    λ i. c i && m i

pub test-term : (s t : Term) → IsMonomial s.mono → IsMonomial t.mono → term_divides s t ≡ true → TermDivides s t
test-term s t hs ht e =
    let c = eqb-true s.comp t.comp (and_left (nat_eq s.comp t.comp) (each_most s.mono t.mono) e) in
    let d = test-divides s.mono t.mono hs ht (and_right (nat_eq s.comp t.comp) (each_most s.mono t.mono) e) in
    let p = d.2 in
    (d.0, d.1, λ i. record { mono = p i; comp = c i })
