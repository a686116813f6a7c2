-- Monomials in which only the first variables occur, by their exponents at places counted from 0.
use Rattle.std.specs.Prelude.{◌≡◌, ◌≢◌, ℕ, zero, suc, ◌+◌, ◌-◌, ◌<◌, ◌≤◌, Bool, true, false, ◌&&◌, nat_eq, List, [], ◌∷◌, length, drop, All}
use Rattle.std.proofs.lemmas.Bool.{eq-eqb, eqb-true}
use Rattle.std.proofs.lemmas.List.{get_or-drop, get_or_default, length-drop}
use mathlib.Core.Path.{refl, sym, ap, ◌∙◌}
use native.Mathlib.Omega.{arith}
use Rattle.hp_mono.specs.Monomials.{Monomial, IsMonomial, product, cofactor}
use Rattle.hp_syzygy.specs.VariableTests.{in_first}
use Rattle.hp_syzygy.proofs.LeadExponents.{cofactor-zero, exponent_of}

and_left : (a b : Bool) → (a && b) ≡ true → a ≡ true
and_left true b e = refl
and_left false b e = e

and_right : (a b : Bool) → (a && b) ≡ true → b ≡ true
and_right true b e = e
and_right false b e = absurd (cc)

and_false : (a : Bool) → (a && false) ≡ false
and_false true = refl
and_false false = refl

not_zero : (x : ℕ) → x ≢ 0 → nat_eq x 0 ≡ false
not_zero x n =
    elim (nat_eq x 0) as (λ z. nat_eq x 0 ≡ z → nat_eq x 0 ≡ false) [
      | true ↦ λ e. absurd (n (eqb-true x 0 e))
      | false ↦ λ e. e
    ] refl

pub first-all : (l : ℕ) (m : List ℕ) → ((j : ℕ) → l ≤ j → j < length m → exponent_of m j ≡ 0) → in_first l m ≡ true
first-all zero [] h = refl
first-all (suc l) [] h = refl
first-all zero (x ∷ m) h =
    let r = first-all zero m (λ j a b. h (suc j) (omega arith) (omega (arith, b))) in
    let e = eq-eqb x 0 (h 0 (omega arith) (omega arith)) in
    λ i. e i && r i
first-all (suc l) (x ∷ m) h = first-all l m (λ j a b. h (suc j) (omega (arith, a)) (omega (arith, b)))

pub first-not : (l : ℕ) (m : List ℕ) (j : ℕ) → l ≤ j → j < length m → exponent_of m j ≢ 0 → in_first l m ≡ false
first-not l [] j a b n = absurd (omega (arith, b))
first-not zero (x ∷ m) zero a b n = ap (λ z. z && in_first zero m) (not_zero x n)
first-not zero (x ∷ m) (suc j) a b n =
    ap (λ z. nat_eq x 0 && z) (first-not zero m j (omega arith) (omega (arith, b)) n) ∙ and_false (nat_eq x 0)
first-not (suc l) (x ∷ m) zero a b n = absurd (omega (arith, a))
first-not (suc l) (x ∷ m) (suc j) a b n = first-not l m j (omega (arith, a)) (omega (arith, b)) n

pub first-each : (l : ℕ) (m : List ℕ) → in_first l m ≡ true → (j : ℕ) → l ≤ j → exponent_of m j ≡ 0
first-each l [] e j a = refl
first-each zero (x ∷ m) e zero a = eqb-true x 0 (and_left (nat_eq x 0) (in_first zero m) e)
first-each zero (x ∷ m) e (suc j) a = first-each zero m (and_right (nat_eq x 0) (in_first zero m) e) j (omega arith)
first-each (suc l) (x ∷ m) e zero a = absurd (omega (arith, a))
first-each (suc l) (x ∷ m) e (suc j) a = first-each l m e j (omega (arith, a))

-- the same as all exponents from place l on
pub first-drop : (l : ℕ) (m : List ℕ) → All (λ e. e ≡ 0) (drop l m) → in_first l m ≡ true
first-drop l m h =
    first-all l m (λ j a b.
    let k : ℕ = j - l in
    let inside : k < length (drop l m) = let d = length-drop l m in omega (arith, d, a, b) in
    let same : l + k ≡ j = omega (arith, a) in
    ap (exponent_of m) (sym same) ∙ sym (get_or-drop l m k 0) ∙ h k 0 inside)

pub drop-first : (l : ℕ) (m : List ℕ) → in_first l m ≡ true → All (λ e. e ≡ 0) (drop l m)
drop-first l m e k d b =
    get_or_default (drop l m) k d 0 b ∙ get_or-drop l m k 0 ∙ first-each l m e (l + k) (omega arith)

-- a factor in the first variables decides nothing
pub first-product : (l : ℕ) (m t : List ℕ) → length m ≡ length t → in_first l t ≡ true → in_first l (product m t) ≡ in_first l m
first-product l [] t h e = refl
first-product l (x ∷ m) [] h e = absurd (omega (arith, h))
first-product zero (x ∷ m) (y ∷ t) h e =
    let z = eqb-true y 0 (and_left (nat_eq y 0) (in_first zero t) e) in
    let s : x + y ≡ x = omega (arith, z) in
    let r = first-product zero m t (omega (arith, h)) (and_right (nat_eq y 0) (in_first zero t) e) in
    λ i. nat_eq (s i) 0 && r i
first-product (suc l) (x ∷ m) (y ∷ t) h e = first-product l m t (omega (arith, h)) e

pub first-cofactor : (l : ℕ) (a b : Monomial) → IsMonomial a → IsMonomial b → in_first l a ≡ true → in_first l b ≡ true
    → in_first l (cofactor a b) ≡ true
first-cofactor l a b ia ib e f =
    first-all l (cofactor a b) (λ j h k. cofactor-zero j a b (ia ∙ sym ib) (first-each l a e j h) (first-each l b f j h))
