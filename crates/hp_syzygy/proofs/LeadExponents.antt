-- Exponents of monomials, at places counted from 0: of cofactors, bounded, and none.
use Rattle.std.specs.Prelude.{◌≡◌, ℕ, zero, suc, ◌+◌, ◌-◌, ◌*◌, ◌≤◌, max, List, [], ◌∷◌, length, replicate, slice_index_or}
use Rattle.std.proofs.lemmas.List.Sums.{sum_by-cons}
use mathlib.Core.Path.{refl}
use native.Mathlib.Omega.{arith}
use Rattle.hp_mono.specs.Monomials.{Monomial, product, degree, lcm, cofactor}
use Rattle.hp_mono.proofs.MonomialLaws.{cofactor_exponent}

abbrev pub exponent_of : Monomial → ℕ → ℕ
exponent_of m p = slice_index_or m p 0

pub cofactor-zero : (p : ℕ) (a b : Monomial) → length a ≡ length b → exponent_of a p ≡ 0 → exponent_of b p ≡ 0
    → exponent_of (cofactor a b) p ≡ 0
cofactor-zero p a b e f g = cofactor_exponent p a b e (omega (arith, f, g))

-- the multiple of a c that is the lcm of a and b, times c: no exponent is above those of a c and b c
pub lcm-bounded : (n p bound : ℕ) (a b c : List ℕ) → length a ≡ n → length b ≡ n → length c ≡ n
    → exponent_of (product a c) p ≤ bound → exponent_of (product b c) p ≤ bound
    → exponent_of (product (cofactor a b) (product a c)) p ≤ bound
lcm-bounded n p bound [] b c la lb lc x y = omega arith
lcm-bounded n p bound (u ∷ a) [] c la lb lc x y = omega arith
lcm-bounded n p bound (u ∷ a) (v ∷ b) [] la lb lc x y = omega arith
lcm-bounded n zero bound (u ∷ a) (v ∷ b) (w ∷ c) la lb lc x y = place u v w x y
  where
    place : (u v w : ℕ) → u + w ≤ bound → v + w ≤ bound → (max u v - u) + (u + w) ≤ bound
    place u v w x y = omega arith
lcm-bounded zero (suc p) bound (u ∷ a) (v ∷ b) (w ∷ c) la lb lc x y = absurd (omega (arith, la))
lcm-bounded (suc n) (suc p) bound (u ∷ a) (v ∷ b) (w ∷ c) la lb lc x y =
    lcm-bounded n p bound a b c (omega (arith, la)) (omega (arith, lb)) (omega (arith, lc)) x y

-- the degree of a monomial with bounded exponents
pub degree-bounded : (n bound : ℕ) (m : List ℕ) → length m ≡ n → ((p : ℕ) → exponent_of m p ≤ bound) → degree m ≤ n * bound
degree-bounded n bound [] e h = omega arith
degree-bounded zero bound (x ∷ m) e h = absurd (omega (arith, e))
degree-bounded (suc n) bound (x ∷ m) e h =
    let r = degree-bounded n bound m (omega (arith, e)) (λ p. h (suc p)) in
    place (degree (x ∷ m)) x (degree m) n (sum_by-cons (λ k. k) x m) (h zero) r
  where
    place : (s x d n : ℕ) → s ≡ x + d → x ≤ bound → d ≤ n * bound → s ≤ suc n * bound
    place s x d n e f g = omega arith

-- a monomial without exponents is 1
pub no-exponents : (n : ℕ) (m : List ℕ) → length m ≡ n → ((p : ℕ) → exponent_of m p ≡ 0) → m ≡ replicate n 0
no-exponents zero [] e h = refl
no-exponents zero (x ∷ m) e h = absurd (omega (arith, e))
no-exponents (suc n) [] e h = absurd (omega (arith, e))
no-exponents (suc n) (x ∷ m) e h =
    let r = no-exponents n m (omega (arith, e)) (λ p. h (suc p)) in
    λ k. h zero k ∷ r k

-- an exponent is at most the degree
pub exponent-degree : (m : List ℕ) (p : ℕ) → exponent_of m p ≤ degree m
exponent-degree [] p = omega arith
exponent-degree (x ∷ m) zero = let s = sum_by-cons (λ k. k) x m in omega (arith, s)
exponent-degree (x ∷ m) (suc p) =
    let s = sum_by-cons (λ k. k) x m in
    let r = exponent-degree m p in
    omega (arith, s, r)

-- exponents of the lcm
pub lcm-exponent : (a b : List ℕ) (p bound : ℕ) → exponent_of a p ≤ bound → exponent_of b p ≤ bound
    → exponent_of (lcm a b) p ≤ bound
lcm-exponent [] b p bound e f = omega arith
lcm-exponent (x ∷ a) [] p bound e f = omega arith
lcm-exponent (x ∷ a) (y ∷ b) zero bound e f = place x y e f
  where
    place : (x y : ℕ) → x ≤ bound → y ≤ bound → max x y ≤ bound
    place x y e f = omega arith
lcm-exponent (x ∷ a) (y ∷ b) (suc p) bound e f = lcm-exponent a b p bound e f

pub product-exponent : (a b : List ℕ) (p : ℕ) → length a ≡ length b → exponent_of a p ≤ exponent_of (product a b) p
product-exponent [] b p e = omega arith
product-exponent (x ∷ a) [] p e = absurd (omega (arith, e))
product-exponent (x ∷ a) (y ∷ b) zero e = place x y
  where
    place : (x y : ℕ) → x ≤ x + y
    place x y = omega arith
product-exponent (x ∷ a) (y ∷ b) (suc p) e = product-exponent a b p (omega (arith, e))
