-- Where a difference of words borrows: at the lowest bit of a digit the three words then have an odd number of ones.
use Rattle.std.specs.Prelude.{◌≡◌, ◌≢◌, ℕ, ◌+◌, ◌-◌, ◌/◌, ◌%◌, ◌<◌, ◌≤◌, ◌^◌, min, bit_and, bit_or}
use Rattle.std.specs.Int.{bit_at}
use Rattle.std.specs.Int.Bits.{bit_xor}
use Rattle.std.proofs.lemmas.Bool.{cases_eq}
use Rattle.std.proofs.lemmas.Nat.Bits.{bit_at_and, bit_at_or, bit_at_xor, bit_at-zero, bit_at-pow_other, same_from_bits}
use mathlib.Core.Logic.{inl, inr}
use mathlib.Core.Path.{refl, sym, ap, ◌∙◌}
use native.Mathlib.Omega.{arith}
use Rattle.hp_mono.specs.Digits.{EachAtMost, five_digits}

-- what the subtraction of words gives
abbrev difference : ℕ → ℕ → ℕ
difference a b = (b + (2 ^ 64 - a)) % 2 ^ 64

-- the lowest bits of the digits but the first, and of what is above the last
abbrev mask : ℕ
mask = bit_or (2 ^ 12) (bit_or (2 ^ 24) (bit_or (2 ^ 36) (bit_or (2 ^ 48) (2 ^ 60))))

abbrev trace : ℕ → ℕ → ℕ
trace a b = bit_xor (bit_xor (difference a b) a) b

-- at bit k, with p = 2^k, nothing was borrowed
abbrev IsEven : ℕ → ℕ → ℕ → Type 0
IsEven p a b = ((difference a b / p % 2 + a / p % 2) % 2 + b / p % 2) % 2 ≡ 0

trace-bit : (a b k : ℕ) → bit_at (trace a b) k ≡ ((bit_at (difference a b) k + bit_at a k) % 2 + bit_at b k) % 2
trace-bit a b k =
    bit_at_xor (bit_xor (difference a b) a) b k ∙ ap (λ z. (z + bit_at b k) % 2) (bit_at_xor (difference a b) a k)

masked-bit : (a b k : ℕ) → bit_and (trace a b) mask ≡ 0 → bit_at mask k ≡ 1 → bit_at (trace a b) k ≡ 0
masked-bit a b k e f =
    let g = bit_at_and (trace a b) mask k in
    let h : bit_at (bit_and (trace a b) mask) k ≡ 0 = ap (λ z. bit_at z k) e ∙ bit_at-zero k in
    omega (arith, f, g, h)

even-bit : (a b k : ℕ) → bit_and (trace a b) mask ≡ 0 → bit_at mask k ≡ 1 → IsEven (2 ^ k) a b
even-bit a b k e f = sym (trace-bit a b k) ∙ masked-bit a b k e f

mask-other : (i : ℕ) → i ≢ 12 → i ≢ 24 → i ≢ 36 → i ≢ 48 → i ≢ 60 → bit_at mask i ≡ 0
mask-other i p q r s t =
    let a = bit_at_or (2 ^ 12) (bit_or (2 ^ 24) (bit_or (2 ^ 36) (bit_or (2 ^ 48) (2 ^ 60)))) i in
    let b = bit_at_or (2 ^ 24) (bit_or (2 ^ 36) (bit_or (2 ^ 48) (2 ^ 60))) i in
    let c = bit_at_or (2 ^ 36) (bit_or (2 ^ 48) (2 ^ 60)) i in
    let d = bit_at_or (2 ^ 48) (2 ^ 60) i in
    omega (arith, a, b, c, d, bit_at-pow_other 12 i p, bit_at-pow_other 24 i q, bit_at-pow_other 36 i r, bit_at-pow_other 48 i s, bit_at-pow_other 60 i t)

-- the digits of a are at most those of b exactly where the difference borrows at no digit
pub no_borrow-at_most : (a b : ℕ) → a < 2 ^ 60 → b < 2 ^ 60 → bit_and (trace a b) mask ≡ 0
    → EachAtMost (five_digits a) (five_digits b)
no_borrow-at_most a b f g e =
    let p : a % 2 ^ 12 ≤ b % 2 ^ 12 = omega (arith, even-bit a b 12 e refl) in
    let q : a % 2 ^ 24 ≤ b % 2 ^ 24 = omega (arith, even-bit a b 24 e refl) in
    let r : a % 2 ^ 36 ≤ b % 2 ^ 36 = omega (arith, even-bit a b 36 e refl) in
    let s : a % 2 ^ 48 ≤ b % 2 ^ 48 = omega (arith, even-bit a b 48 e refl) in
    let t : a % 2 ^ 60 ≤ b % 2 ^ 60 = omega (arith, even-bit a b 60 e refl) in
    (omega arith, (omega arith, (omega arith, (omega arith, (omega arith, tt)))))

pub at_most-no_borrow : (a b : ℕ) → a < 2 ^ 60 → b < 2 ^ 60 → EachAtMost (five_digits a) (five_digits b)
    → bit_and (trace a b) mask ≡ 0
at_most-no_borrow a b f g h = same_from_bits (bit_and (trace a b) mask) 0 (λ i. none i ∙ sym (bit_at-zero i))
  where
    least : (x y : ℕ) → x ≡ 0 → min x y ≡ 0
    least x y e = omega arith

    bit : (k : ℕ) → IsEven (2 ^ k) a b → bit_at (bit_and (trace a b) mask) k ≡ 0
    bit k e = bit_at_and (trace a b) mask k ∙ least (bit_at (trace a b) k) (bit_at mask k) (trace-bit a b k ∙ e)

    at : {i : ℕ} (k : ℕ) → i ≡ k → IsEven (2 ^ k) a b → bit_at (bit_and (trace a b) mask) i ≡ 0
    at k e d = ap (bit_at (bit_and (trace a b) mask)) e ∙ bit k d

    masked : (i : ℕ) → bit_at mask i ≡ 0 → bit_at (bit_and (trace a b) mask) i ≡ 0
    masked i e = let g = bit_at_and (trace a b) mask i in omega (arith, e, g)

    below : a ≤ b
    below = omega arith

    none : (i : ℕ) → bit_at (bit_and (trace a b) mask) i ≡ 0
    none i = elim (cases_eq i 12) [ inl e ↦ at 12 e (omega arith) | inr p ↦ elim (cases_eq i 24) [ inl e ↦ at 24 e (omega arith) | inr q ↦ elim (cases_eq i 36) [ inl e ↦ at 36 e (omega arith) | inr r ↦ elim (cases_eq i 48) [ inl e ↦ at 48 e (omega arith) | inr s ↦ elim (cases_eq i 60) [ inl e ↦ at 60 e (omega arith) | inr t ↦ masked i (mask-other i p q r s t) ] ] ] ] ]
