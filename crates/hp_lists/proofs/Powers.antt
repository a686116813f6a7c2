-- Of two equal products with a power of one number, the one with the smaller other factor has the greater exponent.
use Rattle.std.specs.Prelude.{◌≡◌, ℕ, zero, suc, ◌*◌, ◌^◌, ◌<◌, ◌≤◌, nat_lt, Bool, true, false}
use Rattle.std.proofs.lemmas.Bool.{ltb-true, ltb-false}
use Rattle.std.proofs.lemmas.Nat.{mul-le}
use native.Mathlib.Nat.{pow-suc, one-le-pow, pow-le-pow_right}
use mathlib.Core.Path.{refl}
use native.Mathlib.Omega.{arith}

power_more : (q a b : ℕ) → 2 ≤ q → a < b → suc (q ^ a) ≤ q ^ b
power_more q a b h l = step (one-le-pow a q (over q h)) (pow-le-pow_right (over q h) l)
  where
    over : (q : ℕ) → 2 ≤ q → 0 < q
    over q h = omega arith

    grow : (X : ℕ) → 1 ≤ X → suc X ≤ X * q
    grow X o = let m : X * 2 ≤ X * q = mul-le X 2 X q (same X) h in omega arith
      where
        same : (n : ℕ) → n ≤ n
        same n = omega arith

    step : 1 ≤ q ^ a → q ^ suc a ≤ q ^ b → suc (q ^ a) ≤ q ^ b
    step o m =
        let g = grow (q ^ a) o in
        let e : q ^ suc a ≡ q ^ a * q = pow-suc q a in
        omega arith

-- where c q^a = d q^b is not 0 and d is at most c, a is at most b
pub exponents : (q N c d a b : ℕ) → 2 ≤ q → 1 ≤ N → c * q ^ a ≡ N → d * q ^ b ≡ N → d ≤ c → a ≤ b
exponents q N c d a b h o e f l = step (nat_lt b a) refl
  where
    tight : (X Y : ℕ) → suc X ≤ Y → c * Y ≡ N → d * X ≡ N → ⊥
    tight X Y m e f = clash d X (mul-le d (suc X) c Y l m) f
      where
        clash : (d X : ℕ) → d * suc X ≤ c * Y → d * X ≡ N → ⊥
        clash zero X w f = omega arith
        clash (suc d) X w f = omega arith

    step : (t : Bool) → nat_lt b a ≡ t → a ≤ b
    step true p = absurd (tight (q ^ b) (q ^ a) (power_more q b a h (ltb-true b a p)) e f)
    step false p = ltb-false b a p
