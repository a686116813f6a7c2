-- The residues modulo a prime are a finite field, numbered by themselves.
use Rattle.std.specs.Prelude.{unsigned_abs, ℤ, pos, negsuc, ◌≤ℤ◌, ◌<ℤ◌, ◌≡◌, ◌≢◌, ℕ, zero, suc, ◌+◌, ◌*◌, ◌-◌, ◌%◌, ◌<◌, ◌==◌, refl}
use Rattle.std.proofs.Common.{arith, ap, sym, ◌∙◌, inl, inr, add_assoc, add_comm}
use Rattle.std.proofs.Math.Nat.{mod-eq_of_lt, mod-lt, mod-add-mod, add-mod-mod, mod_self, mul_comm, mul_assoc, mul-add}
use Rattle.std.proofs.lemmas.Nat.{mul-mod_first, mul-mod_second}
use Rattle.std.proofs.lemmas.Bool.{cases_eq, eq-eqb, eqb-true}
use Rattle.std.proofs.lemmas.Bool.Decides.{nat_tests}
use Rattle.std.proofs.lemmas.Int.{ints}
use Rattle.hp_algebra.specs.Ring.{IsRing, IsWeighted, IsWeightless, IsCommutative, IsDomain, IsField, IsNumbering, multiple_of_one, integer}
use Rattle.hp_lists.proofs.Firsts.{first-below}
use Rattle.hp_modp.specs.Primes.{IsPrime}
use Rattle.hp_modp.specs.Residues.{residue_ring, inverse_mod, residue_numbers}
use Rattle.hp_modp.specs.Inverses.{has_inverse}

module _ (p : ℕ) (above : 1 < p) where
  add_assoc_mod : (x y z : ℕ) → ((x + y) % p + z) % p ≡ (x + (y + z) % p) % p
  add_assoc_mod x y z = mod-add-mod (x + y) p z ∙ ap (λ s. s % p) (add_assoc x y z) ∙ sym (add-mod-mod x (y + z) p)

  mul_assoc_mod : (x y z : ℕ) → ((x * y) % p * z) % p ≡ (x * ((y * z) % p)) % p
  mul_assoc_mod x y z = mul-mod_first (x * y) z p ∙ ap (λ s. s % p) (mul_assoc x y z) ∙ sym (mul-mod_second x (y * z) p)

  mul_add_mod : (x y z : ℕ) → (x * ((y + z) % p)) % p ≡ ((x * y) % p + (x * z) % p) % p
  mul_add_mod x y z = mul-mod_second x (y + z) p ∙ ap (λ s. s % p) (mul-add x y z) ∙ sym (mod-add-mod (x * y) p ((x * z) % p) ∙ add-mod-mod (x * y) (x * z) p)

  add_neg_mod : (x : ℕ) → x < p → (x + (p - x) % p) % p ≡ 0
  add_neg_mod x h = add-mod-mod x (p - x) p ∙ ap (λ s. s % p) (let e : x + (p - x) ≡ p = omega arith in e) ∙ mod_self p

  one_mul_mod : (x : ℕ) → x < p → ((1 % p) * x) % p ≡ x
  one_mul_mod x h = mul-mod_first 1 x p ∙ ap (λ s. s % p) (let e : 1 * x ≡ x = omega arith in e) ∙ mod-eq_of_lt h

  pub residues-IsRing : IsRing (residue_ring p)
  residues-IsRing = record {
    zero_value = omega arith;
    one_value = mod-lt 1 (omega arith);
    add_value = λ x y u v. mod-lt (x + y) (omega arith);
    neg_value = λ x u. mod-lt (p - x) (omega arith);
    mul_value = λ x y u v. mod-lt (x * y) (omega arith);
    add_assoc = λ x y z u v w. add_assoc_mod x y z;
    add_comm = λ x y u v. ap (λ s. s % p) (add_comm x y);
    add_zero = λ x u. ap (λ s. s % p) (let e : x + 0 ≡ x = omega arith in e) ∙ mod-eq_of_lt u;
    add_neg = λ x u. add_neg_mod x u;
    mul_assoc = λ x y z u v w. mul_assoc_mod x y z;
    one_mul = λ x u. one_mul_mod x u;
    mul_one = λ x u. ap (λ s. s % p) (mul_comm x (1 % p)) ∙ one_mul_mod x u;
    mul_add = λ x y z u v w. mul_add_mod x y z;
    add_mul = λ x y z u v w. ap (λ s. s % p) (mul_comm ((x + y) % p) z) ∙ mul_add_mod z x y ∙ ap (λ s. s % p) (let e : (z * x) % p + (z * y) % p ≡ (x * z) % p + (y * z) % p = rw (mul_comm z x, mul_comm z y) refl in e);
    zero_test = λ x u. grind (arith, nat_tests);
  }

  pub residues-IsWeighted : IsWeighted (residue_ring p)
  residues-IsWeighted = record {
    of_zero = refl;
    of_one = refl;
    of_sum = λ x y u v. omega arith;
    of_neg = λ x u. omega arith;
    of_product = λ x y u v. omega arith;
  }

  pub residues-IsWeightless : IsWeightless (residue_ring p)
  residues-IsWeightless x u = refl

  pub residues-IsCommutative : IsCommutative (residue_ring p)
  residues-IsCommutative x y u v = ap (λ s. s % p) (mul_comm x y)

  -- n times one is the residue of n
  pub multiple_of_one-residue : (n : ℕ) → multiple_of_one (residue_ring p) n ≡ n % p
  unfolding multiple_of_one
  multiple_of_one-residue zero = sym (mod-eq_of_lt (omega arith))
  multiple_of_one-residue (suc n) =
      ap (λ s. (s + 1 % p) % p) (multiple_of_one-residue n)
      ∙ mod-add-mod n p (1 % p)
      ∙ add-mod-mod n 1 p
      ∙ ap (λ s. s % p) (let e : n + 1 ≡ suc n = omega arith in e)

  -- an integer as a residue, by its absolute value
  pub integer_from_zero : (v : ℤ) → pos 0 ≤ℤ v → unsigned_abs v % p ≡ integer (residue_ring p) v
  unfolding integer
  integer_from_zero (pos n) h = sym (multiple_of_one-residue n)
  integer_from_zero (negsuc n) h = absurd (omega (arith, ints, h))

  pub integer_below_zero : (v : ℤ) → v <ℤ pos 0 → (p - unsigned_abs v % p) % p ≡ integer (residue_ring p) v
  unfolding integer
  integer_below_zero (pos n) h = absurd (omega (arith, ints, h))
  integer_below_zero (negsuc n) h = ap (λ s. (p - s) % p) (sym (multiple_of_one-residue (suc n)))

  -- an integer from 0 below p is its own residue
  pub integer-residue : (v : ℤ) (k : ℕ) → v ≡ pos k → k < p → integer (residue_ring p) v ≡ k
  unfolding integer
  integer-residue v k e h = ap (λ z. integer (residue_ring p) z) e ∙ multiple_of_one-residue k ∙ mod-eq_of_lt h

  pub residues-IsNumbering : IsNumbering (residue_ring p) (residue_numbers p)
  residues-IsNumbering = record {
    nth_value = λ k h. h;
    place_of_nth = λ k h. refl;
    place_below = λ x h. h;
    nth_of_place = λ x h. refl;
    nth_multiple = λ k h. sym (multiple_of_one-residue k ∙ mod-eq_of_lt h);
  }

module _ {p : ℕ} (prime : IsPrime p) where
  -- where x has an inverse, a product is 0 only where y is
  cancels : (x y b : ℕ) → y < p → (x * b) % p ≡ 1 → (x * y) % p ≡ 0 → y ≡ 0
  cancels x y b v e z =
      let start : y ≡ (1 * y) % p = sym (ap (λ s. s % p) (let one : 1 * y ≡ y = omega arith in one) ∙ mod-eq_of_lt v) in
      start
      ∙ ap (λ s. (s * y) % p) (sym e)
      ∙ mul-mod_first (x * b) y p
      ∙ ap (λ s. s % p) (let e : x * b * y ≡ x * y * b = omega arith in e)
      ∙ sym (mul-mod_first (x * y) b p)
      ∙ ap (λ s. (s * b) % p) z
      ∙ ap (λ s. s % p) (let e : 0 * b ≡ 0 = omega arith in e)
      ∙ mod-eq_of_lt (let w : 0 < p = omega (arith, prime.above_one) in w)

  pub residues-IsDomain : IsDomain (residue_ring p)
  residues-IsDomain = record {
    one_zero = λ e. (let one : 1 % p ≡ 1 = mod-eq_of_lt prime.above_one in omega (arith, e, one));
    no_zero_divisors = λ x y u v z. elim (cases_eq x 0) [
      | inl e ↦ inl e
      | inr n ↦ inr (let inverse = has_inverse p prime x x (omega arith) (omega arith) u in cancels x y inverse.0 v inverse.2 z)
    ];
  }

  -- `inverse_mod` is a residue and an inverse
  pub inverse_mod-is : (x : ℕ) → x < p → x ≢ 0 → (inverse_mod p x < p) × ((x * inverse_mod p x) % p ≡ 1)
  unfolding inverse_mod
  inverse_mod-is x u n =
      let found = has_inverse p prime x x (omega arith) (omega arith) u in
      let first = first-below (λ b. ((x * b) % p) == 1) p found.0 found.1 (eq-eqb ((x * found.0) % p) 1 found.2) in
      (omega (arith, first.1, found.1), eqb-true _ _ first.0)

  -- a residue whose product with x is one is the inverse of x
  pub inverse_mod-only : (x b : ℕ) → x < p → x ≢ 0 → b < p → (x * b) % p ≡ 1 → b ≡ inverse_mod p x
  inverse_mod-only x b u n below e =
      let inverse = inverse_mod-is x u n in
      let i = inverse_mod p x in
      sym (one_times b below)
      ∙ ap (λ s. (s * b) % p) (sym inverse.1)
      ∙ mul-mod_first (x * i) b p
      ∙ ap (λ s. s % p) (let same : x * i * b ≡ x * b * i = omega arith in same)
      ∙ sym (mul-mod_first (x * b) i p)
      ∙ ap (λ s. (s * i) % p) e
      ∙ one_times i inverse.0
    where
      one_times : (y : ℕ) → y < p → (1 * y) % p ≡ y
      one_times y h = ap (λ s. s % p) (let one : 1 * y ≡ y = omega arith in one) ∙ mod-eq_of_lt h

  pub residues-IsField : IsField (residue_ring p) (inverse_mod p)
  residues-IsField = record {
    is_ring = residues-IsRing p prime.above_one;
    commutes = residues-IsCommutative p prime.above_one;
    one_zero = residues-IsDomain.one_zero;
    inverse_value = λ x u n. (inverse_mod-is x u n).0;
    mul_inverse = λ x u n. (inverse_mod-is x u n).1 ∙ sym (mod-eq_of_lt prime.above_one);
  }
