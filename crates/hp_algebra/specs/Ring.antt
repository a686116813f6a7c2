-- Rings and fields over plain data. A record has the operations, and a predicate says which data are values; the laws speak of values alone.
use Rattle.std.specs.Prelude.{◌≡◌, ◌≢◌, ◌⊎◌, ◌↔◌, ℕ, zero, suc, ◌+◌, ◌≤◌, ◌<◌, max, Bool, IsTrue, ℤ, pos, negsuc, List, [], ◌∷◌, map}
use Rattle.hp_lists.specs.Lists.{below}

-- The operations of a ring, the test for zero, and the weight, which a product adds up.
pub record RingOf (R : Type 0) : Type 1 where
  pub IsValue : R → Type 0
  pub zero : R
  pub one : R
  pub add : R → R → R
  pub neg : R → R
  pub mul : R → R → R
  pub is_zero : R → Bool
  pub weight : R → ℕ

-- A ring with one, whose product need not commute.
pub record IsRing {R : Type 0} (ring : RingOf R) : Type 0 where
  pub zero_value : ring.IsValue ring.zero
  pub one_value : ring.IsValue ring.one
  pub add_value : (x y : R) → ring.IsValue x → ring.IsValue y → ring.IsValue (ring.add x y)
  pub neg_value : (x : R) → ring.IsValue x → ring.IsValue (ring.neg x)
  pub mul_value : (x y : R) → ring.IsValue x → ring.IsValue y → ring.IsValue (ring.mul x y)
  pub add_assoc : (x y z : R) → ring.IsValue x → ring.IsValue y → ring.IsValue z → ring.add (ring.add x y) z ≡ ring.add x (ring.add y z)
  pub add_comm : (x y : R) → ring.IsValue x → ring.IsValue y → ring.add x y ≡ ring.add y x
  pub add_zero : (x : R) → ring.IsValue x → ring.add x ring.zero ≡ x
  pub add_neg : (x : R) → ring.IsValue x → ring.add x (ring.neg x) ≡ ring.zero
  pub mul_assoc : (x y z : R) → ring.IsValue x → ring.IsValue y → ring.IsValue z → ring.mul (ring.mul x y) z ≡ ring.mul x (ring.mul y z)
  pub one_mul : (x : R) → ring.IsValue x → ring.mul ring.one x ≡ x
  pub mul_one : (x : R) → ring.IsValue x → ring.mul x ring.one ≡ x
  pub mul_add : (x y z : R) → ring.IsValue x → ring.IsValue y → ring.IsValue z → ring.mul x (ring.add y z) ≡ ring.add (ring.mul x y) (ring.mul x z)
  pub add_mul : (x y z : R) → ring.IsValue x → ring.IsValue y → ring.IsValue z → ring.mul (ring.add x y) z ≡ ring.add (ring.mul x z) (ring.mul y z)
  pub zero_test : (x : R) → ring.IsValue x → IsTrue (ring.is_zero x) ↔ (x ≡ ring.zero)

-- The weight of zero and of one is 0, that of a sum at most the greater, that of a product at most the sum.
pub record IsWeighted {R : Type 0} (ring : RingOf R) : Type 0 where
  pub of_zero : ring.weight ring.zero ≡ 0
  pub of_one : ring.weight ring.one ≡ 0
  pub of_sum : (x y : R) → ring.IsValue x → ring.IsValue y → ring.weight (ring.add x y) ≤ max (ring.weight x) (ring.weight y)
  pub of_neg : (x : R) → ring.IsValue x → ring.weight (ring.neg x) ≤ ring.weight x
  pub of_product : (x y : R) → ring.IsValue x → ring.IsValue y → ring.weight (ring.mul x y) ≤ ring.weight x + ring.weight y

abbrev pub IsCommutative : {R : Type 0} → RingOf R → Type 0
IsCommutative {R} ring = (x y : R) → ring.IsValue x → ring.IsValue y → ring.mul x y ≡ ring.mul y x

-- 0 and 1 differ, and a product is zero only where a factor is.
pub record IsDomain {R : Type 0} (ring : RingOf R) : Type 0 where
  pub one_zero : ring.one ≢ ring.zero
  pub no_zero_divisors : (x y : R) → ring.IsValue x → ring.IsValue y → ring.mul x y ≡ ring.zero → (x ≡ ring.zero) ⊎ (y ≡ ring.zero)

-- A field: a commutative ring in which 0 and 1 differ and `inverse` is the inverse of every other element.
pub record IsField {F : Type 0} (ring : RingOf F) (inverse : F → F) : Type 0 where
  pub is_ring : IsRing ring
  pub commutes : IsCommutative ring
  pub one_zero : ring.one ≢ ring.zero
  pub inverse_value : (x : F) → ring.IsValue x → x ≢ ring.zero → ring.IsValue (inverse x)
  pub mul_inverse : (x : F) → ring.IsValue x → x ≢ ring.zero → ring.mul x (inverse x) ≡ ring.one

-- the weight of every value is 0
abbrev pub IsWeightless : {R : Type 0} → RingOf R → Type 0
IsWeightless {R} ring = (x : R) → ring.IsValue x → ring.weight x ≡ 0

-- n times one
unfoldable pub multiple_of_one : {R : Type 0} → RingOf R → ℕ → R
multiple_of_one ring zero = ring.zero
multiple_of_one ring (suc n) = ring.add (multiple_of_one ring n) ring.one

-- the integer v as an element: v times one
unfoldable pub integer : {R : Type 0} → RingOf R → ℤ → R
integer ring (pos n) = multiple_of_one ring n
integer ring (negsuc n) = ring.neg (multiple_of_one ring (suc n))

-- The elements of a finite field, numbered by 0 .. order - 1.
pub record Numbering (K : Type 0) : Type 0 where
  pub order : ℕ
  pub nth : ℕ → K
  pub place : K → ℕ

-- The two are inverse to each other, and element k is k times one. So the field is that of the residues.
pub record IsNumbering {K : Type 0} (ring : RingOf K) (numbers : Numbering K) : Type 0 where
  pub nth_value : (k : ℕ) → k < numbers.order → ring.IsValue (numbers.nth k)
  pub place_of_nth : (k : ℕ) → k < numbers.order → numbers.place (numbers.nth k) ≡ k
  pub place_below : (x : K) → ring.IsValue x → numbers.place x < numbers.order
  pub nth_of_place : (x : K) → ring.IsValue x → numbers.nth (numbers.place x) ≡ x
  pub nth_multiple : (k : ℕ) → k < numbers.order → numbers.nth k ≡ multiple_of_one ring k

-- the elements of a finite field in the order of their numbers
unfoldable pub elements : {K : Type 0} → Numbering K → List K
elements numbers = map numbers.nth (below numbers.order)

-- the sum of the products at equal places
abbrev pub dot_of : {R : Type 0} → RingOf R → List R → List R → R
dot_of ring [] ys = ring.zero
dot_of ring (x ∷ xs) [] = ring.zero
dot_of ring (x ∷ xs) (y ∷ ys) = ring.add (ring.mul x y) (dot_of ring xs ys)

-- x multiplied n times
abbrev pub power : {R : Type 0} → RingOf R → R → ℕ → R
power ring x zero = ring.one
power ring x (suc n) = ring.mul x (power ring x n)

-- the greatest of the weights of a list of values, and 0 where there is none
abbrev pub greatest_weight_of : {R : Type 0} → RingOf R → List R → ℕ
greatest_weight_of ring [] = 0
greatest_weight_of ring (x ∷ xs) = max (ring.weight x) (greatest_weight_of ring xs)
