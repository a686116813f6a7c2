-- Monomials place by place: products, divisors, and the cofactors that lead to a least common multiple.
use Rattle.std.specs.Prelude.{◌≡◌, ◌⊎◌, ℕ, zero, suc, ◌+◌, ◌-◌, ◌≤◌, max, List, [], ◌∷◌, length, slice_index_or}
use Rattle.std.proofs.lemmas.Bool.{cases_lt}
use Rattle.std.proofs.lemmas.List.Sums.{sum_by-cons}
use mathlib.Core.Logic.{inl, inr}
use mathlib.Core.Path.{refl, sym, ◌∙◌}
use native.Mathlib.Omega.{arith}
use Rattle.hp_mono.specs.Digits.{EachAtMost}
use Rattle.hp_mono.specs.Monomials.{Monomial, IsMonomial, Divides, cofactor, product, with_each, lcm, degree, one}

pub length-with_each : (f : ℕ → ℕ → ℕ) (a b : List ℕ) → length a ≡ length b → length (with_each f a b) ≡ length a
length-with_each f [] b e = refl
length-with_each f (x ∷ a) [] e = sym e
length-with_each f (x ∷ a) (y ∷ b) e = let r = length-with_each f a b (omega arith) in omega arith

pub product-monomial : (a b : Monomial) → IsMonomial a → IsMonomial b → IsMonomial (product a b)
product-monomial a b la lb = length-with_each ◌+◌ a b (la ∙ sym lb) ∙ la

-- ---- products

pub product_assoc : (a b c : Monomial) → product (product a b) c ≡ product a (product b c)
product_assoc [] b c = refl
product_assoc (x ∷ a) [] c = refl
product_assoc (x ∷ a) (y ∷ b) [] = refl
product_assoc (x ∷ a) (y ∷ b) (z ∷ c) =
    let h : (x + y) + z ≡ x + (y + z) = omega arith in
    let t = product_assoc a b c in
    λ i. h i ∷ t i

pub product_comm : (a b : Monomial) → product a b ≡ product b a
product_comm [] [] = refl
product_comm [] (y ∷ b) = refl
product_comm (x ∷ a) [] = refl
product_comm (x ∷ a) (y ∷ b) =
    let h : x + y ≡ y + x = omega arith in
    let t = product_comm a b in
    λ i. h i ∷ t i

pub degree_product : (k : ℕ) (a b : List ℕ) → length a ≡ k → length b ≡ k → degree (product a b) ≡ degree a + degree b
degree_product k [] [] la lb = refl
degree_product k [] (y ∷ b) la lb = absurd (omega arith)
degree_product k (x ∷ a) [] la lb = absurd (omega arith)
degree_product k (x ∷ a) (y ∷ b) la lb =
    let r = degree_product (length a) a b refl (omega arith) in
    let s = sum_by-cons (λ n. n) (x + y) (product a b) in
    let t = sum_by-cons (λ n. n) x a in
    let u = sum_by-cons (λ n. n) y b in
    omega arith

-- a factor of degree 0 changes nothing
pub product-degree_zero : (m a : List ℕ) → length m ≡ length a → degree m ≡ 0 → product m a ≡ a
product-degree_zero [] [] e z = refl
product-degree_zero [] (x ∷ a) e z = absurd (omega arith)
product-degree_zero (y ∷ m) [] e z = absurd (omega arith)
product-degree_zero (y ∷ m) (x ∷ a) e z =
    let d = sum_by-cons (λ n. n) y m in
    let h : y + x ≡ x = omega arith in
    let t = product-degree_zero m a (omega arith) (omega arith) in
    λ i. h i ∷ t i

pub product-one : (a : Monomial) → IsMonomial a → product one a ≡ a
product-one a la = product-degree_zero one a (sym la) refl

pub cancel_product : (m n a : List ℕ) → length m ≡ length a → length n ≡ length a → product m a ≡ product n a → m ≡ n
cancel_product [] [] a e f g = refl
cancel_product [] (y ∷ n) a e f g = absurd (omega arith)
cancel_product (x ∷ m) [] a e f g = absurd (omega arith)
cancel_product (x ∷ m) (y ∷ n) [] e f g = absurd (omega arith)
cancel_product (x ∷ m) (y ∷ n) (z ∷ a) e f g =
    let here : x + z ≡ y + z = cc in
    let rest : product m a ≡ product n a = cc in
    let h : x ≡ y = omega arith in
    let t = cancel_product m n a (omega arith) (omega arith) rest in
    λ i. h i ∷ t i

-- ---- divisors: a divides b where no exponent of a is above that of b

pub product-most : (m a b : List ℕ) → length m ≡ length a → product m a ≡ b → EachAtMost a b
product-most m [] b e p = tt
product-most m (x ∷ a) [] e p = tt
product-most [] (x ∷ a) (y ∷ b) e p = absurd (omega arith)
product-most (z ∷ m) (x ∷ a) (y ∷ b) e p =
    let h : z + x ≡ y = cc in
    let t : product m a ≡ b = cc in
    (omega arith, product-most m a b (omega arith) t)

pub most-product : (a b : List ℕ) → length a ≡ length b → EachAtMost a b → product (with_each ◌-◌ b a) a ≡ b
most-product [] [] e h = refl
most-product [] (y ∷ b) e h = absurd (omega arith)
most-product (x ∷ a) [] e h = absurd (omega arith)
most-product (x ∷ a) (y ∷ b) e (l, h) =
    let p : (y - x) + x ≡ y = omega arith in
    let t = most-product a b (omega arith) h in
    λ i. p i ∷ t i

pub divides-most : (a b : Monomial) → IsMonomial a → Divides a b → EachAtMost a b
divides-most a b la (m, lm, p) = product-most m a b (lm ∙ sym la) p

pub most-divides : (a b : Monomial) → IsMonomial a → IsMonomial b → EachAtMost a b → Divides a b
most-divides a b la lb h =
    (with_each ◌-◌ b a, length-with_each ◌-◌ b a (lb ∙ sym la) ∙ lb, most-product a b (la ∙ sym lb) h)

most-decided : (a b : List ℕ) → EachAtMost a b ⊎ ¬ (EachAtMost a b)
most-decided [] b = inl tt
most-decided (x ∷ a) [] = inl tt
most-decided (x ∷ a) (y ∷ b) =
    elim (cases_lt y x) [
      | inl above ↦ inr (λ h. absurd (omega arith))
      | inr within ↦ elim (most-decided a b) [ inl h ↦ inl (within, h) | inr none ↦ inr (λ h. none h.1) ]
    ]

pub divides-decided : (a b : Monomial) → IsMonomial a → IsMonomial b → Divides a b ⊎ ¬ (Divides a b)
divides-decided a b la lb =
    elim (most-decided a b) [ inl h ↦ inl (most-divides a b la lb h) | inr none ↦ inr (λ d. none (divides-most a b la d)) ]

-- ---- least common multiples

pub cofactor-monomial : (a b : Monomial) → IsMonomial a → IsMonomial b → IsMonomial (cofactor a b)
cofactor-monomial a b la lb =
    let l = length-with_each max a b (la ∙ sym lb) in
    length-with_each ◌-◌ (lcm a b) a l ∙ l ∙ la

pub lcm_comm : (a b : List ℕ) → lcm a b ≡ lcm b a
lcm_comm [] [] = refl
lcm_comm [] (y ∷ b) = refl
lcm_comm (x ∷ a) [] = refl
lcm_comm (x ∷ a) (y ∷ b) =
    let h : max x y ≡ max y x = omega arith in
    let t = lcm_comm a b in
    λ i. h i ∷ t i

pub cofactor_product : (a b : List ℕ) → length a ≡ length b → product (cofactor a b) a ≡ lcm a b
cofactor_product [] b e = refl
cofactor_product (x ∷ a) [] e = refl
cofactor_product (x ∷ a) (y ∷ b) e =
    let h : (max x y - x) + x ≡ max x y = omega arith in
    let t = cofactor_product a b (omega arith) in
    λ i. h i ∷ t i

pub divides-lcm : (a b : Monomial) → IsMonomial a → IsMonomial b → Divides a (lcm a b)
divides-lcm a b la lb = (cofactor a b, cofactor-monomial a b la lb, cofactor_product a b (la ∙ sym lb))

-- a common multiple of a and b is a multiple of the lcm, by one factor
pub common : (k : ℕ) (m n a b : List ℕ) → length m ≡ k → length n ≡ k → length a ≡ k → length b ≡ k
    → product m a ≡ product n b
    → (c : List ℕ) × (length c ≡ k) × (product c (cofactor a b) ≡ m) × (product c (cofactor b a) ≡ n)
common k [] [] [] [] lm ln la lb e = ([], lm, refl, refl)
common k [] (y ∷ n) a b lm ln la lb e = absurd (omega arith)
common k (x ∷ m) [] a b lm ln la lb e = absurd (omega arith)
common k [] [] (z ∷ a) b lm ln la lb e = absurd (omega arith)
common k [] [] [] (v ∷ b) lm ln la lb e = absurd (omega arith)
common k (x ∷ m) (y ∷ n) [] b lm ln la lb e = absurd (omega arith)
common k (x ∷ m) (y ∷ n) (z ∷ a) [] lm ln la lb e = absurd (omega arith)
common k (x ∷ m) (y ∷ n) (z ∷ a) (v ∷ b) lm ln la lb e =
    let here : x + z ≡ y + v = cc in
    let rest : product m a ≡ product n b = cc in
    let r = common (length m) m n a b refl (omega arith) (omega arith) (omega arith) rest in
    let p : (x - (max z v - z)) + (max z v - z) ≡ x = omega arith in
    let q : (x - (max z v - z)) + (max v z - v) ≡ y = omega arith in
    let l : length ((x - (max z v - z)) ∷ r.0) ≡ k = omega (arith, r.1) in
    let s = r.2 in
    let t = r.3 in
    ((x - (max z v - z)) ∷ r.0, l, (λ i. p i ∷ s i), (λ i. q i ∷ t i))

-- where b has no greater exponent, the cofactor of a has none
pub cofactor_exponent : (k : ℕ) (a b : List ℕ) → length a ≡ length b → slice_index_or b k 0 ≤ slice_index_or a k 0
    → slice_index_or (cofactor a b) k 0 ≡ 0
cofactor_exponent k [] b e l = refl
cofactor_exponent k (x ∷ a) [] e l = absurd (omega arith)
cofactor_exponent zero (x ∷ a) (y ∷ b) e l =
    let h : y ≤ x = l in
    let m : max x y - x ≡ 0 = omega arith in
    m
cofactor_exponent (suc k) (x ∷ a) (y ∷ b) e l = cofactor_exponent k a b (omega arith) l
