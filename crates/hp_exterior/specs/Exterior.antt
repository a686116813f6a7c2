-- The exterior algebra on generators e_1, e_2, .. over a field: finite sums of the basis elements e_S of sets S.
use Rattle.std.specs.Prelude.{◌≡◌, ℕ, zero, suc, ◌+◌, ◌==◌, nat_lt, Bool, if◌then◌else◌, List, [], ◌∷◌, ◌++◌, map, flat_map, length, remove, count_by, All}
use Rattle.hp_lists.specs.Lists.{below, list_any}
use Rattle.hp_algebra.specs.Ring.{RingOf, power}
use Rattle.hp_sets.specs.Sets.{Set, IsSetWithin, cmp_listed, contains, union}
use Rattle.hp_sums.specs.FiniteSums.{IsSum, collect, coefficient, plus, negative, linear, bilinear}

-- in how many pairs of the list the later number is the smaller
abbrev pub inversions : List ℕ → ℕ
inversions [] = 0
inversions (x ∷ xs) = count_by (λ y. nat_lt y x) xs + inversions xs

-- the sets have a common member
abbrev pub meets : Set → Set → Bool
meets s t = list_any (contains t) s

-- An element is the list of its terms, each a set with its coefficient, in the order in which sets are listed.
abbrev pub Ext : Type 0 → Type 0
Ext F = List (Set × F)

module _ {F : Type 0} (ring : RingOf F) where
  open ring use {zero as 0ₖ, one as 1ₖ, add, neg, mul, is_zero, IsValue}

  -- (-1)^k
  abbrev pub sign : ℕ → F
  sign k = power ring (neg 1ₖ) k

  -- Each set stands once and in order, no coefficient is zero, and the sets have members from 1 to 64. So equal
  -- elements are equal lists.
  pub record IsExt (x : Ext F) : Type 0 where
    pub is_sum : IsSum cmp_listed ring x
    pub sets : All (λ t. IsSetWithin 64 t.0) x

  -- every set lies within 1 to n
  abbrev pub IsExtWithin : ℕ → Ext F → Type 0
  IsExtWithin n x = IsExt x × All (λ t. IsSetWithin n t.0) x

  -- every set has k members. So zero has every degree
  abbrev pub IsOfDegree : ℕ → Ext F → Type 0
  IsOfDegree k x = All (λ t. length t.0 ≡ k) x

  -- the sum of any terms: equal sets are added, and zeros left out
  abbrev pub ext_of : List (Set × F) → Ext F
  ext_of ts = collect cmp_listed ring ts

  -- the coefficient of e_S
  abbrev pub ext_coefficient : Ext F → Set → F
  ext_coefficient x s = coefficient cmp_listed ring x s

  abbrev pub ext_plus : Ext F → Ext F → Ext F
  ext_plus = plus cmp_listed ring

  abbrev pub ext_neg : Ext F → Ext F
  ext_neg = negative cmp_listed ring

  -- (-1)^k x
  abbrev pub ext_signed : ℕ → Ext F → Ext F
  ext_signed zero x = x
  ext_signed (suc k) x = ext_neg (ext_signed k x)

  -- c times e_S
  abbrev pub monomial : F → Set → Ext F
  monomial c s = ext_of ((s, c) ∷ [])

  -- e_i
  abbrev pub generator : ℕ → Ext F
  generator i = monomial 1ₖ (i ∷ [])

  -- e_S ∧ e_T: zero where the sets meet, and else e of the union, with the sign of the permutation that sorts S followed by T
  abbrev pub wedge_of_sets : Set → Set → List (Set × F)
  wedge_of_sets s t = if meets s t then [] else (union s t, sign (inversions (s ++ t))) ∷ []

  abbrev pub wedge : Ext F → Ext F → Ext F
  wedge = bilinear cmp_listed ring wedge_of_sets

  -- ∂ e_S: the sum over the places j of S, counted from 0, of (-1)^j times e of S without its member there
  abbrev pub boundary_of_set : Set → List (Set × F)
  boundary_of_set s = map (λ j. (remove s j, sign j)) (below (length s))

  abbrev pub boundary : Ext F → Ext F
  boundary = linear cmp_listed ring boundary_of_set

  -- ∂ (x ∧ y) = ∂ x ∧ y + (-1)^k x ∧ ∂ y for every y, where x has degree k
  abbrev pub HasProductRule : Ext F → Type 0
  HasProductRule x = (k : ℕ) (y : Ext F) → IsOfDegree k x → IsExt y
      → boundary (wedge x y) ≡ ext_plus (wedge (boundary x) y) (ext_signed k (wedge x (boundary y)))

  -- the terms of c e_S ∧ x before equal sets are added
  abbrev pub wedge_terms : Set → F → Ext F → List (Set × F)
  wedge_terms s c x = flat_map (λ u. map (λ v. (v.0, mul (mul c u.1) v.1)) (wedge_of_sets s u.0)) x

  -- the terms of c ∂ e_S
  abbrev pub boundary_terms : Set → F → List (Set × F)
  boundary_terms s c = map (λ u. (u.0, mul c u.1)) (boundary_of_set s)

  -- The ring of the exterior algebra. No weight limits its products.
  abbrev pub ext_ring : RingOf (Ext F)
  ext_ring = record {
    IsValue = IsExt;
    zero = [];
    one = monomial 1ₖ [];
    add = ext_plus;
    neg = ext_neg;
    mul = wedge;
    is_zero = λ x. length x == 0;
    weight = λ x. 0;
  }
