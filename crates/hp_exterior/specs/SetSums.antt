-- Sums over disjoint unions of sets, and inversions: the two ways to sort three sets have signs that agree.
use Rattle.std.specs.Prelude.{◌≡◌, ◌⊎◌, ℕ, ◌+◌, ◌<◌, ◌≤◌, nat_lt, Bool, true, false, cond, ◌||◌, List, [], ◌∷◌, ◌++◌, length, filter, Contains, sum_by, count_by}
use Rattle.std.proofs.lemmas.Bool.{le-ltb}
use Rattle.std.proofs.lemmas.List.Sums.{sum_by-cons, sum_by-append}
use mathlib.Core.Logic.{inl, inr}
use mathlib.Core.Path.{refl, sym, ap, ◌∙◌}
use native.Mathlib.Omega.{arith}
use Rattle.hp_lists.specs.Lists.{one_to}
use Rattle.hp_lists.proofs.Members.{Contains-here, Contains-later, Contains-cases, Contains-none, not_both}
use Rattle.hp_lists.proofs.NaturalSums.{one_if, sum_by-add, sum_by-constant, sum_by-ext}
use Rattle.hp_lists.proofs.Ordered.{Rises, rises_of}
use Rattle.hp_sets.specs.Sets.{Set, IsSetWithin, contains, those, union}
use Rattle.hp_sets.proofs.SetLaws.{contains-Contains, Contains-contains, contains-those, those-contains, those-ext, those-set}
use Rattle.hp_sets.proofs.SetMembers.{union-members, members-union_left, members-union_right}
use Rattle.hp_exterior.specs.Exterior.{inversions, meets}

-- ---- common members

abbrev pub AreApart : Set → Set → Type 0
AreApart s t = (i : ℕ) → Contains s i → Contains t i → ⊥

pub meets-apart : (s t : Set) → AreApart s t → meets s t ≡ false
meets-apart [] t h = refl
meets-apart (x ∷ s) t h = step (contains t x) refl (meets-apart s t (λ i c. h i (Contains-later x s i c)))
  where
    step : (b : Bool) → contains t x ≡ b → meets s t ≡ false → (b || meets s t) ≡ false
    step true e r = absurd (h x (Contains-here x s) (contains-Contains t x e))
    step false e r = r

pub apart-meets : (s t : Set) → meets s t ≡ false → AreApart s t
apart-meets [] t e i c d = Contains-none i c
apart-meets (x ∷ s) t e i c d = step (contains t x) refl e (Contains-cases x s i c) (λ g k. apart-meets s t g i k d)
  where
    step : (b : Bool) → contains t x ≡ b → (b || meets s t) ≡ false → (x ≡ i) ⊎ Contains s i
        → (meets s t ≡ false → Contains s i → ⊥) → ⊥
    step true f g k r = not_both true refl g
    step false f g (inl k) r = not_both (contains t x) (ap (contains t) k ∙ Contains-contains t i d) f
    step false f g (inr k) r = r g k

-- two tests that fail alike are equal
fails-ext : (a b : Bool) → (a ≡ false → b ≡ false) → (b ≡ false → a ≡ false) → a ≡ b
fails-ext false b f g = sym (f refl)
fails-ext true false f g = g refl
fails-ext true true f g = refl

pub meets_sym : (s t : Set) → meets s t ≡ meets t s
meets_sym s t = fails-ext _ _ (turned s t) (turned t s)
  where
    turned : (s t : Set) → meets s t ≡ false → meets t s ≡ false
    turned s t e = meets-apart t s (λ i c d. apart-meets s t e i d c)

pub meets-union : (s t u : Set) → IsSetWithin 64 t → IsSetWithin 64 u → meets s (union t u) ≡ (meets s t || meets s u)
meets-union s t u p q = fails-ext _ _ to (from (meets s t) (meets s u) refl refl)
  where
    both : (a b : Bool) → a ≡ false → b ≡ false → (a || b) ≡ false
    both a b e f = ap (λ c. c || b) e ∙ f

    to : meets s (union t u) ≡ false → (meets s t || meets s u) ≡ false
    to e =
        let none = apart-meets s (union t u) e in
        both _ _ (meets-apart s t (λ i c d. none i c (members-union_left t u i p d)))
        (meets-apart s u (λ i c d. none i c (members-union_right t u i q d)))

    from : (a b : Bool) → meets s t ≡ a → meets s u ≡ b → (a || b) ≡ false → meets s (union t u) ≡ false
    from true b e f g = absurd (not_both true refl g)
    from false true e f g = absurd (not_both true refl g)
    from false false e f g = meets-apart s (union t u) (λ i c d. pick i c (union-members t u i d))
      where
        pick : (i : ℕ) → Contains s i → Contains t i ⊎ Contains u i → ⊥
        pick i c (inl d) = apart-meets s t e i c d
        pick i c (inr d) = apart-meets s u f i c d

or_assoc : (a b c : Bool) → ((a || b) || c) ≡ (a || (b || c))
or_assoc true b c = refl
or_assoc false b c = refl

pub union_assoc : (s t u : Set) → union (union s t) u ≡ union s (union t u)
union_assoc s t u =
    those-ext (λ i. contains (union s t) i || contains u i) (λ i. contains s i || contains (union t u) i) (λ i h l.
    ap (λ b. b || contains u i) (contains-those (λ j. contains s j || contains t j) i h l)
    ∙ or_assoc (contains s i) (contains t i) (contains u i)
    ∙ ap (λ b. contains s i || b) (sym (contains-those (λ j. contains t j || contains u j) i h l)))

pub union_nothing : (t : Set) → IsSetWithin 64 t → union [] t ≡ t
union_nothing t h = those-contains t h

pub union-nothing : (s : Set) → IsSetWithin 64 s → union s [] ≡ s
union-nothing s h = those-ext (λ i. contains s i || false) (contains s) (λ i _ _. or-false (contains s i)) ∙ those-contains s h
  where
    or-false : (b : Bool) → (b || false) ≡ b
    or-false true = refl
    or-false false = refl

-- ---- sums over sets

-- the sum of f over the numbers from 1 to 64 that pass the test
abbrev pub by_numbers : (ℕ → Bool) → (ℕ → ℕ) → ℕ
by_numbers test f = sum_by (λ i. cond (test i) (f i) 0) (one_to 64)

sum-filter : (test : ℕ → Bool) (f : ℕ → ℕ) (xs : List ℕ)
    → sum_by f (filter test xs) ≡ sum_by (λ i. cond (test i) (f i) 0) xs
sum-filter test f [] = refl
sum-filter test f (x ∷ xs) =
    step (test x) (filter test xs) (sum-filter test f xs) ∙ sym (sum_by-cons (λ i. cond (test i) (f i) 0) x xs)
  where
    step : (b : Bool) (ys : List ℕ) {n : ℕ} → sum_by f ys ≡ n → sum_by f (cond b (x ∷ ys) ys) ≡ cond b (f x) 0 + n
    step true ys e = sum_by-cons f x ys ∙ ap (λ m. f x + m) e
    step false ys e = omega (arith, e)

pub sum-those : (test : ℕ → Bool) (f : ℕ → ℕ) → sum_by f (those test) ≡ by_numbers test f
unfolding those
sum-those test f = sum-filter test f (one_to 64)

pub sum-set : (s : Set) → IsSetWithin 64 s → (f : ℕ → ℕ) → sum_by f s ≡ by_numbers (contains s) f
sum-set s h f = ap (sum_by f) (sym (those-contains s h)) ∙ sum-those (contains s) f

-- over a disjoint union a sum is the sum of the two
pub sum-union : (s t : Set) → IsSetWithin 64 s → IsSetWithin 64 t → meets s t ≡ false → (f : ℕ → ℕ)
    → sum_by f (union s t) ≡ sum_by f s + sum_by f t
sum-union s t p q e f =
    let left : ℕ → ℕ = λ i. cond (contains s i) (f i) 0 in
    let right : ℕ → ℕ = λ i. cond (contains t i) (f i) 0 in
    sum-those (λ i. contains s i || contains t i) f
    ∙ sum_by-ext _ (λ i. left i + right i) (one_to 64) (λ i c. merge (contains s i) (contains t i) (f i) (λ a b. apart-meets s t e i (contains-Contains s i a) (contains-Contains t i b)))
    ∙ sum_by-add left right (one_to 64)
    ∙ sym (λ i. sum-set s p f i + sum-set t q f i)
  where
    merge : (a b : Bool) (c : ℕ) → (a ≡ true → b ≡ true → ⊥) → cond (a || b) c 0 ≡ cond a c 0 + cond b c 0
    merge true true c h = absurd (h refl refl)
    merge true false c h = omega arith
    merge false true c h = omega arith
    merge false false c h = refl

pub length-union : (s t : Set) → IsSetWithin 64 s → IsSetWithin 64 t → meets s t ≡ false
    → length (union s t) ≡ length s + length t
length-union s t p q e =
    let a = sum-union s t p q e (λ i. 1) in
    omega (arith, a, sum_by-constant 1 (union s t), sum_by-constant 1 s, sum_by-constant 1 t)

-- ---- inversions

-- how many members are below i, and in how many pairs the second is below the first
abbrev pub below_in : Set → ℕ → ℕ
below_in t i = count_by (λ y. nat_lt y i) t

abbrev pub crossings_of : Set → Set → ℕ
crossings_of s t = sum_by (below_in t) s

pub none_below : (x : ℕ) (xs : List ℕ) → ((y : ℕ) → Contains xs y → x ≤ y) → below_in xs x ≡ 0
none_below x [] h = refl
none_below x (y ∷ xs) h =
    let e : one_if (nat_lt y x) ≡ 0 = ap one_if (le-ltb y x (h y (Contains-here y xs))) in
    let r = none_below x xs (λ z c. h z (Contains-later y xs z c)) in
    let a = sum_by-cons (λ z. one_if (nat_lt z x)) y xs in
    omega (arith, e, r, a)

-- a rising list followed by another has the inversions between the two, and those of the other
inversions-append : (s t : List ℕ) → Rises s → inversions (s ++ t) ≡ crossings_of s t + inversions t
inversions-append [] t h = omega arith
inversions-append (x ∷ s) t h =
    let a = sum_by-append (λ y. one_if (nat_lt y x)) s t in
    let z = none_below x s (λ y c. weak x y (h.0 y c)) in
    let c = sum_by-cons (below_in t) x s in
    omega (arith, a, z, c, inversions-append s t h.1)
  where
    weak : (x y : ℕ) → x < y → x ≤ y
    weak x y l = omega arith

pub inversions-rising : (s : List ℕ) → Rises s → inversions s ≡ 0
inversions-rising [] h = refl
inversions-rising (x ∷ s) h =
    let z = none_below x s (λ y c. weak x y (h.0 y c)) in
    omega (arith, z, inversions-rising s h.1)
  where
    weak : (x y : ℕ) → x < y → x ≤ y
    weak x y l = omega arith

pub inversions-sets : (s t : Set) → IsSetWithin 64 s → IsSetWithin 64 t → inversions (s ++ t) ≡ crossings_of s t
inversions-sets s t p q =
    omega (arith, inversions-append s t (rises_of s p.rising), inversions-rising t (rises_of t q.rising))

-- the inversions of the two ways to sort three sets
pub inversions_assoc : (s t u : Set) → IsSetWithin 64 s → IsSetWithin 64 t → IsSetWithin 64 u → meets s t ≡ false
    → meets t u ≡ false
    → inversions (s ++ t) + inversions (union s t ++ u) ≡ inversions (t ++ u) + inversions (s ++ union t u)
inversions_assoc s t u p q r st tu =
    let a = inversions-sets s t p q in
    let b = inversions-sets (union s t) u (those-set _) r in
    let c = inversions-sets t u q r in
    let d = inversions-sets s (union t u) p (those-set _) in
    let e = sum-union s t p q st (below_in u) in
    let f : crossings_of s (union t u) ≡ sum_by (λ i. below_in t i + below_in u i) s =
    sum_by-ext (below_in (union t u)) (λ i. below_in t i + below_in u i) s (λ i k. sum-union t u q r tu (λ y. one_if (nat_lt y i))) in
    let g = sum_by-add (below_in t) (below_in u) s in
    omega (arith, a, b, c, d, e, f, g)
