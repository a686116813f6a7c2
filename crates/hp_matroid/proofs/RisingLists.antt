-- Rising lists of numbers as sets: when they are equal, their sizes, and the members above a number.
use Rattle.std.specs.Prelude.{[], nat_lt, ◌≡◌, ℕ, suc, ◌<◌, ◌≤◌, ◌==◌, Bool, true, false, cond, ◌&&◌, ◌∷◌, length, filter, ◌⊎◌}
use Rattle.std.specs.List.{list_all}
use Rattle.std.proofs.lemmas.Bool.{eqb-true, eq-eqb, ltb-true, ltb-false, and_from}
use mathlib.Core.Logic.{inl, inr}
use mathlib.Core.Path.{refl, sym, ap, ◌∙◌, subst}
use native.Mathlib.Omega.{arith}
use Rattle.hp_lists.proofs.Members.{first_true, second_true, all-from as each-from, all-at as each-at}
use Rattle.hp_sets.proofs.SetLaws.{contains-Contains, Contains-contains}
use Rattle.hp_sets.specs.Sets.{Set, contains, is_within}
use Rattle.hp_matroid.specs.Matroids.{same_set, Rises, Within}
use Rattle.hp_matroid.proofs.Subsets.{within-more, clash, or_right, or_case, or_both, head_in, within-cons, within-both}

irreflexive : (x y : ℕ) → x < y → x ≡ y → ⊥
irreflexive x y l e = omega arith

-- a member of x ∷ xs that is not x
pub other : (x : ℕ) (xs : Set) (i : ℕ) → contains (x ∷ xs) i ≡ true → (x ≡ i → ⊥) → contains xs i ≡ true
other x xs i h n = elim (or_case (x == i) (contains xs i) h) as (λ _. contains xs i ≡ true) [
  | inl g ↦ absurd (n (eqb-true x i g))
  | inr g ↦ g
]

pub none_within : (s : Set) → Within s [] → s ≡ []
none_within [] w = refl
none_within (x ∷ s) w = clash (sym (w x (head_in x s)))

-- the first is the least
pub head_low : (x : ℕ) (xs : Set) (i : ℕ) → Rises (x ∷ xs) → contains (x ∷ xs) i ≡ true → x ≤ i
head_low x xs i r h = elim (or_case (x == i) (contains xs i) h) as (λ _. x ≤ i) [
  | inl g ↦ same x i (eqb-true x i g)
  | inr g ↦ less x i (r.0 i g)
]
  where
    same : (x i : ℕ) → x ≡ i → x ≤ i
    same x i e = omega arith

    less : (x i : ℕ) → x < i → x ≤ i
    less x i l = omega arith

-- the tail of a rising list within a rising list is within the tail
pub tail-within : (x y : ℕ) (s t : Set) → Rises (x ∷ s) → Rises (y ∷ t) → Within (x ∷ s) (y ∷ t) → Within s t
tail-within x y s t r q w i h =
    other y t i (w i (or_right (x == i) (contains s i) h)) (λ e. irreflexive y i (over y x i (head_low y t x q (w x (head_in x s))) (r.0 i h)) e)
  where
    over : (y x i : ℕ) → y ≤ x → x < i → y < i
    over y x i a b = omega arith

-- a rising list within x ∷ xs begins with x, or lies within xs
pub split : (x : ℕ) (xs s : Set) → Rises (x ∷ xs) → Rises s → Within s (x ∷ xs)
    → ((s' : Set) × (s ≡ x ∷ s') × Rises s' × Within s' xs) ⊎ Within s xs
split x xs [] r q w = inr (λ i h. clash (sym h))
split x xs (y ∷ s) r q w = step (x == y) refl
  where
    step : (b : Bool) → (x == y) ≡ b → ((s' : Set) × ((y ∷ s) ≡ x ∷ s') × Rises s' × Within s' xs) ⊎ Within (y ∷ s) xs
    step true e = inl (s, ap (λ z. z ∷ s) (sym (eqb-true x y e)), q.1, tail-within y x s xs q r w)
    step false e = inr (within-cons y s xs (other x xs y (w y (head_in y s)) (λ z. clash (sym (eq-eqb x y z) ∙ e))) (tail-within y x s xs q r w))

-- two rising lists within each other are equal
pub rises-same : (s t : Set) → Rises s → Rises t → Within s t → Within t s → s ≡ t
rises-same [] t r q w v = sym (none_within t v)
rises-same (x ∷ s) [] r q w v = clash (sym (w x (head_in x s)))
rises-same (x ∷ s) (y ∷ t) r q w v =
    let e : x ≡ y = between x y (head_low x s y r (v y (head_in y t))) (head_low y t x q (w x (head_in x s))) in
    λ i. e i ∷ rises-same s t r.1 q.1 (tail-within x y s t r q w) (tail-within y x t s q r v) i
  where
    between : (x y : ℕ) → x ≤ y → y ≤ x → x ≡ y
    between x y a b = omega arith

pub length-within : (s t : Set) → Rises s → Rises t → Within s t → length s ≤ length t
length-within [] t r q w = omega arith
length-within (x ∷ s) [] r q w = clash (sym (w x (head_in x s)))
length-within (x ∷ s) (y ∷ t) r q w = more (length s) (length t) (length-within s t r.1 q.1 (tail-within x y s t r q w))
  where
    more : (a b : ℕ) → a ≤ b → suc a ≤ suc b
    more a b l = omega arith

-- a rising list within another is smaller, or the other lies within it
pub smaller : (s t : Set) → Rises s → Rises t → Within s t → (length s < length t) ⊎ Within t s
smaller s [] r q w = inr (λ i h. clash (sym h))
smaller s (x ∷ t) r q w = step (split x t s q r w) (λ s' rs ws. smaller s' t rs q.1 ws)
  where
    step : ((s' : Set) × (s ≡ x ∷ s') × Rises s' × Within s' t) ⊎ Within s t
        → ((s' : Set) → Rises s' → Within s' t → (length s' < length t) ⊎ Within t s')
        → (length s < length (x ∷ t)) ⊎ Within (x ∷ t) s
    step (inr v) ih = inl (less (length s) (length t) (length-within s t r q.1 v))
      where
        less : (a b : ℕ) → a ≤ b → a < suc b
        less a b l = omega arith
    step (inl p) ih = elim (ih p.0 p.2 p.3) as (λ _. (length s < length (x ∷ t)) ⊎ Within (x ∷ t) s) [
      | inl l ↦ inl (subst (λ z. length z < length (x ∷ t)) (sym p.1) (more (length p.0) (length t) l))
      | inr v ↦ inr (subst (λ z. Within (x ∷ t) z) (sym p.1) (within-both x t p.0 v))
    ]
      where
        more : (a b : ℕ) → a < b → suc a < suc b
        more a b l = omega arith

-- ---- tests over all members

pub all-from : (test : ℕ → Bool) (s : Set) → ((i : ℕ) → contains s i ≡ true → test i ≡ true) → list_all test s ≡ true
all-from test s h = each-from test s (λ i c. h i (Contains-contains s i c))

pub all-at : (test : ℕ → Bool) (s : Set) (i : ℕ) → list_all test s ≡ true → contains s i ≡ true → test i ≡ true
all-at test s i h e = each-at test s i h (contains-Contains s i e)

-- a test that not all pass fails at some member
pub all-fails : (test : ℕ → Bool) (s : Set) → list_all test s ≡ false → (i : ℕ) × (contains s i ≡ true) × (test i ≡ false)
all-fails test [] h = clash h
all-fails test (x ∷ s) h = step (test x) refl (all-fails test s)
  where
    step : (b : Bool) → test x ≡ b → (list_all test s ≡ false → (i : ℕ) × (contains s i ≡ true) × (test i ≡ false)) → (i : ℕ) × (contains (x ∷ s) i ≡ true) × (test i ≡ false)
    step false e ih = (x, head_in x s, e)
    step true e ih = let r = ih (sym (ap (λ b. b && list_all test s) e) ∙ h) in (r.0, or_right (x == r.0) (contains s r.0) r.1, r.2)

pub all-same : (p q : ℕ → Bool) (s : Set) → ((i : ℕ) → contains s i ≡ true → p i ≡ q i) → list_all p s ≡ list_all q s
all-same p q [] h = refl
all-same p q (x ∷ s) h = λ j. h x (head_in x s) j && all-same p q s (λ i e. h i (or_right (x == i) (contains s i) e)) j

pub is_within-from : (s t : Set) → Within s t → is_within s t ≡ true
is_within-from s t w = all-from (contains t) s w

pub is_within-to : (s t : Set) → is_within s t ≡ true → Within s t
is_within-to s t h i e = all-at (contains t) s i h e

pub same_set-from : (s t : Set) → s ≡ t → same_set s t ≡ true
same_set-from s t e = and_from (is_within s t) (is_within t s) (is_within-from s t (subst (Within s) e (λ i h. h))) (is_within-from t s (subst (λ z. Within z s) e (λ i h. h)))

pub same_set-to : (s t : Set) → Rises s → Rises t → same_set s t ≡ true → s ≡ t
same_set-to s t r q h = rises-same s t r q (is_within-to s t (first_true (is_within s t) (is_within t s) h)) (is_within-to t s (second_true (is_within s t) (is_within t s) h))

-- ---- the members above a number

abbrev pub above : ℕ → Set → Set
above e s = filter (nat_lt e) s

pub above_all : (e : ℕ) (s : Set) → ((y : ℕ) → contains s y ≡ true → e < y) → above e s ≡ s
above_all e [] h = refl
above_all e (x ∷ s) h =
    ap (λ b. cond b (x ∷ above e s) (above e s)) (yes e x (h x (head_in x s)))
    ∙ ap (λ z. x ∷ z) (above_all e s (λ y k. h y (or_right (x == y) (contains s y) k)))
  where
    yes : (e x : ℕ) → e < x → nat_lt e x ≡ true
    yes e x l = grind (arith, ltb-false)

-- a head that is not above leaves no trace
pub above-low : (e x : ℕ) (s : Set) → x ≤ e → above e (x ∷ s) ≡ above e s
above-low e x s l = ap (λ b. cond b (x ∷ above e s) (above e s)) (no e x l)
  where
    no : (e x : ℕ) → x ≤ e → nat_lt e x ≡ false
    no e x l = grind (arith, ltb-true)

pub above-head : (x : ℕ) (s : Set) → Rises (x ∷ s) → above x (x ∷ s) ≡ s
above-head x s r = above-low x x s (low x) ∙ above_all x s r.0
  where
    low : (x : ℕ) → x ≤ x
    low x = omega arith

pub above-within : (e : ℕ) (s : Set) → Within (above e s) s
above-within e [] i h = h
above-within e (x ∷ s) i h = step (nat_lt e x) refl (above-within e s)
  where
    step : (b : Bool) → nat_lt e x ≡ b → Within (above e s) s → contains (x ∷ s) i ≡ true
    step true p ih = within-both x (above e s) s ih i (sym (ap (λ b. contains (cond b (x ∷ above e s) (above e s)) i) p) ∙ h)
    step false p ih = or_right (x == i) (contains s i) (ih i (sym (ap (λ b. contains (cond b (x ∷ above e s) (above e s)) i) p) ∙ h))

pub in_above : (e : ℕ) (s : Set) (i : ℕ) → contains s i ≡ true → e < i → contains (above e s) i ≡ true
in_above e [] i h l = h
in_above e (x ∷ s) i h l = step (nat_lt e x) refl (in_above e s i)
  where
    step : (b : Bool) → nat_lt e x ≡ b → (contains s i ≡ true → e < i → contains (above e s) i ≡ true) → contains (above e (x ∷ s)) i ≡ true
    step true p ih = ap (λ b. contains (cond b (x ∷ above e s) (above e s)) i) p ∙ or_both (x == i) (contains s i) (contains (above e s) i) (λ k. ih k l) h
    step false p ih = ap (λ b. contains (cond b (x ∷ above e s) (above e s)) i) p ∙ ih (other x s i h (λ z. at_low e x i (ltb-false e x p) z l)) l
      where
        at_low : (e x i : ℕ) → x ≤ e → x ≡ i → e < i → ⊥
        at_low e x i a z l = omega arith

-- all of them are above it
pub above-over : (e : ℕ) (s : Set) (y : ℕ) → contains (above e s) y ≡ true → e < y
above-over e [] y h = clash (sym h)
above-over e (x ∷ s) y h = step (nat_lt e x) refl (above-over e s y)
  where
    at : (e x y : ℕ) → e < x → x ≡ y → e < y
    at e x y l z = omega arith

    step : (b : Bool) → nat_lt e x ≡ b → (contains (above e s) y ≡ true → e < y) → e < y
    step true p ih = elim (or_case (x == y) (contains (above e s) y) (sym (ap (λ b. contains (cond b (x ∷ above e s) (above e s)) y) p) ∙ h)) as (λ _. e < y) [
      | inl k ↦ at e x y (ltb-true e x p) (eqb-true x y k)
      | inr k ↦ ih k
    ]
    step false p ih = ih (sym (ap (λ b. contains (cond b (x ∷ above e s) (above e s)) y) p) ∙ h)

pub above-rises : (e : ℕ) (s : Set) → Rises s → Rises (above e s)
above-rises e [] r = tt
above-rises e (x ∷ s) r = step (nat_lt e x) refl (above-rises e s r.1)
  where
    step : (b : Bool) → nat_lt e x ≡ b → Rises (above e s) → Rises (above e (x ∷ s))
    step true p ih = subst (λ b. Rises (cond b (x ∷ above e s) (above e s))) (sym p) ((λ y k. r.0 y (above-within e s y k)), ih)
    step false p ih = subst (λ b. Rises (cond b (x ∷ above e s) (above e s))) (sym p) ih

-- what is kept of a rising list rises
pub filter-rises : (test : ℕ → Bool) (s : Set) → Rises s → Rises (filter test s) × Within (filter test s) s
filter-rises test [] r = (tt, λ j h. h)
filter-rises test (x ∷ s) r = step (test x) (filter-rises test s r.1)
  where
    step : (b : Bool) → Rises (filter test s) × Within (filter test s) s → Rises (cond b (x ∷ filter test s) (filter test s)) × Within (cond b (x ∷ filter test s) (filter test s)) (x ∷ s)
    step true p = (((λ y h. r.0 y (p.1 y h)), p.0), within-both x (filter test s) s p.1)
    step false p = (p.0, within-more x (filter test s) s p.1)
