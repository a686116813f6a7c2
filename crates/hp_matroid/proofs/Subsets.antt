-- Sums over all sublists of a rising list of numbers.
use Rattle.std.specs.Prelude.{[], nat_lt, ◌≡◌, ℕ, zero, suc, ◌<◌, ◌≤◌, ◌==◌, Bool, true, false, cond, not, ◌||◌, List, ◌∷◌, ◌++◌, map, length, T, ◌⊎◌, ℤ, pos, ◌+ℤ◌, neg_ℤ}
use Rattle.std.proofs.lemmas.Bool.{eqb-true, eq-eqb, ne_eqb, ltb-true, ltb-false}
use Rattle.std.proofs.lemmas.Int.{ints}
use mathlib.Core.Logic.{inl, inr}
use mathlib.Core.Path.{refl, sym, ap, ◌∙◌, subst}
use native.Mathlib.Omega.{arith}
use Rattle.hp_lists.specs.Lists.{one_to, sublists_of_length}
use Rattle.hp_algebra.specs.Integers.{sum_over}
use Rattle.hp_sets.specs.Sets.{Set, contains, sets_of_at_most}
use Rattle.hp_matroid.specs.Matroids.{Rises, Within}

-- ---- tests

pub clash : {A : Type 0} → true ≡ false → A
clash e = absurd (subst T e tt)

pub or_right : (a b : Bool) → b ≡ true → (a || b) ≡ true
or_right true b e = refl
or_right false b e = e

pub or_left : (a b : Bool) → a ≡ true → (a || b) ≡ true
or_left a b e = ap (λ c. c || b) e

pub or_case : (a b : Bool) → (a || b) ≡ true → (a ≡ true) ⊎ (b ≡ true)
or_case true b e = inl refl
or_case false b e = inr e

pub or_both : (a b c : Bool) → (b ≡ true → c ≡ true) → (a || b) ≡ true → (a || c) ≡ true
or_both true b c f e = refl
or_both false b c f e = f e

pub not_true : (a : Bool) → not a ≡ true → a ≡ false
not_true true e = clash (sym e)
not_true false e = refl

pub not_false : (a : Bool) → not a ≡ false → a ≡ true
not_false true e = refl
not_false false e = clash e

pub decide : (b : Bool) → (b ≡ true) ⊎ (b ≡ false)
decide true = inl refl
decide false = inr refl

pub apart_true : {A : Type 0} (b : Bool) → b ≡ true → b ≡ false → A
apart_true b e f = clash (sym e ∙ f)

-- ---- lists within others

pub head_in : (x : ℕ) (s : Set) → contains (x ∷ s) x ≡ true
head_in x s = or_left (x == x) (contains s x) (eq-eqb x x refl)

pub within-tail : (x : ℕ) (s t : Set) → Within (x ∷ s) t → Within s t
within-tail x s t w i e = w i (or_right (x == i) (contains s i) e)

pub within-cons : (x : ℕ) (s t : Set) → contains t x ≡ true → Within s t → Within (x ∷ s) t
within-cons x s t e w i h = elim (or_case (x == i) (contains s i) h) as (λ _. contains t i ≡ true) [
  | inl g ↦ subst (λ y. contains t y ≡ true) (eqb-true x i g) e
  | inr g ↦ w i g
]

pub within-both : (x : ℕ) (s t : Set) → Within s t → Within (x ∷ s) (x ∷ t)
within-both x s t w i h = or_both (x == i) (contains s i) (contains t i) (w i) h

pub within-more : (x : ℕ) (s t : Set) → Within s t → Within s (x ∷ t)
within-more x s t w i h = or_right (x == i) (contains t i) (w i h)

pub contains-append : (s t : Set) (i : ℕ) → contains (s ++ t) i ≡ (contains s i || contains t i)
contains-append [] t i = refl
contains-append (x ∷ s) t i = ap (λ b. (x == i) || b) (contains-append s t i) ∙ assoc (x == i) (contains s i) (contains t i)
  where
    assoc : (a b c : Bool) → (a || (b || c)) ≡ ((a || b) || c)
    assoc true b c = refl
    assoc false b c = refl

-- numbers under other names
pub map-contains : (f : ℕ → ℕ) (s : Set) (y : ℕ) → contains (map f s) y ≡ true → (x : ℕ) × (contains s x ≡ true) × (f x ≡ y)
map-contains f [] y h = clash (sym h)
map-contains f (x ∷ s) y h = step (or_case (f x == y) (contains (map f s) y) h) (map-contains f s y)
  where
    step : ((f x == y) ≡ true) ⊎ (contains (map f s) y ≡ true) → (contains (map f s) y ≡ true → (z : ℕ) × (contains s z ≡ true) × (f z ≡ y)) → (z : ℕ) × (contains (x ∷ s) z ≡ true) × (f z ≡ y)
    step (inl e) ih = (x, head_in x s, eqb-true (f x) y e)
    step (inr e) ih = let r = ih e in (r.0, or_right (x == r.0) (contains s r.0) r.1, r.2)

pub contains-map : (f : ℕ → ℕ) (s : Set) (x : ℕ) → contains s x ≡ true → contains (map f s) (f x) ≡ true
contains-map f [] x h = clash (sym h)
contains-map f (y ∷ s) x h = elim (or_case (y == x) (contains s x) h) as (λ _. contains (map f (y ∷ s)) (f x) ≡ true) [
  | inl e ↦ or_left (f y == f x) (contains (map f s) (f x)) (eq-eqb (f y) (f x) (ap f (eqb-true y x e)))
  | inr e ↦ or_right (f y == f x) (contains (map f s) (f x)) (contains-map f s x e)
]

-- ---- sums over sublists

-- P holds of each sublist
abbrev pub Each : (Set → Type 0) → Set → Type 0
Each P [] = P []
Each P (x ∷ xs) = Each (λ s. P (x ∷ s)) xs × Each P xs

-- what holds of every rising list within xs holds of each sublist
pub each : (P : Set → Type 0) (xs : Set) → Rises xs → ((s : Set) → Rises s → Within s xs → P s) → Each P xs
each P [] r h = h [] tt (λ i e. e)
each P (x ∷ xs) r h = (
  each (λ s. P (x ∷ s)) xs r.1 (λ s rs w. h (x ∷ s) ((λ y e. r.0 y (w y e)), rs) (within-both x s xs w)),
  each P xs r.1 (λ s rs w. h s rs (within-more x s xs w)),
)

pub each-map : (P Q : Set → Type 0) (xs : Set) → ((s : Set) → P s → Q s) → Each P xs → Each Q xs
each-map P Q [] f h = f [] h
each-map P Q (x ∷ xs) f h = (each-map (λ s. P (x ∷ s)) (λ s. Q (x ∷ s)) xs (λ s. f (x ∷ s)) h.0, each-map P Q xs f h.1)

-- the sum of f over all sublists
abbrev pub sum_sub : (Set → ℤ) → Set → ℤ
sum_sub f [] = f []
sum_sub f (x ∷ xs) = sum_sub (λ s. f (x ∷ s)) xs +ℤ sum_sub f xs

pub sum-ext : (f g : Set → ℤ) (xs : Set) → Each (λ s. f s ≡ g s) xs → sum_sub f xs ≡ sum_sub g xs
sum-ext f g [] h = h
sum-ext f g (x ∷ xs) h =
    let a = sum-ext (λ s. f (x ∷ s)) (λ s. g (x ∷ s)) xs h.0 in
    let b = sum-ext f g xs h.1 in
    λ i. a i +ℤ b i

-- two functions that agree on rising lists within xs have one sum
pub sum_same : (f g : Set → ℤ) (xs : Set) → Rises xs → ((s : Set) → Rises s → Within s xs → f s ≡ g s) → sum_sub f xs ≡ sum_sub g xs
sum_same f g xs r h = sum-ext f g xs (each (λ s. f s ≡ g s) xs r h)

pub swap_middle : (a b c d : ℤ) → ((a +ℤ b) +ℤ (c +ℤ d)) ≡ ((a +ℤ c) +ℤ (b +ℤ d))
swap_middle a b c d = omega (arith, ints)

pub sum-add : (f g : Set → ℤ) (xs : Set) → sum_sub (λ s. f s +ℤ g s) xs ≡ sum_sub f xs +ℤ sum_sub g xs
sum-add f g [] = refl
sum-add f g (x ∷ xs) =
    (λ i. sum-add (λ s. f (x ∷ s)) (λ s. g (x ∷ s)) xs i +ℤ sum-add f g xs i)
    ∙ swap_middle (sum_sub (λ s. f (x ∷ s)) xs) (sum_sub (λ s. g (x ∷ s)) xs) (sum_sub f xs) (sum_sub g xs)

pub neg_sum : (a b : ℤ) → neg_ℤ (a +ℤ b) ≡ neg_ℤ a +ℤ neg_ℤ b
neg_sum a b = omega (arith, ints)

pub sum-neg : (f : Set → ℤ) (xs : Set) → sum_sub (λ s. neg_ℤ (f s)) xs ≡ neg_ℤ (sum_sub f xs)
sum-neg f [] = refl
sum-neg f (x ∷ xs) =
    (λ i. sum-neg (λ s. f (x ∷ s)) xs i +ℤ sum-neg f xs i)
    ∙ sym (neg_sum (sum_sub (λ s. f (x ∷ s)) xs) (sum_sub f xs))

pub sum-zero : (xs : Set) → sum_sub (λ s. pos 0) xs ≡ pos 0
sum-zero [] = refl
sum-zero (x ∷ xs) = (λ i. sum-zero xs i +ℤ sum-zero xs i)

-- two sums may be exchanged
pub sum-swap : (f : Set → Set → ℤ) (xs ys : Set) → sum_sub (λ s. sum_sub (f s) ys) xs ≡ sum_sub (λ t. sum_sub (λ s. f s t) xs) ys
sum-swap f [] ys = refl
sum-swap f (x ∷ xs) ys =
    (λ i. sum-swap (λ s. f (x ∷ s)) xs ys i +ℤ sum-swap f xs ys i)
    ∙ sym (sum-add (λ t. sum_sub (λ s. f (x ∷ s) t) xs) (λ t. sum_sub (λ s. f s t) xs) ys)

-- ---- toggling

-- s without e where it has e, and else with e
abbrev pub toggle : ℕ → Set → Set
toggle e [] = e ∷ []
toggle e (x ∷ s) = cond (x == e) s (cond (nat_lt e x) (e ∷ x ∷ s) (x ∷ toggle e s))

-- a sum vanishes where it changes its sign as one member is toggled
pub sum-toggle : (f : Set → ℤ) (e : ℕ) (xs : Set) → Rises xs → contains xs e ≡ true
    → ((s : Set) → Rises s → Within s xs → f (toggle e s) ≡ neg_ℤ (f s)) → sum_sub f xs ≡ pos 0
sum-toggle f e [] r m h = clash (sym m)
sum-toggle f e (x ∷ xs) r m h = step (x == e) refl (sum-toggle (λ s. f (x ∷ s)) e xs r.1) (sum-toggle f e xs r.1)
  where
    cancel : (a b : ℤ) → a ≡ neg_ℤ b → a +ℤ b ≡ pos 0
    cancel a b e = omega (arith, ints)

    front : (s : Set) → Rises s → Within s xs → x ≡ e → toggle e s ≡ x ∷ s
    front [] rs w g = ap (λ y. y ∷ []) (sym g)
    front (y ∷ s) rs w g =
        let l : x < y = r.0 y (w y (head_in y s)) in
        ap (λ b. cond b s (cond (nat_lt e y) (e ∷ y ∷ s) (y ∷ toggle e s))) (ne_eqb y e (λ z. above x y e l g z))
        ∙ ap (λ b. cond b (e ∷ y ∷ s) (y ∷ toggle e s)) (below x y e l g)
        ∙ ap (λ z. z ∷ y ∷ s) (sym g)
      where
        above : (x y e : ℕ) → x < y → x ≡ e → y ≡ e → ⊥
        above x y e l g z = omega arith

        below : (x y e : ℕ) → x < y → x ≡ e → nat_lt e y ≡ true
        below x y e l g = grind (arith, ltb-false)

    Goal : (Set → ℤ) → Type 0
    Goal k = contains xs e ≡ true → ((s : Set) → Rises s → Within s xs → k (toggle e s) ≡ neg_ℤ (k s)) → sum_sub k xs ≡ pos 0

    step : (b : Bool) → (x == e) ≡ b → Goal (λ s. f (x ∷ s)) → Goal f → sum_sub (λ s. f (x ∷ s)) xs +ℤ sum_sub f xs ≡ pos 0
    step true g one two =
        sym (sum-add (λ s. f (x ∷ s)) f xs)
        ∙ sum_same (λ s. f (x ∷ s) +ℤ f s) (λ s. pos 0) xs r.1 (λ s rs w. cancel (f (x ∷ s)) (f s) (ap f (sym (front s rs w (eqb-true x e g))) ∙ h s rs (within-more x s xs w)))
        ∙ sum-zero xs
    step false g one two =
        let m' : contains xs e ≡ true = sym (ap (λ b. b || contains xs e) g) ∙ m in
        (λ i. one m' (λ s rs w. ap f (sym (inner s m')) ∙ h (x ∷ s) ((λ y k. r.0 y (w y k)), rs) (within-both x s xs w)) i
        +ℤ two m' (λ s rs w. h s rs (within-more x s xs w)) i)
      where
        low : (x e : ℕ) → x < e → nat_lt e x ≡ false
        low x e l = grind (arith, ltb-true)

        inner : (s : Set) → contains xs e ≡ true → toggle e (x ∷ s) ≡ x ∷ toggle e s
        inner s m = ap (λ b. cond b s (cond (nat_lt e x) (e ∷ x ∷ s) (x ∷ toggle e s))) g
            ∙ ap (λ b. cond b (e ∷ x ∷ s) (x ∷ toggle e s)) (low x e (r.0 e m))

-- ---- the list of all sets

-- the sublists of at most k members, by size
abbrev pub sublists_to : Set → ℕ → List Set
sublists_to xs zero = sublists_of_length 0 xs
sublists_to xs (suc k) = sublists_to xs k ++ sublists_of_length (suc k) xs

pub sets-sublists : (n k : ℕ) → sets_of_at_most n k ≡ sublists_to (one_to n) k
sets-sublists n zero = refl
sets-sublists n (suc k) = ap (λ l. l ++ sublists_of_length (suc k) (one_to n)) (sets-sublists n k)

pub sum_over-append : {X : Type 0} (f : X → ℤ) (a b : List X) → sum_over f (a ++ b) ≡ sum_over f a +ℤ sum_over f b
sum_over-append f [] b = zero_left (sum_over f b)
  where
    zero_left : (z : ℤ) → z ≡ pos 0 +ℤ z
    zero_left z = omega (arith, ints)
sum_over-append f (x ∷ a) b = ap (λ z. f x +ℤ z) (sum_over-append f a b) ∙ assoc (f x) (sum_over f a) (sum_over f b)
  where
    assoc : (a b c : ℤ) → a +ℤ (b +ℤ c) ≡ (a +ℤ b) +ℤ c
    assoc a b c = omega (arith, ints)

pub sum_over-map : {X Y : Type 0} (f : Y → ℤ) (g : X → Y) (a : List X) → sum_over f (map g a) ≡ sum_over (λ x. f (g x)) a
sum_over-map f g [] = refl
sum_over-map f g (x ∷ a) = ap (λ z. f (g x) +ℤ z) (sum_over-map f g a)

layer : (Set → ℤ) → ℕ → Set → ℤ
layer f k xs = sum_over f (sublists_of_length k xs)

layer-cons : (f : Set → ℤ) (k x : ℕ) (xs : Set) → sum_over f (sublists_of_length (suc k) (x ∷ xs)) ≡ sum_over (λ s. f (x ∷ s)) (sublists_of_length k xs) +ℤ sum_over f (sublists_of_length (suc k) xs)
layer-cons f k x xs =
    sum_over-append f (map (λ s. x ∷ s) (sublists_of_length k xs)) (sublists_of_length (suc k) xs)
    ∙ ap (λ z. z +ℤ sum_over f (sublists_of_length (suc k) xs)) (sum_over-map f (λ s. x ∷ s) (sublists_of_length k xs))

upto-cons : (f : Set → ℤ) (k x : ℕ) (xs : Set) → sum_over f (sublists_to (x ∷ xs) (suc k)) ≡ sum_over (λ s. f (x ∷ s)) (sublists_to xs k) +ℤ sum_over f (sublists_to xs (suc k))
upto-cons f zero x xs =
    sum_over-append f (sublists_to (x ∷ xs) 0) (sublists_of_length 1 (x ∷ xs))
    ∙ ap (λ z. sum_over f (sublists_of_length 0 xs) +ℤ z) (layer-cons f 0 x xs)
    ∙ turn (sum_over f (sublists_of_length 0 xs)) (sum_over (λ s. f (x ∷ s)) (sublists_of_length 0 xs)) (sum_over f (sublists_of_length 1 xs))
    ∙ ap (λ z. sum_over (λ s. f (x ∷ s)) (sublists_of_length 0 xs) +ℤ z) (sym (sum_over-append f (sublists_to xs 0) (sublists_of_length 1 xs)))
  where
    turn : (a b c : ℤ) → a +ℤ (b +ℤ c) ≡ b +ℤ (a +ℤ c)
    turn a b c = omega (arith, ints)
upto-cons f (suc k) x xs =
    sum_over-append f (sublists_to (x ∷ xs) (suc k)) (sublists_of_length (suc (suc k)) (x ∷ xs))
    ∙ (λ i. upto-cons f k x xs i +ℤ layer-cons f (suc k) x xs i)
    ∙ swap_middle (sum_over (λ s. f (x ∷ s)) (sublists_to xs k)) (sum_over f (sublists_to xs (suc k))) (sum_over (λ s. f (x ∷ s)) (sublists_of_length (suc k) xs)) (sum_over f (sublists_of_length (suc (suc k)) xs))
    ∙ (λ i. sym (sum_over-append (λ s. f (x ∷ s)) (sublists_to xs k) (sublists_of_length (suc k) xs)) i +ℤ sym (sum_over-append f (sublists_to xs (suc k)) (sublists_of_length (suc (suc k)) xs)) i)

-- the sum over the list of all sublists is the sum over sublists
pub sum-sublists : (f : Set → ℤ) (k : ℕ) (xs : Set) → length xs ≤ k → sum_over f (sublists_to xs k) ≡ sum_sub f xs
sum-sublists f zero [] l = zero_right (f [])
  where
    zero_right : (z : ℤ) → z +ℤ pos 0 ≡ z
    zero_right z = omega (arith, ints)
sum-sublists f (suc k) [] l =
    sum_over-append f (sublists_to [] k) [] ∙ zero_right (sum_over f (sublists_to [] k)) ∙ sum-sublists f k [] (omega arith)
  where
    zero_right : (z : ℤ) → z +ℤ pos 0 ≡ z
    zero_right z = omega (arith, ints)
sum-sublists f zero (x ∷ xs) l = absurd (none (length xs) l)
  where
    none : (n : ℕ) → suc n ≤ 0 → ⊥
    none n l = omega arith
sum-sublists f (suc k) (x ∷ xs) l =
    upto-cons f k x xs
    ∙ (λ i. sum-sublists (λ s. f (x ∷ s)) k xs (less (length xs) k l) i +ℤ sum-sublists f (suc k) xs (more (length xs) k l) i)
  where
    less : (n k : ℕ) → suc n ≤ suc k → n ≤ k
    less n k l = omega arith

    more : (n k : ℕ) → suc n ≤ suc k → n ≤ suc k
    more n k l = omega arith
