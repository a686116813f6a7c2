-- Deletion and restriction: the coefficients of the whole are those of the deletion and of the restriction, one degree lower.
use Rattle.std.specs.Prelude.{[], ◌≡◌, ℕ, ◌<◌, ◌==◌, Bool, true, false, cond, ◌||◌, ◌∷◌, ◌++◌, map, ℤ, pos, ◌+ℤ◌}
use Rattle.std.proofs.lemmas.Bool.{eqb-true, eq-eqb}
use Rattle.std.proofs.lemmas.Int.{ints}
use mathlib.Core.Logic.{inl, inr}
use mathlib.Core.Path.{refl, sym, ap, ◌∙◌, subst}
use native.Mathlib.Omega.{arith}
use Rattle.hp_sets.specs.Sets.{Set, contains}
use Rattle.hp_matroid.specs.Matroids.{Rises, Within}
use Rattle.hp_matroid.proofs.Subsets.{clash, or_right, or_left, or_case, or_both, head_in, within-tail, within-cons, within-both, within-more, Each, sum_sub, sum-ext, sum-add, sum-zero, swap_middle}
use Rattle.hp_matroid.proofs.RisingLists.{other}

-- ---- sums over sublists, and one number taken out

pub each_within : (P : Set → Type 0) (xs : Set) → ((s : Set) → Within s xs → P s) → Each P xs
each_within P [] h = h [] (λ i e. e)
each_within P (x ∷ xs) h = (
  each_within (λ s. P (x ∷ s)) xs (λ s w. h (x ∷ s) (within-both x s xs w)),
  each_within P xs (λ s w. h s (within-more x s xs w)),
)

pub sum_within : (f g : Set → ℤ) (xs : Set) → ((s : Set) → Within s xs → f s ≡ g s) → sum_sub f xs ≡ sum_sub g xs
sum_within f g xs h = sum-ext f g xs (each_within (λ s. f s ≡ g s) xs h)

-- other names for the numbers
pub sum-renamed : (f : Set → ℤ) (name : ℕ → ℕ) (xs : Set) → sum_sub f (map name xs) ≡ sum_sub (λ s. f (map name s)) xs
sum-renamed f name [] = refl
sum-renamed f name (x ∷ xs) = λ i. sum-renamed (λ s. f (name x ∷ s)) name xs i +ℤ sum-renamed f name xs i

-- xs without the number i
abbrev pub remove : ℕ → Set → Set
remove i [] = []
remove i (x ∷ xs) = cond (x == i) xs (x ∷ remove i xs)

pub remove-within : (i : ℕ) (xs : Set) → Within (remove i xs) xs
remove-within i [] j h = h
remove-within i (x ∷ xs) j h = step (x == i) (remove-within i xs) h
  where
    step : (b : Bool) → Within (remove i xs) xs → contains (cond b xs (x ∷ remove i xs)) j ≡ true → contains (x ∷ xs) j ≡ true
    step true ih h = or_right (x == j) (contains xs j) h
    step false ih h = within-both x (remove i xs) xs ih j h

-- what is not i stays
pub remove-keeps : (i : ℕ) (xs : Set) (j : ℕ) → contains xs j ≡ true → (i ≡ j → ⊥) → contains (remove i xs) j ≡ true
remove-keeps i [] j h n = h
remove-keeps i (x ∷ xs) j h n = step (x == i) refl (λ k. remove-keeps i xs j k n)
  where
    step : (b : Bool) → (x == i) ≡ b → (contains xs j ≡ true → contains (remove i xs) j ≡ true) → contains (cond b xs (x ∷ remove i xs)) j ≡ true
    step true e ih = other x xs j h (λ z. n (sym (eqb-true x i e) ∙ z))
    step false e ih = or_both (x == j) (contains xs j) (contains (remove i xs) j) ih h

pub remove-rises : (i : ℕ) (xs : Set) → Rises xs → Rises (remove i xs)
remove-rises i [] r = tt
remove-rises i (x ∷ xs) r = step (x == i) (remove-rises i xs r.1)
  where
    step : (b : Bool) → Rises (remove i xs) → Rises (cond b xs (x ∷ remove i xs))
    step true ih = r.1
    step false ih = ((λ y h. r.0 y (remove-within i xs y h)), ih)

-- in a rising list the number is gone
pub remove-gone : (i : ℕ) (xs : Set) → Rises xs → contains (remove i xs) i ≡ true → ⊥
remove-gone i [] r h = clash (sym h)
remove-gone i (x ∷ xs) r h = step (x == i) refl (remove-gone i xs r.1) h
  where
    irreflexive : (x i : ℕ) → x < i → x ≡ i → ⊥
    irreflexive x i l e = omega arith

    step : (b : Bool) → (x == i) ≡ b → (contains (remove i xs) i ≡ true → ⊥) → contains (cond b xs (x ∷ remove i xs)) i ≡ true → ⊥
    step true e ih h = irreflexive x i (r.0 i h) (eqb-true x i e)
    step false e ih h = ih (sym (ap (λ b. b || contains (remove i xs) i) e) ∙ h)

module _ (ground : Set) where
  -- the order of the list is of no account
  abbrev pub IsSymmetric : (Set → ℤ) → Type 0
  IsSymmetric f = (t u : Set) (x y : ℕ) → Within t ground → Within u ground → contains ground x ≡ true → contains ground y ≡ true → f (t ++ x ∷ y ∷ u) ≡ f (t ++ y ∷ x ∷ u)

  symmetric-cons : (f : Set → ℤ) (x : ℕ) → contains ground x ≡ true → IsSymmetric f → IsSymmetric (λ s. f (x ∷ s))
  symmetric-cons f x g sy t u y z wt wu gy gz = sy (x ∷ t) u y z (within-cons x t ground g wt) wu gy gz

  -- the sum over the sets without i, and that over the sets with i
  pub sum-remove : (f : Set → ℤ) (i : ℕ) (xs : Set) → Within xs ground → contains xs i ≡ true → IsSymmetric f → sum_sub f xs ≡ sum_sub f (remove i xs) +ℤ sum_sub (λ s. f (i ∷ s)) (remove i xs)
  sum-remove f i [] w h sy = clash (sym h)
  sum-remove f i (x ∷ xs) w h sy = step (x == i) refl
      (λ k. sum-remove (λ s. f (x ∷ s)) i xs wx k (symmetric-cons f x gx sy)) (λ k. sum-remove f i xs wx k sy)
    where
      wx : Within xs ground
      wx = within-tail x xs ground w

      gx : contains ground x ≡ true
      gx = w x (head_in x xs)

      turn : (a b : ℤ) → a +ℤ b ≡ b +ℤ a
      turn a b = omega (arith, ints)

      out : Set
      out = remove i xs

      step : (b : Bool) → (x == i) ≡ b
          → (contains xs i ≡ true → sum_sub (λ s. f (x ∷ s)) xs ≡ sum_sub (λ s. f (x ∷ s)) out +ℤ sum_sub (λ s. f (x ∷ i ∷ s)) out)
          → (contains xs i ≡ true → sum_sub f xs ≡ sum_sub f out +ℤ sum_sub (λ s. f (i ∷ s)) out)
          → sum_sub (λ s. f (x ∷ s)) xs +ℤ sum_sub f xs ≡ sum_sub f (cond b xs (x ∷ out)) +ℤ sum_sub (λ s. f (i ∷ s)) (cond b xs (x ∷ out))
      step true e one two = turn (sum_sub (λ s. f (x ∷ s)) xs) (sum_sub f xs) ∙ (λ j. sum_sub f xs +ℤ sum_sub (λ s. f (eqb-true x i e j ∷ s)) xs)
      step false e one two =
          let k : contains xs i ≡ true = sym (ap (λ b. b || contains xs i) e) ∙ h in
          (λ j. one k j +ℤ two k j)
          ∙ swap_middle (sum_sub (λ s. f (x ∷ s)) out) (sum_sub (λ s. f (x ∷ i ∷ s)) out) (sum_sub f out) (sum_sub (λ s. f (i ∷ s)) out)
          ∙ ap (λ z. (sum_sub (λ s. f (x ∷ s)) out +ℤ sum_sub f out) +ℤ (z +ℤ sum_sub (λ s. f (i ∷ s)) out))
          (sum_within (λ s. f (x ∷ i ∷ s)) (λ s. f (i ∷ x ∷ s)) out (λ s ws. sy [] s x i (λ j q. clash (sym q)) (λ j q. wx j (remove-within i xs j (ws j q))) gx (wx i k)))

  -- A number that may be left out: with it, the sets with and without some other number cancel.
  pub sum-drop : (f : Set → ℤ) (i j : ℕ) (xs : Set) → Within xs ground → contains xs i ≡ true → contains (remove i xs) j ≡ true → IsSymmetric f
      → ((s : Set) → Within s ground → f (i ∷ j ∷ s) +ℤ f (i ∷ s) ≡ pos 0) → sum_sub f xs ≡ sum_sub f (remove i xs)
  sum-drop f i j xs w hi hj sy c =
      sum-remove f i xs w hi sy
      ∙ ap (λ z. sum_sub f out +ℤ z) (
      sum-remove (λ s. f (i ∷ s)) j out wo hj (symmetric-cons f i (w i hi) sy)
      ∙ turn (sum_sub (λ s. f (i ∷ s)) (remove j out)) (sum_sub (λ s. f (i ∷ j ∷ s)) (remove j out))
      ∙ sym (sum-add (λ s. f (i ∷ j ∷ s)) (λ s. f (i ∷ s)) (remove j out))
      ∙ sum_within (λ s. f (i ∷ j ∷ s) +ℤ f (i ∷ s)) (λ s. pos 0) (remove j out) (λ s ws. c s (λ k q. wo k (remove-within j out k (ws k q))))
      ∙ sum-zero (remove j out))
      ∙ zero_right (sum_sub f out)
    where
      out : Set
      out = remove i xs

      wo : Within out ground
      wo k q = w k (remove-within i xs k q)

      turn : (a b : ℤ) → a +ℤ b ≡ b +ℤ a
      turn a b = omega (arith, ints)

      zero_right : (a : ℤ) → a +ℤ pos 0 ≡ a
      zero_right a = omega (arith, ints)

  -- the numbers of zs taken out one by one
  abbrev pub remove_all : Set → Set → Set
  remove_all [] xs = xs
  remove_all (z ∷ zs) xs = remove_all zs (remove z xs)

  -- i may be left out beside j
  abbrev pub IsRepeat : (Set → ℤ) → ℕ → ℕ → Type 0
  IsRepeat f i j = (s : Set) → Within s ground → f (i ∷ j ∷ s) +ℤ f (i ∷ s) ≡ pos 0

  pub sum-drop_all : (f : Set → ℤ) (zs xs : Set) → Rises zs → Within zs xs → Within xs ground → IsSymmetric f
      → ((i : ℕ) → contains zs i ≡ true → (j : ℕ) × (contains xs j ≡ true) × (contains zs j ≡ false) × IsRepeat f i j) → sum_sub f xs ≡ sum_sub f (remove_all zs xs)
  sum-drop_all f [] xs r w wg sy h = refl
  sum-drop_all f (z ∷ zs) xs r w wg sy h =
      let p = h z (head_in z zs) in
      sum-drop f z p.0 xs wg (w z (head_in z zs)) (remove-keeps z xs p.0 p.1 (λ e. differ z p.0 p.2 e)) sy p.3
      ∙ sum-drop_all f zs (remove z xs) r.1 (λ i k. remove-keeps z xs i (w i (or_right (z == i) (contains zs i) k)) (λ e. irreflexive z i (r.0 i k) e))
      (λ i k. wg i (remove-within z xs i k)) sy
      (λ i k. let q = h i (or_right (z == i) (contains zs i) k) in (q.0, remove-keeps z xs q.0 q.1 (λ e. differ z q.0 q.2 e), second (z == q.0) (contains zs q.0) q.2, q.3))
    where
      irreflexive : (x i : ℕ) → x < i → x ≡ i → ⊥
      irreflexive x i l e = omega arith

      differ : (z j : ℕ) → ((z == j) || contains zs j) ≡ false → z ≡ j → ⊥
      differ z j k e = clash (sym (or_left (z == j) (contains zs j) (eq-eqb z j e)) ∙ k)

      second : (a b : Bool) → (a || b) ≡ false → b ≡ false
      second true b k = clash k
      second false b k = k

-- ---- what is left

pub remove_all-within : (ground zs xs : Set) → Within (remove_all ground zs xs) xs
remove_all-within ground [] xs i h = h
remove_all-within ground (z ∷ zs) xs i h = remove-within z xs i (remove_all-within ground zs (remove z xs) i h)

pub remove_all-rises : (ground zs xs : Set) → Rises xs → Rises (remove_all ground zs xs)
remove_all-rises ground [] xs r = r
remove_all-rises ground (z ∷ zs) xs r = remove_all-rises ground zs (remove z xs) (remove-rises z xs r)

pub remove_all-keeps : (ground zs xs : Set) (i : ℕ) → contains xs i ≡ true → contains zs i ≡ false → contains (remove_all ground zs xs) i ≡ true
remove_all-keeps ground [] xs i h n = h
remove_all-keeps ground (z ∷ zs) xs i h n = remove_all-keeps ground zs (remove z xs) i (remove-keeps z xs i h (λ e. clash (sym (or_left (z == i) (contains zs i) (eq-eqb z i e)) ∙ n))) (second (z == i) (contains zs i) n)
  where
    second : (a b : Bool) → (a || b) ≡ false → b ≡ false
    second true b k = clash k
    second false b k = k

pub remove_all-gone : (ground zs xs : Set) (i : ℕ) → Rises xs → contains zs i ≡ true → contains (remove_all ground zs xs) i ≡ true → ⊥
remove_all-gone ground [] xs i r h k = clash (sym h)
remove_all-gone ground (z ∷ zs) xs i r h k = elim (or_case (z == i) (contains zs i) h) as (λ _. ⊥) [
  | inl e ↦ remove-gone z xs r (subst (λ j. contains (remove z xs) j ≡ true) (sym (eqb-true z i e)) (remove_all-within ground zs (remove z xs) i k))
  | inr e ↦ remove_all-gone ground zs (remove z xs) i (remove-rises z xs r) e k
]
