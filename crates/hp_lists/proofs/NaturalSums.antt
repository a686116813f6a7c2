-- Sums of numbers over lists and over words, and counts of what passes a test.
use Rattle.std.specs.Prelude.{◌≡◌, ℕ, zero, suc, ◌+◌, ◌*◌, ◌<◌, ◌≤◌, ◌==◌, Bool, true, false, cond, ◌&&◌, List, [], ◌∷◌, map, length, flat_map, Contains, sum_by, count_by}
use Rattle.std.specs.List.{range_with_len}
use Rattle.std.proofs.Common.{inl, inr}
use Rattle.std.proofs.lemmas.Bool.{eq-eqb, ne_eqb, cases_eq}
use Rattle.std.proofs.lemmas.List.Sums.{sum_by-cons, sum_by-append}
use mathlib.Core.Path.{refl, sym, ap, ◌∙◌}
use native.Mathlib.Omega.{arith}
use Rattle.hp_lists.specs.Lists.{words_over, below}
use Rattle.hp_lists.proofs.Members.{Contains-here, Contains-later}

-- 1 where the test holds, and else 0
abbrev pub one_if : Bool → ℕ
one_if b = cond b 1 0

module _ {X : Type 0} where
  pub sum_by-ext : (f g : X → ℕ) (xs : List X) → ((x : X) → Contains xs x → f x ≡ g x) → sum_by f xs ≡ sum_by g xs
  sum_by-ext f g [] h = refl
  sum_by-ext f g (x ∷ xs) h =
      let e = h x (Contains-here x xs) in
      let r = sum_by-ext f g xs (λ y c. h y (Contains-later x xs y c)) in
      sum_by-cons f x xs ∙ (λ i. e i + r i) ∙ sym (sum_by-cons g x xs)

  pub sum_by-add : (f g : X → ℕ) (xs : List X) → sum_by (λ x. f x + g x) xs ≡ sum_by f xs + sum_by g xs
  sum_by-add f g [] = refl
  sum_by-add f g (x ∷ xs) =
      let r = sum_by-add f g xs in
      let a = sum_by-cons (λ x. f x + g x) x xs in
      let b = sum_by-cons f x xs in
      let c = sum_by-cons g x xs in
      omega (arith, r, a, b, c)

  pub sum_by-constant : (c : ℕ) (xs : List X) → sum_by (λ x. c) xs ≡ length xs * c
  sum_by-constant c [] = omega arith
  sum_by-constant c (x ∷ xs) = sum_by-cons (λ x. c) x xs ∙ grow (length xs) (sum_by (λ x. c) xs) (sum_by-constant c xs)
    where
      grow : (n s : ℕ) → s ≡ n * c → c + s ≡ suc n * c
      grow n s e = omega arith

  pub sum_by-zero : (xs : List X) → sum_by (λ x. 0) xs ≡ 0
  sum_by-zero [] = refl
  sum_by-zero (x ∷ xs) = let a = sum_by-cons (λ x. 0) x xs in let r = sum_by-zero xs in omega (arith, a, r)

  -- all members are counted
  pub count_by-all : (xs : List X) → count_by (λ x. true) xs ≡ length xs
  count_by-all xs = let e = sum_by-constant 1 xs in omega (arith, e)

module _ {X Y : Type 0} where
  pub sum_by-map : (f : Y → ℕ) (g : X → Y) (xs : List X) → sum_by f (map g xs) ≡ sum_by (λ x. f (g x)) xs
  sum_by-map f g [] = refl
  sum_by-map f g (x ∷ xs) =
      sum_by-cons f (g x) (map g xs) ∙ ap (λ n. f (g x) + n) (sum_by-map f g xs) ∙ sym (sum_by-cons (λ y. f (g y)) x xs)

  pub sum_by-flat_map : (f : Y → ℕ) (g : X → List Y) (xs : List X)
      → sum_by f (flat_map g xs) ≡ sum_by (λ x. sum_by f (g x)) xs
  sum_by-flat_map f g [] = refl
  sum_by-flat_map f g (x ∷ xs) =
      sum_by-append f (g x) (flat_map g xs) ∙ ap (λ n. sum_by f (g x) + n) (sum_by-flat_map f g xs)
      ∙ sym (sum_by-cons (λ y. sum_by f (g y)) x xs)

  -- a double sum in either order
  pub sum_by-swap : (f : X → Y → ℕ) (xs : List X) (ys : List Y)
      → sum_by (λ x. sum_by (f x) ys) xs ≡ sum_by (λ y. sum_by (λ x. f x y) xs) ys
  sum_by-swap f [] ys = sym (sum_by-zero ys)
  sum_by-swap f (x ∷ xs) ys =
      sum_by-cons (λ z. sum_by (f z) ys) x xs ∙ ap (λ n. sum_by (f x) ys + n) (sum_by-swap f xs ys)
      ∙ sym (sum_by-add (f x) (λ y. sum_by (λ z. f z y) xs) ys)
      ∙ sum_by-ext _ _ ys (λ y c. sym (sum_by-cons (λ z. f z y) x xs))

-- words by their first letter
pub sum_by-words : {X : Type 0} (f : List X → ℕ) (letters : List X) (n : ℕ)
    → sum_by f (words_over letters (suc n)) ≡ sum_by (λ x. sum_by (λ w. f (x ∷ w)) (words_over letters n)) letters
sum_by-words f letters n =
    sum_by-flat_map f (λ x. map (λ w. x ∷ w) (words_over letters n)) letters
    ∙ sum_by-ext _ _ letters (λ x c. sum_by-map f (λ w. x ∷ w) (words_over letters n))

-- ---- ranges

shift : (f : ℕ → ℕ) (a n : ℕ) → sum_by (λ k. f (suc k)) (range_with_len a n) ≡ sum_by f (range_with_len (a + 1) n)
shift f a zero = refl
shift f a (suc n) =
    let next : suc a ≡ a + 1 = omega arith in
    sum_by-cons (λ k. f (suc k)) a (range_with_len (a + 1) n) ∙ (λ i. f (next i) + shift f (a + 1) n i)
    ∙ sym (sum_by-cons f (a + 1) (range_with_len (a + 1 + 1) n))

ends : (f : ℕ → ℕ) (a n : ℕ) → sum_by f (range_with_len a n) + f (a + n) ≡ f a + sum_by f (range_with_len (a + 1) n)
ends f a zero =
    let same : a + 0 ≡ a = omega arith in
    let e = ap f same in
    let none : sum_by f (range_with_len a 0) ≡ 0 = refl in
    omega (arith, e, none)
ends f a (suc n) =
    let r = ends f (a + 1) n in
    let same : a + suc n ≡ (a + 1) + n = omega arith in
    let e = ap f same in
    let b = sum_by-cons f a (range_with_len (a + 1) n) in
    let c = sum_by-cons f (a + 1) (range_with_len (a + 1 + 1) n) in
    omega (arith, r, e, b, c)

-- a sum round a cycle
pub sum_by-cycle : (f : ℕ → ℕ) (n : ℕ) → f n ≡ f 0 → sum_by (λ k. f (suc k)) (below n) ≡ sum_by f (below n)
sum_by-cycle f n e =
    let s = shift f 0 n in
    let t = ends f 0 n in
    let start : 0 + n ≡ n = omega arith in
    let u = ap f start in
    omega (arith, e, s, t, u)

none_of : (m a n : ℕ) → m < a → sum_by (λ k. one_if (m == k)) (range_with_len a n) ≡ 0
none_of m a zero l = refl
none_of m a (suc n) l =
    let e : (m == a) ≡ false = ne_eqb m a (λ e. absurd (omega (arith, l, e))) in
    sum_by-cons (λ k. one_if (m == k)) a (range_with_len (a + 1) n)
    ∙ (λ i. one_if (e i) + none_of m (a + 1) n (omega (arith, l)) i)

-- a number is once among those of a range that holds it
pub once_in : (m a n : ℕ) → a ≤ m → m < a + n → sum_by (λ k. one_if (m == k)) (range_with_len a n) ≡ 1
once_in m a zero h l = absurd (omega (arith, h, l))
once_in m a (suc n) h l =
    let rest = range_with_len (a + 1) n in
    sum_by-cons (λ k. one_if (m == k)) a rest
    ∙ elim (cases_eq m a) [
      | inl here ↦ (λ i. one_if (eq-eqb m a here i) + none_of m (a + 1) n (omega (arith, here)) i)
      | inr later ↦ (λ i. one_if (ne_eqb m a later i) + once_in m (a + 1) n (omega (arith, h, later)) (omega (arith, l)) i)
    ]

-- what passes is counted at the number that it has
pub once_of : (b : Bool) (m n : ℕ) → m < n → sum_by (λ k. one_if (b && (m == k))) (below n) ≡ one_if b
once_of false m n l = sum_by-zero (below n)
once_of true m n l = once_in m 0 n (omega arith) (omega (arith, l))
