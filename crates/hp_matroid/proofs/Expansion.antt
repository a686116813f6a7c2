-- The Möbius function of the flats is the alternating sum over the sets with a given closure.
use Rattle.std.specs.Prelude.{[], nat_lt, ◌≡◌, ℕ, zero, suc, ◌<◌, ◌==◌, Bool, true, false, cond, not, ◌&&◌, List, ◌∷◌, length, filter, ◌⊎◌, ℤ, pos, ◌+ℤ◌, neg_ℤ}
use Rattle.std.specs.Cmp.{both_ways}
use Rattle.std.proofs.lemmas.Bool.{eqb-true}
use Rattle.std.proofs.lemmas.Int.{ints}
use mathlib.Core.Logic.{inl, inr}
use mathlib.Core.Path.{refl, sym, ap, ◌∙◌, subst}
use native.Mathlib.Omega.{arith}
use Rattle.hp_algebra.specs.Integers.{sum_over, sign}
use Rattle.hp_lists.specs.Lists.{one_to}
use Rattle.hp_lists.proofs.Members.{first_true, second_true}
use Rattle.hp_sets.specs.Sets.{Set, contains, is_within, is_properly_within, sets_within}
use Rattle.hp_matroid.specs.Matroids.{same_set, Rises, Within, IsMobius, is_flat, Matroid}
use Rattle.hp_matroid.proofs.Subsets.{clash, not_true, decide, apart_true, head_in, within-both, within-more, sum_sub, sum_same, sum-add, sum-zero, sum-swap, toggle, sum-toggle}
use Rattle.hp_matroid.proofs.RisingLists.{none_within, split, rises-same, smaller, is_within-from, is_within-to, same_set-from, same_set-to}
use Rattle.hp_matroid.proofs.Listing.{ground-rises, sum-sets_within}

-- ---- sums with one term, and sums over those that pass a test

lone : (x : ℕ) (xs s t : Set) → Rises (x ∷ xs) → Within t xs → t ≡ x ∷ s → ⊥
lone x xs s t r w e = irreflexive x (r.0 x (w x (subst (λ z. contains z x ≡ true) (sym e) (head_in x s))))
  where
    irreflexive : (x : ℕ) → x < x → ⊥
    irreflexive x l = omega arith

-- where all terms but that of z vanish, the sum is that term
pub sum-single : (f : Set → ℤ) (z xs : Set) → Rises xs → Rises z → Within z xs
    → ((s : Set) → Rises s → Within s xs → (s ≡ z) ⊎ (f s ≡ pos 0)) → sum_sub f xs ≡ f z
sum-single f z [] r q w h = ap f (sym (none_within z w))
sum-single f z (x ∷ xs) r q w h = step (split x xs z r q w) (λ z' rz wz k. sum-single (λ s. f (x ∷ s)) z' xs r.1 rz wz k) (λ wz k. sum-single f z xs r.1 q wz k)
  where
    left : (a b c : ℤ) → a ≡ c → b ≡ pos 0 → a +ℤ b ≡ c
    left a b c e g = omega (arith, ints)

    right : (a b c : ℤ) → a ≡ pos 0 → b ≡ c → a +ℤ b ≡ c
    right a b c e g = omega (arith, ints)

    put : (s : Set) → Rises s → Within s xs → Rises (x ∷ s)
    put s rs ws = ((λ y k. r.0 y (ws y k)), rs)

    same_tail : (s t : Set) → x ∷ s ≡ x ∷ t → s ≡ t
    same_tail s t e = cc

    step : ((z' : Set) × (z ≡ x ∷ z') × Rises z' × Within z' xs) ⊎ Within z xs
        → ((z' : Set) → Rises z' → Within z' xs → ((s : Set) → Rises s → Within s xs → (s ≡ z') ⊎ (f (x ∷ s) ≡ pos 0)) → sum_sub (λ s. f (x ∷ s)) xs ≡ f (x ∷ z'))
        → (Within z xs → ((s : Set) → Rises s → Within s xs → (s ≡ z) ⊎ (f s ≡ pos 0)) → sum_sub f xs ≡ f z)
        → sum_sub (λ s. f (x ∷ s)) xs +ℤ sum_sub f xs ≡ f z
    step (inl p) one two = left (sum_sub (λ s. f (x ∷ s)) xs) (sum_sub f xs) (f z)
        (one p.0 p.2 p.3 (λ s rs ws. elim (h (x ∷ s) (put s rs ws) (within-both x s xs ws)) as (λ _. (s ≡ p.0) ⊎ (f (x ∷ s) ≡ pos 0)) [
          | inl e ↦ inl (same_tail s p.0 (e ∙ p.1))
          | inr e ↦ inr e
        ]) ∙ ap f (sym p.1))
        (sum_same f (λ s. pos 0) xs r.1 (λ s rs ws. elim (h s rs (within-more x s xs ws)) as (λ _. f s ≡ pos 0) [
          | inl e ↦ absurd (lone x xs p.0 s r ws (e ∙ p.1))
          | inr e ↦ e
        ]) ∙ sum-zero xs)
    step (inr v) one two = right (sum_sub (λ s. f (x ∷ s)) xs) (sum_sub f xs) (f z)
        (sum_same (λ s. f (x ∷ s)) (λ s. pos 0) xs r.1 (λ s rs ws. elim (h (x ∷ s) (put s rs ws) (within-both x s xs ws)) as (λ _. f (x ∷ s) ≡ pos 0) [
          | inl e ↦ absurd (lone x xs s z r v (sym e))
          | inr e ↦ e
        ]) ∙ sum-zero xs)
        (two v (λ s rs ws. h s rs (within-more x s xs ws)))

pub sum-cond : (b : Bool) (f : Set → ℤ) (xs : Set) → sum_sub (λ s. cond b (f s) (pos 0)) xs ≡ cond b (sum_sub f xs) (pos 0)
sum-cond true f xs = refl
sum-cond false f xs = sum-zero xs

pub sum_over-filter : (f : Set → ℤ) (test : Set → Bool) (a : List Set) → sum_over f (filter test a) ≡ sum_over (λ s. cond (test s) (f s) (pos 0)) a
sum_over-filter f test [] = refl
sum_over-filter f test (x ∷ a) = step (test x) (sum_over-filter f test a)
  where
    zero_left : (z : ℤ) → z ≡ pos 0 +ℤ z
    zero_left z = omega (arith, ints)

    step : (b : Bool) → sum_over f (filter test a) ≡ sum_over (λ s. cond (test s) (f s) (pos 0)) a
        → sum_over f (cond b (x ∷ filter test a) (filter test a)) ≡ cond b (f x) (pos 0) +ℤ sum_over (λ s. cond (test s) (f s) (pos 0)) a
    step true e = ap (λ z. f x +ℤ z) e
    step false e = e ∙ zero_left (sum_over (λ s. cond (test s) (f s) (pos 0)) a)

pub cond-pair : (a b : Bool) (x : ℤ) → cond a (cond b x (pos 0)) (pos 0) ≡ cond (a && b) x (pos 0)
cond-pair true b x = refl
cond-pair false b x = refl

-- ---- signs under toggling

pub neg_neg : (a : ℤ) → a ≡ neg_ℤ (neg_ℤ a)
neg_neg a = omega (arith, ints)

pub sign-toggle : (e : ℕ) (s : Set) → sign (length (toggle e s)) ≡ neg_ℤ (sign (length s))
sign-toggle e [] = refl
sign-toggle e (x ∷ s) = step (x == e) (nat_lt e x) (sign-toggle e s)
  where
    step : (a b : Bool) → sign (length (toggle e s)) ≡ neg_ℤ (sign (length s))
        → sign (length (cond a s (cond b (e ∷ x ∷ s) (x ∷ toggle e s)))) ≡ neg_ℤ (neg_ℤ (sign (length s)))
    step true b h = neg_neg (sign (length s))
    step false true h = refl
    step false false h = ap neg_ℤ h

within-toggle : (e : ℕ) (s f : Set) → contains f e ≡ true → is_within (toggle e s) f ≡ is_within s f
within-toggle e [] f m = ap (λ b. b && true) m
within-toggle e (x ∷ s) f m = step (x == e) refl (nat_lt e x) (within-toggle e s f m)
  where
    step : (a : Bool) → (x == e) ≡ a → (b : Bool) → is_within (toggle e s) f ≡ is_within s f
        → is_within (cond a s (cond b (e ∷ x ∷ s) (x ∷ toggle e s))) f ≡ (contains f x && is_within s f)
    step true g b h = ap (λ c. c && is_within s f) (sym (ap (contains f) (eqb-true x e g) ∙ m))
    step false g true h = ap (λ c. c && (contains f x && is_within s f)) m
    step false g false h = ap (λ c. contains f x && c) h

-- the alternating sum over the sets within f is 1 where f is empty, and else 0
abbrev pub is_empty : Set → Bool
is_empty [] = true
is_empty (x ∷ s) = false

sum-none : (xs : Set) → sum_sub (λ s. cond (is_within s []) (sign (length s)) (pos 0)) xs ≡ pos 1
sum-none [] = refl
sum-none (x ∷ xs) = (λ i. sum-zero xs i +ℤ sum-none xs i)

pub sum-within : (f xs : Set) → Rises xs → Within f xs
    → sum_sub (λ s. cond (is_within s f) (sign (length s)) (pos 0)) xs ≡ cond (is_empty f) (pos 1) (pos 0)
sum-within [] xs r w = sum-none xs
sum-within (e ∷ f) xs r w = sum-toggle (λ s. cond (is_within s (e ∷ f)) (sign (length s)) (pos 0)) e xs r (w e (head_in e f))
    (λ s rs ws. (λ i. cond (within-toggle e s (e ∷ f) (head_in e f) i) (sign-toggle e s i) (pos 0)) ∙ turn (is_within s (e ∷ f)) (sign (length s)))
  where
    turn : (b : Bool) (a : ℤ) → cond b (neg_ℤ a) (pos 0) ≡ neg_ℤ (cond b a (pos 0))
    turn true a = refl
    turn false a = refl

-- ---- closures

module _ (M : Matroid) where
  open M use {closure, rank, laws}

  abbrev ground : Set
  ground = one_to M.size

  abbrev sets : List Set
  sets = sets_within M.size

  -- a set within the closure of another has its closure there
  pub least : (s t : Set) → Within s (closure t) → Within (closure s) (closure t)
  least s t w i h = laws.idempotent t i (laws.monotone s (closure t) w i h)

  pub closure-same : (s t : Set) → Within s (closure t) → Within t (closure s) → closure s ≡ closure t
  closure-same s t w v = rises-same (closure s) (closure t) (laws.closure_rises s) (laws.closure_rises t) (least s t w) (least t s v)

  pub closure_closure : (s : Set) → closure (closure s) ≡ closure s
  closure_closure s = rises-same (closure (closure s)) (closure s) (laws.closure_rises (closure s)) (laws.closure_rises s) (laws.idempotent s) (laws.extensive (closure s) (laws.closure_within s))

  -- a sum over the flats that pass a test, of sums over the sets with that closure, is the sum over the sets whose closure passes
  pub sum-closures : (test : Set → Bool) (weight : Set → ℤ)
      → sum_sub (λ y. cond (same_set (closure y) y && test y) (sum_sub (λ s. cond (same_set (closure s) y) (weight s) (pos 0)) ground) (pos 0)) ground
      ≡ sum_sub (λ s. cond (test (closure s)) (weight s) (pos 0)) ground
  sum-closures test weight =
      sum_same (λ y. cond (passes y) (sum_sub (inner y) ground) (pos 0)) (λ y. sum_sub (λ s. cond (passes y) (inner y s) (pos 0)) ground) ground (ground-rises M)
      (λ y ry wy. sym (sum-cond (passes y) (inner y) ground))
      ∙ sum-swap (λ y s. cond (passes y) (inner y s) (pos 0)) ground ground
      ∙ sum_same (λ s. sum_sub (λ y. cond (passes y) (inner y s) (pos 0)) ground) (λ s. cond (test (closure s)) (weight s) (pos 0)) ground (ground-rises M)
      (λ s rs ws. sum-single (λ y. cond (passes y) (inner y s) (pos 0)) (closure s) ground (ground-rises M) (laws.closure_rises s) (laws.closure_within s) (only s) ∙ at_closure s)
    where
      passes : Set → Bool
      passes y = same_set (closure y) y && test y

      inner : Set → Set → ℤ
      inner y s = cond (same_set (closure s) y) (weight s) (pos 0)

      drop_in : (a b : Bool) (x : ℤ) → b ≡ false → cond a (cond b x (pos 0)) (pos 0) ≡ pos 0
      drop_in true b x h = ap (λ c. cond c x (pos 0)) h
      drop_in false b x h = refl

      only : (s y : Set) → Rises y → Within y ground → (y ≡ closure s) ⊎ (cond (passes y) (inner y s) (pos 0) ≡ pos 0)
      only s y ry wy = elim (decide (same_set (closure s) y)) as (λ _. (y ≡ closure s) ⊎ (cond (passes y) (inner y s) (pos 0) ≡ pos 0)) [
        | inl h ↦ inl (sym (same_set-to (closure s) y (laws.closure_rises s) ry h))
        | inr h ↦ inr (drop_in (passes y) (same_set (closure s) y) (weight s) h)
      ]

      at_closure : (s : Set) → cond (passes (closure s)) (inner (closure s) s) (pos 0) ≡ cond (test (closure s)) (weight s) (pos 0)
      at_closure s =
          let a : same_set (closure (closure s)) (closure s) ≡ true = same_set-from (closure (closure s)) (closure s) (closure_closure s) in
          let b : same_set (closure s) (closure s) ≡ true = same_set-from (closure s) (closure s) refl in
          λ i. cond (a i && test (closure s)) (cond (b i) (weight s) (pos 0)) (pos 0)

  -- the term of s in the sum for f
  abbrev pub term : Set → Set → ℤ
  term f s = cond (same_set (closure s) f) (sign (length s)) (pos 0)

  -- the alternating sum over the sets with closure f
  abbrev pub expansion : Set → ℤ
  expansion f = sum_sub (term f) ground

  abbrev pub flat_within : Set → Set → Bool
  flat_within f y = same_set (closure y) y && is_within y f

  -- for a flat f: the closure of s is within f where s is
  closure-within : (f s : Set) → closure f ≡ f → Within s ground → is_within (closure s) f ≡ is_within s f
  closure-within f s e ws = both_ways (is_within (closure s) f) (is_within s f)
      (λ h. is_within-from s f (λ i k. is_within-to (closure s) f h i (laws.extensive s ws i k)))
      (λ h. is_within-from (closure s) f (λ i k. subst (λ z. contains z i ≡ true) e (laws.monotone s f (is_within-to s f h) i k)))

  -- the expansions over the flats within a flat have the sum 1 or 0
  pub expansion-total : (f : Set) → Within f ground → closure f ≡ f
      → sum_sub (λ y. cond (flat_within f y) (expansion y) (pos 0)) ground ≡ cond (is_empty f) (pos 1) (pos 0)
  expansion-total f wf e =
      sum-closures (λ y. is_within y f) (λ s. sign (length s))
      ∙ sum_same (λ s. cond (is_within (closure s) f) (sign (length s)) (pos 0)) (λ s. cond (is_within s f) (sign (length s)) (pos 0)) ground (ground-rises M)
      (λ s rs ws. ap (λ b. cond b (sign (length s)) (pos 0)) (closure-within f s e ws))
      ∙ sum-within f ground (ground-rises M) wf

  -- the expansion at a flat is 1 or 0, less the sum over the flats properly within
  pub expansion-step : (f : Set) → Rises f → Within f ground → closure f ≡ f
      → sum_sub (λ y. cond (same_set (closure y) y && is_properly_within y f) (expansion y) (pos 0)) ground +ℤ expansion f ≡ cond (is_empty f) (pos 1) (pos 0)
  expansion-step f rf wf e =
      ap (λ z. sum_sub proper ground +ℤ z) (sym (sum-single at f ground (ground-rises M) rf wf only ∙ at_f))
      ∙ sym (sum-add proper at ground)
      ∙ sum_same (λ y. proper y +ℤ at y) (λ y. cond (flat_within f y) (expansion y) (pos 0)) ground (ground-rises M) parts
      ∙ expansion-total f wf e
    where
      proper : Set → ℤ
      proper y = cond (same_set (closure y) y && is_properly_within y f) (expansion y) (pos 0)

      at : Set → ℤ
      at y = cond (is_within y f && is_within f y) (expansion y) (pos 0)

      at_f : at f ≡ expansion f
      at_f = ap (λ b. cond b (expansion f) (pos 0)) (same_set-from f f refl)

      only : (y : Set) → Rises y → Within y ground → (y ≡ f) ⊎ (at y ≡ pos 0)
      only y ry wy = elim (decide (is_within y f && is_within f y)) as (λ _. (y ≡ f) ⊎ (at y ≡ pos 0)) [
        | inl h ↦ inl (same_set-to y f ry rf h)
        | inr h ↦ inr (ap (λ b. cond b (expansion y) (pos 0)) h)
      ]

      join : (a b c : Bool) (x : ℤ) → (b ≡ true → c ≡ true → a ≡ true) → cond (a && (b && not c)) x (pos 0) +ℤ cond (b && c) x (pos 0) ≡ cond (a && b) x (pos 0)
      join true true true x h = zero_left x
        where
          zero_left : (z : ℤ) → pos 0 +ℤ z ≡ z
          zero_left z = omega (arith, ints)
      join true true false x h = zero_right x
        where
          zero_right : (z : ℤ) → z +ℤ pos 0 ≡ z
          zero_right z = omega (arith, ints)
      join true false c x h = refl
      join false true true x h = clash (sym (h refl refl))
      join false true false x h = refl
      join false false c x h = refl

      parts : (y : Set) → Rises y → Within y ground → proper y +ℤ at y ≡ cond (flat_within f y) (expansion y) (pos 0)
      parts y ry wy = join (same_set (closure y) y) (is_within y f) (is_within f y) (expansion y)
          (λ a b. let g : y ≡ f = rises-same y f ry rf (is_within-to y f a) (is_within-to f y b) in
          same_set-from (closure y) y (ap closure g ∙ e ∙ sym g))

  -- ---- the Möbius function

  module _ (mu : Set → ℤ) (mobius : IsMobius M mu) where
    bounded : (b : ℕ) (f : Set) → length f < b → Rises f → Within f ground → closure f ≡ f → mu f ≡ expansion f
    bounded zero f l rf wf e = absurd (none (length f) l)
      where
        none : (n : ℕ) → n < 0 → ⊥
        none n l = omega arith
    bounded (suc b) [] l rf wf e =
        mobius.at_empty
        ∙ shift (sum_sub (λ y. cond (same_set (closure y) y && is_properly_within y []) (expansion y) (pos 0)) ground) (expansion []) (pos 1)
        (sum_same (λ y. cond (same_set (closure y) y && is_properly_within y []) (expansion y) (pos 0)) (λ y. pos 0) ground (ground-rises M)
        (λ y ry wy. nothing (same_set (closure y) y) (is_within y []) (expansion y)) ∙ sum-zero ground)
        (expansion-step [] rf wf e)
      where
        shift : (s x c : ℤ) → s ≡ pos 0 → s +ℤ x ≡ c → c ≡ x
        shift s x c z h = omega (arith, ints)

        nothing : (a b : Bool) (x : ℤ) → cond (a && (b && false)) x (pos 0) ≡ pos 0
        nothing true true x = refl
        nothing true false x = refl
        nothing false b x = refl
    bounded (suc b) (i ∷ f) l rf wf e =
        mobius.elsewhere (i ∷ f) rf e (λ z. apart z)
        ∙ ap neg_ℤ (sum_over-filter mu test sets ∙ sum-sets_within M.size (λ s. cond (test s) (mu s) (pos 0))
        ∙ sum_same (λ s. cond (test s) (mu s) (pos 0)) (λ s. cond (test s) (expansion s) (pos 0)) ground (ground-rises M)
        (λ y ry wy. under (test y) (mu y) (expansion y) (λ h.
        let p : is_properly_within y (i ∷ f) ≡ true = second_true (is_flat M y) (is_properly_within y (i ∷ f)) h in
        bounded b y (below y ry p) ry wy (same_set-to (closure y) y (laws.closure_rises y) ry (first_true (is_flat M y) (is_properly_within y (i ∷ f)) h)))))
        ∙ shift (sum_sub (λ s. cond (test s) (expansion s) (pos 0)) ground) (expansion (i ∷ f)) (expansion-step (i ∷ f) rf wf e)
      where
        apart : (i ∷ f) ≡ [] → ⊥
        apart z = cc

        test : Set → Bool
        test g = is_flat M g && is_properly_within g (i ∷ f)

        under : (c : Bool) (x y : ℤ) → (c ≡ true → x ≡ y) → cond c x (pos 0) ≡ cond c y (pos 0)
        under true x y h = h refl
        under false x y h = refl

        shift : (s x : ℤ) → s +ℤ x ≡ pos 0 → neg_ℤ s ≡ x
        shift s x h = omega (arith, ints)

        below : (y : Set) → Rises y → is_properly_within y (i ∷ f) ≡ true → length y < b
        below y ry p = elim (smaller y (i ∷ f) ry rf (is_within-to y (i ∷ f) (first_true (is_within y (i ∷ f)) (not (is_within (i ∷ f) y)) p))) as (λ _. length y < b) [
          | inl h ↦ less (length y) (length (i ∷ f)) b h l
          | inr h ↦ apart_true (is_within (i ∷ f) y) (is_within-from (i ∷ f) y h) (not_true (is_within (i ∷ f) y) (second_true (is_within y (i ∷ f)) (not (is_within (i ∷ f) y)) p))
        ]
          where
            less : (a c b : ℕ) → a < c → c < suc b → a < b
            less a c b h l = omega arith

    -- Boolean expansion: at a flat f the Möbius function is the sum of (-1)^|s| over the sets s with closure f
    pub mobius-expansion : (f : Set) → Rises f → Within f ground → closure f ≡ f → mu f ≡ expansion f
    mobius-expansion f rf wf e = bounded (suc (length f)) f (above (length f)) rf wf e
      where
        above : (n : ℕ) → n < suc n
        above n = omega arith
