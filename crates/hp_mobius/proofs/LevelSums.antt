-- Sums over all flats of an affine arrangement and over those of one rank.
use Rattle.std.specs.Prelude.{◌≡◌, ℕ, zero, suc, ◌+◌, ◌<◌, ◌≤◌, ◌==◌, cond, List, [], ◌∷◌, map, flat_map, Contains, ◌⊎◌, ℤ, pos, ◌+ℤ◌}
use Rattle.std.specs.List.{range_with_len}
use Rattle.std.proofs.lemmas.Bool.{cases_lt, ne_eqb, eq-eqb}
use Rattle.std.proofs.lemmas.Int.{ints}
use mathlib.Core.Logic.{inl, inr}
use mathlib.Core.Path.{refl, sym, ap, ◌∙◌}
use native.Mathlib.Omega.{arith}
use Rattle.hp_algebra.specs.Integers.{sum_over}
use Rattle.hp_lists.proofs.Members.{Contains-here, Contains-later}
use Rattle.hp_sets.specs.Sets.{Set}
use Rattle.hp_sets.specs.declared.flat.Flat.{Flat}
use Rattle.hp_arr.specs.Flats.{flats_of_rank, flats}
use Rattle.hp_arr.proofs.ConePoints.{AffineSetting}
use Rattle.hp_arr.proofs.FlatList.{flats_of_rank-complete, flat-rank_dim}
use Rattle.hp_matroid.proofs.Subsets.{sum_over-append, sum_over-map}
use Rattle.hp_mobius.proofs.TripleLaw.{no-members}

pub sum-same : {X : Type 0} (f g : X → ℤ) (xs : List X) → ((x : X) → Contains xs x → f x ≡ g x) → sum_over f xs ≡ sum_over g xs
sum-same f g [] h = refl
sum-same f g (x ∷ xs) h =
    let e = h x (Contains-here x xs) in
    let r = sum-same f g xs (λ y c. h y (Contains-later x xs y c)) in
    λ i. e i +ℤ r i

pub sum-none : {X : Type 0} (xs : List X) → sum_over (λ (x : X). pos 0) xs ≡ pos 0
sum-none [] = refl
sum-none (x ∷ xs) = ap (λ z. pos 0 +ℤ z) (sum-none xs)

module _ {K : Type 0} (S : AffineSetting K) where
  open S use {ring, numbers, arr}

  -- the flats of the ranks from a on
  abbrev from : ℕ → ℕ → List Flat
  from a m = flat_map (λ r. map (λ s. record { rank = r; set = s }) (flats_of_rank S.ring S.numbers S.arr r)) (range_with_len a m)

  module _ (k : ℕ) (h : Set → ℤ) where
    abbrev at : Flat → ℤ
    at f = cond (f.rank == k) (h f.set) (pos 0)

    one_rank : (a m : ℕ) → sum_over at (from a (suc m)) ≡ sum_over (λ s. cond (a == k) (h s) (pos 0)) (flats_of_rank ring numbers arr a) +ℤ sum_over at (from (a + 1) m)
    one_rank a m =
        sum_over-append at (map (λ s. record { rank = a; set = s }) (flats_of_rank ring numbers arr a)) (from (a + 1) m)
        ∙ ap (λ z. z +ℤ sum_over at (from (a + 1) m)) (sum_over-map at (λ s. record { rank = a; set = s }) (flats_of_rank ring numbers arr a))

    nothing : (x : ℤ) → x ≡ pos 0 → pos 0 +ℤ x ≡ pos 0
    nothing x e = omega (arith, ints)

    only : (x y z : ℤ) → x ≡ z → y ≡ pos 0 → x +ℤ y ≡ z
    only x y z e g = omega (arith, ints)

    last : (x y z : ℤ) → x ≡ pos 0 → y ≡ z → x +ℤ y ≡ z
    last x y z e g = omega (arith, ints)

    skipped : (a : ℕ) → (a ≡ k → ⊥) → sum_over (λ s. cond (a == k) (h s) (pos 0)) (flats_of_rank ring numbers arr a) ≡ pos 0
    skipped a n = ap (λ b. sum_over (λ s. cond b (h s) (pos 0)) (flats_of_rank ring numbers arr a)) (ne_eqb a k n) ∙ sum-none (flats_of_rank ring numbers arr a)

    past : (a m : ℕ) → k < a → sum_over at (from a m) ≡ pos 0
    past a zero l = refl
    past a (suc m) l = one_rank a m ∙ last _ _ _ (skipped a (λ e. omega (arith, l, e))) (past (a + 1) m (omega (arith, l)))

    among : (a m : ℕ) → a ≤ k → k < a + m → sum_over at (from a m) ≡ sum_over h (flats_of_rank ring numbers arr k)
    among a zero l u = absurd (omega (arith, l, u))
    among a (suc m) l u = step (cases_lt a k) (λ b. among (a + 1) m (omega (arith, b)) (omega (arith, u)))
      where
        step : (a < k) ⊎ (k ≤ a) → (a < k → sum_over at (from (a + 1) m) ≡ sum_over h (flats_of_rank ring numbers arr k))
            → sum_over at (from a (suc m)) ≡ sum_over h (flats_of_rank ring numbers arr k)
        step (inl b) ih = one_rank a m ∙ last _ _ _ (skipped a (λ e. omega (arith, b, e))) (ih b)
        step (inr b) ih =
            let e : a ≡ k = omega (arith, l, b) in
            one_rank a m ∙ only _ _ _ (ap (λ t. sum_over (λ s. cond t (h s) (pos 0)) (flats_of_rank ring numbers arr a)) (eq-eqb a k e) ∙ ap (λ r. sum_over h (flats_of_rank ring numbers arr r)) e)
            (past (a + 1) m (omega (arith, b)))

    -- the sum over the flats of one rank, taken over all flats
    pub sum-rank : sum_over at (flats ring numbers arr) ≡ sum_over h (flats_of_rank ring numbers arr k)
    unfolding flats
    sum-rank = step (cases_lt arr.dim k)
      where
        none : arr.dim < k → flats_of_rank ring numbers arr k ≡ []
        none l = no-members (flats_of_rank ring numbers arr k) (λ f c.
            let w = (flats_of_rank-complete S k f).0 c in
            let low = flat-rank_dim S f w.0 in
            omega (arith, l, low, w.1))

        high : (a m : ℕ) → a + m ≤ k → sum_over at (from a m) ≡ pos 0
        high a zero l = refl
        high a (suc m) l = one_rank a m ∙ last _ _ _ (skipped a (λ e. omega (arith, l, e))) (high (a + 1) m (omega (arith, l)))

        step : (arr.dim < k) ⊎ (k ≤ arr.dim) → sum_over at (from 0 (arr.dim + 1)) ≡ sum_over h (flats_of_rank ring numbers arr k)
        step (inl l) = high 0 (arr.dim + 1) (omega (arith, l)) ∙ sym (ap (sum_over h) (none l))
        step (inr l) = among 0 (arr.dim + 1) (omega arith) (omega (arith, l))
