-- How large Möbius values and their sums can be.
use Rattle.std.specs.Prelude.{[], ◌≡◌, ℕ, suc, ◌+◌, ◌*◌, ◌^◌, ◌≤◌, Bool, true, false, cond, ◌&&◌, List, ◌∷◌, length, filter, ℤ, pos, ◌+ℤ◌, ◌*ℤ◌}
use Rattle.std.proofs.lemmas.Int.{ints}
use native.Mathlib.Nat.{pow-zero, pow-suc}
use mathlib.Core.Path.{refl, sym, ap, ◌∙◌}
use native.Mathlib.Omega.{arith}
use Rattle.hp_lists.specs.Lists.{one_to}
use Rattle.hp_algebra.specs.Integers.{sum_over, sign}
use Rattle.hp_lists.proofs.Members.{first_true}
use Rattle.hp_sets.specs.Sets.{Set, sets_within}
use Rattle.hp_matroid.specs.Matroids.{same_set, Rises, Within, is_nbc, is_flat, Matroid, mobius}
use Rattle.hp_matroid.proofs.Subsets.{sum_sub, sum_same}
use Rattle.hp_matroid.proofs.RisingLists.{same_set-to}
use Rattle.hp_matroid.proofs.Expansion.{sum_over-filter, sum-closures}
use Rattle.hp_matroid.proofs.Whitney.{whitney, sign-count}
use Rattle.std.proofs.lemmas.List.FromFn.{length-range_with_len}
use Rattle.hp_matroid.proofs.Listing.{sum-sets_within, ground-rises}
use Rattle.hp_matroid.proofs.Signs.{sign_sign}

-- ---- the number of sets

length-sum : {X : Type 0} (a : List X) → sum_over (λ s. pos 1) a ≡ pos (length a)
length-sum [] = refl
length-sum (x ∷ a) = ap (λ z. pos 1 +ℤ z) (length-sum a) ∙ more (length a)
  where
    more : (n : ℕ) → pos 1 +ℤ pos n ≡ pos (suc n)
    more n = omega (arith, ints)

sum-ones : (xs : Set) → sum_sub (λ s. pos 1) xs ≡ pos (2 ^ length xs)
sum-ones [] = ap pos (sym (pow-zero 2))
sum-ones (x ∷ xs) = (λ i. sum-ones xs i +ℤ sum-ones xs i) ∙ ap pos (twice (2 ^ length xs) ∙ sym (pow-suc 2 (length xs)))
  where
    twice : (n : ℕ) → n + n ≡ n * 2
    twice n = omega arith

pos-same : (a b : ℕ) → pos a ≡ pos b → a ≡ b
pos-same a b e = cc

-- there are 2^n sets within 1 to n
pub length-sets_within : (n : ℕ) → length (sets_within n) ≡ 2 ^ n
length-sets_within n = pos-same (length (sets_within n)) (2 ^ n)
    (sym (length-sum (sets_within n)) ∙ sum-sets_within n (λ s. pos 1) ∙ sum-ones (one_to n) ∙ ap (λ k. pos (2 ^ k)) (length-range_with_len 1 n))

pub length-filter_low : {X : Type 0} (test : X → Bool) (a : List X) → length (filter test a) ≤ length a
length-filter_low test [] = omega arith
length-filter_low {X} test (x ∷ a) = step (test x) (length (filter test a)) (length a) (filter test a) refl (length-filter_low test a)
  where
    step : (b : Bool) (n k : ℕ) (t : List X) → length t ≡ n → n ≤ k → length (cond b (x ∷ t) t) ≤ suc k
    step true n k t e l = omega arith
    step false n k t e l = omega arith

module _ (M : Matroid) where
  open M use {closure, rank, laws}

  abbrev ground : Set
  ground = one_to M.size

  abbrev sets : List Set
  sets = sets_within M.size

  abbrev Nbc : Set → Bool
  Nbc s = is_nbc M s

  -- the absolute values at the flats that pass a test have as their sum the number of sets without broken circuit whose closure passes
  pub absolute-sum : (test : Set → Bool) → sum_over (λ f. mobius M f *ℤ sign (rank f)) (filter (λ f. is_flat M f && test f) sets) ≡ pos (length (filter (λ s. test (closure s) && Nbc s) sets))
  absolute-sum test =
      sum_over-filter (λ f. mobius M f *ℤ sign (rank f)) passes sets
      ∙ sum-sets_within M.size (λ f. cond (passes f) (mobius M f *ℤ sign (rank f)) (pos 0))
      ∙ sum_same (λ f. cond (passes f) (mobius M f *ℤ sign (rank f)) (pos 0)) (λ f. cond (passes f) (sum_sub (λ s. cond (same_set (closure s) f) (cond (Nbc s) (pos 1) (pos 0)) (pos 0)) ground) (pos 0)) ground (ground-rises M)
      (λ f rf wf. under (passes f) (mobius M f *ℤ sign (rank f)) (sum_sub (λ s. cond (same_set (closure s) f) (cond (Nbc s) (pos 1) (pos 0)) (pos 0)) ground) (λ h. at f rf wf (same_set-to (closure f) f (laws.closure_rises f) rf (first_true (is_flat M f) (test f) h))))
      ∙ sum-closures M test (λ s. cond (Nbc s) (pos 1) (pos 0))
      ∙ sum_same (λ s. cond (test (closure s)) (cond (Nbc s) (pos 1) (pos 0)) (pos 0)) (λ s. cond (test (closure s) && Nbc s) (pos 1) (pos 0)) ground (ground-rises M) (λ s rs ws. pair (test (closure s)) (Nbc s))
      ∙ sym (sum-sets_within M.size (λ s. cond (test (closure s) && Nbc s) (pos 1) (pos 0)))
      ∙ count (λ s. test (closure s) && Nbc s)
    where
      passes : Set → Bool
      passes f = is_flat M f && test f

      under : (b : Bool) (x y : ℤ) → (b ≡ true → x ≡ y) → cond b x (pos 0) ≡ cond b y (pos 0)
      under true x y h = h refl
      under false x y h = refl

      pair : (a b : Bool) → cond a (cond b (pos 1) (pos 0)) (pos 0) ≡ cond (a && b) (pos 1) (pos 0)
      pair true b = refl
      pair false b = refl

      swap : (a b : Bool) → cond (a && b) (pos 1) (pos 0) ≡ cond b (cond a (pos 1) (pos 0)) (pos 0)
      swap true true = refl
      swap true false = refl
      swap false true = refl
      swap false false = refl

      one_times : (n : ℕ) → pos 1 *ℤ pos n ≡ pos n
      one_times n = omega (arith, ints)

      count : (p : Set → Bool) → sum_over (λ s. cond (p s) (pos 1) (pos 0)) sets ≡ pos (length (filter p sets))
      count p = sign-count 0 p sets ∙ one_times (length (filter p sets))

      at : (f : Set) → Rises f → Within f ground → closure f ≡ f → mobius M f *ℤ sign (rank f) ≡ sum_sub (λ s. cond (same_set (closure s) f) (cond (Nbc s) (pos 1) (pos 0)) (pos 0)) ground
      at f rf wf e =
          ap (λ z. z *ℤ sign (rank f)) (whitney M f rf wf e)
          ∙ sign_sign (rank f) (length (filter (λ s. Nbc s && same_set (closure s) f) sets))
          ∙ sym (count (λ s. Nbc s && same_set (closure s) f))
          ∙ sum-sets_within M.size (λ s. cond (Nbc s && same_set (closure s) f) (pos 1) (pos 0))
          ∙ sum_same (λ s. cond (Nbc s && same_set (closure s) f) (pos 1) (pos 0)) (λ s. cond (same_set (closure s) f) (cond (Nbc s) (pos 1) (pos 0)) (pos 0)) ground (ground-rises M) (λ s rs ws. swap (Nbc s) (same_set (closure s) f))
