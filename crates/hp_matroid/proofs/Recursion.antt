-- The recursion for the Möbius function meets its two equations.
use Rattle.std.specs.Prelude.{◌==◌, [], ◌≡◌, ◌≢◌, ℕ, zero, suc, ◌<◌, ◌≤◌, Bool, true, false, cond, not, ◌&&◌, List, ◌∷◌, length, filter, ℤ, pos, neg_ℤ}
use mathlib.Core.Logic.{inl, inr}
use mathlib.Core.Path.{refl, sym, ap, ◌∙◌}
use native.Mathlib.Omega.{arith}
use Rattle.hp_algebra.specs.Integers.{sum_over, sign}
use Rattle.hp_lists.specs.Lists.{one_to}
use Rattle.hp_lists.proofs.Members.{first_true, second_true}
use Rattle.hp_sets.specs.Sets.{Set, is_within, is_properly_within, sets_within}
use Rattle.hp_matroid.specs.Matroids.{Rises, IsMobius, is_flat, mobius_bounded, mobius, Matroid, Within, same_set}
use Rattle.hp_matroid.proofs.Subsets.{not_true, apart_true, sum_sub, sum_same}
use Rattle.hp_matroid.proofs.RisingLists.{smaller, is_within-from, is_within-to, same_set-to}
use Rattle.hp_matroid.proofs.Expansion.{sum_over-filter, expansion, mobius-expansion, sum-closures}
use Rattle.hp_matroid.proofs.Listing.{ground-rises, sum-sets_within}

pub properly-smaller : (s t : Set) → Rises s → Rises t → is_properly_within s t ≡ true → length s < length t
properly-smaller s t r q p = elim (smaller s t r q (is_within-to s t (first_true (is_within s t) (not (is_within t s)) p))) as (λ _. length s < length t) [
  | inl h ↦ h
  | inr h ↦ apart_true (is_within t s) (is_within-from t s h) (not_true (is_within t s) (second_true (is_within s t) (not (is_within t s)) p))
]

under : (b : Bool) (x y : ℤ) → (b ≡ true → x ≡ y) → cond b x (pos 0) ≡ cond b y (pos 0)
under true x y h = h refl
under false x y h = refl

module _ (M : Matroid) where
  open M use {closure, rank, laws}

  abbrev ground : Set
  ground = one_to M.size

  abbrev sets : List Set
  sets = sets_within M.size

  abbrev below : Set → Set → Bool
  below f g = is_flat M g && is_properly_within g f

  abbrev value : ℕ → Set → ℤ
  value b f = mobius_bounded M b f

  -- functions that agree on the flats properly within f have one sum over them
  sum-below : (f : Set) (g h : Set → ℤ) → Rises f → ((s : Set) → Rises s → length s < length f → g s ≡ h s) → sum_over (λ s. cond (below f s) (g s) (pos 0)) sets ≡ sum_over (λ s. cond (below f s) (h s) (pos 0)) sets
  sum-below f g h r same =
      sum-sets_within M.size (λ s. cond (below f s) (g s) (pos 0))
      ∙ sum_same (λ s. cond (below f s) (g s) (pos 0)) (λ s. cond (below f s) (h s) (pos 0)) ground (ground-rises M)
      (λ s rs ws. under (below f s) (g s) (h s) (λ e. same s rs (properly-smaller s f rs r (second_true (is_flat M s) (is_properly_within s f) e))))
      ∙ sym (sum-sets_within M.size (λ s. cond (below f s) (h s) (pos 0)))

  -- the bound is of no account from the number of members on
  pub bound-same : (b c : ℕ) (f : Set) → Rises f → length f ≤ b → length f ≤ c → value b f ≡ value c f
  bound-same zero zero [] r l k = refl
  bound-same zero (suc c) [] r l k = refl
  bound-same (suc b) zero [] r l k = refl
  bound-same (suc b) (suc c) [] r l k = refl
  bound-same zero c (i ∷ f) r l k = absurd (none (length f) l)
    where
      none : (n : ℕ) → suc n ≤ 0 → ⊥
      none n l = omega arith
  bound-same (suc b) zero (i ∷ f) r l k = absurd (none (length f) k)
    where
      none : (n : ℕ) → suc n ≤ 0 → ⊥
      none n l = omega arith
  bound-same (suc b) (suc c) (i ∷ f) r l k = ap neg_ℤ (sum-below (i ∷ f) (value b) (value c) r
      (λ s rs small. bound-same b c s rs (less (length s) (length f) b small l) (less (length s) (length f) c small k)))
    where
      less : (a n b : ℕ) → a < suc n → suc n ≤ suc b → a ≤ b
      less a n b l k = omega arith

  pub mobius-IsMobius : IsMobius M (mobius M)
  mobius-IsMobius = record { at_empty = refl; elsewhere = λ f r e n. at f r n }
    where
      at : (f : Set) → Rises f → f ≢ [] → mobius M f ≡ neg_ℤ (sum_over (mobius M) (filter (below f) sets))
      at [] r n = absurd (n refl)
      at (i ∷ f) r n = ap neg_ℤ (
          sum-below (i ∷ f) (value (length f)) (mobius M) r (λ s rs small. bound-same (length f) (length s) s rs (less (length s) (length f) small) (low (length s)))
          ∙ sym (sum_over-filter (mobius M) (below (i ∷ f)) sets))
        where
          less : (a n : ℕ) → a < suc n → a ≤ n
          less a n l = omega arith

          low : (n : ℕ) → n ≤ n
          low n = omega arith

  -- Boolean expansion: the value at a flat f is the sum of (-1)^|s| over the sets s with closure f
  pub mobius-sets : (f : Set) → Rises f → Within f ground → closure f ≡ f → mobius M f ≡ expansion M f
  mobius-sets f = mobius-expansion M (mobius M) mobius-IsMobius f

  -- a sum of the Möbius function over the flats that pass a test is the alternating sum over the sets whose closure passes
  pub sum-flats : (test : Set → Bool) → sum_over (mobius M) (filter (λ y. is_flat M y && test y) sets) ≡ sum_sub (λ s. cond (test (closure s)) (sign (length s)) (pos 0)) ground
  sum-flats test =
      sum_over-filter (mobius M) (λ y. same_set (closure y) y && test y) sets
      ∙ sum-sets_within M.size (λ y. cond (same_set (closure y) y && test y) (mobius M y) (pos 0))
      ∙ sum_same (λ y. cond (same_set (closure y) y && test y) (mobius M y) (pos 0)) (λ y. cond (same_set (closure y) y && test y) (expansion M y) (pos 0)) ground (ground-rises M)
      (λ y ry wy. under (same_set (closure y) y && test y) (mobius M y) (expansion M y) (λ h. mobius-sets y ry wy (same_set-to (closure y) y (laws.closure_rises y) ry (first_true (same_set (closure y) y) (test y) h))))
      ∙ sum-closures M test (λ s. sign (length s))

  -- over the flats of rank k it is the alternating sum over the sets of rank k
  pub rank_sum-sets : (k : ℕ) → sum_over (mobius M) (filter (λ y. is_flat M y && (rank y == k)) sets) ≡ sum_sub (λ s. cond (rank s == k) (sign (length s)) (pos 0)) ground
  rank_sum-sets k =
      sum-flats (λ y. rank y == k)
      ∙ sum_same (λ s. cond (rank (closure s) == k) (sign (length s)) (pos 0)) (λ s. cond (rank s == k) (sign (length s)) (pos 0)) ground (ground-rises M)
      (λ s rs ws. ap (λ r. cond (r == k) (sign (length s)) (pos 0)) (laws.rank_closure s ws))
