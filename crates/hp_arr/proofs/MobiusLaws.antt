-- The coefficients of a central arrangement as counts of sets without broken circuit.
use Rattle.std.specs.Prelude.{◌≡◌, ℕ, zero, suc, ◌==◌, Bool, cond, ◌&&◌, [], ◌∷◌, length, filter, pos, ◌*ℤ◌, neg_ℤ}
use mathlib.Core.Path.{refl, ap, ◌∙◌}
use Rattle.hp_algebra.specs.Integers.{sign, sum_over}
use Rattle.hp_sets.specs.Sets.{Set, is_properly_within, sets_within}
use Rattle.hp_arr.specs.Flats.{closure, rank, is_flat, flats_of_rank}
use Rattle.hp_arr.specs.Moebius.{mobius_bounded, mobius, rank_sum}
use Rattle.hp_arr.proofs.Setting.{Setting, over, n}
use Rattle.hp_arr.proofs.Cuts.{has_origin}
use Rattle.hp_matroid.specs.Matroids as abstract
use Rattle.hp_matroid.specs.Matroids.{same_set, is_nbc}
use Rattle.hp_matroid.proofs.Signs.{sign_sign}
use Rattle.hp_matroid.proofs.Whitney.{rank_sum-nbc}
use Rattle.hp_arr.proofs.ArrangementMatroids.{matroid}

module _ {K : Type 0} (S : Setting K) where
  open S use {ring, numbers, arr}

  abbrev pub nbc : Set → Bool
  nbc s = is_nbc (matroid S) s

  -- the definitions for arrangements are those for a closure and a rank, as each set has the origin as a common point
  flat-same : (s : Set) → is_flat ring numbers arr s ≡ abstract.is_flat (matroid S) s
  unfolding is_flat
  flat-same s = λ j. has_origin (over S) s j && same_set (closure ring numbers arr s) s

  bounded-same : (b : ℕ) (f : Set) → mobius_bounded ring numbers arr b f ≡ abstract.mobius_bounded (matroid S) b f
  unfolding mobius_bounded
  bounded-same zero [] = refl
  bounded-same (suc b) [] = refl
  bounded-same zero (i ∷ s) = refl
  bounded-same (suc b) (i ∷ s) =
      λ j. neg_ℤ (sum_over (λ g. cond (flat-same g j && is_properly_within g (i ∷ s)) (bounded-same b g j) (pos 0)) (sets_within (n S)))

  mobius-same : (f : Set) → mobius ring numbers arr f ≡ abstract.mobius (matroid S) f
  unfolding mobius
  mobius-same f = bounded-same (length f) f

  -- coefficient k of pi is the number of sets of k members without broken circuit
  pub coefficient-nbc : (k : ℕ) → rank_sum ring numbers arr k *ℤ sign k ≡ pos (length (filter (λ s. nbc s && (length s == k)) (sets_within (n S))))
  unfolding rank_sum flats_of_rank
  coefficient-nbc k =
      (λ i. sum_over (λ f. mobius-same f i) (filter (λ s. flat-same s i && (rank ring numbers arr s == k)) (sets_within (n S))) *ℤ sign k)
      ∙ ap (λ z. z *ℤ sign k) (rank_sum-nbc (matroid S) k)
      ∙ sign_sign k (length (filter (λ s. nbc s && (length s == k)) (sets_within (n S))))
