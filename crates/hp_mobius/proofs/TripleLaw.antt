-- The coefficients of pi of an affine arrangement, also where they are not listed; so the law of triples for the lists of coefficients.
use Rattle.std.specs.Prelude.{◌≡◌, ℕ, zero, suc, ◌+◌, ◌<◌, ◌≤◌, List, [], ◌∷◌, map, Contains, ℤ, pos, ◌+ℤ◌, ◌*ℤ◌, ◌⊎◌}
use Rattle.std.proofs.lemmas.Bool.{cases_lt}
use Rattle.std.proofs.lemmas.Int.{ints}
use Rattle.std.proofs.lemmas.List.FromFn.{length-map-range_with_len, get_or-map-range_with_len}
use Rattle.std.proofs.Math.ListN.{get_or-eq_default}
use mathlib.Core.Logic.{inl, inr}
use mathlib.Core.Path.{refl, sym, ap, ◌∙◌}
use native.Mathlib.Omega.{arith}
use Rattle.hp_algebra.specs.Integers.{sign, sum_over}
use Rattle.hp_lists.specs.Lists.{below}
use Rattle.hp_lists.proofs.Members.{Contains-here}
use Rattle.hp_arr.specs.Flats.{total_rank, flats_of_rank}
use Rattle.hp_arr.specs.Moebius.{rank_sum, mobius, poincare}
use Rattle.hp_arr.specs.Arrangement.{Arrangement}
use Rattle.hp_arr.specs.Operations.{deletion, restriction}
use Rattle.hp_mobius.specs.Triples.{coefficient, coefficient_before, AddsUp}
use Rattle.hp_arr.proofs.ConePoints.{AffineSetting, n}
use Rattle.hp_arr.proofs.FlatList.{flats_of_rank-complete, flat-rank_total}
use Rattle.hp_arr.proofs.AffineDeletion.{deleted}
use Rattle.hp_mobius.proofs.TripleSums.{restriction_of, triple-zero, triple-next}

pub no-members : {X : Type 0} (xs : List X) → ((x : X) → Contains xs x → ⊥) → xs ≡ []
no-members [] h = refl
no-members (x ∷ xs) h = absurd (h x (Contains-here x xs))

module _ {K : Type 0} (A : AffineSetting K) where
  open A use {ring, numbers, arr}

  -- no flat has a rank above that of the arrangement
  pub above-rank : (k : ℕ) → total_rank ring numbers arr < k → flats_of_rank ring numbers arr k ≡ []
  above-rank k l = no-members (flats_of_rank ring numbers arr k) (λ f c.
      let h = (flats_of_rank-complete A k f).0 c in
      let low = flat-rank_total A f h.0 in
      omega (arith, l, low, h.1))

  abbrev signed : ℕ → ℤ
  signed k = rank_sum A.ring A.numbers A.arr k *ℤ sign k

  -- coefficient k of pi, also where it is not listed
  pub coefficient-poincare : (k : ℕ) → coefficient (poincare ring numbers arr) k ≡ signed k
  unfolding poincare rank_sum
  coefficient-poincare k = step (cases_lt (total_rank ring numbers arr) k)
    where
      t : ℕ
      t = total_rank ring numbers arr

      none : (z : ℤ) → pos 0 ≡ pos 0 *ℤ z
      none z = omega (arith, ints)

      zero_plus : (k : ℕ) → 0 + k ≡ k
      zero_plus k = omega arith

      step : (total_rank ring numbers arr < k) ⊎ (k ≤ total_rank ring numbers arr) → coefficient (map signed (below (total_rank ring numbers arr + 1))) k ≡ signed k
      step (inl l) =
          get_or-eq_default (map signed (below (total_rank ring numbers arr + 1))) (pos 0) (let e = length-map-range_with_len signed 0 (total_rank ring numbers arr + 1) in omega (arith, l, e))
          ∙ none (sign k) ∙ sym (ap (λ fs. sum_over (mobius ring numbers arr) fs *ℤ sign k) (above-rank k l))
      step (inr l) = get_or-map-range_with_len signed 0 (total_rank ring numbers arr + 1) k k (pos 0) (omega (arith, l)) (zero_plus k)

module _ {K : Type 0} (A : AffineSetting K) (i : ℕ) (low : 1 ≤ i) (high : i ≤ n A) (two : 2 ≤ A.arr.dim) where
  open A use {ring, inverse, numbers, arr}

  -- coefficient k of the whole is that of the deletion and coefficient k - 1 of the restriction
  pub triple-adds : AddsUp (poincare ring numbers arr) (poincare ring numbers (deletion arr i)) (poincare ring numbers (restriction ring inverse arr i))
  triple-adds zero = coefficient-poincare A 0 ∙ triple-zero A i low high two ∙ sym (coefficient-poincare (deleted A i low high) 0) ∙ plus_zero _
    where
      plus_zero : (a : ℤ) → a ≡ a +ℤ pos 0
      plus_zero a = omega (arith, ints)
  triple-adds (suc k) =
      coefficient-poincare A (suc k) ∙ triple-next A i low high two k
      ∙ (λ j. sym (coefficient-poincare (deleted A i low high) (suc k)) j +ℤ sym (coefficient-poincare (restriction_of A i low high two) k) j)

  pub adds-of : (whole deleted_pi restricted_pi : List ℤ) (d r : Arrangement K) → whole ≡ poincare ring numbers arr → deleted_pi ≡ poincare ring numbers d → restricted_pi ≡ poincare ring numbers r
      → d ≡ deletion arr i → r ≡ restriction ring inverse arr i → AddsUp whole deleted_pi restricted_pi
  adds-of whole dp rp d r e f h p q k =
      ap (λ w. coefficient w k) e ∙ triple-adds k
      ∙ (λ j. coefficient (sym (f ∙ ap (poincare ring numbers) p) j) k +ℤ coefficient_before (sym (h ∙ ap (poincare ring numbers) q) j) k)
