-- Lists read by place, the sums of one rank of an affine arrangement taken over a list of values, and lists of coefficients that grow.
use Rattle.hp_arr.specs.Arrangement.{max_dim}
use Rattle.std.specs.Prelude.{◌≡◌, ℕ, zero, suc, ◌+◌, ◌-◌, ◌*ℤ◌, ◌<◌, ◌≤◌, ◌==◌, cond, List, [], ◌∷◌, ◌++◌, map, take, drop, length, ℤ, pos, ◌+ℤ◌}
use Rattle.std.proofs.Common.{get_or}
use Rattle.std.proofs.lemmas.Int.{ints}
use Rattle.std.proofs.lemmas.List.{length-map, get_or-map, take_more, take-append-drop}
use mathlib.Core.Path.{sym, ap, ◌∙◌, subst}
use native.Mathlib.Omega.{arith}
use Rattle.hp_algebra.specs.Integers.{sum_over, sign}
use Rattle.hp_lists.specs.Lists.{below, range_with_len}
use Rattle.hp_sets.specs.declared.flat.Flat.{Flat}
use Rattle.hp_arr.specs.Flats.{flats, total_rank}
use Rattle.hp_arr.specs.Moebius.{mobius, rank_sum, poincare, characteristic}
use Rattle.hp_arr.proofs.ConePoints.{AffineSetting}
use Rattle.hp_arr.proofs.FlatList.{total-rank_dim}
use Rattle.hp_matroid.proofs.Subsets.{sum_over-append}
use Rattle.hp_mobius.specs.Partial.{IsSmall}
use Rattle.hp_mobius.proofs.CoverSums.{of_rank, small-rank}

-- a member of a mapped list, by its place
pub mapped-at : {X Y : Type 0} (f : X → Y) (xs : List X) (ys : List Y) (k : ℕ) (x : X) → map f xs ≡ ys → k < length xs → x ≡ get_or xs k x → (k < length ys) × (f x ≡ get_or ys k (f x))
mapped-at f xs ys k x e l p = (
  subst (λ zs. k < length zs) e (subst (λ n. k < n) (sym (length-map xs f)) l),
  ap f p ∙ sym (get_or-map f xs k x (f x) l) ∙ ap (λ zs. get_or zs k (f x)) e,
)

range-end : {X : Type 0} (f : ℕ → X) (a k : ℕ) → map f (range_with_len a (suc k)) ≡ map f (range_with_len a k) ++ f (a + k) ∷ []
range-end f a zero = ap (λ m. f m ∷ []) (start a)
  where
    start : (a : ℕ) → a ≡ a + 0
    start a = omega arith
range-end f a (suc k) = ap (λ zs. f a ∷ zs) (range-end f (a + 1) k ∙ ap (λ m. map f (range_with_len (a + 1) k) ++ f m ∷ []) (move a k))
  where
    move : (a k : ℕ) → (a + 1) + k ≡ a + suc k
    move a k = omega arith

-- the list with one coefficient more
pub next-coefficient : {X : Type 0} (f : ℕ → X) (k : ℕ) (xs ys : List X) (x : X) → xs ≡ map f (below k) → ys ≡ xs ++ x ∷ [] → x ≡ f k → ys ≡ map f (below (k + 1))
next-coefficient f k xs ys x e p q = p ∙ (λ i. e i ++ q i ∷ []) ∙ ap (λ m. map f (below k) ++ f m ∷ []) (start k) ∙ sym (range-end f 0 k) ∙ ap (λ m. map f (below m)) (next k)
  where
    start : (k : ℕ) → k ≡ 0 + k
    start k = omega arith

    next : (k : ℕ) → suc k ≡ k + 1
    next k = omega arith

module _ {K : Type 0} (S : AffineSetting K) where
  open S use {ring, numbers, arr}

  abbrev all : List Flat
  all = flats S.ring S.numbers S.arr

  pub small-total : (r k : ℕ) → IsSmall (sum_over (of_rank S r) (take k all))
  small-total r k = small-rank S r (take k all) (drop k all) (take-append-drop k all)

  -- one value more
  pub total-next : (r k : ℕ) (values : List (Flat × ℤ)) (entry : Flat × ℤ) {total v : ℤ} → values ≡ map (λ f. (f, mobius ring numbers arr f.set)) all
      → k < length values → entry ≡ get_or values k entry
      → total ≡ sum_over (of_rank S r) (take k all) → v ≡ cond (entry.0.rank == r) entry.1 (pos 0)
      → total +ℤ v ≡ sum_over (of_rank S r) (take (k + 1) all)
  total-next r k values entry {total} {v} e l p so_far valued =
      let pair : Flat → Flat × ℤ = λ f. (f, mobius ring numbers arr f.set) in
      let inside : k < length all = subst (λ m. k < m) (ap length e ∙ length-map all pair) l in
      let here : entry ≡ pair (get_or all k entry.0) = p ∙ ap (λ zs. get_or zs k entry) e ∙ get_or-map pair all k entry.0 entry inside in
      (λ i. so_far i +ℤ valued i)
      ∙ ap (λ (x : Flat × ℤ). sum_over (of_rank S r) (take k all) +ℤ cond (x.0.rank == r) x.1 (pos 0)) here
      ∙ sym (last (sum_over (of_rank S r) (take k all)) (of_rank S r (get_or all k entry.0)))
      ∙ sym (sum_over-append (of_rank S r) (take k all) (get_or all k entry.0 ∷ []))
      ∙ ap (sum_over (of_rank S r)) (sym (take_more all k entry.0 inside))
    where
      last : (a b : ℤ) → a +ℤ (b +ℤ pos 0) ≡ a +ℤ b
      last a b = omega (arith, ints)

  pub values-length : (k : ℕ) (values : List (Flat × ℤ)) → values ≡ map (λ f. (f, mobius ring numbers arr f.set)) all → length values ≤ k → length all ≤ k
  values-length k values e l =
      let pair : Flat → Flat × ℤ = λ f. (f, mobius ring numbers arr f.set) in
      subst (λ m. m ≤ k) (ap length e ∙ length-map all pair) l

  pub rank-high : total_rank ring numbers arr ≤ max_dim
  rank-high = let low = total-rank_dim S in let high = S.lawful.dim_high in omega (arith, low, high)

  pub poincare-is : (k r : ℕ) (xs : List ℤ) → r ≡ total_rank ring numbers arr → k ≤ r + 1 → r + 1 ≤ k
      → xs ≡ map (λ k. rank_sum ring numbers arr k *ℤ sign k) (below k) → xs ≡ poincare ring numbers arr
  unfolding poincare
  poincare-is k r xs e l h p = p ∙ ap (λ m. map (λ k. rank_sum ring numbers arr k *ℤ sign k) (below m)) (both k (r + 1) l h ∙ ap (λ m. m + 1) e)
    where
      both : (a b : ℕ) → a ≤ b → b ≤ a → a ≡ b
      both a b l h = omega arith

  pub characteristic-is : (k d : ℕ) (xs : List ℤ) → d ≡ arr.dim → k ≤ d + 1 → d + 1 ≤ k
      → xs ≡ map (λ k. rank_sum ring numbers arr (arr.dim - k)) (below k) → xs ≡ characteristic ring numbers arr
  unfolding characteristic
  characteristic-is k d xs e l h p = p ∙ ap (λ m. map (λ k. rank_sum ring numbers arr (arr.dim - k)) (below m)) (both k (d + 1) l h ∙ ap (λ m. m + 1) e)
    where
      both : (a b : ℕ) → a ≤ b → b ≤ a → a ≡ b
      both a b l h = omega arith
