-- The Möbius values of an affine arrangement are those of its matroid at the central flats; so their signs, their bounds, and the coefficients as counts.
use Rattle.std.specs.Prelude.{◌≡◌, ℕ, zero, suc, ◌^◌, ◌≤◌, ◌==◌, Bool, true, false, cond, not, ◌&&◌, [], ◌∷◌, length, filter, ℤ, pos, ◌*ℤ◌, neg_ℤ}
use mathlib.Core.Path.{refl, sym, ap, ◌∙◌, subst}
use Rattle.hp_algebra.specs.Integers.{sign, sum_over}
use Rattle.hp_lists.specs.Lists.{one_to}
use Rattle.hp_lists.proofs.Members.{first_true}
use Rattle.hp_sets.specs.Sets.{Set, contains, is_within, is_properly_within, sets_within}
use Rattle.hp_arr.specs.Flats.{rank, IsFlat, is_flat, flats_of_rank}
use Rattle.hp_arr.specs.Moebius.{IsMobius, mobius_bounded, mobius, rank_sum}
use Rattle.hp_arr.proofs.Cuts.{set-indices}
use Rattle.hp_matroid.specs.Matroids as abstract
use Rattle.hp_matroid.specs.Matroids.{same_set, Rises, Within, is_nbc}
use Rattle.hp_matroid.proofs.Subsets.{apart_true, sum_same}
use Rattle.hp_matroid.proofs.RisingLists.{is_within-to}
use Rattle.hp_matroid.proofs.RisingSets.{set-rises}
use Rattle.hp_matroid.proofs.Expansion.{sum_over-filter}
use Rattle.hp_matroid.proofs.Listing.{ground-rises, sum-sets_within}
use Rattle.hp_matroid.proofs.Recursion.{mobius-IsMobius}
use Rattle.hp_matroid.proofs.Whitney.{whitney}
use Rattle.hp_matroid.proofs.SizedSets.{closure-low, size-low}
use Rattle.hp_matroid.proofs.Coatoms.{mobius-coatoms}
use Rattle.hp_matroid.proofs.CentralSets.{alternating, rank_sum-central, alternating-nbc}
use native.Mathlib.Omega.{arith}
use Rattle.hp_arr.specs.Arrangement.{max_dim, max_forms}
use Rattle.hp_arr.proofs.ConePoints.{AffineSetting, n}
use Rattle.hp_arr.proofs.ConeRanks.{affine-rank_dim}
use Rattle.hp_arr.proofs.FlatList.{flat-rank_dim}
use Rattle.hp_arr.proofs.ConeMatroids.{affine_matroid, central, central-laws, rows-indices, is_flat-central, rank-matroid, has_point-central, flat-central, flat-set, flat-has_point}

-- a sum over the sets within 1 to n of terms that agree
sum-agree : (n : ℕ) (f g : Set → ℤ) → Rises (one_to n) → ((s : Set) → Rises s → Within s (one_to n) → f s ≡ g s) → sum_over f (sets_within n) ≡ sum_over g (sets_within n)
sum-agree n f g r h = sum-sets_within n f ∙ sum_same f g (one_to n) r h ∙ sym (sum-sets_within n g)

-- terms under tests that agree so far as it matters
agree : (c f p : Bool) (x y : ℤ) → (p ≡ true → c ≡ true) → (p ≡ true → x ≡ y) → cond ((c && f) && p) x (pos 0) ≡ cond (f && p) y (pos 0)
agree c f true x y h e = λ j. cond ((h refl j && f) && true) (e refl j) (pos 0)
agree true true false x y h e = refl
agree true false false x y h e = refl
agree false true false x y h e = refl
agree false false false x y h e = refl

ranked : (b f : Bool) (m r k : ℕ) (x y : ℤ) → b ≡ f → (f ≡ true → m ≡ r) → (f ≡ true → x ≡ y) → cond (b && (m == k)) x (pos 0) ≡ cond (f && (r == k)) y (pos 0)
ranked b true m r k x y e h g = λ j. cond (e j && (h refl j == k)) (g refl j) (pos 0)
ranked b false m r k x y e h g = ap (λ c. cond (c && (m == k)) x (pos 0)) e

module _ {K : Type 0} (A : AffineSetting K) where
  open A use {ring, numbers, arr}

  abbrev M : abstract.Matroid
  M = affine_matroid A

  abbrev ground : Set
  ground = one_to (length A.arr.forms)

  part-central : (g f : Set) → Within f ground → central A f ≡ true → is_properly_within g f ≡ true → central A g ≡ true
  part-central g f w c p = (central-laws A).smaller g f (is_within-to g f (first_true (is_within g f) (not (is_within f g)) p)) w c

  bounded-same : (b : ℕ) (f : Set) → Rises f → Within f ground → central A f ≡ true → mobius_bounded ring numbers arr b f ≡ abstract.mobius_bounded (affine_matroid A) b f
  unfolding mobius_bounded
  bounded-same zero [] r w c = refl
  bounded-same (suc b) [] r w c = refl
  bounded-same zero (i ∷ s) r w c = refl
  bounded-same (suc b) (i ∷ s) r w c = ap neg_ℤ (sum-agree (n A)
      (λ g. cond (is_flat ring numbers arr g && is_properly_within g (i ∷ s)) (mobius_bounded ring numbers arr b g) (pos 0))
      (λ g. cond (abstract.is_flat M g && is_properly_within g (i ∷ s)) (abstract.mobius_bounded M b g) (pos 0)) (ground-rises M)
      (λ g rg wg.
      let inner : is_properly_within g (i ∷ s) ≡ true → central A g ≡ true = part-central g (i ∷ s) w c in
      (λ j. cond (is_flat-central A g (rows-indices A g wg) j && is_properly_within g (i ∷ s)) (mobius_bounded ring numbers arr b g) (pos 0))
      ∙ agree (central A g) (abstract.is_flat M g) (is_properly_within g (i ∷ s)) _ _ inner (λ p. bounded-same b g rg wg (inner p))))

  pub mobius-same : (f : Set) → Rises f → Within f ground → central A f ≡ true → mobius ring numbers arr f ≡ abstract.mobius (affine_matroid A) f
  unfolding mobius
  mobius-same f r w c = bounded-same (length f) f r w c

  flat-rises : (f : Set) → IsFlat ring numbers arr f → Rises f × Within f ground
  flat-rises f is = set-rises (n A) f (flat-set A f is)

  pub mobius-flat : (f : Set) → IsFlat ring numbers arr f → mobius ring numbers arr f ≡ abstract.mobius (affine_matroid A) f
  mobius-flat f is = let r = flat-rises f is in mobius-same f r.0 r.1 (flat-central A f is).pointed

  pub rank-flat : (f : Set) → IsFlat ring numbers arr f → rank ring numbers arr f ≡ (affine_matroid A).rank f
  rank-flat f is = rank-matroid A f (set-indices arr f (flat-set A f is)) (flat-has_point A f is)

  -- a sum over the flats within a flat that pass a test
  sum-inner : (f : Set) (test other : Set → Bool) → Within f ground → central A f ≡ true
      → ((g : Set) → test g ≡ true → Within g f) → ((g : Set) → Within g ground → central A g ≡ true → test g ≡ other g)
      → ((g : Set) → other g ≡ true → Within g f)
      → sum_over (abstract.mobius M) (filter (λ g. abstract.is_flat M g && other g) (sets_within (n A)))
      ≡ sum_over (mobius ring numbers arr) (filter (λ g. is_flat ring numbers arr g && test g) (sets_within (n A)))
  sum-inner f test other wf c inner same outer =
      sum_over-filter (abstract.mobius M) (λ g. abstract.is_flat M g && other g) (sets_within (n A))
      ∙ sym (sum-agree (n A) (λ g. cond (is_flat ring numbers arr g && test g) (mobius ring numbers arr g) (pos 0)) (λ g. cond (abstract.is_flat M g && other g) (abstract.mobius M g) (pos 0)) (ground-rises M) at)
      ∙ sym (sum_over-filter (mobius ring numbers arr) (λ g. is_flat ring numbers arr g && test g) (sets_within (n A)))
    where
      step : (c f t o : Bool) (x y : ℤ) → (t ≡ true → c ≡ true) → (o ≡ true → c ≡ true) → (c ≡ true → t ≡ o) → (c ≡ true → x ≡ y)
          → cond ((c && f) && t) x (pos 0) ≡ cond (f && o) y (pos 0)
      step true f t o x y h k s e = λ j. cond (f && s refl j) (e refl j) (pos 0)
      step false f true o x y h k s e = apart_true false (h refl) refl
      step false f false true x y h k s e = apart_true false (k refl) refl
      step false true false false x y h k s e = refl
      step false false false false x y h k s e = refl

      at : (g : Set) → Rises g → Within g ground → cond (is_flat ring numbers arr g && test g) (mobius ring numbers arr g) (pos 0) ≡ cond (abstract.is_flat M g && other g) (abstract.mobius M g) (pos 0)
      at g rg wg =
          (λ j. cond (is_flat-central A g (rows-indices A g wg) j && test g) (mobius ring numbers arr g) (pos 0))
          ∙ step (central A g) (abstract.is_flat M g) (test g) (other g) _ _
          (λ t. (central-laws A).smaller g f (inner g t) wf c) (λ t. (central-laws A).smaller g f (outer g t) wf c) (same g wg) (λ e. mobius-same g rg wg e)

  -- the Möbius function meets its two equations
  pub mobius-meets : IsMobius ring numbers arr (mobius ring numbers arr)
  unfolding mobius mobius_bounded
  mobius-meets = record {
    at_empty = refl;
    elsewhere = λ f is apart.
        let r = flat-rises f is in
        let c = flat-central A f is in
        mobius-flat f is ∙ (mobius-IsMobius M).elsewhere f r.0 c.closed apart
        ∙ ap neg_ℤ (sum-inner f (λ g. is_properly_within g f) (λ g. is_properly_within g f) r.1 c.pointed
        (λ g t. is_within-to g f (first_true (is_within g f) (not (is_within f g)) t)) (λ g w e. refl)
        (λ g t. is_within-to g f (first_true (is_within g f) (not (is_within f g)) t)));
  }

  -- the value at a flat is (-1)^rank times the number of sets without broken circuit that have the flat as their closure
  pub mobius-nbc : (f : Set) → IsFlat ring numbers arr f
      → mobius ring numbers arr f ≡ sign (rank ring numbers arr f) *ℤ pos (length (filter (λ s. is_nbc (affine_matroid A) s && same_set ((affine_matroid A).closure s) f) (sets_within (n A))))
  mobius-nbc f is =
      let r = flat-rises f is in
      mobius-flat f is ∙ whitney M f r.0 r.1 (flat-central A f is).closed
      ∙ ap (λ k. sign k *ℤ pos (length (filter (λ s. is_nbc M s && same_set (M.closure s) f) (sets_within (n A))))) (sym (rank-flat f is))

  -- such sets are no more than the lists of so many rows as the greatest dimension
  pub closure-count : (f : Set) → IsFlat ring numbers arr f
      → length (filter (λ s. is_nbc (affine_matroid A) s && same_set ((affine_matroid A).closure s) f) (sets_within (n A))) ≤ max_forms ^ max_dim
  closure-count f is = closure-low M max_forms max_dim (omega arith) A.lawful.few_forms f (flat-rises f is).0
      (let e = rank-flat f is in let l = flat-rank_dim A f is in let h = A.lawful.dim_high in omega (arith, e, l, h))

  pub size-count : (k : ℕ) → length (filter (λ s. is_nbc (affine_matroid A) s && (central A s && (length s == k))) (sets_within (n A))) ≤ max_forms ^ max_dim
  size-count k = size-low M max_forms max_dim (omega arith) A.lawful.few_forms (central A) k (λ s rs ws c.
      let h = rows-indices A s ws in
      let p = has_point-central A s h ∙ c in
      let e = rank-matroid A s h p in
      let l = affine-rank_dim A s h p in
      let d = A.lawful.dim_high in
      omega (arith, e, l, d))

  -- the sum over the flats of rank k is the alternating sum over the central sets of rank k
  pub rank_sum-alternates : (k : ℕ) → rank_sum ring numbers arr k ≡ alternating (affine_matroid A) (central A) (central-laws A) k
  unfolding rank_sum flats_of_rank
  rank_sum-alternates k =
      sum_over-filter (mobius ring numbers arr) (λ s. is_flat ring numbers arr s && (rank ring numbers arr s == k)) (sets_within (n A))
      ∙ sum-agree (n A) (λ s. cond (is_flat ring numbers arr s && (rank ring numbers arr s == k)) (mobius ring numbers arr s) (pos 0))
      (λ s. cond ((central A s && abstract.is_flat M s) && (M.rank s == k)) (abstract.mobius M s) (pos 0)) (ground-rises M)
      (λ s rs ws. let h = rows-indices A s ws in
      ranked (is_flat ring numbers arr s) (central A s && abstract.is_flat M s) _ _ k _ _ (is_flat-central A s h)
      (λ t. rank-matroid A s h (has_point-central A s h ∙ first_true (central A s) (abstract.is_flat M s) t))
      (λ t. mobius-same s rs ws (first_true (central A s) (abstract.is_flat M s) t)))
      ∙ sym (sum_over-filter (abstract.mobius M) (λ s. (central A s && abstract.is_flat M s) && (M.rank s == k)) (sets_within (n A)))
      ∙ rank_sum-central M (central A) (central-laws A) k

  -- coefficient k of pi is the number of central sets of k members without broken circuit
  pub coefficient-nbc : (k : ℕ) → rank_sum ring numbers arr k *ℤ sign k
      ≡ pos (length (filter (λ s. is_nbc (affine_matroid A) s && (central A s && (length s == k))) (sets_within (n A))))
  coefficient-nbc k = ap (λ z. z *ℤ sign k) (rank_sum-alternates k) ∙ alternating-nbc M (central A) (central-laws A) k

  -- with a member i of a flat fixed, its Möbius value is minus the sum over the flats within, without i and of one rank less
  pub mobius-by_coatoms : (f : Set) (i : ℕ) → IsFlat ring numbers arr f → contains f i ≡ true
      → mobius ring numbers arr f ≡ neg_ℤ (sum_over (mobius ring numbers arr) (filter
      (λ g. is_flat ring numbers arr g && (is_within g f && (not (contains g i) && (suc (rank ring numbers arr g) == rank ring numbers arr f)))) (sets_within (n A))))
  mobius-by_coatoms f i is h =
      let r = flat-rises f is in
      let c = flat-central A f is in
      mobius-flat f is ∙ mobius-coatoms M f i r.0 r.1 c.closed h
      ∙ ap neg_ℤ (sum-inner f
      (λ g. is_within g f && (not (contains g i) && (suc (rank ring numbers arr g) == rank ring numbers arr f)))
      (λ g. is_within g f && (not (contains g i) && (suc (M.rank g) == M.rank f))) r.1 c.pointed
      (λ g t. is_within-to g f (first_true (is_within g f) _ t))
      (λ g w e. λ j. is_within g f && (not (contains g i) && (suc (rank-matroid A g (rows-indices A g w) (has_point-central A g (rows-indices A g w) ∙ e) j) == rank-flat f is j)))
      (λ g t. is_within-to g f (first_true (is_within g f) _ t)))
