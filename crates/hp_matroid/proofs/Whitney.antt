-- Whitney's theorem: the Möbius function counts the sets without broken circuit.
use Rattle.std.specs.Prelude.{[], ◌≡◌, ℕ, zero, suc, ◌<◌, ◌≤◌, ◌==◌, Bool, true, false, cond, not, ◌&&◌, List, ◌∷◌, ◌++◌, length, filter, ℤ, pos, ◌+ℤ◌, ◌*ℤ◌, neg_ℤ}
use Rattle.std.proofs.lemmas.Bool.{eqb-true}
use Rattle.std.proofs.lemmas.Int.{ints}
use mathlib.Core.Logic.{inl, inr}
use mathlib.Core.Path.{refl, sym, ap, ◌∙◌}
use native.Mathlib.Omega.{arith}
use Rattle.hp_algebra.specs.Integers.{sum_over, sign}
use Rattle.hp_lists.specs.Lists.{one_to}
use Rattle.hp_lists.proofs.Members.{first_true, second_true}
use Rattle.hp_sets.specs.Sets.{Set, contains, sets_within}
use Rattle.hp_matroid.specs.Matroids.{same_set, Rises, Within, is_flat, is_nbc, Matroid, mobius}
use Rattle.hp_matroid.proofs.Subsets.{clash, or_right, or_left, or_case, head_in, within-tail, within-cons, contains-append, sum_sub, sum_same, sum-add}
use Rattle.hp_matroid.proofs.RisingLists.{same_set-to, all-same, above, above_all, above-low, above-head}
use Rattle.hp_matroid.proofs.Expansion.{cond-pair, closure-same, term, expansion}
use Rattle.hp_matroid.proofs.Broken.{is_active, is_quiet, nbc-quiet, nbc-rank}
use Rattle.hp_matroid.proofs.Listing.{ground-rises, sum-sets_within}
use Rattle.hp_matroid.proofs.Recursion.{mobius-sets, rank_sum-sets}

-- a sum of equal signs is a count
pub sign-count : {X : Type 0} (k : ℕ) (test : X → Bool) (a : List X) → sum_over (λ s. cond (test s) (sign k) (pos 0)) a ≡ sign k *ℤ pos (length (filter test a))
sign-count zero test a = ones a ∙ times_one (length (filter test a))
  where
    times_one : (n : ℕ) → pos n ≡ pos 1 *ℤ pos n
    times_one n = omega (arith, ints)

    more : (n : ℕ) (z : ℤ) → z ≡ pos n → pos 1 +ℤ z ≡ pos (suc n)
    more n z e = omega (arith, ints)

    keep : (z w : ℤ) → z ≡ w → pos 0 +ℤ z ≡ w
    keep z w e = omega (arith, ints)

    step : {X : Type 0} (b : Bool) (x : X) (t : List X) (z : ℤ) → z ≡ pos (length t) → cond b (pos 1) (pos 0) +ℤ z ≡ pos (length (cond b (x ∷ t) t))
    step true x t z e = more (length t) z e
    step false x t z e = keep z (pos (length t)) e

    ones : (a : List _) → sum_over (λ s. cond (test s) (pos 1) (pos 0)) a ≡ pos (length (filter test a))
    ones [] = refl
    ones (x ∷ a) = step (test x) x (filter test a) (sum_over (λ s. cond (test s) (pos 1) (pos 0)) a) (ones a)
sign-count {X} (suc k) test a = turned (sign k) a ∙ ap neg_ℤ (sign-count k test a) ∙ move k (length (filter test a))
  where
    both : (c z w : ℤ) → z ≡ neg_ℤ w → neg_ℤ c +ℤ z ≡ neg_ℤ (c +ℤ w)
    both c z w e = omega (arith, ints)

    keep : (z w : ℤ) → z ≡ neg_ℤ w → pos 0 +ℤ z ≡ neg_ℤ (pos 0 +ℤ w)
    keep z w e = omega (arith, ints)

    step : (b : Bool) (c z w : ℤ) → z ≡ neg_ℤ w → cond b (neg_ℤ c) (pos 0) +ℤ z ≡ neg_ℤ (cond b c (pos 0) +ℤ w)
    step true c z w e = both c z w e
    step false c z w e = keep z w e

    turned : (c : ℤ) (a : List X) → sum_over (λ s. cond (test s) (neg_ℤ c) (pos 0)) a ≡ neg_ℤ (sum_over (λ s. cond (test s) c (pos 0)) a)
    turned c [] = refl
    turned c (x ∷ a) = step (test x) c (sum_over (λ s. cond (test s) (neg_ℤ c) (pos 0)) a) (sum_over (λ s. cond (test s) c (pos 0)) a) (turned c a)

    move : (k n : ℕ) → neg_ℤ (sign k *ℤ pos n) ≡ neg_ℤ (sign k) *ℤ pos n
    move zero n = by_one n
      where
        by_one : (n : ℕ) → neg_ℤ (pos 1 *ℤ pos n) ≡ neg_ℤ (pos 1) *ℤ pos n
        by_one n = omega (arith, ints)
    move (suc k) n = back (sign k) (pos n) (neg_ℤ (sign k) *ℤ pos n) (move k n)
      where
        neg_neg : (a : ℤ) → a ≡ neg_ℤ (neg_ℤ a)
        neg_neg a = omega (arith, ints)

        back : (a n z : ℤ) → neg_ℤ (a *ℤ n) ≡ z → neg_ℤ z ≡ neg_ℤ (neg_ℤ a) *ℤ n
        back a n z e = ap neg_ℤ (sym e) ∙ sym (neg_neg (a *ℤ n)) ∙ ap (λ c. c *ℤ n) (neg_neg a)

-- a number and its opposite, where a test holds
cancel : (b : Bool) (a : ℤ) → cond b (neg_ℤ a) (pos 0) +ℤ cond b a (pos 0) ≡ pos 0
cancel true a = omega (arith, ints)
cancel false a = refl

module _ (M : Matroid) where
  open M use {closure, rank, laws}

  abbrev ground : Set
  ground = one_to M.size

  abbrev sets : List Set
  sets = sets_within M.size

  -- f changes its sign as x is put between t and u, where x lies in the closure of u
  abbrev pub Alternates : (Set → ℤ) → Type 0
  Alternates f = (t u : Set) (x : ℕ) → Within t ground → Within u ground → contains ground x ≡ true → contains (closure u) x ≡ true → f (t ++ x ∷ u) +ℤ f (t ++ u) ≡ pos 0

  abbrev quiet : Set → Set → Bool
  quiet xs s = is_quiet closure xs s

  quiet-cons : (x : ℕ) (xs s : Set) → Rises (x ∷ xs) → quiet xs (x ∷ s) ≡ quiet xs s
  quiet-cons x xs s r = all-same (λ e. not (is_active closure (x ∷ s) e)) (λ e. not (is_active closure s e)) xs
      (λ e h. ap (λ t. not (contains (closure t) e)) (above-low e x s (low x e (r.0 e h))))
    where
      low : (x e : ℕ) → x < e → x ≤ e
      low x e l = omega arith

  -- the sets with an active number cancel
  pub quiet-sum : (f : Set → ℤ) (xs : Set) → Rises xs → Within xs ground → Alternates f → sum_sub f xs ≡ sum_sub (λ s. cond (quiet xs s) (f s) (pos 0)) xs
  quiet-sum f [] r w alt = refl
  quiet-sum f (x ∷ xs) r w alt =
      sym (sum-add (λ s. f (x ∷ s)) f xs)
      ∙ quiet-sum (λ s. f (x ∷ s) +ℤ f s) xs r.1 (within-tail x xs ground w)
      (λ t u y wt wu g h. four (f (x ∷ (t ++ y ∷ u))) (f (t ++ y ∷ u)) (f (x ∷ (t ++ u))) (f (t ++ u)) (alt (x ∷ t) u y (within-cons x t ground gx wt) wu g h) (alt t u y wt wu g h))
      ∙ sum_same (λ s. cond (quiet xs s) (f (x ∷ s) +ℤ f s) (pos 0)) (λ s. cond (quiet (x ∷ xs) (x ∷ s)) (f (x ∷ s)) (pos 0) +ℤ cond (quiet (x ∷ xs) s) (f s) (pos 0)) xs r.1 at
      ∙ sum-add (λ s. cond (quiet (x ∷ xs) (x ∷ s)) (f (x ∷ s)) (pos 0)) (λ s. cond (quiet (x ∷ xs) s) (f s) (pos 0)) xs
    where
      gx : contains ground x ≡ true
      gx = w x (head_in x xs)

      four : (a b c d : ℤ) → a +ℤ c ≡ pos 0 → b +ℤ d ≡ pos 0 → (a +ℤ b) +ℤ (c +ℤ d) ≡ pos 0
      four a b c d e h = omega (arith, ints)

      join : (c q : Bool) (a b : ℤ) → (c ≡ true → a +ℤ b ≡ pos 0) → cond q (a +ℤ b) (pos 0) ≡ cond (not c && q) a (pos 0) +ℤ cond (not c && q) b (pos 0)
      join true true a b h = h refl
      join true false a b h = refl
      join false true a b h = refl
      join false false a b h = refl

      at : (s : Set) → Rises s → Within s xs → cond (quiet xs s) (f (x ∷ s) +ℤ f s) (pos 0) ≡ cond (quiet (x ∷ xs) (x ∷ s)) (f (x ∷ s)) (pos 0) +ℤ cond (quiet (x ∷ xs) s) (f s) (pos 0)
      at s rs ws =
          let rx : Rises (x ∷ s) = ((λ y k. r.0 y (ws y k)), rs) in
          let a : above x (x ∷ s) ≡ s = above-head x s rx in
          let b : above x s ≡ s = above_all x s rx.0 in
          join (contains (closure s) x) (quiet xs s) (f (x ∷ s)) (f s) (alt [] s x (λ i k. clash (sym k)) (λ i k. w i (or_right (x == i) (contains xs i) (ws i k))) gx)
          ∙ (λ i. cond (not (contains (closure (sym a i)) x) && sym (quiet-cons x xs s r) i) (f (x ∷ s)) (pos 0) +ℤ cond (not (contains (closure (sym b i)) x) && quiet xs s) (f s) (pos 0))

  pub sign-between : (t u : Set) (x : ℕ) → sign (length (t ++ x ∷ u)) ≡ neg_ℤ (sign (length (t ++ u)))
  sign-between [] u x = refl
  sign-between (y ∷ t) u x = ap neg_ℤ (sign-between t u x)

  pub within-append : (s t u : Set) → Within s u → Within t u → Within (s ++ t) u
  within-append s t u w v i h = elim (or_case (contains s i) (contains t i) (sym (contains-append s t i) ∙ h)) as (λ _. contains u i ≡ true) [
    | inl k ↦ w i k
    | inr k ↦ v i k
  ]

  pub left-append : (s t : Set) → Within s (s ++ t)
  left-append s t i h = contains-append s t i ∙ or_left (contains s i) (contains t i) h

  pub right-append : (s t : Set) → Within t (s ++ t)
  right-append s t i h = contains-append s t i ∙ or_right (contains s i) (contains t i) h

  -- a number of the closure of u changes no closure
  pub closure-between : (t u : Set) (x : ℕ) → Within t ground → Within u ground → contains ground x ≡ true → contains (closure u) x ≡ true → closure (t ++ x ∷ u) ≡ closure (t ++ u)
  closure-between t u x wt wu g h =
      let wide : Within (t ++ u) (closure (t ++ u)) = laws.extensive (t ++ u) (within-append t u ground wt wu) in
      let full : Within (t ++ x ∷ u) (closure (t ++ x ∷ u)) = laws.extensive (t ++ x ∷ u) (within-append t (x ∷ u) ground wt (within-cons x u ground g wu)) in
      closure-same M (t ++ x ∷ u) (t ++ u)
      (within-append t (x ∷ u) (closure (t ++ u)) (λ i k. wide i (left-append t u i k))
      (within-cons x u (closure (t ++ u)) (laws.monotone u (t ++ u) (right-append t u) x h) (λ i k. wide i (right-append t u i k))))
      (within-append t u (closure (t ++ x ∷ u)) (λ i k. full i (left-append t (x ∷ u) i k)) (λ i k. full i (right-append t (x ∷ u) i (or_right (x == i) (contains u i) k))))

  -- a test of the closure with the sign of the size
  pub closure-alternates : (test : Set → Bool) → Alternates (λ s. cond (test (closure s)) (sign (length s)) (pos 0))
  closure-alternates test t u x wt wu g h =
      (λ i. cond (test (closure-between t u x wt wu g h i)) (sign-between t u x i) (pos 0) +ℤ cond (test (closure (t ++ u))) (sign (length (t ++ u))) (pos 0))
      ∙ cancel (test (closure (t ++ u))) (sign (length (t ++ u)))

  pub rank-between : (t u : Set) (x : ℕ) → Within t ground → Within u ground → contains ground x ≡ true → contains (closure u) x ≡ true → rank (t ++ x ∷ u) ≡ rank (t ++ u)
  rank-between t u x wt wu g h =
      sym (laws.rank_closure (t ++ x ∷ u) (within-append t (x ∷ u) ground wt (within-cons x u ground g wu)))
      ∙ ap rank (closure-between t u x wt wu g h)
      ∙ laws.rank_closure (t ++ u) (within-append t u ground wt wu)

  pub rank-alternates : (k : ℕ) → Alternates (λ s. cond (rank s == k) (sign (length s)) (pos 0))
  rank-alternates k t u x wt wu g h =
      (λ i. cond (rank-between t u x wt wu g h i == k) (sign-between t u x i) (pos 0) +ℤ cond (rank (t ++ u) == k) (sign (length (t ++ u))) (pos 0))
      ∙ cancel (rank (t ++ u) == k) (sign (length (t ++ u)))

  abbrev Nbc : Set → Bool
  Nbc s = is_nbc M s

  -- the expansion is a sum over the sets without broken circuit
  pub expansion-nbc : (f : Set) → expansion M f ≡ sum_sub (λ s. cond (Nbc s) (term M f s) (pos 0)) ground
  expansion-nbc f =
      quiet-sum (term M f) ground (ground-rises M) (λ i h. h) (closure-alternates (λ y. same_set y f))
      ∙ sum_same (λ s. cond (quiet ground s) (term M f s) (pos 0)) (λ s. cond (Nbc s) (term M f s) (pos 0)) ground (ground-rises M)
      (λ s r w. ap (λ b. cond b (term M f s) (pos 0)) (sym (nbc-quiet M s r w)))

  under : (b : Bool) (x y : ℤ) → (b ≡ true → x ≡ y) → cond b x (pos 0) ≡ cond b y (pos 0)
  under true x y h = h refl
  under false x y h = refl

  -- the sets without broken circuit with a given closure all have its rank as their size
  nbc-term : (f s : Set) → Rises f → Rises s → Within s ground → cond (Nbc s) (term M f s) (pos 0) ≡ cond (Nbc s && same_set (closure s) f) (sign (rank f)) (pos 0)
  nbc-term f s rf rs ws =
      cond-pair (Nbc s) (same_set (closure s) f) (sign (length s))
      ∙ under (Nbc s && same_set (closure s) f) (sign (length s)) (sign (rank f)) (λ h. ap sign
      (sym (nbc-rank M s rs ws (first_true (Nbc s) (same_set (closure s) f) h))
      ∙ sym (laws.rank_closure s ws)
      ∙ ap rank (same_set-to (closure s) f (laws.closure_rises s) rf (second_true (Nbc s) (same_set (closure s) f) h))))

  -- Whitney: at a flat the Möbius function is (-1)^rank times the number of sets without broken circuit that have the flat as their closure
  pub whitney : (f : Set) → Rises f → Within f ground → closure f ≡ f
      → mobius M f ≡ sign (rank f) *ℤ pos (length (filter (λ s. Nbc s && same_set (closure s) f) sets))
  whitney f rf wf e =
      mobius-sets M f rf wf e
      ∙ expansion-nbc f
      ∙ sum_same (λ s. cond (Nbc s) (term M f s) (pos 0)) (λ s. cond (Nbc s && same_set (closure s) f) (sign (rank f)) (pos 0)) ground (ground-rises M) (λ s rs ws. nbc-term f s rf rs ws)
      ∙ sym (sum-sets_within M.size (λ s. cond (Nbc s && same_set (closure s) f) (sign (rank f)) (pos 0)))
      ∙ sign-count (rank f) (λ s. Nbc s && same_set (closure s) f) sets

  -- the sum of the Möbius function over the flats of rank k is (-1)^k times the number of sets of k members without broken circuit
  pub rank_sum-nbc : (k : ℕ) → sum_over (mobius M) (filter (λ y. is_flat M y && (rank y == k)) sets) ≡ sign k *ℤ pos (length (filter (λ s. Nbc s && (length s == k)) sets))
  rank_sum-nbc k =
      rank_sum-sets M k
      ∙ quiet-sum (λ s. cond (rank s == k) (sign (length s)) (pos 0)) ground (ground-rises M) (λ i h. h) (rank-alternates k)
      ∙ sum_same (λ s. cond (quiet ground s) (cond (rank s == k) (sign (length s)) (pos 0)) (pos 0)) (λ s. cond (Nbc s && (length s == k)) (sign k) (pos 0)) ground (ground-rises M) at
      ∙ sym (sum-sets_within M.size (λ s. cond (Nbc s && (length s == k)) (sign k) (pos 0)))
      ∙ sign-count k (λ s. Nbc s && (length s == k)) sets
    where
      same : (n : ℕ) → cond (n == k) (sign n) (pos 0) ≡ cond (n == k) (sign k) (pos 0)
      same n = under (n == k) (sign n) (sign k) (λ h. ap sign (eqb-true n k h))

      both : (c : Bool) (r n : ℕ) → (c ≡ true → r ≡ n) → cond c (cond (r == k) (sign n) (pos 0)) (pos 0) ≡ cond (c && (n == k)) (sign k) (pos 0)
      both true r n h = ap (λ z. cond (z == k) (sign n) (pos 0)) (h refl) ∙ same n
      both false r n h = refl

      at : (s : Set) → Rises s → Within s ground → cond (quiet ground s) (cond (rank s == k) (sign (length s)) (pos 0)) (pos 0) ≡ cond (Nbc s && (length s == k)) (sign k) (pos 0)
      at s rs ws =
          ap (λ b. cond b (cond (rank s == k) (sign (length s)) (pos 0)) (pos 0)) (sym (nbc-quiet M s rs ws))
          ∙ both (Nbc s) (rank s) (length s) (λ h. nbc-rank M s rs ws h)
