-- A faster way to the Möbius function: with one member i of a flat fixed, only the flats of one rank less without i count.
use Rattle.std.specs.Prelude.{[], ◌≡◌, ℕ, suc, ◌≤◌, ◌==◌, Bool, true, false, cond, not, ◌&&◌, List, ◌∷◌, ◌++◌, length, filter, ◌⊎◌, ℤ, pos, ◌+ℤ◌, neg_ℤ}
use Rattle.std.proofs.lemmas.Bool.{eqb-true, eq-eqb, and_from}
use Rattle.std.proofs.lemmas.Int.{ints}
use mathlib.Core.Logic.{inl, inr}
use mathlib.Core.Path.{refl, sym, ap, ◌∙◌, subst}
use native.Mathlib.Omega.{arith}
use Rattle.hp_algebra.specs.Integers.{sum_over, sign}
use Rattle.hp_lists.specs.Lists.{one_to}
use Rattle.hp_lists.proofs.Members.{first_true, second_true}
use Rattle.hp_sets.specs.Sets.{Set, contains, is_within, sets_within}
use Rattle.hp_matroid.specs.Matroids.{same_set, Rises, Within, is_flat, Matroid, mobius}
use Rattle.hp_matroid.proofs.Subsets.{or_right, not_true, decide, apart_true, head_in, within-tail, within-cons, within-more, sum_sub, sum-add, sum-neg, sum-zero}
use Rattle.hp_matroid.proofs.RisingLists.{rises-same, is_within-from, is_within-to, same_set-from, same_set-to}
use Rattle.hp_matroid.proofs.Expansion.{closure-same, closure_closure, term, expansion}
use Rattle.hp_matroid.proofs.Whitney.{within-append, left-append}
use Rattle.hp_matroid.proofs.Triple.{sum_within, remove, remove-within, IsSymmetric, sum-remove}
use Rattle.hp_matroid.proofs.Restriction.{rank-members, swapped}
use Rattle.hp_matroid.proofs.Recursion.{mobius-sets, sum-flats}

module _ (M : Matroid) where
  open M use {closure, rank, laws}

  abbrev ground : Set
  ground = one_to M.size

  abbrev sets : List Set
  sets = sets_within M.size

  -- one number more does not lower the rank
  pub rank-more : (x : ℕ) (s : Set) → contains ground x ≡ true → rank s ≤ rank (x ∷ s)
  rank-more x s g = step (decide (contains (closure s) x))
    where
      same : (a b : ℕ) → b ≡ a → a ≤ b
      same a b e = omega arith

      more : (a b : ℕ) → b ≡ suc a → a ≤ b
      more a b e = omega arith

      step : (contains (closure s) x ≡ true) ⊎ (contains (closure s) x ≡ false) → rank s ≤ rank (x ∷ s)
      step (inl h) = same (rank s) (rank (x ∷ s)) (laws.rank_inside s x g h)
      step (inr h) = more (rank s) (rank (x ∷ s)) (laws.rank_outside s x g h)

  rank-append : (t s : Set) → Within t ground → rank s ≤ rank (t ++ s)
  rank-append [] s w = low (rank s)
    where
      low : (n : ℕ) → n ≤ n
      low n = omega arith
  rank-append (x ∷ t) s w = trans (rank s) (rank (t ++ s)) (rank (x ∷ t ++ s)) (rank-append t s (within-tail x t ground w)) (rank-more x (t ++ s) (w x (head_in x t)))
    where
      trans : (a b c : ℕ) → a ≤ b → b ≤ c → a ≤ c
      trans a b c h l = omega arith

  -- the rank is monotone
  pub rank-monotone : (s t : Set) → Within s t → Within t ground → rank s ≤ rank t
  rank-monotone s t w wt =
      let ws : Within s ground = λ i h. wt i (w i h) in
      subst (λ n. rank s ≤ n)
      (rank-members M (t ++ s) t (within-append M t s ground wt ws) wt
      (within-append M t s t (λ i h. h) w) (left-append M t s))
      (rank-append t s wt)

  -- a closed set within a flat of the same rank is the flat
  pub flat-same : (s f : Set) → Within f ground → Within (closure s) f → rank (closure s) ≡ rank f → Within f (closure s)
  flat-same s f wf w e x h = elim (decide (contains (closure s) x)) as (λ _. contains (closure s) x ≡ true) [
    | inl g ↦ g
    | inr g ↦ absurd (none (rank (closure s)) (rank f) (rank (x ∷ closure s)) e
        (laws.rank_outside (closure s) x (wf x h) (ap (λ t. contains t x) (closure_closure M s) ∙ g))
        (rank-monotone (x ∷ closure s) f (within-cons x (closure s) f h w) wf))
  ]
    where
      none : (a b c : ℕ) → a ≡ b → c ≡ suc a → c ≤ b → ⊥
      none a b c e g l = omega arith

  -- a test of the closure does not depend on the order of the list
  pub closure-symmetric : (test : Set → Bool) → IsSymmetric ground (λ s. cond (test (closure s)) (sign (length s)) (pos 0))
  closure-symmetric test t u x y wt wu gx gy = λ i. cond (test (closures i)) (sign (lengths t i)) (pos 0)
    where
      wide : (x y : ℕ) → contains ground x ≡ true → contains ground y ≡ true → Within (t ++ x ∷ y ∷ u) ground
      wide x y gx gy = within-append M t (x ∷ y ∷ u) ground wt (within-cons x (y ∷ u) ground gx (within-cons y u ground gy wu))

      closures : closure (t ++ x ∷ y ∷ u) ≡ closure (t ++ y ∷ x ∷ u)
      closures = closure-same M (t ++ x ∷ y ∷ u) (t ++ y ∷ x ∷ u)
          (λ i h. laws.extensive (t ++ y ∷ x ∷ u) (wide y x gy gx) i (swapped M t u x y i h))
          (λ i h. laws.extensive (t ++ x ∷ y ∷ u) (wide x y gx gy) i (swapped M t u y x i h))

      lengths : (t : Set) → length (t ++ x ∷ y ∷ u) ≡ length (t ++ y ∷ x ∷ u)
      lengths [] = refl
      lengths (z ∷ t) = ap suc (lengths t)

  -- within f, without i, and of one rank less
  abbrev pub is_coatom : Set → ℕ → Set → Bool
  is_coatom f i y = is_within y f && (not (contains y i) && (suc (rank y) == rank f))

  module _ (f : Set) (i : ℕ) (rf : Rises f) (wf : Within f ground) (e : closure f ≡ f) (fi : contains f i ≡ true) where
    gi : contains ground i ≡ true
    gi = wf i fi

    -- the sets with closure f that are not paired off by i
    pair : (s : Set) → Within s ground → term M f s +ℤ term M f (i ∷ s) ≡ neg_ℤ (cond (is_coatom f i (closure s)) (sign (length s)) (pos 0))
    pair s ws = step (same_set (closure s) f) refl (same_set (closure (i ∷ s)) f) refl (is_coatom f i (closure s)) refl
      where
        is : Within (i ∷ s) ground
        is = within-cons i s ground gi ws

        absorbed : contains (closure s) i ≡ true → closure (i ∷ s) ≡ closure s
        absorbed h = closure-same M (i ∷ s) s (within-cons i s (closure s) h (laws.extensive s ws)) (λ j k. laws.extensive (i ∷ s) is j (or_right (i == j) (contains s j) k))

        has : same_set (closure s) f ≡ true → contains (closure s) i ≡ true
        has a = ap (λ t. contains t i) (same_set-to (closure s) f (laws.closure_rises s) rf a) ∙ fi

        first : same_set (closure s) f ≡ true → same_set (closure (i ∷ s)) f ≡ true
        first a = ap (λ t. same_set t f) (absorbed (has a)) ∙ a

        second : same_set (closure s) f ≡ true → is_coatom f i (closure s) ≡ true → ⊥
        second a c = apart_true (contains (closure s) i) (has a)
            (not_true (contains (closure s) i) (first_true (not (contains (closure s) i)) (suc (rank (closure s)) == rank f) (second_true (is_within (closure s) f) (not (contains (closure s) i) && (suc (rank (closure s)) == rank f)) c)))

        third : same_set (closure s) f ≡ false → same_set (closure (i ∷ s)) f ≡ true → is_coatom f i (closure s) ≡ true
        third a b =
            let g : closure (i ∷ s) ≡ f = same_set-to (closure (i ∷ s)) f (laws.closure_rises (i ∷ s)) rf b in
            let out : contains (closure s) i ≡ false = elim (decide (contains (closure s) i)) as (λ _. contains (closure s) i ≡ false) [
              | inl h ↦ apart_true (same_set (closure s) f) (same_set-from (closure s) f (sym (absorbed h) ∙ g)) a
              | inr h ↦ h
            ] in
            and_from (is_within (closure s) f) (not (contains (closure s) i) && (suc (rank (closure s)) == rank f))
            (is_within-from (closure s) f (λ j h. subst (λ t. contains t j ≡ true) g (laws.monotone s (i ∷ s) (within-more i s s (λ a b. b)) j h)))
            (and_from (not (contains (closure s) i)) (suc (rank (closure s)) == rank f) (ap not out)
            (eq-eqb (suc (rank (closure s))) (rank f) (ap suc (laws.rank_closure s ws) ∙ sym (laws.rank_outside s i gi out) ∙ sym (laws.rank_closure (i ∷ s) is) ∙ ap rank g)))

        fourth : is_coatom f i (closure s) ≡ true → same_set (closure (i ∷ s)) f ≡ true
        fourth c =
            let w : Within (closure s) f = is_within-to (closure s) f (first_true (is_within (closure s) f) (not (contains (closure s) i) && (suc (rank (closure s)) == rank f)) c) in
            let d : (not (contains (closure s) i) && (suc (rank (closure s)) == rank f)) ≡ true = second_true (is_within (closure s) f) (not (contains (closure s) i) && (suc (rank (closure s)) == rank f)) c in
            let out : contains (closure s) i ≡ false = not_true (contains (closure s) i) (first_true (not (contains (closure s) i)) (suc (rank (closure s)) == rank f) d) in
            let r : suc (rank (closure s)) ≡ rank f = eqb-true (suc (rank (closure s))) (rank f) (second_true (not (contains (closure s) i)) (suc (rank (closure s)) == rank f) d) in
            let inside : Within (closure (i ∷ s)) f = λ j h. subst (λ t. contains t j ≡ true) e (laws.monotone (i ∷ s) f (within-cons i s f fi (λ k q. w k (laws.extensive s ws k q))) j h) in
            same_set-from (closure (i ∷ s)) f (rises-same (closure (i ∷ s)) f (laws.closure_rises (i ∷ s)) rf inside
            (flat-same (i ∷ s) f wf inside (laws.rank_closure (i ∷ s) is ∙ laws.rank_outside s i gi out ∙ ap suc (sym (laws.rank_closure s ws)) ∙ r)))

        both : (a : ℤ) → a +ℤ neg_ℤ a ≡ pos 0
        both a = omega (arith, ints)

        one : (a : ℤ) → pos 0 +ℤ neg_ℤ a ≡ neg_ℤ a
        one a = omega (arith, ints)

        step : (a : Bool) → same_set (closure s) f ≡ a → (b : Bool) → same_set (closure (i ∷ s)) f ≡ b → (c : Bool) → is_coatom f i (closure s) ≡ c
            → cond a (sign (length s)) (pos 0) +ℤ cond b (neg_ℤ (sign (length s))) (pos 0) ≡ neg_ℤ (cond c (sign (length s)) (pos 0))
        step true p true q true r = absurd (second p r)
        step true p true q false r = both (sign (length s))
        step true p false q c r = apart_true (same_set (closure (i ∷ s)) f) (first p) q
        step false p true q true r = one (sign (length s))
        step false p true q false r = apart_true (is_coatom f i (closure s)) (third p q) r
        step false p false q true r = apart_true (same_set (closure (i ∷ s)) f) (fourth r) q
        step false p false q false r = refl

    abbrev weight : Set → ℤ
    weight s = cond (is_coatom f i (closure s)) (sign (length s)) (pos 0)

    -- sets with i are not below such a flat
    weight-without : sum_sub weight ground ≡ sum_sub weight (remove i ground)
    weight-without =
        sum-remove ground weight i ground (λ j h. h) gi (closure-symmetric (is_coatom f i))
        ∙ ap (λ z. sum_sub weight (remove i ground) +ℤ z) (sum_within (λ s. weight (i ∷ s)) (λ s. pos 0) (remove i ground) (λ s w. none s (within-cons i s ground gi (λ j h. remove-within i ground j (w j h)))) ∙ sum-zero (remove i ground))
        ∙ zero_right (sum_sub weight (remove i ground))
      where
        zero_right : (a : ℤ) → a +ℤ pos 0 ≡ a
        zero_right a = omega (arith, ints)

        gone : (a b c : Bool) (x : ℤ) → b ≡ true → cond (a && (not b && c)) x (pos 0) ≡ pos 0
        gone true b c x h = ap (λ d. cond (not d && c) x (pos 0)) h
        gone false b c x h = refl

        none : (s : Set) → Within (i ∷ s) ground → weight (i ∷ s) ≡ pos 0
        none s w = gone (is_within (closure (i ∷ s)) f) (contains (closure (i ∷ s)) i) (suc (rank (closure (i ∷ s))) == rank f) (sign (length (i ∷ s))) (laws.extensive (i ∷ s) w i (head_in i s))

    expansion-coatoms : expansion M f ≡ neg_ℤ (sum_sub weight ground)
    expansion-coatoms =
        sum-remove ground (term M f) i ground (λ j h. h) gi (closure-symmetric (λ y. same_set y f))
        ∙ sym (sum-add (term M f) (λ s. term M f (i ∷ s)) (remove i ground))
        ∙ sum_within (λ s. term M f s +ℤ term M f (i ∷ s)) (λ s. neg_ℤ (weight s)) (remove i ground) (λ s w. pair s (λ j h. remove-within i ground j (w j h)))
        ∙ sum-neg weight (remove i ground)
        ∙ ap neg_ℤ (sym weight-without)

    -- at a flat with the member i the Möbius function is minus its sum over the flats within, without i and of one rank less
    pub mobius-coatoms : mobius M f ≡ neg_ℤ (sum_over (mobius M) (filter (λ y. is_flat M y && is_coatom f i y) sets))
    mobius-coatoms =
        mobius-sets M f rf wf e
        ∙ expansion-coatoms
        ∙ ap neg_ℤ (sym (sum-flats M (is_coatom f i)))
