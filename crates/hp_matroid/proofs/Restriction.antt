-- The law of triples: the coefficients of the whole are those of the deletion and of the restriction, one degree lower.
use Rattle.std.specs.Prelude.{List, [], ◌≡◌, ℕ, suc, ◌==◌, Bool, true, false, cond, not, ◌&&◌, ◌∷◌, ◌++◌, map, length, filter, ◌⊎◌, ℤ, pos, ◌+ℤ◌, ◌*ℤ◌, neg_ℤ}
use Rattle.std.specs.Cmp.{both_ways}
use Rattle.std.proofs.lemmas.Bool.{eqb-true, eq-eqb, ne_eqb, and_from}
use Rattle.std.proofs.lemmas.Int.{ints}
use mathlib.Core.Logic.{inl, inr}
use mathlib.Core.Path.{refl, sym, ap, ◌∙◌, subst}
use native.Mathlib.Omega.{arith}
use Rattle.hp_algebra.specs.Integers.{sign}
use Rattle.hp_lists.specs.Lists.{one_to}
use Rattle.hp_lists.proofs.Members.{first_true}
use Rattle.hp_sets.specs.Sets.{Set, contains, sets_within}
use Rattle.hp_matroid.specs.Matroids.{Rises, Within, Matroid}
use Rattle.hp_matroid.proofs.Subsets.{clash, or_right, decide, head_in, within-tail, within-cons, within-both, within-more, sum_sub, sum-neg, sum-zero}
use Rattle.hp_matroid.proofs.RisingLists.{filter-rises, rises-same}
use Rattle.hp_sets.proofs.SetLaws.{contains-filter}
use Rattle.hp_matroid.proofs.Expansion.{closure-same}
use Rattle.hp_matroid.proofs.Whitney.{within-append, left-append, right-append}
use Rattle.hp_matroid.proofs.Signs.{sign-cases}
use Rattle.hp_matroid.proofs.Triple.{sum_within, sum-renamed, remove, remove-within, remove-rises, IsSymmetric, sum-remove, remove_all, IsRepeat, sum-drop_all, remove_all-within, remove_all-rises, remove_all-keeps, remove_all-gone}
use Rattle.hp_matroid.proofs.Listing.{ground-rises}

-- the term of s in the sum over the sets of rank k, and that sum
abbrev pub part : (Set → ℕ) → ℕ → Set → ℤ
part rank k s = cond (rank s == k) (sign (length s)) (pos 0)

abbrev pub alternating : (Set → ℕ) → ℕ → Set → ℤ
alternating rank k xs = sum_sub (part rank k) xs

-- the numbers of the ground set without i under other names
pub record IsDeletion (ground : Set) (rank : Set → ℕ) (i : ℕ) (rest : Set) (rest_rank : Set → ℕ) (name : ℕ → ℕ) : Type 0 where
  pub names : map name rest ≡ remove i ground
  pub ranks : (s : Set) → Within s rest → rest_rank s ≡ rank (map name s)

-- Numbers of the ground set without i under other names, one at least of each class of those that have one closure with i.
pub record IsRestriction (ground : Set) (closure : Set → Set) (rank : Set → ℕ) (i : ℕ) (rest : Set) (rest_rank : Set → ℕ) (name : ℕ → ℕ) : Type 0 where
  pub rising : Rises (map name rest)
  pub within : Within (map name rest) (remove i ground)
  pub classes : (j : ℕ) → contains (remove i ground) j ≡ true → (k : ℕ) × (contains (map name rest) k ≡ true) × (contains (closure (i ∷ j ∷ [])) k ≡ true)
  pub ranks : (s : Set) → Within s rest → suc (rest_rank s) ≡ rank (i ∷ map name s)

length-map : (name : ℕ → ℕ) (s : Set) → length (map name s) ≡ length s
length-map name [] = refl
length-map name (x ∷ s) = ap suc (length-map name s)

suc-test : (a b : ℕ) → (suc a == suc b) ≡ (a == b)
suc-test a b = both_ways (suc a == suc b) (a == b) (λ e. eq-eqb a b (less a b (eqb-true (suc a) (suc b) e))) (λ e. eq-eqb (suc a) (suc b) (ap suc (eqb-true a b e)))
  where
    less : (a b : ℕ) → suc a ≡ suc b → a ≡ b
    less a b e = omega arith

module _ (M : Matroid) where
  open M use {closure, rank, laws}

  abbrev ground : Set
  ground = one_to M.size

  abbrev sets : List Set
  sets = sets_within M.size

  -- sets within the closures of each other have one rank
  pub rank-same : (s t : Set) → Within s ground → Within t ground → Within s (closure t) → Within t (closure s) → rank s ≡ rank t
  rank-same s t ws wt a b = sym (laws.rank_closure s ws) ∙ ap rank (closure-same M s t a b) ∙ laws.rank_closure t wt

  -- sets with the same members have one rank
  pub rank-members : (s t : Set) → Within s ground → Within t ground → Within s t → Within t s → rank s ≡ rank t
  rank-members s t ws wt a b = rank-same s t ws wt (λ i h. laws.extensive t wt i (a i h)) (λ i h. laws.extensive s ws i (b i h))

  -- only the empty set has rank 0
  pub rank-zero : (s : Set) → Within s ground → rank s ≡ 0 → s ≡ []
  rank-zero [] w e = refl
  rank-zero (x ∷ s) w e = step (decide (contains (closure s) x)) (rank-zero s (within-tail x s ground w))
    where
      none : (n : ℕ) → suc n ≡ 0 → ⊥
      none n e = omega arith

      gx : contains ground x ≡ true
      gx = w x (head_in x s)

      step : (contains (closure s) x ≡ true) ⊎ (contains (closure s) x ≡ false) → (rank s ≡ 0 → s ≡ []) → (x ∷ s) ≡ []
      step (inr h) ih = absurd (none (rank s) (sym (laws.rank_outside s x gx h) ∙ e))
      step (inl h) ih =
          let z : s ≡ [] = ih (sym (laws.rank_inside s x gx h) ∙ e) in
          clash (sym (ap (λ t. contains t x) (sym laws.no_loops) ∙ ap (λ t. contains (closure t) x) (sym z) ∙ h))

  pub swapped : (t u : Set) (x y : ℕ) → Within (t ++ x ∷ y ∷ u) (t ++ y ∷ x ∷ u)
  swapped t u x y = within-append M t (x ∷ y ∷ u) (t ++ y ∷ x ∷ u) (left-append M t (y ∷ x ∷ u))
      (within-cons x (y ∷ u) (t ++ y ∷ x ∷ u) (at x (within-more y (x ∷ u) (x ∷ u) (λ i h. h) x (head_in x u)))
      (within-cons y u (t ++ y ∷ x ∷ u) (at y (head_in y (x ∷ u))) (λ i h. at i (within-more y (x ∷ u) (x ∷ u) (λ i h. h) i (or_right (x == i) (contains u i) h)))))
    where
      at : (i : ℕ) → contains (y ∷ x ∷ u) i ≡ true → contains (t ++ y ∷ x ∷ u) i ≡ true
      at i h = right-append M t (y ∷ x ∷ u) i h

  -- the term of a set does not depend on the order of its list
  pub part-symmetric : (k : ℕ) → IsSymmetric ground (part rank k)
  part-symmetric k t u x y wt wu gx gy =
      λ i. cond (ranks i == k) (sign (lengths t i)) (pos 0)
    where
      in_ground : (x y : ℕ) → contains ground x ≡ true → contains ground y ≡ true → Within (t ++ x ∷ y ∷ u) ground
      in_ground x y gx gy = within-append M t (x ∷ y ∷ u) ground wt (within-cons x (y ∷ u) ground gx (within-cons y u ground gy wu))

      ranks : rank (t ++ x ∷ y ∷ u) ≡ rank (t ++ y ∷ x ∷ u)
      ranks = rank-members (t ++ x ∷ y ∷ u) (t ++ y ∷ x ∷ u) (in_ground x y gx gy) (in_ground y x gy gx) (swapped t u x y) (swapped t u y x)

      lengths : (t : Set) → length (t ++ x ∷ y ∷ u) ≡ length (t ++ y ∷ x ∷ u)
      lengths [] = refl
      lengths (z ∷ t) = ap suc (lengths t)

  -- the term of a set in the sum for the sets with i, one rank lower and with the other sign
  abbrev pub part_with : ℕ → ℕ → Set → ℤ
  part_with i k s = cond (rank (i ∷ s) == suc k) (sign (length s)) (pos 0)

  part_with-symmetric : (i k : ℕ) → contains ground i ≡ true → IsSymmetric ground (part_with i k)
  part_with-symmetric i k gi t u x y wt wu gx gy = λ j. cond (ranks j == suc k) (sign (lengths t j)) (pos 0)
    where
      wide : (x y : ℕ) → contains ground x ≡ true → contains ground y ≡ true → Within (i ∷ t ++ x ∷ y ∷ u) ground
      wide x y gx gy = within-cons i (t ++ x ∷ y ∷ u) ground gi (within-append M t (x ∷ y ∷ u) ground wt (within-cons x (y ∷ u) ground gx (within-cons y u ground gy wu)))

      ranks : rank (i ∷ t ++ x ∷ y ∷ u) ≡ rank (i ∷ t ++ y ∷ x ∷ u)
      ranks = rank-members (i ∷ t ++ x ∷ y ∷ u) (i ∷ t ++ y ∷ x ∷ u) (wide x y gx gy) (wide y x gy gx) (swapped (i ∷ t) u x y) (swapped (i ∷ t) u y x)

      lengths : (t : Set) → length (t ++ x ∷ y ∷ u) ≡ length (t ++ y ∷ x ∷ u)
      lengths [] = refl
      lengths (z ∷ t) = ap suc (lengths t)

  -- sets without i, and sets with i
  pub whole-split : (i k : ℕ) → contains ground i ≡ true
      → alternating rank (suc k) ground ≡ alternating rank (suc k) (remove i ground) +ℤ neg_ℤ (sum_sub (part_with i k) (remove i ground))
  whole-split i k gi =
      sum-remove ground (part rank (suc k)) i ground (λ j h. h) gi (part-symmetric (suc k))
      ∙ ap (λ z. alternating rank (suc k) (remove i ground) +ℤ z)
      (sum_within (λ s. part rank (suc k) (i ∷ s)) (λ s. neg_ℤ (part_with i k s)) (remove i ground) (λ s w. turn (rank (i ∷ s) == suc k) (sign (length s)))
      ∙ sum-neg (part_with i k) (remove i ground))
    where
      turn : (b : Bool) (a : ℤ) → cond b (neg_ℤ a) (pos 0) ≡ neg_ℤ (cond b a (pos 0))
      turn true a = refl
      turn false a = refl

  pub whole-zero : (i : ℕ) → contains ground i ≡ true → alternating rank 0 ground ≡ alternating rank 0 (remove i ground)
  whole-zero i gi =
      sum-remove ground (part rank 0) i ground (λ j h. h) gi (part-symmetric 0)
      ∙ ap (λ z. alternating rank 0 (remove i ground) +ℤ z)
      (sum_within (λ s. part rank 0 (i ∷ s)) (λ s. pos 0) (remove i ground) (λ s w. none s (within-cons i s ground gi (λ j h. remove-within i ground j (w j h))))
      ∙ sum-zero (remove i ground))
      ∙ zero_right (alternating rank 0 (remove i ground))
    where
      zero_right : (a : ℤ) → a +ℤ pos 0 ≡ a
      zero_right a = omega (arith, ints)

      apart : (s : Set) → (i ∷ s) ≡ [] → ⊥
      apart s e = cc

      none : (s : Set) → Within (i ∷ s) ground → part rank 0 (i ∷ s) ≡ pos 0
      none s w = ap (λ b. cond b (sign (length (i ∷ s))) (pos 0)) (ne_eqb (rank (i ∷ s)) 0 (λ e. apart s (rank-zero (i ∷ s) w e)))

  -- numbers that have one closure with i may be left out but one
  pub repeats-dropped : (i k : ℕ) (ys : Set) → contains ground i ≡ true → Rises ys → Within ys (remove i ground)
      → ((j : ℕ) → contains (remove i ground) j ≡ true → (l : ℕ) × (contains ys l ≡ true) × (contains (closure (i ∷ j ∷ [])) l ≡ true))
      → sum_sub (part_with i k) (remove i ground) ≡ sum_sub (part_with i k) ys
  repeats-dropped i k ys gi ry wy classes =
      sum-drop_all ground (part_with i k) zs rest rz wz wr (part_with-symmetric i k gi)
      (λ j h. let c = classes j (wz j h) in (c.0, wy c.0 c.1, kept c.0 c.1, repeat j c.0 (wr j (wz j h)) (wr c.0 (wy c.0 c.1)) c.2))
      ∙ ap (sum_sub (part_with i k)) (rises-same (remove_all ground zs rest) ys (remove_all-rises ground zs rest rr) ry left right)
    where
      rest : Set
      rest = remove i ground

      rr : Rises rest
      rr = remove-rises i ground (ground-rises M)

      wr : Within rest ground
      wr j h = remove-within i ground j h

      zs : Set
      zs = filter (λ j. not (contains ys j)) rest

      member : (j : ℕ) → contains zs j ≡ (contains rest j && not (contains ys j))
      member j = contains-filter (λ l. not (contains ys l)) j rest

      wz : Within zs rest
      wz j h = first_true (contains rest j) (not (contains ys j)) (sym (member j) ∙ h)

      rz : Rises zs
      rz = (filter-rises (λ j. not (contains ys j)) rest rr).0

      and_false : (a b : Bool) → b ≡ false → (a && b) ≡ false
      and_false true b e = e
      and_false false b e = refl

      kept : (j : ℕ) → contains ys j ≡ true → contains zs j ≡ false
      kept j h = member j ∙ and_false (contains rest j) (not (contains ys j)) (ap not h)

      left : Within (remove_all ground zs rest) ys
      left j h = elim (decide (contains ys j)) as (λ _. contains ys j ≡ true) [
        | inl e ↦ e
        | inr e ↦ absurd (remove_all-gone ground zs rest j rr (member j ∙ and_from (contains rest j) (not (contains ys j)) (remove_all-within ground zs rest j h) (ap not e)) h)
      ]

      right : Within ys (remove_all ground zs rest)
      right j h = remove_all-keeps ground zs rest j (wy j h) (kept j h)

      cancel : (b : Bool) (a : ℤ) → cond b (neg_ℤ (neg_ℤ a)) (pos 0) +ℤ cond b (neg_ℤ a) (pos 0) ≡ pos 0
      cancel true a = none (neg_ℤ a)
        where
          none : (a : ℤ) → neg_ℤ a +ℤ a ≡ pos 0
          none a = omega (arith, ints)
      cancel false a = refl

      repeat : (j l : ℕ) → contains ground j ≡ true → contains ground l ≡ true → contains (closure (i ∷ j ∷ [])) l ≡ true → IsRepeat ground (part_with i k) j l
      repeat j l gj gl h s ws =
          ap (λ r. cond (r == suc k) (neg_ℤ (neg_ℤ (sign (length s)))) (pos 0) +ℤ cond (rank (i ∷ j ∷ s) == suc k) (neg_ℤ (sign (length s))) (pos 0)) ranks
          ∙ cancel (rank (i ∷ j ∷ s) == suc k) (sign (length s))
        where
          small : Within (i ∷ j ∷ s) ground
          small = within-cons i (j ∷ s) ground gi (within-cons j s ground gj ws)

          large : Within (i ∷ j ∷ l ∷ s) ground
          large = within-cons i (j ∷ l ∷ s) ground gi (within-cons j (l ∷ s) ground gj (within-cons l s ground gl ws))

          narrow : Within (i ∷ j ∷ []) (i ∷ j ∷ s)
          narrow = within-both i (j ∷ []) (j ∷ s) (within-both j [] s (λ p q. clash (sym q)))

          base : Within (i ∷ j ∷ s) (closure (i ∷ j ∷ s))
          base = laws.extensive (i ∷ j ∷ s) small

          there : Within (i ∷ j ∷ l ∷ s) (closure (i ∷ j ∷ s))
          there = within-cons i (j ∷ l ∷ s) (closure (i ∷ j ∷ s)) (base i (head_in i (j ∷ s)))
              (within-cons j (l ∷ s) (closure (i ∷ j ∷ s)) (base j (or_right (i == j) (contains (j ∷ s) j) (head_in j s)))
              (within-cons l s (closure (i ∷ j ∷ s)) (laws.monotone (i ∷ j ∷ []) (i ∷ j ∷ s) narrow l h)
              (λ p q. base p (or_right (i == p) (contains (j ∷ s) p) (or_right (j == p) (contains s p) q)))))

          back : Within (i ∷ j ∷ s) (closure (i ∷ j ∷ l ∷ s))
          back p q = laws.extensive (i ∷ j ∷ l ∷ s) large p (within-both i (j ∷ s) (j ∷ l ∷ s) (within-both j s (l ∷ s) (within-more l s s (λ a b. b))) p q)

          ranks : rank (i ∷ j ∷ l ∷ s) ≡ rank (i ∷ j ∷ s)
          ranks = rank-same (i ∷ j ∷ l ∷ s) (i ∷ j ∷ s) large small there back

  -- ---- the deletion and the restriction under names of their own

  pub deletion-part : (i k : ℕ) (rest : Set) (rest_rank : Set → ℕ) (name : ℕ → ℕ) → IsDeletion ground rank i rest rest_rank name → alternating rank k (remove i ground) ≡ alternating rest_rank k rest
  deletion-part i k rest rest_rank name d =
      ap (alternating rank k) (sym d.names)
      ∙ sum-renamed (part rank k) name rest
      ∙ sum_within (λ s. part rank k (map name s)) (part rest_rank k) rest (λ s w. λ j. cond (sym (d.ranks s w) j == k) (sign (length-map name s j)) (pos 0))

  pub restriction-part : (i k : ℕ) (rest : Set) (rest_rank : Set → ℕ) (name : ℕ → ℕ) → contains ground i ≡ true → IsRestriction ground closure rank i rest rest_rank name
      → sum_sub (part_with i k) (remove i ground) ≡ alternating rest_rank k rest
  restriction-part i k rest rest_rank name gi d =
      repeats-dropped i k (map name rest) gi d.rising d.within d.classes
      ∙ sum-renamed (part_with i k) name rest
      ∙ sum_within (λ s. part_with i k (map name s)) (part rest_rank k) rest (λ s w.
      (λ j. cond (sym (d.ranks s w) j == suc k) (sign (length-map name s j)) (pos 0)) ∙ ap (λ b. cond b (sign (length s)) (pos 0)) (suc-test (rest_rank s) k))

  -- the law of triples in degree k + 1
  pub triple : (i k : ℕ) (deleted restricted : Set) (deleted_rank restricted_rank : Set → ℕ) (deleted_name restricted_name : ℕ → ℕ)
      → contains ground i ≡ true
      → IsDeletion ground rank i deleted deleted_rank deleted_name
      → IsRestriction ground closure rank i restricted restricted_rank restricted_name
      → alternating rank (suc k) ground *ℤ sign (suc k) ≡ alternating deleted_rank (suc k) deleted *ℤ sign (suc k) +ℤ alternating restricted_rank k restricted *ℤ sign k
  triple i k deleted restricted dr rr dn rn gi d r =
      ap (λ z. z *ℤ sign (suc k)) (whole-split i k gi ∙ (λ j. deletion-part i (suc k) deleted dr dn d j +ℤ neg_ℤ (restriction-part i k restricted rr rn gi r j)))
      ∙ signed (alternating dr (suc k) deleted) (alternating rr k restricted) (sign k) (sign-cases k)
    where
      plus : (a b : ℤ) → (a +ℤ neg_ℤ b) *ℤ neg_ℤ (pos 1) ≡ a *ℤ neg_ℤ (pos 1) +ℤ b *ℤ pos 1
      plus a b = omega (arith, ints)

      minus : (a b : ℤ) → (a +ℤ neg_ℤ b) *ℤ neg_ℤ (neg_ℤ (pos 1)) ≡ a *ℤ neg_ℤ (neg_ℤ (pos 1)) +ℤ b *ℤ neg_ℤ (pos 1)
      minus a b = omega (arith, ints)

      signed : (a b s : ℤ) → (s ≡ pos 1) ⊎ (s ≡ neg_ℤ (pos 1)) → (a +ℤ neg_ℤ b) *ℤ neg_ℤ s ≡ a *ℤ neg_ℤ s +ℤ b *ℤ s
      signed a b s (inl e) = subst (λ z. (a +ℤ neg_ℤ b) *ℤ neg_ℤ z ≡ a *ℤ neg_ℤ z +ℤ b *ℤ z) (sym e) (plus a b)
      signed a b s (inr e) = subst (λ z. (a +ℤ neg_ℤ b) *ℤ neg_ℤ z ≡ a *ℤ neg_ℤ z +ℤ b *ℤ z) (sym e) (minus a b)

  -- and in degree 0
  pub triple-zero : (i : ℕ) (deleted : Set) (deleted_rank : Set → ℕ) (deleted_name : ℕ → ℕ) → contains ground i ≡ true → IsDeletion ground rank i deleted deleted_rank deleted_name
      → alternating rank 0 ground ≡ alternating deleted_rank 0 deleted
  triple-zero i deleted dr dn gi d = whole-zero i gi ∙ deletion-part i 0 deleted dr dn d
