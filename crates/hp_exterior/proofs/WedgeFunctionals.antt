-- The values of a function on sets at the boundary of a set and at the wedge of two sets, from their definitions.
use Rattle.std.specs.Prelude.{◌≡◌, ℕ, zero, suc, ◌+◌, ◌<◌, ◌≤◌, ◌==◌, nat_lt, Bool, true, false, cond, ◌||◌, List, [], ◌∷◌, ◌++◌, map, length, remove, Contains, ◌⊎◌}
use Rattle.std.specs.List.{range_with_len}
use Rattle.std.proofs.lemmas.Bool.{eqb-true, eq-eqb, ltb-true, ltb-false, lt-ltb, le-ltb, ne_eqb, eqb-false}
use Rattle.std.proofs.lemmas.List.Sums.{sum_by-cons, sum_by-append}
use mathlib.Core.Logic.{inl, inr}
use mathlib.Core.Path.{refl, sym, ap, ◌∙◌, subst}
use native.Mathlib.Omega.{arith}
use Rattle.hp_lists.specs.Lists.{below}
use Rattle.hp_lists.proofs.Members.{not_both, Contains-here, Contains-later, Contains-cases}
use Rattle.hp_lists.proofs.NaturalSums.{one_if}
use Rattle.hp_lists.proofs.Ordered.{rises_of}
use Rattle.hp_algebra.specs.Ring.{RingOf, IsRing, IsCommutative}
use Rattle.hp_algebra.proofs.Rings.{mul_zero}
use Rattle.hp_sets.specs.Sets.{Set, IsSetWithin, contains, union}
use Rattle.hp_sets.proofs.SetLaws.{contains-Contains, Contains-contains, set-ext, those-set}
use Rattle.hp_sets.proofs.SetMembers.{union-members, members-union_left, members-union_right}
use Rattle.hp_sums.proofs.WeightedSums.{weighted}
use Rattle.hp_exterior.specs.Exterior.{inversions, meets, sign, wedge_of_sets, boundary_of_set}
use Rattle.hp_exterior.specs.SetSums.{below_in, inversions-rising, sum-union, union_nothing}
use Rattle.hp_exterior.specs.ExteriorRing.{of_wedge, sign-add, sign-value}
use Rattle.hp_exterior.proofs.Negations.{minus_one, neg_add, neg_zero}
use Rattle.hp_exterior.proofs.Functionals.{Values, at_boundary, at_insert, at_wedge, insert-value}
use Rattle.hp_exterior.proofs.Inserted.{Up, Up-lower, insert, insert-members, insert-up, members-insert, set_up, up_members, up_set}

module _ {F : Type 0} {ring : RingOf F} (laws : IsRing ring) (commutes : IsCommutative ring) where
  pub sign_next : (k : ℕ) (y : F) → ring.IsValue y
      → ring.mul (ring.mul (ring.neg ring.one) (sign ring k)) y ≡ ring.neg (ring.mul (sign ring k) y)
  sign_next k y v = laws.mul_assoc _ _ y (laws.neg_value _ laws.one_value) (sign-value laws commutes k) v ∙ minus_one laws _ (laws.mul_value _ y (sign-value laws commutes k) v)

  -- ---- the boundary of a set

  range_suc : (a n : ℕ) → range_with_len (a + 1) n ≡ map (λ k. suc k) (range_with_len a n)
  range_suc a zero = refl
  range_suc a (suc n) = both (next a) (range_suc (a + 1) n)
    where
      next : (a : ℕ) → a + 1 ≡ suc a
      next a = omega arith

      both : {x y : ℕ} {s t : List ℕ} → x ≡ y → s ≡ t → x ∷ s ≡ y ∷ t
      both e f = λ i. e i ∷ f i

  later : (g : Set → F) (gv : Values ring g) (x : ℕ) (s : Set) (js : List ℕ)
      → weighted ring g (map (λ j. (remove (x ∷ s) j, sign ring j)) (map (λ k. suc k) js))
      ≡ ring.neg (weighted ring (λ u. g (x ∷ u)) (map (λ j. (remove s j, sign ring j)) js))
  later g gv x s [] = sym (neg_zero laws)
  later g gv x s (j ∷ js) =
      let y = gv (x ∷ remove s j) in
      (λ i. ring.add (sign_next j (g (x ∷ remove s j)) y i) (later g gv x s js i))
      ∙ sym (neg_add laws _ _ (laws.mul_value _ _ (sign-value laws commutes j) y) (tail-value js))
    where
      tail-value : (js : List ℕ)
          → ring.IsValue (weighted ring (λ u. g (x ∷ u)) (map (λ j. (remove s j, sign ring j)) js))
      tail-value [] = laws.zero_value
      tail-value (k ∷ js) = laws.add_value _ _ (laws.mul_value _ _ (sign-value laws commutes k) (gv (x ∷ remove s k))) (tail-value js)

  pub at-boundary : (g : Set → F) (gv : Values ring g) (s : Set)
      → weighted ring g (boundary_of_set ring s) ≡ at_boundary ring g s
  at-boundary g gv [] = refl
  at-boundary g gv (x ∷ s) =
      ap (λ (js : List ℕ). ring.add (ring.mul ring.one (g s)) (weighted ring g (map (λ j. (remove (x ∷ s) j, sign ring j)) js))) (range_suc 0 (length s))
      ∙ (λ i. ring.add (laws.one_mul (g s) (gv s) i) ((later g gv x s (below (length s)) ∙ ap ring.neg (at-boundary (λ u. g (x ∷ u)) (λ u. gv (x ∷ u)) s)) i))

  -- ---- the wedge of two sets

  above-none : (x a n : ℕ) (u : Set) → x ≤ a → Up a n u → (contains u x ≡ false) × (below_in u x ≡ 0)
  above-none x a n [] l h = (refl, refl)
  above-none x a n (y ∷ u) l h =
      let r = above-none x y n u (weak x a y l h.0) h.2 in
      let e : one_if (nat_lt y x) ≡ 0 = ap one_if (le-ltb y x (weak x a y l h.0)) in
      (ap (λ b. b || contains u x) (ne_eqb y x (differ x a y l h.0)) ∙ r.0, sum_by-cons (λ z. one_if (nat_lt z x)) y u ∙ plus _ _ e r.1)
    where
      weak : (x a y : ℕ) → x ≤ a → a < y → x ≤ y
      weak x a y l m = omega arith

      differ : (x a y : ℕ) → x ≤ a → a < y → y ≡ x → ⊥
      differ x a y l m e = omega arith

      plus : (a b : ℕ) → a ≡ 0 → b ≡ 0 → a + b ≡ 0
      plus a b e f = omega arith

  insert-formula : (x a n : ℕ) (g : Set → F) (u : Set) → Values ring g → Up a n u
      → at_insert ring x g u ≡ cond (contains u x) ring.zero (ring.mul (sign ring (below_in u x)) (g (insert x u)))
  insert-formula x a n g [] v h = sym (laws.one_mul _ (v (x ∷ [])))
  insert-formula x a n g (y ∷ u) v h = step (insert-formula x y n (λ w. g (y ∷ w)) u (λ w. v (y ∷ w)) h.2) (nat_lt x y) refl (x == y) refl
    where
      flat_case : nat_lt x y ≡ true
          → g (x ∷ y ∷ u)
          ≡ cond (contains (y ∷ u) x) ring.zero (ring.mul (sign ring (below_in (y ∷ u) x)) (g (x ∷ y ∷ u)))
      flat_case e =
          let l : x < y = ltb-true x y e in
          let r = above-none x x n (y ∷ u) (same x) (l, h.1, h.2) in
          sym ((λ i. cond (r.0 i) ring.zero (ring.mul (sign ring (r.1 i)) (g (x ∷ y ∷ u)))) ∙ laws.one_mul _ (v (x ∷ y ∷ u)))
        where
          same : (x : ℕ) → x ≤ x
          same x = omega arith

      last : (b : Bool) (k m : ℕ) (z : F) → ring.IsValue z → m ≡ suc k
          → ring.neg (cond b ring.zero (ring.mul (sign ring k) z)) ≡ cond b ring.zero (ring.mul (sign ring m) z)
      last true k m z w e = neg_zero laws
      last false k m z w e = sym (ap (λ j. ring.mul (sign ring j) z) e ∙ sign_next k z w)

      step : at_insert ring x (λ w. g (y ∷ w)) u
          ≡ cond (contains u x) ring.zero (ring.mul (sign ring (below_in u x)) (g (y ∷ insert x u)))
          → (b : Bool) → nat_lt x y ≡ b → (c : Bool) → (x == y) ≡ c
          → cond b (g (x ∷ y ∷ u)) (cond c ring.zero (ring.neg (at_insert ring x (λ w. g (y ∷ w)) u)))
          ≡ cond (contains (y ∷ u) x) ring.zero (ring.mul (sign ring (below_in (y ∷ u) x)) (g (cond b (x ∷ y ∷ u) (cond c (y ∷ u) (y ∷ insert x u)))))
      step r true e c d = flat_case e
      step r false e true d =
          sym (ap (λ b. cond b ring.zero (ring.mul (sign ring (below_in (y ∷ u) x)) (g (y ∷ u)))) (ap (λ b. b || contains u x) (eq-eqb y x (sym (eqb-true x y d)))))
      step r false e false d =
          ap ring.neg r ∙ last (contains u x) (below_in u x) (below_in (y ∷ u) x) (g (y ∷ insert x u)) (v (y ∷ insert x u)) (sum_by-cons (λ z. one_if (nat_lt z x)) y u ∙ counted _ _ (ap one_if (lt-ltb y x (under x y (ltb-false x y e) (eqb-false x y d)))))
          ∙ ap (λ b. cond b ring.zero (ring.mul (sign ring (below_in (y ∷ u) x)) (g (y ∷ insert x u)))) (sym (ap (λ b. b || contains u x) (ne_eqb y x (λ i. eqb-false x y d (sym i)))))
        where
          under : (x y : ℕ) → y ≤ x → (x ≡ y → ⊥) → y < x
          under x y l n = omega arith

          counted : (o k : ℕ) → o ≡ 1 → o + k ≡ suc k
          counted o k e = omega arith

  -- e_S ∧ e_T by the sign of the sorting permutation is the wedge with one member after the other
  pub wedge-formula : (g : Set → F) (s t : Set) → Values ring g → IsSetWithin 64 s → IsSetWithin 64 t
      → at_wedge ring g s t ≡ cond (meets s t) ring.zero (ring.mul (sign ring (inversions (s ++ t))) (g (union s t)))
  wedge-formula g [] t v h k =
      sym ((λ i. ring.mul (sign ring (inversions-rising t (rises_of t k.rising) i)) (g (union_nothing t k i))) ∙ laws.one_mul (g t) (v t))
  wedge-formula g (x ∷ s) t v h k =
      let up = set_up 64 (x ∷ s) h in
      let hs = up_set 64 s (Up-lower 0 x 64 s (low x) up.2) in
      let us = those-set (λ i. contains s i || contains t i) in
      wedge-formula (at_insert ring x g) s t (λ u. insert-value laws x g u v) hs k
      ∙ step hs up (meets s t) refl (insert-formula x 0 64 g (union s t) v (set_up 64 (union s t) us)) (contains t x) refl
    where
      low : (x : ℕ) → 0 ≤ x
      low x = omega arith

      inside : IsSetWithin 64 s → Contains t x → contains (union s t) x ≡ true
      inside hs c = Contains-contains (union s t) x (members-union_right s t x k c)

      outside : Up 0 64 (x ∷ s) → contains t x ≡ false → (b : Bool) → contains (union s t) x ≡ b → b ≡ false
      outside up d false e = refl
      outside up d true e = pick (union-members s t x (contains-Contains (union s t) x e))
        where
          clash : (x : ℕ) → x < x → ⊥
          clash x l = omega arith

          pick : Contains s x ⊎ Contains t x → true ≡ false
          pick (inl c) = absurd (clash x (up_members x 64 s x up.2 c).0)
          pick (inr c) = absurd (not_both _ (Contains-contains t x c) d)

      one_set : IsSetWithin 64 s → Up 0 64 (x ∷ s) → insert x (union s t) ≡ union (x ∷ s) t
      one_set hs up =
          set-ext 64 64 _ _ (up_set 64 _ (insert-up x 0 64 (union s t) up.0 up.1 (set_up 64 (union s t) (those-set _)))) (those-set _)
          (λ i c. from i (Contains-cases x (union s t) i (insert-members x (union s t) i c)))
          (λ i c. members-insert x (union s t) i (to i (union-members (x ∷ s) t i c)))
        where
          split : (i : ℕ) → Contains s i ⊎ Contains t i → Contains (union (x ∷ s) t) i
          split i (inl c) = members-union_left (x ∷ s) t i h (Contains-later x s i c)
          split i (inr c) = members-union_right (x ∷ s) t i k c

          from : (i : ℕ) → (x ≡ i) ⊎ Contains (union s t) i → Contains (union (x ∷ s) t) i
          from i (inl e) = members-union_left (x ∷ s) t i h (subst (λ z. Contains (x ∷ s) z) e (Contains-here x s))
          from i (inr c) = split i (union-members s t i c)

          inner : (i : ℕ) → (x ≡ i) ⊎ Contains s i → Contains (x ∷ union s t) i
          inner i (inl e) = subst (λ z. Contains (x ∷ union s t) z) e (Contains-here x (union s t))
          inner i (inr c) = Contains-later x (union s t) i (members-union_left s t i hs c)

          to : (i : ℕ) → Contains (x ∷ s) i ⊎ Contains t i → Contains (x ∷ union s t) i
          to i (inl c) = inner i (Contains-cases x s i c)
          to i (inr c) = Contains-later x (union s t) i (members-union_right s t i k c)

      counts : IsSetWithin 64 s → meets s t ≡ false
          → inversions (s ++ t) + below_in (union s t) x ≡ inversions (x ∷ s ++ t)
      counts hs m =
          let a = sum-union s t hs k m (λ y. one_if (nat_lt y x)) in
          let b = sum_by-append (λ y. one_if (nat_lt y x)) s t in
          omega (arith, a, b)

      step : IsSetWithin 64 s → Up 0 64 (x ∷ s) → (m : Bool) → meets s t ≡ m
          → at_insert ring x g (union s t)
          ≡ cond (contains (union s t) x) ring.zero (ring.mul (sign ring (below_in (union s t) x)) (g (insert x (union s t))))
          → (c : Bool) → contains t x ≡ c
          → cond m ring.zero (ring.mul (sign ring (inversions (s ++ t))) (at_insert ring x g (union s t)))
          ≡ cond (c || m) ring.zero (ring.mul (sign ring (inversions (x ∷ s ++ t))) (g (union (x ∷ s) t)))
      step hs up true m f true d = refl
      step hs up true m f false d = refl
      step hs up false m f true d =
          ap (ring.mul (sign ring (inversions (s ++ t)))) (f ∙ ap (λ b. cond b ring.zero (ring.mul (sign ring (below_in (union s t) x)) (g (insert x (union s t))))) (inside hs (contains-Contains t x d)))
          ∙ mul_zero laws _ (sign-value laws commutes _)
      step hs up false m f false d =
          ap (ring.mul (sign ring (inversions (s ++ t)))) (f ∙ ap (λ b. cond b ring.zero (ring.mul (sign ring (below_in (union s t) x)) (g (insert x (union s t))))) (outside up d _ refl))
          ∙ sym (laws.mul_assoc _ _ _ (sign-value laws commutes _) (sign-value laws commutes _) (v _))
          ∙ (λ i. ring.mul (sign-add laws commutes (inversions (s ++ t)) (below_in (union s t) x) i) (g (one_set hs up i)))
          ∙ ap (λ j. ring.mul (sign ring j) (g (union (x ∷ s) t))) (counts hs m)

  pub at-wedge : (g : Set → F) (gv : Values ring g) (s t : Set) → IsSetWithin 64 s → IsSetWithin 64 t
      → weighted ring g (wedge_of_sets ring s t) ≡ at_wedge ring g s t
  at-wedge g gv s t h k = of_wedge laws commutes g s t ∙ pick (meets s t) ∙ sym (wedge-formula g s t gv h k)
    where
      pick : (b : Bool)
          → cond b ring.zero (ring.add (ring.mul (sign ring (inversions (s ++ t))) (g (union s t))) ring.zero)
          ≡ cond b ring.zero (ring.mul (sign ring (inversions (s ++ t))) (g (union s t)))
      pick true = refl
      pick false = laws.add_zero _ (laws.mul_value _ _ (sign-value laws commutes _) (gv _))
