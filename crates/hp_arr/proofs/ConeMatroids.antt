-- The matroid of an affine arrangement: that of its cone without the hyperplane at infinity. Its sets with a common point are central, and its central flats are the flats.
use Rattle.std.specs.Prelude.{◌≡◌, ◌↔◌, ℕ, suc, ◌<◌, ◌≤◌, nat_lt, Bool, true, false, cond, ◌&&◌, List, [], ◌∷◌, length, take, ◌==◌, ◌||◌, Contains, ◌⊎◌}
use Rattle.std.proofs.lemmas.Bool.{and_from, ltb-true, ltb-false, eq-eqb}
use Rattle.std.proofs.lemmas.List.{length-map}
use mathlib.Core.Logic.{inl, inr}
use mathlib.Core.Path.{refl, sym, ap, ◌∙◌, subst}
use native.Mathlib.Omega.{arith}
use Rattle.hp_lists.specs.Lists.{one_to}
use Rattle.hp_lists.proofs.Members.{first_true, second_true, Contains-cases, Contains-none, Contains-here, Contains-later}
use Rattle.hp_sets.specs.Sets.{Set, IsSetWithin, contains, is_within}
use Rattle.hp_arr.specs.Arrangement.{indices, linear_part}
use Rattle.hp_arr.specs.Flats.{rank, has_point, closure, IsFlat, is_flat, greatest}
use Rattle.hp_arr.proofs.Cuts.{AreIndices, set-indices}
use Rattle.hp_arr.proofs.ArrangementMatroids.{matroid_over, ground-index, index-ground}
use Rattle.hp_sets.proofs.SetLaws.{Contains-contains, contains-Contains}
use Rattle.hp_matroid.specs.Matroids as abstract
use Rattle.hp_matroid.specs.Matroids.{Within, Matroid, same_set}
use Rattle.hp_matroid.proofs.Subsets.{clash, or_right, decide, within-cons}
use Rattle.hp_matroid.proofs.RisingLists.{same_set-to, same_set-from}
use Rattle.hp_matroid.proofs.RisingSets.{set-rises}
use Rattle.hp_matroid.proofs.Expansion.{closure_closure}
use Rattle.hp_matroid.proofs.Restriction.{rank-members}
use Rattle.hp_matroid.proofs.CentralSets.{IsCentral, central-closure}
use Rattle.hp_matroid.proofs.Infinity as infinity
use Rattle.hp_matroid.proofs.Infinity.{without_last, lacks_last, lacks-IsCentral}
use Rattle.hp_arr.proofs.ConePoints.{AffineSetting, n, cone_over, cone-count}
use Rattle.hp_arr.proofs.ConeCuts.{affine-set, has_point-cone, closure-affine}
use Rattle.hp_arr.proofs.ConeRanks.{rank-affine, rank-linear}

-- the greatest member of a list
pub greatest-low : (r : ℕ) (xs : List ℕ) → ((x : ℕ) → Contains xs x → x ≤ r) → greatest xs ≤ r
greatest-low r [] f = omega arith
greatest-low r (x ∷ xs) f = step (nat_lt (greatest xs) x) (f x (Contains-here x xs)) (greatest-low r xs (λ y d. f y (Contains-later x xs y d)))
  where
    step : (b : Bool) → x ≤ r → greatest xs ≤ r → cond b x (greatest xs) ≤ r
    step true p q = p
    step false p q = q

greatest-high : (xs : List ℕ) (y : ℕ) → Contains xs y → y ≤ greatest xs
greatest-high [] y d = absurd (Contains-none y d)
greatest-high (x ∷ xs) y d = step (nat_lt (greatest xs) x) refl (Contains-cases x xs y d) (greatest-high xs y)
  where
    under : (y x g : ℕ) → y ≤ g → g < x → y ≤ x
    under y x g p q = omega (arith, p, q)

    same : (y x : ℕ) → x ≡ y → y ≤ x
    same y x e = omega (arith, e)

    other : (y x g : ℕ) → x ≡ y → x ≤ g → y ≤ g
    other y x g e p = omega (arith, e, p)

    step : (b : Bool) → nat_lt (greatest xs) x ≡ b → (x ≡ y) ⊎ Contains xs y → (Contains xs y → y ≤ greatest xs) → y ≤ cond b x (greatest xs)
    step true e (inl p) ih = same y x p
    step true e (inr d) ih = under y x (greatest xs) (ih d) (ltb-true (greatest xs) x e)
    step false e (inl p) ih = other y x (greatest xs) p (ltb-false (greatest xs) x e)
    step false e (inr d) ih = ih d

pub greatest-is : (xs : List ℕ) (r : ℕ) → Contains xs r → ((x : ℕ) → Contains xs x → x ≤ r) → greatest xs ≡ r
greatest-is xs r c h = join (greatest xs) r (greatest-low r xs h) (greatest-high xs r c)
  where
    join : (a b : ℕ) → a ≤ b → b ≤ a → a ≡ b
    join a b p q = omega (arith, p, q)

module _ {K : Type 0} (A : AffineSetting K) where
  open A use {ring, inverse, numbers, arr}

  -- the matroid of the cone
  abbrev pub cone_matroid : Matroid
  cone_matroid = matroid_over (cone_over A)

  -- it without the hyperplane at infinity
  abbrev pub affine_matroid : Matroid
  affine_matroid = without_last (matroid_over (cone_over A)) (length A.arr.forms) (cone-count A)

  abbrev pub central : Set → Bool
  central s = lacks_last (matroid_over (cone_over A)) (length A.arr.forms) (cone-count A) s

  pub central-laws : IsCentral affine_matroid central
  central-laws = lacks-IsCentral cone_matroid (n A) (cone-count A)

  pub rows-indices : (s : Set) → Within s (one_to (n A)) → AreIndices arr s
  rows-indices s w i c = ground-index (n A) i (w i (Contains-contains s i c))

  pub indices-within : (s : Set) → AreIndices arr s → Within s (one_to (n A))
  indices-within s h i c = let r = h i (contains-Contains s i c) in index-ground (n A) i r.0 r.1

  -- what is said of a set by points, and by the matroid

  pub has_point-central : (s : Set) → AreIndices arr s → has_point ring numbers arr s ≡ central s
  has_point-central s h = has_point-cone A s h

  pub closure-matroid : (s : Set) → AreIndices arr s → has_point ring numbers arr s ≡ true → closure ring numbers arr s ≡ affine_matroid.closure s
  closure-matroid s h p = closure-affine A s h p ∙ sym (infinity.central-closure cone_matroid (n A) (cone-count A) s (sym (has_point-central s h) ∙ p))

  pub rank-matroid : (s : Set) → AreIndices arr s → has_point ring numbers arr s ≡ true → rank ring numbers arr s ≡ affine_matroid.rank s
  rank-matroid s h p = rank-affine A s h p

  -- the test for flats
  pub is_flat-central : (s : Set) → AreIndices arr s → is_flat ring numbers arr s ≡ (central s && abstract.is_flat affine_matroid s)
  unfolding is_flat
  is_flat-central s h = step (has_point ring numbers arr s) refl
    where
      step : (b : Bool) → has_point ring numbers arr s ≡ b
          → (has_point ring numbers arr s && (is_within (closure ring numbers arr s) s && is_within s (closure ring numbers arr s)))
          ≡ (central s && same_set (affine_matroid.closure s) s)
      step true e = λ j. has_point-central s h j && same_set (closure-matroid s h e j) s
      step false e =
          ap (λ b. b && (is_within (closure ring numbers arr s) s && is_within s (closure ring numbers arr s))) e
          ∙ sym (ap (λ b. b && same_set (affine_matroid.closure s) s) (sym (has_point-central s h) ∙ e))

  -- A flat is a central set that is its own closure in the matroid.
  pub record IsCentralFlat (f : Set) : Type 0 where
    pub set : IsSetWithin (n A) f
    pub pointed : central f ≡ true
    pub closed : affine_matroid.closure f ≡ f

  pub flat-central : (f : Set) → IsFlat ring numbers arr f → IsCentralFlat f
  flat-central f is =
      let s = is.0 in
      let h = set-indices arr s is.1 in
      let w = indices-within s h in
      let e : f ≡ affine_matroid.closure s = is.3 ∙ closure-matroid s h is.2 in
      record {
        set = subst (IsSetWithin (n A)) (sym is.3) (affine-set A s);
        pointed = ap central e ∙ central-closure affine_matroid central central-laws s w ∙ sym (has_point-central s h) ∙ is.2;
        closed = ap (λ z. affine_matroid.closure z) e ∙ closure_closure affine_matroid s ∙ sym e;
      }

  pub central-flat : (f : Set) → IsCentralFlat f → IsFlat ring numbers arr f
  central-flat f is =
      let h = set-indices arr f is.set in
      let p = has_point-central f h ∙ is.pointed in
      (f, is.set, p, sym (closure-matroid f h p ∙ is.closed))

  -- what a flat has
  pub flat-set : (f : Set) → IsFlat ring numbers arr f → IsSetWithin (n A) f
  flat-set f is = (flat-central f is).set

  pub flat-has_point : (f : Set) → IsFlat ring numbers arr f → has_point ring numbers arr f ≡ true
  flat-has_point f is = has_point-central f (set-indices arr f (flat-set f is)) ∙ (flat-central f is).pointed

  pub flat-of_flat : (f : Set) → IsFlat ring numbers arr f → closure ring numbers arr f ≡ f
  flat-of_flat f is = closure-matroid f (set-indices arr f (flat-set f is)) (flat-has_point f is) ∙ (flat-central f is).closed

  -- the test says whether a set is a flat
  pub is_flat-IsFlat : (s : Set) → IsSetWithin (n A) s → (is_flat ring numbers arr s ≡ true) ↔ IsFlat ring numbers arr s
  is_flat-IsFlat s w = (
    (λ e.
        let t = sym (is_flat-central s h) ∙ e in
        let p = first_true (central s) (abstract.is_flat affine_matroid s) t in
        central-flat s (record { set = w; pointed = p; closed = same_set-to (affine_matroid.closure s) s (affine_matroid.laws.closure_rises s) (set-rises (n A) s w).0 (second_true (central s) (abstract.is_flat affine_matroid s) t) })),
    λ is. let c = flat-central s is in is_flat-central s h ∙ and_from _ _ c.pointed (same_set-from (affine_matroid.closure s) s c.closed),
  )
    where
      h : AreIndices arr s
      h = set-indices arr s w

  -- ---- the greatest rank

  -- the hyperplane at infinity with all others has the rank of the cone
  whole-rank : cone_matroid.rank (suc (n A) ∷ one_to (n A)) ≡ cone_matroid.rank (one_to cone_matroid.size)
  whole-rank = rank-members cone_matroid (suc (n A) ∷ one_to (n A)) (one_to cone_matroid.size) inside (λ i h. h) inside
      (λ i h. at i h (decide (suc (n A) == i)))
    where
      inside : Within (suc (n A) ∷ one_to (n A)) (one_to cone_matroid.size)
      inside = within-cons (suc (n A)) (one_to (n A)) (one_to cone_matroid.size) (infinity.last-whole cone_matroid (n A) (cone-count A)) (infinity.rest-whole cone_matroid (n A) (cone-count A))

      differ : (i : ℕ) → (suc (n A) == i) ≡ false → suc (n A) ≡ i → ⊥
      differ i e z = clash (sym (eq-eqb (suc (n A)) i z) ∙ e)

      at : (i : ℕ) → contains (one_to cone_matroid.size) i ≡ true → ((suc (n A) == i) ≡ true) ⊎ ((suc (n A) == i) ≡ false) → contains (suc (n A) ∷ one_to (n A)) i ≡ true
      at i h (inl e) = ap (λ b. b || contains (one_to (n A)) i) e
      at i h (inr e) = or_right (suc (n A) == i) (contains (one_to (n A)) i) (infinity.whole-rest cone_matroid (n A) (cone-count A) i h (differ i e))

  -- The rank of the linear parts of all rows is one less than that of the cone.
  pub linear-total : (r : ℕ) → suc r ≡ cone_matroid.rank (one_to cone_matroid.size) → rank ring numbers (linear_part ring arr) (indices (linear_part ring arr)) ≡ r
  linear-total r e =
      ap (λ k. rank ring numbers (linear_part ring arr) (one_to k)) (length-map arr.forms (take arr.dim))
      ∙ rank-linear A (one_to (n A)) r (rows-indices (one_to (n A)) (λ i h. h)) (whole-rank ∙ sym e)
