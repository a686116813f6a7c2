-- Cuts and closures of an affine arrangement by its cone: a set has a common point exactly where its closure in the cone lacks the hyperplane at infinity, and then the closures are the same.
use Rattle.std.specs.Prelude.{◌≡◌, ◌≢◌, ℕ, suc, ◌+◌, ◌<◌, ◌≤◌, nat_lt, Bool, true, false, not, List, [], ◌∷◌, ◌++◌, length, Contains, ◌⊎◌}
use Rattle.std.specs.Cmp.{both_ways}
use Rattle.std.proofs.lemmas.Bool.{cases_Bool, lt-ltb, ltb-true}
use mathlib.Core.Logic.{inl, inr}
use mathlib.Core.Path.{refl, sym, ap, ◌∙◌, subst}
use native.Mathlib.Omega.{arith}
use Rattle.hp_algebra.specs.Rows.{IsRow, row_plus, row_scale}
use Rattle.hp_algebra.proofs.Rings.{zero_passes, zero_add}
use Rattle.hp_algebra.proofs.Rows.{plus-row}
use Rattle.hp_algebra.proofs.Dots.{dot-plus_right}
use Rattle.hp_lists.specs.Lists.{list_all}
use Rattle.hp_lists.proofs.Members.{Contains-here, Contains-none, Contains-filter, filter-Contains, all-at, all-from, decide, not_both}
use Rattle.hp_lists.proofs.Ranges.{range_members, members_range}
use Rattle.hp_sets.specs.Sets.{Set, IsSetWithin, contains}
use Rattle.hp_sets.proofs.SetLaws.{contains-Contains, Contains-contains, set-ext, filter-set}
use Rattle.hp_arr.specs.Arrangement.{Arrangement, form, lies_in, indices}
use Rattle.hp_arr.specs.Flats.{points, closure, cut, has_point}
use Rattle.hp_arr.proofs.SpacePoints.{points-rows, rows-points}
use Rattle.hp_arr.proofs.Counting.{lies_in_all}
use Rattle.hp_arr.proofs.Cuts.{some-first, first-some, IsIndex, AreIndices, flat-members, members-flat, flat-set}
use Rattle.hp_arr.proofs.ConePoints.{AffineSetting, n, l, finite, coned, split-height, height-row, plus-height, form-row, index-cone, infinity-index, cone-count, cone_over, at, at-value, IsPoint, lies-cone, lies-infinity, Vanish, lies-vanish, vanish-lies, lifted, lifted-point, lies-lifted, vanish-plus, lowered-row, lowered-vanish, lowered-zero}

module _ {K : Type 0} (A : AffineSetting K) where
  open A use {ring, inverse, numbers, arr, field, num, lawful}

  -- a common point of the set
  abbrev pub Common : Set → List K → Type 0
  Common s x = IsRow A.ring A.arr.dim x × Vanish A s (lifted A x)

  -- ---- members of cuts

  pub cut-common : (s : Set) (x : List K) → AreIndices arr s → Contains (cut ring numbers arr s) x → Common s x
  unfolding cut
  cut-common s x h c =
      let d = filter-Contains (λ x. list_all (λ i. lies_in ring arr i x) s) (points ring numbers arr.dim) x c in
      let r = points-rows (finite A) arr.dim x d.0 in
      (r, lies-vanish A s (lifted A x) h (lifted-point A x r) (sym (lies-lifted A s x h r) ∙ d.1))

  pub common-cut : (s : Set) (x : List K) → AreIndices arr s → Common s x → Contains (cut ring numbers arr s) x
  unfolding cut
  common-cut s x h c =
      Contains-filter (λ x. list_all (λ i. lies_in ring arr i x) s) (points ring numbers arr.dim) x (rows-points (finite A) arr.dim x c.0)
      (lies-lifted A s x h c.0 ∙ vanish-lies A s (lifted A x) h (lifted-point A x c.0) c.1)

  pub has-common : (s : Set) → AreIndices arr s → has_point ring numbers arr s ≡ true → (x : List K) × Common s x
  unfolding has_point
  has-common s h p = let w = first-some (cut ring numbers arr s) p in (w.0, cut-common s w.0 h w.1)

  pub common-has : (s : Set) (x : List K) → AreIndices arr s → Common s x → has_point ring numbers arr s ≡ true
  unfolding has_point
  common-has s x h c = some-first (cut ring numbers arr s) x (common-cut s x h c)

  -- ---- a common point, and the hyperplane at infinity

  abbrev C : Arrangement K
  C = coned A

  abbrev pub cl : Set → Set
  cl s = closure A.ring A.numbers (coned A) s

  -- the closure in the cone, by points of the cone
  pub cone-closure : (s : Set) (j : ℕ) → AreIndices arr s → IsIndex arr j → Contains (cl s) j → (y : List K) → IsPoint A y → Vanish A s y → at A j y ≡ ring.zero
  cone-closure s j h r c y p z =
      (field.is_ring.zero_test _ (at-value A j y r p)).0 (sym (lies-cone A j y r p) ∙ (flat-members (cone_over A) s j c).1 y p (vanish-lies A s y h p z))

  pub closure-cone : (s : Set) (j : ℕ) → AreIndices arr s → IsIndex arr j → ((y : List K) → IsPoint A y → Vanish A s y → at A j y ≡ ring.zero) → Contains (cl s) j
  closure-cone s j h r f =
      members-flat (cone_over A) s j (index-cone A j r) (λ y p e. lies-cone A j y r p ∙ zero_passes field.is_ring _ (f y p (lies-vanish A s y h p e)))

  common-lacks : (s : Set) (x : List K) → AreIndices arr s → Common s x → Contains (cl s) (suc (n A)) → ⊥
  common-lacks s x h c d =
      let p = lifted-point A x c.0 in
      let e = (flat-members (cone_over A) s (suc (n A)) d).1 (lifted A x) p (vanish-lies A s (lifted A x) h p c.1) in
      field.one_zero ((field.is_ring.zero_test ring.one field.is_ring.one_value).0 (sym (lies-infinity A x ring.one c.0 field.is_ring.one_value) ∙ e))

  lacks-common : (s : Set) → AreIndices arr s → (Contains (cl s) (suc (n A)) → ⊥) → (x : List K) × Common s x
  lacks-common s h out = step (decide (lies_in_all ring C s) (lies_in ring C (suc (n A))) (points ring numbers (l A + 1)))
    where
      step : ((y : List K) → Contains (points ring numbers (l A + 1)) y → lies_in_all ring (coned A) s y ≡ true → lies_in ring (coned A) (suc (n A)) y ≡ true)
          ⊎ ((y : List K) × Contains (points ring numbers (l A + 1)) y × (lies_in_all ring (coned A) s y ≡ true) × (lies_in ring (coned A) (suc (n A)) y ≡ false))
          → (x : List K) × Common s x
      step (inl all) = absurd (out (members-flat (cone_over A) s (suc (n A)) (infinity-index A) (λ y p e. all y (rows-points (finite A) (l A + 1) y p) e)))
      step (inr w) =
          let p = points-rows (finite A) (l A + 1) w.0 w.1 in
          let d = split-height ring (l A) w.0 p in
          let x = d.0 in
          let c = d.1 in
          let off : lies_in ring (coned A) (suc (n A)) (x ++ c ∷ []) ≡ false = ap (lies_in ring (coned A) (suc (n A))) (sym d.4) ∙ w.3 in
          let nz : c ≢ ring.zero = λ e. not_both (ring.is_zero c) (zero_passes field.is_ring c e) (sym (lies-infinity A x c d.2 d.3) ∙ off) in
          let z = subst (Vanish A s) d.4 (lies-vanish A s w.0 h p w.2) in
          (row_scale ring (inverse c) x, (lowered-row A x c d.2 d.3 nz, lowered-vanish A s x c h d.2 d.3 nz z))

  -- A set has a common point exactly where its closure in the cone lacks the hyperplane at infinity.
  pub has_point-cone : (s : Set) → AreIndices arr s → has_point ring numbers arr s ≡ not (contains (cl s) (suc (n A)))
  has_point-cone s h = both_ways _ _
      (λ p. let w = has-common s h p in fails (contains (cl s) (suc (n A))) (λ t. common-lacks s w.0 h w.1 (contains-Contains (cl s) (suc (n A)) t)))
      (λ q. let w = lacks-common s h (λ c. not_both _ (Contains-contains (cl s) (suc (n A)) c) (falsely (contains (cl s) (suc (n A))) q)) in common-has s w.0 h w.1)
    where
      fails : (b : Bool) → (b ≡ true → ⊥) → not b ≡ true
      fails true f = absurd (f refl)
      fails false f = refl

      falsely : (b : Bool) → not b ≡ true → b ≡ false
      falsely true e = absurd (not_both true refl (sym e))
      falsely false e = refl

  -- ---- closures

  pub affine-members : (s : Set) (j : ℕ) → AreIndices arr s → Contains (closure ring numbers arr s) j → IsIndex arr j × ((x : List K) → Common s x → at A j (lifted A x) ≡ ring.zero)
  unfolding closure
  affine-members s j h c =
      let d = filter-Contains (λ j. list_all (lies_in ring arr j) (cut ring numbers arr s)) (indices arr) j c in
      let r = within j (n A) (range_members j 1 (n A) d.0) in
      (r, λ x q. (field.is_ring.zero_test _ (at-value A j (lifted A x) r (lifted-point A x q.0))).0 (all-at (lies_in ring arr j) (cut ring numbers arr s) x d.1 (common-cut s x h q)))
    where
      within : (j m : ℕ) → (1 ≤ j) × (j < 1 + m) → (1 ≤ j) × (j ≤ m)
      within j m r = omega (arith, r)

  pub members-affine : (s : Set) (j : ℕ) → AreIndices arr s → IsIndex arr j → ((x : List K) → Common s x → at A j (lifted A x) ≡ ring.zero) → Contains (closure ring numbers arr s) j
  unfolding closure
  members-affine s j h r f =
      Contains-filter (λ j. list_all (lies_in ring arr j) (cut ring numbers arr s)) (indices arr) j (members_range j 1 (n A) r.0 (low j (n A) r))
      (all-from (lies_in ring arr j) (cut ring numbers arr s) (λ x c. zero_passes field.is_ring _ (f x (cut-common s x h c))))
    where
      low : (j m : ℕ) → (1 ≤ j) × (j ≤ m) → j < 1 + m
      low j m r = omega (arith, r)

  pub affine-set : (s : Set) → IsSetWithin (n A) (closure ring numbers arr s)
  unfolding closure
  affine-set s = filter-set (λ j. list_all (lies_in ring arr j) (cut ring numbers arr s)) (n A)

  -- what is zero at all common points is zero on the cut of the cone
  grown : (s : Set) (j : ℕ) → AreIndices arr s → IsIndex arr j → (o : List K) → Common s o
      → ((x : List K) → Common s x → at A j (lifted A x) ≡ ring.zero) → (y : List K) → IsPoint A y → Vanish A s y → at A j y ≡ ring.zero
  grown s j h r o co f y p z = step (split-height ring (l A) y p)
    where
      step : (x : List K) × (c : K) × IsRow ring (l A) x × ring.IsValue c × (y ≡ x ++ c ∷ []) → at A j y ≡ ring.zero
      step d = ap (at A j) d.4 ∙ cases (cases_Bool (ring.is_zero d.1))
        where
          zx : Vanish A s (d.0 ++ d.1 ∷ [])
          zx = subst (Vanish A s) d.4 z

          px : IsPoint A (d.0 ++ d.1 ∷ [])
          px = height-row ring (l A) d.0 d.1 d.2 d.3

          po : IsPoint A (lifted A o)
          po = lifted-point A o co.0

          cases : (ring.is_zero d.1 ≡ true) ⊎ (ring.is_zero d.1 ≡ false) → at A j (d.0 ++ d.1 ∷ []) ≡ ring.zero
          cases (inr e) =
              let nz : d.1 ≢ ring.zero = λ q. not_both (ring.is_zero d.1) (zero_passes field.is_ring d.1 q) e in
              lowered-zero A j d.0 d.1 r d.2 d.3 nz (f _ (lowered-row A d.0 d.1 d.2 d.3 nz, lowered-vanish A s d.0 d.1 h d.2 d.3 nz zx))
          cases (inl e) =
              let q : d.1 ≡ ring.zero = (field.is_ring.zero_test d.1 d.3).0 e in
              let sum = row_plus ring d.0 o in
              let high : row_plus ring (d.0 ++ d.1 ∷ []) (lifted A o) ≡ lifted A sum =
              plus-height ring d.0 o d.1 ring.one (d.2.0 ∙ sym co.0.0)
              ∙ ap (λ c. sum ++ c ∷ []) (ap (λ c. ring.add c ring.one) q ∙ zero_add field.is_ring ring.one field.is_ring.one_value) in
              let there = f sum (plus-row field.is_ring (l A) d.0 o d.2 co.0, subst (Vanish A s) high (vanish-plus A s _ _ h px po zx co.1)) in
              let both = sym (dot-plus_right field.is_ring (form arr j) (d.0 ++ d.1 ∷ []) (lifted A o) (form-row A j r).1 px.1 po.1 (px.0 ∙ sym po.0)) ∙ ap (at A j) high ∙ there in
              let v = at-value A j (d.0 ++ d.1 ∷ []) r px in
              sym (field.is_ring.add_zero _ v) ∙ ap (ring.add (at A j (d.0 ++ d.1 ∷ []))) (sym (f o co)) ∙ both

  -- Where there is a common point the closures are the same.
  pub closure-affine : (s : Set) → AreIndices arr s → has_point ring numbers arr s ≡ true → closure ring numbers arr s ≡ cl s
  closure-affine s h p =
      let o = has-common s h p in
      set-ext (n A) (length C.forms) (closure ring numbers arr s) (cl s) (affine-set s) (flat-set (cone_over A) s)
      (λ j c. let m = affine-members s j h c in closure-cone s j h m.0 (grown s j h m.0 o.0 o.1 m.1))
      (λ j c. (let r = affine-index j (flat-members (cone_over A) s j c).0 (λ e. common-lacks s o.0 h o.1 (subst (Contains (cl s)) e c)) in
      members-affine s j h r (λ x q. cone-closure s j h r c (lifted A x) (lifted-point A x q.0) q.1)))
    where
      affine-index : (j : ℕ) → IsIndex C j → (j ≢ suc (n A)) → IsIndex arr j
      affine-index j r out = (r.0, low j (length C.forms) r.1 (cone-count A) out)
        where
          low : (j m : ℕ) → j ≤ m → m ≡ suc (n A) → (j ≢ suc (n A)) → j ≤ n A
          low j m k e o = omega (arith, k, e, o)
