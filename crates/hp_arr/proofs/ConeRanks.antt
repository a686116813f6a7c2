-- Ranks of an affine arrangement: where there is a common point, the rank in the cone; and the rank of the linear parts.
use Rattle.std.specs.Prelude.{◌≡◌, ℕ, suc, ◌+◌, ◌-◌, ◌*◌, ◌^◌, ◌<◌, ◌≤◌, ◌==◌, Bool, true, false, not, ◌&&◌, List, [], ◌∷◌, ◌++◌, length, take, remove, Contains, count_by}
use Rattle.std.proofs.lemmas.Bool.{eqb-true, eq-eqb}
use Rattle.std.proofs.lemmas.List.{get_or-map}
use Rattle.std.proofs.Math.Seq.{take-append_seam}
use Rattle.std.proofs.lemmas.List.Sums.{length-filter}
use native.Mathlib.Nat.{pow-suc, one-le-pow}
use mathlib.Core.Path.{refl, sym, ap, ◌∙◌, subst}
use native.Mathlib.Omega.{arith}
use Rattle.hp_algebra.specs.Ring.{dot_of}
use Rattle.hp_algebra.specs.Rows.{IsRow, row_plus, unit_row}
use Rattle.hp_algebra.proofs.Rings.{mul_zero, zero_add}
use Rattle.hp_algebra.proofs.Dots.{dot_of_value, dot_of-push, dot-plus_right}
use Rattle.hp_algebra.proofs.Rows.{plus-row}
use Rattle.hp_arr.proofs.FormValues.{form-lies}
use Rattle.hp_algebra.proofs.UnitRows.{unit-row, unit-one}
use Rattle.hp_algebra.proofs.Elements.{two_elements}
use Rattle.hp_lists.specs.Lists.{list_all, first_below}
use Rattle.hp_lists.proofs.Firsts.{first-below}
use Rattle.hp_lists.proofs.Members.{Contains-here, Contains-later, not_both}
use Rattle.hp_lists.proofs.NaturalSums.{one_if, sum_by-ext}
use Rattle.hp_lists.proofs.Powers.{exponents}
use Rattle.hp_sets.specs.Sets.{Set, contains}
use Rattle.hp_sets.proofs.SetLaws.{Contains-contains}
use Rattle.hp_arr.specs.Arrangement.{Arrangement, form, lies_in, linear_part}
use Rattle.hp_arr.specs.Flats.{points, cut, rank, has_point}
use Rattle.hp_arr.proofs.SpacePoints.{points-rows, sum-points}
use Rattle.hp_arr.proofs.Counting.{lies_in_all, rank-spec}
use Rattle.hp_arr.proofs.Cuts.{IsIndex, AreIndices}
use Rattle.hp_arr.proofs.Ranks.{rank-adds, rank-dim}
use Rattle.hp_arr.proofs.ConePoints.{AffineSetting, n, l, finite, coned, split-height, height-row, plus-height, form-row, form-infinity, infinity-index, cone_over, cone-forms, linear-forms, at, at-value, IsPoint, lies-cone, lifted, lifted-point, lies-lifted, lies-infinity}
use Rattle.hp_arr.proofs.ConeCuts.{Common, has-common, has_point-cone, cl}
use Rattle.hp_arr.proofs.HyperplanePoints.{hyperplane-count, times-same}

-- a point without its height
remove-height : {K : Type 0} (x : List K) (c : K) → remove (x ++ c ∷ []) (length x) ≡ x
remove-height [] c = refl
remove-height (a ∷ x) c = ap (λ t. a ∷ t) (remove-height x c)

module _ {K : Type 0} (A : AffineSetting K) where
  open A use {ring, inverse, numbers, arr, field, num, lawful}

  abbrev C : Arrangement K
  C = coned A

  abbrev q : ℕ
  q = A.numbers.order

  pub two : 2 ≤ q
  two = two_elements (finite A)

  abbrev P : ℕ → List (List K)
  P l = points A.ring A.numbers l

  -- rows that have the same values at two points
  pub lies-same : (s : Set) (y w : List K) → AreIndices arr s → IsPoint A y → IsPoint A w → ((i : ℕ) → Contains s i → at A i y ≡ at A i w) → lies_in_all ring C s y ≡ lies_in_all ring C s w
  lies-same [] y w h p q f = refl
  lies-same (i ∷ s) y w h p q f = λ j. first j && lies-same s y w (λ k c. h k (Contains-later i s k c)) p q (λ k c. f k (Contains-later i s k c)) j
    where
      first : lies_in ring (coned A) i y ≡ lies_in ring (coned A) i w
      first = let r = h i (Contains-here i s) in lies-cone A i y r p ∙ ap ring.is_zero (f i (Contains-here i s)) ∙ sym (lies-cone A i w r q)

  -- the directions in which the hyperplanes of the set go on
  abbrev pub directions : Set → ℕ
  directions s = count_by (λ w. lies_in_all A.ring (coned A) s (w ++ A.ring.zero ∷ [])) (points A.ring A.numbers A.arr.dim)

  -- ---- a cut with a point has as many points as there are directions

  moved : (s : Set) (o w : List K) → AreIndices arr s → Common A s o → IsRow ring arr.dim w
      → lies_in_all ring C s (lifted A (row_plus ring w o)) ≡ lies_in_all ring C s (w ++ ring.zero ∷ [])
  moved s o w h co r = lies-same s (lifted A (row_plus ring w o)) (w ++ ring.zero ∷ []) h (lifted-point A (row_plus ring w o) (plus-row field.is_ring arr.dim w o r co.0)) (height-row ring arr.dim w ring.zero r field.is_ring.zero_value) (λ i c.
      let pw = height-row ring arr.dim w ring.zero r field.is_ring.zero_value in
      let po = lifted-point A o co.0 in
      let sum : row_plus ring (w ++ ring.zero ∷ []) (lifted A o) ≡ lifted A (row_plus ring w o) =
      plus-height ring w o ring.zero ring.one (r.0 ∙ sym co.0.0) ∙ ap (λ e. row_plus ring w o ++ e ∷ []) (zero_add field.is_ring ring.one field.is_ring.one_value) in
      ap (at A i) (sym sum) ∙ dot-plus_right field.is_ring (form arr i) (w ++ ring.zero ∷ []) (lifted A o) (form-row A i (h i c)).1 pw.1 po.1 (pw.0 ∙ sym po.0)
      ∙ ap (ring.add (at A i (w ++ ring.zero ∷ []))) (co.1 i c) ∙ field.is_ring.add_zero _ (at-value A i (w ++ ring.zero ∷ []) (h i c) pw))

  number-cut : (s : Set) → length (cut ring numbers arr s) ≡ count_by (λ x. list_all (λ i. lies_in ring arr i x) s) (P arr.dim)
  unfolding cut
  number-cut s = length-filter (λ x. list_all (λ i. lies_in ring arr i x) s) (P arr.dim)

  pub cut-directions : (s : Set) → AreIndices arr s → has_point ring numbers arr s ≡ true → length (cut ring numbers arr s) ≡ directions s
  cut-directions s h p =
      let o = has-common A s h p in
      number-cut s
      ∙ sym (sum-points (finite A) arr.dim o.0 o.1.0 (λ x. one_if (list_all (λ i. lies_in ring arr i x) s)))
      ∙ sum_by-ext (λ w. one_if (list_all (λ i. lies_in ring arr i (row_plus ring w o.0)) s)) (λ w. one_if (lies_in_all ring C s (w ++ ring.zero ∷ []))) (P arr.dim)
      (λ w c. ap one_if (lies-lifted A s (row_plus ring w o.0) h (plus-row field.is_ring arr.dim w o.0 (points-rows (finite A) arr.dim w c) o.1.0) ∙ moved s o.0 w h o.1 (points-rows (finite A) arr.dim w c)))

  -- ---- and so has the cut of the cone at infinity

  number-cone : (s : Set) → length (cut ring numbers C s) ≡ count_by (lies_in_all ring C s) (P C.dim)
  unfolding cut
  number-cone s = length-filter (lies_in_all ring C s) (P C.dim)

  next : (m : ℕ) → m + 1 ≡ suc m
  next m = omega arith

  pub infinity-directions : (s : Set) → AreIndices arr s → length (cut ring numbers C (suc (n A) ∷ s)) ≡ directions s
  infinity-directions s h =
      number-cone (suc (n A) ∷ s)
      ∙ sum_by-ext (λ y. one_if (lies_in_all ring C (suc (n A) ∷ s) y)) (λ y. one_if (test (remove y (l A)) && ring.is_zero (dot_of ring u y))) (P C.dim)
      (λ y c. ap one_if (same y (points-rows (finite A) C.dim y c)))
      ∙ ap (λ d. count_by (λ y. test (remove y (l A)) && ring.is_zero (dot_of ring u y)) (P d)) (next (l A))
      ∙ hyperplane-count (finite A) (l A) (l A) u test (omega arith) (subst (λ d. IsRow ring d u) (next (l A)) (unit-row field.is_ring (l A + 1) (l A + 1)))
      (λ z. field.one_zero (sym (unit-one field.is_ring (l A + 1) (l A) (omega arith)) ∙ z))
    where
      u : List K
      u = unit_row ring (l A + 1) (l A + 1)

      test : List K → Bool
      test w = lies_in_all ring (coned A) s (w ++ ring.zero ∷ [])

      pair : (b : Bool) (d e : Bool) → (b ≡ true → d ≡ e) → (b && d) ≡ (e && b)
      pair true d e f = f refl ∙ and_true e
        where
          and_true : (e : Bool) → e ≡ (e && true)
          and_true true = refl
          and_true false = refl
      pair false d e f = and_false e
        where
          and_false : (e : Bool) → false ≡ (e && false)
          and_false true = refl
          and_false false = refl

      same : (y : List K) → IsRow ring (l A + 1) y → lies_in_all ring (coned A) (suc (n A) ∷ s) y ≡ (test (remove y (l A)) && ring.is_zero (dot_of ring u y))
      same y p =
          let d = split-height ring (l A) y p in
          let x = d.0 in
          let c = d.1 in
          let short : remove y (l A) ≡ x = (λ j. remove (d.4 j) (sym d.2.0 j)) ∙ remove-height x c in
          let top : lies_in ring (coned A) (suc (n A)) y ≡ ring.is_zero (dot_of ring u y) = form-lies ring (coned A) (cone-forms A).rows (suc (n A)) y p.0 ∙ ap (λ a. ring.is_zero (dot_of ring a y)) (form-infinity A) in
          let low : lies_in ring (coned A) (suc (n A)) y ≡ true → lies_in_all ring (coned A) s y ≡ test (remove y (l A)) = λ t.
          let z : c ≡ ring.zero = (field.is_ring.zero_test c d.3).0 (sym (lies-infinity A x c d.2 d.3) ∙ ap (lies_in ring (coned A) (suc (n A))) (sym d.4) ∙ t) in
          ap (lies_in_all ring (coned A) s) (d.4 ∙ ap (λ e. x ++ e ∷ []) z) ∙ ap (λ w. lies_in_all ring (coned A) s (w ++ ring.zero ∷ [])) (sym short) in
          pair (lies_in ring (coned A) (suc (n A)) y) (lies_in_all ring (coned A) s y) (test (remove y (l A))) low
          ∙ ap (λ b. test (remove y (l A)) && b) top

  -- ---- ranks

  less : (a b : ℕ) → a * q ≡ b * q → a ≡ b
  less a b e = times q a b two e
    where
      times : (q a b : ℕ) → 2 ≤ q → a * q ≡ b * q → a ≡ b
      times q a b t e = times-same q a b t (turn a q ∙ e ∙ sym (turn b q))
        where
          turn : (a q : ℕ) → q * a ≡ a * q
          turn a q = omega arith

  group : (d a : ℕ) → d * (a * q) ≡ (d * a) * q
  group d a = omega arith

  -- with the hyperplane at infinity, the rank is one more than that of the directions
  pub directions-spec : (s : Set) (r : ℕ) → AreIndices arr s → rank ring numbers C (suc (n A) ∷ s) ≡ suc r → directions s * q ^ r ≡ q ^ l A
  directions-spec s r h e = less (directions s * q ^ r) (q ^ l A)
      (sym (group (directions s) (q ^ r))
      ∙ ap (λ m. directions s * m) (sym (pow-suc q r))
      ∙ (λ j. sym (infinity-directions s h) j * q ^ sym e j)
      ∙ rank-spec (cone_over A) (suc (n A) ∷ s)
      ∙ ap (λ d. q ^ d) (next (l A)) ∙ pow-suc q (l A))

  -- the rank that a count of points has
  pub counted : (c r : ℕ) → r ≤ l A → c * q ^ r ≡ q ^ l A → first_below (l A + 1) (λ r. (c * q ^ r) == q ^ l A) ≡ r
  counted c r low e =
      let found = first-below (λ r. (c * q ^ r) == q ^ l A) (l A + 1) r (omega (arith, low)) (eq-eqb _ _ e) in
      let f = eqb-true _ _ found.0 in
      let one = one-le-pow (l A) q (above q two) in
      join _ _ (exponents q (q ^ l A) c c _ _ two one f e (same c)) (exponents q (q ^ l A) c c _ _ two one e f (same c))
    where
      above : (q : ℕ) → 2 ≤ q → 0 < q
      above q h = omega arith

      same : (m : ℕ) → m ≤ m
      same m = omega arith

      join : (a b : ℕ) → a ≤ b → b ≤ a → a ≡ b
      join a b h k = omega arith

  pub rank-infinity : (s : Set) → AreIndices arr s → has_point ring numbers arr s ≡ true → rank ring numbers C (suc (n A) ∷ s) ≡ suc (rank ring numbers C s)
  rank-infinity s h p = rank-adds (cone_over A) s (suc (n A)) (infinity-index A)
      (λ c. not_both (contains (cl A s) (suc (n A))) (Contains-contains (cl A s) (suc (n A)) c) (falsely (contains (cl A s) (suc (n A))) (sym (has_point-cone A s h) ∙ p)))
    where
      falsely : (b : Bool) → not b ≡ true → b ≡ false
      falsely true e = absurd (not_both true refl (sym e))
      falsely false e = refl

  low_rank : (s : Set) (r : ℕ) → rank ring numbers C (suc (n A) ∷ s) ≡ suc r → r ≤ l A
  low_rank s r e = let d = rank-dim (cone_over A) (suc (n A) ∷ s) in omega (arith, e, d)

  -- Where there is a common point the ranks are the same.
  pub rank-affine : (s : Set) → AreIndices arr s → has_point ring numbers arr s ≡ true → rank ring numbers arr s ≡ rank ring numbers C s
  unfolding rank
  rank-affine s h p =
      let e = rank-infinity s h p in
      ap (λ c. first_below (l A + 1) (λ r. (c * q ^ r) == q ^ l A)) (cut-directions s h p)
      ∙ counted (directions s) (rank ring numbers C s) (low_rank s (rank ring numbers C s) e) (directions-spec s (rank ring numbers C s) h e)

  -- |cut| p^rank = p^dim
  pub affine-rank_spec : (s : Set) → AreIndices arr s → has_point ring numbers arr s ≡ true → length (cut ring numbers arr s) * q ^ rank ring numbers arr s ≡ q ^ l A
  affine-rank_spec s h p =
      (λ j. cut-directions s h p j * q ^ rank-affine s h p j)
      ∙ directions-spec s (rank ring numbers C s) h (rank-infinity s h p)

  -- and it is the one number of that kind, at most the dimension
  pub affine-rank_unique : (s : Set) (r : ℕ) → r ≤ l A → length (cut ring numbers arr s) * q ^ r ≡ q ^ l A → rank ring numbers arr s ≡ r
  unfolding rank
  affine-rank_unique s r low e = counted (length (cut ring numbers arr s)) r low e

  pub affine-rank_dim : (s : Set) → AreIndices arr s → has_point ring numbers arr s ≡ true → rank ring numbers arr s ≤ l A
  affine-rank_dim s h p = let e = rank-affine s h p in let d = low_rank s (rank ring numbers C s) (rank-infinity s h p) in omega (arith, e, d)

  -- ---- the linear parts

  -- a row at height zero has the value of its linear part
  linear-value : (i : ℕ) (w : List K) → IsIndex arr i → IsRow ring arr.dim w → dot_of ring (form (linear_part ring arr) i) w ≡ at A i (w ++ ring.zero ∷ [])
  linear-value i w r p =
      let f = form arr i in
      let rf = form-row A i r in
      let d = split-height ring (l A) f rf in
      let part = ap (λ a. dot_of ring a w) (get_or-map (take arr.dim) arr.forms (i - 1) [] [] (inside i (n A) r)) in
      let vc = field.is_ring.mul_value d.1 ring.zero d.3 field.is_ring.zero_value in
      part ∙ ap (λ a. dot_of ring a w) (taken f rf d) ∙ sym (field.is_ring.add_zero _ (dot_of_value field.is_ring d.0 w d.2.1 p.1))
      ∙ ap (ring.add (dot_of ring d.0 w)) (sym (mul_zero field.is_ring d.1 d.3))
      ∙ sym (dot_of-push field.is_ring d.0 w d.1 ring.zero (d.2.0 ∙ sym p.0) d.2.1 p.1 d.3 field.is_ring.zero_value)
      ∙ ap (λ a. dot_of ring a (w ++ ring.zero ∷ [])) (sym d.4)
    where
      inside : (i m : ℕ) → (1 ≤ i) × (i ≤ m) → i - 1 < m
      inside i m r = omega (arith, r.0, r.1)

      taken : (f : List K) → IsRow ring (l A + 1) f → (d : (x : List K) × (c : K) × IsRow ring (l A) x × ring.IsValue c × (f ≡ x ++ c ∷ [])) → take arr.dim f ≡ d.0
      taken f rf d = ap (take arr.dim) d.4 ∙ prefix d.0 (d.1 ∷ []) arr.dim d.2.0
        where
          prefix : (xs ys : List K) (m : ℕ) → length xs ≡ m → take m (xs ++ ys) ≡ xs
          prefix xs ys m e = ap (λ k. take k (xs ++ ys)) (sym e) ∙ take-append_seam xs ys

  linear-lies : (s : Set) (w : List K) → AreIndices arr s → IsRow ring arr.dim w → lies_in_all ring (linear_part ring arr) s w ≡ lies_in_all ring C s (w ++ ring.zero ∷ [])
  linear-lies [] w h p = refl
  linear-lies (i ∷ s) w h p = λ j. first j && linear-lies s w (λ k c. h k (Contains-later i s k c)) p j
    where
      first : lies_in ring (linear_part ring arr) i w ≡ lies_in ring (coned A) i (w ++ ring.zero ∷ [])
      first = let r = h i (Contains-here i s) in form-lies ring (linear_part ring arr) (linear-forms A).rows i w p.0 ∙ ap ring.is_zero (linear-value i w r p) ∙ sym (lies-cone A i (w ++ ring.zero ∷ []) r (height-row ring arr.dim w ring.zero p field.is_ring.zero_value))

  number-linear : (s : Set) → length (cut ring numbers (linear_part ring arr) s) ≡ count_by (lies_in_all ring (linear_part ring arr) s) (P arr.dim)
  unfolding cut
  number-linear s = length-filter (lies_in_all ring (linear_part ring arr) s) (P arr.dim)

  pub linear-directions : (s : Set) → AreIndices arr s → length (cut ring numbers (linear_part ring arr) s) ≡ directions s
  linear-directions s h =
      number-linear s
      ∙ sum_by-ext (λ w. one_if (lies_in_all ring (linear_part ring arr) s w)) (λ w. one_if (lies_in_all ring C s (w ++ ring.zero ∷ []))) (P arr.dim)
      (λ w c. ap one_if (linear-lies s w h (points-rows (finite A) arr.dim w c)))

  -- The rank of the linear parts is one less than that in the cone with the hyperplane at infinity.
  pub rank-linear : (s : Set) (r : ℕ) → AreIndices arr s → rank ring numbers C (suc (n A) ∷ s) ≡ suc r → rank ring numbers (linear_part ring arr) s ≡ r
  unfolding rank
  rank-linear s r h e =
      ap (λ c. first_below (l A + 1) (λ r. (c * q ^ r) == q ^ l A)) (linear-directions s h)
      ∙ counted (directions s) r (low_rank s r e) (directions-spec s r h e)
