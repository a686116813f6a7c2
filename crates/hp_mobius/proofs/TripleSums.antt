-- The law of triples for affine arrangements: hyperplanes parallel to H_i are in the deletion alone.
use Rattle.std.specs.Prelude.{◌≡◌, ℕ, zero, suc, ◌+◌, ◌-◌, ◌*◌, ◌^◌, ◌<◌, ◌≤◌, nat_lt, Bool, true, false, cond, ◌&&◌, ◌==◌, List, [], ◌∷◌, ◌++◌, map, take, length, All, remove, slice_index_or, count_by, ◌⊎◌, ℤ, ◌+ℤ◌, ◌*ℤ◌}
use Rattle.std.proofs.lemmas.Bool.{and_from, false≢true, ltb-true, ltb-false}
use Rattle.std.proofs.Math.Seq.{take-append_seam}
use Rattle.std.proofs.lemmas.List.Folds.{list_all-append}
use Rattle.std.proofs.lemmas.List.{length-map, get_or-map}
use Rattle.std.proofs.lemmas.List.Edits.{remove-append_left, length-remove}
use Rattle.std.proofs.lemmas.List.Sums.{length-filter}
use Rattle.std.proofs.lemmas.Simd.{map-map}
use native.Mathlib.Nat.{pow-suc}
use mathlib.Core.Logic.{inl, inr}
use mathlib.Core.Path.{refl, sym, ap, ◌∙◌, subst}
use native.Mathlib.Omega.{arith}
use Rattle.hp_algebra.specs.Integers.{sign}
use Rattle.hp_algebra.specs.Ring.{RingOf, IsRing, dot_of}
use Rattle.hp_algebra.specs.Rows.{IsRow, is_zero_row, same_row}
use Rattle.hp_algebra.proofs.Rings.{zero_mul, zero_add, zero_passes}
use Rattle.hp_algebra.proofs.Dots.{dot_of-push}
use Rattle.std.proofs.lemmas.List.Elements.{All-head, All-tail}
use Rattle.hp_arr.proofs.LawfulDeletion.{All-remove}
use Rattle.hp_algebra.proofs.RowDifferences.{from_same_row}
use Rattle.hp_lists.specs.Lists.{one_to, list_all}
use Rattle.hp_lists.proofs.Members.{first_true, second_true, Contains-here, Contains-later}
use Rattle.hp_lists.proofs.NaturalSums.{one_if, sum_by-ext}
use Rattle.hp_sets.specs.Sets.{Set, contains}
use Rattle.hp_sets.proofs.SetLaws.{Contains-contains, contains-filter}
use Rattle.hp_arr.specs.Arrangement.{Arrangement, form, lies_in}
use Rattle.hp_arr.specs.Flats.{points, cut, has_point, closure, rank}
use Rattle.hp_arr.specs.Moebius.{rank_sum}
use Rattle.hp_arr.specs.Operations.{deletion, restriction}
use Rattle.hp_arr.proofs.ArrangementMatroids.{ground-index, index-ground}
use Rattle.hp_arr.proofs.NormalRows.{normalised-row}
use Rattle.hp_arr.proofs.SpacePoints.{points-rows}
use Rattle.hp_arr.proofs.Cuts.{AreIndices}
use Rattle.hp_matroid.specs.Matroids.{Rises, Within}
use Rattle.hp_matroid.proofs.Subsets.{clash, decide, not_false, head_in, or_right, within-tail, within-cons, map-contains, contains-map}
use Rattle.hp_matroid.proofs.RisingLists.{filter-rises}
use Rattle.hp_matroid.proofs.Listing.{range-rises}
use Rattle.hp_matroid.proofs.Triple as triple
use Rattle.hp_matroid.proofs.CentralTriples as law
use Rattle.hp_matroid.proofs.CentralTriples.{IsCentralRestriction}
use Rattle.hp_arr.proofs.ConePoints.{AffineSetting, n, finite, split-height, at, at-value, lifted, lifted-point}
use Rattle.hp_arr.proofs.ConeCuts.{has-common, members-affine}
use Rattle.hp_arr.proofs.ConeRanks.{affine-rank_spec, affine-rank_unique, affine-rank_dim}
use Rattle.hp_arr.proofs.ConeMatroids.{affine_matroid, central, central-laws, rows-indices, has_point-central, closure-matroid, rank-matroid}
use Rattle.hp_arr.proofs.MobiusValues.{rank_sum-alternates}
use Rattle.hp_arr.proofs.AffineDeletion.{deleted, old_name, form-deletion, names-deletion, deletion-IsCentral}
use Rattle.hp_arr.proofs.AffineRestriction.{a-row, others, place-low, nonzero-at, restricted, restricted-at, other-row, other-apart, restricted-is_row, restricted-not_zero, stays, whole-nonzero, restriction-lawful}
use Rattle.hp_arr.proofs.RestrictedZeros.{cut-value, normalised-zeros}
use Rattle.hp_arr.proofs.KeptPlaces.{kept-within, kept-rises, kept-covers}
use Rattle.hp_mobius.proofs.Classes.{k, affine-count, look, good, kept_places, kept-is, by-places}

-- ---- names

pub map-rises : (f : ℕ → ℕ) (s : Set) → ((x y : ℕ) → x < y → f x < f y) → Rises s → Rises (map f s)
map-rises f [] up r = tt
map-rises f (x ∷ s) up r = ((λ y h. let z = map-contains f s y h in subst (λ n. f x < n) z.2 (up x z.0 (r.0 z.0 z.1))), map-rises f s up r.1)

pub old_name-up : (i x y : ℕ) → x < y → old_name i x < old_name i y
old_name-up i x y l = step (nat_lt x i) refl (nat_lt y i) refl
  where
    a : (x y : ℕ) → x < y → x < suc y
    a x y l = omega arith

    b : (x y i : ℕ) → x < y → i ≤ x → y < i → ⊥
    b x y i l p q = omega arith

    c : (x y : ℕ) → x < y → suc x < suc y
    c x y l = omega arith

    step : (p : Bool) → nat_lt x i ≡ p → (q : Bool) → nat_lt y i ≡ q → cond p x (suc x) < cond q y (suc y)
    step true e true f = l
    step true e false f = a x y l
    step false e true f = absurd (b x y i l (ltb-false x i e) (ltb-true y i f))
    step false e false f = c x y l

pub at-contains : (xs : Set) (m : ℕ) → m < length xs → contains xs (slice_index_or xs m 0) ≡ true
at-contains [] m l = absurd (none m l)
  where
    none : (n : ℕ) → n < 0 → ⊥
    none n l = omega arith
at-contains (x ∷ xs) zero l = head_in x xs
at-contains (x ∷ xs) (suc m) l = or_right (x == slice_index_or xs m 0) (contains xs (slice_index_or xs m 0)) (at-contains xs m (less m (length xs) l))
  where
    less : (m n : ℕ) → suc m < suc n → m < n
    less m n l = omega arith

-- a row of zeros is zero everywhere
dot-nothing : {K : Type 0} {ring : RingOf K} (laws : IsRing ring) (y z : List K) → is_zero_row ring y ≡ true → All ring.IsValue y → All ring.IsValue z → dot_of ring y z ≡ ring.zero
dot-nothing laws [] z t vy vz = refl
dot-nothing laws (c ∷ y) [] t vy vz = refl
dot-nothing {ring = ring} laws (c ∷ y) (x ∷ z) t vy vz =
    let vc = All-head ring.IsValue c y vy in
    let vx = All-head ring.IsValue x z vz in
    let zero_here : c ≡ ring.zero = (laws.zero_test c vc).0 (first_true (ring.is_zero c) (is_zero_row ring y) t) in
    (λ j. ring.add ((ap (λ e. ring.mul e x) zero_here ∙ zero_mul laws x vx) j)
    (dot-nothing laws y z (second_true (ring.is_zero c) (is_zero_row ring y) t) (All-tail ring.IsValue c y vy) (All-tail ring.IsValue x z vz) j))
    ∙ laws.add_zero ring.zero laws.zero_value

module _ {K : Type 0} (A : AffineSetting K) (i : ℕ) (low : 1 ≤ i) (high : i ≤ n A) where
  open A use {ring, inverse, numbers, arr, field, num, lawful}

  abbrev a : List K
  a = form A.arr i

  abbrev R : Arrangement K
  R = restriction A.ring A.inverse A.arr i

  abbrev others_ground : Set
  others_ground = one_to (length (deletion A.arr i).forms)

  abbrev j_place : ℕ
  j_place = k A i low high

  abbrev places : Set
  places = kept_places A i low high

  -- what the rows of the restriction were called
  abbrev pub cut_name : ℕ → ℕ
  cut_name m = old_name i (slice_index_or (kept_places A i low high) (m - 1) 0)

  good-other : (q : ℕ) → contains (good A i low high) q ≡ true → contains others_ground q ≡ true
  good-other q h = first_true _ _ (sym (contains-filter (λ q. stays A i low high (restricted A i low high (form (deletion arr i) q))) q others_ground) ∙ h)

  good-stays : (q : ℕ) → contains (good A i low high) q ≡ true → stays A i low high (restricted A i low high (form (deletion arr i) q)) ≡ true
  good-stays q h = second_true _ _ (sym (contains-filter (λ q. stays A i low high (restricted A i low high (form (deletion arr i) q))) q others_ground) ∙ h)

  inside : (q : ℕ) → contains others_ground q ≡ true → q - 1 < length (others A i low high)
  inside q h = let r = ground-index (length (others A i low high)) q h in omega (arith, r)

  look-row : (q : ℕ) → contains (good A i low high) q ≡ true → IsRow ring arr.dim (look A i low high q)
  look-row q h =
      let b = form (deletion arr i) q in
      let r = restricted-is_row A i low high b (other-row A i low high (q - 1) (inside q (good-other q h))) in
      normalised-row field (restricted A i low high b) r.1 (whole-nonzero A i low high (restricted A i low high b) (good-stays q h)) arr.dim r.0

  -- the value of another row at a point of H_i, by its restriction
  restricted-value : (q : ℕ) → contains others_ground q ≡ true → (X : List K) → IsRow ring (arr.dim + 1) X → dot_of ring a X ≡ ring.zero
      → dot_of ring (restricted A i low high (form (deletion arr i) q)) (remove X j_place) ≡ at A (old_name i q) X
  restricted-value q h X r z =
      let b = form (deletion arr i) q in
      let rb = other-row A i low high (q - 1) (inside q h) in
      let ra = a-row A i low high in
      ap (λ c. dot_of ring c (remove X j_place)) (restricted-at A i low high b)
      ∙ cut-value (finite A) a b X j_place ra.1 rb.1 r.1 (rb.0 ∙ sym ra.0) (ra.0 ∙ sym r.0) (nonzero-at A i low high) z
      ∙ ap (λ b. dot_of ring b X) (form-deletion A i low high q (ground-index (length (others A i low high)) q h).0)

  short : (X : List K) → IsRow ring (arr.dim + 1) X → All ring.IsValue (remove X j_place)
  short X r = All-remove ring.IsValue X j_place (let w = r.0 in let l = place-low A i low high in omega (arith, w, l)) r.1

  row-zeros : (q : ℕ) → contains (good A i low high) q ≡ true → (X : List K) → IsRow ring (arr.dim + 1) X → dot_of ring a X ≡ ring.zero
      → ring.is_zero (dot_of ring (look A i low high q) (remove X j_place)) ≡ ring.is_zero (at A (old_name i q) X)
  row-zeros q h X r z =
      let b = form (deletion arr i) q in
      let rb = restricted-is_row A i low high b (other-row A i low high (q - 1) (inside q (good-other q h))) in
      normalised-zeros (finite A) (restricted A i low high b) (remove X j_place) rb.1 (whole-nonzero A i low high (restricted A i low high b) (good-stays q h)) (short X r)
      ∙ ap ring.is_zero (restricted-value q (good-other q h) X r z)

  -- ---- the rows of the restriction

  cut-forms : R.forms ≡ map (look A i low high) places
  unfolding restriction
  cut-forms = kept-is A i low high

  cut-dim : R.dim ≡ arr.dim - 1
  unfolding restriction
  cut-dim = refl

  count : length R.forms ≡ length places
  count = ap (λ (rows : List (List K)). length rows) cut-forms ∙ length-map places (look A i low high)

  cut-inside : (m : ℕ) → contains (one_to (length R.forms)) m ≡ true → m - 1 < length places
  cut-inside m h = let r = ground-index (length R.forms) m h in let c = count in omega (arith, r, c)

  place-good : (m : ℕ) → contains (one_to (length R.forms)) m ≡ true → contains (good A i low high) (slice_index_or places (m - 1) 0) ≡ true
  place-good m h = kept-within ring (look A i low high) (good A i low high) (slice_index_or places (m - 1) 0) (at-contains places (m - 1) (cut-inside m h))

  on_hyperplane : (x : List K) → IsRow ring arr.dim x → lies_in ring arr i x ≡ true → dot_of ring a (lifted A x) ≡ ring.zero
  on_hyperplane x r h = (field.is_ring.zero_test _ (at-value A i (lifted A x) (low, high) (lifted-point A x r))).0 h

  -- On the hyperplane, a point lies in `cut_name m` where, without one coordinate, it lies in the hyperplane m of the restriction.
  lies-cut : (m : ℕ) → contains (one_to (length R.forms)) m ≡ true → (x : List K) → IsRow ring arr.dim x → lies_in ring arr i x ≡ true
      → lies_in ring R m (remove x j_place) ≡ lies_in ring arr (cut_name m) x
  lies-cut m h x r z =
      let l : j_place < length x = (let p = place-low A i low high in let w = r.0 in omega (arith, p, w)) in
      (λ j. ring.is_zero (dot_of ring ((ap (λ rows. slice_index_or rows (m - 1) []) cut-forms ∙ get_or-map (look A i low high) places (m - 1) 0 [] (cut-inside m h)) j)
      (sym (remove-append_left x (ring.one ∷ []) j_place l) j)))
      ∙ row-zeros (slice_index_or places (m - 1) 0) (place-good m h) (lifted A x) (lifted-point A x r) (on_hyperplane x r z)

  inside-same : (s : Set) → Within s (one_to (length R.forms)) → (x : List K) → IsRow ring arr.dim x → lies_in ring arr i x ≡ true
      → list_all (λ j. lies_in ring arr j x) (map cut_name s) ≡ list_all (λ j. lies_in ring R j (remove x j_place)) s
  inside-same [] w x r h = refl
  inside-same (j ∷ s) w x r h =
      λ p. sym (lies-cut j (w j (head_in j s)) x r h) p && inside-same s (within-tail j s (one_to (length R.forms)) w) x r h p

  at-point : (s : Set) → Within s (one_to (length R.forms)) → (x : List K) → IsRow ring arr.dim x
      → list_all (λ j. lies_in ring arr j x) (i ∷ map cut_name s) ≡ (list_all (λ j. lies_in ring R j (remove x j_place)) s && ring.is_zero (dot_of ring a (lifted A x)))
  at-point s w x r = step (lies_in ring arr i x) refl
    where
      and-true : (b : Bool) → (true && b) ≡ (b && true)
      and-true true = refl
      and-true false = refl

      and-false : (b : Bool) → false ≡ (b && false)
      and-false true = refl
      and-false false = refl

      step : (b : Bool) → lies_in ring arr i x ≡ b
          → (b && list_all (λ j. lies_in ring arr j x) (map cut_name s)) ≡ (list_all (λ j. lies_in ring R j (remove x j_place)) s && b)
      step true h = inside-same s w x r h ∙ and-true (list_all (λ j. lies_in ring R j (remove x j_place)) s)
      step false h = and-false (list_all (λ j. lies_in ring R j (remove x j_place)) s)

  number-cut : (B : Arrangement K) (s : Set) → length (cut ring numbers B s) ≡ count_by (λ x. list_all (λ j. lies_in ring B j x) s) (points ring numbers B.dim)
  unfolding cut
  number-cut B s = length-filter (λ x. list_all (λ j. lies_in ring B j x) s) (points ring numbers B.dim)

  one_more : 2 ≤ arr.dim → arr.dim ≡ suc R.dim
  one_more two = let d = cut-dim in omega (arith, two, d)

  -- the cut of a set with i has as many points as the cut of the restriction
  size-cut : 2 ≤ arr.dim → (s : Set) → Within s (one_to (length R.forms)) → length (cut ring numbers arr (i ∷ map cut_name s)) ≡ length (cut ring numbers R s)
  size-cut two s w =
      number-cut arr (i ∷ map cut_name s)
      ∙ sum_by-ext (λ x. one_if (list_all (λ j. lies_in ring arr j x) (i ∷ map cut_name s)))
      (λ x. one_if (list_all (λ j. lies_in ring R j (remove x j_place)) s && ring.is_zero (dot_of ring a (lifted A x)))) (points ring numbers arr.dim)
      (λ x c. ap one_if (at-point s w x (points-rows (finite A) arr.dim x c)))
      ∙ affine-count A i low high R.dim (one_more two) (λ z. list_all (λ j. lies_in ring R j z) s)
      ∙ sym (number-cut R s)

  name-ground : (q : ℕ) → contains others_ground q ≡ true → contains (one_to (n A)) (old_name i q) ≡ true
  name-ground q h = triple.remove-within i (one_to (n A)) (old_name i q) (other-name q h)
    where
      other-name : (q : ℕ) → contains others_ground q ≡ true → contains (triple.remove i (one_to (n A))) (old_name i q) ≡ true
      other-name q h = ap (λ z. contains z (old_name i q)) (sym (names-deletion A i low high)) ∙ contains-map (old_name i) others_ground q h

  cut-names : map cut_name (one_to (length R.forms)) ≡ map (old_name i) places
  cut-names =
      sym (map-map (old_name i) (λ m. slice_index_or places (m - 1) 0) (one_to (length R.forms)))
      ∙ ap (λ c. map (old_name i) (map (λ m. slice_index_or places (m - 1) 0) (one_to c))) count
      ∙ ap (map (old_name i)) (by-places 0 places)

  -- ---- the classes

  pair-indices : (j : ℕ) → contains (one_to (n A)) j ≡ true → AreIndices arr (i ∷ j ∷ [])
  pair-indices j h = rows-indices A (i ∷ j ∷ []) (within-cons i (j ∷ []) (one_to (n A)) (index-ground (n A) i low high) (within-cons j [] (one_to (n A)) h (λ p q. clash (sym q))))

  -- rows that are equal when they are restricted have one closure with i
  class : (q r : ℕ) → contains (good A i low high) q ≡ true → contains (good A i low high) r ≡ true → look A i low high q ≡ look A i low high r
      → has_point ring numbers arr (i ∷ old_name i q ∷ []) ≡ true
      → contains ((affine_matroid A).closure (i ∷ old_name i q ∷ [])) (old_name i r) ≡ true
  class q r hq hr e p =
      let h = pair-indices (old_name i q) (name-ground q (good-other q hq)) in
      let ir = ground-index (n A) (old_name i r) (name-ground r (good-other r hr)) in
      ap (λ s. contains s (old_name i r)) (sym (closure-matroid A (i ∷ old_name i q ∷ []) h p))
      ∙ Contains-contains (closure ring numbers arr (i ∷ old_name i q ∷ [])) (old_name i r)
      (members-affine A (i ∷ old_name i q ∷ []) (old_name i r) h ir (λ x c.
      let z = c.1 i (Contains-here i (old_name i q ∷ [])) in
      let y = c.1 (old_name i q) (Contains-later i (old_name i q ∷ []) (old_name i q) (Contains-here (old_name i q) [])) in
      let X = lifted A x in
      let rX = lifted-point A x c.0 in
      (field.is_ring.zero_test _ (at-value A (old_name i r) X ir rX)).0
      (sym (row-zeros r hr X rX z) ∙ ap (λ b. ring.is_zero (dot_of ring b (remove X j_place))) (sym e) ∙ row-zeros q hq X rX z ∙ zero_passes field.is_ring _ y)))

  -- a hyperplane whose row is dropped does not meet H_i
  parallel : (q : ℕ) → contains others_ground q ≡ true → stays A i low high (restricted A i low high (form (deletion arr i) q)) ≡ false
      → has_point ring numbers arr (i ∷ old_name i q ∷ []) ≡ true → ⊥
  parallel q h dropped p =
      let hs = pair-indices (old_name i q) (name-ground q h) in
      let w = has-common A (i ∷ old_name i q ∷ []) hs p in
      let x = w.0 in
      let z = w.1.1 i (Contains-here i (old_name i q ∷ [])) in
      let y = w.1.1 (old_name i q) (Contains-later i (old_name i q ∷ []) (old_name i q) (Contains-here (old_name i q) [])) in
      let rX = lifted-point A x w.1.0 in
      let b = form (deletion arr i) q in
      let rb = other-row A i low high (q - 1) (inside q h) in
      let value = restricted-value q h (lifted A x) rX z ∙ y in
      let l : j_place < length x = (let s = place-low A i low high in let v = w.1.0.0 in omega (arith, s, v)) in
      let rest = remove-append_left x (ring.one ∷ []) j_place l in
      false≢true (sym (restricted-not_zero A i low high b rb (other-apart A i low high (q - 1) (inside q h)))
      ∙ vanishes (restricted A i low high b) (remove x j_place) (restricted-is_row A i low high b rb)
      (let e = length-remove x j_place l in let v = w.1.0.0 in omega (arith, e, v)) (All-remove ring.IsValue x j_place l w.1.0.1)
      (not_false (is_zero_row ring (take (arr.dim - 1) (restricted A i low high b))) dropped) (sym (ap (dot_of ring (restricted A i low high b)) rest) ∙ value))
    where
      -- a row of which all but the last entry is zero and that is zero at a point of height one is zero
      vanishes : (r z : List K) → IsRow ring arr.dim r → length z + 1 ≡ arr.dim → All ring.IsValue z → is_zero_row ring (take (arr.dim - 1) r) ≡ true
          → dot_of ring r (z ++ ring.one ∷ []) ≡ ring.zero → is_zero_row ring r ≡ true
      vanishes r z rr lz vz t e = step (split-height ring (arr.dim - 1) r (subst (λ d. IsRow ring d r) (up arr.dim (length z) lz) rr))
        where
          up : (d m : ℕ) → m + 1 ≡ d → d ≡ (d - 1) + 1
          up d m e = omega (arith, e)

          down : (d m x : ℕ) → m + 1 ≡ d → x ≡ d - 1 → x ≡ m
          down d m x e f = omega (arith, e, f)

          step : (y : List K) × (c : K) × IsRow ring (arr.dim - 1) y × ring.IsValue c × (r ≡ y ++ c ∷ []) → is_zero_row ring r ≡ true
          step d =
              let L = field.is_ring in
              let y = d.0 in
              let c = d.1 in
              let zy : is_zero_row ring y ≡ true = ap (is_zero_row ring) (sym (take_front y (c ∷ []) (arr.dim - 1) d.2.0)) ∙ ap (λ s. is_zero_row ring (take (arr.dim - 1) s)) (sym d.4) ∙ t in
              let long = down arr.dim (length z) (length y) lz d.2.0 in
              let dot0 : dot_of ring y z ≡ ring.zero = dot-nothing field.is_ring y z zy d.2.1 vz in
              let c0 : c ≡ ring.zero =
              sym (zero_add L c d.3) ∙ (λ j. ring.add (sym dot0 j) (sym (L.mul_one c d.3) j))
              ∙ sym (dot_of-push L y z c ring.one long d.2.1 vz d.3 L.one_value) ∙ ap (λ s. dot_of ring s (z ++ ring.one ∷ [])) (sym d.4) ∙ e in
              ap (is_zero_row ring) d.4 ∙ list_all-append ring.is_zero y (c ∷ []) ∙ and_from _ _ zy (and_from _ _ (zero_passes L c c0) refl)
            where
              take_front : (xs ys : List K) (m : ℕ) → length xs ≡ m → take m (xs ++ ys) ≡ xs
              take_front xs ys m e = ap (λ k. take k (xs ++ ys)) (sym e) ∙ take-append_seam xs ys

  classes : (j : ℕ) → contains (triple.remove i (one_to (n A))) j ≡ true
      → (central A (i ∷ j ∷ []) ≡ false)
      ⊎ ((l : ℕ) × (contains (map cut_name (one_to (length R.forms))) l ≡ true) × (contains ((affine_matroid A).closure (i ∷ j ∷ [])) l ≡ true))
  classes j h = step (map-contains (old_name i) others_ground j (ap (λ z. contains z j) (names-deletion A i low high) ∙ h))
    where
      exact : (x y : ℕ) → contains (good A i low high) x ≡ true → contains (good A i low high) y ≡ true → same_row ring (look A i low high x) (look A i low high y) ≡ true → look A i low high x ≡ look A i low high y
      exact x y c d e = from_same_row field.is_ring (look A i low high x) (look A i low high y) (look-row x c).1 (look-row y d).1 e

      pick : (q : ℕ) → contains others_ground q ≡ true
          → (stays A i low high (restricted A i low high (form (deletion arr i) q)) ≡ true) ⊎ (stays A i low high (restricted A i low high (form (deletion arr i) q)) ≡ false)
          → (central A (i ∷ old_name i q ∷ []) ≡ true) ⊎ (central A (i ∷ old_name i q ∷ []) ≡ false)
          → (central A (i ∷ old_name i q ∷ []) ≡ false)
          ⊎ ((l : ℕ) × (contains (map cut_name (one_to (length R.forms))) l ≡ true) × (contains ((affine_matroid A).closure (i ∷ old_name i q ∷ [])) l ≡ true))
      pick q c s (inr e) = inl e
      pick q c (inr s) (inl e) = absurd (parallel q c s (has_point-central A (i ∷ old_name i q ∷ []) (pair-indices (old_name i q) (name-ground q c)) ∙ e))
      pick q c (inl s) (inl e) =
          let g : contains (good A i low high) q ≡ true = contains-filter (λ q. stays A i low high (restricted A i low high (form (deletion arr i) q))) q others_ground ∙ and_from _ _ c s in
          let r = kept-covers ring (look A i low high) (good A i low high) q exact g in
          inr (
            old_name i r.0,
            ap (λ z. contains z (old_name i r.0)) cut-names ∙ contains-map (old_name i) places r.0 r.1,
            class q r.0 g (kept-within ring (look A i low high) (good A i low high) r.0 r.1) r.2
                (has_point-central A (i ∷ old_name i q ∷ []) (pair-indices (old_name i q) (name-ground q c)) ∙ e),
          )

      step : (q : ℕ) × (contains others_ground q ≡ true) × (old_name i q ≡ j)
          → (central A (i ∷ j ∷ []) ≡ false)
          ⊎ ((l : ℕ) × (contains (map cut_name (one_to (length R.forms))) l ≡ true) × (contains ((affine_matroid A).closure (i ∷ j ∷ [])) l ≡ true))
      step q = subst (λ j. (central A (i ∷ j ∷ []) ≡ false)
          ⊎ ((l : ℕ) × (contains (map cut_name (one_to (length R.forms))) l ≡ true) × (contains ((affine_matroid A).closure (i ∷ j ∷ [])) l ≡ true))) q.2
          (pick q.0 q.1 (decide (stays A i low high (restricted A i low high (form (deletion arr i) q.0)))) (decide (central A (i ∷ old_name i q.0 ∷ []))))

  module _ (two : 2 ≤ arr.dim) where
    -- the restriction, with its laws
    abbrev pub restriction_of : AffineSetting K
    restriction_of = record { ring = A.ring; inverse = A.inverse; numbers = A.numbers; arr = restriction A.ring A.inverse A.arr i; field = A.field; num = A.num; lawful = restriction-lawful A i low high two }

    named-within : (s : Set) → Within s (one_to (length R.forms)) → Within (i ∷ map cut_name s) (one_to (n A))
    named-within s w = within-cons i (map cut_name s) (one_to (n A)) (index-ground (n A) i low high) (λ l h.
        let q = map-contains cut_name s l h in
        subst (λ z. contains (one_to (n A)) z ≡ true) q.2 (name-ground (slice_index_or places (q.0 - 1) 0) (good-other (slice_index_or places (q.0 - 1) 0) (place-good q.0 (w q.0 q.1)))))

    has_point-cut : (s : Set) → Within s (one_to (length R.forms)) → has_point ring numbers R s ≡ has_point ring numbers arr (i ∷ map cut_name s)
    unfolding has_point
    has_point-cut s w = ap (nat_lt 0) (sym (size-cut two s w))

    -- a set with i has one rank more than in the restriction
    rank-cut : (s : Set) → Within s (one_to (length R.forms)) → has_point ring numbers R s ≡ true → suc (rank ring numbers R s) ≡ rank ring numbers arr (i ∷ map cut_name s)
    rank-cut s w p =
        let B = restriction_of in
        let h = rows-indices B s w in
        let spec = affine-rank_spec B s h p in
        let r = rank ring numbers R s in
        sym (affine-rank_unique A (i ∷ map cut_name s) (suc r) (let d = one_more two in let l = affine-rank_dim B s h p in omega (arith, d, l))
        ((λ j. size-cut two s w j * pow-suc numbers.order r j)
        ∙ group (length (cut ring numbers R s)) (numbers.order ^ r) numbers.order
        ∙ ap (λ m. m * numbers.order) spec
        ∙ sym (pow-suc numbers.order R.dim)
        ∙ ap (λ d. numbers.order ^ d) (sym (one_more two))))
      where
        group : (a b q : ℕ) → a * (b * q) ≡ (a * b) * q
        group a b q = omega arith

    -- The restriction is one in the sense of central sets and ranks.
    pub restriction-IsCentral : IsCentralRestriction (one_to (n A)) (affine_matroid A).closure (central A) (affine_matroid A).rank i
        (one_to (n restriction_of)) (central restriction_of) (affine_matroid restriction_of).rank cut_name
    restriction-IsCentral = record {
      rising = subst Rises (sym cut-names) (map-rises (old_name i) places (old_name-up i) (kept-rises ring (look A i low high) (good A i low high)
          (filter-rises (λ q. stays A i low high (restricted A i low high (form (deletion arr i) q))) others_ground (range-rises 1 (length (others A i low high)))).0));
      within = λ l h.
          let q = map-contains (old_name i) places l (ap (λ z. contains z l) (sym cut-names) ∙ h) in
          subst (λ z. contains (triple.remove i (one_to (n A))) z ≡ true) q.2
          (ap (λ z. contains z (old_name i q.0)) (sym (names-deletion A i low high))
          ∙ contains-map (old_name i) others_ground q.0 (good-other q.0 (kept-within ring (look A i low high) (good A i low high) q.0 q.1)));
      classes = classes;
      centrals = λ s w.
          sym (has_point-central restriction_of s (rows-indices restriction_of s w)) ∙ has_point-cut s w
          ∙ has_point-central A (i ∷ map cut_name s) (rows-indices A (i ∷ map cut_name s) (named-within s w));
      ranks = λ s w c.
          let h = rows-indices restriction_of s w in
          let p = has_point-central restriction_of s h ∙ c in
          ap suc (sym (rank-matroid restriction_of s h p)) ∙ rank-cut s w p
          ∙ rank-matroid A (i ∷ map cut_name s) (rows-indices A (i ∷ map cut_name s) (named-within s w)) (sym (has_point-cut s w) ∙ p);
    }

    abbrev sum_of : AffineSetting K → ℕ → ℤ
    sum_of T k = rank_sum T.ring T.numbers T.arr k *ℤ sign k

    here : contains (one_to (n A)) i ≡ true
    here = index-ground (n A) i low high

    -- The law of triples, degree by degree.
    pub triple-zero : sum_of A 0 ≡ sum_of (deleted A i low high) 0
    triple-zero =
        let D = deleted A i low high in
        ap (λ z. z *ℤ sign 0) (
        rank_sum-alternates A 0
        ∙ law.triple-zero (affine_matroid A) (central A) (central-laws A) i (one_to (n D)) (central D) (affine_matroid D).rank (old_name i) here (deletion-IsCentral A i low high)
        ∙ sym (rank_sum-alternates D 0))

    pub triple-next : (k : ℕ) → sum_of A (suc k) ≡ sum_of (deleted A i low high) (suc k) +ℤ sum_of restriction_of k
    triple-next k =
        let D = deleted A i low high in
        let B = restriction_of in
        ap (λ z. z *ℤ sign (suc k)) (rank_sum-alternates A (suc k))
        ∙ law.triple (affine_matroid A) (central A) (central-laws A) i k (one_to (n D)) (one_to (n B)) (central D) (central B) (affine_matroid D).rank (affine_matroid B).rank (old_name i) cut_name here
        (deletion-IsCentral A i low high) restriction-IsCentral
        ∙ (λ j. sym (rank_sum-alternates D (suc k)) j *ℤ sign (suc k) +ℤ sym (rank_sum-alternates B k) j *ℤ sign k)
