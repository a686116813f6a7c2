-- The restriction of an affine arrangement: its rows stand for the classes of the others that meet the hyperplane, and its cuts are as great.
use Rattle.std.specs.Prelude.{◌≡◌, ℕ, suc, ◌+◌, ◌-◌, ◌<◌, ◌≤◌, Bool, ◌&&◌, List, [], ◌∷◌, ◌++◌, map, filter, length, remove, slice_index_or, count_by}
use Rattle.std.specs.List.{range_with_len}
use Rattle.std.proofs.lemmas.List.{get_or_append_left}
use Rattle.std.proofs.lemmas.Simd.{map-map}
use mathlib.Core.Path.{refl, sym, ap, ◌∙◌, subst}
use native.Mathlib.Omega.{arith}
use Rattle.hp_algebra.specs.Ring.{dot_of}
use Rattle.hp_algebra.specs.Rows.{IsRow, entry, row_plus, row_scale, unit_row}
use Rattle.hp_algebra.proofs.Rings.{mul_zero, zero_add}
use Rattle.hp_algebra.proofs.Rows.{scale-row}
use Rattle.hp_algebra.proofs.Dots.{dot_of_value, dot_of-push, dot-scale_right, dot-plus_right}
use Rattle.hp_algebra.proofs.UnitRows.{unit-row, unit-dot}
use Rattle.hp_lists.specs.Lists.{one_to}
use Rattle.hp_lists.proofs.NaturalSums.{one_if, sum_by-ext}
use Rattle.hp_sets.specs.Sets.{Set}
use Rattle.hp_arr.specs.Arrangement.{form}
use Rattle.hp_arr.specs.Flats.{points}
use Rattle.hp_arr.specs.Operations.{deletion, normalised, first_copies}
use Rattle.hp_arr.proofs.SpacePoints.{points-rows, sum-points}
use Rattle.hp_arr.proofs.ConePoints.{AffineSetting, n, finite, split-height, height-row, plus-height, lifted, lifted-point}
use Rattle.hp_arr.proofs.AffineRestriction.{a-row, others, last, place-low, nonzero-at, restricted, stays, kept}
use Rattle.hp_arr.proofs.HyperplanePoints.{hyperplane-count, remove-unit}
use Rattle.hp_arr.proofs.KeptPlaces as places
use Rattle.hp_arr.proofs.KeptPlaces.{filter-map}

-- a list by its places
entries : {X : Type 0} (d : X) (s : ℕ) (all xs : List X) → ((m : ℕ) → m < length xs → slice_index_or all ((s + m) - 1) d ≡ slice_index_or xs m d)
    → map (λ q. slice_index_or all (q - 1) d) (range_with_len s (length xs)) ≡ xs
entries d s all [] h = refl
entries {X} d s all (x ∷ xs) h = λ j. first j ∷ entries d (s + 1) all xs (λ m l. ap (λ p. slice_index_or all p d) (move s m) ∙ h (suc m) (omega (arith, l))) j
  where
    move : (s m : ℕ) → ((s + 1) + m) - 1 ≡ (s + suc m) - 1
    move s m = omega arith

    zero_more : (s : ℕ) → s - 1 ≡ (s + 0) - 1
    zero_more s = omega arith

    first : slice_index_or all (s - 1) d ≡ x
    first = ap (λ p. slice_index_or all p d) (zero_more s) ∙ h 0 (omega arith)

pub by-places : {X : Type 0} (d : X) (xs : List X) → map (λ q. slice_index_or xs (q - 1) d) (one_to (length xs)) ≡ xs
by-places d xs = entries d 1 xs xs (λ m l. ap (λ p. slice_index_or xs p d) (back m))
  where
    back : (m : ℕ) → (1 + m) - 1 ≡ m
    back m = omega arith

module _ {K : Type 0} (A : AffineSetting K) (i : ℕ) (low : 1 ≤ i) (high : i ≤ n A) where
  open A use {ring, inverse, numbers, arr, field, num, lawful}

  abbrev form_i : List K
  form_i = form A.arr i

  abbrev pub k : ℕ
  k = (last A i low high).0

  -- ---- the points of an affine hyperplane, counted by their other coordinates

  -- its coefficients, and its constant
  parts : (x : List K) × (c : K) × IsRow ring arr.dim x × ring.IsValue c × (form_i ≡ x ++ c ∷ [])
  parts = split-height ring arr.dim form_i (a-row A i low high)

  -- a point of the hyperplane with no other coordinate than that at the place
  foot_factor : K
  foot_factor = ring.mul (ring.neg parts.1) (inverse (entry ring form_i k))

  place_value : ring.IsValue (entry ring form_i k)
  place_value = (a-row A i low high).1 k ring.zero (nonzero-at A i low high).within

  foot_value : ring.IsValue foot_factor
  unfolding foot_factor
  foot_value = field.is_ring.mul_value _ _ (field.is_ring.neg_value _ parts.3) (field.inverse_value _ place_value (nonzero-at A i low high).nonzero)

  abbrev foot : List K
  foot = row_scale A.ring foot_factor (unit_row A.ring A.arr.dim (k + 1))

  foot-row : IsRow ring arr.dim foot
  foot-row = scale-row field.is_ring arr.dim foot_factor (unit_row ring arr.dim (k + 1)) foot_value (unit-row field.is_ring arr.dim (k + 1))

  abbrev linear : List K
  linear = parts.0

  place-linear : entry ring linear k ≡ entry ring form_i k
  place-linear = sym (ap (λ f. entry ring f k) parts.4 ∙ get_or_append_left linear (parts.1 ∷ []) ring.zero k (subst (λ m. k < m) (sym parts.2.0) (place-low A i low high)))

  foot-zero : dot_of ring form_i (lifted A foot) ≡ ring.zero
  unfolding foot_factor
  foot-zero =
      let L = field.is_ring in
      let c = parts.1 in
      let vc = parts.3 in
      let vn = L.neg_value c vc in
      let e = entry ring form_i k in
      let vi = field.inverse_value e place_value (nonzero-at A i low high).nonzero in
      ap (λ f. dot_of ring f (lifted A foot)) parts.4
      ∙ dot_of-push L linear foot c ring.one (parts.2.0 ∙ sym foot-row.0) parts.2.1 foot-row.1 vc L.one_value
      ∙ (λ j. ring.add ((dot-scale_right L field.commutes foot_factor linear (unit_row ring arr.dim (k + 1)) foot_value parts.2.1 (unit-row L arr.dim (k + 1)).1
      ∙ ap (ring.mul foot_factor) (unit-dot L arr.dim linear k parts.2 (place-low A i low high) ∙ place-linear)
      ∙ L.mul_assoc (ring.neg c) (inverse e) e vn vi place_value
      ∙ ap (ring.mul (ring.neg c)) (field.commutes (inverse e) e vi place_value ∙ field.mul_inverse e place_value (nonzero-at A i low high).nonzero)
      ∙ L.mul_one (ring.neg c) vn) j) (L.mul_one c vc j))
      ∙ L.add_comm (ring.neg c) c vn vc ∙ L.add_neg c vc

  -- along the foot the hyperplane becomes a linear one
  moved-value : (w : List K) → IsRow ring arr.dim w → dot_of ring form_i (lifted A (row_plus ring w foot)) ≡ dot_of ring linear w
  moved-value w r =
      let L = field.is_ring in
      let pw = height-row ring arr.dim w ring.zero r L.zero_value in
      let pf = lifted-point A foot foot-row in
      let sum : row_plus ring (w ++ ring.zero ∷ []) (lifted A foot) ≡ lifted A (row_plus ring w foot) =
      plus-height ring w foot ring.zero ring.one (r.0 ∙ sym foot-row.0) ∙ ap (λ e. row_plus ring w foot ++ e ∷ []) (zero_add L ring.one L.one_value) in
      let value = dot_of_value L linear w parts.2.1 r.1 in
      ap (dot_of ring form_i) (sym sum)
      ∙ dot-plus_right L form_i (w ++ ring.zero ∷ []) (lifted A foot) (a-row A i low high).1 pw.1 pf.1 (pw.0 ∙ sym pf.0)
      ∙ ap (ring.add (dot_of ring form_i (w ++ ring.zero ∷ []))) foot-zero
      ∙ L.add_zero _ (dot_of_value L form_i (w ++ ring.zero ∷ []) (a-row A i low high).1 pw.1)
      ∙ ap (λ f. dot_of ring f (w ++ ring.zero ∷ [])) parts.4
      ∙ dot_of-push L linear w parts.1 ring.zero (parts.2.0 ∙ sym r.0) parts.2.1 r.1 parts.3 L.zero_value
      ∙ ap (ring.add (dot_of ring linear w)) (mul_zero L parts.1 parts.3) ∙ L.add_zero _ value

  pub affine-count : (d : ℕ) → arr.dim ≡ suc d → (test : List K → Bool)
      → count_by (λ x. test (remove x k) && ring.is_zero (dot_of ring form_i (lifted A x))) (points ring numbers arr.dim) ≡ count_by test (points ring numbers d)
  affine-count d e test =
      sym (sum-points (finite A) arr.dim foot foot-row (λ x. one_if (test (remove x k) && ring.is_zero (dot_of ring form_i (lifted A x)))))
      ∙ sum_by-ext (λ w. one_if (test (remove (row_plus ring w foot) k) && ring.is_zero (dot_of ring form_i (lifted A (row_plus ring w foot)))))
      (λ w. one_if (test (remove w k) && ring.is_zero (dot_of ring linear w))) (points ring numbers arr.dim)
      (λ w c. let r = points-rows (finite A) arr.dim w c in
      λ j. one_if (test (remove-unit (finite A) w foot_factor arr.dim k r foot_value j) && ring.is_zero (moved-value w r j)))
      ∙ ap (λ m. count_by (λ w. test (remove w k) && ring.is_zero (dot_of ring linear w)) (points ring numbers m)) e
      ∙ hyperplane-count (finite A) d k linear test (let l = place-low A i low high in omega (arith, l, e)) (subst (λ m. IsRow ring m linear) e parts.2)
      (λ z. (nonzero-at A i low high).nonzero (sym place-linear ∙ z))

  -- ---- the rows of the restriction, by their places among the others

  abbrev row_at : ℕ → List K
  row_at q = restricted A i low high (form (deletion A.arr i) q)

  abbrev pub look : ℕ → List K
  look q = normalised A.ring A.inverse (restricted A i low high (form (deletion A.arr i) q))

  abbrev pub good : Set
  good = filter (λ q. stays A i low high (restricted A i low high (form (deletion A.arr i) q))) (one_to (length (deletion A.arr i).forms))

  abbrev pub kept_places : Set
  kept_places = places.kept A.ring look good

  listed : {X : Type 0} (f : List K → X) (rows : List (List K)) → map f rows ≡ map (λ q. f (slice_index_or rows (q - 1) [])) (one_to (length rows))
  listed f rows = ap (map f) (sym (by-places [] rows)) ∙ map-map f (λ q. slice_index_or rows (q - 1) []) (one_to (length rows))

  pub kept-is : kept A i low high ≡ map look kept_places
  kept-is =
      ap (λ rows. first_copies ring (map (normalised ring inverse) (filter (stays A i low high) rows))) (listed (restricted A i low high) (others A i low high))
      ∙ ap (λ rows. first_copies ring (map (normalised ring inverse) rows)) (filter-map (stays A i low high) row_at (one_to (length (others A i low high))))
      ∙ ap (first_copies ring) (map-map (normalised ring inverse) row_at good)
      ∙ places.kept-rows ring look good
