-- Central arrangements with constants zero: what is said of them is what is said of their forms.
use Rattle.std.specs.Prelude.{◌≡◌, ◌↔◌, ℕ, zero, suc, ◌+◌, ◌-◌, ◌*◌, ◌^◌, ◌≤◌, ◌==◌, nat_lt, true, cond, ◌&&◌, List, [], ◌∷◌, ◌++◌, map, flat_map, length, filter, All, Contains, pos, ◌*ℤ◌, neg_ℤ, slice_index_or}
use Rattle.std.proofs.lemmas.List.{length-map}
use Rattle.std.proofs.lemmas.List.Elements.{All-head, All-tail}
use mathlib.Core.Path.{refl, sym, ap, ◌∙◌, subst}
use native.Mathlib.Omega.{arith}
use Rattle.hp_algebra.specs.Integers.{sign, sum_over}
use Rattle.hp_algebra.specs.Ring.{RingOf, dot_of}
use Rattle.hp_algebra.specs.Rows.{IsRow, zero_row}
use Rattle.hp_algebra.proofs.Rings.{zero_mul, zero_passes}
use Rattle.hp_algebra.proofs.Rows.{zeros-row}
use Rattle.hp_algebra.proofs.Dots.{dot_of_value, dot_of-push, dot-comm, dot-zeros}
use Rattle.hp_lists.specs.Lists.{one_to, below, list_all, first_below}
use Rattle.hp_lists.proofs.Members.{filter-ext, all-from, Contains-map, map-Contains, Contains-here, Contains-later}
use Rattle.hp_sets.specs.Sets.{Set, IsSetWithin, is_within, is_properly_within, sets_within}
use Rattle.hp_sets.specs.declared.flat.Flat.{Flat}
use Rattle.hp_arr.specs.Arrangement.{Arrangement, form, lies_in, indices, with_constants}
use Rattle.hp_arr.specs.Flats.{points, cut, closure, rank, total_rank, IsFlat, is_flat, flats_of_rank, flats, has_point, greatest}
use Rattle.hp_arr.specs.Moebius.{mobius_bounded, mobius, rank_sum, poincare, characteristic}
use Rattle.hp_arr.proofs.Setting.{Setting, over, finite}
use Rattle.hp_arr.proofs.SpacePoints.{points-rows}
use Rattle.hp_arr.proofs.Counting.{form_values}
use Rattle.hp_arr.proofs.Cuts.{cut-members, members-cut, set-indices, IsFlat-set, IsFlat-flat}
use Rattle.hp_arr.proofs.Ranks.{rank-total, rank-flat}
use Rattle.hp_arr.proofs.FlatList.{total-rank}
use Rattle.hp_arr.proofs.FormValues.{form-lies}
use Rattle.hp_arr.proofs.ConePoints.{AffineSetting}
use Rattle.hp_arr.proofs.CentralLawful.{constants-lawful, constants-linear}

module _ {K : Type 0} (S : Setting K) where
  open S use {ring, inverse, numbers, arr, field, num, lawful}

  -- B has as many rows, and its hyperplanes are the same sets of points.
  pub record IsCentralForm (B : Arrangement K) : Type 0 where
    pub dims : B.dim ≡ arr.dim
    pub counts : length B.forms ≡ length arr.forms
    pub same : (i : ℕ) (x : List K) → IsRow ring arr.dim x → lies_in ring B i x ≡ lies_in ring arr i x

  module _ (B : Arrangement K) (is : IsCentralForm B) where
    pub cut-central : (s : Set) → cut ring numbers B s ≡ cut ring numbers arr s
    unfolding cut
    cut-central s =
        ap (λ d. filter (λ x. list_all (λ i. lies_in ring B i x) s) (points ring numbers d)) is.dims
        ∙ filter-ext (λ x. list_all (λ i. lies_in ring B i x) s) (λ x. list_all (λ i. lies_in ring arr i x) s) (points ring numbers arr.dim)
        (λ x c. each s x (points-rows (finite S) arr.dim x c))
      where
        each : (s : Set) (x : List K) → IsRow ring arr.dim x → list_all (λ i. lies_in ring B i x) s ≡ list_all (λ i. lies_in ring arr i x) s
        each [] x r = refl
        each (i ∷ s) x r = λ j. is.same i x r j && each s x r j

    pub has_point-central : (s : Set) → has_point ring numbers B s ≡ has_point ring numbers arr s
    unfolding has_point
    has_point-central s = ap (λ c. nat_lt 0 (length c)) (cut-central s)

    pub closure-central : (s : Set) → closure ring numbers B s ≡ closure ring numbers arr s
    unfolding closure
    closure-central s =
        (λ j. filter (λ k. list_all (lies_in ring B k) (cut-central s j)) (one_to (is.counts j)))
        ∙ filter-ext (λ k. list_all (lies_in ring B k) (cut ring numbers arr s)) (λ k. list_all (lies_in ring arr k) (cut ring numbers arr s)) (indices arr)
        (λ k c. each k (cut ring numbers arr s) (λ x d. (cut-members (over S) s x d).0))
      where
        each : (k : ℕ) (xs : List (List K)) → ((x : List K) → Contains xs x → IsRow ring arr.dim x) → list_all (lies_in ring B k) xs ≡ list_all (lies_in ring arr k) xs
        each k [] h = refl
        each k (x ∷ xs) h = λ j. is.same k x (h x (Contains-here x xs)) j && each k xs (λ y c. h y (Contains-later x xs y c)) j

    pub rank-central : (s : Set) → rank ring numbers B s ≡ rank ring numbers arr s
    unfolding rank
    rank-central s = λ j. first_below (is.dims j + 1) (λ r. (length (cut-central s j) * numbers.order ^ r) == numbers.order ^ is.dims j)

    -- ---- flats

    pub is_flat-central : (s : Set) → is_flat ring numbers B s ≡ is_flat ring numbers arr s
    unfolding is_flat
    is_flat-central s = λ j. has_point-central s j && (is_within (closure-central s j) s && is_within s (closure-central s j))

    pub IsFlat-central : (f : Set) → IsFlat ring numbers B f ↔ IsFlat ring numbers arr f
    IsFlat-central f = (
      (λ h. (h.0, subst (λ m. IsSetWithin m h.0) is.counts h.1, sym (has_point-central h.0) ∙ h.2, h.3 ∙ closure-central h.0)),
      λ h. (h.0, subst (λ m. IsSetWithin m h.0) (sym is.counts) h.1, has_point-central h.0 ∙ h.2, h.3 ∙ sym (closure-central h.0)),
    )

    pub flats_of_rank-central : (r : ℕ) → flats_of_rank ring numbers B r ≡ flats_of_rank ring numbers arr r
    unfolding flats_of_rank
    flats_of_rank-central r = λ j. filter (λ s. is_flat-central s j && (rank-central s j == r)) (sets_within (is.counts j))

    pub flats-central : flats ring numbers B ≡ flats ring numbers arr
    unfolding flats
    flats-central = λ j. flat_map (λ r. map (λ s. record { rank = r; set = s }) (flats_of_rank-central r j)) (below (is.dims j + 1))

    pub total-central : total_rank ring numbers B ≡ total_rank ring numbers arr
    unfolding total_rank
    total-central = ap (λ fs. greatest (map (λ (f : Flat). f.rank) fs)) flats-central

    -- ---- Möbius values and polynomials

    bounded-central : (b : ℕ) (f : Set) → mobius_bounded ring numbers B b f ≡ mobius_bounded ring numbers arr b f
    unfolding mobius_bounded
    bounded-central zero [] = refl
    bounded-central (suc b) [] = refl
    bounded-central zero (i ∷ s) = refl
    bounded-central (suc b) (i ∷ s) =
        λ j. neg_ℤ (sum_over (λ g. cond (is_flat-central g j && is_properly_within g (i ∷ s)) (bounded-central b g j) (pos 0)) (sets_within (is.counts j)))

    pub mobius-central : (f : Set) → mobius ring numbers B f ≡ mobius ring numbers arr f
    unfolding mobius
    mobius-central f = bounded-central (length f) f

    pub rank_sum-central : (k : ℕ) → rank_sum ring numbers B k ≡ rank_sum ring numbers arr k
    unfolding rank_sum
    rank_sum-central k = λ j. sum_over (λ f. mobius-central f j) (flats_of_rank-central k j)

    pub poincare-central : poincare ring numbers B ≡ poincare ring numbers arr
    unfolding poincare
    poincare-central = λ j. map (λ k. rank_sum-central k j *ℤ sign k) (below (total-central j + 1))

    pub characteristic-central : characteristic ring numbers B ≡ characteristic ring numbers arr
    unfolding characteristic
    characteristic-central = λ j. map (λ k. rank_sum-central (is.dims j - k) j) (below (is.dims j + 1))

  -- ---- the forms with constants zero

  extended : (f x : List K) → All ring.IsValue f → All ring.IsValue x → length f ≡ length x → dot_of ring (f ++ ring.zero ∷ []) (x ++ ring.one ∷ []) ≡ dot_of ring f x
  extended f x vf vx e =
      let L = field.is_ring in
      dot_of-push L f x ring.zero ring.one e vf vx L.zero_value L.one_value
      ∙ ap (ring.add (dot_of ring f x)) (zero_mul L ring.one L.one_value) ∙ L.add_zero _ (dot_of_value L f x vf vx)

  pub constants-central : IsCentralForm (with_constants ring arr)
  constants-central = record {
    dims = refl;
    counts = length-map arr.forms (λ f. f ++ ring.zero ∷ []);
    same = λ i x r. at (i - 1) arr.forms lawful.rows x r ∙ sym (form-lies ring arr lawful.rows i x r.0);
  }
    where
      at : (k : ℕ) (rows : List (List K)) → All (IsRow ring arr.dim) rows → (x : List K) → IsRow ring arr.dim x
          → ring.is_zero (dot_of ring (slice_index_or (map (λ f. f ++ ring.zero ∷ []) rows) k []) (x ++ ring.one ∷ [])) ≡ ring.is_zero (dot_of ring (slice_index_or rows k []) x)
      at k [] h x r = refl
      at zero (row ∷ rows) h x r = let p = All-head (IsRow ring arr.dim) row rows h in ap ring.is_zero (extended row x p.1 r.1 (p.0 ∙ sym r.0))
      at (suc k) (row ∷ rows) h x r = at k rows (All-tail (IsRow ring arr.dim) row rows h) x r

  -- the greatest rank of a flat is the rank of all hyperplanes
  pub total-all : total_rank ring numbers arr ≡ rank ring numbers arr (indices arr)
  total-all =
      let A : AffineSetting K = record {
        ring = S.ring;
        inverse = S.inverse;
        numbers = S.numbers;
        arr = with_constants S.ring S.arr;
        field = S.field;
        num = S.num;
        lawful = constants-lawful S.field S.numbers S.arr S.lawful;
      } in
      sym (total-central (with_constants ring arr) constants-central)
      ∙ total-rank A
      ∙ ap (λ a. rank ring numbers a (indices a)) (constants-linear field numbers arr lawful.rows)
