-- Common points, closures and ranks of sets of affine hyperplanes, by a basis of the common points of the cone.
use Rattle.std.specs.Prelude.{◌≡◌, ℕ, suc, ◌+◌, ◌-◌, true, false, not, List, [], ◌∷◌, ◌++◌, map, filter, take, length, Contains, slice_index_or}
use Rattle.std.specs.List.{range_with_len}
use Rattle.std.proofs.Common.{get_or, refl, sym, ap, ◌∙◌, subst, arith, length-append, append_assoc}
use Rattle.std.proofs.lemmas.List.{length-map, length-take-le, get_or-append-add}
use Rattle.std.proofs.lemmas.List.Elements.{All-map, All-take}
use Rattle.hp_lists.specs.Lists.{list_all}
use Rattle.hp_lists.proofs.Members.{Contains-here, Contains-later, Contains-filter, filter-Contains, Contains-map, all-at, all-from}
use Rattle.hp_lists.proofs.Ranges.{members_range}
use Rattle.hp_algebra.specs.Ring.{dot_of}
use Rattle.hp_algebra.specs.Rows.{IsRow, entry, is_zero_row, unit_row}
use Rattle.hp_algebra.proofs.Dots.{dot-comm}
use Rattle.hp_algebra.proofs.UnitRows.{unit-row, unit-dot}
use Rattle.hp_sets.specs.Sets.{Set, IsSetWithin}
use Rattle.hp_sets.proofs.SetLaws.{set_members, set-ext, set-wider, test-ext, one_to-set, filter-set, contains-Contains, Contains-contains}
use Rattle.hp_arr.specs.Arrangement.{Arrangement, form, indices, lies_in, linear_part}
use Rattle.hp_arr.specs.Flats.{closure, rank, total_rank, has_point}
use Rattle.hp_arr.proofs.Cuts.{IsIndex, AreIndices, set-indices}
use Rattle.hp_linear.specs.Matrices.{IsKernelMember, IsRank}
use Rattle.hp_linear.specs.Spaces.{IsBasisOf}
use Rattle.hp_flats.specs.Matrices.{forms_matrix}
use Rattle.hp_flats.proofs.CutKernels.{flat-of_basis, nullity}
use Rattle.hp_arr.proofs.ConePoints.{AffineSetting, n, coned, cone-forms, cone-count, form-cone, form-infinity, index-cone, infinity-index, linear-forms, lies-cone, lies-infinity, split-height, entry-height}
use Rattle.hp_arr.proofs.ConeCuts.{has_point-cone, closure-affine, affine-members, affine-set}
use Rattle.hp_arr.proofs.ConeRanks.{rank-affine}
use Rattle.hp_arr.proofs.FlatList.{total-rank}

-- the rows of a list, read by their numbers
listed-behind : {K : Type 0} (before rows : List (List K)) → map (λ i. slice_index_or (before ++ rows) (i - 1) []) (range_with_len (length before + 1) (length rows)) ≡ rows
listed-behind before [] = refl
listed-behind before (x ∷ rows) =
    let at : length before + 1 - 1 ≡ length before + 0 = omega arith in
    let head : slice_index_or (before ++ x ∷ rows) (length before + 1 - 1) [] ≡ x = ap (λ m. slice_index_or (before ++ x ∷ rows) m []) at ∙ get_or-append-add before (x ∷ rows) 0 [] in
    let more : length (before ++ x ∷ []) + 1 ≡ length before + 1 + 1 = ap (λ m. m + 1) (length-append before (x ∷ [])) in
    let rest : map (λ i. slice_index_or (before ++ x ∷ rows) (i - 1) []) (range_with_len (length before + 1 + 1) (length rows)) ≡ rows =
    sym (λ j. map (λ i. slice_index_or (append_assoc before (x ∷ []) rows j) (i - 1) []) (range_with_len (more j) (length rows))) ∙ listed-behind (before ++ x ∷ []) rows in
    λ j. head j ∷ rest j

pub forms-listed : {K : Type 0} (arr : Arrangement K) → map (form arr) (indices arr) ≡ arr.forms
forms-listed arr = listed-behind [] arr.forms

module _ {K : Type 0} (A : AffineSetting K) where
  open A use {ring, inverse, numbers, arr, field, num, lawful}

  abbrev C : Arrangement K
  C = coned A

  abbrev infinity : ℕ
  infinity = suc (length A.arr.forms)

  -- the forms of the cone of a set of hyperplanes are their rows
  pub cone-rows : (s : Set) → AreIndices arr s → map (form C) s ≡ map (form arr) s
  cone-rows [] h = refl
  cone-rows (i ∷ s) h = λ j. form-cone A i (h i (Contains-here i s)) j ∷ cone-rows s (λ k c. h k (Contains-later i s k c)) j

  pub wide-set : (s : Set) → IsSetWithin (n A) s → IsSetWithin (length C.forms) s
  wide-set s w = set-wider (n A) (length C.forms) s (let c = cone-count A in omega (arith, c)) w

  -- whether a point of the cone is at infinity
  last-infinity : (x : List K) → IsRow ring (arr.dim + 1) x → lies_in ring C infinity x ≡ ring.is_zero (entry ring x arr.dim)
  last-infinity x r =
      let d = split-height ring arr.dim x r in
      ap (lies_in ring C infinity) d.4 ∙ lies-infinity A d.0 d.1 d.2 d.3
      ∙ ap ring.is_zero (sym (ap (λ y. entry ring y arr.dim) d.4 ∙ entry-height ring arr.dim d.0 d.1 d.2.0))

  -- the value of the form at infinity is the last coordinate
  pub value-infinity : (x : List K) → IsRow ring (arr.dim + 1) x → dot_of ring (form C infinity) x ≡ entry ring x arr.dim
  value-infinity x r =
      let u = unit-row field.is_ring (arr.dim + 1) (arr.dim + 1) in
      ap (λ a. dot_of ring a x) (form-infinity A) ∙ dot-comm field.is_ring field.commutes (unit_row ring (arr.dim + 1) (arr.dim + 1)) x u.1 r.1
      ∙ unit-dot field.is_ring (arr.dim + 1) x arr.dim r (omega arith)

  listed : (j : ℕ) → IsIndex C j → Contains (indices C) j
  listed j r = members_range j 1 (length C.forms) r.0 (let h = r.1 in omega (arith, h))

  module _ {B : Type 0} (f : B → List K) (s : Set) (basis : List B) (within : IsSetWithin (n A) s)
      (is : IsBasisOf ring (arr.dim + 1) (IsKernelMember ring (forms_matrix (coned A) s)) (map f basis)) where
    row : (x : B) → Contains basis x → IsRow ring (arr.dim + 1) (f x)
    row x c = (is.members (f x) (Contains-map f basis x c)).0

    places : AreIndices arr s
    places = set-indices arr s within

    from : filter (λ j. list_all (λ x. lies_in ring C j (f x)) basis) (indices C) ≡ closure ring numbers C s
    from = flat-of_basis field num C (cone-forms A) f s basis (wide-set s within) is

    at-infinity : list_all (λ x. lies_in ring C infinity (f x)) basis ≡ list_all (λ x. ring.is_zero (entry ring (f x) arr.dim)) basis
    at-infinity = test-ext _ _
        (λ t. all-from (λ x. ring.is_zero (entry ring (f x) arr.dim)) basis (λ x d. sym (last-infinity (f x) (row x d)) ∙ all-at (λ x. lies_in ring C infinity (f x)) basis x t d))
        (λ t. all-from (λ x. lies_in ring C infinity (f x)) basis (λ x d. last-infinity (f x) (row x d) ∙ all-at (λ x. ring.is_zero (entry ring (f x) arr.dim)) basis x t d))

    -- The set has a common point exactly where some point of the basis is not at infinity.
    pub point-basis : has_point ring numbers arr s ≡ not (list_all (λ x. ring.is_zero (entry ring (f x) arr.dim)) basis)
    point-basis = has_point-cone A s places ∙ ap not (test-ext _ _
        (λ t. sym at-infinity ∙ (filter-Contains (λ j. list_all (λ x. lies_in ring C j (f x)) basis) (indices C) infinity
        (subst (λ z. Contains z infinity) (sym from) (contains-Contains (closure ring numbers C s) infinity t))).1)
        (λ t. Contains-contains (closure ring numbers C s) infinity (subst (λ z. Contains z infinity) from
        (Contains-filter (λ j. list_all (λ x. lies_in ring C j (f x)) basis) (indices C) infinity (listed infinity (infinity-index A)) (at-infinity ∙ t)))))

    same-test : (j : ℕ) → IsIndex arr j → list_all (λ x. lies_in ring C j (f x)) basis ≡ list_all (λ x. ring.is_zero (dot_of ring (form arr j) (f x))) basis
    same-test j r = test-ext _ _
        (λ t. all-from (λ x. ring.is_zero (dot_of ring (form arr j) (f x))) basis (λ x d. sym (lies-cone A j (f x) r (row x d)) ∙ all-at (λ x. lies_in ring C j (f x)) basis x t d))
        (λ t. all-from (λ x. lies_in ring C j (f x)) basis (λ x d. lies-cone A j (f x) r (row x d) ∙ all-at (λ x. ring.is_zero (dot_of ring (form arr j) (f x))) basis x t d))

    -- Then its closure has the hyperplanes whose rows are zero at the basis.
    pub closure-basis : has_point ring numbers arr s ≡ true
        → filter (λ j. list_all (λ x. ring.is_zero (dot_of ring (form arr j) (f x))) basis) (indices arr) ≡ closure ring numbers arr s
    closure-basis p =
        let test = λ (j : ℕ). list_all (λ x. ring.is_zero (dot_of ring (form arr j) (f x))) basis in
        let wide = λ (j : ℕ). list_all (λ x. lies_in ring C j (f x)) basis in
        set-ext (n A) (n A) (filter test (indices arr)) (closure ring numbers arr s) (filter-set test (n A)) (affine-set A s)
        (λ j c. let d = filter-Contains test (indices arr) j c in
        let r : IsIndex arr j = set_members (n A) (indices arr) j (one_to-set (n A)) d.0 in
        subst (λ z. Contains z j) (from ∙ sym (closure-affine A s places p)) (Contains-filter wide (indices C) j (listed j (index-cone A j r)) (same-test j r ∙ d.1)))
        (λ j c. let r = (affine-members A s j places c).0 in
        let d = filter-Contains wide (indices C) j (subst (λ z. Contains z j) (closure-affine A s places p ∙ sym from) c) in
        Contains-filter test (indices arr) j (members_range j 1 (n A) r.0 (let h = r.1 in omega (arith, h))) (sym (same-test j r) ∙ d.1))

  -- its rank makes up the dimension of the cone with the basis
  pub rank-basis : (s : Set) (count : ℕ) → IsSetWithin (n A) s → has_point ring numbers arr s ≡ true → count + rank ring numbers C s ≡ arr.dim + 1
      → arr.dim + 1 - count ≡ rank ring numbers arr s
  rank-basis s count within p e = let r = rank-affine A s (set-indices arr s within) p in less count _ _ _ e r
    where
      less : (c k d m : ℕ) → c + k ≡ d → m ≡ k → d - c ≡ m
      less c k d m e r = omega (arith, e, r)

  -- A basis of the points at which all linear forms are zero makes up the dimension with the rank of the arrangement.
  pub total-basis : (count : ℕ) → ((r : ℕ) → IsRank ring (forms_matrix (linear_part ring arr) (indices (linear_part ring arr))) r → count + r ≡ arr.dim)
      → count + total_rank ring numbers arr ≡ arr.dim
  unfolding total_rank
  total-basis count h =
      ap (λ r. count + r) (total-rank A)
      ∙ nullity field num (linear_part ring arr) (linear-forms A) (indices (linear_part ring arr)) count (one_to-set (length (linear_part ring arr).forms)) h
