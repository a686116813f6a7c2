-- Covers of a flat of an affine arrangement by the values of its rows, and of the last coordinate, at points of the cone: rows that are parallel to the last coordinate do not meet the flat.
use Rattle.std.specs.Prelude.{◌≡◌, ◌≢◌, ◌↔◌, ℕ, suc, ◌<◌, ◌≤◌, Bool, true, false, not, List, [], ◌∷◌, map, length, remove, Contains, slice_index_or}
use mathlib.Core.Path.{refl, sym, ap, ◌∙◌, subst}
use native.Mathlib.Omega.{arith}
use Rattle.hp_lists.specs.Lists.{one_to}
use Rattle.hp_lists.proofs.Members.{not_both}
use Rattle.hp_algebra.specs.Rows.{unit_row}
use Rattle.hp_sets.specs.Sets.{Set, IsSetWithin, contains}
use Rattle.hp_sets.proofs.SetLaws.{contains-Contains, Contains-contains, set-wider}
use Rattle.hp_arr.specs.Arrangement.{Arrangement}
use Rattle.hp_arr.specs.Flats.{closure, rank, IsFlat, has_point}
use Rattle.hp_arr.proofs.Cuts.{IsIndex, AreIndices, set-indices, indices-more, has_origin}
use Rattle.hp_arr.proofs.Matroid.{exchange}
use Rattle.hp_flats.specs.Levels.{HasValues, AreParallel, at_form, reduced, values_of}
use Rattle.hp_flats.proofs.ValuePoints.{first-values, outside-place, cover-parallel, cover-values}
use Rattle.hp_arr.proofs.ConePoints.{AffineSetting, n, coned, cone-count, index-cone, infinity-index, cone_over}
use Rattle.hp_arr.proofs.ConeCuts.{has_point-cone, closure-affine}
use Rattle.hp_arr.proofs.ConeRanks.{rank-affine}
use Rattle.hp_arr.proofs.ConeMatroids.{flat-set, flat-has_point, flat-of_flat}

module _ {K : Type 0} (A : AffineSetting K) where
  open A use {ring, numbers, arr}

  abbrev C : Arrangement K
  C = coned A

  abbrev infinity : ℕ
  infinity = suc (length A.arr.forms)

  -- the values at the beginning decide in the whole space
  pub first-cone_values : HasValues ring C [] (map (λ k. values_of ring C (unit_row ring C.dim k)) (one_to C.dim))
  first-cone_values = first-values (cone_over A)

  module _ (f : Set) (is : IsFlat ring numbers arr f) where
    f-indices : AreIndices arr f
    f-indices = set-indices arr f (flat-set A f is)

    f-point : has_point ring numbers arr f ≡ true
    f-point = flat-has_point A f is

    -- a flat is one of the cone
    closed-cone : closure ring numbers C f ≡ f
    closed-cone = sym (closure-affine A f f-indices f-point) ∙ flat-of_flat A f is

    wide : IsSetWithin (length C.forms) f
    wide = set-wider (n A) (length C.forms) f (let c = cone-count A in omega (arith, c)) (flat-set A f is)

    pub flat-cone : IsFlat ring numbers C f
    flat-cone = (f, wide, has_origin (cone_over A) f, sym closed-cone)

    pub rank-cone : rank ring numbers C f ≡ rank ring numbers arr f
    rank-cone = sym (rank-affine A f f-indices f-point)

    lacks : Contains f infinity → ⊥
    lacks c = let r = f-indices infinity c in omega (arith, r.1)

    module _ (rows : List (List K)) (has : HasValues ring C f rows) where
      -- the last coordinate is not zero at one of the points
      pub infinity-place : ((w : List K) → Contains rows w → at_form ring infinity w ≡ ring.zero) → ⊥
      infinity-place z = outside-place (cone_over A) f flat-cone rows has infinity (infinity-index A) lacks z

      -- row j comes in with row i exactly where their values are parallel
      pub class-parallel : (i : ℕ) → IsIndex C i → (q : ℕ) → q < length rows → at_form ring i (slice_index_or rows q []) ≢ ring.zero
          → (j : ℕ) → IsIndex C j → Contains (closure ring numbers C (i ∷ f)) j ↔ AreParallel ring rows q i j
      class-parallel i ri q m off j rj =
          cover-parallel (cone_over A) f flat-cone rows has i ri q m off j rj

      -- A hyperplane outside does not meet the flat exactly where its values are parallel to those of the last coordinate.
      pub lost-parallel : (q : ℕ) → q < length rows → at_form ring infinity (slice_index_or rows q []) ≢ ring.zero
          → (k : ℕ) → IsIndex arr k → (Contains f k → ⊥) → (has_point ring numbers arr (k ∷ f) ≡ false) ↔ AreParallel ring rows q infinity k
      lost-parallel q m off k rk out =
          let c = class-parallel infinity (infinity-index A) q m off k (index-cone A k rk) in (
            (λ e. c.0 (exchange (cone_over A) f k infinity (index-cone A k rk) (holds (contains (closure ring numbers C (k ∷ f)) infinity) refl (sym more ∙ e)) (λ d. lacks (subst (λ s. Contains s infinity) closed-cone d)))),
            λ p. more ∙ ap not (Contains-contains (closure ring numbers C (k ∷ f)) infinity
                (exchange (cone_over A) f infinity k (infinity-index A) (c.1 p) (λ d. out (subst (λ s. Contains s k) closed-cone d)))),
          )
        where
          more : has_point ring numbers arr (k ∷ f) ≡ not (contains (closure ring numbers C (k ∷ f)) infinity)
          more = has_point-cone A (k ∷ f) (indices-more arr k f rk f-indices)

          holds : (b : Bool) → contains (closure ring numbers C (k ∷ f)) infinity ≡ b → not (contains (closure ring numbers C (k ∷ f)) infinity) ≡ false → Contains (closure ring numbers C (k ∷ f)) infinity
          holds true e h = contains-Contains (closure ring numbers C (k ∷ f)) infinity e
          holds false e h = absurd (not_both (not (contains (closure ring numbers C (k ∷ f)) infinity)) (ap not e) h)

      -- the points of the cover, as they are made from those of the flat
      pub cover-cone_values : (i : ℕ) → IsIndex arr i → (q : ℕ) → q < length rows → at_form ring i (slice_index_or rows q []) ≢ ring.zero
          → has_point ring numbers arr (i ∷ f) ≡ true
          → HasValues ring C (closure ring numbers arr (i ∷ f)) (map (reduced ring (slice_index_or rows q []) i) (remove rows q))
      cover-cone_values i ri q m off p =
          let e = closure-affine A (i ∷ f) (indices-more arr i f ri f-indices) p in
          subst (λ s. HasValues ring C s (map (reduced ring (slice_index_or rows q []) i) (remove rows q))) (sym e)
          (cover-values (cone_over A) f flat-cone rows has i (index-cone A i ri) q m off)
