-- The cone over an affine arrangement: its forms, and the points of the cone by their heights, which are their last coordinates.
use Rattle.std.specs.Prelude.{◌≡◌, ◌≢◌, ℕ, suc, ◌+◌, ◌-◌, ◌<◌, ◌≤◌, Bool, true, false, ◌&&◌, List, [], ◌∷◌, ◌++◌, length, take, drop, Contains, slice_index_or, ◌⊎◌}
use Rattle.std.proofs.lemmas.Bool.{false_from_ne_true}
use Rattle.std.proofs.lemmas.List.{length-append, map-append, get_or_append_left, get_or-append-add, take-append-drop, length-take-le, drop_more, drop_all}
use Rattle.std.proofs.lemmas.List.Elements.{All-nil, All-cons, All-append, All-map, All-take}
use Rattle.std.proofs.lemmas.List.Folds.{list_all-append}
use mathlib.Core.Logic.{inl, inr}
use mathlib.Core.Path.{refl, sym, ap, ◌∙◌, subst}
use native.Mathlib.Omega.{arith}
use Rattle.hp_algebra.specs.Ring.{RingOf, Numbering, IsRing, IsField, IsNumbering, dot_of}
use Rattle.hp_algebra.specs.Rows.{IsRow, entry, row_scale, row_plus, unit_row, is_zero_row}
use Rattle.hp_algebra.proofs.Finite.{Finite}
use Rattle.hp_algebra.proofs.Rings.{zero_passes, mul_zero, field-domain}
use Rattle.hp_algebra.proofs.Rows.{scale-row, is_zero_row-at}
use Rattle.hp_algebra.proofs.Dots.{dot_of_value, dot-comm, dot-scale_right, dot-plus_right}
use Rattle.hp_algebra.proofs.UnitRows.{unit-row, unit-one, unit-dot}
use Rattle.hp_lists.specs.Lists.{list_all}
use Rattle.hp_lists.proofs.Members.{Contains-here, Contains-later, all-at, all-from}
use Rattle.hp_sets.specs.Sets.{Set}
use Rattle.std.proofs.Common.{get_or}
use Rattle.hp_arr.specs.Arrangement.{Arrangement, linear_part, form, lies_in, IsAffineArrangement}
use Rattle.hp_arr.specs.Operations.{cone}
use Rattle.hp_arr.proofs.Cuts.{IsIndex, AreIndices}
use Rattle.hp_arr.proofs.Counting.{lies_in_all}
use Rattle.hp_arr.proofs.FormValues.{form-lies}
use Rattle.hp_arr.proofs.OverField.{IsOverField, AreForms}

-- A lawful affine arrangement over a finite field, with all laws in one record.
pub record AffineSetting (K : Type 0) : Type 1 where
  pub ring : RingOf K
  pub inverse : K → K
  pub numbers : Numbering K
  pub arr : Arrangement K
  pub field : IsField ring inverse
  pub num : IsNumbering ring numbers
  pub lawful : IsAffineArrangement ring numbers arr

-- the record of the laws, from where a function's bounds and an arrangement give them
module _ {K : Type 0} {ring : RingOf K} {inverse : K → K} {numbers : Numbering K} {arr : Arrangement K} where
  abbrev pub affine_setting : IsField ring inverse → IsNumbering ring numbers → IsAffineArrangement ring numbers arr → AffineSetting K
  affine_setting field num lawful =
      record { ring = ring; inverse = inverse; numbers = numbers; arr = arr; field = field; num = num; lawful = lawful }

module _ {K : Type 0} (A : AffineSetting K) where
  -- the number of hyperplanes, the dimension, the field, and the cone
  abbrev pub n : ℕ
  n = length A.arr.forms

  abbrev pub l : ℕ
  l = A.arr.dim

  abbrev pub finite : Finite K
  finite = record { ring = A.ring; inverse = A.inverse; numbers = A.numbers; field = A.field; num = A.num }

  abbrev pub coned : Arrangement K
  coned = cone A.ring A.arr.dim A.arr.forms

module _ {K : Type 0} (ring : RingOf K) where
  -- the sum of two points, by their heights
  pub plus-height : (x y : List K) (c d : K) → length x ≡ length y
      → row_plus ring (x ++ c ∷ []) (y ++ d ∷ []) ≡ row_plus ring x y ++ ring.add c d ∷ []
  plus-height [] [] c d e = refl
  plus-height [] (b ∷ y) c d e = absurd (omega (arith, e))
  plus-height (a ∷ x) [] c d e = absurd (omega (arith, e))
  plus-height (a ∷ x) (b ∷ y) c d e = ap (λ t. ring.add a b ∷ t) (plus-height x y c d (omega (arith, e)))

  pub scale-height : (k : K) (x : List K) (c : K) → row_scale ring k (x ++ c ∷ []) ≡ row_scale ring k x ++ ring.mul k c ∷ []
  scale-height k x c = map-append (ring.mul k) x (c ∷ [])

  -- a point of one dimension more is a point at a height
  pub split-height : (l : ℕ) (y : List K) → IsRow ring (l + 1) y
      → (x : List K) × (c : K) × IsRow ring l x × ring.IsValue c × (y ≡ x ++ c ∷ [])
  split-height l y r = (
    take l y,
    entry ring y l,
    (short, All-take ring.IsValue l y r.1),
    r.1 l ring.zero within,
    sym (take-append-drop l y) ∙ ap (λ t. take l y ++ t) (drop_more y l ring.zero within ∙ ap (λ t. entry ring y l ∷ t) (drop_all (l + 1) y (long (length y) r.0))),
  )
    where
      within : l < length y
      within = omega (arith, r.0)

      long : (m : ℕ) → m ≡ l + 1 → m ≤ l + 1
      long m e = omega (arith, e)

      short : length (take l y) ≡ l
      short =
          let e = ap (λ (t : List K). length t) (take-append-drop l y) in
          let a = length-append (take l y) (drop l y) in
          let d = ap (λ (t : List K). length t) (drop_more y l ring.zero within ∙ ap (λ t. entry ring y l ∷ t) (drop_all (l + 1) y (long (length y) r.0))) in
          count (length (take l y)) (length (drop l y)) (length y) a e d r.0
        where
          count : (t d m : ℕ) → length (take l y ++ drop l y) ≡ t + d → length (take l y ++ drop l y) ≡ m → d ≡ 1 → m ≡ l + 1 → t ≡ l
          count t d m a e f g = omega (arith, a, e, f, g)

  pub height-row : (l : ℕ) (x : List K) (c : K) → IsRow ring l x → ring.IsValue c → IsRow ring (l + 1) (x ++ c ∷ [])
  height-row l x c r v = (
    length-append x (c ∷ []) ∙ ap (λ m. m + 1) r.0,
    All-append ring.IsValue x (c ∷ []) r.1 (All-cons ring.IsValue c [] v (All-nil ring.IsValue)),
  )

  -- its last entry is its height
  pub entry-height : (l : ℕ) (x : List K) (c : K) → length x ≡ l → entry ring (x ++ c ∷ []) l ≡ c
  entry-height l x c e = ap (λ m. entry ring (x ++ c ∷ []) m) (sym e ∙ plus_zero (length x)) ∙ get_or-append-add x (c ∷ []) 0 ring.zero
    where
      plus_zero : (m : ℕ) → m ≡ m + 0
      plus_zero m = omega arith

module _ {K : Type 0} (A : AffineSetting K) where
  open A use {ring, inverse, numbers, arr, field, num, lawful}

  L : IsRing ring
  L = A.field.is_ring

  abbrev C : Arrangement K
  C = coned A

  pub form-row : (i : ℕ) → IsIndex arr i → IsRow ring (l A + 1) (form arr i)
  form-row i r = lawful.rows (i - 1) [] (inside i (n A) r)
    where
      inside : (i m : ℕ) → (1 ≤ i) × (i ≤ m) → i - 1 < m
      inside i m r = omega (arith, r.0, r.1)

  -- ---- the forms of the cone

  pub cone-count : length C.forms ≡ suc (n A)
  cone-count = length-append arr.forms (unit_row ring (l A + 1) (l A + 1) ∷ []) ∙ next (n A)
    where
      next : (m : ℕ) → m + 1 ≡ suc m
      next m = omega arith

  pub form-cone : (i : ℕ) → IsIndex arr i → form C i ≡ form arr i
  form-cone i r = get_or_append_left arr.forms (unit_row ring (l A + 1) (l A + 1) ∷ []) [] (i - 1) (inside i (n A) r)
    where
      inside : (i m : ℕ) → (1 ≤ i) × (i ≤ m) → i - 1 < m
      inside i m r = omega (arith, r.0, r.1)

  pub form-infinity : form C (suc (n A)) ≡ unit_row ring (l A + 1) (l A + 1)
  form-infinity = ap (λ k. slice_index_or C.forms k []) (back (n A)) ∙ get_or-append-add arr.forms (unit_row ring (l A + 1) (l A + 1) ∷ []) 0 []
    where
      back : (m : ℕ) → suc m - 1 ≡ m + 0
      back m = omega arith

  pub index-cone : (i : ℕ) → IsIndex arr i → IsIndex C i
  index-cone i r = (r.0, (let c = cone-count in omega (arith, r.1, c)))

  pub indices-cone : (s : Set) → AreIndices arr s → AreIndices C s
  indices-cone s h i c = index-cone i (h i c)

  pub infinity-index : IsIndex C (suc (n A))
  infinity-index = (omega arith, let c = cone-count in omega (arith, c))

  unit-nonzero : is_zero_row ring (unit_row ring (l A + 1) (l A + 1)) ≡ false
  unit-nonzero = false_from_ne_true _ (λ z.
      let u = unit_row ring (l A + 1) (l A + 1) in
      let r = unit-row L (l A + 1) (l A + 1) in
      A.field.one_zero (sym (unit-one L (l A + 1) (l A) (omega arith)) ∙ is_zero_row-at L u r.1 z (l A) (let e = r.0 in omega (arith, e))))

  -- they are forms of one dimension more, and none is zero
  pub cone-forms : AreForms ring C
  cone-forms = record {
    rows = All-append (IsRow ring (l A + 1)) arr.forms (unit_row ring (l A + 1) (l A + 1) ∷ []) lawful.rows
        (All-cons (IsRow ring (l A + 1)) (unit_row ring (l A + 1) (l A + 1)) [] (unit-row A.field.is_ring (l A + 1) (l A + 1)) (All-nil (IsRow ring (l A + 1))));
    no_zero = All-append (λ a. is_zero_row ring a ≡ false) arr.forms (unit_row ring (l A + 1) (l A + 1) ∷ []) (λ k d h. whole (slice_index_or arr.forms k d) (lawful.no_zero k d h))
        (All-cons (λ a. is_zero_row ring a ≡ false) (unit_row ring (l A + 1) (l A + 1)) [] unit-nonzero (All-nil (λ a. is_zero_row ring a ≡ false)));
  }
    where
      part : (a b : Bool) → a ≡ false → (a && b) ≡ false
      part a b e = ap (λ c. c && b) e

      whole : (a : List K) → is_zero_row ring (take arr.dim a) ≡ false → is_zero_row ring a ≡ false
      whole a e = ap (is_zero_row ring) (sym (take-append-drop arr.dim a)) ∙ list_all-append ring.is_zero (take arr.dim a) (drop arr.dim a)
          ∙ part (is_zero_row ring (take arr.dim a)) (is_zero_row ring (drop arr.dim a)) e

  -- the linear parts of the rows are forms
  pub linear-forms : AreForms ring (linear_part ring arr)
  linear-forms = record {
    rows = All-map (IsRow ring arr.dim) (take arr.dim) arr.forms (λ k d h.
        let r = lawful.rows k d h in (length-take-le arr.dim (get_or arr.forms k d) (let e = r.0 in omega (arith, e)), All-take ring.IsValue arr.dim (get_or arr.forms k d) r.1));
    no_zero = All-map (λ a. is_zero_row ring a ≡ false) (take arr.dim) arr.forms lawful.no_zero;
  }

  pub cone_over : IsOverField ring inverse numbers C
  cone_over = record { field = field; numbering = num; forms = cone-forms }

  -- ---- where its hyperplanes lie

  -- the value of row i at a point of the cone
  abbrev pub at : ℕ → List K → K
  at i y = dot_of A.ring (form A.arr i) y

  abbrev pub IsPoint : List K → Type 0
  IsPoint y = IsRow A.ring (A.arr.dim + 1) y

  pub at-value : (i : ℕ) (y : List K) → IsIndex arr i → IsPoint y → ring.IsValue (at i y)
  at-value i y r p = dot_of_value A.field.is_ring (form arr i) y (form-row i r).1 p.1

  pub lies-cone : (i : ℕ) (y : List K) → IsIndex arr i → IsPoint y → lies_in ring C i y ≡ ring.is_zero (at i y)
  lies-cone i y r p = form-lies ring C cone-forms.rows i y p.0 ∙ ap (λ a. ring.is_zero (dot_of ring a y)) (form-cone i r)

  pub lies-infinity : (x : List K) (c : K) → IsRow ring (l A) x → ring.IsValue c → lies_in ring C (suc (n A)) (x ++ c ∷ []) ≡ ring.is_zero c
  lies-infinity x c r v =
      let u = unit_row ring (l A + 1) (l A + 1) in
      let p = height-row ring (l A) x c r v in
      form-lies ring C cone-forms.rows (suc (n A)) (x ++ c ∷ []) p.0
      ∙ ap (λ a. ring.is_zero (dot_of ring a (x ++ c ∷ []))) form-infinity
      ∙ ap ring.is_zero (dot-comm A.field.is_ring A.field.commutes u (x ++ c ∷ []) (unit-row A.field.is_ring (l A + 1) (l A + 1)).1 p.1
      ∙ unit-dot A.field.is_ring (l A + 1) (x ++ c ∷ []) (l A) p (omega arith) ∙ entry-height ring (l A) x c r.0)

  -- all rows of the set are zero at the point
  abbrev pub Vanish : Set → List K → Type 0
  Vanish s y = (i : ℕ) → Contains s i → dot_of A.ring (form A.arr i) y ≡ A.ring.zero

  pub lies-vanish : (s : Set) (y : List K) → AreIndices arr s → IsPoint y → lies_in_all ring C s y ≡ true → Vanish s y
  lies-vanish s y h p e i c = (A.field.is_ring.zero_test _ (at-value i y (h i c) p)).0 (sym (lies-cone i y (h i c) p) ∙ all-at (λ i. lies_in ring C i y) s i e c)

  pub vanish-lies : (s : Set) (y : List K) → AreIndices arr s → IsPoint y → Vanish s y → lies_in_all ring C s y ≡ true
  vanish-lies s y h p z = all-from (λ i. lies_in ring C i y) s (λ i c. lies-cone i y (h i c) p ∙ zero_passes A.field.is_ring _ (z i c))

  -- the point of the cone at height one
  abbrev pub lifted : List K → List K
  lifted x = x ++ A.ring.one ∷ []

  pub lifted-point : (x : List K) → IsRow ring arr.dim x → IsPoint (lifted x)
  lifted-point x r = height-row ring arr.dim x ring.one r A.field.is_ring.one_value

  pub lies-lifted : (s : Set) (x : List K) → AreIndices arr s → IsRow ring arr.dim x → list_all (λ i. lies_in ring arr i x) s ≡ lies_in_all ring C s (lifted x)
  lies-lifted [] x h r = refl
  lies-lifted (i ∷ s) x h r = λ j. sym (lies-cone i (lifted x) (h i (first i s)) (lifted-point x r)) j && lies-lifted s x (λ k c. h k (later i s k c)) r j
    where
      first : (i : ℕ) (s : Set) → Contains (i ∷ s) i
      first i s = Contains-here i s

      later : (i : ℕ) (s : Set) (k : ℕ) → Contains s k → Contains (i ∷ s) k
      later i s k c = Contains-later i s k c

  -- ---- sums and multiples

  pub vanish-scale : (s : Set) (k : K) (y : List K) → AreIndices arr s → ring.IsValue k → IsPoint y → Vanish s y → Vanish s (row_scale ring k y)
  vanish-scale s k y h v p z i c =
      dot-scale_right A.field.is_ring A.field.commutes k (form arr i) y v (form-row i (h i c)).1 p.1 ∙ ap (ring.mul k) (z i c) ∙ mul_zero A.field.is_ring k v

  pub vanish-plus : (s : Set) (y w : List K) → AreIndices arr s → IsPoint y → IsPoint w → Vanish s y → Vanish s w → Vanish s (row_plus ring y w)
  vanish-plus s y w h p q z u i c =
      dot-plus_right A.field.is_ring (form arr i) y w (form-row i (h i c)).1 p.1 q.1 (p.0 ∙ sym q.0)
      ∙ (λ j. ring.add (z i c j) (u i c j)) ∙ A.field.is_ring.add_zero ring.zero A.field.is_ring.zero_value

  -- a point at a height that is not zero, moved to height one
  abbrev lowered : List K → K → List K
  lowered x c = row_scale A.ring (A.inverse c) x

  lowered-is : (x : List K) (c : K) → ring.IsValue c → c ≢ ring.zero → row_scale ring (inverse c) (x ++ c ∷ []) ≡ lifted (lowered x c)
  lowered-is x c v nz =
      scale-height ring (inverse c) x c
      ∙ ap (λ d. lowered x c ++ d ∷ []) (A.field.commutes (inverse c) c (A.field.inverse_value c v nz) v ∙ A.field.mul_inverse c v nz)

  pub lowered-row : (x : List K) (c : K) → IsRow ring (l A) x → ring.IsValue c → c ≢ ring.zero → IsRow ring (l A) (lowered x c)
  lowered-row x c r v nz = scale-row A.field.is_ring (l A) (inverse c) x (A.field.inverse_value c v nz) r

  pub lowered-vanish : (s : Set) (x : List K) (c : K) → AreIndices arr s → IsRow ring (l A) x → ring.IsValue c → c ≢ ring.zero → Vanish s (x ++ c ∷ []) → Vanish s (lifted (lowered x c))
  lowered-vanish s x c h r v nz z =
      subst (Vanish s) (lowered-is x c v nz) (vanish-scale s (inverse c) (x ++ c ∷ []) h (A.field.inverse_value c v nz) (height-row ring (l A) x c r v) z)

  -- a row that is zero at the moved point is zero at the point
  pub lowered-zero : (i : ℕ) (x : List K) (c : K) → IsIndex arr i → IsRow ring (l A) x → ring.IsValue c → c ≢ ring.zero → at i (lifted (lowered x c)) ≡ ring.zero → at i (x ++ c ∷ []) ≡ ring.zero
  lowered-zero i x c r rx v nz e =
      let vi = A.field.inverse_value c v nz in
      let p = height-row ring (l A) x c rx v in
      pick ((field-domain A.field).no_zero_divisors (inverse c) (at i (x ++ c ∷ [])) vi (at-value i (x ++ c ∷ []) r p)
      (sym (dot-scale_right A.field.is_ring A.field.commutes (inverse c) (form arr i) (x ++ c ∷ []) vi (form-row i r).1 p.1) ∙ ap (at i) (lowered-is x c v nz) ∙ e))
    where
      pick : (inverse c ≡ ring.zero) ⊎ (at i (x ++ c ∷ []) ≡ ring.zero) → at i (x ++ c ∷ []) ≡ ring.zero
      pick (inr z) = z
      pick (inl z) = absurd (A.field.one_zero (sym (A.field.mul_inverse c v nz) ∙ ap (ring.mul c) z ∙ mul_zero A.field.is_ring c v))
