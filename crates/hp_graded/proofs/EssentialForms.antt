-- The rows of a reduced row echelon form as essential coordinates: a form of its row space is the combination of the rows by
-- the form without the variables that have no pivot.
use Rattle.std.specs.Prelude.{◌≡◌, ◌≢◌, ℕ, zero, suc, ◌+◌, ◌-◌, ◌<◌, ◌≤◌, ◌==◌, ◌||◌, if◌then◌else◌, cond, Bool, true, false, List, [], ◌∷◌, ◌++◌, map, length, All, Some, slice_get, slice_index_or}
use Rattle.std.proofs.lemmas.Bool.{cases_Bool, cases_eq, cases_lt, eq-eqb}
use Rattle.std.proofs.Common.{ne_eqb}
use Rattle.std.proofs.lemmas.List.{get_or-append-add, get_or-map, get_or_append_left, length-append, length-map}
use Rattle.std.proofs.lemmas.List.FromFn.{get_or-map-range_with_len, length-map-range_with_len}
use Rattle.std.proofs.lemmas.List.Elements.{All-cons, All-head, All-map, All-tail}
use Rattle.std.proofs.lemmas.Option.{slice_get-get_or}
use mathlib.Core.Logic.{inl, inr}
use mathlib.Core.Path.{refl, sym, ap, ◌∙◌, subst}
use native.Mathlib.Omega.{arith}
use Rattle.hp_algebra.specs.Ring.{RingOf, IsRing, IsField}
use Rattle.hp_algebra.specs.Rows.{IsRow, entry, row_plus, row_scale, row_times, unit_row, zero_row}
use Rattle.hp_algebra.proofs.Rows.{entry-value, listed-row, plus-row, scale-row, scale-zero, zeros-row}
use Rattle.hp_algebra.proofs.UnitRows.{unit-one, unit-row, unit-zero}
use Rattle.hp_lists.specs.Lists.{one_to, range_with_len}
use Rattle.hp_lists.proofs.Members.{each-All}
use Rattle.hp_lists.proofs.Ordered.{Rises, rises_of}
use Rattle.hp_linear.specs.Matrices.{Matrix, IsEchelonForm, IsInRowSpace}
use Rattle.hp_linear.proofs.Combinations.{times-row}
use Rattle.hp_linear.proofs.EchelonLaws.{echelon-member}
use Rattle.hp_mono.specs.Monomials.{variable, vars}
use Rattle.hp_poly.specs.Polynomials.{linear_form, term_poly}
use Rattle.hp_graded.specs.EssentialRows.{chosen, essential_form, essential_rows, essential_variables, is_pivot, row_at}
use Rattle.hp_graded.proofs.EssentialMaps.{IsEssential}

-- ---- looking a row up

module _ {K : Type 0} where
  -- the row of a pivot, which stands in the list once
  row-found : (cs : List ℕ) (rows : List (List K)) (j : ℕ) (other : List K) → length cs ≡ length rows → is_pivot cs j ≡ true
      → (p : ℕ) × (p < length rows) × (slice_index_or cs p 0 ≡ j) × (row_at cs rows j other ≡ slice_index_or rows p [])
  row-found [] rows j other e h = absurd (cc)
  row-found (c ∷ cs) [] j other e h = absurd (omega (arith, e))
  row-found (c ∷ cs) (row ∷ rows) j other e h = elim (cases_eq c j) [
    | inl q ↦ (0, omega arith, q, ap (λ b. cond b row (row_at cs rows j other)) (eq-eqb c j q))
    | inr n ↦
        let r = row-found cs rows j other (omega (arith, e)) (sym (ap (λ b. b || is_pivot cs j) (ne_eqb c j n)) ∙ h) in
        let l = r.1 in
        (suc r.0, omega (arith, l), r.2, ap (λ b. cond b row (row_at cs rows j other)) (ne_eqb c j n) ∙ r.3)
  ]

  row-other : (cs : List ℕ) (rows : List (List K)) (j : ℕ) (other : List K) → is_pivot cs j ≡ false → row_at cs rows j other ≡ other
  row-other [] rows j other h = refl
  row-other (c ∷ cs) [] j other h = refl
  row-other (c ∷ cs) (row ∷ rows) j other h = elim (cases_eq c j) [
    | inl q ↦ absurd (let w = sym (ap (λ b. b || is_pivot cs j) (eq-eqb c j q)) ∙ h in cc)
    | inr n ↦ ap (λ b. cond b row (row_at cs rows j other)) (ne_eqb c j n)
        ∙ row-other cs rows j other (sym (ap (λ b. b || is_pivot cs j) (ne_eqb c j n)) ∙ h)
  ]

-- ---- forms without the variables that have no pivot

-- they are rows
pub essential_form-row : {K : Type 0} {ring : RingOf K} → IsRing ring → (l : ℕ) (pivots : List ℕ) (a : List K) → IsRow ring l a
    → IsRow ring l (essential_form ring l pivots a)
essential_form-row {K} {ring} laws l pivots a h =
    listed-row ring l (λ j. cond (is_pivot pivots j) (entry ring a (j - 1)) ring.zero) (λ j. pick (is_pivot pivots j) j)
  where
    value : (j : ℕ) → ring.IsValue (entry ring a j)
    value j = elim (cases_lt j l) [
      | inl less ↦ entry-value laws l a j less h
      | inr past ↦ subst ring.IsValue (sym (Rattle.std.proofs.lemmas.List.get_or_past a j ring.zero (let m = h.0 in omega (arith, past, m)))) laws.zero_value
    ]

    pick : (b : Bool) (j : ℕ) → ring.IsValue (cond b (entry ring a (j - 1)) ring.zero)
    pick true j = value (j - 1)
    pick false j = laws.zero_value

-- ---- sums over the pivots

module _ {K : Type 0} {ring : RingOf K} (laws : IsRing ring) (l : ℕ) (unit : ℕ → List K) (units : (j : ℕ) → IsRow ring l (unit j))
    (value : ℕ → K) (values : (j : ℕ) → ring.IsValue (value j)) where
  abbrev coefficient : List ℕ → ℕ → K
  coefficient cs j = if is_pivot cs j then value j else ring.zero

  coefficient-value : (cs : List ℕ) (j : ℕ) → ring.IsValue (coefficient cs j)
  coefficient-value cs j = pick (is_pivot cs j)
    where
      pick : (b : Bool) → ring.IsValue (cond b (value j) ring.zero)
      pick true = values j
      pick false = laws.zero_value

  row_at-row : (cs : List ℕ) (rows : List (List K)) (j : ℕ) → All (IsRow ring l) rows → IsRow ring l (row_at cs rows j (unit j))
  row_at-row [] rows j h = units j
  row_at-row (c ∷ cs) [] j h = units j
  row_at-row (c ∷ cs) (row ∷ rows) j h = pick (c == j) (row_at-row cs rows j (All-tail (IsRow ring l) row rows h))
    where
      pick : (b : Bool) → IsRow ring l (row_at cs rows j (unit j)) → IsRow ring l (cond b row (row_at cs rows j (unit j)))
      pick true r = All-head (IsRow ring l) row rows h
      pick false r = r

  abbrev Above : ℕ → List ℕ → Type 0
  Above s cs = All (λ c. s ≤ c) cs

  none-above : (cs : List ℕ) (s j : ℕ) → Above s cs → j < s → is_pivot cs j ≡ false
  none-above [] s j h l = refl
  none-above (c ∷ cs) s j h l =
      let a = All-head (λ (c : ℕ). s ≤ c) c cs h in
      ap (λ b. b || is_pivot cs j) (ne_eqb c j (λ e. absurd (omega (arith, e, a, l)))) ∙ none-above cs s j (All-tail (λ (c : ℕ). s ≤ c) c cs h) l

  -- with the list that begins with an earlier pivot the later columns look up the rest
  later-pivots : (c : ℕ) (cs : List ℕ) (row : List K) (rows : List (List K)) (s n : ℕ) → c < s
      → (row_times ring l (map (coefficient (c ∷ cs)) (range_with_len s n)) (map (λ j. row_at (c ∷ cs) (row ∷ rows) j (unit j)) (range_with_len s n)))
      ≡ row_times ring l (map (coefficient cs) (range_with_len s n)) (map (λ j. row_at cs rows j (unit j)) (range_with_len s n))
  later-pivots c cs row rows s zero h = refl
  later-pivots c cs row rows s (suc n) h =
      let q = ne_eqb c s (λ e. absurd (omega (arith, e, h))) in
      let first : row_scale ring (coefficient (c ∷ cs) s) (row_at (c ∷ cs) (row ∷ rows) s (unit s)) ≡ row_scale ring (coefficient cs s) (row_at cs rows s (unit s)) =
      (λ i. row_scale ring (cond ((q i) || is_pivot cs s) (value s) ring.zero) (cond (q i) row (row_at cs rows s (unit s)))) in
      let rest = later-pivots c cs row rows (s + 1) n (omega (arith, h)) in
      λ i. row_plus ring (first i) (rest i)

  -- The sum over all columns is that over the pivots.
  pivot-sum : (cs : List ℕ) (rows : List (List K)) (s n : ℕ) → length cs ≡ length rows → All (IsRow ring l) rows → Rises cs
      → Above s cs → All (λ c. c < s + n) cs
      → row_times ring l (map (coefficient cs) (range_with_len s n)) (map (λ j. row_at cs rows j (unit j)) (range_with_len s n))
      ≡ row_times ring l (map value cs) rows
  pivot-sum [] rows s zero e h up low high = refl
  pivot-sum (c ∷ cs) rows s zero e h up low high =
      let a = All-head (λ (c : ℕ). s ≤ c) c cs low in
      let b = All-head (λ (x : ℕ). x < s + 0) c cs high in
      absurd (omega (arith, a, b))
  pivot-sum [] rows s (suc n) e h up low high =
      let rest = pivot-sum [] rows (s + 1) n e h up (λ k d m. absurd (omega arith)) (λ k d m. absurd (omega arith)) in
      (λ i. row_plus ring (scale-zero laws l (unit s) (units s) i) (rest i)) ∙ zero-first (zeros-row laws l)
    where
      zero-first : IsRow ring l (zero_row ring l) → row_plus ring (zero_row ring l) (row_times ring l (map value []) rows) ≡ row_times ring l (map value []) rows
      zero-first z = Rattle.hp_algebra.proofs.Rows.plus-zeros laws l (zero_row ring l) z
  pivot-sum (c ∷ cs) [] s (suc n) e h up low high = absurd (omega (arith, e))
  pivot-sum (c ∷ cs) (row ∷ rows) s (suc n) e h up low high =
      let e' : length cs ≡ length rows = omega (arith, e) in
      let hr = All-head (IsRow ring l) row rows h in
      let hs = All-tail (IsRow ring l) row rows h in
      let a = All-head (λ (c : ℕ). s ≤ c) c cs low in
      let b = All-head (λ (x : ℕ). x < s + suc n) c cs high in
      elim (cases_eq c s) [
        | inl q ↦
            let t = eq-eqb c s q in
            let above' : Above (s + 1) cs = each-All (λ (x : ℕ). s + 1 ≤ x) cs (λ x m. let w = up.0 x m in omega (arith, w, q)) in
            let high' : All (λ x. x < (s + 1) + n) cs = (λ k d m. let w = high (suc k) d (omega (arith, m)) in omega (arith, w)) in
            let first : row_scale ring (coefficient (c ∷ cs) s) (row_at (c ∷ cs) (row ∷ rows) s (unit s)) ≡ row_scale ring (value c) row =
            (λ i. row_scale ring (cond ((t i) || is_pivot cs s) (value s) ring.zero) (cond (t i) row (row_at cs rows s (unit s))))
            ∙ ap (λ x. row_scale ring (value x) row) (sym q) in
            let rest = later-pivots c cs row rows (s + 1) n (omega (arith, q)) ∙ pivot-sum cs rows (s + 1) n e' hs up.1 above' high' in
            λ i. row_plus ring (first i) (rest i)
        | inr o ↦
            let low' : Above (s + 1) (c ∷ cs) = All-cons (λ (x : ℕ). s + 1 ≤ x) c cs (omega (arith, a, o)) (each-All (λ (x : ℕ). s + 1 ≤ x) cs (λ x m. let w = up.0 x m in omega (arith, w, a))) in
            let high' : All (λ x. x < (s + 1) + n) (c ∷ cs) = (λ k d m. let w = high k d m in omega (arith, w)) in
            let none = none-above (c ∷ cs) (s + 1) s low' (omega arith) in
            let r = row_at-row (c ∷ cs) (row ∷ rows) s h in
            let first : row_scale ring (coefficient (c ∷ cs) s) (row_at (c ∷ cs) (row ∷ rows) s (unit s)) ≡ zero_row ring l =
            ap (λ z. row_scale ring (cond z (value s) ring.zero) (row_at (c ∷ cs) (row ∷ rows) s (unit s))) none ∙ scale-zero laws l _ r in
            let rest = pivot-sum (c ∷ cs) (row ∷ rows) (s + 1) n e h up low' high' in
            (λ i. row_plus ring (first i) (rest i)) ∙ zero_plus (row_times ring l (map value (c ∷ cs)) (row ∷ rows))
            (times-row laws l (map value (c ∷ cs)) (row ∷ rows) (All-map ring.IsValue value (c ∷ cs) (λ k d m. values _)) h)
      ]
    where
      zero_plus : (a : List K) → IsRow ring l a → row_plus ring (zero_row ring l) a ≡ a
      zero_plus a h = Rattle.hp_algebra.proofs.Rows.plus-comm laws l (zero_row ring l) a (zeros-row laws l) h ∙ Rattle.hp_algebra.proofs.Rows.plus-zeros laws l a h

-- ---- the rows of an echelon form

module _ {K : Type 0} {ring : RingOf K} {inverse : K → K} (field : IsField ring inverse) (l : ℕ) (few : l ≤ vars) (forms : List (List K))
    (are : All (IsRow ring l) forms) {e : Matrix K} {pivots : List ℕ}
    (form : IsEchelonForm ring (record { cols = l; rows = forms }) e pivots) where
  abbrev laws : IsRing ring
  laws = field.is_ring

  abbrev rows : List (List K)
  rows = essential_rows ring l pivots e.rows

  abbrev at : ℕ → List K
  at j = row_at pivots e.rows j (unit_row ring l j)

  e-rows : All (IsRow ring l) e.rows
  e-rows = subst (λ n. All (IsRow ring n) e.rows) form.cols form.matrix

  at-is : (i : ℕ) → i < l → slice_index_or rows i [] ≡ at (i + 1)
  at-is i h = get_or-map-range_with_len at 1 l i (i + 1) [] h (omega arith)

  -- a pivot row by its place
  record IsPivotRow (i : ℕ) : Type 0 where
    place : ℕ
    inside : place < length e.rows
    own : slice_index_or pivots place 0 ≡ i + 1
    row_is : slice_index_or rows i [] ≡ slice_index_or e.rows place []

  pivot-row : (i : ℕ) → i < l → is_pivot pivots (i + 1) ≡ true → IsPivotRow i
  pivot-row i h t =
      let r = row-found pivots e.rows (i + 1) (unit_row ring l (i + 1)) form.one_each t in
      record { place = r.0; inside = r.1; own = r.2; row_is = at-is i h ∙ r.3 }

  unit-row-is : (i : ℕ) → i < l → is_pivot pivots (i + 1) ≡ false → slice_index_or rows i [] ≡ unit_row ring l (i + 1)
  unit-row-is i h f = at-is i h ∙ row-other pivots e.rows (i + 1) (unit_row ring l (i + 1)) f

  row-get : (p : ℕ) → p < length e.rows → slice_get e.rows p ≡ Some (slice_index_or e.rows p [])
  row-get p h = slice_get-get_or e.rows p [] h

  pivot-get : (p : ℕ) → p < length e.rows → slice_get pivots p ≡ Some (slice_index_or pivots p 0)
  pivot-get p h = slice_get-get_or pivots p 0 (let n = form.one_each in omega (arith, h, n))

  own-one : (i : ℕ) → i < l → entry ring (slice_index_or rows i []) i ≡ ring.one
  own-one i h = elim (cases_Bool (is_pivot pivots (i + 1))) [
    | inl t ↦
        let r = pivot-row i h t in
        let p = r.place in
        let u = form.unit p p (slice_index_or pivots p 0) (slice_index_or e.rows p []) (row-get p r.inside) (pivot-get p r.inside) in
        let back : slice_index_or pivots p 0 - 1 ≡ i = (let o = r.own in omega (arith, o)) in
        ap (λ v. entry ring v i) r.row_is ∙ ap (entry ring (slice_index_or e.rows p [])) (sym back) ∙ u
        ∙ ap (λ b. cond b ring.one ring.zero) (eq-eqb p p refl)
    | inr f ↦ ap (λ v. entry ring v i) (unit-row-is i h f) ∙ unit-one laws l i h
  ]

  zero-before : (i k : ℕ) → i < l → k < i → entry ring (slice_index_or rows i []) k ≡ ring.zero
  zero-before i k h less = elim (cases_Bool (is_pivot pivots (i + 1))) [
    | inl t ↦
        let r = pivot-row i h t in
        let p = r.place in
        let o = r.own in
        let back : (k + 1) - 1 ≡ k = omega arith in
        ap (λ v. entry ring v k) r.row_is ∙ ap (entry ring (slice_index_or e.rows p [])) (sym back)
        ∙ form.first p (k + 1) (slice_index_or pivots p 0) (slice_index_or e.rows p []) (row-get p r.inside) (pivot-get p r.inside) (omega arith) (omega (arith, o, less))
    | inr f ↦ ap (λ v. entry ring v k) (unit-row-is i h f) ∙ unit-zero laws l i k (omega (arith, h, less)) (λ q. absurd (omega (arith, q, less)))
  ]

  chosen-at : (k : ℕ) → k < l → slice_index_or (chosen l pivots) k false ≡ is_pivot pivots (k + 1)
  chosen-at k h = get_or-map-range_with_len (is_pivot pivots) 1 l k (k + 1) false h (omega arith)

  zero-apart : (i k : ℕ) → i < l → k < l → i ≢ k → slice_index_or (chosen l pivots) k false ≡ true → entry ring (slice_index_or rows i []) k ≡ ring.zero
  zero-apart i k h lk o t =
      let q = pivot-row k lk (sym (chosen-at k lk) ∙ t) in
      let c = q.place in
      elim (cases_Bool (is_pivot pivots (i + 1))) [
        | inl s ↦
            let r = pivot-row i h s in
            let p = r.place in
            let differ : p ≢ c = λ x. o (let a = r.own in let b = q.own in let y = ap (λ z. slice_index_or pivots z 0) x in omega (arith, a, b, y)) in
            let u = form.unit c p (slice_index_or pivots c 0) (slice_index_or e.rows p []) (row-get p r.inside) (pivot-get c q.inside) in
            let back : slice_index_or pivots c 0 - 1 ≡ k = (let b = q.own in omega (arith, b)) in
            ap (λ v. entry ring v k) r.row_is ∙ ap (entry ring (slice_index_or e.rows p [])) (sym back) ∙ u
            ∙ ap (λ b. cond b ring.one ring.zero) (ne_eqb p c differ)
        | inr f ↦ ap (λ v. entry ring v k) (unit-row-is i h f) ∙ unit-zero laws l i k lk o
      ]

  rows-are : All (IsRow ring l) rows
  rows-are = All-map (IsRow ring l) at (one_to l) (λ k d m. row_at-row laws l (unit_row ring l) (unit-row laws l) (λ j. ring.zero) (λ j. laws.zero_value) pivots e.rows _ e-rows)

  rows-many : length rows ≡ l
  rows-many = length-map-range_with_len at 1 l

  abbrev front : List (Rattle.hp_poly.specs.Polynomials.Poly K)
  front = map (linear_form ring) rows

  front-long : length front ≡ l
  front-long = length-map rows (linear_form ring) ∙ rows-many

  -- The rows are essential coordinates.
  pub echelon-essential : IsEssential ring l (essential_rows ring l pivots e.rows) (chosen l pivots) (essential_variables ring l pivots e.rows)
  echelon-essential = record {
    few = few;
    are = rows-are;
    many = rows-many;
    own = own-one;
    before = zero-before;
    apart = zero-apart;
    free = λ i h f. unit-row-is i h (sym (chosen-at i h) ∙ f);
    chosen = (let n = length-map-range_with_len (is_pivot pivots) 1 l in omega (arith, n));
    long =
        let later = map (λ j. term_poly ring ring.one (variable j)) (range_with_len (l + 1) (vars - l)) in
        let a = length-append front later in
        let b = length-map-range_with_len (λ j. term_poly ring ring.one (variable j)) (l + 1) (vars - l) in
        let c = front-long in
        omega (arith, a, b, c, few);
    forms = λ i h.
        let later = map (λ j. term_poly ring ring.one (variable j)) (range_with_len (l + 1) (vars - l)) in
        get_or_append_left front later [] i (let c = front-long in omega (arith, h, c))
        ∙ get_or-map (linear_form ring) rows i [] [] (let c = rows-many in omega (arith, h, c));
    later = λ i b h.
        let later = map (λ j. term_poly ring ring.one (variable j)) (range_with_len (l + 1) (vars - l)) in
        let place : length front + (i - l) ≡ i = (let c = front-long in omega (arith, c, b)) in
        ap (λ x. slice_index_or (front ++ later) x []) (sym place) ∙ get_or-append-add front later (i - l) []
        ∙ get_or-map-range_with_len (λ j. term_poly ring ring.one (variable j)) (l + 1) (vars - l) (i - l) (i + 1) [] (omega (arith, b, h)) (omega (arith, b));
  }

  -- A form is the combination of the rows by the form without the variables that have no pivot.
  pub form-is : (a : List K) → IsRow ring l a → IsInRowSpace ring (record { cols = l; rows = forms }) a
      → a ≡ row_times ring l (essential_form ring l pivots a) (essential_rows ring l pivots e.rows)
  form-is a h member =
      let value : ℕ → K = λ j. entry ring a (j - 1) in
      let values : (j : ℕ) → ring.IsValue (value j) = λ j. entry-is a h (j - 1) in
      (echelon-member laws (record { cols = l; rows = forms }) e pivots form a h).0 member
      ∙ sym (pivot-sum laws l (unit_row ring l) (unit-row laws l) value values pivots e.rows 1 l form.one_each e-rows (rises_of pivots form.rising)
      (λ k d m. (form.in_range k d m).0) (λ k d m. let w = (form.in_range k d m).1 in let c = form.cols in omega (arith, w, c)))
    where
      entry-is : (a : List K) → IsRow ring l a → (j : ℕ) → ring.IsValue (entry ring a j)
      entry-is a h j = elim (cases_lt j l) [
        | inl less ↦ entry-value laws l a j less h
        | inr past ↦ subst ring.IsValue (sym (Rattle.std.proofs.lemmas.List.get_or_past a j ring.zero (let n = h.0 in omega (arith, past, n)))) laws.zero_value
      ]
