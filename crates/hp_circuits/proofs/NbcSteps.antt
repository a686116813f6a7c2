-- What the search finds of a wanted size grows by one number more.
use Rattle.std.specs.Prelude.{◌≡◌, ℕ, zero, suc, ◌+◌, ◌<◌, ◌≤◌, Bool, true, false, cond, not, List, [], ◌∷◌, ◌++◌, length, filter, take, All, IsTrue, IsFalse, IsNone, IfSome, Option, Some, None}
use Rattle.std.proofs.lemmas.Bool.{cases_eq, cases_Bool, ne_eqb}
use Rattle.std.proofs.lemmas.List.{length-append, append-nil, append_assoc, get_or-map, get_or-take, length-map, length-take-le}
use Rattle.std.proofs.lemmas.List.Elements.{filter-append, All-contains, Contains-get_or}
use mathlib.Core.Logic.{inl, inr}
use mathlib.Core.Path.{refl, sym, ap, ◌∙◌, subst}
use native.Mathlib.Omega.{arith}
use Rattle.hp_algebra.specs.Ring.{RingOf}
use Rattle.hp_algebra.specs.Rows.{is_zero_row}
use Rattle.hp_lists.proofs.Members.{all-at, all-from, not_both}
use Rattle.hp_sets.specs.Sets.{Set}
use Rattle.hp_arr.specs.Operations.{first_place}
use Rattle.hp_arr.proofs.Setting.{Setting}
use Rattle.hp_circuits.specs.RowSteps.{reduced}
use Rattle.hp_circuits.specs.NbcSearch.{row_at, rows_below, are_nonzero, found_from, is_wanted, wanted_from}
use Rattle.hp_circuits.proofs.Remainders.{Row, reduced-row, first-off, nonzero-row}

-- what holds of an answer that is there
pub some-has : {X : Type 0} (o : Option X) (x : X) (P : X → Type 0) → o ≡ Some x → IfSome o P → P x
some-has o x P e h = subst (λ a. IfSome a P) e h

pub none-is : {X : Type 0} (o : Option X) → o ≡ None → IsNone o
none-is o e = subst IsNone (sym e) refl

module _ {K : Type 0} (ring : RingOf K) (inverse : K → K) where
  -- ---- one number more

  abbrev found : ℕ → Set → List (List K) → List Set
  found m T rows = found_from ring inverse m T rows

  abbrev wanted : Option ℕ → ℕ → Set → List (List K) → List Set
  wanted w m T rows = wanted_from ring inverse w m T rows

  -- the number suc m doesn't come in front
  pub wanted-stays : (w : Option ℕ) (m : ℕ) (T : Set) (rows : List (List K))
      → are_nonzero ring (rows_below ring inverse m rows) ≡ false → wanted w (suc m) T rows ≡ wanted w m T rows
  wanted-stays w m T rows e =
      ap (λ b. filter (is_wanted w) (found m T rows ++ cond b (found m (suc m ∷ T) (rows_below ring inverse m rows)) [])) e
      ∙ ap (filter (is_wanted w)) (append-nil (found m T rows))

  -- it does
  pub wanted-more : (w : Option ℕ) (m : ℕ) (T : Set) (rows : List (List K))
      → are_nonzero ring (rows_below ring inverse m rows) ≡ true
      → wanted w (suc m) T rows ≡ wanted w m T rows ++ wanted w m (suc m ∷ T) (rows_below ring inverse m rows)
  wanted-more w m T rows e =
      ap (λ b. filter (is_wanted w) (found m T rows ++ cond b (found m (suc m ∷ T) (rows_below ring inverse m rows)) [])) e
      ∙ filter-append (is_wanted w) (found m T rows) (found m (suc m ∷ T) (rows_below ring inverse m rows))

  -- from more numbers no fewer are found
  pub wanted-longer : (w : Option ℕ) (k m : ℕ) (T : Set) (rows : List (List K)) → k ≤ m
      → length (wanted w k T rows) ≤ length (wanted w m T rows)
  wanted-longer w k zero T rows l = subst (λ j. length (wanted w j T rows) ≤ length (wanted w zero T rows)) (none k l) (omega arith)
    where
      none : (k : ℕ) → k ≤ 0 → 0 ≡ k
      none k l = omega (arith, l)
  wanted-longer w k (suc m) T rows l = elim (cases_eq k (suc m)) [
    | inl z ↦ subst (λ j. length (wanted w j T rows) ≤ length (wanted w (suc m) T rows)) (sym z) (omega arith)
    | inr z ↦ (
        let rest = cond (are_nonzero ring (rows_below ring inverse m rows)) (found m (suc m ∷ T) (rows_below ring inverse m rows)) [] in
        let ih = wanted-longer w k m T rows (omega (arith, l, z)) in
        let e = ap (λ (xs : List Set). length xs) (filter-append (is_wanted w) (found m T rows) rest) in
        let f = length-append (filter (is_wanted w) (found m T rows)) (filter (is_wanted w) rest) in
        omega (arith, ih, e, f))
  ]

  -- ---- where the size is reached

  none-larger : (k m : ℕ) (T : Set) (rows : List (List K)) → k < length T → wanted (Some k) m T rows ≡ []
  none-larger k zero T rows l = ap (λ b. cond b (T ∷ []) []) (ne_eqb (length T) k (λ e. absurd (omega (arith, l, e))))
  none-larger k (suc m) T rows l =
      filter-append (is_wanted (Some k)) (found m T rows) _
      ∙ (λ i. none-larger k m T rows l i ++ by (are_nonzero ring (rows_below ring inverse m rows)) (none-larger k m (suc m ∷ T) (rows_below ring inverse m rows) (omega (arith, l))) i)
    where
      by : (b : Bool) → wanted (Some k) m (suc m ∷ T) (rows_below ring inverse m rows) ≡ []
          → filter (is_wanted (Some k)) (cond b (found m (suc m ∷ T) (rows_below ring inverse m rows)) []) ≡ []
      by true e = e
      by false e = refl

  -- no greater set is wanted
  pub wanted-alone : (k m : ℕ) (T : Set) (rows : List (List K)) → k ≤ length T
      → wanted (Some k) m T rows ≡ filter (is_wanted (Some k)) (T ∷ [])
  wanted-alone k zero T rows l = refl
  wanted-alone k (suc m) T rows l =
      filter-append (is_wanted (Some k)) (found m T rows) _
      ∙ (λ i. wanted-alone k m T rows l i ++ by (are_nonzero ring (rows_below ring inverse m rows)) (none-larger k m (suc m ∷ T) (rows_below ring inverse m rows) (omega (arith, l))) i)
      ∙ append-nil _
    where
      by : (b : Bool) → wanted (Some k) m (suc m ∷ T) (rows_below ring inverse m rows) ≡ []
          → filter (is_wanted (Some k)) (cond b (found m (suc m ∷ T) (rows_below ring inverse m rows)) []) ≡ []
      by true e = e
      by false e = refl

  -- ---- turns of the loop

  next : (m : ℕ) → suc m ≡ m + 1
  next m = omega arith

  pub turn-stays : (w : Option ℕ) (m : ℕ) (T : Set) (rows : List (List K)) (old now : List Set)
      → IsFalse (are_nonzero ring (rows_below ring inverse m rows))
      → now ≡ old ++ wanted w m T rows → now ≡ old ++ wanted w (m + 1) T rows
  turn-stays w m T rows old now e h =
      h ∙ ap (λ (xs : List Set). old ++ xs) (sym (wanted-stays w m T rows e)) ∙ ap (λ k. old ++ wanted w k T rows) (next m)

  module _ (w : Option ℕ) (m : ℕ) (T front : Set) (rows below : List (List K)) (old now : List Set)
      (is_front : front ≡ (m + 1) ∷ T) (is_below : below ≡ rows_below ring inverse m rows) (long : length below ≡ m)
      (free : IsTrue (are_nonzero ring (rows_below ring inverse m rows))) (h : now ≡ old ++ wanted w m T rows) where
    joined : now ++ wanted w (length below) front below ≡ old ++ wanted w (m + 1) T rows
    joined =
        (λ i. h i ++ wanted w (long i) (is_front i) (is_below i))
        ∙ append_assoc old (wanted w m T rows) (wanted w m ((m + 1) ∷ T) (rows_below ring inverse m rows))
        ∙ ap (λ j. old ++ (wanted w m T rows ++ wanted w m (j ∷ T) (rows_below ring inverse m rows))) (sym (next m))
        ∙ ap (λ (xs : List Set). old ++ xs) (sym (wanted-more w m T rows free)) ∙ ap (λ k. old ++ wanted w k T rows) (next m)

    pub turn-more : (after : List Set) → after ≡ now ++ wanted w (length below) front below
        → after ≡ old ++ wanted w (m + 1) T rows
    turn-more after e = e ∙ joined

    pub turn-stops : (most : ℕ) → m < length rows → most < length (now ++ wanted w (length below) front below)
        → most < length (old ++ wanted w (length rows) T rows)
    turn-stops most l e =
        let j = ap (λ (xs : List Set). length xs) joined in
        let a = length-append old (wanted w (m + 1) T rows) in
        let b = length-append old (wanted w (length rows) T rows) in
        let c = wanted-longer w (m + 1) (length rows) T rows (omega (arith, l)) in
        omega (arith, e, j, a, b, c)

  pub first-stops : (w : Option ℕ) (T : Set) (rows : List (List K)) (old : List Set) (most : ℕ)
      → most < length (old ++ filter (is_wanted w) (T ∷ [])) → most < length (old ++ wanted w (length rows) T rows)
  first-stops w T rows old most e =
      let a = length-append old (filter (is_wanted w) (T ∷ [])) in
      let b = length-append old (wanted w (length rows) T rows) in
      let c : length (filter (is_wanted w) (T ∷ [])) ≤ length (wanted w (length rows) T rows) = wanted-longer w 0 (length rows) T rows (omega arith) in
      omega (arith, e, a, b, c)

  -- no greater set is wanted
  pub full-alone : (w : Option ℕ) (b : Bool) (m : ℕ) (T : Set) (rows : List (List K)) → (IsNone w → IsFalse b)
      → IfSome w (λ k. IsTrue b → k ≤ length T) → b ≡ true → filter (is_wanted w) (T ∷ []) ≡ wanted w m T rows
  full-alone None b m T rows n s e = absurd (not_both b e (n refl))
  full-alone (Some k) b m T rows n s e = sym (wanted-alone k m T rows (s e))

  -- ---- the rows below

  pub all-nonzero : (rows : List (List K)) → All (λ row. IsFalse (is_zero_row ring row)) rows
      → are_nonzero ring rows ≡ true
  all-nonzero rows h = all-from (λ u. not (is_zero_row ring u)) rows (λ u c. ap not (All-contains (λ row. IsFalse (is_zero_row ring row)) rows u h c))

  -- one of them is zero
  pub some-zero : (q : ℕ) (v : List K) (m k : ℕ) (rows : List (List K)) (w : List K) → k < m → m < length rows
      → q ≡ first_place ring (row_at rows m) → v ≡ row_at rows m → w ≡ reduced ring inverse q v (row_at rows k)
      → is_zero_row ring w ≡ true → IsFalse (are_nonzero ring (rows_below ring inverse m rows))
  some-zero q v m k rows w l in_m eq ev ew z = elim (cases_Bool (are_nonzero ring (rows_below ring inverse m rows))) [
    | inr e ↦ e
    | inl e ↦ (
        let f = reduced ring inverse (first_place ring (row_at rows m)) (row_at rows m) in
        let shorter = length-take-le m rows (omega (arith, in_m)) in
        let long = length-map (take m rows) f in
        let at : row_at (rows_below ring inverse m rows) k ≡ w = get_or-map f (take m rows) k [] [] (omega (arith, l, shorter))
        ∙ ap f (get_or-take m rows k [] l) ∙ (λ i. reduced ring inverse (sym eq i) (sym ev i) (row_at rows k)) ∙ sym ew in
        absurd (not_both (is_zero_row ring w) z (subst (λ u. is_zero_row ring u ≡ false) at
        (flip _ (all-at (λ u. not (is_zero_row ring u)) (rows_below ring inverse m rows) (row_at (rows_below ring inverse m rows) k) e
        (Contains-get_or (rows_below ring inverse m rows) k [] (omega (arith, l, shorter, long))))))))
  ]
    where
      flip : (b : Bool) → not b ≡ true → b ≡ false
      flip true e = sym e
      flip false e = refl

-- the rows stay rows
pub reduced-kept : {K : Type 0} (S : Setting K) (rows : List (List K)) (m : ℕ) (w : List K) → All (Row S) rows
    → All (λ row. IsFalse (is_zero_row S.ring row)) rows → m < length rows → Row S w
    → Row S (reduced S.ring S.inverse (first_place S.ring (row_at rows m)) (row_at rows m) w)
reduced-kept S rows m w are nonzero l rw =
    let rv = are m [] l in
    reduced-row S (first_place S.ring (row_at rows m)) (row_at rows m) w rv rw
    (first-off S (row_at rows m) rv (nonzero-row S (row_at rows m) (nonzero m [] l)))
