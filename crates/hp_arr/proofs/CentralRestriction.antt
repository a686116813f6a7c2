-- The restriction of a central arrangement, with or without constants that are zero: no row is dropped.
use Rattle.std.specs.Prelude.{◌≡◌, ℕ, suc, ◌-◌, ◌<◌, ◌≤◌, Bool, true, false, cond, not, ◌&&◌, List, [], ◌∷◌, ◌++◌, map, filter, take, length, All, Contains, remove}
use Rattle.std.proofs.lemmas.List.{length-map, length-append, map-append, take_all, get_or_append_left, get_or-map}
use Rattle.std.proofs.Common.{get_or}
use Rattle.std.proofs.lemmas.List.Elements.{All-contains, All-map, All-push, Contains-get_or}
use Rattle.std.proofs.lemmas.List.Edits.{remove-append_left}
use Rattle.std.proofs.Math.Seq.{take-append_seam}
use mathlib.Core.Path.{refl, sym, ap, ◌∙◌, subst}
use native.Mathlib.Omega.{arith}
use Rattle.hp_lists.proofs.Members.{Contains-here, Contains-later, map-Contains, filter-ext}
use Rattle.hp_lists.proofs.Removals.{remove-map}
use Rattle.hp_algebra.specs.Ring.{RingOf, Numbering, IsRing, IsField}
use Rattle.hp_algebra.specs.Rows.{IsRow, IsMultiple, entry, is_zero_row, row_scale, row_minus, same_row}
use Rattle.hp_algebra.proofs.Rings.{mul_zero, zero_passes}
use Rattle.hp_arr.specs.Arrangement.{Arrangement, IsArrangement, form, with_constants}
use Rattle.hp_arr.specs.Operations.{deletion, last_place, first_place, normalised, restricted_form, first_copies, restriction}
use Rattle.hp_arr.proofs.NonzeroPlaces.{IsFirstNonzero, first_nonzero, last_nonzero, first_place-is, last_place-is}
use Rattle.hp_arr.proofs.FirstCopies.{All-first_copies}
use Rattle.hp_arr.proofs.LawfulRestriction.{can_restrict, kept-lawful, cleared, factor, factor-value, long, restricted_form-at, restricted_form-row, restricted_form-nonzero}
use Rattle.hp_arr.proofs.KeptPlaces.{filter-map}

filter-whole : {X : Type 0} (p : X → Bool) (xs : List X) → ((x : X) → Contains xs x → p x ≡ true) → filter p xs ≡ xs
filter-whole p [] h = refl
filter-whole p (x ∷ xs) h =
    ap (λ b. cond b (x ∷ filter p xs) (filter p xs)) (h x (Contains-here x xs)) ∙ ap (λ t. x ∷ t) (filter-whole p xs (λ y c. h y (Contains-later x xs y c)))

map-two : {X Y Z : Type 0} (f : X → Y) (g : Y → Z) (h : X → Z) (xs : List X) → ((x : X) → Contains xs x → g (f x) ≡ h x) → map g (map f xs) ≡ map h xs
map-two f g h [] e = refl
map-two f g h (x ∷ xs) e =
    let here = e x (Contains-here x xs) in
    let rest = map-two f g h xs (λ y c. e y (Contains-later x xs y c)) in
    λ i. here i ∷ rest i

map-same : {X Y : Type 0} (f g : X → Y) (xs : List X) → ((x : X) → Contains xs x → f x ≡ g x) → map f xs ≡ map g xs
map-same f g [] e = refl
map-same f g (x ∷ xs) e =
    let here = e x (Contains-here x xs) in
    let rest = map-same f g xs (λ y c. e y (Contains-later x xs y c)) in
    λ i. here i ∷ rest i

module _ {K : Type 0} (ring : RingOf K) where
  abbrev pushed : List K → List K
  pushed row = row ++ ring.zero ∷ []

  -- ---- rows with a zero behind them

  scale-pushed : (laws : IsRing ring) (c : K) (row : List K) → ring.IsValue c → row_scale ring c (pushed row) ≡ pushed (row_scale ring c row)
  scale-pushed laws c row v = map-append (ring.mul c) row (ring.zero ∷ []) ∙ ap (λ z. row_scale ring c row ++ z ∷ []) (mul_zero laws c v)

  minus-pushed : (laws : IsRing ring) (a b : List K) → length a ≡ length b → row_minus ring (pushed a) (pushed b) ≡ pushed (row_minus ring a b)
  minus-pushed laws [] [] e = ap (λ z. z ∷ []) (laws.add_neg ring.zero laws.zero_value)
  minus-pushed laws [] (y ∷ b) e = absurd (omega (arith, e))
  minus-pushed laws (x ∷ a) [] e = absurd (omega (arith, e))
  minus-pushed laws (x ∷ a) (y ∷ b) e = ap (λ t. ring.add x (ring.neg y) ∷ t) (minus-pushed laws a b (omega (arith, e)))

  same-pushed : (laws : IsRing ring) (a b : List K) → length a ≡ length b → same_row ring (pushed a) (pushed b) ≡ same_row ring a b
  same-pushed laws [] [] e = ap (λ t. t && true) (zero_passes laws (ring.add ring.zero (ring.neg ring.zero)) (laws.add_neg ring.zero laws.zero_value))
  same-pushed laws [] (y ∷ b) e = absurd (omega (arith, e))
  same-pushed laws (x ∷ a) [] e = absurd (omega (arith, e))
  same-pushed laws (x ∷ a) (y ∷ b) e = ap (λ t. ring.is_zero (ring.add x (ring.neg y)) && t) (same-pushed laws a b (omega (arith, e)))

  entry-pushed : (row : List K) (k : ℕ) → k < length row → entry ring (pushed row) k ≡ entry ring row k
  entry-pushed row k l = get_or_append_left row (ring.zero ∷ []) ring.zero k l

  copies-pushed : (laws : IsRing ring) (w : ℕ) (rows : List (List K)) → All (λ row. length row ≡ w) rows → first_copies ring (map pushed rows) ≡ map pushed (first_copies ring rows)
  copies-pushed laws w [] all = refl
  copies-pushed laws w (a ∷ rows) all =
      let rest : All (λ row. length row ≡ w) rows = λ k d l. all (suc k) d (omega (arith, l)) in
      let kept = All-first_copies ring (λ row. length row ≡ w) rows rest in
      let wide : length a ≡ w = all 0 [] (omega arith) in
      ap (λ t. pushed a ∷ t)
      (ap (filter (λ b. not (same_row ring (pushed a) b))) (copies-pushed laws w rows rest)
      ∙ filter-map (λ b. not (same_row ring (pushed a) b)) pushed (first_copies ring rows)
      ∙ ap (map pushed) (filter-ext (λ b. not (same_row ring (pushed a) (pushed b))) (λ b. not (same_row ring a b)) (first_copies ring rows)
      (λ b c. ap not (same-pushed laws a b (wide ∙ sym (All-contains (λ row. length row ≡ w) (first_copies ring rows) b kept c))))))

module _ {K : Type 0} {ring : RingOf K} {inverse : K → K} (field : IsField ring inverse) where
  -- a row that is divided by its first entry
  normalised-pushed : (row : List K) → All ring.IsValue row → is_zero_row ring row ≡ false → normalised ring inverse (pushed ring row) ≡ pushed ring (normalised ring inverse row)
  normalised-pushed row v nz =
      let laws = field.is_ring in
      let at = first_nonzero laws row v nz in
      let k = at.0 in
      let same : entry ring (pushed ring row) k ≡ entry ring row k = entry-pushed ring row k at.1.within in
      let values : All ring.IsValue (pushed ring row) = All-push ring.IsValue row ring.zero v laws.zero_value in
      let longer : IsFirstNonzero laws (pushed ring row) k = record {
        within = let l = at.1.within in let w = length-append row (ring.zero ∷ []) in omega (arith, l, w);
        nonzero = λ e. at.1.nonzero (sym same ∙ e);
        zeros = λ j h. entry-pushed ring row j (let l = at.1.within in omega (arith, h, l)) ∙ at.1.zeros j h;
      } in
      ap (λ j. row_scale ring (inverse (entry ring (pushed ring row) j)) (pushed ring row)) (first_place-is laws (pushed ring row) values k longer)
      ∙ ap (λ x. row_scale ring (inverse x) (pushed ring row)) same
      ∙ scale-pushed ring laws (inverse (entry ring row k)) row (field.inverse_value _ (v k ring.zero at.1.within) at.1.nonzero)
      ∙ ap (λ j. pushed ring (row_scale ring (inverse (entry ring row j)) row)) (sym (first_place-is laws row v k at.1))

  -- one row on the hyperplane of another, both with constants zero
  restricted-pushed : (a b : List K) → All ring.IsValue a → is_zero_row ring a ≡ false → IsRow ring (length a) b
      → restricted_form ring inverse (length a) (pushed ring a) (pushed ring b) ≡ pushed ring (restricted_form ring inverse (length a) a b)
  restricted-pushed a b va nz rb =
      let laws = field.is_ring in
      let at = last_nonzero laws a va nz in
      let k = at.0 in
      let in_a : k < length a = at.1.within in
      let in_b : k < length b = (let e = rb.0 in omega (arith, in_a, e)) in
      let c = factor field a b k in
      let at_last : last_place ring (take (length a) (pushed ring a)) ≡ k = ap (last_place ring) (take-append_seam a (ring.zero ∷ [])) ∙ last_place-is laws a va k at.1 in
      let moved : K → List K = λ c. row_scale ring c (pushed ring a) in
      let vc : ring.IsValue c = factor-value field a b k va rb.1 rb.0 at.1 in
      let wide : length b ≡ length (row_scale ring c a) = rb.0 ∙ sym (length-map a (ring.mul c)) in
      let in_cleared : k < length (cleared field a b k) = (let l = long field a b k va rb.1 rb.0 at.1 in omega (arith, l, in_b)) in
      ap (λ j. remove (row_minus ring (pushed ring b) (moved (ring.mul (entry ring (pushed ring b) j) (inverse (entry ring (pushed ring a) j))))) j) at_last
      ∙ (λ t. remove (row_minus ring (pushed ring b) (moved (ring.mul (entry-pushed ring b k in_b t) (inverse (entry-pushed ring a k in_a t))))) k)
      ∙ ap (λ r. remove (row_minus ring (pushed ring b) r) k) (scale-pushed ring laws c a vc)
      ∙ ap (λ r. remove r k) (minus-pushed ring laws b (row_scale ring c a) wide)
      ∙ remove-append_left (cleared field a b k) (ring.zero ∷ []) k in_cleared
      ∙ ap (pushed ring) (sym (restricted_form-at field a b k va at.1))

  module _ (numbers : Numbering K) (arr : Arrangement K) (lawful : IsArrangement ring numbers arr) (i : ℕ) (low : 1 ≤ i) (high : i ≤ length arr.forms) where
    abbrev a : List K
    a = form arr i

    abbrev others : List (List K)
    others = (deletion arr i).forms

    inside : i - 1 < length arr.forms
    inside = omega (arith, low, high)

    width : length a ≡ arr.dim
    width = (lawful.rows (i - 1) [] inside).0

    abbrev cut : List K → List K
    cut b = restricted_form ring inverse (length (form arr i)) (form arr i) b

    other-row : (b : List K) → Contains others b → IsRow ring (length a) b
    other-row b c = All-contains (IsRow ring (length a)) others b (can_restrict field numbers arr lawful i low high).rows c

    cut-row : (b : List K) → Contains others b → IsRow ring (length a - 1) (cut b)
    cut-row b c = let can = can_restrict field numbers arr lawful i low high in restricted_form-row field a b can.values can.nonzero (other-row b c)

    cut-nonzero : (b : List K) → Contains others b → is_zero_row ring (cut b) ≡ false
    cut-nonzero b c =
        let can = can_restrict field numbers arr lawful i low high in
        restricted_form-nonzero field a b can.values can.nonzero (other-row b c) (All-contains (λ b. ¬ (IsMultiple ring b a)) others b can.apart c)

    abbrev stays : List K → Bool
    stays b = not (is_zero_row ring (take (arr.dim - 1) b))

    -- ---- rows without constants

    cut-same : (b : List K) → restricted_form ring inverse arr.dim a b ≡ cut b
    cut-same b = ap (λ d. restricted_form ring inverse d a b) (sym width)

    cut-stays : (b : List K) → Contains others b → stays (cut b) ≡ true
    cut-stays b c = ap (λ r. not (is_zero_row ring r)) (take_all (arr.dim - 1) (cut b) (let w = width in let r = (cut-row b c).0 in omega (arith, w, r))) ∙ ap not (cut-nonzero b c)

    abbrev whole : List K → List K
    whole b = normalised ring inverse (restricted_form ring inverse (length (form arr i)) (form arr i) b)

    -- the other forms on the hyperplane, where none is dropped
    abbrev pub kept_forms : Arrangement K
    kept_forms = record { dim = arr.dim - 1; forms = first_copies ring (map (λ b. normalised ring inverse (restricted_form ring inverse (length (form arr i)) (form arr i) b)) (deletion arr i).forms) }

    pub restriction-central : restriction ring inverse arr i ≡ kept_forms
    unfolding restriction
    restriction-central = λ j. record { dim = arr.dim - 1; forms = first_copies ring (rows j) }
      where
        rows : map (normalised ring inverse) (filter stays (map (restricted_form ring inverse arr.dim a) others)) ≡ map (λ b. normalised ring inverse (cut b)) others
        rows =
            ap (λ rs. map (normalised ring inverse) (filter stays rs)) (map-same (restricted_form ring inverse arr.dim a) cut others (λ b c. cut-same b))
            ∙ ap (map (normalised ring inverse)) (filter-whole stays (map cut others) (λ r c. let w = map-Contains cut others r c in subst (λ r. stays r ≡ true) w.2 (cut-stays w.0 w.1)))
            ∙ map-two cut (normalised ring inverse) (λ b. normalised ring inverse (cut b)) others (λ b c. refl)

    -- ---- rows with constants zero

    pushed-stays : (b : List K) → Contains others b → stays (pushed ring (cut b)) ≡ true
    pushed-stays b c =
        let w = width in
        let r = (cut-row b c).0 in
        let d : length (cut b) ≡ arr.dim - 1 = omega (arith, w, r) in
        ap (λ m. not (is_zero_row ring (take m (pushed ring (cut b))))) (sym d) ∙ ap (λ r. not (is_zero_row ring r)) (take-append_seam (cut b) (ring.zero ∷ [])) ∙ ap not (cut-nonzero b c)

    abbrev B : Arrangement K
    B = with_constants ring arr

    kept-constants : restriction ring inverse (with_constants ring arr) i ≡ with_constants ring kept_forms
    unfolding restriction
    kept-constants = λ j. record { dim = arr.dim - 1; forms = rows j }
      where
        form-pushed : form B i ≡ pushed ring a
        form-pushed = get_or-map (pushed ring) arr.forms (i - 1) [] [] inside

        one : (b : List K) → Contains others b → restricted_form ring inverse arr.dim (pushed ring a) (pushed ring b) ≡ pushed ring (cut b)
        one b c =
            let can = can_restrict field numbers arr lawful i low high in
            ap (λ d. restricted_form ring inverse d (pushed ring a) (pushed ring b)) (sym width) ∙ restricted-pushed a b can.values can.nonzero (other-row b c)

        widths : All (λ row. length row ≡ arr.dim - 1) (map whole others)
        widths = All-map (λ row. length row ≡ arr.dim - 1) whole others (λ k d l.
            let b = get_or others k d in
            let r = (cut-row b (Contains-get_or others k d l)).0 in
            let w = width in
            let s = length-map (cut b) (ring.mul (inverse (entry ring (cut b) (first_place ring (cut b))))) in
            omega (arith, r, w, s))

        rows : first_copies ring (map (normalised ring inverse) (filter stays (map (restricted_form ring inverse arr.dim (form B i)) (deletion B i).forms)))
            ≡ map (pushed ring) (first_copies ring (map whole others))
        rows =
            (λ t. first_copies ring (map (normalised ring inverse) (filter stays (map (restricted_form ring inverse arr.dim (form-pushed t)) (remove-map (pushed ring) (i - 1) arr.forms t)))))
            ∙ ap (λ rs. first_copies ring (map (normalised ring inverse) (filter stays rs)))
            (map-two (pushed ring) (restricted_form ring inverse arr.dim (pushed ring a)) (λ b. pushed ring (cut b)) others one)
            ∙ ap (λ rs. first_copies ring (map (normalised ring inverse) rs))
            (filter-whole stays (map (λ b. pushed ring (cut b)) others) (λ r c. let w = map-Contains (λ b. pushed ring (cut b)) others r c in subst (λ r. stays r ≡ true) w.2 (pushed-stays w.0 w.1)))
            ∙ ap (first_copies ring) (map-two (λ b. pushed ring (cut b)) (normalised ring inverse) (λ b. pushed ring (whole b)) others (λ b c. normalised-pushed (cut b) (cut-row b c).1 (cut-nonzero b c))
            ∙ sym (map-two whole (pushed ring) (λ b. pushed ring (whole b)) others (λ b c. refl)))
            ∙ copies-pushed ring field.is_ring (arr.dim - 1) (map whole others) widths

    pub restriction-constants : restriction ring inverse (with_constants ring arr) i ≡ with_constants ring (restriction ring inverse arr i)
    restriction-constants = kept-constants ∙ ap (with_constants ring) (sym restriction-central)

    -- ---- what its parts make

    made : (d : ℕ) (a : List K) (others rows : List (List K)) → d ≡ arr.dim → a ≡ form arr i → others ≡ (deletion arr i).forms
        → rows ≡ first_copies ring (map (λ b. normalised ring inverse (restricted_form ring inverse (length a) a b)) others) → record { dim = d - 1; forms = rows } ≡ kept_forms
    made d a others rows at_dim at_a at_others at_rows =
        let all : rows ≡ kept_forms.forms =
        at_rows
        ∙ ap (λ x. first_copies ring (map (λ b. normalised ring inverse (restricted_form ring inverse (length x) x b)) others)) at_a
        ∙ ap (λ xs. first_copies ring (map (λ b. normalised ring inverse (restricted_form ring inverse (length (form arr i)) (form arr i) b)) xs)) at_others in
        λ j. record { dim = at_dim j - 1; forms = all j }

    pub restriction-from : (d : ℕ) (a : List K) (others rows : List (List K)) → d ≡ arr.dim → a ≡ form arr i → others ≡ (deletion arr i).forms
        → rows ≡ first_copies ring (map (λ b. normalised ring inverse (restricted_form ring inverse (length a) a b)) others) → record { dim = d - 1; forms = rows } ≡ restriction ring inverse arr i
    restriction-from d a others rows at_dim at_a at_others at_rows = made d a others rows at_dim at_a at_others at_rows ∙ sym restriction-central

    pub lawful-from : (d : ℕ) (a : List K) (others rows : List (List K)) → d ≡ arr.dim → a ≡ form arr i → others ≡ (deletion arr i).forms
        → rows ≡ first_copies ring (map (λ b. normalised ring inverse (restricted_form ring inverse (length a) a b)) others) → 2 ≤ arr.dim → IsArrangement ring numbers (record { dim = d - 1; forms = rows })
    lawful-from d a others rows at_dim at_a at_others at_rows two =
        subst (IsArrangement ring numbers) (sym (made d a others rows at_dim at_a at_others at_rows)) (kept-lawful field numbers arr lawful i low high two)
