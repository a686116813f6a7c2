-- The rows of a restriction as they are put together: one more row is dropped, is a copy, or stays.
use Rattle.std.specs.Prelude.{◌≡◌, ◌⊎◌, ℕ, ◌+◌, ◌-◌, ◌<◌, ◌≤◌, Bool, true, false, cond, not, List, [], ◌∷◌, ◌++◌, map, filter, take, length, All, remove}
use Rattle.std.proofs.Common.{get_or, refl, sym, ap, ◌∙◌, subst, inl, inr, arith, append-nil}
use Rattle.std.proofs.lemmas.Bool.{not-true, cases_Bool}
use Rattle.std.proofs.lemmas.List.{map_more, map-append, get_or-take, length-take-le}
use Rattle.std.proofs.lemmas.List.Elements.{All-map, All-take, All-filter, filter-append, Contains-get_or}
use Rattle.hp_lists.specs.Lists.{list_any}
use Rattle.hp_lists.proofs.Members.{filter-Contains}
use Rattle.hp_algebra.specs.Ring.{RingOf, IsField}
use Rattle.hp_algebra.specs.Rows.{entry, is_zero_row, row_minus, row_scale, same_row}
use Rattle.hp_arr.specs.Arrangement.{Arrangement, form}
use Rattle.hp_arr.specs.Operations.{first_copies, normalised, deletion, last_place, restricted_form, restriction}
use Rattle.hp_arr.proofs.FirstCopies.{first_copies-push}
use Rattle.hp_arr.proofs.NormalRows.{normalised-row}
use Rattle.hp_arr.proofs.AffineFaultless.{whole-nonzero}

module _ {K : Type 0} {ring : RingOf K} {inverse : K → K} (field : IsField ring inverse) (count : ℕ) (cut : List K → List K) where
  -- whether the first entries are not all zero
  abbrev stays : List K → Bool
  stays b = not (is_zero_row ring (take count b))

  abbrev divided : List K → List K
  divided b = normalised ring inverse b

  abbrev Values : List K → Type 0
  Values b = All ring.IsValue b

  -- what is kept of these rows
  abbrev pub kept_from : List (List K) → List (List K)
  kept_from rows = first_copies ring (map (normalised ring inverse) (filter (λ b. not (is_zero_row ring (take count b))) (map cut rows)))

  divided-values : (b : List K) → Values b → is_zero_row ring (take count b) ≡ false → Values (divided b)
  divided-values b v nz = (normalised-row field b v (whole-nonzero ring count b nz) (length b) refl).1

  staying-values : (rows : List (List K)) → All (λ b. Values (cut b)) rows → All Values (map divided (filter stays (map cut rows)))
  staying-values rows all = All-map Values divided (filter stays (map cut rows)) (λ k d h.
      let b = get_or (filter stays (map cut rows)) k d in
      divided-values b (All-filter stays Values (map cut rows) (All-map Values cut rows all) k d h)
      (not-true (is_zero_row ring (take count b)) (filter-Contains stays (map cut rows) b (Contains-get_or (filter stays (map cut rows)) k d h)).1))

  -- the rows that stay, one more row in hand
  staying-more : (rows : List (List K)) (k : ℕ) → k < length rows
      → filter stays (map cut (take (k + 1) rows)) ≡ filter stays (map cut (take k rows)) ++ cond (stays (cut (get_or rows k []))) (cut (get_or rows k []) ∷ []) []
  staying-more rows k h = ap (filter stays) (map_more cut rows k [] h) ∙ filter-append stays (map cut (take k rows)) (cut (get_or rows k []) ∷ [])

  -- one row more
  pub kept-more : (rows : List (List K)) (k : ℕ) (held : List (List K)) → k < length rows → All (λ b. Values (cut b)) rows → held ≡ kept_from (take k rows)
      → cond (is_zero_row ring (take count (cut (get_or rows k [])))) held
      (cond (list_any (same_row ring (divided (cut (get_or rows k [])))) held) held (held ++ divided (cut (get_or rows k [])) ∷ []))
      ≡ kept_from (take (k + 1) rows)
  kept-more rows k held h all e = step (cases_Bool (is_zero_row ring (take count (cut (get_or rows k [])))))
    where
      b : List K
      b = cut (get_or rows k [])

      before : List (List K)
      before = filter stays (map cut (take k rows))

      step : (is_zero_row ring (take count b) ≡ true) ⊎ (is_zero_row ring (take count b) ≡ false)
          → cond (is_zero_row ring (take count b)) held (cond (list_any (same_row ring (divided b)) held) held (held ++ divided b ∷ [])) ≡ kept_from (take (k + 1) rows)
      step (inl z) =
          ap (λ t. cond t held (cond (list_any (same_row ring (divided b)) held) held (held ++ divided b ∷ []))) z
          ∙ e ∙ ap (λ rs. first_copies ring (map divided rs)) (sym (staying-more rows k h ∙ ap (λ t. before ++ cond (not t) (b ∷ []) []) z ∙ append-nil before))
      step (inr nz) =
          ap (λ t. cond t held (cond (list_any (same_row ring (divided b)) held) held (held ++ divided b ∷ []))) nz
          ∙ first_copies-push field.is_ring (map divided before) held (divided b) (staying-values (take k rows) (All-take (λ a. Values (cut a)) k rows all)) (divided-values b (all k [] h) nz) e
          ∙ ap (first_copies ring) (sym (map-append divided before (b ∷ [])))
          ∙ ap (λ rs. first_copies ring (map divided rs)) (sym (staying-more rows k h ∙ ap (λ t. before ++ cond (not t) (b ∷ []) []) nz))

module _ {K : Type 0} (ring : RingOf K) (inverse : K → K) where
  -- a row on the hyperplane of another, from the place and the inverse that are at hand
  pub cut-is : (dim : ℕ) (a b : List K) (place : ℕ) (inv : K) → place < dim → place ≡ last_place ring (take dim a)
      → inv ≡ inverse (entry ring (take dim a) (last_place ring (take dim a)))
      → remove (row_minus ring b (row_scale ring (ring.mul (entry ring b place) inv) a)) place ≡ restricted_form ring inverse dim a b
  cut-is dim a b place inv low at_place at_inv =
      let below : last_place ring (take dim a) < dim = subst (λ j. j < dim) at_place low in
      let there : inv ≡ inverse (entry ring a (last_place ring (take dim a))) = at_inv ∙ ap inverse (get_or-take dim a (last_place ring (take dim a)) ring.zero below) in
      λ j. remove (row_minus ring b (row_scale ring (ring.mul (entry ring b (at_place j)) (there j)) a)) (at_place j)

  -- the same of what is read
  pub cut-read : (arr : Arrangement K) (i dim : ℕ) (a b x row : List K) (place : ℕ) (inv : K) → dim ≤ length a → place < length (take dim a)
      → place ≡ last_place ring (take dim a) → inv ≡ inverse (entry ring (take dim a) (last_place ring (take dim a)))
      → dim ≡ arr.dim → a ≡ form arr i → b ≡ x → row ≡ remove (row_minus ring b (row_scale ring (ring.mul (entry ring b place) inv) a)) place
      → row ≡ restricted_form ring inverse arr.dim (form arr i) x
  cut-read arr i dim a b x row place inv wide low at_place at_inv ed ea eb e =
      let below : place < dim = (let t = length-take-le dim a wide in omega (arith, low, t)) in
      e ∙ cut-is dim a b place inv below at_place at_inv ∙ (λ j. restricted_form ring inverse (ed j) (ea j) (eb j))

  pub restriction-forms : (arr : Arrangement K) (i : ℕ)
      → first_copies ring (map (normalised ring inverse) (filter (λ b. not (is_zero_row ring (take (arr.dim - 1) b))) (map (restricted_form ring inverse arr.dim (form arr i)) (deletion arr i).forms)))
      ≡ (restriction ring inverse arr i).forms
  unfolding restriction
  restriction-forms arr i = refl

  pub restriction-is : (arr : Arrangement K) (i d : ℕ) (rows : List (List K)) → d ≡ arr.dim → rows ≡ (restriction ring inverse arr i).forms
      → record { dim = d - 1; forms = rows } ≡ restriction ring inverse arr i
  unfolding restriction
  restriction-is arr i d rows e f = λ j. record { dim = e j - 1; forms = f j }
