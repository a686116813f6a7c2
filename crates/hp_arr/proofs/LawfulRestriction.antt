-- The restriction of an arrangement is an arrangement.
use Rattle.std.specs.Prelude.{◌≡◌, ◌≢◌, ℕ, zero, suc, ◌+◌, ◌-◌, ◌<◌, ◌≤◌, Bool, true, false, cond, List, [], ◌∷◌, ◌++◌, map, length, All, slice_get, Some, remove}
use Rattle.std.proofs.Common.{get_or, take, refl, sym, ap, ◌∙◌, subst, inl, inr, arith}
use Rattle.std.proofs.lemmas.Bool.{false≢true, cases_order, and_parts, and_from, false_from_ne_true}
use Rattle.std.proofs.lemmas.Option.{slice_get_within, slice_get-get_or, get_or_from_slice_get}
use Rattle.std.proofs.lemmas.List.{length-map, get_or-map, map_more, take_all}
use Rattle.std.proofs.lemmas.List.Elements.{All-map, All-take}
use Rattle.std.proofs.lemmas.List.Edits.{length-remove}
use Rattle.hp_algebra.specs.Ring.{RingOf, Numbering, IsField}
use Rattle.hp_lists.specs.Lists.{list_all, list_any}
use Rattle.hp_algebra.proofs.Rings.{zero_passes, same_from_difference}
use Rattle.hp_arr.specs.Arrangement.{Arrangement, IsArrangement, form}
use Rattle.hp_algebra.specs.Rows.{IsRow, IsMultiple, entry, is_zero_row, row_scale, row_minus, same_row}
use Rattle.hp_arr.specs.Operations.{first_copies, last_place, normalised, restricted_form, deletion}
use Rattle.hp_algebra.proofs.Rows.{scale-values, row-ext, is_zero_row-at}
use Rattle.hp_algebra.proofs.RowDifferences.{same_row-self, length-minus_multiple, get_or-minus, minus-values}
use Rattle.hp_arr.proofs.NonzeroPlaces.{IsLastNonzero, last_nonzero, last_place-is}
use Rattle.hp_arr.proofs.NormalRows.{IsNormal, normal-nonzero, normal-same, normalised-normal, normalised-row}
use Rattle.hp_arr.proofs.FirstCopies.{All-first_copies, length-first_copies, first_copies-apart, first_copies-push}
use Rattle.hp_arr.proofs.LawfulDeletion.{All-remove, fewer, deletion-lawful, apart_from}

-- a row without an entry that is zero is zero only where it is
remove-zero : {K : Type 0} (test : K → Bool) (row : List K) (k : ℕ) (d : K) → k < length row → test (get_or row k d) ≡ true → list_all test (remove row k) ≡ true → list_all test row ≡ true
remove-zero test [] k d h here others = refl
remove-zero test (x ∷ row) zero d h here others = and_from _ _ here others
remove-zero test (x ∷ row) (suc k) d h here others =
    let parts = and_parts (test x) (list_all test (remove row k)) others in
    and_from _ _ parts.0 (remove-zero test row k d (omega (arith, h)) here parts.1)

-- Forms that can be restricted to the hyperplane a = 0: rows of one width, of which none is a multiple of a, which is not zero.
pub record CanRestrict {K : Type 0} (ring : RingOf K) (a : List K) (others : List (List K)) : Type 0 where
  pub values : All ring.IsValue a
  pub nonzero : is_zero_row ring a ≡ false
  pub rows : All (IsRow ring (length a)) others
  pub apart : All (λ b. ¬ (IsMultiple ring b a)) others

module _ {K : Type 0} {ring : RingOf K} {inverse : K → K} (field : IsField ring inverse) where
  -- ---- one form on the hyperplane of another

  -- the factor with which b - c a has no entry k
  abbrev pub factor : List K → List K → ℕ → K
  factor a b k = ring.mul (entry ring b k) (inverse (entry ring a k))

  abbrev pub cleared : List K → List K → ℕ → List K
  cleared a b k = row_minus ring b (row_scale ring (factor a b k) a)

  -- the last place of a form is that of all its entries
  pub restricted_form-whole : (a b : List K) → restricted_form ring inverse (length a) a b ≡ remove (cleared a b (last_place ring a)) (last_place ring a)
  restricted_form-whole a b = ap (λ t. remove (cleared a b (last_place ring t)) (last_place ring t)) (take_all (length a) a (same (length a)))
    where
      same : (n : ℕ) → n ≤ n
      same n = omega arith

  pub restricted_form-at : (a b : List K) (k : ℕ) → All ring.IsValue a → IsLastNonzero field.is_ring a k
      → restricted_form ring inverse (length a) a b ≡ remove (cleared a b k) k
  restricted_form-at a b k va at = restricted_form-whole a b ∙ ap (λ j. remove (cleared a b j) j) (last_place-is field.is_ring a va k at)

  module _ (a b : List K) (k : ℕ) (va : All ring.IsValue a) (vb : All ring.IsValue b) (e : length b ≡ length a) (at : IsLastNonzero field.is_ring a k) where
    in_b : k < length b
    in_b = let within = at.within in omega (arith, within, e)

    at_a : ring.IsValue (entry ring a k)
    at_a = va k ring.zero at.within

    at_b : ring.IsValue (entry ring b k)
    at_b = vb k ring.zero in_b

    pub factor-value : ring.IsValue (factor a b k)
    factor-value = field.is_ring.mul_value _ _ at_b (field.inverse_value _ at_a at.nonzero)

    wide : length b ≡ length (row_scale ring (factor a b k) a)
    wide = e ∙ sym (length-map a (ring.mul (factor a b k)))

    pub long : length (cleared a b k) ≡ length b
    long = length-minus_multiple ring (factor a b k) b a e

    pub cleared-values : All ring.IsValue (cleared a b k)
    cleared-values = minus-values field.is_ring b (row_scale ring (factor a b k) a) vb (scale-values field.is_ring (factor a b k) a factor-value va)

    pub clears : entry ring (cleared a b k) k ≡ ring.zero
    clears =
        let laws = field.is_ring in
        let x = entry ring a k in
        let y = entry ring b k in
        let vi = field.inverse_value x at_a at.nonzero in
        let same : ring.mul (factor a b k) x ≡ y =
        laws.mul_assoc y (inverse x) x at_b vi at_a
        ∙ ap (ring.mul y) (field.commutes (inverse x) x vi at_a ∙ field.mul_inverse x at_a at.nonzero)
        ∙ laws.mul_one y at_b in
        get_or-minus ring b (row_scale ring (factor a b k) a) k ring.zero wide in_b
        ∙ ap (λ z. ring.add y (ring.neg z)) (get_or-map (ring.mul (factor a b k)) a k ring.zero ring.zero at.within ∙ same)
        ∙ laws.add_neg y at_b

    restricted-row : IsRow ring (length a - 1) (remove (cleared a b k) k)
    restricted-row =
        let in_cleared : k < length (cleared a b k) = (let l = long in omega (arith, l, in_b)) in
        let one = length-remove (cleared a b k) k in_cleared in
        let l = long in (
          omega (arith, one, l, e),
          All-remove ring.IsValue (cleared a b k) k in_cleared cleared-values,
        )

    restricted-nonzero : ¬ (IsMultiple ring b a) → is_zero_row ring (remove (cleared a b k) k) ≡ false
    restricted-nonzero apart = false_from_ne_true _ (λ zero.
        let in_cleared : k < length (cleared a b k) = (let l = long in omega (arith, l, in_b)) in
        let all_zero = remove-zero ring.is_zero (cleared a b k) k ring.zero in_cleared (zero_passes field.is_ring _ clears) zero in
        let moved = row_scale ring (factor a b k) a in
        let values : All ring.IsValue moved = scale-values field.is_ring (factor a b k) a factor-value va in
        let same : b ≡ moved =
        row-ext ring (length b) b moved refl (sym wide) (λ j h.
        same_from_difference field.is_ring _ _ (vb j ring.zero h) (values j ring.zero (let w = wide in omega (arith, w, h)))
        (sym (get_or-minus ring b moved j ring.zero wide h)
        ∙ is_zero_row-at field.is_ring (cleared a b k) cleared-values all_zero j (let l = long in omega (arith, l, h)))) in
        apart (factor a b k, factor-value, same))

  pub restricted_form-row : (a b : List K) → All ring.IsValue a → is_zero_row ring a ≡ false → IsRow ring (length a) b → IsRow ring (length a - 1) (restricted_form ring inverse (length a) a b)
  restricted_form-row a b va nonzero row =
      let at = last_nonzero field.is_ring a va nonzero in
      subst (IsRow ring (length a - 1)) (sym (restricted_form-at a b at.0 va at.1)) (restricted-row a b at.0 va row.1 row.0 at.1)

  pub restricted_form-nonzero : (a b : List K) → All ring.IsValue a → is_zero_row ring a ≡ false → IsRow ring (length a) b → ¬ (IsMultiple ring b a) → is_zero_row ring (restricted_form ring inverse (length a) a b) ≡ false
  restricted_form-nonzero a b va nonzero row apart =
      let at = last_nonzero field.is_ring a va nonzero in
      ap (is_zero_row ring) (restricted_form-at a b at.0 va at.1) ∙ restricted-nonzero a b at.0 va row.1 row.0 at.1 apart

  -- ---- all other forms on the hyperplane of one

  module _ (a : List K) (others : List (List K)) (can : CanRestrict ring a others) where
    abbrev cut : List K → List K
    cut b = normalised ring inverse (restricted_form ring inverse (length a) a b)

    abbrev Good : List K → Type 0
    Good row = IsRow ring (length a - 1) row × IsNormal field row

    cut-good : (b : List K) → IsRow ring (length a) b → ¬ (IsMultiple ring b a) → Good (cut b)
    cut-good b row apart =
        let restricted = restricted_form-row a b can.values can.nonzero row in
        let nonzero = restricted_form-nonzero a b can.values can.nonzero row apart in
        (normalised-row field _ restricted.1 nonzero (length a - 1) restricted.0, normalised-normal field _ restricted.1 nonzero)

    -- one form more is kept where its row is not held yet
    pub cut-more : (k : ℕ) (held : List (List K)) → k < length others → held ≡ first_copies ring (map cut (take k others))
        → cond (list_any (same_row ring (cut (get_or others k []))) held) held (held ++ cut (get_or others k []) ∷ [])
        ≡ first_copies ring (map cut (take (k + 1) others))
    cut-more k held within e =
        let Fits : List K → Type 0 = λ b. IsRow ring (length a) b × ¬ (IsMultiple ring b a) in
        let fits : All Fits (take k others) = All-take Fits k others (λ h d l. (can.rows h d l, can.apart h d l)) in
        let values : All (All ring.IsValue) (map cut (take k others)) =
        All-map (All ring.IsValue) cut (take k others) (λ h d l. (cut-good (get_or (take k others) h d) (fits h d l).0 (fits h d l).1).0.1) in
        let b = get_or others k [] in
        first_copies-push field.is_ring (map cut (take k others)) held (cut b) values (cut-good b (can.rows k [] within) (can.apart k [] within)).0.1 e
        ∙ ap (first_copies ring) (sym (map_more cut others k [] within))

    abbrev kept : List (List K)
    kept = first_copies ring (map cut others)

    kept-good : All Good kept
    kept-good = All-first_copies ring Good (map cut others) (All-map Good cut others (λ k d h. cut-good (get_or others k d) (can.rows k d h) (can.apart k d h)))

    pub kept-few : length kept ≤ length others
    kept-few =
        let few = length-first_copies ring (map cut others) in
        let same = length-map others cut in
        omega (arith, few, same)

    pub kept-rows : All (IsRow ring (length a - 1)) kept
    kept-rows k d h = (kept-good k d h).0

    pub kept-nonzero : All (λ row. is_zero_row ring row ≡ false) kept
    kept-nonzero k d h = normal-nonzero field (get_or kept k d) (kept-good k d h).1

    -- a later kept row is no copy of an earlier one
    kept-differ : (p q : ℕ) → p < q → q < length kept → get_or kept p [] ≢ get_or kept q []
    kept-differ p q before within e =
        let row = kept-rows p [] (omega (arith, before, within)) in
        false≢true (sym (first_copies-apart ring (map cut others) p q [] before within)
        ∙ ap (same_row ring (get_or kept p [])) (sym e) ∙ same_row-self field.is_ring (get_or kept p []) row.1)

    pub kept-apart : (p q : ℕ) (x y : List K) → p ≢ q → slice_get kept p ≡ Some x → slice_get kept q ≡ Some y → ¬ (IsMultiple ring x y)
    kept-apart p q x y differ at_p at_q multiple =
        elim (cases_order p q) [
          | inl same ↦ differ same
          | inr apart ↦ elim apart [
            | inl before ↦ kept-differ p q before in_q (here ∙ equal ∙ sym there)
            | inr behind ↦ kept-differ q p behind in_p (there ∙ sym equal ∙ sym here)
          ]
        ]
      where
        in_p : p < length kept
        in_p = slice_get_within kept p x at_p

        in_q : q < length kept
        in_q = slice_get_within kept q y at_q

        here : get_or kept p [] ≡ x
        here = get_or_from_slice_get kept p x [] at_p

        there : get_or kept q [] ≡ y
        there = get_or_from_slice_get kept q y [] at_q

        equal : x ≡ y
        equal =
            let good_x = subst Good here (kept-good p [] in_p) in
            let good_y = subst Good there (kept-good q [] in_q) in
            normal-same field x y good_y.0.1 good_x.1 good_y.1 multiple

  module _ (numbers : Numbering K) (arr : Arrangement K) (lawful : IsArrangement ring numbers arr) (i : ℕ) (low : 1 ≤ i) (high : i ≤ length arr.forms) where
    inside : i - 1 < length arr.forms
    inside = omega (arith, low, high)

    -- the other forms of an arrangement can be restricted to each of its hyperplanes
    pub can_restrict : CanRestrict ring (form arr i) (deletion arr i).forms
    can_restrict =
        let others = (deletion arr i).forms in
        let rest = deletion-lawful ring numbers arr lawful i low high in
        let row = lawful.rows (i - 1) [] inside in
        record {
          values = row.1;
          nonzero = lawful.no_zero (i - 1) [] inside;
          rows = subst (λ width. All (IsRow ring width) others) (sym row.0) rest.rows;
          apart = λ k d h. apart_from ring numbers arr lawful i low high k (form arr i) (get_or others k d) (slice_get-get_or others k d h) (slice_get-get_or arr.forms (i - 1) [] inside);
        }

    -- the other forms on the hyperplane of form i are lawful
    pub kept-lawful : 2 ≤ arr.dim → IsArrangement ring numbers (record { dim = arr.dim - 1; forms = first_copies ring (map (λ b. normalised ring inverse (restricted_form ring inverse (length (form arr i)) (form arr i) b)) (deletion arr i).forms) })
    kept-lawful two =
        let a = form arr i in
        let others = (deletion arr i).forms in
        let can = can_restrict in
        let width : length a ≡ arr.dim = (lawful.rows (i - 1) [] inside).0 in
        let few = kept-few a others can in
        let one = fewer ring numbers arr lawful i low high in
        let most = lawful.few_forms in
        let below = lawful.below_order in
        let greatest = lawful.dim_high in
        record {
          dim_low = omega (arith, two);
          dim_high = omega (arith, greatest);
          rows = subst (λ l. All (IsRow ring (l - 1)) (first_copies ring (map (cut a others can) others))) width (kept-rows a others can);
          few_forms = omega (arith, few, one, most);
          below_order = omega (arith, few, one, below);
          no_zero = kept-nonzero a others can;
          no_multiple = kept-apart a others can;
        }
