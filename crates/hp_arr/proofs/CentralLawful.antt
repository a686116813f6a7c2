-- The forms of a central arrangement with constants zero, and the forms of rows whose constants are zero, are lawful; and each undoes the other.
use Rattle.std.specs.Prelude.{◌≡◌, ℕ, ◌+◌, ◌<◌, true, false, ◌&&◌, List, [], ◌∷◌, ◌++◌, map, take, length, All, slice_get, Some}
use Rattle.std.proofs.Common.{get_or, refl, sym, ap, ◌∙◌, subst, arith}
use Rattle.std.proofs.lemmas.Option.{slice_get_within, slice_get-get_or, get_or_from_slice_get}
use Rattle.std.proofs.lemmas.List.{length-map, get_or-map}
use Rattle.std.proofs.lemmas.List.Elements.{Contains-get_or, All-head, All-tail, All-map}
use Rattle.std.proofs.Math.Seq.{take-append_seam}
use Rattle.hp_algebra.specs.Ring.{RingOf, Numbering, IsField}
use Rattle.hp_algebra.specs.Rows.{IsRow, IsMultiple, entry, is_zero_row, row_scale}
use Rattle.hp_algebra.proofs.Rings.{mul_zero, zero_passes}
use Rattle.hp_lists.specs.Lists.{list_all}
use Rattle.hp_lists.proofs.Members.{first_true, second_true, all-at}
use Rattle.hp_arr.specs.Arrangement.{Arrangement, IsArrangement, IsAffineArrangement, is_central, linear_part, with_constants}
use Rattle.hp_arr.proofs.ConePoints.{split-height, height-row, scale-height, entry-height}

front : {X : Type 0} (xs ys : List X) (m : ℕ) → length xs ≡ m → take m (xs ++ ys) ≡ xs
front xs ys m e = ap (λ k. take k (xs ++ ys)) (sym e) ∙ take-append_seam xs ys

module _ {K : Type 0} {ring : RingOf K} {inverse : K → K} (field : IsField ring inverse) where
  abbrev padded : List K → List K
  padded f = f ++ ring.zero ∷ []

  padded-taken : (d : ℕ) (f : List K) → length f ≡ d → take d (padded f) ≡ f
  padded-taken d f e = front f (ring.zero ∷ []) d e

  -- a row whose constant is zero
  taken-padded : (d : ℕ) (r : List K) → IsRow ring (d + 1) r → ring.is_zero (entry ring r d) ≡ true → padded (take d r) ≡ r
  taken-padded d r rr z =
      let s = split-height ring d r rr in
      let c0 : s.1 ≡ ring.zero = (field.is_ring.zero_test s.1 s.3).0 (ap ring.is_zero (sym (entry-height ring d s.0 s.1 s.2.0)) ∙ ap (λ g. ring.is_zero (entry ring g d)) (sym s.4) ∙ z) in
      ap padded (ap (take d) s.4 ∙ front s.0 (s.1 ∷ []) d s.2.0) ∙ ap (λ c. s.0 ++ c ∷ []) (sym c0) ∙ sym s.4

  -- multiples with and without the constant
  multiple-short : (d : ℕ) (f g : List K) → length f ≡ d → length g ≡ d → IsMultiple ring (padded f) (padded g) → IsMultiple ring f g
  multiple-short d f g ef eg (c, v, e) =
      (c, v, sym (padded-taken d f ef) ∙ ap (take d) (e ∙ scale-height ring c g ring.zero) ∙ front (row_scale ring c g) (ring.mul c ring.zero ∷ []) d (length-map g (ring.mul c) ∙ eg))

  multiple-long : (f g : List K) → IsMultiple ring f g → IsMultiple ring (padded f) (padded g)
  multiple-long f g (c, v, e) =
      (c, v, ap padded e ∙ ap (λ z. row_scale ring c g ++ z ∷ []) (sym (mul_zero field.is_ring c v)) ∙ sym (scale-height ring c g ring.zero))

  module _ (numbers : Numbering K) (arr : Arrangement K) where
    -- ---- constants that are zero

    pub constants-lawful : IsArrangement ring numbers arr → IsAffineArrangement ring numbers (with_constants ring arr)
    constants-lawful lawful = record {
      dim_low = lawful.dim_low;
      dim_high = lawful.dim_high;
      rows = All-map (IsRow ring (arr.dim + 1)) padded arr.forms (λ k d h. height-row ring arr.dim (get_or arr.forms k d) ring.zero (lawful.rows k d h) field.is_ring.zero_value);
      few_forms = let e = length-map arr.forms padded in let f = lawful.few_forms in omega (arith, e, f);
      below_order = let e = length-map arr.forms padded in let f = lawful.below_order in omega (arith, e, f);
      no_zero = All-map (λ a. is_zero_row ring (take arr.dim a) ≡ false) padded arr.forms (λ k d h.
          ap (is_zero_row ring) (padded-taken arr.dim (get_or arr.forms k d) (lawful.rows k d h).0) ∙ lawful.no_zero k d h);
      no_multiple = λ i j a b differ at_a at_b m.
          let in_i = inside i a at_a in
          let in_j = inside j b at_b in
          lawful.no_multiple i j (get_or arr.forms i []) (get_or arr.forms j []) differ (slice_get-get_or arr.forms i [] in_i) (slice_get-get_or arr.forms j [] in_j)
          (multiple-short arr.dim (get_or arr.forms i []) (get_or arr.forms j []) (lawful.rows i [] in_i).0 (lawful.rows j [] in_j).0
          (subst (λ x. IsMultiple ring x (padded (get_or arr.forms j []))) (named i a at_a in_i) (subst (IsMultiple ring a) (named j b at_b in_j) m)));
    }
      where
        inside : (i : ℕ) (a : List K) → slice_get (map padded arr.forms) i ≡ Some a → i < length arr.forms
        inside i a at = let h = slice_get_within (map padded arr.forms) i a at in let e = length-map arr.forms padded in omega (arith, h, e)

        named : (i : ℕ) (a : List K) → slice_get (map padded arr.forms) i ≡ Some a → i < length arr.forms → a ≡ padded (get_or arr.forms i [])
        named i a at h = sym (get_or_from_slice_get (map padded arr.forms) i a [] at) ∙ get_or-map padded arr.forms i [] [] h

    -- they are central, and their forms are the forms
    pub constants-is_central : All (IsRow ring arr.dim) arr.forms → is_central ring (with_constants ring arr) ≡ true
    constants-is_central rows = each arr.forms rows
      where
        each : (fs : List (List K)) → All (IsRow ring arr.dim) fs → list_all (λ row. ring.is_zero (entry ring row arr.dim)) (map padded fs) ≡ true
        each [] h = refl
        each (f ∷ fs) h = λ j. (ap ring.is_zero (entry-height ring arr.dim f ring.zero (All-head (IsRow ring arr.dim) f fs h).0) ∙ zero_passes field.is_ring ring.zero refl) j
            && each fs (All-tail (IsRow ring arr.dim) f fs h) j

    pub constants-linear : All (IsRow ring arr.dim) arr.forms → linear_part ring (with_constants ring arr) ≡ arr
    constants-linear rows = λ j. record { dim = arr.dim; forms = each arr.forms rows j }
      where
        each : (fs : List (List K)) → All (IsRow ring arr.dim) fs → map (take arr.dim) (map padded fs) ≡ fs
        each [] h = refl
        each (f ∷ fs) h = λ j. padded-taken arr.dim f (All-head (IsRow ring arr.dim) f fs h).0 j ∷ each fs (All-tail (IsRow ring arr.dim) f fs h) j

    -- ---- rows whose constants are zero

    pub linear-constants : All (IsRow ring (arr.dim + 1)) arr.forms → is_central ring arr ≡ true → with_constants ring (linear_part ring arr) ≡ arr
    linear-constants rows central = λ j. record { dim = arr.dim; forms = each arr.forms rows central j }
      where
        each : (fs : List (List K)) → All (IsRow ring (arr.dim + 1)) fs → list_all (λ row. ring.is_zero (entry ring row arr.dim)) fs ≡ true → map padded (map (take arr.dim) fs) ≡ fs
        each [] h z = refl
        each (f ∷ fs) h z = λ j. taken-padded arr.dim f (All-head (IsRow ring (arr.dim + 1)) f fs h) (first_true _ _ z) j ∷ each fs (All-tail (IsRow ring (arr.dim + 1)) f fs h) (second_true _ _ z) j

    pub linear-lawful : IsAffineArrangement ring numbers arr → is_central ring arr ≡ true → IsArrangement ring numbers (linear_part ring arr)
    linear-lawful lawful central = record {
      dim_low = lawful.dim_low;
      dim_high = lawful.dim_high;
      rows = All-map (IsRow ring arr.dim) (take arr.dim) arr.forms (λ k d h. short (get_or arr.forms k d) (lawful.rows k d h));
      few_forms = let e = length-map arr.forms (take arr.dim) in let f = lawful.few_forms in omega (arith, e, f);
      below_order = let e = length-map arr.forms (take arr.dim) in let f = lawful.below_order in omega (arith, e, f);
      no_zero = All-map (λ a. is_zero_row ring a ≡ false) (take arr.dim) arr.forms lawful.no_zero;
      no_multiple = λ i j a b differ at_a at_b m.
          let in_i = inside i a at_a in
          let in_j = inside j b at_b in
          lawful.no_multiple i j (get_or arr.forms i []) (get_or arr.forms j []) differ (slice_get-get_or arr.forms i [] in_i) (slice_get-get_or arr.forms j [] in_j)
          (whole i j a b at_a at_b in_i in_j m);
    }
      where
        short : (r : List K) → IsRow ring (arr.dim + 1) r → IsRow ring arr.dim (take arr.dim r)
        short r rr = let s = split-height ring arr.dim r rr in subst (IsRow ring arr.dim) (sym (ap (take arr.dim) s.4 ∙ front s.0 (s.1 ∷ []) arr.dim s.2.0)) s.2

        inside : (i : ℕ) (a : List K) → slice_get (map (take arr.dim) arr.forms) i ≡ Some a → i < length arr.forms
        inside i a at = let h = slice_get_within (map (take arr.dim) arr.forms) i a at in let e = length-map arr.forms (take arr.dim) in omega (arith, h, e)

        zero-at : (fs : List (List K)) (i : ℕ) → i < length fs → list_all (λ row. ring.is_zero (entry ring row arr.dim)) fs ≡ true → ring.is_zero (entry ring (get_or fs i []) arr.dim) ≡ true
        zero-at fs i h z = all-at (λ row. ring.is_zero (entry ring row arr.dim)) fs (get_or fs i []) z (Contains-get_or fs i [] h)

        padded-at : (i : ℕ) (a : List K) → slice_get (map (take arr.dim) arr.forms) i ≡ Some a → i < length arr.forms → padded a ≡ get_or arr.forms i []
        padded-at i a at h =
            ap padded (sym (get_or_from_slice_get (map (take arr.dim) arr.forms) i a [] at) ∙ get_or-map (take arr.dim) arr.forms i [] [] h)
            ∙ taken-padded arr.dim (get_or arr.forms i []) (lawful.rows i [] h) (zero-at arr.forms i h central)

        whole : (i j : ℕ) (a b : List K) → slice_get (map (take arr.dim) arr.forms) i ≡ Some a → slice_get (map (take arr.dim) arr.forms) j ≡ Some b
            → i < length arr.forms → j < length arr.forms → IsMultiple ring a b → IsMultiple ring (get_or arr.forms i []) (get_or arr.forms j [])
        whole i j a b at_a at_b in_i in_j m =
            subst (λ x. IsMultiple ring x (get_or arr.forms j [])) (padded-at i a at_a in_i) (subst (IsMultiple ring (padded a)) (padded-at j b at_b in_j) (multiple-long a b m))
