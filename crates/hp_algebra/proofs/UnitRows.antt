-- The unit rows: coordinates, and the rows of the identity.
use Rattle.std.proofs.Common.{◌≡◌, ◌≢◌, ℕ, ◌+◌, ◌<◌, ◌==◌, Bool, true, false, cond, List, map, length, All, get_or, refl, sym, ap, subst, ◌∙◌, eq-eqb, ne_eqb, arith}
use Rattle.std.proofs.lemmas.List.FromFn.{length-map-range_with_len, get_or-map-range_with_len}
use Rattle.hp_lists.specs.Lists.{one_to}
use Rattle.hp_algebra.specs.Ring.{RingOf, IsRing, dot_of}
use Rattle.hp_algebra.specs.Rows.{IsRow, entry, unit_row}
use Rattle.hp_algebra.proofs.Dots.{dot-single}
use Rattle.hp_algebra.proofs.Rings.{mul_zero}
use Rattle.hp_algebra.proofs.Rows.{entry-value, listed-entry, listed-row}

-- the rows of the identity
module _ {R : Type 0} (ring : RingOf R) where
  abbrev pub identity_rows : ℕ → List (List R)
  identity_rows l = map (unit_row ring l) (one_to l)

  pub identity-length : (l : ℕ) → length (identity_rows l) ≡ l
  identity-length l = length-map-range_with_len (unit_row ring l) 1 l

  pub identity-at : (l k : ℕ) (d : List R) → k < l → get_or (identity_rows l) k d ≡ unit_row ring l (k + 1)
  identity-at l k d h = get_or-map-range_with_len (unit_row ring l) 1 l k (k + 1) d h (omega arith)

module _ {R : Type 0} {ring : RingOf R} (laws : IsRing ring) where
  pub unit-row : (l i : ℕ) → IsRow ring l (unit_row ring l i)
  unit-row l i = listed-row ring l (λ k. cond (k == i) ring.one ring.zero) (λ k. value (k == i))
    where
      value : (b : Bool) → ring.IsValue (cond b ring.one ring.zero)
      value true = laws.one_value
      value false = laws.zero_value

  pub unit-one : (l k : ℕ) → k < l → entry ring (unit_row ring l (k + 1)) k ≡ ring.one
  unit-one l k h = listed-entry ring l (λ j. cond (j == k + 1) ring.one ring.zero) k h ∙ ap (λ b. cond b ring.one ring.zero) (eq-eqb (k + 1) (k + 1) refl)

  pub unit-zero : (l k j : ℕ) → j < l → k ≢ j → entry ring (unit_row ring l (k + 1)) j ≡ ring.zero
  unit-zero l k j h apart =
      listed-entry ring l (λ i. cond (i == k + 1) ring.one ring.zero) j h
      ∙ ap (λ b. cond b ring.one ring.zero) (ne_eqb (j + 1) (k + 1) (λ e. apart (omega (arith, e))))

  -- the value of a row at a unit row
  pub unit-dot : (width : ℕ) (a : List R) (k : ℕ) → IsRow ring width a → k < width
      → dot_of ring a (unit_row ring width (k + 1)) ≡ entry ring a k
  unit-dot width a k ra l =
      let va = entry-value laws width a k l ra in
      dot-single laws width a (unit_row ring width (k + 1)) k ra (unit-row width (k + 1)) l (λ j m ne.
      ap (ring.mul (entry ring a j)) (unit-zero width k j m (λ e. ne (sym e))) ∙ mul_zero laws _ (entry-value laws width a j m ra))
      ∙ ap (ring.mul (entry ring a k)) (unit-one width k l) ∙ laws.mul_one _ va

  pub identity-are : (l : ℕ) → All (IsRow ring l) (identity_rows ring l)
  identity-are l = λ k d h. subst (IsRow ring l) (sym (identity-at ring l k d (subst (λ m. k < m) (identity-length ring l) h))) (unit-row l (k + 1))
