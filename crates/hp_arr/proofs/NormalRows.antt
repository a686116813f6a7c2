-- Rows divided by their first entry that is not zero: they are equal exactly where the rows are multiples of one another.
use Rattle.std.specs.Prelude.{◌≡◌, ◌≢◌, ℕ, ◌<◌, true, false, List, [], ◌∷◌, length, All}
use Rattle.std.proofs.Common.{refl, sym, ap, ◌∙◌, subst, inl, inr, arith}
use Rattle.std.proofs.lemmas.Bool.{false≢true, cases_order, and_from}
use Rattle.std.proofs.lemmas.List.Elements.{All-head, All-tail}
use Rattle.std.proofs.lemmas.List.Folds.{list_all_at}
use Rattle.hp_algebra.specs.Ring.{RingOf, IsRing, IsField}
use Rattle.hp_algebra.specs.Rows.{IsRow, IsMultiple, entry, is_zero_row, row_scale}
use Rattle.hp_algebra.proofs.Rings.{mul_zero, zero_mul, zero_passes, nonzero_fails}
use Rattle.hp_algebra.proofs.Rows.{length-scale, scale-row, entry-scale, scale-one, scale-scale}
use Rattle.hp_arr.specs.Operations.{normalised}
use Rattle.hp_arr.proofs.NonzeroPlaces.{first_nonzero, first_entry}

module _ {K : Type 0} {ring : RingOf K} {inverse : K → K} (field : IsField ring inverse) where
  laws : IsRing ring
  laws = field.is_ring

  -- ---- multiples

  IsMultiple-trans : (a b d : List K) → All ring.IsValue d → IsMultiple ring a b → IsMultiple ring b d → IsMultiple ring a d
  unfolding laws
  IsMultiple-trans a b d v (x, vx, e) (y, vy, f) =
      (ring.mul x y, laws.mul_value x y vx vy, e ∙ ap (row_scale ring x) f ∙ scale-scale laws (length d) x y d vx vy (refl, v))

  -- zero times a row is zero
  zero_scale : (b : List K) → All ring.IsValue b → is_zero_row ring (row_scale ring ring.zero b) ≡ true
  unfolding laws
  zero_scale [] w = refl
  zero_scale (y ∷ b) w =
      and_from _ _ (zero_passes laws _ (zero_mul laws y (All-head ring.IsValue y b w))) (zero_scale b (All-tail ring.IsValue y b w))

  -- a row that is not zero is a multiple only of its multiples
  pub IsMultiple-back : (a b : List K) → All ring.IsValue b → is_zero_row ring a ≡ false → IsMultiple ring a b → IsMultiple ring b a
  unfolding laws
  IsMultiple-back a b w nonzero (c, v, e) =
      let factor : c ≢ ring.zero =
      λ z. false≢true (sym nonzero ∙ ap (is_zero_row ring) (e ∙ ap (λ s. row_scale ring s b) z) ∙ zero_scale b w) in
      let vi = field.inverse_value c v factor in
      let row : IsRow ring (length b) b = (refl, w) in
      let back : row_scale ring (inverse c) (row_scale ring c b) ≡ b =
      scale-scale laws (length b) (inverse c) c b vi v row
      ∙ ap (λ s. row_scale ring s b) (field.commutes (inverse c) c vi v ∙ field.mul_inverse c v factor)
      ∙ scale-one laws (length b) b row in
      (inverse c, vi, sym back ∙ ap (row_scale ring (inverse c)) (sym e))

  -- ---- rows whose first entry that is not zero is one

  pub record IsNormal (row : List K) : Type 0 where
    pub place : ℕ
    pub within : place < length row
    pub one : entry ring row place ≡ ring.one
    pub zeros : (j : ℕ) → j < place → entry ring row j ≡ ring.zero

  pub normal-nonzero : (row : List K) → IsNormal row → is_zero_row ring row ≡ false
  unfolding laws
  normal-nonzero row normal =
      list_all_at ring.is_zero row normal.place ring.zero normal.within
      (ap ring.is_zero normal.one ∙ nonzero_fails laws ring.one laws.one_value field.one_zero)

  -- of two such rows neither is a multiple of the other, unless they are equal
  pub normal-same : (a b : List K) → All ring.IsValue b → IsNormal a → IsNormal b → IsMultiple ring a b → a ≡ b
  unfolding laws
  normal-same a b vb na nb (c, vc, e) =
      elim (cases_order na.place nb.place) [
        | inl same ↦ (
            let one : ring.one ≡ c =
            sym na.one ∙ at na.place in_b ∙ ap (λ k. ring.mul c (entry ring b k)) same ∙ ap (ring.mul c) nb.one ∙ laws.mul_one c vc in
            e ∙ ap (λ s. row_scale ring s b) (sym one) ∙ scale-one laws (length b) b (refl, vb))
        | inr apart ↦ elim apart [
          | inl before ↦ absurd (field.one_zero
              (sym na.one ∙ at na.place in_b ∙ ap (ring.mul c) (nb.zeros na.place before) ∙ mul_zero laws c vc))
          | inr behind ↦ (
              let none : c ≡ ring.zero =
              sym (laws.mul_one c vc) ∙ ap (ring.mul c) (sym nb.one) ∙ sym (at nb.place nb.within) ∙ na.zeros nb.place behind in
              let there : ring.IsValue (entry ring b na.place) = vb na.place ring.zero in_b in
              absurd (field.one_zero
              (sym na.one ∙ at na.place in_b ∙ ap (λ s. ring.mul s (entry ring b na.place)) none ∙ zero_mul laws _ there)))
        ]
      ]
    where
      at : (k : ℕ) → k < length b → entry ring a k ≡ ring.mul c (entry ring b k)
      at k h = ap (λ row. entry ring row k) e ∙ entry-scale field.is_ring (length b) c b k h (refl, vb)

      in_b : na.place < length b
      in_b = let within = na.within in let long = ap length e ∙ length-scale ring c b in omega (arith, within, long)

  -- ---- a row and what it is normalised to

  module _ (row : List K) (values : All ring.IsValue row) (nonzero : is_zero_row ring row ≡ false) where
    pub normalised-normal : IsNormal (normalised ring inverse row)
    unfolding laws
    normalised-normal =
        let at = first_nonzero laws row values nonzero in
        let x = entry ring row at.0 in
        let vx = values at.0 ring.zero at.1.within in
        let vi = field.inverse_value x vx at.1.nonzero in
        let is_row : IsRow ring (length row) row = (refl, values) in
        let same : row_scale ring (inverse x) row ≡ normalised ring inverse row =
        ap (λ y. row_scale ring (inverse y) row) (sym (first_entry laws row values at.0 at.1)) in
        let in_row = at.1.within in
        subst IsNormal same (record {
          place = at.0;
          within = omega (arith, in_row, length-scale ring (inverse x) row);
          one = entry-scale laws (length row) (inverse x) row at.0 in_row is_row ∙ field.commutes (inverse x) x vi vx ∙ field.mul_inverse x vx at.1.nonzero;
          zeros = λ j h. (let in_j : j < length row = omega (arith, h, in_row) in
              entry-scale laws (length row) (inverse x) row j in_j is_row ∙ ap (ring.mul (inverse x)) (at.1.zeros j h) ∙ mul_zero laws (inverse x) vi);
        })

    normalised-multiple : IsMultiple ring (normalised ring inverse row) row
    unfolding laws
    normalised-multiple =
        let at = first_nonzero laws row values nonzero in
        let x = entry ring row at.0 in
        let vi = field.inverse_value x (values at.0 ring.zero at.1.within) at.1.nonzero in
        (inverse x, vi, ap (λ y. row_scale ring (inverse y) row) (first_entry laws row values at.0 at.1))

    pub normalised-row : (width : ℕ) → length row ≡ width → IsRow ring width (normalised ring inverse row)
    unfolding laws
    normalised-row width e =
        let m = normalised-multiple in
        subst (IsRow ring width) (sym m.2) (scale-row laws width m.0 row m.1 (e, values))

    multiple-normalised : IsMultiple ring row (normalised ring inverse row)
    multiple-normalised =
        let normal = normal-nonzero (normalised ring inverse row) normalised-normal in
        IsMultiple-back (normalised ring inverse row) row values normal normalised-multiple

  -- rows are multiples of one another exactly where they are normalised to the same row
  module _ (a b : List K) (va : All ring.IsValue a) (vb : All ring.IsValue b)
      (na : is_zero_row ring a ≡ false) (nb : is_zero_row ring b ≡ false) where
    pub normalised-same : IsMultiple ring a b → normalised ring inverse a ≡ normalised ring inverse b
    normalised-same m =
        let vn = (normalised-row b vb nb (length b) refl).1 in
        normal-same (normalised ring inverse a) (normalised ring inverse b) vn (normalised-normal a va na) (normalised-normal b vb nb)
        (IsMultiple-trans (normalised ring inverse a) a (normalised ring inverse b) vn (normalised-multiple a va na)
        (IsMultiple-trans a b (normalised ring inverse b) vn m (multiple-normalised b vb nb)))

    pub multiple-from_normalised : normalised ring inverse a ≡ normalised ring inverse b → IsMultiple ring a b
    multiple-from_normalised e =
        IsMultiple-trans a (normalised ring inverse a) b vb (multiple-normalised a va na)
        (subst (λ row. IsMultiple ring row b) (sym e) (normalised-multiple b vb nb))
