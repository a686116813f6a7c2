-- Rows over a commutative domain that span the multiples of the unit rows by some q other than zero: they are at
-- least as many as the width, and those that are so many are independent.
use Rattle.std.specs.Prelude.{◌≡◌, ◌≢◌, ℕ, zero, suc, ◌+◌, ◌<◌, ◌≤◌, List, [], ◌∷◌, map, length, All, slice_index_or}
use Rattle.std.proofs.lemmas.Bool.{cases_lt}
use Rattle.std.proofs.lemmas.List.{length-map}
use Rattle.std.proofs.lemmas.List.Elements.{All-nil, All-cons, All-head, All-tail, All-map}
use mathlib.Core.Logic.{inl, inr}
use mathlib.Core.Path.{refl, sym, ap, ◌∙◌, subst}
use native.Mathlib.Omega.{arith}
use Rattle.hp_algebra.specs.Ring.{RingOf, IsRing, IsCommutative, IsDomain}
use Rattle.hp_algebra.specs.Rows.{IsRow, row_plus, row_scale, row_times, unit_row, zero_row}
use Rattle.hp_algebra.proofs.Rows.{plus-zeros, scale-plus, scale-row, scale-scale, scale-zeros, zeros-plus}
use Rattle.hp_algebra.proofs.UnitRows.{identity-are, identity-at, identity-length, identity_rows}
use Rattle.hp_linear.specs.Spaces.{AreIndependent, IsCombination}
use Rattle.hp_linear.proofs.Combinations.{times-plus, times-row, times-scale, times-zeros}
use Rattle.hp_linear.proofs.InverseMatrices.{times-identity}
use Rattle.hp_saito.proofs.DomainDependence.{dependent, only-zero}

-- Coefficients of rows that are combinations of others: combinations of the former are combinations of the latter.
pub record AreCoefficientRows {R : Type 0} (ring : RingOf R) (width : ℕ)
    (rows made coefficients : List (List R)) : Type 0 where
  pub are : All (IsRow ring (length rows)) coefficients
  pub many : length coefficients ≡ length made
  pub each : (k : ℕ) (d : List R) → k < length made
      → slice_index_or made k d ≡ row_times ring width (slice_index_or coefficients k d) rows
  pub same : (cs : List R) → All ring.IsValue cs
      → row_times ring width cs made ≡ row_times ring width (row_times ring (length rows) cs coefficients) rows

module _ {R : Type 0} {ring : RingOf R} (laws : IsRing ring) where
  pub coefficient-rows : (width : ℕ) (rows made : List (List R)) → All (IsRow ring width) rows
      → All (IsCombination ring width rows) made
      → (coefficients : List (List R)) × AreCoefficientRows ring width rows made coefficients
  coefficient-rows width rows [] are h =
      let none = sym (times-zeros laws width rows are) in (
        [],
        record {
          are = All-nil (IsRow ring (length rows));
          many = refl;
          each = λ k d l. absurd (omega arith);
          same = λ cs v. from_none none cs;
        },
      )
    where
      from_none : zero_row ring width ≡ row_times ring width (zero_row ring (length rows)) rows → (cs : List R)
          → row_times ring width cs [] ≡ row_times ring width (row_times ring (length rows) cs []) rows
      from_none e [] = e
      from_none e (c ∷ cs) = e
  coefficient-rows width rows (b ∷ made) are h =
      let first = All-head (IsCombination ring width rows) b made h in
      let rest = coefficient-rows width rows made are (All-tail (IsCombination ring width rows) b made h) in (
        first.0 ∷ rest.0,
        record {
          are = All-cons (IsRow ring (length rows)) first.0 rest.0 first.1 rest.1.are;
          many = ap (λ n. suc n) rest.1.many;
          each = λ k d l. at first.0 rest.0 first.2 rest.1.each k d l;
          same = λ cs v. both first rest.0 rest.1.are rest.1.same cs v;
        },
      )
    where
      at : (c : List R) (cs : List (List R)) → b ≡ row_times ring width c rows
          → ((k : ℕ) (d : List R) → k < length made
          → slice_index_or made k d ≡ row_times ring width (slice_index_or cs k d) rows)
          → (k : ℕ) (d : List R) → k < suc (length made)
          → slice_index_or (b ∷ made) k d ≡ row_times ring width (slice_index_or (c ∷ cs) k d) rows
      at c cs e f zero d l = e
      at c cs e f (suc k) d l = f k d (omega (arith, l))

      both : (first : IsCombination ring width rows b) (rest : List (List R)) → All (IsRow ring (length rows)) rest
          → ((cs : List R) → All ring.IsValue cs
          → row_times ring width cs made ≡ row_times ring width (row_times ring (length rows) cs rest) rows)
          → (cs : List R) → All ring.IsValue cs
          → row_times ring width cs (b ∷ made)
          ≡ row_times ring width (row_times ring (length rows) cs (first.0 ∷ rest)) rows
      both first rest ra same [] v = sym (times-zeros laws width rows are)
      both first rest ra same (c ∷ cs) v =
          let vc = All-head ring.IsValue c cs v in
          let vt = All-tail ring.IsValue c cs v in
          let rs = scale-row laws (length rows) c first.0 vc first.1 in
          let rt = times-row laws (length rows) cs rest vt ra in
          let p = ap (row_scale ring c) first.2 ∙ sym (times-scale laws width c first.0 rows vc first.1.1 are) in
          let q = same cs vt in
          (λ i. row_plus ring (p i) (q i)) ∙ sym (times-plus laws width _ _ rows (rs.0 ∙ sym rt.0) rs.1 rt.1 are)

  -- a combination of multiples
  times-scaled : IsCommutative ring → (width : ℕ) (q : R) (cs : List R) (rows : List (List R)) → ring.IsValue q
      → All ring.IsValue cs → All (IsRow ring width) rows
      → row_times ring width cs (map (row_scale ring q) rows) ≡ row_scale ring q (row_times ring width cs rows)
  times-scaled commutes width q [] rows v f are = sym (scale-zeros laws width q v)
  times-scaled commutes width q (c ∷ cs) [] v f are = sym (scale-zeros laws width q v)
  times-scaled commutes width q (c ∷ cs) (b ∷ rows) v f are =
      let vc = All-head ring.IsValue c cs f in
      let vs = All-tail ring.IsValue c cs f in
      let rb = All-head (IsRow ring width) b rows are in
      let rs = All-tail (IsRow ring width) b rows are in
      let turn = scale-scale laws width c q b vc v rb ∙ ap (λ x. row_scale ring x b) (commutes c q vc v)
      ∙ sym (scale-scale laws width q c b v vc rb) in
      (λ i. row_plus ring (turn i) (times-scaled commutes width q cs rows v vs rs i))
      ∙ sym (scale-plus laws width q _ _ v (scale-row laws width c b vc rb) (times-row laws width cs rows vs rs))

-- Rows of a width that span the multiples of the unit rows by q.
pub record SpansMultiples {R : Type 0} (ring : RingOf R) (w : ℕ) (q : R) (vs : List (List R)) : Type 0 where
  pub rows : All (IsRow ring w) vs
  pub factor : ring.IsValue q
  pub nonzero : q ≢ ring.zero
  pub units : (k : ℕ) → k < w → IsCombination ring w vs (row_scale ring q (unit_row ring w (k + 1)))

module _ {R : Type 0} {ring : RingOf R} (laws : IsRing ring) (commutes : IsCommutative ring)
    (domain : IsDomain ring) where
  -- independent rows are at most as many as the width
  pub independent-few : (w : ℕ) (vs : List (List R)) → All (IsRow ring w) vs → AreIndependent ring w vs
      → length vs ≤ w
  independent-few w vs are ind = elim (cases_lt w (length vs)) [
    | inl l ↦ let d = dependent laws commutes domain w vs are l in absurd
        (d.1.some (ind d.0 d.1.coefficients d.1.zero))
    | inr l ↦ l
  ]

  module _ (w : ℕ) (q : R) (vs : List (List R)) (spans : SpansMultiples ring w q vs) where
    multiples : List (List R)
    multiples = map (row_scale ring q) (identity_rows ring w)

    given : (cofactors : List (List R)) × AreCoefficientRows ring w vs multiples cofactors
    unfolding multiples
    given = coefficient-rows laws w vs multiples spans.rows
        (All-map (IsCombination ring w vs) (row_scale ring q) (identity_rows ring w)
        (λ k d l. let m = subst (λ n. k < n) (identity-length ring w) l in
        subst (λ r. IsCombination ring w vs (row_scale ring q r)) (sym (identity-at ring w k d m)) (spans.units k m)))

    abbrev A : List (List R)
    A = given.0

    many : length A ≡ w
    unfolding multiples
    many = given.1.many ∙ length-map (identity_rows ring w) (row_scale ring q) ∙ identity-length ring w

    -- a combination of the coefficients gives q times itself
    times : (cs : List R) → IsRow ring w cs
        → row_times ring w (row_times ring (length vs) cs A) vs ≡ row_scale ring q cs
    unfolding multiples
    times cs r =
        sym (given.1.same cs r.1) ∙ times-scaled laws commutes w q cs (identity_rows ring w) spans.factor r.1
        (identity-are laws w)
        ∙ ap (row_scale ring q) (times-identity laws w cs r)

    times-none : (cs : List R) → IsRow ring w cs
        → row_times ring w (row_times ring (length vs) cs A) vs ≡ zero_row ring w
        → cs ≡ zero_row ring w
    times-none cs r e = only-zero laws domain w q cs spans.factor spans.nonzero r (sym (times cs r) ∙ e)

    -- They are at least as many as the width.
    pub spanning-enough : w ≤ length vs
    spanning-enough = elim (cases_lt (length vs) w) [
      | inl l ↦
          let d = dependent laws commutes domain (length vs) A given.1.are
          (subst (λ n. length vs < n) (sym many) l) in
          let r : IsRow ring w d.0 = (d.1.coefficients.0 ∙ many, d.1.coefficients.1) in
          absurd (d.1.some (times-none d.0 r
          (ap (λ c. row_times ring w c vs) d.1.zero ∙ times-zeros laws w vs spans.rows)
          ∙ ap (zero_row ring) (sym many)))
      | inr l ↦ l
    ]

    -- So many as the width are independent.
    pub spanning-independent : length vs ≡ w → AreIndependent ring w vs
    spanning-independent e cs f z =
        let d = dependent laws commutes domain (length vs) (cs ∷ A)
        (All-cons (IsRow ring (length vs)) cs A f given.1.are) (omega (arith, e, many)) in
        by d.0 d.1.coefficients d.1.zero d.1.some
      where
        n : ℕ
        n = length vs

        by : (ds : List R) → IsRow ring (suc (length A)) ds
            → row_times ring (length vs) ds (cs ∷ A) ≡ zero_row ring (length vs)
            → ds ≢ zero_row ring (suc (length A)) → cs ≡ zero_row ring (length vs)
        by [] r p some = absurd (omega (arith, r.0))
        by (c ∷ ds) r p some =
            let vc = All-head ring.IsValue c ds r.1 in
            let rd : IsRow ring w ds = (omega (arith, r.0, many), All-tail ring.IsValue c ds r.1) in
            let rt = times-row laws (length vs) ds A rd.1 given.1.are in
            let rs = scale-row laws (length vs) c cs vc f in
            let later = times-none ds rd (
            sym (zeros-plus laws w _ (times-row laws w _ vs rt.1 spans.rows))
            ∙ ap (λ u. row_plus ring u (row_times ring w (row_times ring (length vs) ds A) vs))
            (sym (times-scale laws w c cs vs vc f.1 spans.rows ∙ ap (row_scale ring c) z ∙ scale-zeros laws w c vc))
            ∙ sym (times-plus laws w _ _ vs (rs.0 ∙ sym rt.0) rs.1 rt.1 spans.rows)
            ∙ ap (λ u. row_times ring w u vs) p ∙ times-zeros laws w vs spans.rows) in
            let first : row_scale ring c cs ≡ zero_row ring (length vs) =
            sym (plus-zeros laws (length vs) _ rs)
            ∙ ap (row_plus ring (row_scale ring c cs))
            (sym (ap (λ u. row_times ring (length vs) u A) (later ∙ ap (zero_row ring) (sym many))
            ∙ times-zeros laws (length vs) A given.1.are)) ∙ p in
            only-zero laws domain (length vs) c cs vc
            (λ i. some ((λ j. i j ∷ later j) ∙ ap (zero_row ring) (ap suc (sym many)))) f first
