-- More rows than columns are dependent.
use Rattle.std.proofs.Common.{◌≡◌, ◌≢◌, ◌⊎◌, ◌↔◌, ℕ, zero, suc, ◌<◌, ◌≤◌, Bool, true, false, List, [], ◌∷◌, map, length, All, get_or, refl, sym, ap, subst, ◌∙◌, arith, inl, inr, IsTrue}
use Rattle.std.proofs.lemmas.List.{length-map}
use Rattle.std.proofs.lemmas.Bool.{false≢true, cases_eq}
use Rattle.std.proofs.lemmas.List.Elements.{All-nil, All-cons, All-head, All-tail, All-map}
use Rattle.hp_algebra.specs.Ring.{RingOf, IsRing, IsField}
use Rattle.hp_algebra.proofs.Rings.{mul_zero, zero_mul}
use Rattle.hp_algebra.specs.Rows.{IsRow, entry, zero_row, row_plus, row_scale, row_times}
use Rattle.hp_linear.specs.Spaces.{AreCoefficients}
use Rattle.hp_algebra.proofs.Rows.{row-tail, row-cons, zeros-row, scale-row, plus-row, entry-value, entry-plus, entry-scale, plus-zeros, plus-comm, plus-assoc, plus-swap, scale-one, plus-scale, scale-plus, scale-scale, scale-zero, zero_row-ext}
use Rattle.hp_lists.proofs.Insertions.{Pick, here, later, pick-length, pick-All}
use Rattle.hp_linear.proofs.Combinations.{times-row, times-zeros}

tail_of : {X : Type 0} → List X → List X
tail_of [] = []
tail_of (x ∷ xs) = xs

head_of : {X : Type 0} → X → List X → X
head_of d [] = d
head_of d (x ∷ xs) = x

-- a combination with some coefficient other than zero that is zero
pub record IsDependence {R : Type 0} (ring : RingOf R) (width : ℕ) (rows : List (List R)) (cs : List R) : Type 0 where
  pub coefficients : AreCoefficients ring (length rows) cs
  pub zero : row_times ring width cs rows ≡ zero_row ring width
  pub some : cs ≢ zero_row ring (length rows)

module _ {R : Type 0} {ring : RingOf R} {inverse : R → R} (field : IsField ring inverse) where
  abbrev laws : IsRing ring
  laws = field.is_ring

  -- a combination of the others and the one, by coefficients of all
  abbrev IsSpread : ℕ → List (List R) → List R → List (List R) → List R → R → List R → Type 0
  IsSpread width rows r others cs t ds =
      AreCoefficients ring (length rows) ds
      × (row_times ring width ds rows ≡ row_plus ring (row_times ring width cs others) (row_scale ring t r))
      × (ds ≡ zero_row ring (length rows) → cs ≡ zero_row ring (length others))

  spread : (width : ℕ) (rows : List (List R)) (r : List R) (others : List (List R)) → Pick rows r others
      → All (IsRow ring width) rows
      → (cs : List R) (t : R) → AreCoefficients ring (length others) cs → ring.IsValue t
      → (ds : List R) × IsSpread width rows r others cs t ds
  unfolding tail_of head_of
  spread width _ _ _ (here r others) are cs t a v =
      let L = field.is_ring in
      let rr = All-head (IsRow ring width) r others are in
      let ro = All-tail (IsRow ring width) r others are in (
        t ∷ cs,
        (
          row-cons L (length others) t cs v a,
          plus-comm L width _ _ (scale-row L width t r v rr) (times-row L width cs others a.1 ro),
          λ e. ap tail_of e,
        ),
      )
  spread width _ _ _ (later y r rows others p) are [] t a v = absurd (omega (arith, a.0))
  spread width _ _ _ (later y r rows others p) are (c ∷ cs) t a v =
      let L = field.is_ring in
      let ry = All-head (IsRow ring width) y rows are in
      let rt = All-tail (IsRow ring width) y rows are in
      let parts = pick-All (IsRow ring width) rows r others p rt in
      let a' = row-tail L (length others) c cs a in
      let vc = All-head ring.IsValue c cs a.1 in
      let w = spread width rows r others p rt cs t a' v in (
        c ∷ w.0,
        (
          row-cons L (length rows) c w.0 vc w.1.0,
          ap (row_plus ring (row_scale ring c y)) w.1.1
              ∙ sym (plus-assoc L width _ _ _ (scale-row L width c y vc ry) (times-row L width cs others a'.1 parts.1) (scale-row L width t r v parts.0)),
          λ e. (let h : c ≡ ring.zero = ap (head_of ring.zero) e in let q = w.1.2 (ap tail_of e) in λ i. h i ∷ q i),
        ),
      )

  -- a row plus the multiple of r that makes its entry at n zero
  cleared_at : ℕ → List R → List R → List R
  cleared_at n r x = row_plus ring x (row_scale ring (ring.neg (ring.mul (entry ring x n) (inverse (entry ring r n)))) r)

  factor-value : (width n : ℕ) (r x : List R) → n < width → IsRow ring width r → IsRow ring width x
      → entry ring r n ≢ ring.zero
      → ring.IsValue (ring.neg (ring.mul (entry ring x n) (inverse (entry ring r n))))
  factor-value width n r x h rr rx nz =
      let L = field.is_ring in
      L.neg_value _ (L.mul_value _ _ (entry-value L width x n h rx) (field.inverse_value _ (entry-value L width r n h rr) nz))

  cleared-row : (width n : ℕ) (r x : List R) → n < width → IsRow ring width r → IsRow ring width x
      → entry ring r n ≢ ring.zero → IsRow ring width (cleared_at n r x)
  unfolding cleared_at
  cleared-row width n r x h rr rx nz =
      let L = field.is_ring in
      plus-row L width x _ rx (scale-row L width _ r (factor-value width n r x h rr rx nz) rr)

  cleared-zero : (width n : ℕ) (r x : List R) → n < width → IsRow ring width r → IsRow ring width x
      → entry ring r n ≢ ring.zero → entry ring (cleared_at n r x) n ≡ ring.zero
  unfolding cleared_at
  cleared-zero width n r x h rr rx nz =
      let L = field.is_ring in
      let u = entry ring x n in
      let w = entry ring r n in
      let vu = entry-value L width x n h rx in
      let vw = entry-value L width r n h rr in
      let vi = field.inverse_value w vw nz in
      let vm = L.mul_value u (inverse w) vu vi in
      let vf = factor-value width n r x h rr rx nz in
      let back : ring.mul (ring.mul u (inverse w)) w ≡ u =
      L.mul_assoc u (inverse w) w vu vi vw ∙ ap (ring.mul u) (field.commutes _ _ vi vw ∙ field.mul_inverse w vw nz) ∙ L.mul_one u vu in
      entry-plus L width x _ n h rx (scale-row L width _ r vf rr)
      ∙ ap (ring.add u) (entry-scale L width _ r n h rr)
      ∙ ap (λ s. ring.add s (ring.mul (ring.neg (ring.mul u (inverse w))) w)) (sym back)
      ∙ sym (L.add_mul _ _ w vm vf vw) ∙ ap (λ s. ring.mul s w) (L.add_neg _ vm) ∙ zero_times w vw
    where
      zero_times : (w : R) → ring.IsValue w → ring.mul ring.zero w ≡ ring.zero
      zero_times w v = zero_mul field.is_ring w v

  -- a combination of the cleared rows is one of the rows and r
  cleared-times : (width n : ℕ) (r : List R) → n < width → IsRow ring width r → entry ring r n ≢ ring.zero
      → (cs : List R) (rows : List (List R)) → All ring.IsValue cs → All (IsRow ring width) rows
      → (t : R) × ring.IsValue t
      × (row_times ring width cs (map (cleared_at n r) rows) ≡ row_plus ring (row_times ring width cs rows) (row_scale ring t r))
  unfolding cleared_at
  cleared-times width n r h rr nz [] rows v are =
      let L = field.is_ring in
      (ring.zero, L.zero_value, sym (ap (row_plus ring (zero_row ring width)) (scale-zero L width r rr) ∙ plus-zeros L width _ (zeros-row L width)))
  cleared-times width n r h rr nz (c ∷ cs) [] v are =
      let L = field.is_ring in
      (ring.zero, L.zero_value, sym (ap (row_plus ring (zero_row ring width)) (scale-zero L width r rr) ∙ plus-zeros L width _ (zeros-row L width)))
  cleared-times width n r h rr nz (c ∷ cs) (x ∷ rows) v are =
      let L = field.is_ring in
      let vc = All-head ring.IsValue c cs v in
      let vt = All-tail ring.IsValue c cs v in
      let rx = All-head (IsRow ring width) x rows are in
      let rt = All-tail (IsRow ring width) x rows are in
      let w = cleared-times width n r h rr nz cs rows vt rt in
      let f = ring.neg (ring.mul (entry ring x n) (inverse (entry ring r n))) in
      let vf = factor-value width n r x h rr rx nz in
      let vcf = L.mul_value c f vc vf in
      let first : row_scale ring c (cleared_at n r x) ≡ row_plus ring (row_scale ring c x) (row_scale ring (ring.mul c f) r) =
      scale-plus L width c x _ vc rx (scale-row L width f r vf rr) ∙ ap (row_plus ring (row_scale ring c x)) (scale-scale L width c f r vc vf rr) in (
        ring.add (ring.mul c f) w.0,
        L.add_value _ _ vcf w.1,
        (λ i. row_plus ring (first i) (w.2 i))
            ∙ plus-swap L width _ _ _ _ (scale-row L width c x vc rx) (scale-row L width _ r vcf rr) (times-row L width cs rows vt rt) (scale-row L width w.0 r w.1 rr)
            ∙ ap (row_plus ring (row_plus ring (row_scale ring c x) (row_times ring width cs rows))) (sym (plus-scale L width _ _ r vcf w.1 rr)),
      )

  -- either a row is not zero at n, or all are zero there
  find_row : (width n : ℕ) → n < width → (rows : List (List R)) → All (IsRow ring width) rows
      → ((r : List R) × (others : List (List R)) × Pick rows r others × (entry ring r n ≢ ring.zero))
      ⊎ All (λ x. entry ring x n ≡ ring.zero) rows
  find_row width n h [] are = inr (All-nil (λ x. entry ring x n ≡ ring.zero))
  find_row width n h (x ∷ rows) are = step (ring.is_zero (entry ring x n)) refl (find_row width n h rows (All-tail (IsRow ring width) x rows are))
    where
      test : IsTrue (ring.is_zero (entry ring x n)) ↔ (entry ring x n ≡ ring.zero)
      test = field.is_ring.zero_test _ (entry-value field.is_ring width x n h (All-head (IsRow ring width) x rows are))

      step : (b : Bool) → ring.is_zero (entry ring x n) ≡ b
          → ((r : List R) × (others : List (List R)) × Pick rows r others × (entry ring r n ≢ ring.zero))
          ⊎ All (λ x. entry ring x n ≡ ring.zero) rows
          → ((r : List R) × (others : List (List R)) × Pick (x ∷ rows) r others × (entry ring r n ≢ ring.zero))
          ⊎ All (λ x. entry ring x n ≡ ring.zero) (x ∷ rows)
      step false e rest = inl (x, rows, here x rows, λ z. false≢true (sym e ∙ test.1 z))
      step true e (inl w) = inl (w.0, x ∷ w.1, later x w.0 rows w.1 w.2, w.3)
      step true e (inr all) = inr (All-cons (λ x. entry ring x n ≡ ring.zero) x rows (test.0 e) all)

  -- the rows are zero from column n on
  abbrev AreZeroFrom : ℕ → ℕ → List (List R) → Type 0
  AreZeroFrom width n rows = All (λ x. (j : ℕ) → n ≤ j → j < width → entry ring x j ≡ ring.zero) rows

  dependence-from : (n width : ℕ) (rows : List (List R)) → n ≤ width → All (IsRow ring width) rows
      → AreZeroFrom width n rows → n < length rows → (cs : List R) × IsDependence ring width rows cs
  unfolding head_of cleared_at
  dependence-from zero width [] low are zeros more = absurd (omega arith)
  dependence-from zero width (r ∷ rows) low are zeros more =
      let L = field.is_ring in
      let rr = All-head (IsRow ring width) r rows are in
      let rt = All-tail (IsRow ring width) r rows are in
      let nothing : r ≡ zero_row ring width = zero_row-ext L width r rr.0 (λ j h. All-head (λ x. (j : ℕ) → 0 ≤ j → j < width → entry ring x j ≡ ring.zero) r rows zeros j (omega arith) h) in (
        ring.one ∷ zero_row ring (length rows),
        record {
          coefficients = row-cons L (length rows) ring.one _ L.one_value (zeros-row L (length rows));
          zero =
              ap (row_plus ring (row_scale ring ring.one r)) (times-zeros L width rows rt)
              ∙ ap (λ s. row_plus ring s (zero_row ring width)) (scale-one L width r rr ∙ nothing)
              ∙ plus-zeros L width _ (zeros-row L width);
          some = λ e. field.one_zero (ap (head_of ring.zero) e);
        },
      )
  dependence-from (suc n) width rows low are zeros more = step (find_row width n low' rows are) (dependence-from n width)
    where
      low' : n < width
      low' = omega arith

      step : ((r : List R) × (others : List (List R)) × Pick rows r others × (entry ring r n ≢ ring.zero))
          ⊎ All (λ x. entry ring x n ≡ ring.zero) rows
          → ((rs : List (List R)) → n ≤ width → All (IsRow ring width) rs → AreZeroFrom width n rs → n < length rs → (cs : List R) × IsDependence ring width rs cs)
          → (cs : List R) × IsDependence ring width rows cs
      step (inr all) ih = ih rows (omega arith) are (λ k d h j lo hi. elim (cases_eq n j) [ inl e ↦ subst (λ m. entry ring (get_or rows k d) m ≡ ring.zero) e (all k d h) | inr ne ↦ zeros k d h j (omega arith) hi ]) (omega arith)
      step (inl w) ih =
          let L = field.is_ring in
          let r = w.0 in
          let others = w.1 in
          let parts = pick-All (IsRow ring width) rows r others w.2 are in
          let zero_parts = pick-All (λ x. (j : ℕ) → suc n ≤ j → j < width → entry ring x j ≡ ring.zero) rows r others w.2 zeros in
          let fewer = map (cleared_at n r) others in
          let count : length rows ≡ suc (length others) = pick-length rows r others w.2 in
          let same : length fewer ≡ length others = length-map others (cleared_at n r) in
          let fewer_rows : All (IsRow ring width) fewer = All-map (IsRow ring width) (cleared_at n r) others (λ k d h. cleared-row width n r _ low' parts.0 (parts.1 k d h) w.3) in
          let fewer_zeros : AreZeroFrom width n fewer = All-map (λ x. (j : ℕ) → n ≤ j → j < width → entry ring x j ≡ ring.zero) (cleared_at n r) others (λ k d h j lo hi.
          later_zero (get_or others k d) r (parts.1 k d h) parts.0 w.3 (zero_parts.1 k d h) zero_parts.0 j lo hi (cases_eq n j)) in
          let found = ih fewer (omega arith) fewer_rows fewer_zeros (omega (arith, count, same)) in
          let coefs : AreCoefficients ring (length others) found.0 = (found.1.coefficients.0 ∙ same, found.1.coefficients.1) in
          let back = cleared-times width n r low' parts.0 w.3 found.0 others coefs.1 parts.1 in
          let all = spread width rows r others w.2 are found.0 back.0 coefs back.1 in (
            all.0,
            record {
              coefficients = all.1.0;
              zero = all.1.1 ∙ sym back.2 ∙ found.1.zero;
              some = λ e. found.1.some (all.1.2 e ∙ ap (zero_row ring) (sym same));
            },
          )
        where
          later_zero : (x r : List R) → IsRow ring width x → IsRow ring width r → entry ring r n ≢ ring.zero
              → ((j : ℕ) → suc n ≤ j → j < width → entry ring x j ≡ ring.zero)
              → ((j : ℕ) → suc n ≤ j → j < width → entry ring r j ≡ ring.zero)
              → (j : ℕ) → n ≤ j → j < width → (n ≡ j) ⊎ (n ≢ j) → entry ring (cleared_at n r x) j ≡ ring.zero
          later_zero x r rx rr nz zx zr j lo hi (inl e) = subst (λ m. entry ring (cleared_at n r x) m ≡ ring.zero) e (cleared-zero width n r x low' rr rx nz)
          later_zero x r rx rr nz zx zr j lo hi (inr ne) =
              let L = field.is_ring in
              let vf = factor-value width n r x low' rr rx nz in
              entry-plus L width x _ j hi rx (scale-row L width _ r vf rr)
              ∙ ap (λ s. ring.add s (entry ring (row_scale ring (ring.neg (ring.mul (entry ring x n) (inverse (entry ring r n)))) r) j)) (zx j (omega arith) hi)
              ∙ ap (ring.add ring.zero) (entry-scale L width _ r j hi rr ∙ ap (ring.mul _) (zr j (omega arith) hi) ∙ mul_zero L _ vf)
              ∙ L.add_zero _ L.zero_value

  -- More rows than columns are dependent.
  pub dependence : (width : ℕ) (rows : List (List R)) → All (IsRow ring width) rows → width < length rows
      → (cs : List R) × IsDependence ring width rows cs
  dependence width rows are more = dependence-from width width rows (omega arith) are (λ k d h j lo hi. absurd (omega arith)) more
