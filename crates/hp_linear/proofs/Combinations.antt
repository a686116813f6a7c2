-- Spans: what combinations of rows are closed under, and their values at a point.
use Rattle.std.proofs.Common.{◌≡◌, ◌⊎◌, ℕ, ◌<◌, List, [], ◌∷◌, map, length, All, Contains, refl, sym, ap, subst, ◌∙◌, arith, inl, inr}
use Rattle.std.proofs.lemmas.List.Elements.{All-head, All-tail}
use Rattle.hp_algebra.specs.Ring.{RingOf, IsRing, dot_of}
use Rattle.hp_algebra.proofs.Rings.{mul_zero}
use Rattle.hp_algebra.proofs.Dots.{dot-plus, dot-scale, dot-zeros}
use Rattle.hp_algebra.specs.Rows.{IsRow, entry, zero_row, row_plus, row_scale, row_times}
use Rattle.hp_linear.specs.Spaces.{IsCombination, HaveSameSpan}
use Rattle.hp_lists.proofs.Members.{Contains-here, Contains-later, Contains-cases, Contains-none}
use Rattle.hp_algebra.proofs.Rows.{row-cons, zeros-row, scale-row, plus-row, entry-plus, entry-scale, entry-zeros, plus-zeros, zeros-plus, plus-swap, scale-one, scale-zero, scale-zeros, scale-plus, plus-scale, scale-scale}

module _ {R : Type 0} {ring : RingOf R} (laws : IsRing ring) where
  -- a combination of rows is a row
  pub times-row : (width : ℕ) (cs : List R) (rows : List (List R)) → All ring.IsValue cs → All (IsRow ring width) rows
      → IsRow ring width (row_times ring width cs rows)
  times-row width [] rows v r = zeros-row laws width
  times-row width (c ∷ cs) [] v r = zeros-row laws width
  times-row width (c ∷ cs) (b ∷ rows) v r =
      plus-row laws width _ _ (scale-row laws width c b (All-head ring.IsValue c cs v) (All-head (IsRow ring width) b rows r))
      (times-row width cs rows (All-tail ring.IsValue c cs v) (All-tail (IsRow ring width) b rows r))

  pub combination-row : (width : ℕ) (rows : List (List R)) (v : List R) → All (IsRow ring width) rows
      → IsCombination ring width rows v → IsRow ring width v
  combination-row width rows v r c = subst (IsRow ring width) (sym c.2) (times-row width c.0 rows c.1.1 r)

  -- all coefficients zero
  pub times-zeros : (width : ℕ) (rows : List (List R)) → All (IsRow ring width) rows
      → row_times ring width (zero_row ring (length rows)) rows ≡ zero_row ring width
  times-zeros width [] r = refl
  times-zeros width (b ∷ rows) r =
      ap (row_plus ring (row_scale ring ring.zero b)) (times-zeros width rows (All-tail (IsRow ring width) b rows r))
      ∙ ap (λ s. row_plus ring s (zero_row ring width)) (scale-zero laws width b (All-head (IsRow ring width) b rows r))
      ∙ plus-zeros laws width _ (zeros-row laws width)

  -- sums and multiples of the coefficients
  pub times-plus : (width : ℕ) (cs ds : List R) (rows : List (List R)) → length cs ≡ length ds → All ring.IsValue cs
      → All ring.IsValue ds → All (IsRow ring width) rows
      → row_times ring width (row_plus ring cs ds) rows
      ≡ row_plus ring (row_times ring width cs rows) (row_times ring width ds rows)
  times-plus width [] [] rows e p q r = sym (plus-zeros laws width _ (zeros-row laws width))
  times-plus width [] (d ∷ ds) rows e p q r = absurd (omega (arith, e))
  times-plus width (c ∷ cs) [] rows e p q r = absurd (omega (arith, e))
  times-plus width (c ∷ cs) (d ∷ ds) [] e p q r = sym (plus-zeros laws width _ (zeros-row laws width))
  times-plus width (c ∷ cs) (d ∷ ds) (b ∷ rows) e p q r =
      let vc = All-head ring.IsValue c cs p in
      let vd = All-head ring.IsValue d ds q in
      let pt = All-tail ring.IsValue c cs p in
      let qt = All-tail ring.IsValue d ds q in
      let rb = All-head (IsRow ring width) b rows r in
      let rt = All-tail (IsRow ring width) b rows r in
      let f = plus-scale laws width c d b vc vd rb in
      let h = times-plus width cs ds rows (omega (arith, e)) pt qt rt in
      (λ i. row_plus ring (f i) (h i))
      ∙ plus-swap laws width _ _ _ _ (scale-row laws width c b vc rb) (scale-row laws width d b vd rb) (times-row width cs rows pt rt) (times-row width ds rows qt rt)

  pub times-scale : (width : ℕ) (c : R) (ds : List R) (rows : List (List R)) → ring.IsValue c → All ring.IsValue ds
      → All (IsRow ring width) rows
      → row_times ring width (row_scale ring c ds) rows ≡ row_scale ring c (row_times ring width ds rows)
  times-scale width c [] rows v p r = sym (scale-zeros laws width c v)
  times-scale width c (d ∷ ds) [] v p r = sym (scale-zeros laws width c v)
  times-scale width c (d ∷ ds) (b ∷ rows) v p r =
      let vd = All-head ring.IsValue d ds p in
      let pt = All-tail ring.IsValue d ds p in
      let rb = All-head (IsRow ring width) b rows r in
      let rt = All-tail (IsRow ring width) b rows r in
      let f = sym (scale-scale laws width c d b v vd rb) in
      let h = times-scale width c ds rows v pt rt in
      (λ i. row_plus ring (f i) (h i)) ∙ sym (scale-plus laws width c _ _ v (scale-row laws width d b vd rb) (times-row width ds rows pt rt))

  module _ (width : ℕ) (rows : List (List R)) (are : All (IsRow ring width) rows) where
    pub span-zero : IsCombination ring width rows (zero_row ring width)
    span-zero = (zero_row ring (length rows), zeros-row laws (length rows), sym (times-zeros width rows are))

    pub span-plus : (a b : List R) → IsCombination ring width rows a → IsCombination ring width rows b
        → IsCombination ring width rows (row_plus ring a b)
    span-plus a b p q = (
      row_plus ring p.0 q.0,
      plus-row laws (length rows) p.0 q.0 p.1 q.1,
      (λ i. row_plus ring (p.2 i) (q.2 i)) ∙ sym (times-plus width p.0 q.0 rows (p.1.0 ∙ sym q.1.0) p.1.1 q.1.1 are),
    )

    pub span-scale : (c : R) (a : List R) → ring.IsValue c → IsCombination ring width rows a
        → IsCombination ring width rows (row_scale ring c a)
    span-scale c a v p = (
      row_scale ring c p.0,
      scale-row laws (length rows) c p.0 v p.1,
      ap (row_scale ring c) p.2 ∙ sym (times-scale width c p.0 rows v p.1.1 are),
    )

  -- a combination of fewer rows is one of more
  pub span-more : (width : ℕ) (b : List R) (rows : List (List R)) (a : List R) → IsRow ring width b
      → All (IsRow ring width) rows → IsCombination ring width rows a → IsCombination ring width (b ∷ rows) a
  span-more width b rows a rb are p = (
    ring.zero ∷ p.0,
    row-cons laws (length rows) ring.zero p.0 laws.zero_value p.1,
    p.2 ∙ sym (ap (λ s. row_plus ring s (row_times ring width p.0 rows)) (scale-zero laws width b rb) ∙ zeros-plus laws width _ (times-row width p.0 rows p.1.1 are)),
  )

  -- each row is a combination of the rows
  pub span-member : (width : ℕ) (rows : List (List R)) (a : List R) → All (IsRow ring width) rows → Contains rows a
      → IsCombination ring width rows a
  span-member width [] a are c = absurd (Contains-none a c)
  span-member width (b ∷ rows) a are c = step (span-member width rows a tail) (Contains-cases b rows a c)
    where
      head : IsRow ring width b
      head = All-head (IsRow ring width) b rows are

      tail : All (IsRow ring width) rows
      tail = All-tail (IsRow ring width) b rows are

      first : IsCombination ring width (b ∷ rows) b
      first = (
        ring.one ∷ zero_row ring (length rows),
        row-cons laws (length rows) ring.one _ laws.one_value (zeros-row laws (length rows)),
        sym (ap (row_plus ring (row_scale ring ring.one b)) (times-zeros width rows tail) ∙ ap (λ s. row_plus ring s (zero_row ring width)) (scale-one laws width b head) ∙ plus-zeros laws width b head),
      )

      step : (Contains rows a → IsCombination ring width rows a) → (b ≡ a) ⊎ Contains rows a
          → IsCombination ring width (b ∷ rows) a
      step ih (inl e) = subst (IsCombination ring width (b ∷ rows)) e first
      step ih (inr d) = span-more width b rows a head tail (ih d)

  -- the span of combinations holds no more
  pub span-times : (width : ℕ) (rows others : List (List R)) (cs : List R) → All (IsRow ring width) rows
      → All ring.IsValue cs
      → ((b : List R) → Contains others b → IsCombination ring width rows b)
      → IsCombination ring width rows (row_times ring width cs others)
  span-times width rows others [] are v h = span-zero width rows are
  span-times width rows [] (c ∷ cs) are v h = span-zero width rows are
  span-times width rows (b ∷ others) (c ∷ cs) are v h =
      span-plus width rows are _ _ (span-scale width rows are c b (All-head ring.IsValue c cs v) (h b (Contains-here b others)))
      (span-times width rows others cs are (All-tail ring.IsValue c cs v) (λ a m. h a (Contains-later b others a m)))

  pub span-least : (width : ℕ) (rows others : List (List R)) (a : List R) → All (IsRow ring width) rows
      → ((b : List R) → Contains others b → IsCombination ring width rows b) → IsCombination ring width others a
      → IsCombination ring width rows a
  span-least width rows others a are h c = subst (IsCombination ring width rows) (sym c.2) (span-times width rows others c.0 are c.1.1 h)

  -- rows that are combinations of each other have one span
  pub same_span-from : (width : ℕ) (rows others : List (List R)) → All (IsRow ring width) rows
      → All (IsRow ring width) others
      → ((b : List R) → Contains others b → IsCombination ring width rows b)
      → ((a : List R) → Contains rows a → IsCombination ring width others a) → HaveSameSpan ring width rows others
  same_span-from width rows others p q f g v = (span-least width others rows v q g, span-least width rows others v p f)

  -- ---- values at a point

  -- a combination is zero where the rows are
  pub dot-combination : (width : ℕ) (rows : List (List R)) (cs x : List R) → All (IsRow ring width) rows
      → All ring.IsValue cs → IsRow ring width x
      → ((b : List R) → Contains rows b → dot_of ring b x ≡ ring.zero)
      → dot_of ring (row_times ring width cs rows) x ≡ ring.zero
  dot-combination width rows [] x are v r h = dot-zeros laws width x r.1
  dot-combination width [] (c ∷ cs) x are v r h = dot-zeros laws width x r.1
  dot-combination width (b ∷ rows) (c ∷ cs) x are v r h =
      let vc = All-head ring.IsValue c cs v in
      let vt = All-tail ring.IsValue c cs v in
      let rb = All-head (IsRow ring width) b rows are in
      let rt = All-tail (IsRow ring width) b rows are in
      let e = dot-scale laws c b x vc rb.1 r.1 ∙ ap (ring.mul c) (h b (Contains-here b rows)) ∙ mul_zero laws c vc in
      let f = dot-combination width rows cs x rt vt r (λ a m. h a (Contains-later b rows a m)) in
      dot-plus laws width _ _ x (scale-row laws width c b vc rb) (times-row width cs rows vt rt) r ∙ (λ i. ring.add (e i) (f i)) ∙ laws.add_zero _ laws.zero_value

  pub span-dot : (width : ℕ) (rows : List (List R)) (a x : List R) → All (IsRow ring width) rows → IsRow ring width x
      → ((b : List R) → Contains rows b → dot_of ring b x ≡ ring.zero) → IsCombination ring width rows a
      → dot_of ring a x ≡ ring.zero
  span-dot width rows a x are r h c = ap (λ s. dot_of ring s x) c.2 ∙ dot-combination width rows c.0 x are c.1.1 r h

  -- an entry of a combination
  pub entry-times : (width : ℕ) (cs : List R) (rows : List (List R)) (j : ℕ) → j < width → All ring.IsValue cs
      → All (IsRow ring width) rows
      → entry ring (row_times ring width cs rows) j ≡ dot_of ring cs (map (λ row. entry ring row j) rows)
  entry-times width [] rows j h v r = entry-zeros laws width j h
  entry-times width (c ∷ cs) [] j h v r = entry-zeros laws width j h
  entry-times width (c ∷ cs) (b ∷ rows) j h v r =
      let vc = All-head ring.IsValue c cs v in
      let vt = All-tail ring.IsValue c cs v in
      let rb = All-head (IsRow ring width) b rows r in
      let rt = All-tail (IsRow ring width) b rows r in
      let e = entry-scale laws width c b j h rb in
      let f = entry-times width cs rows j h vt rt in
      entry-plus laws width _ _ j h (scale-row laws width c b vc rb) (times-row width cs rows vt rt) ∙ (λ i. ring.add (e i) (f i))
