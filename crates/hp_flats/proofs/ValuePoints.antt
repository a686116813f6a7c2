-- Points that decide which forms contain a flat: which hyperplanes come in with one more, and such points of each cover.
use Rattle.std.proofs.Common.{◌≡◌, ◌≢◌, ◌⊎◌, ◌↔◌, ℕ, ◌+◌, ◌-◌, ◌<◌, ◌≤◌, List, [], ◌∷◌, All, map, length, slice_index_or, remove, Contains, refl, sym, ap, subst, ◌∙◌, arith, inl, inr}
use Rattle.std.proofs.lemmas.Bool.{and_from}
use Rattle.std.proofs.lemmas.List.{length-map, get_or-map}
use Rattle.std.proofs.lemmas.List.Elements.{Contains-get_or}
use Rattle.std.proofs.lemmas.List.FromFn.{get_or-map-range_with_len, length-map-range_with_len}
use Rattle.hp_algebra.specs.Ring.{RingOf, Numbering, IsRing, dot_of}
use Rattle.hp_algebra.proofs.Dots.{dot_of_value, dot-zeros}
use Rattle.hp_algebra.proofs.UnitRows.{unit-row, unit-dot}
use Rattle.hp_algebra.proofs.Rows.{zero_row-ext}
use Rattle.hp_lists.proofs.Members.{first_true, second_true, all-at, all-from, Contains-map, map-Contains}
use Rattle.hp_algebra.proofs.Rings.{mul_zero}
use Rattle.hp_lists.specs.Lists.{one_to}
use Rattle.hp_lists.proofs.Ranges.{range_members, members_range}
use Rattle.hp_lists.proofs.Removals.{remove-cases, remove-Contains, remove-map, map-same}
use Rattle.hp_sets.specs.Sets.{Set}
use Rattle.hp_arr.specs.Arrangement.{Arrangement, indices, form, lies_in}
use Rattle.hp_arr.specs.Flats.{cut, closure, IsFlat}
use Rattle.hp_arr.proofs.OverField.{IsOverField, field_of}
use Rattle.hp_arr.proofs.Cuts.{IsIndex, AreIndices, set-indices, indices-more, cut-members, members-cut, cut-flat, flat-members, members-flat, flat-of_flat, IsFlat-set}
use Rattle.hp_algebra.specs.Rows.{IsRow, zero_row, unit_row, row_plus, row_scale}
use Rattle.hp_flats.specs.Levels.{IsPointOf, values_of, HasValues, at_form, reduced, AreParallel}
use Rattle.hp_flats.proofs.CutKernels.{form-row, lies-zero, zero-lies}
use Rattle.hp_algebra.proofs.PlaneSums.{plane, plane-row, plane-dot, dot-plane, cross-zero, zero-cross, zero-left, plane-map}

module _ {K : Type 0} {ring : RingOf K} {inverse : K → K} {numbers : Numbering K} {arr : Arrangement K} (o : IsOverField ring inverse numbers arr) where
  L : IsRing ring
  L = o.field.is_ring

  -- the value of form j at a point
  abbrev pub at : ℕ → List K → K
  at j x = dot_of ring (form arr j) x

  abbrev R : List K → Type 0
  R x = IsRow ring arr.dim x

  abbrev pub Point : Set → List K → Type 0
  Point s x = IsPointOf ring arr s x

  pub row-of : (j : ℕ) → IsIndex arr j → R (form arr j)
  row-of j r = form-row o.field o.numbering arr o.forms j r.0 r.1

  pub at-value : (j : ℕ) (x : List K) → IsIndex arr j → R x → ring.IsValue (at j x)
  at-value j x r rx = dot_of_value L (form arr j) x (row-of j r).1 rx.1

  -- form j as it stands in the values of all forms
  pub at-values : (j : ℕ) (x : List K) → IsIndex arr j → at_form ring j (values_of ring arr x) ≡ at j x
  at-values j x r = get_or-map-range_with_len (λ j. at j x) 1 (length arr.forms) (j - 1) j ring.zero (inside j (length arr.forms) r) (back j r.0)
    where
      inside : (j n : ℕ) → (1 ≤ j) × (j ≤ n) → j - 1 < n
      inside j n r = omega (arith, r.0, r.1)

      back : (j : ℕ) → 1 ≤ j → 1 + (j - 1) ≡ j
      back j l = omega arith

  point-zero : (s : Set) (x : List K) (i : ℕ) → AreIndices arr s → Point s x → Contains s i → at i x ≡ ring.zero
  point-zero s x i h p c = lies-zero o.field o.numbering arr o.forms i x (h i c).0 (h i c).1 p.0 (all-at (λ i. lies_in ring arr i x) s i p.1 c)

  zero-point : (s : Set) (x : List K) → AreIndices arr s → R x → ((i : ℕ) → Contains s i → at i x ≡ ring.zero)
      → Point s x
  zero-point s x h rx z = (rx, all-from (λ i. lies_in ring arr i x) s (λ i c. zero-lies o.field o.numbering arr o.forms i x (h i c).0 (h i c).1 rx (z i c)))

  -- the points of a set are closed under sums of multiples
  plane-point : (s : Set) → AreIndices arr s → (c d : K) → ring.IsValue c → ring.IsValue d → (a b : List K)
      → Point s a → Point s b → Point s (plane (field_of o) c a d b)
  plane-point s h c d vc vd a b pa pb =
      zero-point s _ h (plane-row (field_of o) arr.dim c d vc vd a b pa.0 pb.0) (λ i m.
      let e = ap (ring.mul c) (point-zero s a i h pa m) ∙ mul_zero L c vc in
      let f = ap (ring.mul d) (point-zero s b i h pb m) ∙ mul_zero L d vd in
      dot-plane (field_of o) arr.dim c d vc vd a b pa.0 pb.0 (form arr i) (row-of i (h i m)) ∙ (λ k. ring.add (e k) (f k)) ∙ L.add_zero _ L.zero_value)

  module _ (f : Set) (is : IsFlat ring numbers arr f) where
    f_indices : AreIndices arr f
    f_indices = set-indices arr f (IsFlat-set o f is)

    -- the points of f with H_i
    pub more-point : (i : ℕ) → IsIndex arr i → (x : List K) → Point (i ∷ f) x ↔ (Point f x × (at i x ≡ ring.zero))
    more-point i r x = ((λ p. ((p.0, second_true _ _ p.1), lies-zero o.field o.numbering arr o.forms i x r.0 r.1 p.0 (first_true _ _ p.1))), λ p. (p.0.0, and_from _ _ (zero-lies o.field o.numbering arr o.forms i x r.0 r.1 p.0.0 p.1) p.0.1))

    -- and those of the cover
    pub cover-point : (i : ℕ) → IsIndex arr i → (x : List K)
        → Point (closure ring numbers arr (i ∷ f)) x ↔ (Point f x × (at i x ≡ ring.zero))
    cover-point i r x =
        let same : cut ring numbers arr (closure ring numbers arr (i ∷ f)) ≡ cut ring numbers arr (i ∷ f) = cut-flat o (i ∷ f) (indices-more arr i f r f_indices) in (
          (λ p. (more-point i r x).0 (cut-members o (i ∷ f) x (subst (λ xs. Contains xs x) same (members-cut o _ x p.0 p.1)))),
          λ p. let c = (more-point i r x).1 p in cut-members o _ x (subst (λ xs. Contains xs x) (sym same) (members-cut o (i ∷ f) x c.0 c.1)),
        )

    -- the cover has the hyperplanes whose forms vanish where that of i does
    cover-vanishes : (i j : ℕ) → IsIndex arr i → IsIndex arr j
        → Contains (closure ring numbers arr (i ∷ f)) j ↔ ((v : List K) → Point f v → at i v ≡ ring.zero → at j v ≡ ring.zero)
    cover-vanishes i j r rj = (
      (λ c v p z. let d = (more-point i r v).1 (p, z) in
          lies-zero o.field o.numbering arr o.forms j v rj.0 rj.1 p.0 ((flat-members o (i ∷ f) j c).1 v p.0 d.1)),
      λ h. members-flat o (i ∷ f) j rj (λ x rx e. let p = (more-point i r x).0 (rx, e) in zero-lies o.field o.numbering arr o.forms j x rj.0 rj.1 rx (h x p.0 p.1)),
    )

    module _ (rows : List (List K)) (has : HasValues ring arr f rows) where
      abbrev B : List (List K)
      B = has.points

      b-row : (b : List K) → Contains B b → R b
      b-row b c = (has.lie b c).0

      -- a form outside is not zero at one of the points
      pub outside-place : (j : ℕ) → IsIndex arr j → (Contains f j → ⊥)
          → ((w : List K) → Contains rows w → at_form ring j w ≡ ring.zero) → ⊥
      outside-place j r out z =
          out (subst (λ s. Contains s j) (flat-of_flat o f is) (members-flat o f j r (λ x rx e.
          zero-lies o.field o.numbering arr o.forms j x r.0 r.1 rx (has.decide (form arr j) (row-of j r)
          (λ b c. sym (at-values j b r) ∙ z (values_of ring arr b) (subst (λ ws. Contains ws (values_of ring arr b)) (sym has.values) (Contains-map (values_of ring arr) B b c))) x (rx, e)))))

      module _ (i : ℕ) (ri : IsIndex arr i) (q : ℕ) (m : q < length rows) (off : at_form ring i (slice_index_or rows q []) ≢ ring.zero) where
        -- the point at place q
        abbrev p : List K
        p = slice_index_or has.points q []

        inside : q < length B
        inside = subst (λ n. q < n) (ap (λ (ws : List (List K)). length ws) has.values ∙ length-map B (values_of ring arr)) m

        p_in : Contains B p
        p_in = Contains-get_or B q [] inside

        pivot-values : slice_index_or rows q [] ≡ values_of ring arr p
        pivot-values = ap (λ (ws : List (List K)). slice_index_or ws q []) has.values ∙ get_or-map (values_of ring arr) B q [] [] inside

        rp : R p
        rp = b-row p p_in

        abbrev s : K
        s = at i p

        pivot-at : (j : ℕ) → IsIndex arr j → at_form ring j (slice_index_or rows q []) ≡ at j p
        pivot-at j r = ap (at_form ring j) pivot-values ∙ at-values j p r

        s_value : ring.IsValue s
        s_value = at-value i p ri rp

        s_off : s ≢ ring.zero
        s_off e = off (pivot-at i ri ∙ e)

        -- the point moved into H_i
        abbrev move : List K → List K
        move b = plane (field_of o) s b (ring.neg (at i b)) p

        neg-at : (b : List K) → Contains B b → ring.IsValue (ring.neg (at i b))
        neg-at b c = L.neg_value _ (at-value i b ri (b-row b c))

        move-zero : (b : List K) → Contains B b → at i (move b) ≡ ring.zero
        move-zero b c =
            let vb = at-value i b ri (b-row b c) in
            dot-plane (field_of o) arr.dim s (ring.neg (at i b)) s_value (neg-at b c) b p (b-row b c) rp (form arr i) (row-of i ri)
            ∙ cross-zero (field_of o) s (at i b) (at i b) s s_value vb vb s_value (o.field.commutes s (at i b) s_value vb)

        move-point : (b : List K) → Contains B b → Point f (move b)
        move-point b c = plane-point f f_indices s (ring.neg (at i b)) s_value (neg-at b c) b p (has.lie b c) (has.lie p p_in)

        parallel-from : (j : ℕ) → IsIndex arr j
            → ((b : List K) → Contains B b → ring.mul s (at j b) ≡ ring.mul (at j p) (at i b))
            → AreParallel ring rows q i j
        parallel-from j r h w c =
            let d = map-Contains (values_of ring arr) B w (subst (λ ws. Contains ws w) has.values c) in
            let e = h d.0 d.1 in
            subst (λ w. ring.mul (at_form ring i (slice_index_or rows q [])) (at_form ring j w) ≡ ring.mul (at_form ring j (slice_index_or rows q [])) (at_form ring i w)) d.2
            ((λ k. ring.mul (pivot-at i ri k) (at-values j d.0 r k)) ∙ e ∙ sym (λ k. ring.mul (pivot-at j r k) (at-values i d.0 ri k)))

        parallel-to : (j : ℕ) → IsIndex arr j → AreParallel ring rows q i j → (b : List K) → Contains B b
            → ring.mul s (at j b) ≡ ring.mul (at j p) (at i b)
        parallel-to j r h b c =
            let e = h (values_of ring arr b) (subst (λ ws. Contains ws (values_of ring arr b)) (sym has.values) (Contains-map (values_of ring arr) B b c)) in
            sym (λ k. ring.mul (pivot-at i ri k) (at-values j b r k)) ∙ e ∙ (λ k. ring.mul (pivot-at j r k) (at-values i b ri k))

        -- Hyperplane j is in the cover by i exactly where it is parallel to H_i.
        pub cover-parallel : (j : ℕ) → IsIndex arr j
            → Contains (closure ring numbers arr (i ∷ f)) j ↔ AreParallel ring rows q i j
        cover-parallel j r = (
          (λ c. parallel-from j r (λ b d.
              let vb = at-value i b ri (b-row b d) in
              let vj = at-value j b r (b-row b d) in
              let vz = at-value j p r rp in
              zero-cross (field_of o) s (at j b) (at i b) (at j p) s_value vj vb vz
              (sym (dot-plane (field_of o) arr.dim s (ring.neg (at i b)) s_value (neg-at b d) b p (b-row b d) rp (form arr j) (row-of j r)) ∙ (cover-vanishes i j ri r).0 c (move b) (move-point b d) (move-zero b d))
              ∙ o.field.commutes (at i b) (at j p) vb vz)),
          λ h. (cover-vanishes i j ri r).1 (λ v pv e.
              let z = at j p in
              let vz = at-value j p r rp in
              let nz = L.neg_value z vz in
              let a = plane (field_of o) s (form arr j) (ring.neg z) (form arr i) in
              let ra = plane-row (field_of o) arr.dim s (ring.neg z) s_value nz (form arr j) (form arr i) (row-of j r) (row-of i ri) in
              let none = has.decide a ra (λ b c. let rb = b-row b c in
              plane-dot (field_of o) arr.dim s (ring.neg z) s_value nz (form arr j) (form arr i) (row-of j r) (row-of i ri) b rb
              ∙ cross-zero (field_of o) s (at j b) z (at i b) s_value (at-value j b r rb) vz (at-value i b ri rb) (parallel-to j r h b c)) v pv in
              zero-left (field_of o) s (at j v) (ring.neg z) (at i v) s_value (at-value j v r pv.0) nz s_off e
              (sym (plane-dot (field_of o) arr.dim s (ring.neg z) s_value nz (form arr j) (form arr i) (row-of j r) (row-of i ri) v pv.0) ∙ none)),
        )

        move-values : (b : List K) → Contains B b
            → reduced ring (slice_index_or rows q []) i (values_of ring arr b) ≡ values_of ring arr (move b)
        move-values b c =
            (λ k. row_plus ring (row_scale ring (pivot-at i ri k) (values_of ring arr b)) (row_scale ring (ring.neg (at-values i b ri k)) (pivot-values k)))
            ∙ plane-map ring s (ring.neg (at i b)) (λ j. at j b) (λ j. at j p) (λ j. at j (move b)) (indices arr) (λ j d.
            let r = index j (length arr.forms) (range_members j 1 (length arr.forms) d) in
            sym (dot-plane (field_of o) arr.dim s (ring.neg (at i b)) s_value (neg-at b c) b p (b-row b c) rp (form arr j) (row-of j r)))
          where
            index : (j n : ℕ) → (1 ≤ j) × (j < 1 + n) → (1 ≤ j) × (j ≤ n)
            index j n h = omega arith

        -- the points but that at q, moved into H_i, decide in the cover
        pub cover-values : HasValues ring arr (closure ring numbers arr (i ∷ f)) (map (reduced ring (slice_index_or rows q []) i) (remove rows q))
        cover-values = record {
          points = map move (remove B q);
          lie = λ b c. let w = map-Contains move (remove B q) b c in
              let d = remove-Contains q B w.0 w.1 in
              subst (Point (closure ring numbers arr (i ∷ f))) w.2 ((cover-point i ri (move w.0)).1 (move-point w.0 d, move-zero w.0 d));
          decide = λ a ra h x px. (let d = (cover-point i ri x).0 px in decides a ra h x d.0 d.1);
          values = ap (λ ws. map (reduced ring (slice_index_or rows q []) i) (remove ws q)) has.values
              ∙ ap (map (reduced ring (slice_index_or rows q []) i)) (remove-map (values_of ring arr) q B)
              ∙ map-same (reduced ring (slice_index_or rows q []) i) (values_of ring arr) (λ b. values_of ring arr (move b)) (remove B q) (λ b c. move-values b (remove-Contains q B b c))
              ∙ sym (map-same (values_of ring arr) move (λ b. values_of ring arr (move b)) (remove B q) (λ b c. refl));
        }
          where
            decides : (a : List K) → R a
                → ((b : List K) → Contains (map move (remove B q)) b → dot_of ring a b ≡ ring.zero)
                → (x : List K) → Point f x → at i x ≡ ring.zero → dot_of ring a x ≡ ring.zero
            decides a ra h x px e =
                let z = dot_of ring a p in
                let vz = dot_of_value L a p ra.1 rp.1 in
                let nz = L.neg_value z vz in
                let c = plane (field_of o) s a (ring.neg z) (form arr i) in
                let rc = plane-row (field_of o) arr.dim s (ring.neg z) s_value nz a (form arr i) ra (row-of i ri) in
                let none = has.decide c rc (λ b m.
                let rb = b-row b m in
                let vb = dot_of_value L a b ra.1 rb.1 in
                let vi = at-value i b ri rb in
                plane-dot (field_of o) arr.dim s (ring.neg z) s_value nz a (form arr i) ra (row-of i ri) b rb
                ∙ cross-zero (field_of o) s (dot_of ring a b) z (at i b) s_value vb vz vi (crossed a ra h b m (remove-cases q B [] b m))) x px in
                zero-left (field_of o) s (dot_of ring a x) (ring.neg z) (at i x) s_value (dot_of_value L a x ra.1 px.0.1) nz s_off e
                (sym (plane-dot (field_of o) arr.dim s (ring.neg z) s_value nz a (form arr i) ra (row-of i ri) x px.0) ∙ none)
              where
                crossed : (a : List K) → R a
                    → ((b : List K) → Contains (map move (remove B q)) b → dot_of ring a b ≡ ring.zero)
                    → (b : List K) → Contains B b → (p ≡ b) ⊎ Contains (remove B q) b
                    → ring.mul s (dot_of ring a b) ≡ ring.mul (dot_of ring a p) (at i b)
                crossed a ra h b m (inl e) =
                    subst (λ b. ring.mul s (dot_of ring a b) ≡ ring.mul (dot_of ring a p) (at i b)) e (o.field.commutes s (dot_of ring a p) s_value (dot_of_value L a p ra.1 rp.1))
                crossed a ra h b m (inr d) =
                    let rb = b-row b m in
                    let vb = dot_of_value L a b ra.1 rb.1 in
                    let vp = dot_of_value L a p ra.1 rp.1 in
                    let vi = at-value i b ri rb in
                    zero-cross (field_of o) s (dot_of ring a b) (at i b) (dot_of ring a p) s_value vb vi vp
                    (sym (dot-plane (field_of o) arr.dim s (ring.neg (at i b)) s_value (neg-at b m) b p rb rp a ra) ∙ h (move b) (Contains-map move (remove B q) b d))
                    ∙ o.field.commutes (at i b) (dot_of ring a p) vi vp

  -- ---- the first points

  abbrev unit : ℕ → List K
  unit k = unit_row ring arr.dim k

  -- a row that is zero at each is zero
  unit-zeros : (a : List K) → IsRow ring arr.dim a
      → ((k : ℕ) → k < arr.dim → dot_of ring a (unit (k + 1)) ≡ ring.zero) → a ≡ zero_row ring arr.dim
  unit-zeros a ra h = zero_row-ext L arr.dim a ra.0 (λ k l. sym (unit-dot L arr.dim a k ra l) ∙ h k l)

  pub first-values : HasValues ring arr [] (map (λ k. values_of ring arr (unit_row ring arr.dim k)) (one_to arr.dim))
  first-values = record {
    points = map (unit_row ring arr.dim) (one_to arr.dim);
    lie = λ b c. let w = map-Contains (unit_row ring arr.dim) (one_to arr.dim) b c in subst (IsPointOf ring arr []) w.2 (unit-row L arr.dim w.0, refl);
    decide = λ a ra h x px.
        let z = unit-zeros a ra (λ k l. h (unit (k + 1)) (Contains-map (unit_row ring arr.dim) (one_to arr.dim) (k + 1) (members_range (k + 1) 1 arr.dim (omega arith) (omega (arith, l))))) in
        ap (λ s. dot_of ring s x) z ∙ dot-zeros L arr.dim x px.0.1;
    values = sym (map-same (values_of ring arr) (unit_row ring arr.dim) (λ k. values_of ring arr (unit_row ring arr.dim k)) (one_to arr.dim) (λ k c. refl));
  }

  -- each list of values has one for each form
  pub values-widths : (f : Set) (rows : List (List K)) → HasValues ring arr f rows
      → All (λ w. length w ≡ length arr.forms) rows
  values-widths f rows has k d l =
      let w = map-Contains (values_of ring arr) has.points _ (subst (λ (ws : List (List K)). Contains ws (slice_index_or rows k d)) has.values (Contains-get_or rows k d l)) in
      ap (λ (w : List K). length w) (sym w.2) ∙ length-map-range_with_len (λ j. dot_of ring (form arr j) w.0) 1 (length arr.forms)
