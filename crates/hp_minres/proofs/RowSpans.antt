-- What the rows of a matrix span; the submodules that vectors generate are such spans.
use Rattle.std.specs.Prelude.{◌≡◌, ℕ, zero, suc, ◌+◌, ◌≤◌, List, [], ◌∷◌, ◌++◌, length, All}
use Rattle.std.proofs.lemmas.List.Elements.{All-nil, All-cons, All-head, All-tail, All-map, All-weaker}
use mathlib.Core.Path.{refl, sym, ap, ◌∙◌, subst}
use native.Mathlib.Omega.{arith}
use Rattle.hp_algebra.specs.Ring.{RingOf, IsRing, IsCommutative}
use Rattle.hp_algebra.specs.Rows.{entry, row_times}
use Rattle.hp_algebra.proofs.Rings.{zero_add, mul_zero, zero_mul, neg_neg, neg_mul}
use Rattle.hp_minres.specs.Grids.{skip, sum, zeros, combine, cell, IsRowOf, IsGrid}
use Rattle.hp_poly.specs.Polynomials.{Poly, IsPoly, poly_ring}
use Rattle.hp_poly.specs.PolyRing.{poly_is_ring}
use Rattle.hp_module.specs.Vectors.{Vector, IsVector, IsGenerated}
use Rattle.hp_minres.proofs.RangeSums.{Values, mul_neg, neg_unique, put, skip_above, sum_add, sum_mul, sum_skip, sum_value, sum_zero}
use Rattle.hp_minres.proofs.GridRows.{at_listed, at_row, at_row_times, at_values, combine_put, length-listed, length-row_times, list_ext, listed, listed_values, put_row, unit, unit_row, zeros_row}

module _ {R : Type 0} (ring : RingOf R) where
  -- v is a combination of the n rows
  abbrev pub IsSpanned : ℕ → (ℕ → ℕ → R) → (ℕ → R) → Type 0
  IsSpanned n A v = (q : ℕ → R) × IsRowOf ring n q × (v ≡ combine ring n q A)

  -- the first n entries, and the entries from n on
  abbrev pub front : ℕ → (ℕ → R) → ℕ → R
  front zero q i = ring.zero
  front (suc n) q zero = q zero
  front (suc n) q (suc i) = front n (λ k. q (suc k)) i

  abbrev pub rear : ℕ → (ℕ → R) → ℕ → R
  rear zero q = q
  rear (suc n) q = rear n (λ k. q (suc k))

module _ {R : Type 0} {ring : RingOf R} (laws : IsRing ring) where
  open ring use {add as ◌⊕◌, mul as ◌⊗◌, neg, zero as 0ᵣ, one as 1ᵣ, IsValue}

  infixl 60 ◌⊕◌
  infixl 70 ◌⊗◌
  pub combine_plus : (n m : ℕ) (c d : ℕ → R) (A : ℕ → ℕ → R) → Values ring c → Values ring d → IsGrid ring m A
      → combine ring n (λ i. c i ⊕ d i) A ≡ (λ j. combine ring n c A j ⊕ combine ring n d A j)
  combine_plus n m c d A vc vd g = λ k j.
      (ap (sum ring n) (λ k i. laws.add_mul (c i) (d i) (A i j) (vc i) (vd i) ((g i).value j) k)
      ∙ sum_add laws n (λ i. c i ⊗ A i j) (λ i. d i ⊗ A i j) (λ i. laws.mul_value _ _ (vc i) ((g i).value j)) (λ i. laws.mul_value _ _ (vd i) ((g i).value j))) k

  pub combine_times : (n m : ℕ) (x : R) (c : ℕ → R) (A : ℕ → ℕ → R) → IsValue x → Values ring c → IsGrid ring m A
      → combine ring n (λ i. x ⊗ c i) A ≡ (λ j. x ⊗ combine ring n c A j)
  combine_times n m x c A vx vc g = λ k j.
      (ap (sum ring n) (λ k i. laws.mul_assoc x (c i) (A i j) vx (vc i) ((g i).value j) k)
      ∙ sum_mul laws n x (λ i. c i ⊗ A i j) vx (λ i. laws.mul_value _ _ (vc i) ((g i).value j))) k

  plus_row : (n : ℕ) (c d : ℕ → R) → IsRowOf ring n c → IsRowOf ring n d → IsRowOf ring n (λ i. c i ⊕ d i)
  plus_row n c d hc hd = record { value = λ i. laws.add_value _ _ (hc.value i) (hd.value i); end = λ i l. (λ k. hc.end i l k ⊕ hd.end i l k) ∙ laws.add_zero 0ᵣ laws.zero_value }

  times_row : (n : ℕ) (x : R) (c : ℕ → R) → IsValue x → IsRowOf ring n c → IsRowOf ring n (λ i. x ⊗ c i)
  times_row n x c vx hc = record { value = λ i. laws.mul_value _ _ vx (hc.value i); end = λ i l. ap (λ u. x ⊗ u) (hc.end i l) ∙ mul_zero laws x vx }

  pub spanned_plus : (n m : ℕ) (A : ℕ → ℕ → R) (v w : ℕ → R) → IsGrid ring m A → IsSpanned ring n A v → IsSpanned ring n A w → IsSpanned ring n A (λ j. v j ⊕ w j)
  spanned_plus n m A v w g p q = (
    λ i. p.0 i ⊕ q.0 i,
    plus_row n p.0 q.0 p.1 q.1,
    (λ k j. p.2 k j ⊕ q.2 k j) ∙ sym (combine_plus n m p.0 q.0 A p.1.value q.1.value g),
  )

  pub spanned_times : (n m : ℕ) (A : ℕ → ℕ → R) (x : R) (v : ℕ → R) → IsGrid ring m A → IsValue x → IsSpanned ring n A v → IsSpanned ring n A (λ j. x ⊗ v j)
  spanned_times n m A x v g vx p = (λ i. x ⊗ p.0 i, times_row n x p.0 vx p.1, (λ k j. x ⊗ p.2 k j) ∙ sym (combine_times n m x p.0 A vx p.1.value g))

  -- v + w and v give w
  pub spanned_minus : (n m : ℕ) (A : ℕ → ℕ → R) (v w : ℕ → R) → IsGrid ring m A → Values ring v → Values ring w → IsSpanned ring n A (λ j. v j ⊕ w j) → IsSpanned ring n A v → IsSpanned ring n A w
  spanned_minus n m A v w g vv vw p q =
      let s = spanned_plus n m A (λ j. neg 1ᵣ ⊗ v j) (λ j. v j ⊕ w j) g (spanned_times n m A (neg 1ᵣ) v g (laws.neg_value 1ᵣ laws.one_value) q) p in
      subst (IsSpanned ring n A) (λ k j. back (v j) (w j) (vv j) (vw j) k) s
    where
      back : (x y : R) → IsValue x → IsValue y → neg 1ᵣ ⊗ x ⊕ (x ⊕ y) ≡ y
      back x y vx vy =
          let vn = laws.neg_value x vx in
          ap (λ u. u ⊕ (x ⊕ y)) (neg_mul laws 1ᵣ x laws.one_value vx ∙ ap neg (laws.one_mul x vx)) ∙ sym (laws.add_assoc (neg x) x y vn vx vy)
          ∙ ap (λ u. u ⊕ y) (laws.add_comm (neg x) x vn vx ∙ laws.add_neg x vx) ∙ zero_add laws y vy

  -- x v for an x with inverse w gives v
  pub spanned_unit : (n m : ℕ) (A : ℕ → ℕ → R) (x w : R) (v : ℕ → R) → IsGrid ring m A → IsValue x → IsValue w → Values ring v → w ⊗ x ≡ 1ᵣ → IsSpanned ring n A (λ j. x ⊗ v j) → IsSpanned ring n A v
  spanned_unit n m A x w v g vx vw vv e p =
      subst (IsSpanned ring n A) (λ k j. (sym (laws.mul_assoc w x (v j) vw vx (vv j)) ∙ ap (λ u. u ⊗ v j) e ∙ laws.one_mul (v j) (vv j)) k) (spanned_times n m A w (λ j. x ⊗ v j) g vw p)

  -- A relation with a unit at r: row r is a combination of the others.
  pub unit_spans : (r n m : ℕ) (c : ℕ → R) (w : R) (A : ℕ → ℕ → R) → IsGrid ring m A → r ≤ n → IsRowOf ring (suc n) c → IsValue w → w ⊗ c r ≡ 1ᵣ → combine ring (suc n) c A ≡ zeros ring
      → IsSpanned ring n (λ i. A (skip r i)) (A r)
  unit_spans r n m c w A g l h vw e z =
      let others : ℕ → R = λ i. c (skip r i) in
      let row : IsRowOf ring n others = record { value = λ i. h.value (skip r i); end = λ i b. ap c (skip_above r i (far r n i l b)) ∙ h.end (suc i) (more n i b) } in
      let g' : IsGrid ring m (λ i. A (skip r i)) = λ i. g (skip r i) in
      let s = spanned_times n m (λ i. A (skip r i)) (neg w) (combine ring n others (λ i. A (skip r i))) g' (laws.neg_value w vw) (others, row, refl) in
      subst (IsSpanned ring n (λ i. A (skip r i))) (λ k j. at_place j k) s
    where
      far : (r n i : ℕ) → r ≤ n → n ≤ i → r ≤ i
      far r n i a b = omega arith

      more : (n i : ℕ) → n ≤ i → suc n ≤ suc i
      more n i b = omega arith

      at_place : (j : ℕ) → neg w ⊗ combine ring n (λ i. c (skip r i)) (λ i. A (skip r i)) j ≡ A r j
      at_place j =
          let S = sum ring n (λ i. c (skip r i) ⊗ A (skip r i) j) in
          let a = A r j in
          let va = (g r).value j in
          let vc = h.value r in
          let ca = laws.mul_value (c r) a vc va in
          let vS = sum_value laws n (λ i. c (skip r i) ⊗ A (skip r i) j) (λ i. laws.mul_value _ _ (h.value (skip r i)) ((g (skip r i)).value j)) in
          let z' : c r ⊗ a ⊕ S ≡ 0ᵣ = sym (sum_skip laws r n (λ i. c i ⊗ A i j) (λ i. laws.mul_value _ _ (h.value i) ((g i).value j)) l) ∙ (λ k. z k j) in
          let wca = laws.mul_value w (c r ⊗ a) vw ca in
          ap (λ u. neg w ⊗ u) (neg_unique laws (c r ⊗ a) S ca vS z')
          ∙ neg_mul laws w (neg (c r ⊗ a)) vw (laws.neg_value _ ca)
          ∙ ap neg (mul_neg laws w (c r ⊗ a) vw ca) ∙ neg_neg laws (w ⊗ (c r ⊗ a)) wca
          ∙ sym (laws.mul_assoc w (c r) a vw vc va) ∙ ap (λ u. u ⊗ a) e ∙ laws.one_mul a va

  -- Row r a combination of the others: a relation with 1 at r.
  pub spans_unit : (r n m : ℕ) (A : ℕ → ℕ → R) → IsGrid ring m A → r ≤ n → (p : IsSpanned ring n (λ i. A (skip r i)) (A r)) → combine ring (suc n) (put r (neg 1ᵣ) p.0) A ≡ zeros ring
  spans_unit r n m A g l p = λ k j. at_place j k
    where
      at_place : (j : ℕ) → combine ring (suc n) (put r (neg 1ᵣ) p.0) A j ≡ 0ᵣ
      at_place j =
          let a = A r j in
          let va = (g r).value j in
          combine_put laws r n m (neg 1ᵣ) p.0 A (laws.neg_value 1ᵣ laws.one_value) p.1.value g l j
          ∙ (λ k. (neg_mul laws 1ᵣ a laws.one_value va ∙ ap neg (laws.one_mul a va)) k ⊕ sym (λ k. p.2 k j) k) ∙ laws.add_comm (neg a) a (laws.neg_value a va) va ∙ laws.add_neg a va

  -- ---- lists of rows

  abbrev AreValues : List (List R) → Type 0
  AreValues rows = All (All IsValue) rows

  later_row : (n : ℕ) (q : ℕ → R) → IsRowOf ring (suc n) q → IsRowOf ring n (λ i. q (suc i))
  later_row n q h = record { value = λ i. h.value (suc i); end = λ i l. h.end (suc i) (omega arith) }

  rows_value : (rows : List (List R)) → AreValues rows → (i j : ℕ) → IsValue (cell ring rows i j)
  rows_value [] h i j = laws.zero_value
  rows_value (row ∷ rows) h zero j = at_values laws row (All-head (All IsValue) row rows h) j
  rows_value (row ∷ rows) h (suc i) j = rows_value rows (All-tail (All IsValue) row rows h) i j

  combine_none : (ws : List (List R)) (q : ℕ → R) → IsRowOf ring 0 q → AreValues ws → (n : ℕ) → combine ring n q (cell ring ws) ≡ zeros ring
  combine_none ws q h v n = λ k j. (ap (sum ring n) (λ k i. (ap (λ u. u ⊗ cell ring ws i j) (h.end i (omega arith)) ∙ zero_mul laws _ (rows_value ws v i j)) k) ∙ sum_zero laws n) k

  combine_append : (vs ws : List (List R)) (q : ℕ → R) → IsRowOf ring (length vs) q → AreValues ws → combine ring (length (vs ++ ws)) q (cell ring (vs ++ ws)) ≡ combine ring (length vs) q (cell ring vs)
  combine_append [] ws q h v = combine_none ws q h v (length ws)
  combine_append (x ∷ vs) ws q h v = λ k j. q zero ⊗ entry ring x j ⊕ combine_append vs ws (λ i. q (suc i)) (later_row (length vs) q h) v k j

  append_row : (vs ws : List (List R)) (q : ℕ → R) → IsRowOf ring (length vs) q → IsRowOf ring (length (vs ++ ws)) q
  append_row [] ws q h = record { value = h.value; end = λ i l. h.end i (omega arith) }
  append_row (x ∷ vs) ws q h =
      let r = append_row vs ws (λ i. q (suc i)) (later_row (length vs) q h) in
      record { value = h.value; end = after r }
    where
      after : IsRowOf ring (length (vs ++ ws)) (λ i. q (suc i)) → (i : ℕ) → suc (length (vs ++ ws)) ≤ i → q i ≡ 0ᵣ
      after r zero l = absurd (omega arith)
      after r (suc i) l = r.end i (omega arith)

  -- more rows span as much
  pub spanned_append : (vs ws : List (List R)) (v : ℕ → R) → AreValues ws → IsSpanned ring (length vs) (cell ring vs) v → IsSpanned ring (length (vs ++ ws)) (cell ring (vs ++ ws)) v
  spanned_append vs ws v h p = (p.0, append_row vs ws p.0 p.1, p.2 ∙ sym (combine_append vs ws p.0 p.1 h))

  -- a row is spanned
  pub spanned_last : (vs : List (List R)) (x : List R) → AreValues vs → All IsValue x → IsSpanned ring (length (vs ++ x ∷ [])) (cell ring (vs ++ x ∷ [])) (entry ring x)
  spanned_last [] x h vx = (
    unit ring 0,
    unit_row laws 0 1 (omega arith),
    λ k j. sym (laws.add_zero _ (laws.mul_value _ _ laws.one_value (at_values laws x vx j)) ∙ laws.one_mul _ (at_values laws x vx j)) k,
  )
  spanned_last (y ∷ vs) x h vx =
      let r = spanned_last vs x (All-tail (All IsValue) y vs h) vx in (
        put 0 0ᵣ r.0,
        put_row laws 0 (length (vs ++ x ∷ [])) 0ᵣ r.0 (omega arith) laws.zero_value r.1,
        r.2 ∙ (λ k j. sym (ap (λ u. u ⊕ combine ring (length (vs ++ x ∷ [])) r.0 (cell ring (vs ++ x ∷ [])) j) (zero_mul laws _ (at_values laws y (All-head (All IsValue) y vs h) j))
            ∙ zero_add laws _ (sum_value laws (length (vs ++ x ∷ [])) _ (λ i. laws.mul_value _ _ (r.1.value i) (rows_value (vs ++ x ∷ []) (all_rows vs x (All-tail (All IsValue) y vs h) vx) i j)))) k),
      )
    where
      all_rows : (vs : List (List R)) (x : List R) → AreValues vs → All IsValue x → AreValues (vs ++ x ∷ [])
      all_rows vs x h vx = Rattle.std.proofs.lemmas.List.Elements.All-append (All IsValue) vs (x ∷ []) h (All-cons (All IsValue) x [] vx (All-nil (All IsValue)))

  pub front_row : (n : ℕ) (q : ℕ → R) → Values ring q → IsRowOf ring n (front ring n q)
  front_row zero q v = zeros_row laws 0
  front_row (suc n) q v =
      let r = front_row n (λ k. q (suc k)) (λ k. v (suc k)) in
      record { value = value r; end = end r }
    where
      value : IsRowOf ring n (front ring n (λ k. q (suc k))) → (i : ℕ) → IsValue (front ring (suc n) q i)
      value r zero = v zero
      value r (suc i) = r.value i

      end : IsRowOf ring n (front ring n (λ k. q (suc k))) → (i : ℕ) → suc n ≤ i → front ring (suc n) q i ≡ 0ᵣ
      end r zero l = absurd (omega arith)
      end r (suc i) l = r.end i (omega arith)

  pub rear_at : (n : ℕ) (q : ℕ → R) (i : ℕ) → rear ring n q i ≡ q (n + i)
  rear_at zero q i = ap q (sym (none i))
    where
      none : (i : ℕ) → 0 + i ≡ i
      none i = omega arith
  rear_at (suc n) q i = rear_at n (λ k. q (suc k)) i ∙ ap q (more n i)
    where
      more : (n i : ℕ) → suc (n + i) ≡ suc n + i
      more n i = omega arith

  pub combine_split : (vs ws : List (List R)) (q : ℕ → R) → Values ring q → AreValues vs → AreValues ws
      → combine ring (length (vs ++ ws)) q (cell ring (vs ++ ws)) ≡ (λ j. combine ring (length vs) (front ring (length vs) q) (cell ring vs) j ⊕ combine ring (length ws) (rear ring (length vs) q) (cell ring ws) j)
  combine_split [] ws q v hv hw = λ k j. sym (zero_add laws _ (sum_value laws (length ws) (λ i. q i ⊗ cell ring ws i j) (λ i. laws.mul_value _ _ (v i) (rows_value ws hw i j)))) k
  combine_split (x ∷ vs) ws q v hv hw = λ k j.
      (ap (λ u. q zero ⊗ entry ring x j ⊕ u) (λ k. combine_split vs ws (λ i. q (suc i)) (λ i. v (suc i)) (All-tail (All IsValue) x vs hv) hw k j)
      ∙ sym (laws.add_assoc _ _ _ (laws.mul_value _ _ (v zero) (at_values laws x (All-head (All IsValue) x vs hv) j))
      (sum_value laws (length vs) _ (λ i. laws.mul_value _ _ ((front_row (length vs) (λ i. q (suc i)) (λ i. v (suc i))).value i) (rows_value vs (All-tail (All IsValue) x vs hv) i j)))
      (sum_value laws (length ws) _ (λ i. laws.mul_value _ _ (rear_value (length vs) (λ i. q (suc i)) (λ i. v (suc i)) i) (rows_value ws hw i j))))) k
    where
      rear_value : (n : ℕ) (q : ℕ → R) → Values ring q → Values ring (rear ring n q)
      rear_value zero q v = v
      rear_value (suc n) q v = rear_value n (λ k. q (suc k)) (λ k. v (suc k))

  -- entries from the end of q on add nothing
  pub combine_longer : (k n m : ℕ) (q : ℕ → R) (A : ℕ → ℕ → R) → k ≤ n → IsRowOf ring k q → IsGrid ring m A → combine ring n q A ≡ combine ring k q A
  combine_longer zero n m q A l h g = λ t j. (ap (sum ring n) (λ t i. (ap (λ u. u ⊗ A i j) (h.end i (omega arith)) ∙ zero_mul laws (A i j) ((g i).value j)) t) ∙ sum_zero laws n) t
  combine_longer (suc k) zero m q A l h g = absurd (omega arith)
  combine_longer (suc k) (suc n) m q A l h g = λ t j. q zero ⊗ A zero j ⊕ combine_longer k n m (λ i. q (suc i)) (λ i. A (suc i)) (omega arith) (later_row k q h) (λ i. g (suc i)) t j

-- ---- generated submodules

module _ {F : Type 0} {ring : RingOf F} (laws : IsRing ring) (comm : IsCommutative ring) where
  abbrev PR : RingOf (Poly F)
  PR = poly_ring ring

  abbrev P : IsRing (poly_ring ring)
  P = poly_is_ring laws comm

  pub vector_widths : (width : ℕ) (vs : List (Vector F)) → All (IsVector ring width) vs → All (λ v. length v ≡ width) vs
  vector_widths width vs h = All-weaker (IsVector ring width) (λ v. length v ≡ width) (λ v f. f.0) vs h

  pub vector_values : (width : ℕ) (vs : List (Vector F)) → All (IsVector ring width) vs → All (All (IsPoly ring)) vs
  vector_values width vs h = All-weaker (IsVector ring width) (All (IsPoly ring)) (λ v f. f.1) vs h

  pub generated_spanned : (width : ℕ) (vs : List (Vector F)) (v : Vector F) → All (IsVector ring width) vs
      → IsGenerated ring width vs v → IsSpanned PR (length vs) (cell PR vs) (entry PR v)
  generated_spanned width vs v h g = (
    entry PR g.0,
    at_row P (length vs) g.0 g.1.0 g.1.1,
    λ k j. (ap (λ u. entry PR u j) g.2
        ∙ at_row_times P width g.0 vs g.1.0 (vector_widths width vs h) g.1.1 j) k,
  )

  pub spanned_generated : (width : ℕ) (vs : List (Vector F)) (v : Vector F) → All (IsVector ring width) vs → length v ≡ width
      → IsSpanned PR (length vs) (cell PR vs) (entry PR v) → IsGenerated ring width vs v
  spanned_generated width vs v h e p =
      let n = length vs in
      let cs = listed PR n p.0 in
      let hc : IsVector ring n cs = (length-listed P n p.0, listed_values P n p.0 p.1.value) in (
        cs,
        hc,
        list_ext P v (row_times PR width cs vs) (e ∙ sym (length-row_times P width cs vs (vector_widths width vs h)))
            (λ j. (λ k. p.2 k j) ∙ ap (λ u. combine PR n u (cell PR vs) j) (sym (at_listed P n p.0 p.1))
            ∙ sym (at_row_times P width cs vs hc.0 (vector_widths width vs h) hc.1 j)),
      )
