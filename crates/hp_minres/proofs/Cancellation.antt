-- Cancelling a unit entry of a complex: the complex without its row and its column, after one elimination step, is a retract.
use Rattle.std.specs.Prelude.{◌≡◌, ℕ, suc, ◌≤◌}
use mathlib.Core.Path.{refl, sym, ap, ◌∙◌}
use native.Mathlib.Omega.{arith}
use Rattle.hp_algebra.specs.Ring.{RingOf, IsRing}
use Rattle.hp_algebra.proofs.Rings.{zero_add, mul_zero, zero_mul, neg_neg, neg_mul}
use Rattle.hp_minres.specs.Grids.{skip, sum, zeros, combine, IsRowOf, IsGrid, eliminated}
use Rattle.hp_minres.proofs.RangeSums.{Values, drop_both, every_place, mul_neg, neg_add_self, neg_unique, neg_zero, put, put_other, put_same, skip_above, sum_add, sum_mul, sum_mul_right, sum_neg, sum_skip, sum_value, sum_zero}
use Rattle.hp_minres.proofs.GridRows.{combine_put, combine_row, put_row}
use Rattle.hp_minres.proofs.Retracts.{IsSquare, Retract, unchanged}

module _ {R : Type 0} {ring : RingOf R} (laws : IsRing ring) where
  open ring use {add as ◌⊕◌, mul as ◌⊗◌, neg, zero as 0ᵣ, one as 1ᵣ, IsValue}

  infixl 60 ◌⊕◌
  infixl 70 ◌⊗◌
  abbrev Sum : ℕ → (ℕ → R) → R
  Sum n f = sum ring n f

  abbrev Row : ℕ → (ℕ → R) → Type 0
  Row n d = IsRowOf ring n d

  reduce_sum : (n : ℕ) (d a b : ℕ → R) (y : R) → Values ring d → Values ring a → Values ring b → IsValue y
      → Sum n (λ i. d i ⊗ (a i ⊕ neg (b i ⊗ y))) ≡ Sum n (λ i. d i ⊗ a i) ⊕ neg (Sum n (λ i. d i ⊗ b i) ⊗ y)
  reduce_sum n d a b y vd va vb vy =
      let by : (i : ℕ) → IsValue (b i ⊗ y) = λ i. laws.mul_value (b i) y (vb i) vy in
      let db : (i : ℕ) → IsValue (d i ⊗ b i) = λ i. laws.mul_value (d i) (b i) (vd i) (vb i) in
      let dby : (i : ℕ) → IsValue ((d i ⊗ b i) ⊗ y) = λ i. laws.mul_value (d i ⊗ b i) y (db i) vy in
      ap (Sum n) (λ k i. (laws.mul_add (d i) (a i) (neg (b i ⊗ y)) (vd i) (va i) (laws.neg_value _ (by i))
      ∙ ap (λ u. d i ⊗ a i ⊕ u) (mul_neg laws (d i) (b i ⊗ y) (vd i) (by i) ∙ ap neg (sym (laws.mul_assoc (d i) (b i) y (vd i) (vb i) vy)))) k)
      ∙ sum_add laws n (λ i. d i ⊗ a i) (λ i. neg ((d i ⊗ b i) ⊗ y)) (λ i. laws.mul_value (d i) (a i) (vd i) (va i)) (λ i. laws.neg_value _ (dby i))
      ∙ ap (λ u. Sum n (λ i. d i ⊗ a i) ⊕ u) (sum_neg laws n (λ i. (d i ⊗ b i) ⊗ y) dby ∙ ap neg (sum_mul_right laws n y (λ i. d i ⊗ b i) vy db))

  module _ (n m : ℕ) (A : ℕ → ℕ → R) (grid : IsGrid ring (suc m) A) (r c : ℕ) (row_in : r ≤ n) (column_in : c ≤ m) (w : R) (w_value : IsValue w) (unit_left : A r c ⊗ w ≡ 1ᵣ) (unit_right : w ⊗ A r c ≡ 1ᵣ) where
    va : (i j : ℕ) → IsValue (A i j)
    va i j = (grid i).value j

    abbrev new : ℕ → ℕ → R
    new = eliminated ring A r c w

    new_value : (i j : ℕ) → IsValue (new i j)
    new_value i j = laws.add_value _ _ (va (skip r i) (skip c j)) (laws.neg_value _ (laws.mul_value _ _ (va (skip r i) c) (laws.mul_value w (A r (skip c j)) w_value (va r (skip c j)))))

    pub new_grid : IsGrid ring m new
    new_grid i = record {
      value = new_value i;
      end = λ j l.
          let z : (k : ℕ) → A k (skip c j) ≡ 0ᵣ = λ k. ap (A k) (skip_above c j (omega arith)) ∙ (grid k).end (suc j) (omega arith) in
          (λ t. z (skip r i) t ⊕ neg (A (skip r i) c ⊗ (w ⊗ z r t)))
          ∙ ap (λ x. 0ᵣ ⊕ neg x) (ap (λ y. A (skip r i) c ⊗ y) (mul_zero laws w w_value) ∙ mul_zero laws (A (skip r i) c) (va (skip r i) c)) ∙ laws.add_neg 0ᵣ laws.zero_value;
    }

    -- the entry at r of a relation of column c with the other entries d
    abbrev solved : (ℕ → R) → R
    solved d = neg (Sum n (λ i. d i ⊗ A (skip r i) c) ⊗ w)

    rest_value : (d : ℕ → R) (j : ℕ) → Values ring d → IsValue (Sum n (λ i. d i ⊗ A (skip r i) j))
    rest_value d j v = sum_value laws n (λ i. d i ⊗ A (skip r i) j) (λ i. laws.mul_value (d i) (A (skip r i) j) (v i) (va (skip r i) j))

    solved_value : (d : ℕ → R) → Values ring d → IsValue (solved d)
    solved_value d v = laws.neg_value _ (laws.mul_value _ w (rest_value d c v) w_value)

    solved_zeros : solved (zeros ring) ≡ 0ᵣ
    solved_zeros =
        ap neg (ap (λ x. x ⊗ w) (ap (Sum n) (λ k i. zero_mul laws (A (skip r i) c) (va (skip r i) c) k) ∙ sum_zero laws n) ∙ zero_mul laws w w_value)
        ∙ neg_zero laws

    put_zeros : (k : ℕ) (x : R) → x ≡ 0ᵣ → put k x (zeros ring) ≡ zeros ring
    put_zeros k x e = λ t i. every_place (λ i. put k x (zeros ring) i ≡ 0ᵣ) k (put_same k x (zeros ring) ∙ e) (λ j. put_other k x (zeros ring) j) i t

    pub without_row : Retract ring (suc n) n
    without_row = record {
      to = λ d i. d (skip r i);
      from = λ d. put r (solved d) d;
      to_row = λ d h. record { value = λ i. h.value (skip r i); end = λ i l. ap d (skip_above r i (omega arith)) ∙ h.end (suc i) (omega arith) };
      from_row = λ d h. put_row laws r n (solved d) d row_in (solved_value d h.value) h;
      to_zeros = refl;
      from_zeros = put_zeros r (solved (zeros ring)) solved_zeros;
      to_from = λ d h. λ k i. put_other r (solved d) d i k;
    }

    abbrev pushed : (ℕ → R) → ℕ → R
    pushed e j = e (skip c j) ⊕ neg (e c ⊗ (w ⊗ A r (skip c j)))

    pv : (j : ℕ) → IsValue (w ⊗ A r (skip c j))
    pv j = laws.mul_value w (A r (skip c j)) w_value (va r (skip c j))

    less_zero : (x y : R) → IsValue x → IsValue y → x ⊕ neg (0ᵣ ⊗ y) ≡ x
    less_zero x y vx vy = ap (λ z. x ⊕ neg z) (zero_mul laws y vy) ∙ ap (λ z. x ⊕ z) (neg_zero laws) ∙ laws.add_zero x vx

    pub without_column : Retract ring (suc m) m
    without_column = record {
      to = pushed;
      from = put c 0ᵣ;
      to_row = λ e h. record {
        value = λ j. laws.add_value _ _ (h.value (skip c j)) (laws.neg_value _ (laws.mul_value _ _ (h.value c) (pv j)));
        end = λ j l.
            let s = skip_above c j (omega arith) in
            (λ t. (ap e s ∙ h.end (suc j) (omega arith)) t ⊕ neg (e c ⊗ (w ⊗ (ap (A r) s ∙ (grid r).end (suc j) (omega arith)) t)))
            ∙ ap (λ x. 0ᵣ ⊕ neg x) (ap (λ y. e c ⊗ y) (mul_zero laws w w_value) ∙ mul_zero laws (e c) (h.value c)) ∙ laws.add_neg 0ᵣ laws.zero_value;
      };
      from_row = λ e h. put_row laws c m 0ᵣ e column_in laws.zero_value h;
      to_zeros = λ t j. less_zero 0ᵣ (w ⊗ A r (skip c j)) laws.zero_value (pv j) t;
      from_zeros = put_zeros c 0ᵣ refl;
      to_from = λ e h. λ t j. ((λ k. put_other c 0ᵣ e j k ⊕ neg (put_same c 0ᵣ e k ⊗ (w ⊗ A r (skip c j)))) ∙ less_zero (e j) (w ⊗ A r (skip c j)) (h.value j) (pv j)) t;
    }

    -- (x u) (w a) = x a
    through : (x a : R) → IsValue x → IsValue a → (x ⊗ A r c) ⊗ (w ⊗ a) ≡ x ⊗ a
    through x a vx v =
        laws.mul_assoc x (A r c) (w ⊗ a) vx (va r c) (laws.mul_value w a w_value v)
        ∙ ap (λ y. x ⊗ y) (sym (laws.mul_assoc (A r c) w a (va r c) w_value v) ∙ ap (λ y. y ⊗ a) unit_left ∙ laws.one_mul a v)

    -- the matrix of the unit
    pub middle_square : IsSquare ring (suc n) n (suc m) m without_row without_column A new
    unfolding without_row without_column
    middle_square = record { to = λ d h. λ t j. onto d h j t; from = λ d h. λ t j. every_place (λ j. combine ring (suc n) (put r (solved d) d) A j ≡ put c 0ᵣ (combine ring n d new) j) c (here d h) (there d h) j t }
      where
        onto : (d : ℕ → R) → Row (suc n) d → (j : ℕ) → combine ring n (λ i. d (skip r i)) new j ≡ pushed (combine ring (suc n) d A) j
        onto d h j =
            let J = skip c j in
            let y = w ⊗ A r J in
            let d' : ℕ → R = λ i. d (skip r i) in
            let vd' : Values ring d' = λ i. h.value (skip r i) in
            let SJ = Sum n (λ i. d' i ⊗ A (skip r i) J) in
            let Sc = Sum n (λ i. d' i ⊗ A (skip r i) c) in
            let t = d r ⊗ A r J in
            let vt = laws.mul_value (d r) (A r J) (h.value r) (va r J) in
            let split : (k : ℕ) → combine ring (suc n) d A k ≡ d r ⊗ A r k ⊕ Sum n (λ i. d' i ⊗ A (skip r i) k) = λ k. sum_skip laws r n (λ i. d i ⊗ A i k) (λ i. laws.mul_value (d i) (A i k) (h.value i) (va i k)) row_in in
            reduce_sum n d' (λ i. A (skip r i) J) (λ i. A (skip r i) c) y vd' (λ i. va (skip r i) J) (λ i. va (skip r i) c) (pv j)
            ∙ sym ((λ k. split J k ⊕ neg (split c k ⊗ y))
            ∙ ap (λ x. (t ⊕ SJ) ⊕ neg x) (laws.add_mul (d r ⊗ A r c) Sc y (laws.mul_value (d r) (A r c) (h.value r) (va r c)) (rest_value d' c vd') (pv j)
            ∙ ap (λ x. x ⊕ Sc ⊗ y) (through (d r) (A r J) (h.value r) (va r J)))
            ∙ drop_both laws t SJ (Sc ⊗ y) vt (rest_value d' J vd') (laws.mul_value Sc y (rest_value d' c vd') (pv j)))

        here : (d : ℕ → R) → Row n d → combine ring (suc n) (put r (solved d) d) A c ≡ put c 0ᵣ (combine ring n d new) c
        here d h =
            let S = Sum n (λ i. d i ⊗ A (skip r i) c) in
            let vS = rest_value d c h.value in
            combine_put laws r n (suc m) (solved d) d A (solved_value d h.value) h.value grid row_in c
            ∙ ap (λ x. x ⊕ S) (neg_mul laws (S ⊗ w) (A r c) (laws.mul_value S w vS w_value) (va r c)
            ∙ ap neg (laws.mul_assoc S w (A r c) vS w_value (va r c) ∙ ap (λ x. S ⊗ x) unit_right ∙ laws.mul_one S vS))
            ∙ neg_add_self laws S vS ∙ sym (put_same c 0ᵣ (combine ring n d new))

        there : (d : ℕ → R) → Row n d → (j : ℕ) → combine ring (suc n) (put r (solved d) d) A (skip c j) ≡ put c 0ᵣ (combine ring n d new) (skip c j)
        there d h j =
            let J = skip c j in
            let S = Sum n (λ i. d i ⊗ A (skip r i) c) in
            let vS = rest_value d c h.value in
            let SJ = Sum n (λ i. d i ⊗ A (skip r i) J) in
            let y = w ⊗ A r J in
            let vn = laws.neg_value _ (laws.mul_value S y vS (pv j)) in
            combine_put laws r n (suc m) (solved d) d A (solved_value d h.value) h.value grid row_in J
            ∙ ap (λ x. x ⊕ SJ) (neg_mul laws (S ⊗ w) (A r J) (laws.mul_value S w vS w_value) (va r J) ∙ ap neg (laws.mul_assoc S w (A r J) vS w_value (va r J)))
            ∙ laws.add_comm (neg (S ⊗ y)) SJ vn (rest_value d J h.value)
            ∙ sym (reduce_sum n d (λ i. A (skip r i) J) (λ i. A (skip r i) c) y h.value (λ i. va (skip r i) J) (λ i. va (skip r i) c) (pv j))
            ∙ sym (put_other c 0ᵣ (combine ring n d new) j)

    -- the matrix whose columns are the rows
    pub upper_square : (q : ℕ) (N : ℕ → ℕ → R) → IsGrid ring (suc n) N → ((d : ℕ → R) → Row q d → combine ring (suc n) (combine ring q d N) A ≡ zeros ring)
        → IsSquare ring q q (suc n) n (unchanged ring q) without_row N (λ i j. N i (skip r j))
    unfolding without_row
    upper_square q N gn zero_product = record {
      to = λ d h. refl;
      from = λ d h. λ t i. every_place (λ i. combine ring q d N i ≡ put r (solved (λ j. combine ring q d N (skip r j))) (λ j. combine ring q d N (skip r j)) i) r
          (at_r d h ∙ sym (put_same r _ _)) (λ j. sym (put_other r (solved (λ j. combine ring q d N (skip r j))) (λ j. combine ring q d N (skip r j)) j)) i t;
    }
      where
        at_r : (d : ℕ → R) → Row q d → combine ring q d N r ≡ solved (λ j. combine ring q d N (skip r j))
        at_r d h =
            let e = combine ring q d N in
            let he = combine_row laws q (suc n) d N h.value gn in
            let x = e r in
            let vx = he.value r in
            let S = Sum n (λ i. e (skip r i) ⊗ A (skip r i) c) in
            let vS = rest_value (λ i. e (skip r i)) c (λ i. he.value (skip r i)) in
            let xu = laws.mul_value x (A r c) vx (va r c) in
            let z : x ⊗ A r c ⊕ S ≡ 0ᵣ = sym (sum_skip laws r n (λ i. e i ⊗ A i c) (λ i. laws.mul_value (e i) (A i c) (he.value i) (va i c)) row_in) ∙ (λ k. zero_product d h k c) in
            let s : S ≡ neg (x ⊗ A r c) = neg_unique laws (x ⊗ A r c) S xu vS z in
            sym (neg_neg laws x vx)
            ∙ ap neg (sym (ap (λ y. y ⊗ w) s ∙ neg_mul laws (x ⊗ A r c) w xu w_value ∙ ap neg (laws.mul_assoc x (A r c) w vx (va r c) w_value ∙ ap (λ y. x ⊗ y) unit_left ∙ laws.mul_one x vx)))

    -- the matrix whose rows are the columns
    pub lower_square : (l : ℕ) (L : ℕ → ℕ → R) → IsGrid ring l L → combine ring (suc m) (A r) L ≡ zeros ring
        → IsSquare ring (suc m) m l l without_column (unchanged ring l) L (λ i. L (skip c i))
    unfolding without_column
    lower_square l L gl zero_product = record { to = λ e h. λ t k. onto e h k t; from = λ e h. λ t k. back e h k t }
      where
        onto : (e : ℕ → R) → Row (suc m) e → (k : ℕ) → combine ring m (pushed e) (λ i. L (skip c i)) k ≡ combine ring (suc m) e L k
        onto e h k =
            let a : ℕ → R = λ j. A r (skip c j) in
            let b : ℕ → R = λ j. L (skip c j) k in
            let vb : Values ring b = λ j. (gl (skip c j)).value k in
            let ab : (j : ℕ) → IsValue (a j ⊗ b j) = λ j. laws.mul_value (a j) (b j) (va r (skip c j)) (vb j) in
            let wab : (j : ℕ) → IsValue (w ⊗ (a j ⊗ b j)) = λ j. laws.mul_value w (a j ⊗ b j) w_value (ab j) in
            let ewab : (j : ℕ) → IsValue (e c ⊗ (w ⊗ (a j ⊗ b j))) = λ j. laws.mul_value (e c) _ (h.value c) (wab j) in
            let eb : (j : ℕ) → IsValue (e (skip c j) ⊗ b j) = λ j. laws.mul_value _ _ (h.value (skip c j)) (vb j) in
            let T = Sum m (λ j. e (skip c j) ⊗ b j) in
            let Z = Sum m (λ j. a j ⊗ b j) in
            let vT = sum_value laws m (λ j. e (skip c j) ⊗ b j) eb in
            let vZ = sum_value laws m (λ j. a j ⊗ b j) ab in
            let lc = L c k in
            let vl = (gl c).value k in
            let ul = laws.mul_value (A r c) lc (va r c) vl in
            let z : A r c ⊗ lc ⊕ Z ≡ 0ᵣ = sym (sum_skip laws c m (λ j. A r j ⊗ L j k) (λ j. laws.mul_value (A r j) (L j k) (va r j) ((gl j).value k)) column_in) ∙ (λ t. zero_product t k) in
            let wz : w ⊗ Z ≡ neg lc = ap (λ y. w ⊗ y) (neg_unique laws (A r c ⊗ lc) Z ul vZ z) ∙ mul_neg laws w (A r c ⊗ lc) w_value ul
            ∙ ap neg (sym (laws.mul_assoc w (A r c) lc w_value (va r c) vl) ∙ ap (λ y. y ⊗ lc) unit_right ∙ laws.one_mul lc vl) in
            ap (Sum m) (λ t j. (laws.add_mul (e (skip c j)) (neg (e c ⊗ (w ⊗ a j))) (b j) (h.value (skip c j)) (laws.neg_value _ (laws.mul_value _ _ (h.value c) (pv j))) (vb j)
            ∙ ap (λ x. e (skip c j) ⊗ b j ⊕ x) (neg_mul laws (e c ⊗ (w ⊗ a j)) (b j) (laws.mul_value _ _ (h.value c) (pv j)) (vb j)
            ∙ ap neg (laws.mul_assoc (e c) (w ⊗ a j) (b j) (h.value c) (pv j) (vb j) ∙ ap (λ x. e c ⊗ x) (laws.mul_assoc w (a j) (b j) w_value (va r (skip c j)) (vb j))))) t)
            ∙ sum_add laws m (λ j. e (skip c j) ⊗ b j) (λ j. neg (e c ⊗ (w ⊗ (a j ⊗ b j)))) eb (λ j. laws.neg_value _ (ewab j))
            ∙ ap (λ x. T ⊕ x) (sum_neg laws m (λ j. e c ⊗ (w ⊗ (a j ⊗ b j))) ewab
            ∙ ap neg (sum_mul laws m (e c) (λ j. w ⊗ (a j ⊗ b j)) (h.value c) wab ∙ ap (λ x. e c ⊗ x) (sum_mul laws m w (λ j. a j ⊗ b j) w_value ab ∙ wz) ∙ mul_neg laws (e c) lc (h.value c) vl)
            ∙ neg_neg laws (e c ⊗ lc) (laws.mul_value (e c) lc (h.value c) vl))
            ∙ laws.add_comm T (e c ⊗ lc) vT (laws.mul_value (e c) lc (h.value c) vl)
            ∙ sym (sum_skip laws c m (λ j. e j ⊗ L j k) (λ j. laws.mul_value (e j) (L j k) (h.value j) ((gl j).value k)) column_in)

        back : (e : ℕ → R) → Row m e → (k : ℕ) → combine ring (suc m) (put c 0ᵣ e) L k ≡ combine ring m e (λ i. L (skip c i)) k
        back e h k =
            let v = combine_row laws m l e (λ i. L (skip c i)) h.value (λ i. gl (skip c i)) in
            combine_put laws c m l 0ᵣ e L laws.zero_value h.value gl column_in k
            ∙ ap (λ x. x ⊕ combine ring m e (λ i. L (skip c i)) k) (zero_mul laws (L c k) ((gl c).value k)) ∙ zero_add laws _ (v.value k)
