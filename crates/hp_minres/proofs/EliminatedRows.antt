-- One step of elimination on lists of rows, and the complex with a unit cancelled as lists.
use Rattle.std.specs.Prelude.{◌≡◌, ◌≢◌, ◌⊎◌, ℕ, zero, suc, ◌+◌, ◌<◌, ◌≤◌, List, [], ◌∷◌, map, length, All, remove, set, slice_index_or}
use Rattle.std.proofs.lemmas.List.{get_or_default, get_or-map, get_or-set_other, get_or-set_same, length-map, length-set, set-set}
use Rattle.std.proofs.lemmas.List.Edits.{length-remove}
use Rattle.std.proofs.lemmas.List.Elements.{All-nil, All-cons, All-head}
use mathlib.Core.Logic.{inl, inr}
use mathlib.Core.Path.{refl, sym, ap, ◌∙◌, subst}
use native.Mathlib.Omega.{arith}
use Rattle.hp_algebra.specs.Ring.{RingOf, IsRing, IsCommutative, IsField}
use Rattle.hp_algebra.proofs.Rings.{zero_mul, mul_zero}
use Rattle.hp_mono.specs.Monomials as mono
use Rattle.hp_mono.specs.Monomials.{Monomial, degree, max_degree}
use Rattle.hp_poly.specs.Polynomials.{Poly, IsPoly, IsHomogeneous, poly_degree, poly_neg, poly_plus, poly_ring, poly_times}
use Rattle.hp_poly.specs.PolyRing.{poly_is_ring}
use Rattle.hp_poly.specs.Degrees.{poly_weights, degree_most}
use Rattle.hp_module.specs.Vectors.{Vector}
use Rattle.hp_minres.specs.Grids.{skip, cell, eliminated}
use Rattle.hp_minres.specs.Reductions.{Rows, rows_at, level_degree, level_map, HasStep, IsGradedExact, IsUnitAt, IsCancelledAt, minus_multiple, inverse_constant, pivot_row, eliminated_rows, cancelled_maps, cancelled_degrees}
use Rattle.hp_minres.proofs.RangeSums.{three_ways, neg_zero, skip_range}
use Rattle.hp_minres.proofs.ConstantTerms.{constant_poly, constant_is, constant_is_poly, unit_inverse}
use Rattle.hp_minres.proofs.MinimalComplexes.{removed_at}
use Rattle.hp_minres.proofs.GradedComplexes.{past}
use Rattle.hp_minres.proofs.StartedComplexes.{same_list}

-- the map behind one that was replaced
pub second_map : {X : Type 0} (maps : List (List X)) (h : ℕ) (cut : List (List X)) (row now : List X) → cut ≡ set maps h row
    → now ≡ slice_index_or cut (h + 1) now → suc h < length maps → now ≡ slice_index_or maps (suc h) []
second_map maps h cut row now e f l =
    let one : h + 1 ≡ suc h = omega arith in
    f ∙ (λ t. slice_index_or (e t) (one t) now) ∙ get_or-set_other maps h (suc h) row now (λ q. omega (arith, q)) ∙ get_or_default maps (suc h) now [] l

module _ {F : Type 0} {ring : RingOf F} (laws : IsRing ring) (comm : IsCommutative ring) where
  abbrev PR : RingOf (Poly F)
  PR = poly_ring ring

  abbrev P : IsRing (poly_ring ring)
  P = poly_is_ring laws comm

  pub minus_length : (x : Poly F) (ys zs : Vector F) → length ys ≡ length zs → length (minus_multiple ring x ys zs) ≡ length ys
  minus_length x [] zs e = refl
  minus_length x (y ∷ ys) [] e = absurd (omega (arith, e))
  minus_length x (y ∷ ys) (z ∷ zs) e = ap suc (minus_length x ys zs (omega (arith, e)))

  pub minus_at : (x : Poly F) (ys zs : Vector F) → length ys ≡ length zs → (j : ℕ) → j < length ys
      → slice_index_or (minus_multiple ring x ys zs) j [] ≡ poly_plus ring (slice_index_or ys j []) (poly_neg ring (poly_times ring x (slice_index_or zs j [])))
  minus_at x [] zs e j l = absurd (omega (arith, l))
  minus_at x (y ∷ ys) [] e j l = absurd (omega (arith, e))
  minus_at x (y ∷ ys) (z ∷ zs) e zero l = refl
  minus_at x (y ∷ ys) (z ∷ zs) e (suc j) l = minus_at x ys zs (omega (arith, e)) j (omega (arith, l))

  -- y - 0 z and y - x 0
  pub less_left : (y z : Poly F) → IsPoly ring y → IsPoly ring z → poly_plus ring y (poly_neg ring (poly_times ring [] z)) ≡ y
  less_left y z vy vz = ap (λ q. PR.add y (PR.neg q)) (zero_mul P z vz) ∙ ap (PR.add y) (neg_zero P) ∙ P.add_zero y vy

  pub less_right : (y x : Poly F) → IsPoly ring y → IsPoly ring x → poly_plus ring y (poly_neg ring (poly_times ring x [])) ≡ y
  less_right y x vy vx = ap (λ q. PR.add y (PR.neg q)) (mul_zero P x vx) ∙ ap (PR.add y) (neg_zero P) ∙ P.add_zero y vy

  -- nothing is taken away where the factor is zero
  pub minus_nothing : (x : Poly F) (ys zs : Vector F) → x ≡ [] → length ys ≡ length zs → All (IsPoly ring) ys → All (IsPoly ring) zs
      → ys ≡ minus_multiple ring x ys zs
  minus_nothing x ys zs z e hy hz = same_list [] ys (minus_multiple ring x ys zs) (sym (minus_length x ys zs e)) (λ j l.
      let m = minus_length x ys zs e in
      let ly : j < length ys = omega (arith, m, l) in
      sym (minus_at x ys zs e j ly ∙ ap (λ u. PR.add (slice_index_or ys j []) (PR.neg (PR.mul u (slice_index_or zs j [])))) z
      ∙ less_left _ _ (hy j [] ly) (hz j [] (omega (arith, ly, e)))))

  -- The entries of ys before place k have been replaced.
  pub record IsEliminating (x : Poly F) (ys zs : Vector F) (k : ℕ) (entries : Vector F) : Type 0 where
    pub same_length : length entries ≡ length ys
    pub done : (j : ℕ) → j < k → slice_index_or entries j [] ≡ poly_plus ring (slice_index_or ys j []) (poly_neg ring (poly_times ring x (slice_index_or zs j [])))
    pub rest : (j : ℕ) → k ≤ j → slice_index_or entries j [] ≡ slice_index_or ys j []

  module _ (x : Poly F) (ys zs : Vector F) (e : length ys ≡ length zs) where
    pub eliminating-start : IsEliminating x ys zs 0 ys
    eliminating-start = record { same_length = refl; done = λ j l. absurd (omega (arith, l)); rest = λ j l. refl }

    pub eliminating-end : (k : ℕ) (entries : Vector F) → length zs ≤ k → IsEliminating x ys zs k entries → entries ≡ minus_multiple ring x ys zs
    eliminating-end k entries l h =
        let m = minus_length x ys zs e in
        same_list [] entries (minus_multiple ring x ys zs) (h.same_length ∙ sym m)
        (λ j b. h.done j (omega (arith, m, b, e, l)) ∙ sym (minus_at x ys zs e j (omega (arith, m, b))))

    module _ (k : ℕ) (entries : Vector F) (l : k < length zs) (h : IsEliminating x ys zs k entries) where
      next_done : (entries' : Vector F) → ((j : ℕ) → j < k → slice_index_or entries' j [] ≡ slice_index_or entries j [])
          → slice_index_or entries' k [] ≡ poly_plus ring (slice_index_or ys k []) (poly_neg ring (poly_times ring x (slice_index_or zs k [])))
          → (j : ℕ) → j < k + 1 → slice_index_or entries' j [] ≡ poly_plus ring (slice_index_or ys j []) (poly_neg ring (poly_times ring x (slice_index_or zs j [])))
      next_done entries' same here j b = pick (three_ways j k)
        where
          pick : (j < k) ⊎ ((j ≡ k) ⊎ (k < j)) → slice_index_or entries' j [] ≡ poly_plus ring (slice_index_or ys j []) (poly_neg ring (poly_times ring x (slice_index_or zs j [])))
          pick (inl a) = same j a ∙ h.done j a
          pick (inr (inl q)) =
              ap (λ t. slice_index_or entries' t []) q ∙ here
              ∙ ap (λ t. poly_plus ring (slice_index_or ys t []) (poly_neg ring (poly_times ring x (slice_index_or zs t [])))) (sym q)
          pick (inr (inr a)) = absurd (omega (arith, a, b))

      pub eliminating-set : (sum : Poly F) → sum ≡ poly_plus ring (slice_index_or entries k []) (poly_neg ring (poly_times ring x (slice_index_or zs k [])))
          → IsEliminating x ys zs (k + 1) (set entries k sum)
      eliminating-set sum is =
          let inside : k < length entries = let a = h.same_length in omega (arith, a, e, l) in
          record {
            same_length = length-set entries k sum ∙ h.same_length;
            done = next_done (set entries k sum) (λ j a. get_or-set_other entries k j sum [] (λ q. omega (arith, q, a)))
                (get_or-set_same entries k sum [] inside ∙ is
                ∙ ap (λ y. poly_plus ring y (poly_neg ring (poly_times ring x (slice_index_or zs k [])))) (h.rest k (omega arith)));
            rest = λ j a. get_or-set_other entries k j sum [] (λ q. omega (arith, q, a)) ∙ h.rest j (omega (arith, a));
          }

      pub eliminating-skip : IsPoly ring x → All (IsPoly ring) ys → slice_index_or zs k [] ≡ [] → IsEliminating x ys zs (k + 1) entries
      eliminating-skip vx hy z = record {
        same_length = h.same_length;
        done = next_done entries (λ j a. refl)
            (h.rest k (omega arith) ∙ sym (ap (λ q. poly_plus ring (slice_index_or ys k []) (poly_neg ring (poly_times ring x q))) z
            ∙ less_right _ x (hy k [] (omega (arith, e, l))) vx));
        rest = λ j a. h.rest j (omega (arith, a));
      }

module _ {F : Type 0} {ring : RingOf F} {inverse : F → F} (field : IsField ring inverse) where
  abbrev L : IsRing ring
  L = field.is_ring

  abbrev C : IsCommutative ring
  C = field.commutes

  -- the inverse of a constant other than zero
  pub record IsUnitOf (p w : Poly F) : Type 0 where
    pub value : IsPoly ring w
    pub is_constant : IsHomogeneous ring 0 w
    pub times : poly_times ring w p ≡ (poly_ring ring).one

  unit_of : (x : F) (p : Poly F) → ring.IsValue x → x ≢ ring.zero → p ≡ (mono.one, x) ∷ [] → IsUnitOf p (inverse_constant ring inverse p)
  unit_of x p v n e =
      let vi = field.inverse_value x v n in
      let one : ring.mul (inverse x) x ≡ ring.one = C (inverse x) x vi v ∙ field.mul_inverse x v n in
      let ni : inverse x ≢ ring.zero = λ z. field.one_zero (sym one ∙ ap (λ y. ring.mul y x) z ∙ zero_mul L x v) in
      let is : inverse_constant ring inverse p ≡ (mono.one, inverse x) ∷ [] = ap (inverse_constant ring inverse) e ∙ constant_is field (inverse x) vi ni in
      let Z : Monomial × F → Type 0 = λ t. degree t.0 ≡ 0 in
      record {
        value = subst (IsPoly ring) (sym is) (constant_is_poly field (inverse x) vi ni);
        is_constant = subst (All Z) (sym is) (All-cons Z (mono.one, inverse x) [] refl (All-nil Z));
        times = (λ t. poly_times ring (is t) (e t)) ∙ (unit_inverse field x v n).1;
      }

  -- an entry of degree 0 that is not zero
  pub degree_zero_unit : (a b : ℕ) (p : Poly F) → IsPoly ring p → HasStep a b p → a ≡ b → p ≢ [] → IsUnitOf p (inverse_constant ring inverse p)
  degree_zero_unit a b p h s e n = pick (constant_poly L C p h (λ k d l. omega (arith, s k d l, e)))
    where
      pick : (p ≡ []) ⊎ ((x : F) × ring.IsValue x × (x ≢ ring.zero) × (p ≡ (mono.one, x) ∷ [])) → IsUnitOf p (inverse_constant ring inverse p)
      pick (inl z) = absurd (n z)
      pick (inr u) = unit_of u.0 p u.1 u.2 u.3

  pub pivot_length : (row : Vector F) (c : ℕ) → c < length row → length (pivot_row ring inverse row c) + 1 ≡ length row
  pivot_length row c l =
      let a = length-map (remove row c) (poly_times ring (inverse_constant ring inverse (slice_index_or row c []))) in
      let b = length-remove row c l in
      omega (arith, a, b)

  module _ {width : ℕ} {maps : List (Rows F)} {degrees : List (List ℕ)} (x : IsGradedExact ring width maps degrees) (h r c : ℕ)
      (row_in : r < length (rows_at maps (suc h))) (column_in : c < length (rows_at maps h))
      (same : level_degree degrees (suc h) c ≡ level_degree degrees (suc (suc h)) r) (nonzero : level_map ring maps (suc h) r c ≢ []) where
    abbrev A : ℕ → ℕ → ℕ → Poly F
    A = level_map ring maps

    abbrev w : Poly F
    w = inverse_constant ring inverse (level_map ring maps (suc h) r c)

    unit : IsUnitOf (level_map ring maps (suc h) r c) w
    unit = degree_zero_unit _ _ (A (suc h) r c) ((x.grid (suc h) r).value c) (x.steps (suc h) r c) same nonzero

    abbrev rows : Rows F
    rows = rows_at maps (suc h)

    abbrev others : Vector F
    others = pivot_row ring inverse (slice_index_or rows r []) c

    wide : (i : ℕ) → i < length rows → length (slice_index_or rows i []) ≡ length (rows_at maps h)
    wide i l = x.widths (suc h) i l

    pub unit_at : IsUnitAt ring maps degrees h r c (inverse_constant ring inverse (level_map ring maps (suc h) r c))
    unit_at = record {
      row_in = row_in;
      column_in = column_in;
      same_degree = same;
      value = unit.value;
      constant = unit.is_constant;
      inverse = unit.times;
    }

    -- in range
    pub map_in : suc h < length maps
    map_in = pick (three_ways (suc h) (length maps))
      where
        out : length maps ≤ suc h → suc h < length maps
        out l = absurd (let e = ap length (past maps (suc h) [] l) in omega (arith, e, row_in))

        pick : (suc h < length maps) ⊎ ((suc h ≡ length maps) ⊎ (length maps < suc h)) → suc h < length maps
        pick (inl l) = l
        pick (inr (inl e)) = out (omega (arith, e))
        pick (inr (inr l)) = out (omega (arith, l))

    -- ---- the products stay within the degrees

    first_weight : (a b : ℕ) (p : Poly F) → p ≢ [] → HasStep a b p → poly_degree ring p + a ≤ b
    first_weight a b [] n s = absurd (n refl)
    first_weight a b (t ∷ p) n s =
        let D : Monomial × F → Type 0 = λ u. degree u.0 + a ≡ b in
        let d : degree t.0 + a ≡ b = All-head D t p s in
        let m = degree_most L C (degree t.0) (t ∷ p) (λ k u l. let e = s k u l in omega (arith, e, d)) in
        omega (arith, d, m)

    weight_times : (p : Poly F) → IsPoly ring p → poly_degree ring (poly_times ring w p) ≤ poly_degree ring p
    weight_times p v =
        let m = (poly_weights L C).of_product w p unit.value v in
        let z = degree_most L C 0 w (λ k t l. let e = unit.is_constant k t l in omega (arith, e)) in
        omega (arith, m, z)

    product_low : (i j : ℕ) → poly_degree ring (A (suc h) i c) + poly_degree ring (A (suc h) r j) ≤ max_degree
    product_low i j = pick (A (suc h) i c) refl (A (suc h) r j) refl
      where
        vrj : IsPoly ring (A (suc h) r j)
        vrj = (x.grid (suc h) r).value j

        none : (p : Poly F) (t : Monomial × F) (q : Poly F) → p ≡ t ∷ q → p ≢ []
        none p t q e z = absurd (let l = ap length (sym e ∙ z) in omega (arith, l))

        pick : (p : Poly F) → A (suc h) i c ≡ p → (q : Poly F) → A (suc h) r j ≡ q
            → poly_degree ring (A (suc h) i c) + poly_degree ring (A (suc h) r j) ≤ max_degree
        pick [] e [] f = subst (λ n. n ≤ max_degree) (λ t. poly_degree ring (sym e t) + poly_degree ring (sym f t)) (omega arith)
        pick [] e (u ∷ q) f =
            let b = first_weight _ _ (A (suc h) r j) (none _ u q f) (x.steps (suc h) r j) in
            let d = x.low (suc (suc h)) r in
            let z = ap (poly_degree ring) e in
            omega (arith, b, d, z)
        pick (t ∷ p) e [] f =
            let a = first_weight _ _ (A (suc h) i c) (none _ t p e) (x.steps (suc h) i c) in
            let d = x.low (suc (suc h)) i in
            let z = ap (poly_degree ring) f in
            omega (arith, a, d, z)
        pick (t ∷ p) e (u ∷ q) f =
            let a = first_weight _ _ (A (suc h) i c) (none _ t p e) (x.steps (suc h) i c) in
            let b = first_weight _ _ (A (suc h) r j) (none _ u q f) (x.steps (suc h) r j) in
            let d = x.low (suc (suc h)) i in
            omega (arith, a, b, d, same)

    other_at : (j : ℕ) → j + 1 < length (rows_at maps h) → slice_index_or others j [] ≡ poly_times ring w (A (suc h) r (skip c j))
    other_at j l =
        let row = slice_index_or rows r [] in
        let wr = wide r row_in in
        let cut = length-remove row c (subst (λ n. c < n) (sym wr) column_in) in
        get_or-map (poly_times ring w) (remove row c) j [] [] (omega (arith, cut, wr, l))
        ∙ ap (poly_times ring w) (removed_at row c [] j (subst (λ n. c < n) (sym wr) column_in))

    other_length : length others + 1 ≡ length (rows_at maps h)
    other_length = pivot_length (slice_index_or rows r []) c (subst (λ n. c < n) (sym (wide r row_in)) column_in) ∙ wide r row_in

    pub products_low : All (λ row. All (λ z. poly_degree ring (slice_index_or row c []) + poly_degree ring z ≤ max_degree)
        (pivot_row ring inverse (slice_index_or (rows_at maps (suc h)) r []) c)) (rows_at maps (suc h))
    products_low i d l j e m =
        let row = get_or_default rows i d [] l in
        let z = get_or_default others j e [] m ∙ other_at j (let n = other_length in omega (arith, n, m)) in
        let v = (x.grid (suc h) r).value (skip c j) in
        let a = product_low i (skip c j) in
        let b = weight_times (A (suc h) r (skip c j)) v in
        let p = ap (λ (u : Vector F). poly_degree ring (slice_index_or u c [])) row in
        let q = ap (poly_degree ring) z in
        omega (arith, a, b, p, q)

    pub columns_same : All (λ row. length row ≡ length (slice_index_or (rows_at maps (suc h)) r [])) (rows_at maps (suc h))
    columns_same i d l = ap length (get_or_default rows i d [] l) ∙ wide i l ∙ sym (wide r row_in)

    pub column_inside : c < length (slice_index_or (rows_at maps (suc h)) r [])
    column_inside = subst (λ n. c < n) (sym (wide r row_in)) column_in

    pub columns_in : All (λ row. c < length row) (rows_at maps (suc h))
    columns_in i d l = subst (λ n. c < n) (sym (ap length (get_or_default rows i d [] l) ∙ wide i l)) column_in

    pub pivot_lengths : All (λ row. length (pivot_row ring inverse (slice_index_or (rows_at maps (suc h)) r []) c) + 1 ≡ length row) (rows_at maps (suc h))
    pivot_lengths i d l = other_length ∙ sym (ap length (get_or_default rows i d [] l) ∙ wide i l)

    -- the columns of the map behind
    pub upper_columns : All (λ row. r < length row) (rows_at maps (suc (suc h)))
    upper_columns i d l =
        subst (λ n. r < n) (sym (ap length (get_or_default (rows_at maps (suc (suc h))) i d [] l) ∙ x.widths (suc (suc h)) i l)) row_in

    -- ---- the lists after the cancellation

    middle : Rows F
    middle = eliminated_rows ring inverse rows r c

    row_of : Vector F → Vector F
    row_of row = minus_multiple ring (slice_index_or row c []) (remove row c) others

    middle_count : length (eliminated_rows ring inverse rows r c) + 1 ≡ length rows
    middle_count =
        let a = length-map (remove rows r) (λ (row : Vector F). minus_multiple ring (slice_index_or row c []) (remove row c) others) in
        let b = length-remove rows r row_in in
        omega (arith, a, b)

    middle_row : (i : ℕ) → i + 1 < length rows + 0 → slice_index_or (eliminated_rows ring inverse rows r c) i []
        ≡ minus_multiple ring (slice_index_or (slice_index_or rows (skip r i) []) c []) (remove (slice_index_or rows (skip r i) []) c) others
    middle_row i l =
        let b = length-remove rows r row_in in
        get_or-map (λ (row : Vector F). minus_multiple ring (slice_index_or row c []) (remove row c) others) (remove rows r) i [] [] (omega (arith, b, l))
        ∙ ap (λ (row : Vector F). minus_multiple ring (slice_index_or row c []) (remove row c) others) (removed_at rows r [] i row_in)

    old_row : (i : ℕ) → i + 1 < length rows + 0 → skip r i < length rows
    old_row i l =
        let s : suc (length (eliminated_rows ring inverse rows r c)) ≡ length rows = let m = middle_count in omega (arith, m) in
        subst (λ n. skip r i < n) s (skip_range r (length (eliminated_rows ring inverse rows r c)) i (omega (arith, s, l)))

    cut_length : (i : ℕ) → i < length rows → length (remove (slice_index_or rows i []) c) ≡ length others
    cut_length i l =
        let a = length-remove (slice_index_or rows i []) c (subst (λ n. c < n) (sym (wide i l)) column_in) in
        let b = wide i l in
        let d = other_length in
        omega (arith, a, b, d)

    middle_width : (i : ℕ) → i < length (eliminated_rows ring inverse rows r c)
        → length (slice_index_or (eliminated_rows ring inverse rows r c) i []) + 1 ≡ length (rows_at maps h)
    middle_width i l =
        let m = middle_count in
        let li : i + 1 < length rows + 0 = omega (arith, m, l) in
        let s = old_row i li in
        let a = ap length (middle_row i li) in
        let b = minus_length L C (slice_index_or (slice_index_or rows (skip r i) []) c []) (remove (slice_index_or rows (skip r i) []) c) others (cut_length (skip r i) s) in
        let d = cut_length (skip r i) s in
        let e = other_length in
        omega (arith, a, b, d, e)

    middle_entry : (i j : ℕ) → i < length (eliminated_rows ring inverse rows r c) → j + 1 < length (rows_at maps h)
        → cell (poly_ring ring) (eliminated_rows ring inverse rows r c) i j ≡ eliminated (poly_ring ring) (A (suc h)) r c w i j
    middle_entry i j l b =
        let m = middle_count in
        let li : i + 1 < length rows + 0 = omega (arith, m, l) in
        let s = old_row i li in
        let row = slice_index_or rows (skip r i) [] in
        let cl = cut_length (skip r i) s in
        let e = other_length in
        ap (λ (q : Vector F). slice_index_or q j []) (middle_row i li)
        ∙ minus_at L C (slice_index_or row c []) (remove row c) others cl j (omega (arith, cl, e, b))
        ∙ (λ t. poly_plus ring (removed_at row c [] j (subst (λ n. c < n) (sym (wide (skip r i) s)) column_in) t)
        (poly_neg ring (poly_times ring (slice_index_or row c []) (other_at j b t))))

    abbrev lower : Rows F
    lower = remove (rows_at maps h) c

    abbrev upper : Rows F
    upper = map (λ row. remove row r) (rows_at maps (suc (suc h)))

    abbrev m1 : List (Rows F)
    m1 = set maps h lower

    abbrev m2 : List (Rows F)
    m2 = set m1 (suc h) (eliminated_rows ring inverse rows r c)

    abbrev m3 : List (Rows F)
    m3 = cancelled_maps ring inverse maps h r c

    at_h : rows_at m3 h ≡ lower
    at_h =
        get_or-set_other m2 (suc (suc h)) h upper [] (λ e. omega (arith, e))
        ∙ get_or-set_other m1 (suc h) h (eliminated_rows ring inverse rows r c) [] (λ e. omega (arith, e))
        ∙ get_or-set_same maps h lower [] (omega (arith, map_in))

    at_middle : rows_at m3 (suc h) ≡ eliminated_rows ring inverse rows r c
    at_middle =
        let n = length-set maps h lower in
        get_or-set_other m2 (suc (suc h)) (suc h) upper [] (λ e. omega (arith, e))
        ∙ get_or-set_same m1 (suc h) (eliminated_rows ring inverse rows r c) [] (omega (arith, n, map_in))

    long : length m2 ≡ length maps
    long = length-set m1 (suc h) (eliminated_rows ring inverse rows r c) ∙ length-set maps h lower

    at_upper : rows_at m3 (suc (suc h)) ≡ upper
    at_upper = pick (three_ways (suc (suc h)) (length maps))
      where
        out : length maps ≤ suc (suc h) → rows_at m3 (suc (suc h)) ≡ upper
        out l =
            let n = length-set m2 (suc (suc h)) upper in
            past m3 (suc (suc h)) [] (omega (arith, n, long, l))
            ∙ sym (ap (map (λ (row : Vector F). remove row r)) (past maps (suc (suc h)) [] l))

        pick : (suc (suc h) < length maps) ⊎ ((suc (suc h) ≡ length maps) ⊎ (length maps < suc (suc h))) → rows_at m3 (suc (suc h)) ≡ upper
        pick (inl l) = get_or-set_same m2 (suc (suc h)) upper [] (omega (arith, long, l))
        pick (inr (inl e)) = out (omega (arith, e))
        pick (inr (inr l)) = out (omega (arith, l))

    pub degree_in : suc h < length degrees
    degree_in = let e = x.one_each in omega (arith, e, map_in)

    abbrev d1 : List (List ℕ)
    d1 = set degrees h (remove (slice_index_or degrees h []) c)

    pub cancelled_at : IsCancelledAt ring maps degrees h r c (inverse_constant ring inverse (level_map ring maps (suc h) r c))
        (cancelled_maps ring inverse maps h r c) (cancelled_degrees degrees h r c)
    cancelled_at = record {
      same_count = length-set m2 (suc (suc h)) upper ∙ long;
      lower = at_h;
      middle_rows = subst (λ (q : Rows F). length q + 1 ≡ length rows) (sym at_middle) middle_count;
      middle_widths = subst (λ (q : Rows F). (i : ℕ) → i < length q → length (slice_index_or q i []) + 1 ≡ length (rows_at maps h)) (sym at_middle) middle_width;
      middle = subst (λ (q : Rows F). (i j : ℕ) → i < length q → j + 1 < length (rows_at maps h)
          → cell (poly_ring ring) q i j ≡ eliminated (poly_ring ring) (A (suc h)) r c w i j) (sym at_middle) middle_entry;
      upper = at_upper;
      others = λ k a b d.
          get_or-set_other m2 (suc (suc h)) k upper [] d ∙ get_or-set_other m1 (suc h) k (eliminated_rows ring inverse rows r c) [] b
          ∙ get_or-set_other maps h k lower [] a;
      column_degrees =
          get_or-set_other d1 (suc h) h (remove (slice_index_or degrees (suc h) []) r) [] (λ e. omega (arith, e))
          ∙ get_or-set_same degrees h (remove (slice_index_or degrees h []) c) [] (omega (arith, degree_in));
      row_degrees =
          let n = length-set degrees h (remove (slice_index_or degrees h []) c) in
          get_or-set_same d1 (suc h) (remove (slice_index_or degrees (suc h) []) r) [] (omega (arith, n, degree_in));
      other_degrees = λ k a b.
          get_or-set_other d1 (suc h) k (remove (slice_index_or degrees (suc h) []) r) [] b
          ∙ get_or-set_other degrees h k (remove (slice_index_or degrees h []) c) [] a;
      degree_count = length-set d1 (suc h) (remove (slice_index_or degrees (suc h) []) r) ∙ length-set degrees h (remove (slice_index_or degrees h []) c);
    }

  -- the lists as the calls make them one after another
  pub cancelled_chain : (maps : List (Rows F)) (h r c : ℕ) (m1 : List (Rows F)) (dest E R : Rows F) (m3 : List (Rows F))
      → m1 ≡ set maps h (remove (rows_at maps h) c) → E ≡ eliminated_rows ring inverse R r c → R ≡ rows_at maps (suc h)
      → m3 ≡ set (set (set m1 (h + 1) dest) (h + 1) E) (h + 2) (map (λ row. remove row r) (rows_at (set (set m1 (h + 1) dest) (h + 1) E) (h + 2)))
      → m3 ≡ cancelled_maps ring inverse maps h r c
  cancelled_chain maps h r c m1 dest E R m3 e1 eE eR e3 =
      let one : h + 1 ≡ suc h = omega arith in
      let two : h + 2 ≡ suc (suc h) = omega arith in
      let lower = remove (rows_at maps h) c in
      let E' = eliminated_rows ring inverse (rows_at maps (suc h)) r c in
      let m2 : set (set m1 (h + 1) dest) (h + 1) E ≡ set (set maps h lower) (suc h) E' =
      set-set m1 (h + 1) dest E ∙ (λ t. set (e1 t) (one t) ((eE ∙ ap (λ (rows : Rows F). eliminated_rows ring inverse rows r c) eR) t)) in
      e3 ∙ (λ t. set (m2 t) (two t) (map (λ row. remove row r) (rows_at (m2 t) (two t))))
      ∙ ap (λ (rows : Rows F). set (set (set maps h lower) (suc h) E') (suc (suc h)) (map (λ row. remove row r) rows))
      (get_or-set_other (set maps h lower) (suc h) (suc (suc h)) E' [] (λ q. omega (arith, q))
      ∙ get_or-set_other maps h (suc (suc h)) lower [] (λ q. omega (arith, q)))
