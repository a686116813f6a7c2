-- Reduced rows with their pivots are a reduced row echelon form.
use Rattle.std.proofs.Common.{◌≡◌, ◌≢◌, ◌⊎◌, ℕ, ◌+◌, ◌-◌, ◌<◌, ◌≤◌, ◌==◌, cond, List, [], map, length, get_or, Some, refl, sym, ap, subst, ◌∙◌, arith, inl, inr}
use Rattle.std.specs.Prelude.{slice_get}
use Rattle.std.proofs.lemmas.Bool.{cases_eq, eq-eqb, ne_eqb}
use Rattle.std.proofs.lemmas.List.{length-map, get_or-map}
use Rattle.std.proofs.lemmas.Option.{slice_get-get_or, slice_get_within, same_Some}
use Rattle.std.proofs.lemmas.List.Elements.{All-map, Contains-get_or}
use Rattle.hp_algebra.specs.Ring.{RingOf, IsRing}
use Rattle.hp_algebra.specs.Rows.{entry}
use Rattle.hp_linear.specs.Spaces.{HaveSameSpan}
use Rattle.hp_linear.specs.Matrices.{Matrix, IsEchelonForm}
use Rattle.hp_linear.specs.Echelon.{PivotRow, IsReduced, IsLeftOf, rows_of}
use Rattle.hp_lists.proofs.Ordered.{Ordered-at}
use Rattle.hp_linear.proofs.Reduction.{reduced-rows}
use Rattle.hp_linear.proofs.Units.{reduced-units}

-- what is read in a mapped list
read_map : {X Y : Type 0} (f : X → Y) (xs : List X) (k : ℕ) (d : X) (y : Y) → slice_get (map f xs) k ≡ Some y
    → (k < length xs) × (f (get_or xs k d) ≡ y)
read_map f xs k d y e =
    let inside : k < length xs = subst (λ n. k < n) (length-map xs f) (slice_get_within (map f xs) k y e) in
    (inside, sym (get_or-map f xs k d y inside) ∙ same_Some _ _ (sym (slice_get-get_or (map f xs) k y (subst (λ n. k < n) (sym (length-map xs f)) inside)) ∙ e))

module _ {R : Type 0} {ring : RingOf R} (laws : IsRing ring) where
  -- the columns of the pivots, counted from 1
  abbrev pub pivots_of : List (PivotRow R) → List ℕ
  pivots_of kept = map (λ p. p.column + 1) kept

  pub reduced-form : (m : Matrix R) (kept : List (PivotRow R)) → IsReduced ring m.cols kept
      → HaveSameSpan ring m.cols m.rows (rows_of ring kept)
      → IsEchelonForm ring m record { cols = m.cols; rows = rows_of ring kept } (pivots_of kept)
  reduced-form m kept is same = record {
    matrix = reduced-rows laws m.cols kept is;
    cols = refl;
    same_space = same;
    one_each = length-map kept number ∙ sym (length-map kept row_of);
    rising = λ k l. rises k (subst (λ n. k + 1 < n) (length-map kept number) l);
    in_range = All-map (λ c. (1 ≤ c) × (c ≤ m.cols)) number kept (λ k d l. (let h = (is.each _ (Contains-get_or kept k d l)).inside in (omega arith, omega (arith, h))));
    first = λ k j c row er ec low high. first k j c row (read_map row_of kept k none row er) (read_map number kept k none c ec) low high;
    unit = λ k h c row er ec. unit k h c row (read_map row_of kept h none row er) (read_map number kept k none c ec) (cases_eq h k);
  }
    where
      row_of : PivotRow R → List R
      row_of p = p.entries

      number : PivotRow R → ℕ
      number p = p.column + 1

      none : PivotRow R
      none = record { column = 0; entries = [] }

      rises : (k : ℕ) → k + 1 < length kept
          → get_or (map (λ (p : PivotRow R). p.column + 1) kept) k 0 < get_or (map (λ (p : PivotRow R). p.column + 1) kept) (k + 1) 0
      rises k l =
          let left = Ordered-at (IsLeftOf ring) kept k (k + 1) none is.ordered (omega arith) l in
          let a = get_or-map number kept k none 0 (omega arith) in
          let b = get_or-map number kept (k + 1) none 0 l in
          omega (arith, a, b, left.left)

      first : (k j c : ℕ) (row : List R) → (k < length kept) × ((get_or kept k none).entries ≡ row)
          → (k < length kept) × ((get_or kept k none).column + 1 ≡ c) → 1 ≤ j → j < c
          → entry ring row (j - 1) ≡ ring.zero
      first k j c row r p low high =
          subst (λ v. entry ring v (j - 1) ≡ ring.zero) r.1 ((is.each _ (Contains-get_or kept k none r.0)).first (j - 1) (omega (arith, p.1)))

      unit : (k h c : ℕ) (row : List R) → (h < length kept) × ((get_or kept h none).entries ≡ row)
          → (k < length kept) × ((get_or kept k none).column + 1 ≡ c) → (h ≡ k) ⊎ (h ≢ k)
          → entry ring row (c - 1) ≡ cond (h == k) ring.one ring.zero
      unit k h c row r p (inl e) =
          let u = reduced-units laws m.cols kept is in
          let at : (get_or kept k none).column ≡ c - 1 = omega (arith, p.1) in
          sym (ap (λ v. entry ring v (c - 1)) r.1) ∙ ap (entry ring (get_or kept h none).entries) (sym at) ∙ ap (λ n. entry ring (get_or kept n none).entries (get_or kept k none).column) e
          ∙ u.one k none p.0 ∙ ap (λ t. cond t ring.one ring.zero) (sym (eq-eqb h k e))
      unit k h c row r p (inr ne) =
          let u = reduced-units laws m.cols kept is in
          let at : (get_or kept k none).column ≡ c - 1 = omega (arith, p.1) in
          sym (ap (λ v. entry ring v (c - 1)) r.1) ∙ ap (entry ring (get_or kept h none).entries) (sym at)
          ∙ u.others h k none r.0 p.0 ne ∙ ap (λ t. cond t ring.one ring.zero) (sym (ne_eqb h k ne))
