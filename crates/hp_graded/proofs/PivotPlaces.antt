-- The pivots of a reduced echelon form are the first places of the rows in its row space.
use Rattle.std.specs.Prelude.{◌≡◌, ◌≢◌, ◌⊎◌, ◌↔◌, ℕ, suc, ◌-◌, ◌<◌, ◌≤◌, cond, List, [], ◌∷◌, map, length, All, Contains, slice_get, slice_index_or, Some}
use Rattle.std.proofs.lemmas.Bool.{cases_eq, cases_lt, eq-eqb}
use Rattle.std.proofs.lemmas.Option.{slice_get-get_or}
use Rattle.std.proofs.lemmas.List.{get_or-map, length-map}
use Rattle.std.proofs.lemmas.List.Elements.{All-cons, All-map, All-nil, Contains-get_or}
use mathlib.Core.Logic.{inl, inr}
use mathlib.Core.Path.{refl, sym, ap, ◌∙◌, subst}
use native.Mathlib.Omega.{arith}
use Rattle.hp_algebra.specs.Ring.{RingOf, IsRing}
use Rattle.hp_algebra.specs.Rows.{IsRow, entry}
use Rattle.hp_algebra.proofs.Rings.{mul_zero, zero_mul}
use Rattle.hp_algebra.proofs.Rows.{entry-value}
use Rattle.hp_algebra.proofs.Dots.{dot-none}
use Rattle.hp_lists.proofs.Members.{Contains-here, Contains-later}
use Rattle.hp_linear.specs.Matrices.{Matrix, IsEchelonForm, IsInRowSpace, IsMatrix}
use Rattle.hp_linear.proofs.Combinations.{combination-row, entry-times, span-member}
use Rattle.hp_linear.proofs.EchelonLaws.{at_pivots, echelon-member}

number_found : (ps : List ℕ) (c : ℕ) → Contains ps c ⊎ All (λ p. p ≢ c) ps
number_found [] c = inr (All-nil (λ (p : ℕ). p ≢ c))
number_found (p ∷ ps) c = elim (cases_eq p c) [
  | inl e ↦ inl (subst (λ q. Contains (q ∷ ps) c) (sym e) (Contains-here c ps))
  | inr n ↦ elim (number_found ps c) [
    | inl m ↦ inl (Contains-later p ps c m)
    | inr f ↦ inr (All-cons (λ (p : ℕ). p ≢ c) p ps n f)
  ]
]

-- the row is not zero at the place, and zero at all before it
abbrev pub IsFirstPlace : {R : Type 0} → RingOf R → List R → ℕ → Type 0
IsFirstPlace ring v j = (entry ring v j ≢ ring.zero) × ((i : ℕ) → i < j → entry ring v i ≡ ring.zero)

module _ {R : Type 0} {ring : RingOf R} (laws : IsRing ring) (one_zero : ring.one ≢ ring.zero) (m e : Matrix R)
    (are : IsMatrix ring m) (pivots : List ℕ) (form : IsEchelonForm ring m e pivots) where
  rows-are : All (IsRow ring m.cols) e.rows
  rows-are = subst (λ n. All (IsRow ring n) e.rows) form.cols form.matrix

  row-at : (k : ℕ) → k < length e.rows → slice_get e.rows k ≡ Some (slice_index_or e.rows k [])
  row-at k l = slice_get-get_or e.rows k [] l

  pivot-at : (k : ℕ) → k < length e.rows → slice_get pivots k ≡ Some (slice_index_or pivots k 0)
  pivot-at k l = slice_get-get_or pivots k 0 (omega (arith, l, form.one_each))

  pivot-range : (k : ℕ) → k < length e.rows → (1 ≤ slice_index_or pivots k 0) × (slice_index_or pivots k 0 ≤ m.cols)
  pivot-range k l =
      let r = form.in_range k 0 (omega (arith, l, form.one_each)) in
      (r.0, subst (λ n. slice_index_or pivots k 0 ≤ n) form.cols r.1)

  -- the first place of a row of the space is a pivot
  first_is_pivot : (c : ℕ) → 1 ≤ c → c ≤ m.cols → (v : List R) → IsInRowSpace ring m v → IsFirstPlace ring v (c - 1)
      → Contains pivots c
  first_is_pivot c lo hi v space first = elim (number_found pivots c) [
    | inl at ↦ at
    | inr none ↦
        let j : c - 1 < m.cols = omega (arith, lo, hi) in
        let hv = combination-row laws m.cols m.rows v are space in
        let x = at_pivots ring pivots v in
        let lx : length x ≡ length e.rows = length-map pivots (λ p. entry ring v (p - 1)) ∙ form.one_each in
        let vx : All ring.IsValue x = All-map ring.IsValue (λ p. entry ring v (p - 1)) pivots (λ k d l.
        let r = form.in_range k d l in
        let f = form.cols in
        entry-value laws m.cols v _ (omega (arith, r.0, r.1, f)) hv) in
        let column : List R = map (λ row. entry ring row (c - 1)) e.rows in
        let vc : IsRow ring (length e.rows) column = (
          length-map e.rows (λ row. entry ring row (c - 1)),
          All-map ring.IsValue (λ row. entry ring row (c - 1)) e.rows (λ k d l. entry-value laws m.cols _ (c - 1) j (rows-are k d l)),
        ) in
        absurd (first.0 (ap (λ w. entry ring w (c - 1)) ((echelon-member laws m e pivots form v hv).0 space)
        ∙ entry-times laws m.cols x e.rows (c - 1) j vx rows-are
        ∙ dot-none laws (length e.rows) x column (lx, vx) vc (λ k l. vanishes hv k l (none k 0 (omega (arith, l, form.one_each))))))
  ]
    where
      vanishes : IsRow ring m.cols v → (k : ℕ) → k < length e.rows → slice_index_or pivots k 0 ≢ c
          → ring.mul (entry ring (at_pivots ring pivots v) k) (entry ring (map (λ row. entry ring row (c - 1)) e.rows) k) ≡ ring.zero
      vanishes hv k l n =
          let p = slice_index_or pivots k 0 in
          let r = pivot-range k l in
          let x : entry ring (at_pivots ring pivots v) k ≡ entry ring v (p - 1) = get_or-map (λ p. entry ring v (p - 1)) pivots k 0 ring.zero (omega (arith, l, form.one_each)) in
          let y : entry ring (map (λ row. entry ring row (c - 1)) e.rows) k ≡ entry ring (slice_index_or e.rows k []) (c - 1) =
          get_or-map (λ row. entry ring row (c - 1)) e.rows k [] ring.zero l in
          let vp = entry-value laws m.cols v (p - 1) (omega (arith, r.0, r.1)) hv in
          let vy = entry-value laws m.cols (slice_index_or e.rows k []) (c - 1) (omega (arith, lo, hi)) (rows-are k [] l) in
          (λ i. ring.mul (x i) (y i)) ∙ elim (cases_lt p c) [
            | inl less ↦ ap (λ u. ring.mul u (entry ring (slice_index_or e.rows k []) (c - 1))) (first.1 (p - 1) (omega (arith, less, r.0))) ∙ zero_mul laws _ vy
            | inr more ↦ ap (ring.mul (entry ring v (p - 1))) (form.first k c p (slice_index_or e.rows k []) (row-at k l) (pivot-at k l) lo (omega (arith, more, n))) ∙ mul_zero laws _ vp
          ]

  -- each pivot is the first place of a row of the space
  pivot_is_first : (c : ℕ) → Contains pivots c → (v : List R) × IsInRowSpace ring m v × IsFirstPlace ring v (c - 1)
  pivot_is_first c at =
      let k = at.0 in
      let l : k < length e.rows = omega (arith, at.1, form.one_each) in
      let row = slice_index_or e.rows k [] in
      let here : slice_get pivots k ≡ Some c = slice_get-get_or pivots k c at.1 ∙ ap Some at.2 in
      let one = form.unit k k c row (row-at k l) here ∙ ap (λ b. cond b ring.one ring.zero) (eq-eqb k k refl) in (
        row,
        (form.same_space row).1 (span-member laws m.cols e.rows row rows-are (Contains-get_or e.rows k [] l)),
        ((λ z. one_zero (sym one ∙ z)), (λ i less. subst (λ n. entry ring row n ≡ ring.zero) (back i) (form.first k (suc i) c row (row-at k l) here (omega arith) (omega (arith, less))))),
      )
    where
      back : (i : ℕ) → suc i - 1 ≡ i
      back i = omega arith

  -- Column c, counted from 1, has a pivot exactly where it is the first place of a row of the space.
  pub pivot-iff : (c : ℕ) → 1 ≤ c → c ≤ m.cols
      → Contains pivots c ↔ ((v : List R) × IsInRowSpace ring m v × IsFirstPlace ring v (c - 1))
  pivot-iff c lo hi = (pivot_is_first c, λ r. first_is_pivot c lo hi r.0 r.1 r.2)
