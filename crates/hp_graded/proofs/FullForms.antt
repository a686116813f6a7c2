-- A reduced row echelon form with a pivot in each column: no form loses a variable.
use Rattle.std.specs.Prelude.{◌≡◌, ℕ, ◌+◌, ◌-◌, ◌<◌, ◌≤◌, ◌||◌, cond, true, List, [], ◌∷◌, length, All}
use Rattle.std.proofs.Common.{ne_eqb}
use Rattle.std.proofs.lemmas.Bool.{cases_eq, eq-eqb}
use Rattle.std.proofs.lemmas.List.FromFn.{length-map-range_with_len}
use Rattle.std.proofs.lemmas.List.Elements.{All-head, All-tail, All-weaker}
use mathlib.Core.Logic.{inl, inr}
use mathlib.Core.Path.{ap, ◌∙◌}
use native.Mathlib.Omega.{arith}
use Rattle.hp_algebra.specs.Ring.{RingOf, IsRing}
use Rattle.hp_algebra.specs.Rows.{IsRow, entry}
use Rattle.hp_algebra.proofs.Rows.{listed-entry, row-ext}
use Rattle.hp_lists.proofs.Ordered.{Rises, rises_of}
use Rattle.hp_linear.specs.Matrices.{Matrix, IsEchelonForm}
use Rattle.hp_graded.specs.EssentialRows.{essential_form, is_pivot}

-- rising numbers from a to b - 1 are no more than b - a
rises-length : (cs : List ℕ) (a b : ℕ) → a ≤ b → Rises cs → All (λ c. a ≤ c) cs → All (λ c. c < b) cs → a + length cs ≤ b
rises-length [] a b m r low high = omega (arith, m)
rises-length (c ∷ cs) a b m r low high =
    let first = All-head (λ c. a ≤ c) c cs low in
    let last = All-head (λ c. c < b) c cs high in
    let rest = rises-length cs (c + 1) b (omega (arith, last)) r.1
    (Rattle.hp_lists.proofs.Members.each-All (λ x. c + 1 ≤ x) cs (λ x at. let l = r.0 x at in omega (arith, l)))
    (All-tail (λ c. c < b) c cs high) in
    omega (arith, first, rest)

-- so many rising numbers from a on, as there are, are all of them
rises-full : (cs : List ℕ) (a : ℕ) → Rises cs → All (λ c. a ≤ c) cs → All (λ c. c < a + length cs) cs → (j : ℕ) → a ≤ j
    → j < a + length cs → is_pivot cs j ≡ true
rises-full [] a r low high j b l = absurd (omega (arith, b, l))
rises-full (c ∷ cs) a r low high j b l =
    let first = All-head (λ c. a ≤ c) c cs low in
    let last = All-head (λ x. x < a + length (c ∷ cs)) c cs high in
    let later : All (λ x. c + 1 ≤ x) cs = Rattle.hp_lists.proofs.Members.each-All (λ x. c + 1 ≤ x) cs (λ x at. let l = r.0 x at in omega (arith, l)) in
    let few = rises-length cs (c + 1) (a + length (c ∷ cs)) (omega (arith, last)) r.1 later (All-tail (λ x. x < a + length (c ∷ cs)) c cs high) in
    let same : c ≡ a = omega (arith, first, few) in
    elim (cases_eq c j) [
      | inl e ↦ ap (λ b. b || is_pivot cs j) (eq-eqb c j e)
      | inr n ↦
          ap (λ b. b || is_pivot cs j) (ne_eqb c j n)
          ∙ rises-full cs (c + 1) r.1 later
          (All-weaker (λ x. x < a + length (c ∷ cs)) (λ x. x < (c + 1) + length cs) (λ x q. omega (arith, q, same)) cs (All-tail (λ x. x < a + length (c ∷ cs)) c cs high))
          j (omega (arith, b, same, n)) (omega (arith, l, same))
    ]

module _ {K : Type 0} {ring : RingOf K} (laws : IsRing ring) (l : ℕ) (forms : List (List K)) {e : Matrix K} {pivots : List ℕ}
    (form : IsEchelonForm ring (record { cols = l; rows = forms }) e pivots) (full : length pivots ≡ l) where
  each-pivot : (j : ℕ) → 1 ≤ j → j ≤ l → is_pivot pivots j ≡ true
  each-pivot j low high =
      rises-full pivots 1 (rises_of pivots form.rising) (λ k d m. (form.in_range k d m).0)
      (λ k d m. let w = (form.in_range k d m).1 in let c = form.cols in omega (arith, w, c, full)) j low (omega (arith, high, full))

  -- Where each column has a pivot, a form has no other variables.
  pub full-form : (a : List K) → IsRow ring l a → essential_form ring l pivots a ≡ a
  full-form a h =
      row-ext ring l (essential_form ring l pivots a) a (length-map-range_with_len (λ j. cond (is_pivot pivots j) (entry ring a (j - 1)) ring.zero) 1 l) h.0
      (λ j m.
      let back : (j + 1) - 1 ≡ j = omega arith in
      listed-entry ring l (λ j. cond (is_pivot pivots j) (entry ring a (j - 1)) ring.zero) j m
      ∙ ap (λ b. cond b (entry ring a ((j + 1) - 1)) ring.zero) (each-pivot (j + 1) (omega arith) (omega (arith, m)))
      ∙ ap (entry ring a) back)
