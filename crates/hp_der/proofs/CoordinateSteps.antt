-- Steps of the loops that make essential coordinates.
use Rattle.std.specs.Prelude.{◌≡◌, ◌≢◌, ℕ, zero, suc, ◌<◌, cond, List, [], ◌∷◌, length, slice_index_or}
use Rattle.std.proofs.Common.{ne_eqb}
use Rattle.std.proofs.lemmas.Bool.{eq-eqb}
use mathlib.Core.Path.{refl, ap, ◌∙◌}
use native.Mathlib.Omega.{arith}
use Rattle.hp_graded.specs.EssentialRows.{row_at}

module _ {K : Type 0} where
  -- the row of the first pivot that is j
  pub row-first : (cs : List ℕ) (rows : List (List K)) (j k : ℕ) (other : List K) → k < length cs → length cs ≡ length rows
      → ((i : ℕ) → i < k → slice_index_or cs i 0 ≢ j) → slice_index_or cs k 0 ≡ j → row_at cs rows j other ≡ slice_index_or rows k []
  row-first [] rows j k other l e before at = absurd (omega (arith, l))
  row-first (c ∷ cs) [] j k other l e before at = absurd (omega (arith, e))
  row-first (c ∷ cs) (row ∷ rows) j zero other l e before at = ap (λ b. cond b row (row_at cs rows j other)) (eq-eqb c j at)
  row-first (c ∷ cs) (row ∷ rows) j (suc k) other l e before at =
      ap (λ b. cond b row (row_at cs rows j other)) (ne_eqb c j (before 0 (omega arith)))
      ∙ row-first cs rows j k other (omega (arith, l)) (omega (arith, e)) (λ i m. before (suc i) (omega (arith, m))) at

  -- where none is j the other row stands
  pub row-none : (cs : List ℕ) (rows : List (List K)) (j : ℕ) (other : List K) → ((i : ℕ) → i < length cs → slice_index_or cs i 0 ≢ j)
      → row_at cs rows j other ≡ other
  row-none [] rows j other before = refl
  row-none (c ∷ cs) [] j other before = refl
  row-none (c ∷ cs) (row ∷ rows) j other before =
      ap (λ b. cond b row (row_at cs rows j other)) (ne_eqb c j (before 0 (omega arith)))
      ∙ row-none cs rows j other (λ i m. before (suc i) (omega (arith, m)))
