-- Rows of integers as forms of one width.
use Rattle.std.proofs.Common.{◌≡◌, ℕ, Bool, true, false, not, ◌||◌, ◌==◌, List, [], ◌∷◌, map, length, All, refl, ap, sym, ◌∙◌}
use Rattle.std.specs.List.{list_any}
use Rattle.std.proofs.lemmas.List.{length-map}
use Rattle.std.proofs.lemmas.List.Elements.{All-nil, All-cons, All-head, All-tail}
use Rattle.std.proofs.lemmas.Bool.{false≢true, eqb-true}

-- where no row has another length, each has that length
pub right_lengths : {Z : Type 0} (l : ℕ) (rows : List (List Z)) → list_any (λ row. not (length row == l)) rows ≡ false
    → All (λ row. length row ≡ l) rows
right_lengths l [] e = All-nil (λ row. length row ≡ l)
right_lengths l (row ∷ rows) e = at (length row == l) refl e (λ none. right_lengths l rows none)
  where
    wrong : Bool
    wrong = list_any (λ row. not (length row == l)) rows

    at : (b : Bool) → (length row == l) ≡ b → (not b || wrong) ≡ false
        → (wrong ≡ false → All (λ row. length row ≡ l) rows) → All (λ row. length row ≡ l) (row ∷ rows)
    at true same none rest = All-cons (λ row. length row ≡ l) row rows (eqb-true (length row) l same) (rest none)
    at false other none rest = absurd (false≢true (sym none))

-- rows whose lengths a map keeps
pub widths_of : {X K Z : Type 0} (items : X → List K) (f : Z → K) (l : ℕ) (xs : List X) (rows : List (List Z))
    → map items xs ≡ map (map f) rows → All (λ row. length row ≡ l) rows → All (λ x. length (items x) ≡ l) xs
widths_of items f l [] rows e widths = All-nil (λ x. length (items x) ≡ l)
widths_of items f l (x ∷ xs) [] e widths = absurd (cc)
widths_of items f l (x ∷ xs) (row ∷ rows) e widths =
    let first : items x ≡ map f row = cc in
    let later : map items xs ≡ map (map f) rows = cc in
    All-cons (λ x. length (items x) ≡ l) x xs
    (ap length first ∙ length-map row f ∙ All-head (λ row. length row ≡ l) row rows widths)
    (widths_of items f l xs rows later (All-tail (λ row. length row ≡ l) row rows widths))
