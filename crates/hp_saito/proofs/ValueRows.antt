-- Rows that are made of values have the width of the vectors.
use Rattle.std.proofs.Common.{◌≡◌, ℕ, List, [], ◌∷◌, All, Vec, Global, length, map, ap, arith, ◌∙◌}
use Rattle.std.proofs.lemmas.List.{length-map}
use Rattle.std.proofs.lemmas.List.Elements.{All-cons, All-head, All-nil, All-tail}
use Rattle.hp_algebra.specs.Ring.{RingOf}
use Rattle.hp_module.specs.Vectors.{Vector}
use Rattle.hp_poly.specs.Polynomials.{poly_value}
use Rattle.hp_saito.specs.Freeness.{row_values}

pub value-widths : {F : Type 0} (ring : RingOf F) (x : List F) (w : ℕ) (values : List (Vec F Global))
    (rows : List (Vector F))
    → map (λ v. v.items) values ≡ map (row_values ring x) rows → All (λ row. length row ≡ w) rows
    → All (λ v. length v.items ≡ w) values
value-widths {F} ring x w [] rows e h = All-nil (λ (v : Vec F Global). length v.items ≡ w)
value-widths ring x w (v ∷ values) [] e h = absurd (omega (arith, ap length e))
value-widths {F} ring x w (v ∷ values) (row ∷ rows) e h =
    let first : v.items ≡ row_values ring x row = cc in
    let rest : map (λ v. v.items) values ≡ map (row_values ring x) rows = cc in
    All-cons (λ (v : Vec F Global). length v.items ≡ w) v values
    (ap length first ∙ length-map row (poly_value ring x) ∙ All-head (λ (r : Vector F). length r ≡ w) row rows h)
    (value-widths ring x w values rows rest (All-tail (λ (r : Vector F). length r ≡ w) row rows h))
