use Rattle.std.proofs.Common.{◌≡◌, IfOk, map, sym, ap, ◌∙◌, subst}
use Rattle.std.proofs.lemmas.Simd.{map-map}
use Rattle.hp_algebra.specs.Rows.{row_scale}
use Rattle.hp_arr.specs.Operations.{normalised}
use Rattle.hp_arr.proofs.normal.normalised_places.Goals as goal

pub returns : goal.returns
returns g c =
    let ring = g.K.Ring.ring in
    let place = g.K.FiniteField.numbers.place in
    let row = c.args.row.now in
    let same : map (λ x. place (ring.mul c.first_inverse-inverse.result x)) row ≡ map place (normalised ring g.K.Field.inverse row) =
    sym (map-map place (ring.mul c.first_inverse-inverse.result) row) ∙ ap (λ y. map place (row_scale ring y row)) c.first_inverse-inverse.ensures in
    subst (λ places. IfOk c.scaled_places.result (λ r. r.items ≡ places)) same c.scaled_places.ensures
