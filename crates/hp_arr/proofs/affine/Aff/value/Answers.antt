use Rattle.std.proofs.Common.{◌≡◌, ◌+◌, ◌++◌, [], ◌∷◌, length, get_or, sym, ap, ◌∙◌, subst, arith}
use Rattle.std.proofs.lemmas.List.{get_or_read}
use Rattle.hp_algebra.specs.Ring.{dot_of}
use Rattle.hp_algebra.specs.Rows.{IsRow}
use Rattle.hp_arr.proofs.RowValues.{value-parts}
use Rattle.hp_arr.proofs.affine.Aff.value.Goals as goal

pub returns-clause-value : goal.returns-clause-value
returns-clause-value g c =
    let ring = g.K.Ring.ring in
    let x = c.args.point.now in
    let r = c.row-row.result.now in
    let row : IsRow ring (length x + 1) r = subst (λ d. IsRow ring (d + 1) r) (sym c.requires.width) c.row-row.ensures.row in
    let last : c.index-row-dim.result ≡ get_or r (length x) ring.zero = get_or_read r (length x) c.index-row-dim.result (let e = row.0 in omega (arith, e)) c.index-row-dim.is ring.zero in
    c.plus.ensures.value
    ∙ (λ j. ring.add (c.form_value.ensures.value j) (last j))
    ∙ value-parts g.met.K.Ring.ring_laws r x row c.form_value.ensures.point
    ∙ ap (λ f. dot_of ring f (x ++ ring.one ∷ [])) c.row-row.ensures.entries
