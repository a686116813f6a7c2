use Rattle.std.proofs.Common.{◌≡◌, ℕ, ◌+◌, length, sym, subst, ◌∙◌}
use Rattle.std.proofs.lemmas.Result.{IfOk-weaker}
use Rattle.hp_arr.specs.Arrangement.{indices, linear_part}
use Rattle.hp_arr.specs.Flats.{total_rank}
use Rattle.hp_linear.specs.Matrices.{IsRank}
use Rattle.hp_flats.specs.Matrices.{forms_matrix}
use Rattle.hp_arr.proofs.ConePoints.{AffineSetting}
use Rattle.hp_flats.proofs.ConeKernels.{forms-listed, total-basis}
use Rattle.hp_flats.proofs.closing.directions.Goals as goal

pub returns : goal.returns
returns g c =
    let A : AffineSetting g.row.K.Denot = record {
      ring = g.K.Ring.ring;
      inverse = g.K.Field.inverse;
      numbers = g.K.FiniteField.numbers;
      arr = c.args.aff.now;
      field = g.met.K.Field.field_laws;
      num = g.met.K.FiniteField.numbering;
      lawful = c.dim-dim.ensures.lawful;
    } in
    let ring = g.K.Ring.ring in
    let arr = c.args.aff.now in
    let e : c.new.result ≡ forms_matrix (linear_part ring arr) (indices (linear_part ring arr)) =
    c.new.ensures ∙ (λ i. record { cols = c.dim-dim.ensures.value i; rows = (c.in_ok-forms.ensures.value ∙ sym (forms-listed (linear_part ring arr))) i }) in
    IfOk-weaker c.kernel-2.result
    (λ basis. (r : ℕ) → IsRank ring c.new.result r → length basis.items + r ≡ c.new.result.cols)
    (λ basis. length basis.items + total_rank ring g.K.FiniteField.numbers arr ≡ arr.dim)
    (λ basis h. total-basis A (length basis.items) (subst (λ m. (r : ℕ) → IsRank ring m r → length basis.items + r ≡ m.cols) e h))
    c.kernel-2.ensures.nullity
