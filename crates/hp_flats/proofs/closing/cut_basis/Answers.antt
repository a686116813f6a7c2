use Rattle.std.proofs.Common.{◌≡◌, ℕ, ◌+◌, length, map, sym, subst, ◌∙◌}
use Rattle.std.proofs.lemmas.Result.{IfOk-weaker}
use Rattle.hp_arr.specs.Flats.{rank}
use Rattle.hp_arr.specs.Operations.{cone}
use Rattle.hp_arr.proofs.Cuts.{set-indices}
use Rattle.hp_linear.specs.Matrices.{IsKernelMember, IsRank}
use Rattle.hp_linear.specs.Spaces.{IsBasisOf}
use Rattle.hp_flats.specs.Matrices.{forms_matrix}
use Rattle.hp_flats.proofs.CutKernels.{nullity}
use Rattle.hp_arr.proofs.ConePoints.{AffineSetting, cone-forms}
use Rattle.hp_flats.proofs.ConeKernels.{cone-rows, wide-set}
use Rattle.hp_flats.proofs.closing.cut_basis.Goals as goal

pub returns-clause-basis : goal.returns-clause-basis
returns-clause-basis g c =
    let A : AffineSetting g.row.K.Denot = record {
      ring = g.K.Ring.ring;
      inverse = g.K.Field.inverse;
      numbers = g.K.FiniteField.numbers;
      arr = c.args.aff.now;
      field = g.met.K.Field.field_laws;
      num = g.met.K.FiniteField.numbering;
      lawful = c.dim.ensures.lawful;
    } in
    let ring = g.K.Ring.ring in
    let arr = c.args.aff.now in
    let s = c.args.s in
    let C = cone ring arr.dim arr.forms in
    let e : c.new.result ≡ forms_matrix C s =
    c.new.ensures ∙ (λ i. record { cols = c.dim.ensures.value i + 1; rows = (c.in_ok-rows.ensures.value ∙ sym (cone-rows A s (set-indices arr s c.requires))) i }) in
    IfOk-weaker c.kernel-2.result
    (λ basis. IsBasisOf ring c.new.result.cols (IsKernelMember ring c.new.result) (map (λ x. x.items) basis.items))
    (λ basis. IsBasisOf ring (arr.dim + 1) (IsKernelMember ring (forms_matrix C s)) (map (λ x. x.items) basis.items))
    (λ basis h. subst (λ m. IsBasisOf ring m.cols (IsKernelMember ring m) (map (λ x. x.items) basis.items)) e h)
    c.kernel-2.ensures.basis

pub returns-clause-nullity : goal.returns-clause-nullity
returns-clause-nullity g c =
    let A : AffineSetting g.row.K.Denot = record {
      ring = g.K.Ring.ring;
      inverse = g.K.Field.inverse;
      numbers = g.K.FiniteField.numbers;
      arr = c.args.aff.now;
      field = g.met.K.Field.field_laws;
      num = g.met.K.FiniteField.numbering;
      lawful = c.dim.ensures.lawful;
    } in
    let ring = g.K.Ring.ring in
    let arr = c.args.aff.now in
    let s = c.args.s in
    let C = cone ring arr.dim arr.forms in
    let e : c.new.result ≡ forms_matrix C s =
    c.new.ensures ∙ (λ i. record { cols = c.dim.ensures.value i + 1; rows = (c.in_ok-rows.ensures.value ∙ sym (cone-rows A s (set-indices arr s c.requires))) i }) in
    IfOk-weaker c.kernel-2.result
    (λ basis. (r : ℕ) → IsRank ring c.new.result r → length basis.items + r ≡ c.new.result.cols)
    (λ basis. length basis.items + rank ring g.K.FiniteField.numbers C s ≡ arr.dim + 1)
    (λ basis h. nullity g.met.K.Field.field_laws g.met.K.FiniteField.numbering C (cone-forms A) s (length basis.items) (wide-set A s c.requires)
    (subst (λ m. (r : ℕ) → IsRank ring m r → length basis.items + r ≡ m.cols) e h))
    c.kernel-2.ensures.nullity
