use Rattle.std.proofs.Common.{◌≡◌, ◌+◌, All, filter, length, true, false, sym, ap, subst, ◌∙◌}
use Rattle.std.specs.Prelude.{not}
use Rattle.hp_lists.specs.Lists.{list_all}
use Rattle.hp_algebra.specs.Ring.{dot_of}
use Rattle.hp_algebra.specs.Rows.{entry}
use Rattle.hp_arr.specs.Arrangement.{form, indices}
use Rattle.hp_arr.specs.Flats.{has_point}
use Rattle.hp_flats.proofs.CutKernels.{basis-widths}
use Rattle.hp_arr.proofs.ConePoints.{AffineSetting, coned, cone-forms}
use Rattle.hp_flats.proofs.ConeKernels.{point-basis, closure-basis}
use Rattle.hp_flats.proofs.closing.closure.Goals as goal

pub are_at_infinity-requires : goal.are_at_infinity-requires
are_at_infinity-requires g c =
    let A : AffineSetting g.row.K.Denot = record {
      ring = g.K.Ring.ring;
      inverse = g.K.Field.inverse;
      numbers = g.K.FiniteField.numbers;
      arr = c.args.aff.now;
      field = g.met.K.Field.field_laws;
      num = g.met.K.FiniteField.numbering;
      lawful = c.cut_basis.ensures.lawful;
    } in
    let widths = basis-widths g.met.K.Field.field_laws g.met.K.FiniteField.numbering (coned A) (cone-forms A) (λ x. x.items) c.args.s c.in_ok-basis.basis.items c.in_ok-basis.ensures.basis in
    subst (λ d. All (λ x. length x.items ≡ d + 1) c.deref.result.now) (sym c.dim.ensures.value) (subst (All (λ x. length x.items ≡ c.args.aff.now.dim + 1)) (sym c.deref.ensures.value) widths)

pub returns-then-are_at_infinity-clause-none : goal.returns-then-are_at_infinity-clause-none
returns-then-are_at_infinity-clause-none g c =
    let A : AffineSetting g.row.K.Denot = record {
      ring = g.K.Ring.ring;
      inverse = g.K.Field.inverse;
      numbers = g.K.FiniteField.numbers;
      arr = c.args.aff.now;
      field = g.met.K.Field.field_laws;
      num = g.met.K.FiniteField.numbering;
      lawful = c.cut_basis.ensures.lawful;
    } in
    let ring = g.K.Ring.ring in
    let seen : c.are_at_infinity.result ≡ list_all (λ x. ring.is_zero (entry ring x.items c.args.aff.now.dim)) c.in_ok-basis.basis.items =
    c.are_at_infinity.ensures ∙ (λ i. list_all (λ x. ring.is_zero (entry ring x.items (c.dim.ensures.value i))) (c.deref.ensures.value i)) in
    let point : has_point ring g.K.FiniteField.numbers c.args.aff.now c.args.s ≡ false =
    point-basis A (λ x. x.items) c.args.s c.in_ok-basis.basis.items c.requires c.in_ok-basis.ensures.basis ∙ ap not (sym seen ∙ c.if-are_at_infinity.true) in
    point

pub containing-requires : goal.containing-requires
containing-requires g c =
    let A : AffineSetting g.row.K.Denot = record {
      ring = g.K.Ring.ring;
      inverse = g.K.Field.inverse;
      numbers = g.K.FiniteField.numbers;
      arr = c.args.aff.now;
      field = g.met.K.Field.field_laws;
      num = g.met.K.FiniteField.numbering;
      lawful = c.cut_basis.ensures.lawful;
    } in
    let widths = basis-widths g.met.K.Field.field_laws g.met.K.FiniteField.numbering (coned A) (cone-forms A) (λ x. x.items) c.args.s c.in_ok-basis.basis.items c.in_ok-basis.ensures.basis in
    subst (All (λ x. length x.items ≡ c.args.aff.now.dim + 1)) (sym c.deref-2.ensures.value) widths

pub returns-clause-some : goal.returns-clause-some
returns-clause-some g c =
    let A : AffineSetting g.row.K.Denot = record {
      ring = g.K.Ring.ring;
      inverse = g.K.Field.inverse;
      numbers = g.K.FiniteField.numbers;
      arr = c.args.aff.now;
      field = g.met.K.Field.field_laws;
      num = g.met.K.FiniteField.numbering;
      lawful = c.cut_basis.ensures.lawful;
    } in
    let ring = g.K.Ring.ring in
    let seen : c.are_at_infinity.result ≡ list_all (λ x. ring.is_zero (entry ring x.items c.args.aff.now.dim)) c.in_ok-basis.basis.items =
    c.are_at_infinity.ensures ∙ (λ i. list_all (λ x. ring.is_zero (entry ring x.items (c.dim.ensures.value i))) (c.deref.ensures.value i)) in
    let point : has_point ring g.K.FiniteField.numbers c.args.aff.now c.args.s ≡ true =
    point-basis A (λ x. x.items) c.args.s c.in_ok-basis.basis.items c.requires c.in_ok-basis.ensures.basis ∙ ap not (sym seen ∙ c.if-are_at_infinity.false) in (
      point,
      c.containing.ensures.value
          ∙ (λ i. filter (λ j. list_all (λ x. ring.is_zero (dot_of ring (form c.args.aff.now j) x.items)) (c.deref-2.ensures.value i)) (indices c.args.aff.now))
          ∙ closure-basis A (λ x. x.items) c.args.s c.in_ok-basis.basis.items c.requires c.in_ok-basis.ensures.basis point,
    )
