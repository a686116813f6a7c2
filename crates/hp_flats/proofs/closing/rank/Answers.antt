use Rattle.std.proofs.Common.{◌≡◌, ◌+◌, ◌*◌, ◌^◌, All, length, true, false, sym, ap, subst, arith, ◌∙◌}
use Rattle.std.specs.Prelude.{not}
use Rattle.hp_lists.specs.Lists.{list_all}
use Rattle.hp_algebra.specs.Rows.{entry}
use Rattle.hp_arr.specs.Flats.{has_point, cut}
use Rattle.hp_arr.proofs.Cuts.{set-indices}
use Rattle.hp_flats.proofs.CutKernels.{basis-widths}
use Rattle.hp_arr.proofs.ConePoints.{AffineSetting, coned, cone-forms}
use Rattle.hp_arr.proofs.ConeRanks.{affine-rank_spec}
use Rattle.hp_flats.proofs.ConeKernels.{point-basis, rank-basis}
use Rattle.hp_flats.proofs.closing.rank.Goals as goal

pub are_at_infinity-requires : goal.are_at_infinity-requires
are_at_infinity-requires g c =
    let A : AffineSetting g.row.K.Denot = record {
      ring = g.K.Ring.ring;
      inverse = g.K.Field.inverse;
      numbers = g.K.FiniteField.numbers;
      arr = c.args.aff.now;
      field = g.met.K.Field.field_laws;
      num = g.met.K.FiniteField.numbering;
      lawful = c.cut_basis.ensures.lawful;
    } in
    let widths = basis-widths g.met.K.Field.field_laws g.met.K.FiniteField.numbering (coned A) (cone-forms A) (λ x. x.items) c.args.s c.in_ok-basis.basis.items c.in_ok-basis.ensures.basis in
    subst (λ d. All (λ x. length x.items ≡ d + 1) c.deref.result.now) (sym c.dim-dim.ensures.value) (subst (All (λ x. length x.items ≡ c.args.aff.now.dim + 1)) (sym c.deref.ensures.value) widths)

pub returns-then-are_at_infinity-clause-none : goal.returns-then-are_at_infinity-clause-none
returns-then-are_at_infinity-clause-none g c =
    let A : AffineSetting g.row.K.Denot = record {
      ring = g.K.Ring.ring;
      inverse = g.K.Field.inverse;
      numbers = g.K.FiniteField.numbers;
      arr = c.args.aff.now;
      field = g.met.K.Field.field_laws;
      num = g.met.K.FiniteField.numbering;
      lawful = c.cut_basis.ensures.lawful;
    } in
    let ring = g.K.Ring.ring in
    let seen : c.are_at_infinity.result ≡ list_all (λ x. ring.is_zero (entry ring x.items c.args.aff.now.dim)) c.in_ok-basis.basis.items =
    c.are_at_infinity.ensures ∙ (λ i. list_all (λ x. ring.is_zero (entry ring x.items (c.dim-dim.ensures.value i))) (c.deref.ensures.value i)) in
    let point : has_point ring g.K.FiniteField.numbers c.args.aff.now c.args.s ≡ false =
    point-basis A (λ x. x.items) c.args.s c.in_ok-basis.basis.items c.requires c.in_ok-basis.ensures.basis ∙ ap not (sym seen ∙ c.if-are_at_infinity.true) in
    point

pub returns-clause-some : goal.returns-clause-some
returns-clause-some g c =
    let A : AffineSetting g.row.K.Denot = record {
      ring = g.K.Ring.ring;
      inverse = g.K.Field.inverse;
      numbers = g.K.FiniteField.numbers;
      arr = c.args.aff.now;
      field = g.met.K.Field.field_laws;
      num = g.met.K.FiniteField.numbering;
      lawful = c.cut_basis.ensures.lawful;
    } in
    let ring = g.K.Ring.ring in
    let seen : c.are_at_infinity.result ≡ list_all (λ x. ring.is_zero (entry ring x.items c.args.aff.now.dim)) c.in_ok-basis.basis.items =
    c.are_at_infinity.ensures ∙ (λ i. list_all (λ x. ring.is_zero (entry ring x.items (c.dim-dim.ensures.value i))) (c.deref.ensures.value i)) in
    let point : has_point ring g.K.FiniteField.numbers c.args.aff.now c.args.s ≡ true =
    point-basis A (λ x. x.items) c.args.s c.in_ok-basis.basis.items c.requires c.in_ok-basis.ensures.basis ∙ ap not (sym seen ∙ c.if-are_at_infinity.false) in
    let r = rank-basis A c.args.s (length c.in_ok-basis.basis.items) c.requires point c.in_ok-basis.ensures.nullity in
    (point, omega (arith, c.dim-dim.ensures.value, c.len.ensures, c.in_ok-basis.basis.ok.0, r))

pub returns-clause-points : goal.returns-clause-points
returns-clause-points g c =
    let A : AffineSetting g.row.K.Denot = record {
      ring = g.K.Ring.ring;
      inverse = g.K.Field.inverse;
      numbers = g.K.FiniteField.numbers;
      arr = c.args.aff.now;
      field = g.met.K.Field.field_laws;
      num = g.met.K.FiniteField.numbering;
      lawful = c.cut_basis.ensures.lawful;
    } in
    let numbers = g.K.FiniteField.numbers in
    let some = returns-clause-some g c in
    subst (λ r. length (cut g.K.Ring.ring numbers c.args.aff.now c.args.s) * numbers.order ^ r ≡ numbers.order ^ c.args.aff.now.dim) (sym some.1)
    (affine-rank_spec A c.args.s (set-indices c.args.aff.now c.args.s c.requires) some.0)
