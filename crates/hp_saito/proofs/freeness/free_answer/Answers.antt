use Rattle.std.proofs.Common.{◌≡◌, length, ap, subst, sym, ◌∙◌, arith, refl, slice_index_or, []}
use Rattle.std.proofs.lemmas.Result.{IfOk-weaker}
use Rattle.std.proofs.lemmas.List.{get_or_default}
use Rattle.std.specs.Option.{IfSome, IsNone}
use Rattle.hp_complex.specs.Complexes.{map_at}
use Rattle.hp_linear.specs.Matrices.{IsInverse}
use Rattle.hp_resolution.specs.Resolutions.{row_degrees}
use Rattle.hp_saito.specs.declared.answer.FreeAnswer.TheVariants.{Free}
use Rattle.hp_saito.specs.Freeness.{IsFreeAnswer, values_matrix}
use Rattle.hp_saito.proofs.FreeResolutions.{free-answer, resolves, resolution-not_free, some-inverse, values-same, values-square}
use Rattle.hp_saito.proofs.freeness.free_answer.Goals as goal

pub returns-then-generators-dim : goal.returns-then-generators-dim
returns-then-generators-dim g c =
    let maps = c.args.res.now.maps in
    let first : c.map-rows.result.now ≡ map_at maps 0 =
    c.map-rows.ensures.value ∙ ap (λ m. map_at m 0) c.complex.ensures.value in
    let count : c.rows-generators.result ≡ length (map_at maps 0).rows =
    c.rows-generators.ensures.value ∙ ap (λ m. length m.rows) first in
    let is = resolves g.met.K.Field.field_laws g.met.K.FiniteField.numbering c.dim.ensures.lawful c.requires.generates
    c.complex.ensures.of in
    let other = c.if-generators-dim.true in
    let dim = c.dim.ensures.value in
    let r = resolution-not_free is (λ e. absurd (omega (arith, other, count, dim, e))) in
    (r.0, omega (arith, count), (let more = r.1 in omega (arith, more, count)))

pub inverse-requires : goal.inverse-requires
inverse-requires g c =
    let maps = c.args.res.now.maps in
    let first : c.map-rows.result.now ≡ map_at maps 0 =
    c.map-rows.ensures.value ∙ ap (λ m. map_at m 0) c.complex.ensures.value in
    let count : c.rows-generators.result ≡ length (map_at maps 0).rows =
    c.rows-generators.ensures.value ∙ ap (λ m. length m.rows) first in
    let is = resolves g.met.K.Field.field_laws g.met.K.FiniteField.numbering c.dim.ensures.lawful c.requires.generates
    c.complex.ensures.of in
    let equal = c.if-generators-dim.false in
    let dim = c.dim.ensures.value in
    let point = c.in_ok-point.point.items in
    let are : c.in_ok-values.values ≡ values_matrix g.K.Ring.ring (map_at maps 0).cols point (map_at maps 0).rows =
    values-same g.K.Ring.ring c.in_ok-values.ensures first c.deref.ensures.value in
    values-square is point c.in_ok-point.ensures.least (omega (arith, count, equal, dim)) c.in_ok-values.values are

pub unreachable-requires : goal.unreachable-requires
unreachable-requires g c =
    let maps = c.args.res.now.maps in
    let first : c.map-rows.result.now ≡ map_at maps 0 =
    c.map-rows.ensures.value ∙ ap (λ m. map_at m 0) c.complex.ensures.value in
    let count : c.rows-generators.result ≡ length (map_at maps 0).rows =
    c.rows-generators.ensures.value ∙ ap (λ m. length m.rows) first in
    let is = resolves g.met.K.Field.field_laws g.met.K.FiniteField.numbering c.dim.ensures.lawful c.requires.generates
    c.complex.ensures.of in
    let equal = c.if-generators-dim.false in
    let dim = c.dim.ensures.value in
    let point = c.in_ok-point.point.items in
    let are : c.in_ok-values.values ≡ values_matrix g.K.Ring.ring (map_at maps 0).cols point (map_at maps 0).rows =
    values-same g.K.Ring.ring c.in_ok-values.ensures first c.deref.ensures.value in
    some-inverse is point c.in_ok-point.ensures.least (omega (arith, count, equal, dim)) c.in_ok-values.values are
    (c.in_ok-inverse.ensures.none (subst IsNone (sym c.in_default.is) refl))

pub returns : goal.returns
returns g c =
    let ring = g.K.Ring.ring in
    let r = c.args.res.now in
    let first : c.map-rows.result.now ≡ map_at r.maps 0 =
    c.map-rows.ensures.value ∙ ap (λ m. map_at m 0) c.complex.ensures.value in
    let count : c.rows-generators.result ≡ length (map_at r.maps 0).rows =
    c.rows-generators.ensures.value ∙ ap (λ m. length m.rows) first in
    let is = resolves g.met.K.Field.field_laws g.met.K.FiniteField.numbering c.dim.ensures.lawful c.requires.generates
    c.complex.ensures.of in
    let equal = c.if-generators-dim.false in
    let dim = c.dim.ensures.value in
    let point = c.in_ok-point.point.items in
    let n = c.in-Some.inverse in
    let are : c.in_ok-values.values ≡ values_matrix ring (map_at r.maps 0).cols point (map_at r.maps 0).rows =
    values-same ring c.in_ok-values.ensures first c.deref.ensures.value in
    let inverse : IsInverse ring c.in_ok-values.values n =
    subst (λ o. IfSome o (IsInverse ring c.in_ok-values.values)) c.in-Some.is c.in_ok-inverse.ensures.some in
    let some = c.complex.ensures.of.frame.resolution.some_map in
    let one_each = c.complex.ensures.of.frame.resolution.one_each in
    let read = c.index-degrees-0.result in
    let degrees : c.as_slice-degrees.result.now ≡ row_degrees r 0 =
    c.as_slice-degrees.ensures ∙ c.index-degrees-0.is ∙ ap (λ ds. slice_index_or ds 0 read) c.degrees.ensures.value
    ∙ get_or_default r.degrees 0 read [] (omega (arith, some, one_each)) in
    IfOk-weaker c.free.result (λ a. a ≡ Free c.map-rows.result.now.rows c.as_slice-degrees.result.now point n)
    (IsFreeAnswer ring g.K.FiniteField.numbers c.args.arr.now c.args.m.now r)
    (free-answer is point c.in_ok-point.ensures.least (omega (arith, count, equal, dim)) c.in_ok-values.values are
    c.map-rows.result.now.rows c.as_slice-degrees.result.now n (ap (λ m. m.rows) first) degrees inverse) c.free.ensures
