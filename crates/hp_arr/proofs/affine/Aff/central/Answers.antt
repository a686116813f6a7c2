use Rattle.std.proofs.Common.{◌≡◌, ◌+◌, ◌-◌, ◌<◌, [], ◌∷◌, ◌++◌, true, map, take, length, get_or, sym, ap, ◌∙◌, subst, arith}
use Rattle.std.proofs.lemmas.List.{map_more, take_all}
use Rattle.hp_arr.specs.Arrangement.{IsArrangement, is_central}
use Rattle.hp_arr.proofs.CentralLawful.{linear-lawful}
use Rattle.hp_arr.proofs.affine.Aff.central.Goals as goal

pub loop-i-preserved : goal.loop-i-preserved
loop-i-preserved g c =
    let forms = c.args.self.now.forms in
    let i = c.loop-i.i in
    let d = c.dim-dim.result in
    let inside : i < length forms = omega (arith, c.loop-i-test.true, c.len-i-end.ensures.value) in
    let back : i + 1 - 1 ≡ i = omega arith in
    c.in_ok-push.ensures.items
    ∙ (λ j. c.loop-i.invariant j ++ (c.in_ok-front.ensures ∙ ap (take d) (c.row.ensures.entries ∙ ap (λ k. get_or forms k []) back)) j ∷ [])
    ∙ sym (map_more (take d) forms i [] inside)

pub of_lawful-requires : goal.of_lawful-requires
of_lawful-requires g c =
    let ring = g.K.Ring.ring in
    let numbers = g.K.FiniteField.numbers in
    let arr = c.args.self.now in
    let d = c.dim-dim.result in
    let all : c.loop-i.forms.items ≡ map (take d) arr.forms =
    c.loop-i.invariant ∙ ap (map (take d)) (take_all c.loop-i.i arr.forms (omega (arith, c.loop-i-test.false, c.len-i-end.ensures.value))) in
    let central : is_central ring arr ≡ true = sym c.is_central.ensures ∙ c.if-not-is_central.false in
    subst (IsArrangement ring numbers) (λ j. record { dim = sym c.dim-dim.ensures.value j; forms = sym (all ∙ ap (λ e. map (take e) arr.forms) c.dim-dim.ensures.value) j })
    (linear-lawful g.met.K.Field.field_laws numbers arr c.dim-dim.ensures.lawful central)
