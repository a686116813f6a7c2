use Rattle.std.proofs.Common.{◌≡◌, ◌+◌, ◌-◌, ◌<◌, [], ◌∷◌, ◌++◌, map, length, get_or, sym, ap, ◌∙◌, subst, arith}
use Rattle.std.proofs.lemmas.List.{map_more, take_all}
use Rattle.hp_arr.specs.Arrangement.{IsAffineArrangement}
use Rattle.hp_arr.proofs.CentralLawful.{constants-lawful}
use Rattle.hp_arr.proofs.affine.Aff.of.Goals as goal

pub loop-i-preserved : goal.loop-i-preserved
loop-i-preserved g c =
    let ring = g.K.Ring.ring in
    let forms = c.args.arr.now.forms in
    let i = c.loop-i.i in
    let inside : i < length forms = omega (arith, c.loop-i-test.true, c.len-i-end.ensures.value) in
    let back : i + 1 - 1 ≡ i = omega arith in
    c.in_ok-push.ensures.items
    ∙ (λ j. c.loop-i.invariant j ++ (c.in_ok-with_zero.ensures ∙ ap (λ f. f ++ ring.zero ∷ []) (c.form.ensures.coefficients ∙ ap (λ k. get_or forms k []) back)) j ∷ [])
    ∙ sym (map_more (λ f. f ++ ring.zero ∷ []) forms i [] inside)

pub of_lawful-requires : goal.of_lawful-requires
of_lawful-requires g c =
    let ring = g.K.Ring.ring in
    let numbers = g.K.FiniteField.numbers in
    let arr = c.args.arr.now in
    let all : c.loop-i.rows.items ≡ map (λ f. f ++ ring.zero ∷ []) arr.forms =
    c.loop-i.invariant ∙ ap (map (λ f. f ++ ring.zero ∷ [])) (take_all c.loop-i.i arr.forms (omega (arith, c.loop-i-test.false, c.len-i-end.ensures.value))) in
    subst (IsAffineArrangement ring numbers) (λ j. record { dim = sym c.dim-dim.ensures.value j; forms = sym all j }) (constants-lawful g.met.K.Field.field_laws numbers arr c.dim-dim.ensures.lawful)

pub returns-clause-value : goal.returns-clause-value
returns-clause-value g c =
    let ring = g.K.Ring.ring in
    let arr = c.args.arr.now in
    let all : c.loop-i.rows.items ≡ map (λ f. f ++ ring.zero ∷ []) arr.forms =
    c.loop-i.invariant ∙ ap (map (λ f. f ++ ring.zero ∷ [])) (take_all c.loop-i.i arr.forms (omega (arith, c.loop-i-test.false, c.len-i-end.ensures.value))) in
    c.of_lawful.ensures.value ∙ (λ j. record { dim = c.dim-dim.ensures.value j; forms = all j })
