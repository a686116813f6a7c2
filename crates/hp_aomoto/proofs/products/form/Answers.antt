use Rattle.std.proofs.Common.{◌≡◌, ◌+◌, ◌-◌, ◌∷◌, ◌++◌, [], length, drop, sym, ap, ◌∙◌, arith}
use Rattle.std.proofs.lemmas.List.{drop_more}
use Rattle.hp_exterior.specs.Exterior.{ext_of, ext_plus, monomial}
use Rattle.hp_aomoto.proofs.FormSums.{form-more}
use Rattle.hp_aomoto.proofs.products.form.Goals as goal

pub loop-i-preserved : goal.loop-i-preserved
loop-i-preserved g c =
    let ring = g.K.Ring.ring in
    let ws = c.args.weights.now in
    let n = length c.args.arr.now.forms in
    let i = c.loop-i.i in
    let k = c.loop-i.i - 1 in
    let x = c.index-weights-i.result in
    let same : k + 1 ≡ i = omega arith in
    let front : drop k ws ≡ x ∷ drop i ws =
    drop_more ws k x (omega (arith, c.requires)) ∙ ap (λ y. y ∷ drop (k + 1) ws) (sym c.index-weights-i.is) ∙ ap (λ m. x ∷ drop m ws) same in
    let term : c.in_ok-from_terms.field-0 ≡ monomial ring x (i ∷ []) =
    c.in_ok-from_terms.ensures ∙ ap (ext_of ring) (c.in_ok-push.ensures.items ∙ (λ j. c.new-terms.ensures.items j ++ ((c.single.ensures.value ∙ ap (λ m. m ∷ []) same) j, x) ∷ [])) in
    record {
      within = omega arith;
      sum = c.in_ok-sum-2.ensures.value ∙ (λ j. ext_plus ring (term j) (c.loop-i.invariant.sum j)) ∙ form-more ring ws n k i x same c.loop-i.invariant.within front;
    }
