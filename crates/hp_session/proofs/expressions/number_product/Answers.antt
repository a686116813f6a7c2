use Rattle.std.proofs.Common.{◌≡◌, ◌+◌, ◌-◌, ◌∷◌, get_or, drop, ap, sym, ◌∙◌, arith}
use Rattle.std.proofs.lemmas.List.{drop_more}
use Rattle.hp_session.specs.Expressions.{number_product}
use Rattle.hp_session.proofs.expressions.number_product.Goals as goal

pub loop-k-preserved : goal.loop-k-preserved
loop-k-preserved g c =
    let ring = g.K.Ring.ring in
    let numbers = c.args.numbers.now in
    let k = c.loop-k.k - 1 in
    let same : k + 1 ≡ c.loop-k.k = omega arith in
    let more : drop k numbers ≡ get_or numbers k 0 ∷ drop c.loop-k.k numbers =
    drop_more numbers k 0 (omega arith) ∙ ap (λ n. get_or numbers k 0 ∷ drop n numbers) same in
    record {
      within = omega arith;
      value =
          c.times-product.ensures.value
          ∙ (λ i. ring.mul (c.element.ensures.value i) (c.loop-k.invariant.value i))
          ∙ ap (number_product ring) (sym more);
      answer = c.times-product.ensures.answer;
    }
