use Rattle.std.proofs.Common.{◌≡◌, ◌+◌, ◌-◌, ◌∷◌, get_or, drop, sym, ap, ◌∙◌, arith}
use Rattle.std.proofs.lemmas.List.{drop_more}
use Rattle.hp_exterior.specs.Exterior.{generator, monomial, wedge}
use Rattle.hp_session.specs.Expressions.{generator_product}
use Rattle.hp_session.proofs.expressions.generator_product.Goals as goal

pub loop-k-preserved : goal.loop-k-preserved
loop-k-preserved g c =
    let ring = g.K.Ring.ring in
    let generators = c.args.generators.now in
    let k = c.loop-k.k - 1 in
    let x = get_or generators k 0 in
    let same : k + 1 ≡ c.loop-k.k = omega arith in
    let more : drop k generators ≡ x ∷ drop c.loop-k.k generators =
    drop_more generators k 0 (omega arith) ∙ ap (λ n. x ∷ drop n generators) same in
    record {
      within = omega arith;
      value =
          ap (monomial ring c.factor_with-factor.result) c.with-set.ensures.value
          ∙ c.factor_with-factor.ensures.value
          ∙ ap (wedge ring (generator ring x)) c.loop-k.invariant.value
          ∙ ap (generator_product ring) (sym more);
      set = c.with-set.ensures.set;
      answer = c.factor_with-factor.ensures.answer;
    }
