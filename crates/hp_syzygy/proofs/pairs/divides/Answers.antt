use Rattle.std.proofs.Common.{◌∙◌, ◌&&◌, ap, sym}
use Rattle.std.proofs.lemmas.Bool.{eq-eqb}
use Rattle.hp_syzygy.specs.DividingTests.{each_most}
use Rattle.hp_syzygy.proofs.DividingTermTests.{answer-test}
use Rattle.hp_syzygy.proofs.pairs.divides.Goals as goal

pub returns-then-s-t : goal.returns-then-s-t
returns-then-s-t c =
    let s = c.args.s.now in
    let t = c.args.t.now in
    let same = eq-eqb s.comp t.comp c.if-s-t.true in
    answer-test c.divides.result s.mono t.mono c.divides.ensures.left.exponents c.divides.ensures.right.exponents c.divides.ensures.value
    ∙ sym (ap (λ z. z && each_most s.mono t.mono) same)
