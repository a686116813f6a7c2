use Rattle.std.proofs.Common.{◌≡◌, ◌-◌, ◌+◌, get_or, set, inl, inr, sym, ap, ◌∙◌, arith}
use Rattle.std.proofs.lemmas.Bool.{cases_eq}
use Rattle.std.proofs.lemmas.List.{ext_get_or, get_or-set_same, get_or-set_other, length-set}
use Rattle.hp_mono.specs.Monomials.{product}
use Rattle.hp_mono.proofs.MonomialLaws.{product-monomial}
use Rattle.hp_syzygy.proofs.LastNumbers.{at-product}
use Rattle.hp_syzygy.proofs.order.exponent_sums.Goals as goal

pub loop-i-preserved : goal.loop-i-preserved
loop-i-preserved c =
    let a = c.args.a.now in
    let s = c.args.s.now in
    let i = c.loop-i.i in
    let sums = c.loop-i.sums in
    let x = c.from.result + c.from-in-loop-i.result in
    let long = c.loop-i.invariant.long in
    let back : (i + 1) - 1 ≡ i = omega arith in
    let left = c.from.ensures ∙ c.exp.ensures.value ∙ ap (λ k. get_or a k 0) back in
    let right = c.from-in-loop-i.ensures ∙ c.exp-in-loop-i.ensures.value ∙ ap (λ k. get_or s k 0) back in
    let here : get_or (set sums i x) i 0 ≡ get_or (product a s) i 0 =
    get_or-set_same sums i x 0 (omega (arith, long, c.loop-i-test.true))
    ∙ (λ j. left j + right j)
    ∙ sym (at-product a s i 0 (c.requires.left ∙ sym c.requires.right) (omega (arith, c.requires.left, c.loop-i-test.true))) in
    record {
      long = length-set sums i x ∙ long;
      each = λ j l. elim (cases_eq j i) [
        | inl e ↦ ap (λ k. get_or (set sums i x) k 0) e ∙ here ∙ ap (λ k. get_or (product a s) k 0) (sym e)
        | inr o ↦ get_or-set_other sums i j x 0 o ∙ c.loop-i.invariant.each j (omega (arith, l, o))
      ];
    }

pub returns : goal.returns
returns c =
    let p = product-monomial c.args.a.now c.args.s.now c.requires.left c.requires.right in
    ext_get_or 0 c.loop-i.sums (product c.args.a.now c.args.s.now) (c.loop-i.invariant.long ∙ sym p)
    (λ j l. c.loop-i.invariant.each j (omega (arith, l, c.loop-i.invariant.long, c.loop-i-test.false)))
