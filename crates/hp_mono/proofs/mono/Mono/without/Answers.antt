use Rattle.std.proofs.Common.{◌-◌, ◌∙◌, ap, sym, refl}
use Rattle.hp_mono.specs.Monomials.{product}
use Rattle.hp_mono.specs.Digits.{exponents_of}
use Rattle.hp_mono.proofs.DigitWords.{low-at_most, high-at_most, difference-product, difference-degree, divided-words}
use Rattle.hp_mono.proofs.mono.Mono.without.Goals as goal

pub overflow_sub-result : goal.overflow_sub-result
overflow_sub-result c =
    let b = c.divisor.inside in
    let s = c.self.inside in
    low-at_most b.low b.high s.low s.high (divided-words b.low b.high s.low s.high c.divisor.view_is c.self.view_is c.requires)

pub overflow_sub-result-2 : goal.overflow_sub-result-2
overflow_sub-result-2 c =
    let b = c.divisor.inside in
    let s = c.self.inside in
    high-at_most b.low b.high s.low s.high (divided-words b.low b.high s.low s.high c.divisor.view_is c.self.view_is c.requires)

pub invariant_of-result : goal.invariant_of-result
invariant_of-result c =
    let b = c.divisor.inside in
    let s = c.self.inside in
    difference-degree b.low b.high s.low s.high (divided-words b.low b.high s.low s.high c.divisor.view_is c.self.view_is c.requires) c.self.invariant

pub returns-clause-answer : goal.returns-clause-answer
returns-clause-answer c =
    let b = c.divisor.inside in
    let s = c.self.inside in
    record { exponents = refl; degree_most = difference-degree b.low b.high s.low s.high (divided-words b.low b.high s.low s.high c.divisor.view_is c.self.view_is c.requires) c.self.invariant }

pub returns-clause-value : goal.returns-clause-value
returns-clause-value c =
    let b = c.divisor.inside in
    let s = c.self.inside in
    ap (product (exponents_of (s.low - b.low) (s.high - b.high))) (sym c.divisor.view_is)
    ∙ difference-product b.low b.high s.low s.high (divided-words b.low b.high s.low s.high c.divisor.view_is c.self.view_is c.requires) ∙ c.self.view_is
