use Rattle.hp_mono.proofs.DigitWords.{exponents-most, divided-words, words-divide}
use Rattle.hp_mono.proofs.mono.Mono.divides.Goals as goal

pub returns-then-digits_at_most-clause-value : goal.returns-then-digits_at_most-clause-value
returns-then-digits_at_most-clause-value c =
    let s = c.self.inside in
    let o = c.other.inside in (
      λ t. words-divide s.low s.high o.low o.high c.self.view_is c.other.view_is (c.digits_at_most.ensures.0 c.if-digits_at_most.true) (c.digits_at_most-then-digits_at_most.ensures.0 t),
      λ d. c.digits_at_most-then-digits_at_most.ensures.1 (exponents-most s.low s.high o.low o.high (divided-words s.low s.high o.low o.high c.self.view_is c.other.view_is d)).1,
    )

pub returns-else-digits_at_most-clause-value : goal.returns-else-digits_at_most-clause-value
returns-else-digits_at_most-clause-value c =
    let s = c.self.inside in
    let o = c.other.inside in (
      λ t. absurd (cc (c.if-digits_at_most.false, t)),
      λ d. c.digits_at_most.ensures.1 (exponents-most s.low s.high o.low o.high (divided-words s.low s.high o.low o.high c.self.view_is c.other.view_is d)).0,
    )
