use Rattle.std.specs.Ordering.{nat_cmp}
use mathlib.Core.Path.{◌∙◌}
use Rattle.hp_mono.proofs.DigitWords.{grevlex-words}
use Rattle.hp_mono.proofs.mono.Mono.grevlex.Goals as goal

pub returns-clause-value : goal.returns-clause-value
returns-clause-value c =
    let s = c.self.inside in
    let o = c.other.inside in
    grevlex-words s.low s.high o.low o.high c.self.view_is c.other.view_is
    (c.cmp.ensures ∙ (λ i. nat_cmp (c.degree.ensures.value i) (c.degree-2.ensures.value i)))
    c.cmp-2.ensures c.cmp-3.ensures c.then.ensures c.then-2.ensures
