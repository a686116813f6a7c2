use Rattle.std.proofs.Common.{sym, ◌∙◌}
use Rattle.hp_session.proofs.ExpressionValues.{generator_even, generator_odd}
use Rattle.hp_session.proofs.expressions.factor_with.Goals as goal

pub returns-then-len-eq0-clause-value : goal.returns-then-len-eq0-clause-value
returns-then-len-eq0-clause-value g c =
    generator_even g.met.K.Ring.ring_laws g.met.K.CommRing.commutes c.args.i c.args.s c.args.c c.requires.low c.requires.high
    c.contains.ensures.set c.is_nil-zero.ensures.of (sym c.contains.ensures.value ∙ c.if-contains.false) c.first.ensures.value
    c.meet.ensures.value c.len.ensures.value c.if-len-eq0.true

pub returns-clause-value : goal.returns-clause-value
returns-clause-value g c =
    generator_odd g.met.K.Ring.ring_laws g.met.K.CommRing.commutes c.args.i c.args.s c.args.c c.requires.low c.requires.high
    c.contains.ensures.set c.is_nil-zero.ensures.of (sym c.contains.ensures.value ∙ c.if-contains.false) c.first.ensures.value
    c.meet.ensures.value c.len.ensures.value c.if-len-eq0.false c.negate.ensures.value
