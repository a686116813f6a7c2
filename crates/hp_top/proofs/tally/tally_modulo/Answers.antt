use Rattle.hp_session.specs.State.{no_names}
use Rattle.hp_top.specs.Course.{course_after}
use Rattle.hp_top.proofs.Tallying.{line_accepted, tallying_on}
use Rattle.hp_top.proofs.tally.tally_modulo.Goals as goal

pub loop-line-preserved : goal.loop-line-preserved
loop-line-preserved g c =
    let p = g.M.Modulus.P in
    let whole = course_after p (no_names c.args.limits) c.args.lines.now in
    tallying_on p whole c.args.lines.now c.loop-line.line-index c.loop-line.session c.loop-line.tally c.loop-line.invariant
    c.line-item.result c.loop-line-test.true c.line-item.is c.tally_line.new.session c.in_ok-more.more
    (line_accepted p whole c.args.lines.now c.loop-line.line-index c.loop-line.session c.loop-line.tally c.loop-line.invariant
    c.line-item.result c.loop-line-test.true c.line-item.is c.requires.accepted)
    c.in_ok-more.ensures.tally c.in_ok-more.ensures.small c.in_ok-more.ensures.after
