use Rattle.hp_sample.proofs.GraphTexts.{first_text, next_text}
use Rattle.hp_sample.specs.Sample.{sample_text}
use Rattle.hp_sample.proofs.script.sample_text.Goals as goal

pub loop-i-init : goal.loop-i-init
loop-i-init c = first_text c.in_ok-text.text.items c.args.k c.in_ok-text.ensures.items

pub loop-i-preserved : goal.loop-i-preserved
loop-i-preserved c =
    next_text (sample_text c.args.k) c.loop-i.text.items c.push_graph.new.text.items c.loop-i.i c.loop-i.state c.in_ok-state.state
    c.loop-i-test.true c.loop-i.invariant c.in_ok-state.ensures.lines c.in_ok-state.ensures.state
