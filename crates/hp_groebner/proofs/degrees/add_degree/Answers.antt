use Rattle.hp_groebner.proofs.LoopSteps.{degree-begins, degree-over, degree-passed}
use Rattle.hp_groebner.proofs.degrees.add_degree.Goals as goal

pub add_generators-requires-clause-run : goal.add_generators-requires-clause-run
add_generators-requires-clause-run g c = degree-begins c.requires.run

pub returns-then-is_high-clause-stop : goal.returns-then-is_high-clause-stop
returns-then-is_high-clause-stop g c =
    degree-over c.in_ok-reduce_tails.ensures.run c.queue.ensures c.is_high.ensures c.if-is_high.true

pub returns-clause-run : goal.returns-clause-run
returns-clause-run g c = degree-passed c.in_ok-reduce_tails.ensures.run c.queue.ensures c.is_high.ensures c.if-is_high.false c.in_ok-reduce_tails.ensures.tails
