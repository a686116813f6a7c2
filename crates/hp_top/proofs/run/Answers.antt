use Rattle.std.proofs.Common.{map, string_bytes}
use Rattle.hp_top.proofs.RightSample.{sampled_right}
use Rattle.hp_top.proofs.run.Goals as goal

pub returns-in-Some-clause-right : goal.returns-in-Some-clause-right
returns-in-Some-clause-right g c =
    sampled_right (map string_bytes c.args.words.now) (g.S.Source.left c.args.src.now) (g.S.Source.faults c.args.src.now)
    (g.T.Sink.written c.args.out.now) (g.T.Sink.written c.answer_sample.new.out) (g.T.Sink.faults c.args.out.now) (g.T.Sink.faults c.answer_sample.new.out)
    c.answer_sample.result (g.met.S.Source.count_fits c.args.src.now) c.in-Some.k c.in-Some.ensures c.answer_sample.ensures.counted c.answer_sample.ensures.ends
