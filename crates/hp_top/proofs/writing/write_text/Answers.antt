use Rattle.hp_top.proofs.Courses.{given_front}
use Rattle.hp_top.proofs.writing.write_text.Goals as goal

pub returns-in-Err-Fault-clause-writes : goal.returns-in-Err-Fault-clause-writes
returns-in-Err-Fault-clause-writes g c =
    given_front c.args.text.now (g.T.Sink.written c.args.out.now) (g.T.Sink.written c.write_all.new.out) c.in-Err-Fault.ensures.part

pub returns-in-Err-Memory-clause-writes : goal.returns-in-Err-Memory-clause-writes
returns-in-Err-Memory-clause-writes g c =
    given_front c.args.text.now (g.T.Sink.written c.args.out.now) (g.T.Sink.written c.write_all.new.out) c.in-Err-Memory.ensures.part
