use Rattle.std.proofs.lemmas.Result.{on_ok_weaker}
use Rattle.hp_session.proofs.Tables.{ask-known}
use Rattle.hp_session.proofs.answering.answered.Goals as goal

pub returns-clause-accepted : goal.returns-clause-accepted
returns-clause-accepted g c =
    on_ok_weaker c.answer.result
    (ask-known c.args.session.now c.args.name.now c.args.question.now c.in_ok-arr.arr.now c.in_ok-arr.ensures.known)
    c.answer.ensures.accepted
