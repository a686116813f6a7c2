use Rattle.std.proofs.lemmas.Result.{IfOk-weaker}
use Rattle.hp_top.proofs.Tallying.{asked-tally}
use Rattle.hp_top.proofs.tally.tally_line.Goals as goal

pub returns-in-Answered-clause-tally : goal.returns-in-Answered-clause-tally
returns-in-Answered-clause-tally g c =
    IfOk-weaker c.tally_answer.result _ _
    (λ t is. asked-tally g.M.Modulus.P c.args.session.now c.args.line.now.command c.in-Answered.answer t c.in-Answered.ensures.1 is)
    c.tally_answer.ensures.tally
