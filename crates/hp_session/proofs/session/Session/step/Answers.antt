use Rattle.std.proofs.Common.{refl, ◌∙◌}
use Rattle.hp_script.specs.declared.command.Command.TheVariants.{Let, Ask}
use Rattle.hp_session.specs.Stops.{let_refusal, ask_refusal}
use Rattle.hp_session.proofs.Tables.{table-let, table-ask, steps_stopped}
use Rattle.hp_session.proofs.session.Session.step.Goals as goal

pub returns-in-Err : goal.returns-in-Err
returns-in-Err g c =
    let ring = g.K.Ring.ring in
    let inverse = g.K.Field.inverse in
    let numbers = g.K.FiniteField.numbers in
    let old = c.args.self.now in
    let name = c.in-Let.name in
    let build = c.in-Let.build in
    rw (c.in-Let.is, c.from.ensures)
    (steps_stopped ring inverse numbers old c.give.new.self (Let name build)
    (let_refusal ring inverse numbers old name build) c.in-Err.stop
    (table-let ring inverse numbers old name build) c.in-Err.ensures.stop c.in-Err.ensures.kept)

pub returns-in-Ok-answered : goal.returns-in-Ok-answered
returns-in-Ok-answered g c =
    rw (c.in-Ask.is) (
      table-ask g.K.Ring.ring g.K.Field.inverse g.K.FiniteField.numbers c.args.self.now c.in-Ask.name c.in-Ask.question
          ∙ c.in-Ok-answered.ensures.accepted,
      c.in-Ok-answered.ensures.right,
      refl,
    )

pub returns-in-Err-answered : goal.returns-in-Err-answered
returns-in-Err-answered g c =
    let ring = g.K.Ring.ring in
    let inverse = g.K.Field.inverse in
    let numbers = g.K.FiniteField.numbers in
    let old = c.args.self.now in
    let name = c.in-Ask.name in
    let question = c.in-Ask.question in
    rw (c.in-Ask.is, c.from-in-Err-answered.ensures)
    (steps_stopped ring inverse numbers old old (Ask name question) (ask_refusal old name question) c.in-Err-answered.stop
    (table-ask ring inverse numbers old name question) c.in-Err-answered.ensures.stop refl)
