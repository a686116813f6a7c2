use Rattle.std.proofs.Common.{ap, subst, ◌∙◌, false-eqb, arith}
use Rattle.hp_script.specs.declared.fault.Fault.TheVariants.{At}
use Rattle.hp_script.specs.Grammar.{Spells}
use Rattle.hp_script.specs.Cut.{column_of}
use Rattle.hp_script.specs.Reading.{StopsWith}
use Rattle.hp_script.proofs.Columns.{refused_at}
use Rattle.hp_script.proofs.Short.{line_short}
use Rattle.hp_script.proofs.lines.line.Goals as goal

pub returns-clause-refused : goal.returns-clause-refused
returns-clause-refused c =
    refused_at c.args.text.now c.in-Ok.tokens.items c.in-Ok.places.items c.in-Err-At.left c.column.result c.in-Ok.ensures (λ e. false-eqb c.in-Ok.tokens.len 0 c.if-is_empty.ensures (omega (arith, c.in-Ok.tokens.ok.0, e)))
    (subst (λ ts. StopsWith ts (At c.in-Err-At.left)) c.deref.ensures.value (subst (λ e. StopsWith c.deref.result.now e) c.in-Err-At.field-0-is c.in-Err-At.ensures.stopped))
    (c.column.ensures ∙ ap (λ ps. column_of ps c.in-Err-At.left) c.deref-in-Err-At.ensures.value)

pub returns-in-Ok-spelled-clause-command : goal.returns-in-Ok-spelled-clause-command
returns-in-Ok-spelled-clause-command c = subst (λ ts. Spells ts c.in-Ok-spelled.command) (c.deref.ensures.value ∙ c.in-Ok.ensures.tokens_are) c.in-Ok-spelled.ensures.found

pub returns-in-Ok-spelled-clause-short : goal.returns-in-Ok-spelled-clause-short
returns-in-Ok-spelled-clause-short c =
    line_short c.args.text.now c.in-Ok-spelled.command c.requires (subst (λ ts. Spells ts c.in-Ok-spelled.command) (c.deref.ensures.value ∙ c.in-Ok.ensures.tokens_are) c.in-Ok-spelled.ensures.found)
