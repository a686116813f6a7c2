use Rattle.std.proofs.Common.{sym, ◌∙◌}
use Rattle.hp_algebra.specs.Ring.{integer}
use Rattle.hp_session.proofs.Forms.{right_lengths, widths_of}
use Rattle.hp_session.proofs.building.forms_of.Goals as goal

pub returns-clause-widths : goal.returns-clause-widths
returns-clause-widths g c =
    let rows = c.args.rows.now in
    widths_of (λ form. form.items) (integer g.K.Ring.ring) c.args.width c.in_ok-rows_in_field.field-0.items rows c.in_ok-rows_in_field.ensures (right_lengths c.args.width rows (sym c.has_wrong_length.ensures ∙ c.if-has_wrong_length.false))
