use Rattle.std.proofs.Common.{◌≡◌, [], Err, rules, subst}
use Rattle.hp_io.proofs.Givings.{gave_none}
use Rattle.hp_render.specs.Text.{refusal_text}
use Rattle.hp_top.specs.Course.{refused_at}
use Rattle.hp_top.specs.Ends.{WritesText}
use Rattle.hp_top.proofs.Courses.{nothing_part, refused_cut}
use Rattle.hp_top.proofs.writing.refuse.Goals as goal

pub returns-then-is_err-clause-ends : goal.returns-then-is_err-clause-ends
returns-then-is_err-clause-ends g c = ([], nothing_part (refused_at c.args.number c.args.refusal.now), gave_none (g.T.Sink.written c.args.out.now))

pub returns-clause-ends : goal.returns-clause-ends
returns-clause-ends g c =
    let before = g.T.Sink.written c.args.out.now in
    let now = g.T.Sink.written c.write_text.new.out in
    let text : c.deref.result.now ≡ refusal_text c.args.number c.args.refusal.now = search rules in
    refused_cut c.args.number c.args.refusal.now c.in-Err.status before now
    (subst (λ t. WritesText t (Err c.in-Err.status) before now) text c.in-Err.ensures.writes)
