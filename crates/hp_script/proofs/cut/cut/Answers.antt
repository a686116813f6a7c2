use Rattle.std.proofs.Common.{ap, ◌∙◌}
use Rattle.hp_script.specs.Cut.{token_in}
use Rattle.hp_script.proofs.Cutting.{begins, passes_blank, takes_token, front_is_text}
use Rattle.hp_script.proofs.cut.cut.Goals as goal

pub byte-init : goal.byte-init
byte-init c = rw (c.new-tokens.ensures.items, c.new-places.ensures.items) (begins c.args.line.now)

pub byte-preserved-then-starts_blank : goal.byte-preserved-then-starts_blank
byte-preserved-then-starts_blank c =
    rw c.after_first-rest.ensures
    (passes_blank c.args.line.now c.byte.tokens.items c.byte.places.items c.byte.column c.byte.rest.now c.byte.invariant c.byte-test.ensures c.if-starts_blank.ensures)

pub token_of-requires : goal.token_of-requires
token_of-requires c = rw c.split_at.ensures.front (front_is_text c.byte.rest.now c.text_len-len.result c.text_len-len.ensures.value)

pub byte-preserved : goal.byte-preserved
byte-preserved c =
    rw (c.in_ok-push.ensures.items, c.in_ok-push-2.ensures.items, c.split_at.ensures.back)
    (takes_token c.args.line.now c.byte.tokens.items c.byte.places.items c.byte.column c.byte.rest.now c.text_len-len.result c.in_ok-token_of.field-0 c.byte.invariant c.byte-test.ensures c.if-starts_blank.ensures c.text_len-len.ensures.value c.text_len-len.ensures.within (c.in_ok-token_of.ensures ∙ ap token_in c.split_at.ensures.front))
