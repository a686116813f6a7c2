use Rattle.std.proofs.Common.{rules, w64, to_z, of_z, SFits, ◌≡◌}
use Rattle.std.proofs.lemmas.Int.{to_z-of_z}
use Rattle.hp_script.specs.Reading.{is_int, int_at}
use Rattle.hp_script.proofs.Loop.{goes_on}
use Rattle.hp_script.proofs.numbers.ints.Goals as goal

pub more-preserved : goal.more-preserved
more-preserved c =
    let fits : SFits w64 c.in_ok-n.n = search rules in
    let kept : to_z w64 (of_z w64 c.in_ok-n.n) ≡ c.in_ok-n.n = to_z-of_z w64 c.in_ok-n.n fits in
    rw (c.in_ok-push.ensures.items, kept)
    (goes_on is_int int_at c.args.numbers.items c.args.tokens.now c.more.numbers.items c.more.rest.now c.in_ok-n.after.now c.in_ok-n.n c.more.invariant c.more-test.ensures c.in_ok-n.ensures.given c.in_ok-n.ensures.shorter)
