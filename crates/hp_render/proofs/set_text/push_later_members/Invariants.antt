use Rattle.std.proofs.Common.{◌≡◌, ◌++◌, ◌-◌, take, drop, map}
use Rattle.std.specs.Prelude.{decimal}
use Rattle.hp_render.specs.Text.{behind_spaces}
use Rattle.hp_render.proofs.set_text.push_later_members.Given as goal

-- the members up to place k are appended, but the least
abbrev pub invariant-loop-k : goal.invariant-loop-k
invariant-loop-k l = l.text.items ≡ l.initial.text.items ++ behind_spaces (map decimal (take (l.k - 1) (drop 1 l.set)))
