use Rattle.std.proofs.Common.{◌≡◌, ◌++◌, map, take}
use Rattle.hp_sample.specs.Sample.{behind_spaces, edge_text}
use Rattle.hp_sample.proofs.lines.push_later_edges.Given as goal

abbrev pub invariant-loop-edge : goal.invariant-loop-edge
invariant-loop-edge l = l.text.items ≡ l.fn.text.items ++ behind_spaces (map edge_text (take l.edge-index l.edges))
