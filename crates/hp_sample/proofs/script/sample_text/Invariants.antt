use Rattle.std.proofs.Common.{◌≡◌, ◌-◌, ◌++◌}
use Rattle.std.specs.List.{range_with_len}
use Rattle.hp_sample.specs.Sample.{ended, graph_lines, sample_text}
use Rattle.hp_sample.proofs.script.sample_text.Given as goal

-- behind the text stand the lines of the graphs that are left
abbrev pub invariant-loop-i : goal.invariant-loop-i
invariant-loop-i l = l.text.items ++ ended (graph_lines (range_with_len l.i (31 - l.i)) l.state) ≡ sample_text l.fn.k
