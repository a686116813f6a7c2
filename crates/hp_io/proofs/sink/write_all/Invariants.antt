use Rattle.std.proofs.Common.{◌≤◌, ◌-◌, length, take}
use Rattle.hp_io.specs.Bytes.{Gave}
use Rattle.hp_io.proofs.sink.write_all.Given as goal

abbrev pub invariant-loop-at : goal.invariant-loop-at
invariant-loop-at g l = record {
  within : l.at ≤ length l.bytes;
  later : g.T.Sink.faults l.fn.out ≤ g.T.Sink.faults l.out;
  given : Gave (g.T.Sink.written l.fn.out) (g.T.Sink.written l.out) (take l.at l.bytes);
}

abbrev pub decreases-loop-at : goal.decreases-loop-at
decreases-loop-at g l = length l.bytes - l.at
