use Rattle.std.proofs.Common.{◌≤◌, length}
use Rattle.hp_io.specs.Bytes.{Took}
use Rattle.hp_io.proofs.source.read_all.Given as goal

abbrev pub invariant-loop : goal.invariant-loop
invariant-loop g l = record {
  short : length l.all.items ≤ l.max;
  turns : l.counter ≤ length l.all.items;
  later : g.S.Source.faults l.fn.src ≤ g.S.Source.faults l.src;
  bytes : Took (g.S.Source.left l.fn.src) (g.S.Source.left l.src) l.all.items;
}
