use Rattle.std.proofs.Common.{◌≡◌, suc, length}
use Rattle.hp_syzygy.proofs.FrameSteps.{IsFrameUpTo}
use Rattle.hp_syzygy.proofs.frames.frame.Given as goal

-- the levels so far
abbrev pub invariant-loop : goal.invariant-loop
invariant-loop g l = record {
  frame : IsFrameUpTo g.F.Ring.ring g.F.Field.inverse l.basis.members l.basis.width l.level
      (record { maps = l.maps.items; degrees = l.degrees.items });
  passed : length l.maps.items ≡ suc l.counter;
}
