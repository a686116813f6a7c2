use Rattle.std.specs.Prelude.{take}
use Rattle.hp_mobius.specs.Partial.{IsShared, noted}
use Rattle.hp_mobius.proofs.values.share_value.Given as goal

-- the covers so far have got their share
abbrev pub invariant-loop-k : goal.invariant-loop-k
invariant-loop-k l = IsShared l.f l.value (take l.k l.covers) (noted l.initial.sums) (noted l.sums)
