use Rattle.std.proofs.Common.{◌≡◌, take}
use Rattle.hp_der.specs.DerivationModules.{second_blocks}
use Rattle.hp_der.proofs.basis.second_blocks.Given as goal

abbrev pub invariant-loop-k : goal.invariant-loop-k
invariant-loop-k g l = l.blocks.items ≡ second_blocks l.n (take l.k l.vectors)
