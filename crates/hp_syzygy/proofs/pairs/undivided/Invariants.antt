use Rattle.std.proofs.Common.{◌≡◌, not, take}
use Rattle.std.specs.List.{filter}
use Rattle.hp_syzygy.specs.DividingTests.{term_divides}
use Rattle.hp_syzygy.proofs.pairs.undivided.Given as goal

-- those so far
abbrev pub invariant-loop-k : goal.invariant-loop-k
invariant-loop-k l = l.rest.items ≡ filter (λ q. not (term_divides l.t q.0)) (take l.k l.kept)
