use Rattle.std.proofs.Common.{◌≡◌, ◌<◌, ℕ, suc, length}
use Rattle.hp_complex.specs.Complexes.{map_at}
use Rattle.hp_tests.proofs.complex.complex.Given as goal

-- the maps so far can be composed
abbrev pub invariant-loop-k : goal.invariant-loop-k
invariant-loop-k g l = (h : ℕ) → suc h < l.k → (map_at l.maps.items (suc h)).cols ≡ length (map_at l.maps.items h).rows
