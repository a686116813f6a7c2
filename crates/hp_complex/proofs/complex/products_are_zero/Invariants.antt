use Rattle.std.proofs.Common.{◌<◌, ℕ, suc}
use Rattle.hp_complex.specs.Complexes.{map_at, IsZeroProduct}
use Rattle.hp_complex.proofs.complex.products_are_zero.Given as goal

-- the products so far are zero
abbrev pub invariant-loop-k : goal.invariant-loop-k
invariant-loop-k g l = (h : ℕ) → suc h < l.k → IsZeroProduct g.R.Ring.ring (map_at l.maps (suc h)) (map_at l.maps h)
