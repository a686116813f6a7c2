-- Factors in a ring.
use Rattle.std.specs.Prelude.{◌≡◌}
use Rattle.hp_algebra.specs.Ring.{RingOf}

-- some value times a is x
abbrev pub IsFactor : {R : Type 0} → RingOf R → R → R → Type 0
IsFactor {R} ring a x = (h : R) × ring.IsValue h × (x ≡ ring.mul a h)
