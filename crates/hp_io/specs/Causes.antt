-- Faults are counted, and a count stands still at the end of its type.
use Rattle.std.specs.Prelude.{ℕ, ◌+◌, ◌-◌, ◌^◌, ◌≤◌, min}

-- the count is greater now than before, or stands at its end
abbrev pub Rose : ℕ → ℕ → Type 0
Rose before now = min (before + 1) (2 ^ 64 - 1) ≤ now

-- A count over a call: it doesn't fall, it fits its type, and it rose where the call answers a fault.
pub record HasCause (before now : ℕ) (fault : Type 0) : Type 0 where
  pub never_falls : before ≤ now
  pub fits : now ≤ 2 ^ 64 - 1
  pub cause : fault → Rose before now
