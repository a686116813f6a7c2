-- How many flats are listed at most.
use Rattle.std.specs.Prelude.{ℕ}

abbrev pub most_flats : ℕ
most_flats = 100000
