-- How many circuits and how many sets without broken circuit are listed at most.
use Rattle.std.specs.Prelude.{ℕ}

abbrev pub most_circuits : ℕ
most_circuits = 100000

abbrev pub most_nbc : ℕ
most_nbc = 100000
