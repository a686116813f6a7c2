-- The calls of a source or a sink in memory, some of which fail, and what is seen of the two.
use Rattle.std.specs.Prelude.{◌≡◌, ℕ, ◌+◌, ◌-◌, ◌^◌, ◌<◌, ◌↔◌, min, List, Contains}

-- How calls go: the most bytes that one moves, how many there were, a count that stands still at 2^64 - 1, the numbers of those that fail, and how many have failed.
pub record Calls : Type 0 where
  pub most : ℕ
  pub made : ℕ
  pub failing : List ℕ
  pub faults : ℕ

-- no call yet
abbrev pub no_calls : ℕ → List ℕ → Calls
no_calls most failing = record { most = most; made = 0; failing = failing; faults = 0 }

-- the next call fails: its number, counted from 1, stands in the list, and the count has not come to its end before
abbrev pub FailsNext : Calls → Type 0
FailsNext calls = (calls.made < 2 ^ 64 - 1) × Contains calls.failing (calls.made + 1)

-- after one more call, which has not failed
abbrev pub after_success : Calls → Calls
after_success calls = record calls { made = min (calls.made + 1) (2 ^ 64 - 1) }

-- after one more call, which has failed
abbrev pub after_failure : Calls → Calls
after_failure calls = record calls { made = min (calls.made + 1) (2 ^ 64 - 1); faults = calls.faults + 1 }

-- One more call: it fails exactly where its number stands in the list, and is counted.
pub record GoesOn (before now : Calls) (failed : Type 0) : Type 0 where
  pub cause : failed ↔ FailsNext before
  pub fault : failed → now ≡ after_failure before
  pub success : ¬ failed → now ≡ after_success before

-- what is seen of a source in memory: the bytes that it has left, and its calls
pub record Supply : Type 0 where
  pub left : List ℕ
  pub calls : Calls

-- what is seen of a sink in memory: the bytes that it was given, and its calls
pub record Store : Type 0 where
  pub written : List ℕ
  pub calls : Calls
