-- What a call does to the bytes that a source has left and that a sink was given. An object that tells its bytes has Some of them before and after each call, and one that tells nothing has None at both.
use Rattle.std.specs.Prelude.{◌≡◌, ℕ, ◌<◌, ◌↔◌, List, [], ◌++◌, length, take, ⊤, None, Some, MatchResult}
use Rattle.std.specs.declared.result.Result.{Result}
use Rattle.std.specs.declared.option.Option.{Option}

-- a fact of the bytes before and after, where they are told
abbrev pub WhereTold : (List ℕ → List ℕ → Type 0) → Option (List ℕ) → Option (List ℕ) → Type 0
WhereTold fact None None = ⊤
WhereTold fact None (Some now) = ⊥
WhereTold fact (Some before) None = ⊥
WhereTold fact (Some before) (Some now) = fact before now

-- these bytes were taken from the front of what was left
abbrev pub Took : Option (List ℕ) → Option (List ℕ) → List ℕ → Type 0
Took left_before left_now bytes = WhereTold (λ before now. before ≡ bytes ++ now) left_before left_now

-- some bytes were taken, perhaps none
abbrev pub TookSome : Option (List ℕ) → Option (List ℕ) → Type 0
TookSome before now = (bytes : List ℕ) × Took before now bytes

-- these bytes were all that was left, and nothing is left now
abbrev pub TookAll : Option (List ℕ) → Option (List ℕ) → List ℕ → Type 0
TookAll left_before left_now bytes = WhereTold (λ before now. (before ≡ bytes) × (now ≡ [])) left_before left_now

-- more than `most` bytes were taken exactly where the fact holds
abbrev pub TookOverExactly : Option (List ℕ) → Option (List ℕ) → ℕ → Type 0 → Type 0
TookOverExactly left_before left_now most fact = WhereTold (λ before now. fact ↔ ((bytes : List ℕ) × (before ≡ bytes ++ now) × (most < length bytes))) left_before left_now

-- where the bytes are told, nothing is left exactly where the fact holds
abbrev pub EndsExactly : Option (List ℕ) → Type 0 → Type 0
EndsExactly None fact = ⊤
EndsExactly (Some left) fact = fact ↔ (left ≡ [])

-- these bytes were added to the end of what was written
abbrev pub Gave : Option (List ℕ) → Option (List ℕ) → List ℕ → Type 0
Gave written_before written_now bytes = WhereTold (λ before now. now ≡ before ++ bytes) written_before written_now

-- the front of these bytes, but not all of them, was added to the end of what was written
abbrev pub GavePart : Option (List ℕ) → Option (List ℕ) → List ℕ → Type 0
GavePart before now bytes = (count : ℕ) × (count < length bytes) × Gave before now (take count bytes)

-- a read takes the bytes that it puts at the front of the buffer, none exactly at the end, and takes nothing at an error
abbrev pub ReadTakes : {E : Type 0} → Option (List ℕ) → Option (List ℕ) → Result ℕ E → List ℕ → Type 0
ReadTakes before now answer buffer = MatchResult answer (λ count. Took before now (take count buffer) × EndsExactly before (count ≡ 0)) (λ _. Took before now [])

-- a write gives the front of the piece, and gives nothing at an error
abbrev pub WriteGives : {E : Type 0} → Option (List ℕ) → Option (List ℕ) → Result ℕ E → List ℕ → Type 0
WriteGives before now answer piece = MatchResult answer (λ count. Gave before now (take count piece)) (λ _. Gave before now [])
