-- The lines of a script, its commands, and the fault of a script that has a line outside the grammar.
use Rattle.std.specs.Prelude.{◌≡◌, ◌⊎◌, ℕ, ◌+◌, ◌-◌, ◌<◌, ◌≤◌, ◌==◌, List, [], ◌∷◌, length, Some, slice_get}
use Rattle.std.specs.List.{slice_split}
use Rattle.hp_script.specs.declared.command.Command.{Command}
use Rattle.hp_script.specs.declared.command.Line.{Line}
use Rattle.hp_script.specs.declared.command.ScriptFault.{ScriptFault}
use Rattle.hp_script.specs.declared.command.ScriptFault.TheVariants.{Syntax, Memory}
use Rattle.hp_script.specs.declared.script.TheConstants.{MAX_BYTES}
use Rattle.hp_script.specs.Tokens.{Placed, tokens, line_tokens}
use Rattle.hp_script.specs.Grammar.{Spells, StopsAt}

-- a script has at most so many bytes
abbrev pub most_bytes : ℕ
most_bytes = MAX_BYTES

-- the lines of a script: what stands between line feeds
abbrev pub lines : List ℕ → List (List ℕ)
lines script = slice_split (λ b. b == 10) script

-- a line without tokens is allowed and is no command
abbrev pub IsAllowed : List ℕ → Type 0
IsAllowed line = (line_tokens line ≡ []) ⊎ ((c : Command) × Spells (line_tokens line) c)

-- The column of a line outside the grammar. The longest prefix of its tokens that begins a command has k tokens.
-- Where a token follows, it is that token's column; else it is one past the last byte of the last token.
pub record IsRefusedAt (line : List ℕ) (column : ℕ) : Type 0 where
  pub not_allowed : ¬ (IsAllowed line)
  pub k : ℕ
  pub stops : StopsAt (line_tokens line) k
  pub next : (p : Placed) → slice_get (tokens line) k ≡ Some p → column ≡ p.first
  pub at_end : (p : Placed) → k ≡ length (tokens line) → slice_get (tokens line) (k - 1) ≡ Some p → column ≡ p.after

-- the commands that the lines spell, from the line of that number on
abbrev pub HasCommandsFrom : ℕ → List (List ℕ) → List Line → Type 0
HasCommandsFrom n [] cs = cs ≡ []
HasCommandsFrom n (l ∷ ls) cs =
    ((line_tokens l ≡ []) × HasCommandsFrom (n + 1) ls cs)
    ⊎ ((c : Command) × (rest : List Line) × Spells (line_tokens l) c × (cs ≡ record { number = n; command = c } ∷ rest) × HasCommandsFrom (n + 1) ls rest)

-- every line is within the grammar, and these are the commands
abbrev pub HasCommands : List ℕ → List Line → Type 0
HasCommands script cs = HasCommandsFrom 1 (lines script) cs

-- the first line outside the grammar, and its column
pub record HasSyntaxFault (script : List ℕ) (line column : ℕ) : Type 0 where
  pub text : List ℕ
  pub at : slice_get (lines script) (line - 1) ≡ Some text
  pub counted : 1 ≤ line
  pub before : (k : ℕ) (l : List ℕ) → k + 1 < line → slice_get (lines script) k ≡ Some l → IsAllowed l
  pub column_is : IsRefusedAt text column

-- the fault of a script, but for want of memory
abbrev pub IsFaultOf : List ℕ → ScriptFault → Type 0
IsFaultOf script (Syntax line column) = HasSyntaxFault script line column
IsFaultOf script Memory = Unit {0}

-- A script has exactly one reading: its commands or its fault, and each of them is determined.
pub record HasOneReading (script : List ℕ) : Type 0 where
  pub some : ((cs : List Line) × HasCommands script cs) ⊎ ((line column : ℕ) × HasSyntaxFault script line column)
  pub not_both : (cs : List Line) (line column : ℕ) → HasCommands script cs → ¬ (HasSyntaxFault script line column)
  pub commands : (cs ds : List Line) → HasCommands script cs → HasCommands script ds → cs ≡ ds
  pub fault : (line column l c : ℕ) → HasSyntaxFault script line column → HasSyntaxFault script l c → (line ≡ l) × (column ≡ c)
