-- The commands of the sample script.
use Rattle.std.specs.Prelude.{ℕ, ◌+◌, nat_le, if◌then◌else◌, List, [], ◌∷◌, ◌++◌, map, length, None}
use Rattle.hp_lists.specs.Lists.{one_to}
use Rattle.hp_script.specs.declared.command.Command.{Command}
use Rattle.hp_script.specs.declared.command.Command.TheVariants.{Field, Let, Ask}
use Rattle.hp_script.specs.declared.command.Build.TheVariants.{Graphic}
use Rattle.hp_script.specs.declared.command.Line.{Line}
use Rattle.hp_script.specs.declared.command.Question.{Question}
use Rattle.hp_script.specs.declared.command.Question.TheVariants as question
use Rattle.hp_sample.specs.Sample.{vertices, vertex_pairs, drawn, state_after, graph_name}

-- the questions on a graph
abbrev pub asked : ℕ → List Question
asked i =
    if nat_le i 20 then question.Poincare ∷ question.Nbc ∷ question.Free None ∷ []
    else question.Flats ∷ question.Poincare ∷ question.Nbc ∷ []

-- a question that the sample asks
abbrev pub IsSampleQuestion : Question → Type 0
IsSampleQuestion question.Flats = Unit {0}
IsSampleQuestion question.Poincare = Unit {0}
IsSampleQuestion question.Nbc = Unit {0}
IsSampleQuestion (question.Free None) = Unit {0}
IsSampleQuestion other = ⊥

-- the questions among commands
abbrev pub questions_of : List Command → List Question
questions_of [] = []
questions_of (Ask x q ∷ cs) = q ∷ questions_of cs
questions_of (other ∷ cs) = questions_of cs

-- the commands of a graph: its `let`, and its questions
abbrev pub commands_of : ℕ → List (ℕ × ℕ) → List Command
commands_of i edges = Let (graph_name i) (Graphic (vertices i) edges) ∷ map (Ask (graph_name i)) (asked i)

-- the commands of the graphs of these numbers, drawn in order from one state
abbrev pub graph_commands : List ℕ → ℕ → List Command
graph_commands [] s = []
graph_commands (i ∷ is) s =
    let pairs = vertex_pairs (vertices i) in
    commands_of i (drawn pairs s) ++ graph_commands is (state_after (length pairs) s)

abbrev pub sample_commands : ℕ → List Command
sample_commands k = Field 32003 ∷ graph_commands (one_to 30) k

-- the lines that hold these commands, from a number on
abbrev pub numbered : ℕ → List Command → List Line
numbered n [] = []
numbered n (c ∷ cs) = record { number = n; command = c } ∷ numbered (n + 1) cs
