-- The sample script: thirty graphs, drawn one after another from a number, and what is asked of each.
use Rattle.std.specs.Prelude.{ℕ, zero, suc, ◌+◌, ◌*◌, ◌/◌, ◌%◌, ◌^◌, ◌==◌, nat_lt, nat_le, if◌then◌else◌, List, [], ◌∷◌, ◌++◌, map, filter, flat_map, length, codes, decimal}
use Rattle.hp_lists.specs.Lists.{one_to}

-- a draw: the state after it
abbrev pub next_state : ℕ → ℕ
next_state s = (s * 1103515245 + 12345) % 2 ^ 31

-- the bit of a draw, by the state after it
abbrev pub bit_of : ℕ → ℕ
bit_of s = (s / 65536) % 2

-- the state after n draws
abbrev pub state_after : ℕ → ℕ → ℕ
state_after zero s = s
state_after (suc n) s = state_after n (next_state s)

-- the pairs a < b of 1 to v, in lexicographic order
abbrev pub vertex_pairs : ℕ → List (ℕ × ℕ)
vertex_pairs v = flat_map (λ a. map (λ b. (a, b)) (filter (nat_lt a) (one_to v))) (one_to v)

-- the edges of a graph: each pair takes one draw, and is kept where the bit is 1
abbrev pub drawn : List (ℕ × ℕ) → ℕ → List (ℕ × ℕ)
drawn [] s = []
drawn (e ∷ es) s = if bit_of (next_state s) == 1 then e ∷ drawn es (next_state s) else drawn es (next_state s)

-- graphs 1 to 20 have 5 vertices, graphs 21 to 30 have 8
abbrev pub vertices : ℕ → ℕ
vertices i = if nat_le i 20 then 5 else 8

-- the questions on a graph
abbrev pub questions : ℕ → List (List ℕ)
questions i = if nat_le i 20 then codes "poincare" ∷ codes "nbc" ∷ codes "free" ∷ [] else codes "flats" ∷ codes "poincare" ∷ codes "nbc" ∷ []

-- `a-b`
abbrev pub edge_text : ℕ × ℕ → List ℕ
edge_text e = decimal e.0 ++ codes "-" ++ decimal e.1

-- each piece behind a space
abbrev pub behind_spaces : List (List ℕ) → List ℕ
behind_spaces pieces = flat_map (λ piece. codes " " ++ piece) pieces

-- the pieces, joined by one space
abbrev pub spaced : List (List ℕ) → List ℕ
spaced [] = []
spaced (piece ∷ pieces) = piece ++ behind_spaces pieces

-- `Gi`
abbrev pub graph_name : ℕ → List ℕ
graph_name i = codes "G" ++ decimal i

-- `let Gi = graphic 5 [1-5 2-4]`
abbrev pub graph_line : ℕ → List (ℕ × ℕ) → List ℕ
graph_line i edges =
    codes "let " ++ graph_name i ++ codes " = graphic " ++ decimal (vertices i) ++ codes " [" ++ spaced (map edge_text edges) ++ codes "]"

-- `poincare Gi`
abbrev pub question_line : ℕ → List ℕ → List ℕ
question_line i word = word ++ codes " " ++ graph_name i

-- the lines of a graph: its `let`, and its questions
abbrev pub lines_of : ℕ → List (ℕ × ℕ) → List (List ℕ)
lines_of i edges = graph_line i edges ∷ map (question_line i) (questions i)

-- the lines of the graphs of these numbers, drawn in order from one state
abbrev pub graph_lines : List ℕ → ℕ → List (List ℕ)
graph_lines [] s = []
graph_lines (i ∷ is) s =
    let pairs = vertex_pairs (vertices i) in
    lines_of i (drawn pairs s) ++ graph_lines is (state_after (length pairs) s)

-- the lines of the script
abbrev pub sample_lines : ℕ → List (List ℕ)
sample_lines k = codes "field 32003" ∷ graph_lines (one_to 30) k

-- each line is ended by a line feed
abbrev pub ended : List (List ℕ) → List ℕ
ended lines = flat_map (λ line. line ++ 10 ∷ []) lines

unfoldable pub sample_text : ℕ → List ℕ
sample_text k = ended (sample_lines k)
