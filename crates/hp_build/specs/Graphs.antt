-- Lists of edges that make no simple graph.
use Rattle.std.specs.Prelude.{ℕ, ◌-◌, ◌==◌, nat_le, min, max, Bool, not, ◌&&◌, ◌||◌, List, length, take, Option, find, slice_index_or}
use Rattle.hp_lists.specs.Lists.{one_to, list_any}

-- two edges join the same vertices
abbrev pub same_edge : ℕ × ℕ → ℕ × ℕ → Bool
same_edge d e = (min d.0 d.1 == min e.0 e.1) && (max d.0 d.1 == max e.0 e.1)

-- the edge is a loop, has an end outside 1 to v, or joins the vertices of an earlier edge
abbrev pub is_bad_edge : ℕ → List (ℕ × ℕ) → ℕ × ℕ → Bool
is_bad_edge v earlier e = (e.0 == e.1) || (not (nat_le 1 (min e.0 e.1) && nat_le (max e.0 e.1) v) || list_any (same_edge e) earlier)

-- the number of the first bad edge, counted from 1
abbrev pub bad_edge : ℕ → List (ℕ × ℕ) → Option ℕ
bad_edge v edges = find (λ k. is_bad_edge v (take (k - 1) edges) (slice_index_or edges (k - 1) (0, 0))) (one_to (length edges))
