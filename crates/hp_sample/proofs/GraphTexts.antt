-- The text grows by the lines of one graph after another.
use Rattle.std.proofs.Common.{◌≡◌, ℕ, suc, ◌+◌, ◌-◌, ◌<◌, List, [], ◌∷◌, ◌++◌, length, ap, sym, ◌∙◌, append_assoc, codes, arith}
use Rattle.std.specs.List.{range_with_len}
use Rattle.std.proofs.lemmas.Grind.{flat_map-append}
use Rattle.hp_lists.specs.Lists.{one_to}
use Rattle.hp_sample.specs.Sample.{drawn, vertex_pairs, vertices, state_after, lines_of, graph_lines, ended, sample_text}

ended-front : (line : List ℕ) (lines : List (List ℕ)) → line ++ 10 ∷ ended lines ≡ ended (line ∷ lines)
ended-front line lines = sym (append_assoc line (10 ∷ []) (ended lines))

-- behind the first line stand the lines of all graphs
pub first_text : (text : List ℕ) (k : ℕ) → text ≡ codes "field 32003" ++ 10 ∷ [] → text ++ ended (graph_lines (one_to 30) k) ≡ sample_text k
unfolding sample_text
first_text text k e = ap (λ t. t ++ ended (graph_lines (one_to 30) k)) e

-- the lines of graph i are appended
pub next_text : (whole text new : List ℕ) (i s after : ℕ) → i < 31
    → text ++ ended (graph_lines (range_with_len i (31 - i)) s) ≡ whole
    → new ≡ text ++ ended (lines_of i (drawn (vertex_pairs (vertices i)) s))
    → after ≡ state_after (length (vertex_pairs (vertices i))) s
    → new ++ ended (graph_lines (range_with_len (i + 1) (31 - (i + 1))) after) ≡ whole
next_text whole text new i s after low before here there =
    let n = 31 - (i + 1) in
    let left : 31 - i ≡ suc n = omega (arith, low) in
    let lines = lines_of i (drawn (vertex_pairs (vertices i)) s) in
    let later : List (List ℕ) = graph_lines (range_with_len (i + 1) n) (state_after (length (vertex_pairs (vertices i))) s) in
    ap (λ t. t ++ ended (graph_lines (range_with_len (i + 1) n) after)) here
    ∙ ap (λ z. (text ++ ended lines) ++ ended (graph_lines (range_with_len (i + 1) n) z)) there
    ∙ append_assoc text (ended lines) (ended later)
    ∙ ap (λ t. text ++ t) (sym (flat_map-append (λ line. line ++ 10 ∷ []) lines later))
    ∙ ap (λ m. text ++ ended (graph_lines (range_with_len i m) s)) (sym left)
    ∙ before
