-- The lines of the sample script: the commands that they spell.
use Rattle.std.proofs.Common.{◌≡◌, ℕ, nat_le, Bool, true, false, cond, List, [], ◌∷◌, ◌++◌, Contains, map, refl, sym, ap, subst, ◌∙◌, append_assoc, append-nil, arith}
use Rattle.std.specs.Prelude.{decimal, codes, None}
use Rattle.std.specs.List.{flat_map}
use Rattle.hp_lists.proofs.Members.{Contains-here, Contains-later}
use Rattle.hp_script.specs.declared.token.Token.{Token}
use Rattle.hp_script.specs.declared.token.Token.TheVariants.{Word, Number}
use Rattle.hp_script.specs.declared.command.Command.TheVariants.{Field, Let, Ask}
use Rattle.hp_script.specs.declared.command.Build.TheVariants.{Graphic}
use Rattle.hp_script.specs.declared.command.Question.TheVariants as question
use Rattle.hp_script.specs.declared.words.Keyword.TheVariants as keyword
use Rattle.hp_script.specs.declared.words.Topic.TheVariants as topic
use Rattle.hp_script.specs.declared.words.Shape.TheVariants as shape
use Rattle.hp_script.specs.Tokens.{is_digit, line_tokens}
use Rattle.hp_script.specs.Grammar.{Spells, Edge, edge_value}
use Rattle.hp_script.specs.Grammar as grammar
use Rattle.hp_sample.specs.Sample.{vertices, edge_text, behind_spaces, spaced, graph_name, graph_line, question_line}
use Rattle.hp_sampled.proofs.SampleTokens.{IsCutInto, IsSmall, Stops, is_plain, cut_line, cut_end, cut_blank, cut_word, cut_number, cut_mark, small}

-- both ends are small numbers
abbrev pub IsSmallEdge : ℕ × ℕ → Type 0
IsSmallEdge e = IsSmall e.0 × IsSmall e.1

abbrev pub as_edge : ℕ × ℕ → Edge
as_edge e = record { from = e.0; to = e.1 }

abbrev pub edge_tokens : List (ℕ × ℕ) → List Token
edge_tokens es = flat_map grammar.edge_text (map as_edge es)

same_edges : (es : List (ℕ × ℕ)) → map edge_value (map as_edge es) ≡ es
same_edges [] = refl
same_edges (e ∷ es) = ap (λ xs. e ∷ xs) (same_edges es)

cut_edge : (e : ℕ × ℕ) (rest : List ℕ) (ts : List Token) → IsSmallEdge e → Stops is_digit rest → IsCutInto rest ts
    → IsCutInto (edge_text e ++ rest) (Number e.0 ∷ grammar.minus_sign ∷ Number e.1 ∷ ts)
cut_edge e rest ts h s c =
    subst (λ bs. IsCutInto bs (Number e.0 ∷ grammar.minus_sign ∷ Number e.1 ∷ ts))
    (sym (append_assoc (decimal e.0 ++ 45 ∷ []) (decimal e.1) rest
    ∙ append_assoc (decimal e.0) (45 ∷ []) (decimal e.1 ++ rest)))
    (cut_number e.0 (45 ∷ (decimal e.1 ++ rest)) (grammar.minus_sign ∷ Number e.1 ∷ ts) h.0 refl
    (cut_mark 45 (decimal e.1 ++ rest) (Number e.1 ∷ ts) refl refl refl
    (cut_number e.1 rest ts h.1 s c)))

closed : (es : List (ℕ × ℕ)) → Stops is_digit (behind_spaces (map edge_text es) ++ 93 ∷ [])
closed [] = refl
closed (e ∷ es) = refl

cut_later : (es : List (ℕ × ℕ)) → ((e : ℕ × ℕ) → Contains es e → IsSmallEdge e)
    → IsCutInto (behind_spaces (map edge_text es) ++ 93 ∷ []) (edge_tokens es ++ grammar.closing ∷ [])
cut_later [] small_ends = cut_mark 93 [] [] refl refl refl cut_end
cut_later (e ∷ es) small_ends =
    let later = behind_spaces (map edge_text es) in
    subst (λ bs. IsCutInto (32 ∷ bs) (edge_tokens (e ∷ es) ++ grammar.closing ∷ []))
    (sym (append_assoc (edge_text e) later (93 ∷ [])))
    (cut_blank (edge_text e ++ (later ++ 93 ∷ [])) (edge_tokens (e ∷ es) ++ grammar.closing ∷ [])
    (cut_edge e (later ++ 93 ∷ []) (edge_tokens es ++ grammar.closing ∷ []) (small_ends e (Contains-here e es))
    (closed es)
    (cut_later es (λ d c. small_ends d (Contains-later e es d c)))))

cut_edges : (es : List (ℕ × ℕ)) → ((e : ℕ × ℕ) → Contains es e → IsSmallEdge e)
    → IsCutInto (spaced (map edge_text es) ++ 93 ∷ []) (edge_tokens es ++ grammar.closing ∷ [])
cut_edges [] small_ends = cut_mark 93 [] [] refl refl refl cut_end
cut_edges (e ∷ es) small_ends =
    let later = behind_spaces (map edge_text es) in
    subst (λ bs. IsCutInto bs (edge_tokens (e ∷ es) ++ grammar.closing ∷ []))
    (sym (append_assoc (edge_text e) later (93 ∷ [])))
    (cut_edge e (later ++ 93 ∷ []) (edge_tokens es ++ grammar.closing ∷ []) (small_ends e (Contains-here e es))
    (closed es)
    (cut_later es (λ d c. small_ends d (Contains-later e es d c))))

pub vertices-small : (i : ℕ) → IsSmall (vertices i)
vertices-small i = by_test (nat_le i 20)
  where
    by_test : (b : Bool) → IsSmall (cond b 5 8)
    by_test true = (omega arith, omega arith)
    by_test false = (omega arith, omega arith)

-- six concatenations, from the right
from_right : (a b c d e f g : List ℕ) → a ++ b ++ c ++ d ++ e ++ f ++ g ≡ a ++ (b ++ (c ++ (d ++ (e ++ (f ++ g)))))
from_right a b c d e f g =
    append_assoc (a ++ b ++ c ++ d ++ e) f g ∙ append_assoc (a ++ b ++ c ++ d) e (f ++ g)
    ∙ append_assoc (a ++ b ++ c) d (e ++ (f ++ g))
    ∙ append_assoc (a ++ b) c (d ++ (e ++ (f ++ g))) ∙ append_assoc a b (c ++ (d ++ (e ++ (f ++ g))))

-- the line that names a graph
pub graph_line-spells : (i : ℕ) (es : List (ℕ × ℕ)) → IsSmall i → ((e : ℕ × ℕ) → Contains es e → IsSmallEdge e)
    → Spells (line_tokens (graph_line i es)) (Let (graph_name i) (Graphic (vertices i) es))
graph_line-spells i es h small_ends =
    let v = vertices i in
    let edges = spaced (map edge_text es) ++ 93 ∷ [] in
    let tail : List Token = edge_tokens es ++ grammar.closing ∷ [] in
    let size : List ℕ = decimal v ++ (32 ∷ 91 ∷ edges) in
    let size_tokens : List Token = Number v ∷ grammar.opening ∷ tail in
    let sized : IsCutInto size size_tokens =
    cut_number v (32 ∷ 91 ∷ edges) (grammar.opening ∷ tail) (vertices-small i) refl
    (cut_blank (91 ∷ edges) (grammar.opening ∷ tail)
    (cut_mark 91 edges tail refl refl refl (cut_edges es small_ends))) in
    let build : List ℕ = codes "graphic" ++ (32 ∷ size) in
    let build_tokens : List Token = Word (codes "graphic") ∷ size_tokens in
    let built : IsCutInto build build_tokens =
    cut_word (codes "graphic") (32 ∷ size) size_tokens refl refl (cut_blank size size_tokens sized) in
    let behind_name : List ℕ = 32 ∷ 61 ∷ 32 ∷ build in
    let named_tokens : List Token = Word (graph_name i) ∷ grammar.equals_sign ∷ build_tokens in
    let named : IsCutInto (graph_name i ++ behind_name) named_tokens =
    cut_word (graph_name i) behind_name (grammar.equals_sign ∷ build_tokens) (small i h.0 h.1).goes_on refl
    (cut_blank (61 ∷ 32 ∷ build) (grammar.equals_sign ∷ build_tokens)
    (cut_mark 61 (32 ∷ build) build_tokens refl refl refl (cut_blank build build_tokens built))) in
    let whole : IsCutInto (codes "let" ++ (32 ∷ (graph_name i ++ behind_name))) (Word (codes "let") ∷ named_tokens) =
    cut_word (codes "let") (32 ∷ (graph_name i ++ behind_name)) named_tokens refl refl
    (cut_blank (graph_name i ++ behind_name) named_tokens named) in
    let same = from_right (codes "let ") (graph_name i) (codes " = graphic ") (decimal v)
    (codes " [") (spaced (map edge_text es)) (codes "]") in (
      (keyword.Let, (graph_name i, (shape.Graphic, (v, map as_edge es)))),
      cut_line (graph_line i es) _ (subst (λ bs. IsCutInto bs (Word (codes "let") ∷ named_tokens)) (sym same) whole),
      ap (λ xs. Let (graph_name i) (Graphic v xs)) (sym (same_edges es)),
    )

-- the line of a question
abbrev pub asked_line : ℕ → List ℕ → List Token
asked_line i w = Word w ∷ Word (graph_name i) ∷ []

question-tokens : (i : ℕ) (w : List ℕ) → IsSmall i → is_plain w ≡ true
    → line_tokens (question_line i w) ≡ asked_line i w
question-tokens i w h p =
    cut_line (question_line i w) (asked_line i w)
    (subst (λ bs. IsCutInto bs (asked_line i w)) (sym (append_assoc w (codes " ") (graph_name i)))
    (cut_word w (32 ∷ graph_name i) (Word (graph_name i) ∷ []) p refl
    (cut_blank (graph_name i) (Word (graph_name i) ∷ [])
    (subst (λ bs. IsCutInto bs (Word (graph_name i) ∷ [])) (append-nil (graph_name i))
    (cut_word (graph_name i) [] [] (small i h.0 h.1).goes_on tt cut_end)))))

pub poincare-spells : (i : ℕ) → IsSmall i
    → Spells (line_tokens (question_line i (codes "poincare"))) (Ask (graph_name i) question.Poincare)
poincare-spells i h = (
  (keyword.Ask topic.Poincare, (graph_name i, tt)),
  question-tokens i (codes "poincare") h refl,
  refl,
)

pub nbc-spells : (i : ℕ) → IsSmall i
    → Spells (line_tokens (question_line i (codes "nbc"))) (Ask (graph_name i) question.Nbc)
nbc-spells i h = ((keyword.Ask topic.Nbc, (graph_name i, tt)), question-tokens i (codes "nbc") h refl, refl)

pub flats-spells : (i : ℕ) → IsSmall i
    → Spells (line_tokens (question_line i (codes "flats"))) (Ask (graph_name i) question.Flats)
flats-spells i h = ((keyword.Ask topic.Flats, (graph_name i, tt)), question-tokens i (codes "flats") h refl, refl)

pub free-spells : (i : ℕ) → IsSmall i
    → Spells (line_tokens (question_line i (codes "free"))) (Ask (graph_name i) (question.Free None))
free-spells i h = ((keyword.Ask topic.Free, (graph_name i, None)), question-tokens i (codes "free") h refl, refl)

pub field-spells : Spells (line_tokens (codes "field 32003")) (Field 32003)
field-spells = ((keyword.Field, 32003), refl, refl)
