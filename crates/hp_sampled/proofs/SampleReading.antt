-- The lines of the sample script hold its commands, and the script is read whole.
use Rattle.std.proofs.Common.{◌≡◌, ℕ, suc, ◌+◌, ◌*◌, ◌<◌, ◌≤◌, ◌==◌, nat_le, Bool, true, false, not, cond, List, [], ◌∷◌, ◌++◌, length, length-append, Contains, All, map, inl, inr, refl, sym, ap, subst, ◌∙◌, append_assoc, arith}
use Rattle.std.specs.Prelude.{codes, None}
use Rattle.std.specs.List.{count_by}
use Rattle.std.proofs.lemmas.Bool.{and_parts, not-true}
use Rattle.std.proofs.lemmas.List.Elements.{All-nil, All-cons}
use Rattle.std.proofs.lemmas.List.Splits.{slice_split_at, length-slice_split}
use Rattle.hp_lists.specs.Lists.{one_to}
use Rattle.hp_lists.proofs.Ranges.{range_members}
use Rattle.hp_lists.proofs.Members.{Contains-here, Contains-later}
use Rattle.hp_script.specs.declared.command.Command.{Command}
use Rattle.hp_script.specs.declared.command.Command.TheVariants.{Ask}
use Rattle.hp_script.specs.declared.command.Question.TheVariants as question
use Rattle.hp_script.specs.Tokens.{line_tokens}
use Rattle.hp_script.specs.Grammar.{Spells}
use Rattle.hp_script.specs.Script.{lines, most_bytes, HasCommandsFrom, HasCommands}
use Rattle.hp_sample.specs.Sample.{vertices, vertex_pairs, state_after, graph_name, question_line, lines_of, graph_lines, sample_lines, ended, sample_text}
use Rattle.hp_sampled.specs.SampleCommands.{commands_of, graph_commands, sample_commands, numbered}
use Rattle.hp_sampled.proofs.DrawnEdges.{edges, edges-few, edges-are}
use Rattle.hp_sampled.proofs.SampleTokens.{IsSmall}
use Rattle.hp_sampled.proofs.SampleLines.{IsSmallEdge, vertices-small, graph_line-spells, poincare-spells, nbc-spells, flats-spells, free-spells, field-spells}
use Rattle.hp_sampled.proofs.SampleParts.{IsPart, is_clear, most_of_line, graph_line-part, question-part}

-- a line that spells a command, without a line feed and with few bytes
pub record IsLine (line : List ℕ) (c : Command) : Type 0 where
  pub spells : Spells (line_tokens line) c
  pub part : IsPart most_of_line line

-- these lines spell these commands, one each
abbrev pub AreLines : List (List ℕ) → List Command → Type 0
AreLines [] [] = Unit {0}
AreLines [] (c ∷ cs) = ⊥
AreLines (l ∷ ls) [] = ⊥
AreLines (l ∷ ls) (c ∷ cs) = IsLine l c × AreLines ls cs

lines-append : (ls ms : List (List ℕ)) (cs ds : List Command) → AreLines ls cs → AreLines ms ds
    → AreLines (ls ++ ms) (cs ++ ds)
lines-append [] ms [] ds p q = q
lines-append [] ms (c ∷ cs) ds p q = absurd p
lines-append (l ∷ ls) ms [] ds p q = absurd p
lines-append (l ∷ ls) ms (c ∷ cs) ds p q = (p.0, lines-append ls ms cs ds p.1 q)

-- ---- the lines are what stands between line feeds

no_feeds : (bs : List ℕ) → is_clear bs ≡ true → All (λ b. (b == 10) ≡ false) bs
no_feeds [] p = All-nil (λ b. (b == 10) ≡ false)
no_feeds (b ∷ bs) p =
    let parts = and_parts (not (b == 10)) (is_clear bs) p in
    All-cons (λ b. (b == 10) ≡ false) b bs (not-true (b == 10) parts.0) (no_feeds bs parts.1)

split_lines : (ls : List (List ℕ)) (cs : List Command) → AreLines ls cs → lines (ended ls) ≡ ls ++ [] ∷ []
split_lines [] cs p = refl
split_lines (l ∷ ls) [] p = absurd p
split_lines (l ∷ ls) (c ∷ cs) p =
    ap lines (append_assoc l (10 ∷ []) (ended ls))
    ∙ slice_split_at (λ b. b == 10) l 10 (ended ls) (no_feeds l p.0.part.clear) refl
    ∙ ap (λ ms. l ∷ ms) (split_lines ls cs p.1)

commands_from : (n : ℕ) (ls : List (List ℕ)) (cs : List Command) → AreLines ls cs
    → HasCommandsFrom n (ls ++ [] ∷ []) (numbered n cs)
commands_from n [] [] p = inl (refl, refl)
commands_from n [] (c ∷ cs) p = absurd p
commands_from n (l ∷ ls) [] p = absurd p
commands_from n (l ∷ ls) (c ∷ cs) p = inr (c, numbered (n + 1) cs, p.0.spells, refl, commands_from (n + 1) ls cs p.1)

few_bytes : (ls : List (List ℕ)) (cs : List Command) → AreLines ls cs → length (ended ls) ≤ length ls * 192
few_bytes [] cs p = omega arith
few_bytes (l ∷ ls) [] p = absurd p
few_bytes (l ∷ ls) (c ∷ cs) p =
    sum (length l) (length (l ++ 10 ∷ [])) (length (ended ls)) (length (ended (l ∷ ls))) (length ls)
    p.0.part.few (length-append l (10 ∷ [])) (length-append (l ++ 10 ∷ []) (ended ls)) (few_bytes ls cs p.1)
  where
    sum : (a b c d n : ℕ) → a ≤ 191 → b ≡ a + 1 → d ≡ b + c → c ≤ n * 192 → d ≤ suc n * 192
    sum a b c d n h e f i = omega (arith, h, e, f, i)

-- ---- the lines of a graph

abbrev IsSmallNumber : List ℕ → Type 0
IsSmallNumber is = (i : ℕ) → Contains is i → IsSmall i

small_ends : (i s : ℕ) (e : ℕ × ℕ) → Contains (edges i s) e → IsSmallEdge e
small_ends i s e c = both (edges-are i s e c) (vertices-small i)
  where
    both : (1 ≤ e.0) × (e.0 < e.1) × (e.1 ≤ vertices i) → IsSmall (vertices i) → IsSmallEdge e
    both h v = ((omega (arith, h), omega (arith, h, v)), (omega (arith, h), omega (arith, h, v)))

word : (w : List ℕ) (n : ℕ) → is_clear w ≡ true → length w ≡ n → n ≤ 8 → IsPart 8 w
word w n c e h = record { clear = c; few = omega (arith, e, h) }

of_graph : (i s : ℕ) → IsSmall i → AreLines (lines_of i (edges i s)) (commands_of i (edges i s))
of_graph i s h = (
  record {
    spells = graph_line-spells i (edges i s) h (small_ends i s);
    part = graph_line-part i (edges i s) h
        (edges-few i s) (small_ends i s);
  },
  by_test (nat_le i 20),
)
  where
    poincare : IsLine (question_line i (codes "poincare")) (Ask (graph_name i) question.Poincare)
    poincare = record {
      spells = poincare-spells i h;
      part = question-part i (codes "poincare") h
          (word (codes "poincare") 8 refl refl (omega arith));
    }

    nbc : IsLine (question_line i (codes "nbc")) (Ask (graph_name i) question.Nbc)
    nbc = record {
      spells = nbc-spells i h;
      part = question-part i (codes "nbc") h
          (word (codes "nbc") 3 refl refl (omega arith));
    }

    flats : IsLine (question_line i (codes "flats")) (Ask (graph_name i) question.Flats)
    flats = record {
      spells = flats-spells i h;
      part = question-part i (codes "flats") h
          (word (codes "flats") 5 refl refl (omega arith));
    }

    free : IsLine (question_line i (codes "free")) (Ask (graph_name i) (question.Free None))
    free = record {
      spells = free-spells i h;
      part = question-part i (codes "free") h
          (word (codes "free") 4 refl refl (omega arith));
    }

    by_test : (b : Bool) → AreLines
        (map (question_line i) (cond b (codes "poincare" ∷ codes "nbc" ∷ codes "free" ∷ [])
        (codes "flats" ∷ codes "poincare" ∷ codes "nbc" ∷ [])))
        (map (Ask (graph_name i)) (cond b (question.Poincare ∷ question.Nbc ∷ question.Free None ∷ [])
        (question.Flats ∷ question.Poincare ∷ question.Nbc ∷ [])))
    by_test true = (poincare, (nbc, (free, tt)))
    by_test false = (flats, (poincare, (nbc, tt)))

of_graphs : (is : List ℕ) (s : ℕ) → IsSmallNumber is → AreLines (graph_lines is s) (graph_commands is s)
of_graphs [] s h = tt
of_graphs (i ∷ is) s h =
    let after = state_after (length (vertex_pairs (vertices i))) s in
    lines-append (lines_of i (edges i s)) (graph_lines is after) (commands_of i (edges i s)) (graph_commands is after)
    (of_graph i s (h i (Contains-here i is))) (of_graphs is after (λ j c. h j (Contains-later i is j c)))

count : (is : List ℕ) (s : ℕ) → length (graph_lines is s) ≡ length is * 4
count [] s = refl
count (i ∷ is) s =
    let after = state_after (length (vertex_pairs (vertices i))) s in
    sum (length (lines_of i (edges i s))) (length (graph_lines is after)) (length (graph_lines (i ∷ is) s))
    (length is)
    (by_test (nat_le i 20)) (length-append (lines_of i (edges i s)) (graph_lines is after)) (count is after)
  where
    sum : (a b c n : ℕ) → a ≡ 4 → c ≡ a + b → b ≡ n * 4 → c ≡ suc n * 4
    sum a b c n e f g = omega (arith, e, f, g)

    by_test : (b : Bool) → suc (length
        (map (question_line i) (cond b (codes "poincare" ∷ codes "nbc" ∷ codes "free" ∷ [])
        (codes "flats" ∷ codes "poincare" ∷ codes "nbc" ∷ [])))) ≡ 4
    by_test true = refl
    by_test false = refl

numbers-small : IsSmallNumber (one_to 30)
numbers-small i c = let r = range_members i 1 30 c in (omega (arith, r.0), omega (arith, r.1))

sample-lines : (k : ℕ) → AreLines (sample_lines k) (sample_commands k)
sample-lines k = (
  record { spells = field-spells; part = record { clear = refl; few = omega arith } },
  of_graphs
      (one_to 30) k numbers-small,
)

-- Every line of the sample script is within the grammar, and these are its commands.
pub sample-commands : (k : ℕ) → HasCommands (sample_text k) (numbered 1 (sample_commands k))
unfolding sample_text
sample-commands k =
    subst (λ ls. HasCommandsFrom 1 ls (numbered 1 (sample_commands k)))
    (sym (split_lines (sample_lines k) (sample_commands k) (sample-lines k)))
    (commands_from 1 (sample_lines k) (sample_commands k) (sample-lines k))

-- It is read whole.
pub sample-short : (k : ℕ) → length (sample_text k) ≤ most_bytes
unfolding sample_text
sample-short k =
    sum (length (graph_lines (one_to 30) k)) (length (sample_text k)) (count (one_to 30) k)
    (few_bytes (sample_lines k) (sample_commands k) (sample-lines k))
  where
    sum : (n m : ℕ) → n ≡ 120 → m ≤ suc n * 192 → m ≤ 1048576
    sum n m e h = omega (arith, e, h)

-- It has 121 line feeds.
pub sample-feeds : (k : ℕ) → count_by (λ b. b == 10) (sample_text k) ≡ 121
unfolding sample_text
sample-feeds k =
    sum (count_by (λ b. b == 10) (sample_text k)) (length (lines (sample_text k)))
    (length (sample_lines k ++ [] ∷ [])) (length (graph_lines (one_to 30) k))
    (length-slice_split (λ b. b == 10) (sample_text k))
    (ap length (split_lines (sample_lines k) (sample_commands k) (sample-lines k)))
    (length-append (sample_lines k) ([] ∷ []))
    (count (one_to 30) k)
  where
    sum : (n a b c : ℕ) → a ≡ n + 1 → a ≡ b → b ≡ suc c + 1 → c ≡ 120 → n ≡ 121
    sum n a b c e f g h = omega (arith, e, f, g, h)
