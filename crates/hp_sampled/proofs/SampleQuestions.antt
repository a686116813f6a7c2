-- The sample asks 90 questions, of four kinds.
use Rattle.std.proofs.Common.{◌≡◌, ℕ, suc, ◌+◌, ◌*◌, nat_le, Bool, true, false, cond, List, [], ◌∷◌, ◌++◌, length, length-append, map, None, refl, sym, ap, subst, arith}
use Rattle.hp_lists.specs.Lists.{one_to}
use Rattle.hp_script.specs.declared.command.Command.{Command}
use Rattle.hp_script.specs.declared.command.Command.TheVariants.{Ask}
use Rattle.hp_script.specs.declared.command.Question.{Question}
use Rattle.hp_script.specs.declared.command.Question.TheVariants as question
use Rattle.hp_sample.specs.Sample.{vertices, vertex_pairs, state_after, graph_name}
use Rattle.hp_sampled.specs.SampleCommands.{asked, graph_commands, sample_commands, IsSampleQuestion, questions_of}

-- each of a list
abbrev pub Each : (Question → Type 0) → List Question → Type 0
Each P [] = Unit {0}
Each P (q ∷ qs) = P q × Each P qs

each-append : (P : Question → Type 0) (qs rs : List Question) → Each P qs → Each P rs → Each P (qs ++ rs)
each-append P [] rs p r = r
each-append P (q ∷ qs) rs p r = (p.0, each-append P qs rs p.1 r)

-- behind the questions on a graph stand those of the rest
asked-front : (x : List ℕ) (qs : List Question) (cs : List Command) → questions_of (map (Ask x) qs ++ cs) ≡ qs ++ questions_of cs
asked-front x [] cs = refl
asked-front x (q ∷ qs) cs = ap (λ rs. q ∷ rs) (asked-front x qs cs)

next_questions : (i : ℕ) (is : List ℕ) (s : ℕ)
    → questions_of (graph_commands (i ∷ is) s) ≡ asked i ++ questions_of (graph_commands is (state_after (length (vertex_pairs (vertices i))) s))
next_questions i is s = asked-front (graph_name i) (asked i) (graph_commands is (state_after (length (vertex_pairs (vertices i))) s))

asked-are : (i : ℕ) → Each IsSampleQuestion (asked i)
asked-are i = by_test (nat_le i 20)
  where
    by_test : (b : Bool) → Each IsSampleQuestion
        (cond b (question.Poincare ∷ question.Nbc ∷ question.Free None ∷ []) (question.Flats ∷ question.Poincare ∷ question.Nbc ∷ []))
    by_test true = (tt, (tt, (tt, tt)))
    by_test false = (tt, (tt, (tt, tt)))

asked-three : (i : ℕ) → length (asked i) ≡ 3
asked-three i = by_test (nat_le i 20)
  where
    by_test : (b : Bool) → length {A = Question}
        (cond b (question.Poincare ∷ question.Nbc ∷ question.Free None ∷ []) (question.Flats ∷ question.Poincare ∷ question.Nbc ∷ [])) ≡ 3
    by_test true = refl
    by_test false = refl

graphs-ask : (is : List ℕ) (s : ℕ) → Each IsSampleQuestion (questions_of (graph_commands is s))
graphs-ask [] s = tt
graphs-ask (i ∷ is) s =
    let after = state_after (length (vertex_pairs (vertices i))) s in
    subst (Each IsSampleQuestion) (sym (next_questions i is s))
    (each-append IsSampleQuestion (asked i) (questions_of (graph_commands is after)) (asked-are i) (graphs-ask is after))

graphs-count : (is : List ℕ) (s : ℕ) → length (questions_of (graph_commands is s)) ≡ length is * 3
graphs-count [] s = refl
graphs-count (i ∷ is) s =
    let after = state_after (length (vertex_pairs (vertices i))) s in
    sum (length (asked i)) (length (questions_of (graph_commands is after))) (length (questions_of (graph_commands (i ∷ is) s)))
    (length (asked i ++ questions_of (graph_commands is after))) (length is)
    (ap length (next_questions i is s)) (length-append (asked i) (questions_of (graph_commands is after)))
    (asked-three i) (graphs-count is after)
  where
    sum : (a b c d n : ℕ) → c ≡ d → d ≡ a + b → a ≡ 3 → b ≡ n * 3 → c ≡ suc n * 3
    sum a b c d n e f g h = omega (arith, e, f, g, h)

-- All are questions for flats, the Poincaré polynomial, the sets without broken circuit, or freeness.
pub sample-asks : (k : ℕ) → Each IsSampleQuestion (questions_of (sample_commands k))
sample-asks k = graphs-ask (one_to 30) k

-- There are 90.
pub sample-count : (k : ℕ) → length (questions_of (sample_commands k)) ≡ 90
sample-count k = graphs-count (one_to 30) k
