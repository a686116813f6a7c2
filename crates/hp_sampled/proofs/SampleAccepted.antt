-- The commands of the sample are accepted one after another.
use Rattle.std.proofs.Common.{◌≡◌, ℕ, zero, suc, ◌+◌, ◌<◌, ◌≤◌, nat_le, min, max, Bool, true, false, not, cond, List, [], ◌∷◌, ◌++◌, length, map, Option, None, refl, ap, ◌∙◌, arith}
use Rattle.std.specs.Option.{option_and_then, option_map}
use Rattle.std.specs.List.{range_with_len}
use Rattle.std.proofs.lemmas.List.{length-map}
use Rattle.hp_algebra.specs.Ring.{RingOf, Numbering}
use Rattle.hp_lists.specs.Lists.{one_to, first_some}
use Rattle.hp_modp.specs.Residues.{residue_ring, inverse_mod, residue_numbers}
use Rattle.hp_arr.specs.FormFaults.{too_many_fault}
use Rattle.hp_arr.proofs.Faultless.{too_many-none}
use Rattle.hp_build.specs.Families.{graphic, difference}
use Rattle.hp_build.specs.Graphs.{bad_edge}
use Rattle.hp_render.specs.declared.refusal.Refusal.{Refusal}
use Rattle.hp_render.specs.declared.refusal.Refusal.TheVariants.{NameTaken, Dimension, BadGraph, UnknownName}
use Rattle.hp_script.specs.declared.command.Command.{Command}
use Rattle.hp_script.specs.declared.command.Command.TheVariants.{Field, Let, Ask}
use Rattle.hp_script.specs.declared.command.Build.TheVariants.{Graphic}
use Rattle.hp_script.specs.declared.command.Question.TheVariants as question
use Rattle.hp_session.specs.Building.{is_dimension}
use Rattle.hp_session.specs.Refused.{where_true}
use Rattle.hp_session.specs.Refusals.{refusal, refusal_before_field, refusal_of}
use Rattle.hp_session.specs.State.{State, is_unknown, no_names}
use Rattle.hp_session.specs.Steps.{after}
use Rattle.hp_groebner.specs.declared.limits.Limits.{Limits}
use Rattle.hp_sample.specs.Sample.{vertices, vertex_pairs, state_after, graph_name}
use Rattle.hp_sampled.specs.AcceptedCommands.{AreAccepted}
use Rattle.hp_sampled.specs.SampleCommands.{asked, graph_commands}
use Rattle.hp_sampled.proofs.DrawnEdges.{edges, edges-few, edges-are, edges-ordered}
use Rattle.hp_sampled.proofs.SampleGraphs.{simple}
use Rattle.hp_sampled.proofs.SampleNames.{names-differ, added-known, added-other}
use Rattle.hp_sampled.proofs.SampleTokens.{IsSmall}

four_none : {X : Type 0} (a b c d : Option X) → a ≡ None → b ≡ None → c ≡ None → d ≡ None
    → first_some (None ∷ None ∷ a ∷ b ∷ None ∷ c ∷ d ∷ None ∷ None ∷ []) ≡ None
four_none a b c d p q r s =
    ap (λ x. first_some (None ∷ None ∷ x ∷ b ∷ None ∷ c ∷ d ∷ None ∷ None ∷ [])) p
    ∙ ap (λ x. first_some (None ∷ None ∷ None ∷ x ∷ None ∷ c ∷ d ∷ None ∷ None ∷ [])) q
    ∙ ap (λ x. first_some (None ∷ None ∷ None ∷ None ∷ None ∷ x ∷ d ∷ None ∷ None ∷ [])) r
    ∙ ap (λ x. first_some (None ∷ None ∷ None ∷ None ∷ None ∷ None ∷ x ∷ None ∷ None ∷ [])) s

-- the rows of the table for a question on a graph, from `unknown name` on
abbrev rows : ℕ → Bool → List (Option Refusal)
rows i b = where_true b (UnknownName (graph_name i)) ∷ None ∷ None ∷ None ∷ None ∷ None ∷ None ∷ None ∷ []

plain : (i : ℕ) (b : Bool) → b ≡ false → first_some (rows i b) ≡ None
plain i b e = ap (λ x. first_some (rows i x)) e

module _ {K : Type 0} (ring : RingOf K) (inverse : K → K) (numbers : Numbering K) (many : 28 < numbers.order) where
  -- a graph's `let` is accepted where its name is unknown
  let-accepted : (state : State K) (i s : ℕ) → is_unknown state (graph_name i) ≡ true
      → refusal ring inverse numbers state (Let (graph_name i) (Graphic (vertices i) (edges i s))) ≡ None
  let-accepted state i s unknown =
      let v = vertices i in
      let es = edges i s in
      let forms = (graphic ring v es).forms in
      let count : length forms ≡ length es = length-map es
      (λ (e : ℕ × ℕ). difference ring v (min e.0 e.1) (max e.0 e.1)) in
      let graph : bad_edge v es ≡ None = simple v es (edges-are i s) (edges-ordered i s) in
      let few : too_many_fault numbers forms ≡ None = too_many-none numbers forms
      (omega (arith, count, edges-few i s)) (omega (arith, count, edges-few i s, many)) in
      four_none _ _ _ _
      (ap (λ b. where_true (not b) (NameTaken (graph_name i))) unknown)
      (ap (λ b. where_true (not b) Dimension) (by_test (nat_le i 20)))
      (ap (option_map BadGraph) graph)
      (ap (option_and_then refusal_of) few)
    where
      by_test : (b : Bool) → is_dimension (cond b 5 8) ≡ true
      by_test true = refl
      by_test false = refl

  -- the questions on a graph are accepted where its name is known, and leave the state
  asked-accepted : (state : State K) (i : ℕ) (rest : List Command) → is_unknown state (graph_name i) ≡ false
      → AreAccepted ring inverse numbers state rest
      → AreAccepted ring inverse numbers state (map (Ask (graph_name i)) (asked i) ++ rest)
  asked-accepted state i rest known later = by_test (nat_le i 20)
    where
      by_test : (b : Bool) → AreAccepted ring inverse numbers state
          (map (Ask (graph_name i)) (cond b (question.Poincare ∷ question.Nbc ∷ question.Free None ∷ [])
          (question.Flats ∷ question.Poincare ∷ question.Nbc ∷ [])) ++ rest)
      by_test true = (plain i _ known, (plain i _ known, (plain i _ known, later)))
      by_test false = (plain i _ known, (plain i _ known, (plain i _ known, later)))

  -- no graph from that number on is named
  abbrev pub AreUnknown : ℕ → State K → Type 0
  AreUnknown i state = (j : ℕ) → IsSmall j → i ≤ j → is_unknown state (graph_name j) ≡ true

  graphs-accepted : (n i s : ℕ) (state : State K) → 1 ≤ i → i + n ≤ 31 → AreUnknown i state
      → AreAccepted ring inverse numbers state (graph_commands (range_with_len i n) s)
  graphs-accepted zero i s state low high fresh = tt
  graphs-accepted (suc n) i s state low high fresh =
      let here : IsSmall i = (low, omega (arith, high)) in
      let arr = graphic ring (vertices i) (edges i s) in
      let next = after ring inverse numbers state (Let (graph_name i) (Graphic (vertices i) (edges i s))) in
      let later : AreUnknown (i + 1) next =
      λ j small above. added-other state.names (graph_name i) (graph_name j) arr
      (names-differ i j here small (omega (arith, above))) (fresh j small (omega (arith, above))) in (
        let-accepted state i s (fresh i here (itself i)),
        asked-accepted next i (graph_commands (range_with_len (i + 1) n)
            (state_after (length (vertex_pairs (vertices i))) s)) (added-known state.names (graph_name i) arr)
            (graphs-accepted n (i + 1) (state_after (length (vertex_pairs (vertices i))) s) next (omega arith)
            (omega (arith, high)) later),
      )
    where
      itself : (m : ℕ) → m ≤ m
      itself m = omega arith

-- Behind `field 32003` all commands of the sample are accepted.
pub sample-accepted : (limits : Limits) (k : ℕ)
    → AreAccepted (residue_ring 32003) (inverse_mod 32003) (residue_numbers 32003) (no_names limits)
    (graph_commands (one_to 30) k)
sample-accepted limits k =
    graphs-accepted (residue_ring 32003) (inverse_mod 32003) (residue_numbers 32003) (omega arith) 30 1 k
    (no_names limits) (omega arith) (omega arith)
    (λ j small above. refl)

-- `field 32003` is accepted.
pub field-accepted : refusal_before_field (Field 32003) ≡ None
field-accepted = refl
