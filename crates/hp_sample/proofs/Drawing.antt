-- Edges are drawn one by one.
use Rattle.std.proofs.Common.{◌≡◌, ◌≢◌, ℕ, ◌+◌, ◌<◌, List, [], ◌∷◌, ◌++◌, length, drop, get_or, ap, sym, ◌∙◌, subst, append_assoc, eq-eqb, ne_eqb, if◌then◌else◌}
use Rattle.std.proofs.lemmas.List.{drop_more}
use Rattle.hp_sample.specs.Sample.{drawn, next_state, bit_of, state_after}

-- of all pairs these are left to draw, from a state; the others gave these edges
pub record IsLeft (all : List (ℕ × ℕ)) (first : ℕ) (edges left : List (ℕ × ℕ)) (s : ℕ) : Type 0 where
  pub edges_are : edges ++ drawn left s ≡ drawn all first
  pub state_is : state_after (length left) s ≡ state_after (length all) first

module _ (all : List (ℕ × ℕ)) (first : ℕ) (edges : List (ℕ × ℕ)) (i : ℕ) (d : ℕ × ℕ) (s : ℕ) where
  abbrev pub rest : List (ℕ × ℕ)
  rest = drop (i + 1) all

  abbrev pub next : ℕ × ℕ
  next = get_or all i d

  at_next : i < length all → IsLeft all first edges (drop i all) s → IsLeft all first edges (next ∷ rest) s
  at_next low l = subst (λ left. IsLeft all first edges left s) (drop_more all i d low) l

  -- the next pair is kept
  pub kept : i < length all → IsLeft all first edges (drop i all) s → bit_of (next_state s) ≡ 1 → IsLeft all first (edges ++ next ∷ []) rest (next_state s)
  kept low l bit = record {
    edges_are = append_assoc edges (next ∷ []) (drawn rest (next_state s))
        ∙ ap (λ t. edges ++ (if t then next ∷ drawn rest (next_state s) else drawn rest (next_state s))) (sym (eq-eqb _ _ bit)) ∙ (at_next low l).edges_are;
    state_is = (at_next low l).state_is;
  }

  -- the next pair is left out
  pub passed : i < length all → IsLeft all first edges (drop i all) s → bit_of (next_state s) ≢ 1 → IsLeft all first edges rest (next_state s)
  passed low l bit = record {
    edges_are = ap (λ t. edges ++ (if t then next ∷ drawn rest (next_state s) else drawn rest (next_state s))) (sym (ne_eqb _ _ bit)) ∙ (at_next low l).edges_are;
    state_is = (at_next low l).state_is;
  }
