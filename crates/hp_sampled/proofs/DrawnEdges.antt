-- The edges that are drawn: they are pairs of vertices, in their order, and few.
use Rattle.std.proofs.Common.{◌≡◌, ℕ, suc, ◌<◌, ◌≤◌, ◌==◌, nat_le, Bool, true, false, cond, List, [], ◌∷◌, length, Contains, inl, inr, refl, sym, subst, arith}
use Rattle.hp_lists.specs.Lists.{Ordered}
use Rattle.hp_lists.proofs.Members.{Contains-here, Contains-later, Contains-cases}
use Rattle.hp_build.proofs.ListedPairs.{IsBefore, pairs-members, pairs-ordered}
use Rattle.hp_sample.specs.Sample.{next_state, bit_of, vertices, vertex_pairs, drawn}

-- an edge of a list is drawn or left out
abbrev with_next : Bool → ℕ × ℕ → List (ℕ × ℕ) → List (ℕ × ℕ)
with_next b e es = cond b (e ∷ es) es

pub drawn-members : (pairs : List (ℕ × ℕ)) (s : ℕ) (e : ℕ × ℕ) → Contains (drawn pairs s) e → Contains pairs e
drawn-members [] s e c = c
drawn-members (p ∷ ps) s e c = by_test (bit_of (next_state s) == 1)
    (λ d. Contains-later p ps e (drawn-members ps (next_state s) e d)) c
  where
    by_test : (b : Bool) → (Contains (drawn ps (next_state s)) e → Contains (p ∷ ps) e)
        → Contains (with_next b p (drawn ps (next_state s))) e → Contains (p ∷ ps) e
    by_test true later d = elim (Contains-cases p (drawn ps (next_state s)) e d) [
      | inl same ↦ subst (λ z. Contains (z ∷ ps) e) (sym same) (Contains-here e ps)
      | inr more ↦ later more
    ]
    by_test false later d = later d

pub drawn-few : (pairs : List (ℕ × ℕ)) (s : ℕ) → length (drawn pairs s) ≤ length pairs
drawn-few [] s = here 0
  where
    here : (n : ℕ) → n ≤ n
    here n = omega arith
drawn-few (p ∷ ps) s = by_test (bit_of (next_state s) == 1) (drawn-few ps (next_state s))
  where
    by_test : (b : Bool) → length (drawn ps (next_state s)) ≤ length ps
        → length (with_next b p (drawn ps (next_state s))) ≤ suc (length ps)
    by_test true h = omega (arith, h)
    by_test false h = omega (arith, h)

pub drawn-ordered : (R : ℕ × ℕ → ℕ × ℕ → Type 0) (pairs : List (ℕ × ℕ)) (s : ℕ) → Ordered R pairs
    → Ordered R (drawn pairs s)
drawn-ordered R [] s o = o
drawn-ordered R (p ∷ ps) s o = by_test (bit_of (next_state s) == 1) (drawn-ordered R ps (next_state s) o.1)
  where
    by_test : (b : Bool) → Ordered R (drawn ps (next_state s)) → Ordered R (with_next b p (drawn ps (next_state s)))
    by_test true later = ((λ y c. o.0 y (drawn-members ps (next_state s) y c)), later)
    by_test false later = later

-- the edges of graph i
module _ (i s : ℕ) where
  abbrev pub edges : List (ℕ × ℕ)
  edges = drawn (vertex_pairs (vertices i)) s

  pub edges-few : length edges ≤ 28
  edges-few = over (length (vertex_pairs (vertices i))) (by_test (nat_le i 20))
      (drawn-few (vertex_pairs (vertices i)) s)
    where
      over : (n : ℕ) → n ≤ 28 → length edges ≤ n → length edges ≤ 28
      over n h l = omega (arith, h, l)

      by_test : (b : Bool) → length (vertex_pairs (cond b 5 8)) ≤ 28
      by_test true = let count : length (vertex_pairs 5) ≡ 10 = refl in omega (arith, count)
      by_test false = let count : length (vertex_pairs 8) ≡ 28 = refl in omega (arith, count)

  -- a < b among the vertices
  pub edges-are : (e : ℕ × ℕ) → Contains edges e → (1 ≤ e.0) × (e.0 < e.1) × (e.1 ≤ vertices i)
  edges-are e c = pairs-members (vertices i) e (drawn-members (vertex_pairs (vertices i)) s e c)

  -- in lexicographic order
  pub edges-ordered : Ordered IsBefore edges
  edges-ordered = drawn-ordered IsBefore (vertex_pairs (vertices i)) s (pairs-ordered (vertices i))
