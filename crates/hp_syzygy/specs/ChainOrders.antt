-- The order that terms of a first module induce on the terms of another, one for each of its components.
use Rattle.std.specs.Prelude.{◌≡◌, ℕ, ◌-◌, ◌<◌, List, [], ◌∷◌, length, map, All, slice_index_or}
use Rattle.std.specs.declared.cmp.Ordering.{Ordering}
use Rattle.std.specs.declared.cmp.Ordering.TheVariants.{Equal}
use Rattle.std.specs.Ordering.{nat_cmp, ordering_then}
use Rattle.hp_lists.specs.Lists.{one_to}
use Rattle.hp_mono.specs.Monomials as mono
use Rattle.hp_mono.specs.declared.term.Term.{Term}
use Rattle.hp_mono.specs.TermOrders.{IsTermWithin, term_grevlex, times}
use Rattle.hp_module.specs.Leads.{no_term}

-- The width of the first module. For each component the term of that module which it stands for, its top, and a rank.
pub record Chain : Type 0 where
  pub width : ℕ
  pub tops : List Term
  pub ranks : List ℕ

-- Components count from 1.
abbrev pub top_of : Chain → ℕ → Term
top_of c i = slice_index_or c.tops (i - 1) no_term

abbrev pub rank_of : Chain → ℕ → ℕ
rank_of c i = slice_index_or c.ranks (i - 1) 0

-- the term of the first module that a term stands for
abbrev pub full : Chain → Term → Term
full c a = times a.mono (top_of c a.comp)

-- first by the terms of the first module, in grevlex, then by the ranks
abbrev pub chain_order : Chain → Term → Term → Ordering
chain_order c a b = ordering_then (term_grevlex (full c a) (full c b)) (nat_cmp (rank_of c a.comp) (rank_of c b.comp))

-- each component stands for itself
abbrev pub unit_term : ℕ → Term
unit_term i = record { mono = mono.one; comp = i }

abbrev pub first_chain : ℕ → Chain
first_chain width = record { width = width; tops = map unit_term (one_to width); ranks = one_to width }

-- The tops are terms of the first module, and the ranks differ.
pub record IsChain (c : Chain) : Type 0 where
  pub tops : All (IsTermWithin c.width) c.tops
  pub one_each : length c.ranks ≡ length c.tops
  pub apart : (i j : ℕ) → i < length c.tops → j < length c.tops
      → slice_index_or c.ranks i 0 ≡ slice_index_or c.ranks j 0 → i ≡ j

-- the last number that differs decides
abbrev pub by_last : List ℕ → List ℕ → Ordering
by_last [] ys = Equal
by_last (x ∷ xs) [] = Equal
by_last (x ∷ xs) (y ∷ ys) = ordering_then (by_last xs ys) (nat_cmp x y)
