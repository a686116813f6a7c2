-- The elimination order with a split.
use Rattle.std.specs.Prelude.{ℕ, nat_le, if◌then◌else◌}
use Rattle.std.specs.declared.cmp.Ordering.{Ordering}
use Rattle.std.specs.Ordering.{nat_cmp, ordering_then}
use Rattle.hp_mono.specs.declared.term.Term.{Term}
use Rattle.hp_mono.specs.TermOrders.{term_grevlex}

-- 0 for the components up to the split, and 1 for the rest
abbrev pub block : ℕ → ℕ → ℕ
block split c = if nat_le c split then 0 else 1

-- Components up to the split are above the rest. Within a block the greater monomial in grevlex is greater; for equal
-- monomials the smaller component is greater.
abbrev pub elimination_order : ℕ → Term → Term → Ordering
elimination_order split s t =
    ordering_then (nat_cmp (block split t.comp) (block split s.comp)) (term_grevlex s t)
