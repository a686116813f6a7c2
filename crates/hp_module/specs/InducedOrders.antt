-- The order that leads induce on symbols, and the free module of the relations among vectors.
use Rattle.std.specs.Prelude.{ℕ, length, map}
use Rattle.std.specs.declared.cmp.Ordering.{Ordering}
use Rattle.std.specs.Ordering.{nat_cmp, ordering_then}
use Rattle.hp_mono.specs.declared.term.Term.{Term}
use Rattle.hp_module.specs.FreeModules.{FreeModule, degree_of}
use Rattle.hp_module.specs.Leads.{WithLeads, lead_times}

-- first by the leads of the symbols, then by the rank of their members
abbrev pub induced : {F : Type 0} → (Term → Term → Ordering) → WithLeads F → (ℕ → ℕ) → Term → Term → Ordering
induced cmp s rank a b =
    ordering_then (cmp (lead_times s a) (lead_times s b)) (nat_cmp (rank a.comp) (rank b.comp))

-- the vectors with a component for each member, whose degree is that of its lead
abbrev pub relation_module : {F : Type 0} → FreeModule F → WithLeads F → (ℕ → ℕ) → FreeModule F
relation_module M s rank = record {
  ring = M.ring;
  inverse = M.inverse;
  width = length s.members;
  shifts = map (degree_of M) s.leads;
  cmp = induced M.cmp s rank;
}
