-- The end of a run: the order of the members, and their tails.
use Rattle.std.specs.Prelude.{◌≡◌, ℕ, ◌<◌, List, [], length, All, Contains, slice_index_or}
use Rattle.std.specs.declared.cmp.Ordering.{Ordering}
use Rattle.std.specs.declared.cmp.Ordering.TheVariants.{Less}
use Rattle.std.specs.Ordering.{nat_cmp, ordering_then}
use Rattle.hp_mono.specs.declared.term.Term.{Term}
use Rattle.hp_mono.specs.Monomials.{degree}
use Rattle.hp_module.specs.Vectors.{Vector}
use Rattle.hp_module.specs.FreeModules.{plus_term}
use Rattle.hp_module.specs.Leads.{lead_at, member_at}
use Rattle.hp_module.specs.ElimOrders.{elimination_order}
use Rattle.hp_module.specs.Divisions.{IsDivided}
use Rattle.hp_groebner.specs.PairQueues.{nth}
use Rattle.hp_groebner.specs.Runs.{Job, State, held, module_of}

-- by degree, then by lead from the greatest
abbrev pub listed_order : ℕ → Term → Term → Ordering
listed_order split s t = ordering_then (nat_cmp (degree s.mono) (degree t.mono)) (elimination_order split t s)

-- place i of a list of places
abbrev pub place : List ℕ → ℕ → ℕ
place ps i = slice_index_or ps i 0

-- The places of the leads, each once, in the order in which a basis lists its members.
pub record AreListed (split : ℕ) (leads : List Term) (ps : List ℕ) : Type 0 where
  pub many : length ps ≡ length leads
  pub inside : All (λ p. p < length leads) ps
  pub once : (i j : ℕ) → i < length ps → j < length ps → place ps i ≡ place ps j → i ≡ j
  pub all : (p : ℕ) → p < length leads → Contains ps p
  pub in_order : (i j : ℕ) → i < j → j < length ps
      → listed_order split (nth leads (place ps i)) (nth leads (place ps j)) ≡ Less

-- The member without its lead is divided by the members; the vector is the lead and what is left.
pub record IsTailReduced {F : Type 0} (J : Job F) (s : State F) (p : ℕ) (w : Vector F) : Type 0 where
  pub quotients : Vector F
  pub rest : Vector F
  pub divided : IsDivided (module_of J)
      (plus_term J.ring (member_at (held s) p) (lead_at (held s) p) (J.ring.neg J.ring.one)) (held s) quotients rest
  pub new_is : w ≡ plus_term J.ring rest (lead_at (held s) p) J.ring.one

-- the members at the first k of the places
pub record AreMembersAt {F : Type 0} (s : State F) (ps : List ℕ) (k : ℕ) (ws : List (Vector F)) : Type 0 where
  pub many : length ws ≡ k
  pub each : (i : ℕ) → i < k → slice_index_or ws i [] ≡ member_at (held s) (place ps i)
