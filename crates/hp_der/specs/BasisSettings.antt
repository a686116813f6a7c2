-- A basis with its leads, prepared for division, and what is read from the divisions of its critical pairs.
use Rattle.std.specs.Prelude.{◌≡◌, ◌↔◌, ℕ, ◌-◌, ◌<◌, ◌≤◌, List, [], take, replicate, All, Contains, slice_index_or}
use Rattle.hp_algebra.specs.Ring.{RingOf, IsField}
use Rattle.hp_mono.specs.declared.term.Term.{Term}
use Rattle.hp_module.specs.Vectors.{Vector, IsGenerated, IsHomogeneousVector}
use Rattle.hp_module.specs.Leads.{AreLed, WithLeads}
use Rattle.hp_module.specs.ElimOrders.{elimination_order}
use Rattle.hp_module.specs.FallingTerms.{AreDivisors, Divisors, with_leads}
use Rattle.hp_module.specs.ReducedBases.{Basis, IsBasis}
use Rattle.hp_groebner.specs.LimitRules.{most_degree}
use Rattle.hp_graded.proofs.BasisMembers.{basis_module}

-- homogeneous vectors of degrees of at most 240
abbrev pub HaveDegrees : {F : Type 0} → RingOf F → List (Vector F) → Type 0
HaveDegrees ring vs = All (λ v. (d : ℕ) × (d ≤ most_degree) × IsHomogeneousVector ring d v) vs

-- the members of a basis with leads
abbrev pub led_by : {F : Type 0} → Basis F → List Term → WithLeads F
led_by b leads = record { members = b.members; leads = leads }

-- The leads of the members, the members prepared for division, and the shifts.
pub record Prepared (F : Type 0) : Type 0 where
  pub leads : List Term
  pub divisors : Divisors F
  pub shifts : List ℕ

-- What is prepared belongs to the basis, whose members have degrees of at most 240.
pub record IsPrepared {F : Type 0} (ring : RingOf F) (inverse : F → F) (b : Basis F) (p : Prepared F) : Type 0 where
  pub field : IsField ring inverse
  pub basis : IsBasis ring b
  pub degrees : HaveDegrees ring b.members
  pub plain : p.shifts ≡ replicate b.width 0
  pub led : AreLed (basis_module ring inverse b) (led_by b p.leads)
  pub lawful : AreDivisors ring (elimination_order b.split) b.width p.divisors
  pub divisors_are : with_leads ring p.divisors ≡ led_by b p.leads

-- The pivots are the numbers of the columns of the members of a range that the members before them generate. The members
-- are counted from 0, and the columns from 1 for the last member.
abbrev pub ArePivotsOf : {F : Type 0} → RingOf F → Basis F → ℕ → ℕ → List ℕ → Type 0
ArePivotsOf ring b start stop pivots = (i : ℕ) → start ≤ i → i < stop
    → Contains pivots (stop - i) ↔ IsGenerated ring b.width (take i b.members) (slice_index_or b.members i [])
