-- What a run of the algorithm is given, and what it keeps.
use Rattle.std.specs.Prelude.{◌≡◌, ◌≢◌, ◌⊎◌, ⊤, ℕ, ◌+◌, ◌<◌, ◌≤◌, List, [], ◌∷◌, length, replicate, set, All, slice_index_or}
use Rattle.std.specs.declared.cmp.Ordering.{Ordering}
use Rattle.hp_algebra.specs.Ring.{RingOf}
use Rattle.hp_mono.specs.declared.term.Term.{Term}
use Rattle.hp_mono.specs.Monomials.{degree}
use Rattle.hp_mono.specs.TermOrders.{TermDivides}
use Rattle.hp_poly.specs.Polynomials.{constant}
use Rattle.hp_module.specs.Vectors.{GeneratesSet, IsGenerated, IsHomogeneousVector, IsVector, Vector, vector_scale, zero_vector}
use Rattle.hp_module.specs.FreeModules.{FreeModule, HasDegree, IsFreeModule, terms}
use Rattle.hp_module.specs.Leads.{AreLed, IsGreatestTerm, IsReducedBasis, WithLeads, lead_at, member_at}
use Rattle.hp_module.specs.ElimOrders.{elimination_order}
use Rattle.hp_module.specs.Divisions.{IsDivided}
use Rattle.hp_module.specs.FallingTerms.{AreDivisors, Divisors, free_module, with_leads}
use Rattle.hp_module.specs.ReducedBases.{Basis}
use Rattle.hp_module.proofs.LongerBases.{longer}
use Rattle.hp_module.proofs.ResolvedPairs.{IsResolved}
use Rattle.hp_groebner.specs.declared.limits.Limits.{Limits}
use Rattle.hp_groebner.specs.declared.limits.Stop.{Stop}
use Rattle.hp_groebner.specs.declared.limits.Stop.TheVariants as stops
use Rattle.hp_groebner.specs.declared.setting.Setting.{Setting}
use Rattle.hp_groebner.specs.LimitRules.{AreLimits, IsPassed, IsStop, NeverStops, most_degree, most_generator_degree}
use Rattle.hp_groebner.specs.PairQueues.{IsLonger, IsPair, IsQueue, Queue, bucket, nth, pair_degree}

-- What a run is given: the field, the order, the shifts, which are all 0, the limits and the generators.
pub record Job (F : Type 0) : Type 1 where
  pub ring : RingOf F
  pub inverse : F → F
  pub split : ℕ
  pub width : ℕ
  pub shifts : List ℕ
  pub limits : Limits
  pub gens : List (Vector F)

abbrev pub job : {F : Type 0} → RingOf F → (F → F) → Setting → List (Vector F) → Job F
job ring inverse setting gens = record {
  ring = ring;
  inverse = inverse;
  split = setting.order.split;
  width = setting.order.width;
  shifts = setting.grading.shifts;
  limits = setting.limits;
  gens = gens;
}

-- the free module, and the submodule that the generators generate
abbrev pub module_of : {F : Type 0} → Job F → FreeModule F
module_of J = free_module J.ring J.inverse J.width J.shifts (elimination_order J.split)

abbrev pub submodule : {F : Type 0} → Job F → Vector F → Type 0
submodule J v = IsGenerated J.ring J.width J.gens v

-- generator i, counted from 0
abbrev pub generator : {F : Type 0} → Job F → ℕ → Vector F
generator J i = slice_index_or J.gens i []

-- the greatest term of the vector has degree d
abbrev pub HasLeadOfDegree : {F : Type 0} → (Term → Term → Ordering) → ℕ → Vector F → Type 0
HasLeadOfDegree {F} cmp d v = (t : Term) × (c : F) × IsGreatestTerm cmp v t c × (degree t.mono ≡ d)

-- the degree of the first term, and 0 for none
abbrev pub first_degree : {F : Type 0} → List (Term × F) → ℕ
first_degree [] = 0
first_degree (x ∷ xs) = degree x.0.mono

-- the degree of a homogeneous generator
abbrev pub generator_degree : {F : Type 0} → Job F → ℕ → ℕ
generator_degree J i = first_degree (terms (generator J i))

-- What a run is given is lawful: the coefficients are a field, all shifts are 0, and the generators are homogeneous
-- vectors of the width, of degrees up to 20.
pub record IsJob {F : Type 0} (J : Job F) : Type 0 where
  pub lawful : IsFreeModule (module_of J)
  pub plain : J.shifts ≡ replicate J.width 0
  pub limits : AreLimits J.limits
  pub vectors : All (IsVector J.ring J.width) J.gens
  pub homogeneous : (i : ℕ) → i < length J.gens → HasDegree (module_of J) (generator_degree J i) (generator J i)
  pub degrees : (i : ℕ) → i < length J.gens → generator_degree J i ≤ most_generator_degree

-- The members so far, as vectors and to divide by, and the critical pairs of their leads.
pub record State (F : Type 0) : Type 0 where
  pub divisors : Divisors F
  pub members : List (Vector F)
  pub queue : Queue

-- the members with their leads
abbrev pub held : {F : Type 0} → State F → WithLeads F
held s = record { members = s.members; leads = s.queue.leads }

-- pair k of degree e
abbrev pub pair_at : {F : Type 0} → State F → ℕ → ℕ → ℕ × ℕ
pair_at s e k = slice_index_or (bucket s.queue e) k (0, 0)

-- no term of member i but its lead is a multiple of lead j
abbrev pub IsFreeOf : {F : Type 0} → WithLeads F → ℕ → ℕ → Type 0
IsFreeOf w i j = All (λ a. a.0 ≢ lead_at w i → ¬ (TermDivides (lead_at w j) a.0)) (terms (member_at w i))

-- the members at the places P have no term but their leads that is a multiple of a lead
abbrev pub AreReducedAt : {F : Type 0} → WithLeads F → (ℕ → Type 0) → Type 0
AreReducedAt w P = (i j : ℕ) → i < length w.members → j < length w.members → P i → IsFreeOf w i j

-- of a degree below d, or of degree d and before place n
abbrev pub IsDone : ℕ → ℕ → ℕ → ℕ → Type 0
IsDone d n e k = (e < d) ⊎ ((e ≡ d) × (k < n))

-- What holds of the members. They are monic homogeneous vectors of the submodule, of degrees below `top`, and no lead
-- divides another. They generate the generators at the places P, and the pairs R, counted from 0, have relations.
pub record HaveDone {F : Type 0} (J : Job F) (w : WithLeads F) (top : ℕ) (P : ℕ → Type 0) (R : ℕ → ℕ → Type 0) : Type 0 where
  pub of : IsJob J
  pub led : AreLed (module_of J) w
  pub monic : (i : ℕ) → i < length w.members
      → IsGreatestTerm (elimination_order J.split) (member_at w i) (lead_at w i) J.ring.one
  pub members : (i : ℕ) → i < length w.members → submodule J (member_at w i)
  pub low : (i : ℕ) → i < length w.members → degree (lead_at w i).mono < top
  pub apart : (i j : ℕ) → i < length w.members → j < length w.members → TermDivides (lead_at w i) (lead_at w j) → i ≡ j
  pub generators : (i : ℕ) → i < length J.gens → P i → IsGenerated J.ring J.width w.members (generator J i)
  pub resolved : (j i : ℕ) → j < length w.members → i < length w.members → R j i
      → IsResolved of.lawful led (j + 1) (i + 1)

-- the generators of a degree below d, and the first n if they have degree d
abbrev pub IsGeneratorDone : {F : Type 0} → Job F → ℕ → ℕ → ℕ → Type 0
IsGeneratorDone J d n i = IsDone d n (generator_degree J i) i

-- the pairs of a degree below d, and the first n of degree d
abbrev pub IsPairDone : {F : Type 0} → State F → ℕ → ℕ → ℕ → ℕ → Type 0
IsPairDone s d n j i = (e : ℕ) × (k : ℕ) × (k < length (bucket s.queue e)) × IsDone d n e k × (pair_at s e k ≡ (j, i))

-- What holds in a run: all of degree below d is done, and of degree d the first g generators and the first p pairs. At no
-- degree below d a limit is passed, and the members of degrees below d have reduced tails.
pub record IsRunning {F : Type 0} (J : Job F) (s : State F) (d g p top : ℕ) : Type 0 where
  pub done : HaveDone J (held s) top (IsGeneratorDone J d g) (IsPairDone s d p)
  pub divisors : AreDivisors J.ring (elimination_order J.split) J.width s.divisors
  pub divisors_are : with_leads J.ring s.divisors ≡ held s
  pub queue : IsQueue J.limits s.queue
  pub calm : (j i : ℕ) → IsPair s.queue.leads j i → degree (nth s.queue.leads j).mono < d
      → degree (nth s.queue.leads i).mono < d → pair_degree s.queue.leads j i ≤ J.limits.degree
  pub passed : (e : ℕ) → e < d → ¬ (IsPassed (elimination_order J.split) (submodule J) J.limits e)
  pub tails : AreReducedAt (held s) (λ i. degree (lead_at (held s) i).mono < d)

-- the same, with no more critical pairs than the limit
abbrev pub IsRun : {F : Type 0} → Job F → State F → (d g p top : ℕ) → Type 0
IsRun J s d g p top = IsRunning J s d g p top × (s.queue.pairs ≤ J.limits.pairs)

-- A vector with lead t is the last member now.
pub record IsPushed {F : Type 0} (J : Job F) (s : State F) (v : Vector F) (t : Term) (s' : State F) : Type 0 where
  pub divisors : AreDivisors J.ring (elimination_order J.split) J.width s'.divisors
  pub divisors_are : with_leads J.ring s'.divisors ≡ held s'
  pub held_is : held s' ≡ longer (held s) v t
  pub queue : IsQueue J.limits s'.queue
  pub longer : IsLonger s.queue t s'.queue

-- A vector was divided by the members. What is left of it, made monic, is the last member now, unless it is zero.
pub record IsReduced {F : Type 0} (J : Job F) (v : Vector F) (s s' : State F) : Type 0 where
  pub quotients : Vector F
  pub rest : Vector F
  pub divided : IsDivided (module_of J) v (held s) quotients rest
  pub next : ((rest ≡ zero_vector J.ring J.width) × (s' ≡ s))
      ⊎ ((t : Term) × (c : F) × IsGreatestTerm (elimination_order J.split) rest t c
      × IsPushed J s (vector_scale J.ring (constant J.ring (J.inverse c)) rest) t s')

-- the same, and the limit of pairs is passed
abbrev pub IsOver : {F : Type 0} → Job F → Vector F → State F → State F → Stop → Type 0
IsOver J v s s' stops.Pairs = IsReduced J v s s' × (J.limits.pairs < s'.queue.pairs)
IsOver J v s s' stops.Degree = ⊥
IsOver J v s s' stops.Memory = ⊤

-- A vector is in the place of a member, and the leads are as before.
pub record IsReplaced {F : Type 0} (J : Job F) (s : State F) (i : ℕ) (v : Vector F) (s' : State F) : Type 0 where
  pub divisors : AreDivisors J.ring (elimination_order J.split) J.width s'.divisors
  pub divisors_are : with_leads J.ring s'.divisors ≡ held s'
  pub members : s'.members ≡ set s.members i v
  pub queue : s'.queue ≡ s.queue

-- the stop of the run
abbrev pub IsRunStop : {F : Type 0} → Job F → Stop → Type 0
IsRunStop J e = IsStop (elimination_order J.split) (submodule J) J.limits e

-- The answer of a run without a stop.
pub record IsAnswer {F : Type 0} (J : Job F) (b : Basis F) : Type 0 where
  pub split : b.split ≡ J.split
  pub width : b.width ≡ J.width
  pub reduced : IsReducedBasis J.ring (elimination_order J.split) (submodule J) b.members
  pub generates : GeneratesSet J.ring J.width (submodule J) b.members
  pub degrees : All (λ v. (d : ℕ) × (d ≤ most_degree) × IsHomogeneousVector J.ring d v) b.members
  pub no_stop : NeverStops (elimination_order J.split) (submodule J) J.limits
