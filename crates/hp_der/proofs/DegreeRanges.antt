-- The members of a basis in ranges of one degree.
use Rattle.std.specs.Prelude.{◌≡◌, ◌≢◌, ℕ, ◌-◌, ◌<◌, ◌≤◌, List, length, slice_index_or}
use Rattle.std.proofs.lemmas.Bool.{cases_lt}
use mathlib.Core.Logic.{inl, inr}
use mathlib.Core.Path.{sym, subst}
use native.Mathlib.Omega.{arith}
use Rattle.hp_algebra.specs.Ring.{RingOf}
use Rattle.hp_mono.specs.declared.term.Term.{Term}
use Rattle.hp_mono.specs.Monomials.{degree}
use Rattle.hp_module.specs.Leads.{no_term}
use Rattle.hp_module.specs.ReducedBases.{Basis}
use Rattle.hp_graded.specs.RelationConstants.{AreRising, IsDegreeRange}
use Rattle.hp_graded.proofs.BasisMembers.{basis-rising}
use Rattle.hp_der.specs.BasisSettings.{IsPrepared, Prepared, led_by}

abbrev degree_in : List Term → ℕ → ℕ
degree_in us j = degree (slice_index_or us j no_term).mono

-- the members before place i have other degrees than the one there, of n members
abbrev pub IsFirst : List Term → ℕ → ℕ → Type 0
IsFirst us n i = (j : ℕ) → j < i → i < n
    → degree (slice_index_or us j no_term).mono ≢ degree (slice_index_or us i no_term).mono

-- a range of one degree is from start on, and the one at stop has another degree
pub record IsRun (us : List Term) (start stop : ℕ) : Type 0 where
  pub later : start < stop
  pub within : stop ≤ length us
  pub same : (j : ℕ) → start ≤ j → j < stop
      → degree (slice_index_or us j no_term).mono ≡ degree (slice_index_or us start no_term).mono
  pub other : stop < length us
      → degree (slice_index_or us stop no_term).mono ≢ degree (slice_index_or us start no_term).mono

module _ {F : Type 0} {ring : RingOf F} {inverse : F → F} {b : Basis F} {p : Prepared F}
    (is : IsPrepared ring inverse b p) where
  rising : AreRising (led_by b p.leads)
  rising = basis-rising is.field b is.basis p.leads is.led

  module _ {start stop : ℕ} (run : IsRun p.leads start stop) where
    inside : stop ≤ length b.members
    inside = omega (arith, run.within, is.led.same_length)

    range-at : IsFirst p.leads (length b.members) start → IsDegreeRange (led_by b p.leads) start stop
    range-at first = record {
      some = run.later;
      within = inside;
      of_degree = λ j l. (
        (λ e. (low j l e, high j l e)),
        (λ h. run.same j h.0 h.1),
      );
    }
      where
        low : (j : ℕ) → j < length b.members → degree_in p.leads j ≡ degree_in p.leads start → start ≤ j
        low j l e = elim (cases_lt j start) [
          | inl m ↦ absurd (first j m (omega (arith, run.later, inside)) e)
          | inr g ↦ g
        ]

        high : (j : ℕ) → j < length b.members → degree_in p.leads j ≡ degree_in p.leads start → j < stop
        high j l e = elim (cases_lt j stop) [
          | inl m ↦ m
          | inr g ↦
              let x = rising start stop (omega (arith, run.later)) (omega (arith, g, l)) in
              let y = rising stop j g l in
              absurd (run.other (omega (arith, g, l, is.led.same_length)) (omega (arith, x, y, e)))
        ]

    first-next : IsFirst p.leads (length b.members) stop
    first-next j l m e =
        let k : ℕ = stop - 1 in
        let x = rising j k (omega (arith, l)) (omega (arith, m)) in
        let s = run.same k (omega (arith, run.later)) (omega (arith, run.later)) in
        let y = rising start stop (omega (arith, run.later)) m in
        run.other (omega (arith, m, is.led.same_length)) (omega (arith, x, s, y, e))

  -- ---- what a program reads

  module _ {start stop : ℕ} {ws : List Term} (ew : ws ≡ p.leads) (run : IsRun ws start stop) where
    pub read-inside : stop ≤ length b.members
    read-inside = inside (subst (λ ts. IsRun ts start stop) ew run)

    module _ {us : List Term} (eu : us ≡ p.leads) where
      pub read-range : IsFirst us (length b.members) start → IsDegreeRange (led_by b p.leads) start stop
      read-range first = range-at (subst (λ ts. IsRun ts start stop) ew run) (subst (λ ts. IsFirst ts (length b.members) start) eu first)

      pub read-next : IsFirst us (length b.members) stop
      read-next = subst (λ ts. IsFirst ts (length b.members) stop) (sym eu) (first-next (subst (λ ts. IsRun ts start stop) ew run))
