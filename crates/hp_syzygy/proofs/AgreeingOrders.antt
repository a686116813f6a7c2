-- Orders that agree on the terms within a width: greatest terms are the same.
use Rattle.std.specs.Prelude.{◌≡◌, ℕ, ◌<◌, slice_index_or}
use Rattle.std.specs.declared.cmp.Ordering.{Ordering}
use Rattle.std.specs.declared.cmp.Ordering.TheVariants.{Less, Equal, Greater}
use Rattle.std.specs.Ordering.{nat_cmp, ordering_then}
use Rattle.std.specs.Cmp.{nat_cmp_is}
use Rattle.std.proofs.lemmas.Bool.{cases_eq, cases_lt}
use Rattle.std.proofs.lemmas.List.Elements.{All-contains}
use mathlib.Core.Logic.{inl, inr}
use mathlib.Core.Path.{refl, sym, ◌∙◌}
use native.Mathlib.Omega.{arith}
use Rattle.hp_algebra.specs.Ring.{RingOf, IsRing, IsCommutative}
use Rattle.hp_mono.specs.declared.term.Term.{Term}
use Rattle.hp_mono.specs.TermOrders.{IsTermWithin}
use Rattle.hp_module.specs.Vectors.{Vector, IsVector}
use Rattle.hp_module.specs.FreeModules.{terms}
use Rattle.hp_module.specs.Leads.{IsGreatestTerm}
use Rattle.hp_module.proofs.VectorCoefficients.{within}

-- the two orders say the same of terms within the width
abbrev pub Agree : ℕ → (Term → Term → Ordering) → (Term → Term → Ordering) → Type 0
Agree width cmp other = (a b : Term) → IsTermWithin width a → IsTermWithin width b → cmp a b ≡ other a b

module _ {F : Type 0} {ring : RingOf F} (laws : IsRing ring) (comm : IsCommutative ring) (width : ℕ)
    {cmp other : Term → Term → Ordering} (agree : Agree width cmp other) where
  pub agreeing-greatest : (v : Vector F) (t : Term) (c : F) → IsVector ring width v → IsGreatestTerm cmp v t c
      → IsGreatestTerm other v t c
  agreeing-greatest v t c h g =
      let w = within laws comm width v h in
      let ht = All-contains (λ (s : Term × F). IsTermWithin width s.0) (terms v) (t, c) w g.occurs in
      record {
        occurs = g.occurs;
        greatest = λ k d l e. g.greatest k d l (agree t (slice_index_or (terms v) k d).0 ht (w k d l) ∙ e);
      }

-- ---- ties

less_number : (x y : ℕ) → nat_cmp x y ≡ Less → x < y
less_number x y e =
    elim (cases_lt x y) [
      | inl l ↦ l
      | inr g ↦ elim (cases_eq x y) [
        | inl q ↦ let p : Equal ≡ Less = nat_cmp_is x y Equal q ∙ e in absurd (cc)
        | inr o ↦ let p : Greater ≡ Less = nat_cmp_is x y Greater (omega (arith, g, o)) ∙ e in absurd (cc)
      ]
    ]

greater_number : (x y : ℕ) → nat_cmp x y ≡ Greater → y < x
greater_number x y e =
    elim (cases_lt y x) [
      | inl l ↦ l
      | inr g ↦ elim (cases_eq x y) [
        | inl q ↦ let p : Equal ≡ Greater = nat_cmp_is x y Equal q ∙ e in absurd (cc)
        | inr o ↦ let p : Less ≡ Greater = nat_cmp_is x y Less (omega (arith, g, o)) ∙ e in absurd (cc)
      ]
    ]

-- ranks that refine others may stand for both
pub refined : (g : Ordering) (p q r s : ℕ) → (p < q → r < s) → (q < p → s < r)
    → ordering_then g (nat_cmp r s) ≡ ordering_then (ordering_then g (nat_cmp p q)) (nat_cmp r s)
refined Less p q r s up down = refl
refined Greater p q r s up down = refl
refined Equal p q r s up down =
    elim (nat_cmp p q) as (λ z. nat_cmp p q ≡ z → nat_cmp r s ≡ ordering_then z (nat_cmp r s)) [
      | Less ↦ λ e. sym (nat_cmp_is r s Less (up (less_number p q e)))
      | Equal ↦ λ e. refl
      | Greater ↦ λ e. sym (nat_cmp_is r s Greater (down (greater_number p q e)))
    ] refl
