-- How the sets without broken circuit grow, and how many there are.
use Rattle.std.specs.Prelude.{[], nat_lt, ◌≡◌, ℕ, ◌<◌, ◌≤◌, Bool, true, false, not, ◌&&◌, ◌∷◌}
use Rattle.std.specs.List.{list_all}
use Rattle.std.specs.Cmp.{both_ways}
use Rattle.std.proofs.lemmas.Bool.{ltb-true, ltb-false, and_from}
use mathlib.Core.Logic.{inl, inr}
use mathlib.Core.Path.{refl, sym, ap, ◌∙◌}
use native.Mathlib.Omega.{arith}
use Rattle.hp_lists.specs.Lists.{one_to}
use Rattle.hp_lists.proofs.Members.{first_true, second_true}
use Rattle.hp_sets.specs.Sets.{Set, contains}
use Rattle.hp_matroid.specs.Matroids.{Rises, Within, is_nbc, Matroid}
use Rattle.hp_matroid.proofs.Subsets.{clash, not_true, decide, apart_true, within-tail, within-more}
use Rattle.hp_matroid.proofs.RisingLists.{head_low, all-at, all-from, above, above_all, above-low, above-over, above-within, in_above}
use Rattle.hp_matroid.proofs.Broken.{is_active, nbc-quiet}

module _ (M : Matroid) where
  open M use {closure, rank, laws}

  abbrev ground : Set
  ground = one_to M.size

  -- with more members more numbers are active
  pub active-monotone : (s t : Set) (e : ℕ) → Rises t → Within s t → is_active closure s e ≡ true → is_active closure t e ≡ true
  active-monotone s t e rt w h = laws.monotone (above e s) (above e t) (λ i k. in_above e t i (w i (above-within e s i k)) (above-over e s i k)) e h

  -- x is the least number of the closure of x ∷ u
  abbrev pub is_least : ℕ → Set → Bool
  is_least x u = list_all (λ e. not (nat_lt e x)) (closure (x ∷ u))

  abbrev Nbc : Set → Bool
  Nbc s = is_nbc M s

  quiet-at : (s : Set) → Rises s → Within s ground → Nbc s ≡ true → (e : ℕ) → contains ground e ≡ true → is_active closure s e ≡ false
  quiet-at s r w h e g = not_true (is_active closure s e) (all-at (λ i. not (is_active closure s i)) ground e (sym (nbc-quiet M s r w) ∙ h) g)

  nbc-from : (s : Set) → Rises s → Within s ground → ((e : ℕ) → contains ground e ≡ true → is_active closure s e ≡ false) → Nbc s ≡ true
  nbc-from s r w h = nbc-quiet M s r w ∙ all-from (λ e. not (is_active closure s e)) ground (λ e g. ap not (h e g))

  -- a set within one without broken circuit has none
  pub nbc-within : (s t : Set) → Rises s → Rises t → Within s t → Within t ground → Nbc t ≡ true → Nbc s ≡ true
  nbc-within s t rs rt w wt h = nbc-from s rs (λ i k. wt i (w i k)) (λ e g. elim (decide (is_active closure s e)) as (λ _. is_active closure s e ≡ false) [
    | inl a ↦ apart_true (is_active closure t e) (active-monotone s t e rt w a) (quiet-at t rt wt h e g)
    | inr a ↦ a
  ])

  pub nbc-empty : Nbc [] ≡ true
  nbc-empty = nbc-from [] tt (λ i k. clash (sym k)) (λ e g. ap (λ t. contains t e) laws.no_loops)

  -- A number below a set without broken circuit makes one more where it is the least of the closure that they have together.
  pub nbc-cons : (x : ℕ) (u : Set) → Rises (x ∷ u) → Within (x ∷ u) ground → Nbc (x ∷ u) ≡ (Nbc u && is_least x u)
  nbc-cons x u r w = both_ways (Nbc (x ∷ u)) (Nbc u && is_least x u) there back
    where
      wu : Within u ground
      wu = within-tail x u ground w

      clear : (e : ℕ) → e < x → above e (x ∷ u) ≡ x ∷ u
      clear e l = above_all e (x ∷ u) (λ y h. under e x y l (head_low x u y r h))
        where
          under : (e x y : ℕ) → e < x → x ≤ y → e < y
          under e x y l k = omega arith

      there : Nbc (x ∷ u) ≡ true → (Nbc u && is_least x u) ≡ true
      there h = and_from (Nbc u) (is_least x u) (nbc-within u (x ∷ u) r.1 r (within-more x u u (λ i k. k)) w h)
          (all-from (λ e. not (nat_lt e x)) (closure (x ∷ u)) (λ e c. elim (decide (nat_lt e x)) as (λ _. not (nat_lt e x) ≡ true) [
            | inl l ↦ apart_true (is_active closure (x ∷ u) e) (ap (λ t. contains (closure t) e) (clear e (ltb-true e x l)) ∙ c) (quiet-at (x ∷ u) r w h e (laws.closure_within (x ∷ u) e c))
            | inr l ↦ ap not l
          ]))

      back : (Nbc u && is_least x u) ≡ true → Nbc (x ∷ u) ≡ true
      back h = nbc-from (x ∷ u) r w at
        where
          n : Nbc u ≡ true
          n = first_true (Nbc u) (is_least x u) h

          least : is_least x u ≡ true
          least = second_true (Nbc u) (is_least x u) h

          no : (e : ℕ) → contains ground e ≡ true → is_active closure (x ∷ u) e ≡ true → ⊥
          no e g a = step (nat_lt e x) refl
            where
              step : (b : Bool) → nat_lt e x ≡ b → ⊥
              step true l = apart_true (nat_lt e x) l (not_true (nat_lt e x) (all-at (λ i. not (nat_lt i x)) (closure (x ∷ u)) e least (sym (ap (λ t. contains (closure t) e) (clear e (ltb-true e x l))) ∙ a)))
              step false l = apart_true (is_active closure u e) (sym (ap (λ t. contains (closure t) e) (above-low e x u (ltb-false e x l))) ∙ a) (quiet-at u r.1 wu n e g)

          at : (e : ℕ) → contains ground e ≡ true → is_active closure (x ∷ u) e ≡ false
          at e g = elim (decide (is_active closure (x ∷ u) e)) as (λ _. is_active closure (x ∷ u) e ≡ false) [
            | inl a ↦ absurd (no e g a)
            | inr a ↦ a
          ]
