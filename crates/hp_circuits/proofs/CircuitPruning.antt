-- Where one column of the coefficients is zero for all forms that are left no circuit is lost: the search with that test finds what the search without it does.
use Rattle.std.specs.Prelude.{◌≡◌, ℕ, zero, suc, ◌≤◌, ◌<◌, ◌==◌, Bool, true, false, cond, if◌then◌else◌, List, [], ◌∷◌, ◌++◌, length, filter, All, Contains, ◌⊎◌}
use Rattle.std.specs.List.{list_any}
use Rattle.std.proofs.Common.{get_or}
use Rattle.std.proofs.lemmas.Bool.{eqb-true, eqb-false, or_cases}
use Rattle.std.proofs.lemmas.List.{length-map}
use Rattle.std.proofs.lemmas.List.Elements.{All-head, All-tail, Contains-get_or}
use mathlib.Core.Logic.{inl, inr}
use mathlib.Core.Path.{refl, sym, ◌∙◌}
use native.Mathlib.Omega.{arith}
use Rattle.hp_algebra.specs.Ring.{RingOf}
use Rattle.hp_lists.specs.Lists.{below}
use Rattle.hp_lists.proofs.Members.{Contains-here, Contains-later, not_both, all-at}
use Rattle.hp_lists.proofs.Ordered.{Rises, rises_of}
use Rattle.hp_lists.proofs.Ranges.{below_members}
use Rattle.hp_sets.specs.Sets.{Set}
use Rattle.hp_arr.specs.Operations.{first_place}
use Rattle.hp_arr.proofs.Setting.{Setting}
use Rattle.hp_matroid.proofs.NbcCounts.{length-filter_low}
use Rattle.hp_circuits.specs.CircuitSteps.{is_open, moved, is_dead, is_dead_at, moved_all, closed, search, searched}
use Rattle.hp_circuits.specs.declared.circuit_search.Later.{Later}
use Rattle.hp_circuits.proofs.Remainders.{at}
use Rattle.hp_circuits.proofs.CircuitClasses.{coefficient}
use Rattle.hp_circuits.proofs.CircuitSearch.{IsSearched, searched-rest, searched-child, off_zero, fewer, search_circuits}
use Rattle.hp_circuits.proofs.CircuitList.{search-pruned}

-- a test that some member passes
some-passes : {X : Type 0} (p : X → Bool) (xs : List X) → list_any p xs ≡ true → (x : X) × Contains xs x × (p x ≡ true)
some-passes p [] h = absurd (not_both false h refl)
some-passes {X} p (y ∷ xs) h = step (or_cases (p y) (list_any p xs) h) (some-passes p xs)
  where
    step : (p y ≡ true) ⊎ (list_any p xs ≡ true) → (list_any p xs ≡ true → (x : X) × Contains xs x × (p x ≡ true))
        → (x : X) × Contains (y ∷ xs) x × (p x ≡ true)
    step (inl e) ih = (y, Contains-here y xs, e)
    step (inr e) ih = let w = ih e in (w.0, Contains-later y xs w.0 w.1, w.2)

module _ {K : Type 0} (ring : RingOf K) (inverse : K → K) where
  less : (a f : ℕ) → suc a ≤ suc f → a ≤ f
  less a f l = omega arith

  filtered : (f : ℕ) (d : Later K) (later : List (Later K)) → suc (length later) ≤ suc f
      → length (filter (is_open ring) (moved_all ring inverse d later)) ≤ f
  filtered f d later l = join _ _ _ f (length-filter_low (is_open ring) (moved_all ring inverse d later)) (length-map later (moved ring inverse (first_place ring d.rest) d)) l
    where
      join : (a b c f : ℕ) → a ≤ b → b ≡ c → suc c ≤ suc f → a ≤ f
      join a b c f l e m = omega arith

  -- the search does not see its bound
  search-same : (f g : ℕ) (T : Set) (later : List (Later K)) → length later ≤ f → length later ≤ g
      → search ring inverse f T later ≡ search ring inverse g T later
  unfolding search
  search-same zero zero T [] l m = refl
  search-same zero (suc g) T [] l m = refl
  search-same (suc f) zero T [] l m = refl
  search-same (suc f) (suc g) T [] l m = refl
  search-same zero g T (d ∷ later) l m = absurd (omega (arith, l))
  search-same (suc f) zero T (d ∷ later) l m = absurd (omega (arith, m))
  search-same (suc f) (suc g) T (d ∷ later) l m =
      let a = search-same f g (T ++ d.name ∷ []) (filter (is_open ring) (moved_all ring inverse d later)) (filtered f d later l) (filtered g d later m) in
      let b = search-same f g T later (less _ f l) (less _ g m) in
      λ i. if is_dead ring T (d ∷ later) then [] else ((closed ring (T ++ d.name ∷ []) (moved_all ring inverse d later) ++ a i) ++ b i)

  pub searched-nothing : (T : Set) → searched ring inverse T [] ≡ []
  unfolding search
  searched-nothing T = refl

  -- One form more: nothing where a column is zero; else those with this form, and then those without it.
  pub searched-step : (T : Set) (d : Later K) (later : List (Later K)) → searched ring inverse T (d ∷ later)
      ≡ (if is_dead ring T (d ∷ later) then [] else ((closed ring (T ++ d.name ∷ []) (moved_all ring inverse d later)
      ++ searched ring inverse (T ++ d.name ∷ []) (filter (is_open ring) (moved_all ring inverse d later))) ++ searched ring inverse T later))
  unfolding search
  searched-step T d later =
      let opens = filter (is_open ring) (moved_all ring inverse d later) in
      let a = search-same (length later) (length opens) (T ++ d.name ∷ []) opens (filtered (length later) d later (omega arith)) (omega arith) in
      λ i. if is_dead ring T (d ∷ later) then [] else ((closed ring (T ++ d.name ∷ []) (moved_all ring inverse d later) ++ a i) ++ searched ring inverse T later)

module _ {K : Type 0} (S : Setting K) where
  open S use {ring, inverse, field}

  -- the coefficient of the member at a place stands at that place
  coefficient-place : (c : List K) (T : Set) (k : ℕ) → length c ≡ length T → Rises T → k < length T
      → coefficient S c T (get_or T k 0) ≡ at S c k
  coefficient-place c [] k l r m = absurd (omega (arith, m))
  coefficient-place [] (t ∷ T) k l r m = absurd (omega (arith, l))
  coefficient-place (a ∷ c) (t ∷ T) zero l r m = step (t == t) refl
    where
      step : (b : Bool) → (t == t) ≡ b → cond b a (coefficient S c T t) ≡ a
      step true e = refl
      step false e = absurd (eqb-false t t e refl)
  coefficient-place (a ∷ c) (t ∷ T) (suc k) l r m = step (t == get_or T k 0) refl (coefficient-place c T k (omega (arith, l)) r.1 (omega (arith, m)))
    where
      clash : (t s : ℕ) → t ≡ s → t < s → ⊥
      clash t s e l = omega arith

      step : (b : Bool) → (t == get_or T k 0) ≡ b → coefficient S c T (get_or T k 0) ≡ at S c k
          → cond b a (coefficient S c T (get_or T k 0)) ≡ at S c k
      step true e ih = absurd (clash t _ (eqb-true t _ e) (r.0 _ (Contains-get_or T k 0 (omega (arith, m)))))
      step false e ih = ih

  -- a column that is zero is that of a member
  dead-empty : (f : ℕ) (T : Set) (later : List (Later K)) → length later ≤ f → IsSearched S T later
      → is_dead ring T later ≡ true → search_circuits S f T later ≡ []
  dead-empty f T later l H e =
      let w = some-passes (is_dead_at ring later) (below (length T)) e in
      let k = below_members w.0 (length T) w.1 in
      search-pruned S f T later l H (get_or T w.0 0) (Contains-get_or T w.0 0 k) (λ d c.
      let E = H.expressed d c in
      coefficient-place d.coefficients T w.0 E.count (rises_of T H.up.rising) k
      ∙ (field.is_ring.zero_test _ (All-at d.coefficients E.coefficients w.0)).0 (all-at (λ (d : Later K). ring.is_zero (at S d.coefficients w.0)) later d w.2 c))
    where
      All-at : (x : List K) → All ring.IsValue x → (q : ℕ) → ring.IsValue (at S x q)
      All-at [] v q = field.is_ring.zero_value
      All-at (c ∷ x) v zero = All-head ring.IsValue c x v
      All-at (c ∷ x) v (suc q) = All-at x (All-tail ring.IsValue c x v) q

  -- The test of columns loses nothing.
  pub pruned-same : (f : ℕ) (T : Set) (later : List (Later K)) → length later ≤ f → IsSearched S T later
      → search ring inverse f T later ≡ search_circuits S f T later
  unfolding search
  pruned-same zero T later l H = refl
  pruned-same (suc f) T [] l H = refl
  pruned-same (suc f) T (d ∷ later) l H =
      step (is_dead ring T (d ∷ later)) refl
      (pruned-same f T' opens (fewer S q d later f l) (searched-child S T d later H q (off_zero S T d later H))) (pruned-same f T later (less ring inverse _ f l) (searched-rest S T d later H))
    where
      q : ℕ
      q = first_place ring d.rest

      T' : Set
      T' = T ++ d.name ∷ []

      opens : List (Later K)
      opens = filter (is_open ring) (moved_all ring inverse d later)

      step : (b : Bool) → is_dead ring T (d ∷ later) ≡ b
          → search ring inverse f T' opens ≡ search_circuits S f T' opens
          → search ring inverse f T later ≡ search_circuits S f T later
          → (if b then [] else ((closed ring T' (moved_all ring inverse d later) ++ search ring inverse f T' opens) ++ search ring inverse f T later)) ≡ search_circuits S (suc f) T (d ∷ later)
      step true e ih jh = sym (dead-empty (suc f) T (d ∷ later) l H e)
      step false e ih jh = λ i. (closed ring T' (moved_all ring inverse d later) ++ ih i) ++ jh i
