-- A closure and a rank on the sets of the numbers 1 to n, their laws, and what is said of flats, circuits and broken circuits by these alone.
use Rattle.std.specs.Prelude.{◌≡◌, ◌≢◌, ℕ, zero, suc, ◌<◌, nat_lt, Bool, true, false, if◌then◌else◌, not, ◌&&◌, List, [], ◌∷◌, map, length, filter, drop, ℤ, pos, neg_ℤ}
use Rattle.hp_algebra.specs.Integers.{sum_over}
use Rattle.hp_lists.specs.Lists.{one_to, list_any}
use Rattle.hp_sets.specs.Sets.{Set, contains, sets_within, is_within, is_properly_within}

-- two sets have the same members
abbrev pub same_set : Set → Set → Bool
same_set s t = is_within s t && is_within t s

-- each number is below all those that follow
abbrev pub Rises : Set → Type 0
Rises [] = Unit {0}
Rises (x ∷ s) = ((y : ℕ) → contains s y ≡ true → x < y) × Rises s

-- each member of s is one of t
abbrev pub Within : Set → Set → Type 0
Within s t = (i : ℕ) → contains s i ≡ true → contains t i ≡ true

-- The laws of a closure and a rank on the sets within a ground set. One more number raises the rank by one where it lies outside the closure, and else keeps it.
pub record IsMatroid (ground : Set) (closure : Set → Set) (rank : Set → ℕ) : Type 0 where
  pub closure_rises : (s : Set) → Rises (closure s)
  pub closure_within : (s : Set) → Within (closure s) ground
  pub extensive : (s : Set) → Within s ground → Within s (closure s)
  pub monotone : (s t : Set) → Within s t → Within (closure s) (closure t)
  pub idempotent : (s : Set) → Within (closure (closure s)) (closure s)
  pub no_loops : closure [] ≡ []
  pub rank_empty : rank [] ≡ 0
  pub rank_inside : (s : Set) (i : ℕ) → contains ground i ≡ true → contains (closure s) i ≡ true → rank (i ∷ s) ≡ rank s
  pub rank_outside : (s : Set) (i : ℕ) → contains ground i ≡ true → contains (closure s) i ≡ false → rank (i ∷ s) ≡ suc (rank s)
  pub rank_closure : (s : Set) → Within s ground → rank (closure s) ≡ rank s

-- A closure and a rank on the sets of the numbers 1 to `size`, with their laws.
pub record Matroid : Type 0 where
  pub size : ℕ
  pub closure : Set → Set
  pub rank : Set → ℕ
  pub laws : IsMatroid (one_to size) closure rank

module _ (M : Matroid) where
  -- a flat is its own closure
  abbrev pub is_flat : Set → Bool
  is_flat s = same_set (M.closure s) s

  -- the rank is below the size
  abbrev pub is_dependent : Set → Bool
  is_dependent s = nat_lt (M.rank s) (length s)

  -- dependent, and no set properly within is
  abbrev pub is_circuit : Set → Bool
  is_circuit s = is_dependent s && not (list_any (λ t. is_properly_within t s && is_dependent t) (sets_within M.size))

  -- a circuit without its least member
  abbrev pub broken_circuits : List Set
  broken_circuits = map (drop 1) (filter is_circuit (sets_within M.size))

  -- it contains no broken circuit
  abbrev pub is_nbc : Set → Bool
  is_nbc s = not (list_any (λ b. is_within b s) broken_circuits)

  -- The Möbius function of the flats by recursion: 1 at the empty flat, and elsewhere minus its sum over the flats properly within.
  abbrev pub mobius_bounded : ℕ → Set → ℤ
  mobius_bounded bound [] = pos 1
  mobius_bounded zero (i ∷ s) = pos 0
  mobius_bounded (suc bound) (i ∷ s) = neg_ℤ (sum_over
      (λ g. if is_flat g && is_properly_within g (i ∷ s) then mobius_bounded bound g else pos 0)
      (sets_within M.size))

  abbrev pub mobius : Set → ℤ
  mobius f = mobius_bounded (length f) f

  -- What makes a function the Möbius function of the flats: its two equations.
  pub record IsMobius (mu : Set → ℤ) : Type 0 where
    pub at_empty : mu [] ≡ pos 1
    pub elsewhere : (f : Set) → Rises f → M.closure f ≡ f → f ≢ [] → mu f ≡ neg_ℤ (sum_over mu
        (filter (λ g. is_flat g && is_properly_within g f) (sets_within M.size)))
