-- A matroid within another, under other names and with some numbers added: it has no more flats.
use Rattle.std.specs.Prelude.{◌≡◌, ℕ, suc, ◌+◌, true, false, ◌∷◌, ◌++◌, map, ◌⊎◌}
use mathlib.Core.Logic.{inl, inr}
use mathlib.Core.Path.{sym, ap, ◌∙◌, subst}
use native.Mathlib.Omega.{arith}
use Rattle.hp_lists.specs.Lists.{one_to}
use Rattle.hp_sets.specs.Sets.{Set, contains}
use Rattle.hp_matroid.specs.Matroids.{Rises, Within, Matroid}
use Rattle.hp_matroid.proofs.Subsets.{decide, head_in, or_right, within-cons, map-contains}
use Rattle.hp_matroid.proofs.RisingLists.{rises-same}
use Rattle.hp_matroid.proofs.Whitney.{within-append, left-append, right-append}
use Rattle.hp_matroid.proofs.Restriction.{rank-members}

-- `minor` has the ranks of the sets of `whole` with the numbers of `base`, less c.
pub record IsMinor (whole minor : Matroid) (base : Set) (c : ℕ) (name : ℕ → ℕ) : Type 0 where
  pub based : Within base (one_to whole.size)
  pub named : (j : ℕ) → contains (one_to minor.size) j ≡ true → contains (one_to whole.size) (name j) ≡ true
  pub ranks : (s : Set) → Within s (one_to minor.size) → minor.rank s + c ≡ whole.rank (base ++ map name s)

module _ {M N : Matroid} {base : Set} {c : ℕ} {name : ℕ → ℕ} (is : IsMinor M N base c name) where
  abbrev lift : Set → Set
  lift s = base ++ map name s

  abbrev IsWithin : Set → Type 0
  IsWithin s = Within s (one_to N.size)

  pub lift-within : (s : Set) → IsWithin s → Within (lift s) (one_to M.size)
  lift-within s w = within-append M base (map name s) (one_to M.size) is.based (λ i h.
      let j = map-contains name s i h in
      subst (λ k. contains (one_to M.size) k ≡ true) j.2 (is.named j.0 (w j.0 j.1)))

  -- one number more
  lift-more : (s : Set) (j : ℕ) → IsWithin s → contains (one_to N.size) j ≡ true → M.rank (lift (j ∷ s)) ≡ M.rank (name j ∷ lift s)
  lift-more s j w g =
      let n = name j in
      let here = is.named j g in
      let all = lift-within s w in
      let front = left-append M base (map name (j ∷ s)) in
      let back = right-append M base (map name (j ∷ s)) in
      let old = left-append M base (map name s) in
      let rest = right-append M base (map name s) in
      rank-members M (lift (j ∷ s)) (n ∷ lift s) (lift-within (j ∷ s) (within-cons j s (one_to N.size) g w)) (within-cons n (lift s) (one_to M.size) here all)
      (within-append M base (map name (j ∷ s)) (n ∷ lift s) (λ i h. or_right _ _ (old i h))
      (within-cons n (map name s) (n ∷ lift s) (head_in n (lift s)) (λ i h. or_right _ _ (rest i h))))
      (within-cons n (lift s) (lift (j ∷ s)) (back n (head_in n (map name s)))
      (within-append M base (map name s) (lift (j ∷ s)) front (λ i h. back i (or_right _ _ h))))

  -- the closures tell of each other
  pub closure-lift : (s : Set) (j : ℕ) → IsWithin s → contains (one_to N.size) j ≡ true → contains (N.closure s) j ≡ contains (M.closure (lift s)) (name j)
  closure-lift s j w g = step (decide (contains (N.closure s) j)) (decide (contains (M.closure (lift s)) (name j)))
    where
      more : N.rank (j ∷ s) + c ≡ M.rank (name j ∷ lift s)
      more = is.ranks (j ∷ s) (within-cons j s (one_to N.size) g w) ∙ lift-more s j w g

      same : N.rank s + c ≡ M.rank (lift s)
      same = is.ranks s w

      clash : (a b x y k : ℕ) → a + k ≡ x → b + k ≡ y → a ≡ b → x ≡ suc y → ⊥
      clash a b x y k p q e f = omega arith

      split : (a b x y k : ℕ) → a + k ≡ x → b + k ≡ y → a ≡ suc b → x ≡ y → ⊥
      split a b x y k p q e f = omega arith

      step : (contains (N.closure s) j ≡ true) ⊎ (contains (N.closure s) j ≡ false)
          → (contains (M.closure (lift s)) (name j) ≡ true) ⊎ (contains (M.closure (lift s)) (name j) ≡ false)
          → contains (N.closure s) j ≡ contains (M.closure (lift s)) (name j)
      step (inl p) (inl q) = p ∙ sym q
      step (inr p) (inr q) = p ∙ sym q
      step (inl p) (inr q) = absurd (clash _ _ _ _ c more same (N.laws.rank_inside s j g p) (M.laws.rank_outside (lift s) (name j) (is.named j g) q))
      step (inr p) (inl q) = absurd (split _ _ _ _ c more same (N.laws.rank_outside s j g p) (M.laws.rank_inside (lift s) (name j) (is.named j g) q))

  -- different flats have different closures in the whole
  pub flat-lift : (f g : Set) → Rises f → Rises g → IsWithin f → IsWithin g → N.closure f ≡ f → N.closure g ≡ g → M.closure (lift f) ≡ M.closure (lift g) → f ≡ g
  flat-lift f g rf rg wf wg ef eg e = rises-same f g rf rg (part f g wf wg ef eg e) (part g f wg wf eg ef (sym e))
    where
      part : (f g : Set) → IsWithin f → IsWithin g → N.closure f ≡ f → N.closure g ≡ g → M.closure (lift f) ≡ M.closure (lift g) → Within f g
      part f g wf wg ef eg e i h =
          sym (ap (λ z. contains z i) eg) ∙ closure-lift g i wg (wf i h) ∙ ap (λ z. contains z (name i)) (sym e)
          ∙ sym (closure-lift f i wf (wf i h)) ∙ ap (λ z. contains z i) ef ∙ h
