-- The rank of a set of hyperplanes: it is determined by the number of points of the cut, and grows by at most one with each hyperplane.
use Rattle.std.specs.Prelude.{◌≡◌, ℕ, suc, ◌+◌, ◌*◌, ◌^◌, ◌<◌, ◌≤◌, Bool, true, false, not, List, ◌∷◌, length, Contains, ◌⊎◌}
use Rattle.std.proofs.lemmas.Bool.{not_from_true}
use native.Mathlib.Nat.{pow-suc, one-le-pow}
use mathlib.Core.Logic.{inl, inr}
use mathlib.Core.Path.{refl, sym, ap, ◌∙◌, subst}
use native.Mathlib.Omega.{arith}
use Rattle.hp_algebra.specs.Ring.{RingOf, Numbering}
use Rattle.hp_lists.proofs.Members.{first_true, second_true, not_both, Contains-cases, all-from, decide, filter-shorter}
use Rattle.hp_lists.proofs.Ranges.{members_range}
use Rattle.hp_sets.specs.Sets.{Set, contains, is_within, is_properly_within}
use Rattle.hp_sets.proofs.Parts.{IsPart}
use Rattle.hp_sets.proofs.SetLaws.{contains-Contains, Contains-contains}
use Rattle.hp_sets.proofs.SetWithin.{is_within-members}
use Rattle.hp_arr.specs.Arrangement.{Arrangement, lies_in, indices}
use Rattle.hp_arr.specs.Flats.{points, cut, closure, rank, IsFlat}
use Rattle.hp_lists.proofs.Powers.{exponents}
use Rattle.hp_arr.proofs.OverField.{IsOverField, field_of}
use Rattle.hp_arr.proofs.SpacePoints.{points-rows, rows-points}
use Rattle.hp_algebra.proofs.Elements.{two_elements}
use Rattle.hp_arr.proofs.Counting.{lies_in_all, cut-divides, cut-exponent, exponent_low, rank-spec}
use Rattle.hp_arr.proofs.Cuts.{IsIndex, AreIndices, members-flat, flat-indices, lies-part, cut-flat, cut-keeps, flat-of_flat}

module _ {K : Type 0} {ring : RingOf K} {inverse : K → K} {numbers : Numbering K} {arr : Arrangement K} (over : IsOverField ring inverse numbers arr) where
  two : 2 ≤ numbers.order
  two = two_elements (field_of over)

  positive : 1 ≤ numbers.order ^ arr.dim
  positive = one-le-pow arr.dim numbers.order (above numbers.order two)
    where
      above : (q : ℕ) → 2 ≤ q → 0 < q
      above q h = omega arith

  -- the rank is the one number with |cut| p^r = p^dim
  pub rank-unique : (s : Set) (r : ℕ) → length (cut ring numbers arr s) * numbers.order ^ r ≡ numbers.order ^ arr.dim → rank ring numbers arr s ≡ r
  rank-unique s r e =
      let c = length (cut ring numbers arr s) in
      let a = exponents numbers.order _ c c _ _ two positive (rank-spec over s) e (same c) in
      let b = exponents numbers.order _ c c _ _ two positive e (rank-spec over s) (same c) in
      join _ _ a b
    where
      same : (n : ℕ) → n ≤ n
      same n = omega arith

      join : (a b : ℕ) → a ≤ b → b ≤ a → a ≡ b
      join a b h k = omega arith

  -- the rank is read off the cut
  pub rank-cut : (s t : Set) → cut ring numbers arr s ≡ cut ring numbers arr t → rank ring numbers arr s ≡ rank ring numbers arr t
  rank-cut s t e = rank-unique s (rank ring numbers arr t) (ap (λ c. length c * numbers.order ^ rank ring numbers arr t) e ∙ rank-spec over t)

  -- the closure has the rank of its set
  pub rank-flat : (s : Set) → AreIndices arr s → rank ring numbers arr (closure ring numbers arr s) ≡ rank ring numbers arr s
  rank-flat s h = rank-cut (closure ring numbers arr s) s (cut-flat over s h)

  -- a greater set has no more points in its cut
  pub cut-fewer : (s t : Set) → IsPart s t → length (cut ring numbers arr t) ≤ length (cut ring numbers arr s)
  unfolding cut
  cut-fewer s t p = filter-shorter (lies_in_all ring arr s) (lies_in_all ring arr t) (points ring numbers arr.dim) (λ x h. lies-part over s t x p h)

  -- a greater set has a rank at least as great
  pub rank-monotone : (s t : Set) → IsPart s t → rank ring numbers arr s ≤ rank ring numbers arr t
  rank-monotone s t p = exponents numbers.order _ _ _ _ _ two positive (rank-spec over s) (rank-spec over t) (cut-fewer s t p)

  -- the rank is at most the size
  pub rank-low : (s : Set) → rank ring numbers arr s ≤ length s
  rank-low s = let h = cut-exponent over s in subst (λ r. r ≤ length s) (sym (rank-unique s h.0 h.1)) h.2

  -- the rank is at most the dimension
  pub rank-dim : (s : Set) → rank ring numbers arr s ≤ arr.dim
  rank-dim s = exponent_low over _ _ (rank-spec over s)

  -- a form outside the closure raises the rank by one
  pub rank-adds : (s : Set) (j : ℕ) → IsIndex arr j → (Contains (closure ring numbers arr s) j → ⊥) → rank ring numbers arr (j ∷ s) ≡ suc (rank ring numbers arr s)
  rank-adds s j r out = step (decide (lies_in_all ring arr s) (lies_in ring arr j) (points ring numbers arr.dim))
    where
      move : (c q m : ℕ) → c * (m * q) ≡ (q * c) * m
      move c q m = omega arith

      step : ((x : List K) → Contains (points ring numbers arr.dim) x → lies_in_all ring arr s x ≡ true → lies_in ring arr j x ≡ true)
          ⊎ ((x : List K) × Contains (points ring numbers arr.dim) x × (lies_in_all ring arr s x ≡ true) × (lies_in ring arr j x ≡ false))
          → rank ring numbers arr (j ∷ s) ≡ suc (rank ring numbers arr s)
      step (inl all) = absurd (out (members-flat over s j r (λ x rx e. all x (rows-points (field_of over) arr.dim x rx) e)))
      step (inr w) = rank-unique (j ∷ s) _
          (ap (λ m. length (cut ring numbers arr (j ∷ s)) * m) (pow-suc numbers.order (rank ring numbers arr s))
          ∙ move (length (cut ring numbers arr (j ∷ s))) numbers.order (numbers.order ^ rank ring numbers arr s)
          ∙ ap (λ c. c * numbers.order ^ rank ring numbers arr s) (sym (cut-divides over s j w.0 (points-rows (field_of over) arr.dim w.0 w.1) w.2 w.3))
          ∙ rank-spec over s)

  -- a form inside the closure keeps it
  pub rank-keeps : (s : Set) (j : ℕ) → Contains (closure ring numbers arr s) j → rank ring numbers arr (j ∷ s) ≡ rank ring numbers arr s
  rank-keeps s j c = rank-cut (j ∷ s) s (cut-keeps over s j c)

  -- a hyperplane is in a closure or is not
  pub in_flat : (s : Set) (j : ℕ) → Contains (closure ring numbers arr s) j ⊎ (Contains (closure ring numbers arr s) j → ⊥)
  in_flat s j = step (contains (closure ring numbers arr s) j) refl
    where
      step : (b : Bool) → contains (closure ring numbers arr s) j ≡ b → Contains (closure ring numbers arr s) j ⊎ (Contains (closure ring numbers arr s) j → ⊥)
      step true e = inl (contains-Contains (closure ring numbers arr s) j e)
      step false e = inr (λ c. not_both _ (Contains-contains (closure ring numbers arr s) j c) e)

  -- a form adds at most one to the rank
  pub rank-step : (s : Set) (j : ℕ) → IsIndex arr j → rank ring numbers arr (j ∷ s) ≤ suc (rank ring numbers arr s)
  rank-step s j h = step (in_flat s j)
    where
      step : Contains (closure ring numbers arr s) j ⊎ (Contains (closure ring numbers arr s) j → ⊥) → rank ring numbers arr (j ∷ s) ≤ suc (rank ring numbers arr s)
      step (inl c) = let e = rank-keeps s j c in omega arith
      step (inr c) = let e = rank-adds s j h c in omega arith

  -- no set has a greater rank than all hyperplanes
  pub rank-total : (s : Set) → AreIndices arr s → rank ring numbers arr s ≤ rank ring numbers arr (indices arr)
  rank-total s h = rank-monotone s (indices arr) (λ i c. let r = h i c in members_range i 1 (length arr.forms) r.0 (low i (length arr.forms) r))
    where
      low : (j n : ℕ) → (1 ≤ j) × (j ≤ n) → j < 1 + n
      low j n h = omega arith

  -- a flat properly within another has a smaller rank
  pub rank-strict : (f g : Set) → IsFlat ring numbers arr f → IsFlat ring numbers arr g → is_properly_within f g ≡ true → rank ring numbers arr f < rank ring numbers arr g
  rank-strict f g hf hg p = step (decide (λ i. true) (contains f) g)
    where
      inside_g : AreIndices arr g
      inside_g i c = flat-indices over hg.0 i (subst (λ z. Contains z i) hg.3 c)

      part : IsPart f g
      part i c = is_within-members f g i (first_true _ _ p) c

      grows : (j : ℕ) → Contains g j → contains f j ≡ false → rank ring numbers arr f < rank ring numbers arr g
      grows j c e =
          let a = rank-adds f j (inside_g j c) (λ d. not_both _ (Contains-contains f j (subst (λ z. Contains z j) (flat-of_flat over f hf) d)) e) in
          let b = rank-monotone (j ∷ f) g (λ i d. with_j i (Contains-cases j f i d)) in
          subst (λ m. m ≤ rank ring numbers arr g) a b
        where
          with_j : (i : ℕ) → (j ≡ i) ⊎ Contains f i → Contains g i
          with_j i (inl q) = subst (λ z. Contains g z) q c
          with_j i (inr d) = part i d

      step : ((i : ℕ) → Contains g i → true ≡ true → contains f i ≡ true) ⊎ ((i : ℕ) × Contains g i × (true ≡ true) × (contains f i ≡ false)) → rank ring numbers arr f < rank ring numbers arr g
      step (inl all) = absurd (not_both (not (is_within g f)) (second_true _ _ p) (not_from_true (is_within g f) (all-from (contains f) g (λ i c. all i c refl))))
      step (inr w) = grows w.0 w.1 w.3
