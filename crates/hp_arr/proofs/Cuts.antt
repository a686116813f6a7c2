-- Cuts and closures: what their members are, and the laws of the closure.
use Rattle.std.specs.Prelude.{◌≡◌, ℕ, ◌+◌, ◌<◌, ◌≤◌, nat_lt, true, ◌&&◌, List, [], ◌∷◌, length, filter, Contains, ◌⊎◌, suc}
use Rattle.std.proofs.lemmas.Bool.{and_from, lt-ltb, ltb-true}
use Rattle.std.specs.Cmp.{both_ways}
use mathlib.Core.Logic.{inl, inr}
use mathlib.Core.Path.{sym, ap, ◌∙◌, subst}
use native.Mathlib.Omega.{arith}
use Rattle.hp_algebra.specs.Ring.{RingOf, Numbering}
use Rattle.hp_lists.specs.Lists.{list_all}
use Rattle.hp_lists.proofs.Members.{second_true, Contains-here, Contains-later, Contains-cases, Contains-none, Contains-filter, filter-Contains, all-at, all-from, filter-ext}
use Rattle.hp_lists.proofs.Ranges.{range_members, members_range}
use Rattle.hp_sets.specs.Sets.{Set, IsSetWithin}
use Rattle.hp_sets.proofs.Parts.{IsPart}
use Rattle.hp_sets.proofs.SetLaws.{set_members, filter-set}
use Rattle.hp_arr.specs.Arrangement.{Arrangement, form, indices, lies_in}
use Rattle.hp_algebra.specs.Rows.{IsRow, zero_row}
use Rattle.hp_algebra.proofs.Rings.{zero_passes}
use Rattle.hp_algebra.proofs.Rows.{zeros-row}
use Rattle.hp_algebra.proofs.Dots.{dot-comm, dot-zeros}
use Rattle.hp_arr.specs.Flats.{points, cut, has_point, closure, IsFlat}
use Rattle.hp_arr.proofs.FormValues.{form-lies}
use Rattle.hp_arr.proofs.OverField.{IsOverField, field_of}
use Rattle.hp_arr.proofs.SpacePoints.{points-rows, rows-points}
use Rattle.hp_arr.proofs.Counting.{lies_in_all, form_values}

-- a list is not empty where it has a member
pub some-first : {X : Type 0} (xs : List X) (x : X) → Contains xs x → nat_lt 0 (length xs) ≡ true
some-first [] x c = absurd (Contains-none x c)
some-first (y ∷ xs) x c = lt-ltb 0 (suc (length xs)) (omega arith)

pub first-some : {X : Type 0} (xs : List X) → nat_lt 0 (length xs) ≡ true → (x : X) × Contains xs x
first-some [] h = absurd (none (ltb-true 0 0 h))
  where
    none : 0 < 0 → ⊥
    none l = omega (arith, l)
first-some (x ∷ xs) h = (x, Contains-here x xs)

-- ---- sets of indices

-- the number of a hyperplane
abbrev pub IsIndex : {K : Type 0} → Arrangement K → ℕ → Type 0
IsIndex arr j = (1 ≤ j) × (j ≤ length arr.forms)

-- each member is the number of a hyperplane
abbrev pub AreIndices : {K : Type 0} → Arrangement K → Set → Type 0
AreIndices arr s = (i : ℕ) → Contains s i → IsIndex arr i

pub set-indices : {K : Type 0} (arr : Arrangement K) (s : Set) → IsSetWithin (length arr.forms) s → AreIndices arr s
set-indices arr s h i c = set_members (length arr.forms) s i h c

pub indices-none : {K : Type 0} (arr : Arrangement K) → AreIndices arr []
indices-none arr i c = absurd (Contains-none i c)

pub indices-more : {K : Type 0} (arr : Arrangement K) (j : ℕ) (s : Set) → IsIndex arr j → AreIndices arr s → AreIndices arr (j ∷ s)
indices-more arr j s r h i c = step (Contains-cases j s i c)
  where
    step : (j ≡ i) ⊎ Contains s i → IsIndex arr i
    step (inl e) = subst (IsIndex arr) e r
    step (inr d) = h i d

pub indices-tail : {K : Type 0} (arr : Arrangement K) (j : ℕ) (s : Set) → AreIndices arr (j ∷ s) → AreIndices arr s
indices-tail arr j s h i c = h i (Contains-later j s i c)

-- H_j contains the cut of s
abbrev pub IsAbove : {K : Type 0} → RingOf K → Arrangement K → Set → ℕ → Type 0
IsAbove {K = K} ring arr s j = (x : List K) → IsRow ring arr.dim x → lies_in_all ring arr s x ≡ true → lies_in ring arr j x ≡ true

module _ {K : Type 0} {ring : RingOf K} {inverse : K → K} {numbers : Numbering K} {arr : Arrangement K} (over : IsOverField ring inverse numbers arr) where
  -- ---- what the cut and the closure have

  -- the members of the cut are the points that lie in each of the hyperplanes
  pub cut-members : (s : Set) (x : List K) → Contains (cut ring numbers arr s) x → IsRow ring arr.dim x × (lies_in_all ring arr s x ≡ true)
  unfolding cut
  cut-members s x c =
      let d = filter-Contains (lies_in_all ring arr s) (points ring numbers arr.dim) x c in
      (points-rows (field_of over) arr.dim x d.0, d.1)

  pub members-cut : (s : Set) (x : List K) → IsRow ring arr.dim x → lies_in_all ring arr s x ≡ true → Contains (cut ring numbers arr s) x
  unfolding cut
  members-cut s x r h = Contains-filter (lies_in_all ring arr s) (points ring numbers arr.dim) x (rows-points (field_of over) arr.dim x r) h

  -- the origin lies in every hyperplane, so each set has a common point
  pub has_origin : (s : Set) → has_point ring numbers arr s ≡ true
  unfolding has_point
  has_origin s =
      let laws = over.field.is_ring in
      let origin = zero_row ring arr.dim in
      let o = zeros-row laws arr.dim in
      some-first (cut ring numbers arr s) origin (members-cut s origin o (all-from (λ i. lies_in ring arr i origin) s (λ i c.
      form-lies ring arr over.forms.rows i origin o.0
      ∙ zero_passes laws _ (dot-comm laws over.field.commutes (form arr i) origin (form_values over i) o.1 ∙ dot-zeros laws arr.dim (form arr i) (form_values over i)))))

  -- the members of the closure are the hyperplanes that contain the cut
  pub flat-members : (s : Set) (j : ℕ) → Contains (closure ring numbers arr s) j → IsIndex arr j × IsAbove ring arr s j
  unfolding closure
  flat-members s j c =
      let d = filter-Contains (λ j. list_all (lies_in ring arr j) (cut ring numbers arr s)) (indices arr) j c in
      (within j (length arr.forms) (range_members j 1 (length arr.forms) d.0), λ x r h. all-at (lies_in ring arr j) (cut ring numbers arr s) x d.1 (members-cut s x r h))
    where
      within : (j n : ℕ) → (1 ≤ j) × (j < 1 + n) → (1 ≤ j) × (j ≤ n)
      within j n h = omega arith

  pub members-flat : (s : Set) (j : ℕ) → IsIndex arr j → IsAbove ring arr s j → Contains (closure ring numbers arr s) j
  unfolding closure
  members-flat s j r h =
      Contains-filter (λ j. list_all (lies_in ring arr j) (cut ring numbers arr s)) (indices arr) j (members_range j 1 (length arr.forms) r.0 (low j (length arr.forms) r))
      (all-from (lies_in ring arr j) (cut ring numbers arr s) (λ x c. let d = cut-members s x c in h x d.0 d.1))
    where
      low : (j n : ℕ) → (1 ≤ j) × (j ≤ n) → j < 1 + n
      low j n h = omega arith

  -- a closure is a set of hyperplanes
  pub flat-set : (s : Set) → IsSetWithin (length arr.forms) (closure ring numbers arr s)
  unfolding closure
  flat-set s = filter-set (λ j. list_all (lies_in ring arr j) (cut ring numbers arr s)) (length arr.forms)

  pub flat-indices : (s : Set) → AreIndices arr (closure ring numbers arr s)
  flat-indices s i c = (flat-members s i c).0

  -- ---- the laws of the closure

  pub lies-part : (s t : Set) (x : List K) → IsPart s t → lies_in_all ring arr t x ≡ true → lies_in_all ring arr s x ≡ true
  lies-part s t x p h = all-from (λ i. lies_in ring arr i x) s (λ i c. all-at (λ i. lies_in ring arr i x) t i h (p i c))

  -- a set lies within its closure
  pub flat-extends : (s : Set) → AreIndices arr s → IsPart s (closure ring numbers arr s)
  flat-extends s h i c = members-flat s i (h i c) (λ x r e. all-at (λ i. lies_in ring arr i x) s i e c)

  -- a greater set has a greater closure
  pub flat-monotone : (s t : Set) → IsPart s t → IsPart (closure ring numbers arr s) (closure ring numbers arr t)
  flat-monotone s t p i c = let d = flat-members s i c in members-flat t i d.0 (λ x r e. d.1 x r (lies-part s t x p e))

  -- sets with the same points have the same cut
  pub cut-ext : (s t : Set) → ((x : List K) → IsRow ring arr.dim x → lies_in_all ring arr s x ≡ lies_in_all ring arr t x) → cut ring numbers arr s ≡ cut ring numbers arr t
  unfolding cut
  cut-ext s t h = filter-ext (lies_in_all ring arr s) (lies_in_all ring arr t) (points ring numbers arr.dim) (λ x c. h x (points-rows (field_of over) arr.dim x c))

  -- sets with the same members have the same cut
  pub cut-same : (s t : Set) → IsPart s t → IsPart t s → cut ring numbers arr s ≡ cut ring numbers arr t
  cut-same s t p q = cut-ext s t (λ x r. both_ways _ _ (lies-part t s x q) (lies-part s t x p))

  -- the cut of the closure is the cut
  pub cut-flat : (s : Set) → AreIndices arr s → cut ring numbers arr (closure ring numbers arr s) ≡ cut ring numbers arr s
  cut-flat s h = cut-ext (closure ring numbers arr s) s (λ x r. both_ways _ _ (lies-part s (closure ring numbers arr s) x (flat-extends s h))
      (λ e. all-from (λ i. lies_in ring arr i x) (closure ring numbers arr s) (λ i c. (flat-members s i c).1 x r e)))

  -- the closure is read off the cut
  pub flat-cut : (s t : Set) → cut ring numbers arr s ≡ cut ring numbers arr t → closure ring numbers arr s ≡ closure ring numbers arr t
  unfolding closure
  flat-cut s t e = ap (λ c. filter (λ j. list_all (lies_in ring arr j) c) (indices arr)) e

  -- a closure is closed
  pub flat-idempotent : (s : Set) → AreIndices arr s → closure ring numbers arr (closure ring numbers arr s) ≡ closure ring numbers arr s
  flat-idempotent s h = flat-cut (closure ring numbers arr s) s (cut-flat s h)

  -- a set within a closure has its closure within
  pub flat-least : (s t : Set) → AreIndices arr t → IsPart s (closure ring numbers arr t) → IsPart (closure ring numbers arr s) (closure ring numbers arr t)
  flat-least s t h p i c = subst (λ f. Contains f i) (flat-idempotent t h) (flat-monotone s (closure ring numbers arr t) p i c)

  -- sets with one closure have one cut
  pub cut-from_flat : (s t : Set) → AreIndices arr s → AreIndices arr t → closure ring numbers arr s ≡ closure ring numbers arr t → cut ring numbers arr s ≡ cut ring numbers arr t
  cut-from_flat s t h k e = sym (cut-flat s h) ∙ ap (cut ring numbers arr) e ∙ cut-flat t k

  -- ---- one form more

  -- a form inside the closure changes neither cut nor closure
  pub cut-keeps : (s : Set) (j : ℕ) → Contains (closure ring numbers arr s) j → cut ring numbers arr (j ∷ s) ≡ cut ring numbers arr s
  cut-keeps s j c = cut-ext (j ∷ s) s (λ x r. both_ways _ _ (second_true _ _) (λ e. and_from _ _ ((flat-members s j c).1 x r e) e))

  pub flat-keeps : (s : Set) (j : ℕ) → Contains (closure ring numbers arr s) j → closure ring numbers arr (j ∷ s) ≡ closure ring numbers arr s
  flat-keeps s j c = flat-cut (j ∷ s) s (cut-keeps s j c)

  -- sets with one cut have one cut with a further form
  pub cut-more : (j : ℕ) (s t : Set) → cut ring numbers arr s ≡ cut ring numbers arr t → cut ring numbers arr (j ∷ s) ≡ cut ring numbers arr (j ∷ t)
  cut-more j s t e =
      cut-ext (j ∷ s) (j ∷ t) (λ x r.
      ap (λ b. lies_in ring arr j x && b) (both_ways _ _
      (λ h. (cut-members t x (subst (λ c. Contains c x) e (members-cut s x r h))).1)
      (λ h. (cut-members s x (subst (λ c. Contains c x) (sym e) (members-cut t x r h))).1)))

  -- the closure with a further form is that of the closure with it
  pub flat-more : (j : ℕ) (s : Set) → AreIndices arr s → closure ring numbers arr (j ∷ closure ring numbers arr s) ≡ closure ring numbers arr (j ∷ s)
  flat-more j s h = flat-cut (j ∷ closure ring numbers arr s) (j ∷ s) (cut-more j (closure ring numbers arr s) s (cut-flat s h))

  -- ---- flats

  -- the closure of a set or of a list of hyperplanes is a flat
  pub IsFlat-flat : (s : Set) → AreIndices arr s → IsFlat ring numbers arr (closure ring numbers arr s)
  IsFlat-flat s h = (closure ring numbers arr s, flat-set s, has_origin (closure ring numbers arr s), sym (flat-idempotent s h))

  -- a flat is its own closure
  pub flat-of_flat : (f : Set) → IsFlat ring numbers arr f → closure ring numbers arr f ≡ f
  flat-of_flat f h = ap (closure ring numbers arr) h.3 ∙ flat-idempotent h.0 (set-indices arr h.0 h.1) ∙ sym h.3

  -- a flat is a set of hyperplanes
  pub IsFlat-set : (f : Set) → IsFlat ring numbers arr f → IsSetWithin (length arr.forms) f
  IsFlat-set f h = subst (IsSetWithin (length arr.forms)) (sym h.3) (flat-set h.0)
