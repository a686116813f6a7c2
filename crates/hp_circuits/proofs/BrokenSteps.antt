-- Where a set is broken: the first form below a member that the members from it on span.
use Rattle.std.specs.Prelude.{◌≡◌, ℕ, suc, ◌+◌, ◌-◌, ◌<◌, ◌≤◌, Bool, true, false, not, List, [], ◌∷◌, length, take, All, Contains, IsTrue, IsFalse}
use Rattle.std.proofs.lemmas.Bool.{cases_eq, cases_lt}
use Rattle.std.proofs.lemmas.List.{get_or-map, get_or-take, length-map, length-take-le, get_or_default}
use mathlib.Core.Logic.{inl, inr}
use mathlib.Core.Path.{sym, ap, ◌∙◌, subst}
use native.Mathlib.Omega.{arith}
use Rattle.hp_algebra.specs.Ring.{RingOf}
use Rattle.hp_algebra.specs.Rows.{is_zero_row}
use Rattle.hp_lists.proofs.Members.{not_both, all-from, each-All}
use Rattle.hp_sets.specs.Sets.{Set, IsSetWithin, contains}
use Rattle.hp_sets.proofs.SetLaws.{set_members}
use Rattle.hp_sets.proofs.SetWithin.{members-is_within, none-Contains}
use Rattle.hp_matroid.proofs.RisingLists.{above}
use Rattle.hp_arr.specs.Flats.{closure}
use Rattle.hp_arr.specs.Operations.{first_place}
use Rattle.hp_arr.proofs.Cuts.{flat-members}
use Rattle.hp_arr.proofs.Setting.{Setting, n, over as over_of}
use Rattle.hp_circuits.specs.BrokenParts.{IsBrokenBy}
use Rattle.hp_circuits.specs.RowSteps.{reduced}
use Rattle.hp_circuits.specs.NbcSearch.{row_at, rows_below, are_nonzero}
use Rattle.hp_circuits.proofs.Remainders.{zeros, row-zero, zero-row}
use Rattle.hp_circuits.proofs.NbcRows.{IsNbcWith, remainder, class-flat}
use Rattle.hp_circuits.proofs.NbcWalk.{above-set, above-part, over, above-skips, above-takes}

-- what holds at each number below k and at k holds below the next
pub next-holds : (P : ℕ → Type 0) (k : ℕ) → ((j : ℕ) → j < k → P j) → P k → (j : ℕ) → j < k + 1 → P j
next-holds P k h p j l = elim (cases_eq j k) [
  | inl e ↦ subst P (sym e) p
  | inr e ↦ h j (omega (arith, l, e))
]

module _ {K : Type 0} (ring : RingOf K) (inverse : K → K) (m : ℕ) (rows : List (List K)) (in_m : m < length rows) where
  abbrev child : List (List K)
  child = rows_below ring inverse m rows

  child-length : length (rows_below ring inverse m rows) ≡ m
  child-length =
      length-map (take m rows) (reduced ring inverse (first_place ring (row_at rows m)) (row_at rows m)) ∙ length-take-le m rows (omega (arith, in_m))

  -- the row that a step makes is one of the rows below
  pub row-below : (q k : ℕ) (v w : List K) → k < m → q ≡ first_place ring (row_at rows m) → v ≡ row_at rows m
      → w ≡ reduced ring inverse q v (row_at rows k) → row_at child k ≡ w
  row-below q k v w l eq ev ew =
      let f = reduced ring inverse (first_place ring (row_at rows m)) (row_at rows m) in
      let shorter = length-take-le m rows (omega (arith, in_m)) in
      get_or-map f (take m rows) k [] [] (omega (arith, l, shorter))
      ∙ ap f (get_or-take m rows k [] l) ∙ (λ i. reduced ring inverse (sym eq i) (sym ev i) (row_at rows k)) ∙ sym ew

  -- where no row below is zero, all are nonzero
  pub none-zero : ((j : ℕ) → j < m → IsFalse (is_zero_row ring (row_at child j))) → are_nonzero ring child ≡ true
  none-zero h = all-from (λ w. not (is_zero_row ring w)) child (λ w c. ap not (one w c))
    where
      one : (w : List K) → Contains child w → is_zero_row ring w ≡ false
      one w (k, l, e) =
          let there : row_at child k ≡ w = get_or_default child k [] w l ∙ e in
          subst (λ u. is_zero_row ring u ≡ false) there (h k (omega (arith, l, child-length)))

module _ {K : Type 0} (S : Setting K) (s : Set) (set : IsSetWithin (n S) s) where
  open S use {ring, inverse, numbers, arr}

  -- ---- the members so far

  pub part-starts : above (n S) s ≡ []
  part-starts = none-Contains (above (n S) s) (λ i c. clash i (over S s set (n S) i c) (set_members (n S) s i set (above-part S s set (n S) i c)).1)
    where
      clash : (i : ℕ) → n S < i → i ≤ n S → ⊥
      clash i a b = omega (arith, a, b)

  pub part-over : (k : ℕ) (u : Set) → u ≡ above k s → All (λ j. k < j) u
  part-over k u e = subst (All (λ j. k < j)) (sym e) (each-All (λ j. k < j) (above k s) (λ j c. over S s set k j c))

  pub part-skips : (m : ℕ) (u : Set) → contains s (suc m) ≡ false → u ≡ above (suc m) s → u ≡ above m s
  part-skips m u e f = f ∙ above-skips S s set m e

  pub part-takes : (m : ℕ) (u : Set) → contains s (suc m) ≡ true → u ≡ suc m ∷ above (suc m) s → u ≡ above m s
  part-takes m u e f = f ∙ above-takes S s set m e

  -- The first form whose remainder becomes zero breaks the set.
  pub part-breaks : (m k : ℕ) (rows : List (List K)) (u : Set) → contains s (suc m) ≡ true → u ≡ above m s
      → IsNbcWith S (above (suc m) s) (suc m) rows → k < m
      → IsTrue (is_zero_row ring (row_at (rows_below ring inverse m rows) k))
      → ((j : ℕ) → j < k → IsFalse (is_zero_row ring (row_at (rows_below ring inverse m rows) j)))
      → IsBrokenBy ring numbers arr s (k + 1) u
  part-breaks m k rows u e f H under z first = subst (IsBrokenBy ring numbers arr s (k + 1)) (sym f) (record {
    within = above-set S s set m;
    part = members-is_within (above m s) s (λ j c. above-part S s set m j c);
    below = each-All (λ j. k + 1 < j) (above m s) (λ j c. (let l = over S s set m j c in omega (arith, l, under)));
    spanned = subst (λ (t : Set). Contains (closure ring numbers arr t) (k + 1)) takes (subst (Contains (closure ring numbers arr (suc m ∷ above (suc m) s))) back spans);
    least = each-All (λ j. k + 1 ≤ j) (closure ring numbers arr (above m s)) (λ c d. elim (cases_lt c (k + 1)) [
      | inl l ↦ absurd (none c l (flat-members (over_of S) (above m s) c d).0.0 (subst (λ (t : Set). Contains (closure ring numbers arr t) c) (sym takes) d))
      | inr l ↦ l
    ]);
  })
    where
      takes : suc m ∷ above (suc m) s ≡ above m s
      takes = above-takes S s set m e

      back : suc k ≡ k + 1
      back = omega arith

      spans : Contains (closure ring numbers arr (suc m ∷ above (suc m) s)) (suc k)
      spans = (class-flat S (above (suc m) s) m rows H k under).0 (row-zero S _ (remainder S (above (suc m) s) m rows H k under).row z)

      none : (c : ℕ) → c < k + 1 → 1 ≤ c → Contains (closure ring numbers arr (suc m ∷ above (suc m) s)) c → ⊥
      none c l h d =
          let at : c - 1 < m = omega (arith, l, h, under) in
          let same : suc (c - 1) ≡ c = omega (arith, h) in
          let gone = (class-flat S (above (suc m) s) m rows H (c - 1) at).1 (subst (Contains (closure ring numbers arr (suc m ∷ above (suc m) s))) (sym same) d) in
          not_both _ (ap (is_zero_row ring) gone ∙ zero-row S arr.dim) (first (c - 1) (omega (arith, l, h)))
