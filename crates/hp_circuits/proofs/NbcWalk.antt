-- Whether a set has a broken circuit, by a walk through its members from the greatest.
use Rattle.std.specs.Prelude.{◌≡◌, ℕ, suc, ◌<◌, ◌≤◌, true, false, List, [], ◌∷◌, Contains, ◌⊎◌}
use Rattle.std.proofs.lemmas.Bool.{cases_Bool, cases_eq}
use mathlib.Core.Logic.{inl, inr}
use mathlib.Core.Path.{sym, subst}
use native.Mathlib.Omega.{arith}
use Rattle.hp_lists.specs.Lists.{one_to}
use Rattle.hp_lists.proofs.Members.{not_both, Contains-here, Contains-later, Contains-cases}
use Rattle.hp_sets.specs.Sets.{Set, IsSetWithin, contains}
use Rattle.hp_sets.proofs.Parts.{IsPart}
use Rattle.hp_sets.proofs.SetLaws.{contains-Contains, Contains-contains, set-ext, set_members}
use Rattle.hp_sets.proofs.SetWithin.{none-Contains}
use Rattle.hp_matroid.specs.Matroids.{Rises, Within}
use Rattle.hp_matroid.proofs.RisingLists.{above, above-over, above-within, in_above, above-rises}
use Rattle.hp_matroid.proofs.RisingSets.{set-rises, set-from_rises}
use Rattle.hp_arr.specs.Circuits.{is_nbc}
use Rattle.hp_arr.proofs.Setting.{Setting, n}
use Rattle.hp_circuits.specs.NbcSearch.{rows_below, are_nonzero}
use Rattle.hp_circuits.proofs.NbcRows.{IsNbcWith, with-fewer, with-none, with-front, nbc-nonzero}
use Rattle.hp_circuits.proofs.NbcFound.{nbc-part}

module _ {K : Type 0} (S : Setting K) (s : Set) (set : IsSetWithin (n S) s) where
  open S use {ring, inverse, numbers, arr}

  rs : Rises s
  rs = (set-rises (n S) s set).0

  ws : Within s (one_to (n S))
  ws = (set-rises (n S) s set).1

  pub above-set : (m : ℕ) → IsSetWithin (n S) (above m s)
  above-set m = set-from_rises (n S) (above m s) (above-rises m s rs) (λ i h. ws i (above-within m s i h))

  pub above-part : (m : ℕ) → IsPart (above m s) s
  above-part m i c = contains-Contains s i (above-within m s i (Contains-contains (above m s) i c))

  pub over : (m i : ℕ) → Contains (above m s) i → m < i
  over m i c = above-over m s i (Contains-contains (above m s) i c)

  has : (m i : ℕ) → Contains s i → m < i → Contains (above m s) i
  has m i c l = contains-Contains (above m s) i (in_above m s i (Contains-contains s i c) l)

  -- a number that is no member
  pub above-skips : (m : ℕ) → contains s (suc m) ≡ false → above (suc m) s ≡ above m s
  above-skips m e = set-ext (n S) (n S) (above (suc m) s) (above m s) (above-set (suc m)) (above-set m)
      (λ i c. has m i (above-part (suc m) i c) (let l = over (suc m) i c in omega (arith, l)))
      (λ i c. has (suc m) i (above-part m i c) (up i c (over m i c)))
    where
      up : (i : ℕ) → Contains (above m s) i → m < i → suc m < i
      up i c l = elim (cases_eq i (suc m)) [
        | inl z ↦ absurd (not_both _ (Contains-contains s (suc m) (subst (Contains s) z (above-part m i c))) e)
        | inr z ↦ omega (arith, l, z)
      ]

  module _ (m : ℕ) (e : contains s (suc m) ≡ true) where
    front-part : IsPart (suc m ∷ above (suc m) s) s
    front-part i c = elim (Contains-cases (suc m) (above (suc m) s) i c) [ inl z ↦ subst (Contains s) z (contains-Contains s (suc m) e) | inr d ↦ above-part (suc m) i d ]

    over-all : Rises (suc m ∷ above (suc m) s)
    over-all = (above-over (suc m) s, above-rises (suc m) s rs)

    -- a member comes in front
    pub above-takes : suc m ∷ above (suc m) s ≡ above m s
    above-takes = set-ext (n S) (n S) (suc m ∷ above (suc m) s) (above m s)
        (set-from_rises (n S) (suc m ∷ above (suc m) s) over-all (λ i h. ws i (Contains-contains s i (front-part i (contains-Contains (suc m ∷ above (suc m) s) i h))))) (above-set m)
        (λ i c. has m i (front-part i c) (low i (Contains-cases (suc m) (above (suc m) s) i c)))
        (λ i c. back i c (over m i c))
      where
        low : (i : ℕ) → (suc m ≡ i) ⊎ Contains (above (suc m) s) i → m < i
        low i (inl z) = omega (arith, z)
        low i (inr c) = let l = over (suc m) i c in omega (arith, l)

        back : (i : ℕ) → Contains (above m s) i → m < i → Contains (suc m ∷ above (suc m) s) i
        back i c l = elim (cases_eq i (suc m)) [
          | inl z ↦ subst (Contains (suc m ∷ above (suc m) s)) (sym z) (Contains-here (suc m) (above (suc m) s))
          | inr z ↦ Contains-later (suc m) (above (suc m) s) i (has (suc m) i (above-part m i c) (omega (arith, l, z)))
        ]

  -- ---- the walk

  -- at first all forms are left
  pub walk-starts : (rows : List (List K)) → rows ≡ arr.forms → IsNbcWith S (above (n S) s) (n S) rows
  walk-starts rows e =
      subst (λ T. IsNbcWith S T (n S) rows) (sym (none-Contains (above (n S) s) (λ i c. clash i (over (n S) i c) (set_members (n S) s i set (above-part (n S) i c)).1)))
      (subst (IsNbcWith S [] (n S)) (sym e) (with-none S))
    where
      clash : (i : ℕ) → n S < i → i ≤ n S → ⊥
      clash i a b = omega (arith, a, b)

  pub walk-skips : (m : ℕ) (rows : List (List K)) → contains s (suc m) ≡ false
      → IsNbcWith S (above (suc m) s) (suc m) rows
      → IsNbcWith S (above m s) m rows
  walk-skips m rows e H = subst (λ T. IsNbcWith S T m rows) (above-skips m e) (with-fewer S (above (suc m) s) (suc m) m rows (omega arith) H)

  pub walk-takes : (m : ℕ) (rows below : List (List K)) → contains s (suc m) ≡ true
      → below ≡ rows_below ring inverse m rows
      → are_nonzero ring (rows_below ring inverse m rows) ≡ true → IsNbcWith S (above (suc m) s) (suc m) rows
      → IsNbcWith S (above m s) m below
  walk-takes m rows below e b free H =
      subst (λ T. IsNbcWith S T m below) (above-takes m e) (subst (IsNbcWith S (suc m ∷ above (suc m) s) m) (sym b) (with-front S (above (suc m) s) m rows H free))

  -- where a remainder becomes zero there is a broken circuit
  pub walk-stops : (m : ℕ) (rows : List (List K)) → contains s (suc m) ≡ true
      → are_nonzero ring (rows_below ring inverse m rows) ≡ false → IsNbcWith S (above (suc m) s) (suc m) rows
      → is_nbc ring numbers arr s ≡ false
  walk-stops m rows e zero H = elim (cases_Bool (is_nbc ring numbers arr s)) [
    | inl h ↦ absurd (not_both _ (nbc-nonzero S (above (suc m) s) m rows H (nbc-part S (suc m ∷ above (suc m) s) s (over-all m e) rs (front-part m e) ws h)) zero)
    | inr h ↦ h
  ]

  -- at the end all members are above
  pub walk-ends : (rows : List (List K)) → IsNbcWith S (above 0 s) 0 rows → is_nbc ring numbers arr s ≡ true
  walk-ends rows H = nbc-part S s (above 0 s) rs H.rises (λ i c. has 0 i c (let r = set_members (n S) s i set c in omega (arith, r))) H.within H.nbc
