-- A set with a member below all others: in rising order it comes in front.
use Rattle.std.specs.Prelude.{◌≡◌, ℕ, ◌<◌, ◌≤◌, true, ◌∷◌, All, Contains, ◌⊎◌}
use Rattle.std.proofs.lemmas.List.Elements.{All-contains, All-cons}
use mathlib.Core.Logic.{inl, inr}
use native.Mathlib.Omega.{arith}
use Rattle.hp_lists.proofs.Members.{Contains-cases, each-All}
use Rattle.hp_lists.specs.Lists.{one_to}
use Rattle.hp_sets.specs.Sets.{Set, IsSetWithin, contains, with_member}
use Rattle.hp_sets.proofs.SetLaws.{set-ext, set_members, contains-Contains}
use Rattle.hp_sets.proofs.SetMembers.{with-members, members-with}
use Rattle.hp_matroid.proofs.RisingSets.{set-rises, set-from_rises}
use Rattle.hp_arr.proofs.ArrangementMatroids.{index-ground}

module _ (s : Set) (i : ℕ) (set : IsSetWithin 64 s) (low : 1 ≤ i) (high : i ≤ 64) (above : All (λ j. i < j) s) where
  under : (j : ℕ) → Contains s j → i < j
  under j c = All-contains (λ j. i < j) s j above c

  pub front-set : IsSetWithin 64 (i ∷ s)
  front-set = set-from_rises 64 (i ∷ s) ((λ j h. under j (contains-Contains s j h)), (set-rises 64 s set).0)
      (λ j h. pick j (Contains-cases i s j (contains-Contains (i ∷ s) j h)))
    where
      pick : (j : ℕ) → (i ≡ j) ⊎ Contains s j → contains (one_to 64) j ≡ true
      pick j (inl e) = index-ground 64 j (omega (arith, low, e)) (omega (arith, high, e))
      pick j (inr c) = let r = set_members 64 s j set c in index-ground 64 j r.0 r.1

  pub with-front : IsSetWithin 64 (with_member s i) → with_member s i ≡ i ∷ s
  with-front h = set-ext 64 64 (with_member s i) (i ∷ s) h front-set (λ j c. with-members s i j c) (λ j c. members-with s i j set (low, high) c)

  pub front-above : All (λ j. i ≤ j) (i ∷ s)
  front-above = All-cons (λ j. i ≤ j) i s (omega arith) (each-All (λ j. i ≤ j) s (λ j c. (let l = under j c in omega (arith, l))))
