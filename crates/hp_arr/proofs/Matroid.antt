-- How the rank grows as members are added: exchange and submodularity; independent sets.
use Rattle.std.specs.Prelude.{◌≡◌, ℕ, suc, ◌+◌, ◌<◌, ◌≤◌, Bool, true, false, not, [], ◌∷◌, ◌++◌, length, filter, Contains, ◌⊎◌}
use Rattle.std.proofs.lemmas.List.Elements.{Contains-append_left, Contains-append_right}
use Rattle.std.proofs.lemmas.List.Filters.{length-filter_both}
use mathlib.Core.Logic.{inl, inr}
use mathlib.Core.Path.{refl, ap, ◌∙◌}
use native.Mathlib.Omega.{arith}
use Rattle.hp_algebra.specs.Ring.{RingOf, Numbering}
use Rattle.hp_lists.proofs.Members.{Contains-here, Contains-later, Contains-filter, filter-Contains}
use Rattle.hp_lists.proofs.Ordered.{Rises, Ordered-filter, rising-ext}
use Rattle.hp_sets.specs.Sets.{Set, IsSetWithin, contains, union, meet}
use Rattle.hp_sets.proofs.Parts.{IsPart, part-more, part-join, part-behind, part-turn}
use Rattle.hp_sets.proofs.SetLaws.{contains-Contains, Contains-contains}
use Rattle.hp_sets.proofs.SetMembers.{union-members, meet-members}
use Rattle.hp_arr.specs.Arrangement.{Arrangement}
use Rattle.hp_arr.specs.Flats.{closure, rank}
use Rattle.hp_arr.proofs.OverField.{IsOverField}
use Rattle.hp_arr.proofs.Cuts.{IsIndex, AreIndices, set-indices, indices-tail, flat-indices, flat-monotone, cut-same}
use Rattle.hp_arr.proofs.Ranks.{rank-cut, rank-monotone, rank-low, rank-adds, rank-keeps, in_flat, rank-step}

module _ {K : Type 0} {ring : RingOf K} {inverse : K → K} {numbers : Numbering K} {arr : Arrangement K} (over : IsOverField ring inverse numbers arr) where
  -- Exchange: where j comes into the closure with i, i comes into it with j.
  pub exchange : (s : Set) (i j : ℕ) → IsIndex arr i → Contains (closure ring numbers arr (i ∷ s)) j → (Contains (closure ring numbers arr s) j → ⊥) → Contains (closure ring numbers arr (j ∷ s)) i
  exchange s i j ri c out = step (in_flat over (j ∷ s) i)
    where
      clash : (A B C D E : ℕ) → A ≡ suc B → B ≡ suc E → A ≡ C → C ≡ D → D ≤ suc E → ⊥
      clash A B C D E a b e k l = omega arith

      step : Contains (closure ring numbers arr (j ∷ s)) i ⊎ (Contains (closure ring numbers arr (j ∷ s)) i → ⊥) → Contains (closure ring numbers arr (j ∷ s)) i
      step (inl d) = d
      step (inr d) =
          let a = rank-adds over (j ∷ s) i ri d in
          let b = rank-adds over s j (flat-indices over (i ∷ s) j c) out in
          let e = rank-cut over (i ∷ j ∷ s) (j ∷ i ∷ s) (cut-same over (i ∷ j ∷ s) (j ∷ i ∷ s) (part-turn i j s) (part-turn j i s)) in
          let k = rank-keeps over (i ∷ s) j c in
          let l = rank-step over s i ri in
          absurd (clash _ _ _ _ _ a b e k l)

  -- a form adds no more to a greater set
  pub rank-diminishes : (s t : Set) (j : ℕ) → IsIndex arr j → IsPart s t → rank ring numbers arr (j ∷ t) + rank ring numbers arr s ≤ rank ring numbers arr (j ∷ s) + rank ring numbers arr t
  rank-diminishes s t j h p = step (in_flat over s j)
    where
      step : Contains (closure ring numbers arr s) j ⊎ (Contains (closure ring numbers arr s) j → ⊥) → rank ring numbers arr (j ∷ t) + rank ring numbers arr s ≤ rank ring numbers arr (j ∷ s) + rank ring numbers arr t
      step (inl c) =
          let a = rank-keeps over s j c in
          let b = rank-keeps over t j (flat-monotone over s t p j c) in
          omega arith
      step (inr c) =
          let a = rank-adds over s j h c in
          let b = rank-step over t j h in
          omega arith

  rank-diminishes_list : (u s t : Set) → AreIndices arr u → IsPart s t → rank ring numbers arr (u ++ t) + rank ring numbers arr s ≤ rank ring numbers arr (u ++ s) + rank ring numbers arr t
  rank-diminishes_list [] s t h p = turn (rank ring numbers arr t) (rank ring numbers arr s)
    where
      turn : (a b : ℕ) → a + b ≤ b + a
      turn a b = omega arith
  rank-diminishes_list (j ∷ u) s t h p =
      let a = rank-diminishes (u ++ s) (u ++ t) j (h j (Contains-here j u)) (part-behind u s t p) in
      let b = rank-diminishes_list u s t (indices-tail arr j u h) p in
      omega arith

  -- the rank is submodular
  pub rank-submodular : (s t : Set) → IsSetWithin (length arr.forms) s → IsSetWithin (length arr.forms) t → rank ring numbers arr (union s t) + rank ring numbers arr (meet s t) ≤ rank ring numbers arr s + rank ring numbers arr t
  rank-submodular s t p q =
      let a = rank-diminishes_list s (meet s t) t (set-indices arr s p) (λ i c. (meet-members s t i c).1) in
      let b = rank-monotone over (union s t) (s ++ t) (λ i c. join i (union-members s t i c)) in
      let c = rank-monotone over (s ++ meet s t) s (part-join s (meet s t) s (λ i c. c) (λ i c. (meet-members s t i c).0)) in
      omega arith
    where
      join : (i : ℕ) → Contains s i ⊎ Contains t i → Contains (s ++ t) i
      join i (inl c) = Contains-append_left s t i c
      join i (inr c) = Contains-append_right s t i c

  -- each member adds at most one
  pub rank-append : (u s : Set) → AreIndices arr u → rank ring numbers arr (u ++ s) ≤ length u + rank ring numbers arr s
  rank-append [] s h = same (rank ring numbers arr s)
    where
      same : (a : ℕ) → a ≤ 0 + a
      same a = omega arith
  rank-append (j ∷ u) s h =
      let a = rank-step over (u ++ s) j (h j (Contains-here j u)) in
      let b = rank-append u s (indices-tail arr j u h) in
      omega arith

  -- ---- independent sets

  -- the first member of an independent list is outside the closure of the others, which are independent
  pub independent-tail : (i : ℕ) (s : Set) → AreIndices arr (i ∷ s) → rank ring numbers arr (i ∷ s) ≡ length (i ∷ s) → (rank ring numbers arr s ≡ length s) × (Contains (closure ring numbers arr s) i → ⊥)
  independent-tail i s h e =
      let a = rank-step over s i (h i (Contains-here i s)) in
      let b = rank-low over s in
      (omega arith, λ c. let k = rank-keeps over s i c in omega arith)

  pub independent-more : (i : ℕ) (s : Set) → IsIndex arr i → rank ring numbers arr s ≡ length s → (Contains (closure ring numbers arr s) i → ⊥) → rank ring numbers arr (i ∷ s) ≡ length (i ∷ s)
  independent-more i s h e c = rank-adds over s i h c ∙ ap (λ m. suc m) e

  -- what is part of an independent set is independent
  pub independent-part : (s t : Set) → Rises s → Rises t → AreIndices arr t → IsPart s t → rank ring numbers arr t ≡ length t → rank ring numbers arr s ≡ length s
  independent-part s t p q h f e =
      let rest : Set = filter (λ i. not (contains s i)) t in
      let a : length (filter (contains s) t) + length rest ≡ length t = length-filter_both (contains s) (λ i. not (contains s i)) (λ i. refl) t in
      let b : filter (contains s) t ≡ s = rising-ext (filter (contains s) t) s (Ordered-filter (λ x y. x < y) (contains s) t q) p
      (λ i c. contains-Contains s i (filter-Contains (contains s) t i c).1) (λ i c. Contains-filter (contains s) t i (f i c) (Contains-contains s i c)) in
      let c = ap (λ (z : Set). length z) b in
      let d = rank-monotone over t (rest ++ s) (λ i c. split i c) in
      let g = rank-append rest s (λ i c. h i (filter-Contains (λ i. not (contains s i)) t i c).0) in
      let l = rank-low over s in
      omega arith
    where
      split : (i : ℕ) → Contains t i → Contains (filter (λ i. not (contains s i)) t ++ s) i
      split i c = step (contains s i) refl
        where
          step : (b : Bool) → contains s i ≡ b → Contains (filter (λ i. not (contains s i)) t ++ s) i
          step true e = Contains-append_right (filter (λ i. not (contains s i)) t) s i (contains-Contains s i e)
          step false e = Contains-append_left (filter (λ i. not (contains s i)) t) s i (Contains-filter (λ i. not (contains s i)) t i c (ap not e))
