-- A set with a last member is a circuit exactly where the others are independent, their closure has it, and no closure of the others less one has it.
use Rattle.std.specs.Prelude.{◌≡◌, ℕ, suc, ◌+◌, ◌≤◌, ◌<◌, Bool, true, false, not, ◌&&◌, [], ◌∷◌, ◌++◌, length, Contains, ◌⊎◌}
use Rattle.std.specs.List.{list_any}
use Rattle.std.proofs.lemmas.Bool.{and_from, cases_eq, ltb-true, lt-ltb}
use Rattle.std.proofs.lemmas.List.{length-append}
use mathlib.Core.Logic.{inl, inr}
use mathlib.Core.Path.{refl, sym, ap, ◌∙◌, subst}
use native.Mathlib.Omega.{arith}
use Rattle.hp_lists.proofs.Members.{Contains-here, Contains-later, Contains-cases, each-All, not_both, first_true, second_true, decide}
use Rattle.hp_lists.proofs.Ordered.{Ordered-push, rises_of, increasing_of}
use Rattle.hp_lists.proofs.Distinct.{last-cases, last-Contains}
use Rattle.hp_sets.specs.Sets.{Set, IsSetWithin, contains, is_within, is_properly_within, without_member, sets_within}
use Rattle.hp_sets.proofs.Parts.{IsPart}
use Rattle.hp_sets.proofs.SetLaws.{contains-Contains, Contains-contains, set_members, set-ext}
use Rattle.hp_sets.proofs.SetMembers.{without-members, members-without, without-set}
use Rattle.hp_sets.proofs.SetWithin.{is_within-members, members-is_within, length-is_properly_within}
use Rattle.hp_arr.specs.Flats.{is_dependent, is_circuit}
use Rattle.hp_arr.proofs.Cuts.{IsIndex, set-indices, cut-same}
use Rattle.hp_arr.proofs.Matroid.{independent-part}
use Rattle.hp_arr.proofs.OverField.{IsOverField}
use Rattle.hp_arr.proofs.Ranks.{rank-cut, rank-keeps, rank-adds, rank-low, in_flat}
use Rattle.hp_arr.proofs.Setting.{Setting, over, n, cl, rk, set-within_word}
use Rattle.hp_matroid.proofs.Listing.{sets_within-listing}
use Rattle.hp_matroid.proofs.RisingSets.{set-rises, set-from_rises}

-- ---- one member more at the end

pub end_has : (T : Set) (j : ℕ) → Contains (T ++ j ∷ []) j
end_has T j = last-Contains T j j (inr refl)

pub end_keeps : (T : Set) (j k : ℕ) → Contains T k → Contains (T ++ j ∷ []) k
end_keeps T j k c = last-Contains T j k (inl c)

pub end-length : (T : Set) (j : ℕ) → length (T ++ j ∷ []) ≡ suc (length T)
end-length T j = length-append T (j ∷ []) ∙ one (length T)
  where
    one : (k : ℕ) → k + 1 ≡ suc k
    one k = omega arith

pub end_front : (T : Set) (j : ℕ) → IsPart (T ++ j ∷ []) (j ∷ T)
end_front T j k c = step (last-cases T j k c)
  where
    step : Contains T k ⊎ (j ≡ k) → Contains (j ∷ T) k
    step (inl c) = Contains-later j T k c
    step (inr e) = subst (Contains (j ∷ T)) e (Contains-here j T)

pub front_end : (T : Set) (j : ℕ) → IsPart (j ∷ T) (T ++ j ∷ [])
front_end T j k c = step (Contains-cases j T k c)
  where
    step : (j ≡ k) ⊎ Contains T k → Contains (T ++ j ∷ []) k
    step (inl e) = last-Contains T j k (inr e)
    step (inr c) = end_keeps T j k c

-- each member is below j
abbrev pub AllBelow : Set → ℕ → Type 0
AllBelow T j = (k : ℕ) → Contains T k → k < j

pub end-set : (m : ℕ) (T : Set) (j : ℕ) → IsSetWithin m T → AllBelow T j → (1 ≤ j) × (j ≤ m)
    → IsSetWithin m (T ++ j ∷ [])
end-set m T j h below i = record {
  rising = increasing_of (T ++ j ∷ []) (Ordered-push (λ x y. x < y) T j (rises_of T h.rising) below);
  members = each-All (λ k. (1 ≤ k) × (k ≤ m)) (T ++ j ∷ []) (λ k c. step k (last-cases T j k c));
}
  where
    step : (k : ℕ) → Contains T k ⊎ (j ≡ k) → (1 ≤ k) × (k ≤ m)
    step k (inl c) = set_members m T k h c
    step k (inr e) = subst (λ z. (1 ≤ z) × (z ≤ m)) e i

-- a set with one member less is properly within
properly : (t D : Set) (d : ℕ) → IsPart t D → Contains D d → (Contains t d → ⊥) → is_properly_within t D ≡ true
properly t D d p c f = and_from _ _ (members-is_within t D p) (step (is_within D t) refl)
  where
    step : (b : Bool) → is_within D t ≡ b → not (is_within D t) ≡ true
    step true e = absurd (f (is_within-members D t d e c))
    step false e = ap not e

flip : (b : Bool) → not b ≡ true → b ≡ false
flip true e = sym e
flip false e = refl

module _ {K : Type 0} (S : Setting K) where
  open S use {ring, numbers, arr}

  abbrev o : IsOverField S.ring S.inverse S.numbers S.arr
  o = over S

  abbrev pub Circuit : Set → Type 0
  Circuit s = is_circuit S.ring S.numbers S.arr s ≡ true

  abbrev pub Dependent : Set → Type 0
  Dependent s = is_dependent S.ring S.numbers S.arr s ≡ true

  -- a set of hyperplanes
  abbrev pub IsSetOf : Set → Type 0
  IsSetOf s = IsSetWithin (n S) s

  -- ---- dependent sets

  pub independent-no : (T : Set) → rk S T ≡ length T → Dependent T → ⊥
  unfolding is_dependent
  independent-no T e d = none _ _ e (ltb-true _ _ d)
    where
      none : (a b : ℕ) → a ≡ b → a < b → ⊥
      none a b e l = omega arith

  less-dependent : (T : Set) → rk S T < length T → Dependent T
  unfolding is_dependent
  less-dependent T l = lt-ltb _ _ l

  pub no-independent : (T : Set) → (Dependent T → ⊥) → rk S T ≡ length T
  no-independent T f = same _ _ (rank-low o T) (λ l. f (less-dependent T l))
    where
      same : (a b : ℕ) → a ≤ b → (a < b → ⊥) → a ≡ b
      same a b l m = omega arith

  part-independent : (t T : Set) → IsSetOf t → IsSetOf T → IsPart t T → rk S T ≡ length T → rk S t ≡ length t
  part-independent t T ht hT p e = independent-part o t T (rises_of t ht.rising) (rises_of T hT.rising) (set-indices arr T hT) p e

  -- the rank does not see where a member stands
  end-rank : (T : Set) (j : ℕ) → rk S (T ++ j ∷ []) ≡ rk S (j ∷ T)
  end-rank T j = rank-cut o (T ++ j ∷ []) (j ∷ T) (cut-same o (T ++ j ∷ []) (j ∷ T) (end_front T j) (front_end T j))

  -- with a member outside its closure an independent set stays independent
  pub end-independent : (T : Set) (j : ℕ) → IsIndex arr j → rk S T ≡ length T → (Contains (cl S T) j → ⊥)
      → rk S (T ++ j ∷ []) ≡ length (T ++ j ∷ [])
  end-independent T j h e f = end-rank T j ∙ rank-adds o T j h f ∙ ap (λ k. suc k) e ∙ sym (end-length T j)

  -- with a member of its closure each set is dependent
  pub end-dependent : (T : Set) (j : ℕ) → Contains (cl S T) j → Dependent (T ++ j ∷ [])
  end-dependent T j c = less-dependent (T ++ j ∷ []) (less _ _ _ _ _ (end-rank T j) (rank-keeps o T j c) (rank-low o T) (end-length T j))
    where
      less : (a b c d e : ℕ) → a ≡ b → b ≡ c → c ≤ d → e ≡ suc d → a < e
      less a b c d e p q l r = omega arith

  -- ---- circuits

  pub circuit-dependent : (D : Set) → Circuit D → Dependent D
  unfolding is_circuit
  circuit-dependent D h = first_true _ _ h

  -- no set properly within a circuit is dependent
  circuit-least : (D t : Set) (d : ℕ) → Circuit D → IsSetOf t → IsPart t D → Contains D d → (Contains t d → ⊥)
      → Dependent t → ⊥
  unfolding is_circuit
  circuit-least D t d h u p c f e =
      let r = set-rises (n S) t u in
      not_both _ ((sets_within-listing (n S)).has (λ s. is_properly_within s D && is_dependent ring numbers arr s) t r.0 r.1 (and_from _ _ (properly t D d p c f) e)) (flip _ (second_true _ _ h))

  circuit-made : (D : Set) → Dependent D
      → ((t : Set) (d : ℕ) → IsSetOf t → IsPart t D → Contains D d → contains t d ≡ false → Dependent t → ⊥)
      → Circuit D
  unfolding is_circuit
  circuit-made D e f = and_from _ _ e (step (list_any test (sets_within (n S))) refl)
    where
      test : Set → Bool
      test s = is_properly_within s D && is_dependent ring numbers arr s

      apart : (t : Set) → IsSetOf t → IsPart t D → not (is_within D t) ≡ true → Dependent t
          → ((k : ℕ) → Contains D k → true ≡ true → contains t k ≡ true) ⊎ ((k : ℕ) × Contains D k × (true ≡ true) × (contains t k ≡ false))
          → ⊥
      apart t u p q d (inl all) = not_both _ q (ap not (members-is_within D t (λ k c. contains-Contains t k (all k c refl))))
      apart t u p q d (inr w) = f t w.0 u p w.1 w.3 d

      step : (b : Bool) → list_any test (sets_within (n S)) ≡ b → not (list_any test (sets_within (n S))) ≡ true
      step false z = ap not z
      step true z =
          let w = (sets_within-listing (n S)).only test z in
          let inside = first_true (is_properly_within w.0 D) (is_dependent ring numbers arr w.0) w.3 in
          absurd (apart w.0 (set-from_rises (n S) w.0 w.1 w.2) (λ i c. is_within-members w.0 D i (first_true (is_within w.0 D) (not (is_within D w.0)) inside) c)
          (second_true (is_within w.0 D) (not (is_within D w.0)) inside) (second_true (is_properly_within w.0 D) (is_dependent ring numbers arr w.0) w.3)
          (decide (λ k. true) (contains w.0) D))

  -- a dependent set within a circuit is all of it
  pub circuit-whole : (D t : Set) → Circuit D → IsSetOf D → IsSetOf t → IsPart t D → Dependent t → t ≡ D
  circuit-whole D t h uD ut p e = set-ext (n S) (n S) t D ut uD p (λ k c. step k c (contains t k) refl)
    where
      step : (k : ℕ) → Contains D k → (b : Bool) → contains t k ≡ b → Contains t k
      step k c true z = contains-Contains t k z
      step k c false z = absurd (circuit-least D t k h ut p c (λ m. not_both _ (Contains-contains t k m) z) e)

  -- ---- the others less one

  -- the set without a member
  abbrev pub less : Set → ℕ → Set
  less T s = without_member T s

  pub in_less : (T : Set) (s t : ℕ) → IsSetOf T → Contains T t → (t ≡ s → ⊥) → Contains (less T s) t
  in_less T s t h c f = members-without T s t (set-within_word S T h) c (λ e. f (sym e))

  -- a member of an independent set is not in the closure of the others
  pub independent-least : (T : Set) (s : ℕ) → IsSetOf T → rk S T ≡ length T → Contains T s
      → Contains (cl S (less T s)) s → ⊥
  independent-least T s u e m c = short _ _ _ _ _ e
      (rank-cut o T (s ∷ less T s) (cut-same o T (s ∷ less T s) (λ k q. front k q (cases_eq k s)) (λ k q. back k (Contains-cases s (less T s) k q))))
      (rank-keeps o (less T s) s c) (rank-low o (less T s))
      (length-is_properly_within (n S) (n S) (less T s) T (without-set (n S) T s u) u (properly (less T s) T s (λ i q. (without-members T s i q).0) m (λ q. (without-members T s s q).1 refl)))
    where
      front : (k : ℕ) → Contains T k → (k ≡ s) ⊎ (k ≡ s → ⊥) → Contains (s ∷ less T s) k
      front k q (inl z) = subst (Contains (s ∷ less T s)) (sym z) (Contains-here s (less T s))
      front k q (inr z) = Contains-later s (less T s) k (in_less T s k u q z)

      back : (k : ℕ) → (s ≡ k) ⊎ Contains (less T s) k → Contains T k
      back k (inl z) = subst (Contains T) z m
      back k (inr q) = (without-members T s k q).0

      short : (a b c d e : ℕ) → a ≡ b → a ≡ c → c ≡ d → d ≤ e → e < b → ⊥
      short a b c d e p q r l m = omega arith

  module _ (T : Set) (j : ℕ) (u : IsSetOf T) (below : AllBelow T j) (h : IsIndex S.arr j) where
    out : Contains T j → ⊥
    out c = none j (below j c)
      where
        none : (j : ℕ) → j < j → ⊥
        none j l = omega arith

    less-set : (s : ℕ) → IsSetOf (less T s)
    less-set s = without-set (n S) T s u

    rest-set : (s : ℕ) → IsSetOf (less T s ++ j ∷ [])
    rest-set s = end-set (n S) (less T s) j (less-set s) (λ k c. below k (without-members T s k c).0) h

    pub circuit-by_closures : rk S T ≡ length T → Contains (cl S T) j
        → ((s : ℕ) → Contains T s → Contains (cl S (less T s)) j → ⊥) → Circuit (T ++ j ∷ [])
    circuit-by_closures e c f = circuit-made (T ++ j ∷ []) (end-dependent T j c) (λ t d ut p m z k. no t d ut p m z k (contains t j) refl)
      where
        no : (t : Set) (d : ℕ) → IsSetOf t → IsPart t (T ++ j ∷ []) → Contains (T ++ j ∷ []) d → contains t d ≡ false
            → Dependent t → (b : Bool) → contains t j ≡ b → ⊥
        no t d ut p m z k false y = independent-no t (part-independent t T ut u (λ i c. inside i c (last-cases T j i (p i c))) e) k
          where
            inside : (i : ℕ) → Contains t i → Contains T i ⊎ (j ≡ i) → Contains T i
            inside i c (inl m) = m
            inside i c (inr q) = absurd (not_both _ (Contains-contains t j (subst (Contains t) (sym q) c)) y)
        no t d ut p m z k true y = finish (last-cases T j d m)
          where
            finish : Contains T d ⊎ (j ≡ d) → ⊥
            finish (inr q) = not_both (contains t d) (ap (contains t) (sym q) ∙ y) z
            finish (inl md) = independent-no t (part-independent t (less T d ++ j ∷ []) ut (rest-set d) (λ i c. inside i c (last-cases T j i (p i c)))
                (end-independent (less T d) j h (part-independent (less T d) T (less-set d) u (λ i c. (without-members T d i c).0) e) (f d md))) k
              where
                inside : (i : ℕ) → Contains t i → Contains T i ⊎ (j ≡ i) → Contains (less T d ++ j ∷ []) i
                inside i c (inr q) = subst (Contains (less T d ++ j ∷ [])) q (end_has (less T d) j)
                inside i c (inl mi) = end_keeps (less T d) j i (in_less T d i u mi (λ q. not_both (contains t d) (ap (contains t) (sym q) ∙ Contains-contains t i c) z))

    pub circuit-independent : Circuit (T ++ j ∷ []) → rk S T ≡ length T
    circuit-independent c = no-independent T (λ d. circuit-least (T ++ j ∷ []) T j c u (λ k m. end_keeps T j k m) (end_has T j) out d)

    pub circuit-closes : Circuit (T ++ j ∷ []) → Contains (cl S T) j
    circuit-closes c = step (in_flat o T j)
      where
        step : Contains (cl S T) j ⊎ (Contains (cl S T) j → ⊥) → Contains (cl S T) j
        step (inl m) = m
        step (inr f) = absurd (independent-no (T ++ j ∷ []) (end-independent T j h (circuit-independent c) f) (circuit-dependent (T ++ j ∷ []) c))

    pub circuit-needs : Circuit (T ++ j ∷ []) → (s : ℕ) → Contains T s → Contains (cl S (less T s)) j → ⊥
    circuit-needs c s m k = circuit-least (T ++ j ∷ []) (less T s ++ j ∷ []) s c (rest-set s) (λ i q. keep i (last-cases (less T s) j i q)) (end_keeps T j s m)
        (λ q. gone (last-cases (less T s) j s q)) (end-dependent (less T s) j k)
      where
        keep : (i : ℕ) → Contains (less T s) i ⊎ (j ≡ i) → Contains (T ++ j ∷ []) i
        keep i (inl q) = end_keeps T j i (without-members T s i q).0
        keep i (inr q) = subst (Contains (T ++ j ∷ [])) q (end_has T j)

        gone : Contains (less T s) s ⊎ (j ≡ s) → ⊥
        gone (inl q) = (without-members T s s q).1 refl
        gone (inr q) = out (subst (Contains T) (sym q) m)
