-- The members of unions, meets, differences and of sets with one member more or less.
use Rattle.std.specs.Prelude.{◌≡◌, ℕ, ◌≤◌, Bool, true, false, not, ◌&&◌, ◌||◌, [], ◌∷◌, Contains, ◌⊎◌}
use Rattle.std.proofs.lemmas.List.Elements.{Contains-get_or}
use Rattle.std.proofs.lemmas.Bool.{and_from, or_cases, or_left, or_right}
use mathlib.Core.Logic.{inl, inr}
use mathlib.Core.Path.{refl, sym, subst}
use Rattle.hp_lists.proofs.Members.{first_true, second_true, not_both, Contains-here, Contains-cases, Contains-none, Contains-later}
use Rattle.hp_sets.specs.Sets.{Set, IsSetWithin, contains, union, meet, minus, with_member, without_member}
use Rattle.hp_sets.proofs.SetLaws.{contains-Contains, Contains-contains, set_members, those-set, those-members}

not_true : (b : Bool) → not b ≡ true → b ≡ false
not_true true e = sym e
not_true false e = refl

not_false : (b : Bool) → (b ≡ true → ⊥) → not b ≡ true
not_false true n = absurd (n refl)
not_false false n = refl

pub union-members : (s t : Set) (i : ℕ) → Contains (union s t) i → Contains s i ⊎ Contains t i
union-members s t i c = step (or_cases _ _ ((those-members (λ i. contains s i || contains t i) i).0 c).1)
  where
    step : (contains s i ≡ true) ⊎ (contains t i ≡ true) → Contains s i ⊎ Contains t i
    step (inl e) = inl (contains-Contains s i e)
    step (inr e) = inr (contains-Contains t i e)

pub members-union_left : (s t : Set) (i : ℕ) → IsSetWithin 64 s → Contains s i → Contains (union s t) i
members-union_left s t i h c = (those-members (λ i. contains s i || contains t i) i).1 (set_members 64 s i h c, or_left _ _ (Contains-contains s i c))

pub members-union_right : (s t : Set) (i : ℕ) → IsSetWithin 64 t → Contains t i → Contains (union s t) i
members-union_right s t i h c = (those-members (λ i. contains s i || contains t i) i).1 (set_members 64 t i h c, or_right _ _ (Contains-contains t i c))

pub meet-members : (s t : Set) (i : ℕ) → Contains (meet s t) i → Contains s i × Contains t i
meet-members s t i c =
    let e = ((those-members (λ i. contains s i && contains t i) i).0 c).1 in
    (contains-Contains s i (first_true _ _ e), contains-Contains t i (second_true _ _ e))

pub members-meet : (s t : Set) (i : ℕ) → IsSetWithin 64 s → Contains s i → Contains t i → Contains (meet s t) i
members-meet s t i h c d = (those-members (λ i. contains s i && contains t i) i).1 (set_members 64 s i h c, and_from _ _ (Contains-contains s i c) (Contains-contains t i d))

pub minus-members : (s t : Set) (i : ℕ) → Contains (minus s t) i → Contains s i × (Contains t i → ⊥)
minus-members s t i c =
    let e = ((those-members (λ i. contains s i && not (contains t i)) i).0 c).1 in
    (contains-Contains s i (first_true _ _ e), λ d. not_both _ (Contains-contains t i d) (not_true _ (second_true _ _ e)))

pub members-minus : (s t : Set) (i : ℕ) → IsSetWithin 64 s → Contains s i → (Contains t i → ⊥) → Contains (minus s t) i
members-minus s t i h c n =
    (those-members (λ i. contains s i && not (contains t i)) i).1
    (set_members 64 s i h c, and_from _ _ (Contains-contains s i c) (not_false _ (λ e. n (contains-Contains t i e))))

-- one member more
pub with-members : (s : Set) (j i : ℕ) → Contains (with_member s j) i → Contains (j ∷ s) i
with-members s j i c = step (union-members s (j ∷ []) i c)
  where
    step : Contains s i ⊎ Contains (j ∷ []) i → Contains (j ∷ s) i
    step (inl d) = Contains-later j s i d
    step (inr d) = one (Contains-cases j [] i d)
      where
        one : (j ≡ i) ⊎ Contains [] i → Contains (j ∷ s) i
        one (inl e) = subst (λ z. Contains (z ∷ s) i) (sym e) (Contains-here i s)
        one (inr n) = absurd (Contains-none i n)

pub members-with : (s : Set) (j i : ℕ) → IsSetWithin 64 s → (1 ≤ j) × (j ≤ 64) → Contains (j ∷ s) i → Contains (with_member s j) i
members-with s j i h r c = step (Contains-cases j s i c)
  where
    step : (j ≡ i) ⊎ Contains s i → Contains (with_member s j) i
    step (inr d) = members-union_left s (j ∷ []) i h d
    step (inl e) = (those-members (λ i. contains s i || contains (j ∷ []) i) i).1 (subst (λ z. (1 ≤ z) × (z ≤ 64)) e r, or_right _ _ (Contains-contains (j ∷ []) i (subst (λ z. Contains (z ∷ []) i) (sym e) (Contains-here i []))))

-- one member less
pub without-members : (s : Set) (j i : ℕ) → Contains (without_member s j) i → Contains s i × (j ≡ i → ⊥)
without-members s j i c =
    let d = minus-members s (j ∷ []) i c in
    (d.0, λ e. d.1 (subst (λ z. Contains (z ∷ []) i) (sym e) (Contains-here i [])))

pub members-without : (s : Set) (j i : ℕ) → IsSetWithin 64 s → Contains s i → (j ≡ i → ⊥) → Contains (without_member s j) i
members-without s j i h c n = members-minus s (j ∷ []) i h c (λ d. one (Contains-cases j [] i d))
  where
    one : (j ≡ i) ⊎ Contains [] i → ⊥
    one (inl e) = n e
    one (inr d) = Contains-none i d

-- these are sets within as many numbers as the two that they are made of
pub set-from_members : (m : ℕ) (s : Set) → IsSetWithin 64 s → ((i : ℕ) → Contains s i → i ≤ m) → IsSetWithin m s
set-from_members m s h f = record { rising = h.rising; members = λ k d l. ((h.members k d l).0, f _ (Contains-get_or s k d l)) }

pub union-set : (m : ℕ) (s t : Set) → IsSetWithin m s → IsSetWithin m t → IsSetWithin m (union s t)
union-set m s t p q = set-from_members m _ (those-set _) (λ i c. step i (union-members s t i c))
  where
    step : (i : ℕ) → Contains s i ⊎ Contains t i → i ≤ m
    step i (inl d) = (set_members m s i p d).1
    step i (inr d) = (set_members m t i q d).1

pub meet-set : (m : ℕ) (s t : Set) → IsSetWithin m s → IsSetWithin m (meet s t)
meet-set m s t p = set-from_members m _ (those-set _) (λ i c. (set_members m s i p (meet-members s t i c).0).1)

pub minus-set : (m : ℕ) (s t : Set) → IsSetWithin m s → IsSetWithin m (minus s t)
minus-set m s t p = set-from_members m _ (those-set _) (λ i c. (set_members m s i p (minus-members s t i c).0).1)

pub with-set : (m : ℕ) (s : Set) (j : ℕ) → IsSetWithin m s → j ≤ m → IsSetWithin m (with_member s j)
with-set m s j p l = set-from_members m _ (those-set _) (λ i c. step i (Contains-cases j s i (with-members s j i c)))
  where
    step : (i : ℕ) → (j ≡ i) ⊎ Contains s i → i ≤ m
    step i (inl e) = subst (λ z. z ≤ m) e l
    step i (inr d) = (set_members m s i p d).1

pub without-set : (m : ℕ) (s : Set) (j : ℕ) → IsSetWithin m s → IsSetWithin m (without_member s j)
without-set m s j p = minus-set m s (j ∷ []) p
