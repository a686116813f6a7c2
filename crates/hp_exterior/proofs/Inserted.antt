-- Rising lists within bounds, which are sets; a list with one more member, and the union of two.
use Rattle.std.specs.Prelude.{◌≡◌, ◌⊎◌, ℕ, ◌<◌, ◌≤◌, ◌==◌, nat_lt, Bool, true, false, cond, [], ◌∷◌, ◌++◌, Contains}
use Rattle.std.proofs.lemmas.Bool.{eqb-true, eqb-false, ltb-true, ltb-false}
use Rattle.std.proofs.lemmas.List.Elements.{Contains-get_or}
use mathlib.Core.Logic.{inl, inr}
use mathlib.Core.Path.{refl, sym, ◌∙◌, subst}
use native.Mathlib.Omega.{arith}
use Rattle.hp_lists.proofs.Members.{Contains-here, Contains-later, Contains-cases, Contains-none}
use Rattle.hp_lists.proofs.Ordered.{Rises, rises_of, increasing_of}
use Rattle.hp_sets.specs.Sets.{Set, IsSetWithin}
use Rattle.hp_sets.proofs.SetLaws.{set_members}

-- a rising list of numbers above a, at most n
abbrev pub Up : ℕ → ℕ → Set → Type 0
Up a n [] = Unit {0}
Up a n (x ∷ s) = (a < x) × (x ≤ n) × Up x n s

pub Up-lower : (a b n : ℕ) (s : Set) → a ≤ b → Up b n s → Up a n s
Up-lower a b n [] l h = tt
Up-lower a b n (x ∷ s) l h = (less a b x l h.0, h.1, h.2)
  where
    less : (a b x : ℕ) → a ≤ b → b < x → a < x
    less a b x l m = omega arith

pub up_members : (a n : ℕ) (s : Set) (k : ℕ) → Up a n s → Contains s k → (a < k) × (k ≤ n)
up_members a n [] k h c = absurd (Contains-none k c)
up_members a n (x ∷ s) k h c = step (Contains-cases x s k c) (λ d. up_members x n s k h.2 d)
  where
    step : (x ≡ k) ⊎ Contains s k → (Contains s k → (x < k) × (k ≤ n)) → (a < k) × (k ≤ n)
    step (inl e) r = (subst (λ z. a < z) e h.0, subst (λ z. z ≤ n) e h.1)
    step (inr d) r = let w = r d in (trans a x k h.0 w.0, w.1)
      where
        trans : (a x k : ℕ) → a < x → x < k → a < k
        trans a x k l m = omega arith

up_rises : (a n : ℕ) (s : Set) → Up a n s → Rises s
up_rises a n [] h = tt
up_rises a n (x ∷ s) h = ((λ k c. (up_members x n s k h.2 c).0), up_rises x n s h.2)

rises_up : (a n : ℕ) (s : Set) → Rises s → ((k : ℕ) → Contains s k → (a < k) × (k ≤ n)) → Up a n s
rises_up a n [] p h = tt
rises_up a n (x ∷ s) p h =
    let w = h x (Contains-here x s) in
    (w.0, w.1, rises_up x n s p.1 (λ k c. (p.0 k c, (h k (Contains-later x s k c)).1)))

-- a set within 1 to n is such a list
pub set_up : (n : ℕ) (s : Set) → IsSetWithin n s → Up 0 n s
set_up n s h = rises_up 0 n s (rises_of s h.rising) (λ k c. set_members n s k h c)

pub up_set : (n : ℕ) (s : Set) → Up 0 n s → IsSetWithin n s
up_set n s h = record {
  rising = increasing_of s (up_rises 0 n s h);
  members = λ i d l. up_members 0 n s _ h (Contains-get_or s i d l);
}

-- s with the member i, and the union of two rising lists
abbrev pub insert : ℕ → Set → Set
insert i [] = i ∷ []
insert i (x ∷ s) = cond (nat_lt i x) (i ∷ x ∷ s) (cond (i == x) (x ∷ s) (x ∷ insert i s))

abbrev pub join : Set → Set → Set
join [] t = t
join (x ∷ s) t = insert x (join s t)

-- ---- their members

swap_two : (x y k : ℕ) (s : Set) → Contains (x ∷ y ∷ s) k → Contains (y ∷ x ∷ s) k
swap_two x y k s c = step (Contains-cases x (y ∷ s) k c)
  where
    at : (z : ℕ) (t : Set) → z ≡ k → Contains (z ∷ t) k
    at z t e = subst (λ w. Contains (z ∷ t) w) e (Contains-here z t)

    inner : (y ≡ k) ⊎ Contains s k → Contains (y ∷ x ∷ s) k
    inner (inl e) = at y (x ∷ s) e
    inner (inr d) = Contains-later y (x ∷ s) k (Contains-later x s k d)

    step : (x ≡ k) ⊎ Contains (y ∷ s) k → Contains (y ∷ x ∷ s) k
    step (inl e) = Contains-later y (x ∷ s) k (at x s e)
    step (inr d) = inner (Contains-cases y s k d)

under : (x k : ℕ) (s t : Set) → (Contains s k → Contains t k) → Contains (x ∷ s) k → Contains (x ∷ t) k
under x k s t f c = step (Contains-cases x s k c)
  where
    step : (x ≡ k) ⊎ Contains s k → Contains (x ∷ t) k
    step (inl e) = subst (λ w. Contains (x ∷ t) w) e (Contains-here x t)
    step (inr d) = Contains-later x t k (f d)

pub insert-members : (i : ℕ) (s : Set) (k : ℕ) → Contains (insert i s) k → Contains (i ∷ s) k
insert-members i [] k c = c
insert-members i (x ∷ s) k c = step (nat_lt i x) (i == x) c (insert-members i s k)
  where
    step : (b d : Bool) → Contains (cond b (i ∷ x ∷ s) (cond d (x ∷ s) (x ∷ insert i s))) k
        → (Contains (insert i s) k → Contains (i ∷ s) k) → Contains (i ∷ x ∷ s) k
    step true d c r = c
    step false true c r = Contains-later i (x ∷ s) k c
    step false false c r = swap_two x i k s (under x k (insert i s) (i ∷ s) r c)

pub members-insert : (i : ℕ) (s : Set) (k : ℕ) → Contains (i ∷ s) k → Contains (insert i s) k
members-insert i [] k c = c
members-insert i (x ∷ s) k c = step (nat_lt i x) (i == x) refl (members-insert i s k)
  where
    same : i ≡ x → (i ≡ k) ⊎ Contains (x ∷ s) k → Contains (x ∷ s) k
    same e (inl d) = subst (λ w. Contains (x ∷ s) w) (sym e ∙ d) (Contains-here x s)
    same e (inr d) = d

    step : (b d : Bool) → (i == x) ≡ d → (Contains (i ∷ s) k → Contains (insert i s) k)
        → Contains (cond b (i ∷ x ∷ s) (cond d (x ∷ s) (x ∷ insert i s))) k
    step true d e r = c
    step false true e r = same (eqb-true i x e) (Contains-cases i (x ∷ s) k c)
    step false false e r = under x k (i ∷ s) (insert i s) r (swap_two i x k s c)

pub insert-up : (i a n : ℕ) (s : Set) → a < i → i ≤ n → Up a n s → Up a n (insert i s)
insert-up i a n [] l m h = (l, m, tt)
insert-up i a n (x ∷ s) l m h = step (nat_lt i x) refl (i == x) refl (λ d. insert-up i x n s d m h.2)
  where
    over : (i x : ℕ) → x ≤ i → (i ≡ x → ⊥) → x < i
    over i x l n = omega arith

    step : (b : Bool) → nat_lt i x ≡ b → (d : Bool) → (i == x) ≡ d → (x < i → Up x n (insert i s))
        → Up a n (cond b (i ∷ x ∷ s) (cond d (x ∷ s) (x ∷ insert i s)))
    step true e d f r = (l, m, (ltb-true i x e, h.1, h.2))
    step false e true f r = h
    step false e false f r = (h.0, h.1, r (over i x (ltb-false i x e) (eqb-false i x f)))

pub join-members : (s t : Set) (k : ℕ) → Contains (join s t) k → Contains (s ++ t) k
join-members [] t k c = c
join-members (x ∷ s) t k c = under x k (join s t) (s ++ t) (λ d. join-members s t k d) (insert-members x (join s t) k c)

pub members-join : (s t : Set) (k : ℕ) → Contains (s ++ t) k → Contains (join s t) k
members-join [] t k c = c
members-join (x ∷ s) t k c = members-insert x (join s t) k (under x k (s ++ t) (join s t) (λ d. members-join s t k d) c)

pub join-up : (a n : ℕ) (s t : Set) → Up a n s → Up 0 n t → Up 0 n (join s t)
join-up a n [] t h k = k
join-up a n (x ∷ s) t h k = insert-up x 0 n (join s t) (positive a x h.0) h.1 (join-up x n s t h.2 k)
  where
    positive : (a x : ℕ) → a < x → 0 < x
    positive a x l = omega arith
