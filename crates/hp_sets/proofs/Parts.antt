-- When each member of one list of numbers is a member of another: lists joined, with one member more, and in another order.
use Rattle.std.specs.Prelude.{◌≡◌, ℕ, ◌∷◌, ◌++◌, Contains, ◌⊎◌}
use Rattle.std.proofs.lemmas.List.Elements.{Contains-append_left, Contains-append_right, Contains-append_cases}
use mathlib.Core.Logic.{inl, inr}
use mathlib.Core.Path.{sym, subst}
use Rattle.hp_lists.proofs.Members.{Contains-here, Contains-later, Contains-cases}
use Rattle.hp_sets.specs.Sets.{Set}

-- each member of s is one of t
abbrev pub IsPart : Set → Set → Type 0
IsPart s t = (i : ℕ) → Contains s i → Contains t i

pub part-more : (j : ℕ) (s t : Set) → IsPart s t → IsPart (j ∷ s) (j ∷ t)
part-more j s t p i c = step (Contains-cases j s i c)
  where
    step : (j ≡ i) ⊎ Contains s i → Contains (j ∷ t) i
    step (inl e) = subst (λ z. Contains (z ∷ t) i) (sym e) (Contains-here i t)
    step (inr d) = Contains-later j t i (p i d)

pub part-join : (s t u : Set) → IsPart s u → IsPart t u → IsPart (s ++ t) u
part-join s t u p q j c = step (Contains-append_cases s t j c)
  where
    step : Contains s j ⊎ Contains t j → Contains u j
    step (inl d) = p j d
    step (inr d) = q j d

pub part-behind : (u s t : Set) → IsPart s t → IsPart (u ++ s) (u ++ t)
part-behind u s t p i c = step (Contains-append_cases u s i c)
  where
    step : Contains u i ⊎ Contains s i → Contains (u ++ t) i
    step (inl d) = Contains-append_left u t i d
    step (inr d) = Contains-append_right u t i (p i d)

-- the first two members change places
pub part-turn : (a b : ℕ) (s : Set) → IsPart (a ∷ b ∷ s) (b ∷ a ∷ s)
part-turn a b s k d = first (Contains-cases a (b ∷ s) k d)
  where
    second : (b ≡ k) ⊎ Contains s k → Contains (b ∷ a ∷ s) k
    second (inl e) = subst (λ z. Contains (z ∷ a ∷ s) k) (sym e) (Contains-here k (a ∷ s))
    second (inr f) = Contains-later b (a ∷ s) k (Contains-later a s k f)

    first : (a ≡ k) ⊎ Contains (b ∷ s) k → Contains (b ∷ a ∷ s) k
    first (inl e) = Contains-later b (a ∷ s) k (subst (λ z. Contains (z ∷ s) k) (sym e) (Contains-here k s))
    first (inr f) = second (Contains-cases b s k f)
