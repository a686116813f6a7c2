-- Lists with no member twice, and the member at a list's end.
use Rattle.std.proofs.Common.{◌≡◌, ◌≢◌, ◌⊎◌, List, [], ◌∷◌, ◌++◌, Contains, sym, ap, subst, ◌∙◌, inl, inr}
use Rattle.std.specs.declared.cmp.Ordering.{Ordering}
use Rattle.std.specs.declared.cmp.Ordering.TheVariants.{Less, Equal}
use Rattle.std.specs.Cmp.{IsTotalOrder}
use Rattle.std.specs.List.Sorted.{IsStrictlySortedBy}
use Rattle.std.proofs.lemmas.Cmp.{tied_itself}
use Rattle.std.proofs.lemmas.List.Elements.{Contains-append_left, Contains-append_right, Contains-append_cases}
use Rattle.hp_lists.specs.Lists.{Ordered}
use Rattle.hp_lists.proofs.Members.{Contains-here, Contains-cases, Contains-none}
use Rattle.hp_lists.proofs.Ordered.{Ordered-push, ordered_of}

-- no member twice
abbrev pub Distinct : {X : Type 0} → List X → Type 0
Distinct xs = Ordered (λ x y. x ≢ y) xs

module _ {X : Type 0} where
  -- the members of a list with one more at its end
  pub last-cases : (xs : List X) (y x : X) → Contains (xs ++ y ∷ []) x → Contains xs x ⊎ (y ≡ x)
  last-cases xs y x c = pick (Contains-append_cases xs (y ∷ []) x c)
    where
      only : (y ≡ x) ⊎ Contains [] x → Contains xs x ⊎ (y ≡ x)
      only (inl e) = inr e
      only (inr d) = absurd (Contains-none x d)

      pick : Contains xs x ⊎ Contains (y ∷ []) x → Contains xs x ⊎ (y ≡ x)
      pick (inl d) = inl d
      pick (inr d) = only (Contains-cases y [] x d)

  pub last-Contains : (xs : List X) (y x : X) → Contains xs x ⊎ (y ≡ x) → Contains (xs ++ y ∷ []) x
  last-Contains xs y x (inl c) = Contains-append_left xs (y ∷ []) x c
  last-Contains xs y x (inr e) = subst (Contains (xs ++ y ∷ [])) e (Contains-append_right xs (y ∷ []) y (Contains-here y []))

  -- one more member at the end
  pub distinct-last : (xs : List X) (y : X) → Distinct xs → ((x : X) → Contains xs x → x ≢ y) → Distinct (xs ++ y ∷ [])
  distinct-last xs y p h = Ordered-push (λ x y. x ≢ y) xs y p h

  -- a list in strict order has different members
  pub sorted-distinct : (cmp : X → X → Ordering) → IsTotalOrder cmp → (xs : List X) → IsStrictlySortedBy cmp xs
      → Distinct xs
  sorted-distinct cmp o xs h = weaker xs (ordered_of cmp xs h)
    where
      apart : (x y : X) → cmp x y ≡ Less → x ≢ y
      apart x y l e = clash (sym (tied_itself o x) ∙ ap (cmp x) e ∙ l)
        where
          clash : Equal ≡ Less → ⊥
          clash e = cc

      weaker : (xs : List X) → Ordered (λ x y. cmp x y ≡ Less) xs → Distinct xs
      weaker [] p = tt
      weaker (x ∷ xs) p = ((λ y c. apart x y (p.0 y c)), weaker xs p.1)
