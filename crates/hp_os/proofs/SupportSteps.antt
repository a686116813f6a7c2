-- The steps of the loop that tests whether the sets of an element lie within 1 to n.
use Rattle.std.specs.Prelude.{◌≡◌, ◌↔◌, ℕ, true, List, [], ◌∷◌, length, All}
use Rattle.std.proofs.lemmas.List.Elements.{All-nil, All-cons, All-head, All-tail}
use mathlib.Core.Path.{sym, subst}
use native.Mathlib.Omega.{arith}
use Rattle.hp_lists.specs.Lists.{one_to}
use Rattle.hp_sets.specs.Sets.{Set, IsSetWithin, is_within}
use Rattle.hp_sets.proofs.SetLaws.{contains-Contains, Contains-contains}
use Rattle.hp_sets.proofs.SetMembers.{set-from_members}
use Rattle.hp_sets.proofs.SetWithin.{is_within-members, members-is_within}
use Rattle.hp_matroid.proofs.RisingSets.{set-rises}
use Rattle.hp_arr.proofs.ArrangementMatroids.{ground-index}

pub within-test : (n : ℕ) (s all : Set) → IsSetWithin 64 s → all ≡ one_to n → (is_within s all ≡ true) ↔ IsSetWithin n s
within-test n s all h e = (
  (λ t. set-from_members n s h (λ i c. (ground-index n i (Contains-contains (one_to n) i (is_within-members s (one_to n) i (subst (λ z. is_within s z ≡ true) e t) c))).1)),
  λ p. subst (λ z. is_within s z ≡ true) (sym e)
      (members-is_within s (one_to n) (λ i c. contains-Contains (one_to n) i ((set-rises n s p).1 i (Contains-contains s i c)))),
)

module _ {K : Type 0} (n : ℕ) where
  -- every set of the list lies within 1 to n
  abbrev pub AreWithin : List (Set × K) → Type 0
  AreWithin xs = All (λ t. IsSetWithin n t.0) xs

  pub within-starts : (xs x : List (Set × K)) → xs ≡ x → AreWithin xs ↔ AreWithin x
  within-starts xs x e = (subst AreWithin e, subst AreWithin (sym e))

  pub within-next : (t : Set × K) (xs more x : List (Set × K)) → (AreWithin xs ↔ AreWithin x) → xs ≡ t ∷ more
      → IsSetWithin n t.0
      → AreWithin more ↔ AreWithin x
  within-next t xs more x h e p =
      let P : Set × K → Type 0 = λ u. IsSetWithin n u.0 in (
        (λ a. h.0 (subst AreWithin (sym e) (All-cons P t more p a))),
        λ a. All-tail P t more (subst AreWithin e (h.1 a)),
      )

  pub within-first : (t : Set × K) (xs more x : List (Set × K)) → (AreWithin xs ↔ AreWithin x) → xs ≡ t ∷ more
      → AreWithin x → IsSetWithin n t.0
  within-first t xs more x h e a = All-head (λ (u : Set × K). IsSetWithin n u.0) t more (subst AreWithin e (h.1 a))

  pub within-ends : (xs x : List (Set × K)) → (AreWithin xs ↔ AreWithin x) → length xs ≡ 0 → AreWithin x
  within-ends xs x h e = h.0 (none xs e)
    where
      none : (xs : List (Set × K)) → length xs ≡ 0 → AreWithin xs
      none [] e = All-nil (λ (u : Set × K). IsSetWithin n u.0)
      none (x ∷ xs) e = absurd (omega (arith, e))
