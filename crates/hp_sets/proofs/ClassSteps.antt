-- A set that takes up those of the numbers below a bound that have a property.
use Rattle.std.proofs.Common.{◌≡◌, ◌⊎◌, ◌↔◌, ℕ, ◌+◌, ◌<◌, ◌≤◌, Bool, true, false, if◌then◌else◌, nat_lt, ◌∷◌, Contains, refl, sym, subst, arith, inl, inr}
use Rattle.std.proofs.lemmas.Bool.{ltb-true, ltb-false}
use Rattle.hp_lists.proofs.Members.{Contains-here, Contains-later, Contains-cases, not_both}
use Rattle.hp_sets.specs.Sets.{Set, IsSetWithin, with_member}
use Rattle.hp_sets.proofs.SetMembers.{with-members, members-with, with-set}

-- the members of `first`, and those with the property below k
abbrev pub TakesUp : Set → (ℕ → Type 0) → ℕ → Set → Type 0
TakesUp first P k found = (m : ℕ) → Contains found m ↔ (Contains first m ⊎ (P m × (m < k)))

module _ (first : Set) (P : ℕ → Type 0) where
  pub takes-none : (k : ℕ) → ((m : ℕ) → P m → m < k → ⊥) → TakesUp first P k first
  takes-none k h m = ((λ c. inl c), λ c. pick c)
    where
      pick : Contains first m ⊎ (P m × (m < k)) → Contains first m
      pick (inl c) = c
      pick (inr w) = absurd (h m w.0 w.1)

  module _ (k : ℕ) (found : Set) (is : IsSetWithin 64 found) (low : 1 ≤ k) (high : k ≤ 64) (takes : TakesUp first P k found) where
    up : (m : ℕ) → Contains first m ⊎ (P m × (m < k)) → Contains first m ⊎ (P m × (m < k + 1))
    up m (inl c) = inl c
    up m (inr w) = inr (w.0, omega (arith, w.1))

    last : (m : ℕ) → m < k + 1 → (b : Bool) → nat_lt m k ≡ b → (m < k) ⊎ (k ≡ m)
    last m l true e = inl (ltb-true m k e)
    last m l false e = let h = ltb-false m k e in inr (omega (arith, l, h))

    -- one number more
    pub takes-step : (b : Bool) → (b ≡ true) ↔ P k → TakesUp first P (k + 1) (if b then with_member found k else found)
    takes-step true h m = ((λ c. forth (Contains-cases k found m (with-members found k m c))), λ c. members-with found k m is (low, high) (back c))
      where
        forth : (k ≡ m) ⊎ Contains found m → Contains first m ⊎ (P m × (m < k + 1))
        forth (inl e) = inr (subst P e (h.0 refl), omega (arith, e))
        forth (inr c) = up m ((takes m).0 c)

        near : P m → (m < k) ⊎ (k ≡ m) → Contains (k ∷ found) m
        near p (inl l) = Contains-later k found m ((takes m).1 (inr (p, l)))
        near p (inr e) = subst (Contains (k ∷ found)) e (Contains-here k found)

        back : Contains first m ⊎ (P m × (m < k + 1)) → Contains (k ∷ found) m
        back (inl c) = Contains-later k found m ((takes m).1 (inl c))
        back (inr w) = near w.0 (last m w.1 (nat_lt m k) refl)
    takes-step false h m = ((λ c. up m ((takes m).0 c)), back)
      where
        near : P m → (m < k) ⊎ (k ≡ m) → Contains found m
        near p (inl l) = (takes m).1 (inr (p, l))
        near p (inr e) = absurd (not_both false (h.1 (subst P (sym e) p)) refl)

        back : Contains first m ⊎ (P m × (m < k + 1)) → Contains found m
        back (inl c) = (takes m).1 (inl c)
        back (inr w) = near w.0 (last m w.1 (nat_lt m k) refl)

  pub takes-all : (k : ℕ) (found : Set) → ((m : ℕ) → P m → m < k) → TakesUp first P k found → (m : ℕ)
      → Contains found m ↔ (Contains first m ⊎ P m)
  takes-all k found h takes m = ((λ c. forth ((takes m).0 c)), λ c. (takes m).1 (back c))
    where
      forth : Contains first m ⊎ (P m × (m < k)) → Contains first m ⊎ P m
      forth (inl c) = inl c
      forth (inr w) = inr w.0

      back : Contains first m ⊎ P m → Contains first m ⊎ (P m × (m < k))
      back (inl c) = inl c
      back (inr p) = inr (p, h m p)

pub takes-set : (n k : ℕ) (found : Set) (b : Bool) → IsSetWithin n found → k ≤ n
    → IsSetWithin n (if b then with_member found k else found)
takes-set n k found true is l = with-set n found k is l
takes-set n k found false is l = is
