-- A list with one member more, and a list with one member picked out.
use Rattle.std.proofs.Common.{◌≡◌, ◌≢◌, ◌⊎◌, ℕ, zero, suc, ◌≤◌, List, [], ◌∷◌, length, All, Contains, refl, sym, ap, subst, arith, inl, inr}
use Rattle.std.specs.List.{insert}
use Rattle.std.proofs.lemmas.List.Elements.{All-head, All-tail, All-cons}
use Rattle.hp_lists.specs.Lists.{Ordered, ListsOnce}
use Rattle.hp_lists.proofs.Members.{Contains-here, Contains-later, Contains-cases, Contains-none}

-- ---- one member more

module _ {X : Type 0} where
  pub insert-cases : (xs : List X) (i : ℕ) (x z : X) → Contains (insert xs i x) z → (x ≡ z) ⊎ Contains xs z
  insert-cases [] zero x z c = Contains-cases x [] z c
  insert-cases [] (suc i) x z c = Contains-cases x [] z c
  insert-cases (y ∷ xs) zero x z c = Contains-cases x (y ∷ xs) z c
  insert-cases (y ∷ xs) (suc i) x z c = step (insert-cases xs i x z) (Contains-cases y (insert xs i x) z c)
    where
      step : (Contains (insert xs i x) z → (x ≡ z) ⊎ Contains xs z) → (y ≡ z) ⊎ Contains (insert xs i x) z
          → (x ≡ z) ⊎ Contains (y ∷ xs) z
      step ih (inl e) = inr (subst (λ w. Contains (w ∷ xs) z) (sym e) (Contains-here z xs))
      step ih (inr d) = elim (ih d) [ inl e ↦ inl e | inr f ↦ inr (Contains-later y xs z f) ]

  pub insert-here : (xs : List X) (i : ℕ) (x : X) → Contains (insert xs i x) x
  insert-here [] zero x = Contains-here x []
  insert-here [] (suc i) x = Contains-here x []
  insert-here (y ∷ xs) zero x = Contains-here x (y ∷ xs)
  insert-here (y ∷ xs) (suc i) x = Contains-later y (insert xs i x) x (insert-here xs i x)

  pub insert-others : (xs : List X) (i : ℕ) (x z : X) → Contains xs z → Contains (insert xs i x) z
  insert-others [] i x z c = absurd (Contains-none z c)
  insert-others (y ∷ xs) zero x z c = Contains-later x (y ∷ xs) z c
  insert-others (y ∷ xs) (suc i) x z c = step (insert-others xs i x z) (Contains-cases y xs z c)
    where
      step : (Contains xs z → Contains (insert xs i x) z) → (y ≡ z) ⊎ Contains xs z → Contains (y ∷ insert xs i x) z
      step ih (inl e) = subst (λ w. Contains (w ∷ insert xs i x) z) (sym e) (Contains-here z (insert xs i x))
      step ih (inr d) = Contains-later y (insert xs i x) z (ih d)

-- ---- one member picked out

-- one member of a list, and the others in order
pub data Pick {X : Type 0} : List X → X → List X → Type 0 where
  here : (x : X) (xs : List X) → Pick (x ∷ xs) x xs
  later : (y x : X) (xs others : List X) → Pick xs x others → Pick (y ∷ xs) x (y ∷ others)

module _ {X : Type 0} where
  pub pick-length : (xs : List X) (x : X) (others : List X) → Pick xs x others → length xs ≡ suc (length others)
  pick-length _ _ _ (here x xs) = refl
  pick-length _ _ _ (later y x xs others p) = ap (λ n. suc n) (pick-length xs x others p)

  pub pick-All : (P : X → Type 0) (xs : List X) (x : X) (others : List X) → Pick xs x others → All P xs
      → P x × All P others
  pick-All P _ _ _ (here x xs) a = (All-head P x xs a, All-tail P x xs a)
  pick-All P _ _ _ (later y x xs others p) a =
      let r = pick-All P xs x others p (All-tail P y xs a) in
      (r.0, All-cons P y others (All-head P y xs a) r.1)

  pub pick_out : (xs : List X) (x : X) → Contains xs x → (others : List X) × Pick xs x others
  pick_out [] x c = absurd (Contains-none x c)
  pick_out (y ∷ xs) x c = step (Contains-cases y xs x c) (pick_out xs x)
    where
      step : (y ≡ x) ⊎ Contains xs x → (Contains xs x → (others : List X) × Pick xs x others)
          → (others : List X) × Pick (y ∷ xs) x others
      step (inl e) ih = (xs, subst (λ z. Pick (z ∷ xs) x xs) (sym e) (here x xs))
      step (inr d) ih = let w = ih d in (y ∷ w.0, later y x xs w.0 w.1)

  pub pick-others : (xs : List X) (x : X) (others : List X) (z : X) → Pick xs x others → Contains xs z
      → (x ≡ z) ⊎ Contains others z
  pick-others _ _ _ z (here x xs) c = Contains-cases x xs z c
  pick-others _ _ _ z (later y x xs others p) c = step (Contains-cases y xs z c) (pick-others xs x others z p)
    where
      step : (y ≡ z) ⊎ Contains xs z → (Contains xs z → (x ≡ z) ⊎ Contains others z) → (x ≡ z) ⊎ Contains (y ∷ others) z
      step (inl e) ih = inr (subst (λ w. Contains (w ∷ others) z) (sym e) (Contains-here z others))
      step (inr d) ih = elim (ih d) [ inl e ↦ inl e | inr i ↦ inr (Contains-later y others z i) ]

  -- a list without repeats is no longer than one that has its members
  pub once-few : (xs ys : List X) → Ordered (λ x y. x ≢ y) xs → ((z : X) → Contains xs z → Contains ys z)
      → length xs ≤ length ys
  once-few [] ys o h = omega arith
  once-few (x ∷ xs) ys o h =
      let w = pick_out ys x (h x (Contains-here x xs)) in
      let many = pick-length ys x w.0 w.1 in
      let rest = once-few xs w.0 o.1 (λ z c. other w.0 z c (pick-others ys x w.0 z w.1 (h z (Contains-later x xs z c)))) in
      omega (arith, many, rest)
    where
      other : (others : List X) (z : X) → Contains xs z → (x ≡ z) ⊎ Contains others z → Contains others z
      other others z c (inl e) = absurd (o.0 z c e)
      other others z c (inr d) = d

  -- lists that have each of the same once are as long
  pub same-count : (V : X → Type 0) (xs ys : List X) → ListsOnce V xs → ListsOnce V ys → length xs ≡ length ys
  same-count V xs ys p q =
      let low = once-few xs ys p.once (λ z c. (q.members z).1 ((p.members z).0 c)) in
      let high = once-few ys xs q.once (λ z c. (p.members z).1 ((q.members z).0 c)) in
      omega (arith, low, high)
