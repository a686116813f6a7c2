-- Members of lists that are mapped, joined and filtered, and tests on all members.
use Rattle.std.specs.Prelude.{◌≡◌, ℕ, zero, suc, ◌<◌, ◌≤◌, Bool, true, false, cond, ◌&&◌, List, [], ◌∷◌, map, length, filter, flat_map, All, Contains, ◌⊎◌, ◌↔◌, T}
use Rattle.std.specs.List.{list_all}
use Rattle.std.proofs.Common.{get_or}
use Rattle.std.proofs.lemmas.List.{length-map, get_or-map}
use Rattle.std.proofs.lemmas.List.Elements.{Contains-get_or, Contains-append_left, Contains-append_right, Contains-append_cases}
use Rattle.std.proofs.Math.ListN.{get_or-map as read_mapped}
use Rattle.std.proofs.lemmas.Bool.{and_from}
use mathlib.Core.Logic.{inl, inr}
use mathlib.Core.Path.{refl, sym, ap, ◌∙◌, subst}
use native.Mathlib.Omega.{arith}

pub first_true : (a b : Bool) → (a && b) ≡ true → a ≡ true
first_true true b e = refl
first_true false b e = e

pub second_true : (a b : Bool) → (a && b) ≡ true → b ≡ true
second_true true b e = e
second_true false b e = absurd (subst T (sym e) tt)

pub not_both : (b : Bool) → b ≡ true → b ≡ false → ⊥
not_both b p q = subst T (sym p ∙ q) tt

module _ {X : Type 0} where
  pub Contains-here : (x : X) (xs : List X) → Contains (x ∷ xs) x
  Contains-here x xs = (0, omega arith, refl)

  pub Contains-later : (y : X) (xs : List X) (x : X) → Contains xs x → Contains (y ∷ xs) x
  Contains-later y xs x (k, l, e) = (suc k, omega (arith, l), e)

  pub Contains-cases : (y : X) (xs : List X) (x : X) → Contains (y ∷ xs) x → (y ≡ x) ⊎ Contains xs x
  Contains-cases y xs x (zero, l, e) = inl e
  Contains-cases y xs x (suc k, l, e) = inr (k, omega (arith, l), e)

  pub Contains-none : (x : X) → Contains [] x → ⊥
  Contains-none x (k, l, e) = omega (arith, l)

  -- what holds for each member
  pub each-All : (P : X → Type 0) (xs : List X) → ((x : X) → Contains xs x → P x) → All P xs
  each-All P xs h = λ k d l. h _ (Contains-get_or xs k d l)

  -- a filter keeps what passes
  pub Contains-filter : (p : X → Bool) (xs : List X) (x : X) → Contains xs x → p x ≡ true → Contains (filter p xs) x
  Contains-filter p [] x c e = absurd (Contains-none x c)
  Contains-filter p (y ∷ xs) x c e = step (Contains-cases y xs x c) (λ d. Contains-filter p xs x d e)
    where
      more : (b : Bool) (zs : List X) → Contains zs x → Contains (cond b (y ∷ zs) zs) x
      more true zs d = Contains-later y zs x d
      more false zs d = d

      step : (y ≡ x) ⊎ Contains xs x → (Contains xs x → Contains (filter p xs) x) → Contains (filter p (y ∷ xs)) x
      step (inl q) ih =
          subst (λ b. Contains (cond b (y ∷ filter p xs) (filter p xs)) x) (sym (ap p q ∙ e))
          (subst (λ z. Contains (z ∷ filter p xs) x) (sym q) (Contains-here x (filter p xs)))
      step (inr d) ih = more (p y) (filter p xs) (ih d)

  pub filter-Contains : (p : X → Bool) (xs : List X) (x : X) → Contains (filter p xs) x → Contains xs x × (p x ≡ true)
  filter-Contains p [] x c = absurd (Contains-none x c)
  filter-Contains p (y ∷ xs) x c = step (p y) refl c (filter-Contains p xs x)
    where
      step : (b : Bool) → p y ≡ b → Contains (cond b (y ∷ filter p xs) (filter p xs)) x
          → (Contains (filter p xs) x → Contains xs x × (p x ≡ true)) → Contains (y ∷ xs) x × (p x ≡ true)
      step false e d ih = (Contains-later y xs x (ih d).0, (ih d).1)
      step true e d ih = here (Contains-cases y (filter p xs) x d)
        where
          here : (y ≡ x) ⊎ Contains (filter p xs) x → Contains (y ∷ xs) x × (p x ≡ true)
          here (inl q) = (subst (λ z. Contains (z ∷ xs) x) (sym q) (Contains-here x xs), ap p (sym q) ∙ e)
          here (inr f) = (Contains-later y xs x (ih f).0, (ih f).1)

  -- a test that all members pass, and what says so
  pub all-at : (p : X → Bool) (xs : List X) (x : X) → list_all p xs ≡ true → Contains xs x → p x ≡ true
  all-at p [] x h c = absurd (Contains-none x c)
  all-at p (y ∷ xs) x h c = step (Contains-cases y xs x c) (all-at p xs x (second_true (p y) (list_all p xs) h))
    where
      step : (y ≡ x) ⊎ Contains xs x → (Contains xs x → p x ≡ true) → p x ≡ true
      step (inl q) ih = ap p (sym q) ∙ first_true (p y) (list_all p xs) h
      step (inr d) ih = ih d

  pub all-from : (p : X → Bool) (xs : List X) → ((x : X) → Contains xs x → p x ≡ true) → list_all p xs ≡ true
  all-from p [] h = refl
  all-from p (y ∷ xs) h = and_from _ _ (h y (Contains-here y xs)) (all-from p xs (λ x c. h x (Contains-later y xs x c)))

  -- all members that pass p pass q
  abbrev pub EachPasses : (X → Bool) → (X → Bool) → List X → Type 0
  EachPasses p q xs = (x : X) → Contains xs x → p x ≡ true → q x ≡ true

  -- some member passes p and not q
  abbrev pub SomeFails : (X → Bool) → (X → Bool) → List X → Type 0
  SomeFails p q xs = (x : X) × Contains xs x × (p x ≡ true) × (q x ≡ false)

  pub decide : (p q : X → Bool) (xs : List X) → EachPasses p q xs ⊎ SomeFails p q xs
  decide p q [] = inl (λ x c. absurd (Contains-none x c))
  decide p q (y ∷ xs) = step (p y) (q y) refl refl (decide p q xs)
    where
      join : (p y ≡ true → q y ≡ true) → EachPasses p q xs → EachPasses p q (y ∷ xs)
      join f g x c e = here (Contains-cases y xs x c)
        where
          here : (y ≡ x) ⊎ Contains xs x → q x ≡ true
          here (inl r) = ap q (sym r) ∙ f (ap p r ∙ e)
          here (inr d) = g x d e

      step : (a b : Bool) → p y ≡ a → q y ≡ b → EachPasses p q xs ⊎ SomeFails p q xs
          → EachPasses p q (y ∷ xs) ⊎ SomeFails p q (y ∷ xs)
      step a b e f (inr w) = inr (w.0, Contains-later y xs w.0 w.1, w.2, w.3)
      step true true e f (inl g) = inl (join (λ r. f) g)
      step true false e f (inl g) = inr (y, Contains-here y xs, e, f)
      step false b e f (inl g) = inl (join (λ r. absurd (not_both (p y) r e)) g)

module _ {X Y : Type 0} where
  -- an entry of a mapped list, where no member is at hand as a default
  pub get_or-mapped : (f : X → Y) (xs : List X) (k : ℕ) (y e : Y) → k < length xs
      → ((d : X) → f (get_or xs k d) ≡ y) → get_or (map f xs) k e ≡ y
  get_or-mapped f [] k y e l h = absurd (omega arith)
  get_or-mapped f (x ∷ xs) k y e l h = get_or-map f (x ∷ xs) k x e l ∙ h x

  pub Contains-map : (f : X → Y) (xs : List X) (x : X) → Contains xs x → Contains (map f xs) (f x)
  Contains-map f xs x c = (c.0, subst (λ n. c.0 < n) (sym (length-map xs f)) c.1, read_mapped f xs c.0 x ∙ ap f c.2)

  pub map-Contains : (f : X → Y) (xs : List X) (y : Y) → Contains (map f xs) y → (x : X) × Contains xs x × (f x ≡ y)
  map-Contains f [] y c = absurd (Contains-none y c)
  map-Contains f (z ∷ xs) y c = step (map-Contains f xs y) (Contains-cases (f z) (map f xs) y c)
    where
      step : (Contains (map f xs) y → (x : X) × Contains xs x × (f x ≡ y))
          → (f z ≡ y) ⊎ Contains (map f xs) y → (x : X) × Contains (z ∷ xs) x × (f x ≡ y)
      step ih (inl e) = (z, Contains-here z xs, e)
      step ih (inr d) = ((ih d).0, Contains-later z xs (ih d).0 (ih d).1, (ih d).2)

  pub Contains-flat_map : (g : X → List Y) (xs : List X) (x : X) (y : Y)
      → Contains xs x → Contains (g x) y → Contains (flat_map g xs) y
  Contains-flat_map g [] x y c d = absurd (Contains-none x c)
  Contains-flat_map g (z ∷ xs) x y c d = step (Contains-cases z xs x c) (λ r. Contains-flat_map g xs x y r d)
    where
      step : (z ≡ x) ⊎ Contains xs x → (Contains xs x → Contains (flat_map g xs) y) → Contains (flat_map g (z ∷ xs)) y
      step (inl e) ih = Contains-append_left (g z) (flat_map g xs) y (subst (λ w. Contains (g w) y) (sym e) d)
      step (inr r) ih = Contains-append_right (g z) (flat_map g xs) y (ih r)

  pub flat_map-Contains : (g : X → List Y) (xs : List X) (y : Y)
      → Contains (flat_map g xs) y → (x : X) × Contains xs x × Contains (g x) y
  flat_map-Contains g [] y c = absurd (Contains-none y c)
  flat_map-Contains g (z ∷ xs) y c = step (flat_map-Contains g xs y) (Contains-append_cases (g z) (flat_map g xs) y c)
    where
      step : (Contains (flat_map g xs) y → (x : X) × Contains xs x × Contains (g x) y)
          → Contains (g z) y ⊎ Contains (flat_map g xs) y → (x : X) × Contains (z ∷ xs) x × Contains (g x) y
      step ih (inl d) = (z, Contains-here z xs, d)
      step ih (inr d) = ((ih d).0, Contains-later z xs (ih d).0 (ih d).1, (ih d).2)

module _ {X : Type 0} where
  -- tests that agree on the members filter alike
  pub filter-ext : (p q : X → Bool) (xs : List X) → ((x : X) → Contains xs x → p x ≡ q x) → filter p xs ≡ filter q xs
  filter-ext p q [] h = refl
  filter-ext p q (x ∷ xs) h =
      let e = h x (Contains-here x xs) in
      let r = filter-ext p q xs (λ y c. h y (Contains-later x xs y c)) in
      λ i. cond (e i) (x ∷ r i) (r i)

  -- a list that passes a stronger test is no longer
  pub filter-shorter : (f g : X → Bool) (xs : List X) → ((x : X) → g x ≡ true → f x ≡ true)
      → length (filter g xs) ≤ length (filter f xs)
  filter-shorter f g [] h = omega arith
  filter-shorter f g (x ∷ xs) h = pick (f x) (g x) refl refl (filter-shorter f g xs h)
    where
      pick : (a b : Bool) → f x ≡ a → g x ≡ b → length (filter g xs) ≤ length (filter f xs)
          → length (cond b (x ∷ filter g xs) (filter g xs)) ≤ length (cond a (x ∷ filter f xs) (filter f xs))
      pick true true d e r = omega arith
      pick true false d e r = omega arith
      pick false false d e r = r
      pick false true d e r = absurd (not_both (f x) (h x e) d)

-- two answers that say the same are equal
pub same_test : {P : Type 0} (a b : Bool) → ((a ≡ true) ↔ P) → ((b ≡ true) ↔ P) → a ≡ b
same_test true b p q = sym (q.1 (p.0 refl))
same_test false true p q = p.1 (q.0 refl)
same_test false false p q = refl
