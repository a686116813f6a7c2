-- Lists without the member at one place, and lists that functions make.
use Rattle.std.proofs.Common.{◌≡◌, ◌⊎◌, ℕ, zero, suc, List, [], ◌∷◌, map, slice_index_or, remove, Contains, refl, ap, subst, inl, inr}
use Rattle.hp_lists.proofs.Members.{Contains-here, Contains-later, Contains-cases}

-- a member is the one at a place or another
pub remove-cases : {X : Type 0} (q : ℕ) (xs : List X) (d x : X) → Contains xs x
    → (slice_index_or xs q d ≡ x) ⊎ Contains (remove xs q) x
remove-cases zero [] d x c = inr c
remove-cases (suc q) [] d x c = inr c
remove-cases zero (y ∷ xs) d x c = Contains-cases y xs x c
remove-cases (suc q) (y ∷ xs) d x c = pick (Contains-cases y xs x c) (λ m. remove-cases q xs d x m)
  where
    pick : (y ≡ x) ⊎ Contains xs x → (Contains xs x → (slice_index_or xs q d ≡ x) ⊎ Contains (remove xs q) x)
        → (slice_index_or xs q d ≡ x) ⊎ Contains (y ∷ remove xs q) x
    pick (inl e) rest = inr (subst (Contains (y ∷ remove xs q)) e (Contains-here y (remove xs q)))
    pick (inr m) rest = later (rest m)
      where
        later : (slice_index_or xs q d ≡ x) ⊎ Contains (remove xs q) x
            → (slice_index_or xs q d ≡ x) ⊎ Contains (y ∷ remove xs q) x
        later (inl e) = inl e
        later (inr n) = inr (Contains-later y (remove xs q) x n)

pub remove-Contains : {X : Type 0} (q : ℕ) (xs : List X) (x : X) → Contains (remove xs q) x → Contains xs x
remove-Contains zero [] x c = c
remove-Contains (suc q) [] x c = c
remove-Contains zero (y ∷ xs) x c = Contains-later y xs x c
remove-Contains (suc q) (y ∷ xs) x c = pick (Contains-cases y (remove xs q) x c) (λ m. remove-Contains q xs x m)
  where
    pick : (y ≡ x) ⊎ Contains (remove xs q) x → (Contains (remove xs q) x → Contains xs x) → Contains (y ∷ xs) x
    pick (inl e) rest = subst (Contains (y ∷ xs)) e (Contains-here y xs)
    pick (inr m) rest = Contains-later y xs x (rest m)

-- the rest of a list that a function makes
pub remove-map : {X Y : Type 0} (f : X → Y) (q : ℕ) (xs : List X) → remove (map f xs) q ≡ map f (remove xs q)
remove-map f zero [] = refl
remove-map f (suc q) [] = refl
remove-map f zero (x ∷ xs) = refl
remove-map f (suc q) (x ∷ xs) = ap (λ ys. f x ∷ ys) (remove-map f q xs)

-- a list that a function makes of one that a function makes
pub map-same : {X Y Z : Type 0} (f : Y → Z) (g : X → Y) (h : X → Z) (xs : List X)
    → ((x : X) → Contains xs x → f (g x) ≡ h x) → map f (map g xs) ≡ map h xs
map-same f g h [] e = refl
map-same f g h (x ∷ xs) e =
    let p = e x (Contains-here x xs) in
    let q = map-same f g h xs (λ y c. e y (Contains-later x xs y c)) in
    λ i. p i ∷ q i
