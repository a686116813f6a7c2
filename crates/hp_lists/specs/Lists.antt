-- Words on lists and numbers.
use Rattle.std.specs.Prelude.{◌≢◌, ◌↔◌, ℕ, zero, suc, Bool, if◌then◌else◌, List, [], ◌∷◌, ◌++◌, map, flat_map, Contains, Option, Some, None}
pub use Rattle.std.specs.List.{range_with_len, list_any, list_all}

-- the numbers 1 to n
abbrev pub one_to : ℕ → List ℕ
one_to n = range_with_len 1 n

-- the numbers 0 to n - 1
abbrev pub below : ℕ → List ℕ
below n = range_with_len 0 n

-- the first of the numbers that passes the test, or else the default
abbrev pub first_of_list : (ℕ → Bool) → ℕ → List ℕ → ℕ
first_of_list test default [] = default
first_of_list test default (x ∷ xs) = if test x then x else first_of_list test default xs

-- the least number below n that passes the test, or else n
abbrev pub first_below : ℕ → (ℕ → Bool) → ℕ
first_below n test = first_of_list test n (below n)

-- the first of the list that is there
abbrev pub first_some : {X : Type 0} → List (Option X) → Option X
first_some [] = None
first_some (None ∷ xs) = first_some xs
first_some (Some x ∷ xs) = Some x

-- all sublists of length n, in lexicographic order of their places
abbrev pub sublists_of_length : {X : Type 0} → ℕ → List X → List (List X)
sublists_of_length zero xs = [] ∷ []
sublists_of_length (suc n) [] = []
sublists_of_length (suc n) (x ∷ xs) = map (λ s. x ∷ s) (sublists_of_length n xs) ++ sublists_of_length (suc n) xs

-- all lists of length n whose members are taken from xs, in lexicographic order
abbrev pub words_over : {X : Type 0} → List X → ℕ → List (List X)
words_over xs zero = [] ∷ []
words_over xs (suc n) = flat_map (λ x. map (λ w. x ∷ w) (words_over xs n)) xs

-- each member is in the relation to every later one
abbrev pub Ordered : {X : Type 0} → (X → X → Type 0) → List X → Type 0
Ordered R [] = Unit {0}
Ordered R (x ∷ xs) = ((y : _) → Contains xs y → R x y) × Ordered R xs

-- the list has each of those for which V holds, once
pub record ListsOnce {X : Type 0} (V : X → Type 0) (xs : List X) : Type 0 where
  pub members : (x : X) → Contains xs x ↔ V x
  pub once : Ordered (λ x y. x ≢ y) xs
