-- Lists in which each member is in a relation to every later one.
use Rattle.std.specs.Prelude.{◌≡◌, ℕ, zero, suc, ◌+◌, ◌<◌, ◌≤◌, Bool, true, false, cond, List, [], ◌∷◌, ◌++◌, map, flat_map, length, filter, Contains, ◌⊎◌, ◌↔◌}
use Rattle.std.specs.List.{AllPairs, insert}
use Rattle.std.specs.List.Sorted.{IsStrictlyIncreasing, IsStrictlySortedBy}
use Rattle.std.specs.declared.cmp.Ordering.{Ordering}
use Rattle.std.specs.declared.cmp.Ordering.TheVariants.{Less, Greater}
use Rattle.std.specs.Ordering.{ordering_reverse}
use Rattle.std.specs.Cmp.{IsTotalOrder}
use Rattle.std.proofs.Common.{get_or}
use Rattle.std.proofs.lemmas.List.{get_or_default}
use Rattle.std.proofs.lemmas.List.Elements.{All-contains, All-from_recursion, recursion_from_All, Contains-append_cases, Contains-get_or}
use Rattle.std.proofs.lemmas.List.Kept.{AllPairs-from_increasing}
use mathlib.Core.Logic.{inl, inr}
use mathlib.Core.Path.{refl, sym, ap, ◌∙◌, subst}
use native.Mathlib.Omega.{arith}
use Rattle.hp_lists.specs.Lists.{Ordered}
use Rattle.hp_lists.proofs.Members.{Contains-here, Contains-later, Contains-cases, Contains-none, filter-Contains, map-Contains, flat_map-Contains}
use Rattle.hp_lists.proofs.Insertions.{insert-cases}

-- another relation that follows among the members
pub Ordered-weaker : {X : Type 0} (R S : X → X → Type 0) (xs : List X)
    → ((x y : X) → Contains xs x → Contains xs y → R x y → S x y) → Ordered R xs → Ordered S xs
Ordered-weaker R S [] h o = tt
Ordered-weaker R S (x ∷ xs) h o = (
  λ y c. h x y (Contains-here x xs) (Contains-later x xs y c) (o.0 y c),
  Ordered-weaker R S xs (λ y z c d. h y z (Contains-later x xs y c) (Contains-later x xs z d)) o.1,
)

module _ {X : Type 0} (R : X → X → Type 0) where
  pub Ordered-append : (xs ys : List X) → Ordered R xs → Ordered R ys
      → ((x y : X) → Contains xs x → Contains ys y → R x y) → Ordered R (xs ++ ys)
  Ordered-append [] ys p q h = q
  Ordered-append (x ∷ xs) ys p q h =
      ((λ y c. join y (Contains-append_cases xs ys y c)), Ordered-append xs ys p.1 q (λ z y c d. h z y (Contains-later x xs z c) d))
    where
      join : (y : X) → Contains xs y ⊎ Contains ys y → R x y
      join y (inl c) = p.0 y c
      join y (inr d) = h x y (Contains-here x xs) d

  -- one more member at the end
  pub Ordered-push : (xs : List X) (x : X) → Ordered R xs → ((y : X) → Contains xs y → R y x) → Ordered R (xs ++ x ∷ [])
  Ordered-push xs x o h = Ordered-append xs (x ∷ []) o ((λ y c. absurd (Contains-none y c)), tt) (λ y z c d. last y z c (Contains-cases x [] z d))
    where
      last : (y z : X) → Contains xs y → (x ≡ z) ⊎ Contains [] z → R y z
      last y z c (inl e) = subst (R y) e (h y c)
      last y z c (inr d) = absurd (Contains-none z d)

  pub Ordered-filter : (t : X → Bool) (xs : List X) → Ordered R xs → Ordered R (filter t xs)
  Ordered-filter t [] p = tt
  Ordered-filter t (x ∷ xs) p = pick (t x) (Ordered-filter t xs p.1)
    where
      pick : (b : Bool) → Ordered R (filter t xs) → Ordered R (cond b (x ∷ filter t xs) (filter t xs))
      pick true r = ((λ y c. p.0 y (filter-Contains t xs y c).0), r)
      pick false r = r

  pub Ordered-from_pairs : (xs : List X) → AllPairs R xs → Ordered R xs
  Ordered-from_pairs [] h = tt
  Ordered-from_pairs (x ∷ xs) h = (
    (λ y c. subst (λ z. R x z) c.2 (h 0 (suc c.0) y (omega arith) (omega (arith, c.1)))),
    Ordered-from_pairs xs (λ i j d l m. h (suc i) (suc j) d (omega (arith, l)) (omega (arith, m))),
  )

  -- of two places the earlier has the earlier member
  pub Ordered-at : (xs : List X) (h k : ℕ) (d : X) → Ordered R xs → h < k → k < length xs
      → R (get_or xs h d) (get_or xs k d)
  Ordered-at [] h k d p l m = absurd (omega arith)
  Ordered-at (x ∷ xs) h zero d p l m = absurd (omega arith)
  Ordered-at (x ∷ xs) zero (suc k) d p l m = p.0 _ (Contains-get_or xs k d (omega (arith, m)))
  Ordered-at (x ∷ xs) (suc h) (suc k) d p l m = Ordered-at xs h k d p.1 (omega (arith, l)) (omega (arith, m))

  pub pairs_from_Ordered : (xs : List X) → Ordered R xs → AllPairs R xs
  pairs_from_Ordered xs p = λ h k d l m. Ordered-at xs h k d p l m

  -- one more member at a place where it fits
  pub Ordered-insert : (xs : List X) (i : ℕ) (x : X) → Ordered R xs → i ≤ length xs
      → ((k : ℕ) → k < i → R (get_or xs k x) x) → ((k : ℕ) → i ≤ k → k < length xs → R x (get_or xs k x))
      → Ordered R (insert xs i x)
  Ordered-insert [] zero x p w f g = ((λ y c. absurd (Contains-none y c)), tt)
  Ordered-insert [] (suc i) x p w f g = ((λ y c. absurd (Contains-none y c)), tt)
  Ordered-insert (y ∷ xs) zero x p w f g = ((λ z c. after z c), p)
    where
      after : (z : X) → Contains (y ∷ xs) z → R x z
      after z (k, l, e) = subst (R x) (get_or_default (y ∷ xs) k x z l ∙ e) (g k (omega arith) l)
  Ordered-insert (y ∷ xs) (suc i) x p w f g = (
    (λ z c. here z (insert-cases xs i x z c)),
    Ordered-insert xs i x p.1 (omega (arith, w)) (λ k l. f (suc k) (omega (arith, l))) (λ k l m. g (suc k) (omega (arith, l)) (omega (arith, m))),
  )
    where
      here : (z : X) → (x ≡ z) ⊎ Contains xs z → R y z
      here z (inl e) = subst (R y) e (f 0 (omega arith))
      here z (inr c) = p.0 z c

  -- where the relation never holds both ways, two such lists with the same members are equal
  pub ordered-ext : ((x y : X) → R x y → R y x → ⊥) → (xs ys : List X) → Ordered R xs → Ordered R ys
      → ((x : X) → Contains xs x → Contains ys x) → ((x : X) → Contains ys x → Contains xs x) → xs ≡ ys
  ordered-ext asym [] [] p q f g = refl
  ordered-ext asym [] (y ∷ ys) p q f g = absurd (Contains-none y (g y (Contains-here y ys)))
  ordered-ext asym (x ∷ xs) [] p q f g = absurd (Contains-none x (f x (Contains-here x xs)))
  ordered-ext asym (x ∷ xs) (y ∷ ys) p q f g =
      λ i. same i ∷ ordered-ext asym xs ys p.1 q.1
      (λ k c. other ys y k (Contains-cases y ys k (f k (Contains-later x xs k c))) (λ e. apart x k (p.0 k c) (same ∙ e)))
      (λ k c. other xs x k (Contains-cases x xs k (g k (Contains-later y ys k c))) (λ e. apart y k (q.0 k c) (sym same ∙ e))) i
    where
      apart : (a b : X) → R a b → a ≡ b → ⊥
      apart a b r e = asym a b r (subst (λ z. R z a) e (subst (λ z. R a z) (sym e) r))

      other : (us : List X) (z k : X) → (z ≡ k) ⊎ Contains us k → (z ≡ k → ⊥) → Contains us k
      other us z k (inl e) n = absurd (n e)
      other us z k (inr c) n = c

      first : (y ≡ x) ⊎ Contains ys x → (x ≡ y) ⊎ Contains xs y → x ≡ y
      first (inl e) d = sym e
      first (inr c) (inl e) = e
      first (inr c) (inr d) = absurd (asym x y (p.0 y d) (q.0 x c))

      same : x ≡ y
      same = first (Contains-cases y ys x (f x (Contains-here x xs))) (Contains-cases x xs y (g y (Contains-here y ys)))

module _ {X Y : Type 0} (R : Y → Y → Type 0) where
  pub Ordered-map : (f : X → Y) (xs : List X) → Ordered (λ x y. R (f x) (f y)) xs → Ordered R (map f xs)
  Ordered-map f [] o = tt
  Ordered-map f (x ∷ xs) o = (
    λ y c. (let found = map-Contains f xs y c in subst (λ z. R (f x) z) found.2 (o.0 found.0 found.1)),
    Ordered-map f xs o.1,
  )

  pub Ordered-flat_map : (g : X → List Y) (xs : List X) → ((x : X) → Contains xs x → Ordered R (g x))
      → Ordered (λ x y. (a b : Y) → Contains (g x) a → Contains (g y) b → R a b) xs → Ordered R (flat_map g xs)
  Ordered-flat_map g [] each o = tt
  Ordered-flat_map g (x ∷ xs) each o =
      Ordered-append R (g x) (flat_map g xs) (each x (Contains-here x xs)) (Ordered-flat_map g xs (λ y c. each y (Contains-later x xs y c)) o.1)
      (λ a b c d. (let found = flat_map-Contains g xs b d in o.0 found.0 found.1 a b c found.2))

-- ---- lists in the strict order of a comparison

module _ {X : Type 0} (cmp : X → X → Ordering) where
  pub sorted_of : (xs : List X) → Ordered (λ x y. cmp x y ≡ Less) xs → IsStrictlySortedBy cmp xs
  unfolding IsStrictlySortedBy
  sorted_of [] p = tt
  sorted_of (x ∷ xs) p = (recursion_from_All (λ y. cmp x y ≡ Less) xs (λ k d l. p.0 _ (Contains-get_or xs k d l)), sorted_of xs p.1)

  pub ordered_of : (xs : List X) → IsStrictlySortedBy cmp xs → Ordered (λ x y. cmp x y ≡ Less) xs
  unfolding IsStrictlySortedBy
  ordered_of [] h = tt
  ordered_of (x ∷ xs) h =
      ((λ y c. All-contains (λ y. cmp x y ≡ Less) xs y (All-from_recursion (λ y. cmp x y ≡ Less) xs h.0) c), ordered_of xs h.1)

  -- two lists in strict order with the same members are equal
  pub sorted-ext : IsTotalOrder cmp → (xs ys : List X) → IsStrictlySortedBy cmp xs → IsStrictlySortedBy cmp ys
      → ((x : X) → Contains xs x ↔ Contains ys x) → xs ≡ ys
  sorted-ext o xs ys p q h = ordered-ext (λ x y. cmp x y ≡ Less) both xs ys (ordered_of xs p) (ordered_of ys q) (λ x. (h x).0) (λ x. (h x).1)
    where
      clash : Less ≡ Greater → ⊥
      clash e = cc

      both : (x y : X) → cmp x y ≡ Less → cmp y x ≡ Less → ⊥
      both x y l m = clash (sym l ∙ o.antisymm x y ∙ ap ordering_reverse m)

-- ---- rising lists of numbers

abbrev pub Rises : List ℕ → Type 0
Rises s = Ordered (λ x y. x < y) s

pub rises_of : (s : List ℕ) → IsStrictlyIncreasing s → Rises s
rises_of s h = Ordered-from_pairs (λ x y. x < y) s (AllPairs-from_increasing s h)

pub increasing_of : (s : List ℕ) → Rises s → IsStrictlyIncreasing s
increasing_of s h = λ k l. pairs_from_Ordered (λ x y. x < y) s h k (k + 1) 0 (omega arith) l

-- two rising lists with the same members are equal
pub rising-ext : (s t : List ℕ) → Rises s → Rises t
    → ((i : ℕ) → Contains s i → Contains t i) → ((i : ℕ) → Contains t i → Contains s i) → s ≡ t
rising-ext s t p q f g = ordered-ext (λ x y. x < y) (λ x y l m. omega (arith, l, m)) s t p q f g
