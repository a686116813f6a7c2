-- A list of the numbers below n that exchanges reach is a bijection.
use Rattle.std.specs.Prelude.{◌≡◌, ◌≢◌, ◌⊎◌, ℕ, ◌+◌, ◌<◌, ◌≤◌, List, [], ◌∷◌, length, All, set, slice_index_or}
use Rattle.std.specs.List.{swap}
use Rattle.std.specs.List.Sorted.{IsPermutation, SwapsInRange, apply_swaps}
use Rattle.std.proofs.lemmas.Bool.{cases_eq}
use Rattle.std.proofs.lemmas.Bool.Decides.{nat_tests}
use Rattle.std.proofs.lemmas.Grind.{get_or-set_at}
use Rattle.std.proofs.lemmas.List.{get_or_default, get_or-set_other, length-set}
use Rattle.std.proofs.lemmas.List.Edits.{length-swap, swap_is}
use Rattle.std.proofs.lemmas.List.FromFn.{get_or-range_with_len, length-range_with_len}
use mathlib.Core.Logic.{inl, inr}
use mathlib.Core.Path.{refl, sym, ap, ◌∙◌, subst}
use native.Mathlib.Omega.{arith}
use Rattle.hp_lists.specs.Lists.{below}
use Rattle.hp_minres.proofs.RangeSums.{three_ways}
use Rattle.hp_minres.proofs.GradedComplexes.{past}
use Rattle.hp_minres.proofs.PermutedComplexes.{IsBijection, exchange, exchange_permutes}

-- what stands at a place, and the place itself past the end
abbrev pub placed : List ℕ → ℕ → ℕ
placed order i = slice_index_or order i i

-- ---- one exchange

swap_at : (xs : List ℕ) (a b i d : ℕ) → a < length xs → b < length xs → slice_index_or (swap xs a b) i d ≡ slice_index_or xs (exchange a b i) d
swap_at xs a b i d la lb = sym (ap (λ (ys : List ℕ). slice_index_or ys i d) (swap_is xs a b d la lb)) ∙ pick (cases_eq i b) (cases_eq i a)
  where
    x : ℕ
    x = slice_index_or xs b d

    long : b < length (set xs a x)
    long = let n = length-set xs a x in omega (arith, n, lb)

    pick : (i ≡ b) ⊎ (i ≢ b) → (i ≡ a) ⊎ (i ≢ a) → slice_index_or (set (set xs a x) b (slice_index_or xs a d)) i d ≡ slice_index_or xs (exchange a b i) d
    pick (inl e) h =
        let to : exchange a b i ≡ a = grind (arith, nat_tests) in
        get_or-set_at (set xs a x) b i (slice_index_or xs a d) d e long ∙ ap (λ k. slice_index_or xs k d) (sym to)
    pick (inr n) (inl e) =
        let to : exchange a b i ≡ b = grind (arith, nat_tests) in
        get_or-set_other (set xs a x) b i (slice_index_or xs a d) d n ∙ get_or-set_at xs a i x d e la ∙ ap (λ k. slice_index_or xs k d) (sym to)
    pick (inr n) (inr m) =
        let to : exchange a b i ≡ i = grind (arith, nat_tests) in
        get_or-set_other (set xs a x) b i (slice_index_or xs a d) d n ∙ get_or-set_other xs a i x d m ∙ ap (λ k. slice_index_or xs k d) (sym to)

far : (n a b i : ℕ) → a < n → b < n → n ≤ i → exchange a b i ≡ i
far n a b i la lb l = grind (arith, nat_tests)

placed_swap : (xs : List ℕ) (a b i : ℕ) → a < length xs → b < length xs → placed (swap xs a b) i ≡ placed xs (exchange a b i)
placed_swap xs a b i la lb = pick (three_ways i (length xs))
  where
    out : length xs ≤ i → placed (swap xs a b) i ≡ placed xs (exchange a b i)
    out l =
        let n = length-swap xs a b in
        past (swap xs a b) i i (omega (arith, n, l)) ∙ sym (ap (placed xs) (far (length xs) a b i la lb l) ∙ past xs i i l)

    pick : (i < length xs) ⊎ ((i ≡ length xs) ⊎ (length xs < i)) → placed (swap xs a b) i ≡ placed xs (exchange a b i)
    pick (inl l) = swap_at xs a b i i la lb ∙ get_or_default xs (exchange a b i) i (exchange a b i) ((exchange_permutes (length xs) a b la lb).inside i l)
    pick (inr (inl e)) = out (omega (arith, e))
    pick (inr (inr l)) = out (omega (arith, l))

-- ---- all exchanges

pub swaps_length : {X : Type 0} (xs : List X) (ms : List (ℕ × ℕ)) → length (apply_swaps xs ms) ≡ length xs
swaps_length xs [] = refl
swaps_length xs (m ∷ ms) = length-swap (apply_swaps xs ms) m.0 m.1 ∙ swaps_length xs ms

abbrev pub IsBijective : ℕ → List ℕ → Type 0
IsBijective n order = (τ : ℕ → ℕ) × IsBijection n (placed order) τ

swapped : (n : ℕ) (xs : List ℕ) (ms : List (ℕ × ℕ)) → length xs ≡ n → SwapsInRange n ms → IsBijective n xs → IsBijective n (apply_swaps xs ms)
swapped n xs [] e r h = h
swapped n xs (m ∷ ms) e r h =
    let g = swapped n xs ms e r.2 h in
    let ys = apply_swaps xs ms in
    let ly : length ys ≡ n = swaps_length xs ms ∙ e in
    let la : m.0 < length ys = subst (λ k. m.0 < k) (sym ly) r.0 in
    let lb : m.1 < length ys = subst (λ k. m.1 < k) (sym ly) r.1 in
    let x = exchange m.0 m.1 in
    let is : (i : ℕ) → placed (swap ys m.0 m.1) i ≡ placed ys (x i) = λ i. placed_swap ys m.0 m.1 i la lb in
    let ex = exchange_permutes n m.0 m.1 r.0 r.1 in (
      λ i. x (g.0 i),
      record {
        left = λ i. ap x (ap g.0 (is i) ∙ g.1.left (x i)) ∙ ex.left i;
        right = λ i. is (x (g.0 i)) ∙ ap (placed ys) (ex.left (g.0 i)) ∙ g.1.right i;
        inside = λ i l. subst (λ k. k < n) (sym (is i)) (g.1.inside (x i) (ex.inside i l));
        inside' = λ i l. ex.inside (g.0 i) (g.1.inside' i l);
      },
    )

pub placed_below : (n i : ℕ) → placed (below n) i ≡ i
placed_below n i = pick (three_ways i n)
  where
    long : length (below n) ≡ n
    long = length-range_with_len 0 n

    pick : (i < n) ⊎ ((i ≡ n) ⊎ (n < i)) → placed (below n) i ≡ i
    pick (inl l) = let zero_more : 0 + i ≡ i = omega arith in get_or-range_with_len 0 n i i l ∙ zero_more
    pick (inr (inl e)) = past (below n) i i (omega (arith, long, e))
    pick (inr (inr l)) = past (below n) i i (omega (arith, long, l))

-- A list that exchanges reach from the numbers below n.
pub order_bijective : (n : ℕ) (order : List ℕ) → IsPermutation (below n) order → IsBijective n order
order_bijective n order h =
    let long : length (below n) ≡ n = length-range_with_len 0 n in
    subst (IsBijective n) (sym h.is)
    (swapped n (below n) h.moves long (subst (λ k. SwapsInRange k h.moves) long h.below)
    (λ i. i, record { left = placed_below n; right = placed_below n; inside = λ i l. subst (λ k. k < n) (sym (placed_below n i)) l; inside' = λ i l. l }))

pub order_length : (n : ℕ) (order : List ℕ) → IsPermutation (below n) order → length order ≡ n
order_length n order h = ap length h.is ∙ swaps_length (below n) h.moves ∙ length-range_with_len 0 n

pub order_inside : (n : ℕ) (order : List ℕ) → IsPermutation (below n) order → All (λ i. i < n) order
order_inside n order h i d l =
    let n' = order_length n order h in
    subst (λ k. k < n) (get_or_default order i i d l) ((order_bijective n order h).1.inside i (omega (arith, n', l)))
