-- The pairs of the numbers from 1 to l.
use Rattle.std.proofs.Common.{◌≡◌, ◌⊎◌, ℕ, suc, ◌+◌, ◌*◌, ◌<◌, ◌≤◌, nat_lt, List, [], ◌∷◌, ◌++◌, map, filter, flat_map, Contains, length, length-append, ap, inl, inr, subst, refl, arith}
use Rattle.std.proofs.lemmas.Bool.{ltb-true}
use Rattle.std.proofs.lemmas.List.{length-map}
use Rattle.std.proofs.lemmas.List.FromFn.{length-range_with_len}
use Rattle.std.proofs.lemmas.List.Sums.{length-filter, count_by-le-length}
use Rattle.hp_lists.specs.Lists.{one_to, Ordered}
use Rattle.hp_lists.proofs.Members.{map-Contains, flat_map-Contains, filter-Contains}
use Rattle.hp_lists.proofs.Ordered.{Ordered-filter, Ordered-weaker, Ordered-map, Ordered-flat_map}
use Rattle.hp_lists.proofs.Ranges.{range_members, range_rises}
use Rattle.hp_build.specs.Families.{pairs}

-- the pairs with first number i
abbrev pub pairs_from : ℕ → ℕ → List (ℕ × ℕ)
pairs_from l i = map (λ j. (i, j)) (filter (nat_lt i) (one_to l))

pub pairs_from-members : (l i : ℕ) (e : ℕ × ℕ) → Contains (pairs_from l i) e → (i ≡ e.0) × (i < e.1) × (e.1 ≤ l)
pairs_from-members l i e c =
    let Pair : ℕ → ℕ × ℕ = λ j. (i, j) in
    let found = map-Contains Pair (filter (nat_lt i) (one_to l)) e c in
    let kept = filter-Contains (nat_lt i) (one_to l) found.0 found.1 in
    let within = range_members found.0 1 l kept.0 in
    let first : i ≡ e.0 = ap (λ (p : ℕ × ℕ). p.0) found.2 in
    let second : found.0 ≡ e.1 = ap (λ (p : ℕ × ℕ). p.1) found.2 in
    let above : i < found.0 = ltb-true i found.0 kept.1 in
    (first, omega (arith, second, above), omega (arith, second, within.1))

-- both numbers of a pair are from 1 to l, the first below the second
pub pairs-members : (l : ℕ) (e : ℕ × ℕ) → Contains (pairs l) e → (1 ≤ e.0) × (e.0 < e.1) × (e.1 ≤ l)
pairs-members l e c =
    let found = flat_map-Contains (pairs_from l) (one_to l) e c in
    let within = range_members found.0 1 l found.1 in
    let ends = pairs_from-members l found.0 e found.2 in
    (omega (arith, within.0, ends.0), omega (arith, ends.0, ends.1), ends.2)

-- the lexicographic order of pairs
abbrev pub IsBefore : ℕ × ℕ → ℕ × ℕ → Type 0
IsBefore d e = (d.0 < e.0) ⊎ ((d.0 ≡ e.0) × (d.1 < e.1))

pub pairs-ordered : (l : ℕ) → Ordered IsBefore (pairs l)
pairs-ordered l =
    Ordered-flat_map IsBefore (pairs_from l) (one_to l)
    (λ i c. Ordered-map IsBefore (λ j. (i, j)) (filter (nat_lt i) (one_to l))
    (Ordered-weaker (λ j k. j < k) (λ j k. IsBefore (i, j) (i, k)) (filter (nat_lt i) (one_to l)) (λ j k p q below. inr (refl, below))
    (Ordered-filter (λ j k. j < k) (nat_lt i) (one_to l) (range_rises 1 l))))
    (Ordered-weaker (λ i j. i < j) (λ i j. (d e : ℕ × ℕ) → Contains (pairs_from l i) d → Contains (pairs_from l j) e → IsBefore d e) (one_to l)
    (λ i j p q below d e at_d at_e. inl (let x = (pairs_from-members l i d at_d).0 in let y = (pairs_from-members l j e at_e).0 in omega (arith, below, x, y)))
    (range_rises 1 l))

-- there are at most l for each of l numbers
pub length-flat_map_most : {X Y : Type 0} (g : X → List Y) (m : ℕ) (xs : List X) → ((x : X) → length (g x) ≤ m) → length (flat_map g xs) ≤ length xs * m
length-flat_map_most g m [] each = omega arith
length-flat_map_most g m (x ∷ xs) each =
    let whole : length (g x ++ flat_map g xs) ≡ length (g x) + length (flat_map g xs) = length-append (g x) (flat_map g xs) in
    let here = each x in
    let later = length-flat_map_most g m xs each in
    let more : suc (length xs) * m ≡ m + length xs * m = omega arith in
    omega (arith, whole, here, later, more)

pub length-pairs_most : (l : ℕ) → length (pairs l) ≤ l * l
length-pairs_most l =
    let numbers : length (one_to l) ≡ l = length-range_with_len 1 l in
    let each : (i : ℕ) → length (pairs_from l i) ≤ l = λ i. (
    let kept = length-filter (nat_lt i) (one_to l) in
    let most = count_by-le-length (nat_lt i) (one_to l) in
    let Pair : ℕ → ℕ × ℕ = λ j. (i, j) in
    let mapped = length-map (filter (nat_lt i) (one_to l)) Pair in
    omega (arith, numbers, kept, most, mapped)) in
    subst (λ n. length (pairs l) ≤ n * l) numbers (length-flat_map_most (pairs_from l) l (one_to l) each)
