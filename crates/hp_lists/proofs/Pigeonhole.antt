-- Where each of n indexes excludes at most one number, n indexes do not exclude all of n + 1 numbers.
use Rattle.std.proofs.Common.{◌≡◌, ℕ, zero, suc, ◌<◌, ◌≤◌, true, false, eqb, List, [], ◌∷◌, ◌++◌, All, length, get_or, sym, arith, refl, inl, inr, length-append, subst}
use Rattle.std.specs.List.{list_any}
use Rattle.std.proofs.lemmas.Bool.{false≢true, cases_lt, cases_eq, or_cases, eqb-true}
use Rattle.std.proofs.lemmas.Bool.Decides.{nat_tests}
use Rattle.std.proofs.lemmas.List.Elements.{All-head, All-tail}
use Rattle.std.proofs.lemmas.Map.Steps.{length-le_from_distinct_below}
use Rattle.std.proofs.lemmas.Map.Keys.{IsDistinct-from_apart}
use Rattle.std.proofs.Math.ListN.{get_or-append}
use Rattle.std.proofs.Math.Seq.{get_or-append_seam}

push_collected : (Excludes : ℕ → ℕ → Type 0) (n m : ℕ) (xs : List ℕ) (k : ℕ) → length xs ≡ m
    → ((i d : ℕ) → i < m → (get_or xs i d < n) × Excludes (get_or xs i d) i) → k < n → Excludes k m → (i d : ℕ)
    → i < suc m → (get_or (xs ++ k ∷ []) i d < n) × Excludes (get_or (xs ++ k ∷ []) i d) i
push_collected Excludes n m xs k e each b here i d h =
    let P : ℕ → Type 0 = λ g. (g < n) × Excludes g i in
    elim (cases_lt i m) [
      | inl before ↦ (let within : i < length xs = omega arith in subst P (sym (get_or-append xs (k ∷ []) d i within)) (each i d before))
      | inr at ↦ (let same : i ≡ m = omega arith in
          let seam : get_or (xs ++ k ∷ []) i d ≡ k = rw (same, ← e) (get_or-append_seam xs k [] d) in
          subst P (sym seam) (let Q : ℕ → Type 0 = λ j. (k < n) × Excludes k j in subst Q (sym same) (b, here)))
    ]

-- one index below n for each of the first m numbers, in a list
collect : (Excludes : ℕ → ℕ → Type 0) (n m : ℕ) → ((v : ℕ) → v < m → (k : ℕ) × (k < n) × Excludes k v)
    → (xs : List ℕ) × (length xs ≡ m) × ((i d : ℕ) → i < m → (get_or xs i d < n) × Excludes (get_or xs i d) i)
collect Excludes n zero f = ([], refl, λ i d h. absurd (omega arith))
collect Excludes n (suc m) f =
    let before = collect Excludes n m (λ v h. f v (omega arith)) in
    let last = f m (omega arith) in
    (before.0 ++ last.0 ∷ [], simp (length-append, before.1) (omega arith), push_collected Excludes n m before.0 last.0 before.1 before.2 last.1 last.2)

apart_collected : (Excludes : ℕ → ℕ → Type 0) (n m : ℕ) (xs : List ℕ) → length xs ≡ m
    → ((k u w : ℕ) → k < n → u < m → w < m → Excludes k u → Excludes k w → u ≡ w)
    → ((i d : ℕ) → i < m → (get_or xs i d < n) × Excludes (get_or xs i d) i) → (i j d : ℕ) → i < j → j < length xs
    → eqb (get_or xs i d) (get_or xs j d) ≡ false
apart_collected Excludes n m xs e one each i j d h b =
    elim (cases_eq (get_or xs i d) (get_or xs j d)) [
      | inl same ↦ absurd (
          let at_i = each i d (omega arith) in
          let at_j = each j d (omega arith) in
          let P : ℕ → Type 0 = λ g. Excludes g j in
          let same_place = one (get_or xs i d) i j at_i.0 (omega arith) (omega arith) at_i.1 (subst P (sym same) at_j.1) in
          omega (arith, same_place))
      | inr differ ↦ grind (arith, nat_tests)
    ]

below_each : (n : ℕ) (xs : List ℕ) → All (λ x. x < n) xs → (q : ℕ) → list_any (eqb q) xs ≡ true → q < n
below_each n [] each q t = absurd (false≢true t)
below_each n (x ∷ xs) each q t =
    let Below : ℕ → Type 0 = λ x. x < n in
    elim (or_cases (eqb q x) (list_any (eqb q) xs) t) [
      | inl same ↦ (let e : q ≡ x = eqb-true q x same in
          let b = All-head Below x xs each in omega (arith, e, b))
      | inr later ↦ below_each n xs (All-tail Below x xs each) q later
    ]

-- where each of n indexes excludes at most one number below m, and each such number is excluded, m is at most n
pub as_many : (Excludes : ℕ → ℕ → Type 0) (n m : ℕ)
    → ((k u w : ℕ) → k < n → u < m → w < m → Excludes k u → Excludes k w → u ≡ w)
    → ((v : ℕ) → v < m → (k : ℕ) × (k < n) × Excludes k v) → m ≤ n
as_many Excludes n m one f =
    let list = collect Excludes n m f in
    let distinct = IsDistinct-from_apart eqb list.0 (apart_collected Excludes n m list.0 list.1 one list.2) in
    let most = length-le_from_distinct_below list.0 n distinct (below_each n list.0 (λ i d h. (list.2 i d (let w : i < m = omega (arith, h, list.1) in w)).0)) in
    omega (arith, most, list.1)
