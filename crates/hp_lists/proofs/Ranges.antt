-- Ranges of numbers: their members, and what is listed by one.
use Rattle.std.proofs.Common.{◌≡◌, ◌⊎◌, ℕ, zero, suc, ◌+◌, ◌-◌, ◌<◌, ◌≤◌, List, [], ◌∷◌, ◌++◌, map, flat_map, Contains, refl, sym, ap, reverse, subst, ◌∙◌, append-nil, map-id, inl, inr, arith}
use Rattle.std.specs.List.{range_with_len}
use Rattle.std.proofs.lemmas.Bool.{cases_eq}
use Rattle.std.proofs.lemmas.Grind.{flat_map-append}
use Rattle.std.proofs.lemmas.List.{map_push, reverse-append}
use Rattle.std.proofs.lemmas.List.FromFn.{map-range_with_len_more}
use Rattle.hp_lists.specs.Lists.{below}
use Rattle.hp_lists.proofs.Members.{Contains-here, Contains-later, Contains-cases, Contains-none}
use Rattle.hp_lists.proofs.Ordered.{Rises}

pub range_members : (i a n : ℕ) → Contains (range_with_len a n) i → (a ≤ i) × (i < a + n)
range_members i a zero c = absurd (Contains-none i c)
range_members i a (suc n) c = step (range_members i (a + 1) n) (Contains-cases a (range_with_len (a + 1) n) i c)
  where
    step : (Contains (range_with_len (a + 1) n) i → (a + 1 ≤ i) × (i < (a + 1) + n))
        → (a ≡ i) ⊎ Contains (range_with_len (a + 1) n) i → (a ≤ i) × (i < a + suc n)
    step ih (inl e) = omega arith
    step ih (inr d) = let r = ih d in omega arith

pub members_range : (i a n : ℕ) → a ≤ i → i < a + n → Contains (range_with_len a n) i
members_range i a zero h l = absurd (omega (arith, h, l))
members_range i a (suc n) h l =
    elim (cases_eq a i) [
      | inl here ↦ subst (λ z. Contains (z ∷ range_with_len (a + 1) n) i) (sym here) (Contains-here i (range_with_len (a + 1) n))
      | inr later ↦ Contains-later a _ i (members_range i (a + 1) n (omega (arith, h, later)) (omega (arith, l)))
    ]

pub range_rises : (a n : ℕ) → Rises (range_with_len a n)
range_rises a zero = tt
range_rises a (suc n) = ((λ y c. let r = range_members y (a + 1) n c in omega (arith, r)), range_rises (a + 1) n)

pub below_members : (k n : ℕ) → Contains (below n) k → k < n
below_members k n c = let r = range_members k 0 n c in omega (arith, r)

pub members_below : (k n : ℕ) → k < n → Contains (below n) k
members_below k n l = members_range k 0 n (omega arith) (omega (arith, l))

-- ---- one number more

pub range-more : (a n : ℕ) → range_with_len a (suc n) ≡ range_with_len a n ++ (a + n) ∷ []
range-more a zero = let same : a ≡ a + 0 = omega arith in ap (λ j. j ∷ []) same
range-more a (suc n) =
    let same : a + 1 + n ≡ a + suc n = omega arith in
    ap (λ xs. a ∷ xs) (range-more (a + 1) n) ∙ ap (λ j. a ∷ range_with_len (a + 1) n ++ j ∷ []) same

pub reverse-range : (a n : ℕ) → reverse (range_with_len a (suc n)) ≡ (a + n) ∷ reverse (range_with_len a n)
reverse-range a n = ap reverse (range-more a n) ∙ reverse-append (range_with_len a n) ((a + n) ∷ [])

pub map-next : {X : Type 0} (f : ℕ → X) (xs : List X) (x : X) (i : ℕ) → 1 ≤ i
    → xs ≡ map f (range_with_len 1 (i - 1)) → x ≡ f i → xs ++ x ∷ [] ≡ map f (range_with_len 1 (i + 1 - 1))
map-next f xs x i low before here =
    let next : i - 1 + 1 ≡ i + 1 - 1 = omega arith in
    ap (λ ys. ys ++ x ∷ []) before
    ∙ ap (λ y. map f (range_with_len 1 (i - 1)) ++ y ∷ []) here
    ∙ sym (map-range_with_len_more f 1 (i - 1) i (omega arith))
    ∙ ap (λ n. map f (range_with_len 1 n)) next

pub flat_map-next : {X : Type 0} (g : ℕ → List X) (xs ys : List X) (i : ℕ) → 1 ≤ i
    → xs ≡ flat_map g (range_with_len 1 (i - 1)) → ys ≡ g i → xs ++ ys ≡ flat_map g (range_with_len 1 (i + 1 - 1))
flat_map-next g xs ys i low before here =
    let range = range_with_len 1 (i - 1) in
    let next : range ++ i ∷ [] ≡ range_with_len 1 (i + 1 - 1) =
    map-next (λ k. k) range i i low (sym (map-id range)) refl ∙ map-id (range_with_len 1 (i + 1 - 1)) in
    ap (λ zs. zs ++ ys) before
    ∙ ap (λ zs. flat_map g range ++ zs) (here ∙ sym (append-nil (g i)))
    ∙ sym (flat_map-append g range (i ∷ []))
    ∙ ap (flat_map g) next

-- the same of what is read from rows
pub map-next_of : {X Y : Type 0} (items : Y → X) (f : ℕ → X) (all rows : List Y) (row : Y) (i : ℕ) → 1 ≤ i
    → all ≡ rows ++ row ∷ [] → map items rows ≡ map f (range_with_len 1 (i - 1)) → items row ≡ f i
    → map items all ≡ map f (range_with_len 1 (i + 1 - 1))
map-next_of items f all rows row i low more before here =
    ap (map items) more ∙ map_push items rows row ∙ map-next f (map items rows) (items row) i low before here
