-- What the loops over degrees and rows keep.
use Rattle.std.specs.Prelude.{◌≡◌, ◌⊎◌, true, false, ℕ, zero, suc, ◌+◌, ◌<◌, ◌≤◌, List, [], ◌∷◌, ◌++◌, map, length, All, take, slice_index_or}
use Rattle.std.specs.Ordering.{is_lt, nat_cmp, ordering_then}
use Rattle.std.specs.Cmp.{nat_cmp_is}
use Rattle.std.specs.declared.cmp.Ordering.TheVariants.{Less}
use Rattle.std.specs.List.Sorted.{IsNonDecreasing, IsPermutation, IsSorted}
use Rattle.std.proofs.lemmas.Bool.{cases_lt}
use Rattle.std.proofs.lemmas.List.{get_or_default, get_or-map, length-map}
use Rattle.std.proofs.lemmas.List.FromFn.{get_or-map-range_with_len, length-map-range_with_len, map-range_with_len_more}
use Rattle.std.proofs.lemmas.List.Sorted.{All-permutation, IsPermutation-map, IsPermutation-refl}
use mathlib.Core.Logic.{inl, inr}
use mathlib.Core.Path.{refl, sym, ap, ◌∙◌, subst}
use native.Mathlib.Omega.{arith}
use Rattle.hp_lists.specs.Lists.{below}
use Rattle.hp_complex.specs.Complexes.{map_at}
use Rattle.hp_resolution.specs.Resolutions.{Resolution, row_degrees}
use Rattle.hp_minres.specs.Reductions.{AreOrders, IsDegreeOrder}
use Rattle.hp_minres.proofs.RangeSums.{three_ways}
use Rattle.hp_minres.proofs.StartedComplexes.{same_list}

-- ---- lists that grow

pub at_pushed : {X : Type 0} (xs : List X) (x d : X) → slice_index_or (xs ++ x ∷ []) (length xs) d ≡ x
at_pushed [] x d = refl
at_pushed (y ∷ xs) x d = at_pushed xs x d

pub before_pushed : {X : Type 0} (xs : List X) (x d : X) (i : ℕ) → i < length xs → slice_index_or (xs ++ x ∷ []) i d ≡ slice_index_or xs i d
before_pushed [] x d i l = absurd (omega (arith, l))
before_pushed (y ∷ xs) x d zero l = refl
before_pushed (y ∷ xs) x d (suc i) l = before_pushed xs x d i (omega (arith, l))

pub length_pushed : {X : Type 0} (xs : List X) (x : X) → length (xs ++ x ∷ []) ≡ suc (length xs)
length_pushed [] x = refl
length_pushed (y ∷ xs) x = ap suc (length_pushed xs x)

-- an entry that is read from a row of a list of rows
pub entry_read : {X : Type 0} (rows : List (List X)) (r c : ℕ) (row now : List X) (x d : X) → r < length rows → row ≡ slice_index_or rows r row
    → now ≡ row → c < length (slice_index_or rows r row) → x ≡ slice_index_or now c x → slice_index_or (slice_index_or rows r []) c d ≡ x
entry_read rows r c row now x d l e f b h =
    let here : slice_index_or rows r [] ≡ now = get_or_default rows r [] row l ∙ sym e ∙ sym f in
    ap (λ y. slice_index_or y c d) here
    ∙ get_or_default now c d x (subst (λ y. c < length y) (sym e ∙ sym f) b) ∙ sym h

pub map_take_more : {X Y : Type 0} (f : X → Y) (k : ℕ) (xs : List X) (x : X) → k < length xs → x ≡ slice_index_or xs k x
    → map f (take (k + 1) xs) ≡ map f (take k xs) ++ f x ∷ []
map_take_more f k [] x l e = absurd (omega (arith, l))
map_take_more f zero (y ∷ xs) x l e = ap (λ z. f z ∷ []) (sym e)
map_take_more f (suc k) (y ∷ xs) x l e =
    let next : suc k + 1 ≡ suc (k + 1) = omega arith in
    ap (λ n. map f (take n (y ∷ xs))) next ∙ ap (λ zs. f y ∷ zs) (map_take_more f k xs x (omega (arith, l)) e)

pub map_below_more : {Y : Type 0} (f : ℕ → Y) (k : ℕ) → map f (below (k + 1)) ≡ map f (below k) ++ f k ∷ []
map_below_more f k = map-range_with_len_more f 0 k k (omega arith)

pub below_more : (k : ℕ) → below (k + 1) ≡ below k ++ k ∷ []
below_more k =
    let same : (n : ℕ) → map (λ i. i) (below n) ≡ below n = λ n. identity (below n) in
    sym (same (k + 1)) ∙ map_below_more (λ i. i) k ∙ ap (λ xs. xs ++ k ∷ []) (same k)
  where
    identity : (xs : List ℕ) → map (λ i. i) xs ≡ xs
    identity [] = refl
    identity (x ∷ xs) = ap (λ ys. x ∷ ys) (identity xs)

-- ---- sorting by degree

abbrev pub keys_of : List ℕ → List ℕ → List (ℕ × ℕ)
keys_of degrees places = map (λ i. (slice_index_or degrees i 0, i)) places

seconds : (degrees xs : List ℕ) → map (λ (key : ℕ × ℕ). key.1) (keys_of degrees xs) ≡ xs
seconds degrees [] = refl
seconds degrees (x ∷ xs) = ap (λ ys. x ∷ ys) (seconds degrees xs)

own_degrees : (degrees xs : List ℕ) → All (λ (key : ℕ × ℕ). key.0 ≡ slice_index_or degrees key.1 0) (keys_of degrees xs)
own_degrees degrees [] i d l = absurd (omega (arith, l))
own_degrees degrees (x ∷ xs) zero d l = refl
own_degrees degrees (x ∷ xs) (suc i) d l = own_degrees degrees xs i d (omega (arith, l))

not_less : (a b p q : ℕ) → is_lt (ordering_then (nat_cmp b a) (nat_cmp q p)) ≡ false → a ≤ b
not_less a b p q e =
    elim (cases_lt b a) [
      | inl l ↦
          let g = nat_cmp_is b a Less l in
          let x : true ≡ false = ap (λ o. is_lt (ordering_then o (nat_cmp q p))) g ∙ e in
          absurd cc
      | inr l ↦ l
    ]

rising : (f : ℕ → ℕ) (n : ℕ) → ((k : ℕ) → k + 1 < n → f k ≤ f (k + 1)) → (i j : ℕ) → i ≤ j → j < n → f i ≤ f j
rising f n h i zero a b = let z : i ≡ 0 = omega (arith, a) in subst (λ k. f k ≤ f 0) (sym z) (omega arith)
rising f n h i (suc j) a b = pick (three_ways i (suc j)) (rising f n h i j)
  where
    pick : (i < suc j) ⊎ ((i ≡ suc j) ⊎ (suc j < i)) → (i ≤ j → j < n → f i ≤ f j) → f i ≤ f (suc j)
    pick (inl l) before =
        let one : j + 1 ≡ suc j = omega arith in
        let r = before (omega (arith, l)) (omega (arith, b)) in
        let s = subst (λ k. f j ≤ f k) one (h j (omega (arith, b))) in
        omega (arith, r, s)
    pick (inr (inl e)) before = subst (λ k. f k ≤ f (suc j)) (sym e) (omega arith)
    pick (inr (inr l)) before = absurd (omega (arith, a, l))

-- The places of the sorted pairs of a degree and its place.
pub sorted_order : (degrees : List ℕ) (keys sorted : List (ℕ × ℕ)) (order : List ℕ) → keys ≡ keys_of degrees (below (length degrees))
    → IsPermutation keys sorted → IsSorted (λ x y. ordering_then (nat_cmp x.0 y.0) (nat_cmp x.1 y.1)) sorted
    → order ≡ map (λ key. key.1) sorted → IsDegreeOrder degrees order
sorted_order degrees keys sorted order is p s e = record {
  permutes = subst (IsPermutation (below (length degrees))) (sym e)
      (subst (λ xs. IsPermutation xs (map (λ (key : ℕ × ℕ). key.1) sorted)) (ap (map (λ key. key.1)) is ∙ seconds degrees (below (length degrees)))
      (IsPermutation-map (λ (key : ℕ × ℕ). key.1) keys sorted p));
  rises = λ i j d a b.
      let n = length-map order (λ i. slice_index_or degrees i 0) in
      let m = ap length e ∙ length-map sorted (λ (key : ℕ × ℕ). key.1) in
      let bj : j < length sorted = omega (arith, n, m, b) in
      let bi : i < length sorted = omega (arith, bj, a) in
      subst (λ x. x ≤ slice_index_or (map (λ i. slice_index_or degrees i 0) order) j d) (sym (degree_at i d bi))
      (subst (λ y. first i ≤ y) (sym (degree_at j d bj)) (rising first (length sorted) next i j a bj));
}
  where
    first : ℕ → ℕ
    first k = (slice_index_or sorted k (0, 0)).0

    next : (k : ℕ) → k + 1 < length sorted → first k ≤ first (k + 1)
    next k l = not_less _ _ (slice_index_or sorted k (0, 0)).1 (slice_index_or sorted (k + 1) (0, 0)).1 (s k (0, 0) (omega arith) l)

    own : All (λ (key : ℕ × ℕ). key.0 ≡ slice_index_or degrees key.1 0) sorted
    own = All-permutation (λ (key : ℕ × ℕ). key.0 ≡ slice_index_or degrees key.1 0) keys sorted p
        (subst (All (λ (key : ℕ × ℕ). key.0 ≡ slice_index_or degrees key.1 0)) (sym is) (own_degrees degrees (below (length degrees))))

    degree_at : (k d : ℕ) → k < length sorted → slice_index_or (map (λ i. slice_index_or degrees i 0) order) k d ≡ first k
    degree_at k d l =
        let m = ap length e ∙ length-map sorted (λ (key : ℕ × ℕ). key.1) in
        get_or-map (λ i. slice_index_or degrees i 0) order k 0 d (omega (arith, m, l))
        ∙ ap (λ i. slice_index_or degrees i 0) (ap (λ (os : List ℕ). slice_index_or os k 0) e ∙ get_or-map (λ (key : ℕ × ℕ). key.1) sorted k (0, 0) 0 l)
        ∙ sym (own k (0, 0) l)

-- degrees that do not fall keep their places
pub kept_order : (degrees order : List ℕ) → IsNonDecreasing degrees → order ≡ below (length degrees) → IsDegreeOrder degrees order
kept_order degrees order h e = record {
  permutes = subst (IsPermutation (below (length degrees))) (sym e) (IsPermutation-refl (below (length degrees)));
  rises = subst (λ o. IsNonDecreasing (map (λ i. slice_index_or degrees i 0) o)) (sym e) (subst IsNonDecreasing (sym same) h);
}
  where
    same : map (λ i. slice_index_or degrees i 0) (below (length degrees)) ≡ degrees
    same = same_list 0 _ degrees (length-map-range_with_len (λ i. slice_index_or degrees i 0) 0 (length degrees))
        (λ i l. get_or-map-range_with_len (λ i. slice_index_or degrees i 0) 0 (length degrees) i i 0 l (omega arith))

-- ---- the orders of all levels

module _ {F : Type 0} (f : Resolution F) where
  -- The orders of the columns of the first map, and of the rows of the first n maps.
  pub record IsOrdering (n : ℕ) (orders : List (List ℕ)) : Type 0 where
    pub count : length orders ≡ suc n
    pub columns : slice_index_or orders 0 [] ≡ below (map_at f.maps 0).cols
    pub first : 1 ≤ n → slice_index_or orders 1 [] ≡ below (length (row_degrees f 0))
    pub each : (j : ℕ) → j < n → IsDegreeOrder (row_degrees f j) (slice_index_or orders (suc j) [])

  pub ordering-start : (orders : List (List ℕ)) → orders ≡ below (map_at f.maps 0).cols ∷ [] → IsOrdering 0 orders
  ordering-start orders e = record {
    count = ap length e;
    columns = ap (λ (os : List (List ℕ)). slice_index_or os 0 []) e;
    first = λ l. absurd (omega (arith, l));
    each = λ j l. absurd (omega (arith, l));
  }

  pub ordering-more : (n : ℕ) (orders : List (List ℕ)) (x : List ℕ) → IsOrdering n orders → IsDegreeOrder (row_degrees f n) x
      → (n ≡ 0 → x ≡ below (length (row_degrees f n))) → IsOrdering (n + 1) (orders ++ x ∷ [])
  ordering-more n orders x h o k = record {
    count = length_pushed orders x ∙ ap suc h.count ∙ omega arith;
    columns = let c = h.count in before_pushed orders x [] 0 (omega (arith, c)) ∙ h.columns;
    first = λ l. first (three_ways n 0);
    each = λ j l. each j l (three_ways j n);
  }
    where
      here : (j : ℕ) → j ≡ n → slice_index_or (orders ++ x ∷ []) (suc j) [] ≡ x
      here j e = let c = h.count in let q : suc j ≡ length orders = omega (arith, c, e) in ap (λ t. slice_index_or (orders ++ x ∷ []) t []) q ∙ at_pushed orders x []

      first : (n < 0) ⊎ ((n ≡ 0) ⊎ (0 < n)) → slice_index_or (orders ++ x ∷ []) 1 [] ≡ below (length (row_degrees f 0))
      first (inl l) = absurd (omega (arith, l))
      first (inr (inl e)) = here 0 (sym e) ∙ k e ∙ ap (λ t. below (length (row_degrees f t))) e
      first (inr (inr l)) = let c = h.count in before_pushed orders x [] 1 (omega (arith, c, l)) ∙ h.first (omega (arith, l))

      each : (j : ℕ) → j < n + 1 → (j < n) ⊎ ((j ≡ n) ⊎ (n < j)) → IsDegreeOrder (row_degrees f j) (slice_index_or (orders ++ x ∷ []) (suc j) [])
      each j b (inl l) =
          let c = h.count in
          subst (IsDegreeOrder (row_degrees f j)) (sym (before_pushed orders x [] (suc j) (omega (arith, c, l)))) (h.each j l)
      each j b (inr (inl e)) =
          subst (λ (t : List ℕ × List ℕ). IsDegreeOrder t.0 t.1) {x = (row_degrees f n, x)} {y = (row_degrees f j, slice_index_or (orders ++ x ∷ []) (suc j) [])}
          (λ t. (row_degrees f (sym e t), sym (here j e) t)) o
      each j b (inr (inr l)) = absurd (omega (arith, b, l))

  pub ordering-end : (n : ℕ) (orders : List (List ℕ)) → n ≡ length f.maps → 1 ≤ n → IsOrdering n orders → AreOrders f orders
  ordering-end n orders e l h = record {
    count = h.count ∙ ap suc e;
    columns = h.columns;
    first = h.first l;
    each = λ k b. h.each k (omega (arith, e, b));
  }
