-- The flats of an affine arrangement rank by rank: the first level, the next one, and the list of all flats.
use Rattle.std.proofs.Common.{◌≡◌, ◌⊎◌, ℕ, zero, suc, ◌+◌, ◌-◌, ◌<◌, ◌≤◌, ◌==◌, true, false, not, List, [], ◌∷◌, ◌++◌, map, flat_map, length, slice_index_or, Contains, refl, sym, ap, subst, ◌∙◌, arith, inl, inr}
use Rattle.std.specs.List.{range_with_len}
use Rattle.std.specs.List.Sorted.{IsStrictlySortedBy}
use Rattle.std.specs.Map.{keys_of}
use Rattle.std.proofs.lemmas.Grind.{flat_map-append}
use Rattle.std.proofs.lemmas.List.{length-map, length-append, append-nil}
use Rattle.hp_lists.specs.Lists.{below, one_to}
use Rattle.hp_lists.proofs.Members.{not_both, Contains-here, Contains-cases, Contains-none, map-Contains}
use Rattle.hp_lists.proofs.Removals.{map-same}
use Rattle.hp_lists.proofs.Ordered.{sorted_of, sorted-ext}
use Rattle.hp_algebra.specs.Rows.{unit_row}
use Rattle.hp_sets.specs.Sets.{Set, cmp_listed, contains}
use Rattle.hp_sets.specs.ListedOrder.{cmp_listed_total}
use Rattle.hp_sets.specs.declared.flat.Flat.{Flat}
use Rattle.hp_sets.proofs.SetLaws.{empty-set}
use Rattle.hp_arr.specs.Flats.{rank, IsFlat, flats, flats_of_rank}
use Rattle.hp_arr.proofs.Cuts.{set-indices}
use Rattle.hp_matroid.specs.Matroids.{Within, Matroid}
use Rattle.hp_matroid.proofs.Subsets.{head_in, or_right, within-cons}
use Rattle.hp_matroid.proofs.RisingLists.{is_within-from}
use Rattle.hp_matroid.proofs.RisingSets.{set-from_rises}
use Rattle.hp_matroid.proofs.Coatoms.{flat-same}
use Rattle.hp_matroid.proofs.CentralSets.{central-down}
use Rattle.hp_flats.specs.Levels.{values_of, IsEntry, AreOfRank, IsLevel, flats_below}
use Rattle.hp_flats.specs.Covers.{IsCover}
use Rattle.hp_arr.proofs.ConePoints.{AffineSetting, n, coned}
use Rattle.hp_arr.proofs.ConeMatroids.{affine_matroid, cone_matroid, central, central-laws, indices-within, rank-matroid, flat-central, central-flat, flat-set, flat-has_point}
use Rattle.hp_arr.proofs.FlatList.{flats_of_rank-complete, flats_of_rank-rise, flat-rank_dim}
use Rattle.hp_flats.proofs.ClassValues.{first-cone_values}

-- the flat of an entry of the level of rank r
abbrev pub of_rank : {V : Type 0} → ℕ → Set × V → Flat
of_rank r e = record { rank = r; set = e.0 }

module _ {K : Type 0} (A : AffineSetting K) where
  open A use {ring, numbers, arr}

  abbrev M : Matroid
  M = affine_matroid A

  -- ---- the first level

  -- the empty set is a flat, of rank 0
  pub first-flat : IsFlat ring numbers arr []
  first-flat = central-flat A [] (record {
    set = empty-set (n A);
    pointed = ap (λ s. not (contains s (suc (n A)))) (cone_matroid A).laws.no_loops;
    closed = M.laws.no_loops;
  })

  pub first-rank : rank ring numbers arr [] ≡ 0
  first-rank = rank-matroid A [] (set-indices arr [] (empty-set (n A))) (flat-has_point A [] first-flat) ∙ M.laws.rank_empty

  abbrev first : Set × List (List K)
  first = ([], map (λ k. values_of A.ring (coned A) (unit_row A.ring (A.arr.dim + 1) k)) (one_to (A.arr.dim + 1)))

  -- the flat of rank 0 is the empty set
  pub least-flat : (f : Set) → IsFlat ring numbers arr f → rank ring numbers arr f ≡ 0 → f ≡ []
  least-flat [] is e = refl
  least-flat (i ∷ f) is e =
      let h = set-indices arr (i ∷ f) (flat-set A (i ∷ f) is) in
      let zero_rank = sym (rank-matroid A (i ∷ f) h (flat-has_point A (i ∷ f) is)) ∙ e in
      let w = flat-same M [] (i ∷ f) (indices-within A (i ∷ f) h) (λ j c. nothing j (subst (λ s. contains s j ≡ true) M.laws.no_loops c))
      (ap M.rank M.laws.no_loops ∙ M.laws.rank_empty ∙ sym zero_rank) in
      absurd (none i (subst (λ s. contains s i ≡ true) M.laws.no_loops (w i (head_in i f))))
    where
      none : (j : ℕ) → contains [] j ≡ true → ⊥
      none j e = not_both false e refl

      nothing : (j : ℕ) → contains [] j ≡ true → contains (i ∷ f) j ≡ true
      nothing j e = absurd (not_both false e refl)

  none-before : IsStrictlySortedBy cmp_listed ([] ∷ [])
  none-before = sorted_of cmp_listed ([] ∷ []) ((λ y c. absurd (Contains-none y c)), tt)

  pub level-start : IsLevel ring numbers arr 0 (first ∷ [])
  level-start = record {
    are = record { each = λ f rows c. each f rows (Contains-cases first [] (f, rows) c); sorted = none-before };
    sets = sorted-ext cmp_listed cmp_listed_total ([] ∷ []) (flats_of_rank ring numbers arr 0) none-before (sorted_of cmp_listed _ (flats_of_rank-rise A 0)) (λ g. (
      (λ c. (flats_of_rank-complete A 0 g).1 (only g (Contains-cases [] [] g c))),
      λ c. let h = (flats_of_rank-complete A 0 g).0 c in subst (Contains ([] ∷ [])) (sym (least-flat g h.0 h.1)) (Contains-here [] []),
    ));
  }
    where
      each : (f : Set) (rows : List (List K))
          → (first ≡ (f, rows)) ⊎ Contains {X = Set × List (List K)} [] (f, rows)
          → IsEntry ring numbers arr 0 f rows
      each f rows (inl e) = subst (λ (p : Set × List (List K)). IsEntry ring numbers arr 0 p.0 p.1) e (record { is_flat = first-flat; has_rank = first-rank; has_values = first-cone_values A })
      each f rows (inr c) = absurd (Contains-none (f, rows) c)

      only : (g : Set) → ([] ≡ g) ⊎ Contains {X = Set} [] g → IsFlat ring numbers arr g × (rank ring numbers arr g ≡ 0)
      only g (inl e) = subst (λ g. IsFlat ring numbers arr g × (rank ring numbers arr g ≡ 0)) e (first-flat, first-rank)
      only g (inr c) = absurd (Contains-none g c)

  -- ---- the next level

  pub entries-none : (r : ℕ) → AreOfRank ring numbers arr r []
  entries-none r = record { each = λ f rows c. absurd (Contains-none (f, rows) c); sorted = sorted_of cmp_listed [] tt }

  -- the sets of some flats of rank r are among the flats of rank r
  pub entries-flats : (r : ℕ) (es : List (Set × List (List K))) → AreOfRank ring numbers arr r es → (g : Set)
      → Contains (keys_of es) g → Contains (flats_of_rank ring numbers arr r) g
  entries-flats r es are g c =
      let w = map-Contains (λ (e : Set × List (List K)). e.0) es g c in
      let e = are.each w.0.0 w.0.1 w.1 in
      subst (Contains (flats_of_rank ring numbers arr r)) w.2 ((flats_of_rank-complete A r w.0.0).1 (e.is_flat, e.has_rank))

  -- the flat at a place of the level, with its values
  pub level-entry : {r : ℕ} {level : List (Set × List (List K))} → IsLevel ring numbers arr r level → {k : ℕ} → k < length level
      → {item : Set × List (List K)} → item ≡ slice_index_or level k item → IsEntry ring numbers arr r item.0 item.1
  level-entry is {k} l {item} e = is.are.each item.0 item.1 (k, l, sym e)

  -- The covers of all flats of rank r are the flats of rank r + 1.
  pub level-next : (r : ℕ) (level next : List (Set × List (List K))) → IsLevel ring numbers arr r level
      → AreOfRank ring numbers arr (r + 1) next
      → ((e : Set × List (List K)) → Contains level e → (g : Set) → IsCover ring numbers arr e.0 g → Contains (keys_of next) g) → IsLevel ring numbers arr (r + 1) next
  level-next r level next is are covers = record {
    are = are;
    sets = sorted-ext cmp_listed cmp_listed_total (keys_of next) (flats_of_rank ring numbers arr (r + 1)) are.sorted (sorted_of cmp_listed _ (flats_of_rank-rise A (r + 1))) (λ g. (
      entries-flats (r + 1) next are g,
      λ c. let h = (flats_of_rank-complete A (r + 1) g).0 c in back g h.0 h.1,
    ));
  }
    where
      plain : (a r : ℕ) → a ≡ r + 1 → a ≡ suc r
      plain a r e = omega (arith, e)

      back : (g : Set) → IsFlat ring numbers arr g → rank ring numbers arr g ≡ r + 1 → Contains (keys_of next) g
      back g ig e =
          let c = flat-central A g ig in
          let h = set-indices arr g c.set in
          let d = central-down M (central A) (central-laws A) r g (indices-within A g h) c.closed (sym (rank-matroid A g h (flat-has_point A g ig)) ∙ plain (rank ring numbers arr g) r e) c.pointed in
          let y = d.0 in
          let inside : Within y (one_to (n A)) = λ j k. M.laws.closure_within y j (subst (λ s. contains s j ≡ true) (sym d.3) k) in
          let iy = central-flat A y (record { set = set-from_rises (n A) y d.2 inside; pointed = d.5; closed = d.3 }) in
          let ry = rank-matroid A y (set-indices arr y (flat-set A y iy)) (flat-has_point A y iy) ∙ d.4 in
          let part : Within y g = λ j k. subst (λ s. contains s j ≡ true) d.8 (M.laws.extensive (d.1 ∷ y) (within-cons d.1 y (one_to (n A)) d.6 inside) j (or_right (d.1 == j) (contains y j) k)) in
          let cover : IsCover ring numbers arr y g = (ig, is_within-from y g part, e ∙ ap (λ k. k + 1) (sym ry)) in
          let w = map-Contains (λ (e : Set × List (List K)). e.0) level y (subst (λ fs. Contains fs y) (sym is.sets) ((flats_of_rank-complete A r y).1 (iy, ry))) in
          covers w.0 w.1 g (subst (λ f. IsCover ring numbers arr f g) (sym w.2) cover)

  -- ---- all flats

  abbrev ranked : ℕ → List Flat
  ranked k = map (λ s. record { rank = k; set = s }) (flats_of_rank A.ring A.numbers A.arr k)

  range-last : (a n : ℕ) → range_with_len a (suc n) ≡ range_with_len a n ++ (a + n) ∷ []
  range-last a zero = ap (λ k. k ∷ []) (omega arith)
  range-last a (suc n) = ap (λ xs. a ∷ xs) (range-last (a + 1) n ∙ ap (λ k. range_with_len (a + 1) n ++ k ∷ []) (omega arith))

  pub below-next : (r : ℕ) → flats_below ring numbers arr (r + 1) ≡ flats_below ring numbers arr r ++ ranked r
  below-next r =
      ap (λ n. flat_map ranked (below n)) (one r) ∙ ap (flat_map ranked) (range-last 0 r) ∙ flat_map-append ranked (below r) ((0 + r) ∷ [])
      ∙ ap (λ ys. flats_below ring numbers arr r ++ ys) (append-nil (ranked (0 + r)) ∙ ap ranked (plain r))
    where
      one : (r : ℕ) → r + 1 ≡ suc r
      one r = omega arith

      plain : (r : ℕ) → 0 + r ≡ r
      plain r = omega arith

  pub below-all : flats_below ring numbers arr (arr.dim + 1) ≡ flats ring numbers arr
  unfolding flats
  below-all = refl

  none-above : length (ranked (arr.dim + 1)) ≡ 0
  none-above = length-map _ (λ s. record { rank = arr.dim + 1; set = s }) ∙ empty (flats_of_rank ring numbers arr (arr.dim + 1)) (λ f c. let h = (flats_of_rank-complete A (arr.dim + 1) f).0 c in high f h.0 h.1)
    where
      empty : (fs : List Set) → ((f : Set) → Contains fs f → ⊥) → length fs ≡ 0
      empty [] h = refl
      empty (f ∷ fs) h = absurd (h f (Contains-here f fs))

      high : (f : Set) → IsFlat ring numbers arr f → rank ring numbers arr f ≡ arr.dim + 1 → ⊥
      high f is e = let l = flat-rank_dim A f is in omega (arith, e, l)

  below-longer : (k r : ℕ) → length (flats_below ring numbers arr r) ≤ length (flats_below ring numbers arr (k + r))
  below-longer zero r = subst (λ m. length (flats_below ring numbers arr r) ≤ length (flats_below ring numbers arr m)) (plain r) (omega arith)
    where
      plain : (r : ℕ) → r ≡ 0 + r
      plain r = omega arith
  below-longer (suc k) r =
      let ih = below-longer k r in
      let e = ap (λ (fs : List Flat). length fs) (below-next (k + r)) ∙ length-append (flats_below ring numbers arr (k + r)) (ranked (k + r)) in
      subst (λ m. length (flats_below ring numbers arr r) ≤ length (flats_below ring numbers arr m)) (shift k r) (over-by _ _ _ _ ih e)
    where
      shift : (k r : ℕ) → (k + r) + 1 ≡ suc k + r
      shift k r = omega arith

      over-by : (a b c d : ℕ) → a ≤ b → d ≡ b + c → a ≤ d
      over-by a b c d l e = omega (arith, l, e)

  -- the flats up to rank r and those of rank r + 1 are no more than all flats
  pub below-few : (r : ℕ) → r ≤ arr.dim
      → length (flats_below ring numbers arr (r + 1)) + length (flats_of_rank ring numbers arr (r + 1)) ≤ length (flats ring numbers arr)
  below-few r l =
      let k = arr.dim - r in
      let m = below-longer k (r + 2) in
      let up = subst (λ m. length (flats_below ring numbers arr (r + 2)) ≤ length (flats_below ring numbers arr m)) (top r arr.dim l) m in
      let e = ap (λ (fs : List Flat). length fs) (ap (flats_below ring numbers arr) (two r) ∙ below-next (r + 1)) ∙ length-append (flats_below ring numbers arr (r + 1)) (ranked (r + 1)) in
      let g = ap (λ (fs : List Flat). length fs) (ap (flats_below ring numbers arr) (two arr.dim) ∙ below-next (arr.dim + 1)) ∙ length-append (flats_below ring numbers arr (arr.dim + 1)) (ranked (arr.dim + 1)) in
      let w = length-map (flats_of_rank ring numbers arr (r + 1)) (λ s. record { rank = r + 1; set = s }) in
      total _ _ _ _ _ _ _ _ up e g w none-above (ap (λ (fs : List Flat). length fs) below-all)
    where
      two : (r : ℕ) → r + 2 ≡ (r + 1) + 1
      two r = omega arith

      top : (r d : ℕ) → r ≤ d → (d - r) + (r + 2) ≡ d + 2
      top r d l = omega (arith, l)

      total : (b2 d2 b1 c d1 z w n : ℕ) → b2 ≤ d2 → b2 ≡ b1 + c → d2 ≡ d1 + z → c ≡ w → z ≡ 0 → d1 ≡ n → b1 + w ≤ n
      total b2 d2 b1 c d1 z w n p q r s t u = omega (arith, p, q, r, s, t, u)

  -- the flats of the level are put behind those of smaller rank
  pub listed-next : (r : ℕ) (level : List (Set × List (List K))) → IsLevel ring numbers arr r level
      → (fs : List Flat) → fs ≡ flats_below ring numbers arr r
      → fs ++ map (λ (e : Set × List (List K)). record { rank = r; set = e.0 }) level ≡ flats_below ring numbers arr (r + 1)
  listed-next r level is fs e =
      let sets = sym (map-same (λ s. record { rank = r; set = s }) (λ (e : Set × List (List K)). e.0) (λ e. record { rank = r; set = e.0 }) level (λ x c. refl)) in
      (λ i. e i ++ sets i) ∙ ap (λ ss. flats_below ring numbers arr r ++ map (λ s. record { rank = r; set = s }) ss) is.sets ∙ sym (below-next r)

  pub level-length : (r : ℕ) (level : List (Set × List (List K))) → IsLevel ring numbers arr r level
      → length level ≡ length (flats_of_rank ring numbers arr r)
  level-length r level is = sym (length-map level (λ (e : Set × List (List K)). e.0)) ∙ ap (λ (ss : List Set). length ss) is.sets

  -- where the next rank has more flats than there is room for, there are too many
  pub too-many : (r : ℕ) (level : List (Set × List (List K))) → IsLevel ring numbers arr r level → r ≤ arr.dim
      → (before room most : ℕ) → before ≡ length (flats_below ring numbers arr r)
      → most ≤ room + before + length level → room < length (flats_of_rank ring numbers arr (r + 1)) → most < length (flats ring numbers arr)
  too-many r level is l before room most e h m =
      let few = below-few r l in
      let next = ap (λ (fs : List Flat). length fs) (below-next r) ∙ length-append (flats_below ring numbers arr r) (ranked r) in
      let same = length-map (flats_of_rank ring numbers arr r) (λ s. record { rank = r; set = s }) in
      total _ _ _ _ _ _ _ _ few next same (level-length r level is) e h m
    where
      total : (b1 w b0 x y n lv before : ℕ) → b1 + w ≤ n → b1 ≡ b0 + x → x ≡ y → lv ≡ y → before ≡ b0
          → most ≤ room + before + lv → room < w → most < n
      total b1 w b0 x y n lv before p q s t u v z = omega (arith, p, q, s, t, u, v, z)
