-- A cover that is put to the flats of its rank.
use Rattle.std.proofs.Common.{◌≡◌, ◌⊎◌, ℕ, ◌<◌, List, ◌∷◌, length, Contains, sym, subst, arith, inl, inr, ◌↔◌, ◌∙◌, true}
use Rattle.std.specs.BTreeMap.{insert_entry, is_at}
use Rattle.std.specs.List.Sorted.{IsStrictlySortedBy}
use Rattle.std.specs.Map.{keys_of, lookup}
use Rattle.std.proofs.lemmas.List.{length-map}
use Rattle.hp_lists.proofs.Members.{Contains-cases, Contains-map, map-Contains}
use Rattle.hp_lists.proofs.Distinct.{sorted-distinct}
use Rattle.hp_lists.proofs.Insertions.{once-few}
use Rattle.hp_lists.proofs.MapInsertions.{entry-cases, key-here, key-stays, lookup-key}
use Rattle.hp_arr.specs.Flats.{flats_of_rank}
use Rattle.hp_sets.specs.Sets.{Set, cmp_listed}
use Rattle.hp_sets.specs.ListedOrder.{cmp_listed_same, cmp_listed_total}
use Rattle.hp_flats.specs.Levels.{IsEntry, AreOfRank}
use Rattle.hp_arr.proofs.ConePoints.{AffineSetting}
use Rattle.hp_arr.proofs.FlatList.{flats_of_rank-complete}
use Rattle.hp_flats.proofs.RankLevels.{entries-flats}
use Rattle.std.specs.Option.{is_some}

module _ {V : Type 0} (es : List (Set × V)) (cover : Set) (v : V) where
  -- the sets are those that were there and the cover
  pub put-keys : (g : Set)
      → Contains (keys_of (insert_entry cmp_listed es cover v)) g ↔ (Contains (keys_of es) g ⊎ (cover ≡ g))
  put-keys g = (forth, back)
    where
      forth : Contains (keys_of (insert_entry cmp_listed es cover v)) g → Contains (keys_of es) g ⊎ (cover ≡ g)
      forth c = pick (entry-cases cmp_listed cmp_listed_total cmp_listed_same cover es v w.0 w.1)
        where
          w : (e : Set × V) × Contains (insert_entry cmp_listed es cover v) e × (e.0 ≡ g)
          w = map-Contains (λ (e : Set × V). e.0) (insert_entry cmp_listed es cover v) g c

          pick : (w.0.1 ≡ v) × (w.0.0 ≡ cover) ⊎ Contains es w.0 → Contains (keys_of es) g ⊎ (cover ≡ g)
          pick (inl f) = inr (sym f.1 ∙ w.2)
          pick (inr d) = inl (subst (Contains (keys_of es)) w.2 (Contains-map (λ (e : Set × V). e.0) es w.0 d))

      back : Contains (keys_of es) g ⊎ (cover ≡ g) → Contains (keys_of (insert_entry cmp_listed es cover v)) g
      back (inl c) = key-stays cmp_listed cmp_listed_total cmp_listed_same cover es v g c
      back (inr e) = subst (Contains (keys_of (insert_entry cmp_listed es cover v))) e (key-here cmp_listed cmp_listed_total cmp_listed_same cover es v)

  -- a look-up tells whether the cover is there
  pub put-there : (is_some (lookup (is_at (cmp_listed cover)) es) ≡ true) ↔ Contains (keys_of es) cover
  put-there = lookup-key cmp_listed cmp_listed_total cmp_listed_same cover es

module _ {K : Type 0} (A : AffineSetting K) (r : ℕ) (es : List (Set × List (List K))) (cover : Set) (rows : List (List K))
    (are : AreOfRank A.ring A.numbers A.arr r es) (is : IsEntry A.ring A.numbers A.arr r cover rows) where
  open A use {ring, numbers, arr}

  pub put-next : IsStrictlySortedBy cmp_listed (keys_of (insert_entry cmp_listed es cover rows))
      → AreOfRank ring numbers arr r (insert_entry cmp_listed es cover rows)
  put-next sorted = record { each = λ f ws c. pick f ws (entry-cases cmp_listed cmp_listed_total cmp_listed_same cover es rows (f, ws) c); sorted = sorted }
    where
      pick : (f : Set) (ws : List (List K)) → (ws ≡ rows) × (f ≡ cover) ⊎ Contains es (f, ws)
          → IsEntry ring numbers arr r f ws
      pick f ws (inl e) = subst (λ z. IsEntry ring numbers arr r z ws) (sym e.1) (subst (IsEntry ring numbers arr r cover) (sym e.0) is)
      pick f ws (inr c) = are.each f ws c

  -- where it is not there, there are more flats of its rank
  pub put-many : (Contains (keys_of es) cover → ⊥) → length es < length (flats_of_rank ring numbers arr r)
  put-many out =
      let l = once-few (cover ∷ keys_of es) (flats_of_rank ring numbers arr r) ((λ y c e. out (subst (Contains (keys_of es)) (sym e) c)), sorted-distinct cmp_listed cmp_listed_total (keys_of es) are.sorted)
      (λ g c. pick g (Contains-cases cover (keys_of es) g c)) in
      omega (arith, l, length-map es (λ (e : Set × List (List K)). e.0))
    where
      pick : (g : Set) → (cover ≡ g) ⊎ Contains (keys_of es) g → Contains (flats_of_rank ring numbers arr r) g
      pick g (inl e) = subst (Contains (flats_of_rank ring numbers arr r)) e ((flats_of_rank-complete A r cover).1 (is.is_flat, is.has_rank))
      pick g (inr c) = entries-flats A r es are g c
