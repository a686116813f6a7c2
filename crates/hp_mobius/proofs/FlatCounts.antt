-- The deletion and the restriction of an affine arrangement have no more flats than the arrangement.
use Rattle.std.specs.Prelude.{◌≡◌, ◌≢◌, ℕ, suc, ◌+◌, ◌≤◌, List, [], ◌∷◌, ◌++◌, map, length, Contains}
use Rattle.std.proofs.lemmas.List.{length-map}
use mathlib.Core.Path.{refl, sym, ap, ◌∙◌, subst}
use native.Mathlib.Omega.{arith}
use Rattle.hp_lists.specs.Lists.{one_to, Ordered}
use Rattle.hp_lists.proofs.Members.{Contains-here, Contains-later, map-Contains}
use Rattle.hp_lists.proofs.Insertions.{once-few}
use Rattle.hp_sets.specs.Sets.{Set, contains}
use Rattle.hp_sets.specs.declared.flat.Flat.{Flat}
use Rattle.hp_arr.specs.Flats.{rank, flats, IsFlat}
use Rattle.hp_arr.specs.Operations.{deletion, restriction}
use Rattle.hp_arr.proofs.ArrangementMatroids.{index-ground}
use Rattle.hp_matroid.specs.Matroids.{Within}
use Rattle.hp_matroid.proofs.Subsets.{clash, within-cons, contains-map}
use Rattle.hp_matroid.proofs.Triple as triple
use Rattle.hp_matroid.proofs.Expansion.{closure_closure}
use Rattle.hp_matroid.proofs.RisingSets.{set-rises, set-from_rises}
use Rattle.hp_matroid.proofs.CentralSets.{central-closure}
use Rattle.hp_matroid.proofs.CentralMinors.{IsCentralMinor, lift-within, central-flat_lift}
use Rattle.hp_arr.proofs.ConePoints.{AffineSetting, n}
use Rattle.hp_arr.proofs.ConeMatroids.{affine_matroid, central, central-laws, flat-central, central-flat, flat-set}
use Rattle.hp_arr.proofs.FlatList.{flats-complete, flats-distinct}
use Rattle.hp_arr.proofs.AffineDeletion.{deleted, old_name, deletion-IsCentral}
use Rattle.hp_mobius.proofs.TripleSums.{restriction_of, cut_name, restriction-IsCentral}

-- a map that tells members apart keeps a list without repeats
map-once : {X Y : Type 0} (f : X → Y) (xs : List X) → Ordered (λ x y. x ≢ y) xs → ((x y : X) → Contains xs x → Contains xs y → f x ≡ f y → x ≡ y) → Ordered (λ x y. x ≢ y) (map f xs)
map-once f [] o h = tt
map-once f (x ∷ xs) o h = (
  (λ z c e.
      let w = map-Contains f xs z c in
      o.0 w.0 w.1 (h x w.0 (Contains-here x xs) (Contains-later x xs w.0 w.1) (e ∙ sym w.2))),
  map-once f xs o.1 (λ y z c d. h y z (Contains-later x xs y c) (Contains-later x xs z d)),
)

module _ {K : Type 0} (S T : AffineSetting K) (base : Set) (c : ℕ) (name : ℕ → ℕ) (is : IsCentralMinor (affine_matroid S) (affine_matroid T) (central S) (central T) base c name) where
  lifted : Flat → Flat
  lifted f = let g = (affine_matroid S).closure (base ++ map name f.set) in record { rank = rank S.ring S.numbers S.arr g; set = g }

  pub fewer-flats : length (flats T.ring T.numbers T.arr) ≤ length (flats S.ring S.numbers S.arr)
  unfolding lifted
  fewer-flats =
      subst (λ k. k ≤ length (flats S.ring S.numbers S.arr)) (length-map (flats T.ring T.numbers T.arr) lifted)
      (once-few (map lifted (flats T.ring T.numbers T.arr)) (flats S.ring S.numbers S.arr)
      (map-once lifted (flats T.ring T.numbers T.arr) (flats-distinct T) apart)
      (λ z d. let w = map-Contains lifted (flats T.ring T.numbers T.arr) z d in subst (λ y. Contains (flats S.ring S.numbers S.arr) y) w.2 (among w.0 w.1)))
    where
      set-of : (f : Flat) → Contains (flats T.ring T.numbers T.arr) f → IsFlat T.ring T.numbers T.arr f.set × (f.rank ≡ rank T.ring T.numbers T.arr f.set)
      set-of f d = (flats-complete T f).0 d

      within : (f : Flat) → Contains (flats T.ring T.numbers T.arr) f → Within f.set (one_to (n T))
      within f d = (set-rises (n T) f.set (flat-set T f.set (set-of f d).0)).1

      among : (f : Flat) → Contains (flats T.ring T.numbers T.arr) f → Contains (flats S.ring S.numbers S.arr) (lifted f)
      among f d =
          let M = affine_matroid S in
          let s : Set = base ++ map name f.set in
          let w = lift-within is (central-laws S) f.set (within f d) in
          let o = (flat-central T f.set (set-of f d).0).pointed in
          (flats-complete S (lifted f)).1 (
            central-flat S (M.closure s) (record {
              set = set-from_rises (n S) (M.closure s) (M.laws.closure_rises s) (M.laws.closure_within s);
              pointed = central-closure M (central S) (central-laws S) s w ∙ sym (is.centrals f.set (within f d)) ∙ o;
              closed = closure_closure M s;
            }),
            refl,
          )

      apart : (f g : Flat) → Contains (flats T.ring T.numbers T.arr) f → Contains (flats T.ring T.numbers T.arr) g → lifted f ≡ lifted g → f ≡ g
      apart f g d e h =
          let sf = set-of f d in
          let sg = set-of g e in
          let cf = flat-central T f.set sf.0 in
          let cg = flat-central T g.set sg.0 in
          let rf = set-rises (n T) f.set cf.set in
          let rg = set-rises (n T) g.set cg.set in
          let same : f.set ≡ g.set = central-flat_lift is (central-laws S) f.set g.set rf.0 rg.0 rf.1 rg.1 cf.closed cg.closed cf.pointed cg.pointed (ap (λ (x : Flat). x.set) h) in
          let ranks : f.rank ≡ g.rank = sf.1 ∙ ap (rank T.ring T.numbers T.arr) same ∙ sym sg.1 in
          λ k. record { rank = ranks k; set = same k }

module _ {K : Type 0} (S : AffineSetting K) (i : ℕ) (low : 1 ≤ i) (high : i ≤ n S) where
  plus_zero : (a b : ℕ) → a ≡ b → a + 0 ≡ b
  plus_zero a b e = omega (arith, e)

  plus_one : (a b : ℕ) → suc a ≡ b → a + 1 ≡ b
  plus_one a b e = omega (arith, e)

  deletion-minor : IsCentralMinor (affine_matroid S) (affine_matroid (deleted S i low high)) (central S) (central (deleted S i low high)) [] 0 (old_name i)
  deletion-minor =
      let d = deletion-IsCentral S i low high in
      let m = n (deleted S i low high) in
      record {
        based = λ j h. clash (sym h);
        named = λ j h. triple.remove-within i (one_to (n S)) (old_name i j) (ap (λ l. contains l (old_name i j)) (sym d.names) ∙ contains-map (old_name i) (one_to m) j h);
        centrals = d.centrals;
        ranks = λ s w o. plus_zero _ _ (d.ranks s w o);
      }

  pub deletion-flats : length (flats S.ring S.numbers (deletion S.arr i)) ≤ length (flats S.ring S.numbers S.arr)
  deletion-flats = fewer-flats S (deleted S i low high) [] 0 (old_name i) deletion-minor

  module _ (two : 2 ≤ S.arr.dim) where
    restriction-minor : IsCentralMinor (affine_matroid S) (affine_matroid (restriction_of S i low high two)) (central S) (central (restriction_of S i low high two)) (i ∷ []) 1 (cut_name S i low high)
    restriction-minor =
        let r = restriction-IsCentral S i low high two in
        let m = n (restriction_of S i low high two) in
        let name = cut_name S i low high in
        record {
          based = within-cons i [] (one_to (n S)) (index-ground (n S) i low high) (λ j h. clash (sym h));
          named = λ j h. triple.remove-within i (one_to (n S)) (name j) (r.within (name j) (contains-map name (one_to m) j h));
          centrals = r.centrals;
          ranks = λ s w o. plus_one _ _ (r.ranks s w o);
        }

    pub restriction-flats : length (flats S.ring S.numbers (restriction S.ring S.inverse S.arr i)) ≤ length (flats S.ring S.numbers S.arr)
    restriction-flats = fewer-flats S (restriction_of S i low high two) (i ∷ []) 1 (cut_name S i low high) restriction-minor
