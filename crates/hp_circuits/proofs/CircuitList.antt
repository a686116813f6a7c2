-- The search for circuits gives each once; where a member's coefficient is zero for all forms that are left it gives none; from the empty set and all forms it gives all circuits.
use Rattle.std.specs.Prelude.{◌≡◌, ◌≢◌, ◌↔◌, ℕ, zero, suc, ◌≤◌, ◌<◌, Bool, true, false, not, List, [], ◌∷◌, ◌++◌, map, length, filter, Contains, ◌⊎◌}
use Rattle.std.proofs.lemmas.List.Elements.{Contains-append_cases}
use mathlib.Core.Logic.{inl, inr}
use mathlib.Core.Path.{refl, sym, ◌∙◌, subst}
use native.Mathlib.Omega.{arith}
use Rattle.hp_algebra.specs.Rows.{is_zero_row}
use Rattle.hp_lists.specs.Lists.{Ordered, one_to}
use Rattle.hp_lists.proofs.Distinct.{Distinct, last-cases}
use Rattle.hp_lists.proofs.Members.{Contains-here, Contains-later, Contains-none, Contains-map, map-Contains, filter-Contains, not_both, first_true, second_true}
use Rattle.hp_lists.proofs.Ordered.{Ordered-append, Ordered-filter}
use Rattle.hp_lists.proofs.Ranges.{range_members, members_range, range_rises}
use Rattle.hp_sets.specs.Sets.{Set, IsSetWithin}
use Rattle.hp_sets.proofs.SetLaws.{set_members, empty-set}
use Rattle.hp_arr.specs.Arrangement.{form}
use Rattle.hp_arr.specs.Operations.{first_place}
use Rattle.hp_arr.proofs.ArrangementMatroids.{closure-empty}
use Rattle.hp_arr.proofs.Cuts.{IsIndex}
use Rattle.hp_arr.proofs.Ranks.{rank-low}
use Rattle.hp_arr.proofs.Setting.{Setting, over, n}
use Rattle.hp_circuits.specs.CircuitSteps.{is_full, is_open, is_ready, moved, all_later}
use Rattle.hp_circuits.specs.RowSteps.{share}
use Rattle.hp_circuits.specs.declared.circuit_search.Later.{Later}
use Rattle.hp_circuits.proofs.Remainders.{at, share-value, complement-empty, remainder-zero}
use Rattle.hp_circuits.proofs.CircuitClosures.{Circuit, end_has, end_keeps}
use Rattle.hp_circuits.proofs.CircuitClasses.{coefficient, full-at, IsExpressed, expressed-empty}
use Rattle.hp_circuits.proofs.CircuitGrowth.{zero-stays}
use Rattle.hp_circuits.proofs.CircuitSearch.{IsBefore, names-unique, filter-none, moved-rising, IsSearched, IsFound, searched-rest, searched-child, child-over, child-expressed, off_zero, fewer, search_circuits, search-right, search-finds}

-- one set with different last members
ends-distinct : {K : Type 0} (T : Set) (ws : List (Later K)) → Ordered IsBefore ws
    → ((w : Later K) → Contains ws w → (k : ℕ) → Contains T k → k < w.name)
    → Distinct (map (λ (w : Later K). T ++ w.name ∷ []) ws)
ends-distinct T [] r o = tt
ends-distinct {K} T (w ∷ ws) r o = (
  (λ y c e. let m = map-Contains (λ (w : Later K). T ++ w.name ∷ []) ws y c in
      apart m.0 m.1 (last-cases T m.0.name w.name (subst (λ (z : Set). Contains z w.name) (e ∙ sym m.2) (end_has T w.name)))),
  ends-distinct T ws r.1 (λ v c. o v (Contains-later w ws v c)),
)
  where
    self : (k : ℕ) → k < k → ⊥
    self k l = omega arith

    clash : (a b : ℕ) → a < b → b ≡ a → ⊥
    clash a b l e = omega arith

    apart : (v : Later K) → Contains ws v → Contains T w.name ⊎ (v.name ≡ w.name) → ⊥
    apart v c (inl m) = self w.name (o w (Contains-here w ws) w.name m)
    apart v c (inr e) = clash w.name v.name (r.0 v c) e

flip : (b : Bool) → not b ≡ true → b ≡ false
flip true e = sym e
flip false e = refl

module _ {K : Type 0} (S : Setting K) where
  open S use {ring, inverse, numbers, arr, field}

  less : (a f : ℕ) → suc a ≤ suc f → a ≤ f
  less a f l = omega arith

  -- each circuit comes once
  pub search-once : (f : ℕ) (T : Set) (later : List (Later K)) → length later ≤ f → IsSearched S T later
      → Distinct (search_circuits S f T later)
  search-once zero T later l H = tt
  search-once (suc f) T [] l H = tt
  search-once (suc f) T (d ∷ later) l H =
      Ordered-append (λ x y. x ≢ y) (A ++ B) C
      (Ordered-append (λ x y. x ≢ y) A B (ends-distinct T' (filter (is_ready ring) child) (Ordered-filter IsBefore (is_ready ring) child (moved-rising S q d later H.rising.1))
      (λ w c. child-over S T d later H q off w (filter-Contains (is_ready ring) child w c).0))
      (search-once f T' opens (fewer S q d later f l) H') (λ U V a b e. pair_deeper U V a b e))
      (search-once f T later (less _ f l) (searched-rest S T d later H))
      (λ U V a b e. with_without U V (Contains-append_cases A B U a) b e)
    where
      q : ℕ
      q = first_place ring d.rest

      off : at S d.rest q ≢ ring.zero
      off = off_zero S T d later H

      child : List (Later K)
      child = map (moved ring inverse q d) later

      T' : Set
      T' = T ++ d.name ∷ []

      opens : List (Later K)
      opens = filter (is_open ring) child

      H' : IsSearched S T' opens
      H' = searched-child S T d later H q off

      A : List Set
      A = map (λ (w : Later K). T' ++ w.name ∷ []) (filter (is_ready ring) child)

      B : List Set
      B = search_circuits S f T' opens

      C : List Set
      C = search_circuits S f T later

      self : (k : ℕ) → k < k → ⊥
      self k l = omega arith

      clash : (a b : ℕ) → a < b → b ≡ a → ⊥
      clash a b l e = omega arith

      pair_deeper : (U V : Set) → Contains A U → Contains B V → U ≡ V → ⊥
      pair_deeper U V a b e =
          let m = map-Contains (λ (w : Later K). T' ++ w.name ∷ []) (filter (is_ready ring) child) U a in
          let r = filter-Contains (is_ready ring) child m.0 m.1 in
          let F = search-right S f T' opens (fewer S q d later f l) H' V b in
          apart m.0 r.0 r.1 (F.rest m.0.name (subst (λ (z : Set). Contains z m.0.name) (m.2 ∙ e) (end_has T' m.0.name)))
        where
          apart : (w : Later K) → Contains child w → is_ready ring w ≡ true
              → Contains T' w.name ⊎ ((v : Later K) × Contains opens v × (v.name ≡ w.name)) → ⊥
          apart w c r (inl k) = self w.name (child-over S T d later H q off w c w.name k)
          apart w c r (inr v) =
              let o = filter-Contains (is_open ring) child v.0 v.1 in
              let same : v.0 ≡ w = names-unique child (moved-rising S q d later H.rising.1) v.0 w o.0 c v.2 in
              not_both _ (first_true (is_zero_row ring w.rest) (is_full ring w.coefficients) r) (flip _ (subst (λ (z : Later K). is_open ring z ≡ true) same o.1))

      with_without : (U V : Set) → Contains A U ⊎ Contains B U → Contains C V → U ≡ V → ⊥
      with_without U V a b e =
          apart ((search-right S f T later (less _ f l) (searched-rest S T d later H) V b).rest d.name (subst (λ (z : Set). Contains z d.name) e (has a)))
        where
          has : Contains A U ⊎ Contains B U → Contains U d.name
          has (inl m) =
              let w = map-Contains (λ (w : Later K). T' ++ w.name ∷ []) (filter (is_ready ring) child) U m in
              subst (λ (z : Set). Contains z d.name) w.2 (end_keeps T' w.0.name d.name (end_has T d.name))
          has (inr m) = (search-right S f T' opens (fewer S q d later f l) H' U m).part d.name (end_has T d.name)

          apart : Contains T d.name ⊎ ((w : Later K) × Contains later w × (w.name ≡ d.name)) → ⊥
          apart (inl m) = self d.name (H.over d (Contains-here d later) d.name m)
          apart (inr w) = clash d.name w.0.name (H.rising.0 w.0 w.1) w.2

  -- Where the coefficient of a member is zero for all forms that are left, nothing is found.
  pub search-pruned : (f : ℕ) (T : Set) (later : List (Later K)) → length later ≤ f → IsSearched S T later → (s : ℕ)
      → Contains T s
      → ((d : Later K) → Contains later d → coefficient S d.coefficients T s ≡ ring.zero)
      → search_circuits S f T later ≡ []
  search-pruned zero T later l H s m z = refl
  search-pruned (suc f) T [] l H s m z = refl
  search-pruned (suc f) T (d ∷ later) l H s m z =
      let a : filter (is_ready ring) child ≡ [] = filter-none (is_ready ring) child (λ w c. ready w c (is_ready ring w) refl) in
      let b = search-pruned f T' opens (fewer S q d later f l) H' s (end_keeps T d.name s m) (λ w c. stays w (filter-Contains (is_open ring) child w c).0) in
      let c = search-pruned f T later (less _ f l) (searched-rest S T d later H) s m (λ w k. z w (Contains-later d later w k)) in
      λ i. (map (λ (w : Later K). T' ++ w.name ∷ []) (a i) ++ b i) ++ c i
    where
      q : ℕ
      q = first_place ring d.rest

      off : at S d.rest q ≢ ring.zero
      off = off_zero S T d later H

      child : List (Later K)
      child = map (moved ring inverse q d) later

      T' : Set
      T' = T ++ d.name ∷ []

      opens : List (Later K)
      opens = filter (is_open ring) child

      H' : IsSearched S T' opens
      H' = searched-child S T d later H q off

      stays : (w : Later K) → Contains child w → coefficient S w.coefficients T' s ≡ ring.zero
      stays w c =
          let u = map-Contains (moved ring inverse q d) later w c in
          let D = H.expressed d (Contains-here d later) in
          let E = H.expressed u.0 (Contains-later d later u.0 u.1) in
          subst (λ (y : Later K). coefficient S y.coefficients T' s ≡ ring.zero) u.2
          (zero-stays S T d.name s (share ring inverse q d.rest u.0.rest) d.coefficients u.0.coefficients (share-value S q d.rest u.0.rest D.remainder.row E.remainder.row off) D.count E.count D.coefficients E.coefficients m
          (z d (Contains-here d later)) (z u.0 (Contains-later d later u.0 u.1)))

      ready : (w : Later K) → Contains child w → (b : Bool) → is_ready ring w ≡ b → is_ready ring w ≡ false
      ready w c false e = e
      ready w c true e =
          let E = child-expressed S T d later H q off w c in
          absurd (full-at S w.coefficients T' s E.coefficients E.count (end_keeps T d.name s m) (second_true (is_zero_row ring w.rest) (is_full ring w.coefficients) e) (stays w c))

  -- So no circuit has all of T and otherwise only such forms.
  pub pruned-none : (T : Set) (later : List (Later K)) → IsSearched S T later → (s : ℕ) → Contains T s
      → ((d : Later K) → Contains later d → coefficient S d.coefficients T s ≡ ring.zero) → (U : Set)
      → IsFound S T later U → ⊥
  pruned-none T later H s m z U F = Contains-none U (subst (λ (us : List Set). Contains us U) (search-pruned (length later) T later (same _) H s m z) (search-finds S (length later) T later (same _) H U F))
    where
      same : (k : ℕ) → k ≤ k
      same k = omega arith

  -- ---- the start: the empty set with all forms

  abbrev pub start : List (Later K)
  start = all_later S.arr (one_to (n S))

  -- what its members are
  start-form : (d : Later K) → Contains start d
      → (j : ℕ) × IsIndex arr j × (record { name = j; rest = form arr j; coefficients = [] } ≡ d)
  start-form d c =
      let m = map-Contains (λ j. record { name = j; rest = form arr j; coefficients = [] }) (one_to (n S)) d c in
      let r = range_members m.0 1 (n S) m.1 in
      (m.0, (r.0, omega (arith, r.1)), m.2)

  start-index : (d : Later K) → Contains start d → IsIndex arr d.name
  start-index d c = let m = start-form d c in subst (λ (z : Later K). IsIndex arr z.name) m.2 m.1

  start-expressed : (d : Later K) → Contains start d → IsExpressed S [] [] d.name d.rest d.coefficients
  start-expressed d c = let m = start-form d c in subst (λ (z : Later K). IsExpressed S [] [] z.name z.rest z.coefficients) m.2 (expressed-empty S m.0 m.1)

  start-rising : (names : List ℕ) → Ordered (λ x y. x < y) names → Ordered IsBefore (all_later arr names)
  start-rising [] r = tt
  start-rising (j ∷ names) r = (
    (λ d c. let m = map-Contains (λ j. record { name = j; rest = form arr j; coefficients = [] }) names d c in subst (λ (z : Later K). j < z.name) m.2 (r.0 m.0 m.1)),
    start-rising names r.1,
  )

  pub search-start : IsSearched S [] start
  search-start = record {
    up = empty-set (n S);
    independent = low _ (rank-low (over S) []);
    places = [];
    complement = complement-empty S;
    index = start-index;
    over = λ d c k m. absurd (Contains-none k m);
    rising = start-rising (one_to (n S)) (range_rises 1 (n S));
    expressed = start-expressed;
    apart = λ d c z. Contains-none d.name (subst (λ (s : Set). Contains s d.name) (closure-empty S)
        ((remainder-zero S [] [] d.name d.rest (start-index d c) (complement-empty S) (start-expressed d c).remainder).0 z));
  }
    where
      low : (r : ℕ) → r ≤ 0 → r ≡ 0
      low r l = omega arith

  abbrev pub circuits_found : List Set
  circuits_found = search_circuits S (length start) [] start

  full : length start ≤ length start
  full = omega arith

  -- Exactly the circuits are found,
  pub circuits-found : (U : Set) → Contains circuits_found U ↔ (IsSetWithin (n S) U × Circuit S U)
  circuits-found U = (
    (λ c. let F = search-right S (length start) [] start full search-start U c in (F.up, F.circuit)),
    λ h. search-finds S (length start) [] start full search-start U record {
      up = h.0;
      circuit = h.1;
      part = λ j c. absurd (Contains-none j c);
      rest = λ j c. let r = set_members (n S) U j h.0 c in inr (
        record { name = j; rest = form arr j; coefficients = [] },
        Contains-map (λ j. record { name = j; rest = form arr j; coefficients = [] }) (one_to (n S)) j (members_range j 1 (n S) r.0 (omega (arith, r.1))),
        refl,
      );
    },
  )

  -- each once.
  pub circuits-once : Distinct circuits_found
  circuits-once = search-once (length start) [] start full search-start
