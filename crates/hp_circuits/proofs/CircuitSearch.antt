-- All circuits by a search through independent sets in rising order, with early ends: each circuit comes once.
use Rattle.std.specs.Prelude.{◌≡◌, ◌≢◌, ◌↔◌, ℕ, zero, suc, ◌≤◌, ◌<◌, Bool, true, false, cond, not, List, [], ◌∷◌, ◌++◌, map, length, filter, Contains, ◌⊎◌}
use Rattle.std.proofs.lemmas.Bool.{and_from}
use Rattle.std.proofs.lemmas.List.{length-map}
use Rattle.std.proofs.lemmas.List.Elements.{Contains-append_left, Contains-append_right, Contains-append_cases}
use mathlib.Core.Logic.{inl, inr}
use mathlib.Core.Path.{refl, sym, ap, ◌∙◌, subst}
use native.Mathlib.Omega.{arith}
use Rattle.hp_algebra.specs.Rows.{is_zero_row}
use Rattle.hp_lists.specs.Lists.{Ordered}
use Rattle.hp_lists.proofs.Distinct.{last-cases}
use Rattle.hp_lists.proofs.Members.{Contains-here, Contains-later, Contains-cases, Contains-none, Contains-map, map-Contains, Contains-filter, filter-Contains, decide, not_both, first_true, second_true}
use Rattle.hp_lists.proofs.Ordered.{Ordered-filter}
use Rattle.hp_sets.specs.Sets.{Set, contains}
use Rattle.hp_sets.proofs.Parts.{IsPart}
use Rattle.hp_sets.proofs.SetLaws.{contains-Contains, Contains-contains, set_members, set-ext}
use Rattle.hp_arr.specs.Operations.{first_place}
use Rattle.hp_arr.proofs.Cuts.{IsIndex, AreIndices}
use Rattle.hp_arr.proofs.Setting.{Setting, n, rk}
use Rattle.hp_matroid.proofs.NbcCounts.{length-filter_low}
use Rattle.hp_circuits.specs.CircuitSteps.{is_full, is_open, is_ready, moved, moved_all, closed}
use Rattle.hp_circuits.specs.declared.circuit_search.Later.{Later}
use Rattle.hp_circuits.proofs.Remainders.{at, zeros, IsComplement, remainder-zero, row-zero, zero-row, first-off}
use Rattle.hp_circuits.proofs.CircuitClosures.{IsSetOf, AllBelow, Circuit, Dependent, end_has, end_keeps, end-set, end-independent, end-dependent, independent-no, circuit-dependent, circuit-whole}
use Rattle.hp_circuits.proofs.CircuitClasses.{IsExpressed, circuit-classes}
use Rattle.hp_circuits.proofs.CircuitGrowth.{complement-end, expressed-grows}

abbrev pub IsBefore : {K : Type 0} → Later K → Later K → Type 0
IsBefore a b = a.name < b.name

pub names-unique : {K : Type 0} (xs : List (Later K)) → Ordered IsBefore xs → (a b : Later K) → Contains xs a
    → Contains xs b → a.name ≡ b.name → a ≡ b
names-unique [] r a b ca cb e = absurd (Contains-none a ca)
names-unique {K} (x ∷ xs) r a b ca cb e = step (Contains-cases x xs a ca) (Contains-cases x xs b cb) (λ p q. names-unique xs r.1 a b p q e)
  where
    clash : (x a b : ℕ) → x ≡ a → x < b → a ≡ b → ⊥
    clash x a b p l q = omega arith

    clash' : (x a b : ℕ) → x ≡ b → x < a → a ≡ b → ⊥
    clash' x a b p l q = omega arith

    step : (x ≡ a) ⊎ Contains xs a → (x ≡ b) ⊎ Contains xs b → (Contains xs a → Contains xs b → a ≡ b) → a ≡ b
    step (inl p) (inl q) ih = sym p ∙ q
    step (inl p) (inr q) ih = absurd (clash x.name a.name b.name (ap (λ (z : Later K). z.name) p) (r.0 b q) e)
    step (inr p) (inl q) ih = absurd (clash' x.name a.name b.name (ap (λ (z : Later K). z.name) q) (r.0 a p) e)
    step (inr p) (inr q) ih = ih p q

pub filter-none : {X : Type 0} (p : X → Bool) (xs : List X) → ((x : X) → Contains xs x → p x ≡ false) → filter p xs ≡ []
filter-none p [] f = refl
filter-none {X} p (x ∷ xs) f = (λ i. cond (f x (Contains-here x xs) i) (x ∷ filter p xs) (filter p xs)) ∙ filter-none p xs (λ y c. f y (Contains-later x xs y c))

flip : (b : Bool) → not b ≡ true → b ≡ false
flip true e = sym e
flip false e = refl

module _ {K : Type 0} (S : Setting K) where
  open S use {ring, inverse, numbers, arr, field}

  -- An independent set, and later forms in rising order whose remainders are not zero, with their data.
  pub record IsSearched (T : Set) (later : List (Later K)) : Type 0 where
    pub up : IsSetOf S T
    pub independent : rk S T ≡ length T
    pub places : List ℕ
    pub complement : IsComplement S T places
    pub index : (d : Later K) → Contains later d → IsIndex arr d.name
    pub over : (d : Later K) → Contains later d → AllBelow T d.name
    pub rising : Ordered IsBefore later
    pub expressed : (d : Later K) → Contains later d → IsExpressed S T places d.name d.rest d.coefficients
    pub apart : (d : Later K) → Contains later d → d.rest ≢ zeros S

  -- U is a circuit that is T with some of the later forms.
  pub record IsFound (T : Set) (later : List (Later K)) (U : Set) : Type 0 where
    pub up : IsSetOf S U
    pub circuit : Circuit S U
    pub part : IsPart T U
    pub rest : (j : ℕ) → Contains U j → Contains T j ⊎ ((d : Later K) × Contains later d × (d.name ≡ j))

  pub searched-rest : (T : Set) (d : Later K) (later : List (Later K)) → IsSearched T (d ∷ later) → IsSearched T later
  searched-rest T d later H = record {
    up = H.up;
    independent = H.independent;
    places = H.places;
    complement = H.complement;
    index = λ e c. H.index e (Contains-later d later e c);
    over = λ e c. H.over e (Contains-later d later e c);
    rising = H.rising.1;
    expressed = λ e c. H.expressed e (Contains-later d later e c);
    apart = λ e c. H.apart e (Contains-later d later e c);
  }

  pub moved-rising : (q : ℕ) (d : Later K) (later : List (Later K)) → Ordered IsBefore later
      → Ordered IsBefore (map (moved ring inverse q d) later)
  moved-rising q d [] r = tt
  moved-rising q d (w ∷ later) r = ((λ y c. let m = map-Contains (moved ring inverse q d) later y c in subst (λ (z : Later K). w.name < z.name) m.2 (r.0 m.0 m.1)), moved-rising q d later r.1)

  module _ (T : Set) (d : Later K) (later : List (Later K)) (H : IsSearched T (d ∷ later)) (q : ℕ) (off : at S d.rest q ≢ S.ring.zero) where
    abbrev i : ℕ
    i = d.name

    abbrev T' : Set
    T' = T ++ d.name ∷ []

    abbrev Child : List (Later K)
    Child = map (moved ring inverse q d) later

    here : Contains (d ∷ later) d
    here = Contains-here d later

    top : IsExpressed S T H.places d.name d.rest d.coefficients
    top = H.expressed d here

    indices : AreIndices arr (d.name ∷ T)
    indices k c = step (Contains-cases d.name T k c)
      where
        step : (d.name ≡ k) ⊎ Contains T k → IsIndex arr k
        step (inl e) = subst (IsIndex arr) e (H.index d here)
        step (inr m) = set_members (n S) T k H.up m

    pub child-up : IsSetOf S (T ++ d.name ∷ [])
    child-up = end-set (n S) T d.name H.up (H.over d here) (H.index d here)

    pub child-independent : rk S (T ++ d.name ∷ []) ≡ length (T ++ d.name ∷ [])
    child-independent = end-independent S T d.name (H.index d here) H.independent
        (λ c. H.apart d here ((remainder-zero S T H.places d.name d.rest (H.index d here) H.complement top.remainder).1 c))

    pub child-complement : IsComplement S (T ++ d.name ∷ []) (q ∷ H.places)
    child-complement = complement-end S T H.places d.name d.rest q indices H.complement top.remainder off

    -- what holds of all forms that are left, also of those whose remainder becomes zero
    pub child-index : (w : Later K) → Contains (map (moved ring inverse q d) later) w → IsIndex arr w.name
    child-index w c = let m = map-Contains (moved ring inverse q d) later w c in subst (λ (z : Later K). IsIndex arr z.name) m.2 (H.index m.0 (Contains-later d later m.0 m.1))

    pub child-over : (w : Later K) → Contains (map (moved ring inverse q d) later) w → (k : ℕ)
        → Contains (T ++ d.name ∷ []) k → k < w.name
    child-over w c k mk = let m = map-Contains (moved ring inverse q d) later w c in subst (λ (z : Later K). k < z.name) m.2 (step m.0 m.1 (last-cases T d.name k mk))
      where
        step : (u : Later K) → Contains later u → Contains T k ⊎ (d.name ≡ k) → k < u.name
        step u cu (inl ck) = H.over u (Contains-later d later u cu) k ck
        step u cu (inr e) = subst (λ z. z < u.name) e (H.rising.0 u cu)

    pub child-expressed : (w : Later K) → Contains (map (moved ring inverse q d) later) w
        → IsExpressed S (T ++ d.name ∷ []) (q ∷ H.places) w.name w.rest w.coefficients
    child-expressed w c =
        let m = map-Contains (moved ring inverse q d) later w c in
        subst (λ (z : Later K). IsExpressed S T' (q ∷ H.places) z.name z.rest z.coefficients) m.2
        (expressed-grows S T H.places d.name m.0.name d.rest d.coefficients m.0.rest m.0.coefficients q indices top (H.expressed m.0 (Contains-later d later m.0 m.1)) off)

    -- The set with d and one form more is a circuit exactly where the remainder becomes zero and no coefficient does.
    pub pair-circuit : (w : Later K) → Contains (map (moved ring inverse q d) later) w
        → Circuit S ((T ++ d.name ∷ []) ++ w.name ∷ []) ↔ ((w.rest ≡ zeros S) × (is_full ring w.coefficients ≡ true))
    pair-circuit w c = circuit-classes S T' child-up child-independent (q ∷ H.places) w.name w.rest w.coefficients (child-index w c) (child-over w c) child-complement (child-expressed w c)

    -- where the remainder becomes zero the set is dependent
    pub pair-dependent : (w : Later K) → Contains (map (moved ring inverse q d) later) w → w.rest ≡ zeros S
        → Dependent S ((T ++ d.name ∷ []) ++ w.name ∷ [])
    pair-dependent w c z = end-dependent S T' w.name ((remainder-zero S T' (q ∷ H.places) w.name w.rest (child-index w c) child-complement (child-expressed w c).remainder).0 z)

    pub child-up_pair : (w : Later K) → Contains (map (moved ring inverse q d) later) w
        → IsSetOf S ((T ++ d.name ∷ []) ++ w.name ∷ [])
    child-up_pair w c = end-set (n S) T' w.name child-up (child-over w c) (child-index w c)

    -- and no circuit has all of it and more
    pub pair-whole : (w : Later K) → Contains (map (moved ring inverse q d) later) w → w.rest ≡ zeros S → (U : Set)
        → IsSetOf S U → Circuit S U → IsPart ((T ++ d.name ∷ []) ++ w.name ∷ []) U
        → ((T ++ d.name ∷ []) ++ w.name ∷ []) ≡ U
    pair-whole w c z U u h p = circuit-whole S U (T' ++ w.name ∷ []) h u (child-up_pair w c) p (pair-dependent w c z)

    pub searched-child : IsSearched (T ++ d.name ∷ []) (filter (is_open ring) (map (moved ring inverse q d) later))
    searched-child = record {
      up = child-up;
      independent = child-independent;
      places = q ∷ H.places;
      complement = child-complement;
      index = λ w c. child-index w (filter-Contains (is_open ring) Child w c).0;
      over = λ w c. child-over w (filter-Contains (is_open ring) Child w c).0;
      rising = Ordered-filter IsBefore (is_open ring) Child (moved-rising q d later H.rising.1);
      expressed = λ w c. child-expressed w (filter-Contains (is_open ring) Child w c).0;
      apart = λ w c z. not_both _ (ap (is_zero_row ring) z ∙ zero-row S arr.dim) (flip _ (filter-Contains (is_open ring) Child w c).1);
    }

  -- ---- the search

  -- The search without the test of columns: the circuits that have T and otherwise only later forms.
  abbrev pub search_circuits : ℕ → Set → List (Later K) → List Set
  search_circuits zero T later = []
  search_circuits (suc f) T [] = []
  search_circuits (suc f) T (d ∷ later) =
      (closed S.ring (T ++ d.name ∷ []) (moved_all S.ring S.inverse d later) ++ search_circuits f (T ++ d.name ∷ []) (filter (is_open S.ring) (moved_all S.ring S.inverse d later)))
      ++ search_circuits f T later

  pub off_zero : (T : Set) (d : Later K) (later : List (Later K)) → IsSearched T (d ∷ later)
      → at S d.rest (first_place ring d.rest) ≢ ring.zero
  off_zero T d later H = first-off S d.rest (H.expressed d (Contains-here d later)).remainder.row (H.apart d (Contains-here d later))

  less : (a f : ℕ) → suc a ≤ suc f → a ≤ f
  less a f l = omega arith

  pub fewer : (q : ℕ) (d : Later K) (later : List (Later K)) (f : ℕ) → suc (length later) ≤ suc f
      → length (filter (is_open ring) (map (moved ring inverse q d) later)) ≤ f
  fewer q d later f l = join _ _ _ _ (length-filter_low (is_open ring) (map (moved ring inverse q d) later)) (length-map later (moved ring inverse q d)) l
    where
      join : (a b c f : ℕ) → a ≤ b → b ≡ c → suc c ≤ suc f → a ≤ f
      join a b c f l e m = omega arith

  -- what is found is a circuit of the kind
  pub search-right : (f : ℕ) (T : Set) (later : List (Later K)) → length later ≤ f → IsSearched T later → (U : Set)
      → Contains (search_circuits f T later) U → IsFound T later U
  search-right zero T later l H U c = absurd (Contains-none U c)
  search-right (suc f) T [] l H U c = absurd (Contains-none U c)
  search-right (suc f) T (d ∷ later) l H U c =
      step (Contains-append_cases (A ++ B) C U c)
      (λ k. search-right f T' opens (fewer q d later f l) H' U k) (λ k. search-right f T later (less _ f l) (searched-rest T d later H) U k)
    where
      q : ℕ
      q = first_place ring d.rest

      off : at S d.rest q ≢ ring.zero
      off = off_zero T d later H

      child : List (Later K)
      child = map (moved ring inverse q d) later

      T' : Set
      T' = T ++ d.name ∷ []

      opens : List (Later K)
      opens = filter (is_open ring) child

      H' : IsSearched T' opens
      H' = searched-child T d later H q off

      A : List Set
      A = map (λ (w : Later K). T' ++ w.name ∷ []) (filter (is_ready ring) child)

      B : List Set
      B = search_circuits f T' opens

      C : List Set
      C = search_circuits f T later

      origin : (w : Later K) → Contains child w → (j : ℕ) → w.name ≡ j
          → (e : Later K) × Contains (d ∷ later) e × (e.name ≡ j)
      origin w k j e = let m = map-Contains (moved ring inverse q d) later w k in (m.0, Contains-later d later m.0 m.1, ap (λ (z : Later K). z.name) m.2 ∙ e)

      from_child : (j : ℕ) → Contains T' j → Contains T j ⊎ ((e : Later K) × Contains (d ∷ later) e × (e.name ≡ j))
      from_child j c = pickup (last-cases T d.name j c)
        where
          pickup : Contains T j ⊎ (d.name ≡ j) → Contains T j ⊎ ((e : Later K) × Contains (d ∷ later) e × (e.name ≡ j))
          pickup (inl m) = inl m
          pickup (inr e) = inr (d, Contains-here d later, e)

      pair : (w : Later K) → Contains child w → is_ready ring w ≡ true → IsFound T (d ∷ later) (T' ++ w.name ∷ [])
      pair w k r = record {
        up = child-up_pair T d later H q off w k;
        circuit = (pair-circuit T d later H q off w k).1 (row-zero S w.rest (child-expressed T d later H q off w k).remainder.row (first_true (is_zero_row ring w.rest) (is_full ring w.coefficients) r), second_true (is_zero_row ring w.rest) (is_full ring w.coefficients) r);
        part = λ j c. end_keeps T' w.name j (end_keeps T d.name j c);
        rest = λ j c. sort j (last-cases T' w.name j c);
      }
        where
          sort : (j : ℕ) → Contains T' j ⊎ (w.name ≡ j)
              → Contains T j ⊎ ((e : Later K) × Contains (d ∷ later) e × (e.name ≡ j))
          sort j (inl m) = from_child j m
          sort j (inr e) = inr (origin w k j e)

      deeper : IsFound T' opens U → IsFound T (d ∷ later) U
      deeper F = record {
        up = F.up;
        circuit = F.circuit;
        part = λ j c. F.part j (end_keeps T d.name j c);
        rest = λ j c. sort j (F.rest j c);
      }
        where
          sort : (j : ℕ) → Contains T' j ⊎ ((e : Later K) × Contains opens e × (e.name ≡ j))
              → Contains T j ⊎ ((e : Later K) × Contains (d ∷ later) e × (e.name ≡ j))
          sort j (inl m) = from_child j m
          sort j (inr w) = inr (origin w.0 (filter-Contains (is_open ring) child w.0 w.1).0 j w.2)

      skipped : IsFound T later U → IsFound T (d ∷ later) U
      skipped F = record { up = F.up; circuit = F.circuit; part = F.part; rest = λ j c. sort j (F.rest j c) }
        where
          sort : (j : ℕ) → Contains T j ⊎ ((e : Later K) × Contains later e × (e.name ≡ j))
              → Contains T j ⊎ ((e : Later K) × Contains (d ∷ later) e × (e.name ≡ j))
          sort j (inl m) = inl m
          sort j (inr w) = inr (w.0, Contains-later d later w.0 w.1, w.2)

      step : Contains (A ++ B) U ⊎ Contains C U → (Contains B U → IsFound T' opens U)
          → (Contains C U → IsFound T later U) → IsFound T (d ∷ later) U
      step (inr k) ih jh = skipped (jh k)
      step (inl k) ih jh = inner (Contains-append_cases A B U k)
        where
          inner : Contains A U ⊎ Contains B U → IsFound T (d ∷ later) U
          inner (inr m) = deeper (ih m)
          inner (inl m) =
              let w = map-Contains (λ (w : Later K). T' ++ w.name ∷ []) (filter (is_ready ring) child) U m in
              let r = filter-Contains (is_ready ring) child w.0 w.1 in
              subst (IsFound T (d ∷ later)) w.2 (pair w.0 r.0 r.1)

  -- and each such circuit is found
  pub search-finds : (f : ℕ) (T : Set) (later : List (Later K)) → length later ≤ f → IsSearched T later → (U : Set)
      → IsFound T later U → Contains (search_circuits f T later) U
  search-finds f T [] l H U F = absurd (independent-no S T H.independent (subst (Dependent S) (sym same) (circuit-dependent S U F.circuit)))
    where
      only : (j : ℕ) → Contains T j ⊎ ((e : Later K) × Contains [] e × (e.name ≡ j)) → Contains T j
      only j (inl m) = m
      only j (inr w) = absurd (Contains-none w.0 w.1)

      same : T ≡ U
      same = set-ext (n S) (n S) T U H.up F.up F.part (λ j c. only j (F.rest j c))
  search-finds zero T (d ∷ later) l H U F = absurd (none _ l)
    where
      none : (k : ℕ) → suc k ≤ 0 → ⊥
      none k l = omega arith
  search-finds (suc f) T (d ∷ later) l H U F =
      step (contains U d.name) refl
      (λ G. search-finds f T' opens (fewer q d later f l) H' U G) (λ G. search-finds f T later (less _ f l) (searched-rest T d later H) U G)
    where
      q : ℕ
      q = first_place ring d.rest

      off : at S d.rest q ≢ ring.zero
      off = off_zero T d later H

      child : List (Later K)
      child = map (moved ring inverse q d) later

      T' : Set
      T' = T ++ d.name ∷ []

      opens : List (Later K)
      opens = filter (is_open ring) child

      H' : IsSearched T' opens
      H' = searched-child T d later H q off

      A : List Set
      A = map (λ (w : Later K). T' ++ w.name ∷ []) (filter (is_ready ring) child)

      B : List Set
      B = search_circuits f T' opens

      C : List Set
      C = search_circuits f T later

      step : (b : Bool) → contains U d.name ≡ b → (IsFound T' opens U → Contains B U)
          → (IsFound T later U → Contains C U) → Contains ((A ++ B) ++ C) U
      step false e ih jh = Contains-append_right (A ++ B) C U (jh record { up = F.up; circuit = F.circuit; part = F.part; rest = λ j c. sort j c (F.rest j c) })
        where
          sort : (j : ℕ) → Contains U j → Contains T j ⊎ ((e : Later K) × Contains (d ∷ later) e × (e.name ≡ j))
              → Contains T j ⊎ ((e : Later K) × Contains later e × (e.name ≡ j))
          sort j c (inl m) = inl m
          sort j c (inr w) = pickup (Contains-cases d later w.0 w.1)
            where
              pickup : (d ≡ w.0) ⊎ Contains later w.0 → Contains T j ⊎ ((e : Later K) × Contains later e × (e.name ≡ j))
              pickup (inr m) = inr (w.0, m, w.2)
              pickup (inl z) = absurd (not_both _ (Contains-contains U d.name (subst (Contains U) (sym (ap (λ (y : Later K). y.name) z ∙ w.2)) c)) e)
      step true e ih jh = Contains-append_left (A ++ B) C U (sort (decide (λ (w : Later K). contains U w.name) (is_open ring) child))
        where
          part : IsPart T' U
          part j c = pickup (last-cases T d.name j c)
            where
              pickup : Contains T j ⊎ (d.name ≡ j) → Contains U j
              pickup (inl m) = F.part j m
              pickup (inr z) = subst (Contains U) z (contains-Contains U d.name e)

          closed : (w : Later K) → Contains child w → contains U w.name ≡ true → is_open ring w ≡ false → Contains A U
          closed w k m o =
              subst (Contains A) whole (Contains-map (λ (w : Later K). T' ++ w.name ∷ []) (filter (is_ready ring) child) w
              (Contains-filter (is_ready ring) child w k (and_from (is_zero_row ring w.rest) (is_full ring w.coefficients) zero_test ((pair-circuit T d later H q off w k).0 (subst (Circuit S) (sym whole) F.circuit)).1)))
            where
              unflip : (b : Bool) → not b ≡ false → b ≡ true
              unflip true e = refl
              unflip false e = sym e

              zero_test : is_zero_row ring w.rest ≡ true
              zero_test = unflip _ o

              inside : (j : ℕ) → Contains T' j ⊎ (w.name ≡ j) → Contains U j
              inside j (inl c) = part j c
              inside j (inr z) = subst (Contains U) z (contains-Contains U w.name m)

              whole : (T' ++ w.name ∷ []) ≡ U
              whole = pair-whole T d later H q off w k (row-zero S w.rest (child-expressed T d later H q off w k).remainder.row zero_test) U F.up F.circuit (λ j c. inside j (last-cases T' w.name j c))

          sort : ((w : Later K) → Contains child w → contains U w.name ≡ true → is_open ring w ≡ true) ⊎ ((w : Later K) × Contains child w × (contains U w.name ≡ true) × (is_open ring w ≡ false))
              → Contains (A ++ B) U
          sort (inr w) = Contains-append_left A B U (closed w.0 w.1 w.2 w.3)
          sort (inl all) = Contains-append_right A B U (ih record { up = F.up; circuit = F.circuit; part = part; rest = λ j c. move j c (F.rest j c) })
            where
              move : (j : ℕ) → Contains U j → Contains T j ⊎ ((e : Later K) × Contains (d ∷ later) e × (e.name ≡ j))
                  → Contains T' j ⊎ ((e : Later K) × Contains opens e × (e.name ≡ j))
              move j c (inl m) = inl (end_keeps T d.name j m)
              move j c (inr w) = pickup (Contains-cases d later w.0 w.1)
                where
                  pickup : (d ≡ w.0) ⊎ Contains later w.0
                      → Contains T' j ⊎ ((e : Later K) × Contains opens e × (e.name ≡ j))
                  pickup (inl z) = inl (subst (Contains T') (ap (λ (y : Later K). y.name) z ∙ w.2) (end_has T d.name))
                  pickup (inr m) =
                      let k = Contains-map (moved ring inverse q d) later w.0 m in
                      inr (moved ring inverse q d w.0, Contains-filter (is_open ring) child (moved ring inverse q d w.0) k (all (moved ring inverse q d w.0) k (subst (λ z. contains U z ≡ true) (sym w.2) (Contains-contains U j c))), w.2)
