-- The steps of the loops that search for circuits.
use Rattle.std.specs.Prelude.{◌≡◌, ◌≢◌, ℕ, zero, suc, ◌+◌, ◌≤◌, ◌<◌, Bool, true, false, not, if◌then◌else◌, List, [], ◌∷◌, ◌++◌, map, length, filter, take, drop, All, Contains, ◌⊎◌}
use Rattle.std.proofs.lemmas.List.{append_assoc, length-append, map-append, take-append-drop}
use Rattle.std.proofs.lemmas.List.Elements.{All-head, All-tail, Contains-append_right, filter-append}
use mathlib.Core.Logic.{inl, inr}
use mathlib.Core.Path.{refl, sym, ap, ◌∙◌, subst}
use native.Mathlib.Omega.{arith}
use Rattle.hp_algebra.specs.Ring.{RingOf, IsRing, IsField}
use Rattle.hp_algebra.specs.Rows.{entry, row_scale}
use Rattle.hp_algebra.proofs.Rows.{length-plus, length-scale, scale-values, plus-values}
use Rattle.hp_lists.specs.Lists.{Ordered}
use Rattle.hp_lists.proofs.Distinct.{last-cases}
use Rattle.hp_lists.proofs.Members.{Contains-here, Contains-later, map-Contains, filter-Contains}
use Rattle.hp_lists.proofs.Ordered.{Ordered-filter, Ordered-map}
use Rattle.hp_sets.specs.Sets.{Set, IsSetWithin, with_member}
use Rattle.hp_sets.proofs.SetLaws.{set-ext}
use Rattle.hp_sets.proofs.SetMembers.{with-members, members-with, with-set}
use Rattle.hp_arr.specs.Operations.{first_place}
use Rattle.hp_arr.proofs.NonzeroPlaces.{first_nonzero, first_place-is}
use Rattle.hp_circuits.specs.RowSteps.{share, less_multiple}
use Rattle.hp_circuits.specs.CircuitSteps.{is_open, is_ready, is_dead, moved, moved_all, closed, searched}
use Rattle.hp_circuits.specs.Laters.{AreLater}
use Rattle.hp_circuits.specs.declared.circuit_search.Later.{Later}
use Rattle.hp_circuits.proofs.CircuitClosures.{AllBelow, end-set, end_front, front_end}
use Rattle.hp_circuits.proofs.CircuitPruning.{searched-nothing, searched-step}

-- a greater number comes at the end
pub with_member-end : (T : Set) (j : ℕ) → IsSetWithin 64 T → (1 ≤ j) × (j ≤ 64) → AllBelow T j
    → with_member T j ≡ T ++ j ∷ []
with_member-end T j h i below = set-ext 64 64 (with_member T j) (T ++ j ∷ []) (with-set 64 T j h i.1) (end-set 64 T j h below i)
    (λ k c. front_end T j k (with-members T j k c)) (λ k c. members-with T j k h i (end_front T j k c))

flip : (b : Bool) → not b ≡ true → b ≡ false
flip true e = sym e
flip false e = refl

-- ---- later forms from a place on

dropped : {X : Type 0} (k : ℕ) (xs : List X) (x : X) → Contains (drop k xs) x → Contains xs x
dropped k xs x c = subst (λ zs. Contains zs x) (take-append-drop k xs) (Contains-append_right (take k xs) (drop k xs) x c)

Ordered-drop : {X : Type 0} (R : X → X → Type 0) (k : ℕ) (xs : List X) → Ordered R xs → Ordered R (drop k xs)
Ordered-drop R zero xs o = o
Ordered-drop R (suc k) [] o = tt
Ordered-drop R (suc k) (x ∷ xs) o = Ordered-drop R k xs o.1

module _ {K : Type 0} {ring : RingOf K} where
  pub later-drop : (T : Set) (later : List (Later K)) (k : ℕ) → AreLater ring T later → AreLater ring T (drop k later)
  later-drop T later k H = record {
    rising = Ordered-drop (λ (d : Later K) (e : Later K). d.name < e.name) k later H.rising;
    above = λ d c. H.above d (dropped k later d c);
    numbers = λ d c. H.numbers d (dropped k later d c);
    widths = λ d e c f. H.widths d e (dropped k later d c) (dropped k later e f);
    counts = λ d c. H.counts d (dropped k later d c);
    values = λ d c. H.values d (dropped k later d c);
    nonzero = λ d c. H.nonzero d (dropped k later d c);
  }

  -- the number of a later form is above the members with d
  pub above-both : (T : Set) (d : Later K) (later : List (Later K)) → AreLater ring T (d ∷ later) → (u : Later K)
      → Contains later u → AllBelow (T ++ d.name ∷ []) u.name
  above-both T d later H u c k m = step (last-cases T d.name k m)
    where
      step : Contains T k ⊎ (d.name ≡ k) → k < u.name
      step (inl q) = H.above u (Contains-later d later u c) k q
      step (inr e) = subst (λ z. z < u.name) e (H.rising.0 u c)

-- ---- the forms modulo one more

module _ {K : Type 0} {ring : RingOf K} {inverse : K → K} (field : IsField ring inverse) where
  L : IsRing ring
  L = field.is_ring

  entry-any : (x : List K) → All ring.IsValue x → (q : ℕ) → ring.IsValue (entry ring x q)
  entry-any [] v q = L.zero_value
  entry-any (c ∷ x) v zero = All-head ring.IsValue c x v
  entry-any (c ∷ x) v (suc q) = entry-any x (All-tail ring.IsValue c x v) q

  module _ (T : Set) (d : Later K) (later : List (Later K)) (H : AreLater ring T (d ∷ later)) where
    abbrev q : ℕ
    q = first_place ring d.rest

    off : entry ring d.rest q ≢ ring.zero
    off =
        let v = H.values d (Contains-here d later) in
        let k = first_nonzero L d.rest v (H.nonzero d (Contains-here d later)) in
        subst (λ j. entry ring d.rest j ≢ ring.zero) (sym (first_place-is L d.rest v k.0 k.1)) k.1.nonzero

    abbrev factor : Later K → K
    factor u = ring.neg (share ring inverse q d.rest u.rest)

    factor-value : (u : Later K) → Contains later u → ring.IsValue (factor u)
    factor-value u c =
        let vd = entry-any d.rest (H.values d (Contains-here d later)) q in
        let vu = entry-any u.rest (H.values u (Contains-later d later u c)) q in
        L.neg_value _ (L.mul_value _ _ vu (field.inverse_value _ vd off))

    width : (u : Later K) → Contains later u → length (moved ring inverse q d u).rest ≡ length u.rest
    width u c = length-plus ring u.rest (row_scale ring (factor u) d.rest) (H.widths u d (Contains-later d later u c) (Contains-here d later) ∙ sym (length-scale ring (factor u) d.rest))

    count : (u : Later K) → Contains later u
        → length (moved ring inverse q d u).coefficients ≡ length (T ++ d.name ∷ [])
    count u c =
        let e = H.counts u (Contains-later d later u c) in
        let f = H.counts d (Contains-here d later) in
        let s = share ring inverse q d.rest u.rest in
        length-append (less_multiple ring s d.coefficients u.coefficients) (s ∷ [])
        ∙ ap (λ k. k + 1) (length-plus ring u.coefficients (row_scale ring (factor u) d.coefficients) (e ∙ sym f ∙ sym (length-scale ring (factor u) d.coefficients)) ∙ e)
        ∙ sym (length-append T (d.name ∷ []))

    values : (u : Later K) → Contains later u → All ring.IsValue (moved ring inverse q d u).rest
    values u c = plus-values L u.rest (row_scale ring (factor u) d.rest) (H.values u (Contains-later d later u c)) (scale-values L (factor u) d.rest (factor-value u c) (H.values d (Contains-here d later)))

    -- which form it was
    origin : (w : Later K) → Contains (filter (is_open ring) (moved_all ring inverse d later)) w
        → (u : Later K) × Contains later u × (moved ring inverse q d u ≡ w) × (is_open ring w ≡ true)
    origin w c =
        let f = filter-Contains (is_open ring) (moved_all ring inverse d later) w c in
        let m = map-Contains (moved ring inverse q d) later w f.0 in
        (m.0, m.1, m.2, f.1)

    pub later-child : AreLater ring (T ++ d.name ∷ []) (filter (is_open ring) (moved_all ring inverse d later))
    later-child = record {
      rising = Ordered-filter (λ (a : Later K) (b : Later K). a.name < b.name) (is_open ring) (moved_all ring inverse d later)
          (Ordered-map (λ (a : Later K) (b : Later K). a.name < b.name) (moved ring inverse q d) later H.rising.1);
      above = λ w c. let o = origin w c in subst (λ (z : Later K). AllBelow (T ++ d.name ∷ []) z.name) o.2 (above-both T d later H o.0 o.1);
      numbers = λ w c. let o = origin w c in subst (λ (z : Later K). (1 ≤ z.name) × (z.name ≤ 64)) o.2 (H.numbers o.0 (Contains-later d later o.0 o.1));
      widths = λ w x c e.
          let o = origin w c in
          let p = origin x e in
          ap (λ (z : Later K). length z.rest) (sym o.2) ∙ width o.0 o.1 ∙ H.widths o.0 p.0 (Contains-later d later o.0 o.1) (Contains-later d later p.0 p.1)
          ∙ sym (width p.0 p.1) ∙ ap (λ (z : Later K). length z.rest) p.2;
      counts = λ w c. let o = origin w c in ap (λ (z : Later K). length z.coefficients) (sym o.2) ∙ count o.0 o.1;
      values = λ w c. let o = origin w c in subst (λ (z : Later K). All ring.IsValue z.rest) o.2 (values o.0 o.1);
      nonzero = λ w c. flip _ (origin w c).3;
    }

-- ---- one form after another

module _ {K : Type 0} (ring : RingOf K) (inverse : K → K) where
  pub open-more : (d : Later K) (xs : List (Later K)) (w m : Later K)
      → m ≡ moved ring inverse (first_place ring d.rest) d w
      → filter (is_open ring) (moved_all ring inverse d (xs ++ w ∷ [])) ≡ filter (is_open ring) (moved_all ring inverse d xs) ++ filter (is_open ring) (m ∷ [])
  open-more d xs w m e =
      let f = moved ring inverse (first_place ring d.rest) d in
      ap (filter (is_open ring)) (map-append f xs (w ∷ [])) ∙ filter-append (is_open ring) (map f xs) (f w ∷ [])
      ∙ ap (λ z. filter (is_open ring) (map f xs) ++ filter (is_open ring) (z ∷ [])) (sym e)

  pub closed-append : (T : Set) (xs ys : List (Later K))
      → closed ring T (xs ++ ys) ≡ closed ring T xs ++ closed ring T ys
  closed-append T xs ys = ap (map (λ (w : Later K). T ++ w.name ∷ [])) (filter-append (is_ready ring) xs ys) ∙ map-append (λ (w : Later K). T ++ w.name ∷ []) (filter (is_ready ring) xs) (filter (is_ready ring) ys)

  pub closed-more : (T : Set) (d : Later K) (xs : List (Later K)) (w m : Later K)
      → m ≡ moved ring inverse (first_place ring d.rest) d w
      → closed ring T (moved_all ring inverse d (xs ++ w ∷ [])) ≡ closed ring T (moved_all ring inverse d xs) ++ closed ring T (m ∷ [])
  closed-more T d xs w m e =
      let f = moved ring inverse (first_place ring d.rest) d in
      ap (closed ring T) (map-append f xs (w ∷ [])) ∙ closed-append T (map f xs) (f w ∷ [])
      ∙ ap (λ z. closed ring T (map f xs) ++ closed ring T (z ∷ [])) (sym e)

  -- what some of the forms close is not more than what all do
  pub closed-few : (T : Set) (d : Later K) (xs ys later : List (Later K)) → xs ++ ys ≡ later
      → length (closed ring T (moved_all ring inverse d xs)) ≤ length (closed ring T (moved_all ring inverse d later))
  closed-few T d xs ys later e =
      let f = moved ring inverse (first_place ring d.rest) d in
      part _ _ _ (ap (λ zs. length (closed ring T (map f zs))) (sym e) ∙ ap (λ zs. length (closed ring T zs)) (map-append f xs ys)
      ∙ ap (λ zs. length zs) (closed-append T (map f xs) (map f ys)) ∙ length-append (closed ring T (map f xs)) (closed ring T (map f ys)))
    where
      part : (a b c : ℕ) → c ≡ a + b → a ≤ c
      part a b c e = omega arith

  -- ---- one turn of the search

  pub extend-dead : (T : Set) (later : List (Later K)) → is_dead ring T later ≡ true
      → searched ring inverse T later ≡ []
  extend-dead T [] e = searched-nothing ring inverse T
  extend-dead T (d ∷ later) e = searched-step ring inverse T d later
      ∙ ap (λ b. if b then [] else ((closed ring (T ++ d.name ∷ []) (moved_all ring inverse d later)
      ++ searched ring inverse (T ++ d.name ∷ []) (filter (is_open ring) (moved_all ring inverse d later))) ++ searched ring inverse T later)) e

  module _ (T : Set) (d : Later K) (later : List (Later K)) (alive : is_dead ring T (d ∷ later) ≡ false) (found total : List Set)
      (start : found ++ searched ring inverse T (d ∷ later) ≡ total) where
    abbrev ready : List Set
    ready = closed ring (T ++ d.name ∷ []) (moved_all ring inverse d later)

    abbrev deeper : List Set
    deeper = searched ring inverse (T ++ d.name ∷ []) (filter (is_open ring) (moved_all ring inverse d later))

    step : searched ring inverse T (d ∷ later) ≡ (ready ++ deeper) ++ searched ring inverse T later
    step = searched-step ring inverse T d later ∙ ap (λ b. if b then [] else ((ready ++ deeper) ++ searched ring inverse T later)) alive

    pub extend-turn : (mid after : List Set)
        → mid ≡ found ++ closed ring (T ++ d.name ∷ []) (moved_all ring inverse d later)
        → after ≡ mid ++ searched ring inverse (T ++ d.name ∷ []) (filter (is_open ring) (moved_all ring inverse d later))
        → after ++ searched ring inverse T later ≡ total
    extend-turn mid after e f =
        ap (λ xs. xs ++ searched ring inverse T later) (f ∙ ap (λ xs. xs ++ deeper) e ∙ append_assoc found ready deeper)
        ∙ append_assoc found (ready ++ deeper) (searched ring inverse T later) ∙ ap (λ xs. found ++ xs) (sym step) ∙ start

    pub extend-longer : (mid : List Set)
        → mid ≡ found ++ closed ring (T ++ d.name ∷ []) (moved_all ring inverse d later)
        → length (mid ++ searched ring inverse (T ++ d.name ∷ []) (filter (is_open ring) (moved_all ring inverse d later))) ≤ length total
    extend-longer mid e = part _ _ _ (ap (λ xs. length xs) (sym (extend-turn mid (mid ++ deeper) e refl)) ∙ length-append (mid ++ deeper) (searched ring inverse T later))
      where
        part : (a b c : ℕ) → c ≡ a + b → a ≤ c
        part a b c e = omega arith

    pub extend-ready : length (found ++ closed ring (T ++ d.name ∷ []) (moved_all ring inverse d later)) ≤ length total
    extend-ready = part _ _ _ _ (extend-longer (found ++ ready) refl) (length-append (found ++ ready) deeper)
      where
        part : (a b c l : ℕ) → l ≤ c → l ≡ a + b → a ≤ c
        part a b c l m e = omega arith
