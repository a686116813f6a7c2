-- A set without broken circuit with the remainders of the forms below its members, and what one form more makes of them.
use Rattle.std.specs.Prelude.{◌≡◌, ◌≢◌, ◌↔◌, ℕ, suc, ◌-◌, ◌<◌, ◌≤◌, Bool, true, false, not, List, [], ◌∷◌, length, take, min, Contains, ◌⊎◌}
use Rattle.std.proofs.lemmas.Bool.{cases_lt}
use Rattle.std.proofs.lemmas.List.{length-map, length-take, get_or-map, get_or-take, get_or_default}
use Rattle.std.proofs.lemmas.List.Elements.{Contains-get_or}
use mathlib.Core.Logic.{inl, inr}
use mathlib.Core.Path.{refl, sym, ap, ◌∙◌, subst}
use native.Mathlib.Omega.{arith}
use Rattle.hp_algebra.specs.Rows.{is_zero_row}
use Rattle.hp_lists.specs.Lists.{one_to}
use Rattle.hp_lists.proofs.Members.{all-at, all-from, Contains-cases, Contains-none}
use Rattle.hp_sets.specs.Sets.{Set, contains}
use Rattle.hp_sets.proofs.SetLaws.{contains-Contains, Contains-contains}
use Rattle.hp_matroid.specs.Matroids.{Rises, Within}
use Rattle.hp_arr.specs.Operations.{first_place}
use Rattle.hp_arr.proofs.Setting.{Setting, n, over}
use Rattle.hp_arr.proofs.ArrangementMatroids.{indices-of, index-ground}
use Rattle.hp_arr.proofs.Cuts.{IsIndex, AreIndices, flat-members}
use Rattle.hp_circuits.specs.RowSteps.{reduced}
use Rattle.hp_circuits.specs.NbcSearch.{row_at, rows_below, are_nonzero}
use Rattle.hp_circuits.proofs.Remainders.{at, zeros, IsComplement, IsRemainder, complement-empty, remainder-empty, complement-grows, remainder-grows, remainder-zero, nonzero-row, fails-row, first-off}
use Rattle.hp_circuits.proofs.NbcLaw.{Nbc, Flat, empty-nbc, cons-nbc, nbc-least}

module _ {K : Type 0} (S : Setting K) where
  open S use {ring, inverse, numbers, arr, lawful}

  -- A set without broken circuit, and remainders of the forms 1 to m that lie below its members. None is zero.
  pub record IsNbcWith (T : Set) (m : ℕ) (rows : List (List K)) : Type 0 where
    pub rises : Rises T
    pub within : Within T (one_to (n S))
    pub nbc : Nbc S T
    pub long : m ≤ length rows
    pub few : m ≤ n S
    pub below : (i : ℕ) → Contains T i → m < i
    pub places : List ℕ
    pub complement : IsComplement S T places
    pub remainders : (k : ℕ) → k < m → IsRemainder S T places (suc k) (row_at rows k)
    pub apart : (k : ℕ) → k < m → row_at rows k ≢ zeros S

  -- fewer of the forms
  pub with-fewer : (T : Set) (m k : ℕ) (rows : List (List K)) → k ≤ m → IsNbcWith T m rows → IsNbcWith T k rows
  with-fewer T m k rows l H = record {
    rises = H.rises;
    within = H.within;
    nbc = H.nbc;
    long = (let h = H.long in omega (arith, l, h));
    few = (let h = H.few in omega (arith, l, h));
    below = λ i c. (let h = H.below i c in omega (arith, l, h));
    places = H.places;
    complement = H.complement;
    remainders = λ j h. H.remainders j (omega (arith, l, h));
    apart = λ j h. H.apart j (omega (arith, l, h));
  }

  -- the empty set with all forms
  pub with-none : IsNbcWith [] (n S) arr.forms
  with-none = record {
    rises = tt;
    within = λ i h. absurd (Contains-none i (contains-Contains [] i h));
    nbc = empty-nbc S;
    long = omega arith;
    few = omega arith;
    below = λ i c. absurd (Contains-none i c);
    places = [];
    complement = complement-empty S;
    remainders = λ k l. subst (λ j. IsRemainder S [] [] (suc k) (row_at arr.forms j)) (back k) (remainder-empty S (suc k) (omega arith, omega (arith, l)));
    apart = λ k l. nonzero-row S (row_at arr.forms k) (lawful.no_zero k [] l);
  }
    where
      back : (k : ℕ) → suc k - 1 ≡ k
      back k = omega arith

  below-length : (m : ℕ) (rows : List (List K)) → m ≤ length rows → length (take m rows) ≡ m
  below-length m rows l = length-take m rows ∙ least m (length rows) l
    where
      least : (a b : ℕ) → a ≤ b → min a b ≡ a
      least a b l = omega (arith, l)

  pub rows_below-length : (m : ℕ) (rows : List (List K)) → m ≤ length rows → length (rows_below ring inverse m rows) ≡ m
  rows_below-length m rows l = length-map (take m rows) _ ∙ below-length m rows l

  module _ (T : Set) (m : ℕ) (rows : List (List K)) (H : IsNbcWith T (suc m) rows) where
    abbrev v : List K
    v = row_at rows m

    abbrev q : ℕ
    q = first_place S.ring (row_at rows m)

    abbrev child : List (List K)
    child = rows_below S.ring S.inverse m rows

    shorter : m ≤ length rows
    shorter = let h = H.long in omega (arith, h)

    child-at : (k : ℕ) → k < m → row_at child k ≡ reduced ring inverse q v (row_at rows k)
    child-at k l =
        let e = below-length m rows shorter in
        get_or-map (reduced ring inverse q v) (take m rows) k [] [] (omega (arith, l, e)) ∙ ap (reduced ring inverse q v) (get_or-take m rows k [] l)

    top : IsRemainder S T H.places (suc m) v
    top = H.remainders m (omega arith)

    off : at S v q ≢ ring.zero
    off = first-off S v top.row (H.apart m (omega arith))

    index : (k : ℕ) → k ≤ m → IsIndex arr (suc k)
    index k l = let h = H.few in (omega arith, omega (arith, l, h))

    pub front-rises : Rises (suc m ∷ T)
    front-rises = ((λ j h. H.below j (contains-Contains T j h)), H.rises)

    pub front-within : Within (suc m ∷ T) (one_to (n S))
    front-within j h = step (Contains-cases (suc m) T j (contains-Contains (suc m ∷ T) j h))
      where
        step : (suc m ≡ j) ⊎ Contains T j → contains (one_to (n S)) j ≡ true
        step (inl e) = let r = H.few in index-ground (n S) j (omega (arith, e)) (omega (arith, e, r))
        step (inr c) = H.within j (Contains-contains T j c)

    indices : AreIndices arr (suc m ∷ T)
    indices = indices-of S (suc m ∷ T) front-within

    complement : IsComplement S (suc m ∷ T) (q ∷ H.places)
    complement = complement-grows S T H.places (suc m) v q indices H.complement top off

    pub remainder : (k : ℕ) → k < m → IsRemainder S (suc m ∷ T) (q ∷ H.places) (suc k) (row_at child k)
    remainder k l =
        subst (IsRemainder S (suc m ∷ T) (q ∷ H.places) (suc k)) (sym (child-at k l))
        (remainder-grows S T H.places (suc m) (suc k) v (row_at rows k) q (index m (omega arith)) top (H.remainders k (omega (arith, l))) off)

    -- a form below is in the span of the set with the new member exactly where its remainder becomes zero
    pub class-flat : (k : ℕ) → k < m → (row_at child k ≡ zeros S) ↔ Contains (Flat S (suc m ∷ T)) (suc k)
    class-flat k l = remainder-zero S (suc m ∷ T) (q ∷ H.places) (suc k) (row_at child k) (index k (omega (arith, l))) complement (remainder k l)

    pub child-length : length child ≡ m
    child-length = rows_below-length m rows shorter

    nonzero-at : are_nonzero ring child ≡ true → (k : ℕ) → k < m → row_at child k ≢ zeros S
    nonzero-at e k l = nonzero-row S (row_at child k) (flip _ (all-at (λ w. not (is_zero_row ring w)) child (row_at child k) e (Contains-get_or child k [] (omega (arith, l, c)))))
      where
        c : length child ≡ m
        c = child-length

        flip : (b : Bool) → not b ≡ true → b ≡ false
        flip true z = sym z
        flip false z = refl

    -- The new member makes a set without broken circuit exactly where none of the remainders below becomes zero.
    pub nonzero-nbc : are_nonzero ring child ≡ true → Nbc S (suc m ∷ T)
    nonzero-nbc e = cons-nbc S (suc m) T front-rises front-within H.nbc (λ c f. elim (cases_lt c (suc m)) [
      | inl l ↦ absurd (low c (flat-members (over S) (suc m ∷ T) c f).0.0 l f)
      | inr l ↦ l
    ])
      where
        low : (c : ℕ) → 1 ≤ c → c < suc m → Contains (Flat S (suc m ∷ T)) c → ⊥
        low c h l f =
            let back : suc (c - 1) ≡ c = omega (arith, h) in
            let under : c - 1 < m = omega (arith, h, l) in
            nonzero-at e (c - 1) under ((class-flat (c - 1) under).1 (subst (Contains (Flat S (suc m ∷ T))) (sym back) f))

    pub nbc-nonzero : Nbc S (suc m ∷ T) → are_nonzero ring child ≡ true
    nbc-nonzero b = all-from (λ w. not (is_zero_row ring w)) child (λ w c. ap not (one w c))
      where
        one : (w : List K) → Contains child w → is_zero_row ring w ≡ false
        one w (k, l, e) =
            let under : k < m = omega (arith, l, child-length) in
            let there : row_at child k ≡ w = get_or_default child k [] w l ∙ e in
            subst (λ u. is_zero_row ring u ≡ false) there (fails-row S (row_at child k) (remainder k under).row
            (λ z. absurd (clash k under (nbc-least S (suc m) T front-rises front-within b (suc k) ((class-flat k under).0 z)))))
          where
            clash : (k : ℕ) → k < m → suc m ≤ suc k → ⊥
            clash k a b = omega (arith, a, b)

    -- the new member with the remainders below it
    pub with-front : are_nonzero ring child ≡ true → IsNbcWith (suc m ∷ T) m child
    with-front e = record {
      rises = front-rises;
      within = front-within;
      nbc = nonzero-nbc e;
      long = (let h = child-length in omega (arith, h));
      few = (let h = H.few in omega (arith, h));
      below = λ j c. beyond j (Contains-cases (suc m) T j c);
      places = q ∷ H.places;
      complement = complement;
      remainders = remainder;
      apart = nonzero-at e;
    }
      where
        beyond : (j : ℕ) → (suc m ≡ j) ⊎ Contains T j → m < j
        beyond j (inl e) = omega (arith, e)
        beyond j (inr c) = let h = H.below j c in omega (arith, h)
