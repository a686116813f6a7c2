-- The search finds exactly the sets without broken circuit, and each once.
use Rattle.std.specs.Prelude.{◌≡◌, ◌≢◌, ◌↔◌, ℕ, zero, suc, ◌≤◌, Bool, true, false, cond, List, [], ◌∷◌, ◌++◌, Contains, ◌⊎◌}
use Rattle.std.proofs.lemmas.Bool.{cases_eq}
use Rattle.std.proofs.lemmas.List.Elements.{Contains-append_left, Contains-append_right, Contains-append_cases}
use mathlib.Core.Logic.{inl, inr}
use mathlib.Core.Path.{refl, sym, ◌∙◌, subst}
use native.Mathlib.Omega.{arith}
use Rattle.hp_lists.specs.Lists.{one_to}
use Rattle.hp_lists.proofs.Members.{not_both, Contains-here, Contains-later, Contains-cases, Contains-none}
use Rattle.hp_lists.proofs.Distinct.{Distinct}
use Rattle.hp_lists.proofs.Ordered.{Ordered-append}
use Rattle.hp_sets.specs.Sets.{Set, IsSetWithin, contains}
use Rattle.hp_sets.proofs.Parts.{IsPart}
use Rattle.hp_sets.proofs.SetLaws.{contains-Contains, Contains-contains, set-ext}
use Rattle.hp_matroid.specs.Matroids.{Rises, Within}
use Rattle.hp_matroid.proofs.Nbc.{nbc-within}
use Rattle.hp_matroid.proofs.RisingSets.{set-rises, set-from_rises}
use Rattle.hp_arr.proofs.Setting.{Setting, n}
use Rattle.hp_arr.proofs.ArrangementMatroids.{matroid, indices-of as index-of, within-of}
use Rattle.hp_circuits.specs.NbcSearch.{rows_below, are_nonzero, found_from}
use Rattle.hp_circuits.proofs.NbcLaw.{Nbc, nbc-same}
use Rattle.hp_circuits.proofs.NbcRows.{IsNbcWith, with-fewer, with-none, front-rises, nbc-nonzero, with-front}

module _ {K : Type 0} (S : Setting K) where
  open S use {ring, inverse, numbers, arr}

  abbrev found : ℕ → Set → List (List K) → List Set
  found m T rows = found_from S.ring S.inverse m T rows

  abbrev below_of : ℕ → List (List K) → List (List K)
  below_of m rows = rows_below S.ring S.inverse m rows

  -- what is found with suc m in front
  abbrev fronted : ℕ → Set → List (List K) → List Set
  fronted m T rows = found m (suc m ∷ T) (below_of m rows)

  abbrev nonzero : List (List K) → Bool
  nonzero rows = are_nonzero S.ring rows

  -- U has no broken circuit, and is T with some of the numbers up to m.
  pub record IsGrown (m : ℕ) (T U : Set) : Type 0 where
    pub rises : Rises U
    pub within : Within U (one_to (n S))
    pub nbc : Nbc S U
    pub part : IsPart T U
    pub rest : (j : ℕ) → Contains U j → Contains T j ⊎ (j ≤ m)

  -- a set within one without broken circuit has none
  pub nbc-part : (s t : Set) → Rises s → Rises t → IsPart s t → Within t (one_to (n S)) → Nbc S t → Nbc S s
  nbc-part s t rs rt p w h = nbc-same S s ∙ nbc-within (matroid S) s t rs rt (within-of s t p) w (sym (nbc-same S t) ∙ h)

  grown-wider : (m : ℕ) (T U : Set) → IsGrown m T U → IsGrown (suc m) T U
  grown-wider m T U G = record { rises = G.rises; within = G.within; nbc = G.nbc; part = G.part; rest = λ j c. wide j (G.rest j c) }
    where
      wide : (j : ℕ) → Contains T j ⊎ (j ≤ m) → Contains T j ⊎ (j ≤ suc m)
      wide j (inl c) = inl c
      wide j (inr l) = inr (omega (arith, l))

  grown-front : (m : ℕ) (T U : Set) → IsGrown m (suc m ∷ T) U → IsGrown (suc m) T U
  grown-front m T U G =
      record { rises = G.rises; within = G.within; nbc = G.nbc; part = λ j c. G.part j (Contains-later (suc m) T j c); rest = λ j c. wide j (G.rest j c) }
    where
      front : (j : ℕ) → (suc m ≡ j) ⊎ Contains T j → Contains T j ⊎ (j ≤ suc m)
      front j (inl e) = inr (omega (arith, e))
      front j (inr c) = inl c

      wide : (j : ℕ) → Contains (suc m ∷ T) j ⊎ (j ≤ m) → Contains T j ⊎ (j ≤ suc m)
      wide j (inl c) = front j (Contains-cases (suc m) T j c)
      wide j (inr l) = inr (omega (arith, l))

  -- what is found from suc m: from m, and from m with suc m in front
  split : (m : ℕ) (T U : Set) (rows : List (List K)) → IsNbcWith S T (suc m) rows → Contains (found (suc m) T rows) U
      → Contains (found m T rows) U ⊎ ((nonzero (below_of m rows) ≡ true) × Contains (fronted m T rows) U)
  split m T U rows H c = step (Contains-append_cases (found m T rows) _ U c) (nonzero (below_of m rows)) refl
    where
      step : Contains (found m T rows) U ⊎ Contains (cond (nonzero (below_of m rows)) (fronted m T rows) []) U
          → (b : Bool) → nonzero (below_of m rows) ≡ b
          → Contains (found m T rows) U ⊎ ((nonzero (below_of m rows) ≡ true) × Contains (fronted m T rows) U)
      step (inl d) b e = inl d
      step (inr d) true e = inr (e, subst (λ b. Contains (cond b (fronted m T rows) []) U) e d)
      step (inr d) false e = absurd (Contains-none U (subst (λ b. Contains (cond b (fronted m T rows) []) U) e d))

  less : (m : ℕ) → m ≤ suc m
  less m = omega arith

  -- what is found has no broken circuit
  pub found-grown : (m : ℕ) (T : Set) (rows : List (List K)) → IsNbcWith S T m rows → (U : Set)
      → Contains (found m T rows) U → IsGrown m T U
  found-grown zero T rows H U c =
      subst (IsGrown 0 T) (only (Contains-cases T [] U c)) record { rises = H.rises; within = H.within; nbc = H.nbc; part = λ j d. d; rest = λ j d. inl d }
    where
      only : (T ≡ U) ⊎ Contains [] U → T ≡ U
      only (inl e) = e
      only (inr d) = absurd (Contains-none U d)
  found-grown (suc m) T rows H U c =
      elim (split m T U rows H c) [
        | inl d ↦ grown-wider m T U (found-grown m T rows (with-fewer S T (suc m) m rows (less m) H) U d)
        | inr d ↦ grown-front m T U (found-grown m (suc m ∷ T) (below_of m rows) (with-front S T m rows H d.0) U d.1)
      ]

  -- and each such set is found
  pub grown-found : (m : ℕ) (T : Set) (rows : List (List K)) → IsNbcWith S T m rows → (U : Set) → IsGrown m T U
      → Contains (found m T rows) U
  grown-found zero T rows H U G =
      subst (λ V. Contains (T ∷ []) V) (set-ext (n S) (n S) T U (set-from_rises (n S) T H.rises H.within) (set-from_rises (n S) U G.rises G.within) G.part (λ j c. back j c (G.rest j c)))
      (Contains-here T [])
    where
      back : (j : ℕ) → Contains U j → Contains T j ⊎ (j ≤ 0) → Contains T j
      back j c (inl d) = d
      back j c (inr l) = let r = index-of S U G.within j c in absurd (omega (arith, l, r))
  grown-found (suc m) T rows H U G =
      step (contains U (suc m)) refl (λ G'. grown-found m T rows (with-fewer S T (suc m) m rows (less m) H) U G')
      (λ e G'. grown-found m (suc m ∷ T) (below_of m rows) (with-front S T m rows H e) U G')
    where
      step : (b : Bool) → contains U (suc m) ≡ b → (IsGrown m T U → Contains (found m T rows) U)
          → (nonzero (below_of m rows) ≡ true → IsGrown m (suc m ∷ T) U → Contains (fronted m T rows) U)
          → Contains (found (suc m) T rows) U
      step false e without more = Contains-append_left (found m T rows) _ U (without record {
        rises = G.rises;
        within = G.within;
        nbc = G.nbc;
        part = G.part;
        rest = λ j c. low j c (G.rest j c);
      })
        where
          low : (j : ℕ) → Contains U j → Contains T j ⊎ (j ≤ suc m) → Contains T j ⊎ (j ≤ m)
          low j c (inl d) = inl d
          low j c (inr l) = elim (cases_eq j (suc m)) [
            | inl z ↦ absurd (not_both _ (Contains-contains U (suc m) (subst (Contains U) z c)) e)
            | inr z ↦ inr (omega (arith, l, z))
          ]
      step true e without more =
          Contains-append_right (found m T rows) _ U
          (subst (λ b. Contains (cond b (fronted m T rows) []) U) (sym free) (more free record {
            rises = G.rises;
            within = G.within;
            nbc = G.nbc;
            part = part;
            rest = λ j c. low j c (G.rest j c);
          }))
        where
          part : IsPart (suc m ∷ T) U
          part j c = elim (Contains-cases (suc m) T j c) [ inl z ↦ subst (Contains U) z (contains-Contains U (suc m) e) | inr d ↦ G.part j d ]

          free : nonzero (below_of m rows) ≡ true
          free = nbc-nonzero S T m rows H (nbc-part (suc m ∷ T) U (front-rises S T m rows H) G.rises part G.within G.nbc)

          low : (j : ℕ) → Contains U j → Contains T j ⊎ (j ≤ suc m) → Contains (suc m ∷ T) j ⊎ (j ≤ m)
          low j c (inl d) = inl (Contains-later (suc m) T j d)
          low j c (inr l) = elim (cases_eq j (suc m)) [
            | inl z ↦ inl (subst (Contains (suc m ∷ T)) (sym z) (Contains-here (suc m) T))
            | inr z ↦ inr (omega (arith, l, z))
          ]

  -- each comes once
  pub found-once : (m : ℕ) (T : Set) (rows : List (List K)) → IsNbcWith S T m rows → Distinct (found m T rows)
  found-once zero T rows H = ((λ U c. absurd (Contains-none U c)), tt)
  found-once (suc m) T rows H =
      step (nonzero (below_of m rows)) refl (found-once m T rows (with-fewer S T (suc m) m rows (less m) H))
      (λ e. found-once m (suc m ∷ T) (below_of m rows) (with-front S T m rows H e))
    where
      H' : IsNbcWith S T m rows
      H' = with-fewer S T (suc m) m rows (less m) H

      -- the new member is in none that comes without it
      out : (U : Set) → Contains (found m T rows) U → Contains U (suc m) → ⊥
      out U d c = sort ((found-grown m T rows H' U d).rest (suc m) c)
        where
          sort : Contains T (suc m) ⊎ (suc m ≤ m) → ⊥
          sort (inl k) = let h = H.below (suc m) k in omega (arith, h)
          sort (inr l) = omega (arith, l)

      step : (b : Bool) → nonzero (below_of m rows) ≡ b → Distinct (found m T rows)
          → (nonzero (below_of m rows) ≡ true → Distinct (fronted m T rows))
          → Distinct (found m T rows ++ cond (nonzero (below_of m rows)) (fronted m T rows) [])
      step b e without more = subst (λ b. Distinct (found m T rows ++ cond b (fronted m T rows) [])) (sym e) (by b e)
        where
          by : (b : Bool) → nonzero (below_of m rows) ≡ b
              → Distinct (found m T rows ++ cond b (fronted m T rows) [])
          by false e = Ordered-append (λ x y. x ≢ y) (found m T rows) [] without tt (λ U V c d. absurd (Contains-none V d))
          by true e = Ordered-append (λ x y. x ≢ y) (found m T rows) (fronted m T rows) without (more e)
              (λ U V c d z. out U c (subst (λ W. Contains W (suc m)) (sym z) ((found-grown m (suc m ∷ T) (below_of m rows) (with-front S T m rows H e) V d).part (suc m) (Contains-here (suc m) T))))

  -- ---- all of them

  abbrev pub all_found : List Set
  all_found = found_from S.ring S.inverse (n S) [] S.arr.forms

  -- From the empty set with all forms exactly the sets without broken circuit are found,
  pub found-nbc : (U : Set) → Contains all_found U ↔ (IsSetWithin (n S) U × Nbc S U)
  found-nbc U = (
    (λ c. let G = found-grown (n S) [] arr.forms (with-none S) U c in (set-from_rises (n S) U G.rises G.within, G.nbc)),
    λ h. (let r = set-rises (n S) U h.0 in grown-found (n S) [] arr.forms (with-none S) U record {
      rises = r.0;
      within = r.1;
      nbc = h.1;
      part = λ j c. absurd (Contains-none j c);
      rest = λ j c. inr (index-of S U r.1 j c).1;
    }),
  )

  -- and each once.
  pub nbc-once : Distinct all_found
  nbc-once = found-once (n S) [] arr.forms (with-none S)
