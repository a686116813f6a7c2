-- The rows of the first map are looked at from the last to the first: what is left are the kept rows.
use Rattle.std.specs.Prelude.{◌≡◌, ◌⊎◌, ℕ, zero, suc, ◌+◌, ◌<◌, List, [], ◌∷◌, ◌++◌, length, All, remove}
use Rattle.std.proofs.lemmas.List.Elements.{All-nil, All-cons, All-head, All-tail}
use Rattle.std.proofs.Common.{append_assoc}
use mathlib.Core.Logic.{inl, inr}
use mathlib.Core.Path.{refl, sym, ap, ◌∙◌, subst}
use native.Mathlib.Omega.{arith}
use Rattle.hp_algebra.specs.Ring.{RingOf, IsRing, IsCommutative, IsField}
use Rattle.hp_minres.specs.Grids.{zeros, combine, cell, IsRowOf, IsGrid, IsExactAt}
use Rattle.hp_minres.specs.Reductions.{IsUnit, IsKeptDownTo, constant_term}
use Rattle.hp_poly.specs.Polynomials.{Poly, poly_ring}
use Rattle.hp_poly.specs.PolyRing.{poly_is_ring}
use Rattle.hp_module.specs.Vectors.{Vector, IsVector, IsKept, IsKeptAfter}
use Rattle.hp_minres.proofs.GridRows.{unit}
use Rattle.hp_minres.proofs.KeptRows.{cancelled_generated, clean_not_generated, kept_vectors, remove_middle}

module _ {F : Type 0} {ring : RingOf F} {inverse : F → F} (field : IsField ring inverse) (width : ℕ) where
  open ring use {zero as 0ₖ, one as 1ₖ, IsValue}

  abbrev laws : IsRing ring
  laws = field.is_ring

  abbrev comm : IsCommutative ring
  comm = field.commutes

  abbrev PR : RingOf (Poly F)
  PR = poly_ring ring

  abbrev P : IsRing (poly_ring ring)
  P = poly_is_ring laws comm

  abbrev V : Vector F → Type 0
  V v = IsVector ring width v

  abbrev combined : (ℕ → Poly F) → List (Vector F) → ℕ → Poly F
  combined q vs = combine PR (length vs) q (cell PR vs)

  -- ---- the loop over the rows of the first map, from the last to the first

  append_nil : (xs : List (Vector F)) → xs ++ [] ≡ xs
  append_nil [] = refl
  append_nil (x ∷ xs) = ap (λ ys. x ∷ ys) (append_nil xs)

  pub kept_start : (vs : List (Vector F)) → IsKeptDownTo ring width (length vs) vs vs
  kept_start vs = record { before = vs; later = []; kept = []; place = refl; original = sym (append_nil vs); current = sym (append_nil vs); is_kept = refl }

  pub kept_end : (vs ws : List (Vector F)) → IsKeptDownTo ring width 0 vs ws → IsKept ring width vs ws
  kept_end vs ws z = go z.before z.place z.original z.current z.is_kept
    where
      go : (before : List (Vector F)) → length before ≡ 0 → vs ≡ before ++ z.later → ws ≡ before ++ z.kept → IsKeptAfter ring width before z.later z.kept → IsKept ring width vs ws
      go [] e f g k = subst (λ (t : List (Vector F) × List (Vector F)). IsKept ring width t.0 t.1) {x = (z.later, z.kept)} {y = (vs, ws)} (λ i. (sym f i, sym g i)) k
      go (x ∷ xs) e f g k = absurd (none (length xs) e)
        where
          none : (n : ℕ) → suc n ≡ 0 → ⊥
          none n e = omega arith

  -- the last of a list
  last_of : (c : ℕ) (xs : List (Vector F)) → length xs ≡ suc c → (ys : List (Vector F)) × (y : Vector F) × (xs ≡ ys ++ y ∷ []) × (length ys ≡ c)
  last_of c [] e = absurd (none c e)
    where
      none : (n : ℕ) → 0 ≡ suc n → ⊥
      none n e = omega arith
  last_of zero (x ∷ xs) e = ([], x, ap (λ ys. x ∷ ys) (empty xs (shorter (length xs) 0 e)), refl)
    where
      shorter : (m n : ℕ) → suc m ≡ suc n → m ≡ n
      shorter m n e = omega arith

      empty : (ys : List (Vector F)) → length ys ≡ 0 → ys ≡ []
      empty [] e = refl
      empty (y ∷ ys) e = absurd (none (length ys) e)
        where
          none : (n : ℕ) → suc n ≡ 0 → ⊥
          none n e = omega arith
  last_of (suc c) (x ∷ xs) e = let r = last_of c xs (shorter (length xs) (suc c) e) in (x ∷ r.0, r.1, ap (λ ys. x ∷ ys) r.2, ap suc r.3)
    where
      shorter : (m n : ℕ) → suc m ≡ suc n → m ≡ n
      shorter m n e = omega arith

  -- the row at c with what comes before it and after it
  record Opened (c : ℕ) (vs ws : List (Vector F)) : Type 0 where
    front' : List (Vector F)
    row : Vector F
    later : List (Vector F)
    kept : List (Vector F)
    place : length front' ≡ c
    original : vs ≡ front' ++ row ∷ later
    current : ws ≡ front' ++ row ∷ kept
    is_kept : IsKeptAfter ring width (front' ++ row ∷ []) later kept
    front_vectors : All V front'
    row_vector : V row
    later_vectors : All V later
    kept_vectors' : All V kept

  opened : (c : ℕ) (vs ws : List (Vector F)) → All V vs → IsKeptDownTo ring width (suc c) vs ws → Opened c vs ws
  opened c vs ws h z =
      let l = last_of c z.before z.place in
      let e : vs ≡ l.0 ++ l.1 ∷ z.later = z.original ∙ ap (λ b. b ++ z.later) l.2 ∙ append_assoc l.0 (l.1 ∷ []) z.later in
      let h' : All V (l.0 ++ l.1 ∷ z.later) = subst (All V) e h in
      let k = subst (λ b. IsKeptAfter ring width b z.later z.kept) l.2 z.is_kept in
      let hl = part_right l.0 (l.1 ∷ z.later) h' in
      record {
        front' = l.0;
        row = l.1;
        later = z.later;
        kept = z.kept;
        place = l.3;
        original = e;
        current = z.current ∙ ap (λ b. b ++ z.kept) l.2 ∙ append_assoc l.0 (l.1 ∷ []) z.kept;
        is_kept = k;
        front_vectors = part_left l.0 (l.1 ∷ z.later) h';
        row_vector = All-head V l.1 z.later hl;
        later_vectors = All-tail V l.1 z.later hl;
        kept_vectors' = kept_vectors field width (l.0 ++ l.1 ∷ []) z.later z.kept k (All-tail V l.1 z.later hl);
      }
    where
      part_left : (xs ys : List (Vector F)) → All V (xs ++ ys) → All V xs
      part_left [] ys h = All-nil V
      part_left (x ∷ xs) ys h = All-cons V x xs (All-head V x (xs ++ ys) h) (part_left xs ys (All-tail V x (xs ++ ys) h))

      part_right : (xs ys : List (Vector F)) → All V (xs ++ ys) → All V ys
      part_right [] ys h = h
      part_right (x ∷ xs) ys h = part_right xs ys (All-tail V x (xs ++ ys) h)

  -- A relation of the current rows with a unit at c, and at the places after c zeros and units: row c goes.
  pub kept_removed : (c : ℕ) (vs ws : List (Vector F)) → All V vs → IsKeptDownTo ring width (suc c) vs ws → (q : ℕ → Poly F) → IsRowOf PR (length ws) q → combined q ws ≡ zeros PR → IsUnit ring (q c)
      → ((p : ℕ) → c < p → (q p ≡ []) ⊎ IsUnit ring (q p)) → IsKeptDownTo ring width c vs (remove ws c)
  kept_removed c vs ws h z q row zero_sum unit units = go (opened c vs ws h z)
    where
      go : Opened c vs ws → IsKeptDownTo ring width c vs (remove ws c)
      go o =
          let at_c = sym o.place in
          let g = cancelled_generated field width o.front' o.row o.later o.kept o.is_kept o.front_vectors o.row_vector o.later_vectors q (subst (λ (w : List (Vector F)). IsRowOf PR (length w) q) o.current row)
          (subst (λ (w : List (Vector F)). combined q w ≡ zeros PR) o.current zero_sum) (subst (λ t. IsUnit ring (q t)) at_c unit) (λ p. units (length o.front' + suc p) (more c (length o.front') p o.place)) in
          record {
            before = o.front';
            later = o.row ∷ o.later;
            kept = o.kept;
            place = o.place;
            original = o.original;
            current = (λ k. remove (o.current k) (at_c k)) ∙ remove_middle o.front' o.row o.kept;
            is_kept = inl (g, o.is_kept);
          }
        where
          more : (c n p : ℕ) → n ≡ c → c < n + suc p
          more c n p e = omega arith

  -- Column c of the next map has no constant term: row c stays.
  pub kept_stays : (c : ℕ) (vs ws : List (Vector F)) → All V vs → IsKeptDownTo ring width (suc c) vs ws → (q : ℕ) (N : ℕ → ℕ → Poly F) → IsGrid PR (length ws) N → IsExactAt PR (length ws) (cell PR ws) q N
      → ((i : ℕ) → constant_term ring (N i c) ≡ 0ₖ) → IsKeptDownTo ring width c vs ws
  kept_stays c vs ws h z q N grid_N exact clean = go (opened c vs ws h z)
    where
      go : Opened c vs ws → IsKeptDownTo ring width c vs ws
      go o = record {
        before = o.front';
        later = o.row ∷ o.later;
        kept = o.row ∷ o.kept;
        place = o.place;
        original = o.original;
        current = o.current;
        is_kept = inr (
          clean_not_generated field width o.front' o.row o.kept o.front_vectors o.row_vector o.kept_vectors' q N (subst (λ (w : List (Vector F)). IsGrid PR (length w) N) o.current grid_N)
              (subst (λ (w : List (Vector F)). IsExactAt PR (length w) (cell PR w) q N) o.current exact) (λ i. ap (λ t. constant_term ring (N i t)) o.place ∙ clean i),
          (o.kept, refl, o.is_kept),
        );
      }
