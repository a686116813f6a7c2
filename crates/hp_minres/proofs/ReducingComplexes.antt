-- The loop that cancels the units of a complex, map by map and column by column from the last: its steps and its end.
use Rattle.std.specs.Prelude.{◌≡◌, ◌⊎◌, ℕ, zero, suc, ◌<◌, ◌≤◌, List, [], length, All, remove}
use mathlib.Core.Logic.{inl, inr}
use mathlib.Core.Path.{refl, sym, ap, ◌∙◌, subst}
use native.Mathlib.Omega.{arith}
use Rattle.hp_algebra.specs.Ring.{RingOf, IsRing, IsCommutative, IsField}
use Rattle.hp_algebra.specs.Rows.{entry}
use Rattle.hp_poly.specs.Polynomials.{Poly, poly_ring}
use Rattle.hp_poly.specs.PolyRing.{poly_is_ring}
use Rattle.hp_module.specs.Vectors.{Vector, IsVector, IsKept}
use Rattle.hp_minres.specs.Grids.{skip, cell}
use Rattle.hp_minres.specs.Reductions.{Rows, rows_at, level_size, level_degree, level_map, IsUnit, HasNoUnitAt, IsGradedExact, IsCancelledAt, IsUnitAt, IsKeptDownTo, IsReducing, IsReducingOf, IsReduced, constant_term}
use Rattle.hp_minres.proofs.RangeSums.{three_ways, skip_above}
use Rattle.hp_minres.proofs.ConstantTerms.{constant_nothing, low_entry}
use Rattle.hp_minres.proofs.MinimalComplexes.{entry_clean, next_relation}
use Rattle.hp_minres.proofs.GradedComplexes.{past, cancelled_clean, cancelled_clean_before}
use Rattle.hp_minres.proofs.CancelledComplexes.{IsCancelled}
use Rattle.hp_minres.proofs.CancelledRows.{exact_complex, rows_cancelled, cancelled_graded_exact}
use Rattle.hp_minres.proofs.KeptLoop.{kept_start, kept_end, kept_removed, kept_stays}

module _ {F : Type 0} {ring : RingOf F} {inverse : F → F} (field : IsField ring inverse) where
  abbrev laws : IsRing ring
  laws = field.is_ring

  abbrev comm : IsCommutative ring
  comm = field.commutes

  abbrev PR : RingOf (Poly F)
  PR = poly_ring ring

  abbrev P : IsRing (poly_ring ring)
  P = poly_is_ring laws comm

  abbrev ε : Poly F → F
  ε p = constant_term ring p

  module _ (width : ℕ) (maps : List (Rows F)) (degrees : List (List ℕ)) where
    abbrev A : ℕ → ℕ → ℕ → Poly F
    A = level_map ring maps

    abbrev D : ℕ → ℕ → ℕ
    D = level_degree degrees

    abbrev size : ℕ → ℕ
    size = level_size width maps

    -- past the rows there is nothing
    every_row : (h c : ℕ) → HasNoUnitAt ring maps degrees (suc h) c → (i : ℕ) → D (suc h) c ≡ D (suc (suc h)) i → A (suc h) i c ≡ []
    every_row h c none i e = pick (three_ways i (length (rows_at maps (suc h))))
      where
        out : length (rows_at maps (suc h)) ≤ i → A (suc h) i c ≡ []
        out l = ap (λ (r : Vector F). entry PR r c) (past (rows_at maps (suc h)) i [] l)

        pick : (i < length (rows_at maps (suc h))) ⊎ ((i ≡ length (rows_at maps (suc h))) ⊎ (length (rows_at maps (suc h)) < i)) → A (suc h) i c ≡ []
        pick (inl l) = none i l e
        pick (inr (inl q)) = out (omega (arith, q))
        pick (inr (inr l)) = out (omega (arith, l))

    -- a column without units has no constant terms
    column_clean : (h c : ℕ) → IsGradedExact ring width maps degrees → HasNoUnitAt ring maps degrees (suc h) c → (i : ℕ) → ε (A (suc h) i c) ≡ ring.zero
    column_clean h c x none i =
        entry_clean field (D (suc h) c) (D (suc (suc h)) i) (A (suc h) i c) ((x.grid (suc h) i).value c) (x.steps (suc h) i c) (every_row h c none i)

    -- map 1 is first, with all columns open
    pub reducing_start : IsGradedExact ring width maps degrees → IsReducing ring width maps degrees 1 (length (rows_at maps 0))
    reducing_start x = record {
      complex = x;
      done = λ j a b. absurd (omega (arith, a, b));
      columns = λ i p l. ap ε ((x.grid 1 i).end p l) ∙ constant_nothing laws comm;
    }

    pub reducing_skip : (h c : ℕ) → IsReducing ring width maps degrees (suc h) (suc c) → HasNoUnitAt ring maps degrees (suc h) c
        → IsReducing ring width maps degrees (suc h) c
    reducing_skip h c x none = record {
      complex = x.complex;
      done = x.done;
      columns = λ i p l. pick i p l (three_ways p c);
    }
      where
        pick : (i p : ℕ) → c ≤ p → (p < c) ⊎ ((p ≡ c) ⊎ (c < p)) → ε (A (suc h) i p) ≡ ring.zero
        pick i p l (inl a) = absurd (omega (arith, l, a))
        pick i p l (inr (inl e)) = ap (λ t. ε (A (suc h) i t)) e ∙ column_clean h c x.complex none i
        pick i p l (inr (inr a)) = x.columns i p (omega (arith, a))

    -- the next map
    pub reducing_next : (k : ℕ) → IsReducing ring width maps degrees k 0 → IsReducing ring width maps degrees (suc k) (length (rows_at maps k))
    reducing_next k x = record {
      complex = x.complex;
      done = λ j a b i p. pick j a i p (three_ways j k) b;
      columns = λ i p l. ap ε ((x.complex.grid (suc k) i).end p l) ∙ constant_nothing laws comm;
    }
      where
        pick : (j : ℕ) → 1 ≤ j → (i p : ℕ) → (j < k) ⊎ ((j ≡ k) ⊎ (k < j)) → j < suc k → ε (A j i p) ≡ ring.zero
        pick j a i p (inl l) b = x.done j a l i p
        pick j a i p (inr (inl e)) b = ap (λ t. ε (A t i p)) e ∙ x.columns i p (omega arith)
        pick j a i p (inr (inr l)) b = absurd (omega (arith, l, b))

    -- past the last map there is nothing
    pub reducing_end : (k c : ℕ) → length maps ≤ k → IsReducing ring width maps degrees k c → (j i p : ℕ) → ε (A (suc j) i p) ≡ ring.zero
    reducing_end k c l x j i p = pick (three_ways (suc j) (length maps))
      where
        out : length maps ≤ suc j → ε (A (suc j) i p) ≡ ring.zero
        out b = ap (λ (rows : Rows F). ε (cell PR rows i p)) (past maps (suc j) [] b) ∙ constant_nothing laws comm

        pick : (suc j < length maps) ⊎ ((suc j ≡ length maps) ⊎ (length maps < suc j)) → ε (A (suc j) i p) ≡ ring.zero
        pick (inl b) = x.done (suc j) (omega arith) (omega (arith, b, l)) i p
        pick (inr (inl e)) = out (omega (arith, e))
        pick (inr (inr b)) = out (omega (arith, b))

    module _ (h r c : ℕ) (w : Poly F) (maps' : List (Rows F)) (degrees' : List (List ℕ)) (u : IsUnitAt ring maps degrees h r c w)
        (z : IsCancelledAt ring maps degrees h r c w maps' degrees') where
      -- Cancelling in column c, the columns after which have no units.
      pub reducing_cancel : IsReducing ring width maps degrees (suc h) (suc c) → IsReducing ring width maps' degrees' (suc h) c
      reducing_cancel x = record {
        complex = cancelled_graded_exact field width maps degrees h r c w maps' degrees' x.complex u z;
        done = λ j a b i p. pick j a i p (three_ways j h) b;
        columns = λ i p l.
            cancelled_clean laws comm size A (exact_complex field x.complex) h r c w (level_size width maps') (level_map ring maps') q p
            (λ t. x.columns t (skip c p) (subst (λ s. suc c ≤ s) (sym (skip_above c p l)) (omega (arith, l)))) i;
      }
        where
          q : IsCancelled PR size A h r c w (level_size width maps') (level_map ring maps')
          q = rows_cancelled field width maps degrees h r c w maps' degrees' x.complex u z

          pick : (j : ℕ) → 1 ≤ j → (i p : ℕ) → (j < h) ⊎ ((j ≡ h) ⊎ (h < j)) → j < suc h → ε (level_map ring maps' j i p) ≡ ring.zero
          pick j a i p (inl l) b =
              ap ε (sym (q.others j (λ e. omega (arith, e, l)) (λ e. omega (arith, e, l)) (λ e. omega (arith, e, l)) i p)) ∙ x.done j a b i p
          pick j a i p (inr (inl e)) b =
              ap (λ t. ε (level_map ring maps' t i p)) e
              ∙ cancelled_clean_before laws comm size A (exact_complex field x.complex) h r c w (level_size width maps') (level_map ring maps') q
              (λ s t. ap (λ u. ε (A u s t)) (sym e) ∙ x.done j a b s t) i p
          pick j a i p (inr (inr l)) b = absurd (omega (arith, l, b))

    -- ---- the rows of the first map

    module _ (vs : List (Vector F)) (vectors : All (IsVector ring width) vs) (c : ℕ)
        (kept : IsKeptDownTo ring width (suc c) vs (rows_at maps 0)) (x : IsGradedExact ring width maps degrees) where
      -- a unit of map 1 in column c and row r: row c of the first map is generated by those before it
      row_removed : (r : ℕ) (w : Poly F) → IsUnitAt ring maps degrees 0 r c w → IsKeptDownTo ring width c vs (remove (rows_at maps 0) c)
      row_removed r w u =
          kept_removed field width c vs (rows_at maps 0) vectors kept (A 1 r) (x.grid 1 r)
          (next_relation field (size 1) (size 2) (A 0) (A 1) (size 0) (x.grid 0) (x.grid 1) (x.exact 0) r u.row_in)
          (w, u.value, u.inverse) (λ p l. side p l (three_ways p (length (rows_at maps 0))))
        where
          rises : (p : ℕ) → c < p → p < length (rows_at maps 0) → D 1 c ≤ D 1 p
          rises p l b = x.in_order 0 c p 0 (omega (arith, l)) (subst (λ k. p < k) (sym (x.lengths 0)) b)

          side : (p : ℕ) → c < p → (p < length (rows_at maps 0)) ⊎ ((p ≡ length (rows_at maps 0)) ⊎ (length (rows_at maps 0) < p)) → (A 1 r p ≡ []) ⊎ IsUnit ring (A 1 r p)
          side p l (inl b) =
              low_entry field (D 1 p) (D 2 r) (A 1 r p) ((x.grid 1 r).value p) (x.steps 1 r p)
              (subst (λ t. t ≤ D 1 p) u.same_degree (rises p l b))
          side p l (inr (inl e)) = inl ((x.grid 1 r).end p (omega (arith, e)))
          side p l (inr (inr b)) = inl ((x.grid 1 r).end p (omega (arith, b)))

      -- no unit in column c: row c of the first map stays
      row_stays : HasNoUnitAt ring maps degrees 1 c → IsKeptDownTo ring width c vs (rows_at maps 0)
      row_stays none = kept_stays field width c vs (rows_at maps 0) vectors kept (size 2) (A 1) (x.grid 1) (x.exact 0) (column_clean 0 c x none)

    -- ---- the whole state

    pub start_of : IsGradedExact ring width maps degrees → IsReducingOf ring width (rows_at maps 0) maps degrees 1 (length (rows_at maps 0))
    start_of x = record {
      reducing = reducing_start x;
      some_map = omega arith;
      going = λ e. kept_start field width (rows_at maps 0);
      kept = λ l. absurd (omega (arith, l));
    }

    module _ (vs : List (Vector F)) (vectors : All (IsVector ring width) vs) where
      pub skip_of : (h c : ℕ) → IsReducingOf ring width vs maps degrees (suc h) (suc c) → HasNoUnitAt ring maps degrees (suc h) c
          → IsReducingOf ring width vs maps degrees (suc h) c
      skip_of h c x none = record {
        reducing = reducing_skip h c x.reducing none;
        some_map = x.some_map;
        going = λ e. row_stays vs vectors c (x.going e) x.reducing.complex (subst (λ k. HasNoUnitAt ring maps degrees k c) e none);
        kept = x.kept;
      }

      pub next_of : (k : ℕ) → IsReducingOf ring width vs maps degrees k 0 → IsReducingOf ring width vs maps degrees (suc k) (length (rows_at maps k))
      next_of k x = record {
        reducing = reducing_next k x.reducing;
        some_map = omega arith;
        going = λ e. absurd (let s = x.some_map in omega (arith, e, s));
        kept = λ l. pick (three_ways k 1);
      }
        where
          pick : (k < 1) ⊎ ((k ≡ 1) ⊎ (1 < k)) → IsKept ring width vs (rows_at maps 0)
          pick (inl b) = let s = x.some_map in absurd (omega (arith, b, s))
          pick (inr (inl e)) = kept_end field width vs (rows_at maps 0) (x.going e)
          pick (inr (inr b)) = x.kept (omega (arith, b))

      pub end_of : (k c : ℕ) → length maps ≤ k → 2 ≤ k → IsReducingOf ring width vs maps degrees k c → IsReduced ring width vs maps degrees
      end_of k c l two x = record { complex = x.reducing.complex; clean = reducing_end k c l x.reducing; kept = x.kept two }

      pub cancel_of : (h r c : ℕ) (w : Poly F) (maps' : List (Rows F)) (degrees' : List (List ℕ)) → IsUnitAt ring maps degrees h r c w
          → IsCancelledAt ring maps degrees h r c w maps' degrees' → IsReducingOf ring width vs maps degrees (suc h) (suc c)
          → IsReducingOf ring width vs maps' degrees' (suc h) c
      cancel_of h r c w maps' degrees' u z x = record {
        reducing = reducing_cancel h r c w maps' degrees' u z x.reducing;
        some_map = x.some_map;
        going = going h u z x;
        kept = kept h u z x;
      }
        where
          going : (h : ℕ) → IsUnitAt ring maps degrees h r c w → IsCancelledAt ring maps degrees h r c w maps' degrees'
              → IsReducingOf ring width vs maps degrees (suc h) (suc c) → suc h ≡ 1 → IsKeptDownTo ring width c vs (rows_at maps' 0)
          going zero u z x e = subst (IsKeptDownTo ring width c vs) (sym z.lower) (row_removed vs vectors c (x.going refl) x.reducing.complex r w u)
          going (suc h) u z x e = absurd (omega (arith, e))

          kept : (h : ℕ) → IsUnitAt ring maps degrees h r c w → IsCancelledAt ring maps degrees h r c w maps' degrees'
              → IsReducingOf ring width vs maps degrees (suc h) (suc c) → 2 ≤ suc h → IsKept ring width vs (rows_at maps' 0)
          kept zero u z x l = absurd (omega (arith, l))
          kept (suc h) u z x l = subst (IsKept ring width vs)
              (sym (z.others 0 (λ e. omega (arith, e)) (λ e. omega (arith, e)) (λ e. omega (arith, e)))) (x.kept l)
