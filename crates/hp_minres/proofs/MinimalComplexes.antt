-- Nakayama's lemma for complexes of polynomials: where a column has no constant term, its row of the matrix before is not a
-- combination of the others.
use Rattle.std.specs.Prelude.{◌≡◌, ◌≢◌, ◌⊎◌, ℕ, zero, suc, ◌+◌, ◌<◌, ◌≤◌, List, [], ◌∷◌, length, All, remove, slice_index_or}
use Rattle.std.proofs.lemmas.List.Edits.{length-remove, get_or-remove_below, get_or-remove_above}
use mathlib.Core.Logic.{inl, inr}
use mathlib.Core.Path.{refl, sym, ap, ◌∙◌, subst}
use native.Mathlib.Omega.{arith}
use Rattle.hp_algebra.specs.Ring.{RingOf, IsRing, IsCommutative, IsField}
use Rattle.hp_algebra.proofs.Rings.{neg_neg}
use Rattle.hp_minres.specs.Grids.{skip, zeros, combine, IsRowOf, IsGrid, IsExactAt}
use Rattle.hp_minres.specs.Reductions.{HasStep, constant_term}
use Rattle.hp_poly.specs.Polynomials.{Poly, IsPoly, poly_ring, poly_times, IsHomogeneous}
use Rattle.hp_poly.specs.PolyRing.{poly_is_ring}
use Rattle.hp_mono.specs.Monomials.{degree}
use Rattle.hp_minres.proofs.RangeSums.{neg_zero, put, put_same, skip_above, skip_below, skip_range, three_ways}
use Rattle.hp_minres.proofs.RowSpans.{IsSpanned, spans_unit, unit_spans}
use Rattle.hp_minres.proofs.GridRows.{combine_unit, put_row, unit, unit_row}
use Rattle.hp_minres.proofs.ConstantTerms.{constant_high, constant_negative, constant_nothing, constant_one, constant_poly, constant_sum, constant_unit}
use Rattle.hp_mono.specs.Monomials as mono

-- ---- a list without one place

pub removed_at : {X : Type 0} (xs : List X) (r : ℕ) (d : X) (k : ℕ) → r < length xs → slice_index_or (remove xs r) k d ≡ slice_index_or xs (skip r k) d
removed_at {X} xs r d k l = pick (three_ways k r)
  where
    above : r ≤ k → slice_index_or (remove xs r) k d ≡ slice_index_or xs (skip r k) d
    above b = get_or-remove_above xs r d k b l ∙ ap (λ i. slice_index_or xs i d) (one_more k ∙ sym (skip_above r k b))
      where
        one_more : (k : ℕ) → k + 1 ≡ suc k
        one_more k = omega arith

    pick : (k < r) ⊎ ((k ≡ r) ⊎ (r < k)) → slice_index_or (remove xs r) k d ≡ slice_index_or xs (skip r k) d
    pick (inl b) = get_or-remove_below xs r d k b l ∙ ap (λ i. slice_index_or xs i d) (sym (skip_below r k b))
    pick (inr (inl e)) = above (omega arith)
    pick (inr (inr b)) = above (omega arith)

pub All-remove : {X : Type 0} (P : X → Type 0) (xs : List X) (r : ℕ) → r < length xs → All P xs → All P (remove xs r)
All-remove P xs r l h k d b = subst P (sym (removed_at xs r d k l)) (h (skip r k) d (inside k (length xs) (length (remove xs r)) (length-remove xs r l) b))
  where
    inside : (k n m : ℕ) → m + 1 ≡ n → k < m → skip r k < n
    inside k n m e b = subst (λ t. skip r k < t) (suc_is m n e) (skip_range r m k b)
      where
        suc_is : (m n : ℕ) → m + 1 ≡ n → suc m ≡ n
        suc_is m n e = omega arith

module _ {F : Type 0} (ring : RingOf F) where
  -- no constant term in the maps after the first
  abbrev pub IsClean : (ℕ → ℕ → ℕ → Poly F) → Type 0
  IsClean A = (k i j : ℕ) → constant_term ring (A (suc k) i j) ≡ ring.zero

module _ {F : Type 0} {ring : RingOf F} {inverse : F → F} (field : IsField ring inverse) where
  open ring use {add as ◌⊕◌, mul as ◌⊗◌, neg, zero as 0ₖ, one as 1ₖ, IsValue}

  abbrev laws : IsRing ring
  laws = field.is_ring

  abbrev comm : IsCommutative ring
  comm = field.commutes

  abbrev PR : RingOf (Poly F)
  PR = poly_ring ring

  abbrev P : IsRing (poly_ring ring)
  P = poly_is_ring laws comm

  abbrev ε : Poly F → F
  ε p = constant_term ring p

  neg_one_not_zero : neg 1ₖ ≢ 0ₖ
  neg_one_not_zero e = field.one_zero (sym (neg_neg laws 1ₖ laws.one_value) ∙ ap neg e ∙ neg_zero laws)

  module _ (n q : ℕ) (A N : ℕ → ℕ → Poly F) (m : ℕ) (grid : IsGrid PR m A) (next : IsGrid PR n N) (exact : IsExactAt PR n A q N) where
    -- a relation has no constant term where the next matrix has none
    pub relation_constant : (r : ℕ) → ((i : ℕ) → ε (N i r) ≡ 0ₖ) → (c : ℕ → Poly F) → IsRowOf PR n c → combine PR n c A ≡ zeros PR → ε (c r) ≡ 0ₖ
    relation_constant r z c h e =
        let d = exact.in_image c h e in
        ap (λ u. ε (u r)) d.2 ∙ constant_sum laws comm q d.0 (λ i. N i r) d.1.value (λ i. (next i).value r) z

    -- row i of the next matrix is a relation
    pub next_relation : (i : ℕ) → i < q → combine PR n (N i) A ≡ zeros PR
    next_relation i l = ap (λ u. combine PR n u A) (sym (combine_unit P i q n N next l)) ∙ exact.of_image (unit PR i) (unit_row P i q l)

    -- without columns there is no row, if the next matrix has no constant terms
    pub no_columns : m ≡ 0 → ((i r : ℕ) → ε (N i r) ≡ 0ₖ) → n ≡ 0
    no_columns e z = pick n refl
      where
        pick : (k : ℕ) → n ≡ k → n ≡ 0
        pick zero f = f
        pick (suc k) f = absurd (field.one_zero (sym (constant_one laws comm)
            ∙ relation_constant zero (λ i. z i zero) (unit PR zero) (unit_row P zero n (positive k f))
            (combine_unit P zero n m A grid (positive k f) ∙ (λ t j. (grid zero).end j (from_zero j) t))))
          where
            positive : (k : ℕ) → n ≡ suc k → 0 < n
            positive k f = omega arith

            from_zero : (j : ℕ) → m ≤ j
            from_zero j = omega arith

  -- Nakayama: no row is a combination of the others where its column of the next matrix has no constant term
  pub not_spanned : (n q : ℕ) (A N : ℕ → ℕ → Poly F) (m : ℕ) → IsGrid PR m A → IsGrid PR (suc n) N → IsExactAt PR (suc n) A q N → (r : ℕ) → r ≤ n → ((i : ℕ) → ε (N i r) ≡ 0ₖ)
      → IsSpanned PR n (λ i. A (skip r i)) (A r) → ⊥
  not_spanned n q A N m grid next exact r l z p =
      let c : ℕ → Poly F = put r (PR.neg PR.one) p.0 in
      let h = put_row P r n (PR.neg PR.one) p.0 l (P.neg_value PR.one P.one_value) p.1 in
      neg_one_not_zero (ap neg (sym (constant_one laws comm)) ∙ sym (constant_negative laws comm PR.one P.one_value) ∙ ap ε (sym (put_same r (PR.neg PR.one) p.0))
      ∙ relation_constant (suc n) q A N m grid next exact r z c h (spans_unit P r n m A grid l p))

  -- the converse: a unit in the next matrix makes a row a combination of the others
  pub unit_spanned : (n q : ℕ) (A N : ℕ → ℕ → Poly F) (m : ℕ) → IsGrid PR m A → IsGrid PR (suc n) N → IsExactAt PR (suc n) A q N → (r i : ℕ) → r ≤ n → i < q
      → (w : Poly F) → IsPoly ring w → poly_times ring w (N i r) ≡ PR.one → IsSpanned PR n (λ k. A (skip r k)) (A r)
  unit_spanned n q A N m grid next exact r i l b w vw e = unit_spans P r n m (N i) w A grid l (next i) vw e (next_relation (suc n) q A N m grid next exact i b)

  -- a polynomial of degree 0 without constant term is zero
  pub clean_constant : (p : Poly F) → IsPoly ring p → IsHomogeneous ring 0 p → ε p ≡ 0ₖ → p ≡ []
  clean_constant p h s e = pick (constant_poly laws comm p h s)
    where
      pick : (p ≡ []) ⊎ ((x : F) × IsValue x × (x ≢ 0ₖ) × (p ≡ (mono.one, x) ∷ [])) → p ≡ []
      pick (inl f) = f
      pick (inr f) = absurd (f.2 (sym (constant_unit laws comm f.0 f.1) ∙ ap ε (sym f.3) ∙ e))

  -- an entry of which each term has another degree than 0, or which is zero
  pub entry_clean : (a b : ℕ) (p : Poly F) → IsPoly ring p → HasStep a b p → (a ≡ b → p ≡ []) → ε p ≡ 0ₖ
  entry_clean a b p h s f = pick (three_ways a b)
    where
      pick : (a < b) ⊎ ((a ≡ b) ⊎ (b < a)) → ε p ≡ 0ₖ
      pick (inl l) = constant_high laws comm a b p h s (λ e. omega arith)
      pick (inr (inl e)) = ap ε (f e) ∙ constant_nothing laws comm
      pick (inr (inr l)) = constant_high laws comm a b p h s (λ e. omega arith)
