-- What the loops of the reduction keep, and the whole answer.
use Rattle.std.specs.Prelude.{◌≡◌, ◌≢◌, ◌⊎◌, ℕ, zero, suc, ◌+◌, ◌-◌, ◌<◌, ◌≤◌, List, [], ◌∷◌, length, All, take, slice_index_or}
use Rattle.std.specs.Result.{IfOk}
use Rattle.std.specs.declared.result.Result.{Result}
use Rattle.std.specs.declared.result.Result.TheVariants.{Ok, Err}
use Rattle.std.proofs.lemmas.List.{get_or_default, get_or-take}
use Rattle.std.proofs.lemmas.List.Edits.{length-remove}
use mathlib.Core.Logic.{inl, inr}
use mathlib.Core.Path.{refl, sym, ap, ◌∙◌, subst}
use native.Mathlib.Omega.{arith}
use Rattle.hp_algebra.specs.Ring.{RingOf, IsField}
use Rattle.hp_linear.specs.Matrices.{Matrix}
use Rattle.hp_complex.specs.Complexes.{map_at}
use Rattle.hp_poly.specs.Polynomials.{Poly}
use Rattle.hp_poly.specs.PolyRing.{poly_is_ring}
use Rattle.hp_module.specs.Vectors.{Vector, IsVector, IsKept, zero_vector}
use Rattle.hp_resolution.specs.Resolutions.{Resolution}
use Rattle.hp_minres.specs.Minimised.{HasKeptRows}
use Rattle.hp_minres.specs.Reductions.{Rows, rows_at, level_size, level_degree, level_map, IsGradedExact, HasNoUnitAt, IsReducingOf, IsReduced, AreFull, AreMatricesOf, AreSteps, IsStep, inverse_constant, cancelled_maps, cancelled_degrees}
use Rattle.hp_minres.proofs.RangeSums.{three_ways}
use Rattle.hp_minres.proofs.GridRows.{values_at}
use Rattle.hp_minres.proofs.GradedComplexes.{past}
use Rattle.hp_minres.proofs.CancelledRows.{cancelled_graded_exact}
use Rattle.hp_minres.proofs.ReducingComplexes.{start_of, skip_of, next_of, end_of, cancel_of}
use Rattle.hp_minres.proofs.EliminatedRows.{unit_at, cancelled_at}
use Rattle.hp_minres.proofs.FinishedResolutions.{IsCut}
use Rattle.hp_minres.proofs.KeptNothing.{kept_nothing}

module _ {F : Type 0} {ring : RingOf F} {inverse : F → F} (field : IsField ring inverse) where
  -- no unit in column c of map k
  pub step-none : (k c : ℕ) (maps : List (Rows F)) (degrees : List (List ℕ)) → 1 ≤ k → HasNoUnitAt ring maps degrees k c
      → IsStep ring maps degrees k c maps degrees
  step-none zero c maps degrees l none = absurd (omega (arith, l))
  step-none (suc h) c maps degrees l none = record {
    kept = λ width vs v x. skip_of field width maps degrees vs v h c x none;
    graded = λ width x. x;
    count = refl;
    fewer = λ a b. omega (arith, b);
  }

  -- the unit in row r and column c of map h + 1 is cancelled
  pub step-cancel : (k h r c : ℕ) (maps : List (Rows F)) (degrees : List (List ℕ)) (maps' : List (Rows F)) (degrees' : List (List ℕ))
      → k ≡ suc h → (width : ℕ) × IsGradedExact ring width maps degrees → r < length (rows_at maps (suc h)) → c < length (rows_at maps h)
      → level_degree degrees (suc h) c ≡ level_degree degrees (suc (suc h)) r → level_map ring maps (suc h) r c ≢ []
      → maps' ≡ cancelled_maps ring inverse maps h r c → degrees' ≡ cancelled_degrees degrees h r c
      → IsStep ring maps degrees k c maps' degrees'
  step-cancel k h r c maps degrees maps' degrees' e x0 a b same n em ed =
      subst (λ (t : ℕ × List (Rows F) × List (List ℕ)). IsStep ring maps degrees t.0 c t.1 t.2)
      {x = (suc h, cancelled_maps ring inverse maps h r c, cancelled_degrees degrees h r c)} {y = (k, maps', degrees')}
      (λ t. (sym e t, sym em t, sym ed t)) step
    where
      step : IsStep ring maps degrees (suc h) c (cancelled_maps ring inverse maps h r c) (cancelled_degrees degrees h r c)
      step = record {
        kept = λ width vs v s.
            let x = s.reducing.complex in
            cancel_of field width maps degrees vs v h r c (inverse_constant ring inverse (level_map ring maps (suc h) r c))
            (cancelled_maps ring inverse maps h r c) (cancelled_degrees degrees h r c)
            (unit_at field x h r c a b same n) (cancelled_at field x h r c a b same n) s;
        graded = λ width x.
            cancelled_graded_exact field width maps degrees h r c (inverse_constant ring inverse (level_map ring maps (suc h) r c))
            (cancelled_maps ring inverse maps h r c) (cancelled_degrees degrees h r c) x
            (unit_at field x h r c a b same n) (cancelled_at field x h r c a b same n);
        count = (cancelled_at field x0.1 h r c a b same n).same_count;
        fewer = λ p q.
            let low = ap length (cancelled_at field x0.1 h r c a b same n).lower in
            let m = length-remove (rows_at maps h) c b in
            let back : suc h - 1 ≡ h = omega arith in
            let p' : suc c ≤ length (rows_at maps h) = subst (λ t. suc c ≤ length (rows_at maps t)) back q in
            subst (λ t. c ≤ length (rows_at (cancelled_maps ring inverse maps h r c) t)) (sym back) (omega (arith, low, m, p'));
      }

  -- the same where the column and the rows are read from the lists
  pub column-none : (k c : ℕ) (maps : List (Rows F)) (degrees : List (List ℕ)) (ds : List ℕ) (rows : Rows F) (es : List ℕ) → 1 ≤ k
      → ds ≡ slice_index_or degrees (k - 1) [] → rows ≡ rows_at maps k → es ≡ slice_index_or degrees k []
      → ((i : ℕ) → i < length rows → slice_index_or es i 0 ≡ slice_index_or ds c 0 → slice_index_or (slice_index_or rows i []) c [] ≡ [])
      → IsStep ring maps degrees k c maps degrees
  column-none k c maps degrees ds rows es l ed er ee none =
      let e : k ≡ suc (k - 1) = omega (arith, l) in
      let at : HasNoUnitAt ring maps degrees (suc (k - 1)) c = λ i m q.
      let re : rows ≡ rows_at maps (suc (k - 1)) = er ∙ ap (rows_at maps) e in
      let se : es ≡ slice_index_or degrees (suc (k - 1)) [] = ee ∙ ap (λ t. slice_index_or degrees t []) e in
      ap (λ (rs : Rows F). slice_index_or (slice_index_or rs i []) c []) (sym re)
      ∙ none i (subst (λ (rs : Rows F). i < length rs) (sym re) m)
      (ap (λ (xs : List ℕ). slice_index_or xs i 0) se ∙ sym q ∙ ap (λ (xs : List ℕ). slice_index_or xs c 0) (sym ed)) in
      step-none k c maps degrees l (subst (λ t. HasNoUnitAt ring maps degrees t c) (sym e) at)

  pub column-cancel : (k r c : ℕ) (maps : List (Rows F)) (degrees : List (List ℕ)) (ds : List ℕ) (rows : Rows F) (es : List ℕ)
      (maps' : List (Rows F)) (degrees' : List (List ℕ)) → 1 ≤ k → (width : ℕ) × IsGradedExact ring width maps degrees
      → c < length (rows_at maps (k - 1)) → ds ≡ slice_index_or degrees (k - 1) [] → rows ≡ rows_at maps k → es ≡ slice_index_or degrees k []
      → r < length rows → slice_index_or es r 0 ≡ slice_index_or ds c 0 → slice_index_or (slice_index_or rows r []) c [] ≢ []
      → maps' ≡ cancelled_maps ring inverse maps (k - 1) r c → degrees' ≡ cancelled_degrees degrees (k - 1) r c
      → IsStep ring maps degrees k c maps' degrees'
  column-cancel k r c maps degrees ds rows es maps' degrees' l x b ed er ee a q n em edg =
      let e : k ≡ suc (k - 1) = omega (arith, l) in
      let re : rows ≡ rows_at maps (suc (k - 1)) = er ∙ ap (rows_at maps) e in
      let se : es ≡ slice_index_or degrees (suc (k - 1)) [] = ee ∙ ap (λ t. slice_index_or degrees t []) e in
      step-cancel k (k - 1) r c maps degrees maps' degrees' e x (subst (λ (rs : Rows F). r < length rs) re a) b
      (ap (λ (xs : List ℕ). slice_index_or xs c 0) (sym ed) ∙ sym q ∙ ap (λ (xs : List ℕ). slice_index_or xs r 0) se)
      (λ z. n (ap (λ (rs : Rows F). slice_index_or (slice_index_or rs r []) c []) re ∙ z)) em edg

  pub steps-start : (k n : ℕ) (maps : List (Rows F)) (degrees : List (List ℕ)) → AreSteps ring maps degrees k n maps degrees k n
  steps-start k n maps degrees = record {
    kept = λ width vs v x. x;
    graded = λ width x. x;
    count = refl;
    fewer = λ a b. b;
  }

  pub steps-more : (k n c : ℕ) (maps : List (Rows F)) (degrees : List (List ℕ)) (maps' : List (Rows F)) (degrees' : List (List ℕ))
      (maps'' : List (Rows F)) (degrees'' : List (List ℕ)) → suc c ≤ n → AreSteps ring maps degrees k n maps' degrees' k (suc c)
      → IsStep ring maps' degrees' k c maps'' degrees'' → AreSteps ring maps degrees k n maps'' degrees'' k c
  steps-more k n c maps degrees maps' degrees' maps'' degrees'' l s t = record {
    kept = λ width vs v x. t.kept width vs v (s.kept width vs v x);
    graded = λ width x. t.graded width (s.graded width x);
    count = t.count ∙ s.count;
    fewer = λ a b. t.fewer (omega arith) (s.fewer l b);
  }

  -- ---- all maps

  -- Maps 1 to k - 1 are done.
  pub record AreReducedUpTo (maps : List (Rows F)) (degrees : List (List ℕ)) (k : ℕ) (maps' : List (Rows F)) (degrees' : List (List ℕ)) : Type 0 where
    pub first : 1 ≤ k
    pub count : length maps' ≡ length maps
    pub graded : (width : ℕ) → IsGradedExact ring width maps degrees → IsGradedExact ring width maps' degrees'
    pub state : (width : ℕ) → IsGradedExact ring width maps degrees
        → IsReducingOf ring width (rows_at maps 0) maps' degrees' k (length (rows_at maps' (k - 1)))

  first_vectors : (width : ℕ) (maps : List (Rows F)) (degrees : List (List ℕ)) → IsGradedExact ring width maps degrees
      → All (IsVector ring width) (rows_at maps 0)
  first_vectors width maps degrees x i d l =
      subst (IsVector ring width) (get_or_default (rows_at maps 0) i [] d l)
      (x.widths 0 i l, values_at (poly_is_ring field.is_ring field.commutes) (slice_index_or (rows_at maps 0) i []) (λ j. (x.grid 0 i).value j))

  pub reduced-start : (maps : List (Rows F)) (degrees : List (List ℕ)) → AreReducedUpTo maps degrees 1 maps degrees
  reduced-start maps degrees = record {
    first = omega arith;
    count = refl;
    graded = λ width x. x;
    state = λ width x. start_of field width maps degrees x;
  }

  pub reduced-more : (maps : List (Rows F)) (degrees : List (List ℕ)) (k : ℕ) (maps' : List (Rows F)) (degrees' : List (List ℕ))
      (maps'' : List (Rows F)) (degrees'' : List (List ℕ)) → AreReducedUpTo maps degrees k maps' degrees'
      → AreSteps ring maps' degrees' k (length (rows_at maps' (k - 1))) maps'' degrees'' k 0
      → AreReducedUpTo maps degrees (k + 1) maps'' degrees''
  reduced-more maps degrees k maps' degrees' maps'' degrees'' r s = record {
    first = omega arith;
    count = s.count ∙ r.count;
    graded = λ width x. s.graded width (r.graded width x);
    state = λ width x.
        let v = first_vectors width maps degrees x in
        subst (λ (t : ℕ × ℕ). IsReducingOf ring width (rows_at maps 0) maps'' degrees'' t.0 (length (rows_at maps'' t.1)))
        {x = (suc k, k)} {y = (k + 1, k + 1 - 1)} (λ t. (one t, back t))
        (next_of field width maps'' degrees'' (rows_at maps 0) v k (s.kept width (rows_at maps 0) v (r.state width x)));
  }
    where
      one : suc k ≡ k + 1
      one = omega arith

      back : k ≡ k + 1 - 1
      back = omega arith

  pub reduced-end : (maps : List (Rows F)) (degrees : List (List ℕ)) (k : ℕ) (maps' : List (Rows F)) (degrees' : List (List ℕ)) → length maps ≤ k
      → AreReducedUpTo maps degrees k maps' degrees' → (width : ℕ) → IsGradedExact ring width maps degrees
      → IsReduced ring width (rows_at maps 0) maps' degrees'
  reduced-end maps degrees k maps' degrees' l r width x =
      let v = first_vectors width maps degrees x in
      let c = r.count in
      let f = r.first in
      let s = skip_all k (length (rows_at maps' (k - 1))) r.first (omega (arith, c, l)) (r.state width x) in
      end_of field width maps' degrees' (rows_at maps 0) v (suc k) (length (rows_at maps' k)) (omega (arith, c, l)) (omega (arith, f))
      (next_of field width maps' degrees' (rows_at maps 0) v k s)
    where
      skip_all : (k c : ℕ) → 1 ≤ k → length maps' ≤ k → IsReducingOf ring width (rows_at maps 0) maps' degrees' k c
          → IsReducingOf ring width (rows_at maps 0) maps' degrees' k 0
      skip_all zero c f b s = absurd (omega (arith, f))
      skip_all (suc h) zero f b s = s
      skip_all (suc h) (suc c) f b s =
          let none : HasNoUnitAt ring maps' degrees' (suc h) c = λ i m e. absurd (let z = ap length (past maps' (suc h) [] b) in omega (arith, z, m)) in
          skip_all (suc h) c f b (skip_of field width maps' degrees' (rows_at maps 0) (first_vectors width maps degrees x) h c s none)

  -- ---- the answer

  -- the rows that are kept of vectors that are not all zero
  pub some_kept : (width : ℕ) (vs : List (Vector F)) (maps : List (Rows F)) (degrees : List (List ℕ)) (maps' : List (Rows F)) (degrees' : List (List ℕ))
      → IsGradedExact ring width maps degrees → rows_at maps 0 ≡ vs → IsReduced ring width (rows_at maps 0) maps' degrees'
      → ¬ (All (λ v. v ≡ zero_vector ring width) vs) → rows_at maps' 0 ≢ []
  some_kept width vs maps degrees maps' degrees' x e r n z =
      n (subst (All (λ v. v ≡ zero_vector ring width)) e
      (kept_nothing field.is_ring field.commutes width (rows_at maps 0) (subst (IsKept ring width (rows_at maps 0)) z r.kept)
      (first_vectors width maps degrees x)))

  pub has_kept : (f s : Resolution F) (maps : List (Rows F)) (maps' : List (Rows F)) (degrees' : List (List ℕ)) (width : ℕ)
      → width ≡ (map_at f.maps 0).cols → rows_at maps 0 ≡ (map_at f.maps 0).rows → IsReduced ring width (rows_at maps 0) maps' degrees'
      → map_at s.maps 0 ≡ record { cols = width; rows = rows_at maps' 0 } → HasKeptRows ring f s
  has_kept f s maps maps' degrees' width w e r m = record {
    columns = ap (λ (x : Matrix (Poly F)). x.cols) m ∙ w;
    kept = subst (λ (t : ℕ × List (Vector F) × List (Vector F)). IsKept ring t.0 t.1 t.2)
        {x = (width, rows_at maps 0, rows_at maps' 0)} {y = ((map_at f.maps 0).cols, (map_at f.maps 0).rows, (map_at s.maps 0).rows)}
        (λ t. (w t, e t, (sym m t).rows)) r.kept;
  }

-- ---- the maps as matrices

module _ {F : Type 0} where
  -- The first k maps as matrices; the later ones are still there.
  pub record AreListing (width : ℕ) (maps : List (Rows F)) (k columns : ℕ) (left : List (Rows F)) (mats : List (Matrix (Poly F))) : Type 0 where
    pub same_length : length left ≡ length maps
    pub rest : (j : ℕ) → k ≤ j → rows_at left j ≡ rows_at maps j
    pub next : columns ≡ level_size width maps k
    pub count : length mats ≡ k
    pub each : (j : ℕ) → j < k → map_at mats j ≡ record { cols = level_size width maps j; rows = rows_at maps j }

  pub cut-of : (width n : ℕ) (maps : List (Rows F)) (degrees : List (List ℕ)) (mats : List (Matrix (Poly F))) (kept : List (List ℕ)) → AreFull maps n
      → AreMatricesOf width (take n maps) mats → kept ≡ take n degrees → IsCut width maps degrees n mats kept
  cut-of width n maps degrees mats kept h m e = record {
    within = h.within;
    full = h.full;
    stop = h.stop;
    count = m.count ∙ long;
    each = λ k l. m.each k (omega (arith, long, l)) ∙ (λ t. record { cols = sizes k l t; rows = get_or-take n maps k [] l t });
    degrees_are = e;
  }
    where
      long : length (take n maps) ≡ n
      long = let q = Rattle.std.proofs.lemmas.List.length-take n maps in let w = h.within in omega (arith, q, w)

      sizes : (k : ℕ) → k < n → level_size width (take n maps) k ≡ level_size width maps k
      sizes zero l = refl
      sizes (suc k) l = ap length (get_or-take n maps k [] (omega (arith, l)))

  -- maps with rows at the start
  pub full-some : (maps : List (Rows F)) (n : ℕ) → AreFull maps n → rows_at maps 0 ≢ [] → 1 ≤ n
  full-some maps zero h some = absurd (pick (three_ways 0 (length maps)))
    where
      none : (rows : Rows F) → length rows ≡ 0 → rows ≡ []
      none [] e = refl
      none (r ∷ rows) e = absurd (omega (arith, e))

      pick : (0 < length maps) ⊎ ((0 ≡ length maps) ⊎ (length maps < 0)) → ⊥
      pick (inl l) = some (none (rows_at maps 0) (h.stop l))
      pick (inr (inl e)) = some (past maps 0 [] (omega (arith, e)))
      pick (inr (inr l)) = omega (arith, l)
  full-some maps (suc n) h some = omega arith

  pub cut-sizes : (width n : ℕ) (maps : List (Rows F)) (k : ℕ) → k < n → level_size width (take n maps) k ≡ level_size width maps k
  cut-sizes width n maps zero l = refl
  cut-sizes width n maps (suc k) l = ap length (get_or-take n maps k [] (omega (arith, l)))

  -- the rows of the first maps have their widths
  pub cut-widths : (ring : RingOf F) (width n : ℕ) (maps : List (Rows F)) (degrees : List (List ℕ)) (cut : List (Rows F)) → IsGradedExact ring width maps degrees
      → n ≤ length maps → cut ≡ take n maps → (k : ℕ) → k < length cut → All (λ row. length row ≡ level_size width cut k) (rows_at cut k)
  cut-widths ring width n maps degrees cut x w e k l =
      let q = ap length e ∙ Rattle.std.proofs.lemmas.List.length-take n maps in
      let b : k < n = omega (arith, q, w, l) in
      let here : rows_at cut k ≡ rows_at maps k = ap (λ ms. rows_at ms k) e ∙ get_or-take n maps k [] b in
      let size : level_size width cut k ≡ level_size width maps k = ap (λ ms. level_size width ms k) e ∙ cut-sizes width n maps k b in
      subst (λ (t : Rows F × ℕ). All (λ row. length row ≡ t.1) t.0) {x = (rows_at maps k, level_size width maps k)} {y = (rows_at cut k, level_size width cut k)}
      (λ t. (sym here t, sym size t))
      (λ i d m. ap length (sym (get_or_default (rows_at maps k) i [] d m)) ∙ x.widths k i m)

-- what two clauses of an answer say together
pub ok_both : {X E : Type 0} (r : Result X E) (P Q R : X → Type 0) → IfOk r P → IfOk r Q → ((x : X) → P x → Q x → R x) → IfOk r R
ok_both (Ok x) P Q R p q f = f x p q
ok_both (Err e) P Q R p q f = tt
