-- A frame, level by level: exact up to its last map, whose rows are the members of the level.
use Rattle.std.specs.Prelude.{◌≡◌, ℕ, zero, suc, ◌+◌, ◌-◌, ◌<◌, ◌≤◌, List, [], ◌∷◌, ◌++◌, length, replicate, All, slice_index_or}
use Rattle.std.proofs.lemmas.Bool.{cases_eq}
use Rattle.std.proofs.lemmas.List.{get_or-map, get_or_append_left, length-append, length-map}
use Rattle.std.proofs.lemmas.List.Elements.{All-append, All-cons, All-nil, All-map}
use Rattle.std.proofs.Math.Seq.{get_or-append_seam}
use mathlib.Core.Logic.{inl, inr}
use mathlib.Core.Path.{refl, sym, ap, ◌∙◌, subst}
use native.Mathlib.Omega.{arith}
use Rattle.hp_algebra.specs.Ring.{RingOf}
use Rattle.hp_algebra.specs.Rows.{row_times, zero_row}
use Rattle.hp_linear.specs.Matrices.{Matrix, IsMatrix}
use Rattle.hp_linear.specs.Spaces.{AreIndependent}
use Rattle.hp_complex.specs.Complexes.{AreComposable, IsExact, IsExactAt, map_at}
use Rattle.hp_mono.specs.declared.term.Term.{Term}
use Rattle.hp_mono.specs.Monomials.{degree, max_degree, vars}
use Rattle.hp_mono.proofs.MonomialLaws.{degree_product}
use Rattle.hp_poly.specs.Polynomials.{Poly, poly_ring}
use Rattle.hp_module.specs.Vectors.{Vector}
use Rattle.hp_module.specs.FreeModules.{IsGraded}
use Rattle.hp_module.specs.Derivations.{IsVectorInVariables}
use Rattle.hp_module.specs.Leads.{no_term}
use Rattle.hp_resolution.specs.Resolutions.{HasDegrees, IsFrame, IsResolution, Resolution, column_degrees, row_degrees}
use Rattle.hp_syzygy.specs.ChainOrders.{full, top_of}
use Rattle.hp_syzygy.specs.ChainLaws.{top-in}
use Rattle.hp_syzygy.specs.FrameLevels.{IsLevel, IsNextLevel, Level, level_lead, level_matrix, level_width, member_degrees}
use Rattle.hp_syzygy.proofs.NextChains.{lead-within}
use Rattle.hp_syzygy.proofs.LevelDegrees.{degree-full, full-most}

-- a list of no length
pub no-length : {X : Type 0} (xs : List X) → length xs ≡ 0 → xs ≡ []
no-length [] e = refl
no-length (x ∷ xs) e = absurd (omega (arith, e))

-- one more at the end
at-old : {X : Type 0} (xs : List X) (y d : X) (k : ℕ) → k < length xs → slice_index_or (xs ++ y ∷ []) k d ≡ slice_index_or xs k d
at-old xs y d k l = get_or_append_left xs (y ∷ []) d k l

at-new : {X : Type 0} (xs : List X) (y d : X) (k : ℕ) → k ≡ length xs → slice_index_or (xs ++ y ∷ []) k d ≡ y
at-new xs y d k e = ap (λ i. slice_index_or (xs ++ y ∷ []) i d) e ∙ get_or-append_seam xs y [] d

module _ {F : Type 0} where
  abbrev none : Matrix (Poly F)
  none = record { cols = 0; rows = [] }

  column-later : (r : Resolution F) (k : ℕ) → 1 ≤ k → column_degrees r k ≡ row_degrees r (k - 1)
  column-later r zero l = absurd (omega (arith, l))
  column-later r (suc k) l = let e : k ≡ suc k - 1 = omega arith in ap (row_degrees r) e

module _ {F : Type 0} (ring : RingOf F) (inverse : F → F) where
  -- The maps so far: a frame but for the relations of the last map.
  pub record IsFrameUpTo (vectors : List (Vector F)) (l : ℕ) (v : Level F) (r : Resolution F) : Type 0 where
    pub level : IsLevel ring inverse v
    pub some : 1 ≤ length r.maps
    pub count : length r.maps + v.left ≡ l + 1
    pub first_width : v.chain.width ≡ l
    pub first : (map_at r.maps 0).rows ≡ vectors
    pub first_cols : (map_at r.maps 0).cols ≡ l
    pub last : map_at r.maps (length r.maps - 1) ≡ level_matrix v
    pub some_row : All (λ m. 1 ≤ length m.rows) r.maps
    pub matrices : All (IsMatrix (poly_ring ring)) r.maps
    pub composable : AreComposable r.maps
    pub exact : (k : ℕ) → suc k < length r.maps → IsExactAt (poly_ring ring) (map_at r.maps (suc k)) (map_at r.maps k)
    pub one_each : length r.degrees ≡ length r.maps
    pub homogeneous : (k : ℕ) → k < length r.maps → HasDegrees (map_at r.maps k) (column_degrees r k) (row_degrees r k)
    pub last_degrees : row_degrees r (length r.maps - 1) ≡ member_degrees v
    pub variables : All (λ m. All (IsVectorInVariables ring l m.cols) m.rows) r.maps
    pub low : All (All (λ d. d ≤ max_degree)) r.degrees

module _ {F : Type 0} {ring : RingOf F} {inverse : F → F} where
  -- the matrix of a level has the degrees of its members
  pub level-degrees : {v : Level F} → IsLevel ring inverse v → HasDegrees (level_matrix v) v.degrees (member_degrees v)
  level-degrees {v} is = record {
    one_each = length-map v.leads (λ t. degree (full v.chain t).mono) ∙ is.led.same_length;
    homogeneous = λ i l.
        let e = get_or-map (λ (t : Term). degree (full v.chain t).mono) v.leads i no_term 0 (omega (arith, l, is.led.same_length)) in
        let d = degree-full is (level_lead v i) (lead-within is i l) in
        subst (λ n. IsGraded v.degrees n (slice_index_or v.members i [])) (d ∙ sym e) (is.led.homogeneous i l);
  }

  level-low : {v : Level F} → IsLevel ring inverse v → All (λ d. d ≤ max_degree) (member_degrees v)
  level-low {v} is =
      All-map (λ d. d ≤ max_degree) (λ t. degree (full v.chain t).mono) v.leads (λ i d l.
      let m : i < length v.members = omega (arith, l, is.led.same_length) in
      let same = Rattle.std.proofs.lemmas.List.get_or_default v.leads i no_term d l in
      subst (λ t. degree (full v.chain t).mono ≤ max_degree) same (low-at is i m))
    where
      low-at : {v : Level F} (is : IsLevel ring inverse v) (i : ℕ) → i < length v.members → degree (full v.chain (level_lead v i)).mono ≤ max_degree
      low-at {v} is i l =
          let w = lead-within is i l in
          let t = top-in v.chain is.chain (level_lead v i).comp w.1 w.2 in
          let p = degree_product vars (level_lead v i).mono (top_of v.chain (level_lead v i).comp).mono w.0 t.0 in
          omega (arith, p, full-most is i l)

  -- the first map
  pub frame-first : (v : Level F) (l : ℕ) → IsLevel ring inverse v → v.chain.width ≡ l → level_width v ≡ l → v.left ≡ l
      → v.degrees ≡ replicate l 0 → 1 ≤ length v.members
      → IsFrameUpTo ring inverse v.members l v (record { maps = level_matrix v ∷ []; degrees = member_degrees v ∷ [] })
  frame-first v l is width wide left degrees some = record {
    level = is;
    some = omega arith;
    count = omega (arith, left);
    first_width = width;
    first = refl;
    first_cols = wide;
    last = refl;
    some_row = All-cons (λ m. 1 ≤ length m.rows) (level_matrix v) [] some (All-nil (λ (m : Matrix (Poly F)). 1 ≤ length m.rows));
    matrices = All-cons (IsMatrix (poly_ring ring)) (level_matrix v) [] is.led.vectors (All-nil (IsMatrix (poly_ring ring)));
    composable = λ k h. absurd (omega (arith, h));
    exact = λ k h. absurd (omega (arith, h));
    one_each = refl;
    homogeneous = λ k h.
        let z : 0 ≡ k = omega (arith, h) in
        let r : Resolution F = record { maps = level_matrix v ∷ []; degrees = member_degrees v ∷ [] } in
        subst (λ i. HasDegrees (map_at r.maps i) (column_degrees r i) (row_degrees r i)) z
        (subst (λ ds. HasDegrees (level_matrix v) ds (member_degrees v)) (degrees ∙ ap (λ n. replicate n 0) (sym wide)) (level-degrees is));
    last_degrees = refl;
    variables =
        All-cons (λ (m : Matrix (Poly F)). All (IsVectorInVariables ring l m.cols) m.rows) (level_matrix v) []
        (subst (λ n. All (IsVectorInVariables ring n (level_width v)) v.members) width is.variables)
        (All-nil (λ (m : Matrix (Poly F)). All (IsVectorInVariables ring l m.cols) m.rows));
    low = All-cons (All (λ d. d ≤ max_degree)) (member_degrees v) [] (level-low is) (All-nil (All (λ d. d ≤ max_degree)));
  }

  module _ {vectors : List (Vector F)} {l : ℕ} {v w : Level F} {r : Resolution F} (f : IsFrameUpTo ring inverse vectors l v r) (next : IsNextLevel ring inverse v w) where
    abbrev n : ℕ
    n = length r.maps

    abbrev new : Matrix (Poly F)
    new = level_matrix w

    abbrev pub longer : Resolution F
    longer = record { maps = r.maps ++ level_matrix w ∷ []; degrees = r.degrees ++ member_degrees w ∷ [] }

    old-map : (k : ℕ) → k < n → map_at longer.maps k ≡ map_at r.maps k
    old-map k h = at-old r.maps new none k h

    new-map : (k : ℕ) → k ≡ n → map_at longer.maps k ≡ new
    new-map k e = at-new r.maps new none k e

    old-degrees : (k : ℕ) → k < n → row_degrees longer k ≡ row_degrees r k
    old-degrees k h = at-old r.degrees (member_degrees w) [] k (subst (λ m. k < m) (sym f.one_each) h)

    new-degrees : (k : ℕ) → k ≡ n → row_degrees longer k ≡ member_degrees w
    new-degrees k e = at-new r.degrees (member_degrees w) [] k (e ∙ sym f.one_each)

    old-columns : (k : ℕ) → k < n → column_degrees longer k ≡ column_degrees r k
    old-columns zero h = ap (λ m. replicate m.cols 0) (old-map zero h)
    old-columns (suc k) h = old-degrees k (omega (arith, h))

    more : length longer.maps ≡ n + 1
    more = length-append r.maps (new ∷ [])

    -- the last map before the new one
    before-new : (k : ℕ) → suc k ≡ n → map_at longer.maps k ≡ level_matrix v
    before-new k e =
        let h : k < n = omega (arith, e) in
        let q : k ≡ n - 1 = omega (arith, e) in
        old-map k h ∙ ap (map_at r.maps) q ∙ f.last

    longer-composable : AreComposable longer.maps
    longer-composable k h =
        elim (cases_eq (suc k) n) [
          | inl e ↦ ap (λ m. m.cols) (new-map (suc k) e) ∙ next.width ∙ ap (λ m. length m.rows) (sym (before-new k e))
          | inr o ↦
              let a : suc k < n = omega (arith, h, more, o) in
              let b : k < n = omega (arith, a) in
              ap (λ m. m.cols) (old-map (suc k) a) ∙ f.composable k a ∙ ap (λ m. length m.rows) (sym (old-map k b))
        ]

    longer-exact : (k : ℕ) → suc k < length longer.maps → IsExactAt (poly_ring ring) (map_at longer.maps (suc k)) (map_at longer.maps k)
    longer-exact k h =
        elim (cases_eq (suc k) n) [
          | inl e ↦ subst (λ m. IsExactAt (poly_ring ring) m (map_at longer.maps k)) (sym (new-map (suc k) e))
              (subst (IsExactAt (poly_ring ring) new) (sym (before-new k e)) next.exact)
          | inr o ↦
              let a : suc k < n = omega (arith, h, more, o) in
              let b : k < n = omega (arith, a) in
              subst (λ m. IsExactAt (poly_ring ring) m (map_at longer.maps k)) (sym (old-map (suc k) a))
              (subst (IsExactAt (poly_ring ring) (map_at r.maps (suc k))) (sym (old-map k b)) (f.exact k a))
        ]

    module _ (is : IsLevel ring inverse w) where
      longer-homogeneous : (k : ℕ) → k < length longer.maps → HasDegrees (map_at longer.maps k) (column_degrees longer k) (row_degrees longer k)
      longer-homogeneous k h =
          elim (cases_eq k n) [
            | inl e ↦
                let one : 1 ≤ k = let s = f.some in omega (arith, s, e) in
                let b : k - 1 < n = omega (arith, one, e) in
                let q : k - 1 ≡ n - 1 = omega (arith, e) in
                let columns = column-later longer k one ∙ old-degrees (k - 1) b ∙ ap (row_degrees r) q ∙ f.last_degrees ∙ sym next.degrees in
                subst (λ m. HasDegrees m (column_degrees longer k) (row_degrees longer k)) (sym (new-map k e))
                (subst (λ ds. HasDegrees new ds (row_degrees longer k)) (sym columns)
                (subst (HasDegrees new w.degrees) (sym (new-degrees k e)) (level-degrees is)))
            | inr o ↦
                let a : k < n = omega (arith, h, more, o) in
                subst (λ m. HasDegrees m (column_degrees longer k) (row_degrees longer k)) (sym (old-map k a))
                (subst (λ ds. HasDegrees (map_at r.maps k) ds (row_degrees longer k)) (sym (old-columns k a))
                (subst (HasDegrees (map_at r.maps k) (column_degrees r k)) (sym (old-degrees k a)) (f.homogeneous k a)))
          ]

    -- One level more.
    pub frame-more : 1 ≤ length w.members
        → IsFrameUpTo ring inverse vectors l w (record { maps = r.maps ++ level_matrix w ∷ []; degrees = r.degrees ++ member_degrees w ∷ [] })
    frame-more some =
        let e = next.level some in
        let is = e.0 in
        let zero-in : 0 < n = f.some in
        let end : length longer.maps - 1 ≡ n = omega (arith, more) in
        let Row : Matrix (Poly F) → Type 0 = λ m. 1 ≤ length m.rows in
        let Var : Matrix (Poly F) → Type 0 = λ m. All (IsVectorInVariables ring l m.cols) m.rows in
        let Low : List ℕ → Type 0 = All (λ d. d ≤ max_degree) in
        let left = e.1 in
        let c = f.count in
        record {
          level = is;
          some = omega (arith, more);
          count = omega (arith, more, c, left);
          first_width = next.same_width ∙ f.first_width;
          first = ap (λ m. m.rows) (old-map 0 zero-in) ∙ f.first;
          first_cols = ap (λ m. m.cols) (old-map 0 zero-in) ∙ f.first_cols;
          last = new-map _ end;
          some_row = All-append Row r.maps (new ∷ []) f.some_row (All-cons Row new [] some (All-nil Row));
          matrices = All-append (IsMatrix (poly_ring ring)) r.maps (new ∷ []) f.matrices
              (All-cons (IsMatrix (poly_ring ring)) new [] is.led.vectors (All-nil (IsMatrix (poly_ring ring))));
          composable = longer-composable;
          exact = longer-exact;
          one_each = length-append r.degrees (member_degrees w ∷ []) ∙ ap (λ m. m + 1) f.one_each ∙ sym more;
          homogeneous = longer-homogeneous is;
          last_degrees = new-degrees _ end;
          variables = All-append Var r.maps (new ∷ []) f.variables
              (All-cons Var new [] (subst (λ m. All (IsVectorInVariables ring m (level_width w)) w.members) (next.same_width ∙ f.first_width) is.variables) (All-nil Var));
          low = All-append Low r.degrees (member_degrees w ∷ []) f.low (All-cons Low (member_degrees w) [] (level-low is) (All-nil Low));
        }

    empty : {R : Type 0} (ring : RingOf R) (width : ℕ) (cs : List R) → row_times ring width cs [] ≡ zero_row ring width
    empty ring width [] = refl
    empty ring width (c ∷ cs) = refl

    -- The end: there are no relations but zero.
    pub frame-exact : w.members ≡ [] → IsExact (poly_ring ring) r.maps
    frame-exact z = record {
      inside = f.exact;
      last = λ k e.
          let q : k ≡ n - 1 = omega (arith, e) in
          let at = ap (map_at r.maps) q ∙ f.last in
          subst (λ (m : Matrix (Poly F)). AreIndependent (poly_ring ring) m.cols m.rows) (sym at) (λ cs h s.
          let g = (next.exact cs).0 (h, s) in
          g.2 ∙ ap (λ rows. row_times (poly_ring ring) (length v.members) g.0 rows) z ∙ empty (poly_ring ring) (length v.members) g.0);
    }

    pub frame-resolution : w.members ≡ [] → IsResolution ring vectors r
    frame-resolution z = record {
      some_map = f.some;
      first = f.first;
      some_row = f.some_row;
      maps = record { matrices = f.matrices; composable = f.composable };
      exact = frame-exact z;
      one_each = f.one_each;
      homogeneous = f.homogeneous;
    }

    pub frame-end : w.members ≡ [] → IsFrame ring r
    frame-end z = record {
      resolution = subst (λ vs. IsResolution ring vs r) (sym f.first) (frame-resolution z);
      variables = subst (λ m. All (λ (x : Matrix (Poly F)). All (IsVectorInVariables ring m x.cols) x.rows) r.maps) (sym f.first_cols) f.variables;
      low = f.low;
    }

    pub frame-short : length r.maps ≤ l + 1
    frame-short = let c = f.count in omega (arith, c)
