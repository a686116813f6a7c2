-- Systems of equations with more unknowns than equations, and what leaves the rank as it is.
use Rattle.std.proofs.Common.{◌≡◌, ◌≢◌, ◌↔◌, ◌⊎◌, ℕ, ◌+◌, ◌-◌, ◌<◌, List, [], ◌∷◌, map, length, All, Contains, get_or, sym, ap, subst, ◌∙◌, arith, inl, inr}
use Rattle.std.proofs.lemmas.List.{length-map, get_or-map, same_lists, get_or_default}
use Rattle.std.proofs.lemmas.List.FromFn.{get_or-map-range_with_len, length-map-range_with_len}
use Rattle.std.proofs.lemmas.List.Elements.{All-cons, All-map, All-contains}
use Rattle.hp_algebra.specs.Ring.{RingOf, IsRing, IsField, IsCommutative, dot_of}
use Rattle.hp_lists.specs.Lists.{one_to}
use Rattle.hp_algebra.specs.Rows.{IsRow, entry, zero_row, row_plus, row_scale, row_times}
use Rattle.hp_linear.specs.Spaces.{IsCombination, HaveSameSpan}
use Rattle.hp_linear.specs.Matrices.{Matrix, IsMatrix, IsRank, IsKernelMember, matrix_times, column}
use Rattle.hp_lists.proofs.Members.{Contains-here, Contains-later, Contains-cases, each-All}
use Rattle.hp_algebra.proofs.Rows.{row-ext, plus-row, entry-value, plus-undo, scale-one}
use Rattle.hp_linear.proofs.Combinations.{times-row, entry-times, combination-row, span-plus, span-scale, span-more, span-member, same_span-from}
use Rattle.hp_algebra.proofs.Dots.{dot-comm}
use Rattle.hp_linear.proofs.Dependence.{dependence}

module _ {R : Type 0} {ring : RingOf R} (laws : IsRing ring) (comm : IsCommutative ring) (m : Matrix R) (are : IsMatrix ring m) where
  abbrev pub columns : List (List R)
  columns = map (column ring m) (one_to m.cols)

  pub columns-length : length columns ≡ m.cols
  columns-length = length-map-range_with_len (column ring m) 1 m.cols

  column-row : (c : ℕ) → c < m.cols → IsRow ring (length m.rows) (column ring m (c + 1))
  column-row c l = (length-map m.rows (λ row. entry ring row (c + 1 - 1)), All-map ring.IsValue (λ row. entry ring row (c + 1 - 1)) m.rows (λ k d h. entry-value laws m.cols _ (c + 1 - 1) (back c l) (are k d h)))
    where
      back : (c : ℕ) → c < m.cols → c + 1 - 1 < m.cols
      back c l = omega arith

  pub columns-are : All (IsRow ring (length m.rows)) columns
  columns-are = λ k d h.
      let below : k < m.cols = subst (λ n. k < n) columns-length h in
      subst (IsRow ring (length m.rows)) (sym (get_or-map-range_with_len (column ring m) 1 m.cols k (k + 1) d below (omega arith))) (column-row k below)

  -- M c is the combination of the columns with the entries of c
  pub times-columns : (c : List R) → IsRow ring m.cols c
      → matrix_times ring m c ≡ row_times ring (length m.rows) c columns
  times-columns c r = sym (same_lists _ _ (wide.0 ∙ sym (length-map m.rows (λ row. dot_of ring row c))) (λ i d h.
      let l : i < length m.rows = subst (λ n. i < n) wide.0 h in
      get_or_default _ i d ring.zero h ∙ entry-times laws (length m.rows) c columns i l r.1 columns-are
      ∙ ap (dot_of ring c) (read i d l) ∙ dot-comm laws comm c (get_or m.rows i []) r.1 (are i [] l).1 ∙ sym (get_or-map (λ row. dot_of ring row c) m.rows i [] d l)))
    where
      wide : IsRow ring (length m.rows) (row_times ring (length m.rows) c columns)
      wide = times-row laws (length m.rows) c columns r.1 columns-are

      -- the entries of the columns at i are row i
      read : (i : ℕ) (d : R) → i < length m.rows → map (λ col. entry ring col i) columns ≡ get_or m.rows i []
      read i d l =
          let row = are i [] l in
          row-ext ring m.cols _ _ (length-map columns (λ col. entry ring col i) ∙ columns-length) row.0 (λ j h.
          get_or-map (λ col. entry ring col i) columns j [] ring.zero (subst (λ n. j < n) (sym columns-length) h)
          ∙ ap (λ col. entry ring col i) (get_or-map-range_with_len (column ring m) 1 m.cols j (j + 1) [] h (omega arith))
          ∙ get_or-map (λ s. entry ring s (j + 1 - 1)) m.rows i [] ring.zero l ∙ ap (entry ring (get_or m.rows i [])) (back j))
        where
          back : (j : ℕ) → j + 1 - 1 ≡ j
          back j = omega arith

-- A system with more unknowns than equations has a solution other than zero.
pub nonzero-solution : {R : Type 0} {ring : RingOf R} {inverse : R → R} (field : IsField ring inverse) (m : Matrix R)
    → IsMatrix ring m → length m.rows < m.cols → (c : List R) × IsKernelMember ring m c × (c ≢ zero_row ring m.cols)
nonzero-solution {ring = ring} field m are more =
    let L = field.is_ring in
    let long = columns-length L field.commutes m are in
    let found = dependence field (length m.rows) (columns L field.commutes m are) (columns-are L field.commutes m are) (subst (λ n. length m.rows < n) (sym long) more) in
    let r : IsRow ring m.cols found.0 = (found.1.coefficients.0 ∙ long, found.1.coefficients.1) in
    (found.0, (r, times-columns L field.commutes m are found.0 r ∙ found.1.zero), λ e. found.1.some (e ∙ ap (zero_row ring) (sym long)))

module _ {R : Type 0} {ring : RingOf R} (laws : IsRing ring) where
  -- Matrices with one row space have one rank.
  pub rank-same_span : (cols d : ℕ) (rows others : List (List R)) → HaveSameSpan ring cols rows others
      → IsRank ring record { cols = cols; rows = rows } d → IsRank ring record { cols = cols; rows = others } d
  rank-same_span cols d rows others same p = (
    p.0,
    record {
      members = λ v c. (same v).0 (p.1.members v c);
      spanning = λ v c. p.1.spanning v ((same v).1 c);
      independent = p.1.independent;
    },
    p.2,
  )

  -- Matrices with the same rows in any order have one rank.
  pub rank-same_rows : (cols d : ℕ) (rows others : List (List R)) → All (IsRow ring cols) rows
      → ((b : List R) → Contains rows b ↔ Contains others b)
      → IsRank ring record { cols = cols; rows = rows } d → IsRank ring record { cols = cols; rows = others } d
  rank-same_rows cols d rows others are same =
      let others_are = each-All (IsRow ring cols) others (λ b c. All-contains (IsRow ring cols) rows b are ((same b).1 c)) in
      rank-same_span cols d rows others (same_span-from laws cols rows others are others_are
      (λ b c. span-member laws cols rows b are ((same b).1 c)) (λ a c. span-member laws cols others a others_are ((same a).0 c)))

  -- To add a combination of the others to a row leaves the rank as it is.
  pub rank-added : (cols d : ℕ) (row v : List R) (rows : List (List R)) → IsRow ring cols row
      → All (IsRow ring cols) rows → IsCombination ring cols rows v
      → IsRank ring record { cols = cols; rows = row ∷ rows } d
      → IsRank ring record { cols = cols; rows = row_plus ring row v ∷ rows } d
  rank-added cols d row v rows r are c = rank-same_span cols d (row ∷ rows) (sum ∷ rows) (same_span-from laws cols (row ∷ rows) (sum ∷ rows) before after
      (λ b i. forth b (Contains-cases sum rows b i)) (λ a i. back a (Contains-cases row rows a i)))
    where
      sum : List R
      sum = row_plus ring row v

      rv : IsRow ring cols v
      rv = combination-row laws cols rows v are c

      rs : IsRow ring cols (row_plus ring row v)
      rs = plus-row laws cols row v r rv

      before : All (IsRow ring cols) (row ∷ rows)
      before = All-cons (IsRow ring cols) row rows r are

      after : All (IsRow ring cols) (row_plus ring row v ∷ rows)
      after = All-cons (IsRow ring cols) (row_plus ring row v) rows rs are

      forth : (b : List R) → (row_plus ring row v ≡ b) ⊎ Contains rows b → IsCombination ring cols (row ∷ rows) b
      forth b (inl e) = subst (IsCombination ring cols (row ∷ rows)) e (span-plus laws cols (row ∷ rows) before row v (span-member laws cols (row ∷ rows) row before (Contains-here row rows)) (span-more laws cols row rows v r are c))
      forth b (inr i) = span-member laws cols (row ∷ rows) b before (Contains-later row rows b i)

      back : (a : List R) → (row ≡ a) ⊎ Contains rows a → IsCombination ring cols (row_plus ring row v ∷ rows) a
      back a (inr i) = span-member laws cols (row_plus ring row v ∷ rows) a after (Contains-later (row_plus ring row v) rows a i)
      back a (inl e) =
          let n = ring.neg ring.one in
          let vn = laws.neg_value _ laws.one_value in
          let whole = ap (λ s. row_plus ring (row_plus ring row s) (row_scale ring n v)) (sym (scale-one laws cols v rv)) ∙ plus-undo laws cols ring.one row v laws.one_value r rv in
          subst (IsCombination ring cols (row_plus ring row v ∷ rows)) (whole ∙ e)
          (span-plus laws cols (row_plus ring row v ∷ rows) after sum (row_scale ring n v) (span-member laws cols (row_plus ring row v ∷ rows) sum after (Contains-here sum rows))
          (span-scale laws cols (row_plus ring row v ∷ rows) after n v vn (span-more laws cols sum rows v rs are c)))
