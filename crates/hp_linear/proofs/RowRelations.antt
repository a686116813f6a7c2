-- The relations of the rows of a matrix: their dimension is the number of rows less the rank.
use Rattle.std.proofs.Common.{◌≡◌, ℕ, ◌+◌, ◌-◌, ◌<◌, List, [], ◌++◌, map, length, All, get_or, refl, sym, ap, subst, ◌∙◌, arith}
use Rattle.std.proofs.lemmas.List.{length-map, length-append, get_or-map}
use Rattle.std.proofs.lemmas.List.FromFn.{get_or-map-range_with_len}
use Rattle.std.proofs.lemmas.List.Elements.{All-contains, All-map}
use Rattle.hp_algebra.specs.Ring.{RingOf, IsRing, IsField, dot_of}
use Rattle.hp_algebra.specs.Rows.{IsRow, entry, zero_row, row_plus, row_scale, row_times}
use Rattle.hp_algebra.proofs.Rows.{row-ext, zero_row-ext, entry-value, entry-zeros, plus-row, plus-comm, plus-assoc, plus-zeros, scale-row}
use Rattle.hp_algebra.proofs.Dots.{dot-comm}
use Rattle.hp_algebra.proofs.UnitRows.{identity_rows, identity-length, identity-are}
use Rattle.hp_lists.proofs.Members.{each-All}
use Rattle.hp_linear.specs.Spaces.{IsBasisOf, IsCombination, HasDimension}
use Rattle.hp_linear.specs.Matrices.{Matrix, IsMatrix, IsRank, matrix_times, column}
use Rattle.hp_linear.proofs.Combinations.{times-row, times-plus, times-scale, combination-row, entry-times, span-dot}
use Rattle.hp_linear.proofs.Systems.{columns, columns-length, columns-are}
use Rattle.hp_linear.proofs.Dimension.{AreMadeOf, coefficients_of, dimension-unique}
use Rattle.hp_linear.proofs.InverseMatrices.{times-identity}
use Rattle.hp_linear.proofs.Existence.{rank-exists, kernel-dimension}
use Rattle.hp_linear.proofs.SpaceQuotients.{IsBasisModulo, IsCombinationModulo, modulo-join, plus-negative, quotient-basis, quotient-count}

module _ {R : Type 0} (ring : RingOf R) where
  -- cs is a relation of the rows of m: the combination with these coefficients is zero
  abbrev pub IsRelation : Matrix R → List R → Type 0
  IsRelation m cs = IsRow ring (length m.rows) cs × (row_times ring m.cols cs m.rows ≡ zero_row ring m.cols)

module _ {R : Type 0} {ring : RingOf R} {inverse : R → R} (field : IsField ring inverse) (m : Matrix R) (are : IsMatrix ring m) where
  abbrev laws : IsRing ring
  laws = field.is_ring

  abbrev n : ℕ
  n = length m.rows

  -- the matrix with the columns of m as its rows
  abbrev turned : Matrix R
  turned = record { cols = length m.rows; rows = columns field.is_ring field.commutes m are }

  turned-are : IsMatrix ring turned
  turned-are = columns-are laws field.commutes m are

  column-at : (cs : List R) (j : ℕ) → j < m.cols → IsRow ring n cs
      → entry ring (matrix_times ring turned cs) j ≡ entry ring (row_times ring m.cols cs m.rows) j
  column-at cs j l r =
      let long = columns-length laws field.commutes m are in
      let cols = columns laws field.commutes m are in
      let col = get_or cols j [] in
      let rc = turned-are j [] (subst (λ k. j < k) (sym long) l) in
      get_or-map (λ row. dot_of ring row cs) cols j [] ring.zero (subst (λ k. j < k) (sym long) l)
      ∙ dot-comm laws field.commutes col cs rc.1 r.1
      ∙ ap (dot_of ring cs) (get_or-map-range_with_len (column ring m) 1 m.cols j (j + 1) [] l (omega arith) ∙ ap (λ k. map (λ row. entry ring row k) m.rows) (back j))
      ∙ sym (entry-times laws m.cols cs m.rows j l r.1 are)
    where
      back : (j : ℕ) → j + 1 - 1 ≡ j
      back j = omega arith

  -- the relations are the kernel of that matrix
  turned-times : (cs : List R) → IsRow ring n cs → matrix_times ring turned cs ≡ row_times ring m.cols cs m.rows
  turned-times cs r =
      let long = columns-length laws field.commutes m are in
      row-ext ring m.cols _ _ (length-map (columns laws field.commutes m are) (λ row. dot_of ring row cs) ∙ long) (times-row laws m.cols cs m.rows r.1 are).0 (λ j l. column-at cs j l r)

  relation-row : (v : List R) → IsRelation ring m v → IsRow ring n v
  relation-row v h = h.0

  some-dimension : (k : ℕ) × HasDimension ring n (IsRelation ring m) k
  some-dimension =
      let r = rank-exists field turned turned-are in
      let w = kernel-dimension field turned turned-are r.0 r.1 in
      let long = ap (zero_row ring) (columns-length laws field.commutes m are) in (
        length w.0,
        (
          w.0,
          record {
            members = λ v c. (let h = w.1.members v c in (h.0, sym (turned-times v h.0) ∙ h.1 ∙ long));
            spanning = λ v h. w.1.spanning v (h.0, turned-times v h.0 ∙ h.1 ∙ sym long);
            independent = w.1.independent;
          },
          refl,
        ),
      )

  -- Combinations of relations are relations.
  pub relations-span : (rows : List (List R)) → All (IsRelation ring m) rows → (v : List R)
      → IsCombination ring n rows v → IsRelation ring m v
  relations-span rows h v c =
      let ar : All (IsRow ring n) rows = λ k d l. (h k d l).0 in
      let rv = combination-row laws n rows v ar c in (
        rv,
        zero_row-ext laws m.cols _ (times-row laws m.cols v m.rows rv.1 are).0 (λ j l.
            entry-times laws m.cols v m.rows j l rv.1 are
            ∙ span-dot laws n rows v (map (λ row. entry ring row j) m.rows) ar (entries-row j l) (λ b i.
            let hb = All-contains (IsRelation ring m) rows b h i in
            sym (entry-times laws m.cols b m.rows j l hb.0.1 are) ∙ ap (λ s. entry ring s j) hb.1 ∙ entry-zeros laws m.cols j l) c),
      )
    where
      entries-row : (j : ℕ) → j < m.cols → IsRow ring n (map (λ row. entry ring row j) m.rows)
      entries-row j l = (length-map m.rows (λ row. entry ring row j), All-map ring.IsValue (λ row. entry ring row j) m.rows (λ k d i. entry-value laws m.cols _ j l (are k d i)))

  module _ (r : ℕ) (rank : IsRank ring m r) where
    made : (coefficients : List (List R)) × AreMadeOf field m.cols m.rows rank.0 coefficients
    made = coefficients_of field m.cols m.rows rank.0 are rank.1.members

    -- rows of coefficients that give a basis of the row space are a basis modulo the relations
    above : (ks : List (List R)) → IsBasisOf ring n (IsRelation ring m) ks → IsBasisModulo ring n (IsRow ring n) ks made.0
    above ks basis = record {
      members = λ z c. All-contains (IsRow ring n) made.0 z made.1.are c;
      spanning = spans;
      independent = λ cs a u.
          let relation = relations-span ks (each-All (IsRelation ring m) ks basis.members) _ u in
          rank.1.independent cs (a.0 ∙ made.1.many, a.1) (made.1.same cs a.1 ∙ relation.1) ∙ ap (zero_row ring) (sym made.1.many);
    }
      where
        spans : (v : List R) → IsRow ring n v → IsCombinationModulo ring n ks made.0 v
        spans v rv =
            let minus = ring.neg ring.one in
            let vm = laws.neg_value _ laws.one_value in
            let X = row_times ring m.cols v m.rows in
            let rx = times-row laws m.cols v m.rows rv.1 are in
            let w = rank.1.spanning X (v, rv, refl) in
            let Z = row_times ring n w.0 made.0 in
            let rz = times-row laws n w.0 made.0 w.1.1 made.1.are in
            let nz = scale-row laws n minus Z vm rz in
            let u = row_plus ring v (row_scale ring minus Z) in
            let ru = plus-row laws n v _ rv nz in
            let same : row_times ring m.cols Z m.rows ≡ X = sym (made.1.same w.0 w.1.1) ∙ sym w.2 in
            let zero : row_times ring m.cols u m.rows ≡ zero_row ring m.cols =
            times-plus laws m.cols v (row_scale ring minus Z) m.rows (rv.0 ∙ sym nz.0) rv.1 nz.1 are
            ∙ ap (row_plus ring X) (times-scale laws m.cols minus Z m.rows vm rz.1 are ∙ ap (row_scale ring minus) same) ∙ plus-negative laws m.cols X rx in (
              w.0,
              (w.1.0 ∙ sym made.1.many, w.1.1),
              u,
              basis.spanning u (ru, zero),
              sym (plus-comm laws n Z u rz ru ∙ plus-assoc laws n v _ Z rv nz rz ∙ ap (row_plus ring v) (plus-comm laws n _ Z nz rz ∙ plus-negative laws n Z rz) ∙ plus-zeros laws n v rv),
            )

    -- the rows of so many entries have as many dimensions
    all-rows : HasDimension ring n (IsRow ring n) n
    all-rows = (
      identity_rows ring n,
      record {
        members = λ v c. All-contains (IsRow ring n) (identity_rows ring n) v (identity-are laws n) c;
        spanning = λ v rv. (v, (rv.0 ∙ sym (identity-length ring n), rv.1), sym (times-identity laws n v rv));
        independent = λ cs a e. sym (times-identity laws n cs (a.0 ∙ identity-length ring n, a.1)) ∙ e ∙ ap (zero_row ring) (sym (identity-length ring n));
      },
      identity-length ring n,
    )

    -- The relations have the dimension rows - rank.
    pub relations-dimension : (k : ℕ) × HasDimension ring n (IsRelation ring m) k × (k + r ≡ n)
    relations-dimension =
        let w = some-dimension in
        let ks = w.1.0 in
        let whole = modulo-join laws n (IsRow ring n) (λ v h. h) ks made.0 (above ks w.1.1) (λ u c. (w.1.1.members u c).0) w.1.1.independent in
        let count = dimension-unique field n (IsRow ring n) _ n (λ v h. h) (made.0 ++ ks, whole, refl) all-rows in
        (w.0, w.1, omega (arith, length-append made.0 ks, count, w.1.2, made.1.many, rank.2))

    module _ (others : List (List R)) (h : All (IsRelation ring m) others) (before : ℕ) (dimension : HasDimension ring n (IsCombination ring n others) before) where
      others-are : All (IsRow ring n) others
      others-are k d l = (h k d l).0

      -- The relations have a basis modulo the span of some of them, of as many rows as m has, less the two ranks.
      pub relations-modulo : (zs : List (List R)) × IsBasisModulo ring n (IsRelation ring m) others zs × (length zs + before + r ≡ n)
      relations-modulo =
          let k = relations-dimension in
          let w = quotient-basis field n (IsRelation ring m) relation-row k.0 before k.1 others (relations-span others h) dimension others-are in
          (w.0, w.1, omega (arith, w.2, k.2))

      -- Each such basis has this many.
      pub relations-count : (zs : List (List R)) → IsBasisModulo ring n (IsRelation ring m) others zs
          → length zs + before + r ≡ n
      relations-count zs B =
          let k = relations-dimension in
          let e = quotient-count field n (IsRelation ring m) relation-row k.0 before k.1 others (relations-span others h) dimension others-are zs B in
          omega (arith, e, k.2)
