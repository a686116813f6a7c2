-- A square matrix over a field whose rows span the unit rows has an inverse.
use Rattle.std.specs.Prelude.{◌≡◌, ℕ, ◌+◌, ◌<◌, List, map, length, All, slice_index_or}
use Rattle.std.proofs.lemmas.List.{length-map, get_or-map}
use Rattle.std.proofs.lemmas.List.Elements.{All-map}
use mathlib.Core.Path.{refl, sym, ap, ◌∙◌, subst}
use Rattle.hp_algebra.specs.Ring.{RingOf, IsRing, IsCommutative, IsField}
use Rattle.hp_algebra.specs.Rows.{IsRow, entry, row_plus, row_scale, row_times, unit_row, zero_row}
use Rattle.hp_algebra.proofs.Rings.{field-domain, neg_mul, same_from_difference}
use Rattle.hp_algebra.proofs.Rows.{entry-plus, entry-scale, entry-value, entry-zeros, plus-row, row-ext, scale-cancel, scale-one, scale-row}
use Rattle.hp_algebra.proofs.Dots.{dot-comm}
use Rattle.hp_algebra.proofs.UnitRows.{identity-at, identity-length, identity_rows, unit-dot, unit-row}
use Rattle.hp_linear.specs.Spaces.{AreIndependent, IsCombination}
use Rattle.hp_linear.specs.Matrices.{Matrix, IsMatrix, IsInverse}
use Rattle.hp_linear.proofs.Combinations.{entry-times, times-plus, times-row, times-scale}
use Rattle.hp_linear.proofs.InverseMatrices.{product-identity, times-identity}
use Rattle.hp_saito.proofs.SpannedMultiples.{coefficient-rows, spanning-independent}

module _ {R : Type 0} {ring : RingOf R} (laws : IsRing ring) where
  -- a unit row picks a row
  pub unit-times : IsCommutative ring → (w : ℕ) (rows : List (List R)) (k : ℕ) (d : List R) → All (IsRow ring w) rows
      → k < length rows → row_times ring w (unit_row ring (length rows) (k + 1)) rows ≡ slice_index_or rows k d
  unit-times commutes w rows k d are l =
      let u = unit_row ring (length rows) (k + 1) in
      let ru = unit-row laws (length rows) (k + 1) in
      row-ext ring w _ _ (times-row laws w u rows ru.1 are).0 (are k d l).0 (λ j m.
      let f : List R → R = λ row. entry ring row j in
      let column : IsRow ring (length rows)
      (map f rows) = (
        length-map rows f,
        All-map ring.IsValue f rows
            (λ i e h. entry-value laws w _ j m (are i e h)),
      ) in
      entry-times laws w u rows j m ru.1 are ∙ dot-comm laws commutes u (map f rows) ru.1 column.1
      ∙ unit-dot laws (length rows) (map f rows) k column l ∙ get_or-map f rows k d ring.zero l)

  -- equal combinations of independent rows have equal coefficients
  pub same-coefficients : (w : ℕ) (rows : List (List R)) (a b : List R) → All (IsRow ring w) rows
      → AreIndependent ring w rows
      → IsRow ring (length rows) a → IsRow ring (length rows) b → row_times ring w a rows ≡ row_times ring w b rows
      → a ≡ b
  same-coefficients w rows a b are ind ra rb e =
      let n = length rows in
      let m = ring.neg ring.one in
      let vm = laws.neg_value ring.one laws.one_value in
      let nb = scale-row laws n m b vm rb in
      let tb = times-row laws w b rows rb.1 are in
      let none : row_plus ring a (row_scale ring m b) ≡ zero_row ring n =
      ind _ (plus-row laws n a _ ra nb) (times-plus laws w a _ rows (ra.0 ∙ sym nb.0) ra.1 nb.1 are
      ∙ (λ i. row_plus ring ((e ∙ sym (scale-one laws w _ tb)) i) (times-scale laws w m b rows vm rb.1 are i))
      ∙ scale-cancel laws w ring.one _ laws.one_value tb) in
      row-ext ring n a b ra.0 rb.0 (λ j l.
      let va = entry-value laws n a j l ra in
      let vb = entry-value laws n b j l rb in
      same_from_difference laws _ _ va vb
      (ap (ring.add (entry ring a j)) (sym (neg_mul laws ring.one _ laws.one_value vb
      ∙ ap ring.neg (laws.one_mul _ vb)) ∙ sym (entry-scale laws n m b j l rb))
      ∙ sym (entry-plus laws n a _ j l ra nb)
      ∙ ap (λ r. entry ring r j) none ∙ entry-zeros laws n j l))

module _ {R : Type 0} {ring : RingOf R} {inverse : R → R} (field : IsField ring inverse) where
  abbrev L : IsRing ring
  L = field.is_ring

  pub spanning-inverse : (m : Matrix R) → IsMatrix ring m → length m.rows ≡ m.cols
      → ((k : ℕ) → k < m.cols → IsCombination ring m.cols m.rows (unit_row ring m.cols (k + 1)))
      → (n : Matrix R) × IsInverse ring m n
  spanning-inverse m are square units =
      let w = m.cols in
      let one = ring.one in
      let ids = identity_rows ring w in
      let below : (k : ℕ) → k < length ids → k < w = λ k l. subst (λ n. k < n) (identity-length ring w) l in
      let c = coefficient-rows L w m.rows ids are
      (λ k d l. subst (IsCombination ring w m.rows) (sym (identity-at ring w k d (below k l)))
      (units k (below k l))) in
      let A = c.0 in
      let many : length A ≡ w = c.1.many ∙ identity-length ring w in
      let rows : All (IsRow ring w) A = subst (λ n. All (IsRow ring n) A) square c.1.are in
      let ind = spanning-independent L field.commutes (field-domain field) w one m.rows (record {
        rows = are;
        factor = L.one_value;
        nonzero = field.one_zero;
        units = λ k l. subst (IsCombination ring w m.rows) (sym (scale-one L w _ (unit-row L w (k + 1)))) (units k l);
      }) square in
      let n : Matrix R = record { cols = w; rows = A } in (
        n,
        record {
          matrix = rows;
          square = (refl, many ∙ sym square);
          right = product-identity L m n w rows refl many square are (λ k d l.
              let lk : k < length m.rows = subst (λ i. k < i) (sym square) l in
              let r = slice_index_or m.rows k d in
              let rr = are k d lk in
              let rx = times-row L (length m.rows) r A rr.1 c.1.are in
              let unit = unit_row ring (length m.rows) (k + 1) in
              let e : row_times ring (length m.rows) r A ≡ unit =
              same-coefficients L w m.rows _ unit are ind rx (unit-row L (length m.rows) (k + 1))
              (sym (c.1.same r rr.1) ∙ times-identity L w r rr
              ∙ sym (unit-times L field.commutes w m.rows k d are lk)) in
              subst (λ i. row_times ring i r A ≡ unit_row ring i (k + 1)) square e);
          left = product-identity L n m w are refl square many rows (λ k d l.
              let lk : k < length ids = subst (λ i. k < i) (sym (identity-length ring w)) l in
              sym (c.1.each k d lk) ∙ identity-at ring w k d l);
        },
      )
