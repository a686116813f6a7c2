-- Over a finite field a space with a basis of d rows has as many points as the order to the power d.
use Rattle.std.proofs.Common.{◌≡◌, ◌≢◌, ℕ, ◌^◌, List, map, length, All, Contains, get_or, sym, ap, subst, ◌∙◌}
use Rattle.std.proofs.lemmas.List.{length-map, get_or-map, get_or-replicate}
use Rattle.std.proofs.lemmas.List.Elements.{All-contains}
use Rattle.hp_algebra.specs.Ring.{IsRing, elements, dot_of}
use Rattle.hp_lists.specs.Lists.{words_over, ListsOnce}
use Rattle.hp_algebra.specs.Rows.{IsRow, zero_row, row_plus, row_scale, row_times}
use Rattle.hp_linear.specs.Spaces.{AreIndependent, IsCombination, IsBasisOf}
use Rattle.hp_linear.specs.Matrices.{Matrix, IsMatrix, IsKernelMember}
use Rattle.hp_algebra.proofs.Finite.{Finite}
use Rattle.hp_lists.proofs.Members.{Contains-map, map-Contains, each-All}
use Rattle.hp_lists.proofs.Insertions.{same-count}
use Rattle.hp_lists.proofs.Ordered.{Ordered-weaker, Ordered-map}
use Rattle.hp_algebra.proofs.Elements.{words-rows, rows-words, rows-once, rows-number}
use Rattle.hp_algebra.proofs.Rings.{neg_neg}
use Rattle.hp_algebra.proofs.Rows.{plus-row, scale-row, plus-undo, zeros-plus, scale-one, scale-cancel}
use Rattle.hp_algebra.proofs.Dots.{dot-comm, map-zeros}
use Rattle.hp_linear.proofs.Combinations.{times-row, times-plus, times-scale, dot-combination}

module _ {K : Type 0} (F : Finite K) where
  open F use {ring, numbers, field}

  abbrev laws : IsRing ring
  laws = field.is_ring

  -- independent rows have different combinations for different coefficients
  combination-once : (width : ℕ) (basis : List (List K)) (cs ds : List K) → All (IsRow ring width) basis
      → AreIndependent ring width basis → IsRow ring (length basis) cs → IsRow ring (length basis) ds
      → row_times ring width cs basis ≡ row_times ring width ds basis → cs ≡ ds
  combination-once width basis cs ds are independent rc rd e =
      let n = ring.neg ring.one in
      let vn = laws.neg_value _ laws.one_value in
      let count = length basis in
      let rs = scale-row laws count n ds vn rd in
      let td = times-row laws width ds basis rd.1 are in
      let sum = row_plus ring cs (row_scale ring n ds) in
      let nothing : row_times ring width sum basis ≡ zero_row ring width =
      times-plus laws width cs (row_scale ring n ds) basis (rc.0 ∙ sym rs.0) rc.1 rs.1 are
      ∙ (λ i. row_plus ring (e i) (times-scale laws width n ds basis vn rd.1 are i))
      ∙ ap (λ s. row_plus ring s (row_scale ring n (row_times ring width ds basis))) (sym (scale-one laws width _ td))
      ∙ scale-cancel laws width ring.one _ laws.one_value td in
      let zero = independent sum (plus-row laws count cs _ rc rs) nothing in
      sym (plus-undo laws count n cs ds vn rc rd) ∙ ap (λ s. row_plus ring s (row_scale ring (ring.neg n) ds)) zero
      ∙ zeros-plus laws count _ (scale-row laws count _ ds (laws.neg_value _ vn) rd) ∙ ap (λ s. row_scale ring s ds) (neg_neg laws ring.one laws.one_value) ∙ scale-one laws count ds rd

  -- The span of d independent rows has as many points as the order to the power d, counted by any list that has each once.
  pub span-count : (width : ℕ) (basis points : List (List K)) → All (IsRow ring width) basis
      → AreIndependent ring width basis
      → ListsOnce (IsCombination ring width basis) points → length points ≡ numbers.order ^ length basis
  span-count width basis points are independent once =
      same-count (IsCombination ring width basis) points (map f words) once listing
      ∙ length-map words f ∙ rows-number F (length basis)
    where
      words : List (List K)
      words = words_over (elements numbers) (length basis)

      f : List K → List K
      f cs = row_times ring width cs basis

      listing : ListsOnce (IsCombination ring width basis) (map f words)
      listing = record {
        members = λ v. (
          (λ c. (let w = map-Contains f words v c in (w.0, words-rows F (length basis) w.0 w.1, sym w.2))),
          λ c. subst (Contains (map f words)) (sym c.2) (Contains-map f words c.0 (rows-words F (length basis) c.0 c.1)),
        );
        once =
            Ordered-map (λ x y. x ≢ y) f words (Ordered-weaker (λ x y. x ≢ y) _ words
            (λ cs ds c d n e. n (combination-once width basis cs ds are independent (words-rows F (length basis) cs c) (words-rows F (length basis) ds d) e))
            (rows-once F (length basis)));
      }

  -- The kernel of a matrix has as many points as the order to the power of the length of a basis, which is the number of columns minus the rank.
  pub kernel-count : (m : Matrix K) (basis points : List (List K)) → IsMatrix ring m
      → IsBasisOf ring m.cols (IsKernelMember ring m) basis → ListsOnce (IsKernelMember ring m) points
      → length points ≡ numbers.order ^ length basis
  kernel-count m basis points are is once = span-count m.cols basis points rows is.independent record {
    members = λ v. (
      (λ c. is.spanning v ((once.members v).0 c)),
      λ c. (once.members v).1 (closed v c),
    );
    once = once.once;
  }
    where
      rows : All (IsRow ring m.cols) basis
      rows = each-All (IsRow ring m.cols) basis (λ b c. (is.members b c).0)

      zero-at : (b row : List K) → Contains basis b → Contains m.rows row → dot_of ring b row ≡ ring.zero
      zero-at b row c d =
          let member = is.members b c in
          let rr = All-contains (IsRow ring m.cols) m.rows row are d in
          dot-comm laws field.commutes b row member.0.1 rr.1 ∙ ap (λ r. dot_of ring r b) (sym d.2)
          ∙ sym (get_or-map (λ r. dot_of ring r b) m.rows d.0 row ring.zero d.1) ∙ ap (λ v. get_or v d.0 ring.zero) member.1 ∙ get_or-replicate (length m.rows) d.0 ring.zero ring.zero d.1

      closed : (v : List K) → IsCombination ring m.cols basis v → IsKernelMember ring m v
      closed v c =
          let rv = subst (IsRow ring m.cols) (sym c.2) (times-row laws m.cols c.0 basis c.1.1 rows) in (
            rv,
            map-zeros laws (λ row. dot_of ring row v) m.rows (λ row d.
                let rr = All-contains (IsRow ring m.cols) m.rows row are d in
                dot-comm laws field.commutes row v rr.1 rv.1 ∙ ap (λ s. dot_of ring s row) c.2 ∙ dot-combination laws m.cols basis c.0 row rows c.1.1 rr (λ b i. zero-at b row i d)),
          )
