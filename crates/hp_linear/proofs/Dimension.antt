-- Independent rows are at most as many as rows that span them, so a dimension is one number.
use Rattle.std.proofs.Common.{◌≡◌, ℕ, suc, ◌<◌, ◌≤◌, Bool, true, false, List, [], ◌∷◌, length, All, Contains, refl, sym, ap, subst, ◌∙◌, arith}
use Rattle.std.proofs.lemmas.List.Elements.{All-nil, All-cons, All-head, All-tail}
use Rattle.std.proofs.lemmas.Bool.{ltb-true, ltb-false}
use Rattle.std.specs.Prelude.{nat_lt}
use Rattle.hp_algebra.specs.Ring.{RingOf, IsField}
use Rattle.hp_algebra.specs.Rows.{IsRow, zero_row, row_plus, row_scale, row_times}
use Rattle.hp_linear.specs.Spaces.{AreCoefficients, AreIndependent, IsCombination, HasDimension}
use Rattle.hp_linear.specs.Matrices.{Matrix, IsMatrix, IsRank, IsInRowSpace}
use Rattle.hp_lists.proofs.Members.{Contains-here, Contains-later, each-All}
use Rattle.hp_algebra.proofs.Rows.{scale-row}
use Rattle.hp_linear.proofs.Combinations.{times-row, times-zeros, times-plus, times-scale, combination-row}
use Rattle.hp_linear.proofs.Dependence.{dependence}

module _ {R : Type 0} {ring : RingOf R} {inverse : R → R} (field : IsField ring inverse) where
  -- combinations of some rows, by the rows of their coefficients
  pub record AreMadeOf (width : ℕ) (rows made coefficients : List (List R)) : Type 0 where
    pub are : All (IsRow ring (length rows)) coefficients
    pub many : length coefficients ≡ length made
    pub same : (cs : List R) → All ring.IsValue cs
        → row_times ring width cs made ≡ row_times ring width (row_times ring (length rows) cs coefficients) rows

  made-cons : (width : ℕ) (rows : List (List R)) (b : List R) (made : List (List R)) → All (IsRow ring width) rows
      → IsCombination ring width rows b
      → ((coefficients : List (List R)) × AreMadeOf width rows made coefficients)
      → (coefficients : List (List R)) × AreMadeOf width rows (b ∷ made) coefficients
  made-cons width rows b made are first rest = (
    first.0 ∷ rest.0,
    record {
      are = All-cons (IsRow ring (length rows)) first.0 rest.0 first.1 rest.1.are;
      many = ap (λ n. suc n) rest.1.many;
      same = both;
    },
  )
    where
      both : (cs : List R) → All ring.IsValue cs
          → row_times ring width cs (b ∷ made)
          ≡ row_times ring width (row_times ring (length rows) cs (first.0 ∷ rest.0)) rows
      both [] v = sym (times-zeros field.is_ring width rows are)
      both (c ∷ cs) v =
          let L = field.is_ring in
          let vc = All-head ring.IsValue c cs v in
          let vt = All-tail ring.IsValue c cs v in
          let rs = scale-row L (length rows) c first.0 vc first.1 in
          let rt = times-row L (length rows) cs rest.0 vt rest.1.are in
          let p = ap (row_scale ring c) first.2 ∙ sym (times-scale L width c first.0 rows vc first.1.1 are) in
          let q = rest.1.same cs vt in
          (λ i. row_plus ring (p i) (q i)) ∙ sym (times-plus L width _ _ rows (rs.0 ∙ sym rt.0) rs.1 rt.1 are)

  pub coefficients_of : (width : ℕ) (rows made : List (List R)) → All (IsRow ring width) rows
      → ((b : List R) → Contains made b → IsCombination ring width rows b)
      → (coefficients : List (List R)) × AreMadeOf width rows made coefficients
  coefficients_of width rows [] are h = (
    [],
    record {
      are = All-nil (IsRow ring (length rows));
      many = refl;
      same = from_none;
    },
  )
    where
      nothing : zero_row ring width ≡ row_times ring width (zero_row ring (length rows)) rows
      nothing = sym (times-zeros field.is_ring width rows are)

      from_none : (cs : List R) → All ring.IsValue cs
          → row_times ring width cs [] ≡ row_times ring width (row_times ring (length rows) cs []) rows
      from_none [] v = nothing
      from_none (c ∷ cs) v = nothing
  coefficients_of width rows (b ∷ made) are h = made-cons width rows b made are (h b (Contains-here b made)) (coefficients_of width rows made are (λ a c. h a (Contains-later b made a c)))

  -- Independent rows that are combinations of some rows are at most as many.
  pub independent-few : (width : ℕ) (rows made : List (List R)) → All (IsRow ring width) rows
      → ((b : List R) → Contains made b → IsCombination ring width rows b)
      → AreIndependent ring width made → length made ≤ length rows
  independent-few width rows made are h independent = step (nat_lt (length rows) (length made)) refl
    where
      step : (b : Bool) → nat_lt (length rows) (length made) ≡ b → length made ≤ length rows
      step false e = ltb-false _ _ e
      step true e =
          let L = field.is_ring in
          let by = coefficients_of width rows made are h in
          let found = dependence field (length rows) by.0 by.1.are (subst (λ n. length rows < n) (sym by.1.many) (ltb-true _ _ e)) in
          let is = found.1 in
          let coefs : AreCoefficients ring (length made) found.0 = (is.coefficients.0 ∙ by.1.many, is.coefficients.1) in
          absurd (is.some (
          independent found.0 coefs (by.1.same found.0 coefs.1 ∙ ap (λ ds. row_times ring width ds rows) is.zero ∙ times-zeros L width rows are)
          ∙ ap (zero_row ring) (sym by.1.many)))

  -- All bases of a space of rows have one length.
  pub dimension-unique : (width : ℕ) (V : List R → Type 0) (d e : ℕ) → ((v : List R) → V v → IsRow ring width v)
      → HasDimension ring width V d → HasDimension ring width V e → d ≡ e
  dimension-unique width V d e rows p q =
      let low = independent-few width q.0 p.0 (each-All (IsRow ring width) q.0 (λ b c. rows b (q.1.members b c))) (λ b c. q.1.spanning b (p.1.members b c)) p.1.independent in
      let high = independent-few width p.0 q.0 (each-All (IsRow ring width) p.0 (λ b c. rows b (p.1.members b c))) (λ b c. p.1.spanning b (q.1.members b c)) q.1.independent in
      sym p.2 ∙ meet _ _ low high ∙ q.2
    where
      meet : (a b : ℕ) → a ≤ b → b ≤ a → a ≡ b
      meet a b l m = omega arith

  -- Independent members of a space of dimension d are at most d.
  pub independent-within : (width : ℕ) (V : List R → Type 0) (d : ℕ) (made : List (List R))
      → ((v : List R) → V v → IsRow ring width v) → HasDimension ring width V d
      → ((b : List R) → Contains made b → V b) → AreIndependent ring width made → length made ≤ d
  independent-within width V d made rows p within independent =
      subst (λ n. length made ≤ n) p.2
      (independent-few width p.0 made (each-All (IsRow ring width) p.0 (λ b c. rows b (p.1.members b c))) (λ b c. p.1.spanning b (within b c)) independent)

  -- The rank of a matrix is one number.
  pub rank-unique : (m : Matrix R) (d e : ℕ) → IsMatrix ring m → IsRank ring m d → IsRank ring m e → d ≡ e
  rank-unique m d e are p q = dimension-unique m.cols (IsInRowSpace ring m) d e (λ v c. combination-row field.is_ring m.cols m.rows v are c) p q

  -- The rank is at most the number of rows.
  pub rank-rows : (m : Matrix R) (d : ℕ) → IsMatrix ring m → IsRank ring m d → d ≤ length m.rows
  rank-rows m d are p = subst (λ n. n ≤ length m.rows) p.2 (independent-few m.cols m.rows p.0 are (λ b c. p.1.members b c) p.1.independent)
