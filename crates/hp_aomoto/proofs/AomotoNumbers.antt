-- Aomoto numbers: the number of sets without broken circuit of size k, less the ranks of the matrices before and after, is the dimension of the cohomology of degree k.
use Rattle.std.proofs.Common.{◌≡◌, ◌⊎◌, ℕ, zero, suc, ◌+◌, ◌-◌, ◌<◌, ◌≤◌, List, [], ◌∷◌, ◌++◌, map, length, All, Contains, slice_index, refl, sym, ap, subst, ◌∙◌, arith, inl, inr}
use Rattle.std.specs.List.{AllZip}
use Rattle.std.proofs.lemmas.Bool.{cases_lt}
use Rattle.std.proofs.lemmas.List.{get_or_append_left, get_or_push, length-append}
use Rattle.std.proofs.lemmas.List.Elements.{All-nil, All-head}
use Rattle.hp_lists.proofs.Members.{Contains-here, Contains-none}
use Rattle.hp_sets.specs.Sets.{Set}
use Rattle.hp_arr.specs.Flats.{rank, total_rank}
use Rattle.hp_arr.proofs.CentralCase.{total-all}
use Rattle.hp_arr.proofs.Setting.{Setting, over}
use Rattle.hp_arr.proofs.Cuts.{set-indices}
use Rattle.hp_arr.proofs.Ranks.{rank-total}
use Rattle.hp_circuits.proofs.NbcLaw.{nbc-law}
use Rattle.hp_linear.specs.Spaces.{IsCombination, HasDimension}
use Rattle.hp_linear.specs.Matrices.{Matrix, IsRank}
use Rattle.hp_exterior.specs.Exterior.{Ext, wedge, ext_coefficient}
use Rattle.hp_os.specs.OrlikSolomon.{basis_element}
use Rattle.hp_os.proofs.IdealSetting.{Element, laws}
use Rattle.hp_os.proofs.ElementLaws.{element-monomial, element-okay, element-wedge}
use Rattle.hp_aomoto.specs.AomotoCohomology.{IsCohomologyDimension, AreCohomologyDimensions}
use Rattle.hp_aomoto.specs.ProductMatrices.{IsProductRow, IsProductMatrix, IsRankBefore}
use Rattle.hp_aomoto.proofs.OneForms.{ω, omega-element}
use Rattle.hp_aomoto.proofs.NbcCoordinates.{map_same, map_map, N, nbc-is, Reader, read, set_of, readers, readers-sets, readers-length, readers-size, coords, coords-row, normal-coefficient, product_rows, coords-product_of, coords-product}
use Rattle.hp_aomoto.proofs.AomotoDimensions.{HasImages, dimension}

module _ {K : Type 0} (S : Setting K) where
  open S use {ring, numbers, arr}

  -- ---- sizes

  -- there is no set without broken circuit of a size above the rank
  pub nbc-none : (k : ℕ) → total_rank ring numbers arr < k → N S k ≡ []
  nbc-none k l = step (N S k) (λ s c.
      let w = nbc-is S k s c in
      let e = ((nbc-law S s w.0).0 w.1).0 in
      let h = subst (λ m. rank ring numbers arr s ≤ m) (sym (total-all S)) (rank-total (over S) s (set-indices arr s w.0)) in
      above (length s) _ w.2 e h)
    where
      above : (s r : ℕ) → s ≡ k → r ≡ s → r ≤ total_rank ring numbers arr → ⊥
      above s r e f m = omega arith

      step : (xs : List Set) → ((s : Set) → Contains xs s → ⊥) → xs ≡ []
      step [] f = refl
      step (x ∷ xs) f = absurd (f x (Contains-here x xs))

  module _ (weights : List K) (values : All S.ring.IsValue weights) where
    abbrev Ω : Ext K
    Ω = ω S weights values

    hΩ : Element S Ω
    hΩ = omega-element S weights values

    -- ---- the rows of a product matrix

    same_rows : (k : ℕ) (ds : List (Reader S)) (rows : List (List K))
        → AllZip (IsProductRow ring numbers arr weights k) (map (set_of S) ds) rows
        → rows ≡ product_rows S Ω ds (readers S (suc k))
    same_rows k [] [] h = refl
    same_rows k [] (row ∷ rows) h = absurd h
    same_rows k (d ∷ ds) [] h = absurd h
    same_rows k (d ∷ ds) (row ∷ rows) h =
        let fs = readers S (suc k) in
        let x = wedge ring Ω (basis_element ring d.set) in
        let hx = element-wedge S Ω _ hΩ (element-monomial S ring.one d.set (laws S).one_value d.within) in
        let p = h.0 in
        let e : row ≡ coords S fs x =
        p.2 ∙ ap (map (λ t. ext_coefficient ring p.0 t)) (sym (readers-sets S (suc k))) ∙ map_map (λ t. ext_coefficient ring p.0 t) (set_of S) fs
        ∙ map_same (λ (r : Reader S). ext_coefficient ring p.0 r.set) (λ r. read S r x) fs (λ r c. normal-coefficient S r x p.0 hx.0.is_sum p.1) in
        let r = same_rows k ds rows h.1 in
        λ i. e i ∷ r i

    matrix-rows : (k : ℕ) (m : Matrix K) → IsProductMatrix ring numbers arr weights k m
        → m.rows ≡ product_rows S Ω (readers S k) (readers S (suc k))
    matrix-rows k m p = same_rows k (readers S k) m.rows (subst (λ (ns : List Set). AllZip (IsProductRow ring numbers arr weights k) ns m.rows) (sym (readers-sets S k)) p.rows)

    rank-of : (k : ℕ) (m : Matrix K) (r : ℕ) → IsProductMatrix ring numbers arr weights k m → IsRank ring m r
        → IsRank ring record { cols = length (readers S (suc k)); rows = product_rows S Ω (readers S k) (readers S (suc k)) } r
    rank-of k m r p d =
        let e = p.cols ∙ sym (readers-length S (suc k)) in
        subst (λ (rows : List (List K)). HasDimension ring (length (readers S (suc k))) (IsCombination ring (length (readers S (suc k))) rows) r) (matrix-rows k m p)
        (subst (λ c. HasDimension ring c (IsCombination ring c m.rows) r) e d)

    -- ---- what comes before

    empty_row : (v : List K) → length v ≡ 0 → v ≡ []
    empty_row [] e = refl
    empty_row (x ∷ v) e = absurd (omega (arith, e))

    -- no rows span a space of dimension 0
    spans_nothing : (c : ℕ) → HasDimension ring c (IsCombination ring c []) 0
    spans_nothing c = ([], record { members = λ v h. absurd (Contains-none v h); spanning = λ v h. h; independent = λ cs a e. empty_row cs a.0 }, refl)

    first-images : HasImages S weights values 0 []
    first-images [] h d = ([], (refl, All-nil ring.IsValue), coords-product_of S Ω [] (readers S 0) [] hΩ.0.is_sum (All-nil ring.IsValue))
    first-images (t ∷ y) h d = absurd (omega (arith, All-head (λ t. length t.0 + 1 ≡ 0) t y d))

    next-images : (k : ℕ) → HasImages S weights values (suc k) (readers S k)
    next-images k y h d =
        let r = coords-row S (readers S k) y (element-okay S y h) in
        (coords S (readers S k) y, r, coords-product S k Ω y (readers S (suc k)) hΩ h (λ i e l. omega (arith, d i e l)))

    next-sizes : (k : ℕ) (d : Reader S) → Contains (readers S k) d → length d.set + 1 ≡ suc k
    next-sizes k d c = omega (arith, readers-size S k d c)

    -- The dimension of degree k: the number of sets, less the rank before and the rank of the matrix.
    pub dimension-step : (k : ℕ) (m : Matrix K) (before r : ℕ) → IsRankBefore ring numbers arr weights k before
        → IsProductMatrix ring numbers arr weights k m → IsRank ring m r
        → (before + r ≤ length (N S k)) × IsCohomologyDimension ring numbers arr weights k (length (N S k) - before - r)
    dimension-step zero m before r e p d =
        let w = dimension S weights values 0 [] (λ e c. absurd (Contains-none e c)) first-images before r
        (subst (λ b. HasDimension ring (length (readers S 0)) (IsCombination ring (length (readers S 0)) []) b) (sym e) (spans_nothing (length (readers S 0)))) (rank-of 0 m r p d) in
        subst (λ l. (before + r ≤ l) × IsCohomologyDimension ring numbers arr weights 0 (l - before - r)) (readers-length S 0) w
    dimension-step (suc k) m before r e p d =
        subst (λ l. (before + r ≤ l) × IsCohomologyDimension ring numbers arr weights (suc k) (l - before - r)) (readers-length S (suc k))
        (dimension S weights values (suc k) (readers S k) (next-sizes k) (next-images k) before r (rank-of k e.0 before e.1 e.2) (rank-of (suc k) m r p d))

-- ---- one number more

-- one row more
pub row_more : {A B : Type 0} (R : A → B → Type 0) (xs : List A) (ys : List B) (x : A) (y : B) → AllZip R xs ys → R x y
    → AllZip R (xs ++ x ∷ []) (ys ++ y ∷ [])
row_more R [] [] x y h r = (r, tt)
row_more R [] (v ∷ ys) x y h r = absurd h
row_more R (u ∷ xs) [] x y h r = absurd h
row_more R (u ∷ xs) (v ∷ ys) x y h r = (h.0, row_more R xs ys x y h.1 r)

module _ {K : Type 0} (S : Setting K) (weights : List K) where
  open S use {ring, numbers, arr}

  pub numbers_more : (k b : ℕ) (out : List ℕ) → AreCohomologyDimensions ring numbers arr weights k out
      → IsCohomologyDimension ring numbers arr weights k b → AreCohomologyDimensions ring numbers arr weights (k + 1) (out ++ b ∷ [])
  numbers_more k b out h d = record {
    many_are = length-append out (b ∷ []) ∙ ap (λ n. n + 1) h.many_are;
    each = λ j l. step j l (cases_lt j k);
  }
    where
      step : (j : ℕ) → j < k + 1 → (j < k) ⊎ (k ≤ j) → IsCohomologyDimension ring numbers arr weights j (slice_index (out ++ b ∷ []) j)
      step j l (inl m) = subst (λ c. IsCohomologyDimension ring numbers arr weights j c) (sym (get_or_append_left out (b ∷ []) 0 j (subst (λ n. j < n) (sym h.many_are) m))) (h.each j m)
      step j l (inr m) =
          let q : j ≡ k = omega (arith, l, m) in
          subst (λ i. IsCohomologyDimension ring numbers arr weights i (slice_index (out ++ b ∷ []) i)) (sym q)
          (subst (λ c. IsCohomologyDimension ring numbers arr weights k c) (sym (get_or_push out b 0 k h.many_are)) d)
