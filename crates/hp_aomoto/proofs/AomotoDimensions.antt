-- The dimensions of the cohomology, from the ranks of matrices on the sets without broken circuit.
use Rattle.std.proofs.Common.{◌≡◌, ℕ, suc, ◌+◌, ◌-◌, ◌≤◌, List, [], ◌∷◌, map, length, All, Contains, refl, sym, ap, subst, ◌∙◌, arith, map-id}
use Rattle.std.proofs.lemmas.List.{length-map}
use Rattle.std.proofs.lemmas.List.Elements.{All-nil, All-cons, All-head, All-tail, All-map, All-contains, All-replicate}
use Rattle.hp_algebra.specs.Rows.{IsRow, entry, zero_row, row_plus, row_times}
use Rattle.hp_algebra.proofs.Rings.{add_cancel}
use Rattle.hp_algebra.proofs.Rows.{entry-plus, entry-value, row-ext}
use Rattle.hp_lists.proofs.Members.{each-All}
use Rattle.hp_sets.specs.Sets.{Set, IsSetWithin}
use Rattle.hp_sets.proofs.SetLaws.{empty-set}
use Rattle.hp_exterior.specs.SetSums.{length-union}
use Rattle.hp_sums.proofs.SumLaws.{plus-keys}
use Rattle.hp_sums.proofs.Collected.{collect-keys}
use Rattle.hp_arr.proofs.Setting.{Setting, n}
use Rattle.hp_linear.specs.Spaces.{AreCoefficients, IsCombination, HasDimension}
use Rattle.hp_linear.specs.Matrices.{Matrix, IsMatrix, IsRank}
use Rattle.hp_linear.proofs.Combinations.{times-row}
use Rattle.hp_linear.proofs.SpaceQuotients.{IsBasisModulo}
use Rattle.hp_linear.proofs.RowRelations.{IsRelation, relations-modulo}
use Rattle.hp_exterior.specs.Exterior.{Ext, IsOfDegree, wedge}
use Rattle.hp_exterior.proofs.DegreeLaws.{degree-wedge, wedge-keys_by}
use Rattle.hp_os.specs.OrlikSolomon.{ext_minus, multiple, basis_element}
use Rattle.hp_os.proofs.IdealSetting.{Element, commutes, laws, sums}
use Rattle.hp_os.proofs.ElementLaws.{element-okay, element-minus, element-monomial, element-multiple, element-nothing, element-plus, element-wedge, w-rest}
use Rattle.hp_aomoto.specs.AomotoCohomology.{IsCocycle, IsCoboundary, IsCohomologyDimension, ext_combination}
use Rattle.hp_aomoto.proofs.OneForms.{ω, omega-element, omega-degree, omega-chain, omega-twice}
use Rattle.hp_aomoto.proofs.NbcCoordinates.{map_same, same_map, map_map, Reader, read, read-in, readers, coords, coords-row, coords-plus, coords-multiple, coords-congruent, constant-map, plus-map, degree-minus, element_of, element-element, element-degree, element-keys, coords-element, product_rows, product-rows, coords-product_of, in-coords, congruent-coords, coords-product}

module _ {K : Type 0} (S : Setting K) where
  open S use {ring, numbers, arr, field}

  row-cancel : (l : ℕ) (a b c : List K) → IsRow ring l a → IsRow ring l b → IsRow ring l c
      → row_plus ring a b ≡ row_plus ring a c → b ≡ c
  row-cancel l a b c ra rb rc e =
      row-ext ring l b c rb.0 rc.0 (λ j h.
      let v = λ (x : List K) (r : IsRow ring l x). entry-value (laws S) l x j h r in
      add_cancel (laws S) _ _ _ (v a ra) (v b rb) (v c rc)
      (sym (entry-plus (laws S) l a b j h ra rb) ∙ ap (λ s. entry ring s j) e ∙ entry-plus (laws S) l a c j h ra rc))

  -- the coordinates of a difference are what is added to those of the second
  coords-minus : (ds : List (Reader S)) (x y : Ext K) (u : List K) → Element S x → Element S y → IsRow ring (length ds) u
      → coords S ds x ≡ row_plus ring (coords S ds y) u → coords S ds (ext_minus ring x y) ≡ u
  coords-minus ds x y u h k ru e =
      let d = ext_minus ring x y in
      let hd = element-minus S x y h k in
      row-cancel (length ds) (coords S ds y) (coords S ds d) u (coords-row S ds y (element-okay S y k)) (coords-row S ds d (element-okay S d hd)) ru
      (plus-map S (λ b. read S b y) (λ b. read S b d) ds
      ∙ sym (map_same (λ b. read S b x) (λ b. ring.add (read S b y) (read S b d)) ds (λ b c. w-rest S b.value b.is_dual.values x y h.0.is_sum k.0.is_sum)) ∙ e)

  abbrev pub Chain : ℕ → Ext K → Type 0
  Chain k x = Element S x × IsOfDegree S.ring k x

  chain-nothing : (k : ℕ) → Chain k []
  chain-nothing k = (element-nothing S, All-nil (λ (t : Set × K). length t.0 ≡ k))

  chain-multiple : (k : ℕ) (c : K) (x : Ext K) → ring.IsValue c → Chain k x → Chain k (multiple ring c x)
  chain-multiple k c x v h =
      let one = element-monomial S c [] v (empty-set (n S)) in
      let Deg : ℕ → Set × K → Type 0 = λ j t. length t.0 ≡ j in
      (element-multiple S c x v h.0, subst (λ j. IsOfDegree ring j (multiple ring c x)) (same k) (degree-wedge (laws S) (commutes S) 0 k _ x one.0 h.0.0 (collect-keys (sums S) (λ s. length s ≡ 0) (([], c) ∷ []) (All-cons (Deg 0) ([], c) [] refl (All-nil (Deg 0)))) h.1))
    where
      same : (k : ℕ) → 0 + k ≡ k
      same k = omega arith

  -- a combination of elements of degree k, and its coordinates
  pub combined : (k : ℕ) (ds : List (Reader S)) (cs : List K) (xs : List (Ext K)) → All ring.IsValue cs → All (λ x. Chain k x) xs
      → Chain k (ext_combination ring cs xs)
      × (coords S ds (ext_combination ring cs xs) ≡ row_times ring (length ds) cs (map (coords S ds) xs))
  combined k ds [] xs v h = (chain-nothing k, constant-map S ring.zero ds)
  combined k ds (c ∷ cs) [] v h = (chain-nothing k, constant-map S ring.zero ds)
  combined k ds (c ∷ cs) (x ∷ xs) v h =
      let vc = All-head ring.IsValue c cs v in
      let hx = All-head (λ x. Chain k x) x xs h in
      let w = combined k ds cs xs (All-tail ring.IsValue c cs v) (All-tail (λ x. Chain k x) x xs h) in
      let y = ext_combination ring cs xs in
      let t = chain-multiple k c x vc hx in
      let e = coords-multiple S ds c x vc hx.0 in (
        (element-plus S _ y t.0 w.0.0, plus-keys (sums S) (λ s. length s ≡ k) _ y t.1 w.0.1),
        coords-plus S ds _ y t.0.0.is_sum w.0.0.0.is_sum ∙ (λ i. row_plus ring (e i) (w.1 i)),
      )

  -- ---- the dimension, from the matrices

  module _ (weights : List K) (values : All S.ring.IsValue weights) where
    abbrev Ω : Ext K
    Ω = ω S weights values

    hΩ : Element S Ω
    hΩ = omega-element S weights values

    unit-element : (d : Reader S) → Element S (basis_element ring d.set)
    unit-element d = element-monomial S ring.one d.set (laws S).one_value d.within

    unit-degree : (s : Set) → IsOfDegree ring (length s) (basis_element ring s)
    unit-degree s = collect-keys (sums S) (λ u. length u ≡ length s) ((s, ring.one) ∷ []) (All-cons (λ (t : Set × K). length t.0 ≡ length s) (s, ring.one) [] refl (All-nil (λ (t : Set × K). length t.0 ≡ length s)))

    -- the products of ω with elements of degree k - 1 have the coordinates of combinations of the rows
    abbrev pub HasImages : ℕ → List (Reader S) → Type 0
    HasImages k prev = (y : Ext K) → Element S y → All (λ t. length t.0 + 1 ≡ k) y
        → (v : List K) × AreCoefficients S.ring (length prev) v
        × (coords S (readers S k) (wedge S.ring Ω y) ≡ row_times S.ring (length (readers S k)) v (product_rows S Ω prev (readers S k)))

    module _ (k : ℕ) (prev : List (Reader S)) (sizes : (d : Reader S) → Contains prev d → length d.set + 1 ≡ k) (images : HasImages k prev) where
      abbrev es : List (Reader S)
      es = readers S k

      abbrev fs : List (Reader S)
      fs = readers S (suc k)

      abbrev m : ℕ
      m = length (readers S k)

      abbrev A : List (List K)
      A = product_rows S Ω prev (readers S k)

      -- the matrix from degree k to degree k + 1
      abbrev B : Matrix K
      B = record { cols = length (readers S (suc k)); rows = product_rows S Ω (readers S k) (readers S (suc k)) }

      matrix_B : IsMatrix ring B
      matrix_B = product-rows S Ω es fs hΩ.0.is_sum

      rows_A : All (IsRow ring m) A
      rows_A = product-rows S Ω prev es hΩ.0.is_sum

      length_B : length B.rows ≡ m
      length_B = length-map es (λ d. coords S fs (wedge ring Ω (basis_element ring d.set)))

      -- coordinates of cocycles are relations of B
      relation-of : (x : Ext K) → Chain k x → coords S fs (wedge ring Ω x) ≡ zero_row ring (length fs)
          → IsRelation ring B (coords S es x)
      relation-of x h e =
          let r = coords-row S es x (element-okay S x h.0) in
          ((r.0 ∙ sym length_B, r.1), sym (coords-product S k Ω x fs hΩ h.0 h.1) ∙ e)

      relations_A : All (IsRelation ring B) A
      relations_A = All-map (IsRelation ring B) (λ d. coords S es (wedge ring Ω (basis_element ring d.set))) prev (each-All (λ d. IsRelation ring B (coords S es (wedge ring Ω (basis_element ring d.set)))) prev (λ d c.
          let e = unit-element d in
          relation-of (wedge ring Ω (basis_element ring d.set))
          (element-wedge S Ω _ hΩ e, subst (λ j. IsOfDegree ring j (wedge ring Ω (basis_element ring d.set))) (next (length d.set) (sizes d c)) (omega-chain S weights values (length d.set) _ e (unit-degree d.set)))
          (ap (coords S fs) (omega-twice S weights values _ e) ∙ constant-map S ring.zero fs)))
        where
          next : (l : ℕ) → l + 1 ≡ k → suc l ≡ k
          next l e = omega arith

      chain-of : (v : List K) → All ring.IsValue v → Chain k (element_of S es v)
      chain-of v h = (element-element S es v h, element-degree S k v)

      -- a relation of B gives a cocycle
      cocycle : (z : List K) → IsRelation ring B z → IsCocycle ring numbers arr weights k (element_of S es z)
      cocycle z r =
          let row : IsRow ring m z = (r.0.0 ∙ length_B, r.0.1) in
          let h = chain-of z r.0.1 in
          let x = element_of S es z in
          let e : coords S fs (wedge ring Ω x) ≡ map (λ d. ring.zero) fs =
          coords-product S k Ω x fs hΩ h.0 h.1 ∙ ap (λ v. row_times ring (length fs) v B.rows) (coords-element S k z row) ∙ r.1 ∙ sym (constant-map S ring.zero fs) in
          (h, in-coords S (suc k) (wedge ring Ω x) (element-wedge S Ω x hΩ h.0) (omega-chain S weights values k x h.0 h.1) (λ d c. same_map (λ d. read S d (wedge ring Ω x)) (λ d. ring.zero) fs e d c))

      -- the coordinates of a cocycle are a relation
      cocycle-relation : (x : Ext K) → IsCocycle ring numbers arr weights k x → IsRelation ring B (coords S es x)
      cocycle-relation x h = relation-of x h.0 (map_same (λ d. read S d (wedge ring Ω x)) (λ d. ring.zero) fs (λ d c. read-in S d _ h.1) ∙ constant-map S ring.zero fs)

      degree-next : (y : Ext K) → Element S y → All (λ t. length t.0 + 1 ≡ k) y → IsOfDegree ring k (wedge ring Ω y)
      degree-next y hy ry =
          wedge-keys_by (laws S) (commutes S) (λ s. IsSetWithin 64 s × (length s ≡ 1)) (λ s. IsSetWithin 64 s × (length s + 1 ≡ k)) (λ s. length s ≡ k)
          (λ s t p r o. sizes-add (length s) (length t) _ (length-union s t p.0 r.0 o) p.1 r.1) Ω y
          (λ i d l. (hΩ.0.sets i d l, omega-degree S weights values i d l)) (λ i d l. (hy.0.sets i d l, ry i d l))
        where
          sizes-add : (a b c : ℕ) → c ≡ a + b → a ≡ 1 → b + 1 ≡ k → c ≡ k
          sizes-add a b c e f g = omega arith

      -- an element of degree k with coordinates in the span of A is a coboundary
      coboundary : (x : Ext K) → Chain k x → IsCombination ring m A (coords S es x) → IsCoboundary ring numbers arr weights k x
      coboundary x h s =
          let y = element_of S prev s.0 in
          let hy = element-element S prev s.0 s.1.1 in
          let ry : All (λ (t : Set × K). length t.0 + 1 ≡ k) y = element-keys S (λ t. length t + 1 ≡ k) prev s.0 sizes in
          let b = coords-product_of S Ω prev es s.0 hΩ.0.is_sum s.1.1 in
          record {
            chain = h;
            before = y;
            element = hy;
            degree = ry;
            congruent = congruent-coords S k x (wedge ring Ω y) h.0 (element-wedge S Ω y hΩ hy) h.1 (degree-next y hy ry) (s.2 ∙ sym b);
          }

      -- and a coboundary has its coordinates there
      coboundary-span : (x : Ext K) → IsCoboundary ring numbers arr weights k x → IsCombination ring m A (coords S es x)
      coboundary-span x c =
          let w = images c.before c.element c.degree in (
            w.0,
            (w.1.0 ∙ sym (length-map prev (λ d. coords S es (wedge ring Ω (basis_element ring d.set)))), w.1.1),
            coords-congruent S es x (wedge ring Ω c.before) c.chain.0.0.is_sum (element-wedge S Ω c.before hΩ c.element).0.is_sum c.congruent ∙ w.2,
          )

      abbrev IsQuotient : List (List K) → Type 0
      IsQuotient zs = IsBasisModulo ring m (IsRelation ring B) A zs

      quotient : (ra rb : ℕ) → HasDimension ring m (IsCombination ring m A) ra → IsRank ring B rb
          → (zs : List (List K)) × IsQuotient zs × (length zs + ra + rb ≡ m)
      quotient ra rb da db =
          subst (λ j. HasDimension ring j (IsCombination ring j A) ra → (zs : List (List K)) × IsBasisModulo ring j (IsRelation ring B) A zs × (length zs + ra + rb ≡ j)) length_B
          (λ d. relations-modulo field B matrix_B rb db A relations_A ra d) da

      module _ (zs : List (List K)) (basis : IsQuotient zs) where
        abbrev xs : List (Ext K)
        xs = map (element_of S es) zs

        relations_zs : All (IsRelation ring B) zs
        relations_zs = each-All (IsRelation ring B) zs basis.members

        rows_zs : All (IsRow ring m) zs
        rows_zs i d l = let r = relations_zs i d l in (r.0.0 ∙ length_B, r.0.1)

        chains : All (λ x. Chain k x) xs
        chains = All-map (λ x. Chain k x) (element_of S es) zs (λ i d l. chain-of _ (rows_zs i d l).1)

        coords-xs : map (coords S es) xs ≡ zs
        coords-xs = map_map (coords S es) (element_of S es) zs ∙ map_same (λ z. coords S es (element_of S es z)) (λ z. z) zs (λ z c. coords-element S k z (All-contains (IsRow ring m) zs z rows_zs c)) ∙ map-id zs

        coords-comb : (cs : List K) → All ring.IsValue cs → coords S es (ext_combination ring cs xs) ≡ row_times ring m cs zs
        coords-comb cs v = (combined k es cs xs v chains).1 ∙ ap (row_times ring m cs) coords-xs

        -- what a row of the span is added to is a coboundary
        span-coboundary : (x : Ext K) (cs u : List K) → Chain k x → All ring.IsValue cs → IsCombination ring m A u
            → coords S es x ≡ row_plus ring (row_times ring m cs zs) u
            → IsCoboundary ring numbers arr weights k (ext_minus ring x (ext_combination ring cs xs))
        span-coboundary x cs u h v s e =
            let y = ext_combination ring cs xs in
            let hc = (combined k es cs xs v chains).0 in
            let ru : IsRow ring m u = subst (IsRow ring m) (sym s.2) (times-row (laws S) m s.0 A s.1.1 rows_A) in
            let a = coords-minus es x y u h.0 hc.0 ru (e ∙ ap (λ r. row_plus ring r u) (sym (coords-comb cs v))) in
            coboundary (ext_minus ring x y) (element-minus S x y h.0 hc.0, degree-minus S k x y h.1 hc.1) (subst (IsCombination ring m A) (sym a) s)

      -- The number of sets without broken circuit less both ranks is the dimension.
      pub dimension : (ra rb : ℕ) → HasDimension ring m (IsCombination ring m A) ra → IsRank ring B rb
          → (ra + rb ≤ m) × IsCohomologyDimension ring numbers arr weights k (m - ra - rb)
      dimension ra rb da db =
          let w = quotient ra rb da db in
          let zs = w.0 in
          let size : length zs ≡ m - ra - rb = rest (length zs) w.2 in (
            low (length zs) w.2,
            record {
              cocycles = map (element_of S es) zs;
              how_many = length-map zs (element_of S es) ∙ size;
              are_cocycles = All-map (λ x. IsCocycle ring numbers arr weights k x) (element_of S es) zs (λ i d l. cocycle _ (relations_zs zs w.1 i d l));
              independent = λ cs a b.
                  let e = w.1.independent cs (a.0 ∙ sym size, a.1) (subst (IsCombination ring m A) (coords-comb zs w.1 cs a.1) (coboundary-span _ b)) in
                  subst (λ ds. All (λ d. d ≡ ring.zero) ds) (sym e) (All-replicate (λ d. d ≡ ring.zero) (length zs) ring.zero refl);
              spanning = λ x h.
                  let p = w.1.spanning (coords S es x) (cocycle-relation x h) in
                  (p.0, (p.1.0 ∙ size, p.1.1), span-coboundary zs w.1 x p.0 p.2 h.0 p.1.1 p.3 p.4);
            },
          )
        where
          low : (z : ℕ) → z + ra + rb ≡ m → ra + rb ≤ m
          low z e = omega arith

          rest : (z : ℕ) → z + ra + rb ≡ m → z ≡ m - ra - rb
          rest z e = omega arith
