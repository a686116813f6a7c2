-- The coefficients of vectors at terms: of sums, multiples and combinations; vectors with equal coefficients are equal.
use Rattle.std.specs.Prelude.{◌≡◌, ◌≢◌, ℕ, suc, zero, ◌+◌, ◌-◌, ◌<◌, ◌≤◌, Bool, true, false, cond, List, [], ◌∷◌, length, All, Contains, slice_index_or}
use Rattle.std.specs.Ordering.{eq_by_cmp, is_eq, ordering_then}
use Rattle.std.specs.Cmp.{nat_cmp_total, tied_itself}
use Rattle.std.proofs.lemmas.List.{length-set}
use Rattle.std.proofs.lemmas.List.Elements.{All-nil, All-cons, All-head, All-tail, All-contains, All-map, All-set, All-weaker}
use mathlib.Core.Path.{refl, sym, ap, ◌∙◌, subst}
use native.Mathlib.Omega.{arith}
use Rattle.hp_algebra.specs.Ring.{RingOf, IsRing, IsCommutative}
use Rattle.hp_algebra.proofs.Rings.{zero_add, mul_zero}
use Rattle.hp_algebra.proofs.Rows.{plus-row, row-ext, scale-row, zeros-row}
use Rattle.hp_mono.specs.declared.term.Term.{Term}
use Rattle.hp_mono.specs.Monomials.{Monomial, IsMonomial}
use Rattle.hp_mono.specs.TermOrders.{IsTermWithin, times}
use Rattle.hp_sums.specs.FiniteSums.{HasValues, total}
use Rattle.hp_sums.proofs.SumSetting.{SumSetting}
use Rattle.hp_sums.proofs.Collected.{sum_ext, sum-total, tie, total-append, total-value}
use Rattle.hp_sums.proofs.WeightedSums.{delta, delta-value, total-delta, weighted, weighted-collect}
use Rattle.hp_sums.proofs.EqualTotals.{occurs-at, own-terms, total-absent}
use Rattle.hp_poly.specs.Polynomials.{Poly, IsPoly, from_greatest, poly_ring, poly_plus, term_poly}
use Rattle.hp_poly.specs.PolySetting.{poly_setting}
use Rattle.hp_poly.specs.PolyRing.{poly_is_ring, term_poly-IsPoly}
use Rattle.hp_module.specs.Vectors.{Vector, IsVector, zero_vector, vector_plus, vector_scale, combination}
use Rattle.hp_module.specs.FreeModules.{as_listed, coefficient_at, plus_term, terms, terms_from}
use Rattle.hp_module.proofs.VectorSums.{as_listed_same, entry-values, entry_terms, functional-plus, functional-plus_term, functional-scale, functional-cons, in_component, later-components, on_multiple, on_multiple-value, shifted, shifted-values, term_setting, terms-sum, terms-values, terms-within, terms-zero, weighted-entry, weighted-shifted}

module _ {F : Type 0} {ring : RingOf F} (laws : IsRing ring) (commutes : IsCommutative ring) where
  open ring use {zero as 0ₖ, add, mul, IsValue}

  abbrev T : SumSetting Term F
  T = term_setting laws commutes

  abbrev PR : IsRing (poly_ring ring)
  PR = poly_is_ring laws commutes

  abbrev tot : List (Term × F) → Term → F
  tot xs b = total as_listed ring xs b

  abbrev co : Vector F → Term → F
  co v b = coefficient_at ring v b

  abbrev D : Term → Term → F
  D b = delta T b

  abbrev Dv : (b t : Term) → IsValue (delta T b t)
  Dv b = delta-value T b

  -- ---- vectors

  pub zero-vector : (width : ℕ) → IsVector ring width (zero_vector ring width)
  zero-vector width = zeros-row PR width

  pub plus-vector : (width : ℕ) (v w : Vector F) → IsVector ring width v → IsVector ring width w
      → IsVector ring width (vector_plus ring v w)
  plus-vector width v w hv hw = plus-row PR width v w hv hw

  pub scale-vector : (width : ℕ) (q : Poly F) (v : Vector F) → IsPoly ring q → IsVector ring width v
      → IsVector ring width (vector_scale ring q v)
  scale-vector width q v f h = scale-row PR width q v f h

  pub multiple-vector : (width : ℕ) (c : F) (m : Monomial) (v : Vector F) → IsValue c → IsMonomial m
      → IsVector ring width v → IsVector ring width (vector_scale ring (term_poly ring c m) v)
  multiple-vector width c m v vc im h = scale-row PR width (term_poly ring c m) v (term_poly-IsPoly laws commutes c m vc im) h

  pub combination-vector : (width : ℕ) (qs : Vector F) (vs : List (Vector F)) → All (IsPoly ring) qs
      → All (IsVector ring width) vs → IsVector ring width (combination ring width qs vs)
  combination-vector width [] vs f g = zero-vector width
  combination-vector width (q ∷ qs) [] f g = zero-vector width
  combination-vector width (q ∷ qs) (v ∷ vs) f g =
      plus-vector width _ _ (scale-vector width q v (All-head (IsPoly ring) q qs f) (All-head (IsVector ring width) v vs g))
      (combination-vector width qs vs (All-tail (IsPoly ring) q qs f) (All-tail (IsVector ring width) v vs g))

  pub plus_term-vector : (width : ℕ) (v : Vector F) (t : Term) (c : F) → IsVector ring width v → IsTermWithin width t
      → IsValue c → IsVector ring width (plus_term ring v t c)
  plus_term-vector width v t c h w vc =
      let p : IsPoly ring (poly_plus ring (slice_index_or v (t.comp - 1) []) (term_poly ring c t.mono)) =
      PR.add_value _ _ (h.1 (t.comp - 1) [] (omega (arith, h.0, w.1, w.2))) (term_poly-IsPoly laws commutes c t.mono vc w.0) in
      (length-set v (t.comp - 1) _ ∙ h.0, All-set (IsPoly ring) v (t.comp - 1) _ p h.1)

  -- ---- coefficients

  pub coefficient-value : (width : ℕ) (v : Vector F) (b : Term) → IsVector ring width v
      → IsValue (coefficient_at ring v b)
  coefficient-value width v b h = total-value T (terms v) b (terms-values laws commutes 1 v h.1)

  by-delta : (v : Vector F) (b : Term) → All (IsPoly ring) v → co v b ≡ weighted ring (D b) (terms v)
  by-delta v b h = total-delta T b (terms v) (terms-values laws commutes 1 v h)

  pub coefficient-zero : (width : ℕ) (b : Term) → coefficient_at ring (zero_vector ring width) b ≡ 0ₖ
  coefficient-zero width b = ap (λ xs. tot xs b) (terms-zero ring 1 width)

  pub coefficient-plus : (width : ℕ) (v w : Vector F) (b : Term) → IsVector ring width v → IsVector ring width w
      → coefficient_at ring (vector_plus ring v w) b ≡ add (coefficient_at ring v b) (coefficient_at ring w b)
  coefficient-plus width v w b hv hw =
      let p = by-delta v b hv.1 in
      let q = by-delta w b hw.1 in
      by-delta _ b (plus-vector width v w hv hw).1
      ∙ functional-plus laws commutes (D b) (Dv b) 1 v w (hv.0 ∙ sym hw.0) hv.1 hw.1 ∙ (λ i. add (sym p i) (sym q i))

  -- the coefficient at b of m times the terms
  pub total-shifted : (m : Monomial) (xs : List (Term × F)) (b : Term) → HasValues ring xs
      → total as_listed ring (shifted m xs) b ≡ weighted ring (λ t. delta T b (times m t)) xs
  total-shifted m xs b h =
      total-delta T b (shifted m xs) (shifted-values laws commutes m xs h) ∙ weighted-shifted ring (D b) m xs

  pub coefficient-multiple : (width : ℕ) (c : F) (m : Monomial) (v : Vector F) (b : Term) → IsValue c → IsMonomial m
      → IsVector ring width v → coefficient_at ring (vector_scale ring (term_poly ring c m) v) b
      ≡ mul c (total as_listed ring (shifted m (terms v)) b)
  coefficient-multiple width c m v b vc im h =
      let tp = term_poly-IsPoly laws commutes c m vc im in
      let g = on_multiple laws commutes (D b) (Dv b) 1 v in
      let gv = on_multiple-value laws commutes (D b) (Dv b) 1 v h.1 in
      let one : HasValues ring ((m, c) ∷ []) = All-cons (λ (u : Monomial × F). IsValue u.1) (m, c) [] vc (All-nil (λ (u : Monomial × F). IsValue u.1)) in
      by-delta _ b (multiple-vector width c m v vc im h).1
      ∙ functional-scale laws commutes (D b) (Dv b) 1 (term_poly ring c m) v tp h.1
      ∙ weighted-collect (poly_setting laws commutes) g gv ((m, c) ∷ []) one
      ∙ laws.add_zero _ (laws.mul_value c _ vc (gv m)) ∙ ap (mul c) (sym (total-shifted m (terms v) b (terms-values laws commutes 1 v h.1)))

  -- one term more adds its coefficient where it stands
  pub coefficient-plus_term : (width : ℕ) (v : Vector F) (t : Term) (c : F) (b : Term) → IsVector ring width v
      → IsTermWithin width t → IsValue c
      → coefficient_at ring (plus_term ring v t c) b
      ≡ cond (eq_by_cmp as_listed b t) (add (coefficient_at ring v b) c) (coefficient_at ring v b)
  coefficient-plus_term width v t c b h w vc =
      let back : 1 + (t.comp - 1) ≡ t.comp = omega (arith, w.1) in
      let j : t.comp - 1 < length v = omega (arith, h.0, w.1, w.2) in
      by-delta _ b (plus_term-vector width v t c h w vc).1
      ∙ functional-plus_term laws commutes (D b) (Dv b) 1 (t.comp - 1) v t.mono c h.1 j vc w.0
      ∙ ap (λ n. add (weighted ring (D b) (terms v)) (mul c (D b (in_component n t.mono)))) back
      ∙ ap (λ x. add x (mul c (D b t))) (sym (by-delta v b h.1))
      ∙ pick (eq_by_cmp as_listed b t) (co v b) (coefficient-value width v b h)
    where
      pick : (z : Bool) (x : F) → IsValue x → add x (mul c (cond z ring.one 0ₖ)) ≡ cond z (add x c) x
      pick true x vx = ap (add x) (laws.mul_one c vc)
      pick false x vx = ap (add x) (mul_zero laws c vc) ∙ laws.add_zero x vx

  -- ---- vectors with equal coefficients are equal

  same_component : (m n : Monomial) (k : ℕ)
      → eq_by_cmp as_listed (in_component k m) (in_component k n) ≡ eq_by_cmp from_greatest m n
  same_component m n k = ap (λ r. is_eq (ordering_then r (from_greatest m n))) (tied_itself nat_cmp_total k)

  total-entry : (k : ℕ) (p : Poly F) (m : Monomial)
      → tot (entry_terms k p) (in_component k m) ≡ total from_greatest ring p m
  total-entry k [] m = refl
  total-entry k (t ∷ p) m =
      let r = total-entry k p m in
      let e = same_component m t.0 k in
      λ i. cond (e i) (add (r i) t.1) (r i)

  -- the coefficients of an entry are those of the vector in its component
  pub coefficient-entry : (k j : ℕ) (v : Vector F) (m : Monomial) → All (IsPoly ring) v → j < length v
      → total as_listed ring (terms_from k v) (in_component (k + j) m)
      ≡ total from_greatest ring (slice_index_or v j []) m
  coefficient-entry k j [] m h l = absurd (omega arith)
  coefficient-entry k zero (p ∷ v) m h l =
      let hp = All-head (IsPoly ring) p v h in
      let hv = All-tail (IsPoly ring) p v h in
      let z : k + 0 ≡ k = omega arith in
      let later = total-absent T (terms_from (k + 1) v) (in_component k m) (All-weaker (λ (t : Term × F). k + 1 ≤ t.0.comp)
      (λ t. in_component k m ≢ t.0) (λ t l e. absurd (omega (arith, l, ap (λ u. u.comp) e))) (terms_from (k + 1) v) (later-components laws commutes (k + 1) v)) in
      ap (λ n. tot (terms_from k (p ∷ v)) (in_component n m)) z
      ∙ total-append T (entry_terms k p) (terms_from (k + 1) v) (in_component k m) (entry-values laws commutes k p hp) (terms-values laws commutes (k + 1) v hv)
      ∙ ap (add (tot (entry_terms k p) (in_component k m))) later
      ∙ laws.add_zero _ (total-value T (entry_terms k p) (in_component k m) (entry-values laws commutes k p hp))
      ∙ total-entry k p m
  coefficient-entry k (suc j) (p ∷ v) m h l =
      let hp = All-head (IsPoly ring) p v h in
      let hv = All-tail (IsPoly ring) p v h in
      let z : k + suc j ≡ (k + 1) + j = omega arith in
      let r = coefficient-entry (k + 1) j v m hv (omega arith) in
      let b = in_component ((k + 1) + j) m in
      let A : Term × F → Type 0 = λ t. b ≢ t.0 in
      let earlier = total-absent T (entry_terms k p) b (All-map A (λ t. (record { mono = t.0; comp = k }, t.1)) p
      (λ i d n e. absurd (omega (arith, ap (λ u. u.comp) e)))) in
      ap (λ n. tot (terms_from k (p ∷ v)) (in_component n m)) z
      ∙ total-append T (entry_terms k p) (terms_from (k + 1) v) b (entry-values laws commutes k p hp) (terms-values laws commutes (k + 1) v hv)
      ∙ ap (λ x. add x (tot (terms_from (k + 1) v) b)) earlier
      ∙ zero_add laws _ (total-value T (terms_from (k + 1) v) b (terms-values laws commutes (k + 1) v hv)) ∙ r

  pub coefficient-ext : (width : ℕ) (v w : Vector F) → IsVector ring width v → IsVector ring width w
      → ((b : Term) → coefficient_at ring v b ≡ coefficient_at ring w b) → v ≡ w
  coefficient-ext width v w hv hw e =
      row-ext (poly_ring ring) width v w hv.0 hw.0 (λ j l.
      let lv : j < length v = omega (arith, hv.0, l) in
      let lw : j < length w = omega (arith, hw.0, l) in
      let pv = hv.1 j [] lv in
      let pw = hw.1 j [] lw in
      sum_ext (poly_setting laws commutes) _ _ pv.is_sum pw.is_sum (λ m.
      sym (sum-total (poly_setting laws commutes) _ m pv.is_sum) ∙ sym (coefficient-entry 1 j v m hv.1 lv) ∙ e (in_component (1 + j) m)
      ∙ coefficient-entry 1 j w m hw.1 lw ∙ sum-total (poly_setting laws commutes) _ m pw.is_sum))

  -- ---- the terms of a vector are those at which it has a coefficient

  pub within : (width : ℕ) (v : Vector F) → IsVector ring width v → All (λ t. IsTermWithin width t.0) (terms v)
  within width v h = terms-within laws commutes 1 width v h.1 (omega (arith, h.0)) (omega arith)

  pub occurs : (width : ℕ) (v : Vector F) (b : Term) → IsVector ring width v → coefficient_at ring v b ≢ 0ₖ
      → Contains (terms v) (b, coefficient_at ring v b)
  occurs width v b h n = occurs-at T (terms v) b (terms-sum laws commutes 1 v h.1) n

  pub own : (width : ℕ) (v : Vector F) (b : Term) (c : F) → IsVector ring width v → Contains (terms v) (b, c)
      → (coefficient_at ring v b ≡ c) × (c ≢ 0ₖ)
  own width v b c h o =
      let s = terms-sum laws commutes 1 v h.1 in (
        All-contains (λ (t : Term × F). tot (terms v) t.0 ≡ t.1) (terms v) (b, c) (own-terms T (terms v) s) o,
        (All-contains (λ (t : Term × F). IsValue t.1 × (t.1 ≢ 0ₖ)) (terms v) (b, c) s.values o).1,
      )

  -- a fact of each term at which there is a coefficient
  pub all-terms : (width : ℕ) (v : Vector F) (P : Term → Type 0) → IsVector ring width v
      → ((b : Term) → IsTermWithin width b → coefficient_at ring v b ≢ 0ₖ → P b) → All (λ t. P t.0) (terms v)
  all-terms width v P h f = λ i d l.
      let s = terms-sum laws commutes 1 v h.1 in
      let own = own-terms T (terms v) s i d l in
      f (slice_index_or (terms v) i d).0 (within width v h i d l) (λ z. (s.values i d l).1 (sym own ∙ z))

  pub at-term : (width : ℕ) (v : Vector F) (P : Term → Type 0) (b : Term) → IsVector ring width v
      → All (λ t. P t.0) (terms v) → coefficient_at ring v b ≢ 0ₖ → P b
  at-term width v P b h f n = All-contains (λ (t : Term × F). P t.0) (terms v) (b, co v b) f (occurs width v b h n)

  pub no_terms : (width : ℕ) (v : Vector F) → IsVector ring width v → terms v ≡ [] → v ≡ zero_vector ring width
  no_terms width v h e =
      coefficient-ext width v (zero_vector ring width) h (zero-vector width) (λ b. ap (λ xs. tot xs b) e ∙ sym (coefficient-zero width b))

  -- what holds of the term and of the terms of the old vector holds of those of the vector with one term more
  pub plus_term-all : (width : ℕ) (P : Term → Type 0) (v : Vector F) (t : Term) (c : F) → IsVector ring width v
      → IsTermWithin width t → IsValue c → P t → All (λ y. P y.0) (terms v)
      → All (λ y. P y.0) (terms (plus_term ring v t c))
  plus_term-all width P v t c h w vc pt po =
      all-terms width (plus_term ring v t c) P (plus_term-vector width v t c h w vc) (λ b hb n.
      let e = coefficient-plus_term width v t c b h w vc in
      elim (eq_by_cmp as_listed b t) as (λ z. eq_by_cmp as_listed b t ≡ z → P b) [
        | true ↦ λ p. subst P (sym (as_listed_same b t (tie (as_listed b t) p))) pt
        | false ↦ λ p. at-term width v P b h po (λ z. n (e ∙ ap (λ q. cond q (add (co v b) c) (co v b)) p ∙ z))
      ] refl)

  -- ---- combinations

  -- the coefficient at b of a symbol: its monomial times the member of its component
  abbrev pub image : (ℕ → List (Term × F)) → Term → Term → F
  image fam b a = total as_listed ring (shifted a.mono (fam a.comp)) b

  module _ (fam : ℕ → List (Term × F)) (fv : (i : ℕ) → HasValues ring (fam i)) where
    pub image-value : (b a : Term) → IsValue (image fam b a)
    image-value b a = total-value T (shifted a.mono (fam a.comp)) b (shifted-values laws commutes a.mono (fam a.comp) (fv a.comp))

    combination-from : (width i : ℕ) (qs : Vector F) (vs : List (Vector F)) → length qs ≡ length vs
        → All (IsPoly ring) qs
        → All (IsVector ring width) vs → ((j : ℕ) → j < length vs → fam (i + j) ≡ terms (slice_index_or vs j []))
        → (b : Term) → co (combination ring width qs vs) b ≡ weighted ring (image fam b) (terms_from i qs)
    combination-from width i [] vs e f h m b = coefficient-zero width b
    combination-from width i (q ∷ qs) [] e f h m b = absurd (omega arith)
    combination-from width i (q ∷ qs) (v ∷ vs) e f h m b =
        let fq = All-head (IsPoly ring) q qs f in
        let fqs = All-tail (IsPoly ring) q qs f in
        let hv = All-head (IsVector ring width) v vs h in
        let hvs = All-tail (IsVector ring width) v vs h in
        let sv = scale-vector width q v fq hv in
        let cv = combination-vector width qs vs fqs hvs in
        let z : i ≡ i + 0 = omega arith in
        let first : 0 < length (v ∷ vs) = omega arith in
        let here : fam i ≡ terms v = ap fam z ∙ m 0 first in
        let next : (j : ℕ) → (i + 1) + j ≡ i + suc j = λ j. omega arith in
        let inside : (j : ℕ) → j < length vs → suc j < length (v ∷ vs) = λ j l. omega arith in
        let rest = combination-from width (i + 1) qs vs (omega arith) fqs hvs (λ j l. ap fam (next j) ∙ m (suc j) (inside j l)) b in
        let vals : HasValues ring (terms v) = terms-values laws commutes 1 v hv.1 in
        let one : co (vector_scale ring q v) b ≡ weighted ring (image fam b) (entry_terms i q) =
        by-delta _ b sv.1 ∙ functional-scale laws commutes (D b) (Dv b) 1 q v fq hv.1
        ∙ ap (λ g. weighted ring g q) (λ k n. (sym (total-shifted n (terms v) b vals) ∙ ap (λ xs. tot (shifted n xs) b) (sym here)) k)
        ∙ sym (weighted-entry ring (image fam b) i q) in
        coefficient-plus width _ _ b sv cv ∙ (λ k. add (one k) (rest k))
        ∙ sym (functional-cons laws commutes (image fam b) (image-value b) i q qs fq fqs)

  -- the terms of the member of a component
  abbrev pub family : List (Vector F) → ℕ → List (Term × F)
  family vs c = terms (slice_index_or vs (c - 1) [])

  pub family-values : (width : ℕ) (vs : List (Vector F)) → All (IsVector ring width) vs → (c : ℕ)
      → HasValues ring (family vs c)
  family-values width vs h c = terms-values laws commutes 1 _ (polys vs (c - 1) h)
    where
      polys : (vs : List (Vector F)) (k : ℕ) → All (IsVector ring width) vs → All (IsPoly ring) (slice_index_or vs k [])
      polys [] k h = All-nil (IsPoly ring)
      polys (v ∷ vs) zero h = (All-head (IsVector ring width) v vs h).1
      polys (v ∷ vs) (suc k) h = polys vs k (All-tail (IsVector ring width) v vs h)

  -- the coefficients of a combination are those of the symbols in its quotients
  pub coefficient-combination : (width : ℕ) (qs : Vector F) (vs : List (Vector F)) → IsVector ring (length vs) qs
      → All (IsVector ring width) vs → (b : Term)
      → coefficient_at ring (combination ring width qs vs) b ≡ weighted ring (image (family vs) b) (terms qs)
  coefficient-combination width qs vs f h b =
      let back : (j : ℕ) → (1 + j) - 1 ≡ j = λ j. omega arith in
      combination-from (family vs) (family-values width vs h) width 1 qs vs f.0 f.1 h
      (λ j l. ap (λ k. terms (slice_index_or vs k [])) (back j)) b

  -- one symbol more in the quotients
  pub combination-plus_term : (width : ℕ) (qs : Vector F) (vs : List (Vector F)) (t : Term) (c : F)
      → IsVector ring (length vs) qs → All (IsVector ring width) vs → IsTermWithin (length vs) t → IsValue c
      → (b : Term)
      → coefficient_at ring (combination ring width (plus_term ring qs t c) vs) b
      ≡ add (coefficient_at ring (combination ring width qs vs) b) (mul c (image (family vs) b t))
  combination-plus_term width qs vs t c f h w vc b =
      let g = image (family vs) b in
      let gv = image-value (family vs) (family-values width vs h) b in
      let back : 1 + (t.comp - 1) ≡ t.comp = omega (arith, w.1) in
      let j : t.comp - 1 < length qs = omega (arith, f.0, w.1, w.2) in
      coefficient-combination width (plus_term ring qs t c) vs (plus_term-vector (length vs) qs t c f w vc) h b
      ∙ functional-plus_term laws commutes g gv 1 (t.comp - 1) qs t.mono c f.1 j vc w.0
      ∙ ap (λ n. add (weighted ring g (terms qs)) (mul c (g (in_component n t.mono)))) back
      ∙ ap (λ x. add x (mul c (g t))) (sym (coefficient-combination width qs vs f h b))
