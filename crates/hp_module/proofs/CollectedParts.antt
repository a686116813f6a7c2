-- The polynomial of a list of terms, whatever their order: of sums, multiples and single terms.
use Rattle.std.specs.Prelude.{◌≡◌, ◌≢◌, ℕ, Bool, true, false, cond, [], ◌∷◌, ◌++◌, take, drop, All}
use Rattle.std.specs.declared.cmp.Ordering.{Ordering}
use Rattle.std.specs.declared.cmp.Ordering.TheVariants.{Equal}
use Rattle.std.specs.Ordering.{eq_by_cmp}
use Rattle.std.specs.Cmp.{IsTotalOrder}
use Rattle.std.proofs.lemmas.List.Elements.{All-append, All-cons, All-head, All-map, All-nil, All-tail}
use Rattle.std.proofs.lemmas.List.{take-append-drop}
use mathlib.Core.Path.{refl, sym, ap, ◌∙◌, subst}
use Rattle.hp_algebra.specs.Ring.{RingOf, IsRing, IsCommutative, IsField}
use Rattle.hp_algebra.proofs.Rings.{zero_add}
use Rattle.hp_mono.specs.Monomials.{Monomial, IsMonomial, product}
use Rattle.hp_sums.specs.FiniteSums.{IsSum, HasValues, collect, plus, total}
use Rattle.hp_sums.proofs.SumSetting.{SumSetting}
use Rattle.hp_sums.proofs.Collected.{collect_ext, collect-IsSum, collect-sum, sum-values, tie}
use Rattle.hp_sums.proofs.WeightedSums.{weighted, weighted-collect, weighted-scaled, scaled, delta, delta-value, total-delta}
use Rattle.hp_sums.proofs.Merges.{collect_both}
use Rattle.hp_sums.proofs.EqualTotals.{eq-itself, eq-other, own-terms}
use Rattle.hp_poly.specs.Polynomials.{Poly, from_greatest, multiple, poly_of, poly_plus, poly_times, term_poly}
use Rattle.hp_poly.specs.PolySetting.{poly_setting}
use Rattle.hp_poly.specs.PolyRing.{poly_is_ring, poly_of-IsPoly, term_poly-IsPoly}
use Rattle.hp_poly.proofs.TermMultiples.{multiple_poly, times_multiple}

module _ {B R : Type 0} (S T : SumSetting B R) where
  -- two orders test equality alike
  pub equal_tests : (a b : B) → eq_by_cmp S.order a b ≡ eq_by_cmp T.order a b
  equal_tests a b =
      elim (eq_by_cmp T.order a b) as (λ z. eq_by_cmp T.order a b ≡ z → eq_by_cmp S.order a b ≡ z) [
        | true ↦ λ e. subst (λ c. eq_by_cmp S.order a c ≡ true) (T.same a b (tie (T.order a b) e)) (eq-itself S a)
        | false ↦ λ e. eq-other S a b (λ p. Rattle.std.proofs.lemmas.Bool.false≢true (sym e ∙ subst (λ c. eq_by_cmp T.order a c ≡ true) p (eq-itself T a)))
      ] refl

module _ {F : Type 0} {ring : RingOf F} {inverse : F → F} (field : IsField ring inverse) where
  abbrev laws : IsRing ring
  laws = field.is_ring

  abbrev commutes : IsCommutative ring
  commutes = field.commutes

  abbrev P : SumSetting Monomial F
  P = poly_setting laws commutes

  pub multiple-values : (c : F) (m : Monomial) (xs : Poly F) → ring.IsValue c → HasValues ring xs
      → HasValues ring (multiple ring c m xs)
  multiple-values c m xs v h =
      All-map (λ (t : Monomial × F). ring.IsValue t.1) (λ t. (product m t.0, ring.mul c t.1)) xs (λ i t l. laws.mul_value c _ v (h i t l))

  weighted-multiple : (g : Monomial → F) → ((m : Monomial) → ring.IsValue (g m)) → (c : F) (m : Monomial) (xs : Poly F) → ring.IsValue c
      → HasValues ring xs → weighted ring g (multiple ring c m xs) ≡ ring.mul c (weighted ring (λ n. g (product m n)) xs)
  weighted-multiple g gv c m xs v h =
      shifted xs ∙ weighted-scaled P (λ n. g (product m n)) (λ n. gv (product m n)) c xs v h
    where
      shifted : (xs : Poly F) → weighted ring g (multiple ring c m xs) ≡ weighted ring (λ n. g (product m n)) (scaled ring c xs)
      shifted [] = refl
      shifted (x ∷ xs) = ap (ring.add (ring.mul (ring.mul c x.1) (g (product m x.0)))) (shifted xs)

  -- a multiple of terms, as a polynomial
  pub poly_of-multiple : (c : F) (m : Monomial) (xs : Poly F) → ring.IsValue c → c ≢ ring.zero → IsMonomial m
      → HasValues ring xs → All (λ t. IsMonomial t.0) xs
      → poly_of ring (multiple ring c m xs) ≡ poly_times ring (term_poly ring c m) (poly_of ring xs)
  poly_of-multiple c m xs v n i h k =
      let p = poly_of ring xs in
      let hp = poly_of-IsPoly laws commutes xs h k in
      let hv = sum-values P p hp.is_sum in
      let mv = multiple-values c m xs v h in
      let pv = multiple-values c m p v hv in
      collect_ext P (multiple ring c m xs) (multiple ring c m p) mv pv (λ b.
      let d = delta P b in
      let dv = delta-value P b in
      total-delta P b _ mv ∙ weighted-multiple d dv c m xs v h
      ∙ ap (ring.mul c) (sym (weighted-collect P (λ a. d (product m a)) (λ a. dv (product m a)) xs h))
      ∙ sym (weighted-multiple d dv c m p v hv) ∙ sym (total-delta P b _ pv))
      ∙ collect-sum P (multiple ring c m p) (multiple_poly field c m p v n i hp).is_sum
      ∙ sym (times_multiple field c m p v n i hp)

  module _ (order : Monomial → Monomial → Ordering) (total_order : IsTotalOrder order)
      (same : (a b : Monomial) → order a b ≡ Equal → a ≡ b) where
    abbrev S : SumSetting Monomial F
    S = record { order = order; ring = ring; ordered = total_order; same = same; laws = laws; commutes = commutes }

    -- the polynomial of terms that are collected in another order
    pub poly_of-collect : (xs : Poly F) → HasValues ring xs → poly_of ring (collect order ring xs) ≡ poly_of ring xs
    poly_of-collect xs h =
        let cv = sum-values S (collect order ring xs) (collect-IsSum S xs h) in
        collect_ext P (collect order ring xs) xs cv h (λ b.
        total-delta P b _ cv ∙ weighted-collect S (delta P b) (delta-value P b) xs h ∙ sym (total-delta P b xs h))

    -- of a sum in another order
    pub poly_of-plus : (xs ys : Poly F) → HasValues ring xs → HasValues ring ys
        → poly_of ring (plus order ring xs ys) ≡ poly_plus ring (poly_of ring xs) (poly_of ring ys)
    poly_of-plus xs ys h k =
        poly_of-collect (xs ++ ys) (All-append (λ (t : Monomial × F). ring.IsValue t.1) xs ys h k) ∙ collect_both P xs ys h k

    -- the first term of falling terms is one of the polynomial, with its coefficient
    pub first-total : (t : Monomial × F) (xs : Poly F) → IsSum order ring (t ∷ xs)
        → total from_greatest ring (poly_of ring (t ∷ xs)) t.0 ≡ t.1
    first-total t xs f =
        let h = sum-values S (t ∷ xs) f in
        let v = sum-values P _ (collect-IsSum P (t ∷ xs) h) in
        total-delta P t.0 _ v ∙ weighted-collect P (delta P t.0) (delta-value P t.0) (t ∷ xs) h ∙ sym (total-delta P t.0 (t ∷ xs) h)
        ∙ same_total (t ∷ xs)
        ∙ All-head (λ (u : Monomial × F). total order ring (t ∷ xs) u.0 ≡ u.1) t xs (own-terms S (t ∷ xs) f)
      where
        same_total : (ys : Poly F) → total from_greatest ring ys t.0 ≡ total order ring ys t.0
        same_total [] = refl
        same_total (y ∷ ys) =
            let e = equal_tests P S t.0 y.0 in
            let r = same_total ys in
            λ i. cond (e i) (ring.add (r i) y.1) (r i)

  -- one term more at the end
  pub poly_of-push : (xs : Poly F) (m : Monomial) (c : F) → HasValues ring xs → ring.IsValue c
      → poly_of ring (xs ++ (m, c) ∷ []) ≡ poly_plus ring (poly_of ring xs) (term_poly ring c m)
  poly_of-push xs m c h v = collect_both P xs ((m, c) ∷ []) h (All-cons (λ (t : Monomial × F). ring.IsValue t.1) (m, c) [] v (All-nil (λ (t : Monomial × F). ring.IsValue t.1)))

  -- without its first term
  pub poly_of-rest : (t : Monomial × F) (xs : Poly F) → HasValues ring (t ∷ xs) → IsMonomial t.0
      → All (λ u. IsMonomial u.0) xs
      → poly_of ring xs ≡ poly_plus ring (poly_of ring (t ∷ xs)) (term_poly ring (ring.neg t.1) t.0)
  poly_of-rest t xs h i k =
      let V : Monomial × F → Type 0 = λ u. ring.IsValue u.1 in
      let vt = All-head V t xs h in
      let vx = All-tail V t xs h in
      let vn = laws.neg_value t.1 vt in
      let PR = poly_is_ring laws commutes in
      let one : (c : F) → ring.IsValue c → HasValues ring ((t.0, c) ∷ []) = λ c v. All-cons V (t.0, c) [] v (All-nil V) in
      let p = poly_of-IsPoly laws commutes xs vx k in
      let a = term_poly-IsPoly laws commutes t.1 t.0 vt i in
      let b = term_poly-IsPoly laws commutes (ring.neg t.1) t.0 vn i in
      let none : poly_plus ring (term_poly ring t.1 t.0) (term_poly ring (ring.neg t.1) t.0) ≡ [] =
      sym (collect_both P ((t.0, t.1) ∷ []) ((t.0, ring.neg t.1) ∷ []) (one t.1 vt) (one _ vn))
      ∙ collect_ext P ((t.0, t.1) ∷ (t.0, ring.neg t.1) ∷ []) [] (All-append V ((t.0, t.1) ∷ []) ((t.0, ring.neg t.1) ∷ []) (one t.1 vt) (one _ vn)) (All-nil V) (λ c.
      cancel (eq_by_cmp from_greatest c t.0)) in
      sym (PR.add_zero _ p) ∙ ap (poly_plus ring (poly_of ring xs)) (sym none)
      ∙ sym (PR.add_assoc _ _ _ p a b)
      ∙ ap (λ z. poly_plus ring z (term_poly ring (ring.neg t.1) t.0))
      (PR.add_comm _ _ p a ∙ sym (collect_both P ((t.0, t.1) ∷ []) xs (one t.1 vt) vx))
    where
      cancel : (z : Bool) → cond z (ring.add (cond z (ring.add ring.zero (ring.neg t.1)) ring.zero) t.1) (cond z (ring.add ring.zero (ring.neg t.1)) ring.zero) ≡ ring.zero
      cancel true =
          let vt = All-head (λ (u : Monomial × F). ring.IsValue u.1) t xs h in
          ap (λ w. ring.add w t.1) (zero_add laws (ring.neg t.1) (laws.neg_value t.1 vt)) ∙ laws.add_comm _ t.1 (laws.neg_value t.1 vt) vt ∙ laws.add_neg t.1 vt
      cancel false = refl

  -- the halves of terms, sorted and merged, give the polynomial of the terms
  pub poly_of-halves : (order : Monomial → Monomial → Ordering) (total_order : IsTotalOrder order)
      (same : (a b : Monomial) → order a b ≡ Equal → a ≡ b) (xs : Poly F) (n : ℕ) {front back left right l r sum : Poly F}
      → HasValues ring front → HasValues ring back → HasValues ring left → HasValues ring right → front ≡ take n xs
      → back ≡ drop n xs
      → poly_of ring left ≡ poly_of ring front → poly_of ring right ≡ poly_of ring back → l ≡ left → r ≡ right
      → sum ≡ plus order ring l r → poly_of ring sum ≡ poly_of ring xs
  poly_of-halves order total_order same xs n {front} {back} {left} {right} {l} {r} {sum} vf vb vl vr ef eb el er a b e =
      ap (poly_of ring) (e ∙ (λ i. plus order ring (a i) (b i))) ∙ poly_of-plus order total_order same left right vl vr
      ∙ (λ i. poly_plus ring (el i) (er i)) ∙ sym (collect_both P front back vf vb)
      ∙ ap (poly_of ring) ((λ i. ef i ++ eb i) ∙ take-append-drop n xs)
