-- Quotients cut to the first variables: where a vector and the members have only these, so have the quotients' terms that
-- matter.
use Rattle.std.specs.Prelude.{◌≡◌, ◌≢◌, ℕ, ◌-◌, ◌<◌, Bool, true, false, cond, List, [], ◌∷◌, length, All, slice_index_or}
use Rattle.std.proofs.lemmas.List.Elements.{All-filter, All-head, All-map, All-tail, filter_passes}
use mathlib.Core.Path.{refl, sym, ap, ◌∙◌}
use native.Mathlib.Omega.{arith}
use Rattle.hp_algebra.specs.Ring.{RingOf, IsRing, IsCommutative}
use Rattle.hp_algebra.proofs.Rings.{mul_zero, zero_add}
use Rattle.hp_mono.specs.declared.term.Term.{Term}
use Rattle.hp_mono.specs.TermOrders.{IsTermWithin, times}
use Rattle.hp_sums.specs.FiniteSums.{HasValues, total}
use Rattle.hp_sums.proofs.SumSetting.{SumSetting}
use Rattle.hp_sums.proofs.WeightedSums.{weighted, weighted-none, weighted-value}
use Rattle.hp_sums.proofs.EqualTotals.{total-absent}
use Rattle.hp_module.specs.Vectors.{Vector, IsVector, combination}
use Rattle.hp_module.specs.FreeModules.{as_listed, coefficient_at, terms}
use Rattle.hp_module.proofs.VectorSums.{shifted, term_setting, terms-values}
use Rattle.hp_module.proofs.VectorCoefficients.{coefficient-combination, family, family-values, image, image-value, within}
use Rattle.hp_module.proofs.Symbols.{from_symbols_with}
use Rattle.hp_syzygy.proofs.FirstExponents.{first-product}
use Rattle.hp_syzygy.proofs.NegatedFirsts.{first_symbols, is_first}

module _ {F : Type 0} {ring : RingOf F} (laws : IsRing ring) (comm : IsCommutative ring) (l width : ℕ) (G : List (Vector F))
    (vectors : All (IsVector ring width) G)
    (firsts : (i : ℕ) → i < length G → All (λ t. is_first l t.0 ≡ true) (terms (slice_index_or G i []))) where
  abbrev T : SumSetting Term F
  T = term_setting laws comm

  abbrev Val : Term × F → Type 0
  Val t = ring.IsValue t.1

  abbrev In : Term × F → Type 0
  In t = IsTermWithin (length G) t.0

  abbrev im : Term → Term → F
  im b a = image laws comm (family laws comm G) b a

  imv : (b a : Term) → ring.IsValue (im b a)
  imv = image-value laws comm (family laws comm G) (family-values laws comm width G vectors)

  -- a symbol has coefficients only where its other variables are those of the term
  pub image-first : (b a : Term) → IsTermWithin (length G) a → is_first l b ≢ is_first l a
      → image laws comm (family laws comm G) b a ≡ ring.zero
  image-first b a h n =
      let c : a.comp - 1 < length G = omega (arith, h.1, h.2) in
      let g = slice_index_or G (a.comp - 1) [] in
      let w = within laws comm width g (vectors (a.comp - 1) [] c) in
      let f = firsts (a.comp - 1) c in
      total-absent T (shifted a.mono (terms g)) b (All-map (λ (t : Term × F). b ≢ t.0) (λ t. (times a.mono t.0, t.1)) (terms g)
      (λ i d k e.
      let t = (slice_index_or (terms g) i d).0 in
      n (ap (is_first l) e ∙ first-product l a.mono t.mono (h.0 ∙ sym (w i d k).0) (f i d k))))

  different : (x y : Bool) → x ≡ true → y ≡ false → x ≢ y
  different x y e f q = let z : true ≡ false = sym e ∙ q ∙ f in absurd (cc)

  -- at a term in the first variables the other symbols add nothing
  firsts-at : (b : Term) → is_first l b ≡ true → (xs : List (Term × F)) → HasValues ring xs → All In xs
      → weighted ring (im b) xs ≡ weighted ring (im b) (first_symbols l xs)
  firsts-at b e [] v h = refl
  firsts-at b e (x ∷ xs) v h =
      let r = firsts-at b e xs (All-tail Val x xs v) (All-tail In x xs h) in
      let vx = All-head Val x xs v in
      elim (is_first l x.0) as (λ z. is_first l x.0 ≡ z → weighted ring (im b) (x ∷ xs) ≡ weighted ring (im b) (cond z (x ∷ first_symbols l xs) (first_symbols l xs))) [
        | true ↦ λ p. ap (ring.add (ring.mul x.1 (im b x.0))) r
        | false ↦ λ p.
            ap (λ u. ring.add (ring.mul x.1 u) (weighted ring (im b) xs)) (image-first b x.0 (All-head In x xs h) (different (is_first l b) (is_first l x.0) e p))
            ∙ ap (λ u. ring.add u (weighted ring (im b) xs)) (mul_zero laws x.1 vx)
            ∙ zero_add laws _ (weighted-value T (im b) (imv b) xs (All-tail Val x xs v)) ∙ r
      ] refl

  module _ (v qs : Vector F) (hv : IsVector ring width v) (hq : IsVector ring (length G) qs) (sum : v ≡ combination ring width qs G)
      (outside : (b : Term) → is_first l b ≡ false → coefficient_at ring v b ≡ ring.zero) where
    -- The quotients' terms in the first variables are quotients.
    pub first_quotients : (ps : Vector F) × IsVector ring (length G) ps × (v ≡ combination ring width ps G)
        × ((a : Term) → coefficient_at ring ps a ≡ total as_listed ring (first_symbols l (terms qs)) a)
    first_quotients =
        let test : Term × F → Bool = λ t. is_first l t.0 in
        let qv = terms-values laws comm 1 qs hq.1 in
        let qw = within laws comm (length G) qs hq in
        let pv = All-filter test Val (terms qs) qv in
        let pw = All-filter test In (terms qs) qw in
        let passes = filter_passes test (terms qs) in
        from_symbols_with laws comm width G vectors v hv (record {
          symbols = first_symbols l (terms qs);
          symbol_values = pv;
          inside = pw;
          values = terms-values laws comm 1 v hv.1;
          same = λ b.
              elim (is_first l b) as (λ z. is_first l b ≡ z → coefficient_at ring v b ≡ weighted ring (im b) (first_symbols l (terms qs))) [
                | true ↦ λ e. ap (λ w. coefficient_at ring w b) sum ∙ coefficient-combination laws comm width qs G hq vectors b
                    ∙ firsts-at b e (terms qs) qv qw
                | false ↦ λ e. outside b e ∙ sym (weighted-none T (im b) (first_symbols l (terms qs)) pv
                    (λ i d k. image-first b (slice_index_or (first_symbols l (terms qs)) i d).0 (pw i d k)
                    (λ q. different (is_first l (slice_index_or (first_symbols l (terms qs)) i d).0) (is_first l b) (passes i d k) e (sym q))))
              ] refl;
        })
