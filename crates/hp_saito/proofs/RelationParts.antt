-- The part of one degree of a relation among homogeneous vectors is a relation.
use Rattle.std.specs.Prelude.{◌≡◌, ◌≢◌, ℕ, ◌+◌, ◌-◌, ◌<◌, nat_eq, Bool, true, false, cond, List, [], ◌∷◌, filter, length, All, slice_index_or}
use Rattle.std.proofs.lemmas.Bool.{cases_eq, eq-eqb, eqb-true, eqb-false}
use Rattle.std.proofs.lemmas.List.Elements.{All-filter, All-head, All-tail, filter_passes}
use mathlib.Core.Logic.{inl, inr}
use mathlib.Core.Path.{refl, sym, ap, ◌∙◌}
use native.Mathlib.Omega.{arith}
use Rattle.hp_algebra.specs.Ring.{IsRing, IsCommutative}
use Rattle.hp_algebra.proofs.Rings.{mul_zero, zero_add}
use Rattle.hp_mono.specs.declared.term.Term.{Term}
use Rattle.hp_mono.specs.Monomials.{IsMonomial, degree}
use Rattle.hp_mono.specs.TermOrders.{IsTermWithin, times}
use Rattle.hp_sums.specs.FiniteSums.{HasValues}
use Rattle.hp_sums.proofs.SumSetting.{SumSetting}
use Rattle.hp_sums.proofs.WeightedSums.{weighted, weighted-none, weighted-value}
use Rattle.hp_sums.proofs.EqualTotals.{weighted-same}
use Rattle.hp_module.specs.Vectors.{Vector, IsVector, combination, zero_vector}
use Rattle.hp_module.specs.FreeModules.{FreeModule, IsFreeModule, HasDegree, coefficient_at, degree_of, terms}
use Rattle.hp_module.proofs.VectorSums.{term_setting, terms-values}
use Rattle.hp_module.proofs.VectorCoefficients.{all-terms, coefficient-combination, coefficient-ext, coefficient-zero, combination-vector, family, family-values, image, image-value, within, zero-vector}
use Rattle.hp_module.proofs.OrderedTerms.{degree-times}
use Rattle.hp_module.proofs.Symbols.{vector_of}
use Rattle.hp_graded.proofs.SelectedTerms.{symbol-absent, total-where}

-- The part of degree d of a relation of vectors of degrees D: coefficients in this degree, as the relation has them.
pub record IsRelationPart {F : Type 0} (M : FreeModule F) (G : List (Vector F)) (D : ℕ → ℕ) (d : ℕ)
    (whole part : Vector F) : Type 0 where
  pub vector : IsVector M.ring (length G) part
  pub relation : combination M.ring M.width part G ≡ zero_vector M.ring M.width
  pub degrees : All (λ a. degree a.0.mono + D (a.0.comp - 1) ≡ d) (terms part)
  pub same : (b : Term) → degree b.mono + D (b.comp - 1) ≡ d
      → coefficient_at M.ring part b ≡ coefficient_at M.ring whole b

module _ {F : Type 0} {M : FreeModule F} (L : IsFreeModule M) (G : List (Vector F))
    (vectors : All (IsVector M.ring M.width) G)
    (D : ℕ → ℕ) (homogeneous : (i : ℕ) → i < length G → HasDegree M (D i) (slice_index_or G i [])) where
  open M use {ring, width}

  abbrev laws : IsRing ring
  laws = L.field.is_ring

  abbrev comm : IsCommutative ring
  comm = L.field.commutes

  abbrev S : SumSetting Term F
  S = term_setting laws comm

  abbrev co : Vector F → Term → F
  co v b = coefficient_at ring v b

  abbrev n : ℕ
  n = length G

  abbrev g : Term → Term → F
  g b a = image laws comm (family laws comm G) b a

  g-value : (b a : Term) → ring.IsValue (g b a)
  g-value b a = image-value laws comm (family laws comm G) (family-values laws comm width G vectors) b a

  abbrev Val : Term × F → Type 0
  Val t = ring.IsValue t.1

  abbrev In : Term × F → Type 0
  In t = IsTermWithin n t.0

  abbrev symbol_degree : Term → ℕ
  symbol_degree a = degree a.mono + D (a.comp - 1)

  -- a symbol has no coefficient in another degree
  other : (a b : Term) → IsTermWithin n a → symbol_degree a ≢ degree_of M b → g b a ≡ ring.zero
  other a b h ne =
      let l : a.comp - 1 < n = omega (arith, h.1, h.2) in
      let gw = within laws comm width _ (vectors (a.comp - 1) [] l) in
      let gd = homogeneous (a.comp - 1) l in
      let at : (u : Term) → IsMonomial u.mono → degree_of M u ≡ D (a.comp - 1) → b ≢ times a.mono u =
      λ u iu e q. ne (ap (λ k. degree a.mono + k) (sym e) ∙ sym (degree-times M a.mono u h.0 iu)
      ∙ sym (ap (degree_of M) q)) in
      symbol-absent L G vectors a b (λ i z m. at _ (gw i z m).0 (gd i z m))

  module _ (d : ℕ) where
    abbrev keep : Term → Bool
    keep a = nat_eq (symbol_degree a) d

    abbrev kept : List (Term × F) → List (Term × F)
    kept xs = filter (λ a. keep a.0) xs

    -- at a term of the degree only the symbols of the degree have coefficients
    kept-at : (b : Term) → degree_of M b ≡ d → (xs : List (Term × F)) → HasValues ring xs
        → All (λ a. IsTermWithin (length G) a.0) xs → weighted ring (g b) (kept xs) ≡ weighted ring (g b) xs
    kept-at b e [] v h = refl
    kept-at b e (x ∷ xs) v h =
        let vs = All-tail Val x xs v in
        let r = kept-at b e xs vs (All-tail In x xs h) in
        elim (keep x.0) as (λ z. keep x.0 ≡ z → weighted ring (g b) (cond z (x ∷ kept xs) (kept xs)) ≡ weighted ring
        (g b) (x ∷ xs)) [
          | true ↦ λ q. ap (ring.add (ring.mul x.1 (g b x.0))) r
          | false ↦ λ q.
              let z = other x.0 b (All-head In x xs h) (λ k. eqb-false (symbol_degree x.0) d q (k ∙ e)) in
              r ∙ sym (ap (λ u. ring.add (ring.mul x.1 u) (weighted ring (g b) xs)) z
              ∙ ap (λ u. ring.add u (weighted ring (g b) xs)) (mul_zero laws x.1 (All-head Val x xs v))
              ∙ zero_add laws _ (weighted-value S (g b) (g-value b) xs vs))
        ] refl

    pub relation-part : (e : Vector F) → IsVector M.ring (length G) e
        → combination M.ring M.width e G ≡ zero_vector M.ring M.width
        → (part : Vector F) × IsRelationPart M G D d e part
    relation-part e he relation =
        let ys = terms e in
        let vy = terms-values laws comm 1 e he.1 in
        let wy = within laws comm n e he in
        let xs = kept ys in
        let test : Term × F → Bool = λ a. keep a.0 in
        let vx = All-filter test Val ys vy in
        let wx = All-filter test In ys wy in
        let r = vector_of laws comm n xs vx wx in
        let at : (b : Term) → co r.0 b ≡ cond (keep b) (co e b) ring.zero = λ b. r.2 b ∙ total-where L keep ys b in
        let none : (b : Term) → weighted ring (g b) ys ≡ ring.zero =
        λ b. sym (coefficient-combination laws comm width e G he vectors b) ∙ ap (λ v. co v b) relation
        ∙ coefficient-zero laws comm width b in
        let zero_at : (b : Term) → weighted ring (g b) xs ≡ ring.zero =
        λ b. elim (cases_eq (degree_of M b) d) [
          | inl q ↦ kept-at b q ys vy wy ∙ none b
          | inr o ↦ weighted-none S (g b) xs vx (λ i y l. other _ b (wx i y l)
              (λ z. o (sym z ∙ eqb-true _ d (filter_passes test ys i y l))))
        ] in (
          r.0,
          record {
            vector = r.1;
            relation = coefficient-ext laws comm width _ (zero_vector ring width)
                (combination-vector laws comm width r.0 G r.1.1 vectors)
                (zero-vector laws comm width) (λ b.
                coefficient-combination laws comm width r.0 G r.1 vectors b
                ∙ weighted-same S (g b) (g-value b) (terms r.0) xs (terms-values laws comm 1 r.0 r.1.1) vx r.2
                ∙ zero_at b ∙ sym (coefficient-zero laws comm width b));
            degrees = all-terms laws comm n r.0 (λ a. symbol_degree a ≡ d) r.1 (λ a ha m.
                elim (keep a) as (λ z. keep a ≡ z → symbol_degree a ≡ d) [
                  | true ↦ λ q. eqb-true (symbol_degree a) d q
                  | false ↦ λ q. absurd (m (at a ∙ ap (λ z. cond z (co e a) ring.zero) q))
                ] refl);
            same = λ b q. at b ∙ ap (λ z. cond z (co e b) ring.zero) (eq-eqb (symbol_degree b) d q);
          },
        )
