-- A vector is the sum of its homogeneous parts: what generates the parts generates the vector.
use Rattle.std.specs.Prelude.{◌≡◌, ◌≢◌, ℕ, zero, suc, ◌+◌, ◌<◌, max, List, [], ◌∷◌, All}
use Rattle.std.proofs.lemmas.Bool.{cases_eq}
use Rattle.std.proofs.lemmas.List.Elements.{All-cons, All-contains, All-nil, All-weaker}
use mathlib.Core.Logic.{inl, inr}
use mathlib.Core.Path.{sym, ap, ◌∙◌, subst}
use native.Mathlib.Omega.{arith}
use Rattle.hp_algebra.specs.Ring.{IsRing, IsCommutative}
use Rattle.hp_mono.specs.declared.term.Term.{Term}
use Rattle.hp_module.specs.Vectors.{Vector, IsVector, IsGenerated, vector_plus, zero_vector}
use Rattle.hp_module.specs.FreeModules.{FreeModule, IsFreeModule, IsIn, coefficient_at, degree_of, terms}
use Rattle.hp_module.proofs.VectorCoefficients.{all-terms, at-term, coefficient-ext, coefficient-plus, coefficient-value, coefficient-zero, plus-vector, zero-vector}
use Rattle.hp_module.proofs.GreatestTerms.{zero_or_greatest}
use Rattle.hp_module.proofs.HomogeneousParts.{IsPart, part_of}
use Rattle.hp_module.proofs.Symbols.{generated-plus, generated-zero}
use Rattle.hp_graded.proofs.ReducedTerms.{difference, difference-at, difference-in, minus-zero}

module _ {F : Type 0} {M : FreeModule F} (L : IsFreeModule M) where
  open M use {ring, width}

  abbrev laws : IsRing ring
  laws = L.field.is_ring

  abbrev comm : IsCommutative ring
  comm = L.field.commutes

  abbrev co : Vector F → Term → F
  co v b = coefficient_at ring v b

  -- each list of terms is below some degree
  below_degree : (xs : List (Term × F)) → (n : ℕ) × All (λ t. degree_of M t.0 < n) xs
  below_degree [] = (0, All-nil (λ (t : Term × F). degree_of M t.0 < 0))
  below_degree (x ∷ xs) =
      let r = below_degree xs in
      let n = max (degree_of M x.0 + 1) r.0 in (
        n,
        All-cons (λ (t : Term × F). degree_of M t.0 < n) x xs (omega arith)
            (All-weaker (λ (t : Term × F). degree_of M t.0 < r.0) (λ t. degree_of M t.0 < n) (λ t l. omega (arith, l)) xs r.1),
      )

  -- x - y + y = x
  restored : (x y : F) → ring.IsValue x → ring.IsValue y → ring.add (ring.add x (ring.neg y)) y ≡ x
  restored x y vx vy =
      let n = laws.neg_value y vy in
      laws.add_assoc x (ring.neg y) y vx n vy ∙ ap (ring.add x) (laws.add_comm (ring.neg y) y n vy ∙ laws.add_neg y vy) ∙ laws.add_zero x vx

  module _ (G : List (Vector F)) (vectors : All (IsVector M.ring M.width) G) where
    abbrev Gen : Vector F → Type 0
    Gen v = IsGenerated ring width G v

    abbrev PartsGenerated : Vector F → Type 0
    PartsGenerated v = (e : ℕ) (w : Vector F) → IsPart L e v w → Gen w

    module _ (n : ℕ) (v : Vector F) (h : IsIn M v) (l : All (λ t. degree_of M t.0 < suc n) (terms v)) where
      top : (w : Vector F) × IsPart L n v w
      top = part_of L n v h

      abbrev rest : Vector F
      rest = difference L v top.0

      rest-in : IsIn M rest
      rest-in = difference-in L v top.0 h top.1.vector

      rest-at : (b : Term) → co rest b ≡ ring.add (co v b) (ring.neg (co top.0 b))
      rest-at b = difference-at L v top.0 b h top.1.vector

      rest-same : (b : Term) → degree_of M b ≢ n → co rest b ≡ co v b
      rest-same b o = rest-at b ∙ ap (λ u. ring.add (co v b) (ring.neg u)) (top.1.outside b o) ∙ minus-zero L (co v b) (coefficient-value laws comm width v b h)

      rest-none : (b : Term) → degree_of M b ≡ n → co rest b ≡ ring.zero
      rest-none b q = rest-at b ∙ ap (λ u. ring.add (co v b) (ring.neg u)) (top.1.inside b q) ∙ laws.add_neg (co v b) (coefficient-value laws comm width v b h)

      rest-low : All (λ t. degree_of M t.0 < n) (terms rest)
      rest-low = all-terms laws comm width rest (λ b. degree_of M b < n) rest-in (λ b hb m.
          elim (cases_eq (degree_of M b) n) [
            | inl q ↦ absurd (m (rest-none b q))
            | inr o ↦ let low = at-term laws comm width v (λ b. degree_of M b < suc n) b h l (λ z. m (rest-same b o ∙ z)) in omega (arith, low, o)
          ])

      -- the other parts are those of v
      rest-parts : PartsGenerated v → PartsGenerated rest
      rest-parts f e w p = elim (cases_eq e n) [
        | inl q ↦ subst Gen (sym (coefficient-ext laws comm width w (zero_vector ring width) p.vector (zero-vector laws comm width) (λ b.
            elim (cases_eq (degree_of M b) e) [
              | inl d ↦ p.inside b d ∙ rest-none b (d ∙ q) ∙ sym (coefficient-zero laws comm width b)
              | inr o ↦ p.outside b o ∙ sym (coefficient-zero laws comm width b)
            ]))) (generated-zero laws comm width G vectors)
        | inr o ↦ f e w (record {
          vector = p.vector;
          of_degree = p.of_degree;
          inside = λ b d. p.inside b d ∙ rest-same b (λ q. o (sym d ∙ q));
          outside = p.outside;
        })
      ]

      whole : v ≡ vector_plus ring rest top.0
      whole = coefficient-ext laws comm width v _ h (plus-vector laws comm width rest top.0 rest-in top.1.vector) (λ b.
          sym (coefficient-plus laws comm width rest top.0 b rest-in top.1.vector ∙ ap (λ u. ring.add u (co top.0 b)) (rest-at b)
          ∙ restored (co v b) (co top.0 b) (coefficient-value laws comm width v b h) (coefficient-value laws comm width top.0 b top.1.vector)))

    by_degree : (n : ℕ) (v : Vector F) → IsIn M v → All (λ t. degree_of M t.0 < n) (terms v) → PartsGenerated v → Gen v
    by_degree zero v h l f = elim (zero_or_greatest L v h) [
      | inl z ↦ subst Gen (sym z) (generated-zero laws comm width G vectors)
      | inr g ↦ absurd (none (All-contains (λ (t : Term × F). degree_of M t.0 < 0) (terms v) (g.0, g.1) l g.2.occurs))
    ]
      where
        none : {k : ℕ} → k < 0 → ⊥
        none l = omega (arith, l)
    by_degree (suc n) v h l f =
        let p = top n v h l in
        subst Gen (sym (whole n v h l)) (generated-plus laws comm width G vectors (rest n v h l) p.0
        (by_degree n (rest n v h l) (rest-in n v h l) (rest-low n v h l) (rest-parts n v h l f)) (f n p.0 p.1))

    pub parts_generate : (v : Vector F) → IsIn M v → ((e : ℕ) (w : Vector F) → IsPart L e v w → IsGenerated ring width G w)
        → IsGenerated ring width G v
    parts_generate v h f = let b = below_degree (terms v) in by_degree b.0 v h b.1 f
