-- A member of a reduced basis has only terms that pass a test which its lead passes, where what the test selects of
-- members are members: so it is in the first variables where the generators are.
use Rattle.std.specs.Prelude.{◌≡◌, ◌≢◌, ℕ, ◌<◌, Bool, true, false, List, [], length, All, Contains, slice_index_or}
use Rattle.std.proofs.lemmas.List.Elements.{All-contains, All-weaker}
use mathlib.Core.Logic.{inl, inr}
use mathlib.Core.Path.{refl, sym, ap, ◌∙◌}
use Rattle.hp_algebra.specs.Ring.{IsRing, IsCommutative}
use Rattle.hp_algebra.proofs.Rings.{neg_mul}
use Rattle.hp_lists.proofs.Members.{not_both}
use Rattle.hp_mono.specs.declared.term.Term.{Term}
use Rattle.hp_mono.specs.Monomials as mono
use Rattle.hp_poly.specs.Polynomials.{constant}
use Rattle.hp_module.specs.Vectors.{Vector, IsVector, IsGenerated, vector_plus, vector_scale}
use Rattle.hp_module.specs.FreeModules.{FreeModule, IsFreeModule, IsIn, coefficient_at, terms}
use Rattle.hp_module.specs.Leads.{IsGreatestTerm, IsLeastLead, IsReducedBasis}
use Rattle.hp_module.proofs.DividingTerms.{divides-itself}
use Rattle.hp_module.proofs.VectorCoefficients.{all-terms, coefficient-plus, coefficient-value, coefficient-zero, occurs, plus-vector}
use Rattle.hp_module.proofs.GreatestTerms.{greatest-at, zero_or_greatest}
use Rattle.hp_module.proofs.MonicVectors.{coefficient-constant, constant-vector}
use Rattle.hp_module.proofs.Symbols.{generated-multiple, generated-plus, generated-vector}
use Rattle.hp_graded.proofs.ExponentTails.{IsFirst, first-tail, same_tail, tail-first}
use Rattle.hp_graded.proofs.FirstVariables.{first_generated, least_first}
use Rattle.hp_graded.proofs.SelectedTerms.{IsSelection, selection-of}

module _ {F : Type 0} {M : FreeModule F} (L : IsFreeModule M) where
  open M use {ring, width, cmp}

  abbrev laws : IsRing ring
  laws = L.field.is_ring

  abbrev comm : IsCommutative ring
  comm = L.field.commutes

  abbrev co : Vector F → Term → F
  co v b = coefficient_at ring v b

  -- ---- differences

  abbrev pub difference : Vector F → Vector F → Vector F
  difference v w = vector_plus M.ring v (vector_scale M.ring (constant M.ring (M.ring.neg M.ring.one)) w)

  one-in : ring.IsValue (ring.neg ring.one)
  one-in = laws.neg_value ring.one laws.one_value

  pub difference-in : (v w : Vector F) → IsIn M v → IsIn M w → IsIn M (difference v w)
  difference-in v w hv hw = plus-vector laws comm width v _ hv (constant-vector L (ring.neg ring.one) w one-in hw)

  pub difference-at : (v w : Vector F) (b : Term) → IsIn M v → IsIn M w
      → coefficient_at ring (difference v w) b ≡ ring.add (coefficient_at ring v b) (ring.neg (coefficient_at ring w b))
  difference-at v w b hv hw =
      let vw = coefficient-value laws comm width w b hw in
      coefficient-plus laws comm width v _ b hv (constant-vector L (ring.neg ring.one) w one-in hw)
      ∙ ap (ring.add (co v b)) (coefficient-constant L (ring.neg ring.one) w b one-in hw
      ∙ neg_mul laws ring.one (co w b) laws.one_value vw ∙ ap ring.neg (laws.one_mul (co w b) vw))

  pub minus-zero : (x : F) → ring.IsValue x → ring.add x (ring.neg ring.zero) ≡ x
  minus-zero x v =
      let n = laws.neg_value ring.zero laws.zero_value in
      ap (ring.add x) (sym (Rattle.hp_algebra.proofs.Rings.zero_add laws (ring.neg ring.zero) n) ∙ laws.add_neg ring.zero laws.zero_value)
      ∙ laws.add_zero x v

  -- ---- members of a reduced basis

  module _ {N : Vector F → Type 0} (vectors : (v : Vector F) → N v → IsIn M v)
      (closed : (v w : Vector F) → N v → N w → N (difference v w)) {G : List (Vector F)}
      (basis : IsReducedBasis M.ring M.cmp N G) where
    pub selected_all : (test : Term → Bool) → ((v w : Vector F) → IsSelection L test v w → N v → N w) → (g : Vector F)
        → Contains G g → (t : Term) (c : F) → IsGreatestTerm cmp g t c → test t ≡ true
        → All (λ s. test s.0 ≡ true) (terms g)
    selected_all test select g at t c gt pt =
        all-terms laws comm width g (λ b. test b ≡ true) hg (λ b hb n. passes b n (test b) refl)
      where
        mg : N g
        mg = All-contains N G g basis.members at

        hg : IsIn M g
        hg = vectors g mg

        part : (w : Vector F) × IsSelection L test g w
        part = selection-of L test g hg

        rest : Vector F
        rest = difference g part.0

        rest-in : IsIn M (difference g part.0)
        rest-in = difference-in g part.0 hg part.1.vector

        rest-member : N (difference g part.0)
        rest-member = closed g part.0 mg (select g part.0 part.1 mg)

        -- the rest has the terms of g that fail
        passed : (b : Term) → test b ≡ true → co (difference g part.0) b ≡ ring.zero
        passed b e = difference-at g part.0 b hg part.1.vector ∙ ap (λ u. ring.add (co g b) (ring.neg u)) (part.1.inside b e)
            ∙ laws.add_neg (co g b) (coefficient-value laws comm width g b hg)

        failed : (b : Term) → test b ≡ false → co (difference g part.0) b ≡ co g b
        failed b e = difference-at g part.0 b hg part.1.vector ∙ ap (λ u. ring.add (co g b) (ring.neg u)) (part.1.outside b e)
            ∙ minus-zero (co g b) (coefficient-value laws comm width g b hg)

        -- its lead would be a term of g that is no multiple of a lead
        no-lead : (u : Term) (x : F) → IsGreatestTerm cmp (difference g part.0) u x → (d : Bool) → test u ≡ d → ⊥
        no-lead u x gu true e = let l = greatest-at L (difference g part.0) u x rest-in gu in l.2 (sym l.1 ∙ passed u e)
        no-lead u x gu false e =
            let l = greatest-at L (difference g part.0) u x rest-in gu in
            let n : co g u ≢ ring.zero = λ z. l.2 (sym l.1 ∙ failed u e ∙ z) in
            basis.tails g t u c (co g u) at gt (occurs laws comm width g u hg n)
            (λ q. not_both (test t) pt (ap test (sym q) ∙ e)) u (difference g part.0, x, rest-member, gu) (divides-itself u l.0.0)

        passes : (b : Term) → co g b ≢ ring.zero → (d : Bool) → test b ≡ d → test b ≡ true
        passes b n true e = e
        passes b n false e = elim (zero_or_greatest L (difference g part.0) rest-in) [
          | inl z ↦ absurd (n (sym (failed b e) ∙ ap (λ v. co v b) z ∙ coefficient-zero laws comm width b))
          | inr q ↦ absurd (no-lead q.0 q.1 q.2 (test q.0) refl)
        ]

  -- ---- the reduced basis of what vectors generate

  module _ (gens : List (Vector F)) (vectors : All (IsVector M.ring M.width) gens) where
    pub generated-difference : (v w : Vector F) → IsGenerated ring width gens v → IsGenerated ring width gens w
        → IsGenerated ring width gens (difference v w)
    generated-difference v w p q =
        generated-plus laws comm width gens vectors v _ p
        (generated-multiple laws comm width gens vectors (ring.neg ring.one) mono.one w one-in refl q)

    module _ (l : ℕ)
        (first : (i : ℕ) → i < length gens → All (λ t. IsFirst l t.0.mono) (terms (slice_index_or gens i []))) where
      -- With generators in the first variables its members are there.
      pub basis_first : {G : List (Vector F)} → IsReducedBasis ring cmp (IsGenerated ring width gens) G → (g : Vector F)
          → Contains G g → All (λ s. IsFirst l s.0.mono) (terms g)
      basis_first {G} basis g at =
          let N : Vector F → Type 0 = IsGenerated ring width gens in
          let m = All-contains (λ h. (t : Term) × IsGreatestTerm cmp h t ring.one × IsLeastLead cmp (IsGenerated ring width gens) t) G g basis.monic at in
          let hg = generated-vector laws comm width gens vectors g (All-contains N G g basis.members at) in
          let lead = greatest-at L g m.0 ring.one hg m.1 in
          All-weaker (λ (s : Term × F). same_tail l s.0.mono mono.one ≡ true) (λ s. IsFirst l s.0.mono)
          (λ s e. tail-first l s.0.mono e) (terms g)
          (selected_all (λ v h. generated-vector laws comm width gens vectors v h) generated-difference basis
          (λ b. same_tail l b.mono mono.one) (λ v w s h. first_generated L gens vectors l first v w s h) g at m.0 ring.one m.1
          (first-tail laws comm l m.0.mono lead.0.0 (least_first L gens vectors l first m.0 m.2)))
