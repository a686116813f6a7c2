-- The greatest term of a vector: it is one, it has the coefficient, and a vector that isn't zero has it.
use Rattle.std.specs.Prelude.{◌≡◌, ◌≢◌, ◌⊎◌, ℕ, List, [], ◌∷◌, All, Contains, slice_index_or}
use Rattle.std.specs.declared.cmp.Ordering.TheVariants.{Less, Equal, Greater}
use Rattle.std.proofs.lemmas.List.Elements.{All-nil, All-cons, All-head, All-tail, All-contains}
use mathlib.Core.Logic.{inl, inr}
use mathlib.Core.Path.{refl, sym, ap, ◌∙◌, subst}
use Rattle.hp_algebra.specs.Ring.{IsRing, IsCommutative}
use Rattle.hp_lists.proofs.Members.{Contains-here, Contains-later}
use Rattle.hp_mono.specs.declared.term.Term.{Term}
use Rattle.hp_mono.specs.TermOrders.{IsTermOrder, IsTermWithin}
use Rattle.hp_module.specs.Vectors.{Vector, zero_vector}
use Rattle.hp_module.specs.FreeModules.{FreeModule, IsFreeModule, IsIn, HasDegree, coefficient_at, degree_of, terms}
use Rattle.hp_module.specs.Leads.{IsGreatestTerm}
use Rattle.hp_module.proofs.VectorCoefficients.{all-terms, at-term, coefficient-zero, no_terms, occurs, own, within}
use Rattle.hp_module.proofs.OrderedTerms.{not_less-itself}

module _ {F : Type 0} {M : FreeModule F} (L : IsFreeModule M) where
  open M use {ring, width, cmp}

  abbrev laws : IsRing ring
  laws = L.field.is_ring

  abbrev comm : IsCommutative ring
  comm = L.field.commutes

  abbrev order : IsTermOrder width cmp
  order = L.order

  abbrev co : Vector F → Term → F
  co v b = coefficient_at ring v b

  abbrev W : Term × F → Type 0
  W t = IsTermWithin width t.0

  pub greatest-at : (v : Vector F) (t : Term) (c : F) → IsIn M v → IsGreatestTerm cmp v t c
      → IsTermWithin width t × (coefficient_at ring v t ≡ c) × (c ≢ ring.zero)
  greatest-at v t c h g =
      let o = own laws comm width v t c h g.occurs in
      (All-contains W (terms v) (t, c) (within laws comm width v h) g.occurs, o.0, o.1)

  pub greatest-above : (v : Vector F) (t : Term) (c : F) → IsIn M v → IsGreatestTerm cmp v t c → (b : Term)
      → coefficient_at ring v b ≢ ring.zero → cmp t b ≢ Less
  greatest-above v t c h g b n = at-term laws comm width v (λ s. cmp t s ≢ Less) b h g.greatest n

  pub greatest-from : (v : Vector F) (t : Term) → IsIn M v → coefficient_at ring v t ≢ ring.zero
      → ((b : Term) → IsTermWithin width b → coefficient_at ring v b ≢ ring.zero → cmp t b ≢ Less)
      → IsGreatestTerm cmp v t (coefficient_at ring v t)
  greatest-from v t h n f = record {
    occurs = occurs laws comm width v t h n;
    greatest = all-terms laws comm width v (λ b. cmp t b ≢ Less) h f;
  }

  pub greatest-degree : (v : Vector F) (t : Term) (c : F) (d : ℕ) → IsGreatestTerm cmp v t c → HasDegree M d v
      → degree_of M t ≡ d
  greatest-degree v t c d g h = All-contains (λ (s : Term × F). degree_of M s.0 ≡ d) (terms v) (t, c) h g.occurs

  -- zero has no greatest term
  pub greatest-nonzero : (v : Vector F) (t : Term) (c : F) → IsIn M v → IsGreatestTerm cmp v t c
      → v ≢ zero_vector ring width
  greatest-nonzero v t c h g z =
      let a = greatest-at v t c h g in
      a.2 (sym a.1 ∙ ap (λ w. co w t) z ∙ coefficient-zero laws comm width t)

  pub greatest-unique : (v : Vector F) (s t : Term) (c d : F) → IsIn M v → IsGreatestTerm cmp v s c
      → IsGreatestTerm cmp v t d → (s ≡ t) × (c ≡ d)
  greatest-unique v s t c d h f g =
      let a = greatest-at v s c h f in
      let b = greatest-at v t d h g in
      let n : cmp s t ≢ Less = greatest-above v s c h f t (λ z. b.2 (sym b.1 ∙ z)) in
      let m : cmp t s ≢ Less = greatest-above v t d h g s (λ z. a.2 (sym a.1 ∙ z)) in
      let e : s ≡ t = elim (cmp s t) as (λ r. cmp s t ≡ r → s ≡ t) [
        | Less ↦ λ p. absurd (n p)
        | Equal ↦ λ p. order.same s t a.0 b.0 p
        | Greater ↦ λ p. absurd (m (Rattle.hp_module.proofs.OrderedTerms.less-back order s t a.0 b.0 p))
      ] refl in
      (e, sym a.1 ∙ ap (co v) e ∙ b.1)

  abbrev Greatest : List (Term × F) → Type 0
  Greatest xs = (t : Term × F) × Contains xs t × All (λ s. cmp t.0 s.0 ≢ Less) xs

  -- a list of terms that is not empty has a greatest term
  greatest_of : (x : Term × F) (xs : List (Term × F)) → All (λ t. IsTermWithin width t.0) (x ∷ xs) → Greatest (x ∷ xs)
  greatest_of x [] h =
      let P : Term × F → Type 0 = λ s. cmp x.0 s.0 ≢ Less in
      (x, Contains-here x [], All-cons P x [] (not_less-itself order x.0 (All-head W x [] h)) (All-nil P))
  greatest_of x (y ∷ ys) h =
      let hx = All-head W x (y ∷ ys) h in
      let hs = All-tail W x (y ∷ ys) h in
      let r = greatest_of y ys hs in
      let t = r.0 in
      let ht = All-contains W (y ∷ ys) t hs r.1 in
      let A : Term × F → Term × F → Type 0 = λ u s. cmp u.0 s.0 ≢ Less in
      let kept : cmp t.0 x.0 ≢ Less → Greatest (x ∷ y ∷ ys) =
      λ n. (t, Contains-later x (y ∷ ys) t r.1, All-cons (A t) x (y ∷ ys) n r.2) in
      let above : cmp t.0 x.0 ≡ Less → (s : Term × F) → W s → cmp t.0 s.0 ≢ Less → cmp x.0 s.0 ≢ Less =
      λ e s w n f. n (order.transitive t.0 x.0 s.0 ht hx w e f) in
      elim (cmp t.0 x.0) as (λ o. cmp t.0 x.0 ≡ o → Greatest (x ∷ y ∷ ys)) [
        | Less ↦ λ e. (
          x,
          Contains-here x (y ∷ ys),
          All-cons (A x) x (y ∷ ys) (not_less-itself order x.0 hx)
              (λ k d l. above e (slice_index_or (y ∷ ys) k d) (hs k d l) (r.2 k d l)),
        )
        | Equal ↦ λ e. kept (λ f. absurd (cc))
        | Greater ↦ λ e. kept (λ f. absurd (cc))
      ] refl

  -- a vector is zero or has a greatest term
  pub zero_or_greatest : (v : Vector F) → IsIn M v
      → (v ≡ zero_vector ring width) ⊎ ((t : Term) × (c : F) × IsGreatestTerm cmp v t c)
  zero_or_greatest v h =
      elim (terms v) as (λ xs. terms v ≡ xs → (v ≡ zero_vector ring width) ⊎ ((t : Term) × (c : F) × IsGreatestTerm cmp v t c)) [
        | [] ↦ λ e. inl (no_terms laws comm width v h e)
        | x ∷ xs ↦ λ e.
            let g = greatest_of x xs (subst (All W) e (within laws comm width v h)) in
            inr (
              g.0.0,
              g.0.1,
              record {
                occurs = subst (λ ys. Contains ys (g.0.0, g.0.1)) (sym e) g.1;
                greatest = subst (All (λ s. cmp g.0.0 s.0 ≢ Less)) (sym e) g.2;
              },
            )
      ] refl
