-- Functionals that vanish at e_T ∧ ∂ e_C for every set C with a property.
use Rattle.std.specs.Prelude.{◌≡◌, ◌⊎◌, ℕ, ◌≤◌, ◌==◌, Bool, true, false, cond, [], ◌∷◌}
use Rattle.std.proofs.lemmas.Bool.{eq-eqb, le-ltb}
use mathlib.Core.Logic.{inl, inr}
use mathlib.Core.Path.{refl, sym, ap, ◌∙◌}
use native.Mathlib.Omega.{arith}
use Rattle.hp_algebra.specs.Ring.{RingOf, IsRing}
use Rattle.hp_sets.specs.Sets.{Set}
use Rattle.hp_exterior.proofs.Inserted.{Up, join}
use Rattle.hp_exterior.proofs.Negations.{both_sides, neg_zero}
use Rattle.hp_exterior.proofs.Functionals.{
  AtDrops,
  Values,
  at_boundary,
  at_insert,
  at_wedge,
  boundary-ext,
  boundary-zero,
  drops_all,
  drops_both,
  insert-front,
  relation-boundary,
  restricted,
  signed-restricted,
  signed-zero,
  wedge-signed,
}

module _ {F : Type 0} {ring : RingOf F} (laws : IsRing ring) (n : ℕ) where
  -- e_x ∧ ∂ e_S = e_S where x is the first member of S
  pub front-boundary : (g : Set → F) → Values ring g → (x : ℕ) (s : Set) → Up 0 n (x ∷ s)
      → at_boundary ring (λ u. at_wedge ring g (x ∷ []) u) (x ∷ s) ≡ g (x ∷ s)
  front-boundary g v x s h =
      let p : at_insert ring x g s ≡ g (x ∷ s) = insert-front laws x x n g s (same x) h.2 in
      let q : at_boundary ring (λ u. at_insert ring x g (x ∷ u)) s ≡ ring.zero =
      ap (λ (f : Set → F). at_boundary ring f s) (λ i u. here u i) ∙ boundary-zero laws s in
      both_sides ring.add _ _ _ _ p (ap ring.neg q ∙ neg_zero laws) ∙ laws.add_zero _ (v (x ∷ s))
    where
      same : (x : ℕ) → x ≤ x
      same x = omega arith

      here : (u : Set) → at_insert ring x g (x ∷ u) ≡ ring.zero
      here u =
          ap (λ b. cond b (g (x ∷ x ∷ u)) (cond (x == x) ring.zero (ring.neg (at_insert ring x (λ w. g (x ∷ w)) u)))) (le-ltb x x (same x))
          ∙ ap (λ b. cond b ring.zero (ring.neg (at_insert ring x (λ w. g (x ∷ w)) u))) (eq-eqb x x refl)

  module _ (D : Set → Type 0) where
    -- zero at e_T ∧ ∂ e_C for every C with the property
    abbrev pub IsNull : (Set → F) → Type 0
    IsNull g = (t c : Set) → Up 0 n t → Up 0 n c → D c → at_boundary ring (λ u. at_wedge ring g t u) c ≡ ring.zero

    -- with g also the value of g at the boundary vanishes: the boundary of an element of the ideal is in it
    pub null-boundary : (g : Set → F) → Values ring g → IsNull g → IsNull (at_boundary ring g)
    null-boundary g v z t c h k d =
        relation-boundary laws n g t c v h k
        ∙ boundary-ext laws (λ s. at_boundary ring (λ u. at_wedge ring g s u) c) (λ s. ring.zero) t
        (drops_all _ 0 n t h (λ s j. z s c j k d))
        ∙ boundary-zero laws t

    -- it vanishes at each nonempty set with the property
    pub null-vanishes : (g : Set → F) → Values ring g → IsNull g → (x : ℕ) (s : Set) → Up 0 n (x ∷ s) → D (x ∷ s)
        → g (x ∷ s) ≡ ring.zero
    null-vanishes g v z x s h d = sym (front-boundary g v x s h) ∙ z (x ∷ []) (x ∷ s) (h.0, h.1, tt) h d

    -- the part of it where a test holds, if the test sees one thing in all terms that do not vanish by themselves
    pub null-restricted : (p : Set → Bool) (g : Set → F) → Values ring g → IsNull g
        → ((t c : Set) → Up 0 n t → Up 0 n c → D c → AtDrops (λ u. (g (join t u) ≡ ring.zero) ⊎ (p (join t u) ≡ p (join t c))) c)
        → IsNull (restricted ring p g)
    null-restricted p g v z key t c h k d =
        boundary-ext laws (λ u. at_wedge ring (restricted ring p g) t u) (λ u. cond (p (join t c)) (at_wedge ring g t u) ring.zero) c
        (drops_both _ _ c (λ u e. at u e) (key t c h k d))
        ∙ whole (p (join t c))
      where
        zeros : (b : Bool) → cond b ring.zero ring.zero ≡ ring.zero
        zeros true = refl
        zeros false = refl

        at : (u : Set) → (g (join t u) ≡ ring.zero) ⊎ (p (join t u) ≡ p (join t c))
            → at_wedge ring (restricted ring p g) t u ≡ cond (p (join t c)) (at_wedge ring g t u) ring.zero
        at u (inl e) =
            let w = signed-zero laws _ (join t u) g (wedge-signed laws t u) v e in
            signed-restricted laws _ (join t u) p g (wedge-signed laws t u) v
            ∙ ap (λ y. cond (p (join t u)) y ring.zero) w
            ∙ zeros (p (join t u))
            ∙ sym (ap (λ y. cond (p (join t c)) y ring.zero) w ∙ zeros (p (join t c)))
        at u (inr e) =
            signed-restricted laws _ (join t u) p g (wedge-signed laws t u) v
            ∙ ap (λ b. cond b (at_wedge ring g t u) ring.zero) e

        whole : (b : Bool) → at_boundary ring (λ u. cond b (at_wedge ring g t u) ring.zero) c ≡ ring.zero
        whole true = z t c h k d
        whole false = boundary-zero laws c
