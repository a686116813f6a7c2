-- The steps of the loops that write the terms of a product.
use Rattle.std.specs.Prelude.{◌≡◌, ◌⊎◌, ◌↔◌, ◌%◌, ℕ, zero, suc, Bool, true, false, cond, IsTrue, [], ◌∷◌, ◌++◌, map, Contains}
use Rattle.std.proofs.Common.{append_assoc}
use mathlib.Core.Logic.{inl, inr}
use mathlib.Core.Path.{refl, sym, ap, ◌∙◌, subst}
use native.Mathlib.Omega.{arith}
use Rattle.hp_algebra.specs.Ring.{RingOf, IsRing, IsCommutative}
use Rattle.hp_algebra.proofs.Rings.{neg_neg}
use Rattle.hp_lists.proofs.Members.{Contains-here, Contains-none, not_both}
use Rattle.hp_sets.specs.Sets.{Set, IsSetWithin, meet, union}
use Rattle.hp_sets.proofs.SetMembers.{members-meet, meet-members}
use Rattle.hp_exterior.specs.Exterior.{Ext, inversions, meets, sign, wedge_terms}
use Rattle.hp_exterior.specs.SetSums.{meets-apart, apart-meets}
use Rattle.hp_exterior.proofs.Negations.{minus_one, mul_neg}

module _ {F : Type 0} {ring : RingOf F} (laws : IsRing ring) (commutes : IsCommutative ring) where
  open ring use {one as 1ₖ, neg, mul, IsValue}

  -- ---- signs

  pub parity : (n : ℕ) → ((n % 2 ≡ 0) × (sign ring n ≡ 1ₖ)) ⊎ ((n % 2 ≡ 1) × (sign ring n ≡ neg 1ₖ))
  parity zero = inl (refl, refl)
  parity (suc n) = pick (parity n)
    where
      odd : (n : ℕ) → n % 2 ≡ 0 → suc n % 2 ≡ 1
      odd n e = omega arith

      even : (n : ℕ) → n % 2 ≡ 1 → suc n % 2 ≡ 0
      even n e = omega arith

      pick : ((n % 2 ≡ 0) × (sign ring n ≡ 1ₖ)) ⊎ ((n % 2 ≡ 1) × (sign ring n ≡ neg 1ₖ))
          → ((suc n % 2 ≡ 0) × (sign ring (suc n) ≡ 1ₖ)) ⊎ ((suc n % 2 ≡ 1) × (sign ring (suc n) ≡ neg 1ₖ))
      pick (inl e) = inr (odd n e.0, ap (mul (neg 1ₖ)) e.1 ∙ laws.mul_one _ (laws.neg_value 1ₖ laws.one_value))
      pick (inr e) =
          let m = laws.neg_value 1ₖ laws.one_value in
          inl (even n e.0, ap (mul (neg 1ₖ)) e.1 ∙ minus_one laws _ m ∙ neg_neg laws 1ₖ laws.one_value)

  pub sign_odd : (n : ℕ) → n % 2 ≡ 1 → sign ring n ≡ neg 1ₖ
  sign_odd n e = elim (parity n) [
    | inl h ↦ absurd (omega (arith, e, h.0))
    | inr h ↦ h.1
  ]

  pub signed_even : {c : F} (n : ℕ) → IsValue c → n % 2 ≡ 0 → c ≡ mul c (sign ring n)
  signed_even {c} n v e = elim (parity n) [
    | inl h ↦ sym (ap (mul c) h.1 ∙ laws.mul_one c v)
    | inr h ↦ absurd (omega (arith, e, h.0))
  ]

  pub signed_odd : {c d : F} (n : ℕ) → IsValue c → (n % 2 ≡ 0 → ⊥) → d ≡ neg c → d ≡ mul c (sign ring n)
  signed_odd {c} {d} n v e q = elim (parity n) [
    | inl h ↦ absurd (e h.0)
    | inr h ↦ q ∙ sym (ap (mul c) h.1 ∙ mul_neg laws commutes c 1ₖ v laws.one_value ∙ ap neg (laws.mul_one c v))
  ]

  -- ---- the terms of a product

  meets-meet : (s t : Set) → IsSetWithin 64 s → (meet s t ≡ []) ↔ (meets s t ≡ false)
  meets-meet s t h = (
    λ e. meets-apart s t (λ i c d. Contains-none i (subst (λ z. Contains z i) e (members-meet s t i h c d))),
    λ e. none (meet s t) (λ i c. let w = meet-members s t i c in apart-meets s t e i w.0 w.1),
  )
    where
      none : (u : Set) → ((i : ℕ) → Contains u i → ⊥) → u ≡ []
      none [] n = refl
      none (x ∷ u) n = absurd (n x (Contains-here x u))

  row-apart : (s : Set) (c : F) (t : Set × F) (x : Ext F) → meets s t.0 ≡ false
      → wedge_terms ring s c (t ∷ x)
      ≡ (union s t.0, mul (mul c t.1) (sign ring (inversions (s ++ t.0)))) ∷ wedge_terms ring s c x
  row-apart s c t x e =
      ap (λ b. map (λ (v : Set × F). (v.0, mul (mul c t.1) v.1)) (cond b [] ((union s t.0, sign ring (inversions (s ++ t.0))) ∷ [])) ++ wedge_terms ring s c x) e

  row-meets : (s : Set) (c : F) (t : Set × F) (x : Ext F) → meets s t.0 ≡ true
      → wedge_terms ring s c (t ∷ x) ≡ wedge_terms ring s c x
  row-meets s c t x e =
      ap (λ b. map (λ (v : Set × F). (v.0, mul (mul c t.1) v.1)) (cond b [] ((union s t.0, sign ring (inversions (s ++ t.0))) ∷ [])) ++ wedge_terms ring s c x) e

  -- a term of the other factor that meets S gives nothing
  pub products_skip : (s : Set) (c : F) (out : Ext F) {m : Set} {t : Set × F} {b : Bool} {x xs start : Ext F}
      → IsSetWithin 64 s
      → out ++ wedge_terms ring s c xs ≡ start → xs ≡ t ∷ x → m ≡ meet s t.0 → IsTrue b ↔ (m ≡ []) → b ≡ false
      → out ++ wedge_terms ring s c x ≡ start
  products_skip s c out {m} {t} {b} {x} {xs} {start} h w e d k n =
      ap (λ z. out ++ z) (sym (ap (wedge_terms ring s c) e ∙ row-meets s c t x (pick (meets s t.0) refl))) ∙ w
    where
      pick : (a : Bool) → meets s t.0 ≡ a → a ≡ true
      pick true f = refl
      pick false f = absurd (not_both b (k.1 (d ∙ (meets-meet s t.0 h).1 f)) n)

  -- one that does not is multiplied
  pub products_step : (s : Set) (c : F) (out : Ext F) {m u : Set} {y z : F} {n : ℕ} {t : Set × F} {b : Bool} {x xs start more : Ext F}
      → IsSetWithin 64 s
      → out ++ wedge_terms ring s c xs ≡ start → xs ≡ t ∷ x → m ≡ meet s t.0 → IsTrue b ↔ (m ≡ []) → b ≡ true
      → y ≡ mul c t.1 → n ≡ inversions (s ++ t.0) → z ≡ mul y (sign ring n) → u ≡ union s t.0
      → more ≡ out ++ (u, z) ∷ []
      → more ++ wedge_terms ring s c x ≡ start
  products_step s c out {m} {u} {y} {z} {n} {t} {b} {x} {xs} {start} {more} h w e d k q ey en ez eu f =
      let apart : meets s t.0 ≡ false = (meets-meet s t.0 h).0 (sym d ∙ k.0 q) in
      let term : z ≡ mul (mul c t.1) (sign ring (inversions (s ++ t.0))) = ez ∙ (λ i. mul (ey i) (sign ring (en i))) in
      ap (λ o. o ++ wedge_terms ring s c x) f ∙ append_assoc out ((u, z) ∷ []) (wedge_terms ring s c x)
      ∙ ap (λ r. out ++ r) ((λ i. (eu i, term i) ∷ wedge_terms ring s c x) ∙ sym (ap (wedge_terms ring s c) e ∙ row-apart s c t x apart)) ∙ w
