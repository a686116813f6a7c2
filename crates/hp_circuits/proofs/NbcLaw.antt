-- Sets without broken circuit: they are independent, and no form below a member lies in the span of the members from it on.
use Rattle.std.specs.Prelude.{◌≡◌, ◌↔◌, ℕ, zero, suc, ◌<◌, ◌≤◌, nat_lt, Bool, true, false, not, ◌&&◌, [], ◌∷◌, length, drop, Contains}
use Rattle.std.proofs.Common.{get_or}
use Rattle.std.proofs.lemmas.Bool.{cases_lt, and_from, ltb-true, ltb-false}
use mathlib.Core.Logic.{inl, inr}
use mathlib.Core.Path.{refl, sym, ap, ◌∙◌}
use native.Mathlib.Omega.{arith}
use Rattle.hp_lists.specs.Lists.{one_to, list_all}
use Rattle.hp_lists.proofs.Members.{first_true, second_true, not_both, all-at, all-from, Contains-later}
use Rattle.hp_sets.specs.Sets.{Set, IsSetWithin}
use Rattle.hp_sets.proofs.SetLaws.{contains-Contains, Contains-contains}
use Rattle.hp_matroid.specs.Matroids.{Rises, Within, is_nbc as is_nbc_of}
use Rattle.hp_matroid.proofs.Nbc.{nbc-cons, nbc-empty}
use Rattle.hp_matroid.proofs.Broken.{nbc-quiet, quiet-rank}
use Rattle.hp_matroid.proofs.RisingSets.{set-rises}
use Rattle.hp_arr.specs.Circuits.{is_nbc, broken_circuits, circuits}
use Rattle.hp_arr.specs.Flats.{closure, rank, is_circuit, is_dependent}
use Rattle.hp_arr.proofs.Setting.{Setting, n}
use Rattle.hp_arr.proofs.ArrangementMatroids.{matroid}

module _ {K : Type 0} (S : Setting K) where
  open S use {ring, inverse, numbers, arr}

  -- the definition for arrangements is that for a closure and a rank
  pub nbc-same : (s : Set) → is_nbc ring numbers arr s ≡ is_nbc_of (matroid S) s
  unfolding is_nbc broken_circuits circuits is_circuit is_dependent
  nbc-same s = refl

  abbrev pub Nbc : Set → Type 0
  Nbc s = is_nbc S.ring S.numbers S.arr s ≡ true

  abbrev pub Flat : Set → Set
  Flat s = closure S.ring S.numbers S.arr s

  pub empty-nbc : Nbc []
  empty-nbc = nbc-same [] ∙ nbc-empty (matroid S)

  module _ (i : ℕ) (T : Set) (r : Rises (i ∷ T)) (w : Within (i ∷ T) (one_to (n S))) where
    cons : is_nbc ring numbers arr (i ∷ T)
        ≡ (is_nbc ring numbers arr T && list_all (λ e. not (nat_lt e i)) (Flat (i ∷ T)))
    cons = nbc-same (i ∷ T) ∙ nbc-cons (matroid S) i T r w ∙ ap (λ b. b && list_all (λ e. not (nat_lt e i)) (Flat (i ∷ T))) (sym (nbc-same T))

    -- A member in front makes one more set without broken circuit exactly where it is the least of the closure.
    pub cons-nbc : Nbc T → ((e : ℕ) → Contains (Flat (i ∷ T)) e → i ≤ e) → Nbc (i ∷ T)
    cons-nbc h least = cons ∙ and_from _ _ h (all-from (λ e. not (nat_lt e i)) (Flat (i ∷ T)) (λ e c. low e (least e c) (nat_lt e i) refl))
      where
        low : (e : ℕ) → i ≤ e → (b : Bool) → nat_lt e i ≡ b → not (nat_lt e i) ≡ true
        low e l false z = ap not z
        low e l true z = absurd (omega (arith, l, ltb-true e i z))

    pub nbc-tail : Nbc (i ∷ T) → Nbc T
    nbc-tail h = first_true _ _ (sym cons ∙ h)

    pub nbc-least : Nbc (i ∷ T) → (e : ℕ) → Contains (Flat (i ∷ T)) e → i ≤ e
    nbc-least h e c = high (nat_lt e i) refl (all-at (λ e. not (nat_lt e i)) (Flat (i ∷ T)) e (second_true _ _ (sym cons ∙ h)) c)
      where
        high : (b : Bool) → nat_lt e i ≡ b → not (nat_lt e i) ≡ true → i ≤ e
        high true z k = absurd (not_both _ k (ap not z))
        high false z k = ltb-false e i z

  -- ---- the law

  -- no number below a member is in the closure of the members from it on
  abbrev pub NoneBelow : Set → Type 0
  NoneBelow s = (k c : ℕ) → k < length s → c < get_or s k 0 → Contains (closure S.ring S.numbers S.arr (drop k s)) c → ⊥

  nbc-below : (s : Set) → Rises s → Within s (one_to (n S)) → Nbc s → NoneBelow s
  nbc-below [] r w h k c l m f = absurd (omega (arith, l))
  nbc-below (i ∷ s) r w h zero c l m f = let low = nbc-least i s r w h c f in omega (arith, low, m)
  nbc-below (i ∷ s) r w h (suc k) c l m f =
      nbc-below s r.1 (λ j e. w j (Contains-contains (i ∷ s) j (Contains-later i s j (contains-Contains s j e)))) (nbc-tail i s r w h) k c (omega (arith, l)) m f

  below-nbc : (s : Set) → Rises s → Within s (one_to (n S)) → NoneBelow s → Nbc s
  below-nbc [] r w h = empty-nbc
  below-nbc (i ∷ s) r w h =
      cons-nbc i s r w
      (below-nbc s r.1 (λ j e. w j (Contains-contains (i ∷ s) j (Contains-later i s j (contains-Contains s j e)))) (λ k c l m f. h (suc k) c (omega (arith, l)) m f))
      (λ e c. elim (cases_lt e i) [ inl l ↦ absurd (h 0 e (omega arith) l c) | inr l ↦ l ])

  -- A set has no broken circuit exactly where it is independent and no form below a member lies in the span of the forms of the members from it on.
  pub nbc-law : (s : Set) → IsSetWithin (n S) s → Nbc s ↔ ((rank ring numbers arr s ≡ length s) × NoneBelow s)
  nbc-law s h =
      let r = set-rises (n S) s h in (
        λ b. (quiet-rank (matroid S) s r.0 r.1 (sym (nbc-quiet (matroid S) s r.0 r.1) ∙ sym (nbc-same s) ∙ b), nbc-below s r.0 r.1 b),
        λ p. below-nbc s r.0 r.1 p.1,
      )
