-- Ranks that rise with the order of the members of a level differ, rise with those of the components, and with the last variable that is left.
use Rattle.std.specs.Prelude.{◌≡◌, ◌≢◌, ◌⊎◌, ℕ, zero, suc, ◌<◌, ◌≤◌, List, [], ◌∷◌, length, reverse, slice_index_or}
use Rattle.std.specs.declared.cmp.Ordering.{Ordering}
use Rattle.std.specs.declared.cmp.Ordering.TheVariants.{Less, Equal, Greater}
use Rattle.std.specs.Ordering.{nat_cmp, ordering_then}
use Rattle.std.specs.Cmp.{nat_cmp_is, nat_cmp_total, tied_itself}
use Rattle.std.specs.Cmp.Lexicographic.{slice_cmp}
use Rattle.std.specs.FinMap.{nat_cmp-IsAntisymmetric}
use Rattle.std.proofs.lemmas.Bool.{cases_eq, cases_lt}
use mathlib.Core.Logic.{inl, inr}
use mathlib.Core.Path.{refl, sym, ap, ◌∙◌}
use native.Mathlib.Omega.{arith}
use Rattle.hp_mono.specs.TermOrders.{IsTermWithin}
use Rattle.hp_syzygy.specs.ChainOrders.{by_last, rank_of}
use Rattle.hp_syzygy.specs.FrameLevels.{AreRanks, Level, exponent_at, level_lead, level_width}
use Rattle.hp_syzygy.specs.MemberRanks.{member_key, member_order}
use Rattle.hp_syzygy.proofs.LastNumbers.{last-reverse}
use Rattle.hp_syzygy.proofs.LeadExponents.{exponent_of}
use Rattle.hp_syzygy.proofs.SortedKeys.{key-total}

then_equal : (r q : Ordering) → ordering_then r q ≡ Equal → q ≡ Equal
then_equal Less q e = absurd (cc)
then_equal Equal q e = e
then_equal Greater q e = absurd (cc)

less_first : (r q : Ordering) → ordering_then r q ≡ Less → r ≢ Greater
less_first Less q e f = absurd (cc)
less_first Equal q e f = absurd (cc)
less_first Greater q e f = absurd (cc)

-- lists whose numbers are equal from a place on, compared by the last that differs
last-zeros : (a b : List ℕ) → ((q : ℕ) → exponent_of a q ≡ 0) → ((q : ℕ) → exponent_of b q ≡ 0) → by_last a b ≡ Equal
last-zeros [] b f g = refl
last-zeros (x ∷ a) [] f g = refl
last-zeros (x ∷ a) (y ∷ b) f g =
    let r = last-zeros a b (λ q. f (suc q)) (λ q. g (suc q)) in
    let e = f 0 ∙ sym (g 0) in
    ap (λ z. ordering_then z (nat_cmp x y)) r ∙ sym (nat_cmp_is x y Equal e)

pub last-rises : (p : ℕ) (a b : List ℕ) → length a ≡ length b → ((q : ℕ) → p < q → exponent_of a q ≡ 0)
    → ((q : ℕ) → p < q → exponent_of b q ≡ 0) → by_last a b ≢ Greater → exponent_of a p ≤ exponent_of b p
last-rises p [] b h f g n = omega arith
last-rises p (x ∷ a) [] h f g n = absurd (omega (arith, h))
last-rises zero (x ∷ a) (y ∷ b) h f g n =
    let z = last-zeros a b (λ q. f (suc q) (omega arith)) (λ q. g (suc q) (omega arith)) in
    elim (cases_lt y x) [
      | inl l ↦ absurd (n (ap (λ r. ordering_then r (nat_cmp x y)) z ∙ sym (nat_cmp_is x y Greater l)))
      | inr l ↦ l
    ]
last-rises (suc p) (x ∷ a) (y ∷ b) h f g n =
    last-rises p a b (omega (arith, h)) (λ q l. f (suc q) (omega (arith, l))) (λ q l. g (suc q) (omega (arith, l)))
    (λ e. n (ap (λ r. ordering_then r (nat_cmp x y)) e))

module _ {F : Type 0} (v : Level F) where
  abbrev lead : ℕ → Rattle.hp_mono.specs.declared.term.Term.Term
  lead i = level_lead v i

  -- of two members one comes before the other
  either : (j i : ℕ) → j ≢ i → (member_order v j i ≡ Less) ⊎ (member_order v i j ≡ Less)
  either j i n =
      elim (member_order v j i) as (λ z. member_order v j i ≡ z → (member_order v j i ≡ Less) ⊎ (member_order v i j ≡ Less)) [
        | Less ↦ λ e. inl e
        | Equal ↦ λ e. absurd (n (nat_cmp-IsAntisymmetric j i (then_equal _ _ (then_equal _ _ e))))
        | Greater ↦ λ e. inr (key-total.antisymm (member_key v i) (member_key v j) ∙ ap Rattle.std.specs.Ordering.ordering_reverse e)
      ] refl

  module _ (within : (i : ℕ) → i < length v.leads → IsTermWithin (level_width v) (level_lead v i))
      (left : (i p : ℕ) → i < length v.leads → v.left ≤ p → exponent_at (level_lead v i) p ≡ 0) (ranks : List ℕ)
      (rank_less : (j i : ℕ) → j < length v.leads → i < length v.leads → member_order v j i ≡ Less
      → slice_index_or ranks j 0 < slice_index_or ranks i 0) where
    rise : (i j p : ℕ) → i < length v.leads → j < length v.leads → (level_lead v i).comp ≡ (level_lead v j).comp
        → slice_index_or ranks i 0 < slice_index_or ranks j 0 → suc p ≡ v.left
        → exponent_at (level_lead v i) p ≤ exponent_at (level_lead v j) p
    rise i j p li lj comps less is_left =
        let distinct : i ≢ j = λ e. let q = ap (λ k. slice_index_or ranks k 0) e in omega (arith, q, less) in
        let order : member_order v i j ≡ Less = elim (either i j distinct) [
          | inl e ↦ e
          | inr e ↦ let r = rank_less j i lj li e in absurd (omega (arith, r, less))
        ] in
        let tie = ap (λ r. ordering_then r (ordering_then (slice_cmp nat_cmp (reverse (lead i).mono) (reverse (lead j).mono)) (nat_cmp i j)))
        (ap (λ c. nat_cmp (rank_of v.chain c) (rank_of v.chain (lead j).comp)) comps ∙ tied_itself nat_cmp_total (rank_of v.chain (lead j).comp)) in
        let lengths = (within i li).0 ∙ sym (within j lj).0 in
        let n = less_first _ _ (sym tie ∙ order) in
        last-rises p (lead i).mono (lead j).mono lengths (λ q l. left i q li (omega (arith, l, is_left))) (λ q l. left j q lj (omega (arith, l, is_left)))
        (λ e. n (last-reverse (lead i).mono (lead j).mono lengths ∙ e))

    pub ranks_are : length ranks ≡ length v.leads → AreRanks v ranks
    ranks_are count = record {
      one_each = count;
      apart = λ i j li lj e. elim (cases_eq i j) [
        | inl s ↦ s
        | inr o ↦ elim (either i j o) [
          | inl x ↦ let r = rank_less i j li lj x in absurd (omega (arith, r, e))
          | inr x ↦ let r = rank_less j i lj li x in absurd (omega (arith, r, e))
        ]
      ];
      by_component = λ i j li lj less.
          let order : member_order v i j ≡ Less = ap (λ r. ordering_then r (ordering_then (slice_cmp nat_cmp (reverse (lead i).mono) (reverse (lead j).mono)) (nat_cmp i j)))
          (sym (nat_cmp_is (rank_of v.chain (lead i).comp) (rank_of v.chain (lead j).comp) Less less)) in
          rank_less i j li lj order;
      rise = rise;
    }
