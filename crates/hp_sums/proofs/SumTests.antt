-- When terms are a sum as they stand.
use Rattle.std.specs.Prelude.{◌≡◌, ◌≢◌, ◌↔◌, ◌==◌, true, false, not, List, ◌∷◌, length, All}
use Rattle.std.specs.declared.cmp.Ordering.{Ordering}
use Rattle.std.specs.declared.cmp.Ordering.TheVariants.{Less, Equal, Greater}
use Rattle.std.specs.Ordering.{ordering_index}
use Rattle.std.proofs.lemmas.Bool.{false≢true}
use Rattle.std.proofs.lemmas.List.Elements.{All-cons, All-nil, All-weaker}
use mathlib.Core.Path.{refl, sym, subst, ◌∙◌}
use Rattle.hp_algebra.specs.Ring.{RingOf, IsField}
use Rattle.hp_sums.specs.FiniteSums.{IsSum}
use Rattle.hp_sums.specs.Bases.{IsBasisOrder}
use Rattle.hp_sums.proofs.SumSetting.{SumSetting}
use Rattle.hp_sums.proofs.Collected.{nothing-IsSum, sum-after, sum-tail}
use Rattle.hp_sums.proofs.FirstTerms.{cons_sum, first_value}
use Rattle.hp_sums.proofs.Merges.{no_items}
use Rattle.hp_sums.proofs.MovedSums.{basis_setting}

-- what the code compares with Less is Less
pub compared-less : (r : Ordering) → false ≡ not (ordering_index r == 0) → r ≡ Less
compared-less Less e = refl
compared-less Equal e = absurd (false≢true e)
compared-less Greater e = absurd (false≢true e)

-- a property of the first term and of those after it
pub keys-step : {B R : Type 0} (P : B → Type 0) (terms : List (B × R)) {t : B × R} {rest more : List (B × R)} → rest ≡ t ∷ more → P t.0
    → (All (λ u. P u.0) rest → All (λ u. P u.0) terms) → All (λ u. P u.0) more → All (λ u. P u.0) terms
keys-step {B} {R} P terms {t} {rest} {more} e p f h =
    f (subst (All (λ (u : B × R). P u.0)) (sym e) (All-cons (λ (u : B × R). P u.0) t more p h))

module _ {B R : Type 0} {order : B → B → Ordering} {ring : RingOf R} {inverse : R → R} (basis : IsBasisOrder order)
    (field : IsField ring inverse) where
  abbrev S : SumSetting B R
  S = basis_setting basis field

  abbrev Sum : List (B × R) → Type 0
  Sum xs = IsSum order ring xs

  tail : (t : B × R) {rest more : List (B × R)} → rest ≡ t ∷ more → Sum rest → Sum more
  tail t {rest} {more} e s = sum-tail S t more (subst (IsSum order ring) e s)

  -- a zero is in no sum
  pub zero-fails : {t : B × R} {rest more terms : List (B × R)} → rest ≡ t ∷ more → ring.IsValue t.1 → true ≡ ring.is_zero t.1
      → (Sum rest ↔ Sum terms) → Sum terms → ⊥
  zero-fails {t} {rest} {more} e v z f s =
      (first_value S t more (subst (IsSum order ring) e (f.1 s))).1 ((field.is_ring.zero_test t.1 v).0 (sym z))

  nonzero : {c : R} → ring.IsValue c → false ≡ ring.is_zero c → c ≢ ring.zero
  nonzero {c} v z e = false≢true (z ∙ (field.is_ring.zero_test c v).1 e)

  -- the last term
  pub test-last : {t : B × R} {rest more terms : List (B × R)} → rest ≡ t ∷ more → length more ≡ 0 → ring.IsValue t.1
      → false ≡ ring.is_zero t.1 → (Sum rest ↔ Sum terms) → Sum more ↔ Sum terms
  test-last {t} {rest} {more} e none v z f =
      let P = λ (u : B × R). order t.0 u.0 ≡ Less in (
        (λ s. f.0 (subst (IsSum order ring) (sym e) (cons_sum S t more v (nonzero v z) (subst (All P) (sym (no_items more none)) (All-nil P)) s))),
        λ s. tail t e (f.1 s),
      )

  -- a term that comes before the next
  pub test-next : {t u : B × R} {rest more others terms : List (B × R)} → rest ≡ t ∷ more → more ≡ u ∷ others
      → ring.IsValue t.1 → false ≡ ring.is_zero t.1 → order t.0 u.0 ≡ Less → (Sum rest ↔ Sum terms) → Sum more ↔ Sum terms
  test-next {t} {u} {rest} {more} {others} e next v z l f =
      let P = λ (w : B × R). order t.0 w.0 ≡ Less in
      let Q = λ (w : B × R). order u.0 w.0 ≡ Less in (
        (λ s. f.0 (subst (IsSum order ring) (sym e) (cons_sum S t more v (nonzero v z)
            (subst (All P) (sym next) (All-cons P u others l
            (All-weaker Q P (λ w m. basis.total.trans t.0 u.0 w.0 l m) others (sum-after S u others (subst (IsSum order ring) next s))))) s))),
        λ s. tail t e (f.1 s),
      )

  -- no term is left
  pub test-end : {rest terms : List (B × R)} → length rest ≡ 0 → (Sum rest ↔ Sum terms) → Sum terms
  test-end {rest} e f = f.0 (subst (IsSum order ring) (sym (no_items rest e)) (nothing-IsSum S))
