-- Sums over a basis in a total order, and multiples of sums whose basis elements are moved.
use Rattle.std.specs.Prelude.{◌≡◌, ◌≢◌, true, false, List, [], ◌∷◌, ◌++◌, All}
use Rattle.std.specs.declared.cmp.Ordering.{Ordering}
use Rattle.std.specs.declared.cmp.Ordering.TheVariants.{Less}
use Rattle.std.proofs.Common.{append_assoc}
use Rattle.std.proofs.lemmas.List.Elements.{All-cons, All-head, All-map, All-nil, All-tail}
use mathlib.Core.Logic.{inl, inr}
use mathlib.Core.Path.{sym, ap, subst, ◌∙◌}
use Rattle.hp_algebra.specs.Ring.{RingOf, IsField}
use Rattle.hp_algebra.proofs.Rings.{field-domain}
use Rattle.hp_sums.specs.FiniteSums.{IsSum, collect, plus}
use Rattle.hp_sums.specs.Bases.{IsBasisOrder, KeepsOrder, moved}
use Rattle.hp_sums.proofs.SumSetting.{SumSetting}
use Rattle.hp_sums.proofs.Collected.{collect-IsSum, sum-after, sum-tail}
use Rattle.hp_sums.proofs.FirstTerms.{cons_sum, first_value, no_term, one_term_where}
use Rattle.hp_sums.proofs.SumLaws.{plus-IsSum}

-- what holds of the basis elements of a list holds of those after the first
pub rest-fits : {B R : Type 0} (P : B → Type 0) {t : B × R} {xs rest : List (B × R)} → xs ≡ t ∷ rest
    → All (λ u. P u.0) xs → All (λ u. P u.0) rest
rest-fits {B} {R} P {t} {xs} {rest} e h =
    All-tail (λ (u : B × R). P u.0) t rest (subst (All (λ (u : B × R). P u.0)) e h)

-- and of the first
pub first-fits : {B R : Type 0} (P : B → Type 0) {t : B × R} {xs rest : List (B × R)} → xs ≡ t ∷ rest
    → All (λ u. P u.0) xs → P t.0
first-fits {B} {R} P {t} {xs} {rest} e h =
    All-head (λ (u : B × R). P u.0) t rest (subst (All (λ (u : B × R). P u.0)) e h)

-- one term of a multiple is written
pub moved-step : {B R : Type 0} (ring : RingOf R) (c : R) (move : B → B) (out : List (B × R)) {t : B × R} {n : B} {d : R}
    {out' rest more w : List (B × R)} → rest ≡ t ∷ more → n ≡ move t.0 → d ≡ ring.mul c t.1
    → out' ≡ out ++ (n, d) ∷ [] → out ++ moved ring c move rest ≡ w → out' ++ moved ring c move more ≡ w
moved-step ring c move out {t} {n} {d} {out'} {rest} {more} e p q f g =
    ap (λ o. o ++ moved ring c move more) (f ∙ (λ i. out ++ (p i, q i) ∷ []))
    ∙ append_assoc out ((move t.0, ring.mul c t.1) ∷ []) (moved ring c move more)
    ∙ ap (λ z. out ++ moved ring c move z) (sym e) ∙ g

module _ {B R : Type 0} {order : B → B → Ordering} {ring : RingOf R} {inverse : R → R} where
  abbrev pub basis_setting : IsBasisOrder order → IsField ring inverse → SumSetting B R
  basis_setting basis field = record {
    order = order;
    ring = ring;
    ordered = basis.total;
    same = basis.same;
    laws = field.is_ring;
    commutes = field.commutes;
  }

  module _ (basis : IsBasisOrder order) (field : IsField ring inverse) where
    abbrev S : SumSetting B R
    S = basis_setting basis field

    pub product-nonzero : (c d : R) → ring.IsValue c → c ≢ ring.zero → ring.IsValue d → d ≢ ring.zero
        → ring.mul c d ≢ ring.zero
    product-nonzero c d v n w m e = elim ((field-domain field).no_zero_divisors c d v w e) [ inl z ↦ n z | inr z ↦ m z ]

    -- a multiple of a sum, moved by a map that keeps the order, is a sum
    pub moved-sum : (P : B → Type 0) (move : B → B) → KeepsOrder order P move → (c : R) → ring.IsValue c → c ≢ ring.zero
        → (xs : List (B × R)) → All (λ t. P t.0) xs → IsSum order ring xs → IsSum order ring (moved ring c move xs)
    moved-sum P move keeps c v n [] h f = f
    moved-sum P move keeps c v n (t ∷ xs) h f =
        let w = first_value S t xs f in
        let first = All-head (λ (u : B × R). P u.0) t xs h in
        let others = All-tail (λ (u : B × R). P u.0) t xs h in
        let after = sum-after S t xs f in
        cons_sum S (move t.0, ring.mul c t.1) (moved ring c move xs) (field.is_ring.mul_value c t.1 v w.0)
        (product-nonzero c t.1 v n w.0 w.1)
        (All-map (λ (u : B × R). order (move t.0) u.0 ≡ Less) (λ (u : B × R). (move u.0, ring.mul c u.1)) xs
        (λ k d l. keeps t.0 _ first (others k d l) (after k d l)))
        (moved-sum P move keeps c v n xs others (sum-tail S t xs f))

    -- what is the sum of two sums is a sum
    pub plus-sum : {xs ys zs : List (B × R)} → IsSum order ring xs → IsSum order ring ys → zs ≡ plus order ring xs ys
        → IsSum order ring zs
    plus-sum {xs} {ys} {zs} f g e = subst (IsSum order ring) (sym e) (plus-IsSum S xs ys f g)

    -- one term, or none where its coefficient is zero
    pub single-value : (b : B) (c : R) {xs : List (B × R)} → ring.IsValue c → false ≡ ring.is_zero c → xs ≡ (b, c) ∷ []
        → xs ≡ collect order ring ((b, c) ∷ [])
    single-value b c v z e = e ∙ sym (one_term_where S b c v (sym z))

    pub single-none : (b : B) (c : R) {xs : List (B × R)} → ring.IsValue c → true ≡ ring.is_zero c → xs ≡ []
        → xs ≡ collect order ring ((b, c) ∷ [])
    single-none b c v z e = e ∙ sym (no_term S b c v (sym z))

    pub single-sum : (b : B) (c : R) {xs : List (B × R)} → ring.IsValue c → xs ≡ collect order ring ((b, c) ∷ [])
        → IsSum order ring xs
    single-sum b c v e =
        subst (IsSum order ring) (sym e)
        (collect-IsSum S ((b, c) ∷ []) (All-cons (λ (u : B × R). ring.IsValue u.1) (b, c) [] v (All-nil (λ (u : B × R). ring.IsValue u.1))))
