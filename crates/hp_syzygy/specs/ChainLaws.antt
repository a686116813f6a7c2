-- The induced order is a term order.
use Rattle.std.specs.Prelude.{◌≡◌, ◌≢◌, ◌⊎◌, ℕ, ◌-◌, ◌<◌, ◌≤◌, length}
use Rattle.std.specs.declared.cmp.Ordering.{Ordering}
use Rattle.std.specs.declared.cmp.Ordering.TheVariants.{Less, Equal, Greater}
use Rattle.std.specs.Ordering.{nat_cmp, ordering_then, ordering_reverse}
use Rattle.std.specs.Cmp.{nat_cmp_is, nat_cmp_total, tied_itself}
use Rattle.std.specs.FinMap.{nat_cmp-IsAntisymmetric}
use Rattle.std.proofs.lemmas.Bool.{cases_eq, cases_lt}
use mathlib.Core.Logic.{inl, inr}
use mathlib.Core.Path.{refl, sym, ap, ◌∙◌, subst}
use native.Mathlib.Omega.{arith}
use Rattle.hp_mono.specs.declared.term.Term.{Term}
use Rattle.hp_mono.specs.Monomials.{Monomial, IsMonomial, product}
use Rattle.hp_mono.specs.TermOrders.{IsTermOrder, IsTermWithin, TermDivides, term_grevlex, times}
use Rattle.hp_mono.proofs.GrevlexLaws.{term_grevlex-is_order}
use Rattle.hp_mono.proofs.MonomialLaws.{cancel_product}
use Rattle.hp_mono.proofs.TermLaws.{times-times, times-within}
use Rattle.hp_module.specs.Leads.{no_term}
use Rattle.hp_syzygy.specs.ChainOrders.{Chain, IsChain, chain_order, full, rank_of, top_of}

then_less : (r q : Ordering) → ordering_then r q ≡ Less → (r ≡ Less) ⊎ ((r ≡ Equal) × (q ≡ Less))
then_less Less q e = inl refl
then_less Equal q e = inr (refl, e)
then_less Greater q e = absurd (cc)

then_equal : (r q : Ordering) → ordering_then r q ≡ Equal → (r ≡ Equal) × (q ≡ Equal)
then_equal Less q e = absurd (cc)
then_equal Equal q e = (refl, e)
then_equal Greater q e = absurd (cc)

then_reverse : (r q : Ordering)
    → ordering_then (ordering_reverse r) (ordering_reverse q) ≡ ordering_reverse (ordering_then r q)
then_reverse Less q = refl
then_reverse Equal q = refl
then_reverse Greater q = refl

less_rank : (x y : ℕ) → nat_cmp x y ≡ Less → x < y
less_rank x y e =
    elim (cases_lt x y) [
      | inl l ↦ l
      | inr g ↦ elim (cases_eq x y) [
        | inl q ↦ let p : Equal ≡ Less = nat_cmp_is x y Equal q ∙ e in absurd (cc)
        | inr o ↦ let p : Greater ≡ Less = nat_cmp_is x y Greater (omega (arith, g, o)) ∙ e in absurd (cc)
      ]
    ]

module _ (c : Chain) (is : IsChain c) where
  abbrev In : Term → Type 0
  In a = IsTermWithin (length c.tops) a

  abbrev ord : Term → Term → Ordering
  ord = chain_order c

  abbrev ranks : Term → Term → Ordering
  ranks a b = nat_cmp (rank_of c a.comp) (rank_of c b.comp)

  first : IsTermOrder c.width term_grevlex
  first = term_grevlex-is_order c.width

  pub top-in : (i : ℕ) → 1 ≤ i → i ≤ length c.tops → IsTermWithin c.width (top_of c i)
  top-in i a b = is.tops (i - 1) no_term (omega (arith, a, b))

  -- a term within stands for one
  pub full-in : (a : Term) → IsTermWithin (length c.tops) a → IsTermWithin c.width (full c a)
  full-in a h = times-within c.width a.mono (top_of c a.comp) h.0 (top-in a.comp h.1 h.2)

  pub full-times : (m : Monomial) (a : Term) → full c (times m a) ≡ times m (full c a)
  full-times m a = times-times m a.mono (top_of c a.comp)

  same_full : (a b : Term) → In a → In b → term_grevlex (full c a) (full c b) ≡ Equal → full c a ≡ full c b
  same_full a b ha hb e = first.same (full c a) (full c b) (full-in a ha) (full-in b hb) e

  pub rank-apart : (i j : ℕ) → 1 ≤ i → i ≤ length c.tops → 1 ≤ j → j ≤ length c.tops → rank_of c i ≡ rank_of c j → i ≡ j
  rank-apart i j a b d e q =
      let p = is.apart (i - 1) (j - 1) (omega (arith, a, b)) (omega (arith, d, e)) q in
      omega (arith, p, a, d)

  chain-same : (a b : Term) → In a → In b → ord a b ≡ Equal → a ≡ b
  chain-same a b ha hb e =
      let t = then_equal (term_grevlex (full c a) (full c b)) (ranks a b) e in
      let fulls = same_full a b ha hb t.0 in
      let k : a.comp ≡ b.comp = rank-apart a.comp b.comp ha.1 ha.2 hb.1 hb.2 (nat_cmp-IsAntisymmetric (rank_of c a.comp) (rank_of c b.comp) t.1) in
      let w = top-in a.comp ha.1 ha.2 in
      let p : product a.mono (top_of c a.comp).mono ≡ product b.mono (top_of c a.comp).mono =
      ap (λ u. u.mono) fulls ∙ ap (λ i. product b.mono (top_of c i).mono) (sym k) in
      let m = cancel_product a.mono b.mono (top_of c a.comp).mono (ha.0 ∙ sym w.0) (hb.0 ∙ sym w.0) p in
      λ i. record { mono = m i; comp = k i }

  chain-less : (a b : Term) → In a → In b → ord a b ≡ Less
      → (term_grevlex (full c a) (full c b) ≡ Less) ⊎ ((full c a ≡ full c b) × (rank_of c a.comp < rank_of c b.comp))
  chain-less a b ha hb e =
      elim (then_less (term_grevlex (full c a) (full c b)) (ranks a b) e) [
        | inl p ↦ inl p
        | inr p ↦ inr (same_full a b ha hb p.0, less_rank (rank_of c a.comp) (rank_of c b.comp) p.1)
      ]

  less-chain : (a b : Term) → term_grevlex (full c a) (full c b) ≡ Less → ord a b ≡ Less
  less-chain a b e = ap (λ r. ordering_then r (ranks a b)) e

  -- where the terms of the first module are equal the ranks decide
  pub tie-chain : (a b : Term) → IsTermWithin (length c.tops) b → full c a ≡ full c b
      → chain_order c a b ≡ nat_cmp (rank_of c a.comp) (rank_of c b.comp)
  tie-chain a b hb e =
      ap (λ r. ordering_then r (ranks a b)) (ap (λ t. term_grevlex t (full c b)) e ∙ first.itself (full c b) (full-in b hb))

  chain-transitive : (a b d : Term) → In a → In b → In d → ord a b ≡ Less → ord b d ≡ Less → ord a d ≡ Less
  chain-transitive a b d ha hb hd e f =
      elim (chain-less a b ha hb e) [
        | inl p ↦ elim (chain-less b d hb hd f) [
          | inl q ↦ less-chain a d (first.transitive (full c a) (full c b) (full c d) (full-in a ha) (full-in b hb) (full-in d hd) p q)
          | inr q ↦ less-chain a d (ap (term_grevlex (full c a)) (sym q.0) ∙ p)
        ]
        | inr p ↦ elim (chain-less b d hb hd f) [
          | inl q ↦ less-chain a d (ap (λ t. term_grevlex t (full c d)) p.0 ∙ q)
          | inr q ↦ tie-chain a d hd (p.0 ∙ q.0) ∙ sym (nat_cmp_is (rank_of c a.comp) (rank_of c d.comp) Less (omega (arith, p.1, q.1)))
        ]
      ]

  chain-products : (m : Monomial) (a b : Term) → IsMonomial m → In a → In b → ord a b ≡ Less → ord (times m a) (times m b) ≡ Less
  chain-products m a b im ha hb e =
      elim (chain-less a b ha hb e) [
        | inl p ↦ less-chain (times m a) (times m b) ((λ i. term_grevlex (full-times m a i) (full-times m b i))
            ∙ first.keeps_products m (full c a) (full c b) im (full-in a ha) (full-in b hb) p)
        | inr p ↦ tie-chain (times m a) (times m b) (times-within (length c.tops) m b im hb)
            (full-times m a ∙ ap (times m) p.0 ∙ sym (full-times m b))
            ∙ sym (nat_cmp_is (rank_of c a.comp) (rank_of c b.comp) Less p.1)
      ]

  chain-divisor : (a b : Term) → In a → In b → TermDivides b a → ord a b ≢ Less
  chain-divisor a b ha hb d e =
      let comps : b.comp ≡ a.comp = ap (λ t. t.comp) d.2 in
      let fulls : times d.0 (full c b) ≡ full c a = sym (full-times d.0 b) ∙ ap (full c) d.2 in
      elim (chain-less a b ha hb e) [
        | inl p ↦ first.not_below_divisor (full c a) (full c b) (full-in a ha) (full-in b hb) (d.0, d.1, fulls) p
        | inr p ↦ absurd (omega (arith, subst (λ k. rank_of c a.comp < rank_of c k) comps p.1))
      ]

  pub chain-is_order : IsTermOrder (length c.tops) (chain_order c)
  chain-is_order = record {
    same = chain-same;
    itself = λ a h. tie-chain a a h refl ∙ tied_itself nat_cmp_total (rank_of c a.comp);
    opposite = λ a b ha hb.
        let t = first.opposite (full c a) (full c b) (full-in a ha) (full-in b hb) in
        let r = nat_cmp_total.antisymm (rank_of c a.comp) (rank_of c b.comp) in
        (λ i. ordering_then (t i) (r i)) ∙ then_reverse (term_grevlex (full c b) (full c a)) (ranks b a);
    transitive = chain-transitive;
    keeps_products = chain-products;
    not_below_divisor = chain-divisor;
  }
