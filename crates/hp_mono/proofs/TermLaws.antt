-- Terms times monomials, and when one divides another.
use Rattle.std.specs.Prelude.{◌≡◌, ◌⊎◌, ℕ}
use Rattle.std.proofs.lemmas.Bool.{cases_eq}
use mathlib.Core.Logic.{inl, inr}
use mathlib.Core.Path.{ap}
use Rattle.hp_mono.specs.declared.term.Term.{Term}
use Rattle.hp_mono.specs.Monomials.{Monomial, IsMonomial, product, one}
use Rattle.hp_mono.specs.TermOrders.{IsTermWithin, TermDivides, times}
use Rattle.hp_mono.proofs.MonomialLaws.{divides-decided, product-monomial, product-one, product_assoc}

pub times-within : (width : ℕ) (m : Monomial) (t : Term) → IsMonomial m → IsTermWithin width t → IsTermWithin width (times m t)
times-within width m t lm h = (product-monomial m t.mono lm h.0, h.1, h.2)

pub times-one : (t : Term) → IsMonomial t.mono → times one t ≡ t
times-one t l = let p = product-one t.mono l in λ i. record { mono = p i; comp = t.comp }

pub times-times : (m n : Monomial) (t : Term) → times (product m n) t ≡ times m (times n t)
times-times m n t = let p = product_assoc m n t.mono in λ i. record { mono = p i; comp = t.comp }

pub term_divides-decided : (s t : Term) → IsMonomial s.mono → IsMonomial t.mono → TermDivides s t ⊎ ¬ (TermDivides s t)
term_divides-decided s t ls lt =
    elim (cases_eq s.comp t.comp) [
      | inl e ↦ elim (divides-decided s.mono t.mono ls lt) [
        | inl d ↦ let p = d.2 in inl (d.0, d.1, λ i. record { mono = p i; comp = e i })
        | inr none ↦ inr (λ d. none (d.0, d.1, ap (λ u. u.mono) d.2))
      ]
      | inr other ↦ inr (λ d. other (ap (λ u. u.comp) d.2))
    ]
