-- Terms that divide terms.
use Rattle.std.specs.Prelude.{◌≡◌, ◌+◌, ◌≤◌}
use mathlib.Core.Path.{refl, sym, ap, ◌∙◌}
use native.Mathlib.Omega.{arith}
use Rattle.hp_mono.specs.declared.term.Term.{Term}
use Rattle.hp_mono.specs.Monomials as mono
use Rattle.hp_mono.specs.Monomials.{Monomial, IsMonomial, degree, product, vars}
use Rattle.hp_mono.specs.TermOrders.{TermDivides, times}
use Rattle.hp_mono.proofs.MonomialLaws.{degree_product, product-degree_zero, product-monomial}
use Rattle.hp_mono.proofs.TermLaws.{times-one, times-times}

pub divides-itself : (t : Term) → IsMonomial t.mono → TermDivides t t
divides-itself t h = (mono.one, refl, times-one t h)

pub divides-chain : (r s t : Term) → TermDivides r s → TermDivides s t → TermDivides r t
divides-chain r s t p q =
    (product q.0 p.0, product-monomial q.0 p.0 q.1 p.1, times-times q.0 p.0 r ∙ ap (times q.0) p.2 ∙ q.2)

pub divides-degree : (s t : Term) → IsMonomial s.mono → (d : TermDivides s t)
    → degree t.mono ≡ degree d.0 + degree s.mono
divides-degree s t hs d = ap (λ u. degree u.mono) (sym d.2) ∙ degree_product vars d.0 s.mono d.1 hs

times-degree_zero : (m : Monomial) (t : Term) → IsMonomial m → IsMonomial t.mono → degree m ≡ 0 → times m t ≡ t
times-degree_zero m t im it z =
    let e = product-degree_zero m t.mono (im ∙ sym it) z in
    λ i. record { mono = e i; comp = t.comp }

-- a multiple of no higher degree is the term itself
pub divides-same : (s t : Term) → IsMonomial s.mono → TermDivides s t → degree t.mono ≤ degree s.mono → s ≡ t
divides-same s t hs d l =
    let e = divides-degree s t hs d in
    sym (times-degree_zero d.0 s d.1 hs (omega (arith, e, l))) ∙ d.2

-- terms that divide each other are equal
pub divides-both : (s t : Term) → IsMonomial s.mono → IsMonomial t.mono → TermDivides s t → TermDivides t s → s ≡ t
divides-both s t hs ht p q = let e = divides-degree t s ht q in divides-same s t hs p (omega (arith, e))
