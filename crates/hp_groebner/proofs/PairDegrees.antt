-- The degree of the least common multiple of two leads.
use Rattle.std.specs.Prelude.{◌≡◌, ◌+◌, ◌<◌, ◌≤◌, max, [], ◌∷◌, length}
use Rattle.std.proofs.lemmas.Bool.{cases_eq}
use Rattle.std.proofs.lemmas.List.Sums.{sum_by-cons}
use mathlib.Core.Logic.{inl, inr}
use mathlib.Core.Path.{sym, ap, ◌∙◌}
use native.Mathlib.Omega.{arith}
use Rattle.hp_mono.specs.declared.term.Term.{Term}
use Rattle.hp_mono.specs.Monomials.{Divides, IsMonomial, Monomial, cofactor, degree, lcm, vars}
use Rattle.hp_mono.specs.TermOrders.{TermDivides}
use Rattle.hp_mono.proofs.MonomialLaws.{cofactor-monomial, cofactor_product, degree_product, lcm_comm, product-degree_zero}

pub degree-lcm : (a b : Monomial) → IsMonomial a → IsMonomial b → degree (lcm a b) ≡ degree (cofactor a b) + degree a
degree-lcm a b la lb =
    ap degree (sym (cofactor_product a b (la ∙ sym lb))) ∙ degree_product vars (cofactor a b) a (cofactor-monomial a b la lb) la

pub degree-lcm_back : (a b : Monomial) → IsMonomial a → IsMonomial b → degree (lcm a b) ≡ degree (cofactor b a) + degree b
degree-lcm_back a b la lb = ap degree (lcm_comm a b) ∙ degree-lcm b a lb la

-- a divisor has no higher degree
pub divides-low : (a b : Monomial) → IsMonomial a → Divides a b → degree a ≤ degree b
divides-low a b la d =
    let e = ap degree (sym d.2) ∙ degree_product vars d.0 a d.1 la in
    omega (arith, e)

-- the pair of a divisor of the cofactor has no higher degree
pub cover-low : (a b c : Monomial) → IsMonomial a → IsMonomial b → IsMonomial c → Divides (cofactor a c) (cofactor a b)
    → degree (lcm c a) ≤ degree (lcm b a)
cover-low a b c la lb lc d =
    let x = degree-lcm_back b a lb la in
    let y = degree-lcm_back c a lc la in
    let z = divides-low (cofactor a c) (cofactor a b) (cofactor-monomial a c la lc) d in
    omega (arith, x, y, z)

-- the lcm has at least the degree of each of the two
pub lcm-high : (a b : Monomial) → IsMonomial a → IsMonomial b → degree a ≤ degree (lcm a b)
lcm-high a b la lb = let e = degree-lcm a b la lb in omega (arith, e)

pub lcm-high_back : (a b : Monomial) → IsMonomial a → IsMonomial b → degree b ≤ degree (lcm a b)
lcm-high_back a b la lb = let e = degree-lcm_back a b la lb in omega (arith, e)

-- and no higher one than both together
pub lcm-low : (a b : Monomial) → IsMonomial a → IsMonomial b → degree (lcm a b) ≤ degree a + degree b
lcm-low a b la lb = cofactor-low a b (la ∙ sym lb)
  where
    cofactor-low : (a b : Monomial) → length a ≡ length b
        → degree (lcm a b) ≤ degree a + degree b
    cofactor-low [] b e = omega arith
    cofactor-low (x ∷ a) [] e = omega arith
    cofactor-low (x ∷ a) (y ∷ b) e =
        let r = cofactor-low a b (omega (arith, e)) in
        let u = sum_by-cons (λ n. n) (max x y) (lcm a b) in
        let v = sum_by-cons (λ n. n) x a in
        let w = sum_by-cons (λ n. n) y b in
        omega (arith, r, u, v, w)

-- a lead that another does not divide has, with it, an lcm of higher degree
pub lcm-higher : (s t : Term) → IsMonomial s.mono → IsMonomial t.mono → s.comp ≡ t.comp → ¬ (TermDivides s t)
    → degree t.mono < degree (lcm s.mono t.mono)
lcm-higher s t hs ht c n =
    let d = degree-lcm_back s.mono t.mono hs ht in
    elim (cases_eq (degree (cofactor t.mono s.mono)) 0) [
      | inl z ↦
          let p = cofactor_product s.mono t.mono (hs ∙ sym ht) ∙ lcm_comm s.mono t.mono
          ∙ sym (cofactor_product t.mono s.mono (ht ∙ sym hs))
          ∙ product-degree_zero (cofactor t.mono s.mono) t.mono (cofactor-monomial t.mono s.mono ht hs ∙ sym ht) z in
          absurd (n (cofactor s.mono t.mono, cofactor-monomial s.mono t.mono hs ht, λ i. record { mono = p i; comp = c i }))
      | inr o ↦ omega (arith, d, o)
    ]
