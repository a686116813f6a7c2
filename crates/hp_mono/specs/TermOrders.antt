-- Terms of vectors, and the laws of their orders.
use Rattle.std.specs.Prelude.{◌≡◌, ◌≢◌, ℕ, ◌≤◌}
use Rattle.std.specs.declared.cmp.Ordering.{Ordering}
use Rattle.std.specs.declared.cmp.Ordering.TheVariants.{Less, Equal}
use Rattle.std.specs.Ordering.{nat_cmp, ordering_then, ordering_reverse}
use Rattle.hp_mono.specs.declared.term.Term.{Term}
use Rattle.hp_mono.specs.Monomials.{Monomial, IsMonomial, product, grevlex}

-- the component is from 1 to the width, and the monomial has an exponent for each variable, whatever its degree
abbrev pub IsTermWithin : ℕ → Term → Type 0
IsTermWithin width t = IsMonomial t.mono × (1 ≤ t.comp) × (t.comp ≤ width)

abbrev pub times : Monomial → Term → Term
times m t = record { mono = product m t.mono; comp = t.comp }

-- s is a monomial times t
abbrev pub TermDivides : Term → Term → Type 0
TermDivides t s = (m : Monomial) × IsMonomial m × (times m t ≡ s)

-- A total order on the terms within a width, Equal exactly for equal terms, which products keep, and in which no term is
-- below one that divides it.
pub record IsTermOrder (width : ℕ) (cmp : Term → Term → Ordering) : Type 0 where
  pub same : (s t : Term) → IsTermWithin width s → IsTermWithin width t → cmp s t ≡ Equal → s ≡ t
  pub itself : (t : Term) → IsTermWithin width t → cmp t t ≡ Equal
  pub opposite : (s t : Term) → IsTermWithin width s → IsTermWithin width t → cmp s t ≡ ordering_reverse (cmp t s)
  pub transitive : (r s t : Term) → IsTermWithin width r → IsTermWithin width s → IsTermWithin width t
      → cmp r s ≡ Less → cmp s t ≡ Less → cmp r t ≡ Less
  pub keeps_products : (m : Monomial) (s t : Term) → IsMonomial m → IsTermWithin width s → IsTermWithin width t
      → cmp s t ≡ Less → cmp (times m s) (times m t) ≡ Less
  pub not_below_divisor : (s t : Term) → IsTermWithin width s → IsTermWithin width t → TermDivides t s → cmp s t ≢ Less

-- the greater monomial in grevlex is greater; for equal monomials the smaller component is greater
abbrev pub term_grevlex : Term → Term → Ordering
term_grevlex s t = ordering_then (grevlex s.mono t.mono) (nat_cmp t.comp s.comp)
