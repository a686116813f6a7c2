-- Polynomials as sums over the monomials in the order from the greatest.
use Rattle.std.specs.Prelude.{◌≡◌, ◌+◌, ◌≤◌}
use Rattle.std.specs.declared.cmp.Ordering.TheVariants.{Equal}
use Rattle.std.specs.Cmp.{IsTotalOrder, back_total}
use mathlib.Core.Path.{sym, ◌∙◌}
use Rattle.hp_algebra.specs.Ring.{RingOf, IsRing, IsCommutative}
use Rattle.hp_mono.specs.Monomials.{Monomial, IsMonomial, degree, max_degree, product}
use Rattle.hp_mono.proofs.GrevlexLaws.{grevlex_product, grevlex_total, grevlex_same}
use Rattle.hp_sums.specs.Bases.{IsBasisOrder, KeepsOrder}
use Rattle.hp_sums.proofs.SumSetting.{SumSetting}
use Rattle.hp_poly.specs.Polynomials.{from_greatest}

pub from_greatest_total : IsTotalOrder from_greatest
from_greatest_total = back_total grevlex_total

pub from_greatest_same : (a b : Monomial) → from_greatest a b ≡ Equal → a ≡ b
from_greatest_same a b e = sym (grevlex_same b a e)

abbrev pub poly_setting : {F : Type 0} {ring : RingOf F} → IsRing ring → IsCommutative ring → SumSetting Monomial F
poly_setting {F} {ring} laws commutes = record {
  order = from_greatest;
  ring = ring;
  ordered = from_greatest_total;
  same = from_greatest_same;
  laws = laws;
  commutes = commutes;
}

pub from_greatest_basis : IsBasisOrder from_greatest
from_greatest_basis = record { total = from_greatest_total; same = from_greatest_same }

-- two monomials whose product has no too great degree
pub record HaveProduct (m k : Monomial) : Type 0 where
  pub left : IsMonomial m
  pub right : IsMonomial k
  pub degrees : degree m + degree k ≤ max_degree

pub from_greatest_keeps : (m : Monomial) → KeepsOrder from_greatest (HaveProduct m) (product m)
from_greatest_keeps m x y f g l = grevlex_product m y x f.left g.right f.right ∙ l
