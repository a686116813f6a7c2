use Rattle.std.proofs.Common.{refl, sym, subst}
use Rattle.hp_sums.specs.FiniteSums.{IsSum}
use Rattle.hp_sums.proofs.Collected.{collect-sum}
use Rattle.hp_poly.specs.Polynomials.{from_greatest}
use Rattle.hp_poly.proofs.TermMultiples.{setting}
use Rattle.hp_poly.proofs.poly.Poly.from_terms.Goals as goal

pub returns-then-is_sum : goal.returns-then-is_sum
returns-then-is_sum g c =
    sym (collect-sum (setting g.met.F.Field.field_laws) c.args.terms.items
    (subst (IsSum from_greatest g.F.Ring.ring) c.as_slice.ensures.value (c.if-is_sum.ensures.sum.0 refl)))
