use Rattle.std.proofs.Common.{sym, ◌∙◌}
use Rattle.hp_poly.proofs.TermMultiples.{homogeneous_first}
use Rattle.hp_poly.proofs.poly.Poly.is_homogeneous.Goals as goal

pub returns-in-Some : goal.returns-in-Some
returns-in-Some g c =
    homogeneous_first g.F.Ring.ring (sym c.self.view_is ∙ sym c.deref.ensures.value ∙ c.in-Some.ensures.cases.0)
    c.degree.ensures.value c.have_degree.ensures
