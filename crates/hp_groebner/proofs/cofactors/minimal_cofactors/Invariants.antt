use Rattle.hp_groebner.specs.KeptCofactors.{AreMonomials}
use Rattle.hp_groebner.proofs.MinimalCofactors.{AreMinimalAmong}
use Rattle.hp_groebner.proofs.cofactors.minimal_cofactors.Given as goal

abbrev pub invariant-loop-j : goal.invariant-loop-j
invariant-loop-j l = record {
  monomials : AreMonomials l.leads l.t l.j;
  minimal : AreMinimalAmong l.leads l.t l.j l.kept.items;
}
