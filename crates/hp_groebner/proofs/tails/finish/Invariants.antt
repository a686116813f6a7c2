use Rattle.hp_groebner.specs.BasisEnds.{AreMembersAt}
use Rattle.hp_groebner.proofs.tails.finish.Given as goal

abbrev pub invariant-loop-i : goal.invariant-loop-i
invariant-loop-i g l = AreMembersAt l.state l.places.items l.i l.members.items
