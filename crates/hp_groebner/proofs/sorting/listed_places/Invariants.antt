use Rattle.hp_groebner.proofs.ListedPlaces.{AreKeyed}
use Rattle.hp_groebner.proofs.sorting.listed_places.Given as goal

abbrev pub invariant-loop-p : goal.invariant-loop-p
invariant-loop-p l = AreKeyed l.leads l.p l.keyed.items
