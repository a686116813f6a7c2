use Rattle.std.proofs.Common.{◌≡◌, ℕ, ◌≤◌, None, map, take}
use Rattle.hp_arr.specs.FormFaults.{earlier_multiple}
use Rattle.hp_arr.specs.Operations.{normalised}
use Rattle.hp_arr.proofs.fault_search.find_repeated.Given as goal

abbrev pub invariant-loop-k : goal.invariant-loop-k
invariant-loop-k g l = record {
  held : map (λ places. places.items) l.earlier.keys ≡ map (λ a. map g.K.FiniteField.numbers.place (normalised g.K.Ring.ring g.K.Field.inverse a)) (take l.k l.forms);
  none : (h : ℕ) → 1 ≤ h → h ≤ l.k → earlier_multiple g.K.Ring.ring g.K.FiniteField.numbers l.forms h ≡ None;
}
