use Rattle.std.proofs.Common.{◌≡◌, ◌≤◌, [], ◌∷◌, ◌++◌, filter, length, take}
use Rattle.hp_circuits.specs.Bounds.{most_circuits}
use Rattle.hp_circuits.specs.CircuitSteps.{closed, is_open, moved_all}
use Rattle.hp_circuits.proofs.circuit_search.children.Given as goal

-- the forms so far are kept, or close the circuits that are found
abbrev pub invariant-loop-w : goal.invariant-loop-w
invariant-loop-w g l =
    let ring = g.K.Ring.ring in
    let inverse = g.K.Field.inverse in
    record {
      kept : l.next.items ≡ filter (is_open ring) (moved_all ring inverse l.d (take l.w-index l.later));
      found : l.found.items ≡ l.fn.found.items ++ closed ring (l.fn.set ++ l.d.name ∷ []) (moved_all ring inverse l.d (take l.w-index l.later));
      few : length l.found.items ≤ most_circuits;
    }
