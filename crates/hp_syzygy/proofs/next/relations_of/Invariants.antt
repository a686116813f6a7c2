use Rattle.std.proofs.Common.{◌≡◌, ◌<◌, ℕ, [], get_or, length}
use Rattle.hp_module.specs.Leads.{no_term}
use Rattle.hp_syzygy.specs.FrameLevels.{IsLevel, IsRelationOf}
use Rattle.hp_syzygy.proofs.next.relations_of.Given as goal

-- the relations so far
abbrev pub invariant-loop-p : goal.invariant-loop-p
invariant-loop-p g l = record {
  count : length l.relations.items ≡ l.p;
  each : (h : IsLevel g.F.Ring.ring g.F.Field.inverse l.level) (k : ℕ) → k < l.p
      → IsRelationOf g.F.Ring.ring g.F.Field.inverse h (get_or l.pairs k (no_term, 0)) (get_or l.relations.items k []);
}
