use Rattle.hp_flats.specs.Covers.{IsCover, IsCoverList}
use Rattle.hp_flats.specs.Levels.{AreOfRank}
use Rattle.std.proofs.Common.{◌≡◌, ℕ, ◌+◌, ◌<◌, ◌≤◌, ◌++◌, List, map, take, get_or, length, All, Contains}
use Rattle.std.specs.BTreeMap.{keys}
use Rattle.hp_sets.specs.Sets.{Set}
use Rattle.hp_flats.specs.declared.levels.Covered.{Covered}
use Rattle.hp_flats.proofs.levels.next_level.Given as goal

abbrev pub invariant-loop-entry : goal.invariant-loop-entry
invariant-loop-entry g l =
    let ring = g.K.Ring.ring in
    let numbers = g.K.FiniteField.numbers in
    record {
      are : AreOfRank ring numbers l.aff (l.rank + 1) l.next.entries;
      few : length l.next.entries ≤ l.room;
      found : (k : ℕ) (d : Set × List (List g.row.K.Denot)) → k < l.entry-index → (f : Set) → IsCover ring numbers l.aff (get_or l.level k d).0 f → Contains (keys l.next) f;
      flats : map (λ (c : Covered). c.flat) l.listed.items ≡ map (λ (c : Covered). c.flat) l.fn.listed.items ++ map (λ (e : Set × List (List g.row.K.Denot)). record { rank = l.rank; set = e.0 }) (take l.entry-index l.level);
      lists : All (λ (c : Covered). IsCoverList ring numbers l.aff c.flat.set c.covers) l.listed.items;
    }
