use Rattle.hp_flats.specs.Covers.{IsCoverList}
use Rattle.hp_flats.specs.Levels.{IsLevel, flats_below}
use Rattle.std.proofs.Common.{◌≡◌, ◌+◌, ◌≤◌, map, length, All}
use Rattle.hp_flats.specs.Bounds.{most_flats}
use Rattle.hp_flats.specs.declared.levels.Covered.{Covered}
use Rattle.hp_flats.proofs.levels.flats_with_covers.Given as goal

abbrev pub invariant-loop-rank : goal.invariant-loop-rank
invariant-loop-rank g l =
    let ring = g.K.Ring.ring in
    let numbers = g.K.FiniteField.numbers in
    record {
      is_level : IsLevel ring numbers l.aff l.rank l.level.items;
      few : length l.listed.items + length l.level.items ≤ most_flats;
      flats : map (λ (c : Covered). c.flat) l.listed.items ≡ flats_below ring numbers l.aff l.rank;
      covers : All (λ (c : Covered). IsCoverList ring numbers l.aff c.flat.set c.covers) l.listed.items;
    }
