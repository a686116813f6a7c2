use Rattle.std.proofs.Common.{◌+◌, ◌≤◌, length, Contains}
use Rattle.std.specs.BTreeMap.{keys}
use Rattle.hp_arr.specs.Arrangement.{IsAffineArrangement}
use Rattle.hp_arr.specs.Flats.{rank, IsFlat}
use Rattle.hp_sets.specs.Sets.{Set, IsSetWithin}
use Rattle.hp_flats.specs.Levels.{AreOfRank}
use Rattle.hp_flats.proofs.CoverSteps.{IsCovering}
use Rattle.hp_arr.proofs.ConePoints.{affine_setting}
use Rattle.hp_flats.proofs.covers.covers_of.Given as goal

abbrev pub invariant-loop-i : goal.invariant-loop-i
invariant-loop-i g l =
    let ring = g.K.Ring.ring in
    let numbers = g.K.FiniteField.numbers in
    record {
      covering : (lawful : IsAffineArrangement ring numbers l.aff) (is : IsFlat ring numbers l.aff l.fn.set)
          → IsCovering (affine_setting g.met.K.Field.field_laws g.met.K.FiniteField.numbering lawful) l.fn.set is l.covered l.covers.items l.i;
      within : IsSetWithin (length l.aff.forms) l.covered;
      are : AreOfRank ring numbers l.aff (rank ring numbers l.aff l.fn.set + 1) l.next.entries;
      few : length l.next.entries ≤ l.fn.room;
      keeps : (f : Set) → Contains (keys l.fn.next) f → Contains (keys l.next) f;
      has : (f : Set) → Contains l.covers.items f → Contains (keys l.next) f;
    }
