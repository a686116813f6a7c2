use Rattle.std.proofs.Common.{All, IsFalse}
use Rattle.hp_algebra.specs.Rows.{IsRow, is_zero_row}
use Rattle.hp_matroid.proofs.RisingLists.{above}
use Rattle.hp_arr.specs.Arrangement.{IsArrangement}
use Rattle.hp_arr.proofs.Setting.{setting}
use Rattle.hp_circuits.proofs.NbcRows.{IsNbcWith}
use Rattle.hp_circuits.proofs.nbc_sets.is_nbc.Given as goal

-- the members above m make a set without broken circuit, and the rows are remainders modulo its forms
abbrev pub invariant-loop-m : goal.invariant-loop-m
invariant-loop-m g l =
    let ring = g.K.Ring.ring in
    record {
      walked : (lawful : IsArrangement ring g.K.FiniteField.numbers l.arr)
          → IsNbcWith (setting g.met.K.Field.field_laws g.met.K.FiniteField.numbering lawful) (above l.m l.s) l.m l.rows.items;
      rows : All (IsRow ring l.arr.dim) l.rows.items;
      nonzero : All (λ row. IsFalse (is_zero_row ring row)) l.rows.items;
    }
