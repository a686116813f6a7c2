-- What the laws of cuts, flats and ranks assume: linear forms over a field whose elements are numbered, none of them zero.
use Rattle.std.specs.Prelude.{All, IsFalse}
use Rattle.hp_algebra.specs.Ring.{RingOf, Numbering, IsField, IsNumbering}
use Rattle.hp_algebra.specs.Rows.{IsRow, is_zero_row}
use Rattle.hp_algebra.proofs.Finite.{Finite}
use Rattle.hp_arr.specs.Arrangement.{Arrangement, IsArrangement}

-- The forms are rows of the dimension and not zero. Those of a central arrangement are, and so are those of the cone over any.
pub record AreForms {K : Type 0} (ring : RingOf K) (arr : Arrangement K) : Type 0 where
  pub rows : All (IsRow ring arr.dim) arr.forms
  pub no_zero : All (λ a. IsFalse (is_zero_row ring a)) arr.forms

pub forms_of : {K : Type 0} {ring : RingOf K} {numbers : Numbering K} {arr : Arrangement K} → IsArrangement ring numbers arr → AreForms ring arr
forms_of lawful = record { rows = lawful.rows; no_zero = lawful.no_zero }

pub record IsOverField {K : Type 0} (ring : RingOf K) (inverse : K → K) (numbers : Numbering K) (arr : Arrangement K) : Type 0 where
  pub field : IsField ring inverse
  pub numbering : IsNumbering ring numbers
  pub forms : AreForms ring arr

-- the field alone
abbrev pub field_of : {K : Type 0} {ring : RingOf K} {inverse : K → K} {numbers : Numbering K} {arr : Arrangement K}
    → IsOverField ring inverse numbers arr → Finite K
field_of {ring = ring} {inverse = inverse} {numbers = numbers} over =
    record { ring = ring; inverse = inverse; numbers = numbers; field = over.field; num = over.numbering }
