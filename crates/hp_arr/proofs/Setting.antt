-- A central arrangement over a finite field, with all laws in one record.
use Rattle.std.specs.Prelude.{ℕ, List, length}
use Rattle.hp_algebra.specs.Ring.{RingOf, Numbering, IsField, IsNumbering}
use Rattle.hp_algebra.proofs.Finite.{Finite}
use Rattle.hp_sets.specs.Sets.{Set, IsSetWithin}
use Rattle.hp_sets.proofs.SetLaws.{set-wider}
use Rattle.hp_arr.specs.Arrangement.{Arrangement, IsArrangement}
use Rattle.hp_arr.specs.Flats.{cut, closure, rank}
use Rattle.hp_arr.proofs.OverField.{IsOverField, forms_of}

pub record Setting (K : Type 0) : Type 1 where
  pub ring : RingOf K
  pub inverse : K → K
  pub numbers : Numbering K
  pub arr : Arrangement K
  pub field : IsField ring inverse
  pub num : IsNumbering ring numbers
  pub lawful : IsArrangement ring numbers arr

-- the record of the laws, from where a function's bounds and an arrangement give them
module _ {K : Type 0} {ring : RingOf K} {inverse : K → K} {numbers : Numbering K} {arr : Arrangement K} where
  abbrev pub setting : IsField ring inverse → IsNumbering ring numbers → IsArrangement ring numbers arr → Setting K
  setting field num lawful =
      record { ring = ring; inverse = inverse; numbers = numbers; arr = arr; field = field; num = num; lawful = lawful }

module _ {K : Type 0} (S : Setting K) where
  -- the same facts in one record, and the field alone
  abbrev pub over : IsOverField S.ring S.inverse S.numbers S.arr
  over = record { field = S.field; numbering = S.num; forms = forms_of S.lawful }

  abbrev pub finite : Finite K
  finite = record { ring = S.ring; inverse = S.inverse; numbers = S.numbers; field = S.field; num = S.num }

  -- the number of hyperplanes
  abbrev pub n : ℕ
  n = length S.arr.forms

  -- every set of hyperplanes is one of numbers up to 64
  pub set-within_word : (s : Set) → IsSetWithin (length S.arr.forms) s → IsSetWithin 64 s
  set-within_word s h = set-wider (length S.arr.forms) 64 s S.lawful.few_forms h

  -- the common points of a set, its closure and its rank
  abbrev pub cut_of : Set → List (List K)
  cut_of s = cut S.ring S.numbers S.arr s

  abbrev pub cl : Set → Set
  cl s = closure S.ring S.numbers S.arr s

  abbrev pub rk : Set → ℕ
  rk s = rank S.ring S.numbers S.arr s
