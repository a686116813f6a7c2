-- The exterior algebra of a lawful arrangement, its ideal and its functionals, in short.
use Rattle.std.specs.Prelude.{IsTrue}
use Rattle.hp_algebra.specs.Ring.{IsRing, IsCommutative}
use Rattle.hp_sets.specs.Sets.{Set, IsSetWithin, cmp_listed}
use Rattle.hp_sums.specs.FiniteSums.{IsSum, HasValues}
use Rattle.hp_sums.proofs.SumSetting.{SumSetting}
use Rattle.hp_sums.proofs.WeightedSums.{weighted}
use Rattle.hp_arr.specs.Flats.{is_dependent}
use Rattle.hp_arr.proofs.Setting.{Setting, n, over, set-within_word}
use Rattle.hp_exterior.specs.Exterior.{Ext}
use Rattle.hp_exterior.specs.ExteriorSetting.{ext_setting}
use Rattle.hp_exterior.proofs.Functionals.{Values}
use Rattle.hp_os.specs.OrlikSolomon.{InIdeal, IsElement, IsCongruent, IsNormalForm, IsSupportedOnNbc}

module _ {K : Type 0} (S : Setting K) where
  abbrev pub laws : IsRing S.ring
  laws = S.field.is_ring

  abbrev pub commutes : IsCommutative S.ring
  commutes = S.field.commutes

  -- the exterior algebra as sums over sets
  abbrev pub sums : SumSetting Set K
  sums = ext_setting S.field.is_ring S.field.commutes

  abbrev pub Dep : Set → Type 0
  Dep s = IsTrue (is_dependent S.ring S.numbers S.arr s)

  abbrev pub In : Ext K → Type 0
  In x = InIdeal S.ring S.numbers S.arr x

  abbrev pub Element : Ext K → Type 0
  Element x = IsElement S.ring S.numbers S.arr x

  abbrev pub Congruent : Ext K → Ext K → Type 0
  Congruent x y = IsCongruent S.ring S.numbers S.arr x y

  abbrev pub NbcOnly : Ext K → Type 0
  NbcOnly x = IsSupportedOnNbc S.ring S.numbers S.arr x

  abbrev pub Normal : Ext K → Ext K → Type 0
  Normal x r = IsNormalForm S.ring S.numbers S.arr x r

  -- a sum over sets: each set once and in order, and no coefficient zero
  abbrev pub Summed : Ext K → Type 0
  Summed x = IsSum cmp_listed S.ring x

  -- a list of terms whose coefficients are values
  abbrev pub Terms : Ext K → Type 0
  Terms x = HasValues S.ring x

  -- a function on sets with values in the field
  abbrev pub Fn : (Set → K) → Type 0
  Fn g = Values S.ring g

  -- its value at a list of terms
  abbrev pub W : (Set → K) → Ext K → K
  W g x = weighted S.ring g x

  -- a set of hyperplanes is one of numbers from 1 to 64
  pub wide : (s : Set) → IsSetWithin (n S) s → IsSetWithin 64 s
  wide s h = set-within_word S s h
