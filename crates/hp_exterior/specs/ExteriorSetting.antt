-- Elements of the exterior algebra as sums over the sets in the order in which they are listed.
use Rattle.hp_algebra.specs.Ring.{RingOf, IsRing, IsCommutative}
use Rattle.hp_sets.specs.Sets.{Set, cmp_listed}
use Rattle.hp_sets.specs.ListedOrder.{cmp_listed_total, cmp_listed_same}
use Rattle.hp_sums.specs.Bases.{IsBasisOrder}
use Rattle.hp_sums.proofs.SumSetting.{SumSetting}

abbrev pub ext_setting : {F : Type 0} {ring : RingOf F} → IsRing ring → IsCommutative ring → SumSetting Set F
ext_setting {F} {ring} laws commutes = record {
  order = cmp_listed;
  ring = ring;
  ordered = cmp_listed_total;
  same = cmp_listed_same;
  laws = laws;
  commutes = commutes;
}

pub cmp_listed_basis : IsBasisOrder cmp_listed
cmp_listed_basis = record { total = cmp_listed_total; same = cmp_listed_same }
