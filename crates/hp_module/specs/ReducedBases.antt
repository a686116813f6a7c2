-- Reduced Gröbner bases as values: a split, a width and the members.
use Rattle.std.specs.Prelude.{ℕ, List, All}
use Rattle.hp_algebra.specs.Ring.{RingOf}
use Rattle.hp_module.specs.Vectors.{Vector, IsVector, IsGenerated, IsHomogeneousVector}
use Rattle.hp_module.specs.Leads.{IsReducedBasis}
use Rattle.hp_module.specs.ElimOrders.{elimination_order}

-- Vectors of a width, and the split of an elimination order.
pub record Basis (F : Type 0) : Type 0 where
  pub split : ℕ
  pub width : ℕ
  pub members : List (Vector F)

-- The members are homogeneous, with all shifts 0, and are the reduced Gröbner basis, in the elimination order, of the
-- submodule that they generate.
pub record IsBasis {F : Type 0} (ring : RingOf F) (b : Basis F) : Type 0 where
  pub vectors : All (IsVector ring b.width) b.members
  pub homogeneous : All (λ v. (d : ℕ) × IsHomogeneousVector ring d v) b.members
  pub reduced : IsReducedBasis ring (elimination_order b.split) (IsGenerated ring b.width b.members) b.members
