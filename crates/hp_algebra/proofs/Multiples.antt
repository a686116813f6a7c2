-- The test whether a row is a multiple of another finds every factor.
use Rattle.std.proofs.Common.{◌≡◌, ◌↔◌, true, List, All}
use Rattle.hp_algebra.specs.Rows.{IsMultiple, row_scale, same_row, is_multiple}
use Rattle.hp_algebra.proofs.Finite.{Finite}
use Rattle.hp_algebra.proofs.Elements.{elements-any}
use Rattle.hp_algebra.proofs.Rows.{scale-values}
use Rattle.hp_algebra.proofs.RowDifferences.{same_row-exact}

module _ {K : Type 0} (F : Finite K) where
  open F use {ring, numbers, field}

  pub is_multiple-exact : (a b : List K) → All ring.IsValue a → All ring.IsValue b
      → (is_multiple ring numbers a b ≡ true) ↔ IsMultiple ring a b
  unfolding is_multiple
  is_multiple-exact a b v w =
      let any = elements-any F (λ c. same_row ring a (row_scale ring c b)) in
      let test : (c : K) → ring.IsValue c → (same_row ring a (row_scale ring c b) ≡ true) ↔ (a ≡ row_scale ring c b) =
      λ c vc. same_row-exact field.is_ring a (row_scale ring c b) v (scale-values field.is_ring c b vc w) in (
        λ t. (let found = any.0 t in (found.0, found.1, (test found.0 found.1).0 found.2)),
        λ m. any.1 (m.0, m.1, (test m.0 m.1).1 m.2),
      )
