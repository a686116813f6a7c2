-- An exact list of maps is a complex.
use Rattle.std.proofs.Common.{◌≡◌, ℕ, suc, ◌<◌, List, length, All, subst}
use Rattle.std.proofs.lemmas.List.Elements.{Contains-get_or}
use Rattle.hp_algebra.specs.Ring.{RingOf, IsRing}
use Rattle.hp_algebra.specs.Rows.{IsRow}
use Rattle.hp_linear.specs.Matrices.{Matrix, IsMatrix}
use Rattle.hp_linear.proofs.Combinations.{span-member}
use Rattle.hp_complex.specs.Complexes.{map_at, AreMaps, IsZeroProduct, IsComplex, IsExactAt, IsExact}

module _ {R : Type 0} {ring : RingOf R} (laws : IsRing ring) where
  pub map-matrix : (maps : List (Matrix R)) → AreMaps ring maps → (k : ℕ) → k < length maps
      → IsMatrix ring (map_at maps k)
  map-matrix maps are k l = are.matrices k _ l

  -- where the product is exact it is zero: each row of n is a combination of the rows of n
  pub exact-zero : (n m : Matrix R) → IsMatrix ring n → n.cols ≡ length m.rows → IsExactAt ring n m
      → IsZeroProduct ring n m
  exact-zero n m is e exact k d l =
      let rows : All (IsRow ring (length m.rows)) n.rows = subst (λ width. All (IsRow ring width) n.rows) e is in
      ((exact _).1 (span-member laws (length m.rows) n.rows _ rows (Contains-get_or n.rows k d l))).1

  pub exact-complex : (maps : List (Matrix R)) → AreMaps ring maps → IsExact ring maps → IsComplex ring maps
  exact-complex maps are exact k l =
      exact-zero _ _ (map-matrix maps are (suc k) l) (are.composable k l) (exact.inside k l)
