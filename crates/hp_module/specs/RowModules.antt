-- The rows over a ring, of each width, are a left module over it; the vectors of polynomials are one.
use Rattle.std.specs.Prelude.{◌≡◌, ℕ, ◌+◌, ◌≤◌, max, zero, suc, List, [], ◌∷◌, length, All}
use Rattle.std.proofs.lemmas.List.Elements.{All-head, All-tail}
use mathlib.Core.Path.{refl, sym, ◌∙◌}
use native.Mathlib.Omega.{arith}
use Rattle.hp_algebra.specs.Ring.{RingOf, IsRing, IsWeighted, greatest_weight_of}
use Rattle.hp_algebra.specs.Rows.{zero_row, row_plus, row_scale}
use Rattle.hp_algebra.specs.Modules.{ModuleOf, IsModule, AreWeighted}
use Rattle.hp_algebra.proofs.Rows.{
  length-plus,
  length-scale,
  plus-assoc,
  plus-comm,
  plus-scale,
  plus-values,
  plus-zeros,
  scale-one,
  scale-plus,
  scale-scale,
  scale-values,
  scale-zero,
  zeros-row,
}

-- the weight of a row is the greatest of its entries
abbrev pub row_module : {R : Type 0} → RingOf R → ModuleOf R (List R)
row_module ring = record {
  IsValue = All ring.IsValue;
  width = length;
  zero = zero_row ring;
  add = row_plus ring;
  scale = row_scale ring;
  weight = greatest_weight_of ring;
}

module _ {R : Type 0} {ring : RingOf R} (laws : IsRing ring) where
  pub rows_are_module : IsModule ring (row_module ring)
  rows_are_module = record {
    zero_value = λ n. (zeros-row laws n).1;
    add_value = λ x y f g e. plus-values laws x y f g;
    scale_value = λ c x v f. scale-values laws c x v f;
    width_zero = λ n. (zeros-row laws n).0;
    width_add = λ x y f g e. length-plus ring x y e;
    width_scale = λ c x v f. length-scale ring c x;
    add_assoc = λ x y z f g h d e. plus-assoc laws (length x) x y z (refl, f) (sym d, g) (sym (d ∙ e), h);
    add_comm = λ x y f g e. plus-comm laws (length x) x y (refl, f) (sym e, g);
    add_zero = λ x f. plus-zeros laws (length x) x (refl, f);
    zero_scale = λ x f. scale-zero laws (length x) x (refl, f);
    one_scale = λ x f. scale-one laws (length x) x (refl, f);
    mul_scale = λ c d x v w f. sym (scale-scale laws (length x) c d x v w (refl, f));
    scale_add = λ c x y v f g e. scale-plus laws (length x) c x y v (refl, f) (sym e, g);
    add_scale = λ c d x v w f. plus-scale laws (length x) c d x v w (refl, f);
  }

  module _ (weights : IsWeighted ring) where
    weight_zeros : (width : ℕ) → greatest_weight_of ring (zero_row ring width) ≡ 0
    weight_zeros zero = refl
    weight_zeros (suc n) = omega (arith, weights.of_zero, weight_zeros n)

    weight_plus : (x y : List R) → All ring.IsValue x → All ring.IsValue y
        → greatest_weight_of ring (row_plus ring x y) ≤ max (greatest_weight_of ring x) (greatest_weight_of ring y)
    weight_plus [] y f g = omega arith
    weight_plus (a ∷ x) [] f g = omega arith
    weight_plus (a ∷ x) (b ∷ y) f g =
        let first = weights.of_sum a b (All-head ring.IsValue a x f) (All-head ring.IsValue b y g) in
        let rest = weight_plus x y (All-tail ring.IsValue a x f) (All-tail ring.IsValue b y g) in
        omega (arith, first, rest)

    weight_scale : (c : R) (x : List R) → ring.IsValue c → All ring.IsValue x
        → greatest_weight_of ring (row_scale ring c x) ≤ ring.weight c + greatest_weight_of ring x
    weight_scale c [] v f = omega arith
    weight_scale c (a ∷ x) v f =
        let first = weights.of_product c a v (All-head ring.IsValue a x f) in
        let rest = weight_scale c x v (All-tail ring.IsValue a x f) in
        omega (arith, first, rest)

    pub rows_are_weighted : AreWeighted ring (row_module ring)
    rows_are_weighted = record {
      of_none = weight_zeros;
      of_total = λ x y f g e. weight_plus x y f g;
      of_multiple = λ c x v f. weight_scale c x v f;
    }
