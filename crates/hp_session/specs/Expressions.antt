-- The value of an expression: an element of the exterior algebra on the hyperplanes.
use Rattle.std.specs.Prelude.{ℕ, ◌≤◌, if◌then◌else◌, List, [], ◌∷◌, map, All, pos}
use Rattle.hp_algebra.specs.Ring.{RingOf, integer}
use Rattle.hp_exterior.specs.Exterior.{Ext, generator, monomial, wedge}
use Rattle.hp_os.specs.OrlikSolomon.{ext_sum, multiple}
use Rattle.hp_script.specs.declared.command.Product.{Product}

-- numbers from 1 to 64
abbrev pub AreIndices : List ℕ → Type 0
AreIndices generators = All (λ i. (1 ≤ i) × (i ≤ 64)) generators

abbrev pub HaveIndices : List Product → Type 0
HaveIndices products = All (λ p. AreIndices p.generators) products

module _ {K : Type 0} (ring : RingOf K) where
  -- the product of numbers, each taken into the field
  abbrev pub number_product : List ℕ → K
  number_product [] = ring.one
  number_product (n ∷ ns) = ring.mul (integer ring (pos n)) (number_product ns)

  -- the wedge product of the generators of these indices, in this order
  abbrev pub generator_product : List ℕ → Ext K
  generator_product [] = monomial ring ring.one []
  generator_product (i ∷ rest) = wedge ring (generator ring i) (generator_product rest)

  -- the coefficient of a product: the product of its numbers, negated after a minus sign
  abbrev pub product_coefficient : Product → K
  product_coefficient p = if p.negative then ring.neg (number_product p.numbers) else number_product p.numbers

  -- the value of a product: its coefficient times the wedge product of its generators
  abbrev pub product_value : Product → Ext K
  product_value p = multiple ring (product_coefficient p) (generator_product p.generators)

  -- the value of an expression: the sum of its products
  abbrev pub expression_value : List Product → Ext K
  expression_value products = ext_sum ring (map product_value products)
