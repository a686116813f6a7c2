-- The value of an expression over the hyperplanes of an arrangement is an element on their generators.
use Rattle.std.proofs.Common.{ℕ, ◌≤◌, Bool, true, false, if◌then◌else◌, List, [], ◌∷◌, All, pos, arith}
use Rattle.std.proofs.lemmas.List.Elements.{All-head, All-tail, All-weaker}
use Rattle.hp_arr.proofs.Setting.{Setting, n}
use Rattle.hp_sets.proofs.SetLaws.{single-set, empty-set}
use Rattle.hp_exterior.specs.Exterior.{generator}
use Rattle.hp_os.proofs.ElementLaws.{element-nothing, element-monomial, element-plus, element-wedge, element-multiple}
use Rattle.hp_os.proofs.IdealSetting.{Element, laws}
use Rattle.hp_script.specs.declared.command.Product.{Product}
use Rattle.hp_session.specs.Expressions.{AreIndices, HaveIndices, number_product, generator_product, product_coefficient, product_value, expression_value}
use Rattle.hp_session.proofs.ExpressionValues.{integer-value}

module _ {K : Type 0} (S : Setting K) where
  open S use {ring, arr}

  abbrev Index : ℕ → Type 0
  Index i = (1 ≤ i) × (i ≤ n S)

  abbrev Indices : Product → Type 0
  Indices p = All Index p.generators

  number-value : (ns : List ℕ) → ring.IsValue (number_product ring ns)
  number-value [] = (laws S).one_value
  number-value (m ∷ ns) = (laws S).mul_value _ _ (integer-value (laws S) (pos m)) (number-value ns)

  coefficient-value : (p : Product) → ring.IsValue (product_coefficient ring p)
  coefficient-value p = pick p.negative
    where
      pick : (b : Bool) → ring.IsValue (if b then ring.neg (number_product ring p.numbers) else number_product ring p.numbers)
      pick true = (laws S).neg_value _ (number-value p.numbers)
      pick false = number-value p.numbers

  element-generators : (is : List ℕ) → All Index is → Element S (generator_product ring is)
  element-generators [] h = element-monomial S ring.one [] (laws S).one_value (empty-set (n S))
  element-generators (i ∷ is) h =
      let first = All-head Index i is h in
      element-wedge S (generator ring i) _ (element-monomial S ring.one (i ∷ []) (laws S).one_value (single-set (n S) i first.0 first.1))
      (element-generators is (All-tail Index i is h))

  pub element-expression : (ps : List Product) → All Indices ps → Element S (expression_value ring ps)
  element-expression [] h = element-nothing S
  element-expression (p ∷ ps) h =
      element-plus S (product_value ring p) _
      (element-multiple S (product_coefficient ring p) _ (coefficient-value p) (element-generators p.generators (All-head Indices p ps h)))
      (element-expression ps (All-tail Indices p ps h))

  -- they are numbers from 1 to 64
  pub have_indices : n S ≤ 64 → (ps : List Product) → All Indices ps → HaveIndices ps
  have_indices few ps h =
      All-weaker Indices (λ p. AreIndices p.generators)
      (λ p hp. All-weaker Index (λ i. (1 ≤ i) × (i ≤ 64)) (λ i hi. (hi.0, at_most i hi.1)) p.generators hp) ps h
    where
      at_most : (i : ℕ) → i ≤ n S → i ≤ 64
      at_most i l = omega (arith, l, few)
