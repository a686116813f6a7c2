use Rattle.std.proofs.Common.{◌≡◌, ◌⊎◌, ◌<◌, ◌≤◌, ◌+◌, ℕ, refl, inl, inr, sym, ◌∙◌, subst, arith}
use Rattle.std.proofs.lemmas.Bool.{false≢true, cases_lt}
use Rattle.hp_complex.proofs.MatrixProducts.{column_sum, product-zero, zero-product}
use Rattle.hp_complex.proofs.matrix.Mat.sends_to_zero.Goals as goal

pub returns-then-not-is_zero : goal.returns-then-not-is_zero
returns-then-not-is_zero g c =
    let ring = g.R.Ring.ring in
    let laws = g.met.R.Ring.ring_laws in
    let m = c.args.self.now in
    let inside : c.loop-j.j < m.cols = omega (arith, c.loop-j-test.true, c.cols-j-end.ensures.value) in (
      λ t. absurd (false≢true t),
      λ e.
          let zero = c.in_ok-product_entry.ensures.value ∙ zero-product laws m c.args.c.now c.cols-j-end.ensures.matrix c.greatest_weight-weight.ensures.values e c.loop-j.j inside in
          sym c.if-not-is_zero.true ∙ c.is_zero.ensures.value ∙ (laws.zero_test _ c.is_zero.ensures.of).1 zero,
    )

pub loop-j-preserved : goal.loop-j-preserved
loop-j-preserved g c = λ h l. step h l (cases_lt h c.loop-j.j)
  where
    step : (h : ℕ) → h < c.loop-j.j + 1 → (h < c.loop-j.j) ⊎ (c.loop-j.j ≤ h)
        → column_sum g.R.Ring.ring c.args.c.now c.args.self.now.rows h 0 ≡ g.R.Ring.ring.zero
    step h l (inl b) = c.loop-j.invariant h b
    step h l (inr b) =
        let same : c.loop-j.j ≡ h = omega arith in
        subst (λ i. column_sum g.R.Ring.ring c.args.c.now c.args.self.now.rows i 0 ≡ g.R.Ring.ring.zero) same
        (sym c.in_ok-product_entry.ensures.value ∙ (g.met.R.Ring.ring_laws.zero_test _ c.is_zero.ensures.of).0 (sym c.is_zero.ensures.value ∙ c.if-not-is_zero.false))

pub returns : goal.returns
returns g c =
    let laws = g.met.R.Ring.ring_laws in
    let m = c.args.self.now in (
      λ t. product-zero laws m c.args.c.now c.cols-j-end.ensures.matrix c.greatest_weight-weight.ensures.values (λ j l. c.loop-j.invariant j (omega (arith, l, c.loop-j-test.false, c.loop-j.auto.j-end, c.cols-j-end.ensures.value))),
      λ e. refl,
    )
