use Rattle.std.proofs.Common.{◌≡◌, ◌⊎◌, sym, ◌∙◌, inl, inr}
use Rattle.hp_complex.proofs.MatrixProducts.{add-nothing}
use Rattle.hp_complex.proofs.sums.plus_product.Goals as goal
use Rattle.hp_complex.proofs.sums.plus_product.Goals.{then-c_is_zero-via-then-c_is_zero, then-c_is_zero-via-else-c_is_zero+then-x_is_zero}

pub returns-then-c_is_zero-clause-value : goal.returns-then-c_is_zero-clause-value
returns-then-c_is_zero-clause-value g c =
    let ring = g.R.Ring.ring in
    let laws = g.met.R.Ring.ring_laws in
    let left = c.is_zero-c_is_zero in
    let right = c.is_zero-x_is_zero in
    let factor : (c.args.c.now ≡ ring.zero) ⊎ (c.args.x.now ≡ ring.zero) =
    elim c.then-c_is_zero.branch [
      | then-c_is_zero-via-then-c_is_zero w ↦ inl ((laws.zero_test _ left.ensures.of).0 (sym left.ensures.value ∙ w.if-c_is_zero.true))
      | then-c_is_zero-via-else-c_is_zero+then-x_is_zero w ↦ inr ((laws.zero_test _ right.ensures.of).0 (sym right.ensures.value ∙ w.if-x_is_zero.true))
    ] in
    add-nothing laws c.args.c.now c.args.x.now c.args.sum left.ensures.of right.ensures.of c.requires.sum factor
