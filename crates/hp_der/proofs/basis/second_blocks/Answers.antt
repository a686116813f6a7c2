use Rattle.std.proofs.Common.{◌≡◌, ◌∙◌, ◌<◌, [], get_or, length, sym, ap, arith}
use Rattle.std.proofs.lemmas.List.{get_or_default}
use Rattle.hp_der.specs.DerivationModules.{has_zero_block}
use Rattle.hp_der.proofs.BlockSteps.{no-block, one-block}
use Rattle.hp_der.proofs.basis.second_blocks.Goals as goal
use Rattle.hp_der.proofs.basis.second_blocks.Goals.{then-has_zero_block+in_ok-rest_of+in_ok-push, else-has_zero_block}

pub loop-k-preserved : goal.loop-k-preserved
loop-k-preserved g c =
    let xs = c.args.vectors.now in
    let n = c.args.n in
    let k = c.loop-k.k in
    let x = c.index-vectors-k.result in
    let l : k < length xs = omega (arith, c.loop-k-test.true, c.loop-k.auto.k-end) in
    let at : x ≡ get_or xs k [] = c.index-vectors-k.is ∙ get_or_default xs k x [] l in
    let test = c.has_zero_block.ensures ∙ ap (has_zero_block n) at in
    elim c.if-has_zero_block.branch [
      | then-has_zero_block+in_ok-rest_of+in_ok-push w ↦
          one-block n xs k l c.loop-k.blocks.items c.if-has_zero_block.blocks.items _ c.loop-k.invariant (sym w.if-has_zero_block.true ∙ test)
          (w.in_ok-rest_of.ensures ∙ ap (λ v. Rattle.std.specs.Prelude.drop n v) at) (ap (λ v. v.items) w.blocks-is ∙ w.in_ok-push.ensures.items)
      | else-has_zero_block w ↦
          ap (λ v. v.items) w.blocks-is ∙ no-block n xs k l c.loop-k.blocks.items c.loop-k.invariant (sym w.if-has_zero_block.false ∙ test)
    ]
