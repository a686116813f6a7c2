use Rattle.std.proofs.Common.{◌≡◌, ◌<◌, ◌∙◌, [], get_or, length, ap, sym, arith, inl, inr}
use Rattle.hp_sums.proofs.Merges.{no_items}
use Rattle.hp_minres.proofs.RangeSums.{three_ways}
use Rattle.hp_minres.proofs.LoopLists.{entry_read}
use Rattle.hp_minres.proofs.reduce.unit_row.Goals as goal
use Rattle.hp_minres.proofs.reduce.unit_row.Goals.{else-degrees-r-via-then-degrees-r+else-len-gt0, else-degrees-r-via-else-degrees-r}

pub loop-r-preserved : goal.loop-r-preserved
loop-r-preserved g c i l e =
    let r = c.loop-r.r in
    let rows = c.args.rows.now in
    let lr : r < length rows = omega (arith, c.loop-r-test.true) in
    elim (three_ways i r) [
      | inl a ↦ c.loop-r.invariant i a e
      | inr d ↦
          let same : i ≡ r = elim d [ inl q ↦ q | inr b ↦ absurd (omega (arith, b, l)) ] in
          elim c.else-degrees-r.branch [
            | else-degrees-r-via-then-degrees-r+else-len-gt0 w ↦
                let x = w.index-as_slice-c.result in
                let none : x ≡ [] = no_items x (omega (arith, w.if-len-gt0.false, w.len.ensures)) in
                ap (λ t. get_or (get_or rows t []) c.args.c []) same
                ∙ entry_read rows r c.args.c w.index-rows-r.result w.as_slice.result.now x [] lr w.index-rows-r.is w.as_slice.ensures
                (c.requires.widths r w.index-rows-r.result lr) w.index-as_slice-c.is ∙ none
            | else-degrees-r-via-else-degrees-r w ↦ absurd (w.if-degrees-r.false (ap (λ t. get_or c.args.degrees.now t 0) (sym same) ∙ e))
          ]
    ]
