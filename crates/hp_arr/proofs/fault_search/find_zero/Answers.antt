use Rattle.std.proofs.Common.{◌≡◌, ◌+◌, ◌-◌, get_or, true, sym, ap, ◌∙◌, arith}
use Rattle.hp_algebra.specs.Rows.{is_zero_row}
use Rattle.hp_arr.specs.FormFaults.{row}
use Rattle.hp_arr.proofs.FaultFacts.{zero_fault-first, zero_fault-none, row_read}
use Rattle.hp_arr.proofs.fault_search.find_zero.Goals as goal

pub returns-then-is_zero-clause-fault : goal.returns-then-is_zero-clause-fault
returns-then-is_zero-clause-fault g c =
    let ring = g.K.Ring.ring in
    let forms = c.args.forms.now in
    let i = c.loop-k.k + 1 in
    let at : i - 1 ≡ c.loop-k.k = omega arith in
    let shown : c.as_slice.result.now ≡ row forms i = row_read forms i c.index-forms-k.result c.as_slice.result.now (omega arith) (omega arith) (c.index-forms-k.is ∙ ap (λ n. get_or forms n c.index-forms-k.result) (sym at)) c.as_slice.ensures in
    let zero : is_zero_row ring (row forms i) ≡ true = ap (is_zero_row ring) (sym shown) ∙ sym c.if-is_zero.ensures.zero in
    sym (zero_fault-first ring forms i (omega arith) (omega arith) zero (λ h low high. c.loop-k.invariant.nonzero h low (omega arith)))

pub returns-clause-fault : goal.returns-clause-fault
returns-clause-fault g c =
    sym (zero_fault-none g.K.Ring.ring c.args.forms.now (λ h low high. c.loop-k.invariant.nonzero h low (omega arith)))
