use Rattle.std.proofs.Common.{◌≡◌, ◌+◌, ◌-◌, map, take, get_or, true, sym, ap, ◌∙◌, arith}
use Rattle.std.proofs.lemmas.List.{length-map}
use Rattle.hp_algebra.specs.Rows.{is_zero_row}
use Rattle.hp_arr.specs.FormFaults.{row}
use Rattle.hp_arr.proofs.FaultFacts.{zero_fault-first, zero_fault-none, row_read}
use Rattle.hp_arr.proofs.AffineFaultless.{row-take}
use Rattle.hp_arr.proofs.row_faults.find_constant.Goals as goal

pub returns-then-is_constant-clause-fault : goal.returns-then-is_constant-clause-fault
returns-then-is_constant-clause-fault g c =
    let ring = g.K.Ring.ring in
    let rows = c.args.rows.now in
    let l = c.args.l in
    let i = c.loop-k.k + 1 in
    let at : i - 1 ≡ c.loop-k.k = omega arith in
    let shown : c.as_slice.result.now ≡ row rows i = row_read rows i c.index-rows-k.result c.as_slice.result.now (omega arith) (omega arith) (c.index-rows-k.is ∙ ap (λ n. get_or rows n c.index-rows-k.result) (sym at)) c.as_slice.ensures in
    let zero : is_zero_row ring (row (map (take l) rows) i) ≡ true =
    ap (is_zero_row ring) (row-take ring l rows i (omega arith) (omega arith) ∙ ap (take l) (sym shown)) ∙ sym c.if-is_constant.ensures.zero in
    sym (zero_fault-first ring (map (take l) rows) i (omega arith) (let e = length-map rows (take l) in omega (arith, e)) zero
    (λ h low high. ap (is_zero_row ring) (row-take ring l rows h low (omega arith)) ∙ c.loop-k.invariant.nonzero h low (omega arith)))

pub returns-clause-fault : goal.returns-clause-fault
returns-clause-fault g c =
    let ring = g.K.Ring.ring in
    let rows = c.args.rows.now in
    let l = c.args.l in
    let e = length-map rows (take l) in
    sym (zero_fault-none ring (map (take l) rows)
    (λ h low high. ap (is_zero_row ring) (row-take ring l rows h low (omega (arith, e, high))) ∙ c.loop-k.invariant.nonzero h low (omega (arith, e, high))))
