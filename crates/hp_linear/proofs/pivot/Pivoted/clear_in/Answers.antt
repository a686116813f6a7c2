use Rattle.std.proofs.Common.{◌≡◌, get_or, sym, ap, ◌∙◌}
use Rattle.std.proofs.lemmas.List.{get_or_default}
use Rattle.hp_algebra.specs.Rows.{entry}
use Rattle.hp_linear.specs.Echelon.{PivotRow}
use Rattle.hp_linear.proofs.Reduction.{cleared-same}
use Rattle.hp_linear.proofs.pivot.Pivoted.clear_in.Goals as goal

pub returns-else-not-is_nil : goal.returns-else-not-is_nil
returns-else-not-is_nil g c =
    let laws = g.met.F.Ring.ring_laws in
    let ring = g.F.Ring.ring in
    let p = c.args.self.now in
    let row = c.args.row.now in
    let x = c.index-row-self.result in
    let column : c.self.inside.column ≡ p.column = ap (λ (q : PivotRow g.row.F.Denot). q.column) c.self.view_is in
    let read : x ≡ entry ring row p.column =
    c.index-row-self.is ∙ ap (λ j. get_or row j x) column ∙ get_or_default row p.column x ring.zero c.requires.inside in
    let none : c.negate-c.result ≡ ring.zero = (laws.zero_test _ c.is_nil.ensures.of).0 (sym c.is_nil.ensures.value ∙ c.if-not-is_nil.false) in
    sym (cleared-same laws p row c.requires.widths c.requires.values c.requires.pivot (ap ring.neg (sym read) ∙ sym c.negate-c.ensures.value ∙ none))
