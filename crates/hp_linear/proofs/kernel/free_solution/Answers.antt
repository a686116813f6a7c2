use Rattle.std.proofs.Common.{◌≡◌, ◌+◌, ◌<◌, List, length, Contains, get_or, sym, ap, ◌∙◌, subst, arith}
use Rattle.std.specs.Prelude.{slice_set}
use Rattle.std.proofs.lemmas.List.{get_or_default}
use Rattle.std.proofs.lemmas.List.Elements.{Contains-get_or}
use Rattle.hp_algebra.specs.Rows.{entry}
use Rattle.hp_linear.specs.Echelon.{PivotRow}
use Rattle.hp_linear.proofs.Kernels.{IsFreePart, free-more, free-last}
use Rattle.hp_linear.proofs.kernel.free_solution.Goals as goal

pub loop-p-preserved : goal.loop-p-preserved
loop-p-preserved g c =
    let laws = g.met.F.Ring.ring_laws in
    let ring = g.F.Ring.ring in
    let kept = c.args.kept.now in
    let p : PivotRow g.row.F.Denot = c.p-item.result in
    let k = c.loop-p.p-index in
    let in_kept : Contains kept p = subst (Contains kept) (sym c.p-item.is) (Contains-get_or kept k p c.loop-p-test.true) in
    let is = c.requires.reduced.each p in_kept in
    let before : IsFreePart laws c.args.width kept c.args.free k c.loop-p.c.items = record {
      is_row = c.loop-p.invariant.is_row;
      one = c.loop-p.invariant.one;
      at_pivots = c.loop-p.invariant.at_pivots;
      elsewhere = c.loop-p.invariant.elsewhere;
    } in
    let x = c.index-entries-free.result in
    let in_row : c.args.free < length p.entries = subst (λ n. c.args.free < n) (sym is.row.0) c.requires.inside in
    let read : x ≡ entry ring p.entries c.args.free =
    c.index-entries-free.is ∙ ap (λ (r : List g.row.F.Denot). get_or r c.args.free x) c.entries.ensures ∙ get_or_default p.entries c.args.free x ring.zero in_row in
    let after = free-more laws c.args.width c.args.free k kept c.loop-p.c.items p c.negate.result c.requires.reduced c.loop-p-test.true c.p-item.is (c.requires.apart p in_kept) c.negate.ensures.answer (c.negate.ensures.value ∙ ap ring.neg read) before in
    let done : IsFreePart laws c.args.width kept c.args.free (k + 1) (slice_set c.loop-p.c.items c.column.result c.negate.result) =
    subst (λ n. IsFreePart laws c.args.width kept c.args.free (k + 1) (slice_set c.loop-p.c.items n c.negate.result)) (sym c.column.ensures) after in
    record {
      is_row = done.is_row;
      one = done.one;
      at_pivots = done.at_pivots;
      elsewhere = done.elsewhere;
    }

pub returns : goal.returns
returns g c =
    let laws = g.met.F.Ring.ring_laws in
    let kept = c.args.kept.now in
    let part : IsFreePart laws c.args.width kept c.args.free (length kept) c.loop-p.c.items = record {
      is_row = c.loop-p.invariant.is_row;
      one = c.loop-p.invariant.one;
      at_pivots = λ h d l. c.loop-p.invariant.at_pivots h d (omega (arith, l, c.loop-p-test.false));
      elsewhere = λ j l ne none. c.loop-p.invariant.elsewhere j l ne (λ h d m. none h d (omega (arith, m, c.loop-p.auto.p-index-end)));
    } in
    free-last laws c.args.width c.args.free kept c.loop-p.c.items part
