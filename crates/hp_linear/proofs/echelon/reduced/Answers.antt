use Rattle.std.proofs.Common.{◌≡◌, ◌<◌, ◌++◌, List, All, length, Contains, take, drop, refl, sym, ap, ◌∙◌, subst, arith}
use Rattle.std.proofs.lemmas.List.Elements.{Contains-get_or}
use Rattle.std.proofs.lemmas.Grind.{common_steps}
use Rattle.hp_algebra.specs.Rows.{IsRow, entry}
use Rattle.hp_linear.specs.Echelon.{PivotRow, cleared_row}
use Rattle.hp_linear.proofs.Reduction.{cleared-row, differs-not, differs-more, zeros-more}
use Rattle.hp_linear.proofs.echelon.reduced.Goals as goal

pub loop-p-init : goal.loop-p-init
loop-p-init g c =
    let old = c.args.row.items in
    record {
      row = (refl, c.requires.values);
      zeros = λ h p l. absurd (omega arith);
      same = differs-not g.met.F.Ring.ring_laws (length old) c.args.kept.now old c.requires.reduced (refl, c.requires.values);
    }

pub clear_in-requires : goal.clear_in-requires
clear_in-requires g c =
    let kept = c.args.kept.now in
    let p : PivotRow g.row.F.Denot = c.p-item.result in
    let in_kept : Contains kept p = subst (Contains kept) (sym c.p-item.is) (Contains-get_or kept c.loop-p.p-index p c.loop-p-test.true) in
    let is = c.requires.reduced.each p in_kept in
    let wide : length c.deref_mut.result.now ≡ length c.args.row.items = ap (λ (r : List g.row.F.Denot). length r) c.deref_mut.ensures.value ∙ c.loop-p.invariant.row.0 in
    record {
      widths = wide ∙ sym is.row.0;
      inside = subst (λ n. p.column < n) (sym wide) is.inside;
      values =
          let P : List g.row.F.Denot → Type 0 = All g.F.Ring.ring.IsValue in
          subst P (sym c.deref_mut.ensures.value) c.loop-p.invariant.row.1;
      pivot = is.row.1;
    }

pub loop-p-preserved : goal.loop-p-preserved
loop-p-preserved g c =
    let laws = g.met.F.Ring.ring_laws in
    let ring = g.F.Ring.ring in
    let kept = c.args.kept.now in
    let old = c.args.row.items in
    let width = length old in
    let row = c.loop-p.row.items in
    let p : PivotRow g.row.F.Denot = c.p-item.result in
    let in_kept : Contains kept p = subst (Contains kept) (sym c.p-item.is) (Contains-get_or kept c.loop-p.p-index p c.loop-p-test.true) in
    let is = c.requires.reduced in
    let before = c.loop-p.invariant in
    let next : IsRow ring width (cleared_row ring p row) = cleared-row laws width p row (is.each p in_kept) before.row in
    let new : List g.row.F.Denot = c.clear_in.new.row in
    let made : new ≡ cleared_row ring p row = c.clear_in.ensures ∙ ap (cleared_row ring p) c.deref_mut.ensures.value in
    let long : length new ≡ length row = ap (λ (r : List g.row.F.Denot). length r) made ∙ next.0 ∙ sym before.row.0 in
    let many : c.loop-p.row.len ≡ length row = omega (arith, c.loop-p.row.ok.0) in
    let whole : take c.loop-p.row.len (new ++ drop (length new) row) ≡ new = grind (arith, common_steps) in
    rw (whole, made) (record {
      row = next;
      zeros = zeros-more laws width kept row c.loop-p.p-index p is before.row c.loop-p-test.true c.p-item.is before.zeros;
      same = differs-more laws width kept old row p is (refl, c.requires.values) before.row in_kept before.same;
    })

pub returns : goal.returns
returns g c =
    let ring = g.F.Ring.ring in
    record {
      is_row = c.loop-p.invariant.row;
      same = c.loop-p.invariant.same;
      zeros = λ p in_kept. subst (λ (q : PivotRow g.row.F.Denot). entry ring c.loop-p.row.items q.column ≡ ring.zero) in_kept.2 (c.loop-p.invariant.zeros in_kept.0 p (omega (arith, in_kept.1, c.loop-p-test.false)));
    }
