use Rattle.std.proofs.Common.{◌<◌, ◌-◌, ◌∙◌, [], length, arith}
use Rattle.std.proofs.lemmas.List.{get_or_default}
use Rattle.hp_minres.proofs.ReduceLoops.{column-none, column-cancel, ok_both}
use Rattle.hp_minres.proofs.reduce.reduce_column.Goals as goal

pub returns-in-None : goal.returns-in-None
returns-in-None g c =
    let k = c.args.k in
    let ms = c.args.maps.now.items in
    let ds = c.args.degrees.now.items in
    let one = c.requires.complex.1.one_each in
    let l : k - 1 < length ds = omega (arith, c.requires.within, one) in
    let m : k < length ds = omega (arith, c.requires.within, one) in
    column-none g.met.F.Field.field_laws k c.args.c ms ds c.as_slice.result.now c.as_slice-2.result.now c.as_slice-3.result.now c.requires.later
    (c.as_slice.ensures ∙ c.index.ensures ∙ get_or_default ds (k - 1) c.index.result.now [] l)
    (c.as_slice-2.ensures ∙ c.index-2.ensures ∙ get_or_default ms k c.index-2.result.now [] c.requires.within)
    (c.as_slice-3.ensures ∙ c.index-3.ensures ∙ get_or_default ds k c.index-3.result.now [] m) c.in-None.ensures.none

pub returns-in-Some : goal.returns-in-Some
returns-in-Some g c =
    let k = c.args.k in
    let ms = c.args.maps.now.items in
    let ds = c.args.degrees.now.items in
    let one = c.requires.complex.1.one_each in
    let l : k - 1 < length ds = omega (arith, c.requires.within, one) in
    let m : k < length ds = omega (arith, c.requires.within, one) in
    let some = c.in-Some.ensures.some in
    ok_both c.cancel.result _ _ _ c.cancel.ensures.maps c.cancel.ensures.degrees (λ x p q.
    column-cancel g.met.F.Field.field_laws k c.in-Some.r c.args.c ms ds c.as_slice.result.now c.as_slice-2.result.now c.as_slice-3.result.now
    c.cancel.new.maps.items c.cancel.new.degrees.items c.requires.later c.requires.complex c.requires.column
    (c.as_slice.ensures ∙ c.index.ensures ∙ get_or_default ds (k - 1) c.index.result.now [] l)
    (c.as_slice-2.ensures ∙ c.index-2.ensures ∙ get_or_default ms k c.index-2.result.now [] c.requires.within)
    (c.as_slice-3.ensures ∙ c.index-3.ensures ∙ get_or_default ds k c.index-3.result.now [] m) some.0 some.1 some.2 p q)
