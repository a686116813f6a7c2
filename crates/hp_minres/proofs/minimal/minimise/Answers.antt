use Rattle.std.proofs.Common.{◌∙◌, ap, sym, subst}
use Rattle.hp_complex.specs.Complexes.{map_at}
use Rattle.hp_minres.specs.Reductions.{IsReduced, rows_at}
use Rattle.hp_minres.proofs.ReduceLoops.{some_kept}
use Rattle.hp_minres.proofs.minimal.minimise.Goals as goal

pub finished-requires-clause-reduced : goal.finished-requires-clause-reduced
finished-requires-clause-reduced g c =
    let w = c.cols-width.ensures.value ∙ ap (λ m. m.cols) (c.map.ensures.value ∙ ap (λ ms. map_at ms 0) c.complex.ensures.value) in
    let rows = rows_at c.in_ok-maps.maps.items 0 in (
      rows,
      subst (λ n. IsReduced g.F.Ring.ring n rows c.reduce.new.maps.items c.reduce.new.degrees.items) (sym w)
          (c.in_ok-reduce.ensures _ c.in_ok-maps.ensures.complex),
    )

pub finished-requires-clause-some_row : goal.finished-requires-clause-some_row
finished-requires-clause-some_row g c =
    some_kept g.met.F.Field.field_laws (map_at c.args.frame.now.maps 0).cols (map_at c.args.frame.now.maps 0).rows c.in_ok-maps.maps.items
    c.in_ok-maps.degrees.items c.reduce.new.maps.items c.reduce.new.degrees.items c.in_ok-maps.ensures.complex c.in_ok-maps.ensures.first
    (c.in_ok-reduce.ensures _ c.in_ok-maps.ensures.complex) c.requires.nonzero
