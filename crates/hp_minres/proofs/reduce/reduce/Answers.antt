use Rattle.std.proofs.Common.{arith}
use Rattle.hp_minres.proofs.ReduceLoops.{reduced-more, reduced-end}
use Rattle.hp_minres.proofs.reduce.reduce.Goals as goal

pub reduce_map-requires-clause-complex : goal.reduce_map-requires-clause-complex
reduce_map-requires-clause-complex g c = (c.requires.0, c.loop-k.invariant.graded c.requires.0 c.requires.1)

pub loop-k-preserved : goal.loop-k-preserved
loop-k-preserved g c =
    reduced-more g.met.F.Field.field_laws c.args.maps.now.items c.args.degrees.now.items c.loop-k.k c.loop-k.maps.items c.loop-k.degrees.items
    c.reduce_map.new.maps.items c.reduce_map.new.degrees.items c.loop-k.invariant c.in_ok-reduce_map.ensures

pub returns : goal.returns
returns g c width x =
    reduced-end g.met.F.Field.field_laws c.args.maps.now.items c.args.degrees.now.items c.loop-k.k c.loop-k.maps.items c.loop-k.degrees.items
    (omega (arith, c.loop-k-test.false, c.len-k-end.ensures)) c.loop-k.invariant width x
