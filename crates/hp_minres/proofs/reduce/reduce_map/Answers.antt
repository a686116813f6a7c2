use Rattle.std.proofs.Common.{◌≡◌, ◌-◌, suc, length, subst, arith}
use Rattle.hp_minres.specs.Reductions.{AreSteps}
use Rattle.hp_minres.proofs.ReduceLoops.{steps-more}
use Rattle.hp_minres.proofs.reduce.reduce_map.Goals as goal

pub reduce_column-requires-clause-complex : goal.reduce_column-requires-clause-complex
reduce_column-requires-clause-complex g c =
    (c.requires.complex.0, c.loop-c.invariant.steps.graded c.requires.complex.0 c.requires.complex.1)

pub loop-c-preserved : goal.loop-c-preserved
loop-c-preserved g c =
    let n = length c.as_slice-many.result.now in
    let k = c.args.k in
    let i = c.loop-c.c - 1 in
    let e : c.loop-c.c ≡ suc i = omega (arith, c.loop-c-test.true) in
    record {
      within = omega (arith, c.loop-c.invariant.within);
      steps = steps-more g.met.F.Field.field_laws k n i c.args.maps.now.items c.args.degrees.now.items c.loop-c.maps.items c.loop-c.degrees.items
          c.reduce_column.new.maps.items c.reduce_column.new.degrees.items (omega (arith, e, c.loop-c.invariant.within))
          (subst (λ t. AreSteps g.F.Ring.ring c.args.maps.now.items c.args.degrees.now.items k n c.loop-c.maps.items c.loop-c.degrees.items k t) e
          c.loop-c.invariant.steps) c.in_ok-reduce_column.ensures;
    }
