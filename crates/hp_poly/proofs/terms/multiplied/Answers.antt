use Rattle.std.proofs.Common.{◌≡◌, max, arith, ap}
use Rattle.hp_mono.specs.Monomials.{degree}
use Rattle.hp_poly.specs.Polynomials.{poly_degree}
use Rattle.hp_poly.proofs.TermMultiples.{multiplied_start, multiplied_step, multiplied_end, first_nonzero}
use Rattle.hp_poly.proofs.terms.multiplied.Goals as goal

pub loop-t-init : goal.loop-t-init
loop-t-init g c = record {
  degrees = c.requires.degrees;
  multiplied = multiplied_start g.met.F.Field.field_laws c.requires.left c.requires.right c.new-sum.ensures.items;
}

pub merged_multiple-requires-clause-nonzero : goal.merged_multiple-requires-clause-nonzero
merged_multiple-requires-clause-nonzero g c =
    first_nonzero g.met.F.Field.field_laws c.loop-t.invariant.multiplied.rest_is c.in-Some.ensures.cases.0

pub loop-t-preserved : goal.loop-t-preserved
loop-t-preserved g c =
    let ring = g.F.Ring.ring in
    let e : poly_degree ring c.loop-t.rest.now ≡ max (degree c.in-Some.t.now.0) (poly_degree ring c.in-Some.more.now) =
    ap (poly_degree ring) c.in-Some.ensures.cases.0 in record {
      degrees = omega (arith, e, c.loop-t.invariant.degrees);
      multiplied = multiplied_step g.met.F.Field.field_laws c.requires.right c.loop-t.invariant.multiplied
          c.in-Some.ensures.cases.0 c.as_slice.ensures.value c.in_ok-sum.ensures.value;
    }

pub returns-clause-value : goal.returns-clause-value
returns-clause-value g c =
    multiplied_end g.met.F.Field.field_laws c.loop-t.invariant.multiplied c.in_default.ensures.cases
