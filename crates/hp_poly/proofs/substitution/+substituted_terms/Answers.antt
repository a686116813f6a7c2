use Rattle.hp_poly.proofs.Substitutions.{substituted-halves}
use Rattle.hp_poly.proofs.substitution.+substituted_terms.Goals as goal

pub returns-clause-value : goal.returns-clause-value
returns-clause-value g t c =
    let ring = g.F.Ring.ring in
    substituted-halves g.met.F.Field.field_laws c.args.xs.now c.look_at.ensures c.args.p.now _ c.split_at.ensures.front c.split_at.ensures.back
    (λ k d l. (c.requires.terms k d l).0)
    c.in_ok-left.ensures.value c.in_ok-right.ensures.value c.as_slice.ensures.value c.as_slice-2.ensures.value c.in_ok-sum.ensures.value
