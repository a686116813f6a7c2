use Rattle.std.proofs.Common.{◌∙◌, refl, sym}
use Rattle.std.proofs.lemmas.Bool.{false≢true}
use Rattle.hp_sums.proofs.SumTests.{compared-less, keys-step, test-end, test-last, test-next, zero-fails}
use Rattle.hp_sums.proofs.merging.is_sum.Goals as goal

pub returns-then-is_nil-clause-sum : goal.returns-then-is_nil-clause-sum
returns-then-is_nil-clause-sum g c =
    let none = zero-fails (g.met.B.Basis.ordered c.args.basis.now c.requires) g.met.F.Field.field_laws c.in-Some.ensures.cases.0
    c.is_nil.ensures.of c.if-is_nil.ensures.value c.loop-t.invariant.same in
    ((λ e. absurd (false≢true e)), λ s. absurd (none s))

pub loop-t-preserved-else-ne : goal.loop-t-preserved-else-ne
loop-t-preserved-else-ne g c = record {
  same = test-next (g.met.B.Basis.ordered c.args.basis.now c.requires) g.met.F.Field.field_laws c.in-Some.ensures.cases.0
      c.in-Some-split_first.ensures.cases.0 c.is_nil.ensures.of c.if-is_nil.ensures.value
      (sym c.cmp.ensures ∙ compared-less c.cmp.result c.if-ne.ensures) c.loop-t.invariant.same;
  keys = keys-step g.B.Basis.IsKey c.args.terms.now c.in-Some.ensures.cases.0 c.key.ensures c.loop-t.invariant.keys;
}

pub loop-t-preserved : goal.loop-t-preserved
loop-t-preserved g c = record {
  same = test-last (g.met.B.Basis.ordered c.args.basis.now c.requires) g.met.F.Field.field_laws c.in-Some.ensures.cases.0
      c.in_default-split_first.ensures.cases c.is_nil.ensures.of c.if-is_nil.ensures.value c.loop-t.invariant.same;
  keys = keys-step g.B.Basis.IsKey c.args.terms.now c.in-Some.ensures.cases.0 c.key.ensures c.loop-t.invariant.keys;
}

pub returns-clause-sum : goal.returns-clause-sum
returns-clause-sum g c =
    let sum = test-end (g.met.B.Basis.ordered c.args.basis.now c.requires) g.met.F.Field.field_laws c.in_default.ensures.cases
    c.loop-t.invariant.same in
    ((λ e. sum), λ s. refl)
