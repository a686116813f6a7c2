use Rattle.std.proofs.Common.{◌≡◌, ◌∙◌, [], length, get_or, ap, sym, subst, arith}
use Rattle.std.proofs.lemmas.List.{get_or_default}
use Rattle.hp_module.specs.FallingTerms.{IsTerms}
use Rattle.hp_poly.specs.Polynomials.{poly_of}
use Rattle.hp_poly.proofs.TermMultiples.{setting}
use Rattle.hp_sums.proofs.Collected.{collect-sum}
use Rattle.hp_module.proofs.HeldParts.{IsPartFor, poly-terms, pushed, vector_of-entries}
use Rattle.hp_module.proofs.parts.parts_of.Goals as goal

pub sorted-requires-clause-terms : goal.sorted-requires-clause-terms
sorted-requires-clause-terms g c =
    let ring = g.F.Ring.ring in
    subst (IsTerms ring) (sym c.terms.ensures.value) (poly-terms g.met.F.Field.field_laws c.index-entries-k.result c.terms.ensures.of)

pub loop-k-preserved : goal.loop-k-preserved
loop-k-preserved g c =
    let ring = g.F.Ring.ring in
    let cmp = g.O.TermOrder.order c.args.order.now in
    let entries = c.entries-entries.result.now in
    let k = c.loop-k.k in
    let within = c.loop-k-test.true in
    let field = g.met.F.Field.field_laws in
    let collected = collect-sum (setting field) c.index-entries-k.result c.terms.ensures.of.is_sum in
    let same : poly_of ring c.in_ok-terms.terms.items ≡ get_or entries k [] =
    c.in_ok-terms.ensures.same ∙ ap (poly_of ring) c.terms.ensures.value ∙ collected ∙ c.index-entries-k.is
    ∙ get_or_default entries k c.index-entries-k.result [] (omega (arith, within)) in
    let here : IsPartFor ring cmp entries k c.of.result =
    subst (IsPartFor ring cmp entries k) (sym c.of.ensures) (record { falling = c.in_ok-terms.ensures.answer; value = same }) in
    let more = c.in_ok-push.ensures.items in
    record {
      long = omega (arith, c.in_ok-push.ensures.len, c.loop-k.invariant.long);
      each = pushed [] (IsPartFor ring cmp entries) c.loop-k.parts.items c.push.new.self.items c.of.result k more c.loop-k.invariant.long c.loop-k.invariant.each here;
    }

pub returns-clause-falling : goal.returns-clause-falling
returns-clause-falling g c =
    let entries = c.entries-entries.ensures.value in
    record {
      long = omega (arith, ap length entries, c.requires, c.loop-k.invariant.long, c.loop-k-test.false, c.loop-k.auto.k-end);
      each = λ j h. (c.loop-k.invariant.each j (omega (arith, h, c.requires, ap length entries, c.loop-k-test.false))).falling;
    }

pub returns-clause-value : goal.returns-clause-value
returns-clause-value g c =
    let entries = c.entries-entries.result.now in
    let parts = c.loop-k.parts.items in
    let long : length entries ≡ length parts = omega (arith, c.loop-k.invariant.long, c.loop-k-test.false, c.loop-k.auto.k-end) in
    vector_of-entries g.F.Ring.ring parts entries long (λ j h. (c.loop-k.invariant.each j (omega (arith, h, c.loop-k.invariant.long))).value)
    ∙ c.entries-entries.ensures.value
