use Rattle.std.proofs.Common.{◌≡◌, ◌∷◌, ◌∙◌, ℕ, [], get_or, length, ap, sym, subst, arith}
use Rattle.std.proofs.lemmas.List.{get_or_default, length-append}
use Rattle.hp_module.specs.Leads.{no_term}
use Rattle.hp_module.proofs.HeldParts.{pushed}
use Rattle.hp_syzygy.specs.FrameLevels.{IsPair, IsRelationOf, pair_lead}
use Rattle.hp_syzygy.proofs.next.relations_of.Goals as goal

pub relation_of-requires-clause-pair : goal.relation_of-requires-clause-pair
relation_of-requires-clause-pair g c =
    let leads = c.args.level.now.leads in
    let ranks = c.requires.pairs.0 in
    let x = c.index-pairs-p.result in
    let e = c.requires.pairs.1.each c.loop-p.p x c.loop-p-test.true in
    let f = subst (λ q. (i : ℕ) × IsPair leads ranks q.1 i × (q.0 ≡ pair_lead leads i q.1)) (sym c.index-pairs-p.is) e in
    (ranks, f.0, f.1, f.2)

pub loop-p-preserved : goal.loop-p-preserved
loop-p-preserved g c =
    let ring = g.F.Ring.ring in
    let inverse = g.F.Field.inverse in
    let pairs = c.args.pairs.now in
    let p = c.loop-p.p in
    let x = c.index-pairs-p.result in
    let old = c.loop-p.relations.items in
    let new = c.push.new.self.items in
    let rel = c.in_ok-relation_of.field-0 in
    let items = c.in_ok-push.ensures.items in
    let pair = c.index-pairs-p.is ∙ get_or_default pairs p x (no_term, 0) c.loop-p-test.true in
    record {
      count = omega (arith, ap length items, length-append old (rel ∷ []), c.loop-p.invariant.count);
      each = λ h k l. pushed [] (λ m r. IsRelationOf ring inverse h (get_or pairs m (no_term, 0)) r) old new rel p items c.loop-p.invariant.count
          (c.loop-p.invariant.each h) (subst (λ q. IsRelationOf ring inverse h q rel) pair (c.in_ok-relation_of.ensures h)) k l;
    }
