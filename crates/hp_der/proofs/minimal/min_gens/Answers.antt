use Rattle.std.proofs.Common.{length, ap, sym, subst, arith}
use Rattle.hp_graded.proofs.BasisMembers.{basis-homogeneous, basis-in_order, basis_lawful}
use Rattle.hp_graded.proofs.IrredundantLists.{kept_irredundant, kept_same}
use Rattle.hp_der.specs.BasisSettings.{ArePivotsOf}
use Rattle.hp_der.proofs.CoveringPairs.{read-cover}
use Rattle.hp_der.proofs.DegreeRanges.{IsRun, read-inside, read-next, read-range}
use Rattle.hp_der.proofs.KeptSteps.{kept-begin, kept-end}
use Rattle.hp_der.proofs.PreparedPairs.{read-degrees}
use Rattle.hp_der.proofs.minimal.min_gens.Goals as goal

pub loop-start-init : goal.loop-start-init
loop-start-init g c = record {
  within = omega arith;
  first = λ j l m e. omega (arith, l);
  kept = kept-begin g.F.Ring.ring c.args.basis.now.width c.args.basis.now.members c.new-kept.ensures.items;
}

pub covering_pairs-requires : goal.covering_pairs-requires
covering_pairs-requires g c = read-degrees c.in_ok-prepared.ensures c.leads-leads.ensures

pub pivots-requires-clause-pairs : goal.pivots-requires-clause-pairs
pivots-requires-clause-pairs g c =
    read-cover c.leads-leads.ensures c.in_ok-prepared.ensures.led.same_length c.as_slice.ensures.value c.in_ok-pairs.ensures

pub pivots-requires-clause-range : goal.pivots-requires-clause-range
pivots-requires-clause-range g c =
    read-range c.in_ok-prepared.ensures c.leads-leads.ensures (record {
      later = c.degree_end-stop.ensures.later;
      within = c.degree_end-stop.ensures.within;
      same = c.degree_end-stop.ensures.same;
      other = c.degree_end-stop.ensures.other;
    })
    c.leads-leads.ensures c.loop-start.invariant.first

pub keep-requires-clause-pivots : goal.keep-requires-clause-pivots
keep-requires-clause-pivots g c =
    subst (ArePivotsOf g.F.Ring.ring c.args.basis.now c.loop-start.start c.degree_end-stop.result) (sym c.as_slice-in-loop-start.ensures.value)
    c.in_ok-pivots.ensures

pub loop-start-preserved : goal.loop-start-preserved
loop-start-preserved g c =
    let run : IsRun c.leads-leads.result.now c.loop-start.start c.degree_end-stop.result = record {
      later = c.degree_end-stop.ensures.later;
      within = c.degree_end-stop.ensures.within;
      same = c.degree_end-stop.ensures.same;
      other = c.degree_end-stop.ensures.other;
    } in
    record {
      within = read-inside c.in_ok-prepared.ensures c.leads-leads.ensures run;
      first = read-next c.in_ok-prepared.ensures c.leads-leads.ensures run c.leads-leads.ensures;
      kept = c.in_ok-kept.ensures;
    }

pub returns : goal.returns
returns g c =
    let field = g.met.F.Field.field_laws in
    let b = c.args.basis.now in
    let kept = c.loop-start.kept.items in
    let of = c.members-many.ensures.of in
    let p = c.in_ok-prepared.ensures in
    let L = basis_lawful field b of in
    let is = kept-end g.F.Ring.ring b.width b.members c.loop-start.start
    (omega (arith, c.loop-start-test.false, ap length c.members-many.ensures.value)) kept c.loop-start.invariant.kept in
    record {
      kept = is;
      same = kept_same L b.members kept of.vectors (basis-homogeneous field b of) (basis-in_order field b of _ p.led) is;
      irredundant = kept_irredundant L b.members kept of.vectors (basis-homogeneous field b of) (basis-in_order field b of _ p.led) is;
    }
