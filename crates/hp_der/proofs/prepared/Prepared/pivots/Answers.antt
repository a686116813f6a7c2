use Rattle.std.proofs.Common.{◌≡◌, ◌+◌, ◌<◌, ◌∙◌, length, get_or, ap, sym, subst, arith}
use Rattle.std.proofs.lemmas.Bool.{false≢true}
use Rattle.std.proofs.lemmas.List.{get_or_default}
use Rattle.hp_mono.specs.declared.term.Term.{Term}
use Rattle.hp_mono.specs.Monomials.{degree}
use Rattle.hp_graded.specs.RelationConstants.{IsPairOf, degree_at}
use Rattle.hp_graded.proofs.BasisMembers.{basis_module}
use Rattle.hp_der.specs.BasisSettings.{Prepared, led_by}
use Rattle.hp_der.proofs.PairRows.{IsRead, pivots-early, pivots-last, read-row, read-skip, row-length}
use Rattle.hp_der.proofs.PreparedPairs.{lead-is}
use Rattle.hp_der.proofs.prepared.Prepared.pivots.Goals as goal
use Rattle.hp_der.proofs.prepared.Prepared.pivots.Goals.{then-is_pair+in_ok-row+in_ok-form, else-is_pair}

pub returns-then-is_full : goal.returns-then-is_full
returns-then-is_full g c =
    pivots-early c.requires.prepared c.requires.range c.loop-k.invariant c.in_ok-pivots.ensures.form
    (c.in_ok-pivots.ensures.full (c.is_full.ensures.0 c.if-is_full.true))

pub with_row-requires : goal.with_row-requires
with_row-requires g c =
    let pair = get_or c.args.pairs.now c.loop-k.k (0, 0) in
    row-length (basis_module g.F.Ring.ring g.F.Field.inverse c.args.basis.now) (led_by c.args.basis.now c.args.self.now.leads)
    c.args.start c.args.stop pair.0 pair.1 c.in_ok-row.ensures ∙ sym c.loop-k.invariant.cols

pub loop-k-preserved : goal.loop-k-preserved
loop-k-preserved g c =
    let M = basis_module g.F.Ring.ring g.F.Field.inverse c.args.basis.now in
    let s = led_by c.args.basis.now c.args.self.now.leads in
    let start = c.args.start in
    let stop = c.args.stop in
    let range = c.requires.range in
    let l : start < length c.args.basis.now.members = omega (arith, range.some, range.within) in
    let at = lead-is c.requires.prepared start l (ap (λ (p : Prepared g.row.F.Denot). p.leads) c.self.view_is) c.index.ensures in
    let d : c.degree-d.result ≡ degree_at s start = c.degree-d.ensures.value ∙ ap (λ (t : Term). degree t.mono) at in
    let k = c.loop-k.k in
    let inside : k < length c.args.pairs.now = omega (arith, c.loop-k-test.true, c.loop-k.auto.k-end) in
    let pair = get_or c.args.pairs.now k (0, 0) in
    let read : pair ≡ get_or c.args.pairs.now k pair = get_or_default c.args.pairs.now k (0, 0) pair inside in
    elim c.if-is_pair.branch [
      | then-is_pair+in_ok-row+in_ok-form w ↦
          subst (IsRead M s start stop c.args.pairs.now (k + 1)) (sym w.form-is)
          (read-row M s start stop c.loop-k.invariant inside read (subst (λ n. IsPairOf s n pair.0 pair.1) d (c.is_pair.ensures.0 w.if-is_pair.true))
          w.in_ok-row.ensures w.in_ok-form.ensures.columns w.in_ok-form.ensures.more)
      | else-is_pair w ↦
          subst (IsRead M s start stop c.args.pairs.now (k + 1)) (sym w.form-is)
          (read-skip M s start stop c.loop-k.invariant inside read
          (λ q. false≢true (sym w.if-is_pair.false ∙ c.is_pair.ensures.1 (subst (λ n. IsPairOf s n pair.0 pair.1) (sym d) q))))
    ]

pub returns : goal.returns
returns g c =
    pivots-last c.requires.prepared c.requires.range c.loop-k.invariant c.in_ok-pivots-2.ensures.form
    (omega (arith, c.loop-k-test.false, c.loop-k.auto.k-end)) c.requires.pairs
