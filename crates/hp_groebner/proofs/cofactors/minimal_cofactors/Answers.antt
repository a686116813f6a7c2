use Rattle.std.proofs.Common.{◌≡◌, ◌+◌, length, sym, subst, arith}
use Rattle.hp_groebner.proofs.MinimalCofactors.{AreMinimalAmong, lcm-small_back, minimal-all, minimal-next, minimal-past, monomials-next, monomials-past}
use Rattle.hp_mono.specs.Monomials.{IsMonomial}
use Rattle.hp_groebner.specs.KeptCofactors.{AreMonomials, IsKeptWith}
use Rattle.hp_groebner.proofs.cofactors.minimal_cofactors.Goals as goal
use Rattle.hp_groebner.proofs.cofactors.minimal_cofactors.Goals.{then-lead-t+in_ok-keep, else-lead-t}

pub cofactor-requires : goal.cofactor-requires
cofactor-requires c =
    lcm-small_back c.args.leads.now c.args.t.now c.loop-j.j c.index-leads-j.result c.loop-j-test.true c.index-leads-j.is
    c.requires.degrees

pub loop-j-preserved : goal.loop-j-preserved
loop-j-preserved c =
    let leads = c.args.leads.now in
    let t = c.args.t.now in
    let x = c.index-leads-j in
    elim c.if-lead-t.branch [
      | then-lead-t+in_ok-keep w ↦ let q = w.cofactor.ensures in
          let k = subst (λ m. IsKeptWith c.loop-j.kept.items m c.loop-j.j w.keep.new.kept.items) q.value
          w.in_ok-keep.ensures in
          record {
            monomials = monomials-next leads t c.loop-j.j x.result c.loop-j-test.true x.is q.left.exponents
                q.right.exponents c.loop-j.invariant.monomials;
            minimal = subst (λ v. AreMinimalAmong leads t (c.loop-j.j + 1) v.items) (sym w.kept-is)
                (minimal-next leads t c.loop-j.j x.result c.loop-j-test.true x.is w.if-lead-t.true
                (subst IsMonomial q.value q.answer.exponents) c.loop-j.kept.items w.keep.new.kept.items k
                c.loop-j.invariant.minimal);
          }
      | else-lead-t w ↦ record {
        monomials = monomials-past leads t c.loop-j.j x.result c.loop-j-test.true x.is w.if-lead-t.false
            c.loop-j.invariant.monomials;
        minimal = subst (λ v. AreMinimalAmong leads t (c.loop-j.j + 1) v.items) (sym w.kept-is)
            (minimal-past leads t c.loop-j.j x.result c.loop-j-test.true x.is w.if-lead-t.false c.loop-j.kept.items
            c.loop-j.invariant.minimal);
      }
    ]

pub returns : goal.returns
returns c =
    let leads = c.args.leads.now in
    let t = c.args.t.now in
    let e : c.loop-j.j ≡ length c.args.leads.now = omega (arith, c.loop-j-test.false, c.loop-j.auto.j-end) in
    let m = c.loop-j.invariant in
    record {
      monomials = subst (λ i. AreMonomials leads t i) e m.monomials;
      minimal = minimal-all leads t c.loop-j.kept.items
          (subst (λ i. AreMinimalAmong leads t i c.loop-j.kept.items) e m.minimal);
    }
