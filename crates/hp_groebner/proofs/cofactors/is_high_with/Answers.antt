use Rattle.hp_groebner.proofs.MinimalCofactors.{lcm-small}
use Rattle.hp_groebner.proofs.cofactors.is_high_with.Goals as goal

pub lcm-requires : goal.lcm-requires
lcm-requires c =
    lcm-small c.args.leads.now c.args.t.now c.loop-j.j c.index-leads-j.result c.loop-j-test.true c.index-leads-j.is
    c.requires.degrees
