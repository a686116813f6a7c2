use Rattle.hp_lists.proofs.Members.{same_test}
use Rattle.hp_groebner.specs.KeptCofactors.{divides}
use Rattle.hp_groebner.proofs.MinimalCofactors.{divides-decided}
use Rattle.hp_groebner.proofs.cofactors.is_divisor.Goals as goal

pub returns : goal.returns
returns c =
    let e = c.divides.ensures in
    same_test c.divides.result (divides c.args.a.now c.args.b.now) e.value
    (divides-decided c.args.a.now c.args.b.now e.left.exponents e.right.exponents)
