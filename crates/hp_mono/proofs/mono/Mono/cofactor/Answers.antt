use Rattle.std.proofs.Common.{sym, subst}
use Rattle.hp_mono.specs.Monomials.{Divides}
use Rattle.hp_mono.proofs.MonomialLaws.{divides-lcm}
use Rattle.hp_mono.proofs.mono.Mono.cofactor.Goals as goal

pub without-requires : goal.without-requires
without-requires c =
    let a = c.args.self.now in
    let b = c.args.other.now in
    subst (Divides a) (sym c.lcm.ensures.value) (divides-lcm a b c.lcm.ensures.left.exponents c.lcm.ensures.right.exponents)
