use Rattle.std.proofs.Common.{◌≤◌, arith}
use mathlib.Core.Path.{refl}
use Rattle.hp_mono.specs.Monomials.{degree}
use Rattle.hp_module.specs.ElimOrders.{elimination_order}
use Rattle.hp_tests_modules.proofs.LowDegrees.{low-degree}
use Rattle.hp_tests_modules.proofs.module.homogeneous.Goals as goal

pub returns-clause-homogeneous : goal.returns-clause-homogeneous
returns-clause-homogeneous c =
    let graded = c.if-not-is_homogeneous.ensures.0 refl in
    let low : degree c.in-Some.lead.0.mono ≤ 100 = omega (arith, c.degree.ensures.value, c.if-degree-gt100.false) in (
      graded.0,
      low-degree (elimination_order c.args.order.now.split) c.args.grading.now.shifts c.in_ok-v.v c.in-Some.lead.0 c.in-Some.lead.1 graded.0 c.requires.shifts c.in-Some.ensures.some low graded.1,
      graded.1,
    )
