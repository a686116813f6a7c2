use Rattle.std.proofs.Common.{◌≡◌}
use Rattle.std.proofs.lemmas.Result.{IfOk-weaker}
use Rattle.hp_module.specs.FreeModules.{plus_term}
use Rattle.hp_groebner.specs.BasisEnds.{IsTailReduced}
use Rattle.hp_groebner.specs.Runs.{job}
use Rattle.hp_groebner.proofs.TailSteps.{lead-in_member, lead-in_rest, lead-inside, tail-divisible, tail-reduced}
use Rattle.hp_groebner.proofs.tails.reduced_tail.Goals as goal

pub with_term-requires-clause-counted : goal.with_term-requires-clause-counted
with_term-requires-clause-counted g c =
    (lead-inside c.requires.run.5 c.requires.within c.queue.ensures c.leads.ensures c.index-leads-place.is).1

pub with_term-requires-clause-within : goal.with_term-requires-clause-within
with_term-requires-clause-within g c =
    lead-in_member c.requires.run.5 c.requires.within c.queue.ensures c.leads.ensures c.index-leads-place.is
    c.members.ensures c.index-members-place.is

pub remainder-requires-clause-homogeneous : goal.remainder-requires-clause-homogeneous
remainder-requires-clause-homogeneous g c =
    tail-divisible c.requires.run.5 c.requires.within c.queue.ensures c.leads.ensures c.index-leads-place.is
    c.members.ensures c.index-members-place.is c.in_ok-tail.ensures c.negate.ensures.value c.unit.ensures.value c.requires.run.4

pub with_term-requires-2-clause-counted : goal.with_term-requires-2-clause-counted
with_term-requires-2-clause-counted g c =
    (lead-inside c.requires.run.5 c.requires.within c.queue.ensures c.leads.ensures c.index-leads-place.is).1

pub with_term-requires-2-clause-within : goal.with_term-requires-2-clause-within
with_term-requires-2-clause-within g c =
    lead-in_rest c.requires.run.5 c.requires.within c.queue.ensures c.leads.ensures c.index-leads-place.is
    c.divisors.result.now c.in_ok-rest.ensures.1

pub returns : goal.returns
returns g c =
    let J = job g.F.Ring.ring g.F.Field.inverse c.args.setting.now c.args.gens.now in
    IfOk-weaker c.with_term-2.result
    (λ w. w ≡ plus_term g.F.Ring.ring c.in_ok-rest.rest c.index-leads-place.result c.unit-2.result)
    (IsTailReduced J c.args.state.now c.args.place)
    (λ w e. tail-reduced c.requires.run.5 c.requires.within c.queue.ensures c.leads.ensures c.index-leads-place.is
    c.members.ensures c.index-members-place.is c.in_ok-tail.ensures c.negate.ensures.value c.unit.ensures.value
    c.divisors.ensures c.in_ok-rest.ensures.1 c.unit-2.ensures.value e)
    c.with_term-2.ensures
