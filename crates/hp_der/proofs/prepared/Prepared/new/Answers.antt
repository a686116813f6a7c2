use Rattle.hp_der.proofs.PreparedBases.{read-nonzero, read-prepared}
use Rattle.hp_der.proofs.prepared.Prepared.new.Goals as goal

pub leads_of-requires-clause-nonzero : goal.leads_of-requires-clause-nonzero
leads_of-requires-clause-nonzero g c =
    read-nonzero g.met.F.Field.field_laws c.members-members.ensures.of c.members-members.ensures.value c.width.ensures.value

pub divisors_of-requires-clause-nonzero : goal.divisors_of-requires-clause-nonzero
divisors_of-requires-clause-nonzero g c =
    read-nonzero g.met.F.Field.field_laws c.members-members.ensures.of c.members-members.ensures.value c.width.ensures.value

pub returns : goal.returns
returns g c =
    read-prepared g.met.F.Field.field_laws c.members-members.ensures.of c.members-members.ensures.value c.width.ensures.value
    c.requires c.split.ensures.value c.in_ok-leads.ensures.many c.in_ok-leads.ensures.leads c.in_ok-divisors.ensures.lawful
    c.in_ok-divisors.ensures.members c.in_ok-grading.ensures
