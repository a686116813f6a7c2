use Rattle.std.proofs.Common.{ap, ◌∙◌}
use Rattle.hp_session.specs.State.{lookup}
use Rattle.hp_session.proofs.Lookups.{lookup-names_of}
use Rattle.hp_session.proofs.names.Names.find.Goals as goal

pub returns : goal.returns
returns g c =
    c.get.ensures.value
    ∙ lookup-names_of (λ k. k.items) c.self.inside.table.entries c.args.name.now
    ∙ ap (λ names. lookup names c.args.name.now) c.self.view_is
