use Rattle.hp_build.specs.Families.{graphic}
use Rattle.hp_build.proofs.EdgeForms.{graphic-simple}
use Rattle.hp_build.proofs.Simple.{lawful-made}
use Rattle.hp_build.proofs.graphs.graphic.Goals as goal

pub built-requires-clause-lawful : goal.built-requires-clause-lawful
built-requires-clause-lawful g c =
    let v = c.args.v in
    let edges = c.args.edges.now in
    lawful-made g.met.K.Field.field_laws g.met.K.FiniteField.numbering v c.in_ok-forms.forms.items (graphic g.K.Ring.ring v edges).forms c.requires.low c.requires.high c.in_ok-forms.ensures
    (λ few. graphic-simple g.met.K.Ring.ring_laws g.met.K.Domain.domain_laws.one_zero v edges c.find_bad_edge.result c.find_bad_edge.ensures c.in_default.is)
