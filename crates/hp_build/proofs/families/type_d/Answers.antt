use Rattle.hp_build.specs.Families.{type_d}
use Rattle.hp_build.proofs.Simple.{lawful-made}
use Rattle.hp_build.proofs.SmallFields.{type_d-simple_few}
use Rattle.hp_build.proofs.families.type_d.Goals as goal

pub built-requires-clause-lawful : goal.built-requires-clause-lawful
built-requires-clause-lawful g c =
    lawful-made g.met.K.Field.field_laws g.met.K.FiniteField.numbering c.args.r c.in_ok-forms.forms.items (type_d g.K.Ring.ring c.args.r).forms c.requires.low c.requires.high c.in_ok-forms.ensures
    (λ few. type_d-simple_few g.met.K.Ring.ring_laws g.met.K.FiniteField.numbering g.met.K.Domain.domain_laws.one_zero c.args.r few)
