use Rattle.hp_build.specs.Families.{boolean}
use Rattle.hp_build.proofs.FamilyForms.{boolean-simple}
use Rattle.hp_build.proofs.Simple.{lawful-made}
use Rattle.hp_build.proofs.families.boolean.Goals as goal

pub built-requires-clause-lawful : goal.built-requires-clause-lawful
built-requires-clause-lawful g c =
    lawful-made g.met.K.Field.field_laws g.met.K.FiniteField.numbering c.args.r c.in_ok-forms.forms.items (boolean g.K.Ring.ring c.args.r).forms c.requires.low c.requires.high c.in_ok-forms.ensures
    (λ few. boolean-simple g.met.K.Ring.ring_laws g.met.K.Domain.domain_laws.one_zero c.args.r)
