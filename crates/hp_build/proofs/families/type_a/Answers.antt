use Rattle.std.proofs.Common.{◌+◌, ◌^◌, ◌<◌, length, sym, subst, arith}
use Rattle.hp_build.specs.Families.{type_a}
use Rattle.hp_build.proofs.FamilyForms.{few_type_a, type_a-simple}
use Rattle.hp_build.proofs.Simple.{lawful-made}
use Rattle.hp_build.proofs.families.type_a.Goals as goal

pub built-requires-clause-count : goal.built-requires-clause-count
built-requires-clause-count g c =
    subst (λ forms. length forms < 2 ^ 32) (sym c.in_ok-forms.ensures) (few_type_a g.K.Ring.ring c.args.r c.requires)

pub built-requires-clause-lawful : goal.built-requires-clause-lawful
built-requires-clause-lawful g c =
    lawful-made g.met.K.Field.field_laws g.met.K.FiniteField.numbering (c.args.r + 1) c.in_ok-forms.forms.items (type_a g.K.Ring.ring c.args.r).forms (omega arith) (omega (arith, c.requires)) c.in_ok-forms.ensures
    (λ few. type_a-simple g.met.K.Ring.ring_laws g.met.K.Domain.domain_laws.one_zero c.args.r)
