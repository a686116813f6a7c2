use Rattle.std.proofs.Common.{◌≡◌, ◌↔◌, List, map, Contains, sym, ap, subst, ◌∙◌}
use Rattle.std.specs.List.Sorted.{IsStrictlySortedBy}
use Rattle.hp_arr.specs.Flats.{cmp_ranked, rank, IsFlat}
use Rattle.hp_arr.proofs.ConePoints.{affine_setting}
use Rattle.hp_arr.proofs.FlatList.{flats-complete, flats-rise}
use Rattle.hp_sets.specs.declared.flat.Flat.{Flat}
use Rattle.hp_flats.specs.declared.levels.Covered.{Covered}
use Rattle.hp_flats.proofs.listing.flats.Goals as goal

pub returns-clause-value : goal.returns-clause-value
returns-clause-value g c = c.in_ok-flats_of.ensures ∙ ap (map (λ (x : Covered). x.flat)) c.deref.ensures.value ∙ c.in_ok-covered.ensures.flats

pub returns-clause-members : goal.returns-clause-members
returns-clause-members g c =
    subst (λ (fs : List Flat). (f : Flat) → Contains fs f ↔ (IsFlat g.K.Ring.ring g.K.FiniteField.numbers c.args.aff.now f.set × (f.rank ≡ rank g.K.Ring.ring g.K.FiniteField.numbers c.args.aff.now f.set)))
    (sym (returns-clause-value g c))
    (flats-complete (affine_setting g.met.K.Field.field_laws g.met.K.FiniteField.numbering c.flats_with_covers.ensures.lawful))

pub returns-clause-rising : goal.returns-clause-rising
returns-clause-rising g c =
    subst (IsStrictlySortedBy cmp_ranked) (sym (returns-clause-value g c))
    (flats-rise (affine_setting g.met.K.Field.field_laws g.met.K.FiniteField.numbering c.flats_with_covers.ensures.lawful))
