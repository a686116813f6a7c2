use Rattle.std.proofs.Common.{◌≡◌, ◌+◌, map, false, true, refl, sym, ◌∙◌, arith}
use Rattle.std.specs.List.{list_any}
use Rattle.std.proofs.lemmas.Bool.{not-false, not-true}
use Rattle.hp_algebra.specs.Rows.{is_zero_row}
use Rattle.hp_arr.specs.Operations.{normalised}
use Rattle.hp_arr.proofs.FaultFacts.{zero_fault-none_at, row_made, repeated_fault-first, repeated_fault-none}
use Rattle.hp_arr.proofs.RepeatSearch.{same_items, repeat-found, search-more}
use Rattle.hp_arr.proofs.fault_search.find_repeated.Goals as goal

pub normalised_places-requires-clause-nonzero : goal.normalised_places-requires-clause-nonzero
normalised_places-requires-clause-nonzero g c =
    let ring = g.K.Ring.ring in
    let forms = c.args.forms.now in
    let k = c.loop-k.k in
    row_made (is_zero_row ring) forms k c.index-forms-k.result c.as_slice.result.now _ c.loop-k-test.true c.index-forms-k.is c.as_slice.ensures refl
    ∙ zero_fault-none_at ring forms c.requires.nonzero (k + 1) (omega arith) (omega arith)

pub returns-then-not-is_new : goal.returns-then-not-is_new
returns-then-not-is_new g c =
    let forms = c.args.forms.now in
    let k = c.loop-k.k in
    let places = c.in_ok-places.places in
    let looked = row_made (λ a. map g.K.FiniteField.numbers.place (normalised g.K.Ring.ring g.K.Field.inverse a)) forms k c.index-forms-k.result c.as_slice.result.now places.items c.loop-k-test.true c.index-forms-k.is c.as_slice.ensures c.in_ok-places.ensures in
    let passes : list_any (same_items (λ p. p.items) places) c.loop-k.earlier.keys ≡ true = not-false _ (sym c.in_ok-i.ensures.added ∙ c.if-not-is_new.true) in
    let found = repeat-found g.met.K.Field.field_laws g.met.K.FiniteField.numbering forms (record { values = c.requires.values; nonzero = c.requires.nonzero }) (λ p. p.items) c.loop-k.earlier.keys k places c.loop-k-test.true c.loop-k.invariant.held looked c.in_ok-i.i c.in_ok-i.ensures.index passes in
    sym (repeated_fault-first g.K.Ring.ring g.K.FiniteField.numbers forms (c.in_ok-i.i + 1) (k + 1) (omega arith) (omega arith) found.1 (λ h low high. c.loop-k.invariant.none h low (omega arith)))

pub loop-k-preserved : goal.loop-k-preserved
loop-k-preserved g c =
    let forms = c.args.forms.now in
    let k = c.loop-k.k in
    let places = c.in_ok-places.places in
    let looked = row_made (λ a. map g.K.FiniteField.numbers.place (normalised g.K.Ring.ring g.K.Field.inverse a)) forms k c.index-forms-k.result c.as_slice.result.now places.items c.loop-k-test.true c.index-forms-k.is c.as_slice.ensures c.in_ok-places.ensures in
    let new : list_any (same_items (λ p. p.items) places) c.loop-k.earlier.keys ≡ false = not-true _ (sym c.in_ok-i.ensures.added ∙ c.if-not-is_new.false) in
    let more = search-more g.met.K.Field.field_laws g.met.K.FiniteField.numbering forms (record { values = c.requires.values; nonzero = c.requires.nonzero }) (λ p. p.items) c.loop-k.earlier.keys k places c.loop-k-test.true c.loop-k.invariant.held looked c.loop-k.invariant.none c.insert_full.new.self.keys new c.in_ok-i.ensures.keys in
    record { held = more.0; none = more.1 }

pub returns : goal.returns
returns g c =
    sym (repeated_fault-none g.K.Ring.ring g.K.FiniteField.numbers c.args.forms.now (λ h low high. c.loop-k.invariant.none h low (omega arith)))
