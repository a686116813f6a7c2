use Rattle.hp_arr.specs.Flats.{rank, flats, flats_of_rank}
use Rattle.hp_flats.specs.Covers.{IsCover, IsCoverList}
use Rattle.hp_flats.specs.Levels.{IsEntry, AreOfRank, IsLevel, flats_below}
use Rattle.hp_arr.proofs.ConePoints.{affine_setting}
use Rattle.std.proofs.Common.{rules, ◌≡◌, ◌⊎◌, ◌+◌, ◌-◌, ◌<◌, ◌≤◌, IfErr, List, [], ◌∷◌, ◌++◌, map, length, Contains, refl, sym, ap, subst, ◌∙◌, arith, inl, inr}
use Rattle.std.specs.BTreeMap.{keys}
use Rattle.std.proofs.lemmas.List.{append-nil, length-map}
use Rattle.std.proofs.lemmas.List.Elements.{All-contains}
use Rattle.std.proofs.lemmas.Result.{IfErr-weaker}
use Rattle.hp_sets.specs.Sets.{Set}
use Rattle.hp_sets.specs.declared.flat.Flat.{Flat}
use Rattle.hp_flats.specs.Bounds.{most_flats}
use Rattle.hp_flats.specs.declared.levels.Covered.{Covered}
use Rattle.hp_flats.specs.declared.stop.FlatStop.{FlatStop}
use Rattle.hp_flats.specs.declared.stop.FlatStop.TheVariants.{Memory}
use Rattle.hp_lists.proofs.ListSteps.{more-places, all-last, map-last, map-end, map-count}
use Rattle.hp_flats.proofs.RankLevels.{of_rank, entries-none, level-entry, too-many, listed-next, level-next}
use Rattle.hp_flats.proofs.levels.next_level.Goals as goal

pub loop-entry-init : goal.loop-entry-init
loop-entry-init g c =
    let S = affine_setting g.met.K.Field.field_laws g.met.K.FiniteField.numbering c.len-lawful.ensures.lawful in
    record {
      are = subst (AreOfRank S.ring S.numbers S.arr (c.args.rank + 1)) (sym c.new-next.ensures.empty) (entries-none S (c.args.rank + 1));
      few = omega (arith, c.new-next.ensures.len);
      found = λ k d l. absurd (omega (arith, l));
      flats = sym (append-nil _);
      lists = c.requires.covers;
    }

pub covers_of-requires-clause-entry : goal.covers_of-requires-clause-entry
covers_of-requires-clause-entry g c =
    let S = affine_setting g.met.K.Field.field_laws g.met.K.FiniteField.numbering c.len-lawful.ensures.lawful in
    let inside : c.loop-entry.entry-index < length c.args.level.now = omega (arith, c.loop-entry-test.true) in
    let entry = level-entry S c.requires.level inside c.entry-item.is in
    subst (IsEntry S.ring S.numbers S.arr (rank S.ring S.numbers S.arr c.entry-item.result.0) c.entry-item.result.0) (sym c.as_slice.ensures) (record { is_flat = entry.is_flat; has_rank = refl; has_values = entry.has_values })

pub covers_of-requires-clause-next : goal.covers_of-requires-clause-next
covers_of-requires-clause-next g c =
    let S = affine_setting g.met.K.Field.field_laws g.met.K.FiniteField.numbering c.len-lawful.ensures.lawful in
    let inside : c.loop-entry.entry-index < length c.args.level.now = omega (arith, c.loop-entry-test.true) in
    let entry = level-entry S c.requires.level inside c.entry-item.is in
    subst (λ m. AreOfRank S.ring S.numbers S.arr (m + 1) c.loop-entry.next.entries) (sym entry.has_rank) c.loop-entry.invariant.are

pub returns-in_err-covers-clause-stop : goal.returns-in_err-covers-clause-stop
returns-in_err-covers-clause-stop g c =
    let S = affine_setting g.met.K.Field.field_laws g.met.K.FiniteField.numbering c.len-lawful.ensures.lawful in
    let inside : c.loop-entry.entry-index < length c.args.level.now = omega (arith, c.loop-entry-test.true) in
    let entry = level-entry S c.requires.level inside c.entry-item.is in
    let level = c.args.level.now in
    let before = c.len.result in
    let room = 100000 - before - length level in
    let count : before ≡ length c.args.listed.now.items = omega (arith, c.len.ensures) in
    let sum : most_flats ≤ room + before + length level = omega (arith, c.requires.few, count) in
    let low : before ≡ length (flats_below S.ring S.numbers S.arr c.args.rank) = count ∙ sym (length-map c.args.listed.now.items (λ (x : Covered). x.flat)) ∙ ap (λ (fs : List Flat). length fs) c.requires.flats in
    let h : IfErr c.from_residual.result (λ (e : FlatStop). (e ≡ Memory) ⊎ (room < length (flats_of_rank S.ring S.numbers S.arr (rank S.ring S.numbers S.arr c.entry-item.result.0 + 1)))) = search rules in
    IfErr-weaker c.from_residual.result
    (λ (e : FlatStop). (e ≡ Memory) ⊎ (room < length (flats_of_rank S.ring S.numbers S.arr (rank S.ring S.numbers S.arr c.entry-item.result.0 + 1))))
    (λ (e : FlatStop). (e ≡ Memory) ⊎ (most_flats < length (flats S.ring S.numbers S.arr)))
    (λ e p. elim p [ inl m ↦ inl m | inr l ↦ inr (too-many S c.args.rank level c.requires.level c.requires.rank before room most_flats low sum (subst (λ m. room < length (flats_of_rank S.ring S.numbers S.arr (m + 1))) entry.has_rank l)) ]) h

pub loop-entry-preserved : goal.loop-entry-preserved
loop-entry-preserved g c =
    let S = affine_setting g.met.K.Field.field_laws g.met.K.FiniteField.numbering c.len-lawful.ensures.lawful in
    let inside : c.loop-entry.entry-index < length c.args.level.now = omega (arith, c.loop-entry-test.true) in
    let entry = level-entry S c.requires.level inside c.entry-item.is in
    let inv = c.loop-entry.invariant in
    let level = c.args.level.now in
    let r = c.args.rank in
    let k = c.loop-entry.entry-index in
    let item = c.entry-item.result in
    let F = λ (x : Covered). x.flat in
    let old = c.args.listed.now.items in
    let list = c.in_ok-covers.ensures.covers in
    let new : c.push.new.self.items ≡ c.loop-entry.listed.items ++ record { flat = record { rank = r; set = item.0 }; covers = c.in_ok-covers.covers } ∷ [] = c.in_ok-push.ensures.items in
    record {
      are = subst (λ m. AreOfRank S.ring S.numbers S.arr (m + 1) c.covers_of.new.next.entries) entry.has_rank c.in_ok-covers.ensures.next;
      few = c.in_ok-covers.ensures.room;
      found = more-places (λ e. (f : Set) → IsCover S.ring S.numbers S.arr e.0 f → Contains (keys c.covers_of.new.next) f) level k item c.entry-item.is inside
          (λ k d l f cover. c.in_ok-covers.ensures.grows f (inv.found k d l f cover))
          (λ f cover. All-contains (Contains (keys c.covers_of.new.next)) c.in_ok-covers.covers f c.in_ok-covers.ensures.added ((list.members f).1 cover));
      flats = map-last F (of_rank r) c.loop-entry.listed.items c.push.new.self.items (map F old) level k _ item new inv.flats inside c.entry-item.is refl;
      lists = all-last (λ (x : Covered). IsCoverList S.ring S.numbers S.arr x.flat.set x.covers) c.loop-entry.listed.items c.push.new.self.items _ new inv.lists list;
    }

pub returns-clause-level : goal.returns-clause-level
returns-clause-level g c =
    let S = affine_setting g.met.K.Field.field_laws g.met.K.FiniteField.numbering c.len-lawful.ensures.lawful in
    subst (IsLevel S.ring S.numbers S.arr (c.args.rank + 1)) (sym c.in_ok-entries_of.ensures)
    (level-next S c.args.rank c.args.level.now c.loop-entry.next.entries c.requires.level c.loop-entry.invariant.are
    (λ e at f cover. c.loop-entry.invariant.found at.0 e (omega (arith, at.1, c.loop-entry-test.false)) f (subst (λ x. IsCover S.ring S.numbers S.arr x.0 f) (sym at.2) cover)))

pub returns-clause-few : goal.returns-clause-few
returns-clause-few g c =
    let listed = c.loop-entry.listed.items in
    let old = c.args.listed.now.items in
    let level = c.args.level.now in
    let count : length listed ≡ length old + length level = map-count (λ (x : Covered). x.flat) (of_rank c.args.rank) listed old level
    (map-end (λ (x : Covered). x.flat) (of_rank c.args.rank) listed [] (map (λ (x : Covered). x.flat) old) level c.loop-entry.entry-index c.loop-entry.invariant.flats (omega (arith, c.loop-entry-test.false))) in
    let next = ap (λ (es : List (Set × List (List g.row.K.Denot))). length es) c.in_ok-entries_of.ensures in
    let before : c.len.result ≡ length old = omega (arith, c.len.ensures) in
    omega (arith, count, next, c.loop-entry.invariant.few, before, c.requires.few)

pub returns-clause-flats : goal.returns-clause-flats
returns-clause-flats g c =
    let S = affine_setting g.met.K.Field.field_laws g.met.K.FiniteField.numbering c.len-lawful.ensures.lawful in
    let old = map (λ (x : Covered). x.flat) c.args.listed.now.items in
    map-end (λ (x : Covered). x.flat) (of_rank c.args.rank) c.loop-entry.listed.items [] old c.args.level.now c.loop-entry.entry-index c.loop-entry.invariant.flats (omega (arith, c.loop-entry-test.false))
    ∙ listed-next S c.args.rank c.args.level.now c.requires.level old c.requires.flats
