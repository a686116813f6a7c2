use Rattle.hp_flats.specs.Covers.{IsCoverList}
use Rattle.hp_flats.specs.Levels.{IsLevel, flats_below, values_of}
use Rattle.hp_arr.proofs.ConePoints.{affine_setting, coned}
use Rattle.std.proofs.Common.{◌≡◌, ◌+◌, List, [], ◌∷◌, ◌++◌, map, length, All, sym, ap, subst, ◌∙◌, arith}
use Rattle.std.proofs.lemmas.List.{length-map}
use Rattle.std.proofs.lemmas.List.Elements.{All-nil}
use Rattle.hp_lists.specs.Lists.{one_to}
use Rattle.hp_algebra.specs.Rows.{unit_row}
use Rattle.hp_sets.specs.Sets.{Set}
use Rattle.hp_sets.specs.declared.flat.Flat.{Flat}
use Rattle.hp_flats.specs.declared.levels.Covered.{Covered}
use Rattle.hp_flats.proofs.RankLevels.{level-start, below-all}
use Rattle.hp_flats.proofs.levels.flats_with_covers.Goals as goal

pub loop-rank-init : goal.loop-rank-init
loop-rank-init g c =
    let S = affine_setting g.met.K.Field.field_laws g.met.K.FiniteField.numbering c.dim-dim.ensures.lawful in
    let items : c.push.new.self.items ≡ ([], map (λ k. values_of S.ring (coned S) (unit_row S.ring (S.arr.dim + 1) k)) (one_to (S.arr.dim + 1))) ∷ [] =
    c.in_ok-push.ensures.items ∙ (λ i. c.new-level.ensures.items i ++ (c.empty.ensures.value i, c.in_ok-unit_values.ensures i) ∷ []) in
    let none : length c.new-listed.result.items ≡ 0 = ap (λ (xs : List Covered). length xs) c.new-listed.ensures.items in
    let one : length c.push.new.self.items ≡ 1 = ap (λ (xs : List (Set × List (List g.row.K.Denot))). length xs) items in
    record {
      is_level = subst (IsLevel S.ring S.numbers S.arr 0) (sym items) (level-start S);
      few = omega (arith, none, one);
      flats = ap (map (λ (x : Covered). x.flat)) c.new-listed.ensures.items;
      covers = subst (All (λ (x : Covered). IsCoverList S.ring S.numbers S.arr x.flat.set x.covers)) (sym c.new-listed.ensures.items) (All-nil (λ (x : Covered). IsCoverList S.ring S.numbers S.arr x.flat.set x.covers));
    }

pub returns-clause-flats : goal.returns-clause-flats
returns-clause-flats g c =
    let S = affine_setting g.met.K.Field.field_laws g.met.K.FiniteField.numbering c.dim-dim.ensures.lawful in
    let last : c.loop-rank.rank ≡ S.arr.dim + 1 = omega (arith, c.loop-rank-test.false, c.loop-rank.auto.rank-end, c.dim-dim.ensures.value) in
    c.loop-rank.invariant.flats ∙ ap (flats_below S.ring S.numbers S.arr) last ∙ below-all S

pub returns-clause-few : goal.returns-clause-few
returns-clause-few g c =
    let e = sym (length-map c.loop-rank.listed.items (λ (x : Covered). x.flat)) ∙ ap (λ (fs : List Flat). length fs) (returns-clause-flats g c) in
    omega (arith, e, c.loop-rank.invariant.few)
