use Rattle.hp_arr.specs.Flats.{rank, flats_of_rank}
use Rattle.hp_flats.specs.Levels.{IsEntry, AreOfRank}
use Rattle.hp_arr.proofs.ConePoints.{affine_setting}
use Rattle.hp_flats.proofs.CoverPuts.{put-keys, put-there, put-next, put-many}
use Rattle.std.proofs.Common.{◌≡◌, ◌↔◌, ◌⊎◌, ◌<◌, length, Contains, sym, subst, ◌∙◌, arith, inl, inr}
use Rattle.std.specs.BTreeMap.{insert_entry}
use Rattle.std.specs.List.Sorted.{IsStrictlySortedBy}
use Rattle.std.specs.Map.{keys_of}
use Rattle.hp_sets.specs.Sets.{Set, cmp_listed}
use Rattle.hp_lists.proofs.Members.{not_both}
use Rattle.hp_flats.proofs.covers.put.Goals as goal

pub returns-then-contains_key-clause-keys : goal.returns-then-contains_key-clause-keys
returns-then-contains_key-clause-keys g c =
    let es = c.args.next.now.entries in
    let cover = c.args.cover in
    let there : Contains (keys_of es) cover = (put-there es cover c.args.rows.now).0 (sym c.contains_key.ensures ∙ c.if-contains_key.true) in
    λ h. ((λ d. inl d), λ d. elim d [ inl k ↦ k | inr e ↦ subst (Contains (keys_of es)) e there ])

pub returns-then-len-room-clause-stop : goal.returns-then-len-room-clause-stop
returns-then-len-room-clause-stop g c =
    let es = c.args.next.now.entries in
    let arr = c.args.aff.now in
    let r = rank g.K.Ring.ring g.K.FiniteField.numbers arr c.args.cover in
    let S = affine_setting g.met.K.Field.field_laws g.met.K.FiniteField.numbering c.len-lawful.ensures.lawful in
    let there = put-there es c.args.cover c.args.rows.now in
    let many : length es < length (flats_of_rank g.K.Ring.ring g.K.FiniteField.numbers arr r) =
    put-many S r es c.args.cover _ c.requires.next c.requires.entry (λ d. absurd (not_both _ (there.1 d) (sym c.contains_key.ensures ∙ c.if-contains_key.false))) in
    inr (omega (arith, many, c.if-len-room.true, c.len.ensures.len))

pub returns-clause-next : goal.returns-clause-next
returns-clause-next g c =
    let es = c.args.next.now.entries in
    let cover = c.args.cover in
    let arr = c.args.aff.now in
    let rows = c.in_ok-reduced_values.field-0 in
    let r = rank g.K.Ring.ring g.K.FiniteField.numbers arr cover in
    let S = affine_setting g.met.K.Field.field_laws g.met.K.FiniteField.numbering c.len-lawful.ensures.lawful in
    let e : c.insert.new.self.entries ≡ insert_entry cmp_listed es cover rows = c.in_ok-insert.ensures.entries in
    let is = subst (IsEntry g.K.Ring.ring g.K.FiniteField.numbers arr r cover) (sym c.in_ok-reduced_values.ensures) c.requires.entry in
    subst (AreOfRank g.K.Ring.ring g.K.FiniteField.numbers arr r) (sym e)
    (put-next S r es cover rows c.requires.next is (subst (λ ks. IsStrictlySortedBy cmp_listed (keys_of ks)) e c.in_ok-insert.ensures.ordered))

pub returns-clause-keys : goal.returns-clause-keys
returns-clause-keys g c =
    let es = c.args.next.now.entries in
    let rows = c.in_ok-reduced_values.field-0 in
    let e : c.insert.new.self.entries ≡ insert_entry cmp_listed es c.args.cover rows = c.in_ok-insert.ensures.entries in
    subst (λ ks. (g : Set) → Contains (keys_of ks) g ↔ (Contains (keys_of es) g ⊎ (c.args.cover ≡ g))) (sym e) (put-keys es c.args.cover rows)
