use Rattle.std.proofs.Common.{◌≡◌, ◌<◌, ◌+◌, ◌-◌, true, false, ℕ, suc, List, ◌∷◌, All, IsFalse, IsTrue, length, sym, ap, subst, ◌∙◌, arith}
use Rattle.hp_algebra.specs.Rows.{IsRow, is_zero_row}
use Rattle.hp_matroid.proofs.RisingLists.{above}
use Rattle.hp_arr.proofs.Setting.{setting}
use Rattle.hp_circuits.specs.NbcSearch.{row_at, rows_below, are_nonzero}
use Rattle.hp_circuits.proofs.BrokenSteps.{part-starts, part-over, part-skips, part-takes, part-breaks}
use Rattle.hp_circuits.proofs.NbcRows.{IsNbcWith}
use Rattle.hp_circuits.proofs.NbcSteps.{some-has, none-is}
use Rattle.hp_circuits.proofs.NbcWalk.{walk-starts, walk-skips, walk-takes, walk-ends}
use Rattle.hp_sets.specs.Sets.{Set, contains}
use Rattle.hp_circuits.proofs.broken.broken_part.Goals as goal

last : (k m : ℕ) → m < k → suc (k - 1) ≡ k
last k m l = omega (arith, l)

turn : (k : ℕ) → 0 < k → (k - 1) + 1 ≡ suc (k - 1)
turn k l = omega (arith, l)

pub loop-m-init : goal.loop-m-init
loop-m-init g c =
    let ring = g.K.Ring.ring in
    let lawful = c.len-m.ensures.lawful in
    let rows = c.in_ok-rows.rows.items in
    let s = c.args.s in
    record {
      walked = λ given. (
          let S = setting g.met.K.Field.field_laws g.met.K.FiniteField.numbering given in
          subst (λ k. IsNbcWith S (above k s) k rows) (sym c.len-m.ensures.value) (walk-starts S s c.requires rows c.in_ok-rows.ensures));
      members = (
          let S = setting g.met.K.Field.field_laws g.met.K.FiniteField.numbering lawful in
          c.empty-part.ensures.value ∙ sym (part-starts S s c.requires) ∙ ap (λ k. above k s) (sym c.len-m.ensures.value));
      rows = subst (All (IsRow ring c.args.arr.now.dim)) (sym c.in_ok-rows.ensures) lawful.rows;
      nonzero = subst (All (λ row. IsFalse (is_zero_row ring row))) (sym c.in_ok-rows.ensures) lawful.no_zero;
    }

pub loop-m-preserved-then-not-contains : goal.loop-m-preserved-then-not-contains
loop-m-preserved-then-not-contains g c =
    let k = c.loop-m.m in
    let s = c.args.s in
    let rows = c.loop-m.rows.items in
    let out : contains s (suc (k - 1)) ≡ false = ap (contains s) (sym (turn k c.loop-m-test.true)) ∙ sym c.contains.ensures.value ∙ c.if-not-contains.true in
    let back = last k 0 c.loop-m-test.true in
    let lawful = c.len-m.ensures.lawful in
    record {
      walked = λ given. (
          let S = setting g.met.K.Field.field_laws g.met.K.FiniteField.numbering given in
          walk-skips S s c.requires (k - 1) rows out (subst (λ j. IsNbcWith S (above j s) j rows) (sym back) (c.loop-m.invariant.walked given)));
      members = (
          let S = setting g.met.K.Field.field_laws g.met.K.FiniteField.numbering lawful in
          part-skips S s c.requires (k - 1) c.loop-m.part out (c.loop-m.invariant.members ∙ ap (λ j. above j s) (sym back)));
      rows = c.loop-m.invariant.rows;
      nonzero = c.loop-m.invariant.nonzero;
    }

pub with_front-longer-requires-clause-above : goal.with_front-longer-requires-clause-above
with_front-longer-requires-clause-above g c =
    let S = setting g.met.K.Field.field_laws g.met.K.FiniteField.numbering c.len-m.ensures.lawful in
    let k = c.loop-m.m in
    let s = c.args.s in
    let same : k ≡ (k - 1) + 1 = sym (last k 0 c.loop-m-test.true) ∙ sym (turn k c.loop-m-test.true) in
    part-over S s c.requires ((k - 1) + 1) c.loop-m.part (c.loop-m.invariant.members ∙ ap (λ j. above j s) same)

pub remainders_below-requires-clause-within : goal.remainders_below-requires-clause-within
remainders_below-requires-clause-within g c =
    let H = c.loop-m.invariant.walked c.len-m.ensures.lawful in
    let long = H.long in
    let e = ap (λ (xs : List (List g.row.K.Denot)). length xs) c.deref.ensures.value in
    omega (arith, long, e, c.loop-m-test.true)

pub loop-m-preserved : goal.loop-m-preserved
loop-m-preserved g c =
    let ring = g.K.Ring.ring in
    let k = c.loop-m.m in
    let s = c.args.s in
    let rows = c.loop-m.rows.items in
    let rest = c.in_ok-below.field-0 in
    let below = c.in-Some.below in
    let says = c.in_ok-below.ensures in
    let at = c.deref.ensures.value in
    let in_set : contains s (suc (k - 1)) ≡ true = ap (contains s) (sym (turn k c.loop-m-test.true)) ∙ sym c.contains.ensures.value ∙ c.if-not-contains.false in
    let made : below.items ≡ rows_below ring g.K.Field.inverse (k - 1) rows =
    some-has rest below (λ rest. rest.items ≡ rows_below ring g.K.Field.inverse (k - 1) c.deref.result.now) c.in-Some.is says.some ∙ ap (rows_below ring g.K.Field.inverse (k - 1)) at in
    let free : are_nonzero ring (rows_below ring g.K.Field.inverse (k - 1) rows) ≡ true =
    ap (λ xs. are_nonzero ring (rows_below ring g.K.Field.inverse (k - 1) xs)) (sym at)
    ∙ some-has rest below (λ rest. IsTrue (are_nonzero ring (rows_below ring g.K.Field.inverse (k - 1) c.deref.result.now))) c.in-Some.is says.free in
    let back = last k 0 c.loop-m-test.true in
    let lawful = c.len-m.ensures.lawful in
    record {
      walked = λ given. (
          let S = setting g.met.K.Field.field_laws g.met.K.FiniteField.numbering given in
          walk-takes S s c.requires (k - 1) rows below.items in_set made free (subst (λ j. IsNbcWith S (above j s) j rows) (sym back) (c.loop-m.invariant.walked given)));
      members = (
          let S = setting g.met.K.Field.field_laws g.met.K.FiniteField.numbering lawful in
          part-takes S s c.requires (k - 1) c.with_front-longer.result in_set
          (c.with_front-longer.ensures.value ∙ (λ i. turn k c.loop-m-test.true i ∷ (c.loop-m.invariant.members ∙ ap (λ j. above j s) (sym back)) i)));
      rows = some-has rest below (λ rest. All (IsRow ring c.args.arr.now.dim) rest.items) c.in-Some.is says.rows;
      nonzero = some-has rest below (λ rest. All (λ row. IsFalse (is_zero_row ring row)) rest.items) c.in-Some.is says.nonzero;
    }

pub first_zero-requires-clause-within : goal.first_zero-requires-clause-within
first_zero-requires-clause-within g c =
    let H = c.loop-m.invariant.walked c.len-m.ensures.lawful in
    let long = H.long in
    let e = ap (λ (xs : List (List g.row.K.Denot)). length xs) c.deref-in-None.ensures.value in
    omega (arith, long, e, c.loop-m-test.true)

pub first_zero-requires-clause-zero : goal.first_zero-requires-clause-zero
first_zero-requires-clause-zero g c =
    let ring = g.K.Ring.ring in
    let k = c.loop-m.m in
    ap (λ xs. are_nonzero ring (rows_below ring g.K.Field.inverse (k - 1) xs)) (c.deref-in-None.ensures.value ∙ sym c.deref.ensures.value)
    ∙ c.in_ok-below.ensures.none (none-is c.in_ok-below.field-0 c.in-None.is)

pub returns-in-None-clause-some : goal.returns-in-None-clause-some
returns-in-None-clause-some g c =
    let S = setting g.met.K.Field.field_laws g.met.K.FiniteField.numbering c.len-m.ensures.lawful in
    let ring = g.K.Ring.ring in
    let inverse = g.K.Field.inverse in
    let k = c.loop-m.m in
    let s = c.args.s in
    let rows = c.loop-m.rows.items in
    let at = c.deref-in-None.ensures.value in
    let back = last k 0 c.loop-m-test.true in
    let in_set : contains s (suc (k - 1)) ≡ true = ap (contains s) (sym (turn k c.loop-m-test.true)) ∙ sym c.contains.ensures.value ∙ c.if-not-contains.false in
    part-breaks S s c.requires (k - 1) c.in_ok-k-in-None.k rows c.with_front-longer.result in_set
    (part-takes S s c.requires (k - 1) c.with_front-longer.result in_set
    (c.with_front-longer.ensures.value ∙ (λ i. turn k c.loop-m-test.true i ∷ (c.loop-m.invariant.members ∙ ap (λ j. above j s) (sym back)) i)))
    (subst (λ j. IsNbcWith S (above j s) j rows) (sym back) (c.loop-m.invariant.walked c.len-m.ensures.lawful))
    c.in_ok-k-in-None.ensures.below
    (subst (λ (xs : List (List g.row.K.Denot)). IsTrue (is_zero_row ring (row_at (rows_below ring inverse (k - 1) xs) c.in_ok-k-in-None.k))) at c.in_ok-k-in-None.ensures.zero)
    (subst (λ (xs : List (List g.row.K.Denot)). (j : ℕ) → j < c.in_ok-k-in-None.k → IsFalse (is_zero_row ring (row_at (rows_below ring inverse (k - 1) xs) j))) at c.in_ok-k-in-None.ensures.first)

pub returns-clause-none : goal.returns-clause-none
returns-clause-none g c =
    let S = setting g.met.K.Field.field_laws g.met.K.FiniteField.numbering c.len-m.ensures.lawful in
    let end : c.loop-m.m ≡ 0 = omega (arith, c.loop-m-test.false) in
    λ _. walk-ends S c.args.s c.requires c.loop-m.rows.items (subst (λ j. IsNbcWith S (above j c.args.s) j c.loop-m.rows.items) end (c.loop-m.invariant.walked c.len-m.ensures.lawful))
