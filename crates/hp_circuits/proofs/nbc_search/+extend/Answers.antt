use Rattle.std.proofs.Common.{rules, List, Vec, Global, ◌≤◌, ◌≡◌, ◌⊎◌, ◌<◌, ◌++◌, [], ◌∷◌, IfErr, IsTrue, IsFalse, All, filter, length, subst, inl, inr, sym, ap, ◌∙◌, arith}
use Rattle.std.proofs.lemmas.Result.{IfErr-weaker}
use Rattle.hp_circuits.specs.declared.stop.NbcStop.{NbcStop}
use Rattle.hp_circuits.specs.declared.stop.NbcStop.TheVariants.{Memory}
use Rattle.hp_algebra.specs.Rows.{IsRow, is_zero_row}
use Rattle.hp_sets.specs.Sets.{Set}
use Rattle.hp_sets.specs.declared.set.HSet.{HSet}
use Rattle.hp_circuits.specs.NbcSearch.{is_wanted, wanted_from, rows_below, are_nonzero}
use Rattle.hp_circuits.proofs.NbcSteps.{turn-stays, turn-more, turn-stops, first-stops, full-alone, some-has, none-is}
use Rattle.hp_circuits.proofs.nbc_search.+extend.Goals as goal
use Rattle.hp_circuits.proofs.nbc_search.+extend.Goals.{in-Some+in_ok-extend, in_default}

pub returns-in_err-put-clause-stop : goal.returns-in_err-put-clause-stop
returns-in_err-put-clause-stop g t c =
    let ring = g.K.Ring.ring in
    let w = c.args.wanted in
    let old = c.args.found.now.items in
    let rows = c.args.rows.now in
    let h : IfErr c.from_residual.result (λ (e : NbcStop). (e ≡ Memory) ⊎ (c.args.most < length (old ++ filter (is_wanted w) (c.args.set ∷ [])))) = search rules in
    IfErr-weaker c.from_residual.result
    (λ (e : NbcStop). (e ≡ Memory) ⊎ (c.args.most < length (old ++ filter (is_wanted w) (c.args.set ∷ []))))
    (λ (e : NbcStop). (e ≡ Memory) ⊎ (c.args.most < length (old ++ wanted_from ring g.K.Field.inverse w (length rows) c.args.set rows)))
    (λ e p. elim p [ inl m ↦ inl m | inr l ↦ inr (first-stops ring g.K.Field.inverse w c.args.set rows old c.args.most l) ]) h

pub returns-then-is_full-clause-value : goal.returns-then-is_full-clause-value
returns-then-is_full-clause-value g t c =
    let w = c.args.wanted in
    c.in_ok-put.ensures.value
    ∙ ap (λ (xs : List Set). c.args.found.now.items ++ xs) (full-alone g.K.Ring.ring g.K.Field.inverse w c.is_full.result (length c.args.rows.now) c.args.set c.args.rows.now c.is_full.ensures.none c.is_full.ensures.some c.if-is_full.true)

pub extend-requires : goal.extend-requires
extend-requires g t c κs within =
    let ring = g.K.Ring.ring in
    let m = c.loop-m.m in
    let below = c.in-Some.below.items in
    let dim = c.args.arr.now.dim in
    let long : length below ≡ m = some-has c.in_ok-below.field-0 c.in-Some.below (λ rest. length rest.items ≡ m) c.in-Some.is c.in_ok-below.ensures.long in
    let at = c.deref.ensures.value in
    let rows : All (IsRow ring dim) below = some-has c.in_ok-below.field-0 c.in-Some.below (λ rest. All (IsRow ring dim) rest.items) c.in-Some.is c.in_ok-below.ensures.rows in
    let nonzero : All (λ row. IsFalse (is_zero_row ring row)) below =
    some-has c.in_ok-below.field-0 c.in-Some.below (λ rest. All (λ row. IsFalse (is_zero_row ring row)) rest.items) c.in-Some.is c.in_ok-below.ensures.nonzero in
    let length_at : length c.deref.result.now ≡ m = ap (λ rest. length rest) at ∙ long in (
      search rules,
      (
        search rules,
        (
          subst (All (IsRow ring dim)) (sym at) rows,
          (
            subst (All (λ row. IsFalse (is_zero_row ring row))) (sym at) nonzero,
            (omega (arith, length_at, c.loop-m-test.true, c.requires.few), ((λ k d l. (let h = c.with_front-more.ensures.above k d l in omega (arith, h, length_at))), c.loop-m.invariant.room)),
          ),
        ),
      ),
    )

pub returns-in_err-extend-clause-stop : goal.returns-in_err-extend-clause-stop
returns-in_err-extend-clause-stop g t c =
    let ring = g.K.Ring.ring in
    let w = c.args.wanted in
    let m = c.loop-m.m in
    let old = c.args.found.now.items in
    let rows = c.args.rows.now in
    let below = c.in-Some.below.items in
    let now = c.loop-m.found.items in
    let front = c.with_front-more.result in
    let h : IfErr c.from_residual-in_err-extend.result (λ (e : NbcStop). (e ≡ Memory) ⊎ (c.args.most < length (now ++ wanted_from ring g.K.Field.inverse w (length below) front below))) = search rules in
    IfErr-weaker c.from_residual-in_err-extend.result
    (λ (e : NbcStop). (e ≡ Memory) ⊎ (c.args.most < length (now ++ wanted_from ring g.K.Field.inverse w (length below) front below)))
    (λ (e : NbcStop). (e ≡ Memory) ⊎ (c.args.most < length (old ++ wanted_from ring g.K.Field.inverse w (length rows) c.args.set rows)))
    (λ e p. elim p [
      | inl m ↦ inl m
      | inr l ↦ inr (turn-stops ring g.K.Field.inverse w m c.args.set front rows below old now c.with_front-more.ensures.value
          (some-has c.in_ok-below.field-0 c.in-Some.below (λ rest. rest.items ≡ rows_below ring g.K.Field.inverse m rows) c.in-Some.is c.in_ok-below.ensures.some)
          (some-has c.in_ok-below.field-0 c.in-Some.below (λ rest. length rest.items ≡ m) c.in-Some.is c.in_ok-below.ensures.long)
          (some-has c.in_ok-below.field-0 c.in-Some.below (λ rest. IsTrue (are_nonzero ring (rows_below ring g.K.Field.inverse m rows))) c.in-Some.is c.in_ok-below.ensures.free)
          c.loop-m.invariant.found c.args.most c.loop-m-test.true l)
    ]) h

pub loop-m-preserved : goal.loop-m-preserved
loop-m-preserved g t c = elim c.match-branch-3.branch [
  | in-Some+in_ok-extend w ↦ (
      let ring = g.K.Ring.ring in
      let inverse = g.K.Field.inverse in
      let m = c.loop-m.m in
      let rows = c.args.rows.now in
      let rest = c.in_ok-below.field-0 in
      let below = w.in-Some.below in
      let says = c.in_ok-below.ensures in
      let is = ap (λ (f : Vec HSet Global). f.items) w.found-is in
      record {
        found = is ∙ turn-more ring inverse c.args.wanted m c.args.set w.with_front-more.result rows w.deref.result.now c.args.found.now.items c.loop-m.found.items w.with_front-more.ensures.value
            (w.deref.ensures.value ∙ some-has rest below (λ rest. rest.items ≡ rows_below ring inverse m rows) w.in-Some.is says.some)
            (ap (λ (xs : List (List g.row.K.Denot)). length xs) w.deref.ensures.value ∙ some-has rest below (λ rest. length rest.items ≡ m) w.in-Some.is says.long)
            (some-has rest below (λ rest. IsTrue (are_nonzero ring (rows_below ring inverse m rows))) w.in-Some.is says.free)
            c.loop-m.invariant.found w.extend.new.found.items w.in_ok-extend.ensures.value;
        room = subst (λ (xs : List Set). length xs ≤ c.args.most) (sym is) w.in_ok-extend.ensures.room;
      })
  | in_default w ↦ (
      let m = c.loop-m.m in
      let rows = c.args.rows.now in
      let is = ap (λ (f : Vec HSet Global). f.items) w.found-is in
      record {
        found = is ∙ turn-stays g.K.Ring.ring g.K.Field.inverse c.args.wanted m c.args.set rows c.args.found.now.items c.loop-m.found.items
            (c.in_ok-below.ensures.none (none-is c.in_ok-below.field-0 w.in_default.is)) c.loop-m.invariant.found;
        room = subst (λ (xs : List Set). length xs ≤ c.args.most) (sym is) c.loop-m.invariant.room;
      })
]
