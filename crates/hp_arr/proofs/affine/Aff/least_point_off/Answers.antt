use Rattle.std.proofs.Common.{◌≡◌, [], ◌∷◌, ◌+◌, ◌<◌, ◌++◌, List, All, map, drop, length, sym, ap, ◌∙◌, subst, inr, arith, refl, length-append}
use Rattle.std.specs.Prelude.{remove}
use Rattle.std.proofs.lemmas.List.{length-drop}
use Rattle.std.proofs.lemmas.List.Elements.{All-nil, All-cons, All-tail, All-push}
use Rattle.hp_algebra.specs.Rows.{IsRow}
use Rattle.hp_arr.specs.Arrangement.{IsLeastPointOff}
use Rattle.hp_arr.specs.PointSearch.{constant_first, IsNext, NoneClosed}
use Rattle.hp_arr.proofs.LeastPoint.{IsOff, NoLater, next_no_later}
use Rattle.hp_arr.proofs.ConePoints.{AffineSetting}
use Rattle.hp_arr.proofs.AffineLeastPoint.{turned-rows, one_closes_none, begins-more, affine-least_is, affine-least_exists}
use Rattle.hp_arr.proofs.affine.Aff.least_point_off.Goals as goal

pub returns-in_err-turned-clause-exists : goal.returns-in_err-turned-clause-exists
returns-in_err-turned-clause-exists g c =
    let A : AffineSetting g.row.K.Denot = record {
      ring = g.K.Ring.ring;
      inverse = g.K.Field.inverse;
      numbers = g.K.FiniteField.numbers;
      arr = c.args.self.now;
      field = g.met.K.Field.field_laws;
      num = g.met.K.FiniteField.numbering;
      lawful = c.dim-dim.ensures.lawful;
    } in
    affine-least_exists A

pub returns-in_err-push-clause-exists : goal.returns-in_err-push-clause-exists
returns-in_err-push-clause-exists g c =
    let A : AffineSetting g.row.K.Denot = record {
      ring = g.K.Ring.ring;
      inverse = g.K.Field.inverse;
      numbers = g.K.FiniteField.numbers;
      arr = c.args.self.now;
      field = g.met.K.Field.field_laws;
      num = g.met.K.FiniteField.numbering;
      lawful = c.dim-dim.ensures.lawful;
    } in
    affine-least_exists A

pub returns-in_err-push-2-clause-exists : goal.returns-in_err-push-2-clause-exists
returns-in_err-push-2-clause-exists g c =
    let A : AffineSetting g.row.K.Denot = record {
      ring = g.K.Ring.ring;
      inverse = g.K.Field.inverse;
      numbers = g.K.FiniteField.numbers;
      arr = c.args.self.now;
      field = g.met.K.Field.field_laws;
      num = g.met.K.FiniteField.numbering;
      lawful = c.dim-dim.ensures.lawful;
    } in
    affine-least_exists A

pub returns-clause-exists : goal.returns-clause-exists
returns-clause-exists g c =
    let A : AffineSetting g.row.K.Denot = record {
      ring = g.K.Ring.ring;
      inverse = g.K.Field.inverse;
      numbers = g.K.FiniteField.numbers;
      arr = c.args.self.now;
      field = g.met.K.Field.field_laws;
      num = g.met.K.FiniteField.numbering;
      lawful = c.dim-dim.ensures.lawful;
    } in
    affine-least_exists A

pub loop-init : goal.loop-init
loop-init g c =
    let A : AffineSetting g.row.K.Denot = record {
      ring = g.K.Ring.ring;
      inverse = g.K.Field.inverse;
      numbers = g.K.FiniteField.numbers;
      arr = c.args.self.now;
      field = g.met.K.Field.field_laws;
      num = g.met.K.FiniteField.numbering;
      lawful = c.dim-dim.ensures.lawful;
    } in
    let ring = g.K.Ring.ring in
    let start : c.push.new.self.items ≡ ring.one ∷ [] = c.in_ok-push.ensures.items ∙ (λ j. c.new-point.ensures.items j ++ c.unit.ensures.value j ∷ []) in
    rw start (record {
      count = refl;
      begins = refl;
      values = All-cons ring.IsValue ring.one [] g.met.K.Ring.ring_laws.one_value (All-nil ring.IsValue);
      none_closed = subst (NoneClosed ring (ring.one ∷ [])) (sym c.in_ok-turned.ensures) (one_closes_none A);
      earliest = λ y point off. inr (refl, tt);
    })

pub next_coordinate-next-requires-clause-room : goal.next_coordinate-next-requires-clause-room
next_coordinate-next-requires-clause-room g c =
    let A : AffineSetting g.row.K.Denot = record {
      ring = g.K.Ring.ring;
      inverse = g.K.Field.inverse;
      numbers = g.K.FiniteField.numbers;
      arr = c.args.self.now;
      field = g.met.K.Field.field_laws;
      num = g.met.K.FiniteField.numbering;
      lawful = c.dim-dim.ensures.lawful;
    } in
    let ring = g.K.Ring.ring in
    let Fits : List g.row.K.Denot → Type 0 = λ f. (length f ≡ c.args.self.now.dim + 1) × All ring.IsValue f in
    let rows : All Fits c.in_ok-turned.turned.items = subst (All Fits) (sym c.in_ok-turned.ensures) (turned-rows A) in
    let count = c.loop.invariant.count in
    rw (c.deref.ensures.value, c.deref-in-loop.ensures.value) (record {
      values = λ k d h. (rows k d h).1;
      prefix_values = c.loop.invariant.values;
      longer = λ k d h. (let width = (rows k d h).0 in omega (arith, width, count, c.loop-test.true, c.dim-dim.ensures.value));
    })

pub loop-preserved : goal.loop-preserved
loop-preserved g c =
    let laws = g.met.K.Ring.ring_laws in
    let ring = g.K.Ring.ring in
    let point = c.loop.point.items in
    let v = c.next_coordinate-next.result in
    let turned = c.in_ok-turned.turned.items in
    let count = c.loop.invariant.count in
    let next : IsNext ring g.K.FiniteField.numbers point turned v =
    rw (← c.deref.ensures.value, ← c.deref-in-loop.ensures.value) c.next_coordinate-next.ensures in
    rw c.in_ok-push-2.ensures.items (record {
      count = length-append point (v ∷ []) ∙ ap (λ n. n + 1) c.loop.invariant.count;
      begins = begins-more ring.one point (v ∷ []) c.loop.invariant.begins;
      values = All-push ring.IsValue point v c.loop.invariant.values next.value;
      none_closed = next.none_closed;
      earliest = λ y row off. next_no_later laws g.met.K.Domain.domain_laws g.met.K.FiniteField.numbering point (ring.one ∷ y) turned v next
          (All-cons ring.IsValue ring.one y laws.one_value row.1) off
          (let width = row.0 in let shorter : length point < length (ring.one ∷ y) = omega (arith, width, count, c.loop-test.true) in shorter) (c.loop.invariant.earliest y row off);
    })

pub returns-clause-least : goal.returns-clause-least
returns-clause-least g c =
    let A : AffineSetting g.row.K.Denot = record {
      ring = g.K.Ring.ring;
      inverse = g.K.Field.inverse;
      numbers = g.K.FiniteField.numbers;
      arr = c.args.self.now;
      field = g.met.K.Field.field_laws;
      num = g.met.K.FiniteField.numbering;
      lawful = c.dim-dim.ensures.lawful;
    } in
    let ring = g.K.Ring.ring in
    let numbers = g.K.FiniteField.numbers in
    let arr = c.args.self.now in
    let point = c.loop.point.items in
    let x = drop 1 point in
    let begins : point ≡ ring.one ∷ x = c.loop.invariant.begins in
    let count = c.loop.invariant.count in
    let left : c.remove.new.self.items ≡ x = c.remove.ensures.items ∙ ap (λ p. remove p 0) begins in
    let width : length x ≡ arr.dim = (let e = length-drop 1 point in omega (arith, e, count, c.loop-test.false, c.loop.auto.counter-end, c.dim-dim.ensures.value)) in
    subst (IsLeastPointOff ring numbers arr) (sym left) (affine-least_is A x (width, All-tail ring.IsValue ring.one x (subst (All ring.IsValue) begins c.loop.invariant.values))
    (subst (λ p. NoneClosed ring p (map (constant_first ring arr.dim) arr.forms)) begins (subst (NoneClosed ring point) c.in_ok-turned.ensures c.loop.invariant.none_closed))
    (λ y row off. subst (λ p. NoLater numbers p (ring.one ∷ y)) begins (c.loop.invariant.earliest y (subst (λ d. IsRow ring d y) (sym c.dim-dim.ensures.value) row) (subst (λ t. IsOff ring t (ring.one ∷ y)) (sym c.in_ok-turned.ensures) off))))
