use Rattle.std.proofs.Common.{◌≡◌, [], ◌∷◌, ◌+◌, ◌<◌, length, ap, ◌∙◌, arith, refl, length-append}
use Rattle.std.proofs.lemmas.List.Elements.{All-nil, All-push}
use Rattle.hp_arr.specs.PointSearch.{IsNext}
use Rattle.hp_arr.proofs.LeastPoint.{next_no_later, least_is, none_closed_at_first}
use Rattle.hp_arr.proofs.LeastPointExists.{least_exists}
use Rattle.hp_arr.proofs.arrangement.Arr.least_point_off.Goals as goal

pub loop-init : goal.loop-init
loop-init g c =
    let laws = g.met.K.Ring.ring_laws in
    let ring = g.K.Ring.ring in
    let forms = ap (λ a. a.forms) c.self.view_is in
    rw c.new-point.ensures.items (record {
      count = refl;
      values = All-nil ring.IsValue;
      none_closed = rw (← forms) (none_closed_at_first laws _ (λ k d h. (c.self.invariant.rows k d h).1) c.self.invariant.no_zero);
      earliest = λ y point off. tt;
    })

pub next_coordinate-next-requires-clause-room : goal.next_coordinate-next-requires-clause-room
next_coordinate-next-requires-clause-room g c =
    rw (c.deref.ensures.value, c.deref-in-loop.ensures.value) (record {
      values = λ k d h. (c.self.invariant.rows k d h).1;
      prefix_values = c.loop.invariant.values;
      longer = λ k d h. (let width = (c.self.invariant.rows k d h).0 in omega (arith, width));
    })

pub next_coordinate-next-requires-clause-none_closed : goal.next_coordinate-next-requires-clause-none_closed
next_coordinate-next-requires-clause-none_closed g c =
    let forms = ap (λ a. a.forms) c.self.view_is in
    rw (c.deref.ensures.value, c.deref-in-loop.ensures.value, forms) c.loop.invariant.none_closed

pub loop-preserved : goal.loop-preserved
loop-preserved g c =
    let laws = g.met.K.Ring.ring_laws in
    let ring = g.K.Ring.ring in
    let point = c.loop.point.items in
    let v = c.next_coordinate-next.result in
    let forms : c.self.inside.forms.items ≡ c.args.self.now.forms = ap (λ a. a.forms) c.self.view_is in
    let dim : c.self.inside.dim ≡ c.args.self.now.dim = ap (λ a. a.dim) c.self.view_is in
    let next : IsNext ring g.K.FiniteField.numbers point c.args.self.now.forms v =
    rw (← forms, ← c.deref.ensures.value, ← c.deref-in-loop.ensures.value) c.next_coordinate-next.ensures in
    let before : length point < c.args.self.now.dim = omega (arith, dim) in
    rw c.in_ok-push.ensures.items (record {
      count = length-append point (v ∷ []) ∙ ap (λ n. n + 1) c.loop.invariant.count;
      values = All-push ring.IsValue point v c.loop.invariant.values next.value;
      none_closed = next.none_closed;
      earliest = λ y row off. next_no_later laws g.met.K.Domain.domain_laws g.met.K.FiniteField.numbering point y c.args.self.now.forms v next row.1 off (let width = row.0 in let shorter : length point < length y = omega (arith, width, before) in shorter) (c.loop.invariant.earliest y row off);
    })

pub returns-clause-least : goal.returns-clause-least
returns-clause-least g c =
    let laws = g.met.K.Ring.ring_laws in
    let dim : c.self.inside.dim ≡ c.args.self.now.dim = ap (λ a. a.dim) c.self.view_is in
    let count = c.loop.invariant.count in
    let width : length c.loop.point.items ≡ c.args.self.now.dim = omega (arith, dim, count) in
    least_is laws c.args.self.now (rw c.self.view_is at c.self.invariant) c.loop.point.items (width, c.loop.invariant.values) c.loop.invariant.none_closed c.loop.invariant.earliest

pub returns-clause-exists : goal.returns-clause-exists
returns-clause-exists g c =
    least_exists g.met.K.Ring.ring_laws g.met.K.Domain.domain_laws g.met.K.FiniteField.numbering c.args.self.now (rw c.self.view_is at c.self.invariant)

pub returns-in_err-push-clause-exists : goal.returns-in_err-push-clause-exists
returns-in_err-push-clause-exists g c =
    least_exists g.met.K.Ring.ring_laws g.met.K.Domain.domain_laws g.met.K.FiniteField.numbering c.args.self.now (rw c.self.view_is at c.self.invariant)
