use Rattle.std.proofs.Common.{◌<◌, ◌++◌, [], ◌∷◌, ℕ, Any, length, subst, arith, below_more}
use Rattle.hp_arr.specs.PointSearch.{IsClosed}
use Rattle.hp_arr.proofs.LeastPoint.{some_open, next_is}
use Rattle.hp_arr.proofs.point_search.next_coordinate.Goals as goal

pub returns-then-not-closes_any : goal.returns-then-not-closes_any
returns-then-not-closes_any g c =
    let below : c.loop-k.k < g.K.FiniteField.numbers.order = omega (arith, g.met.K.FiniteField.order, c.requires.few) in
    next_is g.met.K.Ring.ring_laws g.met.K.Domain.domain_laws g.met.K.FiniteField.numbering c.args.prefix.now c.args.forms.now c.loop-k.k c.nth-v.result below c.nth-v.ensures.value c.if-not-closes_any.ensures c.loop-k.invariant

pub loop-k-preserved : goal.loop-k-preserved
loop-k-preserved g c =
    let prefix = c.args.prefix.now in
    let P : ℕ → Type 0 = λ w. Any (IsClosed g.K.Ring.ring (prefix ++ g.K.FiniteField.numbers.nth w ∷ [])) c.args.forms.now in
    let Q : g.row.K.Denot → Type 0 = λ v. Any (IsClosed g.K.Ring.ring (prefix ++ v ∷ [])) c.args.forms.now in
    below_more P c.loop-k.k c.loop-k.invariant (subst Q c.nth-v.ensures.value c.if-not-closes_any.ensures)

pub unreachable-requires : goal.unreachable-requires
unreachable-requires g c =
    let few : length c.args.forms.now < g.K.FiniteField.numbers.order = omega (arith, g.met.K.FiniteField.order, c.requires.few) in
    some_open g.met.K.Ring.ring_laws g.met.K.Domain.domain_laws g.met.K.FiniteField.numbering c.args.prefix.now c.args.forms.now c.requires.room c.requires.none_closed few (λ v h. c.loop-k.invariant v (omega arith))
