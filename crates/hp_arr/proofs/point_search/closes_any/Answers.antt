use Rattle.std.proofs.Common.{◌++◌, [], ◌∷◌, List, subst, ◌∙◌}
use Rattle.std.proofs.lemmas.Bool.{false≢true}
use Rattle.std.proofs.lemmas.List.{take_all}
use Rattle.std.proofs.lemmas.List.Elements.{All-more}
use Rattle.hp_arr.specs.PointSearch.{IsClosed, NoneClosed}
use Rattle.hp_arr.proofs.point_search.closes_any.Goals as goal

pub loop-i-preserved : goal.loop-i-preserved
loop-i-preserved g c =
    let forms = c.args.forms.now in
    let next = c.args.prefix.now ++ c.args.v ∷ [] in
    let Open : List g.row.K.Denot → Type 0 = λ f. ¬ (IsClosed g.K.Ring.ring next f) in
    let not_closed : Open c.as_slice.result.now = λ h. false≢true (c.if-closes.ensures.1 h) in
    All-more Open forms c.loop-i.i c.index-forms-i.result c.loop-i-test.true c.loop-i.invariant (subst Open (c.as_slice.ensures ∙ c.index-forms-i.is) not_closed)

pub returns : goal.returns
returns g c =
    let next = c.args.prefix.now ++ c.args.v ∷ [] in
    let None : List (List g.row.K.Denot) → Type 0 = NoneClosed g.K.Ring.ring next in
    subst None (take_all c.loop-i.i c.args.forms.now c.loop-i-test.false) c.loop-i.invariant
