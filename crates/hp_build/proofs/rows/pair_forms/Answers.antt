use Rattle.std.proofs.Common.{◌≡◌, ◌∷◌, [], IfOk, flat_map, subst, ◌∙◌}
use Rattle.hp_build.specs.Families.{difference, sum_form}
use Rattle.hp_build.proofs.rows.pair_forms.Goals as goal

pub returns : goal.returns
returns g c =
    let ring = g.K.Ring.ring in
    let l = c.args.l in
    subst (λ ends. IfOk c.differences_and_sums.result (λ forms. forms.items ≡ flat_map (λ e. difference ring l e.0 e.1 ∷ sum_form ring l e.0 e.1 ∷ []) ends)) (c.deref.ensures.value ∙ c.in_ok-ends.ensures) c.differences_and_sums.ensures
