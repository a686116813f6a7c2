use Rattle.std.proofs.Common.{◌≡◌, IfOk, map, subst, ◌∙◌}
use Rattle.hp_build.specs.Families.{difference}
use Rattle.hp_build.proofs.rows.braid_forms.Goals as goal

pub returns : goal.returns
returns g c =
    subst (λ ends. IfOk c.differences.result (λ forms. forms.items ≡ map (λ e. difference g.K.Ring.ring c.args.l e.0 e.1) ends)) (c.deref.ensures.value ∙ c.in_ok-ends.ensures) c.differences.ensures
