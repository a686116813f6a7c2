use Rattle.std.proofs.Common.{sym, subst, IfOk, IfErr}
use Rattle.std.proofs.lemmas.Result.{IfOk-weaker}
use Rattle.hp_module.specs.ElimOrders.{elimination_order}
use Rattle.hp_groebner.specs.LimitRules.{NeverStops}
use Rattle.hp_groebner.specs.Runs.{IsJob, IsAnswer, IsRunStop, submodule}
use Rattle.hp_groebner.proofs.Jobs.{is-job, same-job, J as job_of}
use Rattle.hp_groebner.proofs.basis.groebner.Goals as goal

pub run-requires : goal.run-requires
run-requires g c =
    let s = c.in_ok-setting in
    let field = g.met.F.Field.field_laws in
    let a = c.args in
    subst IsJob (sym (same-job g.F.Ring.ring g.F.Field.inverse field a.split a.width a.limits.now a.gens.now s.setting s.ensures.order s.ensures.shifts s.ensures.limits))
    (is-job g.F.Ring.ring g.F.Field.inverse field a.split a.width a.limits.now a.gens.now c.requires.widths c.requires.generators c.requires.limits c.greatest_width-greatest.ensures)

pub returns-clause-split : goal.returns-clause-split
returns-clause-split g c =
    let s = c.in_ok-setting in
    let a = c.args in
    let same = same-job g.F.Ring.ring g.F.Field.inverse g.met.F.Field.field_laws a.split a.width a.limits.now a.gens.now s.setting s.ensures.order s.ensures.shifts s.ensures.limits in
    let J = job_of g.F.Ring.ring g.F.Field.inverse g.met.F.Field.field_laws a.split a.width a.limits.now a.gens.now in
    IfOk-weaker c.run.result (IsAnswer J) _ (λ b answer. answer.split) (subst (λ J. IfOk c.run.result (IsAnswer J)) same c.run.ensures.basis)

pub returns-clause-width : goal.returns-clause-width
returns-clause-width g c =
    let s = c.in_ok-setting in
    let a = c.args in
    let same = same-job g.F.Ring.ring g.F.Field.inverse g.met.F.Field.field_laws a.split a.width a.limits.now a.gens.now s.setting s.ensures.order s.ensures.shifts s.ensures.limits in
    let J = job_of g.F.Ring.ring g.F.Field.inverse g.met.F.Field.field_laws a.split a.width a.limits.now a.gens.now in
    IfOk-weaker c.run.result (IsAnswer J) _ (λ b answer. answer.width) (subst (λ J. IfOk c.run.result (IsAnswer J)) same c.run.ensures.basis)

pub returns-clause-reduced : goal.returns-clause-reduced
returns-clause-reduced g c =
    let s = c.in_ok-setting in
    let a = c.args in
    let same = same-job g.F.Ring.ring g.F.Field.inverse g.met.F.Field.field_laws a.split a.width a.limits.now a.gens.now s.setting s.ensures.order s.ensures.shifts s.ensures.limits in
    let J = job_of g.F.Ring.ring g.F.Field.inverse g.met.F.Field.field_laws a.split a.width a.limits.now a.gens.now in
    IfOk-weaker c.run.result (IsAnswer J) _ (λ b answer. answer.reduced) (subst (λ J. IfOk c.run.result (IsAnswer J)) same c.run.ensures.basis)

pub returns-clause-generates : goal.returns-clause-generates
returns-clause-generates g c =
    let s = c.in_ok-setting in
    let a = c.args in
    let same = same-job g.F.Ring.ring g.F.Field.inverse g.met.F.Field.field_laws a.split a.width a.limits.now a.gens.now s.setting s.ensures.order s.ensures.shifts s.ensures.limits in
    let J = job_of g.F.Ring.ring g.F.Field.inverse g.met.F.Field.field_laws a.split a.width a.limits.now a.gens.now in
    IfOk-weaker c.run.result (IsAnswer J) _ (λ b answer. answer.generates) (subst (λ J. IfOk c.run.result (IsAnswer J)) same c.run.ensures.basis)

pub returns-clause-degrees : goal.returns-clause-degrees
returns-clause-degrees g c =
    let s = c.in_ok-setting in
    let a = c.args in
    let same = same-job g.F.Ring.ring g.F.Field.inverse g.met.F.Field.field_laws a.split a.width a.limits.now a.gens.now s.setting s.ensures.order s.ensures.shifts s.ensures.limits in
    let J = job_of g.F.Ring.ring g.F.Field.inverse g.met.F.Field.field_laws a.split a.width a.limits.now a.gens.now in
    IfOk-weaker c.run.result (IsAnswer J) _ (λ b answer. answer.degrees) (subst (λ J. IfOk c.run.result (IsAnswer J)) same c.run.ensures.basis)

pub returns-clause-stop : goal.returns-clause-stop
returns-clause-stop g c =
    let s = c.in_ok-setting in
    let a = c.args in
    let same = same-job g.F.Ring.ring g.F.Field.inverse g.met.F.Field.field_laws a.split a.width a.limits.now a.gens.now s.setting s.ensures.order s.ensures.shifts s.ensures.limits in
    subst (λ J. IfErr c.run.result (IsRunStop J)) same c.run.ensures.stop

pub returns-clause-no_stop : goal.returns-clause-no_stop
returns-clause-no_stop g c =
    let s = c.in_ok-setting in
    let a = c.args in
    let same = same-job g.F.Ring.ring g.F.Field.inverse g.met.F.Field.field_laws a.split a.width a.limits.now a.gens.now s.setting s.ensures.order s.ensures.shifts s.ensures.limits in
    let J = job_of g.F.Ring.ring g.F.Field.inverse g.met.F.Field.field_laws a.split a.width a.limits.now a.gens.now in
    IfOk-weaker c.run.result (IsAnswer J) (λ b. NeverStops (elimination_order J.split) (submodule J) J.limits) (λ b answer. answer.no_stop)
    (subst (λ J. IfOk c.run.result (IsAnswer J)) same c.run.ensures.basis)
