use Rattle.std.proofs.Common.{rules, ◌≡◌, ◌⊎◌, ◌<◌, ◌++◌, IfErr, filter, length, inl, inr, ◌∙◌}
use Rattle.std.proofs.lemmas.Result.{IfErr-weaker}
use Rattle.hp_arr.specs.Circuits.{nbc_sets}
use Rattle.hp_arr.proofs.Setting.{setting}
use Rattle.hp_circuits.specs.declared.stop.NbcStop.{NbcStop}
use Rattle.hp_circuits.specs.declared.stop.NbcStop.TheVariants.{Memory}
use Rattle.hp_circuits.specs.NbcSearch.{is_wanted, wanted_from}
use Rattle.hp_circuits.proofs.NbcListed.{after-sorted, after-few, after-stops}
use Rattle.hp_circuits.proofs.nbc_search.wanted_sets.Goals as goal

pub returns-in_err-extend-clause-stop : goal.returns-in_err-extend-clause-stop
returns-in_err-extend-clause-stop g c =
    let S = setting g.met.K.Field.field_laws g.met.K.FiniteField.numbering c.len-lawful.ensures.lawful in
    let w = c.args.wanted in
    let rows = c.deref.result.now in
    let old = c.new-found.result.items in
    let h : IfErr c.from_residual-in_err-extend.result (λ (e : NbcStop). (e ≡ Memory) ⊎ (c.args.most < length (old ++ wanted_from g.K.Ring.ring g.K.Field.inverse w (length rows) c.empty.result rows))) = search rules in
    IfErr-weaker c.from_residual-in_err-extend.result
    (λ (e : NbcStop). (e ≡ Memory) ⊎ (c.args.most < length (old ++ wanted_from g.K.Ring.ring g.K.Field.inverse w (length rows) c.empty.result rows)))
    (λ (e : NbcStop). (e ≡ Memory) ⊎ (c.args.most < length (filter (is_wanted w) (nbc_sets g.K.Ring.ring g.K.FiniteField.numbers c.args.arr.now))))
    (λ e p. elim p [ inl m ↦ inl m | inr l ↦ inr (after-stops S w c.empty.result rows old c.new-found.ensures.items c.empty.ensures.value (c.deref.ensures.value ∙ c.in_ok-rows.ensures) c.args.most l) ]) h

pub returns-clause-value : goal.returns-clause-value
returns-clause-value g c =
    let S = setting g.met.K.Field.field_laws g.met.K.FiniteField.numbering c.len-lawful.ensures.lawful in
    after-sorted S c.args.wanted c.empty.result c.deref.result.now c.new-found.result.items c.new-found.ensures.items c.empty.ensures.value (c.deref.ensures.value ∙ c.in_ok-rows.ensures)
    c.extend.new.found.items c.in_ok-extend.ensures.value c.sort.new.self.items c.in_ok-sort.ensures.permutation c.in_ok-sort.ensures.sorted

pub returns-clause-few : goal.returns-clause-few
returns-clause-few g c =
    let S = setting g.met.K.Field.field_laws g.met.K.FiniteField.numbering c.len-lawful.ensures.lawful in
    after-few S c.args.wanted c.empty.result c.deref.result.now c.new-found.result.items c.new-found.ensures.items c.empty.ensures.value (c.deref.ensures.value ∙ c.in_ok-rows.ensures)
    c.extend.new.found.items c.in_ok-extend.ensures.value c.args.most c.in_ok-extend.ensures.room
