use Rattle.std.proofs.Common.{rules, ◌≡◌, ◌⊎◌, ◌<◌, ◌≤◌, List, [], ◌++◌, IfErr, Contains, length, sym, ap, subst, ◌∙◌, arith, inl, inr}
use Rattle.std.specs.List.Sorted.{IsStrictlySortedBy, IsPermutation}
use Rattle.std.proofs.lemmas.Result.{IfErr-weaker}
use Rattle.hp_arr.specs.Circuits.{circuits}
use Rattle.hp_arr.proofs.Setting.{setting}
use Rattle.hp_sets.specs.Sets.{Set, cmp_listed}
use Rattle.hp_circuits.specs.Bounds.{most_circuits}
use Rattle.hp_circuits.specs.CircuitSteps.{searched}
use Rattle.hp_circuits.specs.Laters.{AreLater}
use Rattle.hp_circuits.specs.declared.circuit_search.Later.{Later}
use Rattle.hp_circuits.specs.declared.stop.CircuitStop.{CircuitStop}
use Rattle.hp_circuits.specs.declared.stop.CircuitStop.TheVariants.{Memory}
use Rattle.hp_circuits.proofs.CircuitList.{start}
use Rattle.hp_circuits.proofs.CircuitAnswers.{all_found, later-start, found-count, found-sorted, circuits-complete, circuits-rise}
use Rattle.hp_circuits.proofs.circuit_list.circuits.Goals as goal

pub extend-requires-clause-later : goal.extend-requires-clause-later
extend-requires-clause-later g c =
    let S = setting g.met.K.Field.field_laws g.met.K.FiniteField.numbering c.len-lawful.ensures.lawful in
    let later : c.deref.result.now ≡ start S = c.deref.ensures.value ∙ c.in_ok-later.ensures in
    let few : length S.arr.forms ≤ 64 = omega (arith, S.lawful.few_forms) in
    subst (λ (s : Set). AreLater S.ring s c.deref.result.now) (sym c.empty.ensures.value)
    (subst (λ (ds : List (Later g.row.K.Denot)). AreLater S.ring [] ds) (sym later) (later-start S few))

pub extend-requires-clause-few : goal.extend-requires-clause-few
extend-requires-clause-few g c = let e = ap (λ (xs : List Set). length xs) c.new-found.ensures.items in omega (arith, e)

pub returns-in_err-extend-clause-stop : goal.returns-in_err-extend-clause-stop
returns-in_err-extend-clause-stop g c =
    let S = setting g.met.K.Field.field_laws g.met.K.FiniteField.numbering c.len-lawful.ensures.lawful in
    let later : c.deref.result.now ≡ start S = c.deref.ensures.value ∙ c.in_ok-later.ensures in
    let what : c.new-found.result.items ++ searched S.ring S.inverse c.empty.result c.deref.result.now ≡ all_found S =
    (λ j. c.new-found.ensures.items j ++ searched S.ring S.inverse (c.empty.ensures.value j) (later j)) in
    let e = ap (λ (xs : List Set). length xs) what in
    let n = found-count S in
    let h : IfErr c.from_residual-in_err-extend.result (λ (z : CircuitStop). (z ≡ Memory) ⊎ (most_circuits < length (c.new-found.result.items ++ searched S.ring S.inverse c.empty.result c.deref.result.now))) = search rules in
    IfErr-weaker c.from_residual-in_err-extend.result _ _ (λ z p. elim p [ inl m ↦ inl m | inr l ↦ inr (omega (arith, l, e, n)) ]) h

pub returns-clause-value : goal.returns-clause-value
returns-clause-value g c =
    let S = setting g.met.K.Field.field_laws g.met.K.FiniteField.numbering c.len-lawful.ensures.lawful in
    let later : c.deref.result.now ≡ start S = c.deref.ensures.value ∙ c.in_ok-later.ensures in
    let what : c.new-found.result.items ++ searched S.ring S.inverse c.empty.result c.deref.result.now ≡ all_found S =
    (λ j. c.new-found.ensures.items j ++ searched S.ring S.inverse (c.empty.ensures.value j) (later j)) in
    let found : c.extend.new.found.items ≡ all_found S = c.in_ok-extend.ensures.found ∙ what in
    let is : c.sort_unstable.new.self.items ≡ circuits S.ring S.numbers S.arr =
    found-sorted S c.sort_unstable.new.self.items (subst (λ (xs : List Set). IsPermutation xs c.sort_unstable.new.self.items) found c.sort_unstable.ensures.permutation) c.sort_unstable.ensures.sorted in
    is

pub returns-clause-members : goal.returns-clause-members
returns-clause-members g c =
    let S = setting g.met.K.Field.field_laws g.met.K.FiniteField.numbering c.len-lawful.ensures.lawful in
    let later : c.deref.result.now ≡ start S = c.deref.ensures.value ∙ c.in_ok-later.ensures in
    let what : c.new-found.result.items ++ searched S.ring S.inverse c.empty.result c.deref.result.now ≡ all_found S =
    (λ j. c.new-found.ensures.items j ++ searched S.ring S.inverse (c.empty.ensures.value j) (later j)) in
    let found : c.extend.new.found.items ≡ all_found S = c.in_ok-extend.ensures.found ∙ what in
    let is : c.sort_unstable.new.self.items ≡ circuits S.ring S.numbers S.arr =
    found-sorted S c.sort_unstable.new.self.items (subst (λ (xs : List Set). IsPermutation xs c.sort_unstable.new.self.items) found c.sort_unstable.ensures.permutation) c.sort_unstable.ensures.sorted in
    λ s. (
      (λ m. (circuits-complete S s).0 (subst (λ (xs : List Set). Contains xs s) is m)),
      λ h. subst (λ (xs : List Set). Contains xs s) (sym is) ((circuits-complete S s).1 h),
    )

pub returns-clause-rising : goal.returns-clause-rising
returns-clause-rising g c =
    let S = setting g.met.K.Field.field_laws g.met.K.FiniteField.numbering c.len-lawful.ensures.lawful in
    let later : c.deref.result.now ≡ start S = c.deref.ensures.value ∙ c.in_ok-later.ensures in
    let what : c.new-found.result.items ++ searched S.ring S.inverse c.empty.result c.deref.result.now ≡ all_found S =
    (λ j. c.new-found.ensures.items j ++ searched S.ring S.inverse (c.empty.ensures.value j) (later j)) in
    let found : c.extend.new.found.items ≡ all_found S = c.in_ok-extend.ensures.found ∙ what in
    let is : c.sort_unstable.new.self.items ≡ circuits S.ring S.numbers S.arr =
    found-sorted S c.sort_unstable.new.self.items (subst (λ (xs : List Set). IsPermutation xs c.sort_unstable.new.self.items) found c.sort_unstable.ensures.permutation) c.sort_unstable.ensures.sorted in
    subst (IsStrictlySortedBy cmp_listed) (sym is) (circuits-rise S)

pub returns-clause-few : goal.returns-clause-few
returns-clause-few g c =
    let S = setting g.met.K.Field.field_laws g.met.K.FiniteField.numbering c.len-lawful.ensures.lawful in
    let later : c.deref.result.now ≡ start S = c.deref.ensures.value ∙ c.in_ok-later.ensures in
    let what : c.new-found.result.items ++ searched S.ring S.inverse c.empty.result c.deref.result.now ≡ all_found S =
    (λ j. c.new-found.ensures.items j ++ searched S.ring S.inverse (c.empty.ensures.value j) (later j)) in
    let e = ap (λ (xs : List Set). length xs) (c.in_ok-extend.ensures.found ∙ what) in
    let n = found-count S in
    omega (arith, c.in_ok-extend.ensures.few, e, n)
