use Rattle.std.proofs.Common.{◌≡◌, ◌⊎◌, ◌<◌, ◌≤◌, Vec, Global, List, filter, length, inl, inr, pos, ◌*ℤ◌, Some, ap, subst, ◌∙◌}
use Rattle.std.proofs.lemmas.Result.{IfOk-weaker, IfErr-weaker, on_ok_weaker}
use Rattle.hp_algebra.specs.Integers.{sign}
use Rattle.hp_arr.specs.Circuits.{nbc_sets, nbc_sets_of_size}
use Rattle.hp_arr.specs.Moebius.{rank_sum}
use Rattle.hp_arr.proofs.Setting.{setting}
use Rattle.hp_circuits.specs.NbcSearch.{is_wanted}
use Rattle.hp_circuits.specs.declared.stop.NbcStop.{NbcStop}
use Rattle.hp_circuits.specs.declared.stop.NbcStop.TheVariants.{Memory}
use Rattle.hp_circuits.proofs.NbcListed.{wanted-size, wanted-size_count}
use Rattle.hp_sets.specs.Sets.{Set}
use Rattle.hp_sets.specs.declared.set.HSet.{HSet}
use Rattle.hp_circuits.proofs.nbc_sets.nbc_of_size.Goals as goal

pub returns-clause-value : goal.returns-clause-value
returns-clause-value g c =
    let S = setting g.met.K.Field.field_laws g.met.K.FiniteField.numbering c.len-lawful.ensures.lawful in
    let k = c.args.size in
    IfOk-weaker c.wanted_sets.result
    (λ (sets : Vec HSet Global). sets.items ≡ filter (is_wanted (Some k)) (nbc_sets S.ring S.numbers S.arr))
    (λ (sets : Vec HSet Global). sets.items ≡ nbc_sets_of_size S.ring S.numbers S.arr k)
    (λ sets e. e ∙ wanted-size S k) c.wanted_sets.ensures.value

pub returns-clause-count : goal.returns-clause-count
returns-clause-count g c =
    let S = setting g.met.K.Field.field_laws g.met.K.FiniteField.numbering c.len-lawful.ensures.lawful in
    let k = c.args.size in
    IfOk-weaker c.wanted_sets.result
    (λ (sets : Vec HSet Global). sets.items ≡ filter (is_wanted (Some k)) (nbc_sets S.ring S.numbers S.arr))
    (λ (sets : Vec HSet Global). pos (length sets.items) ≡ rank_sum S.ring S.numbers S.arr k *ℤ sign k)
    (λ sets e. ap (λ (xs : List Set). pos (length xs)) (e ∙ wanted-size S k) ∙ wanted-size_count S k) c.wanted_sets.ensures.value

pub returns-clause-few : goal.returns-clause-few
returns-clause-few g c =
    let S = setting g.met.K.Field.field_laws g.met.K.FiniteField.numbering c.len-lawful.ensures.lawful in
    on_ok_weaker c.wanted_sets.result (λ l. subst (λ (xs : List Set). length xs ≤ c.args.most) (wanted-size S c.args.size) l) c.wanted_sets.ensures.few

pub returns-clause-stop : goal.returns-clause-stop
returns-clause-stop g c =
    let S = setting g.met.K.Field.field_laws g.met.K.FiniteField.numbering c.len-lawful.ensures.lawful in
    let k = c.args.size in
    IfErr-weaker c.wanted_sets.result
    (λ (e : NbcStop). (e ≡ Memory) ⊎ (c.args.most < length (filter (is_wanted (Some k)) (nbc_sets S.ring S.numbers S.arr))))
    (λ (e : NbcStop). (e ≡ Memory) ⊎ (c.args.most < length (nbc_sets_of_size S.ring S.numbers S.arr k)))
    (λ e p. elim p [ inl m ↦ inl m | inr l ↦ inr (subst (λ (xs : List Set). c.args.most < length xs) (wanted-size S k) l) ]) c.wanted_sets.ensures.stop
