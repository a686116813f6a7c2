use Rattle.std.proofs.Common.{◌≡◌, ◌⊎◌, ◌<◌, ◌≤◌, ◌==◌, ℕ, Vec, Global, List, filter, length, inl, inr, pos, ◌*ℤ◌, None, sym, ap, subst, ◌∙◌}
use Rattle.std.specs.List.Sorted.{IsStrictlySortedBy}
use Rattle.std.proofs.lemmas.Result.{IfOk-weaker, IfErr-weaker, on_ok_weaker}
use Rattle.hp_algebra.specs.Integers.{sign}
use Rattle.hp_arr.specs.Circuits.{nbc_sets}
use Rattle.hp_arr.specs.Moebius.{rank_sum}
use Rattle.hp_arr.proofs.Setting.{setting}
use Rattle.hp_circuits.specs.Bounds.{most_nbc}
use Rattle.hp_circuits.specs.NbcSearch.{is_wanted}
use Rattle.hp_circuits.specs.declared.stop.NbcStop.{NbcStop}
use Rattle.hp_circuits.specs.declared.stop.NbcStop.TheVariants.{Memory}
use Rattle.hp_circuits.proofs.NbcListed.{nbc_sets-rise, wanted-all, size-count}
use Rattle.hp_sets.specs.Sets.{Set, cmp_listed}
use Rattle.hp_sets.specs.declared.set.HSet.{HSet}
use Rattle.hp_circuits.proofs.nbc_sets.nbc.Goals as goal

pub returns-clause-value : goal.returns-clause-value
returns-clause-value g c =
    let S = setting g.met.K.Field.field_laws g.met.K.FiniteField.numbering c.len-lawful.ensures.lawful in
    IfOk-weaker c.wanted_sets.result
    (λ (sets : Vec HSet Global). sets.items ≡ filter (is_wanted None) (nbc_sets S.ring S.numbers S.arr))
    (λ (sets : Vec HSet Global). sets.items ≡ nbc_sets S.ring S.numbers S.arr)
    (λ sets e. e ∙ wanted-all S) c.wanted_sets.ensures.value

pub returns-clause-rising : goal.returns-clause-rising
returns-clause-rising g c =
    let S = setting g.met.K.Field.field_laws g.met.K.FiniteField.numbering c.len-lawful.ensures.lawful in
    IfOk-weaker c.wanted_sets.result
    (λ (sets : Vec HSet Global). sets.items ≡ filter (is_wanted None) (nbc_sets S.ring S.numbers S.arr))
    (λ (sets : Vec HSet Global). IsStrictlySortedBy cmp_listed sets.items)
    (λ sets e. subst (IsStrictlySortedBy cmp_listed) (sym (e ∙ wanted-all S)) (nbc_sets-rise S)) c.wanted_sets.ensures.value

pub returns-clause-counts : goal.returns-clause-counts
returns-clause-counts g c =
    let S = setting g.met.K.Field.field_laws g.met.K.FiniteField.numbering c.len-lawful.ensures.lawful in
    IfOk-weaker c.wanted_sets.result
    (λ (sets : Vec HSet Global). sets.items ≡ filter (is_wanted None) (nbc_sets S.ring S.numbers S.arr))
    (λ (sets : Vec HSet Global). (k : ℕ) → pos (length (filter {X = List ℕ} (λ s. length s == k) sets.items)) ≡ rank_sum S.ring S.numbers S.arr k *ℤ sign k)
    (λ sets e k. ap (λ (xs : List Set). pos (length (filter (λ s. length s == k) xs))) (e ∙ wanted-all S) ∙ size-count S k) c.wanted_sets.ensures.value

pub returns-clause-few : goal.returns-clause-few
returns-clause-few g c =
    let S = setting g.met.K.Field.field_laws g.met.K.FiniteField.numbering c.len-lawful.ensures.lawful in
    on_ok_weaker c.wanted_sets.result (λ l. subst (λ (xs : List Set). length xs ≤ most_nbc) (wanted-all S) l) c.wanted_sets.ensures.few

pub returns-clause-stop : goal.returns-clause-stop
returns-clause-stop g c =
    let S = setting g.met.K.Field.field_laws g.met.K.FiniteField.numbering c.len-lawful.ensures.lawful in
    IfErr-weaker c.wanted_sets.result
    (λ (e : NbcStop). (e ≡ Memory) ⊎ (most_nbc < length (filter (is_wanted None) (nbc_sets S.ring S.numbers S.arr))))
    (λ (e : NbcStop). (e ≡ Memory) ⊎ (most_nbc < length (nbc_sets S.ring S.numbers S.arr)))
    (λ e p. elim p [ inl m ↦ inl m | inr l ↦ inr (subst (λ (xs : List Set). most_nbc < length xs) (wanted-all S) l) ]) c.wanted_sets.ensures.stop
