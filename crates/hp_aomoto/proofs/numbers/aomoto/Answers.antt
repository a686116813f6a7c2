use Rattle.std.proofs.Common.{rules, ◌≡◌, ◌⊎◌, ◌<◌, ◌≤◌, ◌+◌, ◌-◌, ℕ, suc, ◌∷◌, [], ◌++◌, IfErr, length, sym, ap, subst, ◌∙◌, arith, inl, inr}
use Rattle.std.proofs.lemmas.Bool.{cases_lt}
use Rattle.std.proofs.lemmas.Result.{IfErr-weaker}
use Rattle.hp_arr.specs.Circuits.{nbc_sets_of_size}
use Rattle.hp_arr.specs.Flats.{total_rank}
use Rattle.hp_arr.proofs.Setting.{Setting, setting}
use Rattle.hp_aomoto.specs.declared.stop.AomotoStop.{AomotoStop}
use Rattle.hp_aomoto.specs.declared.stop.AomotoStop.TheVariants.{Memory}
use Rattle.hp_aomoto.specs.AomotoCohomology.{AreCohomologyDimensions, HasManyNbcSets}
use Rattle.hp_aomoto.specs.ProductMatrices.{IsRankBefore}
use Rattle.hp_aomoto.proofs.AomotoNumbers.{dimension-step, numbers_more, nbc-none}
use Rattle.hp_aomoto.proofs.numbers.aomoto.Goals as goal

pub overflow_add-k-end : goal.overflow_add-k-end
overflow_add-k-end g c = omega (arith, c.in_ok-top.ensures.low)

pub returns-in_err-next-clause-stop : goal.returns-in_err-next-clause-stop
returns-in_err-next-clause-stop g c =
    let N = nbc_sets_of_size g.K.Ring.ring g.K.FiniteField.numbers c.args.arr.now in
    let h : IfErr c.from_residual-in_err-next.result (λ (e : AomotoStop). (e ≡ Memory) ⊎ (1000 < length (N (c.loop-k.k + 1)))) = search rules in
    IfErr-weaker c.from_residual-in_err-next.result
    (λ (e : AomotoStop). (e ≡ Memory) ⊎ (1000 < length (N (c.loop-k.k + 1))))
    (λ (e : AomotoStop). (e ≡ Memory) ⊎ HasManyNbcSets g.K.Ring.ring g.K.FiniteField.numbers c.args.arr.now 1000)
    (λ e p. elim p [ inl m ↦ inl m | inr l ↦ inr (c.loop-k.k + 1, l) ]) h

pub overflow_sub-len : goal.overflow_sub-len
overflow_sub-len g c =
    let S = setting g.met.K.Field.field_laws g.met.K.FiniteField.numbering c.len-lawful.ensures.lawful in
    let w = dimension-step S c.args.weights.now c.in_ok-omega.ensures.values c.loop-k.k c.in_ok-m.m c.loop-k.before c.in_ok-after.after
    c.loop-k.invariant.before c.in_ok-m.ensures c.in_ok-after.ensures.dimension in
    let e : c.len.result ≡ length c.loop-k.sets.items = omega arith in
    let f = ap length c.loop-k.invariant.sets in
    omega (arith, w.0, e, f)

pub overflow_sub-len-in-loop-k : goal.overflow_sub-len-in-loop-k
overflow_sub-len-in-loop-k g c =
    let S = setting g.met.K.Field.field_laws g.met.K.FiniteField.numbering c.len-lawful.ensures.lawful in
    let w = dimension-step S c.args.weights.now c.in_ok-omega.ensures.values c.loop-k.k c.in_ok-m.m c.loop-k.before c.in_ok-after.after
    c.loop-k.invariant.before c.in_ok-m.ensures c.in_ok-after.ensures.dimension in
    let e : c.len.result ≡ length c.loop-k.sets.items = omega arith in
    let f = ap length c.loop-k.invariant.sets in
    omega (arith, w.0, e, f)

pub loop-k-preserved : goal.loop-k-preserved
loop-k-preserved g c =
    let ring = g.K.Ring.ring in
    let numbers = g.K.FiniteField.numbers in
    let arr = c.args.arr.now in
    let ws = c.args.weights.now in
    let S = setting g.met.K.Field.field_laws g.met.K.FiniteField.numbering c.len-lawful.ensures.lawful in
    let k = c.loop-k.k in
    let N = nbc_sets_of_size ring numbers arr in
    let w = dimension-step S ws c.in_ok-omega.ensures.values k c.in_ok-m.m c.loop-k.before c.in_ok-after.after
    c.loop-k.invariant.before c.in_ok-m.ensures c.in_ok-after.ensures.dimension in
    let next : suc k ≡ k + 1 = omega arith in
    let low = c.loop-k.invariant.few k (omega arith) in
    let e : c.len.result ≡ length c.loop-k.sets.items = omega arith in
    let f = ap length c.loop-k.invariant.sets in
    let b = length (N k) - c.loop-k.before - c.in_ok-after.after in
    let pushed : c.push.new.self.items ≡ c.loop-k.out.items ++ b ∷ [] =
    c.in_ok-push.ensures.items ∙ ap (λ (d : ℕ). c.loop-k.out.items ++ d ∷ []) (omega (arith, low, e, f)) in
    record {
      sets = c.in_ok-next.ensures.value;
      before = subst (λ j. IsRankBefore ring numbers arr ws j c.in_ok-after.after) next (c.in_ok-m.m, c.in_ok-m.ensures, c.in_ok-after.ensures.dimension);
      dimensions = subst (λ ds. AreCohomologyDimensions ring numbers arr ws (k + 1) ds) (sym pushed)
          (numbers_more S ws k b c.loop-k.out.items c.loop-k.invariant.dimensions w.1);
      few = λ j l. elim (cases_lt k j) [
        | inl m ↦ subst (λ i. length (N i) ≤ 1000) (omega (arith, l, m)) c.in_ok-next.ensures.few
        | inr m ↦ c.loop-k.invariant.few j m
      ];
    }

-- sizes above the rank have no sets
few-all : {K : Type 0} (S : Setting K) (k : ℕ) → total_rank S.ring S.numbers S.arr < k
    → ((j : ℕ) → j ≤ k → length (nbc_sets_of_size S.ring S.numbers S.arr j) ≤ 1000)
    → (j : ℕ) → length (nbc_sets_of_size S.ring S.numbers S.arr j) ≤ 1000
few-all S k h f j = elim (cases_lt k j) [
  | inl m ↦ subst (λ l. l ≤ 1000) (sym (ap length (nbc-none S j (omega (arith, h, m))))) (omega arith)
  | inr m ↦ f j m
]

pub returns-clause-value : goal.returns-clause-value
returns-clause-value g c =
    let S = setting g.met.K.Field.field_laws g.met.K.FiniteField.numbering c.len-lawful.ensures.lawful in
    let top = c.in_ok-top.ensures.value in
    let e : c.loop-k.k ≡ c.in_ok-top.top + 1 = omega arith in
    subst (λ k. AreCohomologyDimensions g.K.Ring.ring g.K.FiniteField.numbers c.args.arr.now c.args.weights.now k c.loop-k.out.items) (e ∙ ap (λ t. t + 1) top) c.loop-k.invariant.dimensions

pub returns-clause-few : goal.returns-clause-few
returns-clause-few g c =
    let S = setting g.met.K.Field.field_laws g.met.K.FiniteField.numbering c.len-lawful.ensures.lawful in
    let top = c.in_ok-top.ensures.value in
    let e : c.loop-k.k ≡ c.in_ok-top.top + 1 = omega arith in
    few-all S c.loop-k.k (omega (arith, e, top)) c.loop-k.invariant.few
