use Rattle.std.proofs.Common.{◌≡◌, ◌+◌, ◌∙◌, suc, ap, sym, subst, arith}
use Rattle.std.proofs.lemmas.List.{get_or_default}
use Rattle.std.proofs.lemmas.Result.{IfOk-weaker}
use Rattle.hp_mono.specs.Monomials.{cofactor}
use Rattle.hp_module.specs.Leads.{no_term}
use Rattle.hp_syzygy.specs.DividingTests.{keep_next}
use Rattle.hp_syzygy.specs.FrameLevels.{ArePairsAt, IsPair, pair_lead}
use Rattle.hp_syzygy.proofs.KeptPairs.{pairs-next}
use Rattle.hp_syzygy.proofs.pairs.consider.Goals as goal

pub returns : goal.returns
returns c =
    let leads = c.args.leads.now in
    let ranks = c.args.ranks.now in
    let i = c.args.i in
    let j = c.args.j in
    let old = c.args.kept.now.items in
    let li = c.requires.later in
    let lj = c.requires.earlier in
    let pair : IsPair leads ranks j i = record {
      earlier = lj;
      later = li;
      same_comp = ap (λ t. t.comp) (get_or_default leads j no_term c.index-leads-j.result lj) ∙ c.if-leads-j.false
          ∙ ap (λ t. t.comp) (get_or_default leads i c.index-leads-i.result no_term li);
      before = omega (arith, c.if-ranks-j.false);
    } in
    let mono = c.cofactor.ensures.value
    ∙ (λ k. cofactor (get_or_default leads i c.index-leads-i-2.result no_term li k).mono (get_or_default leads j c.index-leads-j-2.result no_term lj k).mono) in
    let one : i + 1 ≡ suc i = omega arith in
    let lead : record { mono = c.cofactor.result; comp = i + 1 } ≡ pair_lead leads i j = (λ k. record { mono = mono k; comp = one k }) in
    let next = pairs-next leads ranks c.requires.monomials i j old c.requires.kept pair in
    let same = ap (λ t. keep_next old t j) lead in
    IfOk-weaker c.keep.result (λ x. c.keep.new.kept.items ≡ keep_next old (record { mono = c.cofactor.result; comp = i + 1 }) j)
    (λ x. ArePairsAt leads ranks i (suc j) c.keep.new.kept.items)
    (λ x e. subst (ArePairsAt leads ranks i (suc j)) (sym (e ∙ same)) next) c.keep.ensures
