use Rattle.std.proofs.Common.{◌≡◌, ◌<◌, ◌-◌, ◌∙◌, ◌++◌, ◌∷◌, [], get_or, length, map, ap, sym, rules, arith}
use Rattle.std.proofs.lemmas.List.{get_or_default}
use Rattle.std.proofs.lemmas.List.FromFn.{map-range_with_len_more}
use Rattle.std.proofs.lemmas.Fn.{always_returns_same}
use Rattle.hp_lists.specs.Lists.{below}
use Rattle.hp_module.specs.Leads.{no_term}
use Rattle.hp_syzygy.specs.FrameLevels.{level_lead}
use Rattle.hp_syzygy.specs.MemberRanks.{member_key}
use Rattle.hp_syzygy.proofs.SortedKeys.{is_before, is_before-order, keys-sorted}
use Rattle.hp_syzygy.proofs.ranks.sorted_keys.Goals as goal

pub loop-i-preserved : goal.loop-i-preserved
loop-i-preserved g c =
    let v = c.args.level.now in
    let i = c.loop-i.i in
    let here : i < length c.level.inside.leads.items = omega (arith, c.loop-i-test.true, c.len-i-end.ensures) in
    let t : c.index-lead.result.now ≡ level_lead v i =
    c.index-lead.ensures ∙ get_or_default c.level.inside.leads.items i c.index-lead.result.now no_term here
    ∙ ap (λ w. level_lead w i) c.level.view_is in
    let rs : c.ranks-ranks.result.now ≡ v.chain.ranks = c.ranks-ranks.ensures.value ∙ ap (λ w. w.chain.ranks) c.level.view_is in
    let key : (get_or c.ranks-ranks.result.now (c.index-lead.result.now.comp - 1) 0, c.index-lead.result.now.mono, i) ≡ member_key v i =
    λ k. (get_or (rs k) ((t k).comp - 1) 0, (t k).mono, i) in
    c.in_ok-push.ensures.items ∙ (λ k. c.loop-i.invariant k ++ key k ∷ [])
    ∙ sym (map-range_with_len_more (member_key v) 0 i i (omega arith))

pub returns : goal.returns
returns g c =
    let v = c.args.level.now in
    let s = c.sort_unstable_by in
    let end = ap (λ w. length w.leads) c.level.view_is in
    let all : c.loop-i.i ≡ length v.leads = omega (arith, c.loop-i-test.false, c.loop-i.auto.i-end, c.len-i-end.ensures, end) in
    let sorted = s.ensures.sorted is_before is_before-order (always_returns_same _ _ _ (λ a r f k. search rules)) in
    keys-sorted v c.loop-i.keys.items s.new.self.items
    (c.loop-i.invariant ∙ ap (λ n. map (member_key v) (below n)) all) s.ensures.permutation sorted
