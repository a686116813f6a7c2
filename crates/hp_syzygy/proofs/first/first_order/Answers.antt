use Rattle.std.proofs.Common.{◌≡◌, ◌+◌, ◌++◌, ◌∷◌, ◌∙◌, suc, [], map, ap, sym, subst, arith}
use Rattle.std.proofs.lemmas.List.{map-append}
use Rattle.hp_lists.specs.Lists.{one_to}
use Rattle.hp_lists.proofs.Ranges.{range-more}
use Rattle.hp_syzygy.specs.ChainOrders.{IsChain, first_chain, unit_term}
use Rattle.hp_syzygy.proofs.FirstLevels.{first-is_chain}
use Rattle.hp_syzygy.proofs.first.first_order.Goals as goal

pub loop-k-preserved : goal.loop-k-preserved
loop-k-preserved c =
    let k = c.loop-k.k in
    let one : suc k ≡ k + 1 = omega arith in
    let next : one_to (k + 1) ≡ one_to k ++ (k + 1) ∷ [] =
    ap one_to (sym one) ∙ range-more 1 k ∙ (λ i. one_to k ++ (let e : 1 + k ≡ k + 1 = omega arith in e) i ∷ []) in
    let unit = c.one.ensures.value in
    record {
      tops = c.in_ok-push.ensures.items ∙ (λ i. c.loop-k.invariant.tops i ++ record { mono = unit i; comp = k + 1 } ∷ [])
          ∙ sym (map-append unit_term (one_to k) ((k + 1) ∷ [])) ∙ ap (map unit_term) (sym next);
      ranks = c.in_ok-push-2.ensures.items ∙ (λ i. c.loop-k.invariant.ranks i ++ (k + 1) ∷ []) ∙ sym next;
    }

pub new-requires : goal.new-requires
new-requires c =
    let w = c.args.width in
    let end : c.loop-k.k ≡ w = omega (arith, c.loop-k-test.false, c.loop-k.auto.k-end) in
    let same : first_chain w ≡ record { width = w; tops = c.loop-k.tops.items; ranks = c.loop-k.ranks.items } =
    λ i. record {
      width = w;
      tops = sym (c.loop-k.invariant.tops ∙ ap (λ n. map unit_term (one_to n)) end) i;
      ranks = sym (c.loop-k.invariant.ranks ∙ ap one_to end) i;
    } in
    subst IsChain same (first-is_chain w)
