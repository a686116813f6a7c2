use Rattle.std.proofs.Common.{◌≡◌, ◌<◌, ◌≤◌, ◌-◌, ◌∙◌, ℕ, List, [], get_or, length, map, ap, sym, subst, arith}
use Rattle.hp_mono.specs.declared.term.Term.{Term}
use Rattle.hp_mono.specs.Monomials.{IsMonomial, degree, lcm, max_degree}
use Rattle.hp_module.specs.Leads.{no_term}
use Rattle.hp_syzygy.specs.ChainOrders.{IsChain, full}
use Rattle.hp_syzygy.specs.FrameLevels.{ArePairs, IsNextLevel, IsRelationOf, member_degrees}
use Rattle.hp_syzygy.proofs.NextChains.{lead-within, next-is_chain, next_chain}
use Rattle.hp_syzygy.proofs.NextLevels.{next, next-is_level}
use Rattle.hp_syzygy.proofs.LevelDegrees.{lcm-most}
use Rattle.hp_syzygy.proofs.next.next_level.Goals as goal

pub ranks_of-requires-clause-within : goal.ranks_of-requires-clause-within
ranks_of-requires-clause-within g c = λ i l. lead-within c.requires.level i (omega (arith, l, c.requires.level.led.same_length))

pub pairs_of-requires-clause-monomials : goal.pairs_of-requires-clause-monomials
pairs_of-requires-clause-monomials g c =
    let v = c.args.level.now in
    let is = c.requires.level in
    let leads = c.as_slice.ensures.value ∙ ap (λ w. w.leads) c.level.view_is in
    let all : (i : ℕ) → i < length v.leads → IsMonomial (get_or v.leads i no_term).mono =
    λ i l. (lead-within is i (omega (arith, l, is.led.same_length))).0 in
    subst (λ (ts : List Term). (i : ℕ) → i < length ts → IsMonomial (get_or ts i no_term).mono) (sym leads) all

pub pairs_of-requires-clause-low : goal.pairs_of-requires-clause-low
pairs_of-requires-clause-low g c =
    let v = c.args.level.now in
    let is = c.requires.level in
    let leads = c.as_slice.ensures.value ∙ ap (λ w. w.leads) c.level.view_is in
    let all : (i j : ℕ) → i < length v.leads → j < length v.leads → degree (lcm (get_or v.leads i no_term).mono (get_or v.leads j no_term).mono) ≤ max_degree =
    λ i j l m. lcm-most is i j (omega (arith, l, is.led.same_length)) (omega (arith, m, is.led.same_length)) in
    subst (λ (ts : List Term). (i j : ℕ) → i < length ts → j < length ts → degree (lcm (get_or ts i no_term).mono (get_or ts j no_term).mono) ≤ max_degree) (sym leads) all

pub new-requires : goal.new-requires
new-requires g c =
    let v = c.args.level.now in
    let is = c.requires.level in
    let ranks = c.in_ok-ranks.ranks.items in
    let width : c.first_width.result ≡ v.chain.width = c.first_width.ensures.value ∙ ap (λ w. w.chain.width) c.level.view_is in
    let tops : c.in_ok-tops.tops.items ≡ map (full v.chain) v.leads = c.in_ok-tops.ensures in
    let same : next_chain is c.in_ok-ranks.ensures ≡ record { width = c.first_width.result; tops = c.in_ok-tops.tops.items; ranks = ranks } =
    λ k. record { width = sym width k; tops = sym tops k; ranks = ranks } in
    subst IsChain same (next-is_chain is c.in_ok-ranks.ensures)

pub returns : goal.returns
returns g c =
    let ring = g.F.Ring.ring in
    let inverse = g.F.Field.inverse in
    let v = c.args.level.now in
    let is = c.requires.level in
    let ar = c.in_ok-ranks.ensures in
    let ranks = c.in_ok-ranks.ranks.items in
    let pairs = c.in_ok-pairs.pairs.items in
    let rels = c.in_ok-members.members.items in
    let leads = c.as_slice.ensures.value ∙ ap (λ w. w.leads) c.level.view_is in
    let pr : ArePairs v.leads ranks pairs =
    subst (λ rs. ArePairs v.leads rs pairs) c.as_slice-2.ensures.value (subst (λ ts. ArePairs ts c.as_slice-2.result.now pairs) leads c.in_ok-pairs.ensures) in
    let listed : c.as_slice-3.result.now ≡ pairs = c.as_slice-3.ensures.value in
    let count : length rels ≡ length pairs = c.in_ok-members.ensures.count ∙ ap length listed in
    let each = subst (λ (ps : List (Term × ℕ)). (p : ℕ) → p < length ps → IsRelationOf ring inverse is (get_or ps p (no_term, 0)) (get_or rels p []))
    listed (c.in_ok-members.ensures.each is) in
    let width : c.first_width.result ≡ v.chain.width = c.first_width.ensures.value ∙ ap (λ w. w.chain.width) c.level.view_is in
    let tops : c.in_ok-tops.tops.items ≡ map (full v.chain) v.leads = c.in_ok-tops.ensures in
    let chain : c.new.result ≡ next_chain is ar = c.new.ensures ∙ (λ k. record { width = width k; tops = tops k; ranks = ranks }) in
    let left : c.saturating_sub.result ≡ v.left - 1 = c.saturating_sub.ensures ∙ ap (λ w. w.left - 1) c.level.view_is in
    let degrees : c.of.result ≡ member_degrees v = c.of.ensures ∙ c.in_ok-degrees.ensures in
    let new_leads : c.in_ok-leads.leads.items ≡ map (λ (q : Term × ℕ). q.0) pairs =
    c.in_ok-leads.ensures ∙ ap (map (λ (q : Term × ℕ). q.0)) c.as_slice-4.ensures.value in
    let same : next is ar pairs pr rels count each ≡ record { chain = c.new.result; left = c.saturating_sub.result; degrees = c.of.result; members = rels; leads = c.in_ok-leads.leads.items } =
    λ k. record { chain = sym chain k; left = sym left k; degrees = sym degrees k; members = rels; leads = sym new_leads k } in
    subst (IsNextLevel ring inverse v) same (next-is_level is ar pairs pr rels count each)
