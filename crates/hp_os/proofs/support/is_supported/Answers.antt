use Rattle.std.proofs.Common.{◌≡◌, true, false, length, refl, sym, ap, ◌∙◌}
use Rattle.hp_lists.specs.Lists.{one_to}
use Rattle.hp_lists.proofs.Members.{not_both}
use Rattle.hp_sets.specs.Sets.{is_within}
use Rattle.hp_os.proofs.SupportSteps.{within-test, within-starts, within-next, within-first, within-ends}
use Rattle.hp_os.proofs.support.is_supported.Goals as goal

pub loop-t-init : goal.loop-t-init
loop-t-init g c = within-starts (length c.args.arr.now.forms) c.terms-rest.result.now c.args.x.now c.terms-rest.ensures.value

pub returns-then-not-is_within : goal.returns-then-not-is_within
returns-then-not-is_within g c =
    let n = length c.args.arr.now.forms in
    let t = c.in-Some.t.now in
    let all = c.first-all.result in
    let is_all : all ≡ one_to n = c.first-all.ensures.value ∙ ap one_to c.len.ensures.value in
    let off : is_within t.0 all ≡ false = sym c.is_within.ensures.value ∙ c.if-not-is_within.true in (
      (λ b. absurd (not_both false b refl)),
      λ h.
          absurd (not_both (is_within t.0 all) ((within-test n t.0 all c.is_within.ensures.set is_all).1
          (within-first n t c.loop-t.rest.now c.in-Some.more.now c.args.x.now c.loop-t.invariant c.in-Some.ensures.cases.0 h.1)) off),
    )

pub loop-t-preserved : goal.loop-t-preserved
loop-t-preserved g c =
    let n = length c.args.arr.now.forms in
    let t = c.in-Some.t.now in
    let all = c.first-all.result in
    let is_all : all ≡ one_to n = c.first-all.ensures.value ∙ ap one_to c.len.ensures.value in
    let on : is_within t.0 all ≡ true = sym c.is_within.ensures.value ∙ c.if-not-is_within.false in
    within-next n t c.loop-t.rest.now c.in-Some.more.now c.args.x.now c.loop-t.invariant c.in-Some.ensures.cases.0
    ((within-test n t.0 all c.is_within.ensures.set is_all).0 on)

pub returns : goal.returns
returns g c =
    let n = length c.args.arr.now.forms in
    ((λ b. (c.terms-rest.ensures.of, within-ends n c.loop-t.rest.now c.args.x.now c.loop-t.invariant c.in_default.ensures.cases)), λ h. refl)
