use Rattle.std.specs.Prelude.{◌≡◌, ◌+◌, take}
use Rattle.std.proofs.Common.{w64, to_z, of_z, sym, ◌∙◌, subst}
use Rattle.std.proofs.lemmas.Int.{to_z-of_z}
use Rattle.hp_mobius.specs.Partial.{IsShared, noted}
use Rattle.hp_mobius.proofs.CoverShares.{shared-taken, shared-left, small-sum, take-over}
use Rattle.hp_mobius.proofs.values.share_value.Goals.{then-misses_least+in_ok-take_off, else-misses_least}
use Rattle.hp_mobius.proofs.values.share_value.Goals as goal

pub loop-k-preserved : goal.loop-k-preserved
loop-k-preserved c =
    let v = to_z w64 (of_z w64 c.args.value) in
    let kept : v ≡ c.args.value = to_z-of_z w64 c.args.value c.ranges.value in
    let g = c.index-covers-k.result in
    elim c.if-misses_least.branch [
      | then-misses_least+in_ok-take_off w ↦
          subst (λ sums. IsShared c.args.f v (take (c.loop-k.k + 1) c.args.covers.now) (noted c.args.sums.now) (noted sums)) (sym w.sums-is)
          (shared-taken c.args.f v c.args.covers.now c.loop-k.k g (noted c.args.sums.now) (noted c.loop-k.sums) c.requires.once c.loop-k-test.true c.index-covers-k.is c.loop-k.invariant
          (noted w.take_off.new.sums) (sym c.misses_least.ensures ∙ w.if-misses_least.true) w.in_ok-take_off.ensures.taken w.in_ok-take_off.ensures.others)
      | else-misses_least w ↦
          subst (λ sums. IsShared c.args.f v (take (c.loop-k.k + 1) c.args.covers.now) (noted c.args.sums.now) (noted sums)) (sym w.sums-is)
          (shared-left c.args.f v c.args.covers.now c.loop-k.k g (noted c.args.sums.now) (noted c.loop-k.sums) c.requires.once c.loop-k-test.true c.index-covers-k.is c.loop-k.invariant
          (sym c.misses_least.ensures ∙ w.if-misses_least.false))
    ]

pub take_off-requires-clause-sum : goal.take_off-requires-clause-sum
take_off-requires-clause-sum c =
    small-sum c.args.f (to_z w64 (of_z w64 c.args.value)) c.args.covers.now c.loop-k.k c.index-covers-k.result (noted c.args.sums.now) (noted c.loop-k.sums) c.requires.once c.loop-k-test.true
    c.index-covers-k.is c.loop-k.invariant c.requires.sums

pub returns : goal.returns
returns c =
    subst (λ v. IsShared c.args.f v c.args.covers.now (noted c.args.sums.now) (noted c.loop-k.sums)) (to_z-of_z w64 c.args.value c.ranges.value)
    (subst (λ gs. IsShared c.args.f (to_z w64 (of_z w64 c.args.value)) gs (noted c.args.sums.now) (noted c.loop-k.sums))
    (take-over c.args.covers.now c.loop-k.k c.loop-k-test.false) c.loop-k.invariant)
