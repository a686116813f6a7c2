use Rattle.std.proofs.Common.{◌∙◌, length, drop, arith}
use Rattle.hp_algebra.proofs.Dots.{dot_of-end}
use Rattle.hp_algebra.proofs.sums.form_value.Goals as goal

pub loop-k-init : goal.loop-k-init
loop-k-init g c =
    let point = c.args.point.now in
    record {
      point = λ k d from below. absurd (omega arith);
      value = c.nil-value.ensures.value ∙ dot_of-end g.F.Ring.ring (drop (length point) c.args.form.now) point;
      answer = c.nil-value.ensures.answer;
    }
