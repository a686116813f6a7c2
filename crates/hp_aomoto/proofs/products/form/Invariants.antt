use Rattle.std.proofs.Common.{◌≡◌, ◌≤◌, length}
use Rattle.hp_aomoto.proofs.FormSums.{form_from}
use Rattle.hp_aomoto.proofs.products.form.Given as goal

-- the hyperplanes from i on are summed
abbrev pub invariant-loop-i : goal.invariant-loop-i
invariant-loop-i g l = record {
  within : l.i ≤ length l.arr.forms;
  sum : l.sum ≡ form_from g.K.Ring.ring l.weights (length l.arr.forms) l.i;
}
