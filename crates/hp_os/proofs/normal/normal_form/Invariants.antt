use Rattle.std.proofs.Common.{◌-◌, length}
use Rattle.hp_arr.specs.Arrangement.{IsArrangement}
use Rattle.hp_arr.proofs.Setting.{setting}
use Rattle.hp_os.proofs.Passes.{IsPass, IsReady}
use Rattle.hp_os.proofs.normal.normal_form.Given as goal

-- the sums of members of what is left are below a bound that falls to zero
abbrev pub invariant-loop-back : goal.invariant-loop-back
invariant-loop-back g l =
    (lawful : IsArrangement g.K.Ring.ring g.K.FiniteField.numbers l.arr)
    → IsReady (setting g.met.K.Field.field_laws g.met.K.FiniteField.numbering lawful) l.x (l.bound - l.back) l.todo.items l.done.items

abbrev pub invariant-loop-t : goal.invariant-loop-t
invariant-loop-t g l =
    (lawful : IsArrangement g.K.Ring.ring g.K.FiniteField.numbers l.arr)
    → IsPass (setting g.met.K.Field.field_laws g.met.K.FiniteField.numbering lawful) l.x l.level l.rest l.lower.items l.done.items

abbrev pub decreases-loop-t : goal.decreases-loop-t
decreases-loop-t g l = length l.rest
