-- The exit status of a run.
use Rattle.std.specs.Prelude.{ℕ}
use Rattle.hp_top.specs.declared.status.Status.{Status}
use Rattle.hp_top.specs.declared.status.Status.TheVariants.{Done, ScriptRefused, ReadFault, WriteFault, TooLong, WordsRefused, OutOfMemory}

abbrev pub code_of : Status → ℕ
code_of Done = 0
code_of ScriptRefused = 1
code_of ReadFault = 2
code_of WriteFault = 3
code_of TooLong = 4
code_of WordsRefused = 5
code_of OutOfMemory = 6
