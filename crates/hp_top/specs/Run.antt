-- What a run does: what it reads and writes by each status, and when each status comes.
use Rattle.std.specs.Prelude.{◌≡◌, ◌≢◌, ◌⊎◌, ◌↔◌, ℕ, ◌-◌, ◌^◌, ◌<◌, ◌≤◌, List, [], ◌++◌, length, Option, Some}
use Rattle.hp_io.specs.Causes.{Rose}
use Rattle.hp_script.specs.Script.{most_bytes}
use Rattle.hp_top.specs.Course.{IsShort, IsAccepted, IsRefused}
use Rattle.hp_top.specs.Summary.{IsSampleWords, IsSummary}
use Rattle.hp_top.specs.Text.{IsRunText, IsPartText, IsPrefix}
use Rattle.hp_top.specs.declared.status.Status.{Status}
use Rattle.hp_top.specs.declared.status.Status.TheVariants.{Done, ScriptRefused, ReadFault, WriteFault, TooLong, WordsRefused, OutOfMemory}

-- there are no words, or they ask for the sample of a number
abbrev pub AreKnownWords : List (List ℕ) → Type 0
AreKnownWords words = (words ≡ []) ⊎ ((k : ℕ) × IsSampleWords words k)

-- What is seen of a run: the words, what the source has left and the sink has written where they tell it, their counts of faults, and the status.
pub record Call : Type 0 where
  pub words : List (List ℕ)
  pub left_before : Option (List ℕ)
  pub left_after : Option (List ℕ)
  pub read_faults_before : ℕ
  pub read_faults_after : ℕ
  pub written_before : Option (List ℕ)
  pub written_after : Option (List ℕ)
  pub write_faults_before : ℕ
  pub write_faults_after : ℕ
  pub status : Status

module _ (call : Call) where
  abbrev pub NoFaults : Type 0
  NoFaults = ¬ (Rose call.read_faults_before call.read_faults_after) × ¬ (Rose call.write_faults_before call.write_faults_after)

  -- where the sink tells, what was written grew by bytes with the property
  abbrev pub Wrote : (List ℕ → Type 0) → Type 0
  Wrote P = (old : List ℕ) → call.written_before ≡ Some old → (bytes : List ℕ) × P bytes × (call.written_after ≡ Some (old ++ bytes))

  abbrev pub WroteNothing : Type 0
  WroteNothing = call.written_after ≡ call.written_before

  -- without words, over a source that tells its bytes, which are the script
  abbrev pub Reads : List ℕ → Type 0
  Reads script = (call.words ≡ []) × (call.left_before ≡ Some script)

  -- The headline, which follows from the parts below. An accepted script, with no fault and ample memory: the bytes written are the text of one right answer for each question, in order.
  abbrev pub WritesRightRun : Type 0
  WritesRightRun = (script : List ℕ) → Reads script → NoFaults → call.status ≢ OutOfMemory → IsAccepted script
      → (call.status ≡ Done) × (call.left_after ≡ Some []) × Wrote (IsRunText script)

  -- A refused script likewise, and this follows too: the answers before the refusal, and its line.
  abbrev pub WritesRefusal : Type 0
  WritesRefusal = (script : List ℕ) → Reads script → NoFaults → call.status ≢ OutOfMemory → IsRefused script
      → (call.status ≡ ScriptRefused) × (call.left_after ≡ Some []) × Wrote (IsRunText script)

  -- Words are refused exactly where there are some and they ask for no sample, and then nothing is read or written.
  pub record RefusesWords : Type 0 where
    pub exactly : (call.status ≡ WordsRefused) ↔ (¬ (AreKnownWords call.words))
    pub nothing : call.status ≡ WordsRefused → (call.left_after ≡ call.left_before) × WroteNothing

  -- What was written by each status.
  pub record WritesByStatus : Type 0 where
    pub read_fault : call.status ≡ ReadFault → WroteNothing
    pub too_long : call.status ≡ TooLong → WroteNothing
    pub cut_off : (script : List ℕ) → Reads script → (call.status ≡ WriteFault) ⊎ (call.status ≡ OutOfMemory)
        → Wrote (λ bytes. (bytes ≡ []) ⊎ (IsShort script × IsPartText script bytes))
    pub done : (script : List ℕ) → Reads script → call.status ≡ Done
        → IsAccepted script × (call.left_after ≡ Some []) × Wrote (IsRunText script)
    pub refused : (script : List ℕ) → Reads script → call.status ≡ ScriptRefused
        → IsRefused script × (call.left_after ≡ Some []) × Wrote (IsRunText script)

  -- When each status comes. Want of memory is the one free answer.
  pub record HasCauses : Type 0 where
    pub read_fault : call.status ≡ ReadFault → (call.words ≡ []) × Rose call.read_faults_before call.read_faults_after
    pub write_fault : call.status ≡ WriteFault → AreKnownWords call.words
        × Rose call.write_faults_before call.write_faults_after
    -- exactly where more than the most was taken; without a read fault that is so for every longer script
    pub too_long : (script : List ℕ) → Reads script → call.status ≡ TooLong
        → (taken : List ℕ) × (left : List ℕ) × (script ≡ taken ++ left) × (call.left_after ≡ Some left)
        × (most_bytes < length taken)
    pub taken_too_much : (taken left : List ℕ) → Reads (taken ++ left) → call.left_after ≡ Some left
        → most_bytes < length taken → call.status ≡ TooLong
    pub longer : (script : List ℕ) → Reads script → most_bytes < length script
        → ¬ (Rose call.read_faults_before call.read_faults_after)
        → (call.status ≡ TooLong) ⊎ (call.status ≡ OutOfMemory)
    -- these two follow from the parts above and from what was written
    pub accepted : (script : List ℕ) → Reads script → NoFaults → IsAccepted script
        → (call.status ≡ Done) ⊎ (call.status ≡ OutOfMemory)
    pub refused : (script : List ℕ) → Reads script → NoFaults → IsRefused script
        → (call.status ≡ ScriptRefused) ⊎ (call.status ≡ OutOfMemory)

  -- With the words of the sample of a number: nothing is read, and the four lines of its summary are written. The first two follow from the others.
  pub record RunsSample (k : ℕ) : Type 0 where
    pub headline : ¬ (Rose call.write_faults_before call.write_faults_after) → call.status ≢ OutOfMemory
        → (call.status ≡ Done) × Wrote (IsSummary k)
    pub completes : ¬ (Rose call.write_faults_before call.write_faults_after)
        → (call.status ≡ Done) ⊎ (call.status ≡ OutOfMemory)
    pub nothing_read : (call.left_after ≡ call.left_before) × (call.read_faults_after ≡ call.read_faults_before)
    pub statuses : (call.status ≡ Done) ⊎ ((call.status ≡ WriteFault) ⊎ (call.status ≡ OutOfMemory))
    pub done : call.status ≡ Done → Wrote (IsSummary k)
    pub cut_off : (call.status ≡ WriteFault) ⊎ (call.status ≡ OutOfMemory)
        → Wrote (λ bytes. (bytes ≡ []) ⊎ ((text : List ℕ) × IsSummary k text × IsPrefix bytes text))

  -- The counts of faults don't fall, and fit their type.
  pub record CountsFaults : Type 0 where
    pub read_faults : call.read_faults_before ≤ call.read_faults_after
    pub write_faults : call.write_faults_before ≤ call.write_faults_after
    pub read_fits : call.read_faults_after ≤ 2 ^ 64 - 1
    pub write_fits : call.write_faults_after ≤ 2 ^ 64 - 1

  -- The whole of it.
  pub record IsRightCall : Type 0 where
    pub headline : WritesRightRun
    pub refusal : WritesRefusal
    pub words : RefusesWords
    pub written : WritesByStatus
    pub causes : HasCauses
    pub sample : (k : ℕ) → IsSampleWords call.words k → RunsSample k
    pub counts : CountsFaults
