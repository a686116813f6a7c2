-- The whole clause of a run with words: those of a sample, or any others.
use Rattle.std.proofs.Common.{◌≡◌, ◌⊎◌, ℕ, ◌-◌, ◌^◌, ◌≤◌, List, [], get_or, Option, Err, refl, sym, ap, subst, ◌∙◌, inl, inr, arith}
use Rattle.std.proofs.lemmas.Fmt.{decimal_injective}
use Rattle.hp_io.specs.Causes.{Rose, HasCause}
use Rattle.hp_top.specs.Ends.{EndsSample, GaveFront, WritesText}
use Rattle.hp_top.specs.Run.{Call, Wrote, RunsSample, IsRightCall}
use Rattle.hp_top.specs.Summary.{IsSampleWords, IsSummary}
use Rattle.hp_top.specs.Text.{IsPrefix}
use Rattle.hp_top.specs.declared.status.Status.{Status}
use Rattle.hp_top.specs.declared.status.Status.TheVariants.{Done, ScriptRefused, ReadFault, WriteFault, TooLong, WordsRefused, OutOfMemory}
use Rattle.hp_top.proofs.RightCall.{right_call, no_sample, wrote}

-- the writing of a summary that was cut off
pub summary_cut : (k : ℕ) (text : List ℕ) → IsSummary k text → (s : Status) (before now : Option (List ℕ))
    → WritesText text (Err s) before now → EndsSample k s before now
summary_cut k text is WriteFault before now front = (text, is, front)
summary_cut k text is OutOfMemory before now front = inr (text, is, front)
summary_cut k text is Done before now none = absurd none
summary_cut k text is ScriptRefused before now none = absurd none
summary_cut k text is ReadFault before now none = absurd none
summary_cut k text is TooLong before now none = absurd none
summary_cut k text is WordsRefused before now none = absurd none

-- words ask for one sample
one_sample : (words : List (List ℕ)) (j k : ℕ) → IsSampleWords words j → IsSampleWords words k → j ≡ k
one_sample words j k is this =
    decimal_injective j k (omega (arith, is.1)) (omega (arith, this.1)) (ap (λ ws. get_or ws 1 []) (sym is.0 ∙ this.0))

module _ (words : List (List ℕ)) (left : Option (List ℕ)) (read_faults : ℕ) (written_before written_after : Option (List ℕ)) (write_before write_after : ℕ) (status : Status)
    (fits : read_faults ≤ 2 ^ 64 - 1) where
  -- a call that reads nothing
  abbrev call : Call
  call = record {
    words = words;
    left_before = left;
    left_after = left;
    read_faults_before = read_faults;
    read_faults_after = read_faults;
    written_before = written_before;
    written_after = written_after;
    write_faults_before = write_before;
    write_faults_after = write_after;
    status = status;
  }

  itself : (n : ℕ) → n ≤ n
  itself n = omega arith

  module _ (k : ℕ) (sample : IsSampleWords words k) (counted : HasCause write_before write_after (status ≡ WriteFault))
      (ends : EndsSample k status written_before written_after) where
    no_script : words ≡ [] → ⊥
    no_script none = no_sample words none k sample

    ends_by : (s : Status) → status ≡ s → EndsSample k s written_before written_after
    ends_by s e = subst (λ t. EndsSample k t written_before written_after) e ends

    statuses : (s : Status) → status ≡ s → (status ≡ Done) ⊎ ((status ≡ WriteFault) ⊎ (status ≡ OutOfMemory))
    statuses Done e = inl e
    statuses WriteFault e = inr (inl e)
    statuses OutOfMemory e = inr (inr e)
    statuses ScriptRefused e = absurd (ends_by ScriptRefused e)
    statuses ReadFault e = absurd (ends_by ReadFault e)
    statuses TooLong e = absurd (ends_by TooLong e)
    statuses WordsRefused e = absurd (ends_by WordsRefused e)

    completes : ¬ (Rose write_before write_after) → (status ≡ Done) ⊎ (status ≡ OutOfMemory)
    completes none = elim (statuses status refl) [
      | inl done ↦ inl done
      | inr other ↦ elim other [
        | inl fault ↦ absurd (none (counted.cause fault))
        | inr out ↦ inr out
      ]
    ]

    done : status ≡ Done → Wrote call (IsSummary k)
    done e = let text = ends_by Done e in wrote (IsSummary k) written_before written_after text.0 text.1 text.2

    -- a part of the summary, perhaps none
    abbrev IsPart : List ℕ → Type 0
    IsPart bytes = (bytes ≡ []) ⊎ ((text : List ℕ) × IsSummary k text × IsPrefix bytes text)

    front : (text : List ℕ) → IsSummary k text → GaveFront text written_before written_after → Wrote call IsPart
    front text is given = wrote IsPart written_before written_after given.0 (inr (text, is, given.1)) given.2

    cut_off : (status ≡ WriteFault) ⊎ (status ≡ OutOfMemory) → Wrote call IsPart
    cut_off (inl fault) = let text = ends_by WriteFault fault in front text.0 text.1 text.2
    cut_off (inr out) = elim (ends_by OutOfMemory out) [
      | inl none ↦ wrote IsPart written_before written_after [] (inl refl) none
      | inr text ↦ front text.0 text.1 text.2
    ]

    runs : RunsSample call k
    runs = record {
      headline = λ none ample. elim (completes none) [ inl e ↦ (e, done e) | inr out ↦ absurd (ample out) ];
      completes = completes;
      nothing_read = (refl, refl);
      statuses = statuses status refl;
      done = done;
      cut_off = cut_off;
    }

    no_such : (s : Status) → (EndsSample k s written_before written_after → ⊥) → status ≡ s → ⊥
    no_such s never e = never (ends_by s e)

    pub sampled_right : IsRightCall call
    sampled_right = right_call call (record {
      words = record {
        exactly = (λ e. absurd (no_such WordsRefused (λ never. never) e), λ unknown. absurd (unknown (inr (k, sample))));
        nothing = λ e. absurd (no_such WordsRefused (λ never. never) e);
      };
      written = record {
        read_fault = λ e. absurd (no_such ReadFault (λ never. never) e);
        too_long = λ e. absurd (no_such TooLong (λ never. never) e);
        cut_off = λ s r which. absurd (no_script r.0);
        done = λ s r e. absurd (no_script r.0);
        refused = λ s r e. absurd (no_script r.0);
      };
      read_fault = λ e. absurd (no_such ReadFault (λ never. never) e);
      write_fault = λ e. (inr (k, sample), counted.cause e);
      too_long = λ s r e. absurd (no_script r.0);
      taken_too_much = λ taken left r e more. absurd (no_script r.0);
      longer = λ s r more none. absurd (no_script r.0);
      sample = λ j is. subst (RunsSample call) (one_sample words k j sample is) runs;
      counts = record { read_faults = itself read_faults; write_faults = counted.never_falls; read_fits = fits; write_fits = counted.fits };
    })
