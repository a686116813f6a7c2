-- From what the parts of a run do, the whole clause of the run.
use Rattle.std.proofs.Common.{◌≡◌, ◌≢◌, ◌⊎◌, ℕ, ◌<◌, List, [], ◌++◌, length, Option, Some, refl, sym, ap, subst, ◌∙◌, inl, inr, arith, length-append}
use Rattle.std.proofs.lemmas.List.{append-nil}
use Rattle.hp_io.specs.Bytes.{Gave, TookAll}
use Rattle.hp_io.specs.Causes.{Rose, HasCause}
use Rattle.hp_io.proofs.Givings.{gave_told}
use Rattle.hp_io.proofs.Takings.{took_all_told}
use Rattle.hp_script.specs.Script.{most_bytes}
use Rattle.hp_top.specs.Course.{Course, HasCourse, IsShort, IsAccepted, IsRefused}
use Rattle.hp_top.specs.Text.{IsRunText, IsPartText, IsPartOf}
use Rattle.hp_top.specs.Ends.{EndsBy, EndsScript}
use Rattle.hp_top.specs.Run.{Call, AreKnownWords, NoFaults, Wrote, Reads, RefusesWords, WritesByStatus, RunsSample, CountsFaults, IsRightCall}
use Rattle.hp_top.specs.Summary.{IsSampleWords}
use Rattle.hp_top.specs.declared.status.Status.{Status}
use Rattle.hp_top.specs.declared.status.Status.TheVariants.{Done, ScriptRefused, ReadFault, WriteFault, TooLong, WordsRefused, OutOfMemory}
use Rattle.hp_top.proofs.OneCourse.{not_both}

-- What each status says of a call; the rest of the clause follows.
pub record Core (call : Call) : Type 0 where
  pub words : RefusesWords call
  pub written : WritesByStatus call
  pub read_fault : call.status ≡ ReadFault → (call.words ≡ []) × Rose call.read_faults_before call.read_faults_after
  pub write_fault : call.status ≡ WriteFault → AreKnownWords call.words × Rose call.write_faults_before call.write_faults_after
  pub too_long : (script : List ℕ) → Reads call script → call.status ≡ TooLong
      → (taken : List ℕ) × (left : List ℕ) × (script ≡ taken ++ left) × (call.left_after ≡ Some left)
      × (most_bytes < length taken)
  pub taken_too_much : (taken left : List ℕ) → Reads call (taken ++ left) → call.left_after ≡ Some left
      → most_bytes < length taken → call.status ≡ TooLong
  pub longer : (script : List ℕ) → Reads call script → most_bytes < length script
      → ¬ (Rose call.read_faults_before call.read_faults_after) → (call.status ≡ TooLong) ⊎ (call.status ≡ OutOfMemory)
  pub sample : (k : ℕ) → IsSampleWords call.words k → RunsSample call k
  pub counts : CountsFaults call

module _ (call : Call) (core : Core call) where
  -- without words and faults, the status is that of an accepted or a refused script, or memory was out, or the script is too long
  sorts : (script : List ℕ) → Reads call script → NoFaults call → IsShort script → (s : Status) → call.status ≡ s
      → (call.status ≡ Done) ⊎ ((call.status ≡ ScriptRefused) ⊎ (call.status ≡ OutOfMemory))
  sorts script reads none short Done e = inl e
  sorts script reads none short ScriptRefused e = inr (inl e)
  sorts script reads none short OutOfMemory e = inr (inr e)
  sorts script reads none short ReadFault e = absurd (none.0 (core.read_fault e).1)
  sorts script reads none short WriteFault e = absurd (none.1 (core.write_fault e).1)
  sorts script reads none short WordsRefused e = absurd (core.words.exactly.0 e (inl reads.0))
  sorts script reads none short TooLong e =
      let over = core.too_long script reads e in
      let lengths = ap length over.2 in
      absurd (omega (arith, short, lengths, over.4, length-append over.0 over.1))

  accepted_ends : (script : List ℕ) → Reads call script → NoFaults call → IsAccepted script
      → (call.status ≡ Done) ⊎ (call.status ≡ OutOfMemory)
  accepted_ends script reads none accepted = elim (sorts script reads none accepted.0 call.status refl) [
    | inl done ↦ inl done
    | inr other ↦ elim other [
      | inl refused ↦ absurd (not_both script accepted (core.written.refused script reads refused).0)
      | inr out ↦ inr out
    ]
  ]

  refused_ends : (script : List ℕ) → Reads call script → NoFaults call → IsRefused script
      → (call.status ≡ ScriptRefused) ⊎ (call.status ≡ OutOfMemory)
  refused_ends script reads none refused = elim (sorts script reads none refused.0 call.status refl) [
    | inl done ↦ absurd (not_both script (core.written.done script reads done).0 refused)
    | inr other ↦ other
  ]

  pub right_call : IsRightCall call
  right_call = record {
    headline = λ script reads none ample accepted. elim (accepted_ends script reads none accepted) [
      | inl done ↦ (let whole = core.written.done script reads done in (done, whole.1, whole.2))
      | inr out ↦ absurd (ample out)
    ];
    refusal = λ script reads none ample refused. elim (refused_ends script reads none refused) [
      | inl status ↦ (let whole = core.written.refused script reads status in (status, whole.1, whole.2))
      | inr out ↦ absurd (ample out)
    ];
    words = core.words;
    written = core.written;
    causes = record {
      read_fault = core.read_fault;
      write_fault = core.write_fault;
      too_long = core.too_long;
      taken_too_much = core.taken_too_much;
      longer = core.longer;
      accepted = accepted_ends;
      refused = refused_ends;
    };
    sample = core.sample;
    counts = core.counts;
  }

-- bytes that were given to a sink which tells what was written
pub wrote : (P : List ℕ → Type 0) (before now : Option (List ℕ)) (bytes : List ℕ) → P bytes → Gave before now bytes
    → (old : List ℕ) → before ≡ Some old → (x : List ℕ) × P x × (now ≡ Some (old ++ x))
wrote P before now bytes p gave old e = (bytes, p, gave_told old now bytes (subst (λ o. Gave o now bytes) e gave))

wrote_nothing : (P : List ℕ → Type 0) (before now : Option (List ℕ)) → P [] → now ≡ before → (old : List ℕ)
    → before ≡ Some old → (x : List ℕ) × P x × (now ≡ Some (old ++ x))
wrote_nothing P before now p same old e = ([], p, same ∙ e ∙ ap Some (sym (append-nil old)))

-- there are no words, so they ask for no sample
pub no_sample : (words : List (List ℕ)) → words ≡ [] → (k : ℕ) → IsSampleWords words k → ⊥
no_sample words none k is = differ (length words) (ap length none) (ap length is.0)
  where
    differ : (n : ℕ) → n ≡ 0 → n ≡ 2 → ⊥
    differ n e f = omega (arith, e, f)

-- a script was read to its end, and it ran
module _ (words : List (List ℕ)) (left_before left_after : Option (List ℕ)) (read_before read_after : ℕ) (written_before written_after : Option (List ℕ)) (write_before write_after : ℕ) (status : Status)
    (script : List ℕ) (no_words : words ≡ []) (whole : TookAll left_before left_after script) (short : IsShort script)
    (fault : Type 0) (reads : HasCause read_before read_after fault)
    (counted : HasCause write_before write_after (status ≡ WriteFault))
    (ends : EndsScript script status written_before written_after) where
  abbrev call : Call
  call = record {
    words = words;
    left_before = left_before;
    left_after = left_after;
    read_faults_before = read_before;
    read_faults_after = read_after;
    written_before = written_before;
    written_after = written_after;
    write_faults_before = write_before;
    write_faults_after = write_after;
    status = status;
  }

  -- the script that the source told is the one that was read, and nothing is left
  told : (s : List ℕ) → left_before ≡ Some s → (s ≡ script) × (left_after ≡ Some [])
  told s e = took_all_told s left_after script (subst (λ o. TookAll o left_after script) e whole)

  -- the course by which it ended
  course_of : (s : Status) → status ≡ s → s ≢ OutOfMemory
      → (c : Course) × HasCourse script c × EndsBy s c written_before written_after
  course_of s e other = elim ends [
    | inl ran ↦ (ran.0, ran.1, subst (λ t. EndsBy t ran.0 written_before written_after) e ran.2)
    | inr out ↦ absurd (other (sym e ∙ out.0))
  ]

  no_such : (s : Status) → status ≡ s → ((c : Course) → EndsBy s c written_before written_after → ⊥) → s ≢ OutOfMemory
      → ⊥
  no_such s e never other = let ran = course_of s e other in never ran.0 ran.2

  -- what was written of a run that was cut off
  cut_off : (s : List ℕ) → left_before ≡ Some s → (status ≡ WriteFault) ⊎ (status ≡ OutOfMemory)
      → Wrote call (λ bytes. (bytes ≡ []) ⊎ (IsShort s × IsPartText s bytes))
  cut_off s e which =
      let P : List ℕ → Type 0 = λ bytes. (bytes ≡ []) ⊎ (IsShort s × IsPartText s bytes) in
      let same = (told s e).0 in
      let part : (c : Course) → HasCourse script c → (bytes : List ℕ) → IsPartOf c bytes → P bytes =
      λ c has bytes is. subst (λ t. (bytes ≡ []) ⊎ (IsShort t × IsPartText t bytes)) (sym same) (inr (short, (c, has, is))) in
      elim which [
        | inl fault ↦ (let ran = course_of WriteFault fault (λ clash. cc) in wrote P written_before written_after ran.2.0 (part ran.0 ran.1 ran.2.0 ran.2.1) ran.2.2)
        | inr out ↦ elim ends [
          | inl ran ↦ (let cut = subst (λ t. EndsBy t ran.0 written_before written_after) out ran.2 in wrote P written_before written_after cut.0 (part ran.0 ran.1 cut.0 cut.1) cut.2)
          | inr none ↦ wrote P written_before written_after [] (inl refl) none.1
        ]
      ]

  done : (s : List ℕ) → left_before ≡ Some s → status ≡ Done
      → IsAccepted s × (left_after ≡ Some []) × Wrote call (IsRunText s)
  done s e is =
      let at = told s e in
      let ran = course_of Done is (λ clash. cc) in
      let text = ran.2.1 in (
        subst IsAccepted (sym at.0) (short, (ran.0, ran.1, ran.2.0)),
        at.1,
        wrote (IsRunText s) written_before written_after text.0 (subst (λ t. IsRunText t text.0) (sym at.0) (ran.0, ran.1, text.1)) text.2,
      )

  refused : (s : List ℕ) → left_before ≡ Some s → status ≡ ScriptRefused
      → IsRefused s × (left_after ≡ Some []) × Wrote call (IsRunText s)
  refused s e is =
      let at = told s e in
      let ran = course_of ScriptRefused is (λ clash. cc) in
      let text = ran.2.1 in (
        subst IsRefused (sym at.0) (short, (ran.0, ran.2.0.0, ran.1, ran.2.0.1)),
        at.1,
        wrote (IsRunText s) written_before written_after text.0 (subst (λ t. IsRunText t text.0) (sym at.0) (ran.0, ran.1, text.1)) text.2,
      )

  -- what is longer than the most was not read to its end
  too_long : (s : List ℕ) → left_before ≡ Some s → most_bytes < length s → ⊥
  too_long s e more = let same = ap length (told s e).0 in omega (arith, more, same, short)

  over_end : (taken left : List ℕ) → left_before ≡ Some (taken ++ left) → most_bytes < length taken → ⊥
  over_end taken left e more = too_long (taken ++ left) e (let both = length-append taken left in omega (arith, more, both))

  pub ran_right : IsRightCall call
  ran_right = right_call call (record {
    words = record {
      exactly = (λ is. absurd (no_such WordsRefused is (λ c never. never) (λ clash. cc)), λ unknown. absurd (unknown (inl no_words)));
      nothing = λ is. absurd (no_such WordsRefused is (λ c never. never) (λ clash. cc));
    };
    written = record {
      read_fault = λ is. absurd (no_such ReadFault is (λ c never. never) (λ clash. cc));
      too_long = λ is. absurd (no_such TooLong is (λ c never. never) (λ clash. cc));
      cut_off = λ s r which. cut_off s r.1 which;
      done = λ s r is. done s r.1 is;
      refused = λ s r is. refused s r.1 is;
    };
    read_fault = λ is. absurd (no_such ReadFault is (λ c never. never) (λ clash. cc));
    write_fault = λ is. (inl no_words, counted.cause is);
    too_long = λ s r is. absurd (no_such TooLong is (λ c never. never) (λ clash. cc));
    taken_too_much = λ taken left r e more. absurd (over_end taken left r.1 more);
    longer = λ s r more none. absurd (too_long s r.1 more);
    sample = λ k is. absurd (no_sample words no_words k is);
    counts = record { read_faults = reads.never_falls; write_faults = counted.never_falls; read_fits = reads.fits; write_fits = counted.fits };
  })
