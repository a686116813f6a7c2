-- Before a field is chosen: the course of the lines ahead, under the limits that then hold.
use Rattle.std.proofs.Common.{◌≡◌, ℕ, ◌+◌, ◌-◌, ◌<◌, ◌≤◌, List, [], ◌∷◌, take, drop, length, Option, Some, None, refl, sym, ap, subst, ◌∙◌, get_or}
use Rattle.std.proofs.lemmas.List.{drop_more, take_rest}
use Rattle.std.proofs.Math.ListN.{drop_of_length-le}
use Rattle.hp_io.proofs.Givings.{gave_none}
use Rattle.hp_render.specs.declared.refusal.Refusal.{Refusal}
use Rattle.hp_script.specs.declared.command.Command.{Command}
use Rattle.hp_script.specs.declared.command.Command.TheVariants.{Field, Let, LimitPairs, LimitDegree, Ask}
use Rattle.hp_script.specs.declared.command.Line.{Line}
use Rattle.hp_session.specs.Refusals.{refusal_before_field}
use Rattle.hp_session.specs.State.{no_names}
use Rattle.hp_session.specs.Steps.{IsLimit, limits_after}
use Rattle.hp_groebner.specs.declared.limits.Limits.{Limits}
use Rattle.hp_top.specs.Course.{Course, refused_at, nothing_asked, line_course, course_after, course_behind, course_before, course}
use Rattle.hp_top.specs.Ends.{EndsBy}
use Rattle.hp_top.specs.declared.status.Status.{Status}
use Rattle.hp_top.specs.declared.status.Status.TheVariants.{Done}
use Rattle.hp_top.proofs.Courses.{nothing_text}

-- a limit leaves the choice to the lines behind it
behind-limit : (limits : Limits) (c : Command) (ls : List Line) (rest : Course) → IsLimit c
    → course_behind limits c ls rest ≡ rest
behind-limit limits (Field p) ls rest is = absurd is
behind-limit limits (Let x b) ls rest is = absurd is
behind-limit limits (LimitPairs n) ls rest is = refl
behind-limit limits (LimitDegree n) ls rest is = refl
behind-limit limits (Ask x q) ls rest is = absurd is

module _ (limits : Limits) (l : Line) (ls : List Line) where
  abbrev behind : Course
  behind = course_behind limits l.command ls (course_before (limits_after limits l.command) ls)

  accepted : refusal_before_field l.command ≡ None → course_before limits (l ∷ ls) ≡ behind
  accepted e = ap (λ o. line_course o l.number [] behind) e

  pub before_refused : (r : Refusal) → refusal_before_field l.command ≡ Some r
      → course_before limits (l ∷ ls) ≡ refused_at l.number r
  before_refused r e = ap (λ o. line_course o l.number [] behind) e

  pub before_limit : (next : Limits) → refusal_before_field l.command ≡ None → IsLimit l.command
      → next ≡ limits_after limits l.command → course_before limits (l ∷ ls) ≡ course_before next ls
  before_limit next e is same = accepted e ∙ behind-limit limits l.command ls (course_before (limits_after limits l.command) ls) is ∙ ap (λ n. course_before n ls) (sym same)

  pub before_field : (p : ℕ) → refusal_before_field l.command ≡ None → l.command ≡ Field p
      → course_before limits (l ∷ ls) ≡ course_after p (no_names limits) ls
  before_field p e is = accepted e ∙ ap (λ c. course_behind limits c ls (course_before (limits_after limits l.command) ls)) is

-- under these limits the course of all lines goes on at line i
module _ (lines : List Line) (i : ℕ) (limits : Limits) (ahead : course lines ≡ course_before limits (drop i lines)) where
  -- behind the last line nothing was asked
  pub ends_unchosen : length lines ≤ i → (now : Option (List ℕ)) → EndsBy Done (course lines) now now
  ends_unchosen past now =
      let none : course lines ≡ nothing_asked = ahead ∙ ap (course_before limits) (drop_of_length-le lines past) in
      subst (λ c. EndsBy Done c now now) (sym none) (refl, ([], nothing_text, gave_none now))

  module _ (line : Line) (within : i < length lines) (read : line ≡ get_or lines i line) where
    at_line : course lines ≡ course_before limits (line ∷ drop (i + 1) lines)
    at_line = ahead ∙ ap (course_before limits) (drop_more lines i line within ∙ ap (λ l. l ∷ drop (i + 1) lines) (sym read))

    -- the line is refused, and that ends the run
    pub ends_refused : (r : Refusal) (status : Status) (before now : Option (List ℕ))
        → refusal_before_field line.command ≡ Some r → EndsBy status (refused_at line.number r) before now
        → EndsBy status (course lines) before now
    ends_refused r status before now refused ends =
        subst (λ c. EndsBy status c before now) (sym (at_line ∙ before_refused limits line (drop (i + 1) lines) r refused)) ends

    -- the line chooses a field, and the run ends by the course of the lines behind it
    pub ends_chosen : (p : ℕ) (next : Limits) (status : Status) (before now : Option (List ℕ))
        → refusal_before_field line.command ≡ None → line.command ≡ Field p → next ≡ limits
        → EndsBy status (course_after p (no_names next) (take (length lines - (i + 1)) (drop (i + 1) lines))) before now
        → EndsBy status (course lines) before now
    ends_chosen p next status before now accepted chosen same ends =
        let behind : course lines ≡ course_after p (no_names limits) (drop (i + 1) lines) = at_line ∙ before_field limits line (drop (i + 1) lines) p accepted chosen in
        let there : course_after p (no_names next) (take (length lines - (i + 1)) (drop (i + 1) lines)) ≡ course_after p (no_names limits) (drop (i + 1) lines) =
        ap (λ n. course_after p (no_names n) (take (length lines - (i + 1)) (drop (i + 1) lines))) same ∙ ap (course_after p (no_names limits)) (take_rest lines (i + 1)) in
        subst (λ c. EndsBy status c before now) (there ∙ sym behind) ends
