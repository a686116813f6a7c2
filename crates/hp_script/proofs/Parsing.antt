-- Reading the lines of a script one after the other.
use Rattle.std.proofs.Common.{◌≡◌, ℕ, zero, suc, ◌+◌, ◌-◌, ◌<◌, ◌≤◌, ◌==◌, Bool, true, false, cond, List, [], ◌∷◌, ◌++◌, length, map, drop, get_or, Some, refl, sym, ap, subst, ◌∙◌, append_assoc, inl, inr, arith, add-one, Bor}
use Rattle.std.proofs.Math.Seq.{drop-cons}
use Rattle.std.specs.List.{slice_get, slice_split, onto_first, All}
use Rattle.std.proofs.lemmas.Option.{slice_get-get_or, get_or_from_slice_get}
use Rattle.std.proofs.lemmas.List.{append-nil, length-map}
use Rattle.std.proofs.lemmas.List.Elements.{All-nil, All-cons, All-head, All-tail, All-push, All-weaker, All-get_or}
use Rattle.std.proofs.lemmas.List.Splits.{length-slice_split}
use Rattle.std.proofs.lemmas.List.Sums.{count_by-le-length}
use Rattle.hp_script.specs.declared.command.Command.{Command}
use Rattle.hp_script.specs.declared.command.Line.{Line}
use Rattle.hp_script.specs.Tokens.{line_tokens}
use Rattle.hp_script.specs.Grammar.{Spells}
use Rattle.hp_script.specs.Script.{most_bytes, lines, IsAllowed, IsRefusedAt, HasCommandsFrom, HasCommands, HasSyntaxFault, IsFaultOf}
use Rattle.hp_script.specs.Lists.{CommandIsShort}
use Rattle.hp_script.specs.Reading.{AddsLine, IsFaultAt}
use Rattle.hp_script.specs.declared.command.ScriptFault.{ScriptFault}
use Rattle.hp_script.specs.declared.command.ScriptFault.TheVariants.{Syntax, Memory}
use Rattle.hp_script.proofs.OneReading.{by_order}

-- The first n lines are within the grammar, and their commands are those.
pub record Parsing (bytes : List ℕ) (texts : List (List ℕ)) (n : ℕ) (done : List Line) : Type 0 where
  pub lines_are : texts ≡ lines bytes
  pub goes_on : (rest : List Line) → HasCommandsFrom (n + 1) (drop n texts) rest
      → HasCommandsFrom 1 texts (done ++ rest)
  pub allowed : (k : ℕ) (l : List ℕ) → k < n → slice_get texts k ≡ Some l → IsAllowed l
  pub short : All (λ l. CommandIsShort l.command) done

pub none_yet : (bytes : List ℕ) (texts : List (List ℕ)) → texts ≡ lines bytes → Parsing bytes texts 0 []
none_yet bytes texts e = record {
  lines_are = e;
  goes_on = λ rest h. h;
  allowed = λ k l h. absurd (none k h);
  short = All-nil (λ l. CommandIsShort l.command);
}
  where
    none : (k : ℕ) → k < 0 → ⊥
    none k h = omega arith

-- the lines below n + 1
one_more : (texts : List (List ℕ)) (n : ℕ) → IsAllowed (get_or texts n [])
    → ((k : ℕ) (l : List ℕ) → k < n → slice_get texts k ≡ Some l → IsAllowed l)
    → (k : ℕ) (l : List ℕ) → k < n + 1 → slice_get texts k ≡ Some l → IsAllowed l
one_more texts n here below k l h e =
    by_order k n (λ less. below k l less e) (λ over. absurd (none k n h over))
    (λ same. subst IsAllowed (get_or_from_slice_get texts n l [] (ap (slice_get texts) (sym same) ∙ e)) here)
  where
    none : (k n : ℕ) → k < n + 1 → n < k → ⊥
    none k n h i = omega arith

drop_step : (texts : List (List ℕ)) (n : ℕ) → n < length texts → drop n texts ≡ get_or texts n [] ∷ drop (n + 1) texts
drop_step texts n h = drop-cons texts n [] h ∙ ap (λ m. get_or texts n [] ∷ drop m texts) (sym (add-one n))

passes_line : (bytes : List ℕ) (texts : List (List ℕ)) (n : ℕ) (done : List Line) → Parsing bytes texts n done
    → n < length texts → line_tokens (get_or texts n []) ≡ [] → Parsing bytes texts (n + 1) done
passes_line bytes texts n done p h e = record {
  lines_are = p.lines_are;
  goes_on = λ rest r. p.goes_on rest (subst (λ ls. HasCommandsFrom (n + 1) ls rest) (sym (drop_step texts n h)) (inl (e, r)));
  allowed = one_more texts n (inl e) p.allowed;
  short = p.short;
}

takes_command : (bytes : List ℕ) (texts : List (List ℕ)) (n : ℕ) (done : List Line) (c : Command)
    → Parsing bytes texts n done → n < length texts → Spells (line_tokens (get_or texts n [])) c → CommandIsShort c
    → Parsing bytes texts (n + 1) (done ++ record { number = n + 1; command = c } ∷ [])
takes_command bytes texts n done c p h s b =
    let line : Line = record { number = n + 1; command = c } in
    record {
      lines_are = p.lines_are;
      goes_on = λ rest r. subst (λ cs. HasCommandsFrom 1 texts cs) (sym (append_assoc done (line ∷ []) rest))
          (p.goes_on (line ∷ rest) (subst (λ ls. HasCommandsFrom (n + 1) ls (line ∷ rest)) (sym (drop_step texts n h)) (inr (c, rest, s, refl, r))));
      allowed = one_more texts n (inr (c, s)) p.allowed;
      short = All-push (λ l. CommandIsShort l.command) done line p.short b;
    }

pub adds_line : (bytes : List ℕ) (texts : List (List ℕ)) (n : ℕ) (done now : List Line) → Parsing bytes texts n done
    → n < length texts → AddsLine (n + 1) (get_or texts n []) done now → Parsing bytes texts (n + 1) now
adds_line bytes texts n done now p h (inl a) = subst (λ cs. Parsing bytes texts (n + 1) cs) (sym a.1) (passes_line bytes texts n done p h a.0)
adds_line bytes texts n done now p h (inr a) = subst (λ cs. Parsing bytes texts (n + 1) cs) (sym a.3) (takes_command bytes texts n done a.0 p h a.1 a.2)

has_fault : (bytes : List ℕ) (texts : List (List ℕ)) (n : ℕ) (done : List Line) (column : ℕ)
    → Parsing bytes texts n done → n < length texts → IsRefusedAt (get_or texts n []) column
    → HasSyntaxFault bytes (n + 1) column
has_fault bytes texts n done column p h r = record {
  text = get_or texts n [];
  at = ap (λ k. slice_get (lines bytes) k) (less n) ∙ ap (λ ls. slice_get ls n) (sym p.lines_are) ∙ slice_get-get_or texts n [] h;
  counted = one n;
  before = λ k l i e. p.allowed k l (fewer k n i) (ap (λ ls. slice_get ls k) p.lines_are ∙ e);
  column_is = r;
}
  where
    less : (n : ℕ) → n + 1 - 1 ≡ n
    less n = omega arith

    one : (n : ℕ) → 1 ≤ n + 1
    one n = omega arith

    fewer : (k n : ℕ) → k + 1 < n + 1 → k < n
    fewer k n i = omega arith

pub fault_of : (bytes : List ℕ) (texts : List (List ℕ)) (n : ℕ) (done : List Line) (e : ScriptFault)
    → Parsing bytes texts n done → n < length texts → IsFaultAt (n + 1) (get_or texts n []) e → IsFaultOf bytes e
fault_of bytes texts n done Memory p h f = tt
fault_of bytes texts n done (Syntax line column) p h f = subst (λ l. HasSyntaxFault bytes l column) (sym f.0) (has_fault bytes texts n done column p h f.1)

drop_all : {A : Type 0} (xs : List A) → drop (length xs) xs ≡ []
drop_all [] = refl
drop_all (x ∷ xs) = drop_all xs

pub has_all : (bytes : List ℕ) (texts : List (List ℕ)) (n : ℕ) (done : List Line) → Parsing bytes texts n done
    → n ≡ length texts → HasCommands bytes done
has_all bytes texts n done p e =
    subst (λ ls. HasCommandsFrom 1 ls done) p.lines_are
    (subst (λ cs. HasCommandsFrom 1 texts cs) (append-nil done) (p.goes_on [] (subst (λ ls. HasCommandsFrom (n + 1) ls []) (sym (ap (λ m. drop m texts) e ∙ drop_all texts)) refl)))

-- a script has no more lines than bytes and one, and none is longer
pub few_lines : (bytes : List ℕ) → length (lines bytes) ≤ length bytes + 1
few_lines bytes = lemma (length (lines bytes)) _ (length bytes) (length-slice_split (λ b. b == 10) bytes) (count_by-le-length (λ b. b == 10) bytes)
  where
    lemma : (a b n : ℕ) → a ≡ b + 1 → b ≤ n → a ≤ n + 1
    lemma a b n e h = omega arith

parts_short : (p : ℕ → Bool) (bs : List ℕ) → All (λ l. length l ≤ length bs) (slice_split p bs)
parts_short p [] = All-cons (λ l. length l ≤ 0) [] [] none (All-nil (λ l. length l ≤ 0))
  where
    none : 0 ≤ 0
    none = omega arith
parts_short p (b ∷ bs) = by_test (p b) (slice_split p bs) (parts_short p bs)
  where
    none : (n : ℕ) → 0 ≤ suc n
    none n = omega arith

    more : (a n : ℕ) → a ≤ n → suc a ≤ suc n
    more a n h = omega arith

    weaker : (parts : List (List ℕ)) → All (λ l. length l ≤ length bs) parts
        → All (λ l. length l ≤ suc (length bs)) parts
    weaker parts h = All-weaker (λ l. length l ≤ length bs) (λ l. length l ≤ suc (length bs)) (λ l i. omega (arith, i)) parts h

    by_test : (r : Bool) (parts : List (List ℕ)) → All (λ l. length l ≤ length bs) parts
        → All (λ l. length l ≤ suc (length bs)) (cond r ([] ∷ parts) (onto_first b parts))
    by_test true parts h = All-cons (λ l. length l ≤ suc (length bs)) [] parts (none (length bs)) (weaker parts h)
    by_test false [] h = All-cons (λ l. length l ≤ suc (length bs)) (b ∷ []) [] (more 0 (length bs) (first (length bs))) (All-nil (λ l. length l ≤ suc (length bs)))
      where
        first : (n : ℕ) → 0 ≤ n
        first n = omega arith
    by_test false (l ∷ parts) h =
        All-cons (λ l. length l ≤ suc (length bs)) (b ∷ l) parts (more (length l) (length bs) (All-head (λ l. length l ≤ length bs) l parts h))
        (weaker parts (All-tail (λ l. length l ≤ length bs) l parts h))

pub line_within : (bytes : List ℕ) (texts : List (List ℕ)) (n : ℕ) → texts ≡ lines bytes → n < length texts
    → length (get_or texts n []) ≤ length bytes
line_within bytes texts n e h = All-get_or (λ l. length l ≤ length bytes) texts n [] h (subst (λ ls. All (λ l. length l ≤ length bytes) ls) (sym e) (parts_short (λ b. b == 10) bytes))

-- the text at a place of borrowed texts
text_at : (texts : List (Bor (List ℕ))) (n : ℕ)
    → get_or (map (λ x. x.now) texts) n [] ≡ (get_or texts n (record { ref_ptr = (0, 0); now = [] })).now
text_at [] n = refl
text_at (t ∷ ts) zero = refl
text_at (t ∷ ts) (suc n) = text_at ts n

pub text_is : (texts : List (Bor (List ℕ))) (n i : ℕ) → n ≡ i
    → (get_or texts i (record { ref_ptr = (0, 0); now = [] })).now ≡ get_or (map (λ x. x.now) texts) n []
text_is texts n i e = sym (text_at texts i) ∙ ap (λ k. get_or (map (λ x. x.now) texts) k []) (sym e)

pub is_within : (texts : List (Bor (List ℕ))) (n i : ℕ) → n ≡ i → i < length texts → n < length (map (λ x. x.now) texts)
is_within texts n i e h = lemma (length texts) (length (map (λ x. x.now) texts)) (length-map texts (λ x. x.now)) h
  where
    lemma : (a b : ℕ) → b ≡ a → i < a → n < b
    lemma a b f h = omega arith

pub is_over : (texts : List (Bor (List ℕ))) (n i : ℕ) → n ≡ i → i ≤ length texts → length texts ≤ i
    → n ≡ length (map (λ x. x.now) texts)
is_over texts n i e h j = lemma (length texts) (length (map (λ x. x.now) texts)) (length-map texts (λ x. x.now)) h j
  where
    lemma : (a b : ℕ) → b ≡ a → i ≤ a → a ≤ i → n ≡ b
    lemma a b f h j = omega arith

-- the number of a line is small
pub number_small : (bytes : List ℕ) (texts : List (List ℕ)) (n : ℕ) → texts ≡ lines bytes → n < length texts
    → length bytes ≤ most_bytes → n + 1 < 4294967296
number_small bytes texts n e h s = lemma (length texts) (length (lines bytes)) (length bytes) (ap length e) (few_lines bytes) h s
  where
    lemma : (a b c : ℕ) → a ≡ b → b ≤ c + 1 → n < a → c ≤ most_bytes → n + 1 < 4294967296
    lemma a b c e f g h = omega arith
