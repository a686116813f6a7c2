-- A script has exactly one reading.
use Rattle.std.proofs.Common.{◌≡◌, ℕ, zero, suc, ◌+◌, ◌-◌, ◌<◌, ◌≤◌, List, [], ◌∷◌, length, map, Some, Result, Ok, Err, refl, sym, ap, subst, ◌∙◌, inl, inr, ◌⊎◌, arith}
use Rattle.std.specs.List.{slice_get}
use Rattle.std.specs.Option.{is_some}
use Rattle.std.proofs.lemmas.List.{length-map}
use Rattle.std.proofs.lemmas.Bool.{false≢true}
use Rattle.hp_script.specs.declared.token.Token.{Token}
use Rattle.hp_script.specs.declared.command.Command.{Command}
use Rattle.hp_script.specs.declared.command.Line.{Line}
use Rattle.hp_script.specs.Tokens.{Placed, tokens, line_tokens}
use Rattle.hp_script.specs.Grammar.{Spells, StopsAt}
use Rattle.hp_script.specs.Script.{lines, IsAllowed, IsRefusedAt, HasCommandsFrom, HasCommands, HasSyntaxFault, HasOneReading}
use Rattle.hp_script.specs.Reading.{command_at}
use Rattle.hp_script.proofs.Exact.{Exact, some_same}
use Rattle.hp_script.specs.Cut.{line_places, column_of}
use Rattle.hp_script.proofs.ExactLine.{line_exact, stops_at, stops_with}
use Rattle.hp_script.proofs.Columns.{refused}

-- tokens spell one command at most
pub spells_one : (ts : List Token) (c d : Command) → Spells ts c → Spells ts d → c ≡ d
spells_one ts c d s t = by_reading (command_at ts) (line_exact ts)
  where
    by_reading : (r : Result Command ℕ) → Exact Spells ts r → c ≡ d
    by_reading (Ok e) w = w.only c s ∙ sym (w.only d t)
    by_reading (Err n) w = let stops : StopsAt ts (length ts - n) = stops_at ts n w in absurd (stops.not_spelled c s)

-- no token spells nothing
pub spells_some : (c : Command) → Spells [] c → ⊥
spells_some c s = none (length _) (ap length s.1)
  where
    none : (n : ℕ) → 0 ≡ suc n → ⊥
    none n e = omega arith

pub by_order : {A : Type 0} (m n : ℕ) → (m < n → A) → (n < m → A) → (m ≡ n → A) → A
by_order zero zero f g h = h refl
by_order zero (suc n) f g h = f (less n)
  where
    less : (n : ℕ) → 0 < suc n
    less n = omega arith
by_order (suc m) zero f g h = g (less m)
  where
    less : (n : ℕ) → 0 < suc n
    less n = omega arith
by_order (suc m) (suc n) f g h = by_order m n (λ l. f (more m n l)) (λ l. g (more n m l)) (λ e. h (ap suc e))
  where
    more : (m n : ℕ) → m < n → suc m < suc n
    more m n l = omega arith

-- the longest viable prefix is one
same_stop : (ts : List Token) (j k : ℕ) → StopsAt ts j → StopsAt ts k → j ≡ k
same_stop ts j k s t = by_order j k (λ l. absurd (s.longest k l t.within t.viable)) (λ l. absurd (t.longest j l s.within s.viable)) (λ e. e)

got_or_end : {A : Type 0} (xs : List A) (k : ℕ) → k ≤ length xs → ((x : A) × (slice_get xs k ≡ Some x)) ⊎ (k ≡ length xs)
got_or_end [] zero h = inr refl
got_or_end [] (suc k) h = absurd (none k h)
  where
    none : (k : ℕ) → suc k ≤ 0 → ⊥
    none k h = omega arith
got_or_end (x ∷ xs) zero h = inl (x, refl)
got_or_end (x ∷ xs) (suc k) h = elim (got_or_end xs k (fewer k (length xs) h)) [ inl g ↦ inl g | inr e ↦ inr (ap suc e) ]
  where
    fewer : (k n : ℕ) → suc k ≤ suc n → k ≤ n
    fewer k n h = omega arith

got_front : {A : Type 0} (x : A) (xs : List A) → (y : A) × (slice_get (x ∷ xs) (length xs) ≡ Some y)
got_front x [] = (x, refl)
got_front x (y ∷ xs) = got_front y xs

got_last : {A : Type 0} (xs : List A) → (xs ≡ []) ⊎ ((x : A) × (slice_get xs (length xs - 1) ≡ Some x))
got_last [] = inl refl
got_last (x ∷ xs) = inr (let g = got_front x xs in (g.0, ap (slice_get (x ∷ xs)) (less (length xs)) ∙ g.1))
  where
    less : (n : ℕ) → suc n - 1 ≡ n
    less n = omega arith

-- a line has one column at most
pub same_column : (line : List ℕ) (a b : ℕ) → IsRefusedAt line a → IsRefusedAt line b → a ≡ b
same_column line a b r s = by_place (got_or_end (tokens line) r.k (subst (λ n. r.k ≤ n) (length-map (tokens line) (λ p. p.token)) r.stops.within))
  where
    k_is : r.k ≡ s.k
    k_is = same_stop (line_tokens line) r.k s.k r.stops s.stops

    by_place : ((p : Placed) × (slice_get (tokens line) r.k ≡ Some p)) ⊎ (r.k ≡ length (tokens line)) → a ≡ b
    by_place (inl g) = r.next g.0 g.1 ∙ sym (s.next g.0 (ap (slice_get (tokens line)) (sym k_is) ∙ g.1))
    by_place (inr e) = elim (got_last (tokens line)) [
      | inl none ↦ absurd (r.not_allowed (inl (ap (map (λ p. p.token)) none)))
      | inr g ↦ r.at_end g.0 e (ap (λ n. slice_get (tokens line) (n - 1)) e ∙ g.1)
          ∙ sym (s.at_end g.0 (sym k_is ∙ e) (ap (λ n. slice_get (tokens line) (n - 1)) (sym k_is ∙ e) ∙ g.1))
    ]

-- the lines of a script with commands are within the grammar
pub all_allowed : (n : ℕ) (ls : List (List ℕ)) (cs : List Line) → HasCommandsFrom n ls cs → (k : ℕ) (l : List ℕ) → slice_get ls k ≡ Some l → IsAllowed l
all_allowed n [] cs h k l e = absurd (false≢true (ap is_some e))
all_allowed n (x ∷ ls) cs (inl h) zero l e = inl (ap line_tokens (sym (some_same x l e)) ∙ h.0)
all_allowed n (x ∷ ls) cs (inl h) (suc k) l e = all_allowed (n + 1) ls cs h.1 k l e
all_allowed n (x ∷ ls) cs (inr h) zero l e = inr (h.0, subst (λ y. Spells (line_tokens y) h.0) (some_same x l e) h.2)
all_allowed n (x ∷ ls) cs (inr h) (suc k) l e = all_allowed (n + 1) ls h.1 h.4 k l e

pub same_commands : (n : ℕ) (ls : List (List ℕ)) (a b : List Line) → HasCommandsFrom n ls a → HasCommandsFrom n ls b → a ≡ b
same_commands n [] a b h i = h ∙ sym i
same_commands n (l ∷ ls) a b (inl h) (inl i) = same_commands (n + 1) ls a b h.1 i.1
same_commands n (l ∷ ls) a b (inl h) (inr i) = absurd (spells_some i.0 (subst (λ ts. Spells ts i.0) h.0 i.2))
same_commands n (l ∷ ls) a b (inr h) (inl i) = absurd (spells_some h.0 (subst (λ ts. Spells ts h.0) i.0 h.2))
same_commands n (l ∷ ls) a b (inr h) (inr i) =
    h.3 ∙ ap (λ c. record { number = n; command = c } ∷ h.1) (spells_one (line_tokens l) h.0 i.0 h.2 i.2)
    ∙ ap (λ rest. record { number = n; command = i.0 } ∷ rest) (same_commands (n + 1) ls h.1 i.1 h.4 i.4) ∙ sym i.3

-- the first line outside the grammar is one
same_line : (script : List ℕ) (line column l c : ℕ) → HasSyntaxFault script line column → HasSyntaxFault script l c → line < l → ⊥
same_line script line column l c f g less = f.column_is.not_allowed (g.before (line - 1) f.text (earlier line l f.counted less) f.at)
  where
    earlier : (m n : ℕ) → 1 ≤ m → m < n → m - 1 + 1 < n
    earlier m n h i = omega arith

same_fault : (script : List ℕ) (line column l c : ℕ) → HasSyntaxFault script line column → HasSyntaxFault script l c → (line ≡ l) × (column ≡ c)
same_fault script line column l c f g =
    by_order line l (λ less. absurd (same_line script line column l c f g less)) (λ less. absurd (same_line script l c line column g f less))
    (λ e. (e, same_column f.text column c f.column_is (subst (λ t. IsRefusedAt t c) (sym (texts e)) g.column_is)))
  where
    texts : line ≡ l → f.text ≡ g.text
    texts e = some_same f.text g.text (sym f.at ∙ ap (λ n. slice_get (lines script) (n - 1)) e ∙ g.at)

-- a line is within the grammar, or is refused at some column
line_reading : (line : List ℕ) → IsAllowed line ⊎ ((column : ℕ) × IsRefusedAt line column)
line_reading line = by_tokens (line_tokens line) refl
  where
    some : (t : Token) (ts : List Token) → line_tokens line ≡ t ∷ ts → length (line_tokens line) ≡ 0 → ⊥
    some t ts e z = none (length ts) (sym (ap length e) ∙ z)
      where
        none : (n : ℕ) → suc n ≡ 0 → ⊥
        none n e = omega arith

    by_reading : (length (line_tokens line) ≡ 0 → ⊥) → (r : Result Command ℕ) → Exact Spells (line_tokens line) r → IsAllowed line ⊎ ((column : ℕ) × IsRefusedAt line column)
    by_reading some (Ok c) w = inl (inr (c, w.spelled))
    by_reading some (Err n) s = inr (column_of (line_places line) n, refused line n some (stops_with (line_tokens line) n s))

    by_tokens : (ts : List Token) → line_tokens line ≡ ts → IsAllowed line ⊎ ((column : ℕ) × IsRefusedAt line column)
    by_tokens [] e = inl (inl e)
    by_tokens (t ∷ ts) e = by_reading (some t ts e) (command_at (line_tokens line)) (line_exact (line_tokens line))

-- the first refused line, counted from 0
record FirstRefused (ls : List (List ℕ)) : Type 0 where
  pub k : ℕ
  pub text : List ℕ
  pub at : slice_get ls k ≡ Some text
  pub before : (j : ℕ) (l : List ℕ) → j < k → slice_get ls j ≡ Some l → IsAllowed l
  pub column : ℕ
  pub refused : IsRefusedAt text column

reading_from : (n : ℕ) (ls : List (List ℕ)) → ((cs : List Line) × HasCommandsFrom n ls cs) ⊎ FirstRefused ls
reading_from n [] = inl ([], refl)
reading_from n (l ∷ ls) = by_line (line_reading l) (reading_from (n + 1) ls)
  where
    none : (j : ℕ) → j < 0 → ⊥
    none j h = omega arith

    fewer : (j k : ℕ) → suc j < suc k → j < k
    fewer j k h = omega arith

    before : IsAllowed l → (f : FirstRefused ls) → (j : ℕ) (m : List ℕ) → j < suc f.k → slice_get (l ∷ ls) j ≡ Some m → IsAllowed m
    before a f zero m h e = subst IsAllowed (some_same l m e) a
    before a f (suc j) m h e = f.before j m (fewer j f.k h) e

    by_line : IsAllowed l ⊎ ((column : ℕ) × IsRefusedAt l column) → ((cs : List Line) × HasCommandsFrom (n + 1) ls cs) ⊎ FirstRefused ls → ((cs : List Line) × HasCommandsFrom n (l ∷ ls) cs) ⊎ FirstRefused (l ∷ ls)
    by_line (inr r) rest = inr (record { k = 0; text = l; at = refl; before = λ j m h e. absurd (none j h); column = r.0; refused = r.1 })
    by_line (inl a) (inr f) = inr (record { k = suc f.k; text = f.text; at = f.at; before = before a f; column = f.column; refused = f.refused })
    by_line (inl (inl e)) (inl cs) = inl (cs.0, inl (e, cs.1))
    by_line (inl (inr s)) (inl cs) = inl (record { number = n; command = s.0 } ∷ cs.0, inr (s.0, cs.0, s.1, refl, cs.1))

some_reading : (script : List ℕ) → ((cs : List Line) × HasCommands script cs) ⊎ ((line column : ℕ) × HasSyntaxFault script line column)
some_reading script = elim (reading_from 1 (lines script)) [
  | inl cs ↦ inl cs
  | inr f ↦ inr (f.k + 1, f.column, fault f)
]
  where
    less : (n : ℕ) → n + 1 - 1 ≡ n
    less n = omega arith

    fault : (f : FirstRefused (lines script)) → HasSyntaxFault script (f.k + 1) f.column
    fault f = record {
      text = f.text;
      at = ap (slice_get (lines script)) (less f.k) ∙ f.at;
      counted = omega arith;
      before = λ k l i e. f.before k l (omega (arith, i)) e;
      column_is = f.refused;
    }

pub one_reading : (script : List ℕ) → HasOneReading script
one_reading script = record {
  some = some_reading script;
  not_both = λ cs line column h f. f.column_is.not_allowed (all_allowed 1 (lines script) cs h (line - 1) f.text f.at);
  commands = λ cs ds h i. same_commands 1 (lines script) cs ds h i;
  fault = same_fault script;
}
