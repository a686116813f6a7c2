-- A line is read exactly: its one command, or the longest prefix of its tokens that begins one.
use Rattle.std.proofs.Common.{◌≡◌, ℕ, zero, suc, ◌+◌, ◌-◌, ◌<◌, ◌≤◌, Bool, true, List, [], ◌∷◌, ◌++◌, length, take, Option, Some, None, Result, Ok, Err, refl, sym, ap, subst, ◌∙◌, append_assoc, arith}
use Rattle.std.specs.Option.{is_some}
use Rattle.std.specs.Result.{IfOk, IfErr}
use Rattle.std.proofs.lemmas.List.{append-nil, length-append}
use Rattle.std.proofs.lemmas.Bool.{false≢true}
use Rattle.hp_script.specs.declared.token.Token.{Token}
use Rattle.hp_script.specs.declared.token.Token.TheVariants.{Word, Number, Symbol, Misfit}
use Rattle.hp_script.specs.declared.command.Command.{Command}
use Rattle.hp_script.specs.declared.command.Command.TheVariants.{Field, Let, Ask}
use Rattle.hp_script.specs.declared.command.Build.TheVariants.{Forms, Cone, TypeA, TypeB, TypeD, Boolean, Graphic, Delete, Restrict}
use Rattle.hp_script.specs.declared.command.Question.TheVariants as question
use Rattle.hp_script.specs.declared.words.Keyword.{Keyword}
use Rattle.hp_script.specs.declared.words.Keyword.TheVariants as keyword
use Rattle.hp_script.specs.declared.words.Topic.{Topic}
use Rattle.hp_script.specs.declared.words.Topic.TheVariants as topic
use Rattle.hp_script.specs.declared.words.Shape.{Shape}
use Rattle.hp_script.specs.declared.words.Shape.TheVariants as shape
use Rattle.hp_script.specs.declared.words.Limit.{Limit}
use Rattle.hp_script.specs.declared.words.Limit.TheVariants as limit
use Rattle.hp_script.specs.declared.fault.Fault.{Fault}
use Rattle.hp_script.specs.declared.fault.Fault.TheVariants.{Memory, At}
use Rattle.hp_script.specs.Grammar.{keyword_text, topic_text, shape_text, limit_text, shape_rest_text, shape_rest_value, build_text, build_value, topic_rest_text, question_value, rest_text, rest_value, command_text, command_value, Spells, StopsAt}
use Rattle.hp_script.specs.Reading.{Reader, Gives, starts, is_symbol, is_sign, word_at, token_at, word_of, named, leads, topics, shapes, limits, or_question, keyword_of, keyword_in, shape_rest_at, build_at, question_at, rest_at, command_at, chosen, end_at, seq, StopsWith}
use Rattle.hp_script.proofs.Exact.{Lang, first, Exact, Whole, Stop, Stuck, some_same, transfer, stop, Then, no_token, IsToken, IsReader, token_reader}
use Rattle.hp_script.proofs.Combine.{Bars, mapped_reader, seq_reader, nothing_reader, dispatch_reader, weaker_reader, or_test}
use Rattle.hp_script.proofs.Singles.{table_token, named_text, none_some}
use Rattle.hp_script.proofs.Productions.{never, number_reader, edges_reader, word_reader, after_symbol, list_reader, optional_reader, rows_reader, expression_reader, star_bars}

-- one production, and then another that may be followed by anything
both : {T1 T2 V1 V2 V : Type 0} {text1 : T1 → List Token} {value1 : T1 → V1} {text2 : T2 → List Token} {value2 : T2 → V2} {least1 least2 : ℕ} {p : Reader V1} {q : Reader V2} (f : V1 → V2 → V)
    → IsReader text1 value1 no_token least1 p → IsReader text2 value2 no_token least2 q
    → IsReader (λ (x : T1 × T2). text1 x.0 ++ text2 x.1) (λ x. f (value1 x.0) (value2 x.1)) no_token least1 (λ ts. seq f p q ts)
both f P Q =
    seq_reader no_token (record { join = λ a b. (a, b); text_is = λ a b. refl; value_is = λ a b. refl; split = λ x. (x.0, x.1, refl, refl) }) P Q (λ xs e. e) (λ K g xs c e l. never xs e)

-- builds
shape_word_reader : IsReader (λ a. Word (shape_text a) ∷ []) (λ a. a) no_token 1 (token_at (word_of shapes))
shape_word_reader =
    token_reader (λ a. Word (shape_text a)) (λ a. a) _
    (table_token shape_text shapes shape.Forms (refl, (refl, (refl, (refl, (refl, (refl, (refl, (refl, (refl, tt))))))))) found)
  where
    found : (a : Shape) → named shapes (shape_text a) ≡ Some a
    found shape.Forms = refl
    found shape.Cone = refl
    found shape.TypeA = refl
    found shape.TypeB = refl
    found shape.TypeD = refl
    found shape.Boolean = refl
    found shape.Graphic = refl
    found shape.Delete = refl
    found shape.Restrict = refl

shape_rest_reader : (a : Shape) → IsReader (shape_rest_text a) (shape_rest_value a) no_token 1 (shape_rest_at a)
shape_rest_reader shape.Forms = both Forms number_reader rows_reader
shape_rest_reader shape.Cone = both Cone number_reader rows_reader
shape_rest_reader shape.TypeA = mapped_reader TypeA number_reader
shape_rest_reader shape.TypeB = mapped_reader TypeB number_reader
shape_rest_reader shape.TypeD = mapped_reader TypeD number_reader
shape_rest_reader shape.Boolean = mapped_reader Boolean number_reader
shape_rest_reader shape.Graphic = both Graphic number_reader edges_reader
shape_rest_reader shape.Delete = both Delete word_reader number_reader
shape_rest_reader shape.Restrict = both Restrict word_reader number_reader

build_reader : IsReader build_text build_value no_token 1 build_at
build_reader =
    dispatch_reader (word_of shapes) shape_rest_at no_token (record { join = λ a b. (a, b); text_is = λ a b. refl; value_is = λ a b. refl; split = λ t. (t.0, t.1, refl, refl) }) shape_word_reader shape_rest_reader (λ a xs e. e)

-- questions
abbrev topic_bars : Topic → Token → Bool
topic_bars topic.Normal = or_test is_sign star_bars
topic_bars topic.Gb = is_symbol 91
topic_bars topic.Der = is_symbol 91
topic_bars topic.Resolve = is_symbol 91
topic_bars topic.Free = is_symbol 91
topic_bars _ = no_token

topic_rest_reader : (t : Topic) → IsReader (topic_rest_text t) (question_value t) (topic_bars t) 0 (question_at t)
topic_rest_reader topic.Hyperplanes = nothing_reader question.Hyperplanes
topic_rest_reader topic.Point = nothing_reader question.Point
topic_rest_reader topic.Rank = nothing_reader question.Rank
topic_rest_reader topic.Flats = nothing_reader question.Flats
topic_rest_reader topic.Poincare = nothing_reader question.Poincare
topic_rest_reader topic.Characteristic = nothing_reader question.Characteristic
topic_rest_reader topic.Triple = weaker_reader (mapped_reader question.Triple number_reader)
topic_rest_reader topic.Circuits = nothing_reader question.Circuits
topic_rest_reader topic.Nbc = nothing_reader question.Nbc
topic_rest_reader topic.Normal = mapped_reader question.Normal expression_reader
topic_rest_reader topic.Aomoto = weaker_reader (mapped_reader question.Aomoto list_reader)
topic_rest_reader topic.Gb = mapped_reader question.Gb optional_reader
topic_rest_reader topic.Der = mapped_reader question.Der optional_reader
topic_rest_reader topic.Resolve = mapped_reader question.Resolve optional_reader
topic_rest_reader topic.Free = mapped_reader question.Free optional_reader

-- the word of a command: one of a table of its own, or that of a question
leads_spell : (w : List ℕ) (k : Keyword) → named leads w ≡ Some k → w ≡ keyword_text k
leads_spell w k e = named_text keyword_text leads w k (refl, (refl, (refl, tt))) e

topics_spell : (w : List ℕ) (t : Topic) → named topics w ≡ Some t → w ≡ topic_text t
topics_spell w t e =
    named_text topic_text topics w t (refl, (refl, (refl, (refl, (refl, (refl, (refl, (refl, (refl, (refl, (refl, (refl, (refl, (refl, (refl, tt))))))))))))))) e

keyword_spells : (w : List ℕ) (k : Keyword) → keyword_of w ≡ Some k → w ≡ keyword_text k
keyword_spells w k e = by_table (named leads w) (named topics w) refl refl e
  where
    by_table : (o : Option Keyword) (p : Option Topic) → named leads w ≡ o → named topics w ≡ p → or_question o p ≡ Some k → w ≡ keyword_text k
    by_table (Some j) p f g e = leads_spell w j f ∙ ap keyword_text (some_same j k e)
    by_table None (Some t) f g e = topics_spell w t g ∙ ap keyword_text (some_same (keyword.Ask t) k e)
    by_table None None f g e = absurd (none_some k e)

keyword_token : IsToken (λ k. Word (keyword_text k)) (λ k. k) keyword_in
keyword_token = record { some = keyword.Field; there = there; back = back }
  where
    found : (t : Topic) → keyword_of (topic_text t) ≡ Some (keyword.Ask t)
    found topic.Hyperplanes = refl
    found topic.Point = refl
    found topic.Rank = refl
    found topic.Flats = refl
    found topic.Poincare = refl
    found topic.Characteristic = refl
    found topic.Triple = refl
    found topic.Circuits = refl
    found topic.Nbc = refl
    found topic.Normal = refl
    found topic.Aomoto = refl
    found topic.Gb = refl
    found topic.Der = refl
    found topic.Resolve = refl
    found topic.Free = refl

    there : (k : Keyword) → keyword_in (Word (keyword_text k)) ≡ Some k
    there keyword.Field = refl
    there keyword.Let = refl
    there keyword.Limit = refl
    there (keyword.Ask t) = found t

    back : (t : Token) (v : Keyword) → keyword_in t ≡ Some v → (k : Keyword) × (t ≡ Word (keyword_text k)) × (k ≡ v)
    back (Word w) v e = (v, ap (λ u. Word u) (keyword_spells w v e), refl)
    back (Number n) v e = absurd (none_some v e)
    back (Symbol b) v e = absurd (none_some v e)
    back Misfit v e = absurd (none_some v e)

limit_word_reader : IsReader (λ a. Word (limit_text a) ∷ []) (λ a. a) no_token 1 (token_at (word_of limits))
limit_word_reader = token_reader (λ a. Word (limit_text a)) (λ a. a) _ (table_token limit_text limits limit.Pairs (refl, (refl, tt)) found)
  where
    found : (a : Limit) → named limits (limit_text a) ≡ Some a
    found limit.Pairs = refl
    found limit.Degree = refl

-- a name, and a production after it
after_name : {T V : Type 0} {text : T → List Token} {value : T → V} {bars : Token → Bool} {least : ℕ} {p : Reader V} (f : List ℕ → V → Command) → IsReader text value bars least p
    → IsReader (λ (x : List ℕ × T). Word x.0 ∷ text x.1) (λ x. f x.0 (value x.1)) bars 1 (λ ts. seq f word_at p ts)
after_name {bars = bars} f P =
    seq_reader bars (record { join = λ w t. (w, t); text_is = λ w t. refl; value_is = λ w t. refl; split = λ x. (x.0, x.1, refl, refl) }) word_reader P (λ xs e. e) (λ K g xs c e l. never xs e)

-- commands
abbrev rest_bars : Keyword → Token → Bool
rest_bars (keyword.Ask t) = topic_bars t
rest_bars _ = no_token

rest_reader : (k : Keyword) → IsReader (rest_text k) (rest_value k) (rest_bars k) 1 (rest_at k)
rest_reader keyword.Field = mapped_reader Field number_reader
rest_reader keyword.Let = after_name Let (after_symbol 61 build_reader)
rest_reader keyword.Limit =
    seq_reader no_token (record { join = λ l n. (l, n); text_is = λ l n. refl; value_is = λ l n. refl; split = λ x. (x.0, x.1, refl, refl) }) limit_word_reader number_reader (λ xs e. e) (λ K f xs c e l. never xs e)
rest_reader (keyword.Ask t) = after_name Ask (topic_rest_reader t)

abbrev any_token : Token → Bool
any_token t = true

command_reader : IsReader command_text command_value any_token 1 (λ ts. chosen keyword_in rest_at ts)
command_reader =
    dispatch_reader keyword_in rest_at any_token (record { join = λ k r. (k, r); text_is = λ k r. refl; value_is = λ k r. refl; split = λ s. (s.0, s.1, refl, refl) }) (token_reader (λ k. Word (keyword_text k)) (λ k. k) keyword_in keyword_token) rest_reader (λ k. any (rest_bars k))
  where
    any : (test : Token → Bool) (xs : List Token) → starts test xs ≡ true → starts any_token xs ≡ true
    any test [] e = e
    any test (t ∷ ts) e = refl

-- the end of a line
abbrev End : Command → Lang
End c xs d = (xs ≡ []) × (d ≡ c)

end_exact : (c : Command) (ts : List Token) → Exact (End c) ts (end_at c ts)
end_exact c [] = record { spelled = (refl, refl); only = λ d l. l.1 }
end_exact c (t ∷ ts) = stop (End c) (t ∷ ts) ([], c, (refl, refl)) (λ xs d f l. false≢true (ap is_some (sym (ap first l.0) ∙ f)))

pub line_exact : (ts : List Token) → Exact Spells ts (command_at ts)
line_exact ts =
    transfer (Then command_text command_value End) Spells ts (command_at ts)
    (λ xs c l. (l.0, l.2 ∙ ap (λ ys. command_text l.0 ++ ys) l.3.0 ∙ append-nil (command_text l.0), l.3.1))
    (λ xs c f s. (s.0, [], s.1 ∙ sym (append-nil (command_text s.0)), (refl, s.2)))
    (command_reader.exact End (λ c. ([], c, (refl, refl))) follow ts (λ c. end_at c.0 c.1) (λ c rest le. end_exact c rest))
  where
    follow : Bars any_token End
    follow c xs d s l = false≢true (sym (ap (starts any_token) l.0) ∙ s)

take_front : (front rest : List Token) → take (length front) (front ++ rest) ≡ front
take_front [] rest = refl
take_front (t ∷ ts) rest = ap (λ xs. t ∷ xs) (take_front ts rest)

take_beyond : (front : List Token) (t : Token) (rest : List Token) (j : ℕ) → length front < j → (more : List Token) × (take j (front ++ t ∷ rest) ≡ front ++ t ∷ more)
take_beyond [] t rest zero h = absurd (none h)
  where
    none : 0 < 0 → ⊥
    none h = omega arith
take_beyond [] t rest (suc j) h = (take j rest, refl)
take_beyond (f ∷ fs) t rest zero h = absurd (none (length fs) h)
  where
    none : (n : ℕ) → suc n < 0 → ⊥
    none n h = omega arith
take_beyond (f ∷ fs) t rest (suc j) h = let m = take_beyond fs t rest j (fewer (length fs) j h) in (m.0, ap (λ xs. f ∷ xs) m.1)
  where
    fewer : (n j : ℕ) → suc n < suc j → n < j
    fewer n j h = omega arith

before : (ts front rest : List Token) → ts ≡ front ++ rest → length ts - length rest ≡ length front
before ts front rest e = of_sum (length ts) (length front) (length rest) (ap length e ∙ length-append front rest)
  where
    of_sum : (n a b : ℕ) → n ≡ a + b → n - b ≡ a
    of_sum n a b e = omega arith

pub stops_at : (ts : List Token) (n : ℕ) → Stop Spells ts n → StopsAt ts (length ts - n)
stops_at ts n s = subst (λ k. StopsAt ts k) (sym (ap (λ m. length ts - m) s.counted ∙ before ts s.front s.rest s.split)) (record {
  not_spelled = λ c spelled. not_whole s.rest s.stuck c (subst (λ xs. Spells xs c) s.split spelled);
  within = subst (λ m. length s.front ≤ m) (sym (ap length s.split ∙ length-append s.front s.rest)) (less (length s.front) (length s.rest));
  viable = (s.more, s.answer, subst (λ xs. Spells (xs ++ s.more) s.answer) (sym (ap (take (length s.front)) s.split ∙ take_front s.front s.rest)) s.viable);
  longest = λ j over within v. no_longer s.rest s.stuck j over (subst (λ m. j ≤ m) (ap length s.split) within) v.0 v.1 (subst (λ xs. Spells (take j xs ++ v.0) v.1) s.split v.2);
})
  where
    less : (a b : ℕ) → a ≤ a + b
    less a b = omega arith

    not_whole : (rest : List Token) → Stuck Spells s.front rest → (c : Command) → Spells (s.front ++ rest) c → ⊥
    not_whole [] stuck c spelled = stuck c (subst (λ xs. Spells xs c) (append-nil s.front) spelled)
    not_whole (t ∷ r) stuck c spelled = stuck r c spelled

    out : (a j : ℕ) → a < j → j ≤ a → ⊥
    out a j h i = omega arith

    no_longer : (rest : List Token) → Stuck Spells s.front rest → (j : ℕ) → length s.front < j → j ≤ length (s.front ++ rest) → (more : List Token) (c : Command) → Spells (take j (s.front ++ rest) ++ more) c → ⊥
    no_longer [] stuck j over within more c spelled = out (length s.front) j over (subst (λ xs. j ≤ length xs) (append-nil s.front) within)
    no_longer (t ∷ r) stuck j over within more c spelled =
        let m = take_beyond s.front t r j over in
        stuck (m.0 ++ more) c (subst (λ xs. Spells xs c) (ap (λ xs. xs ++ more) m.1 ∙ append_assoc s.front (t ∷ m.0) more) spelled)

-- what the reading of a line answers is its command, or where it stops
pub found : (r : Result Command Fault) (ts : List Token) → Gives (λ c. c) r (command_at ts) → IfOk r (λ c. Spells ts c)
found (Ok c) ts g = let w : Whole Spells ts c = subst (Exact Spells ts) g (line_exact ts) in w.spelled
found (Err e) ts g = tt

fits : (n a b : ℕ) → n ≡ b → b ≤ a + b
fits n a b e = omega arith

pub stops_with : (ts : List Token) (n : ℕ) → Stop Spells ts n → StopsWith ts (At n)
stops_with ts n s =
    (subst (λ m. n ≤ m) (sym (ap length s.split ∙ length-append s.front s.rest)) (subst (λ m. m ≤ length s.front + length s.rest) (sym s.counted) (fits n (length s.front) (length s.rest) s.counted)), stops_at ts n s)

pub stopped : (r : Result Command Fault) (ts : List Token) → Gives (λ c. c) r (command_at ts) → IfErr r (λ e. StopsWith ts e)
stopped (Ok c) ts g = tt
stopped (Err Memory) ts g = tt
stopped (Err (At n)) ts g = stops_with ts n (subst (Exact Spells ts) g (line_exact ts))
