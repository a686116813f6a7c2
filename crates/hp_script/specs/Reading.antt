-- What the private functions that read tokens from left to right answer. A fault is how many tokens are left where it comes, the bad one among them.
use Rattle.std.specs.Prelude.{◌≡◌, ◌⊎◌, ℕ, zero, suc, ◌==◌, ◌-◌, ◌≤◌, ◌<◌, Bool, true, false, List, [], ◌∷◌, ◌++◌, length, ℤ, pos, neg_ℤ, codes, bytes_eq, filter_map, Option, Some, None, Result, Ok, Err, IfOk}
use Rattle.std.specs.Borrow.{Bor}
use Rattle.hp_script.specs.Tokens.{number_of, line_tokens}
use Rattle.hp_script.specs.Grammar.{limit_value, is_index, Spells, StopsAt}
use Rattle.hp_script.specs.Script.{IsRefusedAt}
use Rattle.hp_script.specs.Lists.{CommandIsShort}
use Rattle.hp_script.specs.declared.command.Line.{Line}
use Rattle.hp_script.specs.declared.command.ScriptFault.{ScriptFault}
use Rattle.hp_script.specs.declared.command.ScriptFault.TheVariants as script
use Rattle.hp_script.specs.declared.token.Token.{Token}
use Rattle.hp_script.specs.declared.token.Token.TheVariants.{Word, Number, Symbol}
use Rattle.hp_script.specs.declared.command.Command.{Command}
use Rattle.hp_script.specs.declared.command.Command.TheVariants.{Field, Let, Ask}
use Rattle.hp_script.specs.declared.command.Build.{Build}
use Rattle.hp_script.specs.declared.command.Build.TheVariants.{Forms, TypeA, TypeB, TypeD, Boolean, Graphic, Cone, Delete, Restrict}
use Rattle.hp_script.specs.declared.command.Question.{Question}
use Rattle.hp_script.specs.declared.command.Question.TheVariants as question
use Rattle.hp_script.specs.declared.command.Product.{Product}
use Rattle.hp_script.specs.declared.expressions.Factor.{Factor}
use Rattle.hp_script.specs.declared.expressions.Factor.TheVariants.{Coefficient, Generator}
use Rattle.hp_script.specs.declared.words.Keyword.{Keyword}
use Rattle.hp_script.specs.declared.words.Keyword.TheVariants as keyword
use Rattle.hp_script.specs.declared.words.Topic.{Topic}
use Rattle.hp_script.specs.declared.words.Topic.TheVariants as topic
use Rattle.hp_script.specs.declared.words.Shape.{Shape}
use Rattle.hp_script.specs.declared.words.Shape.TheVariants as shape
use Rattle.hp_script.specs.declared.words.Limit.{Limit}
use Rattle.hp_script.specs.declared.words.Limit.TheVariants as limit
use Rattle.hp_script.specs.declared.fault.Fault.{Fault}
use Rattle.hp_script.specs.declared.fault.Fault.TheVariants.{Memory, At}
use Rattle.hp_script.specs.declared.fault.LineFault.{LineFault}
use Rattle.hp_script.specs.declared.fault.LineFault.TheVariants as line

infixl 10 ◌>>=◌
abbrev pub ◌>>=◌ : {A B : Type 0} → Result A ℕ → (A → Result B ℕ) → Result B ℕ
(Ok x) >>= f = f x
(Err e) >>= f = Err e

-- What a function returned, seen by view, is what reading gives, unless memory is out.
abbrev pub Fails : {Y : Type 0} → Fault → Result Y ℕ → Type 0
Fails Memory read = Unit {0}
Fails (At n) read = read ≡ Err n

abbrev pub Gives : {X Y : Type 0} → (X → Y) → Result X Fault → Result Y ℕ → Type 0
Gives view (Ok x) read = read ≡ Ok (view x)
Gives view (Err e) read = Fails e read

-- The same of a function that returned a value, seen by view, and the tokens after it.
abbrev pub ReadsBy : {X V : Type 0} → (X → V) → Result (X × Bor (List Token)) Fault → Result (V × List Token) ℕ → Type 0
ReadsBy view result read = Gives (λ x. (view x.0, x.1.now)) result read

abbrev pub Reads : {V : Type 0} → Result (V × Bor (List Token)) Fault → Result (V × List Token) ℕ → Type 0
Reads result read = ReadsBy (λ v. v) result read

-- fewer tokens are left than there were
abbrev pub LeavesFewer : {X : Type 0} → Result (X × Bor (List Token)) Fault → List Token → Type 0
LeavesFewer result ts = IfOk result (λ x. length x.1.now < length ts)

-- a value and the tokens after it
abbrev pub Reader : Type 0 → Type 0
Reader V = List Token → Result (V × List Token) ℕ

-- one token
abbrev pub picked : {V : Type 0} → Option V → List Token → Token → Result (V × List Token) ℕ
picked (Some v) ts t = Ok (v, ts)
picked None ts t = Err (length (t ∷ ts))

abbrev pub token_at : {V : Type 0} → (Token → Option V) → Reader V
token_at pick [] = Err 0
token_at pick (t ∷ ts) = picked (pick t) ts t

abbrev pub number_in : Token → Option ℕ
number_in (Number n) = Some n
number_in _ = None

abbrev pub word_in : Token → Option (List ℕ)
word_in (Word w) = Some w
word_in _ = None

abbrev pub is_symbol : ℕ → Token → Bool
is_symbol s (Symbol b) = b == s
is_symbol s _ = false

abbrev pub when : Bool → Option (Unit {0})
when true = Some tt
when false = None

abbrev pub number_at : Reader ℕ
number_at ts = token_at number_in ts

abbrev pub word_at : Reader (List ℕ)
word_at ts = token_at word_in ts

abbrev pub symbol_at : ℕ → Reader (Unit {0})
symbol_at s ts = token_at (λ t. when (is_symbol s t)) ts

-- the first token does
abbrev pub starts : (Token → Bool) → List Token → Bool
starts test [] = false
starts test (t ∷ ts) = test t

-- one reader, and then another
abbrev pub seq : {A B C : Type 0} → (A → B → C) → Reader A → Reader B → Reader C
seq f p q ts = p ts >>= λ x. q x.1 >>= λ y. Ok (f x.0 y.0, y.1)

abbrev pub mapped : {A B : Type 0} → (A → B) → Reader A → Reader B
mapped f p ts = p ts >>= λ x. Ok (f x.0, x.1)

-- one of two readers, by the first token
abbrev pub either : {A : Type 0} → (Token → Bool) → Reader A → Reader A → Reader A
either test p q ts = elim (starts test ts) [
  | true ↦ p ts
  | false ↦ q ts
]

abbrev pub nothing_at : {A : Type 0} → A → Reader A
nothing_at x ts = Ok (x, ts)

-- items, while the first token begins one; each takes a token, so a bound by their number is never met
abbrev pub many_within : {V : Type 0} → (Token → Bool) → Reader V → ℕ → Reader (List V)
many_within begins item zero ts = Ok ([], ts)
many_within begins item (suc n) ts = elim (starts begins ts) [
  | true ↦ item ts >>= λ x. many_within begins item n x.1 >>= λ y. Ok (x.0 ∷ y.0, y.1)
  | false ↦ Ok ([], ts)
]

abbrev pub many_at : {V : Type 0} → (Token → Bool) → Reader V → Reader (List V)
many_at begins item ts = many_within begins item (length ts) ts

-- what was read before, and what is read
abbrev pub with_front : {V : Type 0} → List V → Result (List V × List Token) ℕ → Result (List V × List Token) ℕ
with_front front read = read >>= λ x. Ok (front ++ x.0, x.1)

-- numbers and lists of them
abbrev pub is_int : Token → Bool
is_int (Number n) = true
is_int (Symbol b) = b == 45
is_int _ = false

abbrev pub int_at : Reader ℤ
int_at ts = either (is_symbol 45) (seq (λ x n. neg_ℤ (pos n)) (symbol_at 45) number_at) (mapped pos number_at) ts

abbrev pub ints_at : Reader (List ℤ)
ints_at ts = many_at is_int int_at ts

abbrev pub list_at : Reader (List ℤ)
list_at ts = seq (λ x v. v) (symbol_at 91) (seq (λ v x. v) ints_at (symbol_at 93)) ts

abbrev pub optional_list_at : Reader (Option (List ℤ))
optional_list_at ts = either (is_symbol 91) (mapped Some list_at) (nothing_at None) ts

-- rows
abbrev pub row_at : Reader (List ℤ)
row_at ts = seq (λ x xs. x ∷ xs) int_at ints_at ts

abbrev pub later_row_at : Reader (List ℤ)
later_row_at ts = seq (λ x v. v) (symbol_at 44) row_at ts

abbrev pub later_rows_at : Reader (List (List ℤ))
later_rows_at ts = many_at (is_symbol 44) later_row_at ts

abbrev pub some_rows_at : Reader (List (List ℤ))
some_rows_at ts = seq (λ v x. v) (seq (λ x xs. x ∷ xs) row_at later_rows_at) (symbol_at 93) ts

abbrev pub rows_at : Reader (List (List ℤ))
rows_at ts = seq (λ x v. v) (symbol_at 91) (either (is_symbol 93) (mapped (λ x. []) (symbol_at 93)) some_rows_at) ts

-- edges
abbrev pub is_number : Token → Bool
is_number (Number n) = true
is_number _ = false

abbrev pub pair : ℕ → ℕ → ℕ × ℕ
pair a b = (a, b)

abbrev pub edge_at : Reader (ℕ × ℕ)
edge_at ts = seq pair number_at (seq (λ x n. n) (symbol_at 45) number_at) ts

abbrev pub more_edges_at : Reader (List (ℕ × ℕ))
more_edges_at ts = many_at is_number edge_at ts

abbrev pub edges_at : Reader (List (ℕ × ℕ))
edges_at ts = seq (λ x v. v) (symbol_at 91) (seq (λ v x. v) more_edges_at (symbol_at 93)) ts

-- one to ten digits
abbrev pub index_in : List ℕ → Option ℕ
index_in digits = elim (is_index digits) [
  | true ↦ Some (number_of digits)
  | false ↦ None
]

abbrev pub as_generator : Option ℕ → Option Factor
as_generator (Some n) = Some (Generator n)
as_generator None = None

abbrev pub generator_in : List ℕ → Option Factor
generator_in [] = None
generator_in (b ∷ digits) = elim (b == 101) [
  | true ↦ as_generator (index_in digits)
  | false ↦ None
]

-- expressions
abbrev pub factor_in : Token → Option Factor
factor_in (Number n) = Some (Coefficient n)
factor_in (Word w) = generator_in w
factor_in _ = None

abbrev pub factor_at : Reader Factor
factor_at ts = token_at factor_in ts

abbrev pub later_factor_at : Reader Factor
later_factor_at ts = seq (λ x v. v) (symbol_at 42) factor_at ts

abbrev pub later_factors_at : Reader (List Factor)
later_factors_at ts = many_at (is_symbol 42) later_factor_at ts

abbrev pub factors_at : Reader (List Factor)
factors_at ts = seq (λ x xs. x ∷ xs) factor_at later_factors_at ts

abbrev pub number_of_factor : Factor → Option ℕ
number_of_factor (Coefficient n) = Some n
number_of_factor (Generator k) = None

abbrev pub index_of_factor : Factor → Option ℕ
index_of_factor (Coefficient n) = None
index_of_factor (Generator k) = Some k

-- the product of those factors
abbrev pub product_from : Bool → List Factor → Product
product_from negative factors = record { negative = negative; numbers = filter_map number_of_factor factors; generators = filter_map index_of_factor factors }

abbrev pub sign_of : ℕ → Option Bool
sign_of b = elim (b == 45) [
  | true ↦ Some true
  | false ↦ elim (b == 43) [
    | true ↦ Some false
    | false ↦ None
  ]
]

abbrev pub sign_in : Token → Option Bool
sign_in (Symbol b) = sign_of b
sign_in _ = None

abbrev pub is_given : {V : Type 0} → Option V → Bool
is_given (Some v) = true
is_given None = false

abbrev pub is_sign : Token → Bool
is_sign t = is_given (sign_in t)

abbrev pub later_at : Reader Product
later_at ts = seq product_from (token_at sign_in) factors_at ts

abbrev pub laters_at : Reader (List Product)
laters_at ts = many_at is_sign later_at ts

abbrev pub lead_at : Reader Bool
lead_at ts = either (is_symbol 45) (mapped (λ x. true) (symbol_at 45)) (nothing_at false) ts

abbrev pub expression_at : Reader (List Product)
expression_at ts = seq (λ x xs. x ∷ xs) (seq product_from lead_at factors_at) laters_at ts

-- the first of the table that has the text
abbrev pub named : {V : Type 0} → List (List ℕ × V) → List ℕ → Option V
named [] w = None
named (e ∷ es) w = elim (bytes_eq w e.0) [
  | true ↦ Some e.1
  | false ↦ named es w
]

-- a word of a table
abbrev pub word_of : {V : Type 0} → List (List ℕ × V) → Token → Option V
word_of table (Word w) = named table w
word_of table _ = None

abbrev pub topics : List (List ℕ × Topic)
topics = (codes "hyperplanes", topic.Hyperplanes) ∷ (codes "point", topic.Point) ∷ (codes "rank", topic.Rank) ∷ (codes "flats", topic.Flats)
    ∷ (codes "poincare", topic.Poincare) ∷ (codes "characteristic", topic.Characteristic) ∷ (codes "triple", topic.Triple) ∷ (codes "circuits", topic.Circuits)
    ∷ (codes "nbc", topic.Nbc) ∷ (codes "normal", topic.Normal) ∷ (codes "aomoto", topic.Aomoto) ∷ (codes "gb", topic.Gb) ∷ (codes "der", topic.Der)
    ∷ (codes "resolve", topic.Resolve) ∷ (codes "free", topic.Free) ∷ []

abbrev pub shapes : List (List ℕ × Shape)
shapes = (codes "forms", shape.Forms) ∷ (codes "cone", shape.Cone) ∷ (codes "typeA", shape.TypeA) ∷ (codes "typeB", shape.TypeB) ∷ (codes "typeD", shape.TypeD)
    ∷ (codes "boolean", shape.Boolean) ∷ (codes "graphic", shape.Graphic) ∷ (codes "delete", shape.Delete) ∷ (codes "restrict", shape.Restrict) ∷ []

abbrev pub limits : List (List ℕ × Limit)
limits = (codes "pairs", limit.Pairs) ∷ (codes "degree", limit.Degree) ∷ []

-- the words that begin a command and no question
abbrev pub leads : List (List ℕ × Keyword)
leads = (codes "field", keyword.Field) ∷ (codes "let", keyword.Let) ∷ (codes "limit", keyword.Limit) ∷ []

abbrev pub as_question : Option Topic → Option Keyword
as_question (Some t) = Some (keyword.Ask t)
as_question None = None

abbrev pub or_question : Option Keyword → Option Topic → Option Keyword
or_question (Some k) t = Some k
or_question None t = as_question t

abbrev pub keyword_of : List ℕ → Option Keyword
keyword_of w = or_question (named leads w) (named topics w)

abbrev pub keyword_in : Token → Option Keyword
keyword_in (Word w) = keyword_of w
keyword_in _ = None

-- a token, and what its value asks for
abbrev pub chosen : {A B : Type 0} → (Token → Option A) → (A → Reader B) → Reader B
chosen pick q ts = token_at pick ts >>= λ x. q x.0 x.1

abbrev pub shape_rest_at : Shape → Reader Build
shape_rest_at shape.Forms ts = seq Forms number_at rows_at ts
shape_rest_at shape.Cone ts = seq Cone number_at rows_at ts
shape_rest_at shape.TypeA ts = mapped TypeA number_at ts
shape_rest_at shape.TypeB ts = mapped TypeB number_at ts
shape_rest_at shape.TypeD ts = mapped TypeD number_at ts
shape_rest_at shape.Boolean ts = mapped Boolean number_at ts
shape_rest_at shape.Graphic ts = seq Graphic number_at edges_at ts
shape_rest_at shape.Delete ts = seq Delete word_at number_at ts
shape_rest_at shape.Restrict ts = seq Restrict word_at number_at ts

abbrev pub build_at : Reader Build
build_at ts = chosen (word_of shapes) shape_rest_at ts

abbrev pub question_at : Topic → Reader Question
question_at topic.Hyperplanes ts = nothing_at question.Hyperplanes ts
question_at topic.Point ts = nothing_at question.Point ts
question_at topic.Rank ts = nothing_at question.Rank ts
question_at topic.Flats ts = nothing_at question.Flats ts
question_at topic.Poincare ts = nothing_at question.Poincare ts
question_at topic.Characteristic ts = nothing_at question.Characteristic ts
question_at topic.Triple ts = mapped question.Triple number_at ts
question_at topic.Circuits ts = nothing_at question.Circuits ts
question_at topic.Nbc ts = nothing_at question.Nbc ts
question_at topic.Normal ts = mapped question.Normal expression_at ts
question_at topic.Aomoto ts = mapped question.Aomoto list_at ts
question_at topic.Gb ts = mapped question.Gb optional_list_at ts
question_at topic.Der ts = mapped question.Der optional_list_at ts
question_at topic.Resolve ts = mapped question.Resolve optional_list_at ts
question_at topic.Free ts = mapped question.Free optional_list_at ts

abbrev pub rest_at : Keyword → Reader Command
rest_at keyword.Field ts = mapped Field number_at ts
rest_at keyword.Let ts = seq Let word_at (seq (λ x b. b) (symbol_at 61) build_at) ts
rest_at keyword.Limit ts = seq limit_value (token_at (word_of limits)) number_at ts
rest_at (keyword.Ask t) ts = seq Ask word_at (question_at t) ts

-- nothing is left
abbrev pub end_at : {A : Type 0} → A → List Token → Result A ℕ
end_at x [] = Ok x
end_at x (t ∷ ts) = Err (length (t ∷ ts))

abbrev pub command_at : List Token → Result Command ℕ
command_at ts = chosen keyword_in rest_at ts >>= λ c. end_at c.0 c.1

-- a fault of the tokens of a line: so many are left
abbrev pub StopsWith : List Token → Fault → Type 0
StopsWith ts Memory = Unit {0}
StopsWith ts (At n) = (n ≤ length ts) × StopsAt ts (length ts - n)

-- what a line means
abbrev pub IsLine : List ℕ → Option Command → Type 0
IsLine text None = line_tokens text ≡ []
IsLine text (Some c) = Spells (line_tokens text) c

abbrev pub IsRefused : List ℕ → LineFault → Type 0
IsRefused text line.Memory = Unit {0}
IsRefused text (line.At column) = IsRefusedAt text column

-- the commands before a line of that number, and those with the line's
abbrev pub AddsLine : ℕ → List ℕ → List Line → List Line → Type 0
AddsLine n text before now =
    ((line_tokens text ≡ []) × (now ≡ before))
    ⊎ ((c : Command) × Spells (line_tokens text) c × CommandIsShort c × (now ≡ before ++ record { number = n; command = c } ∷ []))

-- the fault of a line of that number
abbrev pub IsFaultAt : ℕ → List ℕ → ScriptFault → Type 0
IsFaultAt n text (script.Syntax line column) = (line ≡ n) × IsRefusedAt text column
IsFaultAt n text script.Memory = Unit {0}
