-- The grammar of a line. Each production is a type of what it may hold. Its text is the tokens that spell it, and its value is what it means.
use Rattle.std.specs.Prelude.{◌≡◌, ℕ, ◌<◌, ◌≤◌, nat_le, ◌&&◌, Bool, true, false, List, [], ◌∷◌, ◌++◌, map, length, ℤ, pos, neg_ℤ, codes, Option, Some, None, flat_map, filter_map, take}
use Rattle.std.specs.List.{list_all}
use Rattle.hp_script.specs.Tokens.{is_digit, number_of}
use Rattle.hp_script.specs.declared.token.Token.{Token}
use Rattle.hp_script.specs.declared.token.Token.TheVariants.{Word, Number, Symbol}
use Rattle.hp_script.specs.declared.command.Command.{Command}
use Rattle.hp_script.specs.declared.command.Command.TheVariants.{Field, Let, LimitPairs, LimitDegree, Ask}
use Rattle.hp_script.specs.declared.command.Build.{Build}
use Rattle.hp_script.specs.declared.command.Build.TheVariants.{Forms, TypeA, TypeB, TypeD, Boolean, Graphic, Cone, Delete, Restrict}
use Rattle.hp_script.specs.declared.command.Question.{Question}
use Rattle.hp_script.specs.declared.command.Question.TheVariants as question
use Rattle.hp_script.specs.declared.command.Product.{Product}
use Rattle.hp_script.specs.declared.words.Keyword.{Keyword}
use Rattle.hp_script.specs.declared.words.Keyword.TheVariants as keyword
use Rattle.hp_script.specs.declared.words.Topic.{Topic}
use Rattle.hp_script.specs.declared.words.Topic.TheVariants as topic
use Rattle.hp_script.specs.declared.words.Shape.{Shape}
use Rattle.hp_script.specs.declared.words.Shape.TheVariants as shape
use Rattle.hp_script.specs.declared.words.Limit.{Limit}
use Rattle.hp_script.specs.declared.words.Limit.TheVariants as limit

-- the symbols `[`, `]`, `,`, `=`, `+`, `-` and `*`
abbrev pub opening : Token
opening = Symbol 91

abbrev pub closing : Token
closing = Symbol 93

abbrev pub comma : Token
comma = Symbol 44

abbrev pub equals_sign : Token
equals_sign = Symbol 61

abbrev pub plus_sign : Token
plus_sign = Symbol 43

abbrev pub minus_sign : Token
minus_sign = Symbol 45

abbrev pub star : Token
star = Symbol 42

-- one or more
pub record Several (T : Type 0) : Type 0 where
  pub first : T
  pub others : List T

-- INT = NUM | "-" NUM
pub data Int : Type 0 where
  plain : ℕ → Int
  negated : ℕ → Int

abbrev pub int_text : Int → List Token
int_text (plain n) = Number n ∷ []
int_text (negated n) = minus_sign ∷ Number n ∷ []

abbrev pub int_value : Int → ℤ
int_value (plain n) = pos n
int_value (negated n) = neg_ℤ (pos n)

-- { INT }
abbrev pub ints_text : List Int → List Token
ints_text is = flat_map int_text is

abbrev pub ints_value : List Int → List ℤ
ints_value is = map int_value is

-- row = INT { INT }
abbrev pub row_text : Several Int → List Token
row_text row = int_text row.first ++ ints_text row.others

abbrev pub row_value : Several Int → List ℤ
row_value row = int_value row.first ∷ ints_value row.others

-- rows = "[" "]" | "[" row { "," row } "]"
pub data Rows : Type 0 where
  no_rows : Rows
  some_rows : Several (Several Int) → Rows

abbrev pub later_row_text : Several Int → List Token
later_row_text row = comma ∷ row_text row

abbrev pub rows_text : Rows → List Token
rows_text no_rows = opening ∷ closing ∷ []
rows_text (some_rows rows) = opening ∷ row_text rows.first ++ flat_map later_row_text rows.others ++ closing ∷ []

abbrev pub rows_value : Rows → List (List ℤ)
rows_value no_rows = []
rows_value (some_rows rows) = row_value rows.first ∷ map row_value rows.others

-- edges = "[" { NUM "-" NUM } "]"
pub record Edge : Type 0 where
  pub from : ℕ
  pub to : ℕ

abbrev pub edge_text : Edge → List Token
edge_text e = Number e.from ∷ minus_sign ∷ Number e.to ∷ []

abbrev pub edge_value : Edge → ℕ × ℕ
edge_value e = (e.from, e.to)

abbrev pub edges_text : List Edge → List Token
edges_text edges = opening ∷ flat_map edge_text edges ++ closing ∷ []

-- list = "[" { INT } "]"
abbrev pub list_text : List Int → List Token
list_text list = opening ∷ ints_text list ++ closing ∷ []

-- list?
abbrev pub optional_text : Option (List Int) → List Token
optional_text None = []
optional_text (Some list) = list_text list

abbrev pub optional_value : Option (List Int) → Option (List ℤ)
optional_value None = None
optional_value (Some list) = Some (ints_value list)

-- one to ten digits
abbrev pub is_index : List ℕ → Bool
is_index digits = list_all is_digit digits && (nat_le 1 (length digits) && nat_le (length digits) 10)

-- factor = NUM | GEN; GEN is the letter e and one to ten digits
pub data Factor : Type 0 where
  coefficient : ℕ → Factor
  generator : (digits : List ℕ) → is_index digits ≡ true → Factor

abbrev pub factor_token : Factor → Token
factor_token (coefficient n) = Number n
factor_token (generator digits d) = Word (codes "e" ++ digits)

abbrev pub coefficient_of : Factor → Option ℕ
coefficient_of (coefficient n) = Some n
coefficient_of (generator digits d) = None

abbrev pub generator_of : Factor → Option ℕ
generator_of (coefficient n) = None
generator_of (generator digits d) = Some (number_of digits)

-- product = factor { "*" factor }
abbrev pub later_factor_text : Factor → List Token
later_factor_text f = star ∷ factor_token f ∷ []

abbrev pub factors_text : Several Factor → List Token
factors_text p = factor_token p.first ∷ flat_map later_factor_text p.others

-- a product of those factors, negated or not
abbrev pub product_of : Bool → List Factor → Product
product_of negative factors = record { negative = negative; numbers = filter_map coefficient_of factors; generators = filter_map generator_of factors }

abbrev pub product_value : Bool → Several Factor → Product
product_value negative p = product_of negative (p.first ∷ p.others)

-- ( "+" | "-" ) product
pub record Later : Type 0 where
  pub minus : Bool
  pub product : Several Factor

abbrev pub sign_token : Bool → Token
sign_token true = minus_sign
sign_token false = plus_sign

abbrev pub later_text : Later → List Token
later_text l = sign_token l.minus ∷ factors_text l.product

abbrev pub later_value : Later → Product
later_value l = product_value l.minus l.product

-- expr = product { ( "+" | "-" ) product } | "-" product { ( "+" | "-" ) product }
pub record Expression : Type 0 where
  pub minus : Bool
  pub first : Several Factor
  pub others : List Later

abbrev pub lead_text : Bool → List Token
lead_text true = minus_sign ∷ []
lead_text false = []

abbrev pub expression_text : Expression → List Token
expression_text e = lead_text e.minus ++ factors_text e.first ++ flat_map later_text e.others

abbrev pub expression_value : Expression → List Product
expression_value e = product_value e.minus e.first ∷ map later_value e.others

-- the word of a build
abbrev pub shape_text : Shape → List ℕ
shape_text shape.Forms = codes "forms"
shape_text shape.Cone = codes "cone"
shape_text shape.TypeA = codes "typeA"
shape_text shape.TypeB = codes "typeB"
shape_text shape.TypeD = codes "typeD"
shape_text shape.Boolean = codes "boolean"
shape_text shape.Graphic = codes "graphic"
shape_text shape.Delete = codes "delete"
shape_text shape.Restrict = codes "restrict"

-- what follows it
abbrev pub ShapeRest : Shape → Type 0
ShapeRest shape.Forms = ℕ × Rows
ShapeRest shape.Cone = ℕ × Rows
ShapeRest shape.TypeA = ℕ
ShapeRest shape.TypeB = ℕ
ShapeRest shape.TypeD = ℕ
ShapeRest shape.Boolean = ℕ
ShapeRest shape.Graphic = ℕ × List Edge
ShapeRest shape.Delete = List ℕ × ℕ
ShapeRest shape.Restrict = List ℕ × ℕ

abbrev pub shape_rest_text : (a : Shape) → ShapeRest a → List Token
shape_rest_text shape.Forms x = Number x.0 ∷ rows_text x.1
shape_rest_text shape.Cone x = Number x.0 ∷ rows_text x.1
shape_rest_text shape.TypeA n = Number n ∷ []
shape_rest_text shape.TypeB n = Number n ∷ []
shape_rest_text shape.TypeD n = Number n ∷ []
shape_rest_text shape.Boolean n = Number n ∷ []
shape_rest_text shape.Graphic x = Number x.0 ∷ edges_text x.1
shape_rest_text shape.Delete x = Word x.0 ∷ Number x.1 ∷ []
shape_rest_text shape.Restrict x = Word x.0 ∷ Number x.1 ∷ []

abbrev pub shape_rest_value : (a : Shape) → ShapeRest a → Build
shape_rest_value shape.Forms x = Forms x.0 (rows_value x.1)
shape_rest_value shape.Cone x = Cone x.0 (rows_value x.1)
shape_rest_value shape.TypeA n = TypeA n
shape_rest_value shape.TypeB n = TypeB n
shape_rest_value shape.TypeD n = TypeD n
shape_rest_value shape.Boolean n = Boolean n
shape_rest_value shape.Graphic x = Graphic x.0 (map edge_value x.1)
shape_rest_value shape.Delete x = Delete x.0 x.1
shape_rest_value shape.Restrict x = Restrict x.0 x.1

-- build: its word, and what follows it
abbrev pub BuildSyntax : Type 0
BuildSyntax = (a : Shape) × ShapeRest a

abbrev pub build_text : BuildSyntax → List Token
build_text b = Word (shape_text b.0) ∷ shape_rest_text b.0 b.1

abbrev pub build_value : BuildSyntax → Build
build_value b = shape_rest_value b.0 b.1

-- the word of a question
abbrev pub topic_text : Topic → List ℕ
topic_text topic.Hyperplanes = codes "hyperplanes"
topic_text topic.Point = codes "point"
topic_text topic.Rank = codes "rank"
topic_text topic.Flats = codes "flats"
topic_text topic.Poincare = codes "poincare"
topic_text topic.Characteristic = codes "characteristic"
topic_text topic.Triple = codes "triple"
topic_text topic.Circuits = codes "circuits"
topic_text topic.Nbc = codes "nbc"
topic_text topic.Normal = codes "normal"
topic_text topic.Aomoto = codes "aomoto"
topic_text topic.Gb = codes "gb"
topic_text topic.Der = codes "der"
topic_text topic.Resolve = codes "resolve"
topic_text topic.Free = codes "free"

-- what follows it and the name
abbrev pub TopicRest : Topic → Type 0
TopicRest topic.Hyperplanes = Unit {0}
TopicRest topic.Point = Unit {0}
TopicRest topic.Rank = Unit {0}
TopicRest topic.Flats = Unit {0}
TopicRest topic.Poincare = Unit {0}
TopicRest topic.Characteristic = Unit {0}
TopicRest topic.Triple = ℕ
TopicRest topic.Circuits = Unit {0}
TopicRest topic.Nbc = Unit {0}
TopicRest topic.Normal = Expression
TopicRest topic.Aomoto = List Int
TopicRest topic.Gb = Option (List Int)
TopicRest topic.Der = Option (List Int)
TopicRest topic.Resolve = Option (List Int)
TopicRest topic.Free = Option (List Int)

abbrev pub topic_rest_text : (t : Topic) → TopicRest t → List Token
topic_rest_text topic.Hyperplanes x = []
topic_rest_text topic.Point x = []
topic_rest_text topic.Rank x = []
topic_rest_text topic.Flats x = []
topic_rest_text topic.Poincare x = []
topic_rest_text topic.Characteristic x = []
topic_rest_text topic.Triple n = Number n ∷ []
topic_rest_text topic.Circuits x = []
topic_rest_text topic.Nbc x = []
topic_rest_text topic.Normal e = expression_text e
topic_rest_text topic.Aomoto list = list_text list
topic_rest_text topic.Gb list = optional_text list
topic_rest_text topic.Der list = optional_text list
topic_rest_text topic.Resolve list = optional_text list
topic_rest_text topic.Free list = optional_text list

abbrev pub question_value : (t : Topic) → TopicRest t → Question
question_value topic.Hyperplanes x = question.Hyperplanes
question_value topic.Point x = question.Point
question_value topic.Rank x = question.Rank
question_value topic.Flats x = question.Flats
question_value topic.Poincare x = question.Poincare
question_value topic.Characteristic x = question.Characteristic
question_value topic.Triple n = question.Triple n
question_value topic.Circuits x = question.Circuits
question_value topic.Nbc x = question.Nbc
question_value topic.Normal e = question.Normal (expression_value e)
question_value topic.Aomoto list = question.Aomoto (ints_value list)
question_value topic.Gb list = question.Gb (optional_value list)
question_value topic.Der list = question.Der (optional_value list)
question_value topic.Resolve list = question.Resolve (optional_value list)
question_value topic.Free list = question.Free (optional_value list)

-- the word that says which limit
abbrev pub limit_text : Limit → List ℕ
limit_text limit.Pairs = codes "pairs"
limit_text limit.Degree = codes "degree"

abbrev pub limit_value : Limit → ℕ → Command
limit_value limit.Pairs n = LimitPairs n
limit_value limit.Degree n = LimitDegree n

-- the word that a command begins with
abbrev pub keyword_text : Keyword → List ℕ
keyword_text keyword.Field = codes "field"
keyword_text keyword.Let = codes "let"
keyword_text keyword.Limit = codes "limit"
keyword_text (keyword.Ask t) = topic_text t

-- what follows it: a question has a name first
abbrev pub Rest : Keyword → Type 0
Rest keyword.Field = ℕ
Rest keyword.Let = List ℕ × BuildSyntax
Rest keyword.Limit = Limit × ℕ
Rest (keyword.Ask t) = List ℕ × TopicRest t

abbrev pub rest_text : (k : Keyword) → Rest k → List Token
rest_text keyword.Field n = Number n ∷ []
rest_text keyword.Let x = Word x.0 ∷ equals_sign ∷ build_text x.1
rest_text keyword.Limit x = Word (limit_text x.0) ∷ Number x.1 ∷ []
rest_text (keyword.Ask t) x = Word x.0 ∷ topic_rest_text t x.1

abbrev pub rest_value : (k : Keyword) → Rest k → Command
rest_value keyword.Field n = Field n
rest_value keyword.Let x = Let x.0 (build_value x.1)
rest_value keyword.Limit x = limit_value x.0 x.1
rest_value (keyword.Ask t) x = Ask x.0 (question_value t x.1)

-- command: its word, and what follows it
abbrev pub CommandSyntax : Type 0
CommandSyntax = (k : Keyword) × Rest k

abbrev pub command_text : CommandSyntax → List Token
command_text s = Word (keyword_text s.0) ∷ rest_text s.0 s.1

abbrev pub command_value : CommandSyntax → Command
command_value s = rest_value s.0 s.1

-- the tokens spell a command
abbrev pub Spells : List Token → Command → Type 0
Spells ts c = (s : CommandSyntax) × (ts ≡ command_text s) × (c ≡ command_value s)

-- the tokens begin some command
abbrev pub IsViable : List Token → Type 0
IsViable ts = (rest : List Token) × (c : Command) × Spells (ts ++ rest) c

-- The tokens spell no command, and the longest of their prefixes that begins a command has k tokens.
pub record StopsAt (ts : List Token) (k : ℕ) : Type 0 where
  pub not_spelled : (c : Command) → ¬ (Spells ts c)
  pub within : k ≤ length ts
  pub viable : IsViable (take k ts)
  pub longest : (j : ℕ) → k < j → j ≤ length ts → ¬ (IsViable (take j ts))
