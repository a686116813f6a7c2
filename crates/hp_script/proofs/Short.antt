-- The lists within a command are no longer than its tokens.
use Rattle.std.proofs.Common.{◌≡◌, ℕ, zero, suc, ◌+◌, ◌<◌, ◌≤◌, ◌==◌, Bool, true, false, List, [], ◌∷◌, ◌++◌, length, map, drop, Option, Some, None, sym, subst, arith}
use Rattle.std.specs.List.{flat_map, filter_map, All}
use Rattle.std.specs.List.{cons_option}
use Rattle.std.proofs.lemmas.List.{length-append, length-map}
use Rattle.std.proofs.lemmas.List.Elements.{All-nil, All-cons}
use Rattle.hp_script.specs.Script.{most_bytes}
use Rattle.hp_script.specs.declared.token.Token.{Token}
use Rattle.hp_script.specs.declared.token.Token.TheVariants.{Word, Number, Symbol}
use Rattle.hp_script.specs.declared.command.Command.{Command}
use Rattle.hp_script.specs.declared.words.Keyword.{Keyword}
use Rattle.hp_script.specs.declared.words.Keyword.TheVariants as keyword
use Rattle.hp_script.specs.declared.words.Topic.{Topic}
use Rattle.hp_script.specs.declared.words.Topic.TheVariants as topic
use Rattle.hp_script.specs.declared.words.Shape.{Shape}
use Rattle.hp_script.specs.declared.words.Shape.TheVariants as shape
use Rattle.hp_script.specs.declared.words.Limit.TheVariants as limit
use Rattle.hp_script.specs.Tokens.{Placed, is_blank, first_text, token_of, token_at, tokens_within, tokens, line_tokens}
use Rattle.hp_script.specs.Grammar.{Several, Int, plain, negated, int_text, ints_text, ints_value, row_text, row_value, Rows, no_rows, some_rows, later_row_text, rows_text, rows_value, Edge, edge_text, edge_value, edges_text, list_text, optional_text, optional_value, Factor, coefficient_of, generator_of, later_factor_text, factors_text, product_value, sign_token, later_text, later_value, lead_text, Expression, expression_text, expression_value, ShapeRest, shape_rest_text, shape_rest_value, TopicRest, topic_rest_text, question_value, keyword_text, Rest, rest_text, rest_value, command_text, Spells}
use Rattle.hp_script.specs.Lists.{IsShort, HasShortRows, HasShortFactors, IsShortOption, BuildIsShort, QuestionIsShort, CommandIsShort}

-- items of one token or more
items : {T : Type 0} (text : T → List Token) → ((t : T) → 1 ≤ length (text t)) → (ts : List T)
    → length ts ≤ length (flat_map text ts)
items text some [] = lemma
  where
    lemma : 0 ≤ 0
    lemma = omega arith
items text some (t ∷ ts) = subst (λ n. suc (length ts) ≤ n) (sym (length-append (text t) (flat_map text ts))) (one_more (length ts) (length (text t)) (length (flat_map text ts)) (some t) (items text some ts))
  where
    one_more : (n a b : ℕ) → 1 ≤ a → n ≤ b → suc n ≤ a + b
    one_more n a b h i = omega arith

mapped_items : {T V : Type 0} (text : T → List Token) (value : T → V) → ((t : T) → 1 ≤ length (text t)) → (ts : List T)
    → length (map value ts) ≤ length (flat_map text ts)
mapped_items text value some ts = subst (λ n. n ≤ length (flat_map text ts)) (sym (length-map ts value)) (items text some ts)

-- each item of a list is within the text of all
each : {T V : Type 0} (text : T → List Token) (value : T → V) (P : V → Type 0) (m : ℕ)
    → ((t : T) → length (text t) < m → P (value t)) → (ts : List T) → length (flat_map text ts) < m
    → All P (map value ts)
each text value P m so [] h = All-nil P
each text value P m so (t ∷ ts) h =
    let sum : length (text t) + length (flat_map text ts) < m = subst (λ n. n < m) (length-append (text t) (flat_map text ts)) h in
    All-cons P (value t) (map value ts) (so t (left (length (text t)) (length (flat_map text ts)) m sum)) (each text value P m so ts (right (length (text t)) (length (flat_map text ts)) m sum))
  where
    left : (a b m : ℕ) → a + b < m → a < m
    left a b m h = omega arith

    right : (a b m : ℕ) → a + b < m → b < m
    right a b m h = omega arith

below : (a b m : ℕ) → a ≤ b → b < m → a < m
below a b m h i = omega arith

some_more : (n : ℕ) → 1 ≤ suc n
some_more n = omega arith

within_front : (xs ys : List Token) (m : ℕ) → length (xs ++ ys) < m → length xs < m
within_front xs ys m h = lemma (length xs) (length ys) (length (xs ++ ys)) (length-append xs ys) h
  where
    lemma : (a b n : ℕ) → n ≡ a + b → n < m → a < m
    lemma a b n e h = omega arith

within_back : (xs ys : List Token) (m : ℕ) → length (xs ++ ys) < m → length ys < m
within_back xs ys m h = lemma (length xs) (length ys) (length (xs ++ ys)) (length-append xs ys) h
  where
    lemma : (a b n : ℕ) → n ≡ a + b → n < m → b < m
    lemma a b n e h = omega arith

within_tail : (t : Token) (ts : List Token) (m : ℕ) → length (t ∷ ts) < m → length ts < m
within_tail t ts m h = lemma (length ts) h
  where
    lemma : (n : ℕ) → suc n < m → n < m
    lemma n h = omega arith

-- lists of INT
int_some : (i : Int) → 1 ≤ length (int_text i)
int_some (plain n) = some_more 0
int_some (negated n) = some_more 1

ints_short : (is : List Int) (m : ℕ) → length (ints_text is) < m → length (ints_value is) < m
ints_short is m h = below (length (ints_value is)) (length (ints_text is)) m (mapped_items int_text _ int_some is) h

list_short : (is : List Int) (m : ℕ) → length (list_text is) < m → length (ints_value is) < m
list_short is m h = ints_short is m (within_front (ints_text is) (Symbol 93 ∷ []) m (within_tail (Symbol 91) _ m h))

optional_short : (o : Option (List Int)) → length (optional_text o) < 4294967295 → IsShortOption (optional_value o)
optional_short None h = tt
optional_short (Some is) h = list_short is 4294967295 h

-- rows
row_some : (r : Several Int) → 1 ≤ length (row_text r)
row_some r = lemma (length (int_text r.first)) (length (ints_text r.others)) (length (row_text r)) (int_some r.first) (length-append (int_text r.first) (ints_text r.others))
  where
    lemma : (a b n : ℕ) → 1 ≤ a → n ≡ a + b → 1 ≤ n
    lemma a b n h e = omega arith

row_short : (m : ℕ) (r : Several Int) → length (row_text r) < m → length (row_value r) < m
row_short m r h =
    lemma (length (int_text r.first)) (length (ints_text r.others)) (length (row_text r)) (length (ints_value r.others)) (int_some r.first) (length-append (int_text r.first) (ints_text r.others)) h
    (mapped_items int_text _ int_some r.others)
  where
    lemma : (a b n k : ℕ) → 1 ≤ a → n ≡ a + b → n < m → k ≤ b → suc k < m
    lemma a b n k h e i l = omega arith

rows_short : (r : Rows) → length (rows_text r) < 4294967295 → HasShortRows (rows_value r)
rows_short no_rows h = (lemma, All-nil IsShort)
  where
    lemma : 0 < 4294967295
    lemma = omega arith
rows_short (some_rows rows) h =
    let m : ℕ = 4294967295 in
    let body : length (row_text rows.first ++ flat_map later_row_text rows.others) < m = within_front (row_text rows.first ++ flat_map later_row_text rows.others) (Symbol 93 ∷ []) m (within_tail (Symbol 91) _ m h) in (
      count (length (row_text rows.first)) (length (flat_map later_row_text rows.others)) (length (row_text rows.first ++ flat_map later_row_text rows.others)) (length (map row_value rows.others)) (row_some rows.first)
          (length-append (row_text rows.first) (flat_map later_row_text rows.others)) body (mapped_items later_row_text row_value (λ r. some_more (length (row_text r))) rows.others),
      All-cons IsShort (row_value rows.first) (map row_value rows.others) (row_short m rows.first (within_front (row_text rows.first) (flat_map later_row_text rows.others) m body))
          (each later_row_text row_value IsShort m (λ r l. row_short m r (within_tail (Symbol 44) (row_text r) m l)) rows.others (within_back (row_text rows.first) (flat_map later_row_text rows.others) m body)),
    )
  where
    count : (a b n k : ℕ) → 1 ≤ a → n ≡ a + b → n < 4294967295 → k ≤ b → suc k < 4294967295
    count a b n k h e i l = omega arith

-- edges
edges_short : (es : List Edge) → length (edges_text es) < 4294967295 → IsShort (map edge_value es)
edges_short es h =
    below (length (map edge_value es)) (length (flat_map edge_text es)) 4294967295 (mapped_items edge_text edge_value (λ e. some_more 2) es)
    (within_front (flat_map edge_text es) (Symbol 93 ∷ []) 4294967295 (within_tail (Symbol 91) _ 4294967295 h))

-- products
length_filter_map : {X Y : Type 0} (f : X → Option Y) (xs : List X) → length (filter_map f xs) ≤ length xs
length_filter_map f [] = lemma
  where
    lemma : 0 ≤ 0
    lemma = omega arith
length_filter_map {X = X} {Y = Y} f (x ∷ xs) = by_option (f x) (filter_map f xs) (length_filter_map f xs)
  where
    more : (a b : ℕ) → a ≤ b → suc a ≤ suc b
    more a b h = omega arith

    over : (a b : ℕ) → a ≤ b → a ≤ suc b
    over a b h = omega arith

    by_option : (o : Option Y) (ys : List Y) → length ys ≤ length xs → length (cons_option o ys) ≤ suc (length xs)
    by_option None ys h = over (length ys) (length xs) h
    by_option (Some y) ys h = more (length ys) (length xs) h

product_short : (minus : Bool) (p : Several Factor) → length (factors_text p) < 4294967295
    → HasShortFactors (product_value minus p)
product_short minus p h = (
  below (length (filter_map coefficient_of (p.first ∷ p.others))) (suc (length p.others)) 4294967295 (length_filter_map coefficient_of (p.first ∷ p.others)) all,
  below (length (filter_map generator_of (p.first ∷ p.others))) (suc (length p.others)) 4294967295 (length_filter_map generator_of (p.first ∷ p.others)) all,
)
  where
    count : (n k : ℕ) → suc n < 4294967295 → k ≤ n → suc k < 4294967295
    count n k h i = omega arith

    all : suc (length p.others) < 4294967295
    all = count (length (flat_map later_factor_text p.others)) (length p.others) h (items later_factor_text (λ f. some_more 1) p.others)

expression_short : (e : Expression) → length (expression_text e) < 4294967295
    → IsShort (expression_value e) × All HasShortFactors (expression_value e)
expression_short e h =
    let m : ℕ = 4294967295 in
    let front : length (lead_text e.minus ++ factors_text e.first) < m = within_front (lead_text e.minus ++ factors_text e.first) (flat_map later_text e.others) m h in
    let first : length (factors_text e.first) < m = within_back (lead_text e.minus) (factors_text e.first) m front in
    let later : length (flat_map later_text e.others) < m = within_back (lead_text e.minus ++ factors_text e.first) (flat_map later_text e.others) m h in (
      count (length (lead_text e.minus)) (length (flat_map later_factor_text e.first.others)) (length (lead_text e.minus ++ factors_text e.first)) (length (flat_map later_text e.others)) (length (expression_text e)) (length (map later_value e.others))
          (length-append (lead_text e.minus) (factors_text e.first)) (length-append (lead_text e.minus ++ factors_text e.first) (flat_map later_text e.others)) h
          (mapped_items later_text later_value (λ l. some_more (length (factors_text l.product))) e.others),
      All-cons HasShortFactors (product_value e.minus e.first) (map later_value e.others) (product_short e.minus e.first first)
          (each later_text later_value HasShortFactors m (λ l i. product_short l.minus l.product (within_tail (sign_token l.minus) (factors_text l.product) m i)) e.others later),
    )
  where
    count : (a b n c t k : ℕ) → n ≡ a + suc b → t ≡ n + c → t < 4294967295 → k ≤ c → suc k < 4294967295
    count a b n c t k e f h i = omega arith

-- builds, questions and commands
build_short : (a : Shape) (x : ShapeRest a) → length (shape_rest_text a x) < 4294967295
    → BuildIsShort (shape_rest_value a x)
build_short shape.Forms x h = rows_short x.1 (within_tail (Number x.0) (rows_text x.1) 4294967295 h)
build_short shape.Cone x h = rows_short x.1 (within_tail (Number x.0) (rows_text x.1) 4294967295 h)
build_short shape.TypeA x h = tt
build_short shape.TypeB x h = tt
build_short shape.TypeD x h = tt
build_short shape.Boolean x h = tt
build_short shape.Graphic x h = edges_short x.1 (within_tail (Number x.0) (edges_text x.1) 4294967295 h)
build_short shape.Delete x h = tt
build_short shape.Restrict x h = tt

question_short : (t : Topic) (x : TopicRest t) → length (topic_rest_text t x) < 4294967295
    → QuestionIsShort (question_value t x)
question_short topic.Hyperplanes x h = tt
question_short topic.Point x h = tt
question_short topic.Rank x h = tt
question_short topic.Flats x h = tt
question_short topic.Poincare x h = tt
question_short topic.Characteristic x h = tt
question_short topic.Triple x h = tt
question_short topic.Circuits x h = tt
question_short topic.Nbc x h = tt
question_short topic.Normal x h = expression_short x h
question_short topic.Aomoto x h = list_short x 4294967295 h
question_short topic.Gb x h = optional_short x h
question_short topic.Der x h = optional_short x h
question_short topic.Resolve x h = optional_short x h
question_short topic.Free x h = optional_short x h

rest_short : (k : Keyword) (x : Rest k) → length (rest_text k x) < 4294967295 → CommandIsShort (rest_value k x)
rest_short keyword.Field x h = tt
rest_short keyword.Let x h =
    build_short x.1.0 x.1.1 (lemma (length (shape_rest_text x.1.0 x.1.1)) h)
  where
    lemma : (n : ℕ) → suc (suc (suc n)) < 4294967295 → n < 4294967295
    lemma n h = omega arith
rest_short keyword.Limit (limit.Pairs, n) h = tt
rest_short keyword.Limit (limit.Degree, n) h = tt
rest_short (keyword.Ask t) x h = question_short t x.1 (lemma (length (topic_rest_text t x.1)) h)
  where
    lemma : (n : ℕ) → suc n < 4294967295 → n < 4294967295
    lemma n h = omega arith

pub spelled_short : (ts : List Token) (c : Command) → Spells ts c → length ts < 4294967295 → CommandIsShort c
spelled_short ts c s h =
    let whole : length (command_text s.0) < 4294967295 = subst (λ xs. length xs < 4294967295) s.1 h in
    subst CommandIsShort (sym s.2) (rest_short s.0.0 s.0.1 (within_tail (Word (keyword_text s.0.0)) (rest_text s.0.0 s.0.1) 4294967295 whole))

-- a line has no more tokens than bytes
tokens_few : (bound column : ℕ) (bs : List ℕ) → length (tokens_within bound column bs) ≤ bound
tokens_few zero column bs = lemma
  where
    lemma : 0 ≤ 0
    lemma = omega arith
tokens_few (suc bound) column [] = lemma bound
  where
    lemma : (n : ℕ) → 0 ≤ suc n
    lemma n = omega arith
tokens_few (suc bound) column (b ∷ bs) =
    by_test (b == 35) (is_blank b) (tokens_within bound (column + 1) bs) (tokens_few bound (column + 1) bs)
    (tokens_within bound (column + length (first_text b bs)) (drop (length (first_text b bs)) (b ∷ bs))) (tokens_few bound (column + length (first_text b bs)) (drop (length (first_text b bs)) (b ∷ bs)))
  where
    none : (n : ℕ) → 0 ≤ suc n
    none n = omega arith

    over : (a n : ℕ) → a ≤ n → a ≤ suc n
    over a n h = omega arith

    more : (a n : ℕ) → a ≤ n → suc a ≤ suc n
    more a n h = omega arith

    by_test : (comment blank : Bool) (xs : List Placed) → length xs ≤ bound → (ys : List Placed) → length ys ≤ bound
        → length {A = Placed} (elim comment [ true ↦ [] | false ↦ elim blank [ true ↦ xs | false ↦ token_at column (first_text b bs) (token_of b (first_text b bs)) ∷ ys ] ]) ≤ suc bound
    by_test true blank xs h ys i = none bound
    by_test false true xs h ys i = over (length xs) bound h
    by_test false false xs h ys i = more (length ys) bound i

pub line_short : (line : List ℕ) (c : Command) → length line ≤ most_bytes → Spells (line_tokens line) c
    → CommandIsShort c
line_short line c h s = spelled_short (line_tokens line) c s (lemma (length (line_tokens line)) (length (tokens line)) (length line) (length-map (tokens line) (λ p. p.token)) (tokens_few (length line) 1 line) h)
  where
    lemma : (a b n : ℕ) → a ≡ b → b ≤ n → n ≤ most_bytes → a < 4294967295
    lemma a b n e h i = omega arith
