-- Each production of the grammar is read exactly.
use Rattle.std.proofs.Common.{◌≡◌, ℕ, Bool, true, false, List, [], ◌∷◌, ◌++◌, map, Option, Some, None, ℤ, pos, neg_ℤ, refl, sym, ap, ◌∙◌, append_assoc, inl, inr, ◌⊎◌}
use Rattle.std.specs.List.{flat_map}
use Rattle.std.proofs.lemmas.Bool.{false≢true}
use Rattle.hp_script.specs.declared.token.Token.{Token}
use Rattle.hp_script.specs.declared.token.Token.TheVariants.{Word, Number, Symbol}
use Rattle.std.specs.List.{filter_map}
use Rattle.hp_script.specs.declared.expressions.Factor as code
use Rattle.hp_script.specs.Grammar.{edge_text, edge_value, edges_text, Several, Int, plain, negated, int_text, int_value, ints_text, ints_value, row_text, row_value, Rows, no_rows, some_rows, later_row_text, rows_text, rows_value, list_text, optional_text, optional_value, Factor, coefficient, generator, factor_token, coefficient_of, generator_of, later_factor_text, factors_text, product_value, Later, sign_token, later_text, later_value, lead_text, expression_text, expression_value}
use Rattle.hp_script.specs.Tokens.{number_of}
use Rattle.hp_script.specs.Reading.{is_number, edge_at, more_edges_at, edges_at, Reader, starts, is_symbol, is_int, is_sign, number_at, word_at, symbol_at, int_at, ints_at, list_at, optional_list_at, row_at, later_row_at, later_rows_at, some_rows_at, rows_at, factor_at, later_factor_at, later_factors_at, factors_at, later_at, laters_at, lead_at, expression_at, sign_in, token_at, seq, either, mapped, product_from, number_of_factor, index_of_factor}
use Rattle.hp_script.proofs.Exact.{no_token, IsReader, token_reader}
use Rattle.hp_script.proofs.Combine.{mapped_reader, seq_reader, either_reader, nothing_reader, many_reader, or_test, not_started, many_apart, or_right, weaker_reader}
use Rattle.hp_script.proofs.Singles.{number_token, word_token, symbol_token, factor_value, factor_is_token, sign_is_token}

pub never : (xs : List Token) → starts no_token xs ≡ true → ⊥
never [] e = false≢true e
never (t ∷ ts) e = false≢true e

pub number_reader : IsReader (λ n. Number n ∷ []) (λ n. n) no_token 1 number_at
number_reader = token_reader (λ n. Number n) (λ n. n) _ number_token

pub word_reader : IsReader (λ w. Word w ∷ []) (λ w. w) no_token 1 word_at
word_reader = token_reader (λ w. Word w) (λ w. w) _ word_token

pub symbol_reader : (s : ℕ) → IsReader {T = Unit {0}} (λ u. Symbol s ∷ []) (λ u. tt) no_token 1 (symbol_at s)
symbol_reader s = token_reader (λ u. Symbol s) (λ u. tt) _ (symbol_token s)

pub factor_reader : IsReader (λ f. factor_token f ∷ []) factor_value no_token 1 factor_at
factor_reader = token_reader factor_token factor_value _ factor_is_token

pub sign_reader : IsReader (λ m. sign_token m ∷ []) (λ m. m) no_token 1 (token_at sign_in)
sign_reader = token_reader sign_token (λ m. m) _ sign_is_token

-- a symbol and a production after it
pub after_symbol : {T V : Type 0} {text : T → List Token} {value : T → V} {bars : Token → Bool} {least : ℕ} {p : Reader V} (s : ℕ) → IsReader text value bars least p
    → IsReader (λ t. Symbol s ∷ text t) value bars 1 (λ ts. seq (λ x v. v) (symbol_at s) p ts)
after_symbol {bars = bars} s P =
    seq_reader bars (record { join = λ u t. t; text_is = λ u t. refl; value_is = λ u t. refl; split = λ t. (tt, t, refl, refl) }) (symbol_reader s) P (λ xs e. e) (λ K f xs c e l. never xs e)

-- INT
negated_reader : IsReader (λ n. Symbol 45 ∷ Number n ∷ []) (λ n. neg_ℤ (pos n)) no_token 1 (λ ts. seq (λ x n. neg_ℤ (pos n)) (symbol_at 45) number_at ts)
negated_reader = seq_reader no_token (record { join = λ u n. n; text_is = λ u n. refl; value_is = λ u n. refl; split = λ n. (tt, n, refl, refl) }) (symbol_reader 45) number_reader (λ xs e. e) (λ K f xs c e l. never xs e)

pub int_reader : IsReader int_text int_value no_token 1 int_at
int_reader =
    either_reader no_token (is_symbol 45) (record { left = negated; right = plain; left_text = λ n. refl; left_value = λ n. refl; right_text = λ n. refl; right_value = λ n. refl; split = split })
    negated_reader (mapped_reader pos number_reader) (λ xs e. e) (λ xs e. e) (λ n. refl) (λ K f xs c e l. false≢true (sym (ap (starts (is_symbol 45)) l.2) ∙ e))
  where
    split : (i : Int) → ((n : ℕ) × (int_text i ≡ Symbol 45 ∷ Number n ∷ []) × (int_value i ≡ neg_ℤ (pos n))) ⊎ ((n : ℕ) × (int_text i ≡ Number n ∷ []) × (int_value i ≡ pos n))
    split (plain n) = inr (n, refl, refl)
    split (negated n) = inl (n, refl, refl)

-- what a list of INT may not go on with
abbrev pub int_bars : Token → Bool
int_bars = or_test is_int no_token

int_begins : (i : Int) → starts is_int (int_text i) ≡ true
int_begins (plain n) = refl
int_begins (negated n) = refl

pub ints_reader : IsReader ints_text ints_value int_bars 0 ints_at
ints_reader = many_reader is_int int_reader int_begins (λ i e. never (int_text i) e)

-- list
ints_closed : IsReader (λ (l : List Int). ints_text l ++ Symbol 93 ∷ []) (λ l. ints_value l) no_token 0 (λ ts. seq (λ v x. v) ints_at (symbol_at 93) ts)
ints_closed =
    seq_reader no_token (record { join = λ l u. l; text_is = λ l u. refl; value_is = λ l u. refl; split = λ l. (l, tt, refl, refl) })
    ints_reader (symbol_reader 93) (λ xs e. e) (λ K f xs c e l. not_started int_bars xs _ l.2 refl e)

pub list_reader : IsReader list_text (λ l. ints_value l) no_token 1 list_at
list_reader = after_symbol 91 ints_closed

pub optional_reader : IsReader optional_text optional_value (is_symbol 91) 0 optional_list_at
optional_reader =
    either_reader {T2 = Unit {0}} {text2 = λ u. []} {value2 = λ u. None} (is_symbol 91) (is_symbol 91)
    (record { left = Some; right = λ u. None; left_text = λ l. refl; left_value = λ l. refl; right_text = λ u. refl; right_value = λ u. refl; split = split })
    (weaker_reader (mapped_reader Some list_reader)) (nothing_reader None) (λ xs e. absurd (never xs e)) (λ xs e. absurd (never xs e)) (λ l. refl)
    (λ K f xs c e l. f None l.1 c (ap (starts (is_symbol 91)) (sym l.2) ∙ e) l.3)
  where
    split : (o : Option (List Int)) → ((l : List Int) × (optional_text o ≡ list_text l) × (optional_value o ≡ Some (ints_value l))) ⊎ ((u : Unit {0}) × (optional_text o ≡ []) × (optional_value o ≡ None))
    split (Some l) = inl (l, refl, refl)
    split None = inr (tt, refl, refl)

-- edges
edge_reader : IsReader edge_text edge_value no_token 1 edge_at
edge_reader =
    seq_reader no_token (record { join = λ a b. record { from = a; to = b }; text_is = λ a b. refl; value_is = λ a b. refl; split = λ e. (e.from, e.to, refl, refl) })
    number_reader (after_symbol 45 number_reader) (λ xs e. e) (λ K f xs c e l. never xs e)

more_edges_reader : IsReader (flat_map edge_text) (map edge_value) (or_test is_number no_token) 0 more_edges_at
more_edges_reader = many_reader is_number edge_reader (λ e. refl) (λ e s. never (edge_text e) s)

pub edges_reader : IsReader edges_text (map edge_value) no_token 1 edges_at
edges_reader =
    after_symbol 91 (seq_reader no_token (record { join = λ l u. l; text_is = λ l u. refl; value_is = λ l u. refl; split = λ l. (l, tt, refl, refl) })
    more_edges_reader (symbol_reader 93) (λ xs e. e) (λ K f xs c e l. not_started (or_test is_number no_token) xs _ l.2 refl e))

-- rows
pub row_reader : IsReader row_text row_value int_bars 1 row_at
row_reader =
    seq_reader int_bars (record { join = λ i is. record { first = i; others = is }; text_is = λ i is. refl; value_is = λ i is. refl; split = λ r. (r.first, r.others, refl, refl) })
    int_reader ints_reader (λ xs e. e) (λ K f xs c e l. never xs e)

later_row_reader : IsReader later_row_text row_value int_bars 1 later_row_at
later_row_reader = after_symbol 44 row_reader

later_rows_reader : IsReader (flat_map later_row_text) (map row_value) (or_test (is_symbol 44) int_bars) 0 later_rows_at
later_rows_reader = many_reader (is_symbol 44) later_row_reader (λ r. refl) (λ r e. false≢true e)

abbrev all_rows_text : Several (Several Int) → List Token
all_rows_text rows = row_text rows.first ++ flat_map later_row_text rows.others

abbrev all_rows_value : Several (Several Int) → List (List ℤ)
all_rows_value rows = row_value rows.first ∷ map row_value rows.others

all_rows_reader : IsReader all_rows_text all_rows_value (or_test (is_symbol 44) int_bars) 1 (λ ts. seq (λ x xs. x ∷ xs) row_at later_rows_at ts)
all_rows_reader =
    seq_reader (or_test (is_symbol 44) int_bars) (record { join = λ r rs. record { first = r; others = rs }; text_is = λ r rs. refl; value_is = λ r rs. refl; split = λ r. (r.first, r.others, refl, refl) })
    row_reader later_rows_reader (λ xs e. e)
    (λ K f xs c e l. many_apart later_row_text row_value (is_symbol 44) int_bars (λ r. refl) (λ r s. false≢true s) K (λ v ys d s. f v ys d (or_right (is_symbol 44) int_bars ys s)) xs c e l)

some_rows_reader : IsReader (λ rows. all_rows_text rows ++ Symbol 93 ∷ []) all_rows_value no_token 1 some_rows_at
some_rows_reader =
    seq_reader no_token (record { join = λ r u. r; text_is = λ r u. refl; value_is = λ r u. refl; split = λ r. (r, tt, refl, refl) })
    all_rows_reader (symbol_reader 93) (λ xs e. e) (λ K f xs c e l. not_started (or_test (is_symbol 44) int_bars) xs _ l.2 refl e)

abbrev open_rows_text : Rows → List Token
open_rows_text no_rows = Symbol 93 ∷ []
open_rows_text (some_rows rows) = all_rows_text rows ++ Symbol 93 ∷ []

int_not_closing : (i : Int) (ys : List Token) → starts (is_symbol 93) (int_text i ++ ys) ≡ false
int_not_closing (plain n) ys = refl
int_not_closing (negated n) ys = refl

open_rows_reader : IsReader open_rows_text rows_value no_token 1 (λ ts. either (is_symbol 93) (mapped (λ x. []) (symbol_at 93)) some_rows_at ts)
open_rows_reader =
    either_reader {T1 = Unit {0}} no_token (is_symbol 93)
    (record { left = λ u. no_rows; right = some_rows; left_text = λ u. refl; left_value = λ u. refl; right_text = λ r. refl; right_value = λ r. refl; split = split })
    (mapped_reader (λ x. []) (symbol_reader 93)) some_rows_reader (λ xs e. e) (λ xs e. e) (λ u. refl)
    (λ K f xs c e l. never_closing l.0 l.1 xs l.2 e)
  where
    split : (r : Rows) → ((u : Unit {0}) × (open_rows_text r ≡ Symbol 93 ∷ []) × (rows_value r ≡ [])) ⊎ ((s : Several (Several Int)) × (open_rows_text r ≡ all_rows_text s ++ Symbol 93 ∷ []) × (rows_value r ≡ all_rows_value s))
    split no_rows = inl (tt, refl, refl)
    split (some_rows rows) = inr (rows, refl, refl)

    never_closing : (rows : Several (Several Int)) (ys xs : List Token) → xs ≡ (all_rows_text rows ++ Symbol 93 ∷ []) ++ ys → starts (is_symbol 93) xs ≡ true → ⊥
    never_closing rows ys xs e s =
        let i = int_text rows.first.first in
        let is = ints_text rows.first.others in
        let later = flat_map later_row_text rows.others in
        not_started (is_symbol 93) xs (i ++ (is ++ (later ++ (Symbol 93 ∷ [] ++ ys))))
        (e ∙ append_assoc (i ++ is ++ later) (Symbol 93 ∷ []) ys ∙ append_assoc (i ++ is) later (Symbol 93 ∷ ys) ∙ append_assoc i is (later ++ Symbol 93 ∷ ys))
        (int_not_closing rows.first.first _) s

pub rows_reader : IsReader rows_text rows_value no_token 1 rows_at
rows_reader =
    seq_reader no_token (record { join = λ u r. r; text_is = text_is; value_is = λ u r. refl; split = λ r. (tt, r, text_is tt r, refl) })
    (symbol_reader 91) open_rows_reader (λ xs e. e) (λ K f xs c e l. never xs e)
  where
    text_is : (u : Unit {0}) (r : Rows) → rows_text r ≡ Symbol 91 ∷ open_rows_text r
    text_is u no_rows = refl
    text_is u (some_rows rows) = refl

-- expr
abbrev pub star_bars : Token → Bool
star_bars = or_test (is_symbol 42) no_token

later_factor_reader : IsReader later_factor_text factor_value no_token 1 later_factor_at
later_factor_reader = after_symbol 42 factor_reader

later_factors_reader : IsReader (flat_map later_factor_text) (map factor_value) star_bars 0 later_factors_at
later_factors_reader = many_reader (is_symbol 42) later_factor_reader (λ f. refl) (λ f e. never (later_factor_text f) e)

abbrev pub factors_value : Several Factor → List code.Factor
factors_value p = factor_value p.first ∷ map factor_value p.others

numbers_agree : (fs : List Factor) → filter_map coefficient_of fs ≡ filter_map number_of_factor (map factor_value fs)
numbers_agree [] = refl
numbers_agree (coefficient n ∷ fs) = ap (λ ns. n ∷ ns) (numbers_agree fs)
numbers_agree (generator digits d ∷ fs) = numbers_agree fs

indices_agree : (fs : List Factor) → filter_map generator_of fs ≡ filter_map index_of_factor (map factor_value fs)
indices_agree [] = refl
indices_agree (coefficient n ∷ fs) = indices_agree fs
indices_agree (generator digits d ∷ fs) = ap (λ ks. number_of digits ∷ ks) (indices_agree fs)

product_agrees : (m : Bool) (p : Several Factor) → product_value m p ≡ product_from m (factors_value p)
product_agrees m p =
    ap (λ ns. record { negative = m; numbers = ns; generators = filter_map generator_of (p.first ∷ p.others) }) (numbers_agree (p.first ∷ p.others))
    ∙ ap (λ ks. record { negative = m; numbers = filter_map number_of_factor (factors_value p); generators = ks }) (indices_agree (p.first ∷ p.others))

pub factors_reader : IsReader factors_text factors_value star_bars 1 factors_at
factors_reader =
    seq_reader star_bars (record { join = λ f fs. record { first = f; others = fs }; text_is = λ f fs. refl; value_is = λ f fs. refl; split = λ p. (p.first, p.others, refl, refl) })
    factor_reader later_factors_reader (λ xs e. e) (λ K f xs c e l. never xs e)

later_reader : IsReader later_text later_value star_bars 1 later_at
later_reader =
    seq_reader star_bars (record { join = λ m p. record { minus = m; product = p }; text_is = λ m p. refl; value_is = product_agrees; split = λ l. (l.minus, l.product, refl, product_agrees l.minus l.product) })
    sign_reader factors_reader (λ xs e. e) (λ K f xs c e l. never xs e)

sign_begins : (l : Later) → starts is_sign (later_text l) ≡ true
sign_begins l = by_sign l.minus
  where
    by_sign : (m : Bool) → is_sign (sign_token m) ≡ true
    by_sign true = refl
    by_sign false = refl

sign_no_star : (l : Later) → starts star_bars (later_text l) ≡ true → ⊥
sign_no_star l = by_sign l.minus
  where
    by_sign : (m : Bool) → star_bars (sign_token m) ≡ true → ⊥
    by_sign true e = false≢true e
    by_sign false e = false≢true e

laters_reader : IsReader (flat_map later_text) (map later_value) (or_test is_sign star_bars) 0 laters_at
laters_reader = many_reader is_sign later_reader sign_begins sign_no_star

lead_reader : IsReader lead_text (λ m. m) (is_symbol 45) 0 lead_at
lead_reader =
    either_reader {T1 = Unit {0}} {T2 = Unit {0}} {text1 = λ u. Symbol 45 ∷ []} {value1 = λ u. true} {text2 = λ u. []} {value2 = λ u. false} (is_symbol 45) (is_symbol 45)
    (record { left = λ u. true; right = λ u. false; left_text = λ l. refl; left_value = λ l. refl; right_text = λ u. refl; right_value = λ u. refl; split = split })
    (weaker_reader (mapped_reader (λ x. true) (symbol_reader 45))) (nothing_reader false) (λ xs e. absurd (never xs e)) (λ xs e. absurd (never xs e)) (λ u. refl)
    (λ K f xs c e l. f false l.1 c (ap (starts (is_symbol 45)) (sym l.2) ∙ e) l.3)
  where
    split : (m : Bool) → ((u : Unit {0}) × (lead_text m ≡ Symbol 45 ∷ []) × (m ≡ true)) ⊎ ((u : Unit {0}) × (lead_text m ≡ []) × (m ≡ false))
    split true = inl (tt, refl, refl)
    split false = inr (tt, refl, refl)

factor_no_minus : (f : Factor) → is_symbol 45 (factor_token f) ≡ false
factor_no_minus (coefficient n) = refl
factor_no_minus (generator digits d) = refl

first_product_reader : IsReader (λ (l : Later). lead_text l.minus ++ factors_text l.product) later_value star_bars 0 (λ ts. seq product_from lead_at factors_at ts)
first_product_reader =
    seq_reader star_bars (record { join = λ m p. record { minus = m; product = p }; text_is = λ m p. refl; value_is = product_agrees; split = λ l. (l.minus, l.product, refl, product_agrees l.minus l.product) })
    lead_reader factors_reader (λ xs e. e) (λ K f xs c e l. not_started (is_symbol 45) xs _ l.2 (factor_no_minus l.0.first) e)

pub expression_reader : IsReader expression_text expression_value (or_test is_sign star_bars) 0 expression_at
expression_reader =
    seq_reader (or_test is_sign star_bars)
    (record { join = λ p ps. record { minus = p.minus; first = p.product; others = ps }; text_is = λ p ps. refl; value_is = λ p ps. refl; split = λ e. (record { minus = e.minus; product = e.first }, e.others, refl, refl) })
    first_product_reader laters_reader (λ xs e. e)
    (λ K f xs c e l. many_apart later_text later_value is_sign star_bars sign_begins sign_no_star K (λ v ys d s. f v ys d (or_right is_sign star_bars ys s)) xs c e l)
