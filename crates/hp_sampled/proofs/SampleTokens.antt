-- Bytes that are cut into tokens, from the last token to the first.
use Rattle.std.proofs.Common.{◌≡◌, ℕ, zero, suc, ◌+◌, ◌<◌, ◌≤◌, ◌==◌, nat_le, Bool, true, false, not, ◌&&◌, cond, List, [], ◌∷◌, ◌++◌, length, length-append, drop, map, refl, sym, ap, subst, ◌∙◌, arith}
use Rattle.std.specs.Prelude.{decimal}
use Rattle.std.specs.List.{take_while, list_all}
use Rattle.std.proofs.lemmas.Bool.{and_parts, eqb-true, not-true, false≢true}
use Rattle.std.proofs.lemmas.List.Sums.{take_while-cons}
use Rattle.std.proofs.Math.Seq.{drop-append_seam}
use Rattle.std.specs.List.{range_with_len}
use Rattle.std.specs.Int.Digits.{digits_of}
use Rattle.std.proofs.lemmas.Fmt.{decimal-digits_of}
use Rattle.hp_lists.proofs.Members.{all-at}
use Rattle.hp_lists.proofs.Ranges.{members_range}
use Rattle.hp_script.specs.declared.token.Token.{Token}
use Rattle.hp_script.specs.declared.token.Token.TheVariants.{Word, Number, Symbol, Misfit}
use Rattle.hp_script.specs.Tokens.{Placed, is_digit, is_letter, is_blank, is_mark, goes_on_word, number_of, digits_token, first_text, token_of, token_at, tokens_within, line_tokens}

-- the bytes are cut into these tokens, wherever they stand
abbrev pub IsCutInto : List ℕ → List Token → Type 0
IsCutInto bs ts = (bound column : ℕ) → length bs ≤ bound → map (λ (p : Placed). p.token)
    (tokens_within bound column bs) ≡ ts

pub cut_line : (line : List ℕ) (ts : List Token) → IsCutInto line ts → line_tokens line ≡ ts
cut_line line ts c = c (length line) 1 (here (length line))
  where
    here : (n : ℕ) → n ≤ n
    here n = omega arith

pub cut_end : IsCutInto [] []
cut_end zero column le = refl
cut_end (suc bound) column le = refl

none_left : (n : ℕ) → suc n ≤ 0 → ⊥
none_left n h = omega arith

one_left : (n m : ℕ) → suc n ≤ suc m → n ≤ m
one_left n m h = omega arith

-- a space
pub cut_blank : (bs : List ℕ) (ts : List Token) → IsCutInto bs ts → IsCutInto (32 ∷ bs) ts
cut_blank bs ts c zero column le = absurd (none_left (length bs) le)
cut_blank bs ts c (suc bound) column le = c bound (column + 1) (one_left (length bs) bound le)

-- a token begins with this byte: it is no blank, and begins no comment
abbrev pub begins : ℕ → Bool
begins b = not (b == 35) && not (is_blank b)

-- one step of the definition, by what the bytes begin with
abbrev step : ℕ → ℕ → ℕ → List ℕ → List ℕ → Bool → Bool → List Placed
step bound column b bs text comment blank =
    elim comment [
      | true ↦ []
      | false ↦ elim blank [
        | true ↦ tokens_within bound (column + 1) bs
        | false ↦ token_at column text (token_of b text) ∷ tokens_within bound (column + length text)
            (drop (length text) (b ∷ bs))
      ]
    ]

-- a token whose text is the first, and what stands behind it
pub cut_token : (b : ℕ) (bs rest : List ℕ) (t : Token) (ts : List Token) → begins b ≡ true
    → first_text b (bs ++ rest) ≡ b ∷ bs → token_of b (b ∷ bs) ≡ t → IsCutInto rest ts
    → IsCutInto (b ∷ bs ++ rest) (t ∷ ts)
cut_token b bs rest t ts d f e c zero column le = absurd (none_left (length (bs ++ rest)) le)
cut_token b bs rest t ts d f e c (suc bound) column le =
    let parts = and_parts (not (b == 35)) (not (is_blank b)) d in
    let whole = b ∷ bs ++ rest in
    let after : ℕ = column + length (b ∷ bs) in
    let enough : length rest ≤ bound = fewer (length bs) (length rest) (length (bs ++ rest)) bound
    (length-append bs rest) le in
    ap (λ x. map (λ (p : Placed). p.token)
    (step bound column b (bs ++ rest) (first_text b (bs ++ rest)) x (is_blank b))) (not-true (b == 35) parts.0)
    ∙ ap (λ x. map (λ (p : Placed). p.token) (step bound column b (bs ++ rest) (first_text b (bs ++ rest)) false x))
    (not-true (is_blank b) parts.1)
    ∙ ap (λ text. token_of b text ∷ map (λ (p : Placed). p.token)
    (tokens_within bound (column + length text) (drop (length text) whole))) f
    ∙ ap (λ x. x ∷ map (λ (p : Placed). p.token) (tokens_within bound after (drop (length (b ∷ bs)) whole))) e
    ∙ ap (λ r. t ∷ map (λ (p : Placed). p.token) (tokens_within bound after r)) (drop-append_seam (b ∷ bs) rest)
    ∙ ap (λ us. t ∷ us) (c bound after enough)
  where
    fewer : (a r n m : ℕ) → n ≡ a + r → suc n ≤ suc m → r ≤ m
    fewer a r n m e h = omega (arith, e, h)

-- none of the bytes behind a text belongs to it
abbrev pub Stops : (ℕ → Bool) → List ℕ → Type 0
Stops p [] = Unit {0}
Stops p (b ∷ bs) = p b ≡ false

-- all that pass, and no more
pub while_all : (p : ℕ → Bool) (xs rest : List ℕ) → list_all p xs ≡ true → Stops p rest
    → take_while p (xs ++ rest) ≡ xs
while_all p [] [] a s = refl
while_all p [] (b ∷ bs) a s = take_while-cons p b bs ∙ ap (λ t. cond t (b ∷ take_while p bs) []) s
while_all p (x ∷ xs) rest a s =
    let parts = and_parts (p x) (list_all p xs) a in
    take_while-cons p x (xs ++ rest)
    ∙ ap (λ t. cond t (x ∷ take_while p (xs ++ rest)) []) parts.0
    ∙ ap (λ ys. x ∷ ys) (while_all p xs rest parts.1 s)

-- a letter, and what goes on
abbrev pub is_plain : List ℕ → Bool
is_plain [] = false
is_plain (b ∷ bs) = begins b && (is_letter b && list_all goes_on_word bs)

pub cut_word : (w rest : List ℕ) (ts : List Token) → is_plain w ≡ true → Stops goes_on_word rest → IsCutInto rest ts
    → IsCutInto (w ++ rest) (Word w ∷ ts)
cut_word [] rest ts p s c = absurd (false≢true p)
cut_word (b ∷ bs) rest ts p s c =
    let parts = and_parts (begins b) (is_letter b && list_all goes_on_word bs) p in
    let word = and_parts (is_letter b) (list_all goes_on_word bs) parts.1 in
    cut_token b bs rest (Word (b ∷ bs)) ts parts.0
    (ap (λ l. cond l (b ∷ take_while goes_on_word (bs ++ rest))
    (cond (is_digit b) (b ∷ take_while is_digit (bs ++ rest)) (b ∷ []))) word.0
    ∙ ap (λ xs. b ∷ xs) (while_all goes_on_word bs rest word.1 s))
    (ap (λ l. cond l (Word (b ∷ bs))
    (cond (is_digit b) (digits_token (b ∷ bs)) (cond (is_mark b) (Symbol b) Misfit))) word.0)
    c

-- digits that spell the number
abbrev pub is_numeral : List ℕ → ℕ → Bool
is_numeral [] n = false
is_numeral (b ∷ bs) n =
    begins b && (not (is_letter b) &&
    (is_digit b && (list_all is_digit bs && (nat_le (length (b ∷ bs)) 10 && (number_of (b ∷ bs) == n)))))

pub cut_digits : (ds rest : List ℕ) (n : ℕ) (ts : List Token) → is_numeral ds n ≡ true → Stops is_digit rest
    → IsCutInto rest ts → IsCutInto (ds ++ rest) (Number n ∷ ts)
cut_digits [] rest n ts p s c = absurd (false≢true p)
cut_digits (b ∷ bs) rest n ts p s c =
    let one = and_parts (begins b) _ p in
    let two = and_parts (not (is_letter b)) _ one.1 in
    let three = and_parts (is_digit b) _ two.1 in
    let four = and_parts (list_all is_digit bs) _ three.1 in
    let five = and_parts (nat_le (length (b ∷ bs)) 10) _ four.1 in
    let no_letter : is_letter b ≡ false = not-true (is_letter b) two.0 in
    cut_token b bs rest (Number n) ts one.0
    (ap (λ l. cond l (b ∷ take_while goes_on_word (bs ++ rest))
    (cond (is_digit b) (b ∷ take_while is_digit (bs ++ rest)) (b ∷ []))) no_letter
    ∙ ap (λ l. cond l (b ∷ take_while is_digit (bs ++ rest)) (b ∷ [])) three.0
    ∙ ap (λ xs. b ∷ xs) (while_all is_digit bs rest four.0 s))
    (ap (λ l. cond l (Word (b ∷ bs))
    (cond (is_digit b) (digits_token (b ∷ bs)) (cond (is_mark b) (Symbol b) Misfit))) no_letter
    ∙ ap (λ l. cond l (digits_token (b ∷ bs)) (cond (is_mark b) (Symbol b) Misfit)) three.0
    ∙ ap (λ l. cond l (Number (number_of (b ∷ bs))) Misfit) five.0
    ∙ ap Number (eqb-true _ _ five.1))
    c

-- what is known of the decimal digits of a small number
pub record AreDigits (n : ℕ) (ds : List ℕ) : Type 0 where
  pub numeral : is_numeral ds n ≡ true
  pub goes_on : list_all goes_on_word ds ≡ true
  pub no_feed : list_all (λ b. not (b == 10)) ds ≡ true
  pub few : nat_le (length ds) 2 ≡ true

written : ℕ → List ℕ
written n = map (λ d. 48 + d) (digits_of 10 n)

numeral_test : ℕ → Bool
numeral_test n = is_numeral (written n) n &&
    (list_all goes_on_word (written n) &&
    (list_all (λ b. not (b == 10)) (written n) && nat_le (length (written n)) 2))

pub small : (n : ℕ) → 1 ≤ n → n < 31 → AreDigits n (decimal n)
unfolding numeral_test written
small n l h =
    let all : list_all numeral_test (range_with_len 1 30) ≡ true = refl in
    let one = and_parts (is_numeral (written n) n) _
    (all-at numeral_test (range_with_len 1 30) n all (members_range n 1 30 l h)) in
    let two = and_parts (list_all goes_on_word (written n)) _ one.1 in
    let three = and_parts (list_all (λ b. not (b == 10)) (written n)) _ two.1 in
    subst (AreDigits n) (sym (decimal-digits_of n (omega (arith, l)) (omega (arith, h))))
    (record { numeral = one.0; goes_on = two.0; no_feed = three.0; few = three.1 })

-- a number of a graph or of a vertex
abbrev pub IsSmall : ℕ → Type 0
IsSmall n = (1 ≤ n) × (n < 31)

pub cut_number : (n : ℕ) (rest : List ℕ) (ts : List Token) → IsSmall n → Stops is_digit rest → IsCutInto rest ts
    → IsCutInto (decimal n ++ rest) (Number n ∷ ts)
cut_number n rest ts h s c = cut_digits (decimal n) rest n ts (small n h.0 h.1).numeral s c

-- a symbol
pub cut_mark : (b : ℕ) (rest : List ℕ) (ts : List Token) → begins b ≡ true → first_text b rest ≡ b ∷ []
    → token_of b (b ∷ []) ≡ Symbol b
    → IsCutInto rest ts → IsCutInto (b ∷ rest) (Symbol b ∷ ts)
cut_mark b rest ts d f e c = cut_token b [] rest (Symbol b) ts d f e c
