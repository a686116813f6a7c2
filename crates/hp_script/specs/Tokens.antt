-- How a line of a script is cut into tokens.
use Rattle.std.specs.Prelude.{ℕ, zero, suc, ◌+◌, ◌-◌, ◌*◌, ◌==◌, nat_le, Bool, true, false, if◌then◌else◌, ◌&&◌, ◌||◌, List, [], ◌∷◌, length, drop, take_while, map, fold, codes}
use Rattle.std.specs.List.{list_any}
use Rattle.hp_script.specs.declared.token.Token.{Token}
use Rattle.hp_script.specs.declared.token.Token.TheVariants.{Word, Number, Symbol, Misfit}

-- a token, and the columns of its first byte and of the place after its last one
pub record Placed : Type 0 where
  pub token : Token
  pub first : ℕ
  pub after : ℕ

-- 0 to 9
abbrev pub is_digit : ℕ → Bool
is_digit b = nat_le 48 b && nat_le b 57

-- A to Z or a to z
abbrev pub is_letter : ℕ → Bool
is_letter b = (nat_le 65 b && nat_le b 90) || (nat_le 97 b && nat_le b 122)

-- a letter, a digit or `_`
abbrev pub goes_on_word : ℕ → Bool
goes_on_word b = is_letter b || (is_digit b || (b == 95))

-- space, tab and carriage return
abbrev pub is_blank : ℕ → Bool
is_blank b = list_any (λ c. b == c) (32 ∷ 9 ∷ 13 ∷ [])

-- a byte that is a symbol
abbrev pub is_mark : ℕ → Bool
is_mark b = list_any (λ c. b == c) (codes "[],=+-*")

-- the number that decimal digits spell
abbrev pub number_of : List ℕ → ℕ
number_of digits = fold (λ n b. n * 10 + (b - 48)) 0 digits

-- a run of digits: one of more than ten fits no place
abbrev pub digits_token : List ℕ → Token
digits_token digits = if nat_le (length digits) 10 then Number (number_of digits) else Misfit

abbrev pub token_at : ℕ → List ℕ → Token → Placed
token_at column text t = record { token = t; first = column; after = column + length text }

-- the text of the first token of bytes that begin with one: it is as long as it can be
abbrev pub first_text : ℕ → List ℕ → List ℕ
first_text b bs = if is_letter b then b ∷ take_while goes_on_word bs else (if is_digit b then b ∷ take_while is_digit bs else b ∷ [])

-- the token with that text, by its first byte
abbrev pub token_of : ℕ → List ℕ → Token
token_of b text = if is_letter b then Word text else (if is_digit b then digits_token text else (if is_mark b then Symbol b else Misfit))

-- The tokens of bytes that begin at a column. `#` and all that follows is a comment.
-- The bound falls with each byte or token, so it is never met where it begins at the number of bytes.
abbrev pub tokens_within : ℕ → ℕ → List ℕ → List Placed
tokens_within zero column bs = []
tokens_within (suc bound) column [] = []
tokens_within (suc bound) column (b ∷ bs) =
    elim (b == 35) [
      | true ↦ []
      | false ↦ elim (is_blank b) [
        | true ↦ tokens_within bound (column + 1) bs
        | false ↦ let text = first_text b bs in
            token_at column text (token_of b text) ∷ tokens_within bound (column + length text) (drop (length text) (b ∷ bs))
      ]
    ]

abbrev pub tokens : List ℕ → List Placed
tokens line = tokens_within (length line) 1 line

abbrev pub line_tokens : List ℕ → List Token
line_tokens line = map (λ p. p.token) (tokens line)
