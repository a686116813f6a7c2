-- What the private functions that cut a line into tokens answer.
use Rattle.std.specs.Prelude.{◌≡◌, ℕ, zero, suc, ◌-◌, ◌==◌, Bool, true, false, not, List, [], ◌∷◌, length, map, slice_index_or as get_or}
use Rattle.std.specs.List.{list_all}
use Rattle.hp_script.specs.declared.token.Token.{Token}
use Rattle.hp_script.specs.declared.token.Token.TheVariants.{Misfit}
use Rattle.hp_script.specs.declared.cut.Place.{Place}
use Rattle.hp_script.specs.Tokens.{Placed, is_digit, is_letter, is_blank, first_text, token_of, tokens, line_tokens}

abbrev pub place_of : Placed → Place
place_of p = record { first = p.first; after = p.after }

abbrev pub line_places : List ℕ → List Place
line_places line = map place_of (tokens line)

-- what a cut begins with
abbrev pub is_more : List ℕ → Bool
is_more [] = false
is_more (b ∷ bs) = not (b == 35)

abbrev pub starts_blank : List ℕ → Bool
starts_blank [] = false
starts_blank (b ∷ bs) = is_blank b

abbrev pub text_at : List ℕ → List ℕ
text_at [] = []
text_at (b ∷ bs) = first_text b bs

abbrev pub token_in : List ℕ → Token
token_in [] = Misfit
token_in (b ∷ bs) = token_of b (b ∷ bs)

-- a text that begins with a digit is digits
abbrev pub IsText : List ℕ → Type 0
IsText [] = Unit {0}
IsText (b ∷ bs) = is_letter b ≡ false → is_digit b ≡ true → list_all is_digit (b ∷ bs) ≡ true

-- the tokens of a line, and their places
pub record IsCut (line : List ℕ) (ts : List Token) (ps : List Place) : Type 0 where
  pub tokens_are : ts ≡ line_tokens line
  pub places_are : ps ≡ line_places line

-- the column where so many tokens are left
abbrev pub column_of : List Place → ℕ → ℕ
column_of places zero = (get_or places (length places - 1) (record { first = 0; after = 0 })).after
column_of places (suc left) = (get_or places (length places - suc left) (record { first = 0; after = 0 })).first
