-- The words that an answer begins with, and pieces of text: with spaces between them, by their numbers, and of elements.
use Rattle.std.specs.Prelude.{ℕ, ◌+◌, List, [], ◌∷◌, ◌++◌, map, flat_map, codes, decimal}
use Rattle.hp_algebra.specs.Ring.{Numbering}
use Rattle.hp_render.specs.declared.answer.AskWord.{AskWord}
use Rattle.hp_render.specs.declared.answer.AskWord.TheVariants as asked

-- each piece with a space (32) before it
abbrev pub behind_spaces : List (List ℕ) → List ℕ
behind_spaces pieces = flat_map (λ piece. 32 ∷ piece) pieces

-- the pieces with a space between each two
abbrev pub spaced : List (List ℕ) → List ℕ
spaced [] = []
spaced (piece ∷ pieces) = piece ++ behind_spaces pieces

-- the text of each of the list behind that of those before it, by its number, where the first has the number k
abbrev pub numbered : {X : Type 0} → (ℕ → X → List ℕ) → ℕ → List X → List ℕ
numbered f k [] = []
numbered f k (x ∷ xs) = f k x ++ numbered f (k + 1) xs

-- the word of a question
abbrev pub word_text : AskWord → List ℕ
word_text asked.Hyperplanes = codes "hyperplanes"
word_text asked.Point = codes "point"
word_text asked.Rank = codes "rank"
word_text asked.Flats = codes "flats"
word_text asked.Poincare = codes "poincare"
word_text asked.Characteristic = codes "characteristic"
word_text asked.Triple = codes "triple"
word_text asked.Circuits = codes "circuits"
word_text asked.Nbc = codes "nbc"
word_text asked.Normal = codes "normal"
word_text asked.Aomoto = codes "aomoto"
word_text asked.Gb = codes "gb"
word_text asked.Der = codes "der"
word_text asked.Resolve = codes "resolve"
word_text asked.Free = codes "free"

-- the head of an answer: the word that was asked, the name and a colon
abbrev pub head : AskWord → List ℕ → List ℕ
head word name = word_text word ++ codes " " ++ name ++ codes ":"

module _ {K : Type 0} (numbers : Numbering K) where
  -- a field element is printed as its residue
  abbrev pub element_text : K → List ℕ
  element_text c = decimal (numbers.place c)

  -- a line of elements
  abbrev pub elements_line : List K → List ℕ
  elements_line cs = spaced (map element_text cs) ++ 10 ∷ []
