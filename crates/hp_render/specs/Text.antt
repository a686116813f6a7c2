-- The bytes of an answer and of a refusal's line.
use Rattle.std.specs.Prelude.{ℕ, ℤ, List, [], ◌∷◌, ◌++◌, map, flat_map, length, codes, decimal}
use Rattle.std.specs.Fmt.{signed_decimal}
use Rattle.hp_algebra.specs.Ring.{Numbering}
use Rattle.hp_sets.specs.Sets.{Set}
use Rattle.hp_sets.specs.declared.flat.Flat.{Flat}
pub use Rattle.hp_render.specs.AnswerWords.{behind_spaces, spaced, word_text, head, element_text, elements_line}
use Rattle.hp_render.specs.ResolutionText.{resolve_text, free_text, not_free_text}
use Rattle.hp_render.specs.VectorText.{vectors_text}
use Rattle.hp_render.specs.declared.answer.Answer.{Answer}
use Rattle.hp_render.specs.declared.answer.Answer.TheVariants.{Hyperplanes, Point, Rank, Flats, Poincare, Characteristic, Triple, Circuits, Nbc, Normal, Aomoto, Gb, Der, Resolve, Free, NotFree, Limit}
use Rattle.hp_render.specs.declared.answer.LimitKind.{LimitKind}
use Rattle.hp_render.specs.declared.answer.LimitKind.TheVariants as limit
use Rattle.hp_render.specs.declared.answer.AskWord.{AskWord}
use Rattle.hp_render.specs.declared.answer.AskWord.TheVariants as asked
use Rattle.hp_render.specs.declared.refusal.Refusal.{Refusal}
use Rattle.hp_render.specs.declared.refusal.Refusal.TheVariants.{Syntax, NoField, FieldTwice, FieldNotListed, UnknownName, NameTaken, Dimension, BadIndex, BadGraph, ZeroForm, Repeated, TooMany, BadList, BadLimit}

-- a set: its members between braces
abbrev pub set_text : Set → List ℕ
set_text s = codes "{" ++ spaced (map decimal s) ++ codes "}"

-- the line of a flat: its rank and its members
abbrev pub flat_line : Flat → List ℕ
flat_line f = decimal f.rank ++ codes ": " ++ set_text f.set ++ 10 ∷ []

-- the rank behind the head
abbrev pub rank_text : List ℕ → ℕ → List ℕ
rank_text name r = head asked.Rank name ++ codes " " ++ decimal r ++ 10 ∷ []

-- how many flats, and a line for each
abbrev pub flats_text : List ℕ → List Flat → List ℕ
flats_text name fs = head asked.Flats name ++ codes " " ++ decimal (length fs) ++ 10 ∷ [] ++ flat_map flat_line fs

-- the line of a set
abbrev pub set_line : Set → List ℕ
set_line s = set_text s ++ 10 ∷ []

-- how many sets behind the head, and a line for each
abbrev pub sets_text : AskWord → List ℕ → List Set → List ℕ
sets_text word name sets = head word name ++ codes " " ++ decimal (length sets) ++ 10 ∷ [] ++ flat_map set_line sets

-- the coefficients of a polynomial, to the end of the line
abbrev pub coefficients : List ℤ → List ℕ
coefficients cs = behind_spaces (map signed_decimal cs) ++ 10 ∷ []

-- the coefficients behind the head
abbrev pub polynomial_text : AskWord → List ℕ → List ℤ → List ℕ
polynomial_text word name cs = head word name ++ coefficients cs

-- the head, and a line for each of three polynomials
abbrev pub triple_text : List ℕ → List ℤ → List ℤ → List ℤ → List ℕ
triple_text name whole deleted restricted =
    head asked.Triple name ++ 10 ∷ [] ++ codes "whole:" ++ coefficients whole ++ codes "deleted:" ++ coefficients deleted ++ codes "restricted:" ++ coefficients restricted

-- a generator e_i behind what it is multiplied with
abbrev pub generator_text : ℕ → List ℕ
generator_text i = codes "*e" ++ decimal i

-- the dimensions behind the head
abbrev pub aomoto_text : List ℕ → List ℕ → List ℕ
aomoto_text name dimensions = head asked.Aomoto name ++ behind_spaces (map decimal dimensions) ++ 10 ∷ []

-- the word of a limit
abbrev pub limit_word : LimitKind → List ℕ
limit_word limit.Flats = codes "flats"
limit_word limit.Circuits = codes "circuits"
limit_word limit.Nbc = codes "nbc"
limit_word limit.Aomoto = codes "aomoto"
limit_word limit.Pairs = codes "pairs"
limit_word limit.Degree = codes "degree"

-- the limit behind the head of what was asked
abbrev pub limit_text : List ℕ → AskWord → LimitKind → List ℕ
limit_text name word kind = head word name ++ codes " limit " ++ limit_word kind ++ 10 ∷ []

module _ {K : Type 0} (numbers : Numbering K) where
  -- how many hyperplanes in which dimension, and a line for each form
  abbrev pub hyperplanes_text : List ℕ → ℕ → List (List K) → List ℕ
  hyperplanes_text name dim forms =
      head asked.Hyperplanes name ++ codes " " ++ decimal (length forms) ++ codes " in " ++ decimal dim ++ 10 ∷ [] ++ flat_map (elements_line numbers) forms

  -- the coordinates behind the head
  abbrev pub point_text : List ℕ → List K → List ℕ
  point_text name x = head asked.Point name ++ behind_spaces (map (element_text numbers) x) ++ 10 ∷ []

  -- a term of the exterior algebra: its coefficient, and its generators in rising order
  abbrev pub term_text : Set × K → List ℕ
  term_text t = element_text numbers t.1 ++ flat_map generator_text t.0

  -- a term behind another one
  abbrev pub later_term_text : Set × K → List ℕ
  later_term_text t = codes " + " ++ term_text t

  -- an element of the exterior algebra: its terms with ` + ` between each two
  abbrev pub exterior_text : List (Set × K) → List ℕ
  exterior_text [] = codes "0"
  exterior_text (t ∷ ts) = term_text t ++ flat_map later_term_text ts

  -- the element behind the head
  abbrev pub normal_text : List ℕ → List (Set × K) → List ℕ
  normal_text name x = head asked.Normal name ++ codes " " ++ exterior_text x ++ 10 ∷ []

  abbrev pub answer_text : List ℕ → Answer K → List ℕ
  answer_text name (Hyperplanes dim forms) = hyperplanes_text name dim forms
  answer_text name (Point x) = point_text name x
  answer_text name (Rank r) = rank_text name r
  answer_text name (Flats fs) = flats_text name fs
  answer_text name (Poincare cs) = polynomial_text asked.Poincare name cs
  answer_text name (Characteristic cs) = polynomial_text asked.Characteristic name cs
  answer_text name (Triple whole deleted restricted) = triple_text name whole deleted restricted
  answer_text name (Circuits sets) = sets_text asked.Circuits name sets
  answer_text name (Nbc sets) = sets_text asked.Nbc name sets
  answer_text name (Normal x) = normal_text name x
  answer_text name (Aomoto dimensions) = aomoto_text name dimensions
  answer_text name (Gb vs) = vectors_text numbers asked.Gb name vs
  answer_text name (Der vs) = vectors_text numbers asked.Der name vs
  answer_text name (Resolve maps) = resolve_text numbers name maps
  answer_text name (Free basis point inverse) = free_text numbers name basis point inverse
  answer_text name (NotFree generators) = not_free_text name generators
  answer_text name (Limit word kind) = limit_text name word kind

abbrev pub refusal_words : Refusal → List ℕ
refusal_words (Syntax c) = codes "syntax " ++ decimal c
refusal_words NoField = codes "no field"
refusal_words FieldTwice = codes "field twice"
refusal_words (FieldNotListed p) = codes "field not listed " ++ decimal p
refusal_words (UnknownName x) = codes "unknown name " ++ x
refusal_words (NameTaken x) = codes "name taken " ++ x
refusal_words Dimension = codes "dimension"
refusal_words (BadIndex i) = codes "bad index " ++ decimal i
refusal_words (BadGraph k) = codes "bad graph " ++ decimal k
refusal_words (ZeroForm i) = codes "zero form " ++ decimal i
refusal_words (Repeated i j) = codes "repeated " ++ decimal i ++ codes " " ++ decimal j
refusal_words (TooMany n) = codes "too many " ++ decimal n
refusal_words BadList = codes "bad list"
refusal_words BadLimit = codes "bad limit"

-- the line of a refusal
abbrev pub refusal_text : ℕ → Refusal → List ℕ
refusal_text line r = codes "refused line " ++ decimal line ++ codes ": " ++ refusal_words r ++ 10 ∷ []
