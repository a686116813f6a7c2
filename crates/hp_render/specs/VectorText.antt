-- The bytes of polynomials and of vectors of polynomials, each polynomial by its terms from the greatest.
use Rattle.std.specs.Prelude.{ℕ, zero, suc, max, List, [], ◌∷◌, ◌++◌, flat_map, length, codes, decimal}
use Rattle.hp_algebra.specs.Ring.{Numbering}
use Rattle.hp_mono.specs.Monomials.{Monomial, degree}
use Rattle.hp_render.specs.declared.answer.AskWord.{AskWord}
use Rattle.hp_render.specs.AnswerWords.{head, numbered}

-- the terms of each entry
abbrev pub Entries : Type 0 → Type 0
Entries K = List (List (Monomial × K))

-- a row of a matrix with its degree
abbrev pub Row : Type 0 → Type 0
Row K = ℕ × Entries K

-- the greatest number that is had by one of the list, and 0 where it is empty
abbrev pub greatest : {X : Type 0} → (X → ℕ) → List X → ℕ
greatest f [] = 0
greatest f (x ∷ xs) = max (f x) (greatest f xs)

-- the greatest degree of a term of some entry, and 0 where all entries are zero
abbrev pub vector_degree : {K : Type 0} → Entries K → ℕ
vector_degree v = greatest (greatest (λ t. degree t.0)) v

-- the power of x_i behind what it is multiplied with
abbrev pub power_text : ℕ → ℕ → List ℕ
power_text i zero = []
power_text i (suc zero) = codes "*x" ++ decimal i
power_text i (suc (suc e)) = codes "*x" ++ decimal i ++ codes "^" ++ decimal (suc (suc e))

-- the powers of the variables from x_i on, with these exponents
abbrev pub powers_text : ℕ → List ℕ → List ℕ
powers_text i es = numbered power_text i es

module _ {K : Type 0} (numbers : Numbering K) where
  -- a term: its coefficient as its residue, and its powers
  abbrev pub product_text : Monomial × K → List ℕ
  product_text t = decimal (numbers.place t.1) ++ powers_text 1 t.0

  -- a term behind another one
  abbrev pub later_product_text : Monomial × K → List ℕ
  later_product_text t = codes " + " ++ product_text t

  -- a polynomial: its terms with ` + ` between each two
  abbrev pub entry_text : List (Monomial × K) → List ℕ
  entry_text [] = codes "0"
  entry_text (t ∷ ts) = product_text t ++ flat_map later_product_text ts

  -- an entry behind another one
  abbrev pub later_entry_text : List (Monomial × K) → List ℕ
  later_entry_text p = codes ", " ++ entry_text p

  -- the entries of a vector with `, ` between each two
  abbrev pub entries_text : Entries K → List ℕ
  entries_text [] = []
  entries_text (p ∷ ps) = entry_text p ++ flat_map later_entry_text ps

  -- the line of a vector of that degree
  abbrev pub graded_line : ℕ → Entries K → List ℕ
  graded_line d v = decimal d ++ codes ": (" ++ entries_text v ++ codes ")" ++ 10 ∷ []

  -- the line of a row, its degree before it
  abbrev pub row_line : Row K → List ℕ
  row_line r = graded_line r.0 r.1

  -- the line of a vector, its own degree before it
  abbrev pub vector_line : Entries K → List ℕ
  vector_line v = graded_line (vector_degree v) v

  -- how many vectors behind the head, and a line for each
  abbrev pub vectors_text : AskWord → List ℕ → List (Entries K) → List ℕ
  vectors_text word name vs =
      head word name ++ codes " " ++ decimal (length vs) ++ 10 ∷ [] ++ flat_map vector_line vs
