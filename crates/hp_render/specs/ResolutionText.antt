-- The bytes of the maps of a minimal resolution, and of a basis of derivations with the inverse of its values at a point.
use Rattle.std.specs.Prelude.{ℕ, List, [], ◌∷◌, ◌++◌, map, flat_map, length, codes, decimal}
use Rattle.hp_algebra.specs.Ring.{Numbering}
use Rattle.hp_render.specs.AnswerWords.{behind_spaces, element_text, elements_line, head, numbered}
use Rattle.hp_render.specs.VectorText.{Row, row_line}
use Rattle.hp_render.specs.declared.answer.AskWord.TheVariants as asked

-- a map of a resolution: its Betti numbers from degree 0, and its rows
abbrev pub ResolutionMap : Type 0 → Type 0
ResolutionMap K = List ℕ × List (Row K)

-- the line of the Betti numbers of map k
abbrev pub betti_line : ℕ → List ℕ → List ℕ
betti_line k counts = codes "betti " ++ decimal k ++ codes ":" ++ behind_spaces (map decimal counts) ++ 10 ∷ []

-- that there is no basis, behind the head: how many minimal generators there are
abbrev pub not_free_text : List ℕ → ℕ → List ℕ
not_free_text name generators = head asked.Free name ++ codes " no " ++ decimal generators ++ 10 ∷ []

module _ {K : Type 0} (numbers : Numbering K) where
  -- the lines of map k: its Betti numbers, and its rows
  abbrev pub map_lines : ℕ → ResolutionMap K → List ℕ
  map_lines k m = betti_line k m.0 ++ flat_map (row_line numbers) m.1

  -- the lines of the maps, the first of which is map k
  abbrev pub maps_lines : ℕ → List (ResolutionMap K) → List ℕ
  maps_lines k maps = numbered map_lines k maps

  -- how many maps behind the head, and the lines of each, counted from 0
  abbrev pub resolve_text : List ℕ → List (ResolutionMap K) → List ℕ
  resolve_text name maps = head asked.Resolve name ++ codes " " ++ decimal (length maps) ++ 10 ∷ [] ++ maps_lines 0 maps

  -- a basis behind the head, the coordinates of a point, and by rows the inverse of the basis's values there
  abbrev pub free_text : List ℕ → List (Row K) → List K → List (List K) → List ℕ
  free_text name basis point inverse =
      head asked.Free name ++ codes " yes" ++ 10 ∷ [] ++ flat_map (row_line numbers) basis
      ++ codes "point:" ++ behind_spaces (map (element_text numbers) point) ++ 10 ∷ []
      ++ codes "inverse:" ++ 10 ∷ [] ++ flat_map (elements_line numbers) inverse
