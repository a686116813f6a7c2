-- The terms that pass a test, as a loop takes them, with a map of each.
use Rattle.std.specs.Prelude.{◌≡◌, ℕ, ◌+◌, ◌<◌, Bool, List, [], ◌∷◌, ◌++◌, length, map, take, filter, slice_index_or}
use Rattle.std.proofs.lemmas.List.{map-append, take_more}
use Rattle.std.proofs.lemmas.List.Elements.{filter-append}
use mathlib.Core.Path.{ap, ◌∙◌}

module _ {X Y : Type 0} (test : X → Bool) (f : X → Y) where
  abbrev pub kept_by : List X → List Y
  kept_by xs = map f (filter test xs)

  -- one term more
  pub kept-more : (k : ℕ) (xs : List X) (d : X) → k < length xs
      → kept_by (take (k + 1) xs) ≡ kept_by (take k xs) ++ kept_by (slice_index_or xs k d ∷ [])
  kept-more k xs d l =
      ap kept_by (take_more xs k d l) ∙ ap (map f) (filter-append test (take k xs) (slice_index_or xs k d ∷ []))
      ∙ map-append f (filter test (take k xs)) (filter test (slice_index_or xs k d ∷ []))
