-- The loop that lists the second blocks of vectors: one vector more.
use Rattle.std.specs.Prelude.{◌≡◌, ℕ, ◌+◌, ◌<◌, true, false, cond, List, [], ◌∷◌, ◌++◌, map, filter, drop, length, take, slice_index_or}
use Rattle.std.proofs.lemmas.List.{append-nil, map-append, take_more}
use Rattle.std.proofs.lemmas.List.Elements.{filter-append}
use mathlib.Core.Path.{sym, ap, ◌∙◌}
use Rattle.hp_module.specs.Vectors.{Vector}
use Rattle.hp_der.specs.DerivationModules.{has_zero_block, second_blocks}

module _ {K : Type 0} (n : ℕ) (xs : List (Vector K)) (k : ℕ) (l : k < length xs) where
  abbrev v : Vector K
  v = slice_index_or xs k []

  blocks-more : second_blocks n (take (k + 1) xs)
      ≡ second_blocks n (take k xs) ++ map (drop n) (cond (has_zero_block n v) (v ∷ []) [])
  blocks-more =
      ap (second_blocks n) (take_more xs k [] l) ∙ ap (map (drop n)) (filter-append (has_zero_block n) (take k xs) (v ∷ []))
      ∙ map-append (drop n) (filter (has_zero_block n) (take k xs)) (cond (has_zero_block n v) (v ∷ []) [])

  pub one-block : (blocks after : List (Vector K)) (block : Vector K) → blocks ≡ second_blocks n (take k xs)
      → true ≡ has_zero_block n v → block ≡ drop n v → after ≡ blocks ++ block ∷ [] → after ≡ second_blocks n (take (k + 1) xs)
  one-block blocks after block e z b w =
      w ∙ (λ i. e i ++ b i ∷ []) ∙ sym (blocks-more ∙ ap (λ c. second_blocks n (take k xs) ++ map (drop n) (cond c (v ∷ []) [])) (sym z))

  pub no-block : (blocks : List (Vector K)) → blocks ≡ second_blocks n (take k xs) → false ≡ has_zero_block n v
      → blocks ≡ second_blocks n (take (k + 1) xs)
  no-block blocks e z =
      e ∙ sym (blocks-more ∙ ap (λ c. second_blocks n (take k xs) ++ map (drop n) (cond c (v ∷ []) [])) (sym z)
      ∙ append-nil (second_blocks n (take k xs)))
