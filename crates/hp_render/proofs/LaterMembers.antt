-- The members of a set one by one behind the first.
use Rattle.std.proofs.Common.{◌≡◌, ℕ, suc, ◌+◌, ◌-◌, ◌<◌, ◌≤◌, List, [], ◌∷◌, ◌++◌, map, length, take, drop, slice_index_or, sym, ap, ◌∙◌, arith}
use Rattle.std.proofs.Math.ListN.{get_or}
use Rattle.std.proofs.Math.Seq.{take-suc}
use Rattle.std.proofs.lemmas.List.{map-append, append_assoc, length-drop}
use Rattle.std.proofs.lemmas.Grind.{flat_map-append, get_or_after_one}
use Rattle.hp_render.specs.Text.{behind_spaces}

-- one more of a list
pub next_piece : (f : ℕ → List ℕ) (xs : List ℕ) (n : ℕ) (old : List ℕ) → n < length xs
    → (old ++ behind_spaces (map f (take n xs))) ++ behind_spaces (f (get_or xs n 0) ∷ []) ≡ old ++ behind_spaces (map f (take (n + 1) xs))
next_piece f xs n old l =
    append_assoc old (behind_spaces (map f (take n xs))) _
    ∙ ap (λ s. old ++ s) (sym (flat_map-append (λ piece. 32 ∷ piece) (map f (take n xs)) _) ∙ ap behind_spaces (sym (map-append f (take n xs) (get_or xs n 0 ∷ [])) ∙ ap (map f) (sym (take-suc xs n 0 l) ∙ ap (λ m. take m xs) (one n))))
  where
    one : (n : ℕ) → suc n ≡ n + 1
    one n = omega arith

pub next_member : (f : ℕ → List ℕ) (s : List ℕ) (k : ℕ) (old : List ℕ) → 1 ≤ k → k < length s
    → (old ++ behind_spaces (map f (take (k - 1) (drop 1 s)))) ++ behind_spaces (f (slice_index_or s k 0) ∷ []) ≡ old ++ behind_spaces (map f (take ((k + 1) - 1) (drop 1 s)))
next_member f s k old h l =
    let inside : k - 1 < length (drop 1 s) = omega (arith, length-drop 1 s, h, l) in
    let same : slice_index_or s k 0 ≡ get_or (drop 1 s) (k - 1) 0 = sym (get_or_after_one s (k - 1) 0 ∙ ap (λ m. get_or s m 0) (back k h)) in
    ap (λ v. (old ++ behind_spaces (map f (take (k - 1) (drop 1 s)))) ++ behind_spaces (f v ∷ [])) same
    ∙ next_piece f (drop 1 s) (k - 1) old inside ∙ ap (λ m. old ++ behind_spaces (map f (take m (drop 1 s)))) (forth k h)
  where
    back : (k : ℕ) → 1 ≤ k → 1 + (k - 1) ≡ k
    back k h = omega arith

    forth : (k : ℕ) → 1 ≤ k → (k - 1) + 1 ≡ (k + 1) - 1
    forth k h = omega arith
