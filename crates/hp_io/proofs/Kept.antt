-- A read from bytes that are kept.
use Rattle.std.proofs.Common.{◌≡◌, ℕ, ◌+◌, ◌-◌, ◌<◌, ◌≤◌, min, List, [], ◌++◌, length, take, drop, sym, ap, ◌∙◌, arith}
use Rattle.std.proofs.lemmas.List.{take_at, nil_from_length, drop-drop, take-append-drop, length-take-le, length-drop}

-- what is copied to the front of a buffer was the front of what is left, and is nothing exactly at the end
pub kept_read : (bytes front rest : List ℕ) (at count room : ℕ) → at ≤ length bytes → 0 < room
    → count ≡ min (length bytes - at) room → front ≡ take (at + count - at) (drop at bytes)
    → (drop at bytes ≡ take count (front ++ rest) ++ drop (at + count) bytes)
    × ((count ≡ 0 → drop at bytes ≡ []) × (drop at bytes ≡ [] → count ≡ 0))
kept_read bytes front rest at count room within some counted copied =
    let same : at + count - at ≡ count = omega arith in
    let left = length-drop at bytes in
    let front_is : front ≡ take count (drop at bytes) = copied ∙ ap (λ k. take k (drop at bytes)) same in
    let wide : length front ≡ count = ap length front_is ∙ length-take-le count (drop at bytes) (omega (arith, left)) in (
      sym (ap (λ s. s ++ drop (at + count) bytes) (take_at front rest count wide ∙ front_is) ∙ ap (λ s. take count (drop at bytes) ++ s) (sym (drop-drop count at bytes)) ∙ take-append-drop count (drop at bytes)),
      (
        λ none_read. nil_from_length (drop at bytes) (omega (arith, left, none_read)),
        λ none_left. (let nothing = ap length none_left in omega (arith, left, nothing)),
      ),
    )
