-- The generators of a set one by one.
use Rattle.std.proofs.Common.{◌≡◌, ℕ, suc, ◌+◌, ◌<◌, List, ◌++◌, length, take, slice_index_or, sym, ap, ◌∙◌, arith}
use Rattle.std.specs.List.{flat_map}
use Rattle.std.proofs.Math.ListN.{get_or}
use Rattle.std.proofs.Math.Seq.{take-suc}
use Rattle.std.proofs.lemmas.List.{append_assoc, append-nil}
use Rattle.std.proofs.lemmas.Grind.{flat_map-append}

pub next_generator : (f : ℕ → List ℕ) (s : List ℕ) (k : ℕ) (old : List ℕ) → k < length s
    → (old ++ flat_map f (take k s)) ++ f (slice_index_or s k 0) ≡ old ++ flat_map f (take (k + 1) s)
next_generator f s k old l =
    append_assoc old (flat_map f (take k s)) _
    ∙ ap (λ v. old ++ (flat_map f (take k s) ++ v)) (sym (append-nil (f (get_or s k 0))))
    ∙ ap (λ v. old ++ v) (sym (flat_map-append f (take k s) _) ∙ ap (flat_map f) (sym (take-suc s k 0 l) ∙ ap (λ m. take m s) (one k)))
  where
    one : (k : ℕ) → suc k ≡ k + 1
    one k = omega arith
