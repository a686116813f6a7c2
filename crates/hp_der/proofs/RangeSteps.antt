-- Loops that list the values of a function at the numbers of a range.
use Rattle.std.specs.Prelude.{◌≡◌, ℕ, ◌+◌, List, [], ◌∷◌, ◌++◌, map}
use Rattle.std.proofs.lemmas.List.{append_assoc}
use Rattle.std.proofs.lemmas.List.FromFn.{map-range_with_len_more}
use mathlib.Core.Path.{sym, ap, ◌∙◌}
use native.Mathlib.Omega.{arith}
use Rattle.hp_lists.specs.Lists.{range_with_len}

pub next-value_from : {X : Type 0} (a : ℕ) (f : ℕ → X) (first xs ys : List X) (x : X) (k j : ℕ) → a + k ≡ j
    → xs ≡ first ++ map f (range_with_len a k) → x ≡ f j → ys ≡ xs ++ x ∷ [] → ys ≡ first ++ map f (range_with_len a (k + 1))
next-value_from a f first xs ys x k j n e h w =
    w ∙ (λ i. e i ++ h i ∷ []) ∙ append_assoc first (map f (range_with_len a k)) (f j ∷ [])
    ∙ ap (λ zs. first ++ zs) (sym (map-range_with_len_more f a k j n))

-- from 1 on
pub next-value : {X : Type 0} (f : ℕ → X) (first xs ys : List X) (x : X) (k : ℕ) → xs ≡ first ++ map f (range_with_len 1 k)
    → x ≡ f (k + 1) → ys ≡ xs ++ x ∷ [] → ys ≡ first ++ map f (range_with_len 1 (k + 1))
next-value f first xs ys x k e h w = next-value_from 1 f first xs ys x k (k + 1) (omega arith) e h w
