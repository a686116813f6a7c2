-- The greatest number of a list, member by member.
use Rattle.std.proofs.Common.{◌≡◌, ℕ, suc, ◌+◌, ◌<◌, max, List, [], ◌∷◌, ◌++◌, length, take, refl, sym, ap, ◌∙◌, arith}
use Rattle.std.proofs.Math.ListN.{get_or}
use Rattle.std.proofs.Math.Seq.{take-suc}
use Rattle.std.proofs.lemmas.List.Recursion.{max_push}
use Rattle.hp_render.specs.VectorText.{greatest}

pub next_greatest : {X : Type 0} (f : X → ℕ) (xs : List X) (i most new : ℕ) (x : X) → i < length xs
    → most ≡ greatest f (take i xs) → x ≡ get_or xs i x → new ≡ max most (f x) → new ≡ greatest f (take (i + 1) xs)
next_greatest f xs i most new x inside before here is =
    let one : suc i ≡ i + 1 = omega arith in
    is ∙ ap (λ n. max n (f x)) before
    ∙ sym (max_push (greatest f) f refl (λ y ys. refl) (take i xs) x)
    ∙ ap (λ y. greatest f (take i xs ++ y ∷ [])) here
    ∙ ap (greatest f) (sym (take-suc xs i x inside) ∙ ap (λ n. take n xs) one)
