-- Two lists member beside member, as far as a loop has come.
use Rattle.std.proofs.Common.{◌≡◌, ℕ, ◌+◌, ◌<◌, List, [], ◌∷◌, ◌++◌, length, zip, take, get_or, refl, ap, sym, ◌∙◌, arith}
use Rattle.std.proofs.lemmas.List.{length-take-le, take_more}

zip-append : {X Y : Type 0} (xs : List X) (ys : List Y) (x : X) (y : Y) → length xs ≡ length ys
    → zip (xs ++ x ∷ []) (ys ++ y ∷ []) ≡ zip xs ys ++ (x, y) ∷ []
zip-append [] [] x y e = refl
zip-append [] (b ∷ ys) x y e = absurd (omega (arith, e))
zip-append (a ∷ xs) [] x y e = absurd (omega (arith, e))
zip-append (a ∷ xs) (b ∷ ys) x y e = ap (λ zs. (a, b) ∷ zs) (zip-append xs ys x y (omega (arith, e)))

-- one more place
pub zip-more : {X Y : Type 0} (xs : List X) (ys : List Y) (k : ℕ) (x d : X) (y e : Y) → k < length xs → k < length ys
    → x ≡ get_or xs k d → y ≡ get_or ys k e
    → zip (take k xs) (take k ys) ++ (x, y) ∷ [] ≡ zip (take (k + 1) xs) (take (k + 1) ys)
zip-more xs ys k x d y e l m p q =
    let same = length-take-le k xs (omega (arith, l)) ∙ sym (length-take-le k ys (omega (arith, m))) in
    (λ i. zip (take k xs) (take k ys) ++ (p i, q i) ∷ [])
    ∙ sym (zip-append (take k xs) (take k ys) (get_or xs k d) (get_or ys k e) same)
    ∙ sym (λ i. zip (take_more xs k d l i) (take_more ys k e m i))
