-- The texts of a list with their numbers, one by one.
use Rattle.std.proofs.Common.{◌≡◌, ℕ, zero, suc, ◌+◌, ◌<◌, List, [], ◌∷◌, ◌++◌, length, take, sym, ap, ◌∙◌, arith}
use Rattle.std.proofs.lemmas.List.{append_assoc, append-nil}
use Rattle.std.proofs.Math.ListN.{get_or}
use Rattle.hp_render.specs.AnswerWords.{numbered}

-- the first members and the one behind them
numbered-more : {X : Type 0} (f : ℕ → X → List ℕ) (a n : ℕ) (xs : List X) (d : X) → n < length xs
    → numbered f a (take n xs) ++ f (a + n) (get_or xs n d) ≡ numbered f a (take (suc n) xs)
numbered-more f a n [] d l = absurd (omega (arith, l))
numbered-more f a zero (x ∷ xs) d l =
    let same : a + 0 ≡ a = omega arith in
    ap (λ i. f i x) same ∙ sym (append-nil (f a x))
numbered-more f a (suc n) (x ∷ xs) d l =
    let same : a + suc n ≡ a + 1 + n = omega arith in
    let inside : n < length xs = omega (arith, l) in
    append_assoc (f a x) (numbered f (a + 1) (take n xs)) _
    ∙ ap (λ t. f a x ++ t) (ap (λ i. numbered f (a + 1) (take n xs) ++ f i (get_or xs n d)) same ∙ numbered-more f (a + 1) n xs d inside)

-- the text of the member at place k behind those before it, where the first has the number a
pub numbered-next : {X : Type 0} (f : ℕ → X → List ℕ) (a k : ℕ) (xs : List X) (d x : X) (old : List ℕ) → k < length xs → x ≡ get_or xs k d
    → (old ++ numbered f a (take k xs)) ++ f (a + k) x ≡ old ++ numbered f a (take (k + 1) xs)
numbered-next f a k xs d x old inside here =
    let further : suc k ≡ k + 1 = omega arith in
    let before = numbered f a (take k xs) in
    append_assoc old before _
    ∙ ap (λ t. old ++ t) (ap (λ y. before ++ f (a + k) y) here ∙ numbered-more f a k xs d inside ∙ ap (λ i. numbered f a (take i xs)) further)

-- the same where the first has the number 0
pub numbered-from_0 : {X : Type 0} (f : ℕ → X → List ℕ) (k : ℕ) (xs : List X) (x : X) (old : List ℕ) → k < length xs → x ≡ get_or xs k x
    → (old ++ numbered f 0 (take k xs)) ++ f k x ≡ old ++ numbered f 0 (take (k + 1) xs)
numbered-from_0 f k xs x old inside here =
    let same : k ≡ 0 + k = omega arith in
    ap (λ i. (old ++ numbered f 0 (take k xs)) ++ f i x) same ∙ numbered-next f 0 k xs x x old inside here
