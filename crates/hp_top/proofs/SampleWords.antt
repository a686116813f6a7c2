-- The words that ask for a sample, as a list of two.
use Rattle.std.proofs.Common.{◌≡◌, ◌≢◌, ℕ, suc, ◌<◌, ◌≤◌, List, [], ◌∷◌, length, get_or, Option, Some, None, MatchOption, codes, decimal, sym, ap, ◌∙◌, arith}
use Rattle.hp_top.specs.Summary.{IsSampleWords}

-- a list of two items
pub two_items : {A : Type 0} (xs : List A) (a b : A) → 2 ≤ length xs → length xs < 3 → a ≡ get_or xs 0 a → b ≡ get_or xs 1 b
    → xs ≡ a ∷ b ∷ []
two_items [] a b least below e f = absurd (none least)
  where
    none : 2 ≤ 0 → ⊥
    none h = omega (arith, h)
two_items (x ∷ []) a b least below e f = absurd (none least)
  where
    none : 2 ≤ 1 → ⊥
    none h = omega (arith, h)
two_items (x ∷ y ∷ []) a b least below e f = ap (λ s. s ∷ y ∷ []) (sym e) ∙ ap (λ t. a ∷ t ∷ []) (sym f)
two_items (x ∷ y ∷ z ∷ xs) a b least below e f = absurd (none (length xs) below)
  where
    none : (n : ℕ) → suc (suc (suc n)) < 3 → ⊥
    none n h = omega (arith, h)

-- What is read of the second of two words, the first of which is `sample`, is the number for which they ask.
pub number_of_words : (words : List (List ℕ)) (name number text : List ℕ) → words ≡ name ∷ number ∷ [] → name ≡ codes "sample"
    → text ≡ number → (read : Option ℕ)
    → MatchOption read ((k : ℕ) → k ≤ 9999 → text ≢ decimal k) (λ k. (k ≤ 9999) × (text ≡ decimal k))
    → MatchOption read ((k : ℕ) → ¬ (IsSampleWords words k)) (IsSampleWords words)
number_of_words words name number text two first second None none =
    λ k is. none k is.1 (second ∙ ap (λ ws. get_or ws 1 []) (sym two ∙ is.0))
number_of_words words name number text two first second (Some k) is =
    (two ∙ ap (λ n. n ∷ number ∷ []) first ∙ ap (λ n. codes "sample" ∷ n ∷ []) (sym second ∙ is.1), is.0)
