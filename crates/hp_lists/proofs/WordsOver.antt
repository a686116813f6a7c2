-- The words over a list: how many there are, which they are, and that each is listed once.
use Rattle.std.proofs.Common.{◌≡◌, ◌≢◌, ℕ, zero, suc, ◌+◌, ◌*◌, ◌^◌, List, [], ◌∷◌, map, flat_map, length, Contains, sym, ap, ◌∙◌, arith}
use Rattle.std.proofs.lemmas.List.{length-map, length-append}
use native.Mathlib.Nat.{pow-zero, pow-suc}
use Rattle.hp_lists.specs.Lists.{Ordered, words_over}
use Rattle.hp_lists.proofs.Members.{Contains-none, Contains-map, map-Contains, Contains-flat_map, flat_map-Contains}
use Rattle.hp_lists.proofs.Ordered.{Ordered-weaker, Ordered-map, Ordered-flat_map}

module _ {X : Type 0} where
  -- the words that begin with a letter of ys
  abbrev pub starting : List (List X) → List X → List (List X)
  starting rest ys = flat_map (λ x. map (λ w. x ∷ w) rest) ys

  starting-length : (rest : List (List X)) (ys : List X) → length (starting rest ys) ≡ length ys * length rest
  starting-length rest [] = omega arith
  starting-length rest (y ∷ ys) =
      length-append (map (λ w. y ∷ w) rest) _ ∙ (λ i. length-map rest (λ w. y ∷ w) i + starting-length rest ys i)
      ∙ more (length ys) (length rest)
    where
      more : (a b : ℕ) → b + a * b ≡ suc a * b
      more a b = omega arith

  pub words-length : (xs : List X) (n : ℕ) → length (words_over xs n) ≡ length xs ^ n
  words-length xs zero = sym (pow-zero (length xs))
  words-length xs (suc n) =
      starting-length (words_over xs n) xs ∙ ap (λ m. length xs * m) (words-length xs n)
      ∙ turn (length xs) (length xs ^ n) ∙ sym (pow-suc (length xs) n)
    where
      turn : (a b : ℕ) → a * b ≡ b * a
      turn a b = omega arith

  pub starting-Contains : (rest : List (List X)) (ys : List X) (v : List X) → Contains (starting rest ys) v
      → (y : X) × (w : List X) × Contains ys y × Contains rest w × (y ∷ w ≡ v)
  starting-Contains rest ys v c =
      let d = flat_map-Contains (λ x. map (λ w. x ∷ w) rest) ys v c in
      let m = map-Contains (λ w. d.0 ∷ w) rest v d.2 in
      (d.0, m.0, d.1, m.1, m.2)

  pub Contains-starting : (rest : List (List X)) (ys : List X) (y : X) (w : List X) → Contains ys y → Contains rest w
      → Contains (starting rest ys) (y ∷ w)
  Contains-starting rest ys y w c d =
      Contains-flat_map (λ x. map (λ w. x ∷ w) rest) ys y (y ∷ w) c (Contains-map (λ w. y ∷ w) rest w d)

  first_of : X → List X → X
  first_of d [] = d
  first_of d (x ∷ xs) = x

  rest_of : List X → List X
  rest_of [] = []
  rest_of (x ∷ xs) = xs

  starting-once : (rest : List (List X)) (ys : List X) → Ordered (λ x y. x ≢ y) rest → Ordered (λ x y. x ≢ y) ys
      → Ordered (λ x y. x ≢ y) (starting rest ys)
  unfolding first_of rest_of
  starting-once rest ys o p =
      Ordered-flat_map (λ x y. x ≢ y) (λ x. map (λ w. x ∷ w) rest) ys
      (λ x c. Ordered-map (λ u v. u ≢ v) (λ w. x ∷ w) rest (Ordered-weaker _ _ rest (λ u v d e n q. n (ap rest_of q)) o))
      (Ordered-weaker _ _ ys (λ x y d e n u v a b q. (let s = map-Contains (λ w. x ∷ w) rest u a in
      let t = map-Contains (λ w. y ∷ w) rest v b in n (ap (first_of x) (s.2 ∙ q ∙ sym t.2)))) p)

  pub words-once : (xs : List X) (n : ℕ) → Ordered (λ x y. x ≢ y) xs → Ordered (λ x y. x ≢ y) (words_over xs n)
  words-once xs zero o = ((λ y c. absurd (Contains-none y c)), tt)
  words-once xs (suc n) o = starting-once (words_over xs n) xs (words-once xs n o) o
