-- Parts of lines: they have no line feed, and few bytes.
use Rattle.std.proofs.Common.{◌≡◌, ℕ, suc, ◌+◌, ◌*◌, ◌≤◌, ◌==◌, Bool, true, not, List, [], ◌∷◌, ◌++◌, length, length-append, Contains, map, refl, leb-true, arith}
use Rattle.std.specs.Prelude.{decimal, codes}
use Rattle.std.specs.List.{list_all}
use Rattle.std.proofs.lemmas.Bool.{and_from, and_parts}
use Rattle.hp_lists.proofs.Members.{Contains-here, Contains-later}
use Rattle.hp_sample.specs.Sample.{vertices, edge_text, behind_spaces, spaced, graph_name, graph_line, question_line}
use Rattle.hp_sampled.proofs.SampleTokens.{IsSmall, small}
use Rattle.hp_sampled.proofs.SampleLines.{IsSmallEdge, vertices-small}

abbrev pub is_clear : List ℕ → Bool
is_clear bs = list_all (λ b. not (b == 10)) bs

-- no line feed, and at most so many bytes
pub record IsPart (m : ℕ) (bs : List ℕ) : Type 0 where
  pub clear : is_clear bs ≡ true
  pub few : length bs ≤ m

clear-append : (xs ys : List ℕ) → is_clear xs ≡ true → is_clear ys ≡ true → is_clear (xs ++ ys) ≡ true
clear-append [] ys p q = q
clear-append (x ∷ xs) ys p q =
    let parts = and_parts (not (x == 10)) (is_clear xs) p in
    and_from (not (x == 10)) (is_clear (xs ++ ys)) parts.0 (clear-append xs ys parts.1 q)

joined : (m n : ℕ) (xs ys : List ℕ) → IsPart m xs → IsPart n ys → IsPart (m + n) (xs ++ ys)
joined m n xs ys p q = record {
  clear = clear-append xs ys p.clear q.clear;
  few = sum (length xs) (length ys) (length (xs ++ ys)) (length-append xs ys) p.few q.few;
}
  where
    sum : (a b c : ℕ) → c ≡ a + b → a ≤ m → b ≤ n → c ≤ m + n
    sum a b c e h i = omega (arith, e, h, i)

pub within : (m n : ℕ) (xs : List ℕ) → m ≤ n → IsPart m xs → IsPart n xs
within m n xs h p = record { clear = p.clear; few = up (length xs) p.few }
  where
    up : (a : ℕ) → a ≤ m → a ≤ n
    up a i = omega (arith, h, i)

here : (n : ℕ) → n ≤ n
here n = omega arith

number-part : (n : ℕ) → IsSmall n → IsPart 2 (decimal n)
number-part n h = record {
  clear = (small n h.0 h.1).no_feed;
  few = leb-true (length (decimal n)) 2
      (small n h.0 h.1).few;
}

edge-part : (e : ℕ × ℕ) → IsSmallEdge e → IsPart 5 (edge_text e)
edge-part e h =
    joined 3 2 (decimal e.0 ++ codes "-") (decimal e.1)
    (joined 2 1 (decimal e.0) (codes "-") (number-part e.0 h.0) (record { clear = refl; few = here 1 }))
    (number-part e.1 h.1)

later-part : (es : List (ℕ × ℕ)) → ((e : ℕ × ℕ) → Contains es e → IsSmallEdge e)
    → IsPart (length es * 6) (behind_spaces (map edge_text es))
later-part [] h = record { clear = refl; few = here 0 }
later-part (e ∷ es) h =
    let later = behind_spaces (map edge_text es) in
    let one : IsPart 6 (32 ∷ edge_text e) = joined 1 5 (32 ∷ []) (edge_text e)
    (record { clear = refl; few = here 1 }) (edge-part e (h e (Contains-here e es))) in
    within (6 + length es * 6) (length (e ∷ es) * 6) (32 ∷ edge_text e ++ later) (sum (length es))
    (joined 6 (length es * 6) (32 ∷ edge_text e) later one (later-part es (λ d c. h d (Contains-later e es d c))))
  where
    sum : (n : ℕ) → 6 + n * 6 ≤ suc n * 6
    sum n = omega arith

spaced-part : (es : List (ℕ × ℕ)) → ((e : ℕ × ℕ) → Contains es e → IsSmallEdge e)
    → IsPart (length es * 6) (spaced (map edge_text es))
spaced-part [] h = record { clear = refl; few = here 0 }
spaced-part (e ∷ es) h =
    let later = behind_spaces (map edge_text es) in
    within (5 + length es * 6) (length (e ∷ es) * 6) (edge_text e ++ later) (sum (length es))
    (joined 5 (length es * 6) (edge_text e) later (edge-part e (h e (Contains-here e es)))
    (later-part es (λ d c. h d (Contains-later e es d c))))
  where
    sum : (n : ℕ) → 5 + n * 6 ≤ suc n * 6
    sum n = omega arith

name-part : (i : ℕ) → IsSmall i → IsPart 3 (graph_name i)
name-part i h = joined 1 2 (codes "G") (decimal i) (record { clear = refl; few = here 1 }) (number-part i h)

-- a line has at most so many bytes
abbrev pub most_of_line : ℕ
most_of_line = 191

pub graph_line-part : (i : ℕ) (es : List (ℕ × ℕ)) → IsSmall i → length es ≤ 28
    → ((e : ℕ × ℕ) → Contains es e → IsSmallEdge e)
    → IsPart most_of_line (graph_line i es)
graph_line-part i es h few small_ends =
    let v = vertices i in
    let edges = spaced (map edge_text es) in
    let one : IsPart 4 (codes "let ") = record { clear = refl; few = here 4 } in
    let two : IsPart 7 (codes "let " ++ graph_name i) = joined 4 3 (codes "let ") (graph_name i) one
    (name-part i h) in
    let three : IsPart 18 (codes "let " ++ graph_name i ++ codes " = graphic ") =
    joined 7 11 (codes "let " ++ graph_name i) (codes " = graphic ") two (record { clear = refl; few = here 11 }) in
    let four : IsPart 20 (codes "let " ++ graph_name i ++ codes " = graphic " ++ decimal v) =
    joined 18 2 (codes "let " ++ graph_name i ++ codes " = graphic ") (decimal v) three
    (number-part v (vertices-small i)) in
    let five : IsPart 22 (codes "let " ++ graph_name i ++ codes " = graphic " ++ decimal v ++ codes " [") =
    joined 20 2 (codes "let " ++ graph_name i ++ codes " = graphic " ++ decimal v)
    (codes " [") four (record { clear = refl; few = here 2 }) in
    let six : IsPart 190 (codes "let " ++ graph_name i ++ codes " = graphic " ++ decimal v ++ codes " [" ++ edges) =
    joined 22 168 (codes "let " ++ graph_name i ++ codes " = graphic " ++ decimal v ++ codes " [") edges five
    (within (length es * 6) 168 edges (most (length es) few) (spaced-part es small_ends)) in
    joined 190 1 (codes "let " ++ graph_name i ++ codes " = graphic " ++ decimal v ++ codes " [" ++ edges)
    (codes "]") six (record { clear = refl; few = here 1 })
  where
    most : (n : ℕ) → n ≤ 28 → n * 6 ≤ 168
    most n h = omega (arith, h)

pub question-part : (i : ℕ) (w : List ℕ) → IsSmall i → IsPart 8 w → IsPart most_of_line (question_line i w)
question-part i w h p =
    within 12 191 (question_line i w) (omega arith)
    (joined 9 3 (w ++ codes " ") (graph_name i) (joined 8 1 w (codes " ") p (record { clear = refl; few = here 1 }))
    (name-part i h))
