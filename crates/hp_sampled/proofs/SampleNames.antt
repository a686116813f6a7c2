-- The names of the graphs differ, and the table of names grows by one after another.
use Rattle.std.proofs.Common.{◌≡◌, ℕ, ◌<◌, Bool, true, false, cond, List, [], ◌∷◌, ◌++◌, Some, None, is_none, refl, sym, ap, ◌∙◌, eqb-true, arith}
use Rattle.std.specs.Prelude.{decimal, drop, length, nat_le, not}
use Rattle.std.specs.List.{list_all}
use Rattle.std.specs.Cmp.Lexicographic.{bytes_decides}
use Rattle.std.proofs.lemmas.Bool.{and_parts, false_from_ne_true, false≢true}
use Rattle.hp_arr.specs.Arrangement.{Arrangement}
use Rattle.hp_script.specs.Tokens.{number_of, is_digit, is_letter}
use Rattle.hp_sample.specs.Sample.{graph_name}
use Rattle.hp_session.specs.State.{lookup, same_name}
use Rattle.hp_sampled.proofs.SampleTokens.{IsSmall, begins, small, is_numeral}

-- the number that a numeral spells
spelled : (ds : List ℕ) (n : ℕ) → is_numeral ds n ≡ true → number_of ds ≡ n
spelled [] n p = absurd (false≢true p)
spelled (b ∷ bs) n p =
    let one = and_parts (begins b) _ p in
    let two = and_parts (not (is_letter b)) _ one.1 in
    let three = and_parts (is_digit b) _ two.1 in
    let four = and_parts (list_all is_digit bs) _ three.1 in
    let five = and_parts (nat_le (length (b ∷ bs)) 10) _ four.1 in
    eqb-true (number_of (b ∷ bs)) n five.1

one_number : (i j : ℕ) → IsSmall i → IsSmall j → graph_name i ≡ graph_name j → i ≡ j
one_number i j h k e =
    sym (spelled (decimal i) i (small i h.0 h.1).numeral)
    ∙ ap (λ name. number_of (drop 1 name)) e
    ∙ spelled (decimal j) j (small j k.0 k.1).numeral

pub names-differ : (i j : ℕ) → IsSmall i → IsSmall j → i < j → same_name (graph_name i) (graph_name j) ≡ false
names-differ i j h k l = false_from_ne_true (same_name (graph_name i) (graph_name j))
    (λ same. apart (one_number i j h k ((bytes_decides (graph_name i) (graph_name j)).0 same)))
  where
    apart : i ≡ j → ⊥
    apart e = omega (arith, l, e)

pub name-same : (x : List ℕ) → same_name x x ≡ true
name-same x = (bytes_decides x x).1 refl

module _ {K : Type 0} where
  -- a name that is added is known
  pub added-known : (es : List (List ℕ × Arrangement K)) (x : List ℕ) (arr : Arrangement K)
      → is_none (lookup (es ++ (x, arr) ∷ []) x) ≡ false
  added-known [] x arr = ap (λ b. is_none (cond b (Some arr) None)) (name-same x)
  added-known (e ∷ es) x arr = by_test (same_name e.0 x) (added-known es x arr)
    where
      by_test : (b : Bool) → is_none (lookup (es ++ (x, arr) ∷ []) x) ≡ false
          → is_none (cond b (Some e.1) (lookup (es ++ (x, arr) ∷ []) x)) ≡ false
      by_test true p = refl
      by_test false p = p

  -- another name is as unknown as it was
  pub added-other : (es : List (List ℕ × Arrangement K)) (x y : List ℕ) (arr : Arrangement K) → same_name x y ≡ false
      → is_none (lookup es y) ≡ true → is_none (lookup (es ++ (x, arr) ∷ []) y) ≡ true
  added-other [] x y arr n p = ap (λ b. is_none (cond b (Some arr) None)) n
  added-other (e ∷ es) x y arr n p = by_test (same_name e.0 y) p (added-other es x y arr n)
    where
      by_test : (b : Bool) → is_none (cond b (Some e.1) (lookup es y)) ≡ true
          → (is_none (lookup es y) ≡ true → is_none (lookup (es ++ (x, arr) ∷ []) y) ≡ true)
          → is_none (cond b (Some e.1) (lookup (es ++ (x, arr) ∷ []) y)) ≡ true
      by_test true q ih = absurd (false≢true q)
      by_test false q ih = ih q
