-- A line is cut from left to right.
use Rattle.std.proofs.Common.{◌≡◌, ℕ, zero, suc, ◌+◌, ◌-◌, ◌≤◌, ◌==◌, Bool, true, false, cond, List, [], ◌∷◌, ◌++◌, length, take, drop, map, refl, sym, ap, subst, ◌∙◌, append_assoc, arith, length-drop}
use Rattle.std.specs.List.{take_while, list_all}
use Rattle.std.proofs.lemmas.List.{append-nil, map_push}
use Rattle.std.proofs.lemmas.List.Sums.{take_while-cons}
use Rattle.std.proofs.lemmas.List.Folds.{length-prefix_len}
use Rattle.std.proofs.lemmas.Bool.{false≢true, not-true, not-false, and_from}
use Rattle.hp_script.specs.declared.token.Token.{Token}
use Rattle.hp_script.specs.declared.cut.Place.{Place}
use Rattle.hp_script.specs.Tokens.{is_digit}
use Rattle.hp_script.specs.Tokens.{Placed, is_letter, goes_on_word, is_blank, first_text, token_of, token_at, tokens_within, tokens}
use Rattle.hp_script.specs.Cut.{place_of, is_more, starts_blank, text_at, token_in, IsText, IsCut}

pub record Cutting (line : List ℕ) (ts : List Token) (ps : List Place) (column : ℕ) (rest : List ℕ) : Type 0 where
  pub column_is : column + length rest ≡ 1 + length line
  pub done : List Placed
  pub tokens_are : ts ≡ map (λ p. p.token) done
  pub places_are : ps ≡ map place_of done
  pub bound : ℕ
  pub enough : length rest ≤ bound
  pub same : done ++ tokens_within bound column rest ≡ tokens line

le_self : (n : ℕ) → n ≤ n
le_self n = omega arith

pub begins : (line : List ℕ) → Cutting line [] [] 1 line
begins line = record { column_is = refl; done = []; tokens_are = refl; places_are = refl; bound = length line; enough = le_self (length line); same = refl }

-- one step of the definition, by what the bytes begin with
abbrev cut_one : ℕ → ℕ → ℕ → List ℕ → Bool → Bool → List Placed
cut_one bound column b bs comment blank =
    elim comment [
      | true ↦ []
      | false ↦ elim blank [
        | true ↦ tokens_within bound (column + 1) bs
        | false ↦ token_at column (first_text b bs) (token_of b (first_text b bs)) ∷ tokens_within bound (column + length (first_text b bs)) (drop (length (first_text b bs)) (b ∷ bs))
      ]
    ]

stopped : (bound column : ℕ) (rest : List ℕ) → is_more rest ≡ false → tokens_within bound column rest ≡ []
stopped zero column rest m = refl
stopped (suc bound) column [] m = refl
stopped (suc bound) column (b ∷ bs) m = ap (λ c. cut_one bound column b bs c (is_blank b)) (not-false (b == 35) m)

too_few : (n : ℕ) → suc n ≤ 0 → ⊥
too_few n h = omega arith

one_fewer : (n m : ℕ) → suc n ≤ suc m → n ≤ m
one_fewer n m h = omega arith

moved : (column n total : ℕ) → column + suc n ≡ total → column + 1 + n ≡ total
moved column n total e = omega arith

drop_one : (b : ℕ) (bs : List ℕ) → drop 1 (b ∷ bs) ≡ bs
drop_one b bs = refl

pub passes_blank : (line : List ℕ) (ts : List Token) (ps : List Place) (column : ℕ) (rest : List ℕ) → Cutting line ts ps column rest → true ≡ is_more rest → true ≡ starts_blank rest → Cutting line ts ps (column + 1) (drop 1 rest)
passes_blank line ts ps column [] c m s = absurd (false≢true (sym m))
passes_blank line ts ps column (b ∷ bs) c m s = by_bound c.bound c.enough c.same
  where
    by_bound : (n : ℕ) → length (b ∷ bs) ≤ n → c.done ++ tokens_within n column (b ∷ bs) ≡ tokens line → Cutting line ts ps (column + 1) bs
    by_bound zero le same = absurd (too_few (length bs) le)
    by_bound (suc n) le same = record {
      column_is = moved column (length bs) (1 + length line) c.column_is;
      done = c.done;
      tokens_are = c.tokens_are;
      places_are = c.places_are;
      bound = n;
      enough = one_fewer (length bs) n le;
      same = ap (λ xs. c.done ++ xs) (sym (ap (λ v. cut_one n column b bs v (is_blank b)) (not-true (b == 35) (sym m)) ∙ ap (λ v. cut_one n column b bs false v) (sym s))) ∙ same;
    }

-- a text is what the bytes begin with
while_length : (p : ℕ → Bool) (xs : List ℕ) → take (length (take_while p xs)) xs ≡ take_while p xs
while_length p xs = ap (λ n. take n xs) (length-prefix_len p xs)

pub text_is_front : (b : ℕ) (bs : List ℕ) → take (length (first_text b bs)) (b ∷ bs) ≡ first_text b bs
text_is_front b bs = by_kind (is_letter b) (is_digit b)
  where
    by_kind : (l d : Bool) → take (length (cond l (b ∷ take_while goes_on_word bs) (cond d (b ∷ take_while is_digit bs) (b ∷ [])))) (b ∷ bs) ≡ cond l (b ∷ take_while goes_on_word bs) (cond d (b ∷ take_while is_digit bs) (b ∷ []))
    by_kind true d = ap (λ xs. b ∷ xs) (while_length goes_on_word bs)
    by_kind false true = ap (λ xs. b ∷ xs) (while_length is_digit bs)
    by_kind false false = refl

pub text_is_some : (b : ℕ) (bs : List ℕ) → 1 ≤ length (first_text b bs)
text_is_some b bs = by_kind (is_letter b) (is_digit b)
  where
    more : (n : ℕ) → 1 ≤ suc n
    more n = omega arith

    by_kind : (l d : Bool) → 1 ≤ length (cond l (b ∷ take_while goes_on_word bs) (cond d (b ∷ take_while is_digit bs) (b ∷ [])))
    by_kind true d = more _
    by_kind false true = more _
    by_kind false false = more 0

shrunk : (n k r : ℕ) → 1 ≤ k → r ≤ suc n → r - k ≤ n
shrunk n k r h i = omega arith

on : (column k r total : ℕ) → k ≤ r → column + r ≡ total → column + k + (r - k) ≡ total
on column k r total h e = omega arith

-- the token of a text that the bytes begin with
token_of_front : (b : ℕ) (bs : List ℕ) → token_in (first_text b bs) ≡ token_of b (first_text b bs)
token_of_front b bs = by_kind (is_letter b) (is_digit b)
  where
    by_kind : (l d : Bool) → token_in (cond l (b ∷ take_while goes_on_word bs) (cond d (b ∷ take_while is_digit bs) (b ∷ []))) ≡ token_of b (cond l (b ∷ take_while goes_on_word bs) (cond d (b ∷ take_while is_digit bs) (b ∷ [])))
    by_kind true d = refl
    by_kind false true = refl
    by_kind false false = refl

pub takes_token : (line : List ℕ) (ts : List Token) (ps : List Place) (column : ℕ) (rest : List ℕ) (k : ℕ) (t : Token) → Cutting line ts ps column rest → true ≡ is_more rest → false ≡ starts_blank rest
    → k ≡ length (text_at rest) → k ≤ length rest → t ≡ token_in (take k rest)
    → Cutting line (ts ++ t ∷ []) (ps ++ record { first = column; after = column + k } ∷ []) (column + k) (drop k rest)
takes_token line ts ps column [] k t c m s l f e = absurd (false≢true (sym m))
takes_token line ts ps column (b ∷ bs) k t c m s l f e = by_bound c.bound c.enough c.same
  where
    token_is : t ≡ token_of b (first_text b bs)
    token_is = e ∙ ap (λ n. token_in (take n (b ∷ bs))) l ∙ ap token_in (text_is_front b bs) ∙ token_of_front b bs

    placed : Placed
    placed = token_at column (first_text b bs) (token_of b (first_text b bs))

    by_bound : (n : ℕ) → length (b ∷ bs) ≤ n → c.done ++ tokens_within n column (b ∷ bs) ≡ tokens line
        → Cutting line (ts ++ t ∷ []) (ps ++ record { first = column; after = column + k } ∷ []) (column + k) (drop k (b ∷ bs))
    by_bound zero le same = absurd (too_few (length bs) le)
    by_bound (suc n) le same =
        let p : Placed = token_at column (first_text b bs) (token_of b (first_text b bs)) in
        record {
          column_is = ap (λ m. column + k + m) (length-drop k (b ∷ bs)) ∙ on column k (length (b ∷ bs)) (1 + length line) f c.column_is;
          done = c.done ++ p ∷ [];
          tokens_are = ap (λ u. ts ++ u ∷ []) token_is ∙ ap (λ us. us ++ p.token ∷ []) c.tokens_are ∙ sym (map_push (λ (q : Placed). q.token) c.done p);
          places_are = ap (λ m. ps ++ record { first = column; after = column + m } ∷ []) l ∙ ap (λ us. us ++ place_of p ∷ []) c.places_are ∙ sym (map_push place_of c.done p);
          bound = n;
          enough = subst (λ m. m ≤ n) (sym (length-drop k (b ∷ bs))) (shrunk n k (length (b ∷ bs)) (subst (λ m. 1 ≤ m) (sym l) (text_is_some b bs)) le);
          same = ap (λ m. c.done ++ p ∷ [] ++ tokens_within n (column + m) (drop m (b ∷ bs))) l
              ∙ append_assoc c.done (p ∷ []) (tokens_within n (column + length (first_text b bs)) (drop (length (first_text b bs)) (b ∷ bs)))
              ∙ ap (λ xs. c.done ++ xs) (sym (ap (λ v. cut_one n column b bs v (is_blank b)) (not-true (b == 35) (sym m)) ∙ ap (λ v. cut_one n column b bs false v) (sym s))) ∙ same;
        }

all_while : (p : ℕ → Bool) (xs : List ℕ) → list_all p (take_while p xs) ≡ true
all_while p [] = refl
all_while p (x ∷ xs) = ap (list_all p) (take_while-cons p x xs) ∙ by_test (p x) refl (all_while p xs)
  where
    by_test : (b : Bool) → p x ≡ b → list_all p (take_while p xs) ≡ true → list_all p (cond b (x ∷ take_while p xs) []) ≡ true
    by_test true e h = and_from (p x) (list_all p (take_while p xs)) e h
    by_test false e h = refl

-- a text that the bytes begin with is one
pub front_is_text : (rest : List ℕ) (k : ℕ) → k ≡ length (text_at rest) → IsText (take k rest)
front_is_text [] k e = subst (λ n. IsText (take n [])) (sym e) tt
front_is_text (b ∷ bs) k e = subst IsText (sym (ap (λ n. take n (b ∷ bs)) e ∙ text_is_front b bs)) (by_kind (is_letter b) (is_digit b) refl refl)
  where
    by_kind : (l d : Bool) → is_letter b ≡ l → is_digit b ≡ d → IsText (cond l (b ∷ take_while goes_on_word bs) (cond d (b ∷ take_while is_digit bs) (b ∷ [])))
    by_kind true d f g = λ h i. absurd (false≢true (sym h ∙ f))
    by_kind false true f g = λ h i. and_from (is_digit b) (list_all is_digit (take_while is_digit bs)) i (all_while is_digit bs)
    by_kind false false f g = λ h i. absurd (false≢true (sym g ∙ i))

pub is_cut : (line : List ℕ) (ts : List Token) (ps : List Place) (column : ℕ) (rest : List ℕ) → Cutting line ts ps column rest → false ≡ is_more rest → IsCut line ts ps
is_cut line ts ps column rest c m =
    let whole : c.done ≡ tokens line = sym (append-nil c.done) ∙ ap (λ xs. c.done ++ xs) (sym (stopped c.bound column rest (sym m))) ∙ c.same in
    record { tokens_are = c.tokens_are ∙ ap (map (λ p. p.token)) whole; places_are = c.places_are ∙ ap (map place_of) whole }
