-- The productions that are one token.
use Rattle.std.proofs.Common.{◌≡◌, ℕ, ◌==◌, Bool, true, false, List, [], ◌∷◌, Some, None, refl, ap, ◌∙◌}
use Rattle.std.specs.Option.{is_some}
use Rattle.std.specs.Prelude.{bytes_eq}
use Rattle.std.proofs.lemmas.Bool.{false≢true, eqb-true, eq-eqb}
use Rattle.std.proofs.lemmas.Slice.Eq.{bytes_eq-Decides}
use Rattle.hp_script.specs.declared.token.Token.{Token}
use Rattle.hp_script.specs.declared.token.Token.TheVariants.{Word, Number, Symbol, Misfit}
use Rattle.hp_script.specs.declared.expressions.Factor as code
use Rattle.hp_script.specs.declared.expressions.Factor.TheVariants.{Coefficient, Generator}
use Rattle.hp_script.specs.Tokens.{number_of}
use Rattle.hp_script.specs.Grammar.{Factor, coefficient, generator, factor_token, is_index, sign_token}
use Rattle.hp_script.specs.Reading.{number_in, word_in, is_symbol, when, factor_in, as_generator, index_in, sign_in, word_of, named}
use Rattle.hp_script.proofs.Exact.{IsToken, some_same}

pub none_some : {A : Type 0} (x : A) → None ≡ Some x → ⊥
none_some x e = false≢true (ap is_some e)

pub number_token : IsToken (λ n. Number n) (λ n. n) number_in
number_token = record { some = 0; there = λ n. refl; back = back }
  where
    back : (k : Token) (v : ℕ) → number_in k ≡ Some v → (t : ℕ) × (k ≡ Number t) × (t ≡ v)
    back (Number n) v e = (n, refl, some_same n v e)
    back (Word w) v e = absurd (none_some v e)
    back (Symbol b) v e = absurd (none_some v e)
    back Misfit v e = absurd (none_some v e)

pub word_token : IsToken (λ w. Word w) (λ w. w) word_in
word_token = record { some = []; there = λ n. refl; back = back }
  where
    back : (k : Token) (v : List ℕ) → word_in k ≡ Some v → (t : List ℕ) × (k ≡ Word t) × (t ≡ v)
    back (Number n) v e = absurd (none_some v e)
    back (Word w) v e = (w, refl, some_same w v e)
    back (Symbol b) v e = absurd (none_some v e)
    back Misfit v e = absurd (none_some v e)

pub symbol_token : (s : ℕ) → IsToken {T = Unit {0}} (λ u. Symbol s) (λ u. tt) (λ t. when (is_symbol s t))
symbol_token s = record { some = tt; there = λ u. ap when (eq-eqb s s refl); back = back }
  where
    by_test : (b : ℕ) (v : Unit {0}) (r : Bool) → (b == s) ≡ r → when r ≡ Some v → (t : Unit {0}) × (Symbol b ≡ Symbol s) × (tt ≡ v)
    by_test b v true r e = (tt, ap (λ c. Symbol c) (eqb-true b s r), refl)
    by_test b v false r e = absurd (none_some v e)

    back : (k : Token) (v : Unit {0}) → when (is_symbol s k) ≡ Some v → (t : Unit {0}) × (k ≡ Symbol s) × (tt ≡ v)
    back (Symbol b) v e = by_test b v (b == s) refl e
    back (Number n) v e = absurd (none_some v e)
    back (Word w) v e = absurd (none_some v e)
    back Misfit v e = absurd (none_some v e)

-- a factor as the code has it
abbrev pub factor_value : Factor → code.Factor
factor_value (coefficient n) = Coefficient n
factor_value (generator digits d) = Generator (number_of digits)

pub factor_is_token : IsToken factor_token factor_value factor_in
factor_is_token = record { some = coefficient 0; there = there; back = back }
  where
    there : (f : Factor) → factor_in (factor_token f) ≡ Some (factor_value f)
    there (coefficient n) = refl
    there (generator digits d) = ap (λ b. as_generator (elim b [ true ↦ Some (number_of digits) | false ↦ None ])) d

    by_index : (digits : List ℕ) (v : code.Factor) (r : Bool) → is_index digits ≡ r → as_generator (elim r [ true ↦ Some (number_of digits) | false ↦ None ]) ≡ Some v
        → (t : Factor) × (Word (101 ∷ digits) ≡ factor_token t) × (factor_value t ≡ v)
    by_index digits v true r e = (generator digits r, refl, some_same (Generator (number_of digits)) v e)
    by_index digits v false r e = absurd (none_some v e)

    by_letter : (b : ℕ) (digits : List ℕ) (v : code.Factor) (r : Bool) → (b == 101) ≡ r → elim r [ true ↦ as_generator (index_in digits) | false ↦ None ] ≡ Some v
        → (t : Factor) × (Word (b ∷ digits) ≡ factor_token t) × (factor_value t ≡ v)
    by_letter b digits v true r e =
        let g = by_index digits v (is_index digits) refl e in
        (g.0, ap (λ c. Word (c ∷ digits)) (eqb-true b 101 r) ∙ g.1, g.2)
    by_letter b digits v false r e = absurd (none_some v e)

    back : (k : Token) (v : code.Factor) → factor_in k ≡ Some v → (t : Factor) × (k ≡ factor_token t) × (factor_value t ≡ v)
    back (Number n) v e = (coefficient n, refl, some_same (Coefficient n) v e)
    back (Word []) v e = absurd (none_some v e)
    back (Word (b ∷ digits)) v e = by_letter b digits v (b == 101) refl e
    back (Symbol b) v e = absurd (none_some v e)
    back Misfit v e = absurd (none_some v e)

pub sign_is_token : IsToken sign_token (λ m. m) sign_in
sign_is_token = record { some = true; there = there; back = back }
  where
    there : (m : Bool) → sign_in (sign_token m) ≡ Some m
    there true = refl
    there false = refl

    by_plus : (b : ℕ) (v : Bool) (r : Bool) → (b == 43) ≡ r → elim r [ true ↦ Some false | false ↦ None ] ≡ Some v → (t : Bool) × (Symbol b ≡ sign_token t) × (t ≡ v)
    by_plus b v true r e = (false, ap (λ c. Symbol c) (eqb-true b 43 r), some_same false v e)
    by_plus b v false r e = absurd (none_some v e)

    by_minus : (b : ℕ) (v : Bool) (r : Bool) → (b == 45) ≡ r → elim r [ true ↦ Some true | false ↦ elim (b == 43) [ true ↦ Some false | false ↦ None ] ] ≡ Some v
        → (t : Bool) × (Symbol b ≡ sign_token t) × (t ≡ v)
    by_minus b v true r e = (true, ap (λ c. Symbol c) (eqb-true b 45 r), some_same true v e)
    by_minus b v false r e = by_plus b v (b == 43) refl e

    back : (k : Token) (v : Bool) → sign_in k ≡ Some v → (t : Bool) × (k ≡ sign_token t) × (t ≡ v)
    back (Symbol b) v e = by_minus b v (b == 45) refl e
    back (Number n) v e = absurd (none_some v e)
    back (Word w) v e = absurd (none_some v e)
    back Misfit v e = absurd (none_some v e)

-- a word of a table: its value is spelled by its text
abbrev pub IsTable : {V : Type 0} → (V → List ℕ) → List (List ℕ × V) → Type 0
IsTable text [] = Unit {0}
IsTable text (e ∷ es) = (e.0 ≡ text e.1) × IsTable text es

pub named_text : {V : Type 0} (text : V → List ℕ) (es : List (List ℕ × V)) (w : List ℕ) (v : V) → IsTable text es → named es w ≡ Some v → w ≡ text v
named_text text [] w v i e = absurd (none_some v e)
named_text {V = V} text (f ∷ es) w v i e = by_test (bytes_eq w f.0) refl e (named_text text es w v i.1)
  where
    by_test : (r : Bool) → bytes_eq w f.0 ≡ r → elim r [ true ↦ Some f.1 | false ↦ named es w ] ≡ Some v → (named es w ≡ Some v → w ≡ text v) → w ≡ text v
    by_test true r e next = (bytes_eq-Decides w f.0).0 r ∙ i.0 ∙ ap text (some_same f.1 v e)
    by_test false r e next = next e

-- words of a table, each of which it finds
pub table_token : {V : Type 0} (text : V → List ℕ) (table : List (List ℕ × V)) (some : V) → IsTable text table → ((v : V) → named table (text v) ≡ Some v) → IsToken (λ v. Word (text v)) (λ v. v) (word_of table)
table_token {V = V} text table some is found = record { some = some; there = found; back = back }
  where
    back : (k : Token) (v : V) → word_of table k ≡ Some v → (t : V) × (k ≡ Word (text t)) × (t ≡ v)
    back (Word w) v e = (v, ap (λ u. Word u) (named_text text table w v is e), refl)
    back (Number n) v e = absurd (none_some v e)
    back (Symbol b) v e = absurd (none_some v e)
    back Misfit v e = absurd (none_some v e)
