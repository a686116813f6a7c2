-- Reading items one after the other, as a loop does.
use Rattle.std.proofs.Common.{◌≡◌, ℕ, zero, suc, ◌≤◌, ◌<◌, Bool, true, false, List, [], ◌∷◌, ◌++◌, length, Result, Ok, Err, refl, sym, ap, ◌∙◌, append_assoc, arith}
use Rattle.std.proofs.lemmas.List.{append-nil}
use Rattle.std.proofs.lemmas.Bool.{false≢true}
use Rattle.hp_script.specs.declared.token.Token.{Token}
use Rattle.hp_script.specs.declared.fault.Fault.{Fault}
use Rattle.hp_script.specs.declared.fault.Fault.TheVariants.{Memory, At}
use Rattle.hp_script.specs.Reading.{◌>>=◌, Fails, Reader, starts, many_within, many_at, with_front}

-- The items before the loop, the tokens then, the items now and the tokens left: what is read from here on is what was to be read.
pub record Going {V : Type 0} (begins : Token → Bool) (item : Reader V) (front : List V) (ts : List Token) (done : List V) (rest : List Token) : Type 0 where
  pub within : length rest ≤ length ts
  pub bound : ℕ
  pub enough : length rest ≤ bound
  pub same : with_front done (many_within begins item bound rest) ≡ with_front front (many_at begins item ts)

le_self : (n : ℕ) → n ≤ n
le_self n = omega arith

pub starts_so : {V : Type 0} (begins : Token → Bool) (item : Reader V) (front : List V) (ts : List Token) → Going begins item front ts front ts
starts_so begins item front ts = record { within = le_self (length ts); bound = length ts; enough = le_self (length ts); same = refl }

regroup : {V : Type 0} (done : List V) (v : V) (read : Result (List V × List Token) ℕ) → with_front done (read >>= λ y. Ok (v ∷ y.0, y.1)) ≡ with_front (done ++ v ∷ []) read
regroup done v (Ok x) = ap (λ vs. Ok (vs, x.1)) (sym (append_assoc done (v ∷ []) x.0))
regroup done v (Err n) = refl

-- one round of the reading
round : {V : Type 0} (begins : Token → Bool) (item : Reader V) (n : ℕ) (ts : List Token) → starts begins ts ≡ true
    → many_within begins item (suc n) ts ≡ (item ts >>= λ x. many_within begins item n x.1 >>= λ y. Ok (x.0 ∷ y.0, y.1))
round begins item n ts s = ap (λ b. elim b [ true ↦ item ts >>= λ x. many_within begins item n x.1 >>= λ y. Ok (x.0 ∷ y.0, y.1) | false ↦ Ok ([], ts) ]) s

no_round : {V : Type 0} (begins : Token → Bool) (item : Reader V) (n : ℕ) (ts : List Token) → starts begins ts ≡ false → many_within begins item n ts ≡ Ok ([], ts)
no_round begins item zero ts s = refl
no_round begins item (suc n) ts s = ap (λ b. elim b [ true ↦ item ts >>= λ x. many_within begins item n x.1 >>= λ y. Ok (x.0 ∷ y.0, y.1) | false ↦ Ok ([], ts) ]) s

nonempty : (begins : Token → Bool) (ts : List Token) → starts begins ts ≡ true → 1 ≤ length ts
nonempty begins [] s = absurd (false≢true s)
nonempty begins (t ∷ ts) s = lemma (length ts)
  where
    lemma : (n : ℕ) → 1 ≤ suc n
    lemma n = omega arith

too_few : (n : ℕ) → n ≤ 0 → 1 ≤ n → ⊥
too_few n h i = omega arith

fewer : (a r n : ℕ) → a < r → r ≤ suc n → a ≤ n
fewer a r n h i = omega arith

shorter : (a r n : ℕ) → a < r → r ≤ n → a ≤ n
shorter a r n h i = omega arith

pub goes_on : {V : Type 0} (begins : Token → Bool) (item : Reader V) (front : List V) (ts : List Token) (done : List V) (rest after : List Token) (v : V)
    → Going begins item front ts done rest → true ≡ starts begins rest → item rest ≡ Ok (v, after) → length after < length rest → Going begins item front ts (done ++ v ∷ []) after
goes_on {V = V} begins item front ts done rest after v g s e less = by_bound g.bound g.enough g.same
  where
    by_bound : (n : ℕ) → length rest ≤ n → with_front done (many_within begins item n rest) ≡ with_front front (many_at begins item ts) → Going begins item front ts (done ++ v ∷ []) after
    by_bound zero le same = absurd (too_few (length rest) le (nonempty begins rest (sym s)))
    by_bound (suc n) le same = record {
      within = shorter (length after) (length rest) (length ts) less g.within;
      bound = n;
      enough = fewer (length after) (length rest) n less le;
      same = sym (regroup done v (many_within begins item n after))
          ∙ ap (λ (r : Result (V × List Token) ℕ). with_front done (r >>= λ x. many_within begins item n x.1 >>= λ y. Ok (x.0 ∷ y.0, y.1))) (sym e)
          ∙ ap (with_front done) (sym (round begins item n rest (sym s))) ∙ same;
    }

pub is_done : {V : Type 0} (begins : Token → Bool) (item : Reader V) (front : List V) (ts : List Token) (done : List V) (rest : List Token)
    → Going begins item front ts done rest → false ≡ starts begins rest → with_front front (many_at begins item ts) ≡ Ok (done, rest)
is_done begins item front ts done rest g s =
    sym g.same ∙ ap (with_front done) (no_round begins item g.bound rest (sym s)) ∙ ap (λ vs. Ok (vs, rest)) (append-nil done)

pub ends : {V : Type 0} (begins : Token → Bool) (item : Reader V) (front : List V) (ts : List Token) (done : List V) (rest : List Token) (e : Fault)
    → Going begins item front ts done rest → true ≡ starts begins rest → Fails e (item rest) → Fails e (with_front front (many_at begins item ts))
ends begins item front ts done rest Memory g s f = tt
ends {V = V} begins item front ts done rest (At k) g s f = by_bound g.bound g.enough g.same
  where
    by_bound : (n : ℕ) → length rest ≤ n → with_front done (many_within begins item n rest) ≡ with_front front (many_at begins item ts) → with_front front (many_at begins item ts) ≡ Err k
    by_bound zero le same = absurd (too_few (length rest) le (nonempty begins rest (sym s)))
    by_bound (suc n) le same =
        sym same ∙ ap (with_front done) (round begins item n rest (sym s))
        ∙ ap (λ (r : Result (V × List Token) ℕ). with_front done (r >>= λ x. many_within begins item n x.1 >>= λ y. Ok (x.0 ∷ y.0, y.1))) f
