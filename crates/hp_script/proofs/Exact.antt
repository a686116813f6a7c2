-- A reader is exact for a language: it answers the one command that the tokens spell, or stops behind the longest prefix of them that goes on to something spelled.
use Rattle.std.proofs.Common.{◌≡◌, ℕ, suc, ◌+◌, ◌≤◌, Bool, true, false, List, [], ◌∷◌, ◌++◌, length, Option, Some, None, Result, Ok, Err, refl, sym, ap, subst, ◌∙◌, arith}
use Rattle.std.specs.Option.{is_some, unwrap_or}
use Rattle.std.proofs.lemmas.Bool.{false≢true}
use Rattle.hp_script.specs.declared.token.Token.{Token}
use Rattle.hp_script.specs.declared.command.Command.{Command}
use Rattle.hp_script.specs.Reading.{◌>>=◌, Reader, picked, token_at, starts}

-- which tokens spell which command, from some place on
abbrev pub Lang : Type 1
Lang = List Token → Command → Type 0

abbrev pub Alive : Lang → Type 0
Alive L = (xs : List Token) × (c : Command) × L xs c

abbrev pub first : List Token → Option Token
first [] = None
first (t ∷ ts) = Some t

pub some_same : {A : Type 0} (a b : A) → Some a ≡ Some b → a ≡ b
some_same a b e = ap (λ o. unwrap_or o a) e

-- nothing spelled goes on from the front with the next token, or ends there where none is left
abbrev pub Stuck : Lang → List Token → List Token → Type 0
Stuck L front [] = (c : Command) → L front c → ⊥
Stuck L front (t ∷ ts) = (more : List Token) (c : Command) → L (front ++ t ∷ more) c → ⊥

pub record Stop (L : Lang) (ts : List Token) (left : ℕ) : Type 0 where
  pub front : List Token
  pub rest : List Token
  pub split : ts ≡ front ++ rest
  pub counted : left ≡ length rest
  pub more : List Token
  pub answer : Command
  pub viable : L (front ++ more) answer
  pub stuck : Stuck L front rest

-- the command is the only one that the tokens spell
pub record Whole (L : Lang) (ts : List Token) (c : Command) : Type 0 where
  pub spelled : L ts c
  pub only : (d : Command) → L ts d → d ≡ c

abbrev pub Exact : Lang → List Token → Result Command ℕ → Type 0
Exact L ts (Ok c) = Whole L ts c
Exact L ts (Err n) = Stop L ts n

stuck_along : (A L : Lang) (ts front rest : List Token) → ts ≡ front ++ rest → ((xs : List Token) (c : Command) → first xs ≡ first ts → L xs c → A xs c) → Stuck A front rest → Stuck L front rest
stuck_along A L ts [] [] e back s = λ c l. s c (back [] c (sym (ap first e)) l)
stuck_along A L ts [] (t ∷ r) e back s = λ more c l. s more c (back (t ∷ more) c (sym (ap first e)) l)
stuck_along A L ts (f ∷ fs) [] e back s = λ c l. s c (back (f ∷ fs) c (sym (ap first e)) l)
stuck_along A L ts (f ∷ fs) (t ∷ r) e back s = λ more c l. s more c (back (f ∷ (fs ++ t ∷ more)) c (sym (ap first e)) l)

-- a language and another that is the same where the first token is that of ts
pub transfer : (A L : Lang) (ts : List Token) (r : Result Command ℕ) → ((xs : List Token) (c : Command) → A xs c → L xs c)
    → ((xs : List Token) (c : Command) → first xs ≡ first ts → L xs c → A xs c) → Exact A ts r → Exact L ts r
transfer A L ts (Ok c) to back e = record { spelled = to ts c e.spelled; only = λ d l. e.only d (back ts d refl l) }
transfer A L ts (Err n) to back e = record {
  front = e.front;
  rest = e.rest;
  split = e.split;
  counted = e.counted;
  more = e.more;
  answer = e.answer;
  viable = to _ _ e.viable;
  stuck = stuck_along A L ts e.front e.rest e.split back e.stuck;
}

stuck_behind : (M L : Lang) (t : Token) (front rest : List Token) → ((xs : List Token) (c : Command) → L (t ∷ xs) c → M xs c) → Stuck M front rest → Stuck L (t ∷ front) rest
stuck_behind M L t front [] back s = λ c l. s c (back front c l)
stuck_behind M L t front (u ∷ r) back s = λ more c l. s more c (back (front ++ u ∷ more) c l)

-- one token on
pub step : (M L : Lang) (t : Token) (ts : List Token) (r : Result Command ℕ) → ((xs : List Token) (c : Command) → M xs c → L (t ∷ xs) c)
    → ((xs : List Token) (c : Command) → L (t ∷ xs) c → M xs c) → Exact M ts r → Exact L (t ∷ ts) r
step M L t ts (Ok c) to back e = record { spelled = to ts c e.spelled; only = λ d l. e.only d (back ts d l) }
step M L t ts (Err n) to back e = record {
  front = t ∷ e.front;
  rest = e.rest;
  split = ap (λ xs. t ∷ xs) e.split;
  counted = e.counted;
  more = e.more;
  answer = e.answer;
  viable = to _ _ e.viable;
  stuck = stuck_behind M L t e.front e.rest back e.stuck;
}

stuck_here : (L : Lang) (ts : List Token) → ((xs : List Token) (c : Command) → first xs ≡ first ts → L xs c → ⊥) → Stuck L [] ts
stuck_here L [] never = λ c l. never [] c refl l
stuck_here L (t ∷ ts) never = λ more c l. never (t ∷ more) c refl l

-- nothing begins with the first token
pub stop : (L : Lang) (ts : List Token) → Alive L → ((xs : List Token) (c : Command) → first xs ≡ first ts → L xs c → ⊥) → Exact L ts (Err (length ts))
stop L ts alive never = record {
  front = [];
  rest = ts;
  split = refl;
  counted = refl;
  more = alive.0;
  answer = alive.1;
  viable = alive.2;
  stuck = stuck_here L ts never;
}

pub bind_bind : {A B C : Type 0} (r : Result A ℕ) (f : A → Result B ℕ) (g : B → Result C ℕ) → (r >>= f) >>= g ≡ r >>= (λ x. f x >>= g)
bind_bind (Ok x) f g = refl
bind_bind (Err n) f g = refl

-- the text of a tree, and then what its value allows
abbrev pub Then : {T V : Type 0} → (T → List Token) → (T → V) → (V → Lang) → Lang
Then {T = T} text value K xs c = (t : T) × (ys : List Token) × (xs ≡ text t ++ ys) × K (value t) ys c

abbrev pub no_token : Token → Bool
no_token t = false

-- The reader is exact for the production, whatever follows it, as long as that begins with none of the tokens that bar it. It takes that many tokens at least.
pub record IsReader {T V : Type 0} (text : T → List Token) (value : T → V) (bars : Token → Bool) (least : ℕ) (read : Reader V) : Type 1 where
  pub some : T
  pub exact : (K : V → Lang) → ((v : V) → Alive (K v)) → ((v : V) (xs : List Token) (c : Command) → starts bars xs ≡ true → K v xs c → ⊥)
      → (ts : List Token) (q : V × List Token → Result Command ℕ) → ((v : V) (rest : List Token) → length rest + least ≤ length ts → Exact (K v) rest (q (v, rest)))
      → Exact (Then text value K) ts (read ts >>= q)

pub record IsToken {T V : Type 0} (spell : T → Token) (value : T → V) (pick : Token → Option V) : Type 0 where
  pub some : T
  pub there : (t : T) → pick (spell t) ≡ Some (value t)
  pub back : (k : Token) (v : V) → pick k ≡ Some v → (t : T) × (k ≡ spell t) × (value t ≡ v)

abbrev tail : List Token → List Token
tail [] = []
tail (t ∷ ts) = ts

abbrev pub Single : {T : Type 0} → (T → Token) → T → List Token
Single spell t = spell t ∷ []

pub alive_then : {T V : Type 0} (text : T → List Token) (value : T → V) (K : V → Lang) (t : T) → ((v : V) → Alive (K v)) → Alive (Then text value K)
alive_then text value K t alive = let a = alive (value t) in (text t ++ a.0, a.1, (t, a.0, refl, a.2))

one_less : (n : ℕ) → n + 1 ≤ suc n
one_less n = omega arith

pub token_reader : {T V : Type 0} (spell : T → Token) (value : T → V) (pick : Token → Option V) → IsToken spell value pick → IsReader (Single spell) value no_token 1 (token_at pick)
token_reader {T = T} {V = V} spell value pick is = record { some = is.some; exact = exact_one }
  where
    none_some : {A : Type 0} (x : A) → None ≡ Some x → ⊥
    none_some x e = false≢true (ap is_some e)

    head_is : (K : V → Lang) (k : Token) (xs : List Token) (c : Command) → pick k ≡ None → first xs ≡ Some k → Then (Single spell) value K xs c → ⊥
    head_is K k xs c e f l = none_some (value l.0) (sym e ∙ ap pick (some_same k (spell l.0) (sym f ∙ ap first l.2)) ∙ is.there l.0)

    same : (K : V → Lang) (k : Token) (v : V) → pick k ≡ Some v → (xs : List Token) (c : Command) → Then (Single spell) value K (k ∷ xs) c → K v xs c
    same K k v e xs c l =
        let k_is : k ≡ spell l.0 = some_same k (spell l.0) (ap first l.2) in
        let v_is : value l.0 ≡ v = some_same (value l.0) v (sym (is.there l.0) ∙ ap pick (sym k_is) ∙ e) in
        subst (λ w. K w xs c) v_is (subst (λ ys. K (value l.0) ys c) (sym (ap tail l.2)) l.3)

    made : (K : V → Lang) (k : Token) (v : V) → pick k ≡ Some v → (xs : List Token) (c : Command) → K v xs c → Then (Single spell) value K (k ∷ xs) c
    made K k v e xs c m =
        let b = is.back k v e in
        (b.0, xs, ap (λ t. t ∷ xs) b.1, subst (λ w. K w xs c) (sym b.2) m)

    by_pick : (K : V → Lang) → ((v : V) → Alive (K v)) → (k : Token) (ts : List Token) (q : V × List Token → Result Command ℕ) → ((v : V) → Exact (K v) ts (q (v, ts)))
        → (o : Option V) → pick k ≡ o → Exact (Then (Single spell) value K) (k ∷ ts) (picked o ts k >>= q)
    by_pick K alive k ts q h (Some v) e = step (K v) (Then (Single spell) value K) k ts (q (v, ts)) (made K k v e) (same K k v e) (h v)
    by_pick K alive k ts q h None e = stop (Then (Single spell) value K) (k ∷ ts) (alive_then (Single spell) value K is.some alive) (λ xs c f l. head_is K k xs c e f l)

    exact_one : (K : V → Lang) → ((v : V) → Alive (K v)) → ((v : V) (xs : List Token) (c : Command) → starts no_token xs ≡ true → K v xs c → ⊥)
        → (ts : List Token) (q : V × List Token → Result Command ℕ) → ((v : V) (rest : List Token) → length rest + 1 ≤ length ts → Exact (K v) rest (q (v, rest)))
        → Exact (Then (Single spell) value K) ts (token_at pick ts >>= q)
    exact_one K alive follow [] q h = stop (Then (Single spell) value K) [] (alive_then (Single spell) value K is.some alive) (λ xs c f l. none_some (spell l.0) (sym f ∙ ap first l.2))
    exact_one K alive follow (k ∷ ts) q h = by_pick K alive k ts q (λ v. h v ts (one_less (length ts))) (pick k) refl
