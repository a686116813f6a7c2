-- Sequence, choice and repetition of readers.
use Rattle.std.proofs.Common.{◌≡◌, ℕ, zero, suc, ◌+◌, ◌≤◌, Bool, true, false, List, [], ◌∷◌, ◌++◌, length, map, Option, Some, None, Result, Ok, refl, sym, ap, subst, ◌∙◌, append_assoc, arith, inl, inr, ◌⊎◌}
use Rattle.std.specs.List.{flat_map}
use Rattle.std.proofs.lemmas.Bool.{false≢true}
use Rattle.hp_script.specs.declared.token.Token.{Token}
use Rattle.hp_script.specs.declared.command.Command.{Command}
use Rattle.hp_script.specs.Reading.{◌>>=◌, Reader, starts, seq, mapped, either, nothing_at, many_within, many_at, chosen, token_at}
use Rattle.hp_script.proofs.Exact.{Lang, Alive, first, Exact, transfer, bind_bind, Then, no_token, IsReader, alive_then}

-- what no production may go on with is not what follows it
abbrev pub Bars : {V : Type 0} → (Token → Bool) → (V → Lang) → Type 0
Bars {V = V} bars K = (v : V) (xs : List Token) (c : Command) → starts bars xs ≡ true → K v xs c → ⊥

starts_first : (test : Token → Bool) (xs ys : List Token) → first xs ≡ first ys → starts test xs ≡ starts test ys
starts_first test xs ys e = of_first xs ∙ ap by_option e ∙ sym (of_first ys)
  where
    by_option : Option Token → Bool
    by_option None = false
    by_option (Some t) = test t

    of_first : (zs : List Token) → starts test zs ≡ by_option (first zs)
    of_first [] = refl
    of_first (t ∷ ts) = refl

pub starts_append : (test other : Token → Bool) (xs ys : List Token) → starts test xs ≡ true → starts other (xs ++ ys) ≡ starts other xs
starts_append test other [] ys e = absurd (false≢true e)
starts_append test other (t ∷ ts) ys e = refl

-- a mapped reader
pub mapped_reader : {T A B : Type 0} (f : A → B) {text : T → List Token} {value : T → A} {bars : Token → Bool} {least : ℕ} {p : Reader A}
    → IsReader text value bars least p → IsReader text (λ t. f (value t)) bars least (mapped f p)
mapped_reader {T = T} {B = B} f {text = text} {value = value} {bars = bars} {least = least} {p = p} P = record {
  some = P.some;
  exact = λ K alive follow ts q h.
      let L : Lang = Then text (λ t. f (value t)) K in
      subst (λ r. Exact L ts r) (sym (bind_bind (p ts) _ q))
      (P.exact (λ v. K (f v)) (λ v. alive (f v)) (λ v. follow (f v)) ts (λ x. q (f x.0, x.1)) (λ v. h (f v)));
}

-- trees that are pairs
pub record IsPair {T T1 T2 V V1 V2 : Type 0} (text : T → List Token) (value : T → V) (text1 : T1 → List Token) (value1 : T1 → V1) (text2 : T2 → List Token) (value2 : T2 → V2) (f : V1 → V2 → V) : Type 0 where
  pub join : T1 → T2 → T
  pub text_is : (a : T1) (b : T2) → text (join a b) ≡ text1 a ++ text2 b
  pub value_is : (a : T1) (b : T2) → value (join a b) ≡ f (value1 a) (value2 b)
  pub split : (t : T) → (a : T1) × (b : T2) × (text t ≡ text1 a ++ text2 b) × (value t ≡ f (value1 a) (value2 b))

less : (a b c k l : ℕ) → a + k ≤ b → b + l ≤ c → a + l ≤ c
less a b c k l h i = omega arith

pub seq_reader : {T T1 T2 V V1 V2 : Type 0} {text : T → List Token} {value : T → V} {text1 : T1 → List Token} {value1 : T1 → V1} {text2 : T2 → List Token} {value2 : T2 → V2} {f : V1 → V2 → V}
    {bars1 bars2 : Token → Bool} {least1 least2 : ℕ} {p : Reader V1} {q : Reader V2} (bars : Token → Bool)
    → IsPair text value text1 value1 text2 value2 f → IsReader text1 value1 bars1 least1 p → IsReader text2 value2 bars2 least2 q
    → ((xs : List Token) → starts bars2 xs ≡ true → starts bars xs ≡ true)
    → ((K : V2 → Lang) → Bars bars K → (xs : List Token) (c : Command) → starts bars1 xs ≡ true → Then text2 value2 K xs c → ⊥)
    → IsReader text value bars least1 (seq f p q)
seq_reader {T = T} {T1 = T1} {T2 = T2} {V = V} {V1 = V1} {V2 = V2} {text = text} {value = value} {text1 = text1} {value1 = value1} {text2 = text2} {value2 = value2} {f = f} {bars1 = bars1} {bars2 = bars2} {least1 = least1} {least2 = least2} {p = p} {q = q} bars pair P Q more apart =
    record { some = pair.join P.some Q.some; exact = exact_pair }
  where
    to : (K : V → Lang) (xs : List Token) (c : Command) → Then text1 value1 (λ v. Then text2 value2 (λ w. K (f v w))) xs c → Then text value K xs c
    to K xs c l =
        let m = l.3 in
        (pair.join l.0 m.0, m.1, l.2 ∙ ap (λ ys. text1 l.0 ++ ys) m.2 ∙ sym (append_assoc (text1 l.0) (text2 m.0) m.1) ∙ ap (λ ys. ys ++ m.1) (sym (pair.text_is l.0 m.0)), subst (λ v. K v m.1 c) (sym (pair.value_is l.0 m.0)) m.3)

    back : (K : V → Lang) (xs : List Token) (c : Command) → Then text value K xs c → Then text1 value1 (λ v. Then text2 value2 (λ w. K (f v w))) xs c
    back K xs c l =
        let s = pair.split l.0 in
        (s.0, text2 s.1 ++ l.1, l.2 ∙ ap (λ ys. ys ++ l.1) s.2 ∙ append_assoc (text1 s.0) (text2 s.1) l.1, (s.1, l.1, refl, subst (λ v. K v l.1 c) s.3 l.3))

    exact_pair : (K : V → Lang) → ((v : V) → Alive (K v)) → Bars bars K
        → (ts : List Token) (r : V × List Token → Result Command ℕ) → ((v : V) (rest : List Token) → length rest + least1 ≤ length ts → Exact (K v) rest (r (v, rest)))
        → Exact (Then text value K) ts (seq f p q ts >>= r)
    exact_pair K alive follow ts r h =
        let L : Lang = Then text value K in
        let K1 : V1 → Lang = λ v. Then text2 value2 (λ w. K (f v w)) in
        let g : V1 × List Token → Result (V × List Token) ℕ = λ x. q x.1 >>= λ y. Ok (f x.0 y.0, y.1) in
        let at_rest : (v : V1) (rest : List Token) → length rest + least1 ≤ length ts → Exact (K1 v) rest (g (v, rest) >>= r) =
        λ v rest le. subst (λ s. Exact (K1 v) rest s) (sym (bind_bind (q rest) (λ y. Ok (f v y.0, y.1)) r))
        (Q.exact (λ w. K (f v w)) (λ w. alive (f v w)) (λ w xs c s. follow (f v w) xs c (more xs s)) rest (λ y. r (f v y.0, y.1)) (λ w end le2. h (f v w) end (less (length end) (length rest) (length ts) least2 least1 le2 le))) in
        let front : Exact (Then text1 value1 K1) ts (p ts >>= λ x. g x >>= r) =
        P.exact K1 (λ v. alive_then text2 value2 (λ w. K (f v w)) Q.some (λ w. alive (f v w))) (λ v xs c s. apart (λ w. K (f v w)) (λ w. follow (f v w)) xs c s) ts (λ x. g x >>= r) at_rest in
        subst (λ s. Exact L ts s) (sym (bind_bind (p ts) g r)) (transfer (Then text1 value1 K1) L ts (p ts >>= λ x. g x >>= r) (to K) (λ xs c e. back K xs c) front)

-- trees of two kinds
pub record IsChoice {T T1 T2 V : Type 0} (text : T → List Token) (value : T → V) (text1 : T1 → List Token) (value1 : T1 → V) (text2 : T2 → List Token) (value2 : T2 → V) : Type 0 where
  pub left : T1 → T
  pub right : T2 → T
  pub left_text : (a : T1) → text (left a) ≡ text1 a
  pub left_value : (a : T1) → value (left a) ≡ value1 a
  pub right_text : (b : T2) → text (right b) ≡ text2 b
  pub right_value : (b : T2) → value (right b) ≡ value2 b
  pub split : (t : T) → ((a : T1) × (text t ≡ text1 a) × (value t ≡ value1 a)) ⊎ ((b : T2) × (text t ≡ text2 b) × (value t ≡ value2 b))

along : {T T1 V : Type 0} (text : T → List Token) (value : T → V) (text1 : T1 → List Token) (value1 : T1 → V) (K : V → Lang) (a : T1) (t : T) (xs ys : List Token) (c : Command)
    → text t ≡ text1 a → value t ≡ value1 a → xs ≡ text1 a ++ ys → K (value1 a) ys c → Then text value K xs c
along text value text1 value1 K a t xs ys c e f x k = (t, ys, x ∙ ap (λ zs. zs ++ ys) (sym e), subst (λ v. K v ys c) (sym f) k)

pub either_reader : {T T1 T2 V : Type 0} {text : T → List Token} {value : T → V} {text1 : T1 → List Token} {value1 : T1 → V} {text2 : T2 → List Token} {value2 : T2 → V}
    {bars1 bars2 : Token → Bool} {least : ℕ} {p q : Reader V} (bars test : Token → Bool)
    → IsChoice text value text1 value1 text2 value2 → IsReader text1 value1 bars1 least p → IsReader text2 value2 bars2 least q
    → ((xs : List Token) → starts bars1 xs ≡ true → starts bars xs ≡ true) → ((xs : List Token) → starts bars2 xs ≡ true → starts bars xs ≡ true)
    → ((a : T1) → starts test (text1 a) ≡ true)
    → ((K : V → Lang) → Bars bars K → (xs : List Token) (c : Command) → starts test xs ≡ true → Then text2 value2 K xs c → ⊥)
    → IsReader text value bars least (either test p q)
either_reader {T = T} {T1 = T1} {T2 = T2} {V = V} {text = text} {value = value} {text1 = text1} {value1 = value1} {text2 = text2} {value2 = value2} {bars1 = bars1} {bars2 = bars2} {least = least} {p = p} {q = q} bars test choice P Q more1 more2 begins apart =
    record { some = choice.left P.some; exact = λ K alive follow ts r h. by_test K alive follow ts r h (starts test ts) refl }
  where
    to1 : (K : V → Lang) (xs : List Token) (c : Command) → Then text1 value1 K xs c → Then text value K xs c
    to1 K xs c l = along text value text1 value1 K l.0 (choice.left l.0) xs l.1 c (choice.left_text l.0) (choice.left_value l.0) l.2 l.3

    to2 : (K : V → Lang) (xs : List Token) (c : Command) → Then text2 value2 K xs c → Then text value K xs c
    to2 K xs c l = along text value text2 value2 K l.0 (choice.right l.0) xs l.1 c (choice.right_text l.0) (choice.right_value l.0) l.2 l.3

    sides : (K : V → Lang) (xs : List Token) (c : Command) → Then text value K xs c → Then text1 value1 K xs c ⊎ Then text2 value2 K xs c
    sides K xs c l = elim (choice.split l.0) [
      | inl s ↦ inl (s.0, l.1, l.2 ∙ ap (λ zs. zs ++ l.1) s.1, subst (λ v. K v l.1 c) s.2 l.3)
      | inr s ↦ inr (s.0, l.1, l.2 ∙ ap (λ zs. zs ++ l.1) s.1, subst (λ v. K v l.1 c) s.2 l.3)
    ]

    left_starts : (K : V → Lang) (xs : List Token) (c : Command) → Then text1 value1 K xs c → starts test xs ≡ true
    left_starts K xs c l = ap (λ zs. starts test zs) l.2 ∙ starts_append test test (text1 l.0) l.1 (begins l.0) ∙ begins l.0

    only_left : (K : V → Lang) → Bars bars K → (xs : List Token) (c : Command) → starts test xs ≡ true → Then text value K xs c → Then text1 value1 K xs c
    only_left K follow xs c s l = elim (sides K xs c l) [ inl m ↦ m | inr m ↦ absurd (apart K follow xs c s m) ]

    only_right : (K : V → Lang) (xs : List Token) (c : Command) → starts test xs ≡ false → Then text value K xs c → Then text2 value2 K xs c
    only_right K xs c s l = elim (sides K xs c l) [ inl m ↦ absurd (false≢true (sym s ∙ left_starts K xs c m)) | inr m ↦ m ]

    by_test : (K : V → Lang) → ((v : V) → Alive (K v)) → Bars bars K
        → (ts : List Token) (r : V × List Token → Result Command ℕ) → ((v : V) (rest : List Token) → length rest + least ≤ length ts → Exact (K v) rest (r (v, rest)))
        → (b : Bool) → starts test ts ≡ b → Exact (Then text value K) ts (elim b [ true ↦ p ts | false ↦ q ts ] >>= r)
    by_test K alive follow ts r h true e =
        transfer (Then text1 value1 K) (Then text value K) ts (p ts >>= r) (to1 K) (λ xs c f l. only_left K follow xs c (starts_first test xs ts f ∙ e) l)
        (P.exact K alive (λ v xs c s. follow v xs c (more1 xs s)) ts r h)
    by_test K alive follow ts r h false e =
        transfer (Then text2 value2 K) (Then text value K) ts (q ts >>= r) (to2 K) (λ xs c f l. only_right K xs c (starts_first test xs ts f ∙ e) l)
        (Q.exact K alive (λ v xs c s. follow v xs c (more2 xs s)) ts r h)

pub nothing_reader : {V : Type 0} (x : V) → IsReader {T = Unit {0}} (λ t. []) (λ t. x) no_token 0 (nothing_at x)
nothing_reader {V = V} x = record {
  some = tt;
  exact = λ K alive follow ts q h. transfer (K x) (Then {T = Unit {0}} (λ t. []) (λ t. x) K) ts (q (x, ts)) (λ xs c k. (tt, xs, refl, k)) (λ xs c e l. subst (λ ys. K x ys c) (sym l.2) l.3) (h x ts (same (length ts)));
}
  where
    same : (n : ℕ) → n + 0 ≤ n
    same n = omega arith

abbrev pub or_test : (Token → Bool) → (Token → Bool) → Token → Bool
or_test a b t = elim (a t) [ true ↦ true | false ↦ b t ]

pub or_left : (a b : Token → Bool) (xs : List Token) → starts a xs ≡ true → starts (or_test a b) xs ≡ true
or_left a b [] e = absurd (false≢true e)
or_left a b (t ∷ ts) e = ap (λ v. elim v [ true ↦ true | false ↦ b t ]) e

pub or_right : (a b : Token → Bool) (xs : List Token) → starts b xs ≡ true → starts (or_test a b) xs ≡ true
or_right a b [] e = absurd (false≢true e)
or_right a b (t ∷ ts) e = elim (a t) as (λ v. elim v [ true ↦ true | false ↦ b t ] ≡ true) [ true ↦ refl | false ↦ e ]

-- where the items of a repetition begin otherwise, and what follows it does
pub many_apart : {T V : Type 0} (text : T → List Token) (value : T → V) (begins test : Token → Bool) → ((t : T) → starts begins (text t) ≡ true) → ((t : T) → starts test (text t) ≡ true → ⊥)
    → (K : List V → Lang) → Bars test K → (xs : List Token) (c : Command) → starts test xs ≡ true → Then (flat_map text) (map value) K xs c → ⊥
many_apart {T = T} {V = V} text value begins test begun apart K follow xs c s l = by_list l.0 l.1 l.2 l.3
  where
    by_list : (ts : List T) (ys : List Token) → xs ≡ flat_map text ts ++ ys → K (map value ts) ys c → ⊥
    by_list [] ys e k = follow [] ys c (ap (λ zs. starts test zs) (sym e) ∙ s) k
    by_list (t ∷ ts) ys e k =
        apart t (sym (starts_append begins test (text t) (flat_map text ts ++ ys) (begun t)) ∙ ap (λ zs. starts test zs) (sym (append_assoc (text t) (flat_map text ts) ys)) ∙ ap (λ zs. starts test zs) (sym e) ∙ s)

pub not_started : (test : Token → Bool) (xs ys : List Token) → xs ≡ ys → starts test ys ≡ false → starts test xs ≡ true → ⊥
not_started test xs ys e f s = false≢true (sym f ∙ ap (λ zs. starts test zs) (sym e) ∙ s)

any_least : (r k n : ℕ) → r + k ≤ n → r + 0 ≤ n
any_least r k n h = omega arith

-- a reader takes no token at least
pub weaker_reader : {T V : Type 0} {text : T → List Token} {value : T → V} {bars : Token → Bool} {least : ℕ} {p : Reader V} → IsReader text value bars least p → IsReader text value bars 0 p
weaker_reader {least = least} P = record {
  some = P.some;
  exact = λ K alive follow ts q h. P.exact K alive follow ts q (λ v rest le. h v rest (any_least (length rest) least (length ts) le));
}

zero_le : (n : ℕ) → n + 0 ≤ n
zero_le n = omega arith

fewer : (r n m : ℕ) → r + 1 ≤ m → m ≤ suc n → r ≤ n
fewer r n m h i = omega arith

reach : (e r m : ℕ) → e + 0 ≤ r → r + 1 ≤ m → e + 0 ≤ m
reach e r m h i = omega arith

no_length : (n : ℕ) → suc n ≤ 0 → ⊥
no_length n h = omega arith

pub many_reader : {T V : Type 0} {text : T → List Token} {value : T → V} {bars : Token → Bool} {item : Reader V} (begins : Token → Bool)
    → IsReader text value bars 1 item → ((t : T) → starts begins (text t) ≡ true) → ((t : T) → starts bars (text t) ≡ true → ⊥)
    → IsReader (flat_map text) (map value) (or_test begins bars) 0 (many_at begins item)
many_reader {T = T} {V = V} {text = text} {value = value} {bars = bars} {item = item} begins P begun apart =
    record { some = []; exact = λ K alive follow ts q h. exact_many K alive (λ v xs c s. follow v xs c (or_left begins bars xs s)) (λ v xs c s. follow v xs c (or_right begins bars xs s)) (length ts) ts q (le_self (length ts)) h }
  where
    le_self : (n : ℕ) → n ≤ n
    le_self n = omega arith

    other_start : (K : List V → Lang) (test : Token → Bool) → Bars test K → ((t : T) → starts test (text t) ≡ true → ⊥)
        → (l : List T) (ys xs : List Token) (c : Command) → starts test xs ≡ true → xs ≡ flat_map text l ++ ys → K (map value l) ys c → ⊥
    other_start K test follow never [] ys xs c s e k = follow [] ys c (ap (λ zs. starts test zs) (sym e) ∙ s) k
    other_start K test follow never (t ∷ l) ys xs c s e k =
        never t (sym (starts_append begins test (text t) (flat_map text l ++ ys) (begun t)) ∙ ap (λ zs. starts test zs) (sym (append_assoc (text t) (flat_map text l) ys)) ∙ ap (λ zs. starts test zs) (sym e) ∙ s)

    -- where no item begins there is none
    none_left : (K : List V → Lang) (l : List T) (ys xs : List Token) (c : Command) → starts begins xs ≡ false → xs ≡ flat_map text l ++ ys → K (map value l) ys c → K [] xs c
    none_left K [] ys xs c s e k = subst (λ zs. K [] zs c) (sym e) k
    none_left K (t ∷ l) ys xs c s e k =
        absurd (false≢true (sym s ∙ ap (λ zs. starts begins zs) (e ∙ append_assoc (text t) (flat_map text l) ys) ∙ starts_append begins begins (text t) (flat_map text l ++ ys) (begun t) ∙ begun t))

    exact_none : (K : List V → Lang) (ts : List Token) (r : Result Command ℕ) → starts begins ts ≡ false → Exact (K []) ts r → Exact (Then (flat_map text) (map value) K) ts r
    exact_none K ts r s h = transfer (K []) (Then (flat_map text) (map value) K) ts r (λ xs c k. ([], xs, refl, k)) (λ xs c f l. none_left K l.0 l.1 xs c (starts_first begins xs ts f ∙ s) l.2 l.3) h

    -- where one begins it comes first
    one_more : (K : List V → Lang) → Bars begins K → (l : List T) (ys xs : List Token) (c : Command) → starts begins xs ≡ true → xs ≡ flat_map text l ++ ys → K (map value l) ys c
        → Then text value (λ v. Then (flat_map text) (map value) (λ vs. K (v ∷ vs))) xs c
    one_more K follow [] ys xs c s e k = absurd (follow [] ys c (ap (λ zs. starts begins zs) (sym e) ∙ s) k)
    one_more K follow (t ∷ l) ys xs c s e k = (t, flat_map text l ++ ys, e ∙ append_assoc (text t) (flat_map text l) ys, (l, ys, refl, k))

    by_start : (K : List V → Lang) → ((v : List V) → Alive (K v)) → Bars begins K → Bars bars K → (n : ℕ) (ts : List Token) (q : List V × List Token → Result Command ℕ)
        → Exact (K []) ts (q ([], ts))
        → ((v : V) (rest : List Token) → length rest + 1 ≤ length ts → Exact (Then (flat_map text) (map value) (λ vs. K (v ∷ vs))) rest ((many_within begins item n rest >>= λ y. Ok (v ∷ y.0, y.1)) >>= q))
        → (b : Bool) → starts begins ts ≡ b
        → Exact (Then (flat_map text) (map value) K) ts (elim b [ true ↦ item ts >>= λ x. many_within begins item n x.1 >>= λ y. Ok (x.0 ∷ y.0, y.1) | false ↦ Ok ([], ts) ] >>= q)
    by_start K alive f g n ts q here at_rest false e = exact_none K ts (q ([], ts)) e here
    by_start K alive f g n ts q here at_rest true e =
        let K1 : V → Lang = λ v. Then (flat_map text) (map value) (λ vs. K (v ∷ vs)) in
        let go : V × List Token → Result (List V × List Token) ℕ = λ x. many_within begins item n x.1 >>= λ y. Ok (x.0 ∷ y.0, y.1) in
        subst (λ s. Exact (Then (flat_map text) (map value) K) ts s) (sym (bind_bind (item ts) go q))
        (transfer (Then text value K1) (Then (flat_map text) (map value) K) ts (item ts >>= λ x. go x >>= q)
        (λ xs c l. let m = l.3 in (l.0 ∷ m.0, m.1, l.2 ∙ ap (λ zs. text l.0 ++ zs) m.2 ∙ sym (append_assoc (text l.0) (flat_map text m.0) m.1), m.3))
        (λ xs c s l. one_more K f l.0 l.1 xs c (starts_first begins xs ts s ∙ e) l.2 l.3)
        (P.exact K1 (λ v. alive_then (flat_map text) (map value) (λ vs. K (v ∷ vs)) [] (λ vs. alive (v ∷ vs)))
        (λ v xs c s l. other_start (λ vs. K (v ∷ vs)) bars (λ vs. g (v ∷ vs)) apart l.0 l.1 xs c s l.2 l.3) ts (λ x. go x >>= q) at_rest))

    exact_many : (K : List V → Lang) → ((v : List V) → Alive (K v)) → Bars begins K → Bars bars K → (n : ℕ) (ts : List Token) (q : List V × List Token → Result Command ℕ) → length ts ≤ n
        → ((v : List V) (rest : List Token) → length rest + 0 ≤ length ts → Exact (K v) rest (q (v, rest))) → Exact (Then (flat_map text) (map value) K) ts (many_within begins item n ts >>= q)
    exact_many K alive f g zero [] q le h = exact_none K [] (q ([], [])) refl (h [] [] (zero_le 0))
    exact_many K alive f g zero (t ∷ ts) q le h = absurd (no_length (length ts) le)
    exact_many K alive f g (suc n) ts q le h =
        by_start K alive f g n ts q (h [] ts (zero_le (length ts)))
        (λ v rest less_than. subst (λ s. Exact (Then (flat_map text) (map value) (λ vs. K (v ∷ vs))) rest s) (sym (bind_bind (many_within begins item n rest) (λ y. Ok (v ∷ y.0, y.1)) q))
        (exact_many (λ vs. K (v ∷ vs)) (λ vs. alive (v ∷ vs)) (λ vs. f (v ∷ vs)) (λ vs. g (v ∷ vs)) n rest (λ y. q (v ∷ y.0, y.1)) (fewer (length rest) n (length ts) less_than le)
        (λ vs end le2. h (v ∷ vs) end (reach (length end) (length rest) (length ts) le2 less_than)))) (starts begins ts) refl

-- a token, and what its value asks for
pub record IsDispatch {T A V : Type 0} (Rest : A → Type 0) (text : T → List Token) (value : T → V) (spell : A → Token) (text2 : (a : A) → Rest a → List Token) (value2 : (a : A) → Rest a → V) : Type 0 where
  pub join : (a : A) → Rest a → T
  pub text_is : (a : A) (b : Rest a) → text (join a b) ≡ spell a ∷ text2 a b
  pub value_is : (a : A) (b : Rest a) → value (join a b) ≡ value2 a b
  pub split : (t : T) → (a : A) × (b : Rest a) × (text t ≡ spell a ∷ text2 a b) × (value t ≡ value2 a b)

pub dispatch_reader : {T A V : Type 0} {Rest : A → Type 0} {text : T → List Token} {value : T → V} {spell : A → Token} {text2 : (a : A) → Rest a → List Token} {value2 : (a : A) → Rest a → V}
    {bars2 : A → Token → Bool} {least2 : A → ℕ} (pick : Token → Option A) (q : A → Reader V) (bars : Token → Bool)
    → IsDispatch Rest text value spell text2 value2 → IsReader (λ a. spell a ∷ []) (λ a. a) no_token 1 (token_at pick) → ((a : A) → IsReader (text2 a) (value2 a) (bars2 a) (least2 a) (q a))
    → ((a : A) (xs : List Token) → starts (bars2 a) xs ≡ true → starts bars xs ≡ true)
    → IsReader text value bars 1 (chosen pick q)
dispatch_reader {T = T} {A = A} {V = V} {Rest = Rest} {text = text} {value = value} {spell = spell} {text2 = text2} {value2 = value2} {bars2 = bars2} {least2 = least2} pick q bars by P Q more =
    record { some = by.join P.some (Q P.some).some; exact = exact_chosen }
  where
    never_starts : (xs : List Token) → starts no_token xs ≡ true → ⊥
    never_starts [] e = false≢true e
    never_starts (t ∷ ts) e = false≢true e

    to : (K : V → Lang) (xs : List Token) (c : Command) → Then (λ a. spell a ∷ []) (λ a. a) (λ a. Then (text2 a) (value2 a) K) xs c → Then text value K xs c
    to K xs c l =
        let m = l.3 in
        (by.join l.0 m.0, m.1, l.2 ∙ ap (λ ys. spell l.0 ∷ ys) m.2 ∙ ap (λ ys. ys ++ m.1) (sym (by.text_is l.0 m.0)), subst (λ v. K v m.1 c) (sym (by.value_is l.0 m.0)) m.3)

    back : (K : V → Lang) (xs : List Token) (c : Command) → Then text value K xs c → Then (λ a. spell a ∷ []) (λ a. a) (λ a. Then (text2 a) (value2 a) K) xs c
    back K xs c l =
        let s = by.split l.0 in
        (s.0, text2 s.0 s.1 ++ l.1, l.2 ∙ ap (λ ys. ys ++ l.1) s.2, (s.1, l.1, refl, subst (λ v. K v l.1 c) s.3 l.3))

    exact_chosen : (K : V → Lang) → ((v : V) → Alive (K v)) → Bars bars K
        → (ts : List Token) (r : V × List Token → Result Command ℕ) → ((v : V) (rest : List Token) → length rest + 1 ≤ length ts → Exact (K v) rest (r (v, rest)))
        → Exact (Then text value K) ts (chosen pick q ts >>= r)
    exact_chosen K alive follow ts r h =
        let L : Lang = Then text value K in
        let K1 : A → Lang = λ a. Then (text2 a) (value2 a) K in
        subst (λ s. Exact L ts s) (sym (bind_bind (token_at pick ts) (λ x. q x.0 x.1) r))
        (transfer (Then (λ a. spell a ∷ []) (λ a. a) K1) L ts (token_at pick ts >>= λ x. q x.0 x.1 >>= r) (to K) (λ xs c e. back K xs c)
        (P.exact K1 (λ a. alive_then (text2 a) (value2 a) K (Q a).some alive) (λ a xs c s l. never_starts xs s) ts (λ x. q x.0 x.1 >>= r)
        (λ a rest le. (Q a).exact K alive (λ v xs c s. follow v xs c (more a xs s)) rest r (λ v end le2. h v end (less (length end) (length rest) (length ts) (least2 a) 1 le2 le)))))
