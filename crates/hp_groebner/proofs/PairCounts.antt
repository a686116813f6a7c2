-- The number of critical pairs of a list of leads: with one lead more, and of some of the leads.
use Rattle.std.specs.Prelude.{◌≡◌, ◌⊎◌, ℕ, zero, suc, ◌+◌, ◌≤◌, ◌==◌, true, false, cond, filter, List, [], ◌∷◌, ◌++◌, map, length, Contains, slice_get, Some}
use Rattle.std.proofs.lemmas.Bool.{eqb-true, eqb-false}
use Rattle.std.proofs.lemmas.List.{length-append, length-map}
use Rattle.std.proofs.lemmas.List.Elements.{Contains-append_cases, Contains-append_left, Contains-append_right}
use Rattle.std.proofs.lemmas.Option.{slice_get-get_or}
use mathlib.Core.Logic.{inl, inr}
use mathlib.Core.Path.{refl, sym, ap, ◌∙◌, subst}
use native.Mathlib.Omega.{arith}
use Rattle.hp_mono.specs.declared.term.Term.{Term}
use Rattle.hp_module.specs.CriticalPairs.{critical_pairs}

-- how many of the leads have a component
abbrev pub count : ℕ → List Term → ℕ
count c ts = length (filter (λ s. s.comp == c) ts)

abbrev one : ℕ → Term → ℕ
one c s = cond (s.comp == c) 1 0

count-cons : (c : ℕ) (s : Term) (ts : List Term) → count c (s ∷ ts) ≡ one c s + count c ts
count-cons c s ts =
    let rest = filter (λ (u : Term). u.comp == c) ts in
    elim (s.comp == c) as (λ b. length (cond b (s ∷ rest) rest) ≡ cond b 1 0 + length rest) [
      | true ↦ omega arith
      | false ↦ omega arith
    ]

-- two terms are counted for each other
one-back : (s t : Term) → one s.comp t ≡ one t.comp s
one-back s t =
    elim (t.comp == s.comp) as (λ b. (t.comp == s.comp) ≡ b → cond b 1 0 ≡ one t.comp s) [
      | true ↦ λ p. let e = eqb-true t.comp s.comp p in
          elim (s.comp == t.comp) as (λ b. (s.comp == t.comp) ≡ b → suc zero ≡ cond b 1 0) [
            | true ↦ λ q. refl
            | false ↦ λ q. absurd (eqb-false s.comp t.comp q (sym e))
          ] refl
      | false ↦ λ p. let n = eqb-false t.comp s.comp p in
          elim (s.comp == t.comp) as (λ b. (s.comp == t.comp) ≡ b → zero ≡ cond b 1 0) [
            | true ↦ λ q. absurd (n (sym (eqb-true s.comp t.comp q)))
            | false ↦ λ q. refl
          ] refl
    ] refl

abbrev pairs : List Term → ℕ
pairs ts = length (critical_pairs ts)

pairs-cons : (t : Term) (ts : List Term) → pairs (t ∷ ts) ≡ count t.comp ts + pairs ts
pairs-cons t ts =
    let row = filter (λ (s : Term). s.comp == t.comp) ts in
    length-append (map (λ s. (t, s)) row) (critical_pairs ts) ∙ ap (λ n. n + pairs ts) (length-map row (λ s. (t, s)))

count-split : (c : ℕ) (s : Term) (a b : List Term) → count c (a ++ s ∷ b) ≡ one c s + count c (a ++ b)
count-split c s [] b = count-cons c s b
count-split c s (t ∷ a) b =
    let e = count-cons c t (a ++ s ∷ b) in
    let f = count-cons c t (a ++ b) in
    let r = count-split c s a b in
    omega (arith, e, f, r)

-- the pairs of one lead, wherever it stands, and of the others
pairs-split : (s : Term) (a b : List Term) → pairs (a ++ s ∷ b) ≡ count s.comp (a ++ b) + pairs (a ++ b)
pairs-split s [] b = pairs-cons s b
pairs-split s (t ∷ a) b =
    let e = pairs-cons t (a ++ s ∷ b) in
    let f = pairs-cons t (a ++ b) in
    let g = count-split t.comp s a b in
    let h = count-cons s.comp t (a ++ b) in
    let o = one-back s t in
    let r = pairs-split s a b in
    omega (arith, e, f, g, h, o, r)

append_none : (ts : List Term) → ts ++ [] ≡ ts
append_none [] = refl
append_none (t ∷ ts) = ap (λ us. t ∷ us) (append_none ts)

-- A lead more has a pair with each lead of its component.
pub pairs-push : (ts : List Term) (t : Term)
    → length (critical_pairs (ts ++ t ∷ [])) ≡ length (critical_pairs ts) + length (filter (λ s. s.comp == t.comp) ts)
pairs-push ts t =
    let e = pairs-split t ts [] in
    let f = ap (count t.comp) (append_none ts) in
    let g = ap pairs (append_none ts) in
    omega (arith, e, f, g)

-- ---- some of the leads

module _ {X : Type 0} where
  abbrev pub NoneTwice : List X → Type 0
  NoneTwice [] = Unit {0}
  NoneTwice (x ∷ xs) = ¬ (Contains xs x) × NoneTwice xs

  cases : (x : X) (xs : List X) (z : X) → Contains (x ∷ xs) z → (x ≡ z) ⊎ Contains xs z
  cases x xs z (zero, l, e) = inl e
  cases x xs z (suc i, l, e) = inr (i, omega (arith, l), e)

  here : (x : X) (xs : List X) → Contains (x ∷ xs) x
  here x xs = (0, omega arith, refl)

  later : (x : X) (xs : List X) (z : X) → Contains xs z → Contains (x ∷ xs) z
  later x xs z (i, l, e) = (suc i, omega (arith, l), e)

  split_at : (ys : List X) (x : X) → Contains ys x → (a b : List X) × (ys ≡ a ++ x ∷ b)
  split_at [] x (i, l, e) = absurd (omega (arith, l))
  split_at (y ∷ ys) x c =
      elim (cases y ys x c) [
        | inl e ↦ ([], ys, ap (λ z. z ∷ ys) e)
        | inr m ↦ let r = split_at ys x m in (y ∷ r.0, r.1, ap (λ zs. y ∷ zs) r.2)
      ]

  others : (a b : List X) (x z : X) → Contains (a ++ x ∷ b) z → (x ≡ z) ⊎ Contains (a ++ b) z
  others a b x z c =
      elim (Contains-append_cases a (x ∷ b) z c) [
        | inl m ↦ inr (Contains-append_left a b z m)
        | inr m ↦ elim (cases x b z m) [
          | inl e ↦ inl e
          | inr n ↦ inr (Contains-append_right a b z n)
        ]
      ]

  -- each once, by places
  pub none-twice : (xs : List X)
      → ((i j : ℕ) (x : X) → slice_get xs i ≡ Some x → slice_get xs j ≡ Some x → i ≡ j) → NoneTwice xs
  none-twice [] f = tt
  none-twice (x ∷ xs) f = (
    λ c.
        let e = f 0 (suc c.0) x refl (slice_get-get_or xs c.0 x c.1 ∙ ap Some c.2) in
        omega (arith, e),
    none-twice xs (λ i j y p q. let e = f (suc i) (suc j) y p q in omega (arith, e)),
  )

  -- the others of a list without its first are members of a list without this one
  rest-within : (x : X) (xs a b : List X) → ¬ (Contains xs x) → ((z : X) → Contains (x ∷ xs) z → Contains (a ++ x ∷ b) z)
      → (z : X) → Contains xs z → Contains (a ++ b) z
  rest-within x xs a b n f z c =
      elim (others a b x z (f z (later x xs z c))) [
        | inl e ↦ absurd (n (subst (Contains xs) (sym e) c))
        | inr m ↦ m
      ]

count-fewer : (c : ℕ) (us ts : List Term) → NoneTwice us → ((z : Term) → Contains us z → Contains ts z)
    → count c us ≤ count c ts
count-fewer c [] ts n f = omega arith
count-fewer c (u ∷ us) ts n f =
    let s = split_at ts u (f u (here u us)) in
    let r = count-fewer c us (s.0 ++ s.1) n.1 (rest-within u us s.0 s.1 n.0 (λ z m. subst (λ zs. Contains zs z) s.2 (f z m))) in
    let e = count-cons c u us in
    let g = ap (count c) s.2 ∙ count-split c u s.0 s.1 in
    omega (arith, r, e, g)

-- Different leads of a list have no more pairs than the list.
pub pairs-fewer : (us ts : List Term) → NoneTwice us → ((z : Term) → Contains us z → Contains ts z)
    → length (critical_pairs us) ≤ length (critical_pairs ts)
pairs-fewer [] ts n f = omega arith
pairs-fewer (u ∷ us) ts n f =
    let s = split_at ts u (f u (here u us)) in
    let inside = rest-within u us s.0 s.1 n.0 (λ z m. subst (λ zs. Contains zs z) s.2 (f z m)) in
    let r = pairs-fewer us (s.0 ++ s.1) n.1 inside in
    let c = count-fewer u.comp us (s.0 ++ s.1) n.1 inside in
    let e = pairs-cons u us in
    let g = ap pairs s.2 ∙ pairs-split u s.0 s.1 in
    omega (arith, r, c, e, g)
