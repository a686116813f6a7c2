-- The cofactors that are kept are the minimal ones of those that were seen.
use Rattle.std.specs.Prelude.{◌≡◌, ◌⊎◌, ◌↔◌, ℕ, ◌+◌, ◌<◌, ◌≤◌, max, Bool, true, false, not, nat_le, IsTrue, List, [], ◌∷◌, ◌++◌, length, All, Contains, Some, slice_get}
use Rattle.std.proofs.Common.{get_or}
use Rattle.std.proofs.lemmas.Bool.{and_from, cases_lt, leb-true, leb-false}
use Rattle.std.proofs.lemmas.List.{get_or_default, get_or_read}
use Rattle.std.proofs.lemmas.List.Elements.{Contains-append_cases, Contains-append_left, Contains-append_right}
use Rattle.std.proofs.lemmas.List.Sums.{sum_by-cons}
use Rattle.std.proofs.lemmas.Option.{get_or_from_slice_get, slice_get_within}
use mathlib.Core.Logic.{inl, inr}
use mathlib.Core.Path.{refl, sym, ap, ◌∙◌, subst}
use native.Mathlib.Omega.{arith}
use Rattle.hp_lists.specs.Lists.{Ordered}
use Rattle.hp_lists.proofs.Members.{Contains-cases, Contains-filter, Contains-here, Contains-none, each-All, filter-Contains, first_true, second_true, not_both}
use Rattle.hp_lists.proofs.Ordered.{Ordered-at, Ordered-filter, Ordered-push}
use Rattle.hp_mono.specs.declared.term.Term.{Term}
use Rattle.hp_mono.specs.Digits.{EachAtMost}
use Rattle.hp_mono.specs.Monomials.{Divides, IsMonomial, Monomial, cofactor, degree, lcm, max_degree, one, product}
use Rattle.hp_mono.proofs.MonomialLaws.{divides-most, lcm_comm, most-divides, product-monomial, product-one, product_assoc}
use Rattle.hp_module.specs.Leads.{no_term}
use Rattle.hp_groebner.specs.KeptCofactors.{AreMonomials, IsCovered, IsKeptWith, divides, without_multiples}
use Rattle.hp_groebner.specs.PairQueues.{AreMinimalCofactors, IsCompanion, nth}

-- ---- divisibility

pub divides-itself : (a : Monomial) → IsMonomial a → Divides a a
divides-itself a l = (one, refl, product-one a l)

pub divides-chain : (a b c : Monomial) → Divides a b → Divides b c → Divides a c
divides-chain a b c (m, lm, p) (n, ln, q) =
    (product n m, product-monomial n m ln lm, product_assoc n m a ∙ ap (product n) p ∙ q)

at_most-true : (a b : Monomial) → divides a b ≡ true → EachAtMost a b
at_most-true [] b e = tt
at_most-true (x ∷ a) [] e = tt
at_most-true (x ∷ a) (y ∷ b) e =
    let l = nat_le x y in
    (leb-true x y (first_true l (divides a b) e), at_most-true a b (second_true l (divides a b) e))

true-at_most : (a b : Monomial) → EachAtMost a b → divides a b ≡ true
true-at_most [] b h = refl
true-at_most (x ∷ a) [] h = refl
true-at_most (x ∷ a) (y ∷ b) (l, h) = and_from (nat_le x y) (divides a b) (le (nat_le x y) refl) (true-at_most a b h)
  where
    le : (c : Bool) → nat_le x y ≡ c → nat_le x y ≡ true
    le true e = e
    le false e = absurd (let n = leb-false x y e in omega (arith, n, l))

-- the test is that of divisibility
pub divides-decided : (a b : Monomial) → IsMonomial a → IsMonomial b → (divides a b ≡ true) ↔ Divides a b
divides-decided a b la lb =
    (λ e. most-divides a b la lb (at_most-true a b e), λ d. true-at_most a b (divides-most a b la d))

-- the lcm has no higher degree than the product
pub degree-lcm : (a b : List ℕ) → degree (lcm a b) ≤ degree a + degree b
degree-lcm [] b = omega arith
degree-lcm (x ∷ a) [] = omega arith
degree-lcm (x ∷ a) (y ∷ b) =
    let r = degree-lcm a b in
    let s = sum_by-cons (λ n. n) (max x y) (lcm a b) in
    let t = sum_by-cons (λ n. n) x a in
    let u = sum_by-cons (λ n. n) y b in
    omega (arith, r, s, t, u)

-- ---- the minimal ones

abbrev AreApart : Monomial × ℕ → Monomial × ℕ → Type 0
AreApart x y = ¬ (Divides x.0 y.0) × ¬ (Divides y.0 x.0)

-- Of the monomials f j, with j in C, the minimal ones.
pub record AreMinimal (C : ℕ → Type 0) (f : ℕ → Monomial) (xs : List (Monomial × ℕ)) : Type 0 where
  pub each : (x : Monomial × ℕ) → Contains xs x → C x.1 × (x.0 ≡ f x.1) × IsMonomial x.0
  pub covered : (j : ℕ) → C j → IsCovered xs (f j)
  pub apart : Ordered AreApart xs

pub none-minimal : (C : ℕ → Type 0) (f : ℕ → Monomial) → ((j : ℕ) → ¬ (C j)) → AreMinimal C f []
none-minimal C f n = record {
  each = λ x c. absurd (Contains-none x c);
  covered = λ j c. absurd (n j c);
  apart = tt;
}

module _ (C D : ℕ → Type 0) (f : ℕ → Monomial) (more : (j : ℕ) → C j → D j) where
  -- no number more
  pub same-minimal : ((j : ℕ) → D j → C j) → (xs : List (Monomial × ℕ)) → AreMinimal C f xs → AreMinimal D f xs
  same-minimal h xs m = record {
    each = λ x c. let e = m.each x c in (more x.1 e.0, e.1, e.2);
    covered = λ j d. m.covered j (h j d);
    apart = m.apart;
  }

  module _ (i : ℕ) (is : D i) (monomial : IsMonomial (f i)) (other : (j : ℕ) → D j → C j ⊎ (j ≡ i))
      (xs : List (Monomial × ℕ)) (m : AreMinimal C f xs) where
    -- one that is kept divides the new one
    covered-minimal : IsCovered xs (f i) → AreMinimal D f xs
    covered-minimal v = record {
      each = λ x c. let e = m.each x c in (more x.1 e.0, e.1, e.2);
      covered = λ j d. elim (other j d) [ inl c ↦ m.covered j c | inr e ↦ subst (λ k. IsCovered xs (f k)) (sym e) v ];
      apart = m.apart;
    }

    module _ (none : ¬ (IsCovered xs (f i))) where
      not-true : (b : Bool) → not b ≡ true → b ≡ false
      not-true true e = absurd (not_both true refl (sym e))
      not-true false e = refl

      false-not : (b : Bool) → b ≡ false → not b ≡ true
      false-not b e = ap not e

      -- what stays was there, and the new one does not divide it
      stayed : (x : Monomial × ℕ) → Contains (without_multiples (f i) xs) x → Contains xs x × ¬ (Divides (f i) x.0)
      stayed x c =
          let r = filter-Contains (λ y. not (divides (f i) y.0)) xs x c in
          let e = divides-decided (f i) x.0 monomial (m.each x r.0).2 in
          (r.0, λ d. not_both (divides (f i) x.0) (e.1 d) (not-true (divides (f i) x.0) r.1))

      here : Contains (without_multiples (f i) xs ++ (f i, i) ∷ []) (f i, i)
      here = Contains-append_right (without_multiples (f i) xs) ((f i, i) ∷ []) (f i, i) (Contains-here (f i, i) [])

      -- what one that was kept divides
      still : (x : Monomial × ℕ) (p : Monomial) → Contains xs x → Divides x.0 p
          → IsCovered (without_multiples (f i) xs ++ (f i, i) ∷ []) p
      still x p c d = pick (divides (f i) x.0) refl
        where
          pick : (b : Bool) → divides (f i) x.0 ≡ b → IsCovered (without_multiples (f i) xs ++ (f i, i) ∷ []) p
          pick true e =
              ((f i, i), here, divides-chain (f i) x.0 p ((divides-decided (f i) x.0 monomial (m.each x c).2).0 e) d)
          pick false e =
              let k = Contains-filter (λ y. not (divides (f i) y.0)) xs x c (false-not (divides (f i) x.0) e) in
              (x, Contains-append_left (without_multiples (f i) xs) ((f i, i) ∷ []) x k, d)

      new-minimal : AreMinimal D f (without_multiples (f i) xs ++ (f i, i) ∷ [])
      new-minimal = record {
        each = λ x c. elim (Contains-append_cases (without_multiples (f i) xs) ((f i, i) ∷ []) x c) [
          | inl a ↦ let e = m.each x (stayed x a).0 in (more x.1 e.0, e.1, e.2)
          | inr b ↦ elim (Contains-cases (f i, i) [] x b) [
            | inl e ↦ subst (λ y. D y.1 × (y.0 ≡ f y.1) × IsMonomial y.0) e (is, refl, monomial)
            | inr n ↦ absurd (Contains-none x n)
          ]
        ];
        covered = λ j d. elim (other j d) [
          | inl c ↦ let v = m.covered j c in still v.0 (f j) v.1 v.2
          | inr e ↦ subst (λ k. IsCovered (without_multiples (f i) xs ++ (f i, i) ∷ []) (f k)) (sym e)
              ((f i, i), here, divides-itself (f i) monomial)
        ];
        apart = Ordered-push AreApart (without_multiples (f i) xs) (f i, i)
            (Ordered-filter AreApart (λ y. not (divides (f i) y.0)) xs m.apart)
            (λ y c. let r = stayed y c in ((λ d. none (y, r.0, d)), r.1));
      }

    -- one number more
    pub more-minimal : (ys : List (Monomial × ℕ)) → IsKeptWith xs (f i) i ys → AreMinimal D f ys
    more-minimal ys (inl (v, e)) = subst (AreMinimal D f) (sym e) (covered-minimal v)
    more-minimal ys (inr (n, e)) = subst (AreMinimal D f) (sym e) (new-minimal n)

-- ---- the cofactors of the companions

-- the companions among the first leads
abbrev pub IsEarlyCompanion : List Term → Term → ℕ → ℕ → Type 0
IsEarlyCompanion leads t i j = IsCompanion leads t j × (j < i)

abbrev pub cofactor_at : List Term → Term → ℕ → Monomial
cofactor_at leads t j = cofactor t.mono (nth leads j).mono

-- those of the first leads
abbrev pub AreMinimalAmong : List Term → Term → ℕ → List (Monomial × ℕ) → Type 0
AreMinimalAmong leads t i xs = AreMinimal (IsEarlyCompanion leads t i) (cofactor_at leads t) xs

pub minimal-all : (leads : List Term) (t : Term) (xs : List (Monomial × ℕ)) → AreMinimalAmong leads t (length leads) xs
    → AreMinimalCofactors leads t xs
minimal-all leads t xs m = record {
  each = each-All (λ x. IsCompanion leads t x.1 × (x.0 ≡ cofactor_at leads t x.1)) xs (λ x c. given x (m.each x c));
  covered = λ j c. m.covered j (c, c.within);
  minimal = places;
}
  where
    given : (x : Monomial × ℕ)
        → IsEarlyCompanion leads t (length leads) x.1 × (x.0 ≡ cofactor_at leads t x.1) × IsMonomial x.0
        → IsCompanion leads t x.1 × (x.0 ≡ cofactor_at leads t x.1)
    given x e = (e.0.0, e.1)

    at : (i : ℕ) (x d : Monomial × ℕ) → slice_get xs i ≡ Some x → get_or xs i d ≡ x
    at i x d p = get_or_from_slice_get xs i x d p

    both : (a b x y : Monomial × ℕ) → a ≡ x → b ≡ y → Divides x.0 y.0 → Divides a.0 b.0
    both a b x y e f d = subst (λ z. Divides z.0 b.0) (sym e) (subst (λ z. Divides x.0 z.0) (sym f) d)

    places : (i k : ℕ) (x y : Monomial × ℕ) → slice_get xs i ≡ Some x → slice_get xs k ≡ Some y → Divides x.0 y.0
        → i ≡ k
    places i k x y p r d =
        let h = both (get_or xs i x) (get_or xs k x) x y (at i x x p) (at k y x r) d in
        elim (cases_lt i k) [
          | inl l ↦ absurd ((Ordered-at AreApart xs i k x m.apart l (slice_get_within xs k y r)).0 h)
          | inr g ↦ elim (cases_lt k i) [
            | inl l ↦ absurd ((Ordered-at AreApart xs k i x m.apart l (slice_get_within xs i x p)).1 h)
            | inr l ↦ omega (arith, g, l)
          ]
        ]

module _ (leads : List Term) (t : Term) (i : ℕ) (x : Term) (l : i < length leads) (is : x ≡ get_or leads i x) where
  is_nth : x ≡ nth leads i
  is_nth = get_or_read leads i x l is no_term

  earlier : (j : ℕ) → IsEarlyCompanion leads t i j → IsEarlyCompanion leads t (i + 1) j
  earlier j c = (c.0, omega (arith, c.1))

  early-cases : (j : ℕ) → j < i + 1 → (j < i) ⊎ (j ≡ i)
  early-cases j b = elim (cases_lt j i) [ inl c ↦ inl c | inr c ↦ inr (omega (arith, b, c)) ]

  -- a lead of another component
  pub minimal-past : (x.comp ≡ t.comp → ⊥) → (xs : List (Monomial × ℕ)) → AreMinimalAmong leads t i xs
      → AreMinimalAmong leads t (i + 1) xs
  minimal-past n xs m =
      same-minimal (IsEarlyCompanion leads t i) (IsEarlyCompanion leads t (i + 1)) (cofactor_at leads t) earlier back xs
      m
    where
      back : (j : ℕ) → IsEarlyCompanion leads t (i + 1) j → IsEarlyCompanion leads t i j
      back j c = elim (early-cases j c.1) [
        | inl b ↦ (c.0, b)
        | inr e ↦ absurd (n (ap (λ s. s.comp) is_nth ∙ ap (λ k. (nth leads k).comp) (sym e) ∙ c.0.same_component))
      ]

  -- a lead of the component
  pub minimal-next : x.comp ≡ t.comp → IsMonomial (cofactor t.mono x.mono) → (xs ys : List (Monomial × ℕ))
      → IsKeptWith xs (cofactor t.mono x.mono) i ys → AreMinimalAmong leads t i xs → AreMinimalAmong leads t (i + 1) ys
  minimal-next same monomial xs ys k m =
      more-minimal (IsEarlyCompanion leads t i) (IsEarlyCompanion leads t (i + 1)) (cofactor_at leads t) earlier i
      (record { within = l; same_component = ap (λ s. s.comp) (sym is_nth) ∙ same }, omega arith)
      (subst (λ s. IsMonomial (cofactor t.mono s.mono)) is_nth monomial) other xs m ys
      (subst (λ s. IsKeptWith xs (cofactor t.mono s.mono) i ys) is_nth k)
    where
      other : (j : ℕ) → IsEarlyCompanion leads t (i + 1) j → IsEarlyCompanion leads t i j ⊎ (j ≡ i)
      other j c = elim (early-cases j c.1) [ inl b ↦ inl (c.0, b) | inr e ↦ inr e ]

  pub monomials-past : (x.comp ≡ t.comp → ⊥) → AreMonomials leads t i → AreMonomials leads t (i + 1)
  monomials-past n m j c b = elim (early-cases j b) [
    | inl e ↦ m j c e
    | inr e ↦ absurd (n (ap (λ s. s.comp) is_nth ∙ ap (λ k. (nth leads k).comp) (sym e) ∙ c.same_component))
  ]

  pub monomials-next : IsMonomial t.mono → IsMonomial x.mono → AreMonomials leads t i → AreMonomials leads t (i + 1)
  monomials-next ht hx m j c b = elim (early-cases j b) [
    | inl e ↦ m j c e
    | inr e ↦ (ht, subst (λ s. IsMonomial s.mono) (is_nth ∙ ap (nth leads) (sym e)) hx)
  ]

  -- the lcm with a lead can be kept
  pub lcm-small : All (λ s. degree s.mono + degree t.mono ≤ max_degree) leads → degree (lcm x.mono t.mono) ≤ max_degree
  lcm-small h =
      let a = subst (λ s. degree s.mono + degree t.mono ≤ max_degree) (sym is) (h i x l) in
      let b = degree-lcm x.mono t.mono in
      omega (arith, a, b)

  pub lcm-small_back : All (λ s. degree s.mono + degree t.mono ≤ max_degree) leads
      → degree (lcm t.mono x.mono) ≤ max_degree
  lcm-small_back h = subst (λ m. degree m ≤ max_degree) (lcm_comm x.mono t.mono) (lcm-small h)

pub none-covered : (xs : List (Monomial × ℕ)) (q : Monomial)
    → ((k : ℕ) → k < length xs → ¬ (Divides (get_or xs k (one, 0)).0 q)) → ¬ (IsCovered xs q)
none-covered xs q h (x, (k, l, e), d) =
    h k l (subst (λ y. Divides y.0 q) (sym e ∙ get_or_default xs k x (one, 0) l) d)

pub not-same : IsTrue false → ⊥
not-same e = not_both true refl (sym e)
