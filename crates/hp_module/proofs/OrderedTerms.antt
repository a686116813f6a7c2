-- Terms in a term order: chains, multiples, and how many terms of a degree are below one.
use Rattle.std.specs.Prelude.{◌≡◌, ◌≢◌, ℕ, zero, suc, ◌+◌, ◌<◌, ◌≤◌, max, Bool, true, false, cond, List, [], ◌∷◌, map, length, All, Contains}
use Rattle.std.specs.declared.cmp.Ordering.{Ordering}
use Rattle.std.specs.declared.cmp.Ordering.TheVariants.{Less, Equal, Greater}
use Rattle.std.specs.Ordering.{is_lt, ordering_reverse}
use Rattle.std.proofs.lemmas.List.Elements.{All-nil, All-cons, All-head, All-tail, All-weaker}
use Rattle.std.proofs.lemmas.List.Sums.{sum_by-cons}
use mathlib.Core.Logic.{inl, inr}
use mathlib.Core.Path.{refl, sym, ap, ◌∙◌, subst}
use native.Mathlib.Omega.{arith}
use Rattle.hp_lists.specs.Lists.{below, one_to, words_over}
use Rattle.hp_lists.proofs.Members.{Contains-cases, Contains-flat_map, Contains-here, Contains-map, Contains-none, each-All, flat_map-Contains, map-Contains}
use Rattle.hp_lists.proofs.Ranges.{members_below, members_range, range_members}
use Rattle.hp_mono.specs.declared.term.Term.{Term}
use Rattle.hp_mono.specs.Monomials.{Monomial, IsMonomial, degree, vars}
use Rattle.hp_mono.specs.TermOrders.{IsTermOrder, IsTermWithin, times}
use Rattle.hp_mono.proofs.MonomialLaws.{degree_product}
use Rattle.hp_mono.proofs.TermLaws.{times-within}
use Rattle.hp_module.specs.FreeModules.{FreeModule, IsFreeModule, degree_of}
use Rattle.hp_module.specs.Divisions.{height, peak, tally, terms_up_to}

-- ---- chains

module _ {width : ℕ} {cmp : Term → Term → Ordering} (order : IsTermOrder width cmp) where
  abbrev In : Term → Type 0
  In t = IsTermWithin width t

  pub less-back : (s t : Term) → In s → In t → cmp s t ≡ Greater → cmp t s ≡ Less
  less-back s t hs ht e = order.opposite t s ht hs ∙ ap ordering_reverse e

  pub greater-back : (s t : Term) → In s → In t → cmp s t ≡ Less → cmp t s ≡ Greater
  greater-back s t hs ht e = order.opposite t s ht hs ∙ ap ordering_reverse e

  pub not_less-itself : (t : Term) → In t → cmp t t ≢ Less
  not_less-itself t h e = let i = order.itself t h in cc

  -- multiples keep "not below"
  pub times-not_less : (m : Monomial) (s t : Term) → IsMonomial m → In s → In t → cmp s t ≢ Less
      → cmp (times m s) (times m t) ≢ Less
  times-not_less m s t im hs ht n e =
      elim (cmp s t) as (λ r. cmp s t ≡ r → ⊥) [
        | Less ↦ λ p. n p
        | Equal ↦ λ p. not_less-itself (times m t) (times-within width m t im ht)
            (ap (λ u. cmp (times m u) (times m t)) (sym (order.same s t hs ht p)) ∙ e)
        | Greater ↦ λ p.
            let g = greater-back (times m t) (times m s) (times-within width m t im ht) (times-within width m s im hs) (order.keeps_products m t s im ht hs (less-back s t hs ht p)) in
            let x : Greater ≡ Less = sym g ∙ e in
            cc
      ] refl

  -- what is below something not above t is not above t
  pub less-not_greater : (r s t : Term) → In r → In s → In t → cmp r s ≡ Less → cmp s t ≢ Greater → cmp r t ≡ Less
  less-not_greater r s t hr hs ht l n =
      elim (cmp s t) as (λ o. cmp s t ≡ o → cmp r t ≡ Less) [
        | Less ↦ λ p. order.transitive r s t hr hs ht l p
        | Equal ↦ λ p. ap (cmp r) (sym (order.same s t hs ht p)) ∙ l
        | Greater ↦ λ p. absurd (n p)
      ] refl

  pub not_greater-chain : (r s t : Term) → In r → In s → In t → cmp r s ≢ Greater → cmp s t ≢ Greater
      → cmp r t ≢ Greater
  not_greater-chain r s t hr hs ht n m =
      elim (cmp r s) as (λ o. cmp r s ≡ o → cmp r t ≢ Greater) [
        | Less ↦ λ p e. let x = less-not_greater r s t hr hs ht p m in let y : Less ≡ Greater = sym x ∙ e in absurd (cc)
        | Equal ↦ λ p. subst (λ u. cmp u t ≢ Greater) (sym (order.same r s hr hs p)) m
        | Greater ↦ λ p. absurd (n p)
      ] refl

  -- not below is the same as not above the other way
  pub not_less-back : (s t : Term) → In s → In t → cmp s t ≢ Less → cmp t s ≢ Greater
  not_less-back s t hs ht n e = n (less-back t s ht hs e)

-- ---- counting

one_le : (a b : Bool) (m n : ℕ) → (a ≡ true → b ≡ true) → m ≤ n → cond a 1 0 + m ≤ cond b 1 0 + n
one_le true true m n h l = omega arith
one_le true false m n h l = let x = h refl in absurd (cc)
one_le false true m n h l = omega arith
one_le false false m n h l = omega arith

one_lt : (a b : Bool) (m n : ℕ) → (a ≡ true → b ≡ true) → m < n → cond a 1 0 + m < cond b 1 0 + n
one_lt true true m n h l = omega arith
one_lt true false m n h l = let x = h refl in absurd (cc)
one_lt false true m n h l = omega arith
one_lt false false m n h l = omega arith

one_more : (a b : Bool) (m n : ℕ) → a ≡ false → b ≡ true → m ≤ n → cond a 1 0 + m < cond b 1 0 + n
one_more true b m n e f l = absurd (cc)
one_more false true m n e f l = omega arith
one_more false false m n e f l = absurd (cc)

module _ {X : Type 0} where
  abbrev Implies : (X → Bool) → (X → Bool) → X → Type 0
  Implies p q x = p x ≡ true → q x ≡ true

  pub tally-most : (p q : X → Bool) (xs : List X) → All (Implies p q) xs → tally p xs ≤ tally q xs
  tally-most p q [] h = omega arith
  tally-most p q (x ∷ xs) h =
      one_le (p x) (q x) _ _ (All-head (Implies p q) x xs h) (tally-most p q xs (All-tail (Implies p q) x xs h))

  -- a test that one more member passes
  pub tally-less : (p q : X → Bool) (xs : List X) (x : X) → Contains xs x → p x ≡ false → q x ≡ true
      → All (Implies p q) xs → tally p xs < tally q xs
  tally-less p q [] x c f t h = absurd (Contains-none x c)
  tally-less p q (y ∷ xs) x c f t h =
      let rest = All-tail (Implies p q) y xs h in
      elim (Contains-cases y xs x c) [
        | inl e ↦ one_more (p y) (q y) _ _ (ap p e ∙ f) (ap q e ∙ t) (tally-most p q xs rest)
        | inr d ↦ one_lt (p y) (q y) _ _ (All-head (Implies p q) y xs h) (tally-less p q xs x d f t rest)
      ]

-- ---- the terms up to a degree

words-with : (k n : ℕ) (w : List ℕ) → length w ≡ k → degree w ≤ n → Contains (words_over (below (n + 1)) k) w
words-with zero n [] e l = Contains-here [] []
words-with zero n (x ∷ w) e l = absurd (omega arith)
words-with (suc k) n [] e l = absurd (omega arith)
words-with (suc k) n (x ∷ w) e l =
    let c = sum_by-cons (λ m. m) x w in
    let rest = words-with k n w (omega arith) (omega (arith, c, l)) in
    Contains-flat_map (λ y. map (λ v. y ∷ v) (words_over (below (n + 1)) k)) (below (n + 1)) x (x ∷ w)
    (members_below x (n + 1) (omega (arith, c, l))) (Contains-map (λ v. x ∷ v) (words_over (below (n + 1)) k) w rest)

words-length : (k : ℕ) (ys w : List ℕ) → Contains (words_over ys k) w → length w ≡ k
words-length zero ys w c = elim (Contains-cases [] [] w c) [ inl e ↦ ap length (sym e) | inr d ↦ absurd (Contains-none w d) ]
words-length (suc k) ys w c =
    let f = flat_map-Contains (λ y. map (λ v. y ∷ v) (words_over ys k)) ys w c in
    let m = map-Contains (λ v. f.0 ∷ v) (words_over ys k) w f.2 in
    ap length (sym m.2) ∙ ap suc (words-length k ys m.0 m.1)

abbrev of_component : ℕ → ℕ → List Term
of_component n c = map (λ m. record { mono = m; comp = c }) (words_over (below (n + 1)) vars)

pub Contains-terms : (width n : ℕ) (t : Term) → IsTermWithin width t → degree t.mono ≤ n
    → Contains (terms_up_to width n) t
Contains-terms width n t h l =
    Contains-flat_map (of_component n) (one_to width) t.comp t (members_range t.comp 1 width h.1 (omega (arith, h.2)))
    (Contains-map (λ m. let u : Term = record { mono = m; comp = t.comp } in u) (words_over (below (n + 1)) vars) t.mono (words-with vars n t.mono h.0 l))

pub terms-Contains : (width n : ℕ) (t : Term) → Contains (terms_up_to width n) t → IsTermWithin width t
terms-Contains width n t c =
    let f = flat_map-Contains (of_component n) (one_to width) t c in
    let r = range_members f.0 1 width f.1 in
    let m = map-Contains (λ m. let u : Term = record { mono = m; comp = f.0 } in u) (words_over (below (n + 1)) vars) t f.2 in
    let w = words-length vars (below (n + 1)) m.0 m.1 in
    subst (IsTermWithin width) m.2 (w, r.0, omega (arith, r.1))

less_from : (r : Ordering) → is_lt r ≡ true → r ≡ Less
less_from Less e = refl
less_from Equal e = absurd (cc)
less_from Greater e = absurd (cc)

module _ {F : Type 0} (M : FreeModule F) where
  open M use {width, cmp}

  pub degree-times : (m : Monomial) (t : Term) → IsMonomial m → IsMonomial t.mono
      → degree_of M (times m t) ≡ degree m + degree_of M t
  degree-times m t im it = let d = degree_product vars m t.mono im it in omega (arith, d)

  -- a term below another of its degree has a smaller height
  pub height-less : IsFreeModule M → (s t : Term) → IsTermWithin width s → IsTermWithin width t
      → degree_of M s ≡ degree_of M t → cmp s t ≡ Less → height M s < height M t
  height-less L s t hs ht e l =
      let n = degree_of M t in
      let low : degree s.mono ≤ n = omega (arith, e) in
      let all : List Term = terms_up_to width n in
      let i = L.order.itself s hs in
      let p : Term → Bool = λ u. is_lt (cmp u s) in
      let q : Term → Bool = λ u. is_lt (cmp u t) in
      let implies : All (λ u. p u ≡ true → q u ≡ true) all =
      each-All (λ u. p u ≡ true → q u ≡ true) all (λ u c f. ap is_lt (L.order.transitive u s t (terms-Contains width n u c) hs ht (less_from (cmp u s) f) l)) in
      subst (λ k. tally p (terms_up_to width k) < tally q all) (sym e)
      (tally-less p q all s (Contains-terms width n s hs low) (ap is_lt i) (ap is_lt l) implies)

  -- every term is below the peak, and the peak is at most a bound above all terms
  pub peak-above : (xs : List (Term × F)) → All (λ x. height M x.0 < peak M xs) xs
  peak-above [] = All-nil (λ (x : Term × F). height M x.0 < 0)
  peak-above (x ∷ xs) =
      let P : Term × F → Type 0 = λ y. height M y.0 < peak M (x ∷ xs) in
      All-cons P x xs (first (height M x.0) (peak M xs))
      (All-weaker (λ (y : Term × F). height M y.0 < peak M xs) P (λ y l. later (height M y.0) (height M x.0) (peak M xs) l) xs (peak-above xs))
    where
      first : (a b : ℕ) → a < max (a + 1) b
      first a b = omega arith

      later : (a b c : ℕ) → a < c → a < max (b + 1) c
      later a b c l = omega arith

  pub peak-most : (xs : List (Term × F)) (n : ℕ) → All (λ x. height M x.0 < n) xs → peak M xs ≤ n
  peak-most [] n h = omega arith
  peak-most (x ∷ xs) n h =
      let P : Term × F → Type 0 = λ y. height M y.0 < n in
      both (height M x.0) (peak M xs) (All-head P x xs h) (peak-most xs n (All-tail P x xs h))
    where
      both : (a b : ℕ) → a < n → b ≤ n → max (a + 1) b ≤ n
      both a b l m = omega arith
