-- Vectors with zeros in the first block: their terms, the elimination order on them, and what a lead in the second block
-- says. Places of a list of selected members.
use Rattle.std.specs.Prelude.{◌≡◌, ◌≢◌, ℕ, zero, suc, ◌+◌, ◌<◌, ◌≤◌, ◌==◌, nat_le, Bool, true, false, cond, List, [], ◌∷◌, ◌++◌, map, filter, length, take, drop, replicate, All, Contains, Some, slice_get, slice_index_or}
use Rattle.std.specs.declared.cmp.Ordering.TheVariants.{Less, Equal, Greater}
use Rattle.std.specs.Ordering.{nat_cmp, ordering_then}
use Rattle.std.specs.Cmp.{nat_cmp_is}
use Rattle.std.proofs.lemmas.Bool.{cases_eq, cases_lt, eqb-true, leb-false, leb-true}
use Rattle.std.proofs.lemmas.List.{map-append}
use Rattle.std.proofs.lemmas.List.Elements.{All-contains, All-head, All-map, All-weaker, Contains-get_or}
use Rattle.std.proofs.lemmas.Option.{none-some, same_Some}
use mathlib.Core.Logic.{inl, inr}
use mathlib.Core.Path.{refl, sym, ap, ◌∙◌, subst}
use native.Mathlib.Omega.{arith}
use Rattle.hp_algebra.specs.Ring.{RingOf, IsRing, IsCommutative}
use Rattle.hp_lists.specs.Lists.{list_all}
use Rattle.hp_lists.proofs.Members.{Contains-map, first_true, map-Contains, second_true}
use Rattle.hp_mono.specs.declared.term.Term.{Term}
use Rattle.hp_mono.specs.Monomials.{grevlex}
use Rattle.hp_mono.specs.TermOrders.{TermDivides, times}
use Rattle.hp_poly.specs.Polynomials.{Poly}
use Rattle.hp_module.specs.Vectors.{Vector}
use Rattle.hp_module.specs.FreeModules.{terms, terms_from}
use Rattle.hp_module.specs.Leads.{IsGreatestTerm}
use Rattle.hp_module.specs.ElimOrders.{block, elimination_order}
use Rattle.hp_module.proofs.VectorSums.{entry_terms, later-components}
use Rattle.hp_der.specs.DerivationModules.{has_zero_block}

-- ---- places of a filtered list

module _ {X Y : Type 0} (p : X → Bool) (f : X → Y) where
  -- a place of the list whose member passes the test and has the image y
  pub record IsPlaceOf (xs : List X) (y : Y) (a : ℕ) : Type 0 where
    pub member : X
    pub at : slice_get xs a ≡ Some member
    pub image : f member ≡ y
    pub passes : p member ≡ true

  place-later : (x : X) (xs : List X) (y : Y) (a : ℕ) → IsPlaceOf xs y a → IsPlaceOf (x ∷ xs) y (suc a)
  place-later x xs y a r = record { member = r.member; at = r.at; image = r.image; passes = r.passes }

  place-first : (x : X) (xs : List X) (y : Y) → p x ≡ true → Some (f x) ≡ Some y → IsPlaceOf (x ∷ xs) y 0
  place-first x xs y c e = record { member = x; at = refl; image = same_Some (f x) y e; passes = c }

  one_place : (xs : List X) (j : ℕ) (y : Y) → slice_get (map f (filter p xs)) j ≡ Some y → (a : ℕ) × IsPlaceOf xs y a
  one_place [] j y e = absurd (none-some y e)
  one_place (x ∷ xs) j y e = pick (p x) refl j e (one_place xs)
    where
      pick : (c : Bool) → p x ≡ c → (j : ℕ) → slice_get (map f (cond c (x ∷ filter p xs) (filter p xs))) j ≡ Some y
          → ((i : ℕ) (z : Y) → slice_get (map f (filter p xs)) i ≡ Some z → (a : ℕ) × IsPlaceOf xs z a)
          → (a : ℕ) × IsPlaceOf (x ∷ xs) y a
      pick true c zero e rec = (0, place-first x xs y c e)
      pick true c (suc j) e rec = let r = rec j y e in (suc r.0, place-later x xs y r.0 r.1)
      pick false c j e rec = let r = rec j y e in (suc r.0, place-later x xs y r.0 r.1)

  -- two places of the images of the members that pass come, in the same order, from places of the list
  pub filtered_places : (xs : List X) (i j : ℕ) (y z : Y) → i < j → slice_get (map f (filter p xs)) i ≡ Some y
      → slice_get (map f (filter p xs)) j ≡ Some z → (a b : ℕ) × (a < b) × IsPlaceOf xs y a × IsPlaceOf xs z b
  filtered_places [] i j y z l e g = absurd (none-some y e)
  filtered_places (x ∷ xs) i j y z l e g = pick (p x) refl i j l e g (filtered_places xs)
    where
      pick : (c : Bool) → p x ≡ c → (i j : ℕ) → i < j
          → slice_get (map f (cond c (x ∷ filter p xs) (filter p xs))) i ≡ Some y
          → slice_get (map f (cond c (x ∷ filter p xs) (filter p xs))) j ≡ Some z
          → ((i j : ℕ) (y z : Y) → i < j → slice_get (map f (filter p xs)) i ≡ Some y → slice_get (map f (filter p xs)) j ≡ Some z
          → (a b : ℕ) × (a < b) × IsPlaceOf xs y a × IsPlaceOf xs z b)
          → (a b : ℕ) × (a < b) × IsPlaceOf (x ∷ xs) y a × IsPlaceOf (x ∷ xs) z b
      pick true c i zero l e g rec = absurd (omega (arith, l))
      pick true c zero (suc j) l e g rec =
          let r = one_place xs j z g in (0, suc r.0, omega arith, place-first x xs y c e, place-later x xs z r.0 r.1)
      pick true c (suc i) (suc j) l e g rec =
          let r = rec i j y z (omega (arith, l)) e g in
          (suc r.0, suc r.1, (let m = r.2 in omega (arith, m)), place-later x xs y r.0 r.3, place-later x xs z r.1 r.4)
      pick false c i j l e g rec =
          let r = rec i j y z l e g in
          (suc r.0, suc r.1, (let m = r.2 in omega (arith, m)), place-later x xs y r.0 r.3, place-later x xs z r.1 r.4)

-- ---- the elimination order on the second block

-- the term, n components later
abbrev pub up : ℕ → Term → Term
up n t = record { mono = t.mono; comp = n + t.comp }

pub up-same : (n : ℕ) (s t : Term) → up n s ≡ up n t → s ≡ t
up-same n s t e =
    let q = ap (λ u. u.comp) e in
    let c : s.comp ≡ t.comp = omega (arith, q) in
    let m = ap (λ u. u.mono) e in
    λ i. record { mono = m i; comp = c i }

pub up-divides : (n : ℕ) (s t : Term) → TermDivides s t → TermDivides (up n s) (up n t)
up-divides n s t d = (d.0, d.1, ap (up n) d.2)

pub down-divides : (n : ℕ) (s t : Term) → TermDivides (up n s) (up n t) → TermDivides s t
down-divides n s t d = (d.0, d.1, up-same n (times d.0 s) t d.2)

pub compare-up : (n x y : ℕ) → nat_cmp (n + x) (n + y) ≡ nat_cmp x y
compare-up n x y = elim (cases_lt x y) [
  | inl l ↦ sym (nat_cmp_is (n + x) (n + y) Less (omega (arith, l))) ∙ nat_cmp_is x y Less l
  | inr g ↦ elim (cases_eq x y) [
    | inl e ↦ sym (nat_cmp_is (n + x) (n + y) Equal (ap (λ z. n + z) e)) ∙ nat_cmp_is x y Equal e
    | inr o ↦
        let m : y < x = omega (arith, g, o) in
        sym (nat_cmp_is (n + x) (n + y) Greater (omega (arith, m))) ∙ nat_cmp_is x y Greater m
  ]
]

abbrev block-number : Bool → ℕ
block-number b = cond b 0 1

block-high : (n c : ℕ) → n < c → block n c ≡ 1
block-high n c l = pick (nat_le c n) refl
  where
    pick : (b : Bool) → nat_le c n ≡ b → block-number (nat_le c n) ≡ 1
    pick true e = let h = leb-true c n e in absurd (omega (arith, h, l))
    pick false e = ap block-number e

block-low : (n c : ℕ) → c ≤ n → block n c ≡ 0
block-low n c l = pick (nat_le c n) refl
  where
    pick : (b : Bool) → nat_le c n ≡ b → block-number (nat_le c n) ≡ 0
    pick true e = ap block-number e
    pick false e = let h = leb-false c n e in absurd (omega (arith, h, l))

-- on the second block the order with split n is that with split 0
pub order-up : (n : ℕ) (s t : Term) → 1 ≤ s.comp → 1 ≤ t.comp
    → elimination_order n (up n s) (up n t) ≡ elimination_order 0 s t
order-up n s t ls lt =
    let bt = block-high n (n + t.comp) (omega (arith, lt)) ∙ sym (block-high 0 t.comp (omega (arith, lt))) in
    let bs = block-high n (n + s.comp) (omega (arith, ls)) ∙ sym (block-high 0 s.comp (omega (arith, ls))) in
    let c = compare-up n t.comp s.comp in
    λ i. ordering_then (nat_cmp (bt i) (bs i)) (ordering_then (grevlex s.mono t.mono) (c i))

-- a term of the second block is below one of the first
first-above : (n : ℕ) (u s : Term) → n < u.comp → s.comp ≤ n → elimination_order n u s ≡ Less
first-above n u s lu ls =
    let bs = block-low n s.comp ls in
    let bu = block-high n u.comp lu in
    let rest = ordering_then (grevlex u.mono s.mono) (nat_cmp s.comp u.comp) in
    (λ i. ordering_then (nat_cmp (bs i) (bu i)) rest) ∙ ap (λ r. ordering_then r rest) (sym (nat_cmp_is 0 1 Less (omega arith)))

-- ---- vectors with first block zero

-- such a vector is its second block after zeros
pub block-zeros : {F : Type 0} (n : ℕ) (v : Vector F) → n ≤ length v → has_zero_block n v ≡ true
    → replicate n [] ++ drop n v ≡ v
block-zeros zero [] l e = refl
block-zeros zero (p ∷ v) l e = refl
block-zeros (suc n) [] l e = absurd (omega (arith, l))
block-zeros {F} (suc n) (p ∷ v) l e =
    let h = empty p (first_true (length p == 0) _ e) in
    let r = block-zeros n v (omega (arith, l)) (second_true (length p == 0) _ e) in
    λ i. h i ∷ r i
  where
    empty : (p : Poly F) → (length p == 0) ≡ true → [] ≡ p
    empty [] e = refl
    empty (t ∷ p) e = let z = eqb-true (suc (length p)) 0 e in absurd (omega (arith, z))

module _ {F : Type 0} where
  abbrev later : ℕ → List (Term × F) → List (Term × F)
  later n xs = map (λ t. (up n t.0, t.1)) xs

  entry-later : (n c : ℕ) (p : Poly F) → entry_terms (n + c) p ≡ later n (entry_terms c p)
  entry-later n c [] = refl
  entry-later n c (t ∷ p) = ap (λ zs. (record { mono = t.0; comp = n + c }, t.1) ∷ zs) (entry-later n c p)

  terms-later : (n c : ℕ) (v : Vector F) → terms_from (n + c) v ≡ later n (terms_from c v)
  terms-later n c [] = refl
  terms-later n c (p ∷ v) =
      let e : (n + c) + 1 ≡ n + (c + 1) = omega arith in
      (λ i. entry-later n c p i ++ (ap (λ k. terms_from k v) e ∙ terms-later n (c + 1) v) i)
      ∙ sym (map-append (λ (t : Term × F). (up n t.0, t.1)) (entry_terms c p) (terms_from (c + 1) v))

  terms-zeros : (k n : ℕ) (v : Vector F) → terms_from k (replicate n [] ++ v) ≡ terms_from (n + k) v
  terms-zeros k zero v = let e : k ≡ 0 + k = omega arith in ap (λ c. terms_from c v) e
  terms-zeros k (suc n) v = let e : n + (k + 1) ≡ suc n + k = omega arith in terms-zeros (k + 1) n v ∙ ap (λ c. terms_from c v) e

  -- the terms after a zero block
  pub padded-terms : (n : ℕ) (v : Vector F) → terms (replicate n [] ++ v) ≡ map (λ t. (up n t.0, t.1)) (terms v)
  padded-terms n v = terms-zeros 1 n v ∙ terms-later n 1 v

  pub padded-Contains : (n : ℕ) (v : Vector F) (t : Term) (c : F) → Contains (terms v) (t, c)
      → Contains (terms (replicate n [] ++ v)) (up n t, c)
  padded-Contains n v t c o =
      subst (λ xs. Contains xs (up n t, c)) (sym (padded-terms n v)) (Contains-map (λ (s : Term × F). (up n s.0, s.1)) (terms v) (t, c) o)

  block-from : (k m : ℕ) (v : Vector F) → All (λ t. k + m ≤ t.0.comp) (terms_from k v) → list_all (λ p. length p == 0) (take m v) ≡ true
  block-from k zero [] h = refl
  block-from k zero (p ∷ v) h = refl
  block-from k (suc m) [] h = refl
  block-from k (suc m) ((t ∷ p) ∷ v) h =
      let l = All-head (λ (s : Term × F). k + suc m ≤ s.0.comp) (record { mono = t.0; comp = k }, t.1) _ h in
      absurd (omega (arith, l))
  block-from k (suc m) ([] ∷ v) h =
      block-from (k + 1) m v (All-weaker (λ (s : Term × F). k + suc m ≤ s.0.comp) (λ s. (k + 1) + m ≤ s.0.comp) (λ s l. omega (arith, l)) (terms_from (k + 1) v) h)

  -- a vector with its lead in the second block has first block zero
  pub second-block : (n : ℕ) (v : Vector F) (u : Term) (c : F) → IsGreatestTerm (elimination_order n) v u c → n < u.comp
      → has_zero_block n v ≡ true
  second-block n v u c g l =
      block-from 1 n v (All-weaker (λ (s : Term × F). elimination_order n u s.0 ≢ Less) (λ s. 1 + n ≤ s.0.comp)
      (λ s h. elim (cases_lt n s.0.comp) [ inl high ↦ omega (arith, high) | inr low ↦ absurd (h (first-above n u s.0 l low)) ])
      (terms v) g.greatest)

module _ {F : Type 0} {ring : RingOf F} (laws : IsRing ring) (commutes : IsCommutative ring) where
  -- with split n and split 0 the leads are the same
  pub lead-up : (n : ℕ) (v : Vector F) (t : Term) (c : F) → IsGreatestTerm (elimination_order 0) v t c
      → IsGreatestTerm (elimination_order n) (replicate n [] ++ v) (up n t) c
  lead-up n v t c g =
      let low = later-components laws commutes 1 v in
      let tc = All-contains (λ (s : Term × F). 1 ≤ s.0.comp) (terms v) (t, c) low g.occurs in
      record {
        occurs = padded-Contains n v t c g.occurs;
        greatest = subst (All (λ s. elimination_order n (up n t) s.0 ≢ Less)) (sym (padded-terms n v))
            (All-map (λ (s : Term × F). elimination_order n (up n t) s.0 ≢ Less) (λ s. (up n s.0, s.1)) (terms v)
            (λ i d l e. g.greatest i d l (sym (order-up n t (slice_index_or (terms v) i d).0 tc (low i d l)) ∙ e)));
      }

  pub lead-down : (n : ℕ) (v : Vector F) (u : Term) (c : F) → IsGreatestTerm (elimination_order n) (replicate n [] ++ v) u c
      → (t : Term) × (up n t ≡ u) × IsGreatestTerm (elimination_order 0) v t c
  lead-down n v u c g =
      let low = later-components laws commutes 1 v in
      let o = map-Contains (λ (s : Term × F). (up n s.0, s.1)) (terms v) (u, c) (subst (λ xs. Contains xs (u, c)) (padded-terms n v) g.occurs) in
      let t : Term = o.0.0 in
      let e : up n t ≡ u = ap (λ x. x.0) o.2 in
      let same : o.0 ≡ (t, c) = λ i. (t, ap (λ x. x.1) o.2 i) in
      let occ : Contains (terms v) (t, c) = subst (Contains (terms v)) same o.1 in
      let tc = All-contains (λ (s : Term × F). 1 ≤ s.0.comp) (terms v) (t, c) low occ in (
        t,
        e,
        record {
          occurs = occ;
          greatest = λ i d l f.
              let x = slice_index_or (terms v) i d in
              All-contains (λ (s : Term × F). elimination_order n u s.0 ≢ Less) (terms (replicate n [] ++ v)) (up n x.0, x.1) g.greatest
              (padded-Contains n v x.0 x.1 (Contains-get_or (terms v) i d l))
              (ap (λ y. elimination_order n y (up n x.0)) (sym e) ∙ order-up n t x.0 tc (low i d l) ∙ f);
        },
      )
