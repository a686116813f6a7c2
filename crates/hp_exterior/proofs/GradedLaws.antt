-- The wedge product commutes up to sign, and elements of odd degree square to zero.
use Rattle.std.specs.Prelude.{◌≡◌, ℕ, zero, suc, ◌+◌, ◌*◌, ◌%◌, ◌<◌, ◌≤◌, nat_lt, Bool, true, false, cond, ◌||◌, [], ◌∷◌, ◌++◌, length, Contains, All, slice_index_or, sum_by}
use Rattle.std.proofs.lemmas.Bool.{lt-ltb, le-ltb, cases_lt}
use Rattle.std.proofs.lemmas.List.Elements.{All-head, All-tail}
use mathlib.Core.Logic.{inl, inr}
use mathlib.Core.Path.{refl, sym, ap, ◌∙◌, subst}
use native.Mathlib.Omega.{arith}
use Rattle.hp_algebra.specs.Ring.{RingOf, IsRing, IsCommutative}
use Rattle.hp_algebra.proofs.Rings.{mul_zero, neg_neg, zero_add}
use Rattle.hp_lists.proofs.Members.{Contains-here}
use Rattle.hp_lists.proofs.NaturalSums.{one_if, sum_by-add, sum_by-constant, sum_by-ext, sum_by-swap}
use Rattle.hp_sets.specs.Sets.{Set, IsSetWithin, contains, union}
use Rattle.hp_sets.proofs.SetLaws.{those-ext}
use Rattle.hp_sums.specs.FiniteSums.{HasValues}
use Rattle.hp_sums.proofs.SumSetting.{SumSetting}
use Rattle.hp_sums.proofs.Collected.{nothing-IsSum}
use Rattle.hp_sums.proofs.WeightedSums.{weighted, weighted-add, weighted-mul, weighted_ext, weighted_swap}
use Rattle.hp_exterior.specs.Exterior.{Ext, IsExt, IsOfDegree, ext_signed, inversions, meets, sign, wedge}
use Rattle.hp_exterior.specs.ExteriorSetting.{ext_setting}
use Rattle.hp_exterior.specs.ExteriorRing.{ext-values, of_wedge, sign-add, sign-value, wedge-IsExt}
use Rattle.hp_exterior.specs.SetSums.{AreApart, apart-meets, below_in, crossings_of, inversions-sets, meets_sym}
use Rattle.hp_exterior.proofs.BoundaryLaws.{at-ext_signed, signed, signed-IsSum}
use Rattle.hp_exterior.proofs.ElementFunctionals.{at-minus, at-value, at-wedge_of, at_product, ext_by_at, product-value}
use Rattle.hp_exterior.proofs.Negations.{both_sides, minus_one, mul_neg}
use Rattle.hp_exterior.proofs.ProductSteps.{parity, sign_odd}
use Rattle.hp_exterior.proofs.WedgeFunctionals.{sign_next}

-- ---- signs of the two orders

-- each pair of members of two sets without a common one is an inversion in one of the two orders
pub crossings-both : (s t : Set) → AreApart s t → crossings_of s t + crossings_of t s ≡ length s * length t
crossings-both s t h =
    let above : ℕ → ℕ = λ i. sum_by (λ y. one_if (nat_lt i y)) t in
    let turn : crossings_of t s ≡ sum_by above s = sum_by-swap (λ y i. one_if (nat_lt i y)) t s in
    let join = sum_by-add (below_in t) above s in
    let each : sum_by (λ i. below_in t i + above i) s ≡ sum_by (λ i. length t) s =
    sum_by-ext (λ i. below_in t i + above i) (λ i. length t) s (λ i c. row i c) in
    omega (arith, turn, join, each, sum_by-constant (length t) s)
  where
    one : (i y : ℕ) → (y ≡ i → ⊥) → one_if (nat_lt y i) + one_if (nat_lt i y) ≡ 1
    one i y n = elim (cases_lt y i) [
      | inl l ↦ (λ k. one_if (lt-ltb y i l k) + one_if (le-ltb i y (weak y i l) k))
      | inr l ↦ (λ k. one_if (le-ltb y i l k) + one_if (lt-ltb i y (strict l) k))
    ]
      where
        weak : (y i : ℕ) → y < i → y ≤ i
        weak y i l = omega arith

        strict : i ≤ y → i < y
        strict l = omega arith

    row : (i : ℕ) → Contains s i → below_in t i + sum_by (λ y. one_if (nat_lt i y)) t ≡ length t
    row i c =
        let a = sum_by-add (λ y. one_if (nat_lt y i)) (λ y. one_if (nat_lt i y)) t in
        let b = sum_by-ext (λ y. one_if (nat_lt y i) + one_if (nat_lt i y)) (λ y. 1) t
        (λ y d. one i y (λ e. h i c (same y i e d))) in
        omega (arith, a, b, sum_by-constant 1 t)
      where
        same : (y i : ℕ) → y ≡ i → Contains t y → Contains t i
        same y i e d = subst (Contains t) e d

pub inversions-both : (s t : Set) → IsSetWithin 64 s → IsSetWithin 64 t → meets s t ≡ false
    → inversions (s ++ t) + inversions (t ++ s) ≡ length s * length t
inversions-both s t p q e =
    omega (arith, inversions-sets s t p q, inversions-sets t s q p, crossings-both s t (apart-meets s t e))

union_comm : (s t : Set) → union s t ≡ union t s
union_comm s t = those-ext (λ i. contains s i || contains t i) (λ i. contains t i || contains s i) (λ i _ _. or_comm (contains s i) (contains t i))
  where
    or_comm : (a b : Bool) → (a || b) ≡ (b || a)
    or_comm true true = refl
    or_comm true false = refl
    or_comm false true = refl
    or_comm false false = refl

odd_square : (k : ℕ) → k % 2 ≡ 1 → (k * k) % 2 ≡ 1
odd_square k e = rows k ∙ e
  where
    rows : (n : ℕ) → (n * k) % 2 ≡ n % 2
    rows zero = omega arith
    rows (suc n) =
        let r = rows n in
        let d : suc n * k ≡ k + n * k = omega arith in
        next (suc n * k) (n * k) d r
      where
        next : (a b : ℕ) → a ≡ k + b → b % 2 ≡ n % 2 → a % 2 ≡ suc n % 2
        next a b d r = omega (arith, d, r, e)

module _ {F : Type 0} {ring : RingOf F} (laws : IsRing ring) (commutes : IsCommutative ring) where
  open ring use {zero as 0ₖ, one as 1ₖ, add, neg, mul, IsValue}

  abbrev S : SumSetting Set F
  S = ext_setting laws commutes

  abbrev W : (Set → F) → Ext F → F
  W g x = weighted ring g x

  abbrev Val : Set × F → Type 0
  Val t = IsValue t.1

  sign-square : (n : ℕ) → mul (sign ring n) (sign ring n) ≡ 1ₖ
  sign-square n = elim (parity laws commutes n) [
    | inl h ↦ (λ i. mul (h.1 i) (h.1 i)) ∙ laws.one_mul 1ₖ laws.one_value
    | inr h ↦ (λ i. mul (h.1 i) (h.1 i)) ∙ minus_one laws _ (laws.neg_value 1ₖ laws.one_value) ∙ neg_neg laws 1ₖ laws.one_value
  ]

  sign_turned : (a b n : ℕ) → a + b ≡ n → sign ring a ≡ mul (sign ring n) (sign ring b)
  sign_turned a b n e =
      sym (ap (λ z. mul z (sign ring b)) (ap (sign ring) (sym e) ∙ sym (sign-add laws commutes a b))
      ∙ laws.mul_assoc _ _ _ (sign-value laws commutes a) (sign-value laws commutes b) (sign-value laws commutes b)
      ∙ ap (mul (sign ring a)) (sign-square b) ∙ laws.mul_one _ (sign-value laws commutes a))

  -- e_S ∧ e_T = (-1)^(|S| |T|) e_T ∧ e_S
  pub sets_swap : (g : Set → F) → ((s : Set) → IsValue (g s)) → (s t : Set) → IsSetWithin 64 s → IsSetWithin 64 t
      → at_product laws commutes g s t ≡ mul (sign ring (length s * length t)) (at_product laws commutes g t s)
  sets_swap g gv s t p q =
      let c = sign ring (length s * length t) in
      of_wedge laws commutes g s t
      ∙ ap (λ u. cond (meets s t) 0ₖ (add (mul (sign ring (inversions (s ++ t))) (g u)) 0ₖ)) (union_comm s t)
      ∙ pick (meets s t) (λ e. sign_turned _ _ _ (inversions-both s t p q e)) refl
      ∙ ap (λ m. mul c (cond m 0ₖ (add (mul (sign ring (inversions (t ++ s))) (g (union t s))) 0ₖ))) (meets_sym s t)
      ∙ ap (mul c) (sym (of_wedge laws commutes g t s))
    where
      pick : (m : Bool)
          → (m ≡ false → sign ring (inversions (s ++ t)) ≡ mul (sign ring (length s * length t)) (sign ring (inversions (t ++ s))))
          → m ≡ m
          → cond m 0ₖ (add (mul (sign ring (inversions (s ++ t))) (g (union t s))) 0ₖ)
          ≡ mul (sign ring (length s * length t)) (cond m 0ₖ (add (mul (sign ring (inversions (t ++ s))) (g (union t s))) 0ₖ))
      pick true h e = sym (mul_zero laws _ (sign-value laws commutes (length s * length t)))
      pick false h e =
          let vn = sign-value laws commutes (length s * length t) in
          let vb = sign-value laws commutes (inversions (t ++ s)) in
          let va = sign-value laws commutes (inversions (s ++ t)) in
          let vg = gv (union t s) in
          laws.add_zero _ (laws.mul_value _ _ va vg) ∙ ap (λ z. mul z (g (union t s))) (h refl) ∙ laws.mul_assoc _ _ _ vn vb vg
          ∙ ap (mul (sign ring (length s * length t))) (sym (laws.add_zero _ (laws.mul_value _ _ vb vg)))

  signed-sign : (k : ℕ) (y : F) → IsValue y → signed laws commutes k y ≡ mul (sign ring k) y
  signed-sign zero y v = sym (laws.one_mul y v)
  signed-sign (suc k) y v = ap neg (signed-sign k y v) ∙ sym (sign_next laws commutes k y v)

  -- The wedge product commutes up to sign: x ∧ y = (-1)^(j k) y ∧ x for x of degree j and y of degree k.
  pub wedge_swap : (j k : ℕ) (x y : Ext F) → IsExt ring x → IsExt ring y → IsOfDegree ring j x → IsOfDegree ring k y
      → wedge ring x y ≡ ext_signed ring (j * k) (wedge ring y x)
  wedge_swap j k x y ex ey dx dy =
      let vx = ext-values laws commutes x ex in
      let vy = ext-values laws commutes y ey in
      let yx = wedge-IsExt laws commutes y x ey ex in
      ext_by_at laws commutes _ _ (wedge-IsExt laws commutes x y ex ey).is_sum (signed-IsSum laws commutes (j * k) _ yx.is_sum) (λ g gv.
      let c = sign ring (j * k) in
      let vc = sign-value laws commutes (j * k) in
      let P : Set → Set → F = λ s t. at_product laws commutes g t s in
      let Pv : (s t : Set) → IsValue (P s t) = λ s t. product-value laws commutes g gv t s in
      at-wedge_of laws commutes g gv x y vx vy
      ∙ weighted_ext S _ (λ s. mul c (W (P s) y)) x (λ i d l. row g gv _ (ex.sets i d l) (dx i d l))
      ∙ weighted-mul S c (λ s. W (P s) y) vc (λ s. at-value laws commutes (P s) (Pv s) y vy) x vx
      ∙ ap (mul c) (weighted_swap S P Pv x y vx vy ∙ sym (at-wedge_of laws commutes g gv y x vy vx))
      ∙ sym (signed-sign (j * k) _ (at-value laws commutes g gv _ (ext-values laws commutes _ yx)))
      ∙ sym (at-ext_signed laws commutes (j * k) g gv _ yx.is_sum))
    where
      row : (g : Set → F) → ((s : Set) → IsValue (g s)) → (s : Set) → IsSetWithin 64 s → length s ≡ j
          → W (at_product laws commutes g s) y ≡ mul (sign ring (j * k)) (W (λ t. at_product laws commutes g t s) y)
      row g gv s hs es =
          weighted_ext S _ (λ t. mul (sign ring (j * k)) (at_product laws commutes g t s)) y (λ i d l.
          sets_swap g gv s _ hs (ey.sets i d l)
          ∙ (λ m. mul (sign ring (es m * dy i d l m)) (at_product laws commutes g (slice_index_or y i d).0 s)))
          ∙ weighted-mul S (sign ring (j * k)) (λ t. at_product laws commutes g t s) (sign-value laws commutes (j * k))
          (λ t. product-value laws commutes g gv t s) y (ext-values laws commutes y ey)

  -- ---- squares

  -- a sum over pairs is zero where the two orders cancel
  alternating : (a : Set → Set → F) → ((s t : Set) → IsValue (a s t)) → (P : Set → Type 0)
      → ((s : Set) → P s → a s s ≡ 0ₖ) → ((s t : Set) → P s → P t → a s t ≡ neg (a t s)) → (x : Ext F)
      → HasValues ring x
      → All (λ t. P t.0) x → W (λ s. W (a s) x) x ≡ 0ₖ
  alternating a av P same turn [] v h = refl
  alternating a av P same turn (t ∷ x) v h =
      let K : Set × F → Type 0 = λ u. P u.0 in
      let vt = All-head Val t x v in
      let vs = All-tail Val t x v in
      let ht = All-head K t x h in
      let hs = All-tail K t x h in
      let r : F = W (a t.0) x in
      let vr : IsValue r = at-value laws commutes (a t.0) (av t.0) x vs in
      let rows : (s : Set) → IsValue (W (a s) x) = λ s. at-value laws commutes (a s) (av s) x vs in
      let first : mul t.1 (add (mul t.1 (a t.0 t.0)) r) ≡ mul t.1 r =
      ap (λ z. mul t.1 (add z r)) (ap (mul t.1) (same t.0 ht) ∙ mul_zero laws t.1 vt) ∙ ap (mul t.1) (zero_add laws r vr) in
      let column : (s : Set) → IsValue (mul t.1 (a s t.0)) = λ s. laws.mul_value t.1 _ vt (av s t.0) in
      let second : W (λ s. mul t.1 (a s t.0)) x ≡ neg (mul t.1 r) =
      weighted-mul S t.1 (λ s. a s t.0) vt (λ s. av s t.0) x vs
      ∙ ap (mul t.1) (weighted_ext S (λ s. a s t.0) (λ s. neg (a t.0 s)) x (λ i d l. turn _ t.0 (hs i d l) ht)
      ∙ at-minus laws commutes (a t.0) (av t.0) x vs)
      ∙ mul_neg laws commutes t.1 r vt vr in
      both_sides add _ _ _ _ first
      (weighted-add S (λ s. mul t.1 (a s t.0)) (λ s. W (a s) x) column rows x vs
      ∙ both_sides add _ _ _ _ second (alternating a av P same turn x vs hs)
      ∙ laws.add_zero _ (laws.neg_value _ (laws.mul_value t.1 r vt vr)))
      ∙ laws.add_neg _ (laws.mul_value t.1 r vt vr)

  -- An element of odd degree squares to zero.
  pub wedge_square : (k : ℕ) (x : Ext F) → IsExt ring x → IsOfDegree ring k x → k % 2 ≡ 1 → wedge ring x x ≡ []
  wedge_square k x ex dx odd =
      let vx = ext-values laws commutes x ex in
      ext_by_at laws commutes _ [] (wedge-IsExt laws commutes x x ex ex).is_sum (nothing-IsSum S) (λ g gv.
      at-wedge_of laws commutes g gv x x vx vx
      ∙ alternating (at_product laws commutes g) (product-value laws commutes g gv) Fits (none g) (turn g gv) x vx (λ i d l. (ex.sets i d l, dx i d l)))
    where
      Fits : Set → Type 0
      Fits s = IsSetWithin 64 s × (length s ≡ k)

      own : (s : Set) → length s ≡ k → meets s s ≡ true
      own [] e = absurd (omega (arith, e, odd))
      own (x ∷ s) e = not_apart (meets (x ∷ s) (x ∷ s)) refl
        where
          not_apart : (b : Bool) → meets (x ∷ s) (x ∷ s) ≡ b → b ≡ true
          not_apart true f = refl
          not_apart false f = absurd (apart-meets (x ∷ s) (x ∷ s) f x (Contains-here x s) (Contains-here x s))

      none : (g : Set → F) (s : Set) → Fits s → at_product laws commutes g s s ≡ 0ₖ
      none g s h =
          of_wedge laws commutes g s s
          ∙ ap (λ b. cond b 0ₖ (add (mul (sign ring (inversions (s ++ s))) (g (union s s))) 0ₖ)) (own s h.1)

      turn : (g : Set → F) → ((s : Set) → IsValue (g s)) → (s t : Set) → Fits s → Fits t
          → at_product laws commutes g s t ≡ neg (at_product laws commutes g t s)
      turn g gv s t p q =
          let v = product-value laws commutes g gv t s in
          sets_swap g gv s t p.0 q.0
          ∙ ap (λ z. mul z (at_product laws commutes g t s)) ((λ i. sign ring (p.1 i * q.1 i)) ∙ sign_odd laws commutes (k * k) (odd_square k odd))
          ∙ minus_one laws _ v
