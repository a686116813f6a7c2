-- The value of an expression by its terms.
use Rattle.std.proofs.Common.{◌≡◌, ℕ, zero, suc, ◌+◌, ◌-◌, ◌/◌, ◌%◌, ◌≤◌, Bool, true, false, cond, ◌||◌, List, [], ◌∷◌, ◌++◌, map, length, All, ℤ, pos, negsuc, refl, sym, ap, ◌∙◌, arith}
use Rattle.std.proofs.lemmas.List.Elements.{All-nil, All-cons, All-head, All-tail}
use Rattle.hp_algebra.specs.Ring.{RingOf, IsRing, IsCommutative, integer, multiple_of_one}
use Rattle.hp_algebra.proofs.Rings.{mul_zero}
use Rattle.hp_lists.specs.Lists.{one_to}
use Rattle.hp_lists.proofs.Ordered.{rises_of}
use Rattle.hp_sets.specs.Sets.{Set, IsSetWithin, cmp_listed, contains, meet, union, with_member}
use Rattle.hp_sets.proofs.SetLaws.{single-set, those-ext, empty-set}
use Rattle.hp_sums.specs.FiniteSums.{IsSum, HasValues}
use Rattle.hp_sums.proofs.SumSetting.{SumSetting}
use Rattle.hp_sums.proofs.Collected.{collect-IsSum, nothing-IsSum, sum-values}
use Rattle.hp_sums.proofs.FirstTerms.{no_term}
use Rattle.hp_sums.proofs.Merges.{collect_both}
use Rattle.hp_sums.proofs.WeightedSums.{weighted}
use Rattle.hp_exterior.specs.Exterior.{ext_of, ext_plus, generator, inversions, meets, monomial, sign, wedge}
use Rattle.hp_exterior.specs.ExteriorRing.{monomial-IsExt, of_wedge, sign-value, wedge-IsExt}
use Rattle.hp_exterior.specs.ExteriorSetting.{ext_setting}
use Rattle.hp_exterior.specs.SetSums.{inversions-rising, union_nothing}
use Rattle.hp_exterior.proofs.Crossings.{below-meet}
use Rattle.hp_exterior.proofs.ElementFunctionals.{at-monomial, at-wedge_of, ext_by_at, product-value, second-value}
use Rattle.hp_exterior.proofs.Functionals.{Values}
use Rattle.hp_exterior.proofs.ProductSteps.{signed_even, signed_odd}
use Rattle.hp_os.specs.OrlikSolomon.{ext_sum, multiple}
use Rattle.hp_script.specs.declared.command.Product.{Product}
use Rattle.hp_session.specs.Expressions.{product_value, expression_value}

module _ {K : Type 0} {ring : RingOf K} (laws : IsRing ring) where
  open ring use {zero as 0ₖ, one as 1ₖ, add, mul, IsValue}

  -- ---- integers

  multiple-value : (n : ℕ) → IsValue (multiple_of_one ring n)
  unfolding multiple_of_one
  multiple-value zero = laws.zero_value
  multiple-value (suc n) = laws.add_value _ 1ₖ (multiple-value n) laws.one_value

  pub integer-value : (v : ℤ) → IsValue (integer ring v)
  unfolding integer
  integer-value (pos n) = multiple-value n
  integer-value (negsuc n) = laws.neg_value _ (multiple-value (suc n))

  pub integers-values : (vs : List ℤ) → All IsValue (map (integer ring) vs)
  integers-values [] = All-nil IsValue
  integers-values (v ∷ vs) = All-cons IsValue _ (map (integer ring) vs) (integer-value v) (integers-values vs)

  multiple-add : (n m : ℕ) → add (multiple_of_one ring n) (multiple_of_one ring m) ≡ multiple_of_one ring (m + n)
  unfolding multiple_of_one
  multiple-add n zero =
      let e : n ≡ 0 + n = omega arith in
      laws.add_zero _ (multiple-value n) ∙ ap (multiple_of_one ring) e
  multiple-add n (suc m) =
      let e : suc (m + n) ≡ suc m + n = omega arith in
      sym (laws.add_assoc _ _ 1ₖ (multiple-value n) (multiple-value m) laws.one_value)
      ∙ ap (λ x. add x 1ₖ) (multiple-add n m) ∙ ap (multiple_of_one ring) e

  -- a number by its half and what is left over
  pub halves : (n : ℕ) → add (add (integer ring (pos (n / 2))) (integer ring (pos (n / 2)))) (integer ring (pos (n % 2)))
      ≡ integer ring (pos n)
  unfolding integer
  halves n =
      let e : n % 2 + (n / 2 + n / 2) ≡ n = omega arith in
      ap (λ x. add x (multiple_of_one ring (n % 2))) (multiple-add (n / 2) (n / 2))
      ∙ multiple-add (n / 2 + n / 2) (n % 2) ∙ ap (multiple_of_one ring) e

module _ {K : Type 0} {ring : RingOf K} (laws : IsRing ring) (commutes : IsCommutative ring) where
  open ring use {zero as 0ₖ, one as 1ₖ, add, neg, mul, IsValue}

  abbrev S : SumSetting Set K
  S = ext_setting laws commutes

  abbrev Val : Set × K → Type 0
  Val t = IsValue t.1

  term-sum : (c : K) (s : Set) → IsValue c → IsSum cmp_listed ring (monomial ring c s)
  term-sum c s v = collect-IsSum S ((s, c) ∷ []) (All-cons Val (s, c) [] v (All-nil Val))

  term-values : (c : K) (s : Set) → IsValue c → HasValues ring (monomial ring c s)
  term-values c s v = sum-values S _ (term-sum c s v)

  -- ---- products of two terms

  at-terms : (g : Set → K) → Values ring g → (c d : K) (s t : Set) → IsValue c → IsValue d
      → weighted ring g (wedge ring (monomial ring c s) (monomial ring d t))
      ≡ mul c (mul d (cond (meets s t) 0ₖ (add (mul (sign ring (inversions (s ++ t))) (g (union s t))) 0ₖ)))
  at-terms g gv c d s t vc vd =
      at-wedge_of laws commutes g gv (monomial ring c s) (monomial ring d t) (term-values c s vc) (term-values d t vd)
      ∙ at-monomial laws commutes _ (second-value laws commutes g gv (monomial ring d t) (term-values d t vd)) c s vc
      ∙ ap (mul c) (at-monomial laws commutes _ (product-value laws commutes g gv s) d t vd)
      ∙ ap (λ x. mul c (mul d x)) (of_wedge laws commutes g s t)

  wedge-sum : (c d : K) (s t : Set) → IsValue c → IsValue d → IsSetWithin 64 s → IsSetWithin 64 t
      → IsSum cmp_listed ring (wedge ring (monomial ring c s) (monomial ring d t))
  wedge-sum c d s t vc vd p q =
      (wedge-IsExt laws commutes _ _ (monomial-IsExt laws commutes c s vc p) (monomial-IsExt laws commutes d t vd q)).is_sum

  wedge-apart : (c d : K) (s t : Set) → IsValue c → IsValue d → IsSetWithin 64 s → IsSetWithin 64 t → meets s t ≡ false
      → wedge ring (monomial ring c s) (monomial ring d t)
      ≡ monomial ring (mul (mul c d) (sign ring (inversions (s ++ t)))) (union s t)
  wedge-apart c d s t vc vd p q e =
      let σ = sign ring (inversions (s ++ t)) in
      let vσ = sign-value laws commutes (inversions (s ++ t)) in
      let vcd = laws.mul_value c d vc vd in
      let v = laws.mul_value (mul c d) σ vcd vσ in
      ext_by_at laws commutes _ _ (wedge-sum c d s t vc vd p q) (term-sum _ (union s t) v) (λ g gv.
      let x = g (union s t) in
      at-terms g gv c d s t vc vd
      ∙ ap (λ b. mul c (mul d (cond b 0ₖ (add (mul σ x) 0ₖ)))) e
      ∙ ap (λ y. mul c (mul d y)) (laws.add_zero _ (laws.mul_value σ x vσ (gv _)))
      ∙ sym (laws.mul_assoc c d (mul σ x) vc vd (laws.mul_value σ x vσ (gv _)))
      ∙ sym (laws.mul_assoc (mul c d) σ x vcd vσ (gv _))
      ∙ sym (at-monomial laws commutes g gv _ (union s t) v))

  wedge-meets : (c d : K) (s t : Set) → IsValue c → IsValue d → IsSetWithin 64 s → IsSetWithin 64 t → meets s t ≡ true
      → wedge ring (monomial ring c s) (monomial ring d t) ≡ []
  wedge-meets c d s t vc vd p q e =
      ext_by_at laws commutes _ [] (wedge-sum c d s t vc vd p q) (nothing-IsSum S) (λ g gv.
      at-terms g gv c d s t vc vd
      ∙ ap (λ b. mul c (mul d (cond b 0ₖ (add (mul (sign ring (inversions (s ++ t))) (g (union s t))) 0ₖ)))) e
      ∙ ap (mul c) (mul_zero laws d vd) ∙ mul_zero laws c vc)

  -- a multiple of a term
  pub multiple-term : (c d : K) (s : Set) → IsValue c → IsValue d → IsSetWithin 64 s
      → multiple ring c (monomial ring d s) ≡ monomial ring (mul c d) s
  multiple-term c d s vc vd h =
      wedge-apart c d [] s vc vd (empty-set 64) h refl
      ∙ (λ i. monomial ring (mul (mul c d) (sign ring (inversions-rising s (rises_of s h.rising) i))) (union_nothing s h i))
      ∙ ap (λ x. monomial ring x s) (laws.mul_one _ (laws.mul_value c d vc vd))

  -- ---- a generator times a term

  or-false : (b : Bool) → (b || false) ≡ b
  or-false true = refl
  or-false false = refl

  or-turned : (a b : Bool) → (a || b) ≡ (b || a)
  or-turned true true = refl
  or-turned true false = refl
  or-turned false true = refl
  or-turned false false = refl

  joined : (i : ℕ) (s : Set) → union (i ∷ []) s ≡ with_member s i
  joined i s =
      those-ext (λ j. contains (i ∷ []) j || contains s j) (λ j. contains s j || contains (i ∷ []) j)
      (λ j _ _. or-turned (contains (i ∷ []) j) (contains s j))

  -- zero where the set has the generator
  pub generator_twice : (i : ℕ) (s : Set) (c : K) {z : K} → 1 ≤ i → i ≤ 64 → IsSetWithin 64 s → IsValue c
      → contains s i ≡ true → z ≡ 0ₖ
      → monomial ring z (with_member s i) ≡ wedge ring (generator ring i) (monomial ring c s)
  generator_twice i s c {z} l m h v e w =
      ap (λ x. monomial ring x (with_member s i)) w
      ∙ no_term S (with_member s i) 0ₖ laws.zero_value ((laws.zero_test 0ₖ laws.zero_value).1 refl)
      ∙ sym (wedge-meets 1ₖ c (i ∷ []) s laws.one_value v (single-set 64 i l m) h (or-false (contains s i) ∙ e))

  turned : (i : ℕ) (s : Set) (c d : K) → 1 ≤ i → i ≤ 64 → IsSetWithin 64 s → IsValue c → contains s i ≡ false
      → d ≡ mul c (sign ring (length (meet s (one_to (i - 1)))))
      → monomial ring d (with_member s i) ≡ wedge ring (generator ring i) (monomial ring c s)
  turned i s c d l m h v e w =
      let count : inversions (i ∷ s) ≡ length (meet s (one_to (i - 1))) =
      omega (arith, below-meet s i h l, inversions-rising s (rises_of s h.rising)) in
      sym (wedge-apart 1ₖ c (i ∷ []) s laws.one_value v (single-set 64 i l m) h (or-false (contains s i) ∙ e)
      ∙ (λ j. monomial ring (mul (laws.one_mul c v j) (sign ring (count j))) (joined i s j))
      ∙ ap (λ x. monomial ring x (with_member s i)) (sym w))

  -- the sign is that of the number of smaller members
  pub generator_even : (i : ℕ) (s : Set) (c : K) {n : ℕ} {t f : Set} → 1 ≤ i → i ≤ 64 → IsSetWithin 64 s → IsValue c
      → contains s i ≡ false → f ≡ one_to (i - 1) → t ≡ meet s f → n ≡ length t → n % 2 ≡ 0
      → monomial ring c (with_member s i) ≡ wedge ring (generator ring i) (monomial ring c s)
  generator_even i s c {n} {t} {f} l m h v e ef et en even =
      let count : n ≡ length (meet s (one_to (i - 1))) = en ∙ ap length (et ∙ ap (meet s) ef) in
      turned i s c c l m h v e (signed_even laws commutes n v even ∙ ap (λ k. mul c (sign ring k)) count)

  pub generator_odd : (i : ℕ) (s : Set) (c : K) {d : K} {n : ℕ} {t f : Set} → 1 ≤ i → i ≤ 64 → IsSetWithin 64 s → IsValue c
      → contains s i ≡ false → f ≡ one_to (i - 1) → t ≡ meet s f → n ≡ length t → (n % 2 ≡ 0 → ⊥) → d ≡ neg c
      → monomial ring d (with_member s i) ≡ wedge ring (generator ring i) (monomial ring c s)
  generator_odd i s c {d} {n} {t} {f} l m h v e ef et en odd w =
      let count : n ≡ length (meet s (one_to (i - 1))) = en ∙ ap length (et ∙ ap (meet s) ef) in
      turned i s c d l m h v e (signed_odd laws commutes n v odd w ∙ ap (λ k. mul c (sign ring k)) count)

  -- ---- sums of terms

  sum-terms : (ts : List (Set × K)) → HasValues ring ts → ext_sum ring (map (λ t. monomial ring t.1 t.0) ts) ≡ ext_of ring ts
  sum-terms [] h = refl
  sum-terms (t ∷ ts) h =
      let first = All-cons Val t [] (All-head Val t ts h) (All-nil Val) in
      let later = All-tail Val t ts h in
      ap (λ x. ext_plus ring (monomial ring t.1 t.0) x) (sum-terms ts later)
      ∙ sym (collect_both S (t ∷ []) ts first later)

  -- an expression whose products are these terms
  pub value-terms : (ts : List (Set × K)) (ps : List Product) → HasValues ring ts
      → map (λ t. monomial ring t.1 t.0) ts ≡ map (product_value ring) ps → ext_of ring ts ≡ expression_value ring ps
  value-terms ts ps h e = sym (sum-terms ts h) ∙ ap (ext_sum ring) e
