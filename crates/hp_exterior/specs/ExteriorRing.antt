-- The exterior algebra is a ring: the wedge product is associative.
use Rattle.std.specs.Prelude.{◌≡◌, ℕ, zero, suc, ◌+◌, ◌==◌, Bool, true, false, cond, ◌||◌, List, [], ◌∷◌, ◌++◌, length, All, IsTrue, ◌↔◌}
use Rattle.std.proofs.Common.{append-nil}
use Rattle.std.proofs.lemmas.Bool.{eqb-true, eq-eqb}
use Rattle.std.proofs.lemmas.List.Elements.{All-nil, All-cons, All-weaker}
use mathlib.Core.Path.{refl, sym, ap, ◌∙◌}
use native.Mathlib.Omega.{arith}
use Rattle.hp_algebra.specs.Ring.{RingOf, IsRing, IsCommutative, IsWeighted, power}
use Rattle.hp_algebra.proofs.Rings.{mul_zero}
use Rattle.hp_lists.proofs.Members.{Contains-none}
use Rattle.hp_lists.proofs.Ordered.{rises_of}
use Rattle.hp_sets.specs.Sets.{Set, IsSetWithin, union}
use Rattle.hp_sets.proofs.SetLaws.{empty-set, those-set}
use Rattle.hp_sums.specs.FiniteSums.{HasValues}
use Rattle.hp_sums.proofs.SumSetting.{SumSetting}
use Rattle.hp_sums.proofs.Collected.{collect-IsSum, collect-keys, sum-values, nothing-IsSum}
use Rattle.hp_sums.proofs.SumLaws.{
  plus-IsSum,
  plus-keys,
  plus_comm,
  plus_assoc,
  plus_zero,
  negative-IsSum,
  negative-keys,
  plus_negative,
}
use Rattle.hp_sums.proofs.WeightedSums.{weighted, delta, delta-value}
use Rattle.hp_sums.proofs.BilinearSums.{at, bilinear-IsSum, bilinear-keys, bilinear_assoc, bilinear-plus_left, bilinear-plus_right, one-bilinear, bilinear-one}
use Rattle.hp_exterior.specs.Exterior.{
  Ext,
  IsExt,
  ext_neg,
  ext_of,
  ext_plus,
  ext_ring,
  inversions,
  meets,
  monomial,
  sign,
  wedge,
  wedge_of_sets,
}
use Rattle.hp_exterior.specs.ExteriorSetting.{ext_setting}
use Rattle.hp_exterior.specs.SetSums.{inversions-rising, inversions_assoc, meets-apart, meets-union, meets_sym, union_assoc, union_nothing, union-nothing}

module _ {F : Type 0} {ring : RingOf F} (laws : IsRing ring) (commutes : IsCommutative ring) where
  open ring use {zero as 0ₖ, one as 1ₖ, add, neg, mul, IsValue}

  abbrev S : SumSetting Set F
  S = ext_setting laws commutes

  abbrev Val : Set × F → Type 0
  Val t = IsValue t.1

  -- ---- signs

  power-value : (x : F) (n : ℕ) → IsValue x → IsValue (power ring x n)
  power-value x zero v = laws.one_value
  power-value x (suc n) v = laws.mul_value x _ v (power-value x n v)

  power-add : (x : F) (n m : ℕ) → IsValue x → mul (power ring x n) (power ring x m) ≡ power ring x (n + m)
  power-add x zero m v =
      let e : m ≡ 0 + m = omega arith in
      laws.one_mul _ (power-value x m v) ∙ ap (power ring x) e
  power-add x (suc n) m v =
      let e : suc (n + m) ≡ suc n + m = omega arith in
      laws.mul_assoc x _ _ v (power-value x n v) (power-value x m v) ∙ ap (mul x) (power-add x n m v) ∙ ap (power ring x) e

  minus-value : IsValue (neg 1ₖ)
  minus-value = laws.neg_value 1ₖ laws.one_value

  pub sign-value : (n : ℕ) → IsValue (sign ring n)
  sign-value n = power-value (neg 1ₖ) n minus-value

  pub sign-add : (n m : ℕ) → mul (sign ring n) (sign ring m) ≡ sign ring (n + m)
  sign-add n m = power-add (neg 1ₖ) n m minus-value

  -- ---- the wedge of basis elements

  one_value : (c : F) (s : Set) → IsValue c → HasValues ring ((s, c) ∷ [])
  one_value c s v = All-cons Val (s, c) [] v (All-nil Val)

  pub wedge-values : (s t : Set) → HasValues ring (wedge_of_sets ring s t)
  wedge-values s t = pick (meets s t)
    where
      pick : (b : Bool) → HasValues ring (cond b [] ((union s t, sign ring (inversions (s ++ t))) ∷ []))
      pick true = All-nil Val
      pick false = one_value _ (union s t) (sign-value (inversions (s ++ t)))

  abbrev Within : Set × F → Type 0
  Within t = IsSetWithin 64 t.0

  one_set : (c : F) (s : Set) → IsSetWithin 64 s → All Within ((s, c) ∷ [])
  one_set c s h = All-cons Within (s, c) [] h (All-nil Within)

  wedge-sets : (s t : Set) → All Within (wedge_of_sets ring s t)
  wedge-sets s t = pick (meets s t)
    where
      pick : (b : Bool) → All Within (cond b [] ((union s t, sign ring (inversions (s ++ t))) ∷ []))
      pick true = All-nil Within
      pick false = one_set _ (union s t) (those-set _)

  -- two products of three basis elements, by which of them meet
  three : (A B C : Bool) (s1 s2 s3 s4 x : F) → IsValue s1 → IsValue s2 → IsValue s3 → IsValue s4 → IsValue x
      → (A ≡ false → B ≡ false → mul s1 s2 ≡ mul s3 s4)
      → cond A 0ₖ (add (mul s1 (cond (C || B) 0ₖ (add (mul s2 x) 0ₖ))) 0ₖ)
      ≡ cond B 0ₖ (add (mul s3 (cond (A || C) 0ₖ (add (mul s4 x) 0ₖ))) 0ₖ)
  three true true C s1 s2 s3 s4 x v1 v2 v3 v4 vx e = refl
  three true false C s1 s2 s3 s4 x v1 v2 v3 v4 vx e =
      sym (ap (λ u. add u 0ₖ) (mul_zero laws s3 v3) ∙ laws.add_zero 0ₖ laws.zero_value)
  three false true C s1 s2 s3 s4 x v1 v2 v3 v4 vx e =
      ap (λ b. add (mul s1 (cond b 0ₖ (add (mul s2 x) 0ₖ))) 0ₖ) (or-true C)
      ∙ ap (λ u. add u 0ₖ) (mul_zero laws s1 v1) ∙ laws.add_zero 0ₖ laws.zero_value
    where
      or-true : (b : Bool) → (b || true) ≡ true
      or-true true = refl
      or-true false = refl
  three false false true s1 s2 s3 s4 x v1 v2 v3 v4 vx e =
      ap (λ u. add u 0ₖ) (mul_zero laws s1 v1 ∙ sym (mul_zero laws s3 v3))
  three false false false s1 s2 s3 s4 x v1 v2 v3 v4 vx e =
      ap (λ u. add u 0ₖ)
      (ap (mul s1) (laws.add_zero _ (laws.mul_value s2 x v2 vx)) ∙ sym (laws.mul_assoc s1 s2 x v1 v2 vx)
      ∙ ap (λ u. mul u x) (e refl refl)
      ∙ laws.mul_assoc s3 s4 x v3 v4 vx ∙ ap (mul s3) (sym (laws.add_zero _ (laws.mul_value s4 x v4 vx))))

  -- a functional of a product of basis elements
  pub of_wedge : (g : Set → F) (s t : Set) → weighted ring g (wedge_of_sets ring s t)
      ≡ cond (meets s t) 0ₖ (add (mul (sign ring (inversions (s ++ t))) (g (union s t))) 0ₖ)
  of_wedge g s t = pick (meets s t)
    where
      pick : (b : Bool) → weighted ring g (cond b [] ((union s t, sign ring (inversions (s ++ t))) ∷ []))
          ≡ cond b 0ₖ (add (mul (sign ring (inversions (s ++ t))) (g (union s t))) 0ₖ)
      pick true = refl
      pick false = refl

  abbrev rule : Set → Set → List (Set × F)
  rule = wedge_of_sets ring

  wedge_sets_assoc : (b s t u : Set) → IsSetWithin 64 s → IsSetWithin 64 t → IsSetWithin 64 u
      → weighted ring (λ e. at S rule wedge-values b e u) (rule s t)
      ≡ weighted ring (at S rule wedge-values b s) (rule t u)
  wedge_sets_assoc b s t u p q r =
      let d = delta S b in
      of_wedge (λ e. weighted ring d (rule e u)) s t
      ∙ ap (λ z. cond (meets s t) 0ₖ (add (mul (sign ring (inversions (s ++ t))) z) 0ₖ))
      (of_wedge d (union s t) u
      ∙ ap (λ m. cond m 0ₖ (add (mul (sign ring (inversions (union s t ++ u))) (d (union (union s t) u))) 0ₖ))
      (meets_sym (union s t) u ∙ meets-union u s t p q ∙ (λ i. meets_sym u s i || meets_sym u t i)))
      ∙ three (meets s t) (meets t u) (meets s u) _ _ (sign ring (inversions (t ++ u))) (sign ring (inversions (s ++ union t u))) _
      (sign-value _) (sign-value _) (sign-value _) (sign-value _) (delta-value S b _)
      (λ st tu. sign-add _ _ ∙ ap (sign ring) (inversions_assoc s t u p q r st tu) ∙ sym (sign-add _ _))
      ∙ sym (of_wedge (λ e. weighted ring d (rule s e)) t u
      ∙ ap (λ z. cond (meets t u) 0ₖ (add (mul (sign ring (inversions (t ++ u))) z) 0ₖ))
      (of_wedge d s (union t u)
      ∙ (λ i. cond (meets-union s t u q r i) 0ₖ (add (mul (sign ring (inversions (s ++ union t u))) (d (sym (union_assoc s t u) i))) 0ₖ))))

  -- e of the empty set is one
  wedge_nothing : (t : Set) → IsSetWithin 64 t → rule [] t ≡ (t, 1ₖ) ∷ []
  wedge_nothing t h = λ i. (union_nothing t h i, sign ring (inversions-rising t (rises_of t h.rising) i)) ∷ []

  nothing_wedge : (s : Set) → IsSetWithin 64 s → rule s [] ≡ (s, 1ₖ) ∷ []
  nothing_wedge s h =
      ap (λ b. cond b [] ((union s [], sign ring (inversions (s ++ []))) ∷ [])) (meets-apart s [] (λ i c d. Contains-none i d))
      ∙ (λ i. (union-nothing s h i, sign ring (even i)) ∷ [])
    where
      even : inversions (s ++ []) ≡ 0
      even = ap inversions (append-nil s) ∙ inversions-rising s (rises_of s h.rising)

  -- ---- what is an element

  pub ext-values : (x : Ext F) → IsExt ring x → HasValues ring x
  ext-values x f = sum-values S x f.is_sum

  pub ext_of-IsExt : (ts : List (Set × F)) → HasValues ring ts → All (λ t. IsSetWithin 64 t.0) ts
      → IsExt ring (ext_of ring ts)
  ext_of-IsExt ts h m = record { is_sum = collect-IsSum S ts h; sets = collect-keys S (IsSetWithin 64) ts m }

  pub monomial-IsExt : (c : F) (s : Set) → IsValue c → IsSetWithin 64 s → IsExt ring (monomial ring c s)
  monomial-IsExt c s v h = ext_of-IsExt ((s, c) ∷ []) (one_value c s v) (one_set c s h)

  pub nothing-IsExt : IsExt ring []
  nothing-IsExt = record { is_sum = nothing-IsSum S; sets = All-nil Within }

  pub plus-IsExt : (x y : Ext F) → IsExt ring x → IsExt ring y → IsExt ring (ext_plus ring x y)
  plus-IsExt x y f g = record {
    is_sum = plus-IsSum S x y f.is_sum g.is_sum;
    sets = plus-keys S (IsSetWithin 64) x y f.sets g.sets;
  }

  pub neg-IsExt : (x : Ext F) → IsExt ring x → IsExt ring (ext_neg ring x)
  neg-IsExt x f = record {
    is_sum = negative-IsSum S x f.is_sum;
    sets = negative-keys S (IsSetWithin 64) x f.sets;
  }

  pub wedge-IsExt : (x y : Ext F) → IsExt ring x → IsExt ring y → IsExt ring (wedge ring x y)
  wedge-IsExt x y f g = record {
    is_sum = bilinear-IsSum S rule wedge-values x y (ext-values x f) (ext-values y g);
    sets = bilinear-keys S rule wedge-values (IsSetWithin 64) x y
        (All-weaker Within (λ t. All (λ u. All Within (rule t.0 u.0)) y)
        (λ t _. All-weaker Within (λ u. All Within (rule t.0 u.0)) (λ u _. wedge-sets t.0 u.0) y g.sets) x f.sets);
  }

  -- ---- the laws

  pub wedge_assoc : (x y z : Ext F) → IsExt ring x → IsExt ring y → IsExt ring z
      → wedge ring (wedge ring x y) z ≡ wedge ring x (wedge ring y z)
  wedge_assoc x y z f g h =
      bilinear_assoc S rule wedge-values (IsSetWithin 64) wedge_sets_assoc x y z
      (ext-values x f) (ext-values y g) (ext-values z h) f.sets g.sets h.sets

  one-IsExt : IsExt ring (monomial ring 1ₖ [])
  one-IsExt = monomial-IsExt 1ₖ [] laws.one_value (empty-set 64)

  no_terms : (x : Ext F) → IsTrue (length x == 0) ↔ (x ≡ [])
  no_terms [] = (λ _. refl, λ _. refl)
  no_terms (t ∷ x) = (λ e. absurd (omega (arith, eqb-true (length (t ∷ x)) 0 e)), λ e. eq-eqb _ 0 (ap length e))

  -- The exterior algebra is a ring.
  pub ext_is_ring : IsRing (ext_ring ring)
  ext_is_ring = record {
    zero_value = nothing-IsExt;
    one_value = one-IsExt;
    add_value = plus-IsExt;
    neg_value = neg-IsExt;
    mul_value = wedge-IsExt;
    add_assoc = λ x y z f g h. plus_assoc S x y z f.is_sum g.is_sum h.is_sum;
    add_comm = λ x y f g. plus_comm S x y f.is_sum g.is_sum;
    add_zero = λ x f. plus_zero S x f.is_sum;
    add_neg = λ x f. plus_negative S x f.is_sum;
    mul_assoc = wedge_assoc;
    one_mul = λ x f. one-bilinear S rule wedge-values [] x f.is_sum (λ i t l. wedge_nothing _ (f.sets i t l));
    mul_one = λ x f. bilinear-one S rule wedge-values [] x f.is_sum (λ i t l. nothing_wedge _ (f.sets i t l));
    mul_add = λ x y z f g h. bilinear-plus_right S rule wedge-values x y z (ext-values x f) g.is_sum h.is_sum;
    add_mul = λ x y z f g h. bilinear-plus_left S rule wedge-values x y z f.is_sum g.is_sum (ext-values z h);
    zero_test = λ x f. no_terms x;
  }

  pub ext_weights : IsWeighted (ext_ring ring)
  ext_weights = record {
    of_zero = refl;
    of_one = refl;
    of_sum = λ x y f g. omega arith;
    of_neg = λ x f. omega arith;
    of_product = λ x y f g. omega arith;
  }
