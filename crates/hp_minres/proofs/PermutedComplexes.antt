-- The rows of each map in another order, and with them the columns of the next map: the complex stays exact.
use Rattle.std.specs.Prelude.{◌≡◌, ◌⊎◌, ℕ, zero, suc, ◌<◌, ◌≤◌, cond, nat_eq}
use Rattle.std.proofs.lemmas.Bool.Decides.{nat_tests}
use mathlib.Core.Logic.{inl, inr}
use mathlib.Core.Path.{refl, sym, ap, ◌∙◌, subst}
use native.Mathlib.Omega.{arith}
use Rattle.hp_algebra.specs.Ring.{RingOf, IsRing}
use Rattle.hp_minres.specs.Grids.{skip, sum, zeros, combine, IsGrid}
use Rattle.hp_minres.proofs.RangeSums.{Values, place, put, put_other, put_same, sum_same, sum_swap, three_ways}
use Rattle.hp_minres.proofs.GridRows.{combine_unit, put_row, unit, zeros_row}
use Rattle.hp_minres.proofs.CancelledComplexes.{IsExactComplex}
use Rattle.hp_minres.proofs.Retracts.{IsSquare, Retract, retract_exact}

-- A bijection of the numbers below n, with its inverse; from n on it moves nothing.
pub record IsBijection (n : ℕ) (σ τ : ℕ → ℕ) : Type 0 where
  pub left : (i : ℕ) → τ (σ i) ≡ i
  pub right : (i : ℕ) → σ (τ i) ≡ i
  pub inside : (i : ℕ) → i < n → σ i < n
  pub inside' : (i : ℕ) → i < n → τ i < n

module _ (n : ℕ) (σ τ : ℕ → ℕ) (h : IsBijection n σ τ) where
  pub swapped : IsBijection n τ σ
  swapped = record { left = h.right; right = h.left; inside = h.inside'; inside' = h.inside }

  -- what is not below n is not moved below it
  pub outside : (i : ℕ) → n ≤ i → n ≤ σ i
  outside i l = pick (three_ways (σ i) n)
    where
      pick : (σ i < n) ⊎ ((σ i ≡ n) ⊎ (n < σ i)) → n ≤ σ i
      pick (inl b) = absurd (far (subst (λ k. k < n) (h.left i) (h.inside' (σ i) b)))
        where
          far : i < n → ⊥
          far b = omega arith
      pick (inr (inl e)) = omega arith
      pick (inr (inr b)) = omega arith

-- level k of a complex in the order σ k
abbrev pub AreBijections : (ℕ → ℕ) → (ℕ → ℕ → ℕ) → (ℕ → ℕ → ℕ) → Type 0
AreBijections size σ τ = (k : ℕ) → IsBijection (size k) (σ k) (τ k)

module _ {R : Type 0} {ring : RingOf R} (laws : IsRing ring) where
  open ring use {add as ◌⊕◌, mul as ◌⊗◌, zero as 0ᵣ, one as 1ᵣ, IsValue}

  infixl 70 ◌⊗◌
  -- the unit vector a at b is 1 where a = b, and 0 elsewhere
  unit_same : (a b : ℕ) → a ≡ b → unit ring a b ≡ 1ᵣ
  unit_same a b e = ap (unit ring a) (sym e) ∙ put_same a 1ᵣ (zeros ring)

  unit_other : (a b : ℕ) → (a ≡ b → ⊥) → unit ring a b ≡ 0ᵣ
  unit_other a b n = pick (place a b)
    where
      pick : (b ≡ a) ⊎ ((k : ℕ) × (b ≡ skip a k)) → unit ring a b ≡ 0ᵣ
      pick (inl e) = absurd (n (sym e))
      pick (inr p) = ap (unit ring a) p.1 ∙ put_other a 1ᵣ (zeros ring) p.0

  module _ (n : ℕ) (σ τ : ℕ → ℕ) (h : IsBijection n σ τ) where
    unit_swap : (i j : ℕ) → unit ring (σ i) j ≡ unit ring (τ j) i
    unit_swap i j = pick (place (σ i) j)
      where
        pick : (j ≡ σ i) ⊎ ((k : ℕ) × (j ≡ skip (σ i) k)) → unit ring (σ i) j ≡ unit ring (τ j) i
        pick (inl e) = unit_same (σ i) j (sym e) ∙ sym (unit_same (τ j) i (ap τ e ∙ h.left i))
        pick (inr p) = ap (unit ring (σ i)) p.1 ∙ put_other (σ i) 1ᵣ (zeros ring) p.0
            ∙ sym (unit_other (τ j) i (λ e. differ (σ i) p.0 (sym (p.1) ∙ sym (h.right j) ∙ ap σ e)))
          where
            differ : (r k : ℕ) → skip r k ≡ r → ⊥
            differ zero k e = absurd (omega arith)
            differ (suc r) zero e = absurd (omega arith)
            differ (suc r) (suc k) e = differ r k (omega arith)

    unit_value : (a b : ℕ) → IsValue (unit ring a b)
    unit_value a b = pick (place a b)
      where
        pick : (b ≡ a) ⊎ ((k : ℕ) × (b ≡ skip a k)) → IsValue (unit ring a b)
        pick (inl e) = subst IsValue (sym (unit_same a b (sym e))) laws.one_value
        pick (inr p) = subst IsValue (sym (ap (unit ring a) p.1 ∙ put_other a 1ᵣ (zeros ring) p.0)) laws.zero_value

    constant_grid : (f : ℕ → R) → Values ring f → IsGrid ring 1 (λ i j. put 0 (f i) (zeros ring) j)
    constant_grid f v i = put_row laws 0 0 (f i) (zeros ring) (omega arith) (v i) (zeros_row laws 0)

    -- A sum does not see the order of its terms.
    pub sum_permuted : (f : ℕ → R) → Values ring f → sum ring n (λ i. f (σ i)) ≡ sum ring n f
    sum_permuted f v =
        sum_same laws n (λ i. f (σ i)) (λ i. sum ring n (λ j. unit ring (σ i) j ⊗ f j))
        (λ i l. sym (λ k. combine_unit laws (σ i) n 1 (λ i j. put 0 (f i) (zeros ring) j) (constant_grid f v) (h.inside i l) k 0))
        ∙ sum_swap laws n n (λ i j. unit ring (σ i) j ⊗ f j) (λ i j. laws.mul_value _ _ (unit_value (σ i) j) (v j))
        ∙ sum_same laws n (λ j. sum ring n (λ i. unit ring (σ i) j ⊗ f j)) f
        (λ j l. ap (sum ring n) (λ k i. unit_swap i j k ⊗ f j) ∙ (λ k. combine_unit laws (τ j) n 1 (λ i k. put 0 (f j) (zeros ring) k) (λ i. constant_grid f v j) (h.inside' j l) k 0))

    -- rows in another order
    pub reorder : Retract ring n n
    reorder = record {
      to = λ c i. c (σ i);
      from = λ c i. c (τ i);
      to_row = λ c r. record { value = λ i. r.value (σ i); end = λ i l. r.end (σ i) (outside n σ τ h i l) };
      from_row = λ c r. record { value = λ i. r.value (τ i); end = λ i l. r.end (τ i) (outside n τ σ (swapped n σ τ h) i l) };
      to_zeros = refl;
      from_zeros = refl;
      to_from = λ c r. λ k i. c (h.left i k);
    }

    pub reorder_square : (m : ℕ) (α β : ℕ → ℕ) (g : IsBijection m α β) (A : ℕ → ℕ → R) → IsGrid ring m A
        → (below : Retract ring m m) → ((c : ℕ → R) → below.to c ≡ (λ i. c (α i))) → ((c : ℕ → R) → below.from c ≡ (λ i. c (β i))) → IsSquare ring n n m m reorder below A (λ i j. A (σ i) (α j))
    unfolding reorder
    reorder_square m α β g A ga below et ef = record {
      to = λ c r. (λ k j. sum_permuted (λ i. c i ⊗ A i (α j)) (λ i. laws.mul_value _ _ (r.value i) ((ga i).value (α j))) k) ∙ sym (et (combine ring n c A));
      from = λ c r. (λ k j. (sym (sum_permuted (λ i. c (τ i) ⊗ A i j) (λ i. laws.mul_value _ _ (r.value (τ i)) ((ga i).value j)))
          ∙ ap (sum ring n) (λ k i. c (h.left i k) ⊗ A (σ i) (sym (g.right j) k))) k) ∙ sym (ef (combine ring n c (λ i j. A (σ i) (α j))));
    }

  module _ (size : ℕ → ℕ) (A : ℕ → ℕ → ℕ → R) (e : IsExactComplex ring size A) (σ τ : ℕ → ℕ → ℕ) (h : AreBijections size σ τ) where
    abbrev pub permuted : ℕ → ℕ → ℕ → R
    permuted k i j = A k (σ (suc k) i) (σ k j)

    level : (k : ℕ) → Retract ring (size k) (size k)
    level k = reorder (size k) (σ k) (τ k) (h k)

    square : (k : ℕ) → IsSquare ring (size (suc k)) (size (suc k)) (size k) (size k) (level (suc k)) (level k) (A k) (permuted k)
    unfolding level reorder
    square k = reorder_square (size (suc k)) (σ (suc k)) (τ (suc k)) (h (suc k)) (size k) (σ k) (τ k) (h k) (A k) (e.grid k) (level k) (λ c. refl) (λ c. refl)

    permuted_grid : (k : ℕ) → IsGrid ring (size k) (permuted k)
    permuted_grid k i = record { value = λ j. (e.grid k (σ (suc k) i)).value (σ k j); end = λ j l. (e.grid k (σ (suc k) i)).end (σ k j) (outside (size k) (σ k) (τ k) (h k) j l) }

    pub permuted_exact : IsExactComplex ring size permuted
    permuted_exact = record {
      grid = permuted_grid;
      exact = λ k. retract_exact laws (size (suc k)) (size (suc k)) (size k) (size k) (size (suc (suc k))) (size (suc (suc k))) (level (suc (suc k))) (level (suc k)) (level k)
          (A k) (permuted k) (A (suc k)) (permuted (suc k)) (permuted_grid k) (permuted_grid (suc k)) (square k) (square (suc k)) (e.exact k);
    }

-- two places change
abbrev pub exchange : ℕ → ℕ → ℕ → ℕ
exchange a b i = cond (nat_eq i a) b (cond (nat_eq i b) a i)

pub exchange_permutes : (n a b : ℕ) → a < n → b < n → IsBijection n (exchange a b) (exchange a b)
exchange_permutes n a b ha hb = record { left = twice; right = twice; inside = inside; inside' = inside }
  where
    twice : (i : ℕ) → exchange a b (exchange a b i) ≡ i
    twice i = grind (arith, nat_tests)

    inside : (i : ℕ) → i < n → exchange a b i < n
    inside i l = grind (arith, nat_tests)
