-- The coefficients of the forms with one or two terms.
use Rattle.std.proofs.Common.{◌≡◌, ◌≢◌, ℕ, ◌-◌, ◌≤◌, ◌==◌, Bool, true, false, cond, map, refl, ap, ◌∙◌, eq-eqb, ne_eqb, arith}
use Rattle.hp_algebra.specs.Ring.{RingOf, IsRing}
use Rattle.hp_lists.specs.Lists.{one_to}
use Rattle.hp_algebra.specs.Rows.{IsRow, entry, unit_row}
use Rattle.hp_algebra.proofs.Rows.{listed-entry, listed-row}
use Rattle.hp_build.specs.Families.{two_terms}

module _ {K : Type 0} (ring : RingOf K) where
  -- the coefficient of x_k in x_i + c x_j
  abbrev pub term : ℕ → ℕ → K → ℕ → K
  term i j c k = cond (k == i) ring.one (cond (k == j) c ring.zero)

  pub term-first : (i j : ℕ) (c : K) (k : ℕ) → k ≡ i → term i j c k ≡ ring.one
  term-first i j c k e = ap (λ b. cond b ring.one (cond (k == j) c ring.zero)) (eq-eqb k i e)

  pub term-second : (i j : ℕ) (c : K) (k : ℕ) → k ≢ i → k ≡ j → term i j c k ≡ c
  term-second i j c k n e = ap (λ b. cond b ring.one (cond (k == j) c ring.zero)) (ne_eqb k i n) ∙ ap (λ b. cond b c ring.zero) (eq-eqb k j e)

  pub term-other : (i j : ℕ) (c : K) (k : ℕ) → k ≢ i → k ≢ j → term i j c k ≡ ring.zero
  term-other i j c k n m = ap (λ b. cond b ring.one (cond (k == j) c ring.zero)) (ne_eqb k i n) ∙ ap (λ b. cond b c ring.zero) (ne_eqb k j m)

  pub two_terms-entry : (l i j : ℕ) (c : K) (k : ℕ) → 1 ≤ k → k ≤ l → entry ring (two_terms ring l i j c) (k - 1) ≡ term i j c k
  two_terms-entry l i j c k low high = listed-entry ring l (term i j c) (k - 1) (omega arith) ∙ ap (term i j c) (omega arith)

  -- x_i as such a form
  pub coordinate-two_terms : (l i : ℕ) → unit_row ring l i ≡ two_terms ring l i i ring.one
  coordinate-two_terms l i = λ t. map (λ k. same (k == i) ring.one ring.zero t) (one_to l)
    where
      same : (b : Bool) (x y : K) → cond b x y ≡ cond b x (cond b x y)
      same true x y = refl
      same false x y = refl

module _ {K : Type 0} {ring : RingOf K} (laws : IsRing ring) where
  pub term-value : (i j : ℕ) (c : K) (k : ℕ) → ring.IsValue c → ring.IsValue (term ring i j c k)
  term-value i j c k v = pick (k == i) (k == j)
    where
      pick : (a b : Bool) → ring.IsValue (cond a ring.one (cond b c ring.zero))
      pick true b = laws.one_value
      pick false true = v
      pick false false = laws.zero_value

  pub two_terms-row : (l i j : ℕ) (c : K) → ring.IsValue c → IsRow ring l (two_terms ring l i j c)
  two_terms-row l i j c v = listed-row ring l (term ring i j c) (λ k. term-value i j c k v)
