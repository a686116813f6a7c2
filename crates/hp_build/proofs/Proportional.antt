-- Forms x_i and x_i + c x_j are proportional only where they are the same.
use Rattle.std.proofs.Common.{◌≡◌, ◌≢◌, ℕ, ◌-◌, ◌<◌, ◌≤◌, false, Contains, refl, sym, ap, ◌∙◌, inl, inr, arith}
use Rattle.std.proofs.lemmas.Bool.{cases_eq, cases_order, cases_Bool}
use Rattle.hp_algebra.specs.Ring.{RingOf, IsRing}
use Rattle.hp_lists.specs.Lists.{one_to}
use Rattle.hp_lists.proofs.Members.{Contains-map, all-at}
use Rattle.hp_lists.proofs.Ranges.{members_range}
use Rattle.hp_algebra.proofs.Rings.{mul_zero, zero_mul}
use Rattle.hp_algebra.specs.Rows.{IsMultiple, entry, is_zero_row}
use Rattle.hp_algebra.proofs.Rows.{entry-scale}
use Rattle.hp_build.specs.Families.{two_terms}
use Rattle.hp_build.proofs.Entries.{term, term-first, term-second, term-other, term-value, two_terms-entry, two_terms-row}

-- x_i + c x_j in l variables, with i below j and c not zero, or x_i, where j is i and c is one
pub record IsLed {K : Type 0} (ring : RingOf K) (l i j : ℕ) (c : K) : Type 0 where
  pub low : 1 ≤ i
  pub rises : i ≤ j
  pub high : j ≤ l
  pub value : ring.IsValue c
  pub nonzero : c ≢ ring.zero
  pub alone : i ≡ j → c ≡ ring.one

module _ {K : Type 0} {ring : RingOf K} (laws : IsRing ring) (one_zero : ring.one ≢ ring.zero) where
  -- such a form is not zero
  pub led-nonzero : (l i j : ℕ) (c : K) → IsLed ring l i j c → is_zero_row ring (two_terms ring l i j c) ≡ false
  led-nonzero l i j c led =
      elim (cases_Bool (is_zero_row ring (two_terms ring l i j c))) [
        | inl zero ↦ (
            let at : Contains (two_terms ring l i j c) (term ring i j c i) = Contains-map (term ring i j c) (one_to l) i (members_range i 1 l led.low (omega (arith, led.rises, led.high))) in
            let vanishes = all-at ring.is_zero (two_terms ring l i j c) (term ring i j c i) zero at in
            absurd (one_zero (sym (term-first ring i j c i refl) ∙ (laws.zero_test _ (term-value laws i j c i led.value)).0 vanishes)))
        | inr not ↦ not
      ]

  module _ (l i j p q : ℕ) (c d m : K) (a : IsLed ring l i j c) (b : IsLed ring l p q d) (v : ring.IsValue m) (same : (k : ℕ) → 1 ≤ k → k ≤ l → term ring i j c k ≡ ring.mul m (term ring p q d k)) where
    -- the first variables are the same
    firsts : i ≡ p
    firsts =
        let within : i ≤ l = omega (arith, a.rises, a.high) in
        let within_p : p ≤ l = omega (arith, b.rises, b.high) in
        elim (cases_order i p) [
          | inl e ↦ e
          | inr apart ↦ elim apart [
            | inl before ↦ absurd (one_zero
                (sym (term-first ring i j c i refl)
                ∙ same i a.low within
                ∙ ap (ring.mul m) (term-other ring p q d i (λ e. omega (arith, e, before)) (λ e. omega (arith, e, before, b.rises)))
                ∙ mul_zero laws m v))
            | inr after ↦ (
                let none : m ≡ ring.zero =
                sym (laws.mul_one m v)
                ∙ ap (ring.mul m) (sym (term-first ring p q d p refl))
                ∙ sym (same p b.low within_p)
                ∙ term-other ring i j c p (λ e. omega (arith, e, after)) (λ e. omega (arith, e, after, a.rises)) in
                absurd (one_zero
                (sym (term-first ring i j c i refl)
                ∙ same i a.low within
                ∙ ap (λ s. ring.mul s (term ring p q d i)) none
                ∙ zero_mul laws (term ring p q d i) (term-value laws p q d i b.value))))
          ]
        ]

    factor : m ≡ ring.one
    factor =
        sym (laws.mul_one m v)
        ∙ ap (ring.mul m) (sym (term-first ring p q d i firsts))
        ∙ sym (same i a.low (omega (arith, a.rises, a.high)))
        ∙ term-first ring i j c i refl

    terms : (k : ℕ) → 1 ≤ k → k ≤ l → term ring i j c k ≡ term ring p q d k
    terms k low high = same k low high ∙ ap (λ s. ring.mul s (term ring p q d k)) factor ∙ laws.one_mul (term ring p q d k) (term-value laws p q d k b.value)

    -- and so are the second ones
    seconds : j ≡ q
    seconds =
        elim (cases_eq j q) [
          | inl e ↦ e
          | inr differ ↦ elim (cases_eq i j) [
            | inl single ↦ absurd (b.nonzero
                (sym (term-second ring p q d q (λ e. omega (arith, e, firsts, single, differ)) refl)
                ∙ sym (terms q (omega (arith, b.low, b.rises)) b.high)
                ∙ term-other ring i j c q (λ e. omega (arith, e, single, differ)) (λ e. omega (arith, e, differ))))
            | inr double ↦ absurd (a.nonzero
                (sym (term-second ring i j c j (λ e. omega (arith, e, double)) refl)
                ∙ terms j (omega (arith, a.low, a.rises)) a.high
                ∙ term-other ring p q d j (λ e. omega (arith, e, firsts, double)) differ))
          ]
        ]

    coefficients : c ≡ d
    coefficients =
        elim (cases_eq i j) [
          | inl single ↦ a.alone single ∙ sym (b.alone (omega (arith, single, firsts, seconds)))
          | inr double ↦
              sym (term-second ring i j c j (λ e. omega (arith, e, double)) refl)
              ∙ terms j (omega (arith, a.low, a.rises)) a.high
              ∙ term-second ring p q d j (λ e. omega (arith, e, firsts, double)) seconds
        ]

  -- two such forms that differ are not proportional
  pub led-apart : (l i j p q : ℕ) (c d : K) → IsLed ring l i j c → IsLed ring l p q d → (i ≡ p → j ≡ q → c ≡ d → ⊥) → ¬ (IsMultiple ring (two_terms ring l i j c) (two_terms ring l p q d))
  led-apart l i j p q c d a b differ (m, v, e) =
      let same : (k : ℕ) → 1 ≤ k → k ≤ l → term ring i j c k ≡ ring.mul m (term ring p q d k) =
      λ k low high. (let inside : k - 1 < l = omega arith in
      sym (two_terms-entry ring l i j c k low high) ∙ ap (λ r. entry ring r (k - 1)) e
      ∙ entry-scale laws l m (two_terms ring l p q d) (k - 1) inside (two_terms-row laws l p q d b.value)
      ∙ ap (ring.mul m) (two_terms-entry ring l p q d k low high)) in
      differ (firsts l i j p q c d m a b v same) (seconds l i j p q c d m a b v same) (coefficients l i j p q c d m a b v same)
