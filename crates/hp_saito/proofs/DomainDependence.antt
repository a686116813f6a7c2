-- More rows than their width over a commutative domain are dependent, by elimination without fractions.
use Rattle.std.specs.Prelude.{◌≡◌, ◌≢◌, ◌⊎◌, ℕ, zero, suc, ◌<◌, ◌==◌, cond, false, List, [], ◌∷◌, map, length, All}
use Rattle.std.proofs.lemmas.Bool.{cases_Bool, cases_eq, eq-eqb, eqb-true, false≢true}
use Rattle.std.proofs.lemmas.List.{length-map}
use Rattle.std.proofs.lemmas.List.Elements.{All-head, All-tail, All-map}
use mathlib.Core.Logic.{inl, inr}
use mathlib.Core.Path.{refl, sym, ap, ◌∙◌}
use native.Mathlib.Omega.{arith}
use Rattle.hp_algebra.specs.Ring.{RingOf, IsRing, IsCommutative, IsDomain, dot_of}
use Rattle.hp_algebra.specs.Rows.{IsRow, entry, zero_row, row_plus, row_scale}
use Rattle.hp_algebra.proofs.Rings.{mul_zero, neg_mul}
use Rattle.hp_algebra.proofs.Rows.{entry-scale, entry-value, entry-zeros, row-cons, scale-row, scale-values, zero_row-ext, zeros-row}
use Rattle.hp_algebra.proofs.Dots.{dot-plus_right, dot-scale, dot-scale_right, dot-zeros, dot_of_value}
use Rattle.hp_linear.proofs.Combinations.{entry-times, times-row}
use Rattle.hp_linear.proofs.Dependence.{IsDependence}

-- w takes the place of q
abbrev exchanged : ℕ → ℕ → ℕ → ℕ
exchanged q w j = cond (j == q) w j

module _ {R : Type 0} {ring : RingOf R} (laws : IsRing ring) where
  open ring use {zero as 0ᵣ, one as 1ᵣ, add, neg, mul, IsValue}

  pub zero_or_not : (x : R) → IsValue x → (x ≡ 0ᵣ) ⊎ (x ≢ 0ᵣ)
  zero_or_not x v =
      let test = laws.zero_test x v in
      elim (cases_Bool (ring.is_zero x)) [ inl e ↦ inl (test.0 e) | inr e ↦ inr (λ z. false≢true (sym e ∙ test.1 z)) ]

  -- the last place before w where the value is not zero, or none
  pub last-nonzero : (f : ℕ → R) → ((j : ℕ) → IsValue (f j)) → (w : ℕ)
      → ((q : ℕ) × (q < w) × (f q ≢ 0ᵣ) × ((j : ℕ) → q < j → j < w → f j ≡ 0ᵣ)) ⊎ ((j : ℕ) → j < w → f j ≡ 0ᵣ)
  last-nonzero f v zero = inr (λ j l. absurd (omega arith))
  last-nonzero f v (suc w) = elim (zero_or_not (f w) (v w)) [
    | inr n ↦ inl (w, omega arith, n, λ j m l. absurd (omega (arith, m, l)))
    | inl e ↦ elim (last-nonzero f v w) [
      | inl r ↦ inl (
        r.0,
        omega (arith, r.1),
        r.2,
        λ j m l.
            elim (cases_eq j w) [ inl d ↦ ap f d ∙ e | inr n ↦ r.3 j m (omega (arith, l, n)) ],
      )
      | inr h ↦ inr (λ j l. elim (cases_eq j w) [ inl d ↦ ap f d ∙ e | inr n ↦ h j (omega (arith, l, n)) ])
    ]
  ]

  -- the entries of a row of values, zero after the last
  pub any-entry : (row : List R) → All IsValue row → (j : ℕ) → IsValue (entry ring row j)
  any-entry [] h j = laws.zero_value
  any-entry (x ∷ row) h zero = All-head IsValue x row h
  any-entry (x ∷ row) h (suc j) = any-entry row (All-tail IsValue x row h) j

  -- a multiple by what is not zero is zero only where the row is
  pub only-zero : IsDomain ring → (w : ℕ) (q : R) (x : List R) → IsValue q → q ≢ 0ᵣ → IsRow ring w x
      → row_scale ring q x ≡ zero_row ring w → x ≡ zero_row ring w
  only-zero domain w q x v n r e = zero_row-ext laws w x r.0 (λ j l.
      elim (domain.no_zero_divisors q (entry ring x j) v (entry-value laws w x j l r)
      (sym (entry-scale laws w q x j l r) ∙ ap (λ y. entry ring y j) e ∙ entry-zeros laws w j l)) [
        | inl z ↦ absurd (n z)
        | inr z ↦ z
      ])

  module _ {X : Type 0} where
    abbrev Values : (X → ℕ → R) → List X → Type 0
    Values f xs = All (λ x. (j : ℕ) → IsValue (f x j)) xs

    -- the values of the items at one place
    abbrev at : (X → ℕ → R) → List X → ℕ → List R
    at f xs j = map (λ x. f x j) xs

    at-values : (f : X → ℕ → R) (xs : List X) (j : ℕ) → Values f xs → All IsValue (at f xs j)
    at-values f xs j v = All-map IsValue (λ x. f x j) xs (λ k d l. v k d l j)

    -- A combination of the items with some coefficient other than zero, which is zero at each place before w.
    record IsRelationAt (f : X → ℕ → R) (w : ℕ) (xs : List X) (cs : List R) : Type 0 where
      coefficients : IsRow ring (length xs) cs
      zero_at : (j : ℕ) → j < w → dot_of ring cs (at f xs j) ≡ 0ᵣ
      some : cs ≢ zero_row ring (length xs)

    -- The item x has a value at place q, by which the others are multiplied before the multiple of x is subtracted.
    -- Then all are zero at q, which changes places with w.
    cleared : (X → ℕ → R) → X → ℕ → X → ℕ → R
    cleared f x q y j = add (mul (f x q) (f y j)) (mul (neg (f x j)) (f y q))

    cleared-values : (f : X → ℕ → R) (x : X) (q : ℕ) (ys : List X) → ((j : ℕ) → IsValue (f x j)) → Values f ys
        → Values (cleared f x q) ys
    unfolding cleared
    cleared-values f x q ys vx vs k d l j =
        laws.add_value _ _ (laws.mul_value _ _ (vx q) (vs k d l j))
        (laws.mul_value _ _ (laws.neg_value _ (vx j)) (vs k d l q))

    cleared-at : (f : X → ℕ → R) (x : X) (q j : ℕ) (ys : List X)
        → at (cleared f x q) ys j ≡ row_plus ring (row_scale ring (f x q) (at f ys j))
        (row_scale ring (neg (f x j)) (at f ys q))
    unfolding cleared
    cleared-at f x q j [] = refl
    cleared-at f x q j (y ∷ ys) = ap (λ r. cleared f x q y j ∷ r) (cleared-at f x q j ys)

    module _ (commutes : IsCommutative ring) (domain : IsDomain ring) where
      module _ (f : X → ℕ → R) (x : X) (q : ℕ) (ys : List X) (vx : (j : ℕ) → ring.IsValue (f x j))
          (vs : All (λ y. (j : ℕ) → ring.IsValue (f y j)) ys) (cs : List R) (rc : IsRow ring (length ys) cs) where
        abbrev S : R
        S = dot_of ring cs (at f ys q)

        S-value : IsValue S
        S-value = dot_of_value laws cs (at f ys q) rc.1 (at-values f ys q vs)

        -- the relation for all items
        abbrev whole : List R
        whole = neg S ∷ row_scale ring (f x q) cs

        -- at a place it has the value that the relation has for the cleared items
        whole-at : (j : ℕ) → dot_of ring whole (at f (x ∷ ys) j) ≡ dot_of ring cs (at (cleared f x q) ys j)
        whole-at j =
            let a = f x q in
            let b = f x j in
            let T = dot_of ring cs (at f ys j) in
            let vj = at-values f ys j vs in
            let vq = at-values f ys q vs in
            let vT = dot_of_value laws cs (at f ys j) rc.1 vj in
            let nb = laws.neg_value b (vx j) in
            let turn : mul (neg S) b ≡ mul (neg b) S =
            neg_mul laws S b S-value (vx j) ∙ ap neg (commutes S b S-value (vx j))
            ∙ sym (neg_mul laws b S (vx j) S-value) in
            (λ i. add (turn i) (dot-scale laws a cs (at f ys j) (vx q) rc.1 vj i))
            ∙ laws.add_comm _ _ (laws.mul_value _ _ nb S-value) (laws.mul_value _ _ (vx q) vT)
            ∙ sym (ap (dot_of ring cs) (cleared-at f x q j ys)
            ∙ dot-plus_right laws cs _ _ rc.1 (scale-values laws a _ (vx q) vj) (scale-values laws _ _ nb vq)
            (length-map (at f ys j) (mul a) ∙ length-map ys (λ y. f y j)
            ∙ sym (length-map (at f ys q) (mul (neg b)) ∙ length-map ys (λ y. f y q)))
            ∙ (λ i. add (dot-scale_right laws commutes a cs (at f ys j) (vx q) rc.1 vj i)
            (dot-scale_right laws commutes (neg b) cs (at f ys q) nb rc.1 vq i)))

        -- at q there is nothing left
        none-at : dot_of ring whole (at f (x ∷ ys) q) ≡ 0ᵣ
        none-at =
            let vq = at-values f ys q vs in
            (λ i. add (neg_mul laws S (f x q) S-value (vx q) i)
            ((dot-scale laws (f x q) cs (at f ys q) (vx q) rc.1 vq ∙ commutes (f x q) S (vx q) S-value) i))
            ∙ laws.add_comm _ _ (laws.neg_value _ (laws.mul_value _ _ S-value (vx q)))
            (laws.mul_value _ _ S-value (vx q))
            ∙ laws.add_neg _ (laws.mul_value _ _ S-value (vx q))

        whole-relation : (w : ℕ) → q < suc w → f x q ≢ 0ᵣ
            → ((j : ℕ) → j < w → dot_of ring cs (at (cleared f x q) ys (exchanged q w j)) ≡ 0ᵣ)
            → cs ≢ zero_row ring (length ys) → IsRelationAt f (suc w) (x ∷ ys) whole
        whole-relation w low n h some = record {
          coefficients = row-cons laws (length ys) (neg S) _ (laws.neg_value S S-value)
              (scale-row laws (length ys) (f x q) cs (vx q) rc);
          zero_at = λ j l. elim (cases_eq j q) [
            | inl e ↦ ap (λ k. dot_of ring whole (at f (x ∷ ys) k)) e ∙ none-at
            | inr e ↦ elim (cases_eq j w) [
              | inl d ↦ whole-at j ∙ ap (λ k. dot_of ring cs (at (cleared f x q) ys k))
                  (d ∙ sym (ap (λ b. cond b w q) (eq-eqb q q refl)))
                  ∙ h q (omega (arith, low, e, d))
              | inr d ↦ whole-at j ∙ ap (λ k. dot_of ring cs (at (cleared f x q) ys k))
                  (sym (ap (λ b. cond b w j) (apart j e)))
                  ∙ h j (omega (arith, l, d))
            ]
          ];
          some = λ e. some (only-zero domain (length ys) (f x q) cs (vx q) n rc (ap tail e));
        }
          where
            tail : List R → List R
            tail [] = []
            tail (y ∷ r) = r

            apart : (j : ℕ) → j ≢ q → (j == q) ≡ false
            apart j n = elim (cases_Bool (j == q)) [
              | inl e ↦ absurd
                  (n (eqb-true j q e))
              | inr e ↦ e
            ]

      -- More items than places have a relation.
      related : (w : ℕ) (xs : List X) (f : X → ℕ → R) → Values f xs → w < length xs
          → (cs : List R) × IsRelationAt f w xs cs
      related w [] f v l = absurd (omega arith)
      related w (x ∷ xs) f v l =
          let vx = All-head (λ y. (j : ℕ) → IsValue (f y j)) x xs v in
          let vs = All-tail (λ y. (j : ℕ) → IsValue (f y j)) x xs v in
          pick w l (last-nonzero (f x) vx w) vx vs
          (λ w' q m. related w' xs (λ y j. cleared f x q y (exchanged q w' j))
          (λ k d i j. cleared-values f x q xs vx vs k d i (exchanged q w' j)) m)
        where
          first : List R
          first = 1ᵣ ∷ zero_row ring (length xs)

          pick : (w : ℕ) → w < suc (length xs)
              → ((q : ℕ) × (q < w) × (f x q ≢ 0ᵣ) × ((j : ℕ) → q < j → j < w → f x j ≡ 0ᵣ)) ⊎
              ((j : ℕ) → j < w → f x j ≡ 0ᵣ)
              → ((j : ℕ) → IsValue (f x j)) → Values f xs
              → ((w' q : ℕ) → w' < length xs
              → (cs : List R) × IsRelationAt (λ y j. cleared f x q y (exchanged q w' j)) w' xs cs)
              → (cs : List R) × IsRelationAt f w (x ∷ xs) cs
          pick w l (inr z) vx vs less = (
            first,
            record {
              coefficients = row-cons laws (length xs) 1ᵣ _ laws.one_value (zeros-row laws (length xs));
              zero_at = λ j m. (λ i. add ((ap (mul 1ᵣ) (z j m) ∙ mul_zero laws 1ᵣ laws.one_value) i)
                  (dot-zeros laws (length xs) (at f xs j) (at-values f xs j vs) i)) ∙ laws.add_zero 0ᵣ laws.zero_value;
              some = λ e. domain.one_zero (ap (λ r. entry ring r 0) e);
            },
          )
          pick zero l (inl r) vx vs less = absurd (omega (arith, r.1))
          pick (suc w) l (inl r) vx vs less =
              let p = less w r.0 (omega (arith, l)) in (
                whole f x r.0 xs vx vs p.0 p.1.coefficients,
                whole-relation f x r.0 xs vx vs p.0 p.1.coefficients w r.1 r.2 p.1.zero_at p.1.some,
              )

  -- More than w rows of width w are dependent.
  pub dependent : IsCommutative ring → IsDomain ring → (w : ℕ) (rows : List (List R)) → All (IsRow ring w) rows
      → w < length rows → (cs : List R) × IsDependence ring w rows cs
  dependent commutes domain w rows are more =
      let p = related commutes domain w rows (λ row j. entry ring row j)
      (λ k d l j. any-entry _ (are k d l).1 j) more in (
        p.0,
        record {
          coefficients = p.1.coefficients;
          zero = zero_row-ext laws w _ (times-row laws w p.0 rows p.1.coefficients.1 are).0 (λ j l.
              entry-times laws w p.0 rows j l p.1.coefficients.1 are ∙ p.1.zero_at j l);
          some = p.1.some;
        },
      )
