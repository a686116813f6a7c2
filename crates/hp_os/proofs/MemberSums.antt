-- Sums over the members of a list in a ring, and the boundary of a set as such a sum.
use Rattle.std.specs.Prelude.{◌≡◌, ℕ, zero, suc, ◌<◌, ◌==◌, nat_lt, Bool, true, false, not, cond, List, [], ◌∷◌, filter, map, Contains}
use Rattle.std.proofs.lemmas.Bool.{eqb-true, lt-ltb, le-ltb}
use Rattle.std.proofs.lemmas.List.Sums.{sum_by-cons}
use mathlib.Core.Path.{refl, sym, ap, ◌∙◌, subst}
use native.Mathlib.Omega.{arith}
use Rattle.hp_lists.proofs.Members.{Contains-here, Contains-later}
use Rattle.hp_lists.proofs.NaturalSums.{one_if}
use Rattle.hp_algebra.specs.Ring.{RingOf, IsRing, IsCommutative}
use Rattle.hp_algebra.proofs.Rings.{add_swap, mul_zero, neg_neg}
use Rattle.hp_sets.specs.Sets.{Set}
use Rattle.hp_sums.proofs.WeightedSums.{weighted}
use Rattle.hp_exterior.specs.Exterior.{sign}
use Rattle.hp_exterior.specs.ExteriorRing.{sign-value}
use Rattle.hp_exterior.specs.SetSums.{below_in}
use Rattle.hp_exterior.proofs.Functionals.{Values, at_boundary}
use Rattle.hp_exterior.proofs.Inserted.{Up, insert, up_members}
use Rattle.hp_exterior.proofs.Negations.{both_sides, mul_neg, neg_add, neg_zero}
use Rattle.hp_exterior.proofs.WedgeFunctionals.{sign_next}
use Rattle.hp_os.proofs.Drops.{drop_one, drop-first, drop-later, none-below}

-- the sum of f over the members
abbrev pub over_members : {F : Type 0} → RingOf F → (ℕ → F) → List ℕ → F
over_members ring f [] = ring.zero
over_members ring f (x ∷ s) = ring.add (f x) (over_members ring f s)

-- all values of f are values of the ring
abbrev pub Gives : {F : Type 0} → RingOf F → (ℕ → F) → Type 0
Gives ring f = (x : ℕ) → ring.IsValue (f x)

-- a list of terms with one for each member
pub weighted-members : {F : Type 0} (ring : RingOf F) (g : Set → F) (f : ℕ → Set) (c : ℕ → F) (bs : List ℕ)
    → weighted ring g (map (λ b. (f b, c b)) bs) ≡ over_members ring (λ b. ring.mul (c b) (g (f b))) bs
weighted-members ring g f c [] = refl
weighted-members ring g f c (b ∷ bs) = ap (ring.add (ring.mul (c b) (g (f b)))) (weighted-members ring g f c bs)

module _ {F : Type 0} {ring : RingOf F} (laws : IsRing ring) where
  pub members-value : (f : ℕ → F) → Gives ring f → (s : List ℕ) → ring.IsValue (over_members ring f s)
  members-value f v [] = laws.zero_value
  members-value f v (x ∷ s) = laws.add_value (f x) _ (v x) (members-value f v s)

  pub members-ext : (f g : ℕ → F) (s : List ℕ) → ((x : ℕ) → Contains s x → f x ≡ g x)
      → over_members ring f s ≡ over_members ring g s
  members-ext f g [] e = refl
  members-ext f g (x ∷ s) e =
      let here = e x (Contains-here x s) in
      let rest = members-ext f g s (λ y c. e y (Contains-later x s y c)) in
      λ i. ring.add (here i) (rest i)

  pub members-neg : (f : ℕ → F) → Gives ring f → (s : List ℕ)
      → over_members ring (λ x. ring.neg (f x)) s ≡ ring.neg (over_members ring f s)
  members-neg f v [] = sym (neg_zero laws)
  members-neg f v (x ∷ s) = ap (ring.add (ring.neg (f x))) (members-neg f v s) ∙ sym (neg_add laws (f x) _ (v x) (members-value f v s))

  pub members-times : (c : F) (f : ℕ → F) → ring.IsValue c → Gives ring f → (s : List ℕ)
      → ring.mul c (over_members ring f s) ≡ over_members ring (λ x. ring.mul c (f x)) s
  members-times c f w v [] = mul_zero laws c w
  members-times c f w v (x ∷ s) =
      laws.mul_add c (f x) _ w (v x) (members-value f v s) ∙ ap (ring.add (ring.mul c (f x))) (members-times c f w v s)

  pub members-insert_sum : (f : ℕ → F) → Gives ring f → (i a n : ℕ) (s : Set) → Up a n s → (Contains s i → ⊥)
      → over_members ring f (insert i s) ≡ ring.add (f i) (over_members ring f s)
  members-insert_sum f v i a n [] h c = refl
  members-insert_sum f v i a n (x ∷ s) h c =
      step (nat_lt i x) (i == x) refl (members-insert_sum f v i x n s h.2 (λ k. c (Contains-later x s i k)))
    where
      step : (b d : Bool) → (i == x) ≡ d → over_members ring f (insert i s) ≡ ring.add (f i) (over_members ring f s)
          → over_members ring f (cond b (i ∷ x ∷ s) (cond d (x ∷ s) (x ∷ insert i s)))
          ≡ ring.add (f i) (ring.add (f x) (over_members ring f s))
      step true d e r = refl
      step false true e r = absurd (c (subst (λ z. Contains (x ∷ s) z) (sym (eqb-true i x e)) (Contains-here x s)))
      step false false e r = ap (ring.add (f x)) r ∙ add_swap laws (f x) (f i) _ (v x) (v i) (members-value f v s)

  -- the sum over those that pass a test, and over the others
  pub members-split : (f : ℕ → F) → Gives ring f → (p : ℕ → Bool) (s : List ℕ)
      → over_members ring f s ≡ ring.add (over_members ring f (filter p s)) (over_members ring f (filter (λ x. not (p x)) s))
  members-split f v p [] = sym (laws.add_zero ring.zero laws.zero_value)
  members-split f v p (x ∷ s) =
      step (p x) (members-split f v p s) (members-value f v (filter p s)) (members-value f v (filter (λ y. not (p y)) s))
    where
      step : (b : Bool)
          → over_members ring f s ≡ ring.add (over_members ring f (filter p s)) (over_members ring f (filter (λ y. not (p y)) s))
          → ring.IsValue (over_members ring f (filter p s))
          → ring.IsValue (over_members ring f (filter (λ y. not (p y)) s))
          → ring.add (f x) (over_members ring f s)
          ≡ ring.add (over_members ring f (cond b (x ∷ filter p s) (filter p s)))
          (over_members ring f (cond (not b) (x ∷ filter (λ y. not (p y)) s) (filter (λ y. not (p y)) s)))
      step true r va vb = ap (ring.add (f x)) r ∙ sym (laws.add_assoc (f x) _ _ (v x) va vb)
      step false r va vb = ap (ring.add (f x)) r ∙ add_swap laws (f x) _ _ (v x) va vb

module _ {F : Type 0} {ring : RingOf F} (laws : IsRing ring) (commutes : IsCommutative ring) where
  -- (-1)^k is its own inverse
  pub sign-twice : (k : ℕ) (y : F) → ring.IsValue y → ring.mul (sign ring k) (ring.mul (sign ring k) y) ≡ y
  sign-twice zero y v = laws.one_mul _ (laws.mul_value ring.one y laws.one_value v) ∙ laws.one_mul y v
  sign-twice (suc k) y v =
      let sv = sign-value laws commutes k in
      let w = laws.mul_value _ y sv v in
      ap (ring.mul (sign ring (suc k))) (sign_next laws commutes k y v) ∙ sign_next laws commutes k _ (laws.neg_value _ w)
      ∙ ap ring.neg (mul_neg laws commutes _ _ sv w) ∙ neg_neg laws _ (laws.mul_value _ _ sv w) ∙ sign-twice k y v

  -- the term of the boundary of e_S without d
  abbrev pub drop_term : (Set → F) → Set → ℕ → F
  drop_term g s d = ring.mul (sign ring (below_in s d)) (g (drop_one d s))

  pub drop_term-value : (g : Set → F) (s : Set) → Values ring g → Gives ring (drop_term g s)
  drop_term-value g s v d = laws.mul_value _ _ (sign-value laws commutes _) (v _)

  -- The boundary of e_S: the sum over the members d of (-1)^(members below d) times e of S without d.
  pub boundary-members : (g : Set → F) (a n : ℕ) (s : Set) → Values ring g → Up a n s
      → at_boundary ring g s ≡ over_members ring (drop_term g s) s
  boundary-members g a n [] v h = refl
  boundary-members g a n (x ∷ s) v h =
      both_sides ring.add _ _ _ _ (sym first)
      (ap ring.neg (boundary-members (λ u. g (x ∷ u)) x n s (λ u. v (x ∷ u)) h.2)
      ∙ sym (members-neg laws (drop_term (λ u. g (x ∷ u)) s) (drop_term-value (λ u. g (x ∷ u)) s (λ u. v (x ∷ u))) s)
      ∙ sym (members-ext laws (drop_term g (x ∷ s)) (λ d. ring.neg (drop_term (λ u. g (x ∷ u)) s d)) s later))
    where
      none : below_in (x ∷ s) x ≡ 0
      none =
          let a = sum_by-cons (λ y. one_if (nat_lt y x)) x s in
          let e : one_if (nat_lt x x) ≡ 0 = ap one_if (le-ltb x x (omega arith)) in
          let r = none-below x x n s (omega arith) h.2 in
          omega (arith, a, e, r)

      first : drop_term g (x ∷ s) x ≡ g s
      first = (λ i. ring.mul (sign ring (none i)) (g (drop-first x a n s h i))) ∙ laws.one_mul (g s) (v s)

      counted : (d : ℕ) → x < d → below_in (x ∷ s) d ≡ suc (below_in s d)
      counted d l =
          let a = sum_by-cons (λ y. one_if (nat_lt y d)) x s in
          let e : one_if (nat_lt x d) ≡ 1 = ap one_if (lt-ltb x d l) in
          omega (arith, a, e)

      later : (d : ℕ) → Contains s d → drop_term g (x ∷ s) d ≡ ring.neg (drop_term (λ u. g (x ∷ u)) s d)
      later d c =
          (λ i. ring.mul (sign ring (counted d (up_members x n s d h.2 c).0 i)) (g (drop-later d x a n s h c i)))
          ∙ sign_next laws commutes (below_in s d) _ (v (x ∷ drop_one d s))
