-- The exterior algebra seen from its functionals: a function g on sets gives a functional on elements, and the boundary
-- and the wedge act on such functions.
use Rattle.std.specs.Prelude.{◌≡◌, ℕ, ◌<◌, ◌≤◌, ◌==◌, nat_lt, Bool, true, false, cond, [], ◌∷◌, ◌⊎◌}
use Rattle.std.proofs.lemmas.Bool.{eqb-true, eqb-false, ltb-true, ltb-false, lt-ltb}
use mathlib.Core.Logic.{inl, inr}
use mathlib.Core.Path.{refl, sym, ap, ◌∙◌, subst}
use native.Mathlib.Omega.{arith}
use Rattle.hp_algebra.specs.Ring.{RingOf, IsRing}
use Rattle.hp_algebra.proofs.Rings.{neg_neg, zero_add}
use Rattle.hp_sets.specs.Sets.{Set}
use Rattle.hp_exterior.proofs.Inserted.{Up, Up-lower, insert, join}
use Rattle.hp_exterior.proofs.Negations.{both_sides, four, neg_add, neg_zero}

-- it holds at every set that S gives without one member
abbrev pub AtDrops : (Set → Type 0) → Set → Type 0
AtDrops P [] = Unit {0}
AtDrops P (x ∷ s) = P s × AtDrops (λ u. P (x ∷ u)) s

pub drops_all : (P : Set → Type 0) (a n : ℕ) (s : Set) → Up a n s → ((u : Set) → Up a n u → P u) → AtDrops P s
drops_all P a n [] h f = tt
drops_all P a n (x ∷ s) h f = (f s (Up-lower a x n s (less a x h.0) h.2), drops_all (λ u. P (x ∷ u)) x n s h.2 (λ u k. f (x ∷ u) (h.0, h.1, k)))
  where
    less : (a x : ℕ) → a < x → a ≤ x
    less a x l = omega arith

pub drops_both : (P Q : Set → Type 0) (s : Set) → ((u : Set) → P u → Q u) → AtDrops P s → AtDrops Q s
drops_both P Q [] f h = tt
drops_both P Q (x ∷ s) f h = (f s h.0, drops_both (λ u. P (x ∷ u)) (λ u. Q (x ∷ u)) s (λ u. f (x ∷ u)) h.1)

module _ {F : Type 0} (ring : RingOf F) where
  open ring use {IsValue}

  abbrev pub Values : (Set → F) → Type 0
  Values g = (s : Set) → ring.IsValue (g s)

  -- the value of g at the boundary of e_S
  abbrev pub at_boundary : (Set → F) → Set → F
  at_boundary g [] = ring.zero
  at_boundary g (x ∷ s) = ring.add (g s) (ring.neg (at_boundary (λ u. g (x ∷ u)) s))

  -- the value of g at e_i ∧ e_S
  abbrev pub at_insert : ℕ → (Set → F) → Set → F
  at_insert i g [] = g (i ∷ [])
  at_insert i g (x ∷ s) = cond (nat_lt i x) (g (i ∷ x ∷ s)) (cond (i == x) ring.zero (ring.neg (at_insert i (λ u. g (x ∷ u)) s)))

  -- the value of g at e_S ∧ e_T
  abbrev pub at_wedge : (Set → F) → Set → Set → F
  at_wedge g [] t = g t
  at_wedge g (x ∷ s) t = at_wedge (at_insert x g) s t

  -- (-1)^k y for a set of k members
  abbrev pub flip : Set → F → F
  flip [] y = y
  flip (x ∷ s) y = ring.neg (flip s y)

  -- the functional is zero, or plus or minus the value at j
  abbrev pub IsSigned : ((Set → F) → F) → Set → Type 0
  IsSigned φ j = ((g : Set → F) → Values g → φ g ≡ ring.zero) ⊎ (((g : Set → F) → Values g → φ g ≡ g j) ⊎ ((g : Set → F) → Values g → φ g ≡ ring.neg (g j)))

  -- the function where the test holds, and zero elsewhere
  abbrev pub restricted : (Set → Bool) → (Set → F) → Set → F
  restricted p g u = cond (p u) (g u) ring.zero

module _ {F : Type 0} {ring : RingOf F} (laws : IsRing ring) where
  open ring use {IsValue}

  -- ---- the boundary

  pub boundary-value : (g : Set → F) (s : Set) → Values ring g → IsValue (at_boundary ring g s)
  boundary-value g [] v = laws.zero_value
  boundary-value g (x ∷ s) v = laws.add_value _ _ (v s) (laws.neg_value _ (boundary-value (λ u. g (x ∷ u)) s (λ u. v (x ∷ u))))

  pub boundary-add : (f g : Set → F) (s : Set) → Values ring f → Values ring g
      → at_boundary ring (λ u. ring.add (f u) (g u)) s ≡ ring.add (at_boundary ring f s) (at_boundary ring g s)
  boundary-add f g [] v w = sym (laws.add_zero _ laws.zero_value)
  boundary-add f g (x ∷ s) v w =
      let a = boundary-value (λ u. f (x ∷ u)) s (λ u. v (x ∷ u)) in
      let b = boundary-value (λ u. g (x ∷ u)) s (λ u. w (x ∷ u)) in
      ap (λ z. ring.add (ring.add (f s) (g s)) (ring.neg z)) (boundary-add (λ u. f (x ∷ u)) (λ u. g (x ∷ u)) s (λ u. v (x ∷ u)) (λ u. w (x ∷ u)))
      ∙ ap (ring.add (ring.add (f s) (g s))) (neg_add laws _ _ a b)
      ∙ four laws (f s) (g s) _ _ (v s) (w s) (laws.neg_value _ a) (laws.neg_value _ b)

  pub boundary-neg : (f : Set → F) (s : Set) → Values ring f
      → at_boundary ring (λ u. ring.neg (f u)) s ≡ ring.neg (at_boundary ring f s)
  boundary-neg f [] v = sym (neg_zero laws)
  boundary-neg f (x ∷ s) v =
      let a = boundary-value (λ u. f (x ∷ u)) s (λ u. v (x ∷ u)) in
      ap (λ z. ring.add (ring.neg (f s)) (ring.neg z)) (boundary-neg (λ u. f (x ∷ u)) s (λ u. v (x ∷ u)))
      ∙ sym (neg_add laws _ _ (v s) (laws.neg_value _ a))

  pub boundary-sub : (f g : Set → F) (s : Set) → Values ring f → Values ring g
      → at_boundary ring (λ u. ring.add (f u) (ring.neg (g u))) s
      ≡ ring.add (at_boundary ring f s) (ring.neg (at_boundary ring g s))
  boundary-sub f g s v w =
      boundary-add f (λ u. ring.neg (g u)) s v (λ u. laws.neg_value _ (w u)) ∙ ap (ring.add (at_boundary ring f s)) (boundary-neg g s w)

  pub boundary-zero : (s : Set) → at_boundary ring (λ u. ring.zero) s ≡ ring.zero
  boundary-zero [] = refl
  boundary-zero (x ∷ s) = ap (λ z. ring.add ring.zero (ring.neg z)) (boundary-zero s) ∙ laws.add_neg ring.zero laws.zero_value

  -- the boundary of a boundary is zero
  pub boundary-twice : (g : Set → F) (s : Set) → Values ring g → at_boundary ring (at_boundary ring g) s ≡ ring.zero
  boundary-twice g [] v = refl
  boundary-twice g (x ∷ s) v =
      let h : Set → F = λ u. g (x ∷ u) in
      let hv : Values ring h = λ u. v (x ∷ u) in
      let b = boundary-value g s v in
      ap (λ z. ring.add (at_boundary ring g s) (ring.neg z))
      (boundary-sub g (at_boundary ring h) s v (λ u. boundary-value h u hv)
      ∙ ap (λ z. ring.add (at_boundary ring g s) (ring.neg z)) (boundary-twice h s hv)
      ∙ ap (ring.add (at_boundary ring g s)) (neg_zero laws) ∙ laws.add_zero _ b)
      ∙ laws.add_neg _ b

  pub boundary-ext : (f g : Set → F) (s : Set) → AtDrops (λ u. f u ≡ g u) s
      → at_boundary ring f s ≡ at_boundary ring g s
  boundary-ext f g [] h = refl
  boundary-ext f g (x ∷ s) h = both_sides ring.add _ _ _ _ h.0 (ap ring.neg (boundary-ext (λ u. f (x ∷ u)) (λ u. g (x ∷ u)) s h.1))

  -- two boundaries change places
  pub boundary-swap : (f : Set → Set → F) (s t : Set) → ((u v : Set) → IsValue (f u v))
      → at_boundary ring (λ u. at_boundary ring (λ v. f u v) t) s
      ≡ at_boundary ring (λ v. at_boundary ring (λ u. f u v) s) t
  boundary-swap f [] t v = sym (boundary-zero t)
  boundary-swap f (x ∷ s) t v =
      ap (λ z. ring.add (at_boundary ring (f s) t) (ring.neg z)) (boundary-swap (λ u. f (x ∷ u)) s t (λ u w. v (x ∷ u) w))
      ∙ sym (boundary-sub (f s) (λ w. at_boundary ring (λ u. f (x ∷ u) w) s) t (v s) (λ w. boundary-value (λ u. f (x ∷ u) w) s (λ u. v (x ∷ u) w)))

  -- ---- the wedge with one generator

  pub insert-value : (i : ℕ) (g : Set → F) (s : Set) → Values ring g → IsValue (at_insert ring i g s)
  insert-value i g [] v = v (i ∷ [])
  insert-value i g (x ∷ s) v = pick (insert-value i (λ u. g (x ∷ u)) s (λ u. v (x ∷ u))) (nat_lt i x) (i == x)
    where
      pick : IsValue (at_insert ring i (λ u. g (x ∷ u)) s) → (a b : Bool)
          → IsValue (cond a (g (i ∷ x ∷ s)) (cond b ring.zero (ring.neg (at_insert ring i (λ u. g (x ∷ u)) s))))
      pick r true b = v (i ∷ x ∷ s)
      pick r false true = laws.zero_value
      pick r false false = laws.neg_value _ r

  pub insert-sub : (i : ℕ) (f g : Set → F) (s : Set) → Values ring f → Values ring g
      → at_insert ring i (λ u. ring.add (f u) (ring.neg (g u))) s
      ≡ ring.add (at_insert ring i f s) (ring.neg (at_insert ring i g s))
  insert-sub i f g [] v w = refl
  insert-sub i f g (x ∷ s) v w = pick (insert-sub i (λ u. f (x ∷ u)) (λ u. g (x ∷ u)) s (λ u. v (x ∷ u)) (λ u. w (x ∷ u))) (nat_lt i x) (i == x)
    where
      pick : at_insert ring i (λ u. ring.add (f (x ∷ u)) (ring.neg (g (x ∷ u)))) s
          ≡ ring.add (at_insert ring i (λ u. f (x ∷ u)) s) (ring.neg (at_insert ring i (λ u. g (x ∷ u)) s))
          → (a b : Bool)
          → cond a (ring.add (f (i ∷ x ∷ s)) (ring.neg (g (i ∷ x ∷ s)))) (cond b ring.zero (ring.neg (at_insert ring i (λ u. ring.add (f (x ∷ u)) (ring.neg (g (x ∷ u)))) s)))
          ≡ ring.add (cond a (f (i ∷ x ∷ s)) (cond b ring.zero (ring.neg (at_insert ring i (λ u. f (x ∷ u)) s)))) (ring.neg (cond a (g (i ∷ x ∷ s)) (cond b ring.zero (ring.neg (at_insert ring i (λ u. g (x ∷ u)) s)))))
      pick r true b = refl
      pick r false true = sym (laws.add_neg ring.zero laws.zero_value)
      pick r false false =
          ap ring.neg r
          ∙ neg_add laws _ _ (insert-value i (λ u. f (x ∷ u)) s (λ u. v (x ∷ u))) (laws.neg_value _ (insert-value i (λ u. g (x ∷ u)) s (λ u. w (x ∷ u))))

  -- below all members it is put in front
  pub insert-front : (i x n : ℕ) (g : Set → F) (s : Set) → i ≤ x → Up x n s → at_insert ring i g s ≡ g (i ∷ s)
  insert-front i x n g [] l h = refl
  insert-front i x n g (y ∷ s) l h = ap (λ b. cond b (g (i ∷ y ∷ s)) (cond (i == y) ring.zero (ring.neg (at_insert ring i (λ u. g (y ∷ u)) s)))) (lt-ltb i y (less i x y l h.0))
    where
      less : (i x y : ℕ) → i ≤ x → x < y → i < y
      less i x y l m = omega arith

  regroup : (p q r v : F) → IsValue p → IsValue q → IsValue r → ring.add q r ≡ v
      → ring.add (ring.neg (ring.add p (ring.neg q))) (ring.add p (ring.neg (ring.neg r))) ≡ v
  regroup p q r v vp vq vr e =
      let nq = laws.neg_value q vq in
      let np = laws.neg_value p vp in
      both_sides ring.add _ _ _ _ (neg_add laws p (ring.neg q) vp nq ∙ ap (ring.add (ring.neg p)) (neg_neg laws q vq)) (ap (ring.add p) (neg_neg laws r vr))
      ∙ four laws (ring.neg p) q p r np vq vp vr
      ∙ both_sides ring.add _ _ _ _ (laws.add_comm _ _ np vp ∙ laws.add_neg p vp) e
      ∙ zero_add laws v (subst IsValue e (laws.add_value q r vq vr))

  abbrev InsertGoal : ℕ → (Set → F) → ℕ → Set → Bool → Bool → Type 0
  InsertGoal i g x s b c = ring.add (cond b (at_boundary ring g (i ∷ x ∷ s)) (cond c ring.zero (ring.neg (at_insert ring i (λ u. at_boundary ring g (x ∷ u)) s))))
      (ring.add (at_insert ring i g s) (ring.neg (at_boundary ring (λ u. cond b (g (i ∷ x ∷ u)) (cond c ring.zero (ring.neg (at_insert ring i (λ w. g (x ∷ w)) u)))) s))) ≡ g (x ∷ s)

  -- ∂ (e_i ∧ e_S) + e_i ∧ ∂ e_S = e_S
  pub insert-boundary : (i a n : ℕ) (g : Set → F) (s : Set) → Values ring g → Up a n s
      → ring.add (at_insert ring i (at_boundary ring g) s) (at_boundary ring (at_insert ring i g) s) ≡ g s
  insert-boundary i a n g [] v h = laws.add_zero _ (laws.add_value _ _ (v []) (laws.neg_value _ laws.zero_value)) ∙ ap (ring.add (g [])) (neg_zero laws) ∙ laws.add_zero _ (v [])
  insert-boundary i a n g (x ∷ s) v h = pick (insert-boundary i x n (λ u. g (x ∷ u)) s (λ u. v (x ∷ u)) h.2) (nat_lt i x) refl (i == x) refl
    where
      vx : Values ring (λ u. g (x ∷ u))
      vx u = v (x ∷ u)

      pick : ring.add (at_insert ring i (at_boundary ring (λ u. g (x ∷ u))) s) (at_boundary ring (at_insert ring i (λ u. g (x ∷ u))) s)
          ≡ g (x ∷ s)
          → (b : Bool) → nat_lt i x ≡ b → (c : Bool) → (i == x) ≡ c → InsertGoal i g x s b c
      pick r true e c d =
          let l : i < x = ltb-true i x e in
          let p = boundary-value (λ u. g (i ∷ x ∷ u)) s (λ u. v (i ∷ x ∷ u)) in
          let y = laws.add_value _ _ (v (i ∷ s)) (laws.neg_value _ p) in
          ap (λ z. ring.add (at_boundary ring g (i ∷ x ∷ s)) (ring.add z (ring.neg (at_boundary ring (λ u. g (i ∷ x ∷ u)) s)))) (insert-front i x n g s (weak i x l) h.2)
          ∙ laws.add_assoc (g (x ∷ s)) _ _ (v (x ∷ s)) (laws.neg_value _ y) y
          ∙ ap (ring.add (g (x ∷ s))) (laws.add_comm _ _ (laws.neg_value _ y) y ∙ laws.add_neg _ y)
          ∙ laws.add_zero _ (v (x ∷ s))
        where
          weak : (i x : ℕ) → i < x → i ≤ x
          weak i x l = omega arith
      pick r false e true d =
          let ix : i ≡ x = eqb-true i x d in
          let w = insert-value i g s v in
          zero_add laws _ (laws.add_value _ _ w (laws.neg_value _ (boundary-value (λ u. ring.zero) s (λ u. laws.zero_value))))
          ∙ ap (λ z. ring.add (at_insert ring i g s) (ring.neg z)) (boundary-zero s) ∙ ap (ring.add (at_insert ring i g s)) (neg_zero laws) ∙ laws.add_zero _ w
          ∙ insert-front i x n g s (same i x ix) h.2 ∙ ap (λ z. g (z ∷ s)) ix
        where
          same : (i x : ℕ) → i ≡ x → i ≤ x
          same i x e = omega arith
      pick r false e false d =
          both_sides ring.add _ _ _ _ (ap ring.neg (insert-sub i g (at_boundary ring (λ u. g (x ∷ u))) s v (λ u. boundary-value (λ w. g (x ∷ w)) u vx)))
          (ap (λ z. ring.add (at_insert ring i g s) (ring.neg z)) (boundary-neg (λ u. at_insert ring i (λ w. g (x ∷ w)) u) s (λ u. insert-value i (λ w. g (x ∷ w)) u vx)))
          ∙ regroup _ _ _ _ (insert-value i g s v) (insert-value i (at_boundary ring (λ u. g (x ∷ u))) s (λ u. boundary-value (λ w. g (x ∷ w)) u vx))
          (boundary-value (at_insert ring i (λ u. g (x ∷ u))) s (λ u. insert-value i (λ w. g (x ∷ w)) u vx)) r

  -- ---- the wedge of two sets

  pub wedge-value : (g : Set → F) (s t : Set) → Values ring g → IsValue (at_wedge ring g s t)
  wedge-value g [] t v = v t
  wedge-value g (x ∷ s) t v = wedge-value (at_insert ring x g) s t (λ u. insert-value x g u v)

  pub wedge-sub : (f g : Set → F) (s t : Set) → Values ring f → Values ring g
      → at_wedge ring (λ u. ring.add (f u) (ring.neg (g u))) s t
      ≡ ring.add (at_wedge ring f s t) (ring.neg (at_wedge ring g s t))
  wedge-sub f g [] t v w = refl
  wedge-sub f g (x ∷ s) t v w =
      ap (λ (h : Set → F). at_wedge ring h s t) (λ i u. insert-sub x f g u v w i)
      ∙ wedge-sub (at_insert ring x f) (at_insert ring x g) s t (λ u. insert-value x f u v) (λ u. insert-value x g u w)

  -- only the values at rising lists count
  pub insert-ext : (i a n : ℕ) (f g : Set → F) (s : Set) → ((u : Set) → Up a n u → f u ≡ g u) → a < i → i ≤ n
      → Up a n s → at_insert ring i f s ≡ at_insert ring i g s
  insert-ext i a n f g [] e l m h = e (i ∷ []) (l, m, tt)
  insert-ext i a n f g (x ∷ s) e l m h =
      pick (λ d. insert-ext i x n (λ u. f (x ∷ u)) (λ u. g (x ∷ u)) s (λ u k. e (x ∷ u) (h.0, h.1, k)) d m h.2) (nat_lt i x) refl (i == x) refl
    where
      over : (i x : ℕ) → x ≤ i → (i ≡ x → ⊥) → x < i
      over i x l n = omega arith

      pick : (x < i → at_insert ring i (λ u. f (x ∷ u)) s ≡ at_insert ring i (λ u. g (x ∷ u)) s) → (b : Bool)
          → nat_lt i x ≡ b → (c : Bool) → (i == x) ≡ c
          → cond b (f (i ∷ x ∷ s)) (cond c ring.zero (ring.neg (at_insert ring i (λ u. f (x ∷ u)) s)))
          ≡ cond b (g (i ∷ x ∷ s)) (cond c ring.zero (ring.neg (at_insert ring i (λ u. g (x ∷ u)) s)))
      pick r true d c k = e (i ∷ x ∷ s) (l, m, (ltb-true i x d, h.1, h.2))
      pick r false d true k = refl
      pick r false d false k = ap ring.neg (r (over i x (ltb-false i x d) (eqb-false i x k)))

  pub wedge-ext : (a n : ℕ) (f g : Set → F) (s t : Set) → ((u : Set) → Up 0 n u → f u ≡ g u) → Up a n s → Up 0 n t
      → at_wedge ring f s t ≡ at_wedge ring g s t
  wedge-ext a n f g [] t e h k = e t k
  wedge-ext a n f g (x ∷ s) t e h k =
      wedge-ext x n (at_insert ring x f) (at_insert ring x g) s t (λ u j. insert-ext x 0 n f g u e (positive a x h.0) h.1 j) h.2 k
    where
      positive : (a x : ℕ) → a < x → 0 < x
      positive a x l = omega arith

  pub flip-value : (s : Set) (y : F) → IsValue y → IsValue (flip ring s y)
  flip-value [] y v = v
  flip-value (x ∷ s) y v = laws.neg_value _ (flip-value s y v)

  pub flip-zero : (s : Set) → flip ring s ring.zero ≡ ring.zero
  flip-zero [] = refl
  flip-zero (x ∷ s) = ap ring.neg (flip-zero s) ∙ (neg_zero laws)

  pub boundary-flip : (f : Set → F) (s t : Set) → Values ring f
      → at_boundary ring (λ u. flip ring t (f u)) s ≡ flip ring t (at_boundary ring f s)
  boundary-flip f s [] v = refl
  boundary-flip f s (x ∷ t) v = boundary-neg (λ u. flip ring t (f u)) s (λ u. flip-value t (f u) (v u)) ∙ ap ring.neg (boundary-flip f s t v)

  move_over : (p q v : F) → IsValue p → IsValue q → ring.add p q ≡ v → p ≡ ring.add v (ring.neg q)
  move_over p q v vp vq e =
      sym (ap (λ z. ring.add z (ring.neg q)) (sym e) ∙ laws.add_assoc p q _ vp vq (laws.neg_value q vq) ∙ ap (ring.add p) (laws.add_neg q vq) ∙ laws.add_zero p vp)

  -- The boundary is a derivation: ∂ (e_S ∧ e_T) = ∂ e_S ∧ e_T + (-1)^|S| e_S ∧ ∂ e_T.
  pub derivation : (a n : ℕ) (g : Set → F) (s t : Set) → Values ring g → Up a n s → Up 0 n t
      → at_wedge ring (at_boundary ring g) s t
      ≡ ring.add (at_boundary ring (λ u. at_wedge ring g u t) s)
      (flip ring s (at_boundary ring (λ w. at_wedge ring g s w) t))
  derivation a n g [] t v h k = sym (zero_add laws _ (boundary-value g t v))
  derivation a n g (x ∷ s) t v h k =
      let gx : Set → F = at_insert ring x g in
      let vx : Values ring gx = λ u. insert-value x g u v in
      let bx : Values ring (at_boundary ring gx) = λ u. boundary-value gx u vx in
      let p = wedge-value g s t v in
      let q = boundary-value (λ u. at_wedge ring gx u t) s (λ u. wedge-value gx u t vx) in
      let r = flip-value s _ (boundary-value (λ w. at_wedge ring gx s w) t (λ w. wedge-value gx s w vx)) in
      wedge-ext x n (at_insert ring x (at_boundary ring g)) (λ u. ring.add (g u) (ring.neg (at_boundary ring gx u))) s t
      (λ u j. move_over _ _ _ (insert-value x (at_boundary ring g) u (λ w. boundary-value g w v)) (bx u) (insert-boundary x 0 n g u v j)) h.2 k
      ∙ wedge-sub g (at_boundary ring gx) s t v bx
      ∙ ap (λ z. ring.add (at_wedge ring g s t) (ring.neg z)) (derivation x n gx s t vx h.2 k)
      ∙ ap (ring.add (at_wedge ring g s t)) (neg_add laws _ _ q r)
      ∙ sym (laws.add_assoc _ _ _ p (laws.neg_value _ q) (laws.neg_value _ r))

  -- ---- the set at which a wedge is taken

  pub insert-signed : (i : ℕ) (s : Set) → IsSigned ring (λ g. at_insert ring i g s) (insert i s)
  insert-signed i [] = inr (inl (λ g v. refl))
  insert-signed i (x ∷ s) = pick (insert-signed i s) (nat_lt i x) (i == x)
    where
      turn : IsSigned ring (λ g. at_insert ring i g s) (insert i s)
          → IsSigned ring (λ g. ring.neg (at_insert ring i (λ u. g (x ∷ u)) s)) (x ∷ insert i s)
      turn (inl e) = inl (λ g v. ap ring.neg (e (λ u. g (x ∷ u)) (λ u. v (x ∷ u))) ∙ (neg_zero laws))
      turn (inr (inl e)) = inr (inr (λ g v. ap ring.neg (e (λ u. g (x ∷ u)) (λ u. v (x ∷ u)))))
      turn (inr (inr e)) = inr (inl (λ g v. ap ring.neg (e (λ u. g (x ∷ u)) (λ u. v (x ∷ u))) ∙ neg_neg laws _ (v (x ∷ insert i s))))

      pick : IsSigned ring (λ g. at_insert ring i g s) (insert i s) → (b c : Bool)
          → IsSigned ring (λ g. cond b (g (i ∷ x ∷ s)) (cond c ring.zero (ring.neg (at_insert ring i (λ u. g (x ∷ u)) s)))) (cond b (i ∷ x ∷ s) (cond c (x ∷ s) (x ∷ insert i s)))
      pick r true c = inr (inl (λ g v. refl))
      pick r false true = inl (λ g v. refl)
      pick r false false = turn r

  pub wedge-signed : (s t : Set) → IsSigned ring (λ g. at_wedge ring g s t) (join s t)
  wedge-signed [] t = inr (inl (λ g v. refl))
  wedge-signed (x ∷ s) t = both (wedge-signed s t) (insert-signed x (join s t))
    where
      vx : (g : Set → F) → Values ring g → Values ring (at_insert ring x g)
      vx g v u = insert-value x g u v

      both : IsSigned ring (λ g. at_wedge ring g s t) (join s t)
          → IsSigned ring (λ g. at_insert ring x g (join s t)) (insert x (join s t))
          → IsSigned ring (λ g. at_wedge ring (at_insert ring x g) s t) (insert x (join s t))
      both (inl e) k = inl (λ g v. e (at_insert ring x g) (vx g v))
      both (inr (inl e)) (inl k) = inl (λ g v. e (at_insert ring x g) (vx g v) ∙ k g v)
      both (inr (inl e)) (inr (inl k)) = inr (inl (λ g v. e (at_insert ring x g) (vx g v) ∙ k g v))
      both (inr (inl e)) (inr (inr k)) = inr (inr (λ g v. e (at_insert ring x g) (vx g v) ∙ k g v))
      both (inr (inr e)) (inl k) = inl (λ g v. e (at_insert ring x g) (vx g v) ∙ ap ring.neg (k g v) ∙ (neg_zero laws))
      both (inr (inr e)) (inr (inl k)) = inr (inr (λ g v. e (at_insert ring x g) (vx g v) ∙ ap ring.neg (k g v)))
      both (inr (inr e)) (inr (inr k)) = inr (inl (λ g v. e (at_insert ring x g) (vx g v) ∙ ap ring.neg (k g v) ∙ neg_neg laws _ (v (insert x (join s t)))))

  pub signed-zero : (φ : (Set → F) → F) (j : Set) (g : Set → F) → IsSigned ring φ j → Values ring g → g j ≡ ring.zero
      → φ g ≡ ring.zero
  signed-zero φ j g (inl e) v z = e g v
  signed-zero φ j g (inr (inl e)) v z = e g v ∙ z
  signed-zero φ j g (inr (inr e)) v z = e g v ∙ ap ring.neg z ∙ (neg_zero laws)

  pub restricted-value : (p : Set → Bool) (g : Set → F) → Values ring g → Values ring (restricted ring p g)
  restricted-value p g v u = pick (p u)
    where
      pick : (b : Bool) → IsValue (cond b (g u) ring.zero)
      pick true = v u
      pick false = laws.zero_value

  pub signed-restricted : (φ : (Set → F) → F) (j : Set) (p : Set → Bool) (g : Set → F) → IsSigned ring φ j
      → Values ring g → φ (restricted ring p g) ≡ cond (p j) (φ g) ring.zero
  signed-restricted φ j p g (inl e) v = e (restricted ring p g) (restricted-value p g v) ∙ sym (ap (λ z. cond (p j) z ring.zero) (e g v) ∙ pick (p j))
    where
      pick : (b : Bool) → cond b ring.zero ring.zero ≡ ring.zero
      pick true = refl
      pick false = refl
  signed-restricted φ j p g (inr (inl e)) v = e (restricted ring p g) (restricted-value p g v) ∙ sym (ap (λ z. cond (p j) z ring.zero) (e g v))
  signed-restricted φ j p g (inr (inr e)) v = e (restricted ring p g) (restricted-value p g v) ∙ pick (p j) ∙ sym (ap (λ z. cond (p j) z ring.zero) (e g v))
    where
      pick : (b : Bool) → ring.neg (cond b (g j) ring.zero) ≡ cond b (ring.neg (g j)) ring.zero
      pick true = refl
      pick false = (neg_zero laws)

  -- ---- functionals that vanish on the ideal of the sets with a property

  -- ∂ (e_T ∧ ∂ e_C) = ∂ e_T ∧ ∂ e_C
  pub relation-boundary : (n : ℕ) (g : Set → F) (t c : Set) → Values ring g → Up 0 n t → Up 0 n c
      → at_boundary ring (λ u. at_wedge ring (at_boundary ring g) t u) c
      ≡ at_boundary ring (λ s. at_boundary ring (λ u. at_wedge ring g s u) c) t
  relation-boundary n g t c v h k =
      let w : (u s : Set) → IsValue (at_wedge ring g u s) = λ u s. wedge-value g u s v in
      let f : Set → F = λ u. at_boundary ring (λ s. at_wedge ring g s u) t in
      let e : Set → F = λ u. at_boundary ring (λ s. at_wedge ring g t s) u in
      let ev : Values ring e = λ u. boundary-value (λ s. at_wedge ring g t s) u (λ s. w t s) in
      let fv : Values ring f = λ u. boundary-value (λ s. at_wedge ring g s u) t (λ s. w s u) in
      boundary-ext (λ u. at_wedge ring (at_boundary ring g) t u) (λ u. ring.add (f u) (flip ring t (e u))) c (drops_all _ 0 n c k (λ u j. derivation 0 n g t u v h j))
      ∙ boundary-add f (λ u. flip ring t (e u)) c fv (λ u. flip-value t (e u) (ev u))
      ∙ ap (ring.add (at_boundary ring f c)) (boundary-flip e c t ev ∙ ap (flip ring t) (boundary-twice (λ s. at_wedge ring g t s) c (λ s. w t s)) ∙ flip-zero t)
      ∙ laws.add_zero _ (boundary-value f c fv)
      ∙ boundary-swap (λ u s. at_wedge ring g s u) c t (λ u s. w s u)
