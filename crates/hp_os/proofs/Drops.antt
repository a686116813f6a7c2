-- Sets without one member, and with a lower number in place of one: their members and sums over them.
use Rattle.std.specs.Prelude.{◌≡◌, ℕ, ◌+◌, ◌<◌, ◌≤◌, ◌==◌, nat_lt, Bool, true, false, not, cond, [], ◌∷◌, filter, sum_by, Contains, ◌⊎◌}
use Rattle.std.proofs.lemmas.Bool.{eq-eqb, ne_eqb, eqb-true, le-ltb}
use Rattle.std.proofs.lemmas.List.Sums.{sum_by-cons}
use mathlib.Core.Logic.{inl, inr}
use mathlib.Core.Path.{refl, sym, ap, ◌∙◌, subst}
use native.Mathlib.Omega.{arith}
use Rattle.hp_lists.proofs.Members.{not_both, Contains-here, Contains-later, Contains-cases, Contains-none, Contains-filter, filter-Contains}
use Rattle.hp_lists.proofs.NaturalSums.{one_if}
use Rattle.hp_sets.specs.Sets.{Set, IsSetWithin, without_member}
use Rattle.hp_sets.proofs.SetLaws.{set-ext, set-wider}
use Rattle.hp_sets.proofs.SetMembers.{with-set, with-members, members-with, without-set, without-members, members-without}
use Rattle.hp_exterior.specs.SetSums.{below_in}
use Rattle.hp_exterior.proofs.Inserted.{Up, Up-lower, insert, insert-members, members-insert, insert-up, set_up, up_members, up_set}
use Rattle.hp_os.specs.Straightening.{replaced}

-- ---- a list without one number

abbrev pub drop_one : ℕ → Set → Set
drop_one d s = filter (λ y. not (y == d)) s

-- what is not a member is not dropped
pub drop-none : (d a n : ℕ) (s : Set) → d ≤ a → Up a n s → drop_one d s ≡ s
drop-none d a n [] l h = refl
drop-none d a n (x ∷ s) l h =
    ap (λ b. cond (not b) (x ∷ drop_one d s) (drop_one d s)) (ne_eqb x d (differ d a x l h.0))
    ∙ ap (λ t. x ∷ t) (drop-none d x n s (weak d a x l h.0) h.2)
  where
    differ : (d a x : ℕ) → d ≤ a → a < x → x ≡ d → ⊥
    differ d a x l m e = omega arith

    weak : (d a x : ℕ) → d ≤ a → a < x → d ≤ x
    weak d a x l m = omega arith

pub drop-first : (x a n : ℕ) (s : Set) → Up a n (x ∷ s) → drop_one x (x ∷ s) ≡ s
drop-first x a n s h =
    ap (λ b. cond (not b) (x ∷ drop_one x s) (drop_one x s)) (eq-eqb x x refl) ∙ drop-none x x n s (omega arith) h.2

pub drop-later : (d x a n : ℕ) (s : Set) → Up a n (x ∷ s) → Contains s d → drop_one d (x ∷ s) ≡ x ∷ drop_one d s
drop-later d x a n s h c =
    ap (λ b. cond (not b) (x ∷ drop_one d s) (drop_one d s)) (ne_eqb x d (differ x d (up_members x n s d h.2 c).0))
  where
    differ : (x d : ℕ) → x < d → x ≡ d → ⊥
    differ x d l e = omega arith

pub drop-up : (d a n : ℕ) (s : Set) → Up a n s → Up a n (drop_one d s)
drop-up d a n [] h = tt
drop-up d a n (x ∷ s) h = step (x == d) (drop-up d x n s h.2)
  where
    weak : (a x : ℕ) → a < x → a ≤ x
    weak a x l = omega arith

    step : (b : Bool) → Up x n (drop_one d s) → Up a n (cond (not b) (x ∷ drop_one d s) (drop_one d s))
    step true r = Up-lower a x n _ (weak a x h.0) r
    step false r = (h.0, h.1, r)

-- no member is below a number that is below all
pub none-below : (x a n : ℕ) (s : Set) → x ≤ a → Up a n s → below_in s x ≡ 0
none-below x a n [] l h = refl
none-below x a n (y ∷ s) l h =
    let w = weak x a y l h.0 in
    let a = sum_by-cons (λ z. one_if (nat_lt z x)) y s in
    let e : one_if (nat_lt y x) ≡ 0 = ap one_if (le-ltb y x w) in
    let r = none-below x y n s w h.2 in
    omega (arith, a, e, r)
  where
    weak : (x a y : ℕ) → x ≤ a → a < y → x ≤ y
    weak x a y l m = omega arith

-- ---- sums of numbers

pub sum-drop : (f : ℕ → ℕ) (d a n : ℕ) (s : Set) → Up a n s → Contains s d → sum_by f (drop_one d s) + f d ≡ sum_by f s
sum-drop f d a n [] h c = absurd (Contains-none d c)
sum-drop f d a n (x ∷ s) h c = step (Contains-cases x s d c) (λ k. sum-drop f d x n s h.2 k)
  where
    step : (x ≡ d) ⊎ Contains s d → (Contains s d → sum_by f (drop_one d s) + f d ≡ sum_by f s)
        → sum_by f (drop_one d (x ∷ s)) + f d ≡ sum_by f (x ∷ s)
    step (inl e) r =
        let c = sum_by-cons f x s in
        let m : sum_by f s + f x ≡ sum_by f (x ∷ s) = omega (arith, c) in
        ap (λ z. sum_by f (drop_one z (x ∷ s)) + f z) (sym e) ∙ ap (λ (t : Set). sum_by f t + f x) (drop-first x a n s h) ∙ m
    step (inr k) r =
        let p = sum_by-cons f x (drop_one d s) in
        let q = sum_by-cons f x s in
        let t = r k in
        let m : sum_by f (x ∷ drop_one d s) + f d ≡ sum_by f (x ∷ s) = omega (arith, p, q, t) in
        ap (λ (t : Set). sum_by f t + f d) (drop-later d x a n s h k) ∙ m

pub sum-insert : (f : ℕ → ℕ) (i a n : ℕ) (s : Set) → Up a n s → (Contains s i → ⊥)
    → sum_by f (insert i s) ≡ f i + sum_by f s
sum-insert f i a n [] h c = sum_by-cons f i []
sum-insert f i a n (x ∷ s) h c = step (nat_lt i x) (i == x) refl (sum-insert f i x n s h.2 (λ k. c (Contains-later x s i k)))
  where
    step : (b d : Bool) → (i == x) ≡ d → sum_by f (insert i s) ≡ f i + sum_by f s
        → sum_by f (cond b (i ∷ x ∷ s) (cond d (x ∷ s) (x ∷ insert i s))) ≡ f i + sum_by f (x ∷ s)
    step true d e r = sum_by-cons f i (x ∷ s)
    step false true e r = absurd (c (subst (λ z. Contains (x ∷ s) z) (sym (eqb-true i x e)) (Contains-here x s)))
    step false false e r =
        let p = sum_by-cons f x (insert i s) in
        let q = sum_by-cons f x s in
        omega (arith, p, q, r)

-- ---- one member replaced by another

module _ (m : ℕ) (narrow : m ≤ 64) (s : Set) (hs : IsSetWithin m s) (i : ℕ) (hi : (1 ≤ i) × (i ≤ m)) where
  wide_s : IsSetWithin 64 s
  wide_s = set-wider m 64 s narrow hs

  pub replaced-set : (b : ℕ) → IsSetWithin m (replaced s b i)
  replaced-set b = with-set m _ i (without-set m s b hs) hi.1

  i_range : (1 ≤ i) × (i ≤ 64)
  i_range = (hi.0, long i m hi.1 narrow)
    where
      long : (i m : ℕ) → i ≤ m → m ≤ 64 → i ≤ 64
      long i m l k = omega arith

  insert_up : Up 0 m (insert i s)
  insert_up = insert-up i 0 m s (low i hi.0) hi.1 (set_up m s hs)
    where
      low : (i : ℕ) → 1 ≤ i → 0 < i
      low i l = omega arith

  -- it is s with i, without b
  pub replaced-drop : (b : ℕ) → (Contains s i → ⊥) → Contains s b → drop_one b (insert i s) ≡ replaced s b i
  replaced-drop b off_s c =
      set-ext m 64 _ _ (up_set m _ (drop-up b 0 m (insert i s) insert_up)) (set-wider m 64 _ narrow (replaced-set b))
      (λ j d. to j (filter-Contains (λ y. not (y == b)) (insert i s) j d))
      (λ j d. from j (Contains-cases i _ j (with-members (without_member s b) i j d)))
    where
      off : (j : ℕ) → not (j == b) ≡ true → b ≡ j → ⊥
      off j e d = not_both _ e (ap not (eq-eqb j b (sym d)))

      to : (j : ℕ) → Contains (insert i s) j × (not (j == b) ≡ true) → Contains (replaced s b i) j
      to j d =
          members-with (without_member s b) i j (without-set 64 s b wide_s) i_range (inner (Contains-cases i s j (insert-members i s j d.0)))
        where
          inner : (i ≡ j) ⊎ Contains s j → Contains (i ∷ without_member s b) j
          inner (inl e) = subst (λ z. Contains (i ∷ without_member s b) z) e (Contains-here i _)
          inner (inr k) = Contains-later i _ j (members-without s b j wide_s k (off j d.1))

      differ : (j : ℕ) → (j ≡ b → ⊥) → not (j == b) ≡ true
      differ j f = ap not (ne_eqb j b f)

      from : (j : ℕ) → (i ≡ j) ⊎ Contains (without_member s b) j → Contains (drop_one b (insert i s)) j
      from j (inl e) =
          Contains-filter (λ y. not (y == b)) (insert i s) j
          (members-insert i s j (subst (λ z. Contains (i ∷ s) z) e (Contains-here i s)))
          (differ j (λ q. off_s (subst (λ z. Contains s z) (sym (e ∙ q)) c)))
      from j (inr k) =
          let w = without-members s b j k in
          Contains-filter (λ y. not (y == b)) (insert i s) j (members-insert i s j (Contains-later i s j w.0)) (differ j (λ q. w.1 (sym q)))

  -- a sum over its members
  pub replaced-sum : (f : ℕ → ℕ) (b : ℕ) → (Contains s i → ⊥) → Contains s b
      → sum_by f (replaced s b i) + f b ≡ f i + sum_by f s
  replaced-sum f b off_s c =
      ap (λ (t : Set). sum_by f t + f b) (sym (replaced-drop b off_s c))
      ∙ sum-drop f b 0 m (insert i s) insert_up (members-insert i s b (Contains-later i s b c)) ∙ sum-insert f i 0 m s (set_up m s hs) off_s
