-- For each set without broken circuit a functional that vanishes on the Orlik-Solomon ideal, is one at this set and
-- zero at every other such set.
use Rattle.std.specs.Prelude.{◌≡◌, ◌⊎◌, ℕ, suc, ◌<◌, ◌≤◌, Bool, true, false, cond, [], ◌∷◌, ◌++◌, length, Contains}
use Rattle.std.proofs.lemmas.List.Elements.{Contains-append_left, Contains-append_right}
use mathlib.Core.Logic.{inl, inr}
use mathlib.Core.Path.{refl, sym, ap, ◌∙◌, subst}
use native.Mathlib.Omega.{arith}
use Rattle.hp_lists.proofs.Members.{Contains-here, Contains-later, Contains-cases, Contains-none}
use Rattle.hp_sets.specs.Sets.{Set}
use Rattle.hp_sets.proofs.Parts.{IsPart, part-behind, part-join, part-more, part-turn}
use Rattle.hp_arr.proofs.Setting.{Setting, cl, n, over}
use Rattle.hp_arr.proofs.Cuts.{cut-same, flat-cut, flat-keeps, flat-monotone, flat-set, set-indices}
use Rattle.hp_arr.proofs.Ranks.{in_flat, rank-adds, rank-cut}
use Rattle.hp_matroid.specs.Matroids.{same_set}
use Rattle.hp_matroid.proofs.RisingLists.{same_set-from, same_set-to}
use Rattle.hp_matroid.proofs.RisingSets.{set-rises}
use Rattle.hp_circuits.proofs.NbcLaw.{Nbc}
use Rattle.hp_exterior.proofs.Inserted.{Up, Up-lower, join, join-members, join-up, members-join, up_members, up_set}
use Rattle.hp_exterior.proofs.Negations.{neg_zero}
use Rattle.hp_exterior.proofs.Functionals.{
  AtDrops,
  at_boundary,
  at_wedge,
  boundary-ext,
  boundary-value,
  boundary-zero,
  restricted,
  restricted-value,
  signed-zero,
  wedge-signed,
}
use Rattle.hp_os.proofs.IdealSetting.{Dep, Fn, laws}
use Rattle.hp_os.proofs.NullFunctionals.{IsNull, null-boundary, null-restricted, null-vanishes}
use Rattle.hp_os.proofs.BrokenCircuits.{
  dependent-grows,
  dependent-less,
  empty-independent,
  less-dependent,
  nbc-front,
  nbc-inside,
  nbc-shares,
}

part-cons : (k : ℕ) (s t : Set) → Contains t k → IsPart s t → IsPart (k ∷ s) t
part-cons k s t c p i m = step (Contains-cases k s i m)
  where
    step : (k ≡ i) ⊎ Contains s i → Contains t i
    step (inl e) = subst (λ z. Contains t z) e c
    step (inr d) = p i d

-- ---- a set without one member

-- u is s without its member k
pub record IsDrop (a n k : ℕ) (u s : Set) : Type 0 where
  pub member : Contains s k
  pub part : IsPart u s
  pub cover : IsPart s (k ∷ u)
  pub size : length s ≡ suc (length u)
  pub up : Up a n u

pub drops_from : (P : Set → Type 0) (a n : ℕ) (s : Set) → Up a n s → ((k : ℕ) (u : Set) → IsDrop a n k u s → P u)
    → AtDrops P s
drops_from P a n [] h f = tt
drops_from P a n (x ∷ s) h f = (
  f x s (record { member = Contains-here x s; part = λ i c. Contains-later x s i c; cover = λ i c. c; size = refl; up = Up-lower a x n s (less a x h.0) h.2 }),
  drops_from (λ u. P (x ∷ u)) x n s h.2 (λ k u d. f k (x ∷ u) (record {
    member = Contains-later x s k d.member;
    part = part-more x u s d.part;
    cover = λ i c. part-turn x k u i (part-more x s (k ∷ u) d.cover i c);
    size = ap suc d.size;
    up = (h.0, h.1, d.up);
  })),
)
  where
    less : (a x : ℕ) → a < x → a ≤ x
    less a x l = omega arith

module _ {K : Type 0} (S : Setting K) where
  open S use {ring, numbers, arr}

  abbrev N : ℕ
  N = n S

  -- zero at e_T ∧ ∂ e_C for every dependent C, and so at every element of the ideal
  abbrev pub Null : (Set → K) → Type 0
  Null g = IsNull (laws S) (n S) (Dep S) g

  pub vanishes : (g : Set → K) → Fn S g → Null g → (s : Set) → Up 0 N s → Dep S s → g s ≡ ring.zero
  vanishes g v z [] h d = absurd (empty-independent S d)
  vanishes g v z (x ∷ s) h d = null-vanishes (laws S) (n S) (Dep S) g v z x s h d

  -- the flat of a joined list is that of the two lists after one another
  flat-join : (t u : Set) → cl S (join t u) ≡ cl S (t ++ u)
  flat-join t u = flat-cut (over S) _ _ (cut-same (over S) (join t u) (t ++ u) (join-members t u) (members-join t u))

  -- The terms of e_T ∧ ∂ e_C: each is dependent, or has the closure of all.
  pub relation-terms : (t c : Set) (k : ℕ) (u : Set) → Up 0 N t → Up 0 N c → Dep S c → IsDrop 0 N k u c
      → Dep S (join t u) ⊎ (cl S (join t u) ≡ cl S (join t c))
  relation-terms t c k u ht hc d w = step (in_flat (over S) (t ++ u) k)
    where
      one_way : IsPart (k ∷ t ++ u) (t ++ c)
      one_way = part-cons k (t ++ u) (t ++ c) (Contains-append_right t c k w.member) (part-behind t u c w.part)

      other_way : IsPart (t ++ c) (k ∷ t ++ u)
      other_way =
          part-join t c (k ∷ t ++ u) (λ i m. Contains-later k (t ++ u) i (Contains-append_left t u i m)) (λ i m.
          part-more k u (t ++ u) (λ j g. Contains-append_right t u j g) i (w.cover i m))

      less : (r q l m : ℕ) → q ≡ suc r → q < l → l ≡ suc m → r < m
      less r q l m e f g = omega arith

      step : Contains (cl S (t ++ u)) k ⊎ (Contains (cl S (t ++ u)) k → ⊥)
          → Dep S (join t u) ⊎ (cl S (join t u) ≡ cl S (join t c))
      step (inl m) =
          inr (flat-join t u ∙ sym (flat-keeps (over S) (t ++ u) k m)
          ∙ flat-cut (over S) _ _ (cut-same (over S) (k ∷ t ++ u) (t ++ c) one_way other_way) ∙ sym (flat-join t c))
      step (inr m) =
          let a = rank-adds (over S) u k (set-indices arr c (up_set N c hc) k w.member)
          (λ f. m (flat-monotone (over S) u (t ++ u) (λ i g. Contains-append_right t u i g) k f)) in
          let b = rank-cut (over S) _ _ (cut-same (over S) c (k ∷ u) w.cover (part-cons k u c w.member w.part)) in
          let e = less-dependent S u (less _ _ _ _ (b ∙ a) (dependent-less S c d) w.size) in
          inl (dependent-grows S u (join t u) w.up (join-up 0 N t u ht w.up) (λ i g. members-join t u i (Contains-append_right t u i g)) e)

  -- The part of such a functional on the sets of one closure vanishes on the ideal too.
  pub null-closure : (p : Set → Bool) → ((s t : Set) → cl S s ≡ cl S t → p s ≡ p t) → (g : Set → K) → Fn S g → Null g
      → Null (restricted ring p g)
  null-closure p same g v z =
      null-restricted (laws S) (n S) (Dep S) p g v z (λ t c h k d.
      drops_from _ 0 N c k (λ i u w. step t u c (join-up 0 N t u h w.up) (relation-terms t c i u h k d w)))
    where
      step : (t u c : Set) → Up 0 N (join t u) → Dep S (join t u) ⊎ (cl S (join t u) ≡ cl S (join t c))
          → (g (join t u) ≡ ring.zero) ⊎ (p (join t u) ≡ p (join t c))
      step t u c h (inl d) = inl (vanishes g v z (join t u) h d)
      step t u c h (inr e) = inr (same _ _ e)

  -- vanishes on the ideal, is one at s and zero at the other sets without broken circuit
  pub record IsDual (s : Set) (g : Set → K) : Type 0 where
    pub values : Fn S g
    pub null : Null g
    pub at_self : g s ≡ ring.one
    pub elsewhere : (t : Set) → Up 0 N t → Nbc S t → (t ≡ s → ⊥) → g t ≡ ring.zero

  abbrev at_empty : Set → K
  at_empty [] = ring.one
  at_empty (x ∷ s) = ring.zero

  at_empty-value : (s : Set) → ring.IsValue (at_empty s)
  at_empty-value [] = (laws S).one_value
  at_empty-value (x ∷ s) = (laws S).zero_value

  dual_of_empty : Nbc S [] → IsDual [] (λ s. at_empty s)
  dual_of_empty b = record {
    values = λ s. at_empty-value s;
    null = λ t c h k d. null t c h k d;
    at_self = refl;
    elsewhere = λ t h w e. away t e;
  }
    where
      away : (t : Set) → (t ≡ [] → ⊥) → at_empty t ≡ ring.zero
      away [] e = absurd (e refl)
      away (x ∷ t) e = refl

      occupied : (s : Set) (k : ℕ) → Contains s k → at_empty s ≡ ring.zero
      occupied [] k c = absurd (Contains-none k c)
      occupied (x ∷ s) k c = refl

      null : (t c : Set) → Up 0 N t → Up 0 N c → Dep S c
          → at_boundary ring (λ u. at_wedge ring (λ s. at_empty s) t u) c ≡ ring.zero
      null t [] h k d = absurd (empty-independent S d)
      null t (x ∷ []) h k d = absurd (nbc-front S x [] b k d)
      null t (x ∷ y ∷ c) h k d =
          boundary-ext (laws S) (λ u. at_wedge ring (λ s. at_empty s) t u) (λ u. ring.zero) (x ∷ y ∷ c) (drops_from _ 0 N (x ∷ y ∷ c) k (λ i u w. zero_at u w.size))
          ∙ boundary-zero (laws S) (x ∷ y ∷ c)
        where
          zero_at : (u : Set) → length (x ∷ y ∷ c) ≡ suc (length u) → at_wedge ring (λ s. at_empty s) t u ≡ ring.zero
          zero_at [] e = absurd (clash (length c) e)
            where
              clash : (l : ℕ) → suc (suc l) ≡ suc 0 → ⊥
              clash l e = omega arith
          zero_at (z ∷ u) e =
              signed-zero (laws S) _ (join t (z ∷ u)) (λ s. at_empty s) (wedge-signed (laws S) t (z ∷ u)) (λ s. at_empty-value s)
              (occupied (join t (z ∷ u)) z (members-join t (z ∷ u) z (Contains-append_right t (z ∷ u) z (Contains-here z u))))

  -- the sets with the closure of s
  abbrev has_closure : Set → Set → Bool
  has_closure s t = same_set (cl S t) (cl S s)

  closure-same : (s t : Set) → has_closure s t ≡ true → cl S t ≡ cl S s
  closure-same s t e =
      same_set-to (cl S t) (cl S s) (set-rises N _ (flat-set (over S) t)).0 (set-rises N _ (flat-set (over S) s)).0 e

  -- from the functional of s to that of s with a lower member in front
  dual_with_front : (x : ℕ) (s : Set) → Up 0 N (x ∷ s) → Nbc S (x ∷ s) → (g : Set → K) → IsDual s g
      → IsDual (x ∷ s) (restricted ring (has_closure (x ∷ s)) (at_boundary ring g))
  dual_with_front x s h b g q = record {
    values = restricted-value (laws S) (has_closure (x ∷ s)) (at_boundary ring g) bv;
    null = null-closure (has_closure (x ∷ s)) (λ u t e. ap (λ f. same_set f (cl S (x ∷ s))) e) (at_boundary ring g) bv
        (null-boundary (laws S) (n S) (Dep S) g q.values q.null);
    at_self = ap (λ c. cond c (at_boundary ring g (x ∷ s)) ring.zero) (same_set-from (cl S (x ∷ s)) (cl S (x ∷ s)) refl) ∙ front s h b ∙ q.at_self;
    elsewhere = λ t k d e. step t k d e (has_closure (x ∷ s) t) refl;
  }
    where
      bv : Fn S (at_boundary ring g)
      bv u = boundary-value (laws S) g u q.values

      -- a set without broken circuit that begins with x: only the term without x counts
      front : (t : Set) → Up 0 N (x ∷ t) → Nbc S (x ∷ t) → at_boundary ring g (x ∷ t) ≡ g t
      front t k d =
          ap (λ z. ring.add (g t) (ring.neg z))
          (boundary-ext (laws S) (λ u. g (x ∷ u)) (λ u. ring.zero) t (drops_from _ x N t k.2 (λ i u w.
          q.elsewhere (x ∷ u) (k.0, k.1, w.up) (nbc-inside S (x ∷ u) (x ∷ t) (k.0, k.1, w.up) k (part-more x u t w.part) d) (λ e. differ u s h.2 e)))
          ∙ boundary-zero (laws S) t)
          ∙ ap (ring.add (g t)) (neg_zero (laws S)) ∙ (laws S).add_zero (g t) (q.values t)
        where
          clash : (x : ℕ) → x < x → ⊥
          clash x l = omega arith

          differ : (u s : Set) → Up x N s → x ∷ u ≡ s → ⊥
          differ u s k e = clash x (up_members x N s x k (subst (λ (z : Set). Contains z x) e (Contains-here x u))).0

      step : (t : Set) → Up 0 N t → Nbc S t → (t ≡ x ∷ s → ⊥) → (c : Bool) → has_closure (x ∷ s) t ≡ c
          → cond c (at_boundary ring g t) ring.zero ≡ ring.zero
      step t k d e false f = refl
      step t k d e true f =
          let w = nbc-shares S x s t h b k d (closure-same (x ∷ s) t f) in
          let k' : Up 0 N (x ∷ w.0) = subst (Up 0 N) w.1 k in
          let d' : Nbc S (x ∷ w.0) = subst (λ z. Nbc S z) w.1 d in
          ap (at_boundary ring g) w.1 ∙ front w.0 k' d'
          ∙ q.elsewhere w.0 (Up-lower 0 x N w.0 (low x) k'.2) (nbc-inside S w.0 (x ∷ w.0) (Up-lower 0 x N w.0 (low x) k'.2) k' (λ i c. Contains-later x w.0 i c) d') (λ i. e (w.1 ∙ ap (λ z. x ∷ z) i))
        where
          low : (x : ℕ) → 0 ≤ x
          low x = omega arith

  -- Every set without broken circuit has such a functional.
  pub dual : (s : Set) → Up 0 N s → Nbc S s → (g : Set → K) × IsDual s g
  dual [] h b = ((λ s. at_empty s), dual_of_empty b)
  dual (x ∷ s) h b =
      let w = dual s (Up-lower 0 x N s (low x) h.2) (nbc-inside S s (x ∷ s) (Up-lower 0 x N s (low x) h.2) h (λ i c. Contains-later x s i c) b) in
      (restricted ring (has_closure (x ∷ s)) (at_boundary ring w.0), dual_with_front x s h b w.0 w.1)
    where
      low : (x : ℕ) → 0 ≤ x
      low x = omega arith

  drops-by_size : (P : Set → Type 0) (t : Set) → ((u : Set) → suc (length u) ≡ length t → P u) → AtDrops P t
  drops-by_size P [] f = tt
  drops-by_size P (x ∷ t) f = (f t refl, drops-by_size (λ u. P (x ∷ u)) t (λ u e. f (x ∷ u) (ap suc e)))

  -- It vanishes at the sets of other sizes.
  pub dual-graded : (s : Set) (h : Up 0 N s) (b : Nbc S s) (t : Set) → (length t ≡ length s → ⊥)
      → (dual s h b).0 t ≡ ring.zero
  unfolding dual
  dual-graded [] h b [] f = absurd (f refl)
  dual-graded [] h b (x ∷ t) f = refl
  dual-graded (x ∷ s) h b t f =
      pick (has_closure (x ∷ s) t) _
      (boundary-ext (laws S) _ (λ u. ring.zero) t (drops-by_size _ t (λ u e. dual-graded s _ _ u (λ q. f (sym e ∙ ap suc q)))) ∙ boundary-zero (laws S) t)
    where
      pick : (c : Bool) (y : K) → y ≡ ring.zero → cond c y ring.zero ≡ ring.zero
      pick true y e = e
      pick false y e = refl
