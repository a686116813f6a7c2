-- Straightening: modulo the Orlik-Solomon ideal a set with a broken circuit is a sum of sets with a lower number in place of a member.
use Rattle.std.specs.Prelude.{◌≡◌, ℕ, suc, ◌+◌, ◌<◌, ◌≤◌, ◌==◌, nat_lt, true, not, List, [], ◌∷◌, length, filter, Contains, ◌⊎◌}
use Rattle.std.proofs.lemmas.Bool.{lt-ltb, le-ltb, eq-eqb, ne_eqb}
use Rattle.std.proofs.lemmas.List.Elements.{All-map}
use mathlib.Core.Logic.{inl, inr}
use mathlib.Core.Path.{sym, ap, ◌∙◌, subst}
use native.Mathlib.Omega.{arith}
use Rattle.hp_lists.proofs.Members.{not_both, Contains-here, Contains-later, Contains-cases, Contains-filter, filter-Contains}
use Rattle.hp_lists.proofs.NaturalSums.{one_if, sum_by-constant}
use Rattle.hp_lists.proofs.Ordered.{rises_of, rising-ext, Ordered-filter}
use Rattle.hp_algebra.specs.Ring.{IsRing}
use Rattle.hp_algebra.proofs.Rings.{add_swap}
use Rattle.hp_sets.specs.Sets.{Set, IsSetWithin, contains}
use Rattle.hp_sets.proofs.Parts.{IsPart}
use Rattle.hp_sets.proofs.SetLaws.{contains-Contains, Contains-contains, empty-set}
use Rattle.hp_arr.proofs.Setting.{Setting, n}
use Rattle.hp_exterior.specs.Exterior.{sign, boundary, monomial}
use Rattle.hp_exterior.specs.ExteriorRing.{sign-value, sign-add}
use Rattle.hp_exterior.specs.SetSums.{below_in}
use Rattle.hp_exterior.proofs.ElementFunctionals.{at-boundary_of}
use Rattle.hp_exterior.proofs.Functionals.{at_boundary, boundary-value}
use Rattle.hp_exterior.proofs.Inserted.{Up, insert, insert-members, members-insert, insert-up, set_up, up_members, up_set}
use Rattle.hp_exterior.proofs.Negations.{both_sides, mul_neg}
use Rattle.hp_exterior.proofs.WedgeFunctionals.{sign_next}
use Rattle.hp_os.specs.OrlikSolomon.{basis_element, ideal_term}
use Rattle.hp_os.specs.Straightening.{member_sum, replaced, moves, straight_terms}
use Rattle.hp_os.proofs.IdealSetting.{Dep, Fn, Terms}
use Rattle.hp_os.proofs.ElementLaws.{element-monomial, element-okay, w-value, w-multiple, w-monomial}
use Rattle.hp_os.proofs.IdealLaws.{element-relation, ideal-term}
use Rattle.hp_os.proofs.BrokenCircuits.{dependent-grows}
use Rattle.hp_os.proofs.Drops.{drop_one, drop-up, sum-insert, replaced-set, replaced-drop, replaced-sum}
use Rattle.hp_os.proofs.MemberSums.{over_members, members-value, members-ext, members-neg, members-times, members-insert_sum, members-split, weighted-members, sign-twice, drop_term, drop_term-value, boundary-members}
use Rattle.hp_os.proofs.IdealParts.{IsFromIdeal, from-add, from-neg, from-scale}
use Rattle.hp_os.proofs.IdealProducts.{ideal-dependent}
use Rattle.hp_os.proofs.TermCongruence.{Cong, from-basis, from-members, one_term, one-values, w-one}

module _ {K : Type 0} (S : Setting K) where
  open S use {ring, inverse, numbers, arr, field}

  abbrev L : IsRing S.ring
  L = S.field.is_ring

  pub few : n S ≤ 64
  few = (let l = S.lawful.few_forms in omega (arith, l))

  -- ∂ e_D for a dependent set D
  pub from-relation : (D : Set) → IsSetWithin (n S) D → Dep S D → IsFromIdeal S (λ g. at_boundary ring g D)
  from-relation D h d =
      let e = basis_element ring D in
      let one = L.one_value in
      let he = element-monomial S ring.one D one h in
      let hb = element-relation S D h in (
        ideal_term ring (monomial ring ring.one [], D),
        ideal-term S (monomial ring ring.one []) D (element-monomial S ring.one [] one (empty-set (n S))) h d,
        λ g gv.
            let bv : Fn S (at_boundary ring g) = λ s. boundary-value L g s gv in
            sym (w-multiple S g gv ring.one (boundary ring e) one hb
            ∙ L.one_mul _ (w-value S g gv (boundary ring e) (element-okay S _ hb))
            ∙ at-boundary_of L field.commutes g gv e (element-okay S e he)
            ∙ w-monomial S (at_boundary ring g) bv ring.one D one
            ∙ L.one_mul _ (bv D)),
      )

  -- i is not in S and below all members of B, and B lies in S and is dependent with i
  pub record IsReplacement (s : Set) (i : ℕ) (bs : Set) : Type 0 where
    pub within : IsSetWithin (n S) s
    pub rising : IsSetWithin (n S) (i ∷ bs)
    pub part : IsPart bs s
    pub outside : Contains s i → ⊥
    pub dependent : Dep S (i ∷ bs)

  pub straight-values : (s : Set) (i : ℕ) (bs : Set) → Terms S (straight_terms ring s i bs)
  straight-values s i bs =
      All-map (λ (t : Set × K). ring.IsValue t.1) (λ b. (replaced s b i, sign ring (moves s i b))) bs (λ k d l. sign-value L field.commutes _)

  -- x = a + (t + m) gives x - m = a + t
  regroup : (x a t m : K) → ring.IsValue a → ring.IsValue t → ring.IsValue m → x ≡ ring.add a (ring.add t m)
      → ring.add x (ring.neg m) ≡ ring.add a t
  regroup x a t m va vt vm e =
      let nm = L.neg_value m vm in
      ap (λ z. ring.add z (ring.neg m)) e ∙ L.add_assoc a _ _ va (L.add_value t m vt vm) nm
      ∙ ap (ring.add a) (L.add_assoc t m _ vt vm nm ∙ ap (ring.add t) (L.add_neg m vm) ∙ L.add_zero t vt)

  module _ (s : Set) (i : ℕ) (bs : Set) (r : IsReplacement s i bs) where
    up : Up 0 (n S) (i ∷ bs)
    up = set_up (n S) (i ∷ bs) r.rising

    abbrev D : Set
    D = insert i s

    up_D : Up 0 (n S) D
    up_D = insert-up i 0 (n S) s up.0 up.1 (set_up (n S) s r.within)

    set_D : IsSetWithin (n S) D
    set_D = up_set (n S) D up_D

    abbrev p : ℕ
    p = below_in s i

    i_index : (1 ≤ i) × (i ≤ n S)
    i_index = (low i up.0, up.1)
      where
        low : (i : ℕ) → 0 < i → 1 ≤ i
        low i l = omega arith

    -- the members of S that are not in B
    abbrev others : List ℕ
    others = filter (λ d. not (contains bs d)) s

    split : filter (contains bs) s ≡ bs
    split =
        rising-ext (filter (contains bs) s) bs (Ordered-filter (λ x y. x < y) (contains bs) s (rises_of s r.within.rising))
        (rises_of bs (up_set (n S) bs (lower bs up.2)).rising)
        (λ j c. contains-Contains bs j (filter-Contains (contains bs) s j c).1)
        (λ j c. Contains-filter (contains bs) s j (r.part j c) (Contains-contains bs j c))
      where
        zero_low : (x : ℕ) → 0 ≤ x
        zero_low x = omega arith

        lower : (t : Set) → Up i (n S) t → Up 0 (n S) t
        lower t h = Rattle.hp_exterior.proofs.Inserted.Up-lower 0 i (n S) t (zero_low i) h

    members_D : (j : ℕ) → (i ≡ j) ⊎ Contains bs j → Contains D j
    members_D j (inl e) = members-insert i s j (subst (λ z. Contains (i ∷ s) z) e (Contains-here i s))
    members_D j (inr k) = members-insert i s j (Contains-later i s j (r.part j k))

    dependent_D : Dep S D
    dependent_D = dependent-grows S (i ∷ bs) D up up_D (λ j k. members_D j (Contains-cases i bs j k)) r.dependent

    set_drop : (d : ℕ) → IsSetWithin (n S) (drop_one d D)
    set_drop d = up_set (n S) _ (drop-up d 0 (n S) D up_D)

    dependent_rest : (d : ℕ) → Contains others d → Dep S (drop_one d D)
    dependent_rest d c =
        let w = filter-Contains (λ d. not (contains bs d)) s d c in
        dependent-grows S (i ∷ bs) (drop_one d D) up (drop-up d 0 (n S) D up_D)
        (λ j k. Contains-filter (λ y. not (y == d)) D j (members_D j (Contains-cases i bs j k)) (ap not (ne_eqb j d (λ e. apart w j (Contains-cases i bs j k) e)))) r.dependent
      where
        apart : Contains s d × (not (contains bs d) ≡ true) → (j : ℕ) → (i ≡ j) ⊎ Contains bs j → j ≡ d → ⊥
        apart w j (inl e) q = r.outside (subst (λ z. Contains s z) (sym (e ∙ q)) w.0)
        apart w j (inr k) q = not_both _ w.1 (ap not (Contains-contains bs d (subst (λ z. Contains bs z) q k)))

    -- the boundary of e_(S, i) times the sign of e_S in it
    abbrev X : (Set → K) → K
    X g = ring.mul (sign ring p) (at_boundary ring g D)

    abbrev N : (Set → K) → ℕ → K
    N g d = ring.mul (sign ring p) (drop_term L field.commutes g D d)

    abbrev T : (Set → K) → ℕ → K
    T g b = ring.mul (sign ring (moves s i b)) (g (replaced s b i))

    sv : (k : ℕ) → ring.IsValue (sign ring k)
    sv k = sign-value L field.commutes k

    N-value : (g : Set → K) → Fn S g → (d : ℕ) → ring.IsValue (N g d)
    N-value g gv d = L.mul_value _ _ (sv p) (drop_term-value L field.commutes g D gv d)

    T-value : (g : Set → K) → Fn S g → (b : ℕ) → ring.IsValue (T g b)
    T-value g gv b = L.mul_value _ _ (sv _) (gv _)

    -- the term without i is e_S
    own_term : (g : Set → K) → Fn S g → N g i ≡ g s
    own_term g gv =
        (λ j. ring.mul (sign ring p) (ring.mul (sign ring (count_i j)) (g (same_set j)))) ∙ sign-twice L field.commutes p (g s) (gv s)
      where
        count_i : below_in D i ≡ p
        count_i =
            let a = sum-insert (λ y. one_if (nat_lt y i)) i 0 (n S) s (set_up (n S) s r.within) r.outside in
            let e : one_if (nat_lt i i) ≡ 0 = ap one_if (le-ltb i i (omega arith)) in
            omega (arith, a, e)

        same_set : drop_one i D ≡ s
        same_set =
            rising-ext (drop_one i D) s (rises_of (drop_one i D) (set_drop i).rising) (rises_of s r.within.rising)
            (λ j c. let w = filter-Contains (λ y. not (y == i)) D j c in pick j w.1 (Contains-cases i s j (insert-members i s j w.0)))
            (λ j c. Contains-filter (λ y. not (y == i)) D j (members-insert i s j (Contains-later i s j c))
            (ap not (ne_eqb j i (λ e. r.outside (subst (λ z. Contains s z) e c)))))
          where
            pick : (j : ℕ) → not (j == i) ≡ true → (i ≡ j) ⊎ Contains s j → Contains s j
            pick j e (inl q) = absurd (not_both _ e (ap not (eq-eqb j i (sym q))))
            pick j e (inr c) = c

    -- the term without a member of B
    part_term : (g : Set → K) → Fn S g → (b : ℕ) → Contains bs b → N g b ≡ ring.neg (T g b)
    part_term g gv b c =
        let l : i < b = (up_members i (n S) bs b up.2 c).0 in
        let u = replaced-drop (n S) few s r.within i i_index b r.outside (r.part b c) in
        let w = gv (replaced s b i) in
        let m = L.mul_value _ _ (sv (below_in s b)) w in
        (λ j. ring.mul (sign ring p) (ring.mul (sign ring (count_b l j)) (g (u j))))
        ∙ ap (ring.mul (sign ring p)) (sign_next L field.commutes (below_in s b) _ w)
        ∙ mul_neg L field.commutes _ _ (sv p) m
        ∙ ap ring.neg (sym (L.mul_assoc _ _ _ (sv p) (sv (below_in s b)) w)
        ∙ ap (λ z. ring.mul z (g (replaced s b i))) (sign-add L field.commutes p (below_in s b) ∙ ap (sign ring) (turn p (below_in s b))))
      where
        turn : (a b : ℕ) → a + b ≡ b + a
        turn a b = omega arith

        count_b : i < b → below_in D b ≡ suc (below_in s b)
        count_b l =
            let a = sum-insert (λ y. one_if (nat_lt y b)) i 0 (n S) s (set_up (n S) s r.within) r.outside in
            let e : one_if (nat_lt i b) ≡ 1 = ap one_if (lt-ltb i b l) in
            omega (arith, a, e)

    value_X : (g : Set → K) → Fn S g
        → X g ≡ ring.add (g s) (ring.add (ring.neg (over_members ring (T g) bs)) (over_members ring (N g) others))
    value_X g gv =
        let dv = drop_term-value L field.commutes g D gv in
        ap (ring.mul (sign ring p)) (boundary-members L field.commutes g 0 (n S) D gv up_D)
        ∙ members-times L (sign ring p) (drop_term L field.commutes g D) (sv p) dv D
        ∙ members-insert_sum L (N g) (N-value g gv) i 0 (n S) s (set_up (n S) s r.within) r.outside
        ∙ both_sides ring.add _ _ _ _ (own_term g gv)
        (members-split L (N g) (N-value g gv) (contains bs) s
        ∙ ap (λ z. ring.add z (over_members ring (N g) others))
        (ap (λ (t : Set). over_members ring (N g) t) split
        ∙ members-ext L (N g) (λ b. ring.neg (T g b)) bs (part_term g gv)
        ∙ members-neg L (T g) (T-value g gv) bs))

    abbrev Φ : (Set → K) → K
    Φ g = ring.add (X g) (ring.neg (over_members ring (N g) others))

    from_ideal : IsFromIdeal S Φ
    from_ideal =
        from-add S X (λ g. ring.neg (over_members ring (N g) others))
        (from-scale S (sign ring p) (λ g. at_boundary ring g D) (sv p) (from-relation D set_D dependent_D))
        (from-neg S (λ g. over_members ring (N g) others) (from-members S N others (λ d c.
        from-scale S (sign ring p) (λ g. drop_term L field.commutes g D d) (sv p)
        (from-scale S (sign ring (below_in D d)) (λ g. g (drop_one d D)) (sv _)
        (from-basis S (drop_one d D) (ideal-dependent S (drop_one d D) (set_drop d) (dependent_rest d c)))))))

    -- Modulo the ideal e_S is the sum of the terms in which a member of B is replaced by i.
    pub straighten : Cong S (one_term S s) (straight_terms ring s i bs)
    straighten = record {
      left = one-values S s;
      right = straight-values s i bs;
      rest = from_ideal.0;
      member = from_ideal.1;
      same = λ g gv.
          let t = members-value L (T g) (T-value g gv) bs in
          let m = members-value L (N g) (N-value g gv) others in
          w-one S g gv s
          ∙ sym (both_sides ring.add _ _ _ _ (weighted-members ring g (λ b. replaced s b i) (λ b. sign ring (moves s i b)) bs)
          (sym (from_ideal.2 g gv) ∙ regroup _ _ _ _ (gv s) (L.neg_value _ t) m (value_X g gv))
          ∙ add_swap L _ (g s) _ t (gv s) (L.neg_value _ t) ∙ ap (ring.add (g s)) (L.add_neg _ t) ∙ L.add_zero _ (gv s));
    }

    -- Each such set has the size of S and a smaller sum of members.
    pub straighten-sum : (b : ℕ) → Contains bs b → member_sum (replaced s b i) < member_sum s
    straighten-sum b c =
        let e = replaced-sum (n S) few s r.within i i_index (λ j. j) b r.outside (r.part b c) in
        let l = (up_members i (n S) bs b up.2 c).0 in
        omega (arith, e, l)

    pub straighten-size : (b : ℕ) → Contains bs b → length (replaced s b i) ≡ length s
    straighten-size b c =
        let e = replaced-sum (n S) few s r.within i i_index (λ j. 1) b r.outside (r.part b c) in
        let p = sum_by-constant 1 (replaced s b i) in
        let q = sum_by-constant 1 s in
        omega (arith, e, p, q)

    pub straighten-set : (b : ℕ) → IsSetWithin (n S) (replaced s b i)
    straighten-set b = replaced-set (n S) few s r.within i i_index b
