-- The covers of a flat of an affine arrangement: the start of the loop over the hyperplanes, one turn of it, and its end.
use Rattle.std.proofs.Common.{◌≡◌, ◌≢◌, ◌⊎◌, ◌↔◌, ℕ, suc, ◌+◌, ◌<◌, ◌≤◌, ◌==◌, Bool, true, false, nat_lt, [], ◌∷◌, ◌++◌, arith, List, map, remove, length, slice_index_or, All, Contains, refl, sym, ap, subst, ◌∙◌, inl, inr}
use Rattle.std.proofs.lemmas.Bool.{ltb-true, ltb-false}
use Rattle.hp_lists.specs.Lists.{one_to}
use Rattle.hp_lists.proofs.Members.{not_both}
use Rattle.hp_sets.specs.Sets.{Set, IsSetWithin, contains, union}
use Rattle.hp_sets.proofs.SetLaws.{contains-Contains, Contains-contains, contains-none, set-ext, set-wider}
use Rattle.hp_algebra.specs.Ring.{RingOf, Numbering, IsField, IsNumbering}
use Rattle.hp_arr.specs.Arrangement.{Arrangement, IsAffineArrangement}
use Rattle.hp_arr.specs.Flats.{closure, has_point, rank, IsFlat}
use Rattle.hp_arr.proofs.Cuts.{IsIndex, AreIndices, set-indices, indices-more}
use Rattle.hp_arr.proofs.ArrangementMatroids.{ground-index, index-ground}
use Rattle.hp_matroid.specs.Matroids.{Matroid}
use Rattle.hp_matroid.proofs.Subsets.{or_right, within-cons}
use Rattle.hp_matroid.proofs.RisingSets.{set-from_rises, set-rises}
use Rattle.hp_matroid.proofs.RisingLists.{is_within-from, is_within-to}
use Rattle.hp_flats.specs.Levels.{HasValues, at_form, reduced, AreParallel, IsEntry, IsParallelFrom}
use Rattle.hp_flats.proofs.ValuePoints.{values-widths}
use Rattle.hp_flats.specs.Covers.{IsCover}
use Rattle.hp_arr.proofs.ConePoints.{AffineSetting, n, coned, cone-count, index-cone, cone_over}
use Rattle.hp_arr.proofs.ConeCuts.{closure-affine}
use Rattle.hp_arr.proofs.ConeMatroids.{affine_matroid, central, central-laws, has_point-central, closure-matroid, rank-matroid, flat-central, central-flat, flat-set, flat-has_point}
use Rattle.hp_flats.proofs.ClassValues.{class-parallel, lost-parallel, cover-cone_values}
use Rattle.hp_sets.proofs.SetMembers.{union-members, members-union_left, members-union_right}
use Rattle.hp_matroid.proofs.CentralCovers as covers

-- a number is a member of a set or is not
pub in_set : (s : Set) (k : ℕ) → Contains s k ⊎ (Contains s k → ⊥)
in_set s k = step (contains s k) refl
  where
    step : (b : Bool) → contains s k ≡ b → Contains s k ⊎ (Contains s k → ⊥)
    step true e = inl (contains-Contains s k e)
    step false e = inr (λ c. not_both (contains s k) (Contains-contains s k c) e)

-- the members of a union of sets
pub union-same : (s t : Set) → IsSetWithin 64 s → IsSetWithin 64 t → (k : ℕ)
    → Contains (union s t) k ↔ (Contains s k ⊎ Contains t k)
union-same s t hs ht k = (union-members s t k, λ c. elim c [ inl d ↦ members-union_left s t k hs d | inr d ↦ members-union_right s t k ht d ])

module _ {K : Type 0} (A : AffineSetting K) where
  open A use {ring, numbers, arr}

  abbrev M : Matroid
  M = affine_matroid A

  abbrev C : Arrangement K
  C = coned A

  pub flat-of : (f : Set) → IsFlat ring numbers arr f → covers.IsFlat (affine_matroid A) (central A) (central-laws A) f
  flat-of f is =
      let c = flat-central A f is in
      let r = set-rises (n A) f c.set in
      record { rises = r.0; inside = r.1; closed = c.closed; pointed = c.pointed }

  of-flat : (f : Set) → covers.IsFlat (affine_matroid A) (central A) (central-laws A) f → IsFlat ring numbers arr f
  of-flat f h = central-flat A f (record { set = set-from_rises (n A) f h.rises h.inside; pointed = h.pointed; closed = h.closed })

  affine-rank : (f : Set) → IsFlat ring numbers arr f → rank ring numbers arr f ≡ M.rank f
  affine-rank f is = rank-matroid A f (set-indices arr f (flat-set A f is)) (flat-has_point A f is)

  -- before hyperplane j
  abbrev pub IsCovering : (f : Set) → IsFlat A.ring A.numbers A.arr f → Set → List Set → ℕ → Type 0
  IsCovering f is covered listed j = covers.IsCovering (affine_matroid A) (central A) (central-laws A) f (flat-of f is) covered listed j

  -- a cover in the matroid is one of the arrangement
  cover-affine : (f g : Set) → IsFlat ring numbers arr f → covers.IsCover (affine_matroid A) (central A) (central-laws A) f g → IsCover ring numbers arr f g
  cover-affine f g is c =
      let ig = of-flat g c.flat in
      (ig, is_within-from f g c.contains_f, affine-rank g ig ∙ c.one_more ∙ next (M.rank f) ∙ ap (λ k. k + 1) (sym (affine-rank f is)))
    where
      next : (r : ℕ) → suc r ≡ r + 1
      next r = omega arith

  affine-cover : (f g : Set) → IsFlat ring numbers arr f → IsCover ring numbers arr f g → covers.IsCover (affine_matroid A) (central A) (central-laws A) f g
  affine-cover f g is c = record {
    flat = flat-of g c.0;
    contains_f = is_within-to f g c.1;
    one_more = sym (affine-rank g c.0) ∙ c.2 ∙ ap (λ k. k + 1) (affine-rank f is) ∙ next (M.rank f);
  }
    where
      next : (r : ℕ) → r + 1 ≡ suc r
      next r = omega arith

  module _ (f : Set) (is : IsFlat ring numbers arr f) where
    f-indices : AreIndices arr f
    f-indices = set-indices arr f (flat-set A f is)

    with-f : (i : ℕ) → IsIndex arr i → AreIndices arr (i ∷ f)
    with-f i r = indices-more arr i f r f-indices

    -- after the last hyperplane all covers are listed, each once
    pub cover-end : (covered : Set) (listed : List Set) (j : ℕ) → IsCovering f is covered listed j → n A < j
        → (g : Set) → Contains listed g ↔ IsCover ring numbers arr f g
    cover-end covered listed j s past g =
        let e = covers.covering-end M (central A) (central-laws A) f (flat-of f is) covered listed j s (λ k h. let r = ground-index (n A) k h in omega (arith, r.1, past)) g in
        ((λ c. cover-affine f g is (e.0 c)), λ c. e.1 (affine-cover f g is c))

    module _ (rows : List (List K)) (has : HasValues ring (coned A) f rows) where
      -- each list of values has one for each row, and one for the last coordinate
      pub cone-widths : All (λ w. length w ≡ n A + 1) rows
      cone-widths k d l = values-widths (cone_over A) f rows has k d l ∙ cone-count A ∙ next (n A)
        where
          next : (m : ℕ) → suc m ≡ m + 1
          next m = omega arith

      -- At the start covered are f and the hyperplanes that do not meet it.
      pub cover-start : (p m : ℕ) → m ≡ suc (n A) → p < length rows → at_form ring m (slice_index_or rows p []) ≢ ring.zero → (covered : Set)
          → ((k : ℕ) → Contains covered k ↔ (Contains f k ⊎ IsParallelFrom ring rows f p m 1 (n A) k)) → IsCovering f is covered [] 1
      cover-start p m em inside off covered members =
          covers.covering-start M (central A) (central-laws A) f (flat-of f is) covered
          (λ k c. Contains-contains covered k ((members k).1 (inl (contains-Contains f k c))))
          (λ k h o e. let r = ground-index (n A) k h in
          let par = (lost k r (away k o)).0 (has_point-central A (k ∷ f) (with-f k r) ∙ e) in
          Contains-contains covered k ((members k).1 (inr (r.0, r.1, o, subst (λ i. AreParallel ring rows p i k) (sym em) par))))
          (λ k c. pick k ((members k).0 (contains-Contains covered k c)))
          (λ k h l. let r = ground-index (n A) k h in omega (arith, r.0, l))
        where
          away : (k : ℕ) → contains f k ≡ false → Contains f k → ⊥
          away k o c = not_both (contains f k) (Contains-contains f k c) o

          lost : (k : ℕ) → IsIndex arr k → (Contains f k → ⊥) → (has_point ring numbers arr (k ∷ f) ≡ false) ↔ AreParallel ring rows p (suc (n A)) k
          lost k r out = lost-parallel A f is rows has p inside (subst (λ i. at_form ring i (slice_index_or rows p []) ≢ ring.zero) em off) k r out

          pick : (k : ℕ) → Contains f k ⊎ IsParallelFrom ring rows f p m 1 (n A) k → (contains f k ≡ true) ⊎ (central A (k ∷ f) ≡ false)
          pick k (inl c) = inl (Contains-contains f k c)
          pick k (inr w) = inr (sym (has_point-central A (k ∷ f) (with-f k (w.0, w.1))) ∙ (lost k (w.0, w.1) (away k w.2)).1 (subst (λ i. AreParallel ring rows p i k) em w.3))

      module _ (covered : Set) (listed : List Set) (i : ℕ) (s : IsCovering f is covered listed i) (ri : IsIndex arr i) (out : contains covered i ≡ false)
          (q : ℕ) (inside : q < length rows) (off : at_form ring i (slice_index_or rows q []) ≢ ring.zero) where
        gi : contains (one_to (n A)) i ≡ true
        gi = index-ground (n A) i ri.0 ri.1

        pointed : has_point ring numbers arr (i ∷ f) ≡ true
        pointed = has_point-central A (i ∷ f) (with-f i ri) ∙ covers.fresh-central M (central A) (central-laws A) f (flat-of f is) covered listed i s gi out

        in-cone : M.closure (i ∷ f) ≡ closure ring numbers C (i ∷ f)
        in-cone = sym (closure-matroid A (i ∷ f) (with-f i ri) pointed) ∙ closure-affine A (i ∷ f) (with-f i ri) pointed

        class : (k : ℕ) → IsIndex arr k → Contains (M.closure (i ∷ f)) k ↔ AreParallel ring rows q i k
        class k rk =
            let c = class-parallel A f is rows has i (index-cone A i ri) q inside off k (index-cone A k rk) in
            ((λ d. c.0 (subst (λ z. Contains z k) in-cone d)), λ p. subst (λ z. Contains z k) (sym in-cone) (c.1 p))

        -- f with the class of i among those that are not covered is the cover that i makes
        pub cover-class : (cover : Set) → IsSetWithin (n A) cover
            → ((k : ℕ) → Contains cover k ↔ (Contains f k ⊎ IsParallelFrom ring rows covered q i i (n A) k)) → cover ≡ (affine_matroid A).closure (i ∷ f)
        cover-class cover within members =
            set-ext (n A) (n A) cover (M.closure (i ∷ f)) within (set-from_rises (n A) (M.closure (i ∷ f)) (M.laws.closure_rises (i ∷ f)) (M.laws.closure_within (i ∷ f)))
            (λ k c. forth k ((members k).0 c)) (λ k c. (members k).1 (back k c (in_set f k)))
          where
            forth : (k : ℕ) → Contains f k ⊎ IsParallelFrom ring rows covered q i i (n A) k → Contains (M.closure (i ∷ f)) k
            forth k (inl c) = contains-Contains (M.closure (i ∷ f)) k (M.laws.extensive (i ∷ f) (within-cons i f (one_to (n A)) gi (flat-of f is).inside) k (or_right (i == k) (contains f k) (Contains-contains f k c)))
            forth k (inr w) = (class k (let l = w.0 in let h = ri.0 in omega (arith, l, h), w.1)).1 w.3

            from : (k : ℕ) → IsIndex arr k → contains covered k ≡ false → (b : Bool) → nat_lt k i ≡ b → i ≤ k
            from k rk new true e = absurd (not_both (contains covered k) (s.below k (index-ground (n A) k rk.0 rk.1) (ltb-true k i e)) new)
            from k rk new false e = ltb-false k i e

            back : (k : ℕ) → Contains (M.closure (i ∷ f)) k → Contains f k ⊎ (Contains f k → ⊥) → Contains f k ⊎ IsParallelFrom ring rows covered q i i (n A) k
            back k c (inl d) = inl d
            back k c (inr away) =
                let rk = ground-index (n A) k (M.laws.closure_within (i ∷ f) k (Contains-contains (M.closure (i ∷ f)) k c)) in
                let new : contains covered k ≡ false = contains-none covered k (λ d. away (contains-Contains f k
                (covers.covering-fresh M (central A) (central-laws A) f (flat-of f is) covered listed i s gi out k (Contains-contains covered k d) (Contains-contains (M.closure (i ∷ f)) k c)))) in
                inr (from k rk new (nat_lt k i) refl, rk.1, new, (class k rk).0 c)

        module _ (cover : Set) (same : cover ≡ (affine_matroid A).closure (i ∷ f)) where
          made : covers.IsCover M (central A) (central-laws A) f cover
          made = covers.made-cover M (central A) (central-laws A) f (flat-of f is) cover (record {
            by = i;
            number = gi;
            outside = covers.fresh-outside M (central A) (central-laws A) f (flat-of f is) covered listed i s gi out;
            pointed = covers.fresh-central M (central A) (central-laws A) f (flat-of f is) covered listed i s gi out;
            makes = same;
          })

          pub cover-rank : rank ring numbers arr cover ≡ rank ring numbers arr f + 1
          cover-rank = (cover-affine f cover is made).2

          -- the cover with the values that come from those of f
          pub cover-entry : IsEntry ring numbers arr (rank ring numbers arr cover) cover (map (reduced ring (slice_index_or rows q []) i) (remove rows q))
          cover-entry = record {
            is_flat = of-flat cover made.flat;
            has_rank = refl;
            has_values = subst (λ z. HasValues ring C z (map (reduced ring (slice_index_or rows q []) i) (remove rows q))) (closure-matroid A (i ∷ f) (with-f i ri) pointed ∙ sym same)
                (cover-cone_values A f is rows has i ri q inside off pointed);
          }

          -- the loop goes on with the cover listed and covered
          pub cover-turn : IsSetWithin (n A) covered → IsSetWithin (n A) cover → (after : Set) → after ≡ union covered cover
              → (items : List Set) → items ≡ listed ++ cover ∷ [] → IsCovering f is after items (i + 1)
          cover-turn within own after joined items e =
              let few = A.lawful.few_forms in
              let u = union-same covered cover (set-wider (n A) 64 covered (omega (arith, few)) within) (set-wider (n A) 64 cover (omega (arith, few)) own) in
              subst (λ xs. IsCovering f is after xs (i + 1)) (sym (e ∙ ap (λ h. listed ++ h ∷ []) same))
              (covers.covering-add M (central A) (central-laws A) f (flat-of f is) covered listed i s gi out after (λ k. (
                (λ t. split k ((u k).0 (subst (λ z. Contains z k) joined (contains-Contains after k t)))),
                λ t. Contains-contains after k (subst (λ z. Contains z k) (sym joined) ((u k).1 (merge k t))),
              )))
            where
              split : (k : ℕ) → Contains covered k ⊎ Contains cover k → (contains covered k ≡ true) ⊎ (contains (M.closure (i ∷ f)) k ≡ true)
              split k (inl c) = inl (Contains-contains covered k c)
              split k (inr c) = inr (Contains-contains (M.closure (i ∷ f)) k (subst (λ z. Contains z k) same c))

              merge : (k : ℕ) → (contains covered k ≡ true) ⊎ (contains (M.closure (i ∷ f)) k ≡ true) → Contains covered k ⊎ Contains cover k
              merge k (inl t) = inl (contains-Contains covered k t)
              merge k (inr t) = inr (subst (λ z. Contains z k) (sym same) (contains-Contains (M.closure (i ∷ f)) k t))
