-- What is kept of rows of which the first copies are kept.
use Rattle.std.specs.Prelude.{◌≡◌, ◌⊎◌, ℕ, ◌<◌, ◌≤◌, Bool, true, false, cond, not, ◌||◌, List, [], ◌∷◌, ◌++◌, length, filter, All}
use Rattle.std.proofs.Common.{get_or, refl, sym, ap, ◌∙◌, inl, inr, arith, append-nil}
use Rattle.std.proofs.lemmas.Bool.{false≢true, not-true, cases_Bool, false_from_ne_true}
use Rattle.std.proofs.lemmas.List.Elements.{All-head, All-tail, All-cons, All-filter, filter-append}
use Rattle.std.proofs.lemmas.List.Sums.{length-filter, count_by-le-length}
use Rattle.hp_algebra.specs.Ring.{RingOf, IsRing}
use Rattle.hp_lists.specs.Lists.{Ordered, list_any}
use Rattle.hp_algebra.specs.Rows.{same_row}
use Rattle.hp_lists.proofs.Members.{filter-Contains}
use Rattle.hp_lists.proofs.Ordered.{Ordered-filter, pairs_from_Ordered}
use Rattle.hp_algebra.proofs.RowDifferences.{same_row-exact}
use Rattle.hp_arr.specs.Operations.{first_copies}

module _ {K : Type 0} (ring : RingOf K) where
  -- the rows that are not x
  abbrev others : List K → List (List K) → List (List K)
  others x rows = filter (λ b. not (same_row ring x b)) rows

  abbrev held : List (List K) → List K → Bool
  held rows a = list_any (same_row ring a) rows

  -- what each row has, each kept row has
  pub All-first_copies : (P : List K → Type 0) (rows : List (List K)) → All P rows → All P (first_copies ring rows)
  All-first_copies P [] all = all
  All-first_copies P (x ∷ rows) all =
      All-cons P x _ (All-head P x rows all)
      (All-filter (λ b. not (same_row ring x b)) P (first_copies ring rows) (All-first_copies P rows (All-tail P x rows all)))

  -- no more rows are kept than there were
  pub length-first_copies : (rows : List (List K)) → length (first_copies ring rows) ≤ length rows
  length-first_copies [] = omega arith
  length-first_copies (x ∷ rows) =
      let other : List K → Bool = λ b. not (same_row ring x b) in
      let kept = first_copies ring rows in
      omega (arith, length-filter other kept, count_by-le-length other kept, length-first_copies rows)

  -- no kept row is that of an earlier one
  first_copies-ordered : (rows : List (List K)) → Ordered (λ a b. same_row ring a b ≡ false) (first_copies ring rows)
  first_copies-ordered [] = tt
  first_copies-ordered (x ∷ rows) = (
    λ b c. not-true (same_row ring x b) (filter-Contains (λ b. not (same_row ring x b)) (first_copies ring rows) b c).1,
    Ordered-filter (λ a b. same_row ring a b ≡ false) (λ b. not (same_row ring x b)) (first_copies ring rows) (first_copies-ordered rows),
  )

  pub first_copies-apart : (rows : List (List K)) (p q : ℕ) (d : List K) → p < q → q < length (first_copies ring rows)
      → same_row ring (get_or (first_copies ring rows) p d) (get_or (first_copies ring rows) q d) ≡ false
  first_copies-apart rows = pairs_from_Ordered (λ a b. same_row ring a b ≡ false) (first_copies ring rows) (first_copies-ordered rows)

  module _ (x a : List K) (rows : List (List K)) where
    -- a row that is x is lost among the others
    push-lost : same_row ring x a ≡ true → (b : Bool) → others x (cond b rows (rows ++ a ∷ [])) ≡ others x rows
    push-lost e true = refl
    push-lost e false =
        filter-append (λ b. not (same_row ring x b)) rows (a ∷ [])
        ∙ ap (λ t. others x rows ++ cond (not t) (a ∷ []) []) e ∙ append-nil (others x rows)

    -- a row that is not x stays
    push-stays : same_row ring x a ≡ false → (b : Bool) → x ∷ others x (cond b rows (rows ++ a ∷ [])) ≡ cond b (x ∷ others x rows) (x ∷ others x rows ++ a ∷ [])
    push-stays e true = refl
    push-stays e false =
        ap (λ ys. x ∷ ys)
        (filter-append (λ b. not (same_row ring x b)) rows (a ∷ []) ∙ ap (λ t. others x rows ++ cond (not t) (a ∷ []) []) e)

module _ {K : Type 0} {ring : RingOf K} (laws : IsRing ring) where
  abbrev Values : List K → Type 0
  Values row = All ring.IsValue row

  same_row-sym : (a b : List K) → Values a → Values b → same_row ring a b ≡ true → same_row ring b a ≡ true
  same_row-sym a b va vb e = (same_row-exact laws b a vb va).1 (sym ((same_row-exact laws a b va vb).0 e))

  -- a row that is not x is held where it is held among the others
  held-others : (x a : List K) (rows : List (List K)) → Values x → Values a → All Values rows → same_row ring a x ≡ false
      → held ring (others ring x rows) a ≡ held ring rows a
  held-others x a [] vx va vr apart = refl
  held-others x a (b ∷ rows) vx va vr apart =
      step (cases_Bool (same_row ring x b)) (held-others x a rows vx va (All-tail Values b rows vr) apart)
    where
      -- b is x, so a is not b
      differ : same_row ring x b ≡ true → same_row ring a b ≡ false
      differ e = ap (same_row ring a) (sym ((same_row-exact laws x b vx (All-head Values b rows vr)).0 e)) ∙ apart

      step : (same_row ring x b ≡ true) ⊎ (same_row ring x b ≡ false) → held ring (others ring x rows) a ≡ held ring rows a
          → held ring (cond (not (same_row ring x b)) (b ∷ others ring x rows) (others ring x rows)) a ≡ (same_row ring a b || held ring rows a)
      step (inl e) rest =
          ap (λ t. held ring (cond (not t) (b ∷ others ring x rows) (others ring x rows)) a) e ∙ rest ∙ sym (ap (λ t. t || held ring rows a) (differ e))
      step (inr e) rest =
          ap (λ t. held ring (cond (not t) (b ∷ others ring x rows) (others ring x rows)) a) e ∙ ap (λ t. same_row ring a b || t) rest

  -- one row more is kept where it is not held yet
  first_copies-more : (rows : List (List K)) (a : List K) → All Values rows → Values a
      → cond (held ring (first_copies ring rows) a) (first_copies ring rows) (first_copies ring rows ++ a ∷ []) ≡ first_copies ring (rows ++ a ∷ [])
  first_copies-more [] a vr va = refl
  first_copies-more (x ∷ rows) a vr va = step (cases_Bool (same_row ring a x)) ∙ ap (λ ks. x ∷ others ring x ks) (first_copies-more rows a vrest va)
    where
      vx : Values x
      vx = All-head Values x rows vr

      vrest : All Values rows
      vrest = All-tail Values x rows vr

      kept : List (List K)
      kept = first_copies ring rows

      back : same_row ring a x ≡ false → same_row ring x a ≡ false
      back e = false_from_ne_true _ (λ t. false≢true (sym e ∙ same_row-sym x a vx va t))

      step : (same_row ring a x ≡ true) ⊎ (same_row ring a x ≡ false)
          → cond (same_row ring a x || held ring (others ring x kept) a) (x ∷ others ring x kept) (x ∷ others ring x kept ++ a ∷ [])
          ≡ x ∷ others ring x (cond (held ring kept a) kept (kept ++ a ∷ []))
      step (inl e) =
          ap (λ t. cond (t || held ring (others ring x kept) a) (x ∷ others ring x kept) (x ∷ others ring x kept ++ a ∷ [])) e
          ∙ ap (λ ks. x ∷ ks) (sym (push-lost ring x a kept (same_row-sym a x va vx e) (held ring kept a)))
      step (inr e) =
          ap (λ t. cond (t || held ring (others ring x kept) a) (x ∷ others ring x kept) (x ∷ others ring x kept ++ a ∷ [])) e
          ∙ ap (λ t. cond t (x ∷ others ring x kept) (x ∷ others ring x kept ++ a ∷ [])) (held-others x a kept vx va (All-first_copies ring Values rows vrest) e)
          ∙ sym (push-stays ring x a kept (back e) (held ring kept a))

  pub first_copies-push : (rows kept : List (List K)) (a : List K) → All Values rows → Values a → kept ≡ first_copies ring rows
      → cond (held ring kept a) kept (kept ++ a ∷ []) ≡ first_copies ring (rows ++ a ∷ [])
  first_copies-push rows kept a vr va e = ap (λ ks. cond (held ring ks a) ks (ks ++ a ∷ [])) e ∙ first_copies-more rows a vr va
