-- The loop that lists the kept members: one member more.
use Rattle.std.specs.Prelude.{◌≡◌, ℕ, suc, ◌+◌, ◌<◌, ◌≤◌, List, [], ◌∷◌, ◌++◌, drop, length, take, slice_index_or}
use Rattle.std.proofs.lemmas.List.{append-nil, append_assoc, drop_all, take_more}
use Rattle.std.proofs.Math.Seq.{drop-cons}
use mathlib.Core.Logic.{inl, inr}
use mathlib.Core.Path.{refl, sym, ap, ◌∙◌, subst}
use native.Mathlib.Omega.{arith}
use Rattle.hp_algebra.specs.Ring.{RingOf}
use Rattle.hp_module.specs.Vectors.{Vector, IsGenerated, IsKept, IsKeptAfter}

module _ {F : Type 0} (ring : RingOf F) (width : ℕ) (xs : List (Vector F)) where
  -- what is kept of the members from place i on completes the list
  abbrev pub IsKeptUpTo : ℕ → List (Vector F) → Type 0
  IsKeptUpTo i kept = (rest : List (Vector F)) → IsKeptAfter ring width (take i xs) (drop i xs) rest → IsKept ring width xs (kept ++ rest)

  module _ (k : ℕ) (l : k < length xs) (kept : List (Vector F)) (h : IsKeptUpTo k kept) where
    abbrev v : Vector F
    v = slice_index_or xs k []

    later : (rest : List (Vector F)) → IsKeptAfter ring width (take (k + 1) xs) (drop (k + 1) xs) rest
        → IsKeptAfter ring width (take k xs ++ v ∷ []) (drop (suc k) xs) rest
    later rest r =
        let next : k + 1 ≡ suc k = omega arith in
        subst (λ zs. IsKeptAfter ring width (take k xs ++ v ∷ []) zs rest) (ap (λ i. drop i xs) next)
        (subst (λ zs. IsKeptAfter ring width zs (drop (k + 1) xs) rest) (take_more xs k [] l) r)

    here : (rest : List (Vector F)) → IsKeptAfter ring width (take k xs) (v ∷ drop (suc k) xs) rest → IsKept ring width xs (kept ++ rest)
    here rest r = h rest (subst (λ zs. IsKeptAfter ring width (take k xs) zs rest) (sym (drop-cons xs k [] l)) r)

    -- a member that the earlier ones don't generate is kept
    pub kept-one : {after : List (Vector F)} {x : Vector F} → ¬ (IsGenerated ring width (take k xs) (slice_index_or xs k []))
        → x ≡ slice_index_or xs k [] → after ≡ kept ++ x ∷ [] → IsKeptUpTo (k + 1) after
    kept-one new e w rest r =
        subst (IsKept ring width xs) (sym (ap (λ zs. zs ++ rest) (w ∙ ap (λ y. kept ++ y ∷ []) e) ∙ append_assoc kept (v ∷ []) rest))
        (here (v ∷ rest) (inr (new, (rest, refl, later rest r))))

    -- and one that they generate isn't
    pub kept-none : {after : List (Vector F)} → IsGenerated ring width (take k xs) (slice_index_or xs k []) → after ≡ kept
        → IsKeptUpTo (k + 1) after
    kept-none old w rest r = subst (λ zs. IsKept ring width xs (zs ++ rest)) (sym w) (here rest (inl (old, later rest r)))

  pub kept-begin : {kept : List (Vector F)} → kept ≡ [] → IsKeptUpTo 0 kept
  kept-begin e rest r = subst (IsKept ring width xs) (sym (ap (λ zs. zs ++ rest) e)) r

  pub kept-end : (i : ℕ) → length xs ≤ i → (kept : List (Vector F)) → IsKeptUpTo i kept → IsKept ring width xs kept
  kept-end i l kept h =
      subst (IsKept ring width xs) (append-nil kept)
      (h [] (subst (λ zs. IsKeptAfter ring width (take i xs) zs []) (sym (drop_all i xs l)) refl))
