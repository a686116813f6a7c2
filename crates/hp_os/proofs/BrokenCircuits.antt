-- Dependent sets and sets without broken circuit: their parts, and the first members of sets with one closure.
use Rattle.std.specs.Prelude.{◌≡◌, ◌⊎◌, ℕ, suc, ◌<◌, ◌≤◌, [], ◌∷◌, length, Contains}
use Rattle.std.proofs.lemmas.Bool.{ltb-true, lt-ltb}
use mathlib.Core.Logic.{inl, inr}
use mathlib.Core.Path.{sym, ap, ◌∙◌, subst}
use native.Mathlib.Omega.{arith}
use Rattle.hp_lists.specs.Lists.{one_to}
use Rattle.hp_lists.proofs.Members.{Contains-here, Contains-none}
use Rattle.hp_sets.specs.Sets.{Set}
use Rattle.hp_sets.proofs.Parts.{IsPart}
use Rattle.hp_matroid.specs.Matroids.{Rises, Within}
use Rattle.hp_matroid.proofs.FlatSteps.{dependent-more}
use Rattle.hp_matroid.proofs.RisingSets.{set-rises}
use Rattle.hp_arr.specs.Flats.{is_dependent}
use Rattle.hp_arr.proofs.Setting.{Setting, cl, n, over, rk}
use Rattle.hp_arr.proofs.Cuts.{flat-extends, set-indices}
use Rattle.hp_arr.proofs.Ranks.{in_flat, rank-adds}
use Rattle.hp_arr.proofs.ArrangementMatroids.{closure-empty, matroid, within-of}
use Rattle.hp_circuits.proofs.NbcLaw.{Nbc, nbc-law, nbc-least}
use Rattle.hp_circuits.proofs.NbcFound.{nbc-part}
use Rattle.hp_exterior.proofs.Inserted.{Up, Up-lower, up_set}
use Rattle.hp_os.proofs.IdealSetting.{Dep}

module _ {K : Type 0} (S : Setting K) where
  open S use {ring, numbers, arr}

  -- ---- dependent sets

  pub dependent-less : (s : Set) → Dep S s → rk S s < length s
  unfolding is_dependent
  dependent-less s d = ltb-true _ _ d

  pub less-dependent : (s : Set) → rk S s < length s → Dep S s
  unfolding is_dependent
  less-dependent s l = lt-ltb _ _ l

  pub empty-independent : Dep S [] → ⊥
  empty-independent d = none _ (dependent-less [] d)
    where
      none : (k : ℕ) → k < 0 → ⊥
      none k l = omega arith

  -- a set within 1 to n rises
  rises-of : (s : Set) → Up 0 (n S) s → Rises s
  rises-of s h = (set-rises (n S) s (up_set (n S) s h)).0

  ground-of : (s : Set) → Up 0 (n S) s → Within s (one_to (n S))
  ground-of s h = (set-rises (n S) s (up_set (n S) s h)).1

  -- what contains a dependent set is dependent
  pub dependent-grows : (s t : Set) → Up 0 (n S) s → Up 0 (n S) t → IsPart s t → Dep S s → Dep S t
  unfolding is_dependent
  dependent-grows s t h k p d =
      dependent-more (matroid S) s t (rises-of s h) (rises-of t k) (within-of s t p) (ground-of t k) d

  -- ---- sets without broken circuit

  -- a part of such a set is one
  pub nbc-inside : (s t : Set) → Up 0 (n S) s → Up 0 (n S) t → IsPart s t → Nbc S t → Nbc S s
  nbc-inside s t h k p b = nbc-part S s t (rises-of s h) (rises-of t k) p (ground-of t k) b

  pub nbc-independent : (s : Set) → Up 0 (n S) s → Nbc S s → Dep S s → ⊥
  nbc-independent s h b d = none _ _ (dependent-less s d) ((nbc-law S s (up_set (n S) s h)).0 b).0
    where
      none : (a b : ℕ) → a < b → a ≡ b → ⊥
      none a b l e = omega arith

  -- the first member is the least of the closure
  pub nbc-first : (x : ℕ) (s : Set) → Up 0 (n S) (x ∷ s) → Nbc S (x ∷ s) → (k : ℕ) → Contains (cl S (x ∷ s)) k → x ≤ k
  nbc-first x s h b k c = nbc-least S x s (rises-of (x ∷ s) h) (ground-of (x ∷ s) h) b k c

  in_closure : (s : Set) → Up 0 (n S) s → IsPart s (cl S s)
  in_closure s h = flat-extends (over S) s (set-indices arr s (up_set (n S) s h))

  -- another such set with the same closure begins with the same member
  pub nbc-shares : (x : ℕ) (s t : Set) → Up 0 (n S) (x ∷ s) → Nbc S (x ∷ s) → Up 0 (n S) t → Nbc S t
      → cl S t ≡ cl S (x ∷ s) → (u : Set) × (t ≡ x ∷ u)
  nbc-shares x s [] h b k d e =
      absurd (Contains-none x (subst (λ f. Contains f x) (sym e ∙ closure-empty S) (in_closure (x ∷ s) h x (Contains-here x s))))
  nbc-shares x s (y ∷ u) h b k d e = (
    u,
    ap (λ z. z ∷ u) (same y x
        (nbc-first y u k d x (subst (λ f. Contains f x) (sym e) (in_closure (x ∷ s) h x (Contains-here x s))))
        (nbc-first x s h b y (subst (λ f. Contains f y) e (in_closure (y ∷ u) k y (Contains-here y u))))),
  )
    where
      same : (y x : ℕ) → y ≤ x → x ≤ y → y ≡ x
      same y x l m = omega arith

  -- with a lower member in front such a set is still independent
  pub nbc-front : (a : ℕ) (s : Set) → Nbc S s → Up 0 (n S) (a ∷ s) → Dep S (a ∷ s) → ⊥
  nbc-front a s b h d = step (in_flat (over S) s a)
    where
      up : Up 0 (n S) s
      up = Up-lower 0 a (n S) s (low a) h.2
        where
          low : (a : ℕ) → 0 ≤ a
          low a = omega arith

      inside : (s : Set) → Up 0 (n S) s → Up a (n S) s → Nbc S s → Contains (cl S s) a → ⊥
      inside [] u k c m = Contains-none a (subst (λ f. Contains f a) (closure-empty S) m)
      inside (y ∷ s) u k c m = none a y k.0 (nbc-first y s u c a m)
        where
          none : (a y : ℕ) → a < y → y ≤ a → ⊥
          none a y l m = omega arith

      step : Contains (cl S s) a ⊎ (Contains (cl S s) a → ⊥) → ⊥
      step (inl m) = inside s up h.2 b m
      step (inr m) =
          none _ _ _ (dependent-less (a ∷ s) d) (rank-adds (over S) s a (set-indices arr (a ∷ s) (up_set (n S) (a ∷ s) h) a (Contains-here a s)) m)
          ((nbc-law S s (up_set (n S) s up)).0 b).0
        where
          none : (q r l : ℕ) → q < suc l → q ≡ suc r → r ≡ l → ⊥
          none q r l e f g = omega arith
