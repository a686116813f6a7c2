-- The steps of the loops of a normal form: what breaks a set straightens it or shows that it is dependent.
use Rattle.std.specs.Prelude.{◌≡◌, ◌⊎◌, ℕ, suc, ◌+◌, ◌-◌, ◌<◌, ◌≤◌, true, false, List, [], ◌∷◌, ◌++◌, length, All, Contains}
use Rattle.std.proofs.lemmas.Bool.{lt-ltb}
use Rattle.std.proofs.lemmas.List.Elements.{All-contains, All-head}
use mathlib.Core.Logic.{inl, inr}
use mathlib.Core.Path.{refl, sym, subst}
use native.Mathlib.Omega.{arith}
use Rattle.hp_lists.specs.Lists.{one_to}
use Rattle.hp_lists.proofs.Members.{not_both, Contains-cases}
use Rattle.hp_sets.specs.Sets.{Set, IsSetWithin, cmp_listed, contains}
use Rattle.hp_sets.proofs.SetLaws.{contains-Contains, Contains-contains}
use Rattle.hp_sets.proofs.SetWithin.{is_within-members}
use Rattle.hp_sums.specs.FiniteSums.{collect}
use Rattle.hp_sums.proofs.WeightedSums.{scaled}
use Rattle.hp_matroid.proofs.Broken.{rank-low}
use Rattle.hp_matroid.proofs.RisingSets.{set-rises, set-from_rises}
use Rattle.hp_matroid.proofs.Subsets.{within-cons}
use Rattle.hp_arr.specs.Flats.{is_dependent}
use Rattle.hp_arr.proofs.ArrangementMatroids.{arrangement-laws, index-ground, matroid}
use Rattle.hp_arr.proofs.Cuts.{flat-members}
use Rattle.hp_arr.proofs.Setting.{Setting, n, over}
use Rattle.hp_circuits.specs.BrokenParts.{IsBrokenBy}
use Rattle.hp_circuits.proofs.NbcLaw.{Nbc}
use Rattle.hp_exterior.specs.Exterior.{Ext}
use Rattle.hp_os.specs.Straightening.{lower_terms, member_sum, straight_terms, upper_terms}
use Rattle.hp_exterior.proofs.Inserted.{set_up}
use Rattle.hp_os.proofs.BrokenCircuits.{dependent-grows}
use Rattle.hp_os.proofs.IdealSetting.{Dep, Element, Normal}
use Rattle.hp_os.proofs.Passes.{IsPass, IsReady, pass-done, pass-drop, pass-end, pass-replace, pass-start, ready-end, ready-start}
use Rattle.hp_os.proofs.Straighten.{IsReplacement, few}

no_terms : {X : Type 0} (xs : List X) → length xs ≡ 0 → xs ≡ []
no_terms [] e = refl
no_terms (x ∷ xs) e = absurd (omega (arith, e))

module _ {K : Type 0} (S : Setting K) where
  open S use {ring, inverse, numbers, arr}

  module _ (s : Set) (i : ℕ) (u : Set) (hs : IsSetWithin (n S) s) (b : IsBrokenBy S.ring S.numbers S.arr s i u) where
    index : (1 ≤ i) × (i ≤ n S)
    index = (flat-members (over S) u i b.spanned).0

    pub broken-low : 1 ≤ i
    broken-low = index.0

    pub broken-high : i ≤ 64
    broken-high = (let l = index.1 in let m = few S in omega (arith, l, m))

    ground : contains (one_to (n S)) i ≡ true
    ground = index-ground (n S) i index.0 index.1

    rising : IsSetWithin (n S) (i ∷ u)
    rising =
        let r = set-rises (n S) u b.within in
        set-from_rises (n S) (i ∷ u) ((λ j h. All-contains (λ j. i < j) u j b.below (contains-Contains u j h)), r.0)
        (within-cons i u (one_to (n S)) ground r.1)

    dependent : Dep S (i ∷ u)
    unfolding is_dependent
    dependent =
        let M = matroid S in
        let e = (arrangement-laws S).rank_inside u i ground (Contains-contains _ i b.spanned) in
        let l = rank-low M u (set-rises (n S) u b.within).1 in
        lt-ltb _ _ (omega (arith, e, l))

    part : (j : ℕ) → Contains u j → Contains s j
    part j c = is_within-members u s j b.part c

    -- where i is a member, the set is dependent
    pub broken-dependent : contains s i ≡ true → Dep S s
    broken-dependent e = dependent-grows S (i ∷ u) s (set_up (n S) (i ∷ u) rising) (set_up (n S) s hs) (λ j c. pick j (Contains-cases i u j c)) dependent
      where
        pick : (j : ℕ) → (i ≡ j) ⊎ Contains u j → Contains s j
        pick j (inl q) = subst (λ z. Contains s z) q (contains-Contains s i e)
        pick j (inr c) = part j c

    -- and else i stands for the members of the part
    pub broken-replaced : contains s i ≡ false → IsReplacement S s i u
    broken-replaced e = record {
      within = hs;
      rising = rising;
      part = part;
      outside = λ c. not_both _ (Contains-contains s i c) e;
      dependent = dependent;
    }

  -- ---- the loop over levels

  pub loop-start : (x todo done : Ext K) (bound : ℕ) → Element S x → todo ≡ x → done ≡ []
      → All (λ (t : Set × K). member_sum t.0 < bound) todo → IsReady S x (bound - 0) todo done
  loop-start x todo done bound h e f l =
      subst (λ b. IsReady S x b todo done) (none bound) (subst (λ z. IsReady S x bound z done) (sym e) (subst (λ z. IsReady S x bound x z) (sym f)
      (ready-start S x bound h (subst (All (λ (t : Set × K). member_sum t.0 < bound)) e l))))
    where
      none : (b : ℕ) → b ≡ b - 0
      none b = omega arith

  module _ (x : Ext K) (bound back : ℕ) (inside : back < bound) where
    pub loop-enter : (todo here rest done : Ext K) → IsReady S x (bound - back) todo done
        → here ≡ collect cmp_listed ring (upper_terms (bound - 1 - back) todo)
        → rest ≡ lower_terms (bound - 1 - back) todo
        → IsPass S x (bound - 1 - back) here rest done
    loop-enter todo here rest done h e f =
        let same : bound - back ≡ suc (bound - 1 - back) = omega (arith, inside) in
        pass-start S x (bound - 1 - back) todo here rest done (subst (λ b. IsReady S x b todo done) same h) e f

    pub loop-leave : (xs rest done : Ext K) → IsPass S x (bound - 1 - back) xs rest done → length xs ≡ 0
        → IsReady S x (bound - (back + 1)) rest done
    loop-leave xs rest done h e =
        let same : bound - 1 - back ≡ bound - (back + 1) = omega (arith, inside) in
        subst (λ b. IsReady S x b rest done) same
        (pass-end S x (bound - 1 - back) rest done (subst (λ z. IsPass S x (bound - 1 - back) z rest done) (no_terms xs e) h))

  pub loop-end : (x todo done r : Ext K) (bound back : ℕ) → bound ≤ back → Element S x
      → IsReady S x (bound - back) todo done
      → r ≡ collect cmp_listed ring done → Normal S x r
  loop-end x todo done r bound back l hx h e =
      let none : bound - back ≡ 0 = omega (arith, l) in
      subst (Normal S x) (sym e) (ready-end S x todo done hx (subst (λ b. IsReady S x b todo done) none h))

  -- ---- the loop over terms

  module _ (x : Ext K) (level : ℕ) (t : Set × K) (xs more rest done : Ext K) (h : IsPass S x level xs rest done) (e : xs ≡ t ∷ more) where
    front : IsPass S x level (t ∷ more) rest done
    front = subst (λ z. IsPass S x level z rest done) e h

    pub turn-within : IsSetWithin (n S) t.0
    turn-within = All-head (λ (u : Set × K). IsSetWithin (n S) u.0) t more front.todo_within

    pub turn-done : (next : Ext K) → Nbc S t.0 → next ≡ done ++ t ∷ [] → IsPass S x level more rest next
    turn-done next b f = subst (λ z. IsPass S x level more rest z) (sym f) (pass-done S x level t more rest done front b)

    module _ (i : ℕ) (u : Set) (b : IsBrokenBy S.ring S.numbers S.arr t.0 i u) where
      pub turn-drop : contains t.0 i ≡ true → IsPass S x level more rest done
      turn-drop c = pass-drop S x level t more rest done front (broken-dependent t.0 i u turn-within b c)

      pub turn-replace : (next : Ext K) → contains t.0 i ≡ false
          → next ≡ rest ++ scaled ring t.1 (straight_terms ring t.0 i u)
          → IsPass S x level more next done
      turn-replace next c f =
          subst (λ z. IsPass S x level more z done) (sym f) (pass-replace S x level t more rest done i u front (broken-replaced t.0 i u turn-within b c))
