-- Every element of the exterior algebra has a normal form modulo the Orlik-Solomon ideal.
use Rattle.std.specs.Prelude.{◌≡◌, ◌⊎◌, ℕ, zero, suc, ◌+◌, ◌<◌, Bool, true, false, not, ◌||◌, List, [], ◌∷◌, ◌++◌, drop, filter, All, Contains}
use Rattle.std.proofs.lemmas.List.Elements.{All-nil, All-cons, All-head, All-weaker}
use mathlib.Core.Logic.{inl, inr}
use mathlib.Core.Path.{refl, ap, ◌∙◌, subst}
use native.Mathlib.Omega.{arith}
use Rattle.hp_lists.specs.Lists.{list_any}
use Rattle.hp_lists.proofs.Members.{Contains-cases, Contains-here, Contains-later, filter-Contains, first_true, map-Contains, not_both}
use Rattle.hp_sets.specs.Sets.{Set, IsSetWithin, cmp_listed, contains, is_within, sets_within}
use Rattle.hp_sets.proofs.Parts.{IsPart}
use Rattle.hp_sets.proofs.SetLaws.{contains-Contains, Contains-contains}
use Rattle.hp_sets.proofs.SetLists.{sets-complete}
use Rattle.hp_sets.proofs.SetWithin.{is_within-members}
use Rattle.hp_sums.specs.FiniteSums.{collect}
use Rattle.hp_sums.proofs.WeightedSums.{scaled}
use Rattle.hp_arr.specs.Circuits.{broken_circuits, circuits, is_nbc}
use Rattle.hp_arr.specs.Flats.{is_circuit}
use Rattle.hp_arr.proofs.Setting.{Setting, n}
use Rattle.hp_circuits.proofs.NbcLaw.{Nbc}
use Rattle.hp_exterior.specs.Exterior.{Ext}
use Rattle.hp_exterior.proofs.Inserted.{set_up}
use Rattle.hp_os.specs.Straightening.{lower_terms, member_sum, straight_terms, upper_terms}
use Rattle.hp_os.proofs.BrokenCircuits.{dependent-grows, empty-independent}
use Rattle.hp_os.proofs.IdealSetting.{Dep, Element, Normal}
use Rattle.hp_os.proofs.Passes.{IsPass, IsReady, pass-done, pass-drop, pass-end, pass-replace, pass-start, ready-end, ready-start}
use Rattle.hp_os.proofs.Straighten.{IsReplacement}

some_true : {X : Type 0} (p : X → Bool) (xs : List X) → list_any p xs ≡ true → (x : X) × Contains xs x × (p x ≡ true)
some_true p [] e = absurd (not_both _ e refl)
some_true {X} p (x ∷ xs) e = pick (p x) refl e (some_true p xs)
  where
    pick : (b : Bool) → p x ≡ b → (b || list_any p xs) ≡ true
        → (list_any p xs ≡ true → (y : X) × Contains xs y × (p y ≡ true))
        → (y : X) × Contains (x ∷ xs) y × (p y ≡ true)
    pick true q e r = (x, Contains-here x xs, q)
    pick false q e r = let w = r e in (w.0, Contains-later x xs w.0 w.1, w.2)

module _ {K : Type 0} (S : Setting K) where
  open S use {ring, inverse, numbers, arr}

  -- a broken circuit with the member that it lacks
  pub record IsBroken (s : Set) (i : ℕ) (bs : Set) : Type 0 where
    pub rising : IsSetWithin (n S) (i ∷ bs)
    pub part : IsPart bs s
    pub dependent : Dep S (i ∷ bs)

  pub nbc-or-broken : (s : Set) → Nbc S s ⊎ ((i : ℕ) × (bs : Set) × IsBroken s i bs)
  unfolding is_nbc broken_circuits circuits is_circuit
  nbc-or-broken s = step (list_any (λ b. is_within b s) (broken_circuits ring numbers arr)) refl
    where
      from : (b : Set) → is_within b s ≡ true → (c : Set) → IsSetWithin (n S) c
          → is_circuit ring numbers arr c ≡ true → drop 1 c ≡ b
          → (i : ℕ) × (bs : Set) × IsBroken s i bs
      from b e [] h f q = absurd (empty-independent S (first_true _ _ f))
      from b e (i ∷ bs) h f q = (
        i,
        bs,
        record {
          rising = h;
          part = λ j c. is_within-members bs s j (ap (λ z. is_within z s) q ∙ e) c;
          dependent = first_true _ _ f;
        },
      )

      step : (b : Bool) → list_any (λ b. is_within b s) (broken_circuits ring numbers arr) ≡ b
          → (not (list_any (λ b. is_within b s) (broken_circuits ring numbers arr)) ≡ true) ⊎ ((i : ℕ) × (bs : Set) × IsBroken s i bs)
      step false e = inl (ap not e)
      step true e =
          let w = some_true (λ b. is_within b s) (broken_circuits ring numbers arr) e in
          let c = map-Contains (drop 1) (filter (is_circuit ring numbers arr) (sets_within (n S))) w.0 w.1 in
          let f = filter-Contains (is_circuit ring numbers arr) (sets_within (n S)) c.0 c.1 in
          inr (from w.0 w.2 c.0 ((sets-complete (n S) c.0).0 f.0) f.1 c.2)

  -- S is dependent, or i is to replace the members of B in turn
  broken-step : (s : Set) (i : ℕ) (bs : Set) → IsSetWithin (n S) s → IsBroken s i bs → Dep S s ⊎ IsReplacement S s i bs
  broken-step s i bs h r = step (contains s i) refl
    where
      here : Contains s i → (j : ℕ) → (i ≡ j) ⊎ Contains bs j → Contains s j
      here c j (inl e) = subst (λ z. Contains s z) e c
      here c j (inr k) = r.part j k

      step : (b : Bool) → contains s i ≡ b → Dep S s ⊎ IsReplacement S s i bs
      step true e =
          inl (dependent-grows S (i ∷ bs) s (set_up (n S) (i ∷ bs) r.rising) (set_up (n S) s h)
          (λ j k. here (contains-Contains s i e) j (Contains-cases i bs j k)) r.dependent)
      step false e = inr (record {
        within = h;
        rising = r.rising;
        part = r.part;
        outside = λ c. not_both _ (Contains-contains s i c) e;
        dependent = r.dependent;
      })

  -- ---- all passes

  abbrev Passed : Ext K → ℕ → Type 0
  Passed x level = (rest : Ext K) × (done : Ext K) × IsPass S x level [] rest done

  pass-all : (x : Ext K) (level : ℕ) (todo rest done : Ext K) → IsPass S x level todo rest done → Passed x level
  pass-all x level [] rest done h = (rest, done, h)
  pass-all x level (t ∷ todo) rest done h = step (nbc-or-broken t.0) (λ r d k. pass-all x level todo r d k)
    where
      within : IsSetWithin (n S) t.0
      within = All-head (λ (u : Set × K). IsSetWithin (n S) u.0) t todo h.todo_within

      lower : (i : ℕ) (bs : Set) → Dep S t.0 ⊎ IsReplacement S t.0 i bs
          → ((r d : Ext K) → IsPass S x level todo r d → Passed x level) → Passed x level
      lower i bs (inl d) next = next rest done (pass-drop S x level t todo rest done h d)
      lower i bs (inr r) next = next (rest ++ scaled ring t.1 (straight_terms ring t.0 i bs)) done (pass-replace S x level t todo rest done i bs h r)

      step : Nbc S t.0 ⊎ ((i : ℕ) × (bs : Set) × IsBroken t.0 i bs)
          → ((r d : Ext K) → IsPass S x level todo r d → Passed x level) → Passed x level
      step (inl b) next = next rest (done ++ t ∷ []) (pass-done S x level t todo rest done h b)
      step (inr w) next = lower w.0 w.1 (broken-step t.0 w.0 w.1 within w.2) next

  ready-all : (x : Ext K) → Element S x → (bound : ℕ) (todo done : Ext K) → IsReady S x bound todo done
      → (r : Ext K) × Normal S x r
  ready-all x hx zero todo done h = (collect cmp_listed ring done, ready-end S x todo done hx h)
  ready-all x hx (suc level) todo done h =
      let p = pass-all x level (collect cmp_listed ring (upper_terms level todo)) (lower_terms level todo) done
      (pass-start S x level todo _ _ done h refl refl) in
      ready-all x hx level p.0 p.1 (pass-end S x level p.0 p.1 p.2)

  bounded : (xs : Ext K) → (b : ℕ) × All (λ (t : Set × K). member_sum t.0 < b) xs
  bounded [] = (0, All-nil (λ (t : Set × K). member_sum t.0 < 0))
  bounded (t ∷ xs) =
      let w = bounded xs in
      let b = w.0 + suc (member_sum t.0) in
      let P : ℕ → Set × K → Type 0 = λ c u. member_sum u.0 < c in
      (b, All-cons (P b) t xs (omega arith) (All-weaker (P w.0) (P b) (λ u l. omega (arith, l)) xs w.1))

  -- Every element has a normal form.
  pub normal-exists : (x : Ext K) → Element S x → (r : Ext K) × Normal S x r
  normal-exists x h = let w = bounded x in ready-all x h w.0 x [] (ready-start S x w.0 h w.1)
