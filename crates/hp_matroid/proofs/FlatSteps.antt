-- Flats level by level, and circuits told by leaving out one member.
use Rattle.std.specs.Prelude.{[], ◌≡◌, ℕ, suc, ◌<◌, ◌≤◌, ◌==◌, Bool, true, false, cond, not, ◌&&◌, ◌||◌, List, ◌∷◌, length}
use Rattle.std.specs.List.{list_any, list_all}
use Rattle.std.specs.Cmp.{both_ways}
use Rattle.std.proofs.lemmas.Bool.{eq-eqb, ltb-true, ltb-false, and_from}
use mathlib.Core.Logic.{inl, inr}
use mathlib.Core.Path.{refl, sym, ap, ◌∙◌, subst}
use native.Mathlib.Omega.{arith}
use Rattle.hp_lists.specs.Lists.{one_to}
use Rattle.hp_lists.proofs.Members.{first_true, second_true}
use Rattle.hp_sets.specs.Sets.{Set, contains, is_within, is_properly_within, sets_within}
use Rattle.hp_matroid.specs.Matroids.{Rises, Within, is_dependent, is_circuit, Matroid}
use Rattle.hp_matroid.proofs.Subsets.{clash, not_true, decide, apart_true, head_in, within-cons}
use Rattle.hp_matroid.proofs.RisingLists.{rises-same, is_within-from, is_within-to, all-at, all-from, all-fails}
use Rattle.hp_matroid.proofs.Broken.{rank-low}
use Rattle.hp_matroid.proofs.Triple.{remove, remove-within, remove-keeps, remove-rises, remove-gone}
use Rattle.hp_matroid.proofs.Coatoms.{flat-same}
use Rattle.hp_matroid.proofs.Exchange.{coatom, independent-within, circuit-minimal, circuit-closure}
use Rattle.hp_matroid.proofs.Listing.{sets_within-listing}

module _ (M : Matroid) where
  open M use {closure, rank, laws}

  abbrev ground : Set
  ground = one_to M.size

  abbrev sets : List Set
  sets = sets_within M.size

  -- a flat and a number outside it make a flat of one rank more
  pub level-up : (y : Set) (i : ℕ) → closure y ≡ y → contains ground i ≡ true → contains y i ≡ false → rank (closure (i ∷ y)) ≡ suc (rank y)
  level-up y i e g out = laws.rank_closure (i ∷ y) (within-cons i y ground g (λ j h. laws.closure_within y j (subst (λ t. contains t j ≡ true) (sym e) h))) ∙ laws.rank_outside y i g (ap (λ t. contains t i) e ∙ out)

  -- each flat of rank k + 1 is made so from one of rank k
  pub level-down : (k : ℕ) (f : Set) → Within f ground → closure f ≡ f → rank f ≡ suc k
      → (y : Set) × (i : ℕ) × Rises y × (closure y ≡ y) × (rank y ≡ k) × (contains ground i ≡ true) × (contains y i ≡ false) × (closure (i ∷ y) ≡ f)
  level-down k [] wf e r = absurd (none (rank []) k laws.rank_empty r)
    where
      none : (a k : ℕ) → a ≡ 0 → a ≡ suc k → ⊥
      none a k p q = omega arith
  level-down k (i ∷ f) wf e r =
      let y = coatom M (i ∷ f) wf e i (head_in i f) in
      let gi : contains ground i ≡ true = wf i (head_in i f) in
      let inside : Within (closure (i ∷ y.0)) (i ∷ f) = λ j h. subst (λ t. contains t j ≡ true) e (laws.monotone (i ∷ y.0) (i ∷ f) (within-cons i y.0 (i ∷ f) (head_in i f) y.3) j h) in (
        y.0,
        i,
        y.1,
        y.2,
        less (rank y.0) (rank (i ∷ f)) k y.5 r,
        gi,
        y.4,
        rises-same (closure (i ∷ y.0)) (i ∷ f) (laws.closure_rises (i ∷ y.0)) (subst Rises e (laws.closure_rises (i ∷ f))) inside
            (flat-same M (i ∷ y.0) (i ∷ f) wf inside (level-up y.0 i y.2 gi y.4 ∙ y.5)),
      )
    where
      less : (a b k : ℕ) → suc a ≡ b → b ≡ suc k → a ≡ k
      less a b k p q = omega arith

  abbrev Dependent : Set → Bool
  Dependent s = is_dependent M s

  abbrev Circuit : Set → Bool
  Circuit s = is_circuit M s

  -- a set that contains a dependent one is dependent
  pub dependent-more : (s t : Set) → Rises s → Rises t → Within s t → Within t ground → Dependent s ≡ true → Dependent t ≡ true
  dependent-more s t rs rt w wt d = elim (decide (Dependent t)) as (λ _. Dependent t ≡ true) [
    | inl h ↦ h
    | inr h ↦ absurd (none (rank s) (length s) (ltb-true (rank s) (length s) d)
        (independent-within M t s rt rs w wt (same (rank t) (length t) (rank-low M t wt) (ltb-false (rank t) (length t) h))))
  ]
    where
      same : (a b : ℕ) → a ≤ b → b ≤ a → a ≡ b
      same a b p q = omega arith

      none : (a b : ℕ) → a < b → a ≡ b → ⊥
      none a b p q = omega arith

  -- a circuit has one member more than its rank
  pub circuit-size : (c : Set) → Circuit c ≡ true → Rises c → Within c ground → length c ≡ suc (rank c)
  circuit-size [] h r w = absurd (none (rank []) (ltb-true (rank []) 0 (first_true (Dependent []) (not (list_any (λ t. is_properly_within t [] && Dependent t) sets)) h)))
    where
      none : (a : ℕ) → a < 0 → ⊥
      none a p = omega arith
  circuit-size (x ∷ c) h r w =
      ap suc (sym (same (rank c) (length c) (rank-low M c wc) (ltb-false (rank c) (length c) (circuit-minimal M (x ∷ c) c h r.1 wc proper)))
      ∙ sym (laws.rank_inside c x (w x (head_in x c)) inside))
    where
      wc : Within c ground
      wc i k = w i (tail i k)
        where
          tail : Within c (x ∷ c)
          tail i k = or (x == i) (contains c i) k
            where
              or : (a b : Bool) → b ≡ true → (a || b) ≡ true
              or true b e = refl
              or false b e = e

      same : (a b : ℕ) → a ≤ b → b ≤ a → a ≡ b
      same a b p q = omega arith

      out : (x : ℕ) → x < x → ⊥
      out x l = omega arith

      proper : is_properly_within c (x ∷ c) ≡ true
      proper = and_from (is_within c (x ∷ c)) (not (is_within (x ∷ c) c)) (is_within-from c (x ∷ c) (λ i k. or (x == i) (contains c i) k))
          (elim (decide (is_within (x ∷ c) c)) as (λ _. not (is_within (x ∷ c) c) ≡ true) [
            | inl q ↦ absurd (out x (r.0 x (is_within-to (x ∷ c) c q x (head_in x c))))
            | inr q ↦ ap not q
          ])
        where
          or : (a b : Bool) → b ≡ true → (a || b) ≡ true
          or true b e = refl
          or false b e = e

      first : remove x (x ∷ c) ≡ c
      first = ap (λ b. cond b c (x ∷ remove x c)) (eq-eqb x x refl)

      inside : contains (closure c) x ≡ true
      inside = ap (λ t. contains (closure t) x) (sym first) ∙ circuit-closure M (x ∷ c) x h r w (head_in x c)

  -- A circuit is a dependent set that is independent without any one member.
  pub circuit-test : (s : Set) → Rises s → Within s ground → Circuit s ≡ (Dependent s && list_all (λ x. not (Dependent (remove x s))) s)
  circuit-test s r w = both_ways (Circuit s) (Dependent s && list_all (λ x. not (Dependent (remove x s))) s) there back
    where
      smaller : Set → Bool
      smaller t = is_properly_within t s && Dependent t

      there : Circuit s ≡ true → (Dependent s && list_all (λ x. not (Dependent (remove x s))) s) ≡ true
      there h = and_from (Dependent s) (list_all (λ x. not (Dependent (remove x s))) s) (first_true (Dependent s) (not (list_any smaller sets)) h)
          (all-from (λ x. not (Dependent (remove x s))) s (λ x k. ap not (circuit-minimal M s (remove x s) h (remove-rises x s r) (λ i q. w i (remove-within x s i q))
          (and_from (is_within (remove x s) s) (not (is_within s (remove x s))) (is_within-from (remove x s) s (remove-within x s))
          (elim (decide (is_within s (remove x s))) as (λ _. not (is_within s (remove x s)) ≡ true) [
            | inl q ↦ absurd (remove-gone x s r (is_within-to s (remove x s) q x k))
            | inr q ↦ ap not q
          ])))))

      none : list_all (λ x. not (Dependent (remove x s))) s ≡ true → list_any smaller sets ≡ true → ⊥
      none h a =
          let t = (sets_within-listing M.size).only smaller a in
          let p : is_properly_within t.0 s ≡ true = first_true (is_properly_within t.0 s) (Dependent t.0) t.3 in
          let x = all-fails (contains t.0) s (not_true (is_within s t.0) (second_true (is_within t.0 s) (not (is_within s t.0)) p)) in
          apart_true (Dependent (remove x.0 s))
          (dependent-more t.0 (remove x.0 s) t.1 (remove-rises x.0 s r)
          (λ i k. remove-keeps x.0 s i (is_within-to t.0 s (first_true (is_within t.0 s) (not (is_within s t.0)) p) i k) (λ z. clash (sym k ∙ ap (contains t.0) (sym z) ∙ x.2)))
          (λ i q. w i (remove-within x.0 s i q)) (second_true (is_properly_within t.0 s) (Dependent t.0) t.3))
          (not_true (Dependent (remove x.0 s)) (all-at (λ y. not (Dependent (remove y s))) s x.0 h x.1))

      back : (Dependent s && list_all (λ x. not (Dependent (remove x s))) s) ≡ true → Circuit s ≡ true
      back h = and_from (Dependent s) (not (list_any smaller sets)) (first_true (Dependent s) (list_all (λ x. not (Dependent (remove x s))) s) h)
          (elim (decide (list_any smaller sets)) as (λ _. not (list_any smaller sets) ≡ true) [
            | inl a ↦ absurd (none (second_true (Dependent s) (list_all (λ x. not (Dependent (remove x s))) s) h) a)
            | inr a ↦ ap not a
          ])
