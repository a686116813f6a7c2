-- Exchange, independent sets and circuits; the Möbius function has the sign of the rank at each flat.
use Rattle.std.specs.Prelude.{[], nat_lt, ◌≡◌, ◌≢◌, ℕ, zero, suc, ◌<◌, ◌≤◌, ◌==◌, Bool, true, false, cond, not, ◌&&◌, ◌||◌, List, ◌∷◌, length, filter, ◌⊎◌, pos, ◌*ℤ◌}
use Rattle.std.specs.List.{list_any}
use Rattle.std.proofs.lemmas.Bool.{eqb-true, eq-eqb, ltb-true, ltb-false, lt-ltb, le-ltb, and_from}
use mathlib.Core.Logic.{inl, inr}
use mathlib.Core.Path.{refl, sym, ap, ◌∙◌, subst}
use native.Mathlib.Omega.{arith}
use Rattle.hp_algebra.specs.Integers.{sign}
use Rattle.hp_lists.specs.Lists.{one_to}
use Rattle.hp_lists.proofs.Members.{first_true, second_true}
use Rattle.hp_sets.specs.Sets.{Set, contains, is_within, is_properly_within, sets_within}
use Rattle.hp_matroid.specs.Matroids.{same_set, Rises, Within, is_dependent, is_circuit, is_nbc, Matroid, mobius}
use Rattle.hp_matroid.proofs.Subsets.{clash, or_right, or_left, not_true, decide, apart_true, head_in, within-tail, within-cons, within-both, within-more}
use Rattle.hp_matroid.proofs.RisingLists.{none_within, head_low, split, rises-same, is_within-from, is_within-to, all-fails, all-from, same_set-from}
use Rattle.hp_matroid.proofs.Expansion.{least, closure_closure}
use Rattle.hp_matroid.proofs.Broken.{rank-low}
use Rattle.hp_matroid.proofs.Whitney.{whitney}
use Rattle.hp_matroid.proofs.Signs.{sign_sign}
use Rattle.hp_matroid.proofs.Triple.{remove, remove-within, remove-keeps, remove-rises, remove-gone}
use Rattle.hp_matroid.proofs.Restriction.{rank-members}
use Rattle.hp_matroid.proofs.Coatoms.{flat-same}
use Rattle.hp_matroid.proofs.Nbc.{nbc-empty, nbc-cons, is_least}
use Rattle.hp_matroid.proofs.Listing.{sets_within-listing}

-- a number taken out of a list and put before it
pub remove-length : (x : ℕ) (s : Set) → contains s x ≡ true → length s ≡ suc (length (remove x s))
remove-length x [] h = clash (sym h)
remove-length x (y ∷ s) h = step (y == x) refl (remove-length x s)
  where
    step : (b : Bool) → (y == x) ≡ b → (contains s x ≡ true → length s ≡ suc (length (remove x s))) → suc (length s) ≡ suc (length (cond b s (y ∷ remove x s)))
    step true e ih = refl
    step false e ih = ap suc (ih (sym (ap (λ b. b || contains s x) e) ∙ h))

pub remove-back : (x : ℕ) (s : Set) → Within s (x ∷ remove x s)
remove-back x s i h = elim (decide (x == i)) as (λ _. contains (x ∷ remove x s) i ≡ true) [
  | inl e ↦ or_left (x == i) (contains (remove x s) i) e
  | inr e ↦ or_right (x == i) (contains (remove x s) i) (remove-keeps x s i h (λ z. clash (sym (eq-eqb x i z) ∙ e)))
]

module _ (M : Matroid) where
  open M use {closure, rank, laws}

  abbrev ground : Set
  ground = one_to M.size

  abbrev sets : List Set
  sets = sets_within M.size

  rank-up : (x : ℕ) (s : Set) → contains ground x ≡ true → rank (x ∷ s) ≤ suc (rank s)
  rank-up x s g = elim (decide (contains (closure s) x)) as (λ _. rank (x ∷ s) ≤ suc (rank s)) [
    | inl h ↦ same (rank (x ∷ s)) (rank s) (laws.rank_inside s x g h)
    | inr h ↦ more (rank (x ∷ s)) (rank s) (laws.rank_outside s x g h)
  ]
    where
      same : (a b : ℕ) → a ≡ b → a ≤ suc b
      same a b e = omega arith

      more : (a b : ℕ) → a ≡ suc b → a ≤ suc b
      more a b e = omega arith

  -- exchange
  pub exchange : (s : Set) (x y : ℕ) → Within s ground → contains ground x ≡ true → contains ground y ≡ true
      → contains (closure s) x ≡ false → contains (closure (y ∷ s)) x ≡ true → contains (closure (x ∷ s)) y ≡ true
  exchange s x y ws gx gy out inside = elim (decide (contains (closure (x ∷ s)) y)) as (λ _. contains (closure (x ∷ s)) y ≡ true) [
    | inl h ↦ h
    | inr h ↦ absurd (none (rank (x ∷ y ∷ s)) (rank (y ∷ x ∷ s)) (rank (x ∷ s)) (rank (y ∷ s)) (rank s)
        (rank-members M (x ∷ y ∷ s) (y ∷ x ∷ s) (within-cons x (y ∷ s) ground gx (within-cons y s ground gy ws)) (within-cons y (x ∷ s) ground gy (within-cons x s ground gx ws)) (turn x y) (turn y x))
        (laws.rank_outside (x ∷ s) y gy h) (laws.rank_outside s x gx out) (laws.rank_inside (y ∷ s) x gx inside) (rank-up y s gy))
  ]
    where
      none : (xy yx x y s : ℕ) → xy ≡ yx → yx ≡ suc x → x ≡ suc s → xy ≡ y → y ≤ suc s → ⊥
      none xy yx x y s a b c d e = omega arith

      turn : (x y : ℕ) → Within (x ∷ y ∷ s) (y ∷ x ∷ s)
      turn x y = within-cons x (y ∷ s) (y ∷ x ∷ s) (or_right (y == x) (contains (x ∷ s) x) (head_in x s))
          (within-cons y s (y ∷ x ∷ s) (head_in y (x ∷ s)) (λ i h. or_right (y == i) (contains (x ∷ s) i) (or_right (x == i) (contains s i) h)))

  -- a set within an independent set is independent
  pub independent-within : (t s : Set) → Rises t → Rises s → Within s t → Within t ground → rank t ≡ length t → rank s ≡ length s
  independent-within [] s rt rs w wt e = ap rank (none_within s w) ∙ e ∙ ap length (sym (none_within s w))
  independent-within (x ∷ t) s rt rs w wt e = step (split x t s rt rs w) (λ u ru wu. independent-within t u rt.1 ru wu wt' tail)
    where
      wt' : Within t ground
      wt' = within-tail x t ground wt

      gx : contains ground x ≡ true
      gx = wt x (head_in x t)

      between : (a b n : ℕ) → a ≡ suc n → a ≤ suc b → b ≤ n → b ≡ n
      between a b n e h l = omega arith

      tail : rank t ≡ length t
      tail = between (rank (x ∷ t)) (rank t) (length t) e (rank-up x t gx) (rank-low M t wt')

      out : contains (closure t) x ≡ false
      out = elim (decide (contains (closure t) x)) as (λ _. contains (closure t) x ≡ false) [
        | inl h ↦ absurd (none (rank (x ∷ t)) (rank t) (length t) e tail (laws.rank_inside t x gx h))
        | inr h ↦ h
      ]
        where
          none : (a b n : ℕ) → a ≡ suc n → b ≡ n → a ≡ b → ⊥
          none a b n e h l = omega arith

      step : ((u : Set) × (s ≡ x ∷ u) × Rises u × Within u t) ⊎ Within s t → ((u : Set) → Rises u → Within u t → rank u ≡ length u) → rank s ≡ length s
      step (inr v) ih = ih s rs v
      step (inl p) ih =
          let clear : contains (closure p.0) x ≡ false = elim (decide (contains (closure p.0) x)) as (λ _. contains (closure p.0) x ≡ false) [
            | inl h ↦ apart_true (contains (closure t) x) (laws.monotone p.0 t p.3 x h) out
            | inr h ↦ h
          ] in
          ap rank p.1 ∙ laws.rank_outside p.0 x gx clear ∙ ap suc (ih p.0 p.2 p.3) ∙ ap length (sym p.1)

  -- ---- flats of one rank less

  module _ (f : Set) (wf : Within f ground) (e : closure f ≡ f) (i : ℕ) (fi : contains f i ≡ true) where
    gi : contains ground i ≡ true
    gi = wf i fi

    -- members of f that leave i free, as many as there can be
    grow : (xs : Set) → Within xs f → (b : Set) × Within b f × (contains (closure b) i ≡ false) × ((x : ℕ) → contains xs x ≡ true → contains (closure (i ∷ b)) x ≡ true)
    grow [] w = ([], (λ j h. clash (sym h)), ap (λ t. contains t i) laws.no_loops, (λ x h. clash (sym h)))
    grow (x ∷ xs) w = step (grow xs (within-tail x xs f w))
      where
        fx : contains f x ≡ true
        fx = w x (head_in x xs)

        step : (b : Set) × Within b f × (contains (closure b) i ≡ false) × ((y : ℕ) → contains xs y ≡ true → contains (closure (i ∷ b)) y ≡ true)
            → (b : Set) × Within b f × (contains (closure b) i ≡ false) × ((y : ℕ) → contains (x ∷ xs) y ≡ true → contains (closure (i ∷ b)) y ≡ true)
        step p = elim (decide (contains (closure (x ∷ p.0)) i)) as (λ _. (b : Set) × Within b f × (contains (closure b) i ≡ false) × ((y : ℕ) → contains (x ∷ xs) y ≡ true → contains (closure (i ∷ b)) y ≡ true)) [
          | inl h ↦ (p.0, p.1, p.2, within-cons x xs (closure (i ∷ p.0)) (exchange p.0 i x (λ j k. wf j (p.1 j k)) gi (wf x fx) p.2 h) p.3)
          | inr h ↦ (
            x ∷ p.0,
            within-cons x p.0 f fx p.1,
            h,
            within-cons x xs (closure (i ∷ x ∷ p.0))
                (laws.extensive (i ∷ x ∷ p.0) (within-cons i (x ∷ p.0) ground gi (within-cons x p.0 ground (wf x fx) (λ j k. wf j (p.1 j k)))) x (or_right (i == x) (contains (x ∷ p.0) x) (head_in x p.0)))
                (λ y k. laws.monotone (i ∷ p.0) (i ∷ x ∷ p.0) (within-both i p.0 (x ∷ p.0) (within-more x p.0 p.0 (λ a b. b))) y (p.3 y k)),
          )
        ]

    -- within a flat with the member i there is a flat of one rank less without i
    pub coatom : (y : Set) × Rises y × (closure y ≡ y) × Within y f × (contains y i ≡ false) × (suc (rank y) ≡ rank f)
    coatom =
        let b = grow f (λ j h. h) in
        let wb : Within b.0 ground = λ j k. wf j (b.1 j k) in
        let wib : Within (i ∷ b.0) ground = within-cons i b.0 ground gi wb in
        let inside : Within (closure b.0) f = λ j k. subst (λ t. contains t j ≡ true) e (laws.monotone b.0 f b.1 j k) in
        let outer : Within (closure (i ∷ b.0)) f = λ j k. subst (λ t. contains t j ≡ true) e (laws.monotone (i ∷ b.0) f (within-cons i b.0 f fi b.1) j k) in
        let whole : closure (i ∷ b.0) ≡ f = rises-same (closure (i ∷ b.0)) f (laws.closure_rises (i ∷ b.0)) (subst Rises e (laws.closure_rises f)) outer b.3 in (
          closure b.0,
          laws.closure_rises b.0,
          closure_closure M b.0,
          inside,
          b.2,
          ap suc (laws.rank_closure b.0 wb) ∙ sym (laws.rank_outside b.0 i gi b.2) ∙ sym (laws.rank_closure (i ∷ b.0) wib) ∙ ap rank whole,
        )

  -- each flat is the closure of a set without broken circuit
  pub nbc-basis : (k : ℕ) (f : Set) → rank f < k → Rises f → Within f ground → closure f ≡ f
      → (u : Set) × Rises u × Within u ground × (is_nbc M u ≡ true) × (closure u ≡ f)
  nbc-basis zero f l rf wf e = absurd (none (rank f) l)
    where
      none : (n : ℕ) → n < 0 → ⊥
      none n l = omega arith
  nbc-basis (suc k) [] l rf wf e = ([], tt, wf, nbc-empty M, e)
  nbc-basis (suc k) (x ∷ f) l rf wf e =
      let y = coatom (x ∷ f) wf e x (head_in x f) in
      step y (nbc-basis k y.0 (less (rank y.0) (rank (x ∷ f)) k y.5 l) y.1 (λ j h. wf j (y.3 j h)) y.2)
    where
      less : (a b k : ℕ) → suc a ≡ b → b < suc k → a < k
      less a b k e l = omega arith

      step : (y : (z : Set) × Rises z × (closure z ≡ z) × Within z (x ∷ f) × (contains z x ≡ false) × (suc (rank z) ≡ rank (x ∷ f)))
          → (u : Set) × Rises u × Within u ground × (is_nbc M u ≡ true) × (closure u ≡ y.0)
          → (u : Set) × Rises u × Within u ground × (is_nbc M u ≡ true) × (closure u ≡ x ∷ f)
      step y u = (x ∷ u.0, rise, wide, nbc-cons M x u.0 rise wide ∙ and_from (is_nbc M u.0) (is_least M x u.0) u.3 low, whole)
        where
          gx : contains ground x ≡ true
          gx = wf x (head_in x f)

          inside : Within u.0 y.0
          inside j h = subst (λ t. contains t j ≡ true) u.4 (laws.extensive u.0 u.2 j h)

          out : contains (closure u.0) x ≡ false
          out = ap (λ t. contains t x) u.4 ∙ y.4

          rise : Rises (x ∷ u.0)
          rise = ((λ j h. apart x j (head_low x f j rf (y.3 j (inside j h))) (λ z. clash (sym (inside j h) ∙ ap (contains y.0) (sym z) ∙ y.4))), u.1)
            where
              apart : (x j : ℕ) → x ≤ j → (x ≡ j → ⊥) → x < j
              apart x j l n = omega arith

          wide : Within (x ∷ u.0) ground
          wide = within-cons x u.0 ground gx u.2

          within : Within (closure (x ∷ u.0)) (x ∷ f)
          within j h = subst (λ t. contains t j ≡ true) e (laws.monotone (x ∷ u.0) (x ∷ f) (within-cons x u.0 (x ∷ f) (head_in x f) (λ p q. y.3 p (inside p q))) j h)

          ranks : rank (closure (x ∷ u.0)) ≡ rank (x ∷ f)
          ranks = laws.rank_closure (x ∷ u.0) wide ∙ laws.rank_outside u.0 x gx out ∙ ap suc (sym (laws.rank_closure u.0 u.2) ∙ ap rank u.4) ∙ y.5

          whole : closure (x ∷ u.0) ≡ x ∷ f
          whole = rises-same (closure (x ∷ u.0)) (x ∷ f) (laws.closure_rises (x ∷ u.0)) rf within (flat-same M (x ∷ u.0) (x ∷ f) wf within ranks)

          low : is_least M x u.0 ≡ true
          low = all-from (λ j. not (nat_lt j x)) (closure (x ∷ u.0)) (λ j h. ap not (le-ltb j x (head_low x f j rf (within j h))))

  -- the Möbius function is not zero at a flat, and has the sign of its rank
  pub mobius-sign : (f : Set) → Rises f → Within f ground → closure f ≡ f → (c : ℕ) × (mobius M f *ℤ sign (rank f) ≡ pos (suc c))
  mobius-sign f rf wf e =
      let u = nbc-basis (suc (rank f)) f (top (rank f)) rf wf e in
      let n = some test sets ((sets_within-listing M.size).has test u.0 u.1 u.2 (and_from (is_nbc M u.0) (same_set (closure u.0) f) u.3 (same_set-from (closure u.0) f u.4))) in
      (n.0, ap (λ z. z *ℤ sign (rank f)) (whitney M f rf wf e) ∙ sign_sign (rank f) (length (filter test sets)) ∙ ap pos n.1)
    where
      top : (n : ℕ) → n < suc n
      top n = omega arith

      test : Set → Bool
      test s = is_nbc M s && same_set (closure s) f

      some : {X : Type 0} (p : X → Bool) (a : List X) → list_any p a ≡ true → (n : ℕ) × (length (filter p a) ≡ suc n)
      some p [] h = clash (sym h)
      some {X} p (x ∷ a) h = pick (p x) refl (some p a)
        where
          pick : (b : Bool) → p x ≡ b → (list_any p a ≡ true → (n : ℕ) × (length (filter p a) ≡ suc n)) → (n : ℕ) × (length (cond b (x ∷ filter p a) (filter p a)) ≡ suc n)
          pick true q ih = (length (filter p a), refl)
          pick false q ih = ih (sym (ap (λ b. b || list_any p a) q) ∙ h)

  -- ---- circuits

  abbrev Dependent : Set → Bool
  Dependent s = is_dependent M s

  abbrev Circuit : Set → Bool
  Circuit s = is_circuit M s

  -- no set properly within a circuit is dependent
  pub circuit-minimal : (c t : Set) → Circuit c ≡ true → Rises t → Within t ground → is_properly_within t c ≡ true → Dependent t ≡ false
  circuit-minimal c t h rt wt p = elim (decide (Dependent t)) as (λ _. Dependent t ≡ false) [
    | inl d ↦ apart_true (list_any test sets) ((sets_within-listing M.size).has test t rt wt (and_from (is_properly_within t c) (Dependent t) p d)) (not_true (list_any test sets) (second_true (Dependent c) (not (list_any test sets)) h))
    | inr d ↦ d
  ]
    where
      test : Set → Bool
      test s = is_properly_within s c && Dependent s

  -- each member of a circuit lies in the closure of the others
  pub circuit-closure : (c : Set) (x : ℕ) → Circuit c ≡ true → Rises c → Within c ground → contains c x ≡ true → contains (closure (remove x c)) x ≡ true
  circuit-closure c x h rc wc cx = elim (decide (contains (closure rest) x)) as (λ _. contains (closure rest) x ≡ true) [
    | inl g ↦ g
    | inr g ↦ absurd (none (rank c) (length c) (length rest) (rank (x ∷ rest)) (rank rest)
        (ltb-true (rank c) (length c) (first_true (Dependent c) (not (list_any (λ t. is_properly_within t c && Dependent t) sets)) h))
        (remove-length x c cx)
        (rank-members M c (x ∷ rest) wc (within-cons x rest ground (wc x cx) wr) (remove-back x c) (within-cons x rest c cx (remove-within x c)))
        (laws.rank_outside rest x (wc x cx) g)
        (ltb-false (rank rest) (length rest) (circuit-minimal c rest h (remove-rises x c rc) wr proper)))
  ]
    where
      rest : Set
      rest = remove x c

      wr : Within rest ground
      wr i k = wc i (remove-within x c i k)

      proper : is_properly_within rest c ≡ true
      proper = and_from (is_within rest c) (not (is_within c rest)) (is_within-from rest c (remove-within x c))
          (elim (decide (is_within c rest)) as (λ _. not (is_within c rest) ≡ true) [
            | inl q ↦ absurd (remove-gone x c rc (is_within-to c rest q x cx))
            | inr q ↦ ap not q
          ])

      none : (a n k b d : ℕ) → a < n → n ≡ suc k → a ≡ b → b ≡ suc d → k ≤ d → ⊥
      none a n k b d p q r s t = omega arith

  -- circuit elimination: what two circuits have beside a common member is dependent
  pub elimination : (c d : Set) (e : ℕ) → Circuit c ≡ true → Circuit d ≡ true → Rises c → Rises d → Within c ground → Within d ground → c ≢ d
      → contains c e ≡ true → contains d e ≡ true → (t : Set) → Rises t → Within t ground
      → ((i : ℕ) → contains c i ≡ true → (e ≡ i → ⊥) → contains t i ≡ true) → ((i : ℕ) → contains d i ≡ true → (e ≡ i → ⊥) → contains t i ≡ true)
      → Dependent t ≡ true
  elimination c d e hc hd rc rd wc wd apart ce de t rt wt tc td = at (all-fails (contains d) c (outside (is_within c d) refl))
    where
      outside : (b : Bool) → is_within c d ≡ b → is_within c d ≡ false
      outside false p = p
      outside true p = elim (decide (is_within d c)) as (λ _. is_within c d ≡ false) [
        | inl q ↦ absurd (apart (rises-same c d rc rd (is_within-to c d p) (is_within-to d c q)))
        | inr q ↦ apart_true (Dependent c) (first_true (Dependent c) (not (list_any (λ s. is_properly_within s c && Dependent s) sets)) hc)
            (circuit-minimal d c hd rc wc (and_from (is_within c d) (not (is_within d c)) p (ap not q)))
      ]

      at : (g : ℕ) × (contains c g ≡ true) × (contains d g ≡ false) → Dependent t ≡ true
      at p = lt-ltb (rank t) (length t) (below (rank t) (rank (g ∷ rest)) (rank rest) (length rest) (length t)
          (rank-members M t (g ∷ rest) wt (within-cons g rest ground (wc g p.1) wr) (remove-back g t) (within-cons g rest t tg (remove-within g t)))
          (laws.rank_inside rest g (wc g p.1) inside) (rank-low M rest wr) (remove-length g t tg))
        where
          g : ℕ
          g = p.0

          tg : contains t g ≡ true
          tg = tc g p.1 (λ z. clash (sym (ap (contains d) (sym z) ∙ de) ∙ p.2))

          rest : Set
          rest = remove g t

          wr : Within rest ground
          wr i k = wt i (remove-within g t i k)

          gone : (i : ℕ) → contains (remove e d) i ≡ true → e ≡ i → ⊥
          gone i k z = remove-gone e d rd (ap (contains (remove e d)) z ∙ k)

          in_rest : (i : ℕ) → contains d i ≡ true → (e ≡ i → ⊥) → contains rest i ≡ true
          in_rest i k n = remove-keeps g t i (td i k n) (λ z. clash (sym k ∙ ap (contains d) (sym z) ∙ p.2))

          has_e : contains (closure rest) e ≡ true
          has_e = laws.monotone (remove e d) rest (λ i k. in_rest i (remove-within e d i k) (gone i k)) e (circuit-closure d e hd rd wd de)

          others : Within (remove g c) (closure rest)
          others i k = elim (decide (e == i)) as (λ _. contains (closure rest) i ≡ true) [
            | inl z ↦ ap (contains (closure rest)) (sym (eqb-true e i z)) ∙ has_e
            | inr z ↦ laws.extensive rest wr i (remove-keeps g t i (tc i (remove-within g c i k) (λ q. clash (sym (eq-eqb e i q) ∙ z))) (λ q. remove-gone g c rc (ap (contains (remove g c)) q ∙ k)))
          ]

          inside : contains (closure rest) g ≡ true
          inside = least M (remove g c) rest others g (circuit-closure c g hc rc wc p.1)

          below : (a b r n k : ℕ) → a ≡ b → b ≡ r → r ≤ n → k ≡ suc n → a < k
          below a b r n k x y z w = omega arith
