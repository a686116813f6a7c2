-- Sets without broken circuit: they are those for which no number of the ground set is active, and they are independent.
use Rattle.std.specs.Prelude.{[], ◌≡◌, ℕ, zero, suc, ◌<◌, ◌≤◌, ◌==◌, Bool, true, false, cond, not, ◌&&◌, ◌||◌, List, ◌∷◌, map, length, filter, drop, ◌⊎◌}
use Rattle.std.specs.List.{list_any, list_all}
use Rattle.std.specs.Cmp.{both_ways}
use Rattle.std.proofs.lemmas.Bool.{ltb-true, ltb-false, lt-ltb, and_from}
use mathlib.Core.Logic.{inl, inr}
use mathlib.Core.Path.{refl, sym, ap, ◌∙◌}
use native.Mathlib.Omega.{arith}
use Rattle.hp_lists.specs.Lists.{one_to}
use Rattle.hp_lists.proofs.Members.{first_true, second_true}
use Rattle.hp_sets.specs.Sets.{Set, contains, is_within, is_properly_within, sets_within}
use Rattle.hp_matroid.specs.Matroids.{Rises, Within, is_dependent, is_circuit, is_nbc, Matroid}
use Rattle.hp_matroid.proofs.Subsets.{or_right, not_true, decide, apart_true, head_in, within-tail, within-cons, within-more}
use Rattle.hp_matroid.proofs.RisingLists.{smaller, is_within-from, is_within-to, all-at, all-from, above, above-low, above-head, above-over, above-within, in_above, above-rises, tail-within}
use Rattle.hp_matroid.proofs.Listing.{sets_within-listing}

-- a test on the images of those that pass another
any-map-filter : {X Y : Type 0} (f : Y → Bool) (g : X → Y) (p : X → Bool) (a : List X) → list_any f (map g (filter p a)) ≡ list_any (λ x. p x && f (g x)) a
any-map-filter f g p [] = refl
any-map-filter {X} f g p (x ∷ a) = step (p x) (any-map-filter f g p a)
  where
    step : (b : Bool) → list_any f (map g (filter p a)) ≡ list_any (λ y. p y && f (g y)) a
        → list_any f (map g (cond b (x ∷ filter p a) (filter p a))) ≡ ((b && f (g x)) || list_any (λ y. p y && f (g y)) a)
    step true e = ap (λ b. f (g x) || b) e
    step false e = e

-- e is active for s where it lies in the closure of the members of s above it
abbrev pub is_active : (Set → Set) → Set → ℕ → Bool
is_active closure s e = contains (closure (above e s)) e

-- no number of xs is active for s
abbrev pub is_quiet : (Set → Set) → Set → Set → Bool
is_quiet closure xs s = list_all (λ e. not (is_active closure s e)) xs

module _ (M : Matroid) where
  open M use {closure, rank, laws}

  abbrev ground : Set
  ground = one_to M.size

  abbrev sets : List Set
  sets = sets_within M.size

  -- the rank is at most the size
  pub rank-low : (s : Set) → Within s ground → rank s ≤ length s
  rank-low [] w = zero_low (rank []) laws.rank_empty
    where
      zero_low : (n : ℕ) → n ≡ 0 → n ≤ 0
      zero_low n e = omega arith
  rank-low (x ∷ s) w = step (decide (contains (closure s) x)) (rank-low s (within-tail x s ground w))
    where
      keep : (a b n : ℕ) → a ≡ b → b ≤ n → a ≤ suc n
      keep a b n e l = omega arith

      more : (a b n : ℕ) → a ≡ suc b → b ≤ n → a ≤ suc n
      more a b n e l = omega arith

      step : (contains (closure s) x ≡ true) ⊎ (contains (closure s) x ≡ false) → rank s ≤ length s → rank (x ∷ s) ≤ suc (length s)
      step (inl h) l = keep (rank (x ∷ s)) (rank s) (length s) (laws.rank_inside s x (w x (head_in x s)) h) l
      step (inr h) l = more (rank (x ∷ s)) (rank s) (length s) (laws.rank_outside s x (w x (head_in x s)) h) l

  -- a rising list none of whose members is active has its size as its rank
  pub free-rank : (s : Set) → Rises s → Within s ground → ((e : ℕ) → contains s e ≡ true → is_active closure s e ≡ false) → rank s ≡ length s
  free-rank [] r w h = laws.rank_empty
  free-rank (x ∷ s) r w h =
      laws.rank_outside s x (w x (head_in x s)) (ap (λ t. contains (closure t) x) (sym (above-head x s r)) ∙ h x (head_in x s))
      ∙ ap suc (free-rank s r.1 (within-tail x s ground w) (λ e k. ap (λ t. contains (closure t) e) (sym (above-low e x s (low x e (r.0 e k)))) ∙ h e (or_right (x == e) (contains s e) k)))
    where
      low : (x e : ℕ) → x < e → x ≤ e
      low x e l = omega arith

  pub quiet-rank : (s : Set) → Rises s → Within s ground → is_quiet closure ground s ≡ true → rank s ≡ length s
  quiet-rank s r w h = free-rank s r w (λ e k. not_true (is_active closure s e) (all-at (λ i. not (is_active closure s i)) ground e h (w e k)))

  abbrev Dependent : Set → Bool
  Dependent s = is_dependent M s

  abbrev Circuit : Set → Bool
  Circuit s = is_circuit M s

  abbrev smaller_dependent : Set → Set → Bool
  smaller_dependent s t = is_properly_within t s && Dependent t

  properly-first : (t s : Set) → is_properly_within t s ≡ true → Within t s
  properly-first t s h = is_within-to t s (first_true (is_within t s) (not (is_within s t)) h)

  properly-second : (t s : Set) → is_properly_within t s ≡ true → is_within s t ≡ false
  properly-second t s h = not_true (is_within s t) (second_true (is_within t s) (not (is_within s t)) h)

  -- a dependent set contains a circuit
  pub circuit_in : (b : ℕ) (s : Set) → length s < b → Rises s → Within s ground → Dependent s ≡ true → (c : Set) × Rises c × Within c s × (Circuit c ≡ true)
  circuit_in zero s l r w d = absurd (none (length s) l)
    where
      none : (n : ℕ) → n < 0 → ⊥
      none n l = omega arith
  circuit_in (suc b) s l r w d = step (decide (list_any (smaller_dependent s) sets)) (circuit_in b)
    where
      less : (a c b : ℕ) → a < c → c < suc b → a < b
      less a c b h l = omega arith

      step : (list_any (smaller_dependent s) sets ≡ true) ⊎ (list_any (smaller_dependent s) sets ≡ false)
          → ((t : Set) → length t < b → Rises t → Within t ground → Dependent t ≡ true → (c : Set) × Rises c × Within c t × (Circuit c ≡ true))
          → (c : Set) × Rises c × Within c s × (Circuit c ≡ true)
      step (inr h) ih = (s, r, (λ i e. e), and_from (Dependent s) (not (list_any (smaller_dependent s) sets)) d (ap not h))
      step (inl h) ih =
          let t = (sets_within-listing M.size).only (smaller_dependent s) h in
          let p : is_properly_within t.0 s ≡ true = first_true (is_properly_within t.0 s) (Dependent t.0) t.3 in
          let small : length t.0 < length s = elim (smaller t.0 s t.1 r (properly-first t.0 s p)) as (λ _. length t.0 < length s) [
            | inl k ↦ k
            | inr k ↦ apart_true (is_within s t.0) (is_within-from s t.0 k) (properly-second t.0 s p)
          ] in
          let c = ih t.0 (less (length t.0) (length s) b small l) t.1 t.2 (second_true (is_properly_within t.0 s) (Dependent t.0) t.3) in
          (c.0, c.1, (λ i e. properly-first t.0 s p i (c.2 i e)), c.3)

  empty_free : Dependent [] ≡ true → ⊥
  empty_free h = none (rank []) (ltb-true (rank []) 0 h)
    where
      none : (n : ℕ) → n < 0 → ⊥
      none n l = omega arith

  abbrev has_broken : Set → Bool
  has_broken s = list_any (λ c. Circuit c && is_within (drop 1 c) s) sets

  nbc-broken : (s : Set) → is_nbc M s ≡ not (has_broken s)
  nbc-broken s = ap not (any-map-filter (λ b. is_within b s) (drop 1) Circuit sets)

  -- what is active closes a broken circuit
  active-broken : (s : Set) (e : ℕ) → Rises s → Within s ground → contains ground e ≡ true → is_active closure s e ≡ true → has_broken s ≡ true
  active-broken s e r w g a =
      found (circuit_in (suc (suc (length u))) (e ∷ u) (more (length u)) ru wu dependent)
    where
      u : Set
      u = above e s

      more : (n : ℕ) → suc n < suc (suc n)
      more n = omega arith

      ru : Rises (e ∷ u)
      ru = (above-over e s, above-rises e s r)

      wu : Within (e ∷ u) ground
      wu = within-cons e u ground g (λ i h. w i (above-within e s i h))

      below : (a b n : ℕ) → a ≡ b → b ≤ n → a < suc n
      below a b n e l = omega arith

      dependent : Dependent (e ∷ u) ≡ true
      dependent = lt-ltb (rank (e ∷ u)) (length (e ∷ u)) (below (rank (e ∷ u)) (rank u) (length u) (laws.rank_inside u e g a) (rank-low u (λ i h. w i (above-within e s i h))))

      found : (c : Set) × Rises c × Within c (e ∷ u) × (Circuit c ≡ true) → has_broken s ≡ true
      found ([], rc, wc, h) = absurd (empty_free (first_true (Dependent []) (not (list_any (smaller_dependent []) sets)) h))
      found (y ∷ c, rc, wc, h) = (sets_within-listing M.size).has (λ d. Circuit d && is_within (drop 1 d) s) (y ∷ c) rc (λ i k. wu i (wc i k))
          (and_from (Circuit (y ∷ c)) (is_within c s) h (is_within-from c s (λ i k. above-within e s i (tail-within y e c u rc ru wc i k))))

  -- a broken circuit makes its missing member active
  broken-active : (s : Set) → Rises s → Within s ground → has_broken s ≡ true → (e : ℕ) × (contains ground e ≡ true) × (is_active closure s e ≡ true)
  broken-active s r w h = at ((sets_within-listing M.size).only (λ d. Circuit d && is_within (drop 1 d) s) h)
    where
      at : (c : Set) × Rises c × Within c ground × ((Circuit c && is_within (drop 1 c) s) ≡ true) → (e : ℕ) × (contains ground e ≡ true) × (is_active closure s e ≡ true)
      at ([], rc, wc, k) = absurd (empty_free (first_true (Dependent []) (not (list_any (smaller_dependent []) sets)) (first_true (Circuit []) (is_within [] s) k)))
      at (y ∷ c, rc, wc, k) = (y, wc y (head_in y c), laws.monotone c (above y s) (λ i q. in_above y s i (is_within-to c s (second_true (Circuit (y ∷ c)) (is_within c s) k) i q) (rc.0 i q)) y inside)
        where
          circuit : Circuit (y ∷ c) ≡ true
          circuit = first_true (Circuit (y ∷ c)) (is_within c s) k

          wc' : Within c ground
          wc' = within-tail y c ground wc

          proper : is_properly_within c (y ∷ c) ≡ true
          proper = and_from (is_within c (y ∷ c)) (not (is_within (y ∷ c) c)) (is_within-from c (y ∷ c) (within-more y c c (λ i q. q)))
              (elim (decide (is_within (y ∷ c) c)) as (λ _. not (is_within (y ∷ c) c) ≡ true) [
                | inl q ↦ absurd (irreflexive y (rc.0 y (is_within-to (y ∷ c) c q y (head_in y c))))
                | inr q ↦ ap not q
              ])
            where
              irreflexive : (x : ℕ) → x < x → ⊥
              irreflexive x l = omega arith

          free : Dependent c ≡ false
          free = elim (decide (Dependent c)) as (λ _. Dependent c ≡ false) [
            | inl q ↦ apart_true (list_any (smaller_dependent (y ∷ c)) sets)
                ((sets_within-listing M.size).has (smaller_dependent (y ∷ c)) c rc.1 wc' (and_from (is_properly_within c (y ∷ c)) (Dependent c) proper q))
                (not_true (list_any (smaller_dependent (y ∷ c)) sets) (second_true (Dependent (y ∷ c)) (not (list_any (smaller_dependent (y ∷ c)) sets)) circuit))
            | inr q ↦ q
          ]

          inside : contains (closure c) y ≡ true
          inside = elim (decide (contains (closure c) y)) as (λ _. contains (closure c) y ≡ true) [
            | inl q ↦ q
            | inr q ↦ absurd (none (rank (y ∷ c)) (rank c) (length c) (laws.rank_outside c y (wc y (head_in y c)) q)
                (ltb-true (rank (y ∷ c)) (length (y ∷ c)) (first_true (Dependent (y ∷ c)) (not (list_any (smaller_dependent (y ∷ c)) sets)) circuit))
                (ltb-false (rank c) (length c) free))
          ]
            where
              none : (a b n : ℕ) → a ≡ suc b → a < suc n → n ≤ b → ⊥
              none a b n e l k = omega arith

  -- a set contains no broken circuit exactly where no number of the ground set is active for it
  pub nbc-quiet : (s : Set) → Rises s → Within s ground → is_nbc M s ≡ is_quiet closure ground s
  nbc-quiet s r w = nbc-broken s ∙ both_ways (not (has_broken s)) (is_quiet closure ground s)
      (λ h. all-from (λ e. not (is_active closure s e)) ground (λ e g. elim (decide (is_active closure s e)) as (λ _. not (is_active closure s e) ≡ true) [
        | inl a ↦ apart_true (has_broken s) (active-broken s e r w g a) (not_true (has_broken s) h)
        | inr a ↦ ap not a
      ]))
      (λ h. elim (decide (has_broken s)) as (λ _. not (has_broken s) ≡ true) [
        | inl b ↦ let a = broken-active s r w b in apart_true (is_active closure s a.0) a.2 (not_true (is_active closure s a.0) (all-at (λ e. not (is_active closure s e)) ground a.0 h a.1))
        | inr b ↦ ap not b
      ])

  -- a set without broken circuit is independent
  pub nbc-rank : (s : Set) → Rises s → Within s ground → is_nbc M s ≡ true → rank s ≡ length s
  nbc-rank s r w h = quiet-rank s r w (sym (nbc-quiet s r w) ∙ h)
