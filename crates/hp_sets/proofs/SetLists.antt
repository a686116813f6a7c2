-- The list of all sets within 1 to n: it has each of them, and rises.
use Rattle.std.specs.Prelude.{◌≡◌, ◌↔◌, ℕ, zero, suc, ◌+◌, ◌<◌, ◌≤◌, ◌==◌, Bool, true, false, cond, List, [], ◌∷◌, ◌++◌, map, length, Contains, ◌⊎◌}
use Rattle.std.specs.List.{range_with_len}
use Rattle.std.specs.List.Sorted.{IsStrictlySortedBy}
use Rattle.std.specs.declared.cmp.Ordering.TheVariants.{Less, Equal, Greater}
use Rattle.std.specs.Ordering.{nat_cmp, ordering_then}
use Rattle.std.specs.Cmp.Lexicographic.{slice_cmp}
use Rattle.std.proofs.lemmas.List.Elements.{All-contains, Contains-append_left, Contains-append_right, Contains-append_cases, Contains-get_or}
use Rattle.std.proofs.lemmas.Bool.{eqb-true, eqb-false, eq-eqb, lt-ltb, le-ltb}
use mathlib.Core.Logic.{inl, inr}
use mathlib.Core.Path.{refl, sym, ap, ◌∙◌, subst}
use native.Mathlib.Omega.{arith}
use Rattle.hp_lists.specs.Lists.{one_to, sublists_of_length, Ordered}
use Rattle.hp_sets.specs.Sets.{Set, IsSetWithin, cmp_listed, sets_of_at_most, sets_within}
use Rattle.hp_lists.proofs.Members.{Contains-here, Contains-later, Contains-cases, Contains-none, Contains-map, map-Contains}
use Rattle.hp_lists.proofs.Ordered.{Ordered-append, Rises, rises_of, increasing_of, sorted_of}

-- ---- rising lists within a range

-- each member is from a up to below b
abbrev pub IsFrom : ℕ → ℕ → List ℕ → Type 0
IsFrom a b s = (i : ℕ) → Contains s i → (a ≤ i) × (i < b)

-- such a list has at most b - a members
pub rising-length : (s : List ℕ) (a b : ℕ) → a ≤ b → Rises s → IsFrom a b s → a + length s ≤ b
rising-length [] a b h p f = omega arith
rising-length (x ∷ s) a b h p f =
    let l = f x (Contains-here x s) in
    let r = rising-length s (x + 1) b (next x b l.1) p.1 (λ i c. (next x i (p.0 i c), (f i (Contains-later x s i c)).1)) in
    omega arith
  where
    next : (x b : ℕ) → x < b → x + 1 ≤ b
    next x b l = omega arith

-- ---- the sublists of a range

pub sublists-have : (n a : ℕ) (s : List ℕ) → Rises s → IsFrom a (a + n) s → Contains (sublists_of_length (length s) (range_with_len a n)) s
sublists-have n a [] p f = Contains-here [] []
sublists-have zero a (x ∷ s) p f = absurd (none x a (f x (Contains-here x s)))
  where
    none : (x a : ℕ) → (a ≤ x) × (x < a + 0) → ⊥
    none x a h = omega arith
sublists-have (suc n) a (x ∷ s) p f = step (a == x) refl (sublists-have n (a + 1) s p.1) (sublists-have n (a + 1) (x ∷ s) p)
  where
    R : List ℕ
    R = range_with_len (a + 1) n

    move : (i : ℕ) → i < a + suc n → i < (a + 1) + n
    move i l = omega arith

    over : (i : ℕ) → x < i → a ≤ x → a + 1 ≤ i
    over i l m = omega arith

    step : (b : Bool) → (a == x) ≡ b → (IsFrom (a + 1) ((a + 1) + n) s → Contains (sublists_of_length (length s) R) s)
        → (IsFrom (a + 1) ((a + 1) + n) (x ∷ s) → Contains (sublists_of_length (suc (length s)) R) (x ∷ s))
        → Contains (map (λ t. a ∷ t) (sublists_of_length (length s) R) ++ sublists_of_length (suc (length s)) R) (x ∷ s)
    step true e with_it without =
        Contains-append_left (map (λ t. a ∷ t) (sublists_of_length (length s) R)) _ (x ∷ s)
        (subst (λ z. Contains (map (λ t. a ∷ t) (sublists_of_length (length s) R)) (z ∷ s)) (eqb-true a x e)
        (Contains-map (λ t. a ∷ t) (sublists_of_length (length s) R) s
        (with_it (λ i c. (over i (p.0 i c) (f x (Contains-here x s)).0, move i (f i (Contains-later x s i c)).1)))))
    step false e with_it without =
        Contains-append_right (map (λ t. a ∷ t) (sublists_of_length (length s) R)) _ (x ∷ s)
        (without (λ i c. (later i (Contains-cases x s i c), move i (f i c).1)))
      where
        above : (a ≡ x → ⊥) → a ≤ x → a + 1 ≤ x
        above n h = omega arith

        later : (i : ℕ) → (x ≡ i) ⊎ Contains s i → a + 1 ≤ i
        later i (inl q) = subst (λ z. a + 1 ≤ z) q (above (eqb-false a x e) (f x (Contains-here x s)).0)
        later i (inr c) = over i (p.0 i c) (f x (Contains-here x s)).0

-- what is a sublist of a range
pub record IsSublist (k a b : ℕ) (s : List ℕ) : Type 0 where
  pub size : length s ≡ k
  pub rises : Rises s
  pub from : IsFrom a b s

pub sublists-are : (n a k : ℕ) (s : List ℕ) → Contains (sublists_of_length k (range_with_len a n)) s → IsSublist k a (a + n) s
sublists-are n a zero s c = empty s (Contains-cases [] [] s (first n c))
  where
    first : (n : ℕ) → Contains (sublists_of_length zero (range_with_len a n)) s → Contains ([] ∷ []) s
    first zero c = c
    first (suc n) c = c

    empty : (s : List ℕ) → ([] ≡ s) ⊎ Contains [] s → IsSublist 0 a (a + n) s
    empty s (inr d) = absurd (Contains-none s d)
    empty s (inl e) = subst (IsSublist 0 a (a + n)) e record { size = refl; rises = tt; from = λ i d. absurd (Contains-none i d) }
sublists-are zero a (suc k) s c = absurd (Contains-none s c)
sublists-are (suc n) a (suc k) s c =
    step (sublists-are n (a + 1) k) (sublists-are n (a + 1) (suc k)) (Contains-append_cases (map (λ t. a ∷ t) (sublists_of_length k (range_with_len (a + 1) n))) _ s c)
  where
    R : List ℕ
    R = range_with_len (a + 1) n

    back : (i : ℕ) → (a + 1 ≤ i) × (i < (a + 1) + n) → (a ≤ i) × (i < a + suc n)
    back i h = omega arith

    up : (i : ℕ) → (a + 1 ≤ i) × (i < (a + 1) + n) → a < i
    up i h = omega arith

    first : (a ≤ a) × (a < a + suc n)
    first = omega arith

    step : ((s : List ℕ) → Contains (sublists_of_length k R) s → IsSublist k (a + 1) ((a + 1) + n) s) → ((s : List ℕ) → Contains (sublists_of_length (suc k) R) s → IsSublist (suc k) (a + 1) ((a + 1) + n) s)
        → Contains (map (λ t. a ∷ t) (sublists_of_length k R)) s ⊎ Contains (sublists_of_length (suc k) R) s → IsSublist (suc k) a (a + suc n) s
    step ih jh (inr d) = let r = jh s d in record { size = r.size; rises = r.rises; from = λ i e. back i (r.from i e) }
    step ih jh (inl d) =
        let m = map-Contains (λ t. a ∷ t) (sublists_of_length k R) s d in
        let r = ih m.0 m.1 in
        subst (IsSublist (suc k) a (a + suc n)) m.2 record { size = ap (λ j. suc j) r.size; rises = ((λ i e. up i (r.from i e)), r.rises); from = λ i e. at m.0 i (Contains-cases a m.0 i e) (r.from i) }
      where
        at : (t : List ℕ) (i : ℕ) → (a ≡ i) ⊎ Contains t i → (Contains t i → (a + 1 ≤ i) × (i < (a + 1) + n)) → (a ≤ i) × (i < a + suc n)
        at t i (inl q) g = subst (λ z. (a ≤ z) × (z < a + suc n)) q first
        at t i (inr e) g = back i (g e)

-- ---- all sets

at_most-have : (n k : ℕ) (s : Set) → length s ≤ k → Contains (sublists_of_length (length s) (one_to n)) s → Contains (sets_of_at_most n k) s
at_most-have n zero s l c = subst (λ m. Contains (sublists_of_length m (one_to n)) s) (none (length s) l) c
  where
    none : (m : ℕ) → m ≤ 0 → m ≡ 0
    none m l = omega arith
at_most-have n (suc k) s l c = step (length s == suc k) refl (at_most-have n k s)
  where
    step : (b : Bool) → (length s == suc k) ≡ b → (length s ≤ k → Contains (sublists_of_length (length s) (one_to n)) s → Contains (sets_of_at_most n k) s) → Contains (sets_of_at_most n (suc k)) s
    step true e ih = Contains-append_right (sets_of_at_most n k) _ s (subst (λ m. Contains (sublists_of_length m (one_to n)) s) (eqb-true (length s) (suc k) e) c)
    step false e ih = Contains-append_left (sets_of_at_most n k) _ s (ih (less (length s) l (eqb-false (length s) (suc k) e)) c)
      where
        less : (m : ℕ) → m ≤ suc k → (m ≡ suc k → ⊥) → m ≤ k
        less m l n = omega arith

pub record IsListed (n k : ℕ) (s : Set) : Type 0 where
  pub size : length s ≤ k
  pub rises : Rises s
  pub from : IsFrom 1 (1 + n) s

at_most-are : (n k : ℕ) (s : Set) → Contains (sets_of_at_most n k) s → IsListed n k s
at_most-are n zero s c = let r = sublists-are n 1 0 s c in record { size = small (length s) r.size; rises = r.rises; from = r.from }
  where
    small : (m : ℕ) → m ≡ 0 → m ≤ 0
    small m e = omega arith
at_most-are n (suc k) s c = step (at_most-are n k s) (Contains-append_cases (sets_of_at_most n k) _ s c)
  where
    more : (m : ℕ) → m ≤ k → m ≤ suc k
    more m l = omega arith

    same : (m : ℕ) → m ≡ suc k → m ≤ suc k
    same m e = omega arith

    step : (Contains (sets_of_at_most n k) s → IsListed n k s) → Contains (sets_of_at_most n k) s ⊎ Contains (sublists_of_length (suc k) (one_to n)) s → IsListed n (suc k) s
    step ih (inl d) = let r = ih d in record { size = more (length s) r.size; rises = r.rises; from = r.from }
    step ih (inr d) = let r = sublists-are n 1 (suc k) s d in record { size = same (length s) r.size; rises = r.rises; from = r.from }

-- the list of the sets within 1 to n has each of them, and nothing else
pub sets-complete : (n : ℕ) (s : Set) → Contains (sets_within n) s ↔ IsSetWithin n s
unfolding sets_within
sets-complete n s = (
  (λ c. let r = at_most-are n n s c in record { rising = increasing_of s r.rises; members = λ k d l. under _ (r.from _ (Contains-get_or s k d l)) }),
  λ h.
      let p = rises_of s h.rising in
      let f : IsFrom 1 (1 + n) s = λ i c. over i (All-contains (λ i. (1 ≤ i) × (i ≤ n)) s i h.members c) in
      at_most-have n n s (short (length s) (rising-length s 1 (1 + n) (low n) p f)) (sublists-have n 1 s p f),
)
  where
    under : (i : ℕ) → (1 ≤ i) × (i < 1 + n) → (1 ≤ i) × (i ≤ n)
    under i h = omega arith

    over : (i : ℕ) → (1 ≤ i) × (i ≤ n) → (1 ≤ i) × (i < 1 + n)
    over i h = omega arith

    low : (n : ℕ) → 1 ≤ 1 + n
    low n = omega arith

    short : (m : ℕ) → 1 + m ≤ 1 + n → m ≤ n
    short m l = omega arith

-- ---- the order of the list

pub nat_less : (a b : ℕ) → a < b → nat_cmp a b ≡ Less
nat_less a b l = ap (λ c. cond c Less (cond (a == b) Equal Greater)) (lt-ltb a b l)

pub nat_same : (a b : ℕ) → a ≡ b → nat_cmp a b ≡ Equal
nat_same a b e = ap (λ c. cond c Less (cond (a == b) Equal Greater)) (le-ltb a b (back a b e)) ∙ ap (λ c. cond c Equal Greater) (eq-eqb a b e)
  where
    back : (a b : ℕ) → a ≡ b → b ≤ a
    back a b e = omega arith

abbrev pub IsBefore : List ℕ → List ℕ → Type 0
IsBefore s t = slice_cmp nat_cmp s t ≡ Less

abbrev pub IsListedBefore : Set → Set → Type 0
IsListedBefore s t = cmp_listed s t ≡ Less

Ordered-map : (a : ℕ) (ls : List (List ℕ)) → Ordered IsBefore ls → Ordered IsBefore (map (λ t. a ∷ t) ls)
Ordered-map a [] p = tt
Ordered-map a (t ∷ ls) p = (
  (λ y c.
      let m = map-Contains (λ t. a ∷ t) ls y c in
      subst (λ z. IsBefore (a ∷ t) z) m.2 (ap (λ o. ordering_then o (slice_cmp nat_cmp t m.0)) (nat_same a a refl) ∙ p.0 m.0 m.1)),
  Ordered-map a ls p.1,
)

pub sublists-rise : (n a k : ℕ) → Ordered IsBefore (sublists_of_length k (range_with_len a n))
sublists-rise zero a zero = ((λ y c. absurd (Contains-none y c)), tt)
sublists-rise (suc n) a zero = ((λ y c. absurd (Contains-none y c)), tt)
sublists-rise zero a (suc k) = tt
sublists-rise (suc n) a (suc k) =
    Ordered-append IsBefore (map (λ t. a ∷ t) (sublists_of_length k (range_with_len (a + 1) n))) _ (Ordered-map a _ (sublists-rise n (a + 1) k)) (sublists-rise n (a + 1) (suc k))
    (λ s t c d.
    let m = map-Contains (λ t. a ∷ t) (sublists_of_length k (range_with_len (a + 1) n)) s c in
    subst (λ z. IsBefore z t) m.2 (before m.0 t (sublists-are n (a + 1) (suc k) t d)))
  where
    before : (s t : List ℕ) → IsSublist (suc k) (a + 1) ((a + 1) + n) t → IsBefore (a ∷ s) t
    before s [] h = absurd (none k h.size)
      where
        none : (k : ℕ) → 0 ≡ suc k → ⊥
        none k e = omega arith
    before s (y ∷ t) h = ap (λ o. ordering_then o (slice_cmp nat_cmp s t)) (nat_less a y (over y (h.from y (Contains-here y t)).0))
      where
        over : (y : ℕ) → a + 1 ≤ y → a < y
        over y l = omega arith

-- lists of one length
Ordered-listed : (k : ℕ) (ls : List Set) → ((s : Set) → Contains ls s → length s ≡ k) → Ordered IsBefore ls → Ordered IsListedBefore ls
Ordered-listed k [] h p = tt
Ordered-listed k (s ∷ ls) h p = (
  (λ y c.
      let e = nat_same (length s) (length y) (h s (Contains-here s ls) ∙ sym (h y (Contains-later s ls y c))) in
      ap (λ o. ordering_then o (slice_cmp nat_cmp s y)) e ∙ p.0 y c),
  Ordered-listed k ls (λ y c. h y (Contains-later s ls y c)) p.1,
)

at_most-rise : (n k : ℕ) → Ordered IsListedBefore (sets_of_at_most n k)
at_most-rise n zero = Ordered-listed 0 (sublists_of_length 0 (one_to n)) (λ s c. (sublists-are n 1 0 s c).size) (sublists-rise n 1 0)
at_most-rise n (suc k) =
    Ordered-append IsListedBefore (sets_of_at_most n k) _ (at_most-rise n k) (Ordered-listed (suc k) _ (λ s c. (sublists-are n 1 (suc k) s c).size) (sublists-rise n 1 (suc k)))
    (λ s t c d. ap (λ o. ordering_then o (slice_cmp nat_cmp s t)) (nat_less (length s) (length t) (below_it _ _ (at_most-are n k s c).size (sublists-are n 1 (suc k) t d).size)))
  where
    below_it : (a b : ℕ) → a ≤ k → b ≡ suc k → a < b
    below_it a b l e = omega arith

-- the sets are listed in order, each once
pub sets-rise : (n : ℕ) → Ordered IsListedBefore (sets_within n)
unfolding sets_within
sets-rise n = at_most-rise n n

pub sets_within-sorted : (n : ℕ) → IsStrictlySortedBy cmp_listed (sets_within n)
sets_within-sorted n = sorted_of cmp_listed (sets_within n) (sets-rise n)
