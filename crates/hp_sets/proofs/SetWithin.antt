-- A set within another, and what one of two sets has alone.
use Rattle.std.specs.Prelude.{◌≡◌, ◌↔◌, ℕ, suc, ◌<◌, ◌≤◌, Bool, true, false, not, ◌&&◌, [], ◌∷◌, length, Contains, ◌⊎◌}
use Rattle.std.proofs.lemmas.Bool.{cases_Bool, cases_eq, cases_lt, and_parts, not_from_true}
use mathlib.Core.Logic.{inl, inr}
use mathlib.Core.Path.{refl, sym, ap, ◌∙◌, subst}
use native.Mathlib.Omega.{arith}
use Rattle.hp_lists.proofs.Members.{not_both, Contains-here, Contains-later, Contains-cases, Contains-none, all-at, all-from}
use Rattle.hp_lists.proofs.Ordered.{Rises, rises_of}
use Rattle.hp_sets.specs.Sets.{Set, IsSetWithin, contains, minus, without_member, is_within, is_properly_within}
use Rattle.hp_sets.proofs.SetLaws.{contains-Contains, Contains-contains, test-ext, set-ext, those-set}
use Rattle.hp_sets.proofs.SetMembers.{without-members, members-without, minus-members, members-minus}

-- ---- the test of being within says what it should

pub is_within-members : (s t : Set) (i : ℕ) → is_within s t ≡ true → Contains s i → Contains t i
is_within-members s t i h c = contains-Contains t i (all-at (contains t) s i h c)

pub members-is_within : (s t : Set) → ((i : ℕ) → Contains s i → Contains t i) → is_within s t ≡ true
members-is_within s t f = all-from (contains t) s (λ i c. Contains-contains t i (f i c))

-- sets within each other are equal
pub is_within-antisymm : (m k : ℕ) (s t : Set) → IsSetWithin m s → IsSetWithin k t → is_within s t ≡ true → is_within t s ≡ true → s ≡ t
is_within-antisymm m k s t p q f g = set-ext m k s t p q (λ i c. is_within-members s t i f c) (λ i c. is_within-members t s i g c)

pub is_within-trans : (s t u : Set) → is_within s t ≡ true → is_within t u ≡ true → is_within s u ≡ true
is_within-trans s t u f g = members-is_within s u (λ i c. is_within-members t u i g (is_within-members s t i f c))

-- ---- sizes

apart : (a b : ℕ) → a < b → a ≡ b → ⊥
apart a b l e = omega arith

-- what is in a list and is not its first is in the rest
pub Contains-rest : (x : ℕ) (s : Set) (i : ℕ) → (x ≡ i → ⊥) → Contains (x ∷ s) i → Contains s i
Contains-rest x s i n c = pick (Contains-cases x s i c)
  where
    pick : (x ≡ i) ⊎ Contains s i → Contains s i
    pick (inl e) = absurd (n e)
    pick (inr d) = d

-- a rising list whose members are in another has at most its length
length-rising : (s t : Set) → Rises s → Rises t → ((i : ℕ) → Contains s i → Contains t i) → length s ≤ length t
length-rising [] t p q f = omega arith
length-rising (x ∷ s) [] p q f = absurd (Contains-none x (f x (Contains-here x s)))
length-rising (x ∷ s) (y ∷ t) p q f = more (length s) (length t) (length-rising s t p.1 q.1 (λ i c. Contains-rest y t i (λ e. step i c e (Contains-cases y t x (f x (Contains-here x s)))) (f i (Contains-later x s i c))))
  where
    more : (a b : ℕ) → a ≤ b → suc a ≤ suc b
    more a b l = omega arith

    clash : (x y i : ℕ) → x < i → y < x → y ≡ i → ⊥
    clash x y i l m e = omega arith

    same : (x y i : ℕ) → x < i → y ≡ x → y ≡ i → ⊥
    same x y i l m e = omega arith

    step : (i : ℕ) → Contains s i → y ≡ i → (y ≡ x) ⊎ Contains t x → ⊥
    step i c e (inl m) = same x y i (p.0 i c) m e
    step i c e (inr d) = clash x y i (p.0 i c) (q.0 x d) e

pub length-is_within : (m k : ℕ) (s t : Set) → IsSetWithin m s → IsSetWithin k t → is_within s t ≡ true → length s ≤ length t
length-is_within m k s t p q f = length-rising s t (rises_of s p.rising) (rises_of t q.rising) (λ i c. is_within-members s t i f c)

-- with a member more the other is longer
length-rising_less : (s t : Set) (i : ℕ) → Rises s → Rises t → ((j : ℕ) → Contains s j → Contains t j) → Contains t i → (Contains s i → ⊥) → length s < length t
length-rising_less s [] i p q f c n = absurd (Contains-none i c)
length-rising_less [] (y ∷ t) i p q f c n = omega arith
length-rising_less (x ∷ s) (y ∷ t) i p q f c n = step (cases_eq y x) (length-rising_less s t i p.1 q.1)
  where
    more : (a b : ℕ) → a < b → suc a < suc b
    more a b l = omega arith

    under : (a b : ℕ) → a ≤ b → a < suc b
    under a b l = omega arith

    clash : (x y j : ℕ) → y < x → x < j → y ≡ j → ⊥
    clash x y j l m e = omega arith

    -- where the first of t is not the first of s, it is not in s
    missing : (y ≡ x → ⊥) → (j : ℕ) → (x ≡ j) ⊎ Contains s j → y ≡ j → ⊥
    missing d j (inl e) g = d (g ∙ sym e)
    missing d j (inr m) g = clash x y j (q.0 x (Contains-rest y t x d (f x (Contains-here x s)))) (p.0 j m) g

    step : (y ≡ x) ⊎ (y ≡ x → ⊥) → (((j : ℕ) → Contains s j → Contains t j) → Contains t i → (Contains s i → ⊥) → length s < length t) → length (x ∷ s) < length (y ∷ t)
    step (inl e) ih = more (length s) (length t) (ih
        (λ j m. Contains-rest y t j (λ g. apart x j (p.0 j m) (sym e ∙ g)) (f j (Contains-later x s j m)))
        (Contains-rest y t i (λ g. n (subst (Contains (x ∷ s)) (sym e ∙ g) (Contains-here x s))) c)
        (λ m. n (Contains-later x s i m)))
    step (inr d) ih = under (length (x ∷ s)) (length t) (length-rising (x ∷ s) t p q.1 (λ j m. Contains-rest y t j (missing d j (Contains-cases x s j m)) (f j m)))

-- a set properly within another is smaller
pub length-is_properly_within : (m k : ℕ) (s t : Set) → IsSetWithin m s → IsSetWithin k t → is_properly_within s t ≡ true → length s < length t
length-is_properly_within m k s t p q h = step (cases_lt (length s) (length t))
  where
    both : (is_within s t ≡ true) × (not (is_within t s) ≡ true)
    both = and_parts (is_within s t) (not (is_within t s)) h

    inside : (j : ℕ) → Contains s j → Contains t j
    inside j c = is_within-members s t j both.0 c

    -- a member that is missing would make it longer
    back : length t ≤ length s → (i : ℕ) → Contains t i → Contains s i
    back l i c = pick (cases_Bool (contains s i))
      where
        clash : (a b : ℕ) → a < b → b ≤ a → ⊥
        clash a b l m = omega arith

        pick : (contains s i ≡ true) ⊎ (contains s i ≡ false) → Contains s i
        pick (inl e) = contains-Contains s i e
        pick (inr e) = absurd (clash (length s) (length t)
            (length-rising_less s t i (rises_of s p.rising) (rises_of t q.rising) inside c (λ d. not_both (contains s i) (Contains-contains s i d) e)) l)

    step : (length s < length t) ⊎ (length t ≤ length s) → length s < length t
    step (inl l) = l
    step (inr l) = absurd (not_both (not (is_within t s)) both.1 (not_from_true (is_within t s) (members-is_within t s (back l))))

-- ---- members in one of two sets alone

-- a number that is in no set without the other is in both
pub within-none : (s t : Set) → IsSetWithin 64 s → (j : ℕ) → (Contains (minus s t) j → ⊥) → Contains s j → Contains t j
within-none s t h j n c = step (cases_Bool (contains t j))
  where
    step : (contains t j ≡ true) ⊎ (contains t j ≡ false) → Contains t j
    step (inl e) = contains-Contains t j e
    step (inr e) = absurd (n (members-minus s t j h c (λ d. not_both (contains t j) (Contains-contains t j d) e)))

pub without-none : (s : Set) (i : ℕ) → IsSetWithin 64 s → contains s i ≡ false → without_member s i ≡ s
without-none s i h e =
    set-ext 64 64 (without_member s i) s (those-set (λ j. contains s j && not (contains (i ∷ []) j))) h
    (λ j c. (without-members s i j c).0)
    (λ j c. members-without s i j h c (λ f. not_both (contains s j) (Contains-contains s j c) (ap (contains s) (sym f) ∙ e)))

-- ---- a set within another

pub none-Contains : (s : Set) → ((i : ℕ) → Contains s i → ⊥) → s ≡ []
none-Contains [] h = refl
none-Contains (x ∷ s) h = absurd (h x (Contains-here x s))

-- a set lies within another where nothing is left without the other
pub is_within-minus : (s t : Set) (b : Bool) → IsSetWithin 64 s → ((b ≡ true) ↔ (minus s t ≡ [])) → b ≡ is_within s t
is_within-minus s t b h e = test-ext b (is_within s t) to from
  where
    to : b ≡ true → is_within s t ≡ true
    to f = all-from (contains t) s (λ i c. pick i c (cases_Bool (contains t i)))
      where
        pick : (i : ℕ) → Contains s i → (contains t i ≡ true) ⊎ (contains t i ≡ false) → contains t i ≡ true
        pick i c (inl g) = g
        pick i c (inr g) = absurd (Contains-none i (subst (λ z. Contains z i) (e.0 f) (members-minus s t i h c (λ d. not_both (contains t i) (Contains-contains t i d) g))))

    from : is_within s t ≡ true → b ≡ true
    from f = e.1 (none-Contains (minus s t) (λ i c. let d = minus-members s t i c in d.1 (contains-Contains t i (all-at (contains t) s i f d.0))))
