-- The places of the members of a set in rising order.
use Rattle.std.specs.Prelude.{◌≡◌, ℕ, zero, suc, ◌+◌, ◌-◌, ◌<◌, ◌≤◌, true, false, cond, not, ◌&&◌, nat_lt, min, [], ◌∷◌, length, filter, drop, Contains, count_by, slice_get, Option, Some, None, is_some, IsNone, IfSome, ◌⊎◌, ◌↔◌}
use Rattle.std.proofs.lemmas.Bool.{lt-ltb, le-ltb, cases_lt}
use Rattle.std.proofs.lemmas.Option.{slice_get_past, slice_get-get_or}
use Rattle.std.proofs.lemmas.List.Elements.{All-drop, Contains-get_or}
use Rattle.std.proofs.lemmas.List.Sums.{length-filter}
use mathlib.Core.Logic.{inl, inr}
use mathlib.Core.Path.{refl, sym, ap, ◌∙◌, subst}
use native.Mathlib.Omega.{arith}
use Rattle.hp_lists.proofs.Members.{Contains-here, Contains-later, Contains-cases, Contains-none}
use Rattle.hp_lists.proofs.Ordered.{Rises, rises_of, increasing_of}
use Rattle.hp_sets.specs.Sets.{Set, IsSetWithin, contains, without_member, IsLeast, IsGreatest, HasSmaller}
use Rattle.hp_sets.proofs.SetLaws.{set-ext, those-set}
use Rattle.hp_sets.proofs.SetMembers.{without-members, members-without}

pub get-Contains : (s : Set) (k i : ℕ) → slice_get s k ≡ Some i → Contains s i
get-Contains [] k i e = cc
get-Contains (x ∷ s) zero i e = subst (Contains (x ∷ s)) (inside e) (Contains-here x s)
  where
    inside : Some x ≡ Some i → x ≡ i
    inside e = cc
get-Contains (x ∷ s) (suc k) i e = Contains-later x s i (get-Contains s k i e)

-- the first of a rising list is the least
pub first-least : (z : ℕ) (us : Set) (j : ℕ) → Rises (z ∷ us) → Contains (z ∷ us) j → z ≤ j
first-least z us j r c = pick (Contains-cases z us j c)
  where
    pick : (z ≡ j) ⊎ Contains us j → z ≤ j
    pick (inl e) = omega arith
    pick (inr c) = under z j (r.0 j c)
      where
        under : (z j : ℕ) → z < j → z ≤ j
        under z j l = omega arith

pub get-low : (s : Set) (i j : ℕ) → Rises s → slice_get s 0 ≡ Some i → Contains s j → i ≤ j
get-low [] i j r e c = absurd (Contains-none j c)
get-low (x ∷ s) i j r e c = subst (λ z. z ≤ j) (inside e) (first-least x s j r c)
  where
    inside : Some x ≡ Some i → x ≡ i
    inside e = cc

pub get-least : (s : Set) (i : ℕ) → Rises s → Contains s i → ((j : ℕ) → Contains s j → i ≤ j) → slice_get s 0 ≡ Some i
get-least [] i r c h = absurd (Contains-none i c)
get-least (x ∷ s) i r c h = ap Some (between x i (first-least x s i r c) (h x (Contains-here x s)))
  where
    between : (x i : ℕ) → x ≤ i → i ≤ x → x ≡ i
    between x i a b = omega arith

-- the last member is the greatest
pub get-greatest : (s : Set) (i : ℕ) → Rises s → Contains s i → ((j : ℕ) → Contains s j → j ≤ i) → slice_get s (length s - 1) ≡ Some i
get-greatest [] i r c h = absurd (Contains-none i c)
get-greatest (x ∷ []) i r c h = ap Some (one (Contains-cases x [] i c))
  where
    one : (x ≡ i) ⊎ Contains [] i → x ≡ i
    one (inl e) = e
    one (inr d) = absurd (Contains-none i d)
get-greatest (x ∷ y ∷ s) i r c h =
    ap (slice_get (x ∷ y ∷ s)) (place (length s)) ∙ get-greatest (y ∷ s) i r.1 (later (Contains-cases x (y ∷ s) i c)) (λ j d. h j (Contains-later x (y ∷ s) j d))
  where
    place : (n : ℕ) → suc (suc n) - 1 ≡ suc (suc n - 1)
    place n = omega arith

    clash : (x y i : ℕ) → x ≡ i → x < y → y ≤ i → ⊥
    clash x y i e l m = omega arith

    later : (x ≡ i) ⊎ Contains (y ∷ s) i → Contains (y ∷ s) i
    later (inl e) = absurd (clash x y i e (r.0 y (Contains-here y s)) (h y (Contains-later x (y ∷ s) y (Contains-here y s))))
    later (inr d) = d

pub get-high : (s : Set) (i j : ℕ) → Rises s → slice_get s (length s - 1) ≡ Some i → Contains s j → j ≤ i
get-high [] i j r e c = absurd (Contains-none j c)
get-high (x ∷ []) i j r e c = one (Contains-cases x [] j c)
  where
    inside : Some x ≡ Some i → x ≡ i
    inside e = cc

    same : (x i j : ℕ) → x ≡ i → x ≡ j → j ≤ i
    same x i j e f = omega arith

    one : (x ≡ j) ⊎ Contains [] j → j ≤ i
    one (inl f) = same x i j (inside e) f
    one (inr d) = absurd (Contains-none j d)
get-high (x ∷ y ∷ s) i j r e c = step (Contains-cases x (y ∷ s) j c) (λ k. get-high (y ∷ s) i k r.1 (sym (ap (slice_get (x ∷ y ∷ s)) (place (length s))) ∙ e))
  where
    place : (n : ℕ) → suc (suc n) - 1 ≡ suc (suc n - 1)
    place n = omega arith

    under : (x y i j : ℕ) → x ≡ j → x < y → y ≤ i → j ≤ i
    under x y i j f l m = omega arith

    step : (x ≡ j) ⊎ Contains (y ∷ s) j → ((k : ℕ) → Contains (y ∷ s) k → k ≤ i) → j ≤ i
    step (inl f) ih = under x y i j f (r.0 y (Contains-here y s)) (ih y (Contains-here y s))
    step (inr d) ih = ih j d

-- the member at place k has k smaller ones
smaller-get : (s : Set) (k i : ℕ) → Rises s → slice_get s k ≡ Some i → length (filter (λ j. nat_lt j i) s) ≡ k
smaller-get [] k i r e = absurd (none e)
  where
    none : None ≡ Some i → ⊥
    none e = cc
smaller-get (x ∷ s) zero i r e = none (x ∷ s) at_least
  where
    inside : Some x ≡ Some i → x ≡ i
    inside e = cc

    at_least : (j : ℕ) → Contains (x ∷ s) j → i ≤ j
    at_least j c = subst (λ z. z ≤ j) (inside e) (first-least x s j r c)

    none : (us : Set) → ((j : ℕ) → Contains us j → i ≤ j) → length (filter (λ j. nat_lt j i) us) ≡ 0
    none [] h = refl
    none (y ∷ us) h =
        ap (λ b. length (cond b (y ∷ filter (λ j. nat_lt j i) us) (filter (λ j. nat_lt j i) us))) (le-ltb y i (h y (Contains-here y us)))
        ∙ none us (λ j c. h j (Contains-later y us j c))
smaller-get (x ∷ s) (suc k) i r e =
    ap (λ b. length (cond b (x ∷ filter (λ j. nat_lt j i) s) (filter (λ j. nat_lt j i) s))) (lt-ltb x i (r.0 i (get-Contains s k i e)))
    ∙ ap suc (smaller-get s k i r.1 e)

pub count-get : (s : Set) (k i : ℕ) → Rises s → slice_get s k ≡ Some i → count_by (λ j. nat_lt j i) s ≡ k
count-get s k i r e = sym (length-filter (λ j. nat_lt j i) s) ∙ smaller-get s k i r e

-- the members from a place on, and the first of them
pub get-drop : (s : Set) (k : ℕ) → slice_get (drop k s) 0 ≡ slice_get s k
get-drop [] zero = refl
get-drop [] (suc k) = refl
get-drop (x ∷ s) zero = refl
get-drop (x ∷ s) (suc k) = get-drop s k

rises-drop : (k : ℕ) (s : Set) → Rises s → Rises (drop k s)
rises-drop zero s r = r
rises-drop (suc k) [] r = tt
rises-drop (suc k) (x ∷ s) r = rises-drop k s r.1

pub drop-set : (m k : ℕ) (s : Set) → IsSetWithin m s → IsSetWithin m (drop k s)
drop-set m k s h = record {
  rising = increasing_of (drop k s) (rises-drop k s (rises_of s h.rising));
  members = All-drop (λ i. (1 ≤ i) × (i ≤ m)) k s h.members;
}

-- without its least member a set has the others
pub without-least : (s : Set) (i : ℕ) → IsSetWithin 64 s → slice_get s 0 ≡ Some i → without_member s i ≡ drop 1 s
without-least [] i h e = absurd (none e)
  where
    none : None ≡ Some i → ⊥
    none e = cc
without-least (x ∷ s) i h e =
    set-ext 64 64 (without_member (x ∷ s) i) s (those-set (λ j. contains (x ∷ s) j && not (contains (i ∷ []) j))) (drop-set 64 1 (x ∷ s) h)
    (λ j c. let d = without-members (x ∷ s) i j c in later j (Contains-cases x s j d.0) d.1)
    (λ j c. members-without (x ∷ s) i j h (Contains-later x s j c) (λ f. apart x j ((rises_of (x ∷ s) h.rising).0 j c) (inside e ∙ f)))
  where
    inside : Some x ≡ Some i → x ≡ i
    inside e = cc

    later : (j : ℕ) → (x ≡ j) ⊎ Contains s j → (i ≡ j → ⊥) → Contains s j
    later j (inl f) n = absurd (n (sym (inside e) ∙ f))
    later j (inr c) n = c

    apart : (x j : ℕ) → x < j → x ≡ j → ⊥
    apart x j l f = omega arith

pub get-none : (s : Set) → slice_get s 0 ≡ None → s ≡ []
get-none [] e = refl
get-none (x ∷ s) e = absurd (some e)
  where
    some : Some x ≡ None → ⊥
    some e = cc

pub drop-none : (s : Set) → slice_get s 0 ≡ None → s ≡ drop 1 s
drop-none [] e = refl
drop-none (x ∷ s) e = absurd (some e)
  where
    some : Some x ≡ None → ⊥
    some e = cc

-- past the end there is no member
pub get-min : (s : Set) (k : ℕ) → slice_get s (min k (length s)) ≡ slice_get s k
get-min s k = step (cases_lt k (length s))
  where
    short : (k n : ℕ) → k < n → min k n ≡ k
    short k n l = omega arith

    past : (k n : ℕ) → n ≤ k → n ≤ min k n
    past k n l = omega arith

    step : (k < length s) ⊎ (length s ≤ k) → slice_get s (min k (length s)) ≡ slice_get s k
    step (inl l) = ap (slice_get s) (short k (length s) l)
    step (inr l) = slice_get_past s (min k (length s)) (past k (length s) l) ∙ sym (slice_get_past s k l)

-- ---- what an answer that is read at a place says

pub least-none : (s : Set) (r : Option ℕ) → r ≡ slice_get s 0 → IsNone r ↔ (s ≡ [])
least-none [] r e = ((λ n. refl), λ f. ap is_some e)
least-none (x ∷ s) r e = ((λ n. absurd (clash (sym (ap is_some e) ∙ n))), λ f. absurd (apart f))
  where
    clash : true ≡ false → ⊥
    clash e = cc

    apart : x ∷ s ≡ [] → ⊥
    apart e = cc

pub greatest-none : (s : Set) (r : Option ℕ) → r ≡ slice_get s (length s - 1) → IsNone r ↔ (s ≡ [])
greatest-none s r e = (
  (λ n. step (cases_lt (length s - 1) (length s)) n),
  λ f. ap is_some (e ∙ ap (λ t. slice_get t (length t - 1)) f),
)
  where
    clash : true ≡ false → ⊥
    clash e = cc

    none_left : (t : Set) → length t ≤ length t - 1 → t ≡ []
    none_left [] l = refl
    none_left (x ∷ t) l = absurd (past (length t) l)
      where
        past : (n : ℕ) → suc n ≤ suc n - 1 → ⊥
        past n l = omega arith

    step : (length s - 1 < length s) ⊎ (length s ≤ length s - 1) → IsNone r → s ≡ []
    step (inl l) n = absurd (clash (sym (ap is_some (e ∙ slice_get-get_or s (length s - 1) 0 l)) ∙ n))
    step (inr l) n = none_left s l

pub nth-none : (s : Set) (k : ℕ) (r : Option ℕ) → r ≡ slice_get s k → IsNone r ↔ (length s ≤ k)
nth-none s k r e = ((λ n. step (cases_lt k (length s)) n), λ l. ap is_some (e ∙ slice_get_past s k l))
  where
    clash : true ≡ false → ⊥
    clash e = cc

    step : (k < length s) ⊎ (length s ≤ k) → IsNone r → length s ≤ k
    step (inl l) n = absurd (clash (sym (ap is_some (e ∙ slice_get-get_or s k 0 l)) ∙ n))
    step (inr l) n = l

pub least-some : (s : Set) (r : Option ℕ) → IsSetWithin 64 s → r ≡ slice_get s 0 → IfSome r (IsLeast s)
least-some s None h e = tt
least-some s (Some i) h e = (get-Contains s 0 i (sym e), λ k d l. get-low s i _ (rises_of s h.rising) (sym e) (Contains-get_or s k d l))

pub greatest-some : (s : Set) (r : Option ℕ) → IsSetWithin 64 s → r ≡ slice_get s (length s - 1) → IfSome r (IsGreatest s)
greatest-some s None h e = tt
greatest-some s (Some i) h e = (get-Contains s (length s - 1) i (sym e), λ k d l. get-high s i _ (rises_of s h.rising) (sym e) (Contains-get_or s k d l))

pub nth-some : (s : Set) (k : ℕ) (r : Option ℕ) → IsSetWithin 64 s → r ≡ slice_get s k → IfSome r (HasSmaller k s)
nth-some s k None h e = tt
nth-some s k (Some i) h e = (get-Contains s k i (sym e), count-get s k i (rises_of s h.rising) (sym e))

-- without one more of the least there is one less
pub drop-more : (s : Set) (k : ℕ) → drop 1 (drop k s) ≡ drop (k + 1) s
drop-more s k = both s k ∙ ap (λ j. drop j s) (next k)
  where
    next : (k : ℕ) → suc k ≡ k + 1
    next k = omega arith

    both : (s : Set) (k : ℕ) → drop 1 (drop k s) ≡ drop (suc k) s
    both [] zero = refl
    both [] (suc k) = refl
    both (x ∷ s) zero = refl
    both (x ∷ s) (suc k) = both s k
