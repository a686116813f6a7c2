-- The order in which sets are listed.
use Rattle.std.specs.Prelude.{◌≡◌, ℕ, suc, ◌<◌, ◌≤◌, true, false, not, ◌&&◌, ◌||◌, [], ◌∷◌, length, slice_get, Some, None, Contains, ◌⊎◌}
use Rattle.std.specs.declared.cmp.Ordering.TheVariants.{Less, Equal, Greater}
use Rattle.std.specs.Ordering.{nat_cmp, ordering_then, ordering_reverse}
use Rattle.std.specs.Cmp.Lexicographic.{slice_cmp, nat_list_cmp_total}
use Rattle.std.proofs.lemmas.Bool.{cases_order}
use mathlib.Core.Logic.{inl, inr}
use mathlib.Core.Path.{refl, sym, ap, ◌∙◌, subst}
use native.Mathlib.Omega.{arith}
use Rattle.hp_lists.proofs.Members.{not_both, Contains-here, Contains-later, Contains-none}
use Rattle.hp_lists.proofs.Ordered.{Rises, rises_of}
use Rattle.hp_sets.specs.Sets.{Set, IsSetWithin, contains, union, minus, cmp_listed}
use Rattle.hp_sets.proofs.SetLaws.{contains-Contains, Contains-contains, set-ext, those-set}
use Rattle.hp_sets.proofs.SetMembers.{union-members, minus-members, members-union_left, members-union_right}
use Rattle.hp_sets.proofs.SetLists.{nat_less, nat_same}
use Rattle.hp_sets.proofs.SetWithin.{Contains-rest, within-none}
use Rattle.hp_sets.proofs.Places.{first-least, get-low, get-none, get-Contains}

-- the smaller set comes first
pub cmp_listed_smaller : (s t : Set) → length s < length t → cmp_listed s t ≡ Less
cmp_listed_smaller s t l = ap (λ o. ordering_then o (slice_cmp nat_cmp s t)) (nat_less (length s) (length t) l)

-- sets of one size are in lexicographic order
pub cmp_listed_same_size : (s t : Set) → length s ≡ length t → cmp_listed s t ≡ slice_cmp nat_cmp s t
cmp_listed_same_size s t e = ap (λ o. ordering_then o (slice_cmp nat_cmp s t)) (nat_same (length s) (length t) e)

-- Of two rising lists of one length, that one comes first which has the least number that is in one of them alone.
pub record HasLeastApart (s t : Set) (d : ℕ) : Type 0 where
  pub inside : Contains s d
  pub outside : Contains t d → ⊥
  pub forth : (j : ℕ) → j < d → Contains s j → Contains t j
  pub back : (j : ℕ) → j < d → Contains t j → Contains s j

pub slice_cmp-apart : (s t : Set) (d : ℕ) → Rises s → Rises t → length s ≡ length t → HasLeastApart s t d → slice_cmp nat_cmp s t ≡ Less
slice_cmp-apart [] t d p q e h = absurd (Contains-none d h.inside)
slice_cmp-apart (x ∷ s) [] d p q e h = absurd (none (length s) e)
  where
    none : (n : ℕ) → suc n ≡ 0 → ⊥
    none n e = omega arith
slice_cmp-apart (x ∷ s) (y ∷ t) d p q e h = step (cases_order x y) (slice_cmp-apart s t d p.1 q.1 (less (length s) (length t) e))
  where
    less : (a b : ℕ) → suc a ≡ suc b → a ≡ b
    less a b e = omega arith

    irreflexive : (a b : ℕ) → a ≡ b → a < b → ⊥
    irreflexive a b e l = omega arith

    step : (x ≡ y) ⊎ ((x < y) ⊎ (y < x)) → (HasLeastApart s t d → slice_cmp nat_cmp s t ≡ Less) → ordering_then (nat_cmp x y) (slice_cmp nat_cmp s t) ≡ Less
    step (inr (inl l)) ih = ap (λ o. ordering_then o (slice_cmp nat_cmp s t)) (nat_less x y l)
    step (inr (inr l)) ih = absurd (clash y x d l (first-least x s d p h.inside) (λ m. first-least x s y p (h.back y m (Contains-here y t))))
      where
        clash : (y x d : ℕ) → y < x → x ≤ d → (y < d → x ≤ y) → ⊥
        clash y x d l m f = omega (arith, f (omega arith))
    step (inl same) ih =
        ap (λ o. ordering_then o (slice_cmp nat_cmp s t)) (nat_same x y same)
        ∙ ih record {
          inside = Contains-rest x s d (λ f. h.outside (subst (Contains (y ∷ t)) (sym same ∙ f) (Contains-here y t))) h.inside;
          outside = λ c. h.outside (Contains-later y t d c);
          forth = λ j l c. Contains-rest y t j (λ f. irreflexive x j (same ∙ f) (p.0 j c)) (h.forth j l (Contains-later x s j c));
          back = λ j l c. Contains-rest x s j (λ f. irreflexive y j (sym same ∙ f) (q.0 j c)) (h.back j l (Contains-later y t j c));
        }

-- and the other way round
pub slice_cmp-apart_back : (s t : Set) (d : ℕ) → Rises s → Rises t → length s ≡ length t → HasLeastApart t s d → slice_cmp nat_cmp s t ≡ Greater
slice_cmp-apart_back s t d p q e h = nat_list_cmp_total.antisymm s t ∙ ap ordering_reverse (slice_cmp-apart t s d q p (sym e) h)

pub slice_cmp-same : (s t : Set) → s ≡ t → slice_cmp nat_cmp s t ≡ Equal
slice_cmp-same s t e = subst (λ z. slice_cmp nat_cmp s z ≡ Equal) e (itself s)
  where
    itself : (s : Set) → slice_cmp nat_cmp s s ≡ Equal
    itself [] = refl
    itself (x ∷ s) = ap (λ o. ordering_then o (slice_cmp nat_cmp s s)) (nat_same x x refl) ∙ itself s

-- ---- the least number that is in one of two sets alone

-- m is what s has alone, and u what either has alone
pub record IsApart (s t m u : Set) : Type 0 where
  pub set : IsSetWithin 64 s
  pub other_set : IsSetWithin 64 t
  pub size : length s ≡ length t
  pub mine : m ≡ minus s t
  pub either : u ≡ union m (minus t s)

-- u was made of what t has alone
pub apart-of : (s t m u v : Set) → IsSetWithin 64 s → IsSetWithin 64 t → length s ≡ length t → m ≡ minus s t → u ≡ union m v → v ≡ minus t s → IsApart s t m u
apart-of s t m u v set other_set size mine whole rest =
    record { set = set; other_set = other_set; size = size; mine = mine; either = whole ∙ ap (union m) rest }

module _ (s t m u : Set) (h : IsApart s t m u) where
  m_set : IsSetWithin 64 m
  m_set = subst (IsSetWithin 64) (sym h.mine) (those-set (λ i. contains s i && not (contains t i)))

  u_set : IsSetWithin 64 u
  u_set = subst (IsSetWithin 64) (sym h.either) (those-set (λ i. contains m i || contains (minus t s) i))

  in_left : (j : ℕ) → Contains (minus s t) j → Contains u j
  in_left j c = subst (λ z. Contains z j) (sym h.either) (members-union_left m (minus t s) j m_set (subst (λ z. Contains z j) (sym h.mine) c))

  in_right : (j : ℕ) → Contains (minus t s) j → Contains u j
  in_right j c = subst (λ z. Contains z j) (sym h.either) (members-union_right m (minus t s) j (those-set (λ i. contains t i && not (contains s i))) c)

  -- where neither has a number alone, the sets are equal
  pub none_apart : slice_get u 0 ≡ None → slice_cmp nat_cmp s t ≡ Equal
  none_apart e = slice_cmp-same s t (set-ext 64 64 s t h.set h.other_set
      (λ j c. within-none s t h.set j (λ d. none j (in_left j d)) c)
      (λ j c. within-none t s h.other_set j (λ d. none j (in_right j d)) c))
    where
      none : (j : ℕ) → Contains u j → ⊥
      none j c = Contains-none j (subst (λ z. Contains z j) (get-none u e) c)

  under_least : (i j : ℕ) → slice_get u 0 ≡ Some i → j < i → Contains u j → ⊥
  under_least i j e l c = clash i j l (get-low u i j (rises_of u u_set.rising) e c)
    where
      clash : (i j : ℕ) → j < i → i ≤ j → ⊥
      clash i j l m = omega arith

  pub mine_first : (i : ℕ) → slice_get u 0 ≡ Some i → contains m i ≡ true → slice_cmp nat_cmp s t ≡ Less
  mine_first i e f =
      let c = minus-members s t i (subst (λ z. Contains z i) h.mine (contains-Contains m i f)) in
      slice_cmp-apart s t i (rises_of s h.set.rising) (rises_of t h.other_set.rising) h.size record {
        inside = c.0;
        outside = c.1;
        forth = λ j l d. within-none s t h.set j (λ a. under_least i j e l (in_left j a)) d;
        back = λ j l d. within-none t s h.other_set j (λ a. under_least i j e l (in_right j a)) d;
      }

  pub others_first : (i : ℕ) → slice_get u 0 ≡ Some i → contains m i ≡ false → slice_cmp nat_cmp s t ≡ Greater
  others_first i e f =
      let c = minus-members t s i (right (union-members m (minus t s) i (subst (λ z. Contains z i) h.either (get-Contains u 0 i e)))) in
      slice_cmp-apart_back s t i (rises_of s h.set.rising) (rises_of t h.other_set.rising) h.size record {
        inside = c.0;
        outside = c.1;
        forth = λ j l d. within-none t s h.other_set j (λ a. under_least i j e l (in_right j a)) d;
        back = λ j l d. within-none s t h.set j (λ a. under_least i j e l (in_left j a)) d;
      }
    where
      right : Contains m i ⊎ Contains (minus t s) i → Contains (minus t s) i
      right (inl c) = absurd (not_both (contains m i) (Contains-contains m i c) f)
      right (inr c) = c
