-- The loop that counts in how many pairs the member of the second set is the smaller.
use Rattle.std.specs.Prelude.{◌≡◌, ◌+◌, ◌-◌, ◌*◌, ◌<◌, ◌≤◌, ◌&&◌, ℕ, nat_lt, Bool, true, false, cond, [], ◌∷◌, ◌++◌, length, drop, slice_get, Some, None, sum_by}
use Rattle.std.proofs.lemmas.Bool.{ltb-true, lt-ltb}
use Rattle.std.proofs.lemmas.List.Sums.{sum_by-cons, count_by-le-length}
use mathlib.Core.Path.{refl, sym, ap, ◌∙◌, subst}
use native.Mathlib.Omega.{arith}
use Rattle.hp_lists.specs.Lists.{one_to}
use Rattle.hp_lists.proofs.Members.{Contains-here}
use Rattle.hp_lists.proofs.NaturalSums.{one_if, sum_by-constant, sum_by-ext}
use Rattle.hp_lists.proofs.Ordered.{rises_of}
use Rattle.hp_lists.proofs.Ranges.{range_members, members_range}
use Rattle.hp_sets.specs.Sets.{Set, IsSetWithin, contains, meet, without_member}
use Rattle.hp_sets.proofs.SetLaws.{contains-Contains, Contains-contains, set_members, test-ext}
use Rattle.hp_sets.proofs.SetLists.{rising-length}
use Rattle.hp_sets.proofs.Places.{drop-set, without-least}
use Rattle.hp_exterior.specs.Exterior.{inversions}
use Rattle.hp_exterior.specs.SetSums.{below_in, crossings_of, inversions-sets, sum-set, sum-those}

pub set-size : (s : Set) → IsSetWithin 64 s → length s ≤ 64
set-size s h =
    let r = rising-length s 1 65 (omega arith) (rises_of s h.rising) (λ i c. within i (set_members 64 s i h c)) in
    omega (arith, r)
  where
    within : (i : ℕ) → (1 ≤ i) × (i ≤ 64) → (1 ≤ i) × (i < 65)
    within i h = omega arith

-- the members below i are those that are also among the numbers before i
pub below-meet : (t : Set) (i : ℕ) → IsSetWithin 64 t → 1 ≤ i → length (meet t (one_to (i - 1))) ≡ below_in t i
below-meet t i h l =
    ones (meet t (one_to (i - 1)))
    ∙ sum-those (λ j. contains t j && contains (one_to (i - 1)) j) (λ j. 1)
    ∙ sum_by-ext _ _ (one_to 64) (λ j c. ap (λ b. cond (contains t j && b) 1 0) (same j (range_members j 1 64 c).0) ∙ split (contains t j) (nat_lt j i))
    ∙ sym (sum-set t h (λ y. one_if (nat_lt y i)))
  where
    ones : (s : Set) → length s ≡ sum_by (λ j. 1) s
    ones s = omega (arith, sum_by-constant 1 s)

    split : (a b : Bool) → cond (a && b) 1 0 ≡ cond a (one_if b) 0
    split true b = refl
    split false b = refl

    same : (j : ℕ) → 1 ≤ j → contains (one_to (i - 1)) j ≡ nat_lt j i
    same j m =
        test-ext _ _
        (λ e. lt-ltb j i (under (range_members j 1 (i - 1) (contains-Contains (one_to (i - 1)) j e)).1))
        (λ e. Contains-contains (one_to (i - 1)) j (members_range j 1 (i - 1) m (over (ltb-true j i e))))
      where
        under : j < 1 + (i - 1) → j < i
        under k = omega (arith, k, l)

        over : j < i → j < 1 + (i - 1)
        over k = omega (arith, k, l)

-- The count so far, with the crossings of what is left, is the whole; and it stays small.
pub record IsCounted (s t rest : Set) (count : ℕ) : Type 0 where
  pub set : IsSetWithin 64 rest
  pub other : IsSetWithin 64 t
  pub small : count + 64 * length rest ≤ 4096
  pub crossed : count + crossings_of rest t ≡ crossings_of s t

pub counted_start : {s t : Set} → IsSetWithin 64 s → IsSetWithin 64 t → IsCounted s t s 0
counted_start {s} {t} p q = record {
  set = p;
  other = q;
  small = omega (arith, set-size s p);
  crossed = omega arith;
}

pub record IsStep (s t rest next : Set) (count more : ℕ) : Type 0 where
  pub counted : IsCounted s t next (count + more)
  pub shorter : length next < length rest
  pub fits : count + more ≤ 4096

pub counted_step : {s t rest next u f : Set} {count more i : ℕ} → IsCounted s t rest count → Some i ≡ slice_get rest 0
    → f ≡ one_to (i - 1) → u ≡ meet t f → more ≡ length u → next ≡ without_member rest i
    → IsStep s t rest next count more
counted_step {s} {t} {rest} {next} {u} {f} {count} {more} {i} h e a b d n = go rest h e (n ∙ without-least rest i h.set (sym e))
  where
    go : (rest : Set) → IsCounted s t rest count → Some i ≡ slice_get rest 0 → next ≡ drop 1 rest
        → IsStep s t rest next count more
    go [] h e n = absurd (none e)
      where
        none : Some i ≡ None → ⊥
        none e = cc
    go (x ∷ r) h e n =
        let ix : x ≡ i = same e in
        let m : more ≡ below_in t x =
        d ∙ ap length (b ∙ ap (meet t) a) ∙ below-meet t i h.other (subst (λ z. 1 ≤ z) ix (set_members 64 (x ∷ r) x h.set (Contains-here x r)).0)
        ∙ ap (below_in t) (sym ix) in
        let few = count_by-le-length (λ y. nat_lt y x) t in
        let size = set-size t h.other in
        let next_length : length next ≡ length r = ap length n in
        let all = sum_by-cons (below_in t) x r in
        let left : crossings_of next t ≡ crossings_of r t = ap (λ z. crossings_of z t) n in
        let small = h.small in
        let crossed = h.crossed in record {
          counted = record {
            set = subst (IsSetWithin 64) (sym n) (drop-set 64 1 (x ∷ r) h.set);
            other = h.other;
            small = omega (arith, m, few, size, next_length, small);
            crossed = omega (arith, m, all, left, crossed);
          };
          shorter = omega (arith, next_length);
          fits = omega (arith, m, few, size, small);
        }
      where
        same : Some i ≡ Some x → x ≡ i
        same e = cc

pub counted_end : {s t rest : Set} {count : ℕ} → IsSetWithin 64 s → IsCounted s t rest count → rest ≡ []
    → count ≡ inversions (s ++ t)
counted_end {s} {t} {rest} {count} p h e =
    let none : crossings_of rest t ≡ 0 = ap (λ z. crossings_of z t) e in
    omega (arith, none, h.crossed, inversions-sets s t p h.other)
