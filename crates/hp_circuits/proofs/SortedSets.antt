-- Sets found once in any order: sorted they are the list that rises strictly and has the same members.
use Rattle.std.specs.Prelude.{◌≡◌, ◌≢◌, ◌↔◌, ℕ, suc, ◌+◌, ◌≤◌, false, List, [], ◌∷◌, ◌++◌, length, Contains, ◌⊎◌}
use Rattle.std.specs.List.Sorted.{IsStrictlySortedBy, IsSorted, IsPermutation}
use Rattle.std.specs.declared.cmp.Ordering.{Ordering}
use Rattle.std.specs.declared.cmp.Ordering.TheVariants.{Less, Equal, Greater}
use Rattle.std.specs.Ordering.{ordering_reverse, is_lt}
use Rattle.std.proofs.Common.{get_or}
use Rattle.std.proofs.lemmas.Bool.{true≢false}
use Rattle.std.proofs.lemmas.List.{length-append}
use Rattle.std.proofs.lemmas.List.Elements.{Contains-append_left, Contains-append_right}
use Rattle.std.proofs.lemmas.List.Sorted.{Contains-permutation, IsPermutation-sym, length_permutation}
use mathlib.Core.Logic.{inl, inr}
use mathlib.Core.Path.{refl, sym, ap, ◌∙◌, subst}
use native.Mathlib.Omega.{arith}
use Rattle.hp_lists.specs.Lists.{Ordered}
use Rattle.hp_lists.proofs.Members.{Contains-here, Contains-later, Contains-cases, Contains-none}
use Rattle.hp_lists.proofs.Insertions.{once-few, same-count}
use Rattle.hp_lists.proofs.Distinct.{Distinct, sorted-distinct}
use Rattle.hp_lists.proofs.Ordered.{sorted_of, sorted-ext}
use Rattle.hp_sets.specs.Sets.{Set, cmp_listed}
use Rattle.hp_sets.specs.ListedOrder.{cmp_listed_total, cmp_listed_same}

-- a list that has all members of one without repeats, and is no longer, has no repeats
distinct-after : {X : Type 0} (zs before rest : List X) → Distinct zs
    → ((z : X) → Contains zs z → Contains before z ⊎ Contains rest z) → length before + length rest ≤ length zs
    → Distinct rest
distinct-after zs before [] d h l = tt
distinct-after {X} zs before (y ∷ rest) d h l = (
  (λ w c e. absurd (short (once-few zs (before ++ rest) d (λ z k. joined w c e z (h z k))))),
  distinct-after zs (y ∷ before) rest d (λ z k. moved z (h z k)) (omega (arith, l)),
)
  where
    short : length zs ≤ length (before ++ rest) → ⊥
    short k = let e = length-append before rest in omega (arith, k, e, l)

    turned : (z : X) → (y ≡ z) ⊎ Contains rest z → Contains (y ∷ before) z ⊎ Contains rest z
    turned z (inl e) = inl (subst (Contains (y ∷ before)) e (Contains-here y before))
    turned z (inr m) = inr m

    moved : (z : X) → Contains before z ⊎ Contains (y ∷ rest) z → Contains (y ∷ before) z ⊎ Contains rest z
    moved z (inl k) = inl (Contains-later y before z k)
    moved z (inr k) = turned z (Contains-cases y rest z k)

    joined : (w : X) → Contains rest w → y ≡ w → (z : X) → Contains before z ⊎ Contains (y ∷ rest) z
        → Contains (before ++ rest) z
    joined w c e z (inl k) = Contains-append_left before rest z k
    joined w c e z (inr k) = Contains-append_right before rest z (elim (Contains-cases y rest z k) [ inl q ↦ subst (Contains rest) (sym e ∙ q) c | inr m ↦ m ])

-- a rearrangement of a list without repeats has none
pub permuted-distinct : {X : Type 0} (xs ys : List X) → IsPermutation xs ys → Distinct xs → Distinct ys
permuted-distinct xs ys p d =
    let e = length_permutation xs ys p in
    distinct-after xs [] ys d (λ z k. inr (Contains-permutation xs ys z p k)) (omega (arith, e))

-- what a sort ensures of sets that differ: they rise strictly
pub sorted-strictly : (ys : List Set) → IsSorted cmp_listed ys → Distinct ys → IsStrictlySortedBy cmp_listed ys
sorted-strictly ys s d = sorted_of cmp_listed ys (go ys s d)
  where
    rest : (x : Set) (ys : List Set) → IsSorted cmp_listed (x ∷ ys) → IsSorted cmp_listed ys
    rest x ys s = λ k e l m. subst (λ j. is_lt (cmp_listed (get_or (x ∷ ys) j e) (get_or ys k e)) ≡ false) (turn k) (s (suc k) e (omega arith) (omega (arith, m)))
      where
        turn : (k : ℕ) → suc k + 1 ≡ suc (k + 1)
        turn k = omega arith

    next : (x y : Set) (ys : List Set) → IsSorted cmp_listed (x ∷ y ∷ ys) → x ≢ y → cmp_listed x y ≡ Less
    next x y ys s a = step (cmp_listed x y) refl
      where
        no : is_lt (cmp_listed y x) ≡ false
        no = s 0 [] (omega arith) (omega arith)

        step : (c : Ordering) → cmp_listed x y ≡ c → cmp_listed x y ≡ Less
        step Less e = e
        step Equal e = absurd (a (cmp_listed_same x y e))
        step Greater e = absurd (true≢false (sym (ap is_lt (cmp_listed_total.antisymm y x ∙ ap ordering_reverse e)) ∙ no))

    go : (ys : List Set) → IsSorted cmp_listed ys → Distinct ys → Ordered (λ x y. cmp_listed x y ≡ Less) ys
    go [] s d = tt
    go (x ∷ []) s d = ((λ y c. absurd (Contains-none y c)), tt)
    go (x ∷ y ∷ ys) s d = step (go (y ∷ ys) (rest x (y ∷ ys) s) d.1) (next x y ys s (d.0 y (Contains-here y ys)))
      where
        step : Ordered (λ x y. cmp_listed x y ≡ Less) (y ∷ ys) → cmp_listed x y ≡ Less
            → Ordered (λ x y. cmp_listed x y ≡ Less) (x ∷ y ∷ ys)
        step o l = ((λ z c. later z (Contains-cases y ys z c)), o)
          where
            later : (z : Set) → (y ≡ z) ⊎ Contains ys z → cmp_listed x z ≡ Less
            later z (inl e) = subst (λ w. cmp_listed x w ≡ Less) e l
            later z (inr c) = cmp_listed_total.trans x y z l (o.0 z c)

-- Sets found once, sorted, are the list in strict order that has the same members.
pub sorted-listed : (found sorted listed : List Set) → Distinct found → IsPermutation found sorted
    → IsSorted cmp_listed sorted
    → IsStrictlySortedBy cmp_listed listed → ((s : Set) → Contains found s ↔ Contains listed s) → sorted ≡ listed
sorted-listed found sorted listed d p s strict h =
    sorted-ext cmp_listed cmp_listed_total sorted listed (sorted-strictly sorted s (permuted-distinct found sorted p d)) strict
    (λ u. ((λ c. (h u).0 (Contains-permutation sorted found u (IsPermutation-sym found sorted p) c)), λ c. Contains-permutation found sorted u p ((h u).1 c)))

-- and they are as many.
pub found-count : (found listed : List Set) → Distinct found → IsStrictlySortedBy cmp_listed listed
    → ((s : Set) → Contains found s ↔ Contains listed s) → length found ≡ length listed
found-count found listed d strict h =
    same-count (Contains listed) found listed
    (record { members = h; once = d })
    (record { members = λ s. ((λ c. c), (λ c. c)); once = sorted-distinct cmp_listed cmp_listed_total listed strict })
