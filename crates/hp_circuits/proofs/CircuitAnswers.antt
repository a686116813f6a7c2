-- What the search for circuits found, sorted, is the list of the circuits.
use Rattle.std.specs.Prelude.{◌≡◌, ◌≢◌, ◌↔◌, ◌⊎◌, ℕ, suc, ◌+◌, ◌≤◌, ◌<◌, true, false, List, [], ◌∷◌, ◌++◌, length, Contains}
use Rattle.std.specs.List.Sorted.{IsStrictlySortedBy, IsSorted, IsPermutation}
use Rattle.std.specs.declared.cmp.Ordering.{Ordering}
use Rattle.std.specs.declared.cmp.Ordering.TheVariants.{Less, Equal, Greater}
use Rattle.std.specs.Ordering.{ordering_reverse, is_lt}
use Rattle.std.proofs.Common.{get_or}
use Rattle.std.proofs.lemmas.List.{length-append}
use Rattle.std.proofs.lemmas.List.Elements.{Contains-append_left, Contains-append_right}
use Rattle.std.proofs.lemmas.List.Sorted.{Contains-permutation, IsPermutation-sym, length_permutation}
use mathlib.Core.Logic.{inl, inr}
use mathlib.Core.Path.{refl, sym, ap, ◌∙◌, subst}
use native.Mathlib.Omega.{arith}
use Rattle.hp_lists.specs.Lists.{Ordered}
use Rattle.hp_lists.proofs.Distinct.{Distinct, sorted-distinct}
use Rattle.hp_lists.proofs.Insertions.{once-few}
use Rattle.hp_lists.proofs.Members.{Contains-here, Contains-later, Contains-cases, Contains-none, Contains-filter, filter-Contains, not_both}
use Rattle.hp_lists.proofs.Ordered.{Ordered-filter, sorted_of, sorted-ext}
use Rattle.hp_sets.specs.ListedOrder.{cmp_listed_total, cmp_listed_same}
use Rattle.hp_sets.specs.Sets.{Set, IsSetWithin, cmp_listed, sets_within}
use Rattle.hp_sets.proofs.SetLists.{IsListedBefore, sets-complete, sets-rise}
use Rattle.hp_arr.specs.Circuits.{circuits}
use Rattle.hp_arr.specs.Flats.{is_circuit}
use Rattle.hp_arr.proofs.Setting.{Setting, n}
use Rattle.hp_circuits.specs.CircuitSteps.{searched}
use Rattle.hp_circuits.specs.Laters.{AreLater}
use Rattle.hp_circuits.proofs.CircuitClosures.{Circuit}
use Rattle.hp_circuits.proofs.CircuitList.{start, search-start, circuits_found, circuits-found, circuits-once}
use Rattle.hp_circuits.proofs.CircuitPruning.{pruned-same}
use Rattle.hp_circuits.proofs.Remainders.{fails-row}
use Rattle.hp_circuits.proofs.SortedSets as sets
use Rattle.hp_circuits.proofs.SortedSets.{sorted-listed}

module _ {K : Type 0} (S : Setting K) where
  open S use {ring, inverse, numbers, arr}

  -- ---- the list of the definition

  pub circuits-complete : (U : Set) → Contains (circuits ring numbers arr) U ↔ (IsSetWithin (n S) U × Circuit S U)
  unfolding circuits
  circuits-complete U = (
    (λ c. let d = filter-Contains (is_circuit ring numbers arr) (sets_within (n S)) U c in ((sets-complete (n S) U).0 d.0, d.1)),
    λ h. Contains-filter (is_circuit ring numbers arr) (sets_within (n S)) U ((sets-complete (n S) U).1 h.0) h.1,
  )

  pub circuits-rise : IsStrictlySortedBy cmp_listed (circuits ring numbers arr)
  unfolding circuits
  circuits-rise = sorted_of cmp_listed (circuits ring numbers arr) (Ordered-filter IsListedBefore (is_circuit ring numbers arr) (sets_within (n S)) (sets-rise (n S)))

  -- ---- what the search finds from the empty set and all forms

  abbrev pub all_found : List Set
  all_found = searched S.ring S.inverse [] (start S)

  same : all_found ≡ circuits_found S
  same = pruned-same S (length (start S)) [] (start S) (omega arith) (search-start S)

  -- all forms may be searched
  pub later-start : n S ≤ 64 → AreLater ring [] (start S)
  later-start few =
      let H = search-start S in
      record {
        rising = H.rising;
        above = λ d c k m. absurd (Contains-none k m);
        numbers = λ d c. let i = H.index d c in (i.0, omega (arith, i.1, few));
        widths = λ d e c f. (H.expressed d c).remainder.row.0 ∙ sym (H.expressed e f).remainder.row.0;
        counts = λ d c. (H.expressed d c).count;
        values = λ d c. (H.expressed d c).remainder.row.1;
        nonzero = λ d c. fails-row S d.rest (H.expressed d c).remainder.row (H.apart d c);
      }

  -- the sets that the search finds are the circuits
  found-is : (U : Set) → Contains (circuits_found S) U ↔ Contains (circuits ring numbers arr) U
  found-is U = ((λ c. (circuits-complete U).1 ((circuits-found S U).0 c)), λ c. (circuits-found S U).1 ((circuits-complete U).0 c))

  -- it finds as many as there are,
  pub found-count : length all_found ≡ length (circuits ring numbers arr)
  found-count = ap (λ (zs : List Set). length zs) same
      ∙ sets.found-count (circuits_found S) (circuits ring numbers arr) (circuits-once S) circuits-rise found-is

  -- and sorted they are the list.
  pub found-sorted : (ys : List Set) → IsPermutation all_found ys → IsSorted cmp_listed ys
      → ys ≡ circuits ring numbers arr
  found-sorted ys p s =
      sorted-listed (circuits_found S) ys (circuits ring numbers arr) (circuits-once S)
      (subst (λ (zs : List Set). IsPermutation zs ys) same p) s circuits-rise found-is
