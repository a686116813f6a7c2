-- The keys of the members of a level, sorted; and the ranks that are read off them.
use Rattle.std.specs.Prelude.{◌≡◌, ◌≢◌, ◌⊎◌, ℕ, ◌+◌, ◌<◌, ◌≤◌, Bool, true, false, List, [], map, length, All, set, slice_index_or}
use Rattle.std.specs.declared.cmp.Ordering.TheVariants.{Less}
use Rattle.std.specs.Ordering.{is_lt, nat_cmp}
use Rattle.std.specs.Cmp.{IsStrictWeakOrder, IsTotalOrder, nat_cmp_total, on_total, then_total, tied_itself}
use Rattle.std.specs.Cmp.Lexicographic.{nat_list_cmp_total}
use Rattle.std.specs.List.Sorted.{IsPermutation, IsSortedBy}
use Rattle.std.proofs.lemmas.Bool.{cases_eq, cases_lt, true≢false}
use Rattle.std.proofs.lemmas.Grind.{get_or-set_at}
use Rattle.std.proofs.lemmas.List.{get_or_default}
use Rattle.std.proofs.lemmas.List.FromFn.{get_or-map-range_with_len, length-map-range_with_len}
use Rattle.std.proofs.lemmas.List.Sorted.{All-permutation, Contains-permutation, length_permutation, ranks_by, sorted_far}
use mathlib.Core.Logic.{inl, inr}
use mathlib.Core.Path.{refl, sym, ap, ◌∙◌, subst}
use native.Mathlib.Omega.{arith}
use Rattle.hp_lists.specs.Lists.{below}
use Rattle.hp_syzygy.specs.FrameLevels.{Level, level_lead}
use Rattle.hp_syzygy.specs.MemberRanks.{AreSortedKeys, Key, key_order, member_key, member_order, place}

pub key-total : IsTotalOrder key_order
key-total =
    then_total (on_total (λ (x : Key). x.0) nat_cmp_total)
    (then_total (on_total (λ (x : Key). Rattle.std.specs.Prelude.reverse x.1) nat_list_cmp_total)
    (on_total (λ (x : Key). x.2) nat_cmp_total))

abbrev pub is_before : Key → Key → Bool
is_before x y = is_lt (key_order x y)

pub is_before-order : IsStrictWeakOrder is_before
is_before-order = ranks_by key-total (λ (z : Key). z)

abbrev no_key : Key
no_key = (0, [], 0)

module _ {F : Type 0} (v : Level F) (keys sorted : List Key) (is : keys ≡ map (member_key v) (below (length v.leads)))
    (moved : IsPermutation keys sorted) (in_order : IsSortedBy is_before sorted) where
  abbrev IsKey : Key → Type 0
  IsKey x = (x.2 < length v.leads) × (x ≡ member_key v x.2)

  first : All (λ x. (x.2 < length v.leads) × (x ≡ member_key v x.2)) (map (member_key v) (below (length v.leads)))
  first k d l =
      let b : k < length v.leads = omega (arith, l, length-map-range_with_len (member_key v) 0 (length v.leads)) in
      let e = get_or-map-range_with_len (member_key v) 0 (length v.leads) k k d b (omega arith) in
      subst IsKey (sym e) (b, refl)

  own : All (λ x. (x.2 < length v.leads) × (x ≡ member_key v x.2)) sorted
  own = All-permutation IsKey keys sorted moved (subst (All IsKey) (sym is) first)

  pub keys-sorted : AreSortedKeys v sorted
  keys-sorted = record {
    inside = λ k l. (own k no_key l).0;
    all = λ i l.
        (let b : i < length (map (member_key v) (below (length v.leads))) = omega (arith, l, length-map-range_with_len (member_key v) 0 (length v.leads)) in
        let e = get_or-map-range_with_len (member_key v) 0 (length v.leads) i i (member_key v i) l (omega arith) in
        let c = Contains-permutation keys sorted (member_key v i) moved
        (subst (λ xs. Rattle.std.specs.Prelude.Contains xs (member_key v i)) (sym is) (i, b, e)) in
        (c.0, c.1, ap (λ (x : Key). x.2) (get_or_default sorted c.0 no_key (member_key v i) c.1 ∙ c.2)));
    in_order = λ k m a b e.
        (let far = sorted_far is_before is_before-order sorted in_order k m no_key (omega (arith, a)) b in
        let x = (own k no_key (omega (arith, a, b))).1 in
        let y = (own m no_key b).1 in
        true≢false (sym (ap is_lt ((λ i. key_order (y i) (x i)) ∙ e)) ∙ far));
  }

-- The ranks that have been given when k keys have been gone through: at the place of an earlier key the number of a key with
-- this place.
abbrev pub AreGiven : List Key → ℕ → List ℕ → Type 0
AreGiven keys k ranks =
    (m : ℕ) → m < k → (slice_index_or ranks (place keys m) 0 < k) × (place keys (slice_index_or ranks (place keys m) 0) ≡ place keys m)

pub given-none : (keys : List Key) (ranks : List ℕ) → AreGiven keys 0 ranks
given-none keys ranks m l = absurd (omega (arith, l))

pub given-more : (keys : List Key) (k : ℕ) (ranks : List ℕ) → place keys k < length ranks → AreGiven keys k ranks
    → AreGiven keys (k + 1) (set ranks (place keys k) k)
given-more keys k ranks b h m l = elim (cases_eq (place keys m) (place keys k)) [
  | inl e ↦
      let r = get_or-set_at ranks (place keys k) (place keys m) k 0 e b in
      (omega (arith, r), ap (place keys) r ∙ sym e)
  | inr n ↦
      let before : m < k = elim (cases_eq m k) [
        | inl e ↦ absurd (n (ap (place keys) e))
        | inr o ↦ omega (arith, l, o)
      ] in
      let r = Rattle.std.proofs.lemmas.List.get_or-set_other ranks (place keys k) (place keys m) k 0 n in
      let g = h m before in
      (omega (arith, r, g.0), ap (place keys) r ∙ g.1)
]

-- once all keys have been gone through, what comes before has a smaller rank
pub rank-less : {F : Type 0} (v : Level F) (keys : List Key) (ranks : List ℕ) → AreSortedKeys v keys → AreGiven keys (length keys) ranks
    → (j i : ℕ) → j < length v.leads → i < length v.leads → member_order v j i ≡ Less
    → slice_index_or ranks j 0 < slice_index_or ranks i 0
rank-less v keys ranks s h j i lj li e =
    let of_j = given j lj in
    let of_i = given i li in
    let a = slice_index_or ranks j 0 in
    let b = slice_index_or ranks i 0 in
    elim (cases_lt a b) [
      | inl l ↦ l
      | inr l ↦ elim (cases_eq a b) [
        | inl same ↦
            let q = sym of_j.1 ∙ ap (place keys) same ∙ of_i.1 in
            absurd (less_itself (sym (ap (λ k. member_order v k i) q) ∙ e))
        | inr o ↦
            let n = s.in_order b a (omega (arith, l, o)) of_j.0 in
            absurd (n ((λ k. member_order v (of_j.1 k) (of_i.1 k)) ∙ e))
      ]
    ]
  where
    given : (i : ℕ) → i < length v.leads → (slice_index_or ranks i 0 < length keys) × (place keys (slice_index_or ranks i 0) ≡ i)
    given i l =
        let c = s.all i l in
        let g = h c.0 c.1 in
        subst (λ p. (slice_index_or ranks p 0 < length keys) × (place keys (slice_index_or ranks p 0) ≡ p)) c.2 g

    less_itself : member_order v i i ≢ Less
    less_itself f = let q = sym (tied_itself key-total (member_key v i)) ∙ f in absurd (cc)
