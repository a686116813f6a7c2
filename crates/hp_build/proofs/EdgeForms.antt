-- The forms of a simple graph are not zero, and no two are proportional.
use Rattle.std.proofs.Common.{◌≡◌, ◌≢◌, ℕ, ◌+◌, ◌-◌, ◌<◌, ◌≤◌, min, max, Bool, true, false, List, map, length, take, get_or, Contains, Option, None, sym, ap, ◌∙◌, subst, eq-eqb, leb-true, arith}
use Rattle.std.specs.Prelude.{slice_index_or}
use Rattle.std.proofs.lemmas.Bool.{or_parts, and_parts, and_from, eqb-false, not-false, false≢true}
use Rattle.std.proofs.lemmas.List.{get_or_default, get_or-take, length-take-le}
use Rattle.std.proofs.lemmas.List.Folds.{list_any_at}
use Rattle.std.proofs.lemmas.Simd.{map-map}
use Rattle.hp_lists.specs.Lists.{list_any, Ordered}
use Rattle.hp_algebra.specs.Ring.{RingOf, IsRing}
use Rattle.hp_lists.proofs.Members.{map-Contains}
use Rattle.hp_lists.proofs.Ordered.{Ordered-from_pairs, Ordered-map}
use Rattle.hp_lists.proofs.Firsts.{find-none_at}
use Rattle.hp_build.specs.Families.{difference, graphic}
use Rattle.hp_build.specs.Graphs.{same_edge, is_bad_edge, bad_edge}
use Rattle.hp_build.proofs.FamilyForms.{IsPair, Differ, simple-differences}
use Rattle.hp_build.proofs.Simple.{IsSimple}

-- the ends of an edge, the lesser first
abbrev pub rising : ℕ × ℕ → ℕ × ℕ
rising e = (min e.0 e.1, max e.0 e.1)

-- an edge that is not bad
record IsGood (v : ℕ) (earlier : List (ℕ × ℕ)) (e : ℕ × ℕ) : Type 0 where
  pub pair : IsPair v (rising e)
  pub new : list_any (same_edge e) earlier ≡ false

good-from_test : (v : ℕ) (earlier : List (ℕ × ℕ)) (e : ℕ × ℕ) → is_bad_edge v earlier e ≡ false → IsGood v earlier e
good-from_test v earlier e t =
    let parts = or_parts _ _ t in
    let rest = or_parts _ _ parts.1 in
    let inside = and_parts _ _ (not-false _ rest.0) in
    let apart = eqb-false e.0 e.1 parts.0 in
    let low : 1 ≤ min e.0 e.1 = leb-true 1 (min e.0 e.1) inside.0 in
    let high : max e.0 e.1 ≤ v = leb-true (max e.0 e.1) v inside.1 in
    record { pair = (low, below e.0 e.1 apart, high); new = rest.1 }
  where
    below : (a b : ℕ) → a ≢ b → min a b < max a b
    below a b n = omega (arith, n)

module _ (v : ℕ) (edges : List (ℕ × ℕ)) (none : bad_edge v edges ≡ None) where
  good : (k : ℕ) → k < length edges → IsGood v (take k edges) (get_or edges k (0, 0))
  good k h =
      let same : k + 1 - 1 ≡ k = omega arith in
      let test : ℕ → Bool = λ n. is_bad_edge v (take (n - 1) edges) (slice_index_or edges (n - 1) (0, 0)) in
      let here : test (k + 1) ≡ false = find-none_at test 1 (length edges) none (k + 1) (omega arith) (omega arith) in
      good-from_test v (take k edges) (get_or edges k (0, 0)) (subst (λ n. is_bad_edge v (take n edges) (slice_index_or edges n (0, 0)) ≡ false) same here)

  within : (e : ℕ × ℕ) → Contains (map rising edges) e → IsPair v e
  within e c =
      let found = map-Contains rising edges e c in
      let place = found.1 in
      let good_there = good place.0 place.1 in
      let same : get_or edges place.0 (0, 0) ≡ found.0 = get_or_default edges place.0 (0, 0) found.0 place.1 ∙ place.2 in
      subst (IsPair v) (ap rising same ∙ found.2) good_there.pair

  differ : (i j : ℕ) (d : ℕ × ℕ) → i < j → j < length edges → Differ (rising (get_or edges i d)) (rising (get_or edges j d))
  differ i j d below inside first second =
      let earlier = get_or edges i d in
      let later = get_or edges j d in
      let same_later : get_or edges j (0, 0) ≡ later = get_or_default edges j (0, 0) d inside in
      let joins : same_edge later earlier ≡ true = and_from _ _ (eq-eqb (min later.0 later.1) (min earlier.0 earlier.1) (sym first)) (eq-eqb (max later.0 later.1) (max earlier.0 earlier.1) (sym second)) in
      let new : list_any (same_edge later) (take j edges) ≡ false = subst (λ e. list_any (same_edge e) (take j edges) ≡ false) same_later (good j inside).new in
      let long : length (take j edges) ≡ j = length-take-le j edges (omega (arith, inside)) in
      let taken : get_or (take j edges) i d ≡ earlier = get_or-take j edges i d below in
      false≢true (sym new ∙ list_any_at (same_edge later) (take j edges) i d (omega (arith, long, below)) (ap (same_edge later) taken ∙ joins))

  differ-ordered : Ordered Differ (map rising edges)
  differ-ordered = Ordered-map Differ rising edges (Ordered-from_pairs (λ d e. Differ (rising d) (rising e)) edges differ)

pub graphic-simple : {K : Type 0} {ring : RingOf K} → IsRing ring → ring.one ≢ ring.zero → (v : ℕ) (edges : List (ℕ × ℕ)) (found : Option ℕ)
    → found ≡ bad_edge v edges → found ≡ None → IsSimple ring v (graphic ring v edges).forms
graphic-simple {K = K} {ring = ring} laws one_zero v edges found search nothing =
    let none : bad_edge v edges ≡ None = sym search ∙ nothing in
    let form : ℕ × ℕ → List K = λ e. difference ring v e.0 e.1 in
    subst (IsSimple ring v) (map-map form rising edges)
    (simple-differences laws one_zero v (map rising edges) (within v edges none) (differ-ordered v edges none))
