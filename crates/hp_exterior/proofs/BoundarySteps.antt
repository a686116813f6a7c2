-- The steps of the loop that writes the terms of a boundary.
use Rattle.std.specs.Prelude.{◌≡◌, ◌⊎◌, ◌+◌, ◌<◌, ◌≤◌, ℕ, zero, suc, List, [], ◌∷◌, ◌++◌, map, length, drop, remove, slice_get, slice_index_or, Some, None, Contains}
use Rattle.std.specs.List.{range_with_len}
use Rattle.std.proofs.Common.{append_assoc, append-nil}
use mathlib.Core.Logic.{inl, inr}
use mathlib.Core.Path.{refl, sym, ap, ◌∙◌, subst}
use native.Mathlib.Omega.{arith}
use Rattle.hp_algebra.specs.Ring.{RingOf, IsRing, IsCommutative}
use Rattle.hp_lists.proofs.Members.{each-All, Contains-here, Contains-later, Contains-cases}
use Rattle.hp_lists.proofs.Ordered.{Rises, rises_of, increasing_of}
use Rattle.hp_lists.proofs.Removals.{remove-cases, remove-Contains}
use Rattle.hp_sets.specs.Sets.{Set, IsSetWithin, without_member}
use Rattle.hp_sets.proofs.SetLaws.{set-ext, set_members}
use Rattle.hp_sets.proofs.SetMembers.{members-without, without-members, without-set}
use Rattle.hp_sets.proofs.Places.{drop-more, drop-set, get-drop, without-least}
use Rattle.hp_exterior.specs.Exterior.{boundary_terms, sign}
use Rattle.hp_exterior.proofs.Negations.{minus_one, mul_neg}
use Rattle.hp_exterior.specs.ExteriorRing.{sign-value}

remove-gone : (s : Set) (k i : ℕ) → Rises s → slice_get s k ≡ Some i → Contains (remove s k) i → ⊥
remove-gone [] k i r e c = absurd (none e)
  where
    none : None ≡ Some i → ⊥
    none e = cc
remove-gone (x ∷ s) zero i r e c = above x i (same e) (r.0 i c)
  where
    same : Some x ≡ Some i → x ≡ i
    same e = cc

    above : (x i : ℕ) → x ≡ i → x < i → ⊥
    above x i e l = omega arith
remove-gone (x ∷ s) (suc k) i r e c = pick (Contains-cases x (remove s k) i c) (λ d. remove-gone s k i r.1 e d)
  where
    above : (x i : ℕ) → x ≡ i → x < i → ⊥
    above x i e l = omega arith

    pick : (x ≡ i) ⊎ Contains (remove s k) i → (Contains (remove s k) i → ⊥) → ⊥
    pick (inl d) f = above x i d (r.0 i (at s k e))
      where
        at : (s : Set) (k : ℕ) → slice_get s k ≡ Some i → Contains s i
        at [] k e = absurd (none e)
          where
            none : None ≡ Some i → ⊥
            none e = cc
        at (y ∷ s) zero e = subst (Contains (y ∷ s)) (same e) (Contains-here y s)
          where
            same : Some y ≡ Some i → y ≡ i
            same e = cc
        at (y ∷ s) (suc k) e = Contains-later y s i (at s k e)
    pick (inr d) f = f d

remove-rises : (s : Set) (k : ℕ) → Rises s → Rises (remove s k)
remove-rises [] zero r = tt
remove-rises [] (suc k) r = tt
remove-rises (x ∷ s) zero r = r.1
remove-rises (x ∷ s) (suc k) r = ((λ y c. r.0 y (remove-Contains k s y c)), remove-rises s k r.1)

pub remove-set : (n : ℕ) (s : Set) (k : ℕ) → IsSetWithin n s → IsSetWithin n (remove s k)
remove-set n s k h = record {
  rising = increasing_of (remove s k) (remove-rises s k (rises_of s h.rising));
  members = each-All (λ i. (1 ≤ i) × (i ≤ n)) (remove s k) (λ i c. set_members n s i h (remove-Contains k s i c));
}

get-found : (s : Set) (k i d : ℕ) → slice_get s k ≡ Some i → slice_index_or s k d ≡ i
get-found [] k i d e = none e
  where
    none : None ≡ Some i → d ≡ i
    none e = cc
get-found (x ∷ s) zero i d e = same e
  where
    same : Some x ≡ Some i → x ≡ i
    same e = cc
get-found (x ∷ s) (suc k) i d e = get-found s k i d e

-- the set without the member at a place
pub without-remove : (s : Set) (k i : ℕ) → IsSetWithin 64 s → slice_get s k ≡ Some i → without_member s i ≡ remove s k
without-remove s k i h e =
    set-ext 64 64 (without_member s i) (remove s k) (without-set 64 s i h) (remove-set 64 s k h)
    (λ j c. let d = without-members s i j c in pick j d.1 (remove-cases k s 0 j d.0))
    (λ j c. members-without s i j h (remove-Contains k s j c) (λ f. remove-gone s k i (rises_of s h.rising) e (subst (Contains (remove s k)) (sym f) c)))
  where
    pick : (j : ℕ) → (i ≡ j → ⊥) → (slice_index_or s k 0 ≡ j) ⊎ Contains (remove s k) j → Contains (remove s k) j
    pick j n (inl f) = absurd (n (sym (get-found s k i 0 e) ∙ f))
    pick j n (inr c) = c

module _ {F : Type 0} (ring : RingOf F) where
  -- the terms from a place on
  abbrev pub terms_from : Set → F → ℕ → ℕ → List (Set × F)
  terms_from s c k n = map (λ (u : Set × F). (u.0, ring.mul c u.1)) (map (λ j. (remove s j, sign ring j)) (range_with_len k n))

  -- What is left are the members from a place on; what is written, with their terms, is the whole.
  pub record IsDropping (s : Set) (c : F) (rest : Set) (turned : F) (first out : List (Set × F)) : Type 0 where
    pub set : IsSetWithin 64 s
    pub value : ring.IsValue c
    pub place : ℕ
    pub rest_is : rest ≡ drop place s
    pub turned_is : turned ≡ ring.mul c (sign ring place)
    pub written : out ++ terms_from s c place (length rest) ≡ first ++ boundary_terms ring s c

module _ {F : Type 0} {ring : RingOf F} (laws : IsRing ring) (commutes : IsCommutative ring) where
  pub dropping_start : {s : Set} {c : F} (first : List (Set × F)) → IsSetWithin 64 s → ring.IsValue c
      → IsDropping ring s c s c first first
  dropping_start {s} {c} first h v = record {
    set = h;
    value = v;
    place = 0;
    rest_is = refl;
    turned_is = sym (laws.mul_one c v);
    written = refl;
  }

  pub dropping_smaller : {s rest next : Set} {c turned : F} {i : ℕ} {first out : List (Set × F)}
      → IsDropping ring s c rest turned first out → Some i ≡ slice_get rest 0 → next ≡ without_member rest i
      → length next < length rest
  dropping_smaller {s} {rest} {next} {c} {turned} {i} {first} {out} h e n =
      go rest e (n ∙ without-least rest i (subst (IsSetWithin 64) (sym h.rest_is) (drop-set 64 h.place s h.set)) (sym e))
    where
      go : (rest : Set) → Some i ≡ slice_get rest 0 → next ≡ drop 1 rest → length next < length rest
      go [] e n = absurd (none e)
        where
          none : Some i ≡ None → ⊥
          none e = cc
      go (x ∷ r) e n = omega (arith, ap (λ (z : Set). length z) n)

  pub dropping_step : {s rest gone next : Set} {c turned after : F} {i : ℕ} {first out more : List (Set × F)}
      → IsDropping ring s c rest turned first out → Some i ≡ slice_get rest 0 → gone ≡ without_member s i
      → more ≡ out ++ (gone, turned) ∷ [] → after ≡ ring.neg turned → next ≡ without_member rest i
      → IsDropping ring s c next after first more
  dropping_step {s} {rest} {gone} {next} {c} {turned} {after} {i} {first} {out} {more} h e a w b n =
      let k = h.place in
      let hr : IsSetWithin 64 rest = subst (IsSetWithin 64) (sym h.rest_is) (drop-set 64 k s h.set) in
      let found : slice_get s k ≡ Some i = sym (get-drop s k) ∙ sym (ap (λ z. slice_get z 0) h.rest_is) ∙ sym e in
      let left : next ≡ drop 1 rest = n ∙ without-least rest i hr (sym e) in
      let term : gone ≡ remove s k = a ∙ without-remove s k i h.set found in
      let sk = sign-value laws commutes k in
      let turn : after ≡ ring.mul c (sign ring (k + 1)) =
      b ∙ ap ring.neg h.turned_is ∙ sym (ap (ring.mul c) (ap (sign ring) (one_more k) ∙ minus_one laws _ sk) ∙ mul_neg laws commutes c _ h.value sk) in record {
        set = h.set;
        value = h.value;
        place = k + 1;
        rest_is = left ∙ ap (drop 1) h.rest_is ∙ drop-more s k;
        turned_is = turn;
        written =
            ap (λ o. o ++ terms_from ring s c (k + 1) (length next)) w
            ∙ append_assoc out ((gone, turned) ∷ []) (terms_from ring s c (k + 1) (length next))
            ∙ ap (λ r. out ++ r)
            ((λ j. (term j, h.turned_is j) ∷ terms_from ring s c (k + 1) (length next)) ∙ ap (terms_from ring s c k) (longer rest e left))
            ∙ h.written;
      }
    where
      one_more : (k : ℕ) → k + 1 ≡ suc k
      one_more k = omega arith

      longer : (rest : Set) → Some i ≡ slice_get rest 0 → next ≡ drop 1 rest → suc (length next) ≡ length rest
      longer [] e n = none e
        where
          none : Some i ≡ None → suc (length next) ≡ 0
          none e = cc
      longer (x ∷ r) e n = ap (λ z. suc (length z)) n

  pub dropping_end : {s rest : Set} {c turned : F} {first out : List (Set × F)}
      → IsDropping ring s c rest turned first out
      → rest ≡ [] → out ≡ first ++ boundary_terms ring s c
  dropping_end {s} {rest} {c} {turned} {first} {out} h e =
      sym (append-nil out) ∙ sym (ap (λ n. out ++ terms_from ring s c h.place n) (ap (λ (z : Set). length z) e)) ∙ h.written
