-- The steps of the loops over the members of a set and over terms.
use Rattle.std.specs.Prelude.{◌≡◌, ◌+◌, ◌-◌, ◌*◌, ◌<◌, ◌≤◌, ◌%◌, ℕ, suc, nat_lt, Bool, true, false, cond, List, [], ◌∷◌, ◌++◌, filter, length, drop, slice_get, Some, None}
use Rattle.std.proofs.Common.{append_assoc}
use Rattle.std.proofs.lemmas.List.Sums.{sum_by-cons, count_by-le-length}
use mathlib.Core.Path.{sym, ap, ◌∙◌, subst}
use native.Mathlib.Omega.{arith}
use Rattle.hp_algebra.specs.Ring.{RingOf, IsRing, IsCommutative}
use Rattle.hp_lists.specs.Lists.{one_to}
use Rattle.hp_lists.proofs.Members.{Contains-here}
use Rattle.hp_sets.specs.Sets.{Set, IsSetWithin, meet, without_member}
use Rattle.hp_sets.proofs.SetLaws.{set_members}
use Rattle.hp_sets.proofs.Places.{drop-set, without-least}
use Rattle.hp_sums.proofs.WeightedSums.{scaled}
use Rattle.hp_exterior.specs.Exterior.{Ext, sign}
use Rattle.hp_exterior.specs.SetSums.{below_in}
use Rattle.hp_exterior.proofs.Crossings.{below-meet, set-size}
use Rattle.hp_exterior.proofs.ProductSteps.{signed_even as even_sign, signed_odd as odd_sign}
use Rattle.hp_os.specs.Straightening.{member_sum, moves, replaced, straight_terms}

module _ {F : Type 0} {ring : RingOf F} (laws : IsRing ring) (commutes : IsCommutative ring) where
  pub signed_even : {c : F} (n : ℕ) → ring.IsValue c → n % 2 ≡ 0 → c ≡ ring.mul c (sign ring n)
  signed_even n v e = even_sign laws commutes n v e

  pub signed_odd : {c d : F} (n : ℕ) → ring.IsValue c → (n % 2 ≡ 0 → ⊥) → d ≡ ring.neg c → d ≡ ring.mul c (sign ring n)
  signed_odd n v e q = odd_sign laws commutes n v e q

-- ---- the members below a number

pub below_count : {s f u : Set} {i k : ℕ} → IsSetWithin 64 s → 1 ≤ i → f ≡ one_to (i - 1) → u ≡ meet s f
    → k ≡ length u → k ≡ below_in s i
below_count {s} {f} {u} {i} {k} h l a b d = d ∙ ap length (b ∙ ap (meet s) a) ∙ below-meet s i h l

pub below_high : {s : Set} (i : ℕ) {k : ℕ} → IsSetWithin 64 s → k ≡ below_in s i → k ≤ 64
below_high {s} i {k} h e =
    let few = count_by-le-length (λ y. nat_lt y i) s in
    let size = set-size s h in
    omega (arith, e, few, size)

-- ---- the first member taken away

pub record IsTaken (rest next : Set) (i : ℕ) : Type 0 where
  pub front : rest ≡ i ∷ next
  pub set : IsSetWithin 64 next
  pub shorter : length next < length rest
  pub low : 1 ≤ i
  pub high : i ≤ 64

pub taken : {rest next : Set} {i : ℕ} → IsSetWithin 64 rest → Some i ≡ slice_get rest 0
    → next ≡ without_member rest i → IsTaken rest next i
taken {rest} {next} {i} h e n = go rest h e (n ∙ without-least rest i h (sym e))
  where
    go : (rest : Set) → IsSetWithin 64 rest → Some i ≡ slice_get rest 0 → next ≡ drop 1 rest → IsTaken rest next i
    go [] h e n = absurd (none e)
      where
        none : Some i ≡ None → ⊥
        none e = cc
    go (x ∷ r) h e n =
        let ix : x ≡ i = same e in
        let m = set_members 64 (x ∷ r) x h (Contains-here x r) in
        let size : length next ≡ length r = ap length n in record {
          front = λ j. ix j ∷ sym n j;
          set = subst (IsSetWithin 64) (sym n) (drop-set 64 1 (x ∷ r) h);
          shorter = omega (arith, size);
          low = subst (λ z. 1 ≤ z) ix m.0;
          high = subst (λ z. z ≤ 64) ix m.1;
        }
      where
        same : Some i ≡ Some x → x ≡ i
        same e = cc

-- ---- the sum of the members

pub record IsAdded (s rest : Set) (total : ℕ) : Type 0 where
  pub set : IsSetWithin 64 rest
  pub small : total + 64 * length rest ≤ 4096
  pub added : total + member_sum rest ≡ member_sum s

pub added_start : {s : Set} → IsSetWithin 64 s → IsAdded s s 0
added_start {s} h = record { set = h; small = (let size = set-size s h in omega (arith, size)); added = omega arith }

pub added_step : {s rest next : Set} {total i : ℕ} → IsAdded s rest total → IsTaken rest next i
    → IsAdded s next (total + i) × (total + i ≤ 4096)
added_step {s} {rest} {next} {total} {i} h t =
    let size : length rest ≡ suc (length next) = ap length t.front in
    let sum : member_sum rest ≡ member_sum (i ∷ next) = ap member_sum t.front in
    let more = sum_by-cons (λ (j : ℕ). j) i next in
    let small = h.small in
    let added = h.added in
    let high = t.high in (
      record { set = t.set; small = omega (arith, size, small, high); added = omega (arith, sum, more, added) },
      omega (arith, size, small, high),
    )

pub added_end : {s rest : Set} {total : ℕ} → IsAdded s rest total → rest ≡ [] → (total ≡ member_sum s) × (total ≤ 4096)
added_end {s} {rest} {total} h e =
    let none : member_sum rest ≡ 0 = ap member_sum e in
    let small = h.small in
    let added = h.added in
    (omega (arith, none, added), omega (arith, small))

-- ---- terms by their sums

pub split_step : {X : Type 0} (p : X → Bool) (out : List X) {more start xs rest : List X} {t : X}
    → out ++ filter p xs ≡ start → xs ≡ t ∷ rest
    → p t ≡ true → more ≡ out ++ t ∷ [] → more ++ filter p rest ≡ start
split_step p out {more} {start} {xs} {rest} {t} h e q f =
    ap (λ o. o ++ filter p rest) f ∙ append_assoc out (t ∷ []) (filter p rest)
    ∙ ap (λ r. out ++ r) (sym (ap (filter p) e ∙ ap (λ b. cond b (t ∷ filter p rest) (filter p rest)) q)) ∙ h

pub split_skip : {X : Type 0} (p : X → Bool) (out : List X) {start xs rest : List X} {t : X}
    → out ++ filter p xs ≡ start → xs ≡ t ∷ rest
    → p t ≡ false → out ++ filter p rest ≡ start
split_skip p out {start} {xs} {rest} {t} h e q =
    ap (λ r. out ++ r) (sym (ap (filter p) e ∙ ap (λ b. cond b (t ∷ filter p rest) (filter p rest)) q)) ∙ h

-- ---- the terms that straighten one

pub straight_step : {F : Type 0} (ring : RingOf F) (s : Set) (c : F) (i : ℕ) (out : Ext F) {more start : Ext F} {rest next u : Set} {b k : ℕ} {z : F}
    → out ++ scaled ring c (straight_terms ring s i rest) ≡ start → IsTaken rest next b → u ≡ replaced s b i
    → k ≡ moves s i b
    → z ≡ ring.mul c (sign ring k) → more ≡ out ++ (u, z) ∷ []
    → more ++ scaled ring c (straight_terms ring s i next) ≡ start
straight_step ring s c i out {more} {start} {rest} {next} {u} {b} {k} {z} h t eu ek ez f =
    let term : z ≡ ring.mul c (sign ring (moves s i b)) = ez ∙ ap (λ j. ring.mul c (sign ring j)) ek in
    ap (λ o. o ++ scaled ring c (straight_terms ring s i next)) f ∙ append_assoc out ((u, z) ∷ []) (scaled ring c (straight_terms ring s i next))
    ∙ ap (λ r. out ++ r) ((λ j. (eu j, term j) ∷ scaled ring c (straight_terms ring s i next)) ∙ sym (ap (λ v. scaled ring c (straight_terms ring s i v)) t.front)) ∙ h
