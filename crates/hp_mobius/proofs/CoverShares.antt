-- One cover after another gets its share of a flat's value.
use Rattle.std.specs.Prelude.{◌≡◌, ◌≢◌, ℕ, zero, suc, ◌+◌, ◌<◌, ◌≤◌, true, false, cond, List, [], ◌∷◌, ◌++◌, take, length, Contains, ◌⊎◌, ℤ, pos, ◌+ℤ◌, neg_ℤ}
use Rattle.std.specs.List.{AllPairs}
use Rattle.std.specs.BTreeMap.{BTreeMap, is_at}
use Rattle.std.specs.Map.{lookup}
use Rattle.std.specs.Option.{unwrap_or}
use Rattle.std.specs.Cmp.{Equal-is}
use Rattle.std.specs.Ordering.{is_eq}
use Rattle.std.proofs.Common.{get_or}
use Rattle.std.proofs.lemmas.Int.{ints}
use Rattle.std.proofs.lemmas.List.{take_more, get_or-take, length-take-le}
use Rattle.std.proofs.lemmas.List.Elements.{Contains-append_left, Contains-append_right, Contains-append_cases}
use mathlib.Core.Logic.{inl, inr}
use mathlib.Core.Path.{refl, sym, ap, ◌∙◌, subst}
use native.Mathlib.Omega.{arith}
use Rattle.hp_lists.proofs.Members.{Contains-here, Contains-cases, Contains-none}
use Rattle.hp_sets.specs.Sets.{Set, cmp_listed}
use Rattle.hp_sets.specs.ListedOrder.{cmp_listed_same}
use Rattle.hp_matroid.proofs.Subsets.{decide}
use Rattle.hp_mobius.specs.Partial.{misses_least, noted, IsSmall, share, IsShared}

-- different sets do not compare equal
pub differ : (s h : Set) → h ≢ s → is_eq (cmp_listed s h) ≡ false
differ s h apart = pick (decide (is_eq (cmp_listed s h)))
  where
    pick : (is_eq (cmp_listed s h) ≡ true) ⊎ (is_eq (cmp_listed s h) ≡ false) → is_eq (cmp_listed s h) ≡ false
    pick (inl e) = absurd (apart (sym (cmp_listed_same s h ((Equal-is (cmp_listed s h)).0 e))))
    pick (inr e) = e

-- an empty map has noted nothing
pub noted-none : (sums : BTreeMap Set ℤ) → sums.entries ≡ [] → (g : Set) → noted sums g ≡ pos 0
noted-none sums e g = ap (λ es. unwrap_or (lookup (is_at (cmp_listed g)) es) (pos 0)) e

-- all of a list
pub take-over : {X : Type 0} (xs : List X) (k : ℕ) → length xs ≤ k → take k xs ≡ xs
take-over [] zero l = refl
take-over [] (suc k) l = refl
take-over (x ∷ xs) zero l = absurd (omega (arith, l))
take-over (x ∷ xs) (suc k) l = ap (λ t. x ∷ t) (take-over xs k (omega (arith, l)))

pub shared-start : (f : Set) (value : ℤ) (sums : Set → ℤ) → IsShared f value [] sums sums
shared-start f value sums = record { got = λ g c. absurd (Contains-none g c); rest = λ g c. refl }

module _ (f : Set) (value : ℤ) (covers : List Set) (k : ℕ) (g : Set) (before after : Set → ℤ) (once : AllPairs (λ g h. g ≢ h) covers) (inside : k < length covers) (at : g ≡ get_or covers k g)
    (s : IsShared f value (take k covers) before after) where
  fresh : Contains (take k covers) g → ⊥
  fresh (i, l, e) =
      let long = length-take-le k covers (omega (arith, inside)) in
      let low : i < k = omega (arith, l, long) in
      once i k g low inside (sym (get_or-take k covers i g low) ∙ e ∙ at)

  -- the cover has nothing of the value yet
  pub not-yet : after g ≡ before g
  not-yet = s.rest g fresh

  pub small-sum : ((g : Set) → Contains covers g → IsSmall (before g)) → IsSmall (after g)
  small-sum h = subst IsSmall (sym not-yet) (h g (k, inside, sym at))

  split : (h : Set) → Contains (take (k + 1) covers) h → Contains (take k covers) h ⊎ (g ≡ h)
  split h c = pick (Contains-append_cases (take k covers) (g ∷ []) h (subst (λ xs. Contains xs h) more c))
    where
      more : take (k + 1) covers ≡ take k covers ++ g ∷ []
      more = take_more covers k g inside ∙ ap (λ x. take k covers ++ x ∷ []) (sym at)

      last : (g ≡ h) ⊎ Contains [] h → (g ≡ h)
      last (inl e) = e
      last (inr c) = absurd (Contains-none h c)

      pick : Contains (take k covers) h ⊎ Contains (g ∷ []) h → Contains (take k covers) h ⊎ (g ≡ h)
      pick (inl c) = inl c
      pick (inr c) = inr (last (Contains-cases g [] h c))

  front : (h : Set) → Contains (take k covers) h ⊎ (g ≡ h) → Contains (take (k + 1) covers) h
  front h c = subst (λ xs. Contains xs h) (sym (take_more covers k g inside ∙ ap (λ x. take k covers ++ x ∷ []) (sym at))) (put c)
    where
      put : Contains (take k covers) h ⊎ (g ≡ h) → Contains (take k covers ++ g ∷ []) h
      put (inl c) = Contains-append_left (take k covers) (g ∷ []) h c
      put (inr e) = Contains-append_right (take k covers) (g ∷ []) h (subst (λ x. Contains (g ∷ []) x) e (Contains-here g []))

  -- its share is taken off, and no other sum changes
  pub shared-next : (next : Set → ℤ) → next g ≡ after g +ℤ neg_ℤ (share f value g) → ((h : Set) → h ≢ g → next h ≡ after h) → IsShared f value (take (k + 1) covers) before next
  shared-next next taken others = record {
    got = λ h c. got h (split h c);
    rest = λ h c. others h (λ e. c (front h (inr (sym e)))) ∙ s.rest h (λ d. c (front h (inl d)));
  }
    where
      got : (h : Set) → Contains (take k covers) h ⊎ (g ≡ h) → next h ≡ before h +ℤ neg_ℤ (share f value h)
      got h (inl c) = others h (λ e. fresh (subst (λ x. Contains (take k covers) x) e c)) ∙ s.got h c
      got h (inr e) = subst (λ x. next x ≡ before x +ℤ neg_ℤ (share f value x)) e (taken ∙ ap (λ z. z +ℤ neg_ℤ (share f value g)) not-yet)

  pub shared-taken : (next : Set → ℤ) → misses_least f g ≡ true → next g ≡ after g +ℤ neg_ℤ value → ((h : Set) → h ≢ g → next h ≡ after h) → IsShared f value (take (k + 1) covers) before next
  shared-taken next m taken others = shared-next next (taken ∙ ap (λ b. after g +ℤ neg_ℤ (cond b value (pos 0))) (sym m)) others

  pub shared-left : misses_least f g ≡ false → IsShared f value (take (k + 1) covers) before after
  shared-left m = shared-next after (none (after g) ∙ ap (λ b. after g +ℤ neg_ℤ (cond b value (pos 0))) (sym m)) (λ h n. refl)
    where
      none : (z : ℤ) → z ≡ z +ℤ neg_ℤ (pos 0)
      none z = omega (arith, ints)
