-- Möbius values of an affine arrangement from the covers: the sums that flats get from those before them, and how large they are.
use Rattle.std.specs.Prelude.{nat_lt, ◌≡◌, ◌≢◌, ℕ, zero, suc, ◌+◌, ◌-◌, ◌^◌, ◌<◌, ◌≤◌, ◌==◌, Bool, true, false, cond, not, ◌&&◌, List, [], ◌∷◌, ◌++◌, map, take, drop, length, filter, Contains, ◌⊎◌, ℤ, pos, ◌+ℤ◌, ◌*ℤ◌, neg_ℤ}
use Rattle.std.specs.Cmp.{both_ways}
use Rattle.std.specs.BTreeMap.{BTreeMap}
use Rattle.std.specs.declared.cmp.Ordering.{Ordering}
use Rattle.std.specs.declared.cmp.Ordering.TheVariants.{Less, Equal, Greater}
use Rattle.std.specs.Ordering.{ordering_then}
use Rattle.std.proofs.Common.{get_or}
use Rattle.std.proofs.lemmas.Bool.{eqb-true, eq-eqb, ne_eqb, ltb-true}
use Rattle.std.proofs.lemmas.Int.{ints}
use Rattle.std.proofs.lemmas.List.{take-append-drop, take_more, map_more}
use Rattle.std.proofs.lemmas.List.Elements.{Contains-append_left, Contains-append_right}
use Rattle.std.proofs.Math.Seq.{drop-cons, take-length}
use Rattle.hp_arr.specs.Arrangement.{max_dim, max_forms}
use mathlib.Core.Logic.{inl, inr}
use mathlib.Core.Path.{refl, sym, ap, ◌∙◌, subst}
use native.Mathlib.Omega.{arith}
use Rattle.hp_algebra.specs.Integers.{sign, sum_over}
use Rattle.hp_lists.proofs.Members.{second_true, not_both, Contains-here, Contains-cases}
use Rattle.hp_lists.specs.Lists.{Ordered}
use Rattle.hp_lists.proofs.Ordered.{ordered_of}
use Rattle.hp_sets.specs.Sets.{Set, contains, is_within, sets_within, cmp_listed}
use Rattle.hp_sets.specs.declared.flat.Flat.{Flat}
use Rattle.hp_sets.proofs.SetLaws.{Contains-contains}
use Rattle.hp_arr.specs.Flats.{cmp_ranked, rank, flats, flats_of_rank, is_flat, IsFlat}
use Rattle.hp_arr.specs.Moebius.{mobius, rank_sum}
use Rattle.hp_arr.proofs.ConePoints.{AffineSetting, n}
use Rattle.hp_arr.proofs.FlatList.{flats-complete, flats-rise}
use Rattle.hp_flats.specs.Covers.{IsCoverList}
use Rattle.hp_matroid.specs.Matroids.{same_set, is_nbc}
use Rattle.hp_matroid.proofs.Subsets.{clash, sum_over-append}
use Rattle.hp_matroid.proofs.Expansion.{sum_over-filter}
use Rattle.hp_matroid.proofs.Signs.{sign_sign}
use Rattle.hp_mobius.specs.Partial.{misses_least, noted, value_from, IsSmall, IsShared, gain, partial, IsAddedUp}
use Rattle.hp_arr.proofs.ConeMatroids.{affine_matroid, central}
use Rattle.hp_flats.proofs.RankLevels.{first-rank, least-flat}
use Rattle.hp_arr.proofs.MobiusValues.{coefficient-nbc, mobius-meets, mobius-nbc, mobius-by_coatoms, closure-count, size-count}
use Rattle.hp_mobius.proofs.SignedSums.{sign-sum, sign-turn, small-from, none-signed, terms}
use Rattle.hp_mobius.proofs.LevelSums.{sum-same, sum-none, sum-rank}

ordered-end : {X : Type 0} (R : X → X → Type 0) (xs ys : List X) → Ordered R (xs ++ ys) → Ordered R ys
ordered-end R [] ys o = o
ordered-end R (x ∷ xs) ys o = ordered-end R xs ys o.1

-- a flat that comes before another has no greater rank
before-low : (f g : Flat) → cmp_ranked f g ≡ Less → f.rank ≤ g.rank
before-low f g e = step (nat_lt f.rank g.rank) refl (f.rank == g.rank) refl e
  where
    o : Ordering
    o = cmp_listed f.set g.set

    step : (l : Bool) → nat_lt f.rank g.rank ≡ l → (b : Bool) → (f.rank == g.rank) ≡ b → ordering_then (cond l Less (cond b Equal Greater)) (cmp_listed f.set g.set) ≡ Less → f.rank ≤ g.rank
    step true p b q h = let l = ltb-true f.rank g.rank p in omega (arith, l)
    step false p true q h = let l = eqb-true f.rank g.rank q in omega (arith, l)
    step false p false q h = cc

suc-test : (a b : ℕ) → (suc a == suc b) ≡ (a == b)
suc-test a b = both_ways (suc a == suc b) (a == b) (λ e. eq-eqb a b (less a b (eqb-true (suc a) (suc b) e))) (λ e. eq-eqb (suc a) (suc b) (ap suc (eqb-true a b e)))
  where
    less : (a b : ℕ) → suc a ≡ suc b → a ≡ b
    less a b e = omega arith

shut : (a b d : Bool) (x : ℤ) → d ≡ false → cond (a && (b && d)) x (pos 0) ≡ pos 0
shut true true d x e = ap (λ c. cond c x (pos 0)) e
shut true false d x e = refl
shut false b d x e = refl

module _ {K : Type 0} (S : AffineSetting K) where
  open S use {ring, numbers, arr}

  abbrev mu : Set → ℤ
  mu f = mobius S.ring S.numbers S.arr f

  abbrev rk : Set → ℕ
  rk f = rank S.ring S.numbers S.arr f

  abbrev Flats : Set → Type 0
  Flats f = IsFlat S.ring S.numbers S.arr f

  abbrev all : List Flat
  all = flats S.ring S.numbers S.arr

  abbrev gained : Set → Set → ℤ
  gained g f = gain S.ring S.numbers S.arr g f

  -- a flat with a member has a rank above 0
  rank-some : (g : Set) → Flats g → g ≢ [] → rk g ≡ suc (rk g - 1)
  rank-some g is n = step (rk g) refl
    where
      next : (r : ℕ) → suc r ≡ suc (suc r - 1)
      next r = omega arith

      step : (r : ℕ) → rk g ≡ r → r ≡ suc (r - 1)
      step zero e = absurd (n (least-flat S g is e))
      step (suc r) e = next r

  -- ---- the value is the sum over all flats

  turn : (a b c d e : Bool) (x : ℤ) → d ≡ e → cond (a && (b && (c && d))) x (pos 0) ≡ cond (a && e) (cond (b && (c && d)) x (pos 0)) (pos 0)
  turn false b c d e x p = refl
  turn true b c d true x p = refl
  turn true b c d false x p = shut b c d x p

  only : (b c d e : Bool) (x : ℤ) → d ≡ e → cond (b && (c && d)) x (pos 0) ≡ cond e (cond (b && (c && d)) x (pos 0)) (pos 0)
  only b c d true x p = refl
  only b c d false x p = shut b c d x p

  whole : (g : Set) → Flats g → g ≢ [] → mu g ≡ partial ring numbers arr all g
  unfolding partial flats_of_rank
  whole [] is apart = absurd (apart refl)
  whole (i ∷ t) is apart =
      mobius-by_coatoms S g i is (Contains-contains g i (Contains-here i t))
      ∙ ap neg_ℤ (sum_over-filter mu (λ f. is_flat ring numbers arr f && (is_within f g && (not (contains f i) && (suc (rk f) == rk g)))) (sets_within (n S))
      ∙ sum-same _ _ (sets_within (n S)) (λ f c. turn (is_flat ring numbers arr f) (is_within f g) (not (contains f i)) (suc (rk f) == rk g) (rk f == r) (mu f) (test f))
      ∙ sym (sum_over-filter (gained g) (λ f. is_flat ring numbers arr f && (rk f == r)) (sets_within (n S)))
      ∙ sym (sum-rank S r (gained g))
      ∙ sum-same (λ f. cond (f.rank == r) (gained g f.set) (pos 0)) (λ f. gained g f.set) all (λ f c. sym (
      only (is_within f.set g) (misses_least f.set g) (suc (rk f.set) == rk g) (f.rank == r) (mu f.set) (test f.set ∙ ap (λ k. k == r) (sym ((flats-complete S f).0 c).1)))))
    where
      g : Set
      g = i ∷ t

      r : ℕ
      r = rk (i ∷ t) - 1

      test : (f : Set) → (suc (rk f) == rk (i ∷ t)) ≡ (rk f == rk (i ∷ t) - 1)
      test f = ap (λ k. suc (rk f) == k) (rank-some (i ∷ t) is apart) ∙ suc-test (rk f) (rk (i ∷ t) - 1)

  -- ---- what comes from the flats before

  -- later flats give nothing
  late : (f : Flat) (rest : List Flat) → ((h : Flat) → Contains rest h → (f.rank ≤ h.rank) × (h.rank ≡ rk h.set)) → f.rank ≡ rk f.set → sum_over (λ h. gained f.set h.set) rest ≡ pos 0
  late f rest h e =
      sum-same (λ h. gained f.set h.set) (λ h. pos 0) rest (λ x c.
      let w = h x c in
      shut (is_within x.set f.set) (misses_least x.set f.set) (suc (rk x.set) == rk f.set) (mu x.set) (ne_eqb (suc (rk x.set)) (rk f.set) (λ p. omega (arith, w.0, w.1, e, p))))
      ∙ sum-none rest

  before : (done : List Flat) (f : Flat) (rest : List Flat) → done ++ f ∷ rest ≡ all → partial ring numbers arr all f.set ≡ partial ring numbers arr done f.set
  unfolding partial
  before done f rest e =
      ap (λ fs. neg_ℤ (sum_over (λ h. gained f.set h.set) fs)) (sym e)
      ∙ ap neg_ℤ (sum_over-append (λ h. gained f.set h.set) done (f ∷ rest) ∙ nothing _ _ (late f (f ∷ rest) low (ranked f (Contains-here f rest))))
    where
      nothing : (a b : ℤ) → b ≡ pos 0 → a +ℤ b ≡ a
      nothing a b e = omega (arith, ints)

      ranked : (h : Flat) → Contains (f ∷ rest) h → h.rank ≡ rk h.set
      ranked h c = ((flats-complete S h).0 (subst (λ fs. Contains fs h) e (Contains-append_right done (f ∷ rest) h c))).1

      order : Ordered (λ x y. cmp_ranked x y ≡ Less) (f ∷ rest)
      order = ordered-end _ done (f ∷ rest) (subst (Ordered (λ x y. cmp_ranked x y ≡ Less)) (sym e) (ordered_of cmp_ranked all (flats-rise S)))

      low : (h : Flat) → Contains (f ∷ rest) h → (f.rank ≤ h.rank) × (h.rank ≡ rk h.set)
      low h c = (at h c, ranked h c)
        where
          at : (h : Flat) → Contains (f ∷ rest) h → f.rank ≤ h.rank
          at h c = pick (Contains-cases f rest h c)
            where
              pick : (f ≡ h) ⊎ Contains rest h → f.rank ≤ h.rank
              pick (inl e) = subst (λ (x : Flat). f.rank ≤ x.rank) e (omega arith)
              pick (inr d) = before-low f h (order.0 h d)

  -- the first flats, flat k and the rest
  split : (k : ℕ) (f : Flat) → k < length all → f ≡ get_or all k f → take k all ++ f ∷ drop (suc k) all ≡ all
  split k f l e = ap (λ x. take k all ++ x ∷ drop (suc k) all) e ∙ ap (λ fs. take k all ++ fs) (sym (drop-cons all k f l)) ∙ take-append-drop k all

  ranked-at : (k : ℕ) (f : Flat) → k < length all → f ≡ get_or all k f → Flats f.set × (f.rank ≡ rk f.set)
  ranked-at k f l e = (flats-complete S f).0 (k, l, sym e)

  -- ---- bounds

  fits : (c : ℕ) → c ≤ max_forms ^ max_dim → c ≤ 2 ^ 60
  fits c l = l

  small : (x : ℤ) (k a : ℕ) → x *ℤ sign k ≡ pos a → a ≤ 2 ^ 60 → IsSmall x
  small x k a e l = let p = small-from x k a (2 ^ 60) e l in record { low = p.0; high = p.1 }

  -- the absolute value at a flat is a number of sets without broken circuit
  absolute : (f : Set) → Flats f → (c : ℕ) × (mu f *ℤ sign (rk f) ≡ pos c) × (c ≤ 2 ^ 60)
  absolute f is =
      let test : Set → Bool = λ s. is_nbc (affine_matroid S) s && same_set ((affine_matroid S).closure s) f in
      let c = length (filter test (sets_within (n S))) in
      (c, ap (λ z. z *ℤ sign (rk f)) (mobius-nbc S f is) ∙ sign_sign (rk f) c, fits c (closure-count S f is))

  pub small-value : (f : Set) → Flats f → IsSmall (mu f)
  small-value f is = let a = absolute f is in small (mu f) (rk f) a.0 a.1 a.2

  same-pos : (a b : ℕ) → pos a ≡ pos b → a ≡ b
  same-pos a b e = omega (arith, ints)

  part-low : (a b c : ℕ) → a + b ≡ c → c ≤ 2 ^ 60 → a ≤ 2 ^ 60
  part-low a b c e l = low a b c (2 ^ 60) e l
    where
      low : (a b c d : ℕ) → a + b ≡ c → c ≤ d → a ≤ d
      low a b c d e l = omega arith

  -- a sum over the first flats of terms of one sign is no greater than that over all
  small-prefix : (f : Flat → ℤ) (k : ℕ) (done rest : List Flat) → done ++ rest ≡ all → ((h : Flat) → Contains all h → (a : ℕ) × (f h *ℤ sign k ≡ pos a))
      → (c : ℕ) → sum_over f all *ℤ sign k ≡ pos c → c ≤ 2 ^ 60 → (a : ℕ) × (sum_over f done *ℤ sign k ≡ pos a) × (a ≤ 2 ^ 60)
  small-prefix f k done rest e one c whole l =
      let x = terms f k done (λ h d. one h (subst (λ fs. Contains fs h) e (Contains-append_left done rest h d))) in
      let y = terms f k rest (λ h d. one h (subst (λ fs. Contains fs h) e (Contains-append_right done rest h d))) in
      let sum : pos (x.0 + y.0) ≡ pos c =
      (λ i. sym x.1 i +ℤ sym y.1 i) ∙ sym (sign-sum (sum_over f done) (sum_over f rest) k) ∙ ap (λ z. z *ℤ sign k) (sym (sum_over-append f done rest) ∙ ap (sum_over f) e) ∙ whole in
      (x.0, x.1, part-low x.0 y.0 c (same-pos (x.0 + y.0) c sum) l)

  one-gain : (g : Set) (k : ℕ) → rk g ≡ suc k → (f : Set) → Flats f → (a : ℕ) × (gained g f *ℤ sign k ≡ pos a)
  one-gain g k e f is = pick (is_within f g && (misses_least f g && (suc (rk f) == rk g))) refl
    where
      down : (a b c : ℕ) → suc a ≡ b → b ≡ suc c → a ≡ c
      down a b c p q = omega arith

      pick : (b : Bool) → (is_within f g && (misses_least f g && (suc (rk f) == rk g))) ≡ b → (a : ℕ) × (cond b (mu f) (pos 0) *ℤ sign k ≡ pos a)
      pick false p = (0, none-signed (sign k))
      pick true p =
          let a = absolute f is in
          let r = down _ _ _ (eqb-true _ _ (second_true (misses_least f g) (suc (rk f) == rk g) (second_true (is_within f g) _ p))) e in
          (a.0, ap (λ m. mu f *ℤ sign m) (sym r) ∙ a.1)

  -- the sums are small all the way
  small-partial : (done rest : List Flat) → done ++ rest ≡ all → (g : Set) → Flats g → IsSmall (partial ring numbers arr done g)
  unfolding partial
  small-partial done rest e [] is = none
    where
      zero-rank : (r : ℕ) → r ≡ 0 → (a : ℕ) → suc a ≡ r → ⊥
      zero-rank r e a p = omega (arith, e, p)

      sum : sum_over (λ f. gained [] f.set) done ≡ pos 0
      sum =
          sum-same (λ f. gained [] f.set) (λ f. pos 0) done (λ f c.
          shut (is_within f.set []) (misses_least f.set []) (suc (rk f.set) == rk []) (mu f.set) (ne_eqb (suc (rk f.set)) (rk []) (λ p. zero-rank (rk []) (first-rank S) (rk f.set) p)))
          ∙ sum-none done

      none : IsSmall (neg_ℤ (sum_over (λ f. gained [] f.set) done))
      none = subst (λ z. IsSmall (neg_ℤ z)) (sym sum) (small (pos 0) 0 0 (none-signed (sign 0)) (omega arith))
  small-partial done rest e (i ∷ t) is =
      let g : Set = i ∷ t in
      let k = rk g - 1 in
      let r : rk g ≡ suc k = rank-some g is (λ z. cc) in
      let a = absolute g is in
      let whole : sum_over (λ f. gained g f.set) all *ℤ sign k ≡ pos a.0 =
      sym (sign-turn (sum_over (λ f. gained g f.set) all) k) ∙ ap (λ z. z *ℤ sign (suc k)) (sym (whole g is (λ z. cc))) ∙ ap (λ m. mu g *ℤ sign m) (sym r) ∙ a.1 in
      let x = small-prefix (λ f. gained g f.set) k done rest e (λ h c. one-gain g k r h.set ((flats-complete S h).0 c).0) a.0 whole a.2 in
      small (neg_ℤ (sum_over (λ f. gained g f.set) done)) (suc k) x.0 (sign-turn (sum_over (λ f. gained g f.set) done) k ∙ x.1) x.2

  -- ---- the sums of one rank

  abbrev pub of_rank : ℕ → Flat → ℤ
  of_rank k f = cond (f.rank == k) (mu f.set) (pos 0)

  -- the sum over the flats of rank k is their sum over all flats, and small all the way
  pub rank-total : (k : ℕ) → sum_over (of_rank k) all ≡ rank_sum ring numbers arr k
  unfolding rank_sum
  rank-total k = sum-rank S k mu

  pub small-rank : (k : ℕ) (done rest : List Flat) → done ++ rest ≡ all → IsSmall (sum_over (of_rank k) done)
  small-rank k done rest e =
      let test : Set → Bool = λ s. is_nbc (affine_matroid S) s && (central S s && (length s == k)) in
      let c = length (filter test (sets_within (n S))) in
      let x = small-prefix (of_rank k) k done rest e one c (ap (λ z. z *ℤ sign k) (rank-total k) ∙ coefficient-nbc S k) (fits c (size-count S k)) in
      small (sum_over (of_rank k) done) k x.0 x.1 x.2
    where
      one : (h : Flat) → Contains all h → (a : ℕ) × (of_rank k h *ℤ sign k ≡ pos a)
      one h c = pick (h.rank == k) refl
        where
          w : Flats h.set × (h.rank ≡ rk h.set)
          w = (flats-complete S h).0 c

          pick : (b : Bool) → (h.rank == k) ≡ b → (a : ℕ) × (cond b (mu h.set) (pos 0) *ℤ sign k ≡ pos a)
          pick false p = (0, none-signed (sign k))
          pick true p = let a = absolute h.set w.0 in (a.0, ap (λ m. mu h.set *ℤ sign m) (sym (eqb-true h.rank k p) ∙ w.1) ∙ a.1)

  -- ---- the loop over the flats

  pub added-start : (sums : BTreeMap Set ℤ) → ((g : Set) → noted sums g ≡ pos 0) → IsAddedUp ring numbers arr 0 sums []
  unfolding partial
  added-start sums h = record { sums_are = λ g is. h g; values_are = refl }

  pub added-value : (k : ℕ) (sums : BTreeMap Set ℤ) (values : List (Flat × ℤ)) (f : Flat) → IsAddedUp ring numbers arr k sums values → k < length all → f ≡ get_or all k f
      → value_from sums f.set ≡ mu f.set
  added-value k sums values f a l e = at f.set refl
    where
      at : (s : Set) → f.set ≡ s → value_from sums s ≡ mu s
      at [] p = sym (mobius-meets S).at_empty
      at (i ∷ t) p =
          let is = (ranked-at k f l e).0 in
          subst (λ s. noted sums s ≡ mu s) p
          (a.sums_are f.set is ∙ sym (before (take k all) f (drop (suc k) all) (split k f l e)) ∙ sym (whole f.set is (λ z. apart (sym p ∙ z))))
        where
          apart : (i ∷ t) ≡ [] → ⊥
          apart z = cc

  pub small-at : (k : ℕ) (f : Flat) → k < length all → f ≡ get_or all k f → IsSmall (mu f.set)
  small-at k f l e = small-value f.set (ranked-at k f l e).0

  pub added-small : (k : ℕ) (sums : BTreeMap Set ℤ) (values : List (Flat × ℤ)) (g : Set) → IsAddedUp ring numbers arr k sums values → Flats g → IsSmall (noted sums g)
  added-small k sums values g a is = subst IsSmall (sym (a.sums_are g is)) (small-partial (take k all) (drop k all) (take-append-drop k all) g is)

  -- flat k gives its covers their shares
  pub added-next : (k : ℕ) (sums after : BTreeMap Set ℤ) (values : List (Flat × ℤ)) (f : Flat) (covers : List Set) → IsAddedUp ring numbers arr k sums values → k < length all
      → f ≡ get_or all k f → IsCoverList ring numbers arr f.set covers → IsShared f.set (mu f.set) covers (noted sums) (noted after)
      → IsAddedUp ring numbers arr (k + 1) after (values ++ (f, mu f.set) ∷ [])
  unfolding partial
  added-next k sums after values f covers a l e list s = record {
    sums_are = λ g is. pick g is (is_within f.set g) refl (suc (rk f.set) == rk g) refl ∙ sym (sum g);
    values_are = ap (λ v. v ++ (f, mu f.set) ∷ []) a.values_are ∙ ap (λ (x : Flat). map (λ h. (h, mu h.set)) (take k all) ++ (x, mu x.set) ∷ []) e ∙ sym (map_more (λ h. (h, mu h.set)) all k f l);
  }
    where
      sum : (g : Set) → partial ring numbers arr (take (k + 1) all) g ≡ partial ring numbers arr (take k all) g +ℤ neg_ℤ (gained g f.set)
      sum g =
          ap (λ fs. neg_ℤ (sum_over (λ h. gained g h.set) fs)) (take_more all k f l ∙ ap (λ x. take k all ++ x ∷ []) (sym e))
          ∙ ap neg_ℤ (sum_over-append (λ h. gained g h.set) (take k all) (f ∷ [])) ∙ apart (sum_over (λ h. gained g h.set) (take k all)) (gained g f.set)
        where
          apart : (x y : ℤ) → neg_ℤ (x +ℤ (y +ℤ pos 0)) ≡ neg_ℤ x +ℤ neg_ℤ y
          apart x y = omega (arith, ints)

      full : (w m d : Bool) (x : ℤ) → w ≡ true → d ≡ true → cond m x (pos 0) ≡ cond (w && (m && d)) x (pos 0)
      full true true true x p q = refl
      full true false true x p q = refl
      full w m false x p q = clash (sym q)
      full false m d x p q = clash (sym p)

      nothing : (x y : ℤ) → y ≡ pos 0 → x ≡ x +ℤ neg_ℤ y
      nothing x y e = omega (arith, ints)

      next : (a b : ℕ) → suc a ≡ b → b ≡ a + 1
      next a b p = omega arith

      back : (a b : ℕ) → b ≡ a + 1 → suc a ≡ b
      back a b p = omega arith

      outside : (g : Set) → Flats g → (Contains covers g → ⊥) → gained g f.set ≡ pos 0 → noted after g ≡ partial ring numbers arr (take k all) g +ℤ neg_ℤ (gained g f.set)
      outside g is out none = s.rest g out ∙ a.sums_are g is ∙ nothing _ (gained g f.set) none

      pick : (g : Set) → Flats g → (b : Bool) → is_within f.set g ≡ b → (d : Bool) → (suc (rk f.set) == rk g) ≡ d
          → noted after g ≡ partial ring numbers arr (take k all) g +ℤ neg_ℤ (gained g f.set)
      pick g is true p true q =
          s.got g ((list.members g).1 (is, p, next _ _ (eqb-true (suc (rk f.set)) (rk g) q)))
          ∙ (λ i. a.sums_are g is i +ℤ neg_ℤ (full (is_within f.set g) (misses_least f.set g) (suc (rk f.set) == rk g) (mu f.set) p q i))
      pick g is true p false q =
          outside g is (λ c. not_both (suc (rk f.set) == rk g) (eq-eqb _ _ (back _ _ ((list.members g).0 c).2)) q)
          (shut (is_within f.set g) (misses_least f.set g) (suc (rk f.set) == rk g) (mu f.set) q)
      pick g is false p d q =
          outside g is (λ c. not_both (is_within f.set g) ((list.members g).0 c).1 p)
          (ap (λ w. cond (w && (misses_least f.set g && (suc (rk f.set) == rk g))) (mu f.set) (pos 0)) p)

  pub added-end : (k : ℕ) (sums : BTreeMap Set ℤ) (values : List (Flat × ℤ)) → IsAddedUp ring numbers arr k sums values → length all ≡ k → values ≡ map (λ f. (f, mu f.set)) all
  added-end k sums values a e = a.values_are ∙ ap (λ fs. map (λ f. (f, mu f.set)) fs) (ap (λ m. take m all) (sym e) ∙ take-length all)
