-- The places of different leads, sorted with their leads, list each lead once and in order.
use Rattle.std.specs.Prelude.{◌≡◌, ◌≢◌, ◌⊎◌, ℕ, ◌+◌, ◌<◌, ◌≤◌, Bool, false, List, [], ◌∷◌, ◌++◌, map, length, All, Contains}
use Rattle.std.specs.declared.cmp.Ordering.{Ordering}
use Rattle.std.specs.declared.cmp.Ordering.TheVariants.{Less, Equal, Greater}
use Rattle.std.specs.Ordering.{MatchOrdering, is_lt, nat_cmp, ordering_reverse, ordering_then}
use Rattle.std.specs.Cmp.{IsStrictWeakOrder, IsTotalOrder, nat_cmp_total, on_total, back_total, then_total}
use Rattle.std.specs.List.Sorted.{IsPermutation, IsSortedBy}
use Rattle.std.proofs.Common.{get_or}
use Rattle.std.proofs.lemmas.Bool.{cases_lt, true≢false}
use Rattle.std.proofs.lemmas.Cmp.{ranked}
use Rattle.std.proofs.lemmas.List.{get_or-map, get_or_default, length-append, length-map}
use Rattle.std.proofs.lemmas.List.Elements.{Contains-append_left, Contains-append_right, Contains-get_or}
use Rattle.std.proofs.lemmas.List.Sorted.{All-permutation, Contains-permutation, IsPermutation-map, length_permutation, ranks_by, sorted_far}
use mathlib.Core.Logic.{inl, inr}
use mathlib.Core.Path.{refl, sym, ap, ◌∙◌, subst}
use native.Mathlib.Omega.{arith}
use Rattle.hp_lists.proofs.Members.{Contains-here, Contains-later, Contains-cases, Contains-map}
use Rattle.hp_lists.proofs.Insertions.{once-few}
use Rattle.hp_lists.proofs.Distinct.{Distinct}
use Rattle.hp_lists.proofs.Ordered.{Ordered-at, Ordered-from_pairs}
use Rattle.hp_mono.specs.declared.term.Term.{Term}
use Rattle.hp_mono.specs.Monomials.{degree, grevlex}
use Rattle.hp_mono.specs.TermOrders.{term_grevlex}
use Rattle.hp_mono.proofs.GrevlexLaws.{grevlex_same, term_grevlex_total}
use Rattle.hp_module.specs.Leads.{no_term}
use Rattle.hp_module.specs.ElimOrders.{block, elimination_order}
use Rattle.hp_groebner.specs.BasisEnds.{AreListed, listed_order, place}
use Rattle.hp_groebner.specs.PairQueues.{nth}

-- ---- the order of the list

pub listed_order-total : (split : ℕ) → IsTotalOrder (listed_order split)
listed_order-total split =
    then_total (on_total (λ (t : Term). degree t.mono) nat_cmp_total)
    (back_total (then_total (back_total (on_total (λ (t : Term). block split t.comp) nat_cmp_total)) term_grevlex_total))

then_second : (r s : Ordering) → ordering_then r s ≡ Equal → s ≡ Equal
then_second Less s e = absurd (cc)
then_second Equal s e = e
then_second Greater s e = absurd (cc)

then_first : (r s : Ordering) → ordering_then r s ≡ Equal → r ≡ Equal
then_first Less s e = e
then_first Equal s e = refl
then_first Greater s e = e

nat_cmp-same : (x y : ℕ) → nat_cmp x y ≡ Equal → x ≡ y
nat_cmp-same x y e = subst (λ r. MatchOrdering r (x < y) (x ≡ y) (y < x)) e (ranked x y (nat_cmp x y) refl)

-- only equal leads tie
pub listed_order-same : (split : ℕ) (s t : Term) → listed_order split s t ≡ Equal → s ≡ t
listed_order-same split s t e =
    let a = then_second (nat_cmp (degree s.mono) (degree t.mono)) (elimination_order split t s) e in
    let b = then_second (nat_cmp (block split s.comp) (block split t.comp)) (term_grevlex t s) a in
    let m = grevlex_same t.mono s.mono (then_first (grevlex t.mono s.mono) (nat_cmp s.comp t.comp) b) in
    let c = nat_cmp-same s.comp t.comp (then_second (grevlex t.mono s.mono) (nat_cmp s.comp t.comp) b) in
    λ i. record { mono = sym m i; comp = c i }

-- ---- a rearrangement of a list without repeats has none

distinct-after : {X : Type 0} (zs before rest : List X) → Distinct zs
    → ((z : X) → Contains zs z → Contains before z ⊎ Contains rest z) → length before + length rest ≤ length zs
    → Distinct rest
distinct-after zs before [] d h l = tt
distinct-after {X} zs before (y ∷ rest) d h l = (
  (λ w c e. absurd (short (once-few zs (before ++ rest) d (λ z k. joined w c e z (h z k))))),
  distinct-after zs (y ∷ before) rest d (λ z k. moved z (h z k)) (omega (arith, l)),
)
  where
    short : length zs ≤ length (before ++ rest) → ⊥
    short k = let e = length-append before rest in omega (arith, k, e, l)

    turned : (z : X) → (y ≡ z) ⊎ Contains rest z → Contains (y ∷ before) z ⊎ Contains rest z
    turned z (inl e) = inl (subst (Contains (y ∷ before)) e (Contains-here y before))
    turned z (inr m) = inr m

    moved : (z : X) → Contains before z ⊎ Contains (y ∷ rest) z → Contains (y ∷ before) z ⊎ Contains rest z
    moved z (inl k) = inl (Contains-later y before z k)
    moved z (inr k) = turned z (Contains-cases y rest z k)

    joined : (w : X) → Contains rest w → y ≡ w → (z : X) → Contains before z ⊎ Contains (y ∷ rest) z
        → Contains (before ++ rest) z
    joined w c e z (inl k) = Contains-append_left before rest z k
    joined w c e z (inr k) = Contains-append_right before rest z
        (elim (Contains-cases y rest z k) [ inl q ↦ subst (Contains rest) (sym e ∙ q) c | inr m ↦ m ])

permuted-distinct : {X : Type 0} (xs ys : List X) → IsPermutation xs ys → Distinct xs → Distinct ys
permuted-distinct xs ys p d =
    let e = length_permutation xs ys p in
    distinct-after xs [] ys d (λ z k. inr (Contains-permutation xs ys z p k)) (omega (arith, e))

-- ---- leads with their places

-- the first n leads, each with its place
pub record AreKeyed (leads : List Term) (n : ℕ) (xs : List (Term × ℕ)) : Type 0 where
  pub many : length xs ≡ n
  pub each : (i : ℕ) → i < n → get_or xs i (no_term, 0) ≡ (nth leads i, i)

abbrev pub is_before : ℕ → Term × ℕ → Term × ℕ → Bool
is_before split x y = is_lt (listed_order split x.0 y.0)

pub is_before-order : (split : ℕ) → IsStrictWeakOrder (is_before split)
is_before-order split = ranks_by (listed_order-total split) (λ (z : Term × ℕ). z.0)

abbrev second : Term × ℕ → ℕ
second x = x.1

module _ (split : ℕ) (leads : List Term) (xs ys : List (Term × ℕ)) (keyed : AreKeyed leads (length leads) xs)
    (moved : IsPermutation xs ys) (sorted : IsSortedBy (is_before split) ys)
    (different : (i j : ℕ) → i < length leads → j < length leads → nth leads i ≡ nth leads j → i ≡ j) where
  abbrev IsKey : Term × ℕ → Type 0
  IsKey x = (x.1 < length leads) × (x.0 ≡ nth leads x.1)

  keys-first : All (λ x. (x.1 < length leads) × (x.0 ≡ nth leads x.1)) xs
  keys-first k d l =
      let b : k < length leads = omega (arith, l, keyed.many) in
      let e = get_or_default xs k d (no_term, 0) l ∙ keyed.each k b in
      subst IsKey (sym e) (b, refl)

  keys : All (λ x. (x.1 < length leads) × (x.0 ≡ nth leads x.1)) ys
  keys = All-permutation IsKey xs ys moved keys-first

  many : length ys ≡ length leads
  many = length_permutation xs ys moved ∙ keyed.many

  places-first : (i : ℕ) → i < length leads → get_or (map second xs) i 0 ≡ i
  places-first i l =
      let b : i < length xs = omega (arith, l, keyed.many) in
      get_or-map second xs i (no_term, 0) 0 b ∙ ap second (keyed.each i l)

  distinct-first : Distinct (map second xs)
  distinct-first = Ordered-from_pairs (λ x y. x ≢ y) (map second xs) apart
    where
      long : length (map second xs) ≡ length leads
      long = length-map xs second ∙ keyed.many

      apart : (i j : ℕ) (d : ℕ) → i < j → j < length (map second xs)
          → get_or (map second xs) i d ≢ get_or (map second xs) j d
      apart i j d l m e =
          let b : i < length leads = omega (arith, l, m, long) in
          let p = get_or_default (map second xs) i d 0 (omega (arith, l, m)) ∙ places-first i b in
          let q = get_or_default (map second xs) j d 0 m ∙ places-first j (omega (arith, m, long)) in
          omega (arith, l, p, q, e)

  distinct : Distinct (map second ys)
  distinct = permuted-distinct (map second xs) (map second ys) (IsPermutation-map second xs ys moved) distinct-first

  all : (p : ℕ) → p < length leads → Contains (map second ys) p
  all p l =
      let c = Contains-get_or xs p (no_term, 0) (omega (arith, l, keyed.many)) in
      let d = subst (Contains xs) (keyed.each p l) c in
      Contains-map second ys (nth leads p, p) (Contains-permutation xs ys (nth leads p, p) moved d)

  place_is : (i : ℕ) → i < length ys → place (map second ys) i ≡ (get_or ys i (no_term, 0)).1
  place_is i l = get_or-map second ys i (no_term, 0) 0 l

  once : (i j : ℕ) → i < length ys → j < length ys → place (map second ys) i ≡ place (map second ys) j → i ≡ j
  once i j l m e =
      let n = length-map ys second in
      elim (cases_lt i j) [
        | inl b ↦ absurd (Ordered-at (λ x y. x ≢ y) (map second ys) i j 0 distinct b (omega (arith, m, n)) e)
        | inr b ↦ elim (cases_lt j i) [
          | inl c ↦ absurd (Ordered-at (λ x y. x ≢ y) (map second ys) j i 0 distinct c (omega (arith, l, n)) (sym e))
          | inr c ↦ omega (arith, b, c)
        ]
      ]

  -- of two places the earlier has the earlier lead
  in_order : (i j : ℕ) → i < j → j < length ys
      → listed_order split (nth leads (place (map second ys) i)) (nth leads (place (map second ys) j)) ≡ Less
  in_order i j l m =
      let n : i < length ys = omega (arith, l, m) in
      let x = get_or ys i (no_term, 0) in
      let y = get_or ys j (no_term, 0) in
      let kx = keys i (no_term, 0) n in
      let ky = keys j (no_term, 0) m in
      let a = kx.1 ∙ ap (nth leads) (sym (place_is i n)) in
      let b = ky.1 ∙ ap (nth leads) (sym (place_is j m)) in
      let far = sorted_far (is_before split) (is_before-order split) ys sorted i j
      (no_term, 0) (omega (arith, l)) m in
      (λ k. listed_order split (sym a k) (sym b k)) ∙ less x y far (apart kx.1 ky.1 kx.0 ky.0)
    where
      apart : (get_or ys i (no_term, 0)).0 ≡ nth leads (get_or ys i (no_term, 0)).1
          → (get_or ys j (no_term, 0)).0 ≡ nth leads (get_or ys j (no_term, 0)).1
          → (get_or ys i (no_term, 0)).1 < length leads → (get_or ys j (no_term, 0)).1 < length leads
          → (get_or ys j (no_term, 0)).0 ≢ (get_or ys i (no_term, 0)).0
      apart ex ey lx ly e =
          let n : i < length ys = omega (arith, l, m) in
          let q = different (get_or ys i (no_term, 0)).1 (get_or ys j (no_term, 0)).1 lx ly (sym ex ∙ sym e ∙ ey) in
          let r = once i j n m (place_is i n ∙ q ∙ sym (place_is j m)) in
          omega (arith, l, r)

      less : (x y : Term × ℕ) → is_before split y x ≡ false → y.0 ≢ x.0 → listed_order split x.0 y.0 ≡ Less
      less x y f n = pick (listed_order split y.0 x.0) refl
        where
          pick : (r : Ordering) → listed_order split y.0 x.0 ≡ r → listed_order split x.0 y.0 ≡ Less
          pick Less e = absurd (true≢false (sym (ap is_lt e) ∙ f))
          pick Equal e = absurd (n (listed_order-same split y.0 x.0 e))
          pick Greater e = (listed_order-total split).antisymm x.0 y.0 ∙ ap ordering_reverse e

  pub places-listed : AreListed split leads (map (λ (x : Term × ℕ). x.1) ys)
  places-listed =
      let n = length-map ys second in
      record {
        many = n ∙ many;
        inside = λ k d l.
            (let m : k < length ys = omega (arith, l, n) in
            subst (λ p. p < length leads) (sym (get_or-map second ys k (no_term, 0) d m)) (keys k (no_term, 0) m).0);
        once = λ i j l m. once i j (omega (arith, l, n)) (omega (arith, m, n));
        all = all;
        in_order = λ i j l m. in_order i j l (omega (arith, m, n));
      }
