-- The forms of each family are not zero, and no two are proportional.
use Rattle.std.proofs.Common.{◌≡◌, ◌≢◌, ℕ, ◌+◌, ◌*◌, ◌^◌, ◌<◌, ◌≤◌, false, List, [], ◌∷◌, map, flat_map, Contains, length, length-append, refl, sym, ap, ◌∙◌, subst, inl, inr, mul-le-mul, lit≤, arith}
use Rattle.std.proofs.lemmas.List.{length-map}
use Rattle.std.proofs.lemmas.List.FromFn.{length-range_with_len}
use Rattle.hp_algebra.specs.Ring.{RingOf, Numbering, IsRing, IsNumbering, multiple_of_one}
use Rattle.hp_lists.specs.Lists.{one_to, Ordered}
use Rattle.hp_lists.proofs.Members.{Contains-cases, Contains-none, map-Contains, flat_map-Contains}
use Rattle.hp_algebra.proofs.Rings.{zero_add}
use Rattle.hp_lists.proofs.Ranges.{range_members, range_rises}
use Rattle.hp_arr.specs.Arrangement.{max_dim}
use Rattle.hp_algebra.specs.Rows.{IsRow, IsMultiple, is_zero_row, unit_row}
use Rattle.hp_build.specs.Families.{pairs, two_terms, difference, sum_form, type_a, type_b, type_d, boolean}
use Rattle.hp_build.proofs.Entries.{two_terms-row, coordinate-two_terms}
use Rattle.hp_build.proofs.ListedPairs.{IsBefore, pairs-members, pairs-ordered, length-pairs_most, length-flat_map_most}
use Rattle.hp_lists.proofs.Ordered.{Ordered-weaker, Ordered-map, Ordered-flat_map}
use Rattle.hp_build.proofs.Proportional.{IsLed, led-nonzero, led-apart}
use Rattle.hp_build.proofs.Simple.{IsSimple, simple-append}

-- a pair i < j of 1 to l
abbrev pub IsPair : ℕ → ℕ × ℕ → Type 0
IsPair l e = (1 ≤ e.0) × (e.0 < e.1) × (e.1 ≤ l)

-- two pairs differ
abbrev pub Differ : ℕ × ℕ → ℕ × ℕ → Type 0
Differ d e = d.0 ≡ e.0 → d.1 ≡ e.1 → ⊥

pub pairs-differ : (l : ℕ) → Ordered Differ (pairs l)
pairs-differ l = Ordered-weaker IsBefore Differ (pairs l) (λ d e at_d at_e before. apart d e before) (pairs-ordered l)
  where
    apart : (d e : ℕ × ℕ) → IsBefore d e → Differ d e
    apart d e (inl less) first second = omega (arith, less, first)
    apart d e (inr below) first second = omega (arith, below.1, second)

module _ {K : Type 0} {ring : RingOf K} (laws : IsRing ring) (one_zero : ring.one ≢ ring.zero) where
  minus_one-nonzero : ring.neg ring.one ≢ ring.zero
  minus_one-nonzero e = one_zero (sym (laws.add_zero ring.one laws.one_value) ∙ ap (ring.add ring.one) (sym e) ∙ laws.add_neg ring.one laws.one_value)

  difference-led : (l : ℕ) (e : ℕ × ℕ) → IsPair l e → IsLed ring l e.0 e.1 (ring.neg ring.one)
  difference-led l e p = record {
    low = p.0;
    rises = omega (arith, p.1);
    high = p.2;
    value = laws.neg_value ring.one laws.one_value;
    nonzero = minus_one-nonzero;
    alone = λ same. absurd (omega (arith, same, p.1));
  }

  sum-led : (l : ℕ) (e : ℕ × ℕ) → IsPair l e → IsLed ring l e.0 e.1 ring.one
  sum-led l e p = record {
    low = p.0;
    rises = omega (arith, p.1);
    high = p.2;
    value = laws.one_value;
    nonzero = one_zero;
    alone = λ same. refl;
  }

  coordinate-led : (l i : ℕ) → 1 ≤ i → i ≤ l → IsLed ring l i i ring.one
  coordinate-led l i low high = record {
    low = low;
    rises = omega arith;
    high = high;
    value = laws.one_value;
    nonzero = one_zero;
    alone = λ same. refl;
  }

  -- x_i + c x_j, or x_i, among l variables
  abbrev pub IsTerms : ℕ → List K → Type 0
  IsTerms l a = (i : ℕ) × (j : ℕ) × (c : K) × IsLed ring l i j c × (a ≡ two_terms ring l i j c)

  terms-row : (l : ℕ) (a : List K) → IsTerms l a → IsRow ring l a
  terms-row l a (i, j, c, led, e) = subst (IsRow ring l) (sym e) (two_terms-row laws l i j c led.value)

  terms-nonzero : (l : ℕ) (a : List K) → IsTerms l a → is_zero_row ring a ≡ false
  terms-nonzero l a (i, j, c, led, e) = ap (is_zero_row ring) e ∙ led-nonzero laws one_zero l i j c led

  simple-terms : (l : ℕ) (forms : List (List K)) → ((a : List K) → Contains forms a → IsTerms l a) → Ordered (λ a b. ¬ (IsMultiple ring a b)) forms → IsSimple ring l forms
  simple-terms l forms terms apart = record {
    rows = λ a c. terms-row l a (terms a c);
    no_zero = λ a c. terms-nonzero l a (terms a c);
    no_multiple = apart;
  }

  terms-apart : (l i j p q : ℕ) (c d : K) (a b : List K) → a ≡ two_terms ring l i j c → b ≡ two_terms ring l p q d → IsLed ring l i j c → IsLed ring l p q d → (i ≡ p → j ≡ q → c ≡ d → ⊥) → ¬ (IsMultiple ring a b)
  terms-apart l i j p q c d a b e f led led_b differ m =
      led-apart laws one_zero l i j p q c d led led_b differ (subst (IsMultiple ring (two_terms ring l i j c)) f (subst (λ x. IsMultiple ring x b) e m))

  -- x_i - x_j for pairs that differ
  pub simple-differences : (l : ℕ) (ends : List (ℕ × ℕ)) → ((e : ℕ × ℕ) → Contains ends e → IsPair l e) → Ordered Differ ends → IsSimple ring l (map (λ e. difference ring l e.0 e.1) ends)
  simple-differences l ends within differ =
      let form : ℕ × ℕ → List K = λ e. difference ring l e.0 e.1 in
      simple-terms l (map form ends)
      (λ a c. (let found = map-Contains form ends a c in (found.0.0, found.0.1, ring.neg ring.one, difference-led l found.0 (within found.0 found.1), sym found.2)))
      (Ordered-map (λ a b. ¬ (IsMultiple ring a b)) form ends
      (Ordered-weaker Differ (λ d e. ¬ (IsMultiple ring (form d) (form e))) ends
      (λ d e at_d at_e apart. terms-apart l d.0 d.1 e.0 e.1 (ring.neg ring.one) (ring.neg ring.one) (form d) (form e) refl refl (difference-led l d (within d at_d)) (difference-led l e (within e at_e)) (λ first second same. apart first second))
      differ))

  -- x_1 to x_l
  pub simple-coordinates : (l : ℕ) → IsSimple ring l (map (unit_row ring l) (one_to l))
  simple-coordinates l =
      simple-terms l (map (unit_row ring l) (one_to l))
      (λ a c. (let found = map-Contains (unit_row ring l) (one_to l) a c in
      let within = range_members found.0 1 l found.1 in
      (found.0, found.0, ring.one, coordinate-led l found.0 within.0 (omega (arith, within.1)), sym found.2 ∙ coordinate-two_terms ring l found.0)))
      (Ordered-map (λ a b. ¬ (IsMultiple ring a b)) (unit_row ring l) (one_to l)
      (Ordered-weaker (λ i j. i < j) (λ i j. ¬ (IsMultiple ring (unit_row ring l i) (unit_row ring l j))) (one_to l)
      (λ i j at_i at_j below. (
      let in_i = range_members i 1 l at_i in
      let in_j = range_members j 1 l at_j in
      terms-apart l i i j j ring.one ring.one (unit_row ring l i) (unit_row ring l j) (coordinate-two_terms ring l i) (coordinate-two_terms ring l j)
      (coordinate-led l i in_i.0 (omega (arith, in_i.1))) (coordinate-led l j in_j.0 (omega (arith, in_j.1))) (λ first second same. omega (arith, first, below))))
      (range_rises 1 l)))

  module _ (odd : ring.one ≢ ring.neg ring.one) where
    -- x_i - x_j and x_i + x_j
    abbrev pub signed : ℕ → ℕ × ℕ → List (List K)
    signed l e = difference ring l e.0 e.1 ∷ sum_form ring l e.0 e.1 ∷ []

    -- either form of a pair
    abbrev pub IsSigned : ℕ → ℕ × ℕ → List K → Type 0
    IsSigned l e a = (c : K) × IsLed ring l e.0 e.1 c × (a ≡ two_terms ring l e.0 e.1 c)

    signed-members : (l : ℕ) (e : ℕ × ℕ) → IsPair l e → (a : List K) → Contains (signed l e) a → IsSigned l e a
    signed-members l e p a c =
        elim (Contains-cases (difference ring l e.0 e.1) (sum_form ring l e.0 e.1 ∷ []) a c) [
          | inl first ↦ (ring.neg ring.one, difference-led l e p, sym first)
          | inr later ↦ elim (Contains-cases (sum_form ring l e.0 e.1) [] a later) [
            | inl second ↦ (ring.one, sum-led l e p, sym second)
            | inr none ↦ absurd (Contains-none a none)
          ]
        ]

    signed-ordered : (l : ℕ) (e : ℕ × ℕ) → IsPair l e → Ordered (λ a b. ¬ (IsMultiple ring a b)) (signed l e)
    signed-ordered l e p = (
      λ b c. elim (Contains-cases (sum_form ring l e.0 e.1) [] b c) [
        | inl second ↦ terms-apart l e.0 e.1 e.0 e.1 (ring.neg ring.one) ring.one (difference ring l e.0 e.1) b refl (sym second) (difference-led l e p) (sum-led l e p) (λ first last same. odd (sym same))
        | inr none ↦ absurd (Contains-none b none)
      ],
      ((λ b c. absurd (Contains-none b c)), tt),
    )

    pub simple-signed : (l : ℕ) → IsSimple ring l (flat_map (signed l) (pairs l))
    simple-signed l =
        simple-terms l (flat_map (signed l) (pairs l))
        (λ a c. (let found = flat_map-Contains (signed l) (pairs l) a c in
        let form = signed-members l found.0 (pairs-members l found.0 found.1) a found.2 in
        (found.0.0, found.0.1, form.0, form.1, form.2)))
        (Ordered-flat_map (λ a b. ¬ (IsMultiple ring a b)) (signed l) (pairs l)
        (λ e at. signed-ordered l e (pairs-members l e at))
        (Ordered-weaker Differ (λ d e. (a b : List K) → Contains (signed l d) a → Contains (signed l e) b → ¬ (IsMultiple ring a b)) (pairs l)
        (λ d e at_d at_e apart a b in_d in_e. (
        let first = signed-members l d (pairs-members l d at_d) a in_d in
        let second = signed-members l e (pairs-members l e at_e) b in_e in
        terms-apart l d.0 d.1 e.0 e.1 first.0 second.0 a b first.2 second.2 first.1 second.1 (λ x y same. apart x y)))
        (pairs-differ l)))

    -- a unit_row and a form of a pair
    coordinate-signed : (l : ℕ) (a b : List K) → Contains (map (unit_row ring l) (one_to l)) a → Contains (flat_map (signed l) (pairs l)) b → ¬ (IsMultiple ring a b)
    coordinate-signed l a b in_a in_b =
        let one = map-Contains (unit_row ring l) (one_to l) a in_a in
        let within = range_members one.0 1 l one.1 in
        let two = flat_map-Contains (signed l) (pairs l) b in_b in
        let pair = pairs-members l two.0 two.1 in
        let form = signed-members l two.0 pair b two.2 in
        terms-apart l one.0 one.0 two.0.0 two.0.1 ring.one form.0 a b (sym one.2 ∙ coordinate-two_terms ring l one.0) form.2
        (coordinate-led l one.0 within.0 (omega (arith, within.1))) form.1 (λ first second same. omega (arith, first, second, pair.1))

    pub type_d-simple : (r : ℕ) → IsSimple ring r (type_d ring r).forms
    type_d-simple = simple-signed

    pub type_b-simple : (r : ℕ) → IsSimple ring r (type_b ring r).forms
    type_b-simple r =
        simple-append r (boolean ring r).forms (type_d ring r).forms (simple-coordinates r) (simple-signed r) (coordinate-signed r)

  pub type_a-simple : (r : ℕ) → IsSimple ring (r + 1) (type_a ring r).forms
  type_a-simple r = simple-differences (r + 1) (pairs (r + 1)) (pairs-members (r + 1)) (pairs-differ (r + 1))

  pub boolean-simple : (r : ℕ) → IsSimple ring r (boolean ring r).forms
  boolean-simple = simple-coordinates

-- there are few forms in few variables
pairs-few : (l : ℕ) → l ≤ max_dim → length (pairs l) ≤ max_dim * max_dim
pairs-few l small =
    let count = length-pairs_most l in
    let most : l * l ≤ max_dim * max_dim = mul-le-mul small small in
    omega (arith, count, most)

module _ {K : Type 0} (ring : RingOf K) where
  pub few_type_a : (r : ℕ) → r < max_dim → length (type_a ring r).forms < 2 ^ 32
  few_type_a r small =
      let form : ℕ × ℕ → List K = λ e. difference ring (r + 1) e.0 e.1 in
      omega (arith, length-map (pairs (r + 1)) form, pairs-few (r + 1) (omega (arith, small)))

  boolean-length : (r : ℕ) → length (boolean ring r).forms ≡ r
  boolean-length r = length-map (one_to r) (unit_row ring r) ∙ length-range_with_len 1 r

  pub few_boolean : (r : ℕ) → r ≤ max_dim → length (boolean ring r).forms < 2 ^ 32
  few_boolean r small = omega (arith, small, boolean-length r)

  type_d-most : (r : ℕ) → r ≤ max_dim → length (type_d ring r).forms ≤ max_dim * max_dim * 2
  type_d-most r small =
      let both : ℕ × ℕ → List (List K) = λ e. difference ring r e.0 e.1 ∷ sum_form ring r e.0 e.1 ∷ [] in
      omega (arith, length-flat_map_most both 2 (pairs r) (λ e. lit≤ tt), pairs-few r small)

  pub few_type_d : (r : ℕ) → r ≤ max_dim → length (type_d ring r).forms < 2 ^ 32
  few_type_d r small = omega (arith, type_d-most r small)

  pub few_type_b : (r : ℕ) → r ≤ max_dim → length (type_b ring r).forms < 2 ^ 32
  few_type_b r small =
      omega (arith, small, length-append (boolean ring r).forms (type_d ring r).forms, boolean-length r, type_d-most r small)

-- in a field of three elements or more 1 and -1 differ
pub one-minus_one : {K : Type 0} {ring : RingOf K} {numbers : Numbering K} → IsRing ring → IsNumbering ring numbers → 3 ≤ numbers.order → ring.one ≢ ring.neg ring.one
unfolding multiple_of_one
one-minus_one {K = K} {ring = ring} {numbers = numbers} laws numbering odd e =
    let two : ring.add ring.one ring.one ≡ ring.zero = ap (ring.add ring.one) e ∙ laws.add_neg ring.one laws.one_value in
    let twice : multiple_of_one ring 2 ≡ ring.zero = ap (λ s. ring.add s ring.one) (zero_add laws ring.one laws.one_value) ∙ two in
    let same : numbers.nth 2 ≡ numbers.nth 0 = numbering.nth_multiple 2 (omega (arith, odd)) ∙ twice ∙ sym (numbering.nth_multiple 0 (omega (arith, odd))) in
    let places : 2 ≡ 0 = sym (numbering.place_of_nth 2 (omega (arith, odd))) ∙ ap numbers.place same ∙ numbering.place_of_nth 0 (omega (arith, odd)) in
    omega (arith, places)
