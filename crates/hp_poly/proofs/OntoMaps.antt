-- A map of polynomials that keeps sums, products and constants, and of which each variable is an image, is onto; one that
-- keeps first terms is one to one.
use Rattle.std.specs.Prelude.{◌≡◌, ◌≢◌, ℕ, ◌+◌, ◌<◌, List, [], ◌∷◌, length, map, slice_index_or}
use Rattle.std.proofs.lemmas.List.FromFn.{get_or-map-range_with_len, length-map-range_with_len}
use mathlib.Core.Path.{refl, sym, ap, ◌∙◌}
use native.Mathlib.Omega.{arith}
use Rattle.hp_algebra.specs.Ring.{RingOf, IsRing, IsCommutative, IsField}
use Rattle.hp_algebra.proofs.Rings.{add_cancel}
use Rattle.hp_lists.specs.Lists.{one_to}
use Rattle.hp_mono.specs.Monomials as mono
use Rattle.hp_mono.specs.Monomials.{Monomial, IsMonomial, product, variable, vars}
use Rattle.hp_mono.proofs.MonomialLaws.{product-one}
use Rattle.hp_sums.proofs.SumSetting.{SumSetting}
use Rattle.hp_sums.proofs.FirstTerms.{first_value, one_term}
use Rattle.hp_poly.specs.Polynomials.{Poly, IsPoly, constant, multiple, poly_neg, poly_plus, poly_ring, poly_times, term_poly}
use Rattle.hp_poly.specs.PolyRing.{poly_is_ring, term_poly-IsPoly}
use Rattle.hp_poly.specs.PolySetting.{poly_setting}
use Rattle.hp_poly.specs.Substitutions.{IsOneToOne, IsOnto, IsPolyMap, KeepsFirst}
use Rattle.hp_poly.proofs.LinearForms.{variable-monomial}
use Rattle.hp_poly.proofs.SubstitutedTerms.{image-all}
use Rattle.hp_poly.proofs.TermMultiples.{first_monomial, rest_poly, term_rest, times_multiple}

module _ {F : Type 0} {ring : RingOf F} {inverse : F → F} (field : IsField ring inverse) {f : Poly F → Poly F}
    (is : IsPolyMap ring f) where
  abbrev laws : IsRing ring
  laws = field.is_ring

  abbrev comm : IsCommutative ring
  comm = field.commutes

  abbrev PR : IsRing (poly_ring ring)
  PR = poly_is_ring laws comm

  abbrev S : SumSetting Monomial F
  S = poly_setting laws comm

  abbrev unit : Monomial → Poly F
  unit m = term_poly ring ring.one m

  -- ---- onto

  -- the polynomial is an image
  abbrev Hit : Poly F → Type 0
  Hit p = (q : Poly F) × IsPoly ring q × (f q ≡ p)

  abbrev variables : List (Poly F)
  variables = map (λ i. unit (variable i)) (one_to vars)

  variables-long : length variables ≡ vars
  variables-long = length-map-range_with_len (λ i. unit (variable i)) 1 vars

  variable-at : (i : ℕ) → i < vars → slice_index_or variables i [] ≡ unit (variable (i + 1))
  variable-at i l = get_or-map-range_with_len (λ i. unit (variable i)) 1 vars i (i + 1) [] l (omega arith)

  unit-poly : (m : Monomial) → IsMonomial m → IsPoly ring (unit m)
  unit-poly m im = term_poly-IsPoly laws comm ring.one m laws.one_value im

  unit-times : (m n : Monomial) → IsMonomial m → IsMonomial n → poly_times ring (unit m) (unit n) ≡ unit (product m n)
  unit-times m n im in_n =
      times_multiple field ring.one m (unit n) laws.one_value field.one_zero im (unit-poly n in_n)
      ∙ ap (multiple ring ring.one m) (one_term S n ring.one laws.one_value field.one_zero)
      ∙ ap (λ c. (product m n, c) ∷ []) (laws.one_mul ring.one laws.one_value)
      ∙ sym (one_term S (product m n) ring.one laws.one_value field.one_zero)

  record IsUnitHit (p : Poly F) (m : Monomial) : Type 0 where
    monomial : IsMonomial m
    unit_is : p ≡ term_poly ring ring.one m
    hit : (q : Poly F) × IsPoly ring q × (f q ≡ p)

  module _ (variable_hit : (i : ℕ) → i < vars → (q : Poly F) × IsPoly ring q × (f q ≡ term_poly ring ring.one (variable (i + 1)))) where
    hit-times : (p q : Poly F) → Hit p → Hit q → Hit (poly_times ring p q)
    hit-times p q a b = (
      poly_times ring a.0 b.0,
      PR.mul_value a.0 b.0 a.1 b.1,
      is.times a.0 b.0 a.1 b.1 ∙ (λ i. poly_times ring (a.2 i) (b.2 i)),
    )

    unit-hit : (m : Monomial) → IsMonomial m → Hit (unit m)
    unit-hit m im =
        let r = image-all laws variables variables-long IsUnitHit
        (record {
          monomial = refl;
          unit_is = refl;
          hit = (constant ring ring.one, unit-poly mono.one refl, is.of_constant ring.one laws.one_value);
        })
        (λ p q m n a b. record {
          monomial = Rattle.hp_mono.proofs.MonomialLaws.product-monomial m n a.monomial b.monomial;
          unit_is = (λ i. poly_times ring (a.unit_is i) (b.unit_is i)) ∙ unit-times m n a.monomial b.monomial;
          hit = hit-times p q a.hit b.hit;
        })
        (λ i l. record {
          monomial = variable-monomial (i + 1);
          unit_is = variable-at i l;
          hit = (let v = variable_hit i l in (v.0, v.1, v.2 ∙ sym (variable-at i l)));
        }) m im in
        (r.hit.0, r.hit.1, r.hit.2 ∙ r.unit_is)

    term-hit : (c : F) (m : Monomial) → ring.IsValue c → c ≢ ring.zero → IsMonomial m → Hit (term_poly ring c m)
    term-hit c m v n im =
        let u = unit-hit m im in
        let k = hit-times (constant ring c) (unit m) (constant ring c, term_poly-IsPoly laws comm c mono.one v refl, is.of_constant c v) u in
        let whole : poly_times ring (constant ring c) (unit m) ≡ term_poly ring c m =
        times_multiple field c mono.one (unit m) v n refl (unit-poly m im)
        ∙ ap (multiple ring c mono.one) (one_term S m ring.one laws.one_value field.one_zero)
        ∙ (λ i. (product-one m im i, laws.mul_one c v i) ∷ [])
        ∙ sym (one_term S m c v n) in
        (k.0, k.1, k.2 ∙ whole)

    -- A map with the variables as images is onto.
    pub onto_from_variables : IsOnto ring f
    onto_from_variables [] h = ([], h, is.zero)
    onto_from_variables (t ∷ p) h =
        let w = first_value S t p h.is_sum in
        let a = term-hit t.1 t.0 w.0 w.1 (first_monomial field t p h) in
        let b = onto_from_variables p (rest_poly field t p h) in (
          poly_plus ring a.0 b.0,
          PR.add_value a.0 b.0 a.1 b.1,
          is.plus a.0 b.0 a.1 b.1 ∙ (λ i. poly_plus ring (a.2 i) (b.2 i)) ∙ sym (term_rest field t p h),
        )

  -- ---- one to one

  mapped-negative : (p : Poly F) → IsPoly ring p → f (poly_neg ring p) ≡ poly_neg ring (f p)
  mapped-negative p h =
      let n = PR.neg_value p h in
      let v = is.value p h in
      add_cancel PR _ _ _ v (is.value _ n) (PR.neg_value _ v)
      (sym (is.plus p _ h n) ∙ ap f (PR.add_neg p h) ∙ is.zero ∙ sym (PR.add_neg _ v))

  pub one_to_one : KeepsFirst ring f → IsOneToOne ring f
  one_to_one keeps p q h k e =
      let nq = PR.neg_value q k in
      let d = poly_plus ring p (poly_neg ring q) in
      let hd = PR.add_value p (poly_neg ring q) h nq in
      let none : f d ≡ [] = is.plus p _ h nq ∙ (λ i. poly_plus ring (e i) (mapped-negative q k i)) ∙ PR.add_neg (f q) (is.value q k) in
      let zero : d ≡ [] = empty d hd none in
      sym (PR.add_zero p h) ∙ ap (poly_plus ring p) (sym (PR.add_neg q k) ∙ PR.add_comm q _ k nq)
      ∙ sym (PR.add_assoc p (poly_neg ring q) q h nq k) ∙ ap (λ z. poly_plus ring z q) zero ∙ Rattle.hp_algebra.proofs.Rings.zero_add PR q k
    where
      empty : (r : Poly F) → IsPoly ring r → f r ≡ [] → r ≡ []
      empty [] hr z = refl
      empty (t ∷ r) hr z = let k = keeps t r hr in absurd (omega (arith, ap length (sym k.1 ∙ z)))
