-- The generators of the larger module: vectors of its width, homogeneous, in the first variables; the entries of their
-- combinations.
use Rattle.std.specs.Prelude.{◌≡◌, ◌≢◌, ℕ, ◌+◌, ◌-◌, ◌<◌, ◌≤◌, ◌==◌, Bool, true, false, cond, List, [], ◌∷◌, ◌++◌, map, length, All, slice_index_or}
use Rattle.std.proofs.lemmas.Bool.{eq-eqb, eqb-true}
use Rattle.std.proofs.lemmas.List.{get_or-append-add, get_or-map, get_or_append_left, length-append, length-map, map-append}
use Rattle.std.proofs.lemmas.List.FromFn.{length-map-range_with_len}
use Rattle.std.proofs.lemmas.List.Elements.{All-append, All-head, All-map, All-nil, All-tail, All-weaker}
use mathlib.Core.Path.{refl, sym, ap, ◌∙◌, subst}
use native.Mathlib.Omega.{arith}
use Rattle.hp_algebra.specs.Ring.{RingOf, IsRing, IsCommutative, dot_of}
use Rattle.hp_algebra.specs.Rows.{IsRow, entry}
use Rattle.hp_algebra.proofs.Rings.{mul_zero, zero_add}
use Rattle.hp_algebra.proofs.Rows.{entry-value, listed-entry, row-ext}
use Rattle.hp_algebra.proofs.Dots.{dot-comm, dot-none, dot-single, dot_of_value}
use Rattle.hp_lists.specs.Lists.{one_to}
use Rattle.hp_linear.proofs.Combinations.{entry-times}
use Rattle.hp_mono.specs.Monomials.{Monomial, vars}
use Rattle.hp_arr.specs.Arrangement.{Arrangement}
use Rattle.hp_poly.specs.Polynomials.{Poly, IsPoly, IsHomogeneous, constant, poly_plus, poly_ring, poly_times}
use Rattle.hp_poly.specs.PolyRing.{poly_commutes, poly_is_ring, term_poly-IsPoly}
use Rattle.hp_poly.proofs.LinearForms.{form_power-IsPoly}
use Rattle.hp_module.specs.Vectors.{Vector, IsVector, IsHomogeneousVector, combination}
use Rattle.hp_module.specs.FreeModules.{terms}
use Rattle.hp_module.specs.Derivations.{applied}
use Rattle.hp_module.proofs.EntryTerms.{terms_all}
use Rattle.hp_graded.proofs.ExponentTails.{IsFirst}
use Rattle.hp_der.specs.DerivationModules.{column_generator, extended_generators, extended_width, in_component, most_multiplicity, power_generator, power_of}
use Rattle.hp_der.proofs.FirstForms.{AllFirst, first-constant, first-power, homogeneous-constant, homogeneous-power}

-- The rows have as many entries as there are variables, at most `vars`; each form has a multiplicity, at most 20.
pub record IsMultiArrangement {K : Type 0} (ring : RingOf K) (arr : Arrangement K) (mult : List ℕ) : Type 0 where
  pub rows : All (IsRow ring arr.dim) arr.forms
  pub dim_high : arr.dim ≤ vars
  pub one_each : length mult ≡ length arr.forms
  pub most : All (λ k. k ≤ most_multiplicity) mult

module _ {K : Type 0} {ring : RingOf K} (laws : IsRing ring) (commutes : IsCommutative ring) (arr : Arrangement K)
    (mult : List ℕ) (is : IsMultiArrangement ring arr mult) where
  abbrev P : IsRing (poly_ring ring)
  P = poly_is_ring laws commutes

  abbrev n : ℕ
  n = length arr.forms

  abbrev l : ℕ
  l = arr.dim

  abbrev width : ℕ
  width = extended_width ring arr mult

  abbrev col : ℕ → Vector K
  col = column_generator ring arr mult

  abbrev pow : ℕ → Vector K
  pow = power_generator ring arr mult

  abbrev gens : List (Vector K)
  gens = extended_generators ring arr mult

  -- ---- vectors with one entry

  pub component-all : (Q : Poly K → Type 0) (w : ℕ) (p : Poly K) (c : ℕ) → Q p → Q [] → All Q (in_component w p c)
  component-all Q w p c hp hz = All-map Q (λ k. cond (k == c) p []) (one_to w) (λ i d m. pick (slice_index_or (one_to w) i d == c))
    where
      pick : (b : Bool) → Q (cond b p [])
      pick true = hp
      pick false = hz

  pub component-length : (w : ℕ) (p : Poly K) (c : ℕ) → length (in_component w p c) ≡ w
  component-length w p c = length-map-range_with_len (λ k. cond (k == c) p []) 1 w

  component-at : (w : ℕ) (p : Poly K) (c j : ℕ) → j < w → slice_index_or (in_component w p c) j [] ≡ cond ((j + 1) == c) p []
  component-at w p c j m = listed-entry (poly_ring ring) w (λ k. cond (k == c) p []) j m

  same-number : (j : ℕ) → (j == j) ≡ true
  same-number j = eq-eqb j j refl

  other-number : (j i : ℕ) → j ≢ i → (j == i) ≡ false
  other-number j i n = pick (j == i) refl
    where
      pick : (b : Bool) → (j == i) ≡ b → (j == i) ≡ false
      pick true e = absurd (n (eqb-true j i e))
      pick false e = e

  -- ---- the generators

  form-row : (j : ℕ) → j < n → IsRow ring l (slice_index_or arr.forms j [])
  form-row j m = is.rows j [] m

  pub power-poly : (j : ℕ) → j < n → IsPoly ring (power_of ring arr mult (j + 1))
  power-poly j m =
      let back : (j + 1) - 1 ≡ j = omega arith in
      subst (λ i. IsPoly ring (Rattle.hp_poly.specs.Polynomials.form_power ring (slice_index_or arr.forms i []) (slice_index_or mult i 0))) (sym back)
      (form_power-IsPoly laws commutes (slice_index_or arr.forms j []) (slice_index_or mult j 0) (form-row j m).1)

  pub power-first : (j : ℕ) → j < n → AllFirst l (power_of ring arr mult (j + 1))
  power-first j m =
      let back : (j + 1) - 1 ≡ j = omega arith in
      let r = form-row j m in
      subst (λ i. AllFirst l (Rattle.hp_poly.specs.Polynomials.form_power ring (slice_index_or arr.forms i []) (slice_index_or mult i 0))) (sym back)
      (first-power laws commutes l (slice_index_or arr.forms j []) (slice_index_or mult j 0) r.1 (omega (arith, r.0)))

  constant-poly : (c : K) → ring.IsValue c → IsPoly ring (constant ring c)
  constant-poly c v = term_poly-IsPoly laws commutes c Rattle.hp_mono.specs.Monomials.one v refl

  pub column-all : (Q : Poly K → Type 0) (j : ℕ) → j < l → ((c : K) → ring.IsValue c → Q (constant ring c)) → Q [] → All Q (col (j + 1))
  column-all Q j m f z =
      let back : (j + 1) - 1 ≡ j = omega arith in
      All-append Q _ _
      (All-map Q (λ a. constant ring (entry ring a ((j + 1) - 1))) arr.forms
      (All-weaker (IsRow ring l) (λ a. Q (constant ring (entry ring a ((j + 1) - 1)))) (λ a r. f _ (subst (λ k. ring.IsValue (entry ring a k)) (sym back) (entry-value laws l a j m r))) arr.forms is.rows))
      (component-all Q l (constant ring ring.one) (j + 1) (f ring.one laws.one_value) z)

  pub column-length : (j : ℕ) → length (col j) ≡ width
  column-length j =
      length-append (map (λ a. constant ring (entry ring a (j - 1))) arr.forms) (in_component l (constant ring ring.one) j)
      ∙ (λ i. length-map arr.forms (λ a. constant ring (entry ring a (j - 1))) i + component-length l (constant ring ring.one) j i)

  pub all-numbers : (R : ℕ → Type 0) (w : ℕ) → ((j : ℕ) → j < w → R (j + 1)) → All R (one_to w)
  all-numbers R w f = Rattle.std.proofs.lemmas.List.Elements.All-from_get_or R (one_to w) 0 (λ j m.
      let k : j < w = omega (arith, m, Rattle.std.proofs.lemmas.List.FromFn.length-range_with_len 1 w) in
      let e : 1 + j ≡ j + 1 = omega arith in
      subst R (sym (Rattle.std.proofs.lemmas.List.FromFn.get_or-range_with_len 1 w j 0 k ∙ e)) (f j k))

  pub each-generator : (R : Vector K → Type 0) → ((j : ℕ) → j < l → R (col (j + 1))) → ((j : ℕ) → j < n → R (pow (j + 1))) → All R gens
  each-generator R f g =
      All-append R _ _ (All-map R col (one_to l) (all-numbers (λ j. R (col j)) l f)) (All-map R pow (one_to n) (all-numbers (λ j. R (pow j)) n g))

  pub generator-vectors : All (IsVector ring (extended_width ring arr mult)) (extended_generators ring arr mult)
  generator-vectors = each-generator (IsVector ring width)
      (λ j m. (column-length (j + 1), column-all (IsPoly ring) j m constant-poly P.zero_value))
      (λ j m. (component-length width (power_of ring arr mult (j + 1)) (j + 1), component-all (IsPoly ring) width (power_of ring arr mult (j + 1)) (j + 1) (power-poly j m) P.zero_value))

  pub generator-first : (i : ℕ) → i < length (extended_generators ring arr mult)
      → All (λ t. IsFirst arr.dim t.0.mono) (terms (slice_index_or (extended_generators ring arr mult) i []))
  generator-first i m =
      let none : AllFirst l [] = All-nil (λ (t : Monomial × K). IsFirst l t.0) in
      let f = each-generator (All (AllFirst l)) (λ j k. column-all (AllFirst l) j k (λ c v. first-constant laws commutes l c) none)
      (λ j k. component-all (AllFirst l) width (power_of ring arr mult (j + 1)) (j + 1) (power-first j k) none) in
      terms_all (λ t. IsFirst l t.0.mono) 1 (slice_index_or gens i []) (λ j k. f i [] m j [] k)

  -- homogeneous, of degree 0 or a multiplicity
  pub generator-degrees : All (λ v. (d : ℕ) × (d ≤ most_multiplicity) × IsHomogeneousVector ring d v) (extended_generators ring arr mult)
  generator-degrees = each-generator (λ v. (d : ℕ) × (d ≤ most_multiplicity) × IsHomogeneousVector ring d v)
      (λ j m. (0, omega arith, column-all (IsHomogeneous ring 0) j m (λ c v. homogeneous-constant laws commutes c) (none 0)))
      (λ j m.
      let back : (j + 1) - 1 ≡ j = omega arith in
      let r = form-row j m in
      let h = subst (λ i. IsHomogeneous ring (slice_index_or mult i 0) (Rattle.hp_poly.specs.Polynomials.form_power ring (slice_index_or arr.forms i []) (slice_index_or mult i 0))) (sym back)
      (homogeneous-power laws commutes (slice_index_or arr.forms j []) (slice_index_or mult j 0) r.1 (omega (arith, r.0, is.dim_high))) in
      let b : slice_index_or mult ((j + 1) - 1) 0 ≤ most_multiplicity = subst (λ i. slice_index_or mult i 0 ≤ most_multiplicity) (sym back) (is.most j 0 (omega (arith, m, is.one_each))) in
      (slice_index_or mult ((j + 1) - 1) 0, b, component-all (IsHomogeneous ring (slice_index_or mult ((j + 1) - 1) 0)) width _ (j + 1) h (none (slice_index_or mult ((j + 1) - 1) 0))))
    where
      none : (d : ℕ) → IsHomogeneous ring d []
      none d = All-nil (λ (t : Monomial × K). Rattle.hp_mono.specs.Monomials.degree t.0 ≡ d)

  pub generators-length : length (extended_generators ring arr mult) ≡ arr.dim + length arr.forms
  generators-length =
      length-append (map col (one_to l)) (map pow (one_to n))
      ∙ (λ i. length-map-range_with_len col 1 l i + length-map-range_with_len pow 1 n i)

  -- ---- the entries of a combination of the generators

  dot-append : (xs us ys vs : List (Poly K)) → length xs ≡ length ys → All (IsPoly ring) xs → All (IsPoly ring) us
      → All (IsPoly ring) ys → All (IsPoly ring) vs
      → dot_of (poly_ring ring) (xs ++ us) (ys ++ vs) ≡ poly_plus ring (dot_of (poly_ring ring) xs ys) (dot_of (poly_ring ring) us vs)
  dot-append [] us [] vs e fx fu fy fw = sym (zero_add P _ (dot_of_value P us vs fu fw))
  dot-append [] us (y ∷ ys) vs e fx fu fy fw = absurd (omega (arith, e))
  dot-append (x ∷ xs) us [] vs e fx fu fy fw = absurd (omega (arith, e))
  dot-append (x ∷ xs) us (y ∷ ys) vs e fx fu fy fw =
      let vx = All-tail (IsPoly ring) x xs fx in
      let vy = All-tail (IsPoly ring) y ys fy in
      ap (poly_plus ring (poly_times ring x y)) (dot-append xs us ys vs (omega (arith, e)) vx fu vy fw)
      ∙ sym (P.add_assoc _ _ _ (P.mul_value x y (All-head (IsPoly ring) x xs fx) (All-head (IsPoly ring) y ys fy)) (dot_of_value P xs ys vx vy) (dot_of_value P us vs fu fw))

  map-twice : {X Y Z : Type 0} (f : Y → Z) (g : X → Y) (xs : List X) → map f (map g xs) ≡ map (λ x. f (g x)) xs
  map-twice f g [] = refl
  map-twice f g (x ∷ xs) = ap (λ ys. f (g x) ∷ ys) (map-twice f g xs)

  module _ (theta ps : Vector K) (ht : IsVector ring arr.dim theta) (hp : IsVector ring (length arr.forms) ps) where
    pub coefficients-vector : IsVector ring (length (extended_generators ring arr mult)) (theta ++ ps)
    coefficients-vector = (length-append theta ps ∙ (λ i. ht.0 i + hp.0 i) ∙ sym generators-length, All-append (IsPoly ring) theta ps ht.1 hp.1)

    abbrev whole : Vector K
    whole = combination ring width (theta ++ ps) gens

    -- entries j of the generators
    abbrev cols : ℕ → List (Poly K)
    cols j = map (λ i. slice_index_or (col i) j []) (one_to l)

    abbrev pows : ℕ → List (Poly K)
    pows j = map (λ i. slice_index_or (pow i) j []) (one_to n)

    cols-row : (j : ℕ) → j < width → IsVector ring l (cols j)
    cols-row j m = (
      length-map-range_with_len (λ i. slice_index_or (col i) j []) 1 l,
      All-map (IsPoly ring) (λ i. slice_index_or (col i) j []) (one_to l) (all-numbers (λ i. IsPoly ring (slice_index_or (col i) j [])) l
          (λ i k. column-all (IsPoly ring) i k constant-poly P.zero_value j [] (omega (arith, m, column-length (i + 1))))),
    )

    pows-row : (j : ℕ) → j < width → IsVector ring n (pows j)
    pows-row j m = (
      length-map-range_with_len (λ i. slice_index_or (pow i) j []) 1 n,
      All-map (IsPoly ring) (λ i. slice_index_or (pow i) j []) (one_to n) (all-numbers (λ i. IsPoly ring (slice_index_or (pow i) j [])) n
          (λ i k. component-all (IsPoly ring) width _ (i + 1) (power-poly i k) P.zero_value j [] (omega (arith, m, component-length width (power_of ring arr mult (i + 1)) (i + 1))))),
    )

    split : (j : ℕ) → j < width
        → slice_index_or whole j [] ≡ poly_plus ring (dot_of (poly_ring ring) theta (cols j)) (dot_of (poly_ring ring) ps (pows j))
    split j m =
        entry-times P width (theta ++ ps) gens j m coefficients-vector.1 generator-vectors
        ∙ ap (dot_of (poly_ring ring) (theta ++ ps)) (map-append (λ v. slice_index_or v j []) (map col (one_to l)) (map pow (one_to n))
        ∙ (λ i. map-twice (λ v. slice_index_or v j []) col (one_to l) i ++ map-twice (λ v. slice_index_or v j []) pow (one_to n) i))
        ∙ dot-append theta ps (cols j) (pows j) (ht.0 ∙ sym (cols-row j m).0) ht.1 hp.1 (cols-row j m).1 (pows-row j m).1

    cols-at : (j k : ℕ) → k < l → slice_index_or (cols j) k [] ≡ slice_index_or (col (k + 1)) j []
    cols-at j k m = listed-entry (poly_ring ring) l (λ i. slice_index_or (col i) j []) k m

    pows-at : (j k : ℕ) → j < width → k < n → slice_index_or (pows j) k [] ≡ cond ((j + 1) == (k + 1)) (power_of ring arr mult (k + 1)) []
    pows-at j k h m = listed-entry (poly_ring ring) n (λ i. slice_index_or (pow i) j []) k m ∙ component-at width (power_of ring arr mult (k + 1)) (k + 1) j h

    times-none : (q p : Poly K) → IsPoly ring q → p ≡ [] → poly_times ring q p ≡ []
    times-none q p h e = ap (poly_times ring q) e ∙ mul_zero P q h

    -- an entry of the first block
    pub first-entry : (j : ℕ) → j < length arr.forms
        → slice_index_or (combination ring (extended_width ring arr mult) (theta ++ ps) (extended_generators ring arr mult)) j []
        ≡ poly_plus ring (applied ring (slice_index_or arr.forms j []) theta) (poly_times ring (slice_index_or ps j []) (power_of ring arr mult (j + 1)))
    first-entry j m =
        let h : j < width = omega (arith, m) in
        let a = slice_index_or arr.forms j [] in
        let r = form-row j m in
        let ca : IsVector ring l (map (constant ring) a) = (length-map a (constant ring) ∙ r.0, All-map (IsPoly ring) (constant ring) a (All-weaker ring.IsValue (λ c. IsPoly ring (constant ring c)) constant-poly a r.1)) in
        let column : cols j ≡ map (constant ring) a = row-ext (poly_ring ring) l (cols j) (map (constant ring) a) (cols-row j h).0 ca.0 (λ k q. cols-at j k q ∙ column-at k q) in
        split j h
        ∙ (λ i. poly_plus ring ((ap (dot_of (poly_ring ring) theta) column ∙ dot-comm P (poly_commutes laws commutes) theta (map (constant ring) a) ht.1 ca.1) i)
        ((dot-single P n ps (pows j) j hp (pows-row j h) m (λ k q o. times-none _ _ (hp.1 k [] (omega (arith, q, hp.0)))
        (pows-at j k h q ∙ ap (λ b. cond b (power_of ring arr mult (k + 1)) []) (other-number (j + 1) (k + 1) (λ e. o (omega (arith, e))))))
        ∙ ap (poly_times ring (slice_index_or ps j [])) (pows-at j j h m ∙ ap (λ b. cond b (power_of ring arr mult (j + 1)) []) (same-number (j + 1)))) i))
      where
        column-at : (k : ℕ) → k < l → slice_index_or (col (k + 1)) j [] ≡ slice_index_or (map (constant ring) (slice_index_or arr.forms j [])) k []
        column-at k q =
            let back : (k + 1) - 1 ≡ k = omega arith in
            let f : List K → Poly K = λ a. constant ring (entry ring a ((k + 1) - 1)) in
            let r = form-row j m in
            get_or_append_left (map f arr.forms) (in_component l (constant ring ring.one) (k + 1)) [] j (omega (arith, m, length-map arr.forms f))
            ∙ get_or-map f arr.forms j [] [] m ∙ ap (λ c. constant ring (entry ring (slice_index_or arr.forms j []) c)) back
            ∙ sym (get_or-map (constant ring) (slice_index_or arr.forms j []) k ring.zero [] (omega (arith, q, r.0)))

    -- an entry of the second block
    pub second-entry : (j : ℕ) → j < arr.dim
        → slice_index_or (combination ring (extended_width ring arr mult) (theta ++ ps) (extended_generators ring arr mult)) (length arr.forms + j) []
        ≡ slice_index_or theta j []
    second-entry j m =
        let h : n + j < width = omega (arith, m) in
        let hj = ht.1 j [] (omega (arith, m, ht.0)) in
        split (n + j) h
        ∙ (λ i. poly_plus ring
        ((dot-single P l theta (cols (n + j)) j ht (cols-row (n + j) h) m (λ k q o. times-none _ _ (ht.1 k [] (omega (arith, q, ht.0)))
        (cols-at (n + j) k q ∙ column-at k ∙ ap (λ b. cond b (constant ring ring.one) []) (other-number (j + 1) (k + 1) (λ e. o (omega (arith, e))))))
        ∙ ap (poly_times ring (slice_index_or theta j [])) (cols-at (n + j) j m ∙ column-at j ∙ ap (λ b. cond b (constant ring ring.one) []) (same-number (j + 1)))) i)
        (dot-none P n ps (pows (n + j)) hp (pows-row (n + j) h) (λ k q. times-none _ _ (hp.1 k [] (omega (arith, q, hp.0)))
        (pows-at (n + j) k h q ∙ ap (λ b. cond b (power_of ring arr mult (k + 1)) []) (other-number (n + j + 1) (k + 1) (λ e. absurd (omega (arith, e, q)))))) i))
        ∙ P.add_zero _ (P.mul_value _ _ hj P.one_value) ∙ P.mul_one _ hj
      where
        column-at : (k : ℕ) → slice_index_or (col (k + 1)) (n + j) [] ≡ cond ((j + 1) == (k + 1)) (constant ring ring.one) []
        column-at k =
            let f : List K → Poly K = λ a. constant ring (entry ring a ((k + 1) - 1)) in
            ap (λ x. slice_index_or (col (k + 1)) (x + j) []) (sym (length-map arr.forms f))
            ∙ get_or-append-add (map f arr.forms) (in_component l (constant ring ring.one) (k + 1)) j []
            ∙ component-at l (constant ring ring.one) (k + 1) j m
