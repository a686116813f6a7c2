-- The generators in essential coordinates: vectors of the width, homogeneous, in the variables of the pivots; the
-- substitution takes them to the generators of the larger module.
use Rattle.std.specs.Prelude.{◌≡◌, ◌≢◌, ℕ, zero, suc, set, replicate, ◌+◌, ◌-◌, ◌<◌, ◌≤◌, ◌==◌, Bool, true, false, cond, List, [], ◌∷◌, ◌++◌, map, length, All, slice_index_or}
use Rattle.std.proofs.lemmas.Bool.{cases_Bool}
use Rattle.std.proofs.lemmas.List.{get_or-map, length-map, map-append}
use Rattle.std.proofs.lemmas.List.Elements.{All-append, All-from_get_or, All-head, All-map, All-nil, All-tail, All-weaker}
use mathlib.Core.Logic.{inl, inr}
use mathlib.Core.Path.{refl, sym, ap, ◌∙◌, subst}
use native.Mathlib.Omega.{arith}
use Rattle.hp_algebra.specs.Ring.{RingOf, IsRing, IsCommutative, IsField}
use Rattle.hp_algebra.specs.Rows.{IsRow, entry}
use Rattle.hp_algebra.proofs.Rows.{listed-entry}
use Rattle.hp_lists.specs.Lists.{one_to}
use Rattle.hp_linear.specs.Matrices.{Matrix, IsEchelonForm}
use Rattle.hp_linear.proofs.Combinations.{span-member}
use Rattle.hp_mono.specs.Monomials as mono
use Rattle.hp_mono.specs.Monomials.{Monomial, IsMonomial, degree, product, variable, vars}
use Rattle.hp_arr.specs.Arrangement.{Arrangement}
use Rattle.hp_poly.specs.Polynomials.{Poly, IsPoly, IsHomogeneous, constant, form_power, linear_form, poly_ring}
use Rattle.hp_poly.specs.PolyRing.{poly_is_ring, term_poly-IsPoly, times-keys}
use Rattle.hp_poly.specs.Substitutions.{substituted}
use Rattle.hp_poly.proofs.FormTerms.{form-terms}
use Rattle.hp_poly.proofs.LinearForms.{form_power-IsPoly, linear_form-IsPoly}
use Rattle.hp_poly.proofs.SubstitutedForms.{substituted-power}
use Rattle.hp_module.specs.Vectors.{Vector, IsVector, IsHomogeneousVector}
use Rattle.hp_module.specs.FreeModules.{terms}
use Rattle.hp_module.proofs.EntryTerms.{terms_all}
use Rattle.hp_graded.specs.EssentialRows.{chosen, essential_form, essential_rows, essential_variables, is_pivot}
use Rattle.hp_graded.proofs.EssentialForms.{echelon-essential, essential_form-row, form-is}
use Rattle.hp_graded.proofs.EssentialMaps.{IsEssential, essential-map, essential-polys}
use Rattle.hp_graded.proofs.KeptExponents.{IsInside, high, high-product, inside-one}
use Rattle.hp_der.specs.DerivationModules.{column_generator, extended_generators, extended_width, in_component, most_multiplicity, power_generator, power_of}
use Rattle.hp_der.specs.EssentialGenerators.{essential_arrangement, essential_generators}
use Rattle.hp_der.proofs.FirstForms.{constant-all, homogeneous-constant, homogeneous-power}
use Rattle.hp_der.proofs.ExtendedGenerators.{IsMultiArrangement, all-numbers, column-all, column-length, component-all, component-length, power-poly}

-- a map that keeps each entry keeps the list
pub map-fixed : {A : Type 0} (g : A → A) (xs : List A) → All (λ x. g x ≡ x) xs → map g xs ≡ xs
map-fixed g [] h = refl
map-fixed {A} g (x ∷ xs) h =
    let e = All-head (λ (x : A). g x ≡ x) x xs h in
    let r = map-fixed g xs (All-tail (λ (x : A). g x ≡ x) x xs h) in
    λ i. e i ∷ r i

map-both : {A B C : Type 0} (f : B → C) (g : A → B) (h : A → C) (xs : List A) → All (λ x. f (g x) ≡ h x) xs → map f (map g xs) ≡ map h xs
map-both f g h [] p = refl
map-both {A} f g h (x ∷ xs) p =
    let e = All-head (λ (x : A). f (g x) ≡ h x) x xs p in
    let r = map-both f g h xs (All-tail (λ (x : A). f (g x) ≡ h x) x xs p) in
    λ i. e i ∷ r i

-- a variable that is chosen is inside
inside-variable : (ks : List Bool) (n k : ℕ) → slice_index_or ks k false ≡ true
    → All (λ (e : ℕ). e ≡ 0) (high ks (set (replicate n 0) k 1))
inside-variable ks zero k e = inside-one ks 0
inside-variable [] (suc n) k e = absurd (cc)
inside-variable (true ∷ ks) (suc n) zero e = inside-one (true ∷ ks) (suc n)
inside-variable (false ∷ ks) (suc n) zero e = absurd (cc)
inside-variable (true ∷ ks) (suc n) (suc k) e =
    Rattle.std.proofs.lemmas.List.Elements.All-cons (λ (e : ℕ). e ≡ 0) 0 _ refl (inside-variable ks n k e)
inside-variable (false ∷ ks) (suc n) (suc k) e =
    Rattle.std.proofs.lemmas.List.Elements.All-cons (λ (e : ℕ). e ≡ 0) 0 _ refl (inside-variable ks n k e)

module _ {K : Type 0} {ring : RingOf K} {inverse : K → K} (field : IsField ring inverse) (arr : Arrangement K) (mult : List ℕ)
    (is : IsMultiArrangement ring arr mult) {e : Matrix K} {pivots : List ℕ}
    (form : IsEchelonForm ring (record { cols = arr.dim; rows = arr.forms }) e pivots) where
  abbrev laws : IsRing ring
  laws = field.is_ring

  abbrev comm : IsCommutative ring
  comm = field.commutes

  abbrev PR : IsRing (poly_ring ring)
  PR = poly_is_ring laws comm

  abbrev l : ℕ
  l = arr.dim

  abbrev n : ℕ
  n = length arr.forms

  abbrev width : ℕ
  width = extended_width ring arr mult

  abbrev arr' : Arrangement K
  arr' = essential_arrangement ring arr mult pivots

  abbrev cut : List K → List K
  cut a = essential_form ring arr.dim pivots a

  abbrev rows : List (List K)
  rows = essential_rows ring arr.dim pivots e.rows

  abbrev xs : List (Poly K)
  xs = essential_variables ring arr.dim pivots e.rows

  abbrev f : Poly K → Poly K
  f p = substituted ring xs p

  abbrev ks : List Bool
  ks = chosen arr.dim pivots

  pub arrangement-essential : IsEssential ring arr.dim (essential_rows ring arr.dim pivots e.rows) (chosen arr.dim pivots) (essential_variables ring arr.dim pivots e.rows)
  arrangement-essential = echelon-essential field arr.dim is.dim_high arr.forms is.rows form

  cut-row : (a : List K) → IsRow ring l a → IsRow ring l (cut a)
  cut-row a h = essential_form-row laws l pivots a h

  -- the forms without these variables are rows too
  is' : IsMultiArrangement ring arr' mult
  is' = record {
    rows = All-map (IsRow ring l) cut arr.forms (All-weaker (IsRow ring l) (λ a. IsRow ring l (cut a)) cut-row arr.forms is.rows);
    dim_high = is.dim_high;
    one_each = is.one_each ∙ sym (length-map arr.forms cut);
    most = is.most;
  }

  same-many : length arr'.forms ≡ length arr.forms
  same-many = length-map arr.forms cut

  form-at : (j : ℕ) → j < n → slice_index_or arr'.forms j [] ≡ cut (slice_index_or arr.forms j [])
  form-at j h = get_or-map cut arr.forms j [] [] h

  power-at : (j : ℕ) → j < n → power_of ring arr' mult (j + 1) ≡ form_power ring (cut (slice_index_or arr.forms j [])) (slice_index_or mult j 0)
  power-at j h =
      let back : (j + 1) - 1 ≡ j = omega arith in
      (λ i. form_power ring (slice_index_or arr'.forms (back i) []) (slice_index_or mult (back i) 0))
      ∙ ap (λ a. form_power ring a (slice_index_or mult j 0)) (form-at j h)

  -- ---- what holds of all generators

  each-essential : (R : Vector K → Type 0) → ((j : ℕ) → j < l → R (column_generator ring arr mult (j + 1)))
      → ((j : ℕ) → j < n → R (power_generator ring arr' mult (j + 1))) → All R (essential_generators ring arr mult pivots)
  each-essential R g h =
      All-append R _ _ (All-map R (column_generator ring arr mult) (one_to l) (all-numbers laws comm arr mult is (λ j. R (column_generator ring arr mult j)) l g))
      (All-map R (power_generator ring arr' mult) (one_to n) (all-numbers laws comm arr mult is (λ j. R (power_generator ring arr' mult j)) n h))

  constant-poly : (c : K) → ring.IsValue c → IsPoly ring (constant ring c)
  constant-poly c v = term_poly-IsPoly laws comm c mono.one v refl

  power-is : (j : ℕ) → j < n → IsPoly ring (power_of ring arr' mult (j + 1))
  power-is j h = power-poly laws comm arr' mult is' j (omega (arith, h, same-many))

  wide : extended_width ring arr' mult ≡ width
  wide = ap (λ m. m + l) same-many

  pub essential-vectors : All (IsVector ring (extended_width ring arr mult)) (essential_generators ring arr mult pivots)
  essential-vectors = each-essential (IsVector ring width)
      (λ j h. (column-length laws comm arr mult is (j + 1), column-all laws comm arr mult is (IsPoly ring) j h constant-poly PR.zero_value))
      (λ j h. subst (λ w. IsVector ring w (power_generator ring arr' mult (j + 1))) wide (
        component-length laws comm arr' mult is' (extended_width ring arr' mult) (power_of ring arr' mult (j + 1)) (j + 1),
        component-all laws comm arr' mult is' (IsPoly ring) (extended_width ring arr' mult) (power_of ring arr' mult (j + 1)) (j + 1) (power-is j h) PR.zero_value,
      ))

  -- homogeneous, of degree 0 or a multiplicity
  pub essential-degrees : All (λ v. (d : ℕ) × (d ≤ most_multiplicity) × IsHomogeneousVector ring d v) (essential_generators ring arr mult pivots)
  essential-degrees = each-essential (λ v. (d : ℕ) × (d ≤ most_multiplicity) × IsHomogeneousVector ring d v)
      (λ j h. (0, omega arith, column-all laws comm arr mult is (IsHomogeneous ring 0) j h (λ c v. homogeneous-constant laws comm c) (none 0)))
      (λ j h.
      let m = slice_index_or mult j 0 in
      let a = cut-row (slice_index_or arr.forms j []) (is.rows j [] h) in
      let long = a.0 in
      let high = is.dim_high in
      let p = subst (IsHomogeneous ring m) (sym (power-at j h)) (homogeneous-power laws comm (cut (slice_index_or arr.forms j [])) m a.1 (omega (arith, long, high))) in
      (m, is.most j 0 (let o = is.one_each in omega (arith, h, o)), component-all laws comm arr' mult is' (IsHomogeneous ring m) (extended_width ring arr' mult) (power_of ring arr' mult (j + 1)) (j + 1) p (none m)))
    where
      none : (d : ℕ) → IsHomogeneous ring d []
      none d = All-nil (λ (t : Monomial × K). degree t.0 ≡ d)

  -- ---- only variables with a pivot occur

  abbrev AllInside : Poly K → Type 0
  AllInside p = All (λ t. IsInside ks t.0) p

  inside-none : AllInside []
  inside-none = All-nil (λ (t : Monomial × K). IsInside ks t.0)

  inside-constant : (c : K) → AllInside (constant ring c)
  inside-constant c = constant-all laws comm (IsInside ks) c (inside-one ks vars)

  inside-form : (a : List K) → IsRow ring l a → AllInside (linear_form ring (cut a))
  inside-form a h =
      let r = cut-row a h in
      All-weaker (λ (t : Monomial × K). (k : ℕ) × (k < length (cut a)) × (entry ring (cut a) k ≢ ring.zero) × (t.0 ≡ variable (k + 1)))
      (λ t. IsInside ks t.0) (λ t w.
      let k = w.0 in
      let lk : k < l = (let x = w.1 in let y = r.0 in omega (arith, x, y)) in
      let back : (k + 1) - 1 ≡ k = omega arith in
      let at = listed-entry ring l (λ j. cond (is_pivot pivots j) (entry ring a (j - 1)) ring.zero) k lk in
      let there : slice_index_or ks k false ≡ is_pivot pivots (k + 1) =
      Rattle.std.proofs.lemmas.List.FromFn.get_or-map-range_with_len (is_pivot pivots) 1 l k (k + 1) false lk (omega arith) in
      elim (cases_Bool (is_pivot pivots (k + 1))) [
        | inl t ↦ subst (IsInside ks) (sym (w.3 ∙ ap (λ c. set mono.one c 1) back)) (inside-variable ks vars k (there ∙ t))
        | inr no_pivot ↦ absurd (w.2 (at ∙ ap (λ b. cond b (entry ring a ((k + 1) - 1)) ring.zero) no_pivot))
      ]) (linear_form ring (cut a)) (form-terms field (cut a) r.1)

  inside-power : (a : List K) (m : ℕ) → IsRow ring l a → AllInside (form_power ring (cut a) m)
  inside-power a zero h = inside-constant ring.one
  inside-power a (suc m) h =
      let r = cut-row a h in
      let p = linear_form-IsPoly laws comm (cut a) r.1 in
      let q = form_power-IsPoly laws comm (cut a) m r.1 in
      let x = inside-form a h in
      let y = inside-power a m h in
      times-keys laws comm (IsInside ks) (linear_form ring (cut a)) (form_power ring (cut a) m) (λ i d s j c t.
      subst (All (λ (z : ℕ). z ≡ 0)) (sym (high-product ks _ _ (p.monomials i d s ∙ sym (q.monomials j c t)) (y j c t))) (x i d s))

  pub essential-inside : (i : ℕ) → i < length (essential_generators ring arr mult pivots)
      → All (λ t. IsInside (chosen arr.dim pivots) t.0.mono) (terms (slice_index_or (essential_generators ring arr mult pivots) i []))
  essential-inside i m =
      let g = each-essential (All AllInside) (λ j h. column-all laws comm arr mult is AllInside j h (λ c v. inside-constant c) inside-none)
      (λ j h. component-all laws comm arr' mult is' AllInside (extended_width ring arr' mult) (power_of ring arr' mult (j + 1)) (j + 1)
      (subst AllInside (sym (power-at j h)) (inside-power (slice_index_or arr.forms j []) (slice_index_or mult j 0) (is.rows j [] h))) inside-none) in
      terms_all (λ t. IsInside ks t.0.mono) 1 (slice_index_or (essential_generators ring arr mult pivots) i []) (λ j k. g i [] m j [] k)

  -- ---- the substitution takes them to the generators of the larger module

  fixed-column : (j : ℕ) → j < l → map f (column_generator ring arr mult (j + 1)) ≡ column_generator ring arr mult (j + 1)
  fixed-column j h =
      map-fixed f (column_generator ring arr mult (j + 1))
      (column-all laws comm arr mult is (λ p. f p ≡ p) j h (λ c v. (essential-map field arrangement-essential).of_constant c v) refl)

  component-mapped : (w : ℕ) (p q : Poly K) (c : ℕ) → f p ≡ q → map f (in_component w p c) ≡ in_component w q c
  component-mapped w p q c eq =
      map-both f (λ k. cond (k == c) p []) (λ k. cond (k == c) q []) (one_to w) (λ i d m. pick (slice_index_or (one_to w) i d == c))
    where
      pick : (b : Bool) → f (cond b p []) ≡ cond b q []
      pick true = eq
      pick false = refl

  mapped-power_of : (j : ℕ) → j < n → f (power_of ring arr' mult (j + 1)) ≡ power_of ring arr mult (j + 1)
  mapped-power_of j h =
      let a = slice_index_or arr.forms j [] in
      let ra = is.rows j [] h in
      let es = arrangement-essential in
      let back : j ≡ (j + 1) - 1 = omega arith in
      let member = span-member laws l arr.forms a is.rows (j, h, Rattle.std.proofs.lemmas.List.get_or_default arr.forms j a [] h) in
      ap f (power-at j h)
      ∙ substituted-power field xs (essential-polys field es) es.long l rows es.are es.many es.few es.forms (cut a) (slice_index_or mult j 0) (cut-row a ra)
      ∙ ap (λ v. form_power ring v (slice_index_or mult j 0)) (sym (form-is field l is.dim_high arr.forms is.rows form a ra member))
      ∙ (λ i. form_power ring (slice_index_or arr.forms (back i) []) (slice_index_or mult (back i) 0))

  mapped-power_generator : (j : ℕ) → j < n → map f (power_generator ring arr' mult (j + 1)) ≡ power_generator ring arr mult (j + 1)
  mapped-power_generator j h =
      component-mapped (extended_width ring arr' mult) (power_of ring arr' mult (j + 1)) (power_of ring arr mult (j + 1)) (j + 1) (mapped-power_of j h)
      ∙ ap (λ w. in_component w (power_of ring arr mult (j + 1)) (j + 1)) wide

  -- The substitution takes the generators to those of the larger module.
  pub essential-generators : map (map (substituted ring (essential_variables ring arr.dim pivots e.rows))) (essential_generators ring arr mult pivots)
      ≡ extended_generators ring arr mult
  essential-generators =
      let col = column_generator ring arr mult in
      let pow = power_generator ring arr mult in
      let pow' = power_generator ring arr' mult in
      map-append (map f) (map col (one_to l)) (map pow' (one_to n))
      ∙ (λ i. map-both (map f) col col (one_to l) (all-numbers laws comm arr mult is (λ j. map f (col j) ≡ col j) l fixed-column) i
      ++ map-both (map f) pow' pow (one_to n) (all-numbers laws comm arr mult is (λ j. map f (pow' j) ≡ pow j) n mapped-power_generator) i)
