-- A vector in the first variables is a logarithmic derivation exactly where, after zeros, it is in the larger module.
use Rattle.std.specs.Prelude.{◌≡◌, ℕ, zero, suc, ◌+◌, ◌-◌, ◌<◌, ◌≤◌, List, [], ◌∷◌, ◌++◌, map, length, take, drop, replicate, All, slice_get, slice_index_or, Some}
use Rattle.std.proofs.lemmas.Bool.{cases_lt}
use Rattle.std.proofs.lemmas.Option.{get_or_from_slice_get, slice_get-get_or, slice_get_within}
use Rattle.std.proofs.lemmas.List.{get_or-append-add, get_or-replicate, get_or_append_left, length-append, length-drop, length-replicate, length-take, take-append-drop}
use Rattle.std.proofs.lemmas.List.Elements.{All-cons, All-drop, All-from_get_or, All-head, All-map, All-nil, All-take, All-weaker}
use mathlib.Core.Logic.{inl, inr}
use mathlib.Core.Path.{refl, sym, ap, ◌∙◌, subst}
use native.Mathlib.Omega.{arith}
use Rattle.hp_algebra.specs.Ring.{RingOf, IsField, IsRing, IsCommutative}
use Rattle.hp_algebra.proofs.Rings.{add_cancel, zero_mul}
use Rattle.hp_algebra.proofs.Rows.{row-ext}
use Rattle.hp_algebra.proofs.Dots.{dot_of_value}
use Rattle.hp_mono.specs.Monomials.{Monomial}
use Rattle.hp_arr.specs.Arrangement.{Arrangement}
use Rattle.hp_poly.specs.Polynomials.{Poly, IsPoly, IsInVariables, constant, form_power, poly_neg, poly_plus, poly_ring, poly_times}
use Rattle.hp_poly.specs.PolyRing.{poly_commutes, poly_is_ring, term_poly-IsPoly}
use Rattle.hp_module.specs.Vectors.{Vector, IsVector, combination}
use Rattle.hp_module.specs.FreeModules.{IsFreeModule, terms}
use Rattle.hp_module.specs.Derivations.{IsVectorInVariables, applied}
use Rattle.hp_module.specs.ElimOrders.{elimination_order}
use Rattle.hp_module.specs.EliminationLaws.{elimination-is_order}
use Rattle.hp_module.specs.FallingTerms.{free_module}
use Rattle.hp_module.proofs.EntryTerms.{terms_all, terms_each}
use Rattle.hp_module.proofs.VectorCoefficients.{combination-vector}
use Rattle.hp_graded.proofs.ExponentTails.{IsFirst}
use Rattle.hp_graded.proofs.FirstVariables.{first_coefficients}
use Rattle.hp_der.specs.DerivationModules.{IsExtended, IsLogarithmic, extended_generators, extended_width, power_of}
use Rattle.hp_der.proofs.FirstForms.{AllFirst, first-constant, first-dot}
use Rattle.hp_der.proofs.ExtendedGenerators.{IsMultiArrangement, coefficients-vector, first-entry, generator-vectors, generators-length, power-first, power-poly, second-entry}

-- the vector with n zeros before it
abbrev pub padded : {F : Type 0} → ℕ → Vector F → Vector F
padded n v = replicate n [] ++ v

-- a list of choices, one for each place
choices : {X : Type 0} (P : ℕ → X → Type 0) (d : X) (n s : ℕ) → ((j : ℕ) → s ≤ j → j < s + n → (x : X) × P j x)
    → (xs : List X) × (length xs ≡ n) × ((j : ℕ) → j < n → P (s + j) (slice_index_or xs j d))
choices P d zero s f = ([], refl, λ j l. absurd (omega (arith, l)))
choices {X} P d (suc n) s f =
    let x = f s (omega arith) (omega arith) in
    let r = choices P d n (s + 1) (λ j a b. f j (omega (arith, a)) (omega (arith, b))) in
    (x.0 ∷ r.0, ap suc r.1, at x r.0 r.2)
  where
    at : (x : (y : X) × P s y) (xs : List X) → ((j : ℕ) → j < n → P ((s + 1) + j) (slice_index_or xs j d)) → (j : ℕ)
        → j < suc n → P (s + j) (slice_index_or (x.0 ∷ xs) j d)
    at x xs g zero l = let e : s ≡ s + 0 = omega arith in subst (λ i. P i x.0) e x.1
    at x xs g (suc j) l =
        let e : (s + 1) + j ≡ s + suc j = omega arith in
        subst (λ i. P i (slice_index_or xs j d)) e (g j (omega (arith, l)))

module _ {K : Type 0} {ring : RingOf K} {inverse : K → K} (field : IsField ring inverse) (arr : Arrangement K)
    (mult : List ℕ) (is : IsMultiArrangement ring arr mult) where
  abbrev laws : IsRing ring
  laws = field.is_ring

  abbrev comm : IsCommutative ring
  comm = field.commutes

  abbrev P : IsRing (poly_ring ring)
  P = poly_is_ring laws comm

  abbrev n : ℕ
  n = length arr.forms

  abbrev l : ℕ
  l = arr.dim

  abbrev width : ℕ
  width = extended_width ring arr mult

  abbrev gens : List (Vector K)
  gens = extended_generators ring arr mult

  abbrev form_at : ℕ → List K
  form_at j = slice_index_or arr.forms j []

  abbrev power_at : ℕ → Poly K
  power_at j = power_of ring arr mult (j + 1)

  power-is : (j : ℕ) → power_at j ≡ form_power ring (form_at j) (slice_index_or mult j 0)
  power-is j = let back : (j + 1) - 1 ≡ j = omega arith in ap (λ i. form_power ring (slice_index_or arr.forms i []) (slice_index_or mult i 0)) back

  -- entries of a padded vector
  pad-low : (v : Vector K) (j : ℕ) → j < n → slice_index_or (padded n v) j [] ≡ []
  pad-low v j m =
      get_or_append_left (replicate n []) v [] j (omega (arith, m, length-replicate {A = Poly K} n []))
      ∙ get_or-replicate n j [] [] m

  pad-high : (v : Vector K) (j : ℕ) → slice_index_or (padded n v) (n + j) [] ≡ slice_index_or v j []
  pad-high v j =
      ap (λ x. slice_index_or (padded n v) (x + j) []) (sym (length-replicate {A = Poly K} n []))
      ∙ get_or-append-add (replicate n []) v j []

  -- x + q p = 0 says that x is a multiple of p
  solve : (x q p : Poly K) → IsPoly ring x → IsPoly ring q → IsPoly ring p → poly_plus ring x (poly_times ring q p) ≡ []
      → x ≡ poly_plus ring (poly_times ring (poly_neg ring q) p) []
  solve x q p hx hq hp e =
      let qp = P.mul_value q p hq hp in
      let nq = P.neg_value q hq in
      let np = P.mul_value (poly_neg ring q) p nq hp in
      add_cancel P (poly_times ring q p) x (poly_times ring (poly_neg ring q) p) qp hx np
      (P.add_comm _ _ qp hx ∙ e ∙ sym (sym (P.add_mul q _ p hq nq hp) ∙ ap (λ u. poly_times ring u p) (P.add_neg q hq) ∙ zero_mul P p hp))
      ∙ sym (P.add_zero _ np)

  -- a multiple of p in the first variables, as p is, is one by a factor in the first variables
  factor-first : (x q p : Poly K) → IsPoly ring x → IsPoly ring q → IsPoly ring p → AllFirst l x → AllFirst l p
      → x ≡ poly_plus ring (poly_times ring q p) [] → (r : Poly K) × IsInVariables ring l r × (x ≡ poly_times ring p r)
  factor-first x q p hx hq hp fx fp e =
      let L : IsFreeModule (free_module ring inverse 1 [] (elimination_order 0)) = record { field = field; order = elimination-is_order 0 1 } in
      let pv : IsVector ring 1 (p ∷ []) = (refl, one hp) in
      let r = first_coefficients L ((p ∷ []) ∷ []) (All-cons (IsVector ring 1) (p ∷ []) [] pv (All-nil (IsVector ring 1))) l
      (λ i m. at i m) (x ∷ []) ((q ∷ []), (refl, one hq), ap (λ u. u ∷ []) e) (single x fx) in
      read r.0 r.1.0 r.1.1 (terms_each (λ t. IsFirst l t.0.mono) 1 r.0 r.3) r.2
    where
      one : {p : Poly K} → IsPoly ring p → All (IsPoly ring) (p ∷ [])
      one {p} h = All-cons (IsPoly ring) p [] h (All-nil (IsPoly ring))

      single : (p : Poly K) → AllFirst l p → All (λ t. IsFirst l t.0.mono) (terms (p ∷ []))
      single p f = terms_all (λ t. IsFirst l t.0.mono) 1 (p ∷ []) (λ j m. entries j m)
        where
          entries : (j : ℕ) → j < 1 → AllFirst l (slice_index_or (p ∷ []) j [])
          entries zero m = f
          entries (suc j) m = absurd (omega (arith, m))

      at : (i : ℕ) → i < 1 → All (λ t. IsFirst l t.0.mono) (terms (slice_index_or ((p ∷ []) ∷ []) i []))
      at zero m = single p fp
      at (suc i) m = absurd (omega (arith, m))

      read : (rs : Vector K) → length rs ≡ 1 → All (IsPoly ring) rs → ((j : ℕ) → j < length rs → AllFirst l (slice_index_or rs j []))
          → x ∷ [] ≡ combination ring 1 rs ((p ∷ []) ∷ []) → (r : Poly K) × IsInVariables ring l r × (x ≡ poly_times ring p r)
      read [] s h f e = absurd (omega (arith, s))
      read (r ∷ t ∷ rs) s h f e = absurd (omega (arith, s))
      read (r ∷ []) s h f e =
          let hr = All-head (IsPoly ring) r [] h in
          (r, (hr, f 0 (omega arith)), ap (λ v. slice_index_or v 0 []) e ∙ P.add_zero _ (P.mul_value r p hr hp) ∙ poly_commutes laws comm r p hr hp)

  -- ---- from the larger module

  pub derivation_from : (theta : Vector K) → IsVectorInVariables ring arr.dim arr.dim theta
      → IsExtended ring arr mult (padded (length arr.forms) theta) → IsLogarithmic ring arr mult theta
  derivation_from theta hv g = record { in_variables = hv; tangent = tangent }
    where
      qs-length : length g.0 ≡ l + n
      qs-length = g.1.0 ∙ generators-length laws comm arr mult is

      t : Vector K
      t = take l g.0

      ps : Vector K
      ps = drop l g.0

      ht : IsVector ring l t
      ht = (let a = length-take l g.0 in let b = qs-length in omega (arith, a, b), All-take (IsPoly ring) l g.0 g.1.1)

      hp : IsVector ring n ps
      hp = (let a = length-drop l g.0 in let b = qs-length in omega (arith, a, b), All-drop (IsPoly ring) l g.0 g.1.1)

      whole-is : padded n theta ≡ combination ring width (t ++ ps) gens
      whole-is = g.2 ∙ ap (λ q. combination ring width q gens) (sym (take-append-drop l g.0))

      same : theta ≡ t
      same = row-ext (poly_ring ring) l theta t hv.0 ht.0 (λ j m.
          sym (pad-high theta j) ∙ ap (λ v. slice_index_or v (n + j) []) whole-is ∙ second-entry laws comm arr mult is t ps ht hp j m)

      tangent : (i : ℕ) (a : List K) (m : ℕ) → slice_get arr.forms i ≡ Some a → slice_get mult i ≡ Some m
          → (q : Poly K) × IsInVariables ring l q × (applied ring a theta ≡ poly_times ring (form_power ring a m) q)
      tangent i a m ea em =
          let at = slice_get_within arr.forms i a ea in
          let ra = get_or_from_slice_get arr.forms i a [] ea in
          let rm = get_or_from_slice_get mult i m 0 em in
          let r = is.rows i [] at in
          let consts : All (IsPoly ring) (map (constant ring) (form_at i)) = All-map (IsPoly ring) (constant ring) (form_at i)
          (All-weaker ring.IsValue (λ c. IsPoly ring (constant ring c)) (λ c v. term_poly-IsPoly laws comm c Rattle.hp_mono.specs.Monomials.one v refl) (form_at i) r.1) in
          let firsts : All (AllFirst l) (map (constant ring) (form_at i)) = All-map (AllFirst l) (constant ring) (form_at i) (λ j d x. first-constant laws comm l (slice_index_or (form_at i) j d)) in
          let polys : All (IsPoly ring) theta = All-weaker (IsInVariables ring l) (IsPoly ring) (λ p h. h.0) theta hv.1 in
          let x = applied ring (form_at i) theta in
          let hx : IsPoly ring x = dot_of_value P (map (constant ring) (form_at i)) theta consts polys in
          let fx : AllFirst l x = first-dot laws comm l (map (constant ring) (form_at i)) theta consts polys firsts
          (All-weaker (IsInVariables ring l) (AllFirst l) (λ p h. h.1) theta hv.1) in
          let q = slice_index_or ps i [] in
          let hq : IsPoly ring q = hp.1 i [] (omega (arith, at, hp.0)) in
          let hpow = power-poly laws comm arr mult is i at in
          let zero_at : poly_plus ring x (poly_times ring q (power_at i)) ≡ [] =
          ap (λ v. poly_plus ring (applied ring (form_at i) v) (poly_times ring q (power_at i))) same
          ∙ sym (first-entry laws comm arr mult is t ps ht hp i at) ∙ ap (λ v. slice_index_or v i []) (sym whole-is) ∙ pad-low theta i at in
          let f = factor-first x (poly_neg ring q) (power_at i) hx (P.neg_value q hq) hpow fx (power-first laws comm arr mult is i at)
          (solve x q (power_at i) hx hq hpow zero_at) in
          (f.0, f.1, ap (λ b. applied ring b theta) (sym ra) ∙ f.2 ∙ (λ j. poly_times ring ((power-is i ∙ (λ k. form_power ring (ra k) (rm k))) j) f.0))

  -- ---- and into it

  pub extended_from : (theta : Vector K) → IsLogarithmic ring arr mult theta
      → IsExtended ring arr mult (padded (length arr.forms) theta)
  extended_from theta d = (theta ++ c.0, coefficients-vector laws comm arr mult is theta c.0 ht hp, same)
    where
      polys : All (IsPoly ring) theta
      polys = All-weaker (IsInVariables ring l) (IsPoly ring) (λ p h. h.0) theta d.in_variables.1

      ht : IsVector ring l theta
      ht = (d.in_variables.0, polys)

      -- the coefficient that takes form j away
      Takes : ℕ → Poly K → Type 0
      Takes j p = IsPoly ring p × (poly_plus ring (applied ring (form_at j) theta) (poly_times ring p (power_at j)) ≡ [])

      choose : (j : ℕ) → 0 ≤ j → j < 0 + n → (p : Poly K) × Takes j p
      choose j a b =
          let at : j < n = omega (arith, b) in
          let t = d.tangent j (form_at j) (slice_index_or mult j 0) (slice_get-get_or arr.forms j [] at) (slice_get-get_or mult j 0 (omega (arith, at, is.one_each))) in
          let q = t.0 in
          let hq = t.1.0 in
          let nq = P.neg_value q hq in
          let hpow = power-poly laws comm arr mult is j at in (
            poly_neg ring q,
            (
              nq,
              ap (λ u. poly_plus ring u (poly_times ring (poly_neg ring q) (power_at j)))
                  (t.2 ∙ ap (λ u. poly_times ring u q) (sym (power-is j)) ∙ poly_commutes laws comm (power_at j) q hpow hq)
                  ∙ sym (P.add_mul q _ (power_at j) hq nq hpow) ∙ ap (λ u. poly_times ring u (power_at j)) (P.add_neg q hq) ∙ zero_mul P (power_at j) hpow,
            ),
          )

      c : (ps : Vector K) × (length ps ≡ n) × ((j : ℕ) → j < n → Takes (0 + j) (slice_index_or ps j []))
      c = choices Takes [] n 0 choose

      taken : (j : ℕ) → j < n → Takes j (slice_index_or c.0 j [])
      taken j m = let e : 0 + j ≡ j = omega arith in subst (λ i. Takes i (slice_index_or c.0 j [])) e (c.2 j m)

      hp : IsVector ring n c.0
      hp = (c.1, All-from_get_or (IsPoly ring) c.0 [] (λ j m. (taken j (omega (arith, m, c.1))).0))

      padded-length : length (padded n theta) ≡ width
      padded-length = length-append (replicate n []) theta ∙ (λ i. length-replicate {A = Poly K} n [] i + d.in_variables.0 i)

      whole : IsVector ring width (combination ring width (theta ++ c.0) gens)
      whole = combination-vector laws comm width (theta ++ c.0) gens (coefficients-vector laws comm arr mult is theta c.0 ht hp).1 (generator-vectors laws comm arr mult is)

      same : padded n theta ≡ combination ring width (theta ++ c.0) gens
      same = row-ext (poly_ring ring) width (padded n theta) (combination ring width (theta ++ c.0) gens) padded-length whole.0 (λ j m.
          elim (cases_lt j n) [
            | inl at ↦ pad-low theta j at ∙ sym (first-entry laws comm arr mult is theta c.0 ht hp j at ∙ (taken j at).1)
            | inr high ↦
                let k = j - n in
                let back : n + k ≡ j = omega (arith, high) in
                ap (λ i. slice_index_or (padded n theta) i []) (sym back) ∙ pad-high theta k
                ∙ sym (second-entry laws comm arr mult is theta c.0 ht hp k (omega (arith, m, high))) ∙ ap (λ i. slice_index_or (combination ring width (theta ++ c.0) gens) i []) back
          ])
