-- The polynomials that stand for the variables in essential coordinates are linear; a map by which nothing changes carries
-- each basis to itself.
use Rattle.std.specs.Prelude.{◌≡◌, ℕ, ◌+◌, ◌<◌, ◌≤◌, List, [], ◌∷◌, map, length, All, slice_index_or}
use Rattle.std.proofs.lemmas.Bool.{cases_lt}
use Rattle.std.proofs.lemmas.List.Elements.{All-cons, All-from_get_or, All-nil}
use mathlib.Core.Logic.{inl, inr}
use mathlib.Core.Path.{refl, sym, subst}
use native.Mathlib.Omega.{arith}
use Rattle.hp_algebra.specs.Ring.{RingOf, IsRing, IsCommutative, IsField}
use Rattle.hp_mono.specs.Monomials.{Monomial, degree, variable, vars}
use Rattle.hp_sums.proofs.Collected.{collect-keys}
use Rattle.hp_poly.specs.Degrees.{degree_most}
use Rattle.hp_poly.specs.Polynomials.{Poly, poly_degree, term_poly}
use Rattle.hp_poly.specs.PolySetting.{poly_setting}
use Rattle.hp_poly.specs.Substitutions.{substituted}
use Rattle.hp_poly.proofs.FormTerms.{variable-degree}
use Rattle.hp_module.specs.Vectors.{Vector}
use Rattle.hp_module.specs.ReducedBases.{Basis, IsBasis}
use Rattle.hp_graded.proofs.EssentialMaps.{IsEssential}
use Rattle.hp_der.specs.BasisSettings.{HaveDegrees}
use Rattle.hp_der.specs.CarriedBases.{IsCarried, carried}
use Rattle.hp_der.proofs.FirstForms.{form-degree}

-- ---- linear polynomials

variable-linear : {F : Type 0} {ring : RingOf F} → IsRing ring → IsCommutative ring → (k : ℕ) → k < vars
    → poly_degree ring (term_poly ring ring.one (variable (k + 1))) ≤ 1
variable-linear {F} {ring} laws comm k h =
    let d = variable-degree k h in
    degree_most laws comm 1 (term_poly ring ring.one (variable (k + 1)))
    (collect-keys (poly_setting laws comm) (λ m. degree m ≤ 1) ((variable (k + 1), ring.one) ∷ [])
    (All-cons (λ (t : Monomial × F). degree t.0 ≤ 1) (variable (k + 1), ring.one) [] (omega (arith, d)) (All-nil (λ (t : Monomial × F). degree t.0 ≤ 1))))

pub essential-linear : {F : Type 0} {ring : RingOf F} {inverse : F → F} → IsField ring inverse → {l : ℕ} {rows : List (List F)}
    {ks : List Rattle.std.specs.Prelude.Bool} {xs : List (Poly F)} → IsEssential ring l rows ks xs → All (λ x. poly_degree ring x ≤ 1) xs
essential-linear {F} {ring} field {l} {rows} {ks} {xs} es = All-from_get_or (λ x. poly_degree ring x ≤ 1) xs [] (λ i h.
    let inside : i < vars = (let n = es.long in omega (arith, h, n)) in
    elim (cases_lt i l) [
      | inl less ↦
          let row = es.are i [] (let n = es.many in omega (arith, less, n)) in
          let long = row.0 in
          let few = es.few in
          subst (λ p. poly_degree ring p ≤ 1) (sym (es.forms i less))
          (form-degree field.is_ring field.commutes (slice_index_or rows i []) row.1 (omega (arith, long, few)))
      | inr past ↦
          subst (λ p. poly_degree ring p ≤ 1) (sym (es.later i past inside)) (variable-linear field.is_ring field.commutes i inside)
    ])

-- ---- no polynomials for the variables, and some

module _ {F : Type 0} (ring : RingOf F) where
  same-entries : (v : Vector F) → map (λ p. p) v ≡ v
  same-entries [] = refl
  same-entries (p ∷ v) = λ i. p ∷ same-entries v i

  pub same-vectors : (vs : List (Vector F)) → map (map (λ p. p)) vs ≡ vs
  same-vectors [] = refl
  same-vectors (v ∷ vs) = λ i. same-entries v i ∷ same-vectors vs i

  pub same-carried : {b : Basis F} → IsBasis ring b → HaveDegrees ring b.members → IsCarried ring (λ p. p) b
  same-carried {b} basis degrees = record {
    is_map = record {
      value = λ p h. h;
      zero = refl;
      plus = λ p q h k. refl;
      times = λ p q h k. refl;
      of_constant = λ c v. refl;
    };
    onto = λ p h. (p, h, refl);
    apart = λ p q h k e. e;
    vectors = basis.vectors;
    degrees = degrees;
    basis = subst (λ vs. IsBasis ring (record { split = b.split; width = b.width; members = vs })) (sym (same-vectors b.members)) basis;
  }

  pub carried-substituted : (xs : List (Poly F)) → length xs ≡ vars → carried ring xs ≡ substituted ring xs
  carried-substituted [] e = absurd (omega (arith, e))
  carried-substituted (x ∷ xs) e = refl
