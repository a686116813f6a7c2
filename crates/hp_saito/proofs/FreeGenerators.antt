-- Minimal generators of D(A, m): as many as the dimension they are a basis and their own minimal resolution; else they
-- are more, and D(A, m) is not free.
use Rattle.std.specs.Prelude.{◌≡◌, ◌≢◌, ℕ, zero, suc, ◌<◌, ◌≤◌, List, [], ◌∷◌, ◌++◌, length, replicate, All, slice_index_or}
use Rattle.std.specs.List.Sorted.{IsNonDecreasing}
use Rattle.std.proofs.lemmas.List.{get_or_default}
use Rattle.std.proofs.lemmas.List.Elements.{All-cons, All-nil, All-weaker}
use mathlib.Core.Path.{refl, sym, ap, ◌∙◌, subst}
use native.Mathlib.Omega.{arith}
use Rattle.hp_algebra.specs.Ring.{RingOf, Numbering, IsField, IsNumbering}
use Rattle.hp_arr.specs.Arrangement.{Arrangement, IsArrangement}
use Rattle.hp_complex.specs.Complexes.{AreMaps, IsExact, map_at}
use Rattle.hp_linear.specs.Matrices.{Matrix, IsMatrix}
use Rattle.hp_linear.specs.Spaces.{AreIndependent}
use Rattle.hp_mono.specs.Monomials.{max_degree}
use Rattle.hp_poly.specs.Polynomials.{Poly, IsInVariables, IsPoly, poly_ring}
use Rattle.hp_module.specs.Vectors.{Vector, IsHomogeneousBasis, IsHomogeneousVector, IsVector}
use Rattle.hp_module.specs.Derivations.{IsVectorInVariables}
use Rattle.hp_module.specs.FreeModules.{IsGraded}
use Rattle.hp_graded.proofs.BasisMembers.{homogeneous-graded}
use Rattle.hp_der.specs.DerivationModules.{IsLogarithmic}
use Rattle.hp_resolution.specs.Resolutions.{HasDegrees, IsFrame, IsMinimal, IsMinimalResolution, IsResolution, Resolution, column_degrees, row_degrees}
use Rattle.hp_saito.specs.Freeness.{AreMinimalGenerators, IsFreeArrangement}
use Rattle.hp_saito.proofs.FreeBases.{HasGenerators, generators-enough, generators-few, generators-independent}

-- a list to which one element was added when it was empty
pub one-pushed : {X : Type 0} {xs none : List X} {x y : X} → xs ≡ none ++ x ∷ [] → none ≡ [] → x ≡ y → xs ≡ y ∷ []
one-pushed e f g = e ∙ (λ i. f i ++ g i ∷ [])

-- each has so many entries as the dimension
pub generators-widths : {K : Type 0} {ring : RingOf K} {arr : Arrangement K} {mult : List ℕ} {vs : List (Vector K)}
    {degrees : List ℕ} → AreMinimalGenerators ring arr mult vs degrees → {n : ℕ} → n ≡ arr.dim
    → All (λ v. length v ≡ n) vs
generators-widths {K} {ring} {arr} {mult} {vs} are {n} e =
    All-weaker (IsLogarithmic ring arr mult) (λ v. length v ≡ n) (λ v d. d.in_variables.0 ∙ sym e) vs
    are.generates.members

module _ {K : Type 0} {ring : RingOf K} {inverse : K
    → K} {numbers : Numbering K} {arr : Arrangement K} {mult : List ℕ}
    {vs : List (Vector K)} {degrees : List ℕ} (field : IsField ring inverse) (numbering : IsNumbering ring numbers)
    (lawful : IsArrangement ring numbers arr) (are : AreMinimalGenerators ring arr mult vs degrees) where
  has : HasGenerators ring inverse numbers arr mult vs
  has = record { field = field; numbering = numbering; lawful = lawful; generates = are.generates }

  abbrev D : ℕ → ℕ
  D i = slice_index_or degrees i 0

  graded : (i : ℕ) → i < length vs → IsGraded (replicate arr.dim 0) (D i) (slice_index_or vs i [])
  graded i l = homogeneous-graded ring arr.dim (D i) (slice_index_or vs i []) (are.have_degrees.homogeneous i l)

  rises : (i j : ℕ) → i ≤ j → j < length vs → D i ≤ D j
  rises i j l m = let one = are.have_degrees.one_each in are.in_order i j 0 l (omega (arith, one, m))

  -- As many as the dimension are a basis.
  pub generators-basis : length vs ≡ arr.dim → IsHomogeneousBasis ring arr.dim (IsLogarithmic ring arr mult) vs
  generators-basis e = record {
    generates = are.generates;
    homogeneous = λ i d l.
        let h = are.have_degrees.homogeneous i l in
        (D i, subst (IsHomogeneousVector ring (D i)) (get_or_default vs i [] d l) h);
    independent = generators-independent has e;
  }

  -- Else the arrangement is not free, and they are more.
  pub generators-not_free : length vs ≢ arr.dim → (¬ (IsFreeArrangement ring arr mult)) × (arr.dim < length vs)
  generators-not_free n =
      let enough = generators-enough has in (
        λ free. (let few = generators-few has D graded rises are.irredundant free in n (omega (arith, enough, few))),
        omega (arith, enough, n),
      )

  -- ---- the resolution of one map

  abbrev first : Matrix (Poly K)
  first = record { cols = arr.dim; rows = vs }

  abbrev pub one_map : Resolution K
  one_map = record { maps = record { cols = arr.dim; rows = vs } ∷ []; degrees = degrees ∷ [] }

  abbrev P : RingOf (Poly K)
  P = poly_ring ring

  in-variables : All (IsVectorInVariables ring arr.dim arr.dim) vs
  in-variables = All-weaker (IsLogarithmic ring arr mult) (IsVectorInVariables ring arr.dim arr.dim)
      (λ v d. d.in_variables) vs are.generates.members

  vectors : All (IsVector ring arr.dim) vs
  vectors = All-weaker (IsVectorInVariables ring arr.dim arr.dim) (IsVector ring arr.dim)
      (λ v h. (h.0, All-weaker (IsInVariables ring arr.dim) (IsPoly ring) (λ p f. f.0) v h.1)) vs in-variables

  one-maps : AreMaps (poly_ring ring) (first ∷ [])
  one-maps = record {
    matrices = All-cons (IsMatrix P) first [] vectors (All-nil (IsMatrix P));
    composable = λ k l. absurd (omega (arith, l));
  }

  module _ (e : length vs ≡ arr.dim) where
    last : (k : ℕ) → suc k ≡ 1 → AreIndependent P (map_at (first ∷ []) k).cols (map_at (first ∷ []) k).rows
    last zero q = generators-independent has e
    last (suc k) q = absurd (omega (arith, q))

    one-exact : IsExact (poly_ring ring) (first ∷ [])
    one-exact = record { inside = λ k l. absurd (omega (arith, l)); last = last }

    homogeneous : (k : ℕ) → k < 1
        → HasDegrees (map_at (first ∷ []) k) (column_degrees one_map k) (row_degrees one_map k)
    homogeneous zero l = record { one_each = are.have_degrees.one_each; homogeneous = graded }
    homogeneous (suc k) l = absurd (omega (arith, l))

    one-resolution : IsResolution ring vs one_map
    one-resolution = record {
      some_map = omega arith;
      first = refl;
      some_row = All-cons (λ m. 1 ≤ length m.rows) first [] (let low = lawful.dim_low in omega (arith, low, e))
          (All-nil (λ (m : Matrix (Poly K)). 1 ≤ length m.rows));
      maps = one-maps;
      exact = one-exact;
      one_each = refl;
      homogeneous = homogeneous;
    }

    one-frame : IsFrame ring one_map
    one-frame = record {
      resolution = one-resolution;
      variables =
          let V : Matrix (Poly K) → Type 0 = λ m. All (IsVectorInVariables ring arr.dim m.cols) m.rows in
          All-cons V first [] in-variables (All-nil V);
      low = let L : List ℕ → Type 0 = All (λ d. d ≤ max_degree) in All-cons L degrees [] are.low (All-nil L);
    }

    one-minimal : IsMinimal ring (first ∷ [])
    one-minimal = record {
      no_constant = λ k i j c l v q. absurd (omega (arith, l));
      no_redundant_row = are.irredundant;
    }

    one_map-minimal : IsMinimalResolution ring one_map
    one_map-minimal = record {
      frame = one-frame;
      minimal = one-minimal;
      in_order = All-cons IsNonDecreasing degrees [] are.in_order (All-nil IsNonDecreasing);
    }

    -- As many as the dimension are the rows of their minimal resolution.
    pub generators-resolution : {complex maps : List (Matrix (Poly K))} {ds : List (List ℕ)} {n : ℕ} → complex ≡ maps
        → maps ≡ record { cols = n; rows = vs } ∷ [] → n ≡ arr.dim → ds ≡ degrees ∷ []
        → IsMinimalResolution ring (record { maps = complex; degrees = ds })
    generators-resolution {complex} {maps} {ds} {n} c f d g =
        let same : complex ≡ first ∷ [] = c ∙ f ∙ ap (λ w. record { cols = w; rows = vs } ∷ []) d in
        subst (IsMinimalResolution ring) (λ i. record { maps = sym same i; degrees = sym g i }) one_map-minimal
