-- Logarithmic derivations, over plain lists of forms and multiplicities.
use Rattle.std.specs.Prelude.{◌≡◌, ℕ, List, map, length, All, Some, slice_get}
use Rattle.hp_algebra.specs.Ring.{RingOf, dot_of}
use Rattle.hp_poly.specs.Polynomials.{Poly, poly_ring, poly_times, constant, form_power, IsInVariables}
use Rattle.hp_module.specs.Vectors.{Vector}

module _ {F : Type 0} (ring : RingOf F) where
  -- a vector in whose entries only x_1, .., x_l occur
  abbrev pub IsVectorInVariables : ℕ → ℕ → Vector F → Type 0
  IsVectorInVariables l width v = (length v ≡ width) × All (IsInVariables ring l) v

  -- a_1 θ_1 + .. + a_l θ_l
  abbrev pub applied : List F → Vector F → Poly F
  applied a theta = dot_of (poly_ring ring) (map (constant ring) a) theta

  -- θ is in D(A, m): it has l entries, in the first l variables, and for each form a of multiplicity m the sum of the
  -- a_j θ_j is a multiple of the m-th power of the form.
  pub record IsDerivation (l : ℕ) (forms : List (List F)) (mult : List ℕ) (theta : Vector F) : Type 0 where
    pub in_variables : IsVectorInVariables l l theta
    pub tangent : (i : ℕ) (a : List F) (m : ℕ) → slice_get forms i ≡ Some a → slice_get mult i ≡ Some m
        → (q : Poly F) × IsInVariables ring l q × (applied a theta ≡ poly_times ring (form_power ring a m) q)
