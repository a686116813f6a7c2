-- The Orlik-Solomon ideal of an arrangement, congruence modulo it, and normal forms.
use Rattle.std.specs.Prelude.{◌≡◌, List, [], ◌∷◌, length, map, zip, All, IsTrue}
use Rattle.hp_lists.specs.Lists.{one_to}
use Rattle.hp_algebra.specs.Ring.{RingOf, Numbering}
use Rattle.hp_sets.specs.Sets.{Set, IsSetWithin}
use Rattle.hp_arr.specs.Arrangement.{Arrangement}
use Rattle.hp_arr.specs.Flats.{is_dependent}
use Rattle.hp_arr.specs.Circuits.{is_nbc}
use Rattle.hp_exterior.specs.Exterior.{Ext, IsExtWithin, ext_plus, ext_neg, monomial, wedge, boundary}

module _ {K : Type 0} (ring : RingOf K) where
  -- the sum of a list of elements
  abbrev pub ext_sum : List (Ext K) → Ext K
  ext_sum [] = []
  ext_sum (x ∷ xs) = ext_plus ring x (ext_sum xs)

  -- x - y
  abbrev pub ext_minus : Ext K → Ext K → Ext K
  ext_minus x y = ext_plus ring x (ext_neg ring y)

  -- c x
  abbrev pub multiple : K → Ext K → Ext K
  multiple c x = wedge ring (monomial ring c []) x

  -- e_S
  abbrev pub basis_element : Set → Ext K
  basis_element s = monomial ring ring.one s

  -- x ∧ ∂ e_C
  abbrev pub ideal_term : Ext K × Set → Ext K
  ideal_term t = wedge ring t.0 (boundary ring (basis_element t.1))

module _ {K : Type 0} (ring : RingOf K) (numbers : Numbering K) (arr : Arrangement K) where
  -- an element of the exterior algebra on e_1 .. e_n
  abbrev pub IsElement : Ext K → Type 0
  IsElement x = IsExtWithin ring (length arr.forms) x

  -- a dependent set of hyperplanes
  abbrev pub IsDependentSet : Set → Type 0
  IsDependentSet s = IsSetWithin (length arr.forms) s × IsTrue (is_dependent ring numbers arr s)

  -- x is in the Orlik-Solomon ideal I(A): it is a finite sum of terms y ∧ ∂ e_C with C dependent
  pub record InIdeal (x : Ext K) : Type 0 where
    pub terms : List (Ext K × Set)
    pub factors : All (λ t. IsElement t.0) terms
    pub dependent : All (λ t. IsDependentSet t.1) terms
    pub is_sum : x ≡ ext_sum ring (map (ideal_term ring) terms)

  -- x and y are congruent modulo the ideal
  abbrev pub IsCongruent : Ext K → Ext K → Type 0
  IsCongruent x y = InIdeal (ext_minus ring x y)

  -- no set of x contains a broken circuit
  abbrev pub IsSupportedOnNbc : Ext K → Type 0
  IsSupportedOnNbc x = All (λ t. IsTrue (is_nbc ring numbers arr t.0)) x

  -- r is the normal form of x: it is congruent to x, and its sets contain no broken circuit
  pub record IsNormalForm (x r : Ext K) : Type 0 where
    pub element : IsElement r
    pub reduced : IsSupportedOnNbc r
    pub congruent : IsCongruent x r

  -- the element of degree one with these weights: the sum of w_i e_i
  abbrev pub one_form : List K → Ext K
  one_form weights = ext_sum ring (map (λ t. monomial ring t.0 (t.1 ∷ [])) (zip weights (one_to (length arr.forms))))
