-- The cohomology of the Orlik-Solomon algebra under left multiplication by an element of degree one: the Aomoto complex.
use Rattle.std.specs.Prelude.{◌≡◌, ℕ, ◌+◌, ◌<◌, ◌≤◌, List, map, zip, length, All, slice_index}
use Rattle.hp_algebra.specs.Ring.{RingOf, Numbering}
use Rattle.hp_arr.specs.Arrangement.{Arrangement}
use Rattle.hp_arr.specs.Circuits.{nbc_sets_of_size}
use Rattle.hp_arr.specs.Flats.{total_rank}
use Rattle.hp_linear.specs.Spaces.{AreCoefficients}
use Rattle.hp_exterior.specs.Exterior.{Ext, IsOfDegree, wedge}
use Rattle.hp_os.specs.OrlikSolomon.{IsElement, InIdeal, IsCongruent, ext_sum, ext_minus, multiple, one_form}

module _ {K : Type 0} (ring : RingOf K) where
  -- the combination of elements with these coefficients
  abbrev pub ext_combination : List K → List (Ext K) → Ext K
  ext_combination cs xs = ext_sum ring (map (λ t. multiple ring t.0 t.1) (zip cs xs))

module _ {K : Type 0} (ring : RingOf K) (numbers : Numbering K) (arr : Arrangement K) where
  -- an element of degree k
  abbrev pub IsChain : ℕ → Ext K → Type 0
  IsChain k x = IsElement ring numbers arr x × IsOfDegree ring k x

  module _ (weights : List K) (k : ℕ) where
    -- x is a cocycle: ω ∧ x is in the ideal, where ω is the sum of w_i e_i
    abbrev pub IsCocycle : Ext K → Type 0
    IsCocycle x = IsChain k x × InIdeal ring numbers arr (wedge ring (one_form ring numbers arr weights) x)

    -- x is a coboundary: it is congruent to ω ∧ y for some y of degree k - 1. In degree 0 there is only y = 0
    pub record IsCoboundary (x : Ext K) : Type 0 where
      pub chain : IsChain k x
      pub before : Ext K
      pub element : IsElement ring numbers arr before
      pub degree : All (λ t. length t.0 + 1 ≡ k) before
      pub congruent : IsCongruent ring numbers arr x (wedge ring (one_form ring numbers arr weights) before)

    -- b is the dimension of the cohomology of degree k, cocycles modulo coboundaries: there are b cocycles that are
    -- independent modulo coboundaries, and each cocycle is a combination of them plus a coboundary
    pub record IsCohomologyDimension (b : ℕ) : Type 0 where
      pub cocycles : List (Ext K)
      pub how_many : length cocycles ≡ b
      pub are_cocycles : All IsCocycle cocycles
      pub independent : (cs : List K) → AreCoefficients ring b cs → IsCoboundary (ext_combination ring cs cocycles)
          → All (λ c. c ≡ ring.zero) cs
      pub spanning : (x : Ext K) → IsCocycle x
          → (cs : List K) × AreCoefficients ring b cs × IsCoboundary (ext_minus ring x (ext_combination ring cs cocycles))

  -- so many numbers: number k is the dimension of the cohomology of degree k
  pub record AreCohomologyDimensions (weights : List K) (many : ℕ) (dimensions : List ℕ) : Type 0 where
    pub many_are : length dimensions ≡ many
    pub each : (k : ℕ) → k < many → IsCohomologyDimension weights k (slice_index dimensions k)

  -- the dimensions for each degree from 0 to the rank
  abbrev pub AreAomotoNumbers : List K → List ℕ → Type 0
  AreAomotoNumbers weights dimensions = AreCohomologyDimensions weights (total_rank ring numbers arr + 1) dimensions

  -- for some k there are more than so many sets of size k that contain no broken circuit
  abbrev pub HasManyNbcSets : ℕ → Type 0
  HasManyNbcSets most = (k : ℕ) × (most < length (nbc_sets_of_size ring numbers arr k))

  -- and for no k
  abbrev pub HasFewNbcSets : ℕ → Type 0
  HasFewNbcSets most = (k : ℕ) → length (nbc_sets_of_size ring numbers arr k) ≤ most
