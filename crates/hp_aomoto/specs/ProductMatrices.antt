-- The matrices of left multiplication by an element of degree one, on the basis of the sets without broken circuit.
use Rattle.std.specs.Prelude.{◌≡◌, ℕ, zero, suc, List, map, length}
use Rattle.std.specs.List.{AllZip}
use Rattle.hp_algebra.specs.Ring.{RingOf, Numbering}
use Rattle.hp_sets.specs.Sets.{Set}
use Rattle.hp_arr.specs.Arrangement.{Arrangement}
use Rattle.hp_arr.specs.Circuits.{nbc_sets_of_size}
use Rattle.hp_linear.specs.Matrices.{Matrix, IsRank}
use Rattle.hp_exterior.specs.Exterior.{Ext, wedge, ext_coefficient}
use Rattle.hp_os.specs.OrlikSolomon.{IsNormalForm, basis_element, one_form}

module _ {K : Type 0} (ring : RingOf K) (numbers : Numbering K) (arr : Arrangement K) (weights : List K) where
  -- the coefficients of the normal form of ω ∧ e_S at the sets without broken circuit of size k + 1
  abbrev pub IsProductRow : ℕ → Set → List K → Type 0
  IsProductRow k s row = (r : Ext K)
      × IsNormalForm ring numbers arr (wedge ring (one_form ring numbers arr weights) (basis_element ring s)) r
      × (row ≡ map (λ t. ext_coefficient ring r t) (nbc_sets_of_size ring numbers arr (suc k)))

  -- such a row for each set without broken circuit of size k, in order
  pub record IsProductMatrix (k : ℕ) (m : Matrix K) : Type 0 where
    pub cols : m.cols ≡ length (nbc_sets_of_size ring numbers arr (suc k))
    pub rows : AllZip (IsProductRow k) (nbc_sets_of_size ring numbers arr k) m.rows

  -- r is the rank of the matrix of degree k - 1, and 0 where there is none
  abbrev pub IsRankBefore : ℕ → ℕ → Type 0
  IsRankBefore zero r = r ≡ 0
  IsRankBefore (suc k) r = (m : Matrix K) × IsProductMatrix k m × IsRank ring m r
