-- Row operations: a row less the multiple of another that makes it zero at a place.
use Rattle.std.specs.Prelude.{ℕ, List}
use Rattle.hp_algebra.specs.Ring.{RingOf}
use Rattle.hp_algebra.specs.Rows.{entry, row_plus, row_scale}

module _ {K : Type 0} (ring : RingOf K) where
  -- w - c v
  abbrev pub less_multiple : K → List K → List K → List K
  less_multiple c v w = row_plus ring w (row_scale ring (ring.neg c) v)

  module _ (inverse : K → K) where
    -- w_q / v_q
    abbrev pub share : ℕ → List K → List K → K
    share q v w = ring.mul (entry ring w q) (inverse (entry ring v q))

    -- w - (w_q / v_q) v
    abbrev pub reduced : ℕ → List K → List K → List K
    reduced q v w = less_multiple (share q v w) v w
