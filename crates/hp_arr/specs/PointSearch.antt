-- Words of the search for the least point off, which finds one coordinate after another.
use Rattle.std.specs.Prelude.{◌≡◌, ℕ, ◌<◌, List, [], ◌∷◌, ◌++◌, All, length, take, drop}
use Rattle.hp_algebra.specs.Ring.{RingOf, Numbering, dot_of}
use Rattle.hp_algebra.specs.Rows.{entry}

module _ {K : Type 0} (ring : RingOf K) where
  -- the constant in front, then the coefficients
  abbrev pub constant_first : ℕ → List K → List K
  constant_first dim row = entry ring row dim ∷ take dim row

  -- the form is zero at the prefix and has no coefficient behind it, so it is zero at every point that begins so
  pub record IsClosed (prefix form : List K) : Type 0 where
    pub value : dot_of ring form prefix ≡ ring.zero
    pub rest : All (λ c. c ≡ ring.zero) (drop (length prefix) form)

  -- no form is closed
  abbrev pub NoneClosed : List K → List (List K) → Type 0
  NoneClosed prefix forms = All (λ form. ¬ (IsClosed prefix form)) forms

  -- the forms and the prefix have values, and each form has more of them than the prefix
  pub record HasRoom (prefix : List K) (forms : List (List K)) : Type 0 where
    pub values : All (All ring.IsValue) forms
    pub prefix_values : All ring.IsValue prefix
    pub longer : All (λ form. length prefix < length form) forms

-- the least value that closes no form
pub record IsNext {K : Type 0} (ring : RingOf K) (numbers : Numbering K) (prefix : List K) (forms : List (List K)) (v : K) : Type 0 where
  pub value : ring.IsValue v
  pub none_closed : NoneClosed ring (prefix ++ v ∷ []) forms
  pub least : (w : K) → ring.IsValue w → numbers.place w < numbers.place v → ¬ (NoneClosed ring (prefix ++ w ∷ []) forms)
