-- The first and the last place at which a row is not zero.
use Rattle.std.specs.Prelude.{◌≡◌, ◌≢◌, ℕ, zero, suc, ◌<◌, true, false, not, ◌&&◌, List, [], ◌∷◌, length, All}
use Rattle.std.proofs.Common.{◌⊎◌, get_or, sym, ap, ◌∙◌, inl, inr, arith}
use Rattle.std.proofs.lemmas.Bool.{false≢true, cases_Bool, and_from}
use Rattle.std.proofs.lemmas.List.{get_or_read}
use Rattle.std.proofs.lemmas.List.Elements.{All-head, All-tail}
use Rattle.hp_algebra.specs.Ring.{RingOf, IsRing}
use Rattle.hp_algebra.specs.Rows.{entry, is_zero_row}
use Rattle.hp_lists.proofs.Firsts.{first-at, last-at}
use Rattle.hp_algebra.proofs.Rings.{zero_passes, nonzero_fails}
use Rattle.hp_algebra.proofs.Rows.{is_zero_row-at}
use Rattle.hp_arr.specs.Operations.{first_place, last_place}

module _ {K : Type 0} {ring : RingOf K} (laws : IsRing ring) where
  -- one place is not zero, and those before it are
  pub record IsFirstNonzero (row : List K) (k : ℕ) : Type 0 where
    pub within : k < length row
    pub nonzero : entry ring row k ≢ ring.zero
    pub zeros : (j : ℕ) → j < k → entry ring row j ≡ ring.zero

  -- one place is not zero, and those behind it are
  pub record IsLastNonzero (row : List K) (k : ℕ) : Type 0 where
    pub within : k < length row
    pub nonzero : entry ring row k ≢ ring.zero
    pub zeros : (j : ℕ) → k < j → j < length row → entry ring row j ≡ ring.zero

  module _ (row : List K) (values : All ring.IsValue row) (k : ℕ) where
    passes : k < length row → entry ring row k ≢ ring.zero → not (ring.is_zero (entry ring row k)) ≡ true
    passes within nonzero = ap not (nonzero_fails laws (entry ring row k) (values k ring.zero within) nonzero)

    fails : (h : ℕ) → entry ring row h ≡ ring.zero → not (ring.is_zero (entry ring row h)) ≡ false
    fails h e = ap not (zero_passes laws (entry ring row h) e)

    pub first_place-is : IsFirstNonzero row k → first_place ring row ≡ k
    first_place-is at =
        let within = at.within in
        first-at (λ j. not (ring.is_zero (entry ring row j))) 0 0 (length row) k (omega arith) (omega (arith, within)) (passes at.within at.nonzero)
        (λ h low high. fails h (at.zeros h high))

    pub last_place-is : IsLastNonzero row k → last_place ring row ≡ k
    last_place-is at =
        let within = at.within in
        last-at (λ j. not (ring.is_zero (entry ring row j))) 0 0 (length row) k (omega arith) (omega (arith, within)) (passes at.within at.nonzero)
        (λ h low high. fails h (at.zeros h low (omega arith)))

  -- a row that is not zero has a first and a last place that is not
  pub first_nonzero : (row : List K) → All ring.IsValue row → is_zero_row ring row ≡ false → (k : ℕ) × IsFirstNonzero row k
  first_nonzero [] v z = absurd (false≢true (sym z))
  first_nonzero (x ∷ row) v z =
      let vx = All-head ring.IsValue x row v in
      step (cases_Bool (ring.is_zero x)) (first_nonzero row (All-tail ring.IsValue x row v))
    where
      step : (ring.is_zero x ≡ true) ⊎ (ring.is_zero x ≡ false) → (is_zero_row ring row ≡ false → (k : ℕ) × IsFirstNonzero row k) → (k : ℕ) × IsFirstNonzero (x ∷ row) k
      step (inl e) later =
          let at = later (sym (ap (λ b. b && is_zero_row ring row) e) ∙ z) in
          let within = at.1.within in
          (suc at.0, record { within = omega (arith, within); nonzero = at.1.nonzero; zeros = before at.0 at.1.zeros })
        where
          before : (k : ℕ) → ((j : ℕ) → j < k → entry ring row j ≡ ring.zero) → (j : ℕ) → j < suc k → entry ring (x ∷ row) j ≡ ring.zero
          before k zeros zero h = (laws.zero_test x (All-head ring.IsValue x row v)).0 e
          before k zeros (suc j) h = zeros j (omega (arith, h))
      step (inr e) later = (zero, record { within = omega arith; nonzero = λ at. false≢true (sym e ∙ zero_passes laws x at); zeros = λ j h. absurd (omega (arith, h)) })

  pub last_nonzero : (row : List K) → All ring.IsValue row → is_zero_row ring row ≡ false → (k : ℕ) × IsLastNonzero row k
  last_nonzero [] v z = absurd (false≢true (sym z))
  last_nonzero (x ∷ row) v z =
      step (cases_Bool (is_zero_row ring row)) (last_nonzero row (All-tail ring.IsValue x row v))
    where
      none_behind : is_zero_row ring row ≡ true → (j : ℕ) → 0 < j → j < suc (length row) → entry ring (x ∷ row) j ≡ ring.zero
      none_behind e zero low h = absurd (omega (arith, low))
      none_behind e (suc j) low h = is_zero_row-at laws row (All-tail ring.IsValue x row v) e j (omega (arith, h))

      behind : (k : ℕ) → ((j : ℕ) → k < j → j < length row → entry ring row j ≡ ring.zero) → (j : ℕ) → suc k < j → j < suc (length row) → entry ring (x ∷ row) j ≡ ring.zero
      behind k zeros zero low h = absurd (omega (arith, low))
      behind k zeros (suc j) low h = zeros j (omega (arith, low)) (omega (arith, h))

      step : (is_zero_row ring row ≡ true) ⊎ (is_zero_row ring row ≡ false) → (is_zero_row ring row ≡ false → (k : ℕ) × IsLastNonzero row k) → (k : ℕ) × IsLastNonzero (x ∷ row) k
      step (inr e) later =
          let at = later e in
          let within = at.1.within in
          (suc at.0, record { within = omega (arith, within); nonzero = at.1.nonzero; zeros = behind at.0 at.1.zeros })
      step (inl e) later =
          let here : ring.is_zero x ≢ true = λ t. false≢true (sym z ∙ and_from _ _ t e) in
          (zero, record { within = omega arith; nonzero = λ at. here (zero_passes laws x at); zeros = none_behind e })

  module _ (row : List K) (values : All ring.IsValue row) (k : ℕ) where
    pub first_entry : IsFirstNonzero row k → entry ring row (first_place ring row) ≡ entry ring row k
    first_entry at = ap (entry ring row) (first_place-is row values k at)

    pub last_entry : IsLastNonzero row k → entry ring row (last_place ring row) ≡ entry ring row k
    last_entry at = ap (entry ring row) (last_place-is row values k at)

  -- an entry that is not zero, with zeros before it, is the first one, and with zeros behind it the last
  pub first-found : (row : List K) → All ring.IsValue row → (k : ℕ) (x : K) → k < length row → x ≡ get_or row k x → x ≢ ring.zero → ((j : ℕ) → j < k → entry ring row j ≡ ring.zero) → x ≡ entry ring row (first_place ring row)
  first-found row values k x within read nonzero zeros =
      let there : x ≡ entry ring row k = get_or_read row k x within read ring.zero in
      there ∙ sym (first_entry row values k (record { within = within; nonzero = λ e. nonzero (there ∙ e); zeros = zeros }))

  pub last-found : (row : List K) → All ring.IsValue row → (k : ℕ) (x : K) → k < length row → x ≡ get_or row k x → x ≢ ring.zero → ((j : ℕ) → k < j → j < length row → entry ring row j ≡ ring.zero) → (k ≡ last_place ring row) × (x ≡ entry ring row (last_place ring row))
  last-found row values k x within read nonzero zeros =
      let there : x ≡ entry ring row k = get_or_read row k x within read ring.zero in
      let at : IsLastNonzero row k = record { within = within; nonzero = λ e. nonzero (there ∙ e); zeros = zeros } in
      (sym (last_place-is row values k at), there ∙ sym (last_entry row values k at))

  -- a row that is not zero is not zero everywhere
  pub not_all_zero : (row : List K) → All ring.IsValue row → is_zero_row ring row ≡ false → ¬ ((j : ℕ) → j < length row → entry ring row j ≡ ring.zero)
  not_all_zero row values z zeros = let at = first_nonzero row values z in at.1.nonzero (zeros at.0 at.1.within)
