-- Rows of critical pairs that are read one at a time, and the pivots of their echelon form.
use Rattle.std.specs.Prelude.{◌≡◌, ℕ, ◌+◌, ◌-◌, ◌<◌, ◌≤◌, List, [], ◌∷◌, length, All, Contains, slice_index_or}
use Rattle.std.proofs.lemmas.Bool.{cases_lt}
use Rattle.std.proofs.lemmas.List.{get_or_default, length-map}
use Rattle.std.proofs.lemmas.List.FromFn.{length-map-range_with_len}
use Rattle.std.proofs.lemmas.List.Elements.{All-cons, All-contains, All-nil}
use mathlib.Core.Logic.{inl, inr}
use mathlib.Core.Path.{ap, ◌∙◌, subst}
use native.Mathlib.Omega.{arith}
use Rattle.hp_algebra.specs.Ring.{RingOf}
use Rattle.hp_lists.proofs.Members.{Contains-here, Contains-later}
use Rattle.hp_linear.specs.Echelon.{rows_of}
use Rattle.hp_linear.specs.GrowingForms.{GrowingForm, IsFormOf}
use Rattle.hp_linear.specs.Matrices.{Matrix, IsEchelonForm}
use Rattle.hp_module.specs.FreeModules.{FreeModule, coefficient_at}
use Rattle.hp_module.specs.Leads.{WithLeads}
use Rattle.hp_module.specs.ReducedBases.{Basis}
use Rattle.hp_graded.specs.RelationConstants.{ArePairRows, IsCovering, IsDegreeRange, IsPairOf, IsPairRow, degree_at, falling, unit}
use Rattle.hp_graded.proofs.BasisMembers.{basis-apart, basis-is_groebner, basis-monic_at, basis-plain, basis-rising, basis_lawful, basis_module}
use Rattle.hp_graded.proofs.PivotMembers.{pivot_full, pivot_generated}
use Rattle.hp_der.specs.BasisSettings.{ArePivotsOf, IsPrepared, Prepared, led_by}
use Rattle.hp_der.specs.CoveringPairs.{AreCoveringPairs}

module _ {F : Type 0} (M : FreeModule F) (s : WithLeads F) (start stop : ℕ) where
  abbrev FromPair : List F → Type 0
  FromPair row = (j i : ℕ) × IsPairOf s (degree_at s start) j i × IsPairRow M s start stop j i row

  -- where the pair has the degree of the range, one of the rows is its own
  abbrev pub HasRow : List (List F) → ℕ → ℕ → Type 0
  HasRow rows j i = IsPairOf s (degree_at s start) j i → (row : List F) × Contains rows row × IsPairRow M s start stop j i row

  -- The form is that of rows of pairs of the degree of the range, among them those of the first k of these pairs.
  pub record IsRead (pairs : List (ℕ × ℕ)) (k : ℕ) (form : GrowingForm F) : Type 0 where
    pub cols : form.cols ≡ stop - start
    pub rows : List (List F)
    pub each : All (λ row. (j i : ℕ) × IsPairOf s (degree_at s start) j i × IsPairRow M s start stop j i row) rows
    pub form_of : IsFormOf M.ring form rows
    pub listed : (h : ℕ) (x : ℕ × ℕ) → h < k → HasRow rows (slice_index_or pairs h x).0 (slice_index_or pairs h x).1

  pub row-length : (j i : ℕ) {row : List F} → IsPairRow M s start stop j i row → length row ≡ stop - start
  row-length j i p =
      ap length p.3
      ∙ length-map (falling start stop) (λ j. coefficient_at M.ring p.0 (unit j)) ∙ length-map-range_with_len (λ c. stop - (c + 1)) 0 (stop - start)

  pub read-begin : (pairs : List (ℕ × ℕ)) {form : GrowingForm F} → form.cols ≡ stop - start → IsFormOf M.ring form [] → IsRead pairs 0 form
  read-begin pairs cols of = record {
    cols = cols;
    rows = [];
    each = All-nil FromPair;
    form_of = of;
    listed = λ h x l. absurd (omega (arith, l));
  }

  module _ {pairs : List (ℕ × ℕ)} {k : ℕ} {form : GrowingForm F} (r : IsRead pairs k form) where
    -- the pair at place k, read from the list
    module _ {j i : ℕ} (inside : k < length pairs) (at : (j, i) ≡ slice_index_or pairs k (j, i)) where
      listed-more : (rows : List (List F)) → ((h : ℕ) (x : ℕ × ℕ) → h < k → HasRow rows (slice_index_or pairs h x).0 (slice_index_or pairs h x).1)
          → HasRow rows j i → (h : ℕ) (x : ℕ × ℕ) → h < k + 1 → HasRow rows (slice_index_or pairs h x).0 (slice_index_or pairs h x).1
      listed-more rows before here h x l = elim (cases_lt h k) [
        | inl m ↦ before h x m
        | inr g ↦
            let e : k ≡ h = omega (arith, g, l) in
            let read : (j, i) ≡ slice_index_or pairs h x = at ∙ get_or_default pairs k (j, i) x inside ∙ ap (λ n. slice_index_or pairs n x) e in
            subst (λ (y : ℕ × ℕ). HasRow rows y.0 y.1) read here
      ]

      pub read-skip : ¬ (IsPairOf s (degree_at s start) j i) → IsRead pairs (k + 1) form
      read-skip not = record {
        cols = r.cols;
        rows = r.rows;
        each = r.each;
        form_of = r.form_of;
        listed = listed-more r.rows r.listed (λ q. absurd (not q));
      }

      pub read-row : IsPairOf s (degree_at s start) j i → {row : List F} → IsPairRow M s start stop j i row → {after : GrowingForm F}
          → after.cols ≡ form.cols → ((rows : List (List F)) → IsFormOf M.ring form rows → IsFormOf M.ring after (row ∷ rows))
          → IsRead pairs (k + 1) after
      read-row pair {row} is {after} cols more = record {
        cols = cols ∙ r.cols;
        rows = row ∷ r.rows;
        each = All-cons FromPair row r.rows (j, i, pair, is) r.each;
        form_of = more r.rows r.form_of;
        listed = listed-more (row ∷ r.rows) (λ h x l q. let f = r.listed h x l q in (f.0, Contains-later row r.rows f.0 f.1, f.2)) (λ q. (row, Contains-here row r.rows, is));
      }

    pub read-rows : ArePairRows M s start stop (HasRow r.rows) r.rows
    read-rows = record { each = r.each; all = λ j i q h. h q }

    pub read-covering : length pairs ≤ k → length s.leads ≡ length s.members → AreCoveringPairs s.leads (length s.members) pairs → IsCovering s (HasRow r.rows)
    read-covering last same_length cover j i l h same =
        let c = cover.covering j i h (record { earlier = l; within = omega (arith, h, same_length); same_component = same }) in
        record {
          place = c.0;
          earlier = c.2.pair.earlier;
          same_component = c.2.pair.same_component;
          listed = All-contains (λ (y : ℕ × ℕ). HasRow r.rows y.0 y.1) pairs (c.0, i) (λ n x m. r.listed n x (omega (arith, m, last))) c.1;
          divides = c.2.divides;
        }

-- The pivots are those of the members that the members before them generate, where the pairs with rows cover all pairs.
pub pivots-covering : {F : Type 0} {ring : RingOf F} {inverse : F → F} {b : Basis F} {p : Prepared F} → IsPrepared ring inverse b p
    → {start stop : ℕ} → IsDegreeRange (led_by b p.leads) start stop → (P : ℕ → ℕ → Type 0) → IsCovering (led_by b p.leads) P
    → {rows : List (List F)} → ArePairRows (basis_module ring inverse b) (led_by b p.leads) start stop P rows → {e : Matrix F} {pivots : List ℕ}
    → IsEchelonForm ring (record { cols = stop - start; rows = rows }) e pivots → ArePivotsOf ring b start stop pivots
pivots-covering {F} {ring} {inverse} {b} {p} is {start} {stop} range P covering {rows} pairs {e} {pivots} form i low high =
    pivot_generated (basis_lawful is.field b is.basis) is.led (basis-monic_at is.field b is.basis p.leads is.led)
    (basis-apart is.field b is.basis p.leads is.led) (basis-is_groebner is.field b is.basis p.leads is.led)
    (basis-plain is.field b is.basis) (basis-rising is.field b is.basis p.leads is.led) start stop range P rows pairs e pivots form i low high covering

-- Where each column is a pivot, whichever pairs have rows, the members before generate each member.
pub pivots-full : {F : Type 0} {ring : RingOf F} {inverse : F → F} {b : Basis F} {p : Prepared F} → IsPrepared ring inverse b p
    → {start stop : ℕ} → IsDegreeRange (led_by b p.leads) start stop → (P : ℕ → ℕ → Type 0)
    → {rows : List (List F)} → ArePairRows (basis_module ring inverse b) (led_by b p.leads) start stop P rows → {e : Matrix F} {pivots : List ℕ}
    → IsEchelonForm ring (record { cols = stop - start; rows = rows }) e pivots
    → ((c : ℕ) → 1 ≤ c → c ≤ stop - start → Contains pivots c) → ArePivotsOf ring b start stop pivots
pivots-full {F} {ring} {inverse} {b} {p} is {start} {stop} range P {rows} pairs {e} {pivots} form full i low high =
    pivot_full (basis_lawful is.field b is.basis) is.led (basis-monic_at is.field b is.basis p.leads is.led)
    (basis-apart is.field b is.basis p.leads is.led) (basis-is_groebner is.field b is.basis p.leads is.led)
    (basis-plain is.field b is.basis) (basis-rising is.field b is.basis p.leads is.led) start stop range P rows pairs e pivots form i low high
    (full (stop - i) (omega (arith, high)) (omega (arith, low, high)))

module _ {F : Type 0} {ring : RingOf F} {inverse : F → F} {b : Basis F} {p : Prepared F} (is : IsPrepared ring inverse b p)
    {start stop : ℕ} (range : IsDegreeRange (led_by b p.leads) start stop) {pairs : List (ℕ × ℕ)} {k : ℕ} {form : GrowingForm F}
    (r : IsRead (basis_module ring inverse b) (led_by b p.leads) start stop pairs k form) {pivots : List ℕ}
    (echelon : (rows : List (List F)) → IsFormOf ring form rows
    → IsEchelonForm ring (record { cols = form.cols; rows = rows }) (record { cols = form.cols; rows = rows_of ring form.kept }) pivots) where
  of-rows : IsEchelonForm ring (record { cols = stop - start; rows = r.rows }) (record { cols = form.cols; rows = rows_of ring form.kept }) pivots
  of-rows = subst (λ n. IsEchelonForm ring (record { cols = n; rows = r.rows }) (record { cols = form.cols; rows = rows_of ring form.kept }) pivots) r.cols
      (echelon r.rows r.form_of)

  -- all pairs were read
  pub pivots-last : length pairs ≤ k → AreCoveringPairs p.leads (length b.members) pairs → ArePivotsOf ring b start stop pivots
  pivots-last last cover =
      pivots-covering is range (HasRow (basis_module ring inverse b) (led_by b p.leads) start stop r.rows)
      (read-covering (basis_module ring inverse b) (led_by b p.leads) start stop r last is.led.same_length cover)
      (read-rows (basis_module ring inverse b) (led_by b p.leads) start stop r) of-rows

  -- each column has a pivot
  pub pivots-early : ((c : ℕ) → 1 ≤ c → c ≤ form.cols → Contains pivots c) → ArePivotsOf ring b start stop pivots
  pivots-early full =
      pivots-full is range (HasRow (basis_module ring inverse b) (led_by b p.leads) start stop r.rows)
      (read-rows (basis_module ring inverse b) (led_by b p.leads) start stop r) of-rows (λ c low high. full c low (omega (arith, high, r.cols)))
